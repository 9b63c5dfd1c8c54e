-- The types of texts and of bytes differ by nothing but their nulls.
use Rattle.std.proofs.Common.{◌≡◌, refl}
use Rattle.vortex_array_types.specs.Widths.{with_nullability}
use Rattle.vortex_array_types.specs.declared.types.Nullability.{Nullability}
use Rattle.vortex_array_kinds.specs.StringValues.{string_type}
use Rattle.vortex_array_kinds.specs.declared.strings.StringKind.{StringKind}
use Rattle.vortex_array_kinds.specs.declared.strings.StringKind.TheVariants.{Utf8, Binary}

pub same_kind : (kind : StringKind) (m n : Nullability) → string_type kind n ≡ with_nullability n (string_type kind m)
same_kind Utf8 m n = refl
same_kind Binary m n = refl
