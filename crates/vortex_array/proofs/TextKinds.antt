-- Values of texts.
use Rattle.std.proofs.Common.{◌≡◌, Bool, true, false, refl, sym, ◌∙◌, Some}
use Rattle.std.specs.Prelude.{IsTrue}
use Rattle.std.proofs.lemmas.Bool.{false≢true}
use Rattle.vortex_array_types.specs.Row.{fits_type}
use Rattle.vortex_array_types.specs.declared.types.DType.{DType}
use Rattle.vortex_array_types.specs.declared.types.DType.TheVariants as dtype
use Rattle.vortex_array_types.specs.declared.scalar.Value.{Value}
use Rattle.vortex_array_types.specs.declared.scalar.Value.TheVariants as value
use Rattle.vortex_array_kinds.specs.StringValues.{is_text_type}

-- the value is a text
abbrev pub is_text : Value → Bool
is_text (value.Utf8 t) = true
is_text _ = false

-- only texts fit a type of texts
texts_fit : (t : DType) (v : Value) → IsTrue (is_text_type t) → IsTrue (fits_type t (Some v)) → IsTrue (is_text v)
texts_fit (dtype.Utf8 n) (value.Utf8 b) k h = refl
texts_fit (dtype.Utf8 n) v k h = absurd (cc h)
texts_fit t v k h = absurd (cc k)

-- what is no text does not fit such a type
pub no-text : (t : DType) (v : Value) → IsTrue (is_text_type t) → IsTrue (fits_type t (Some v)) → is_text v ≡ false → ⊥
no-text t v k h e = false≢true (sym e ∙ texts_fit t v k h)
