use Rattle.std.proofs.Common.{◌≡◌, false, not, sym, refl, [], ◌∷◌}
use Rattle.std.proofs.Common.{◌∙◌, ap, w32}
use Rattle.std.proofs.lemmas.Int.{to_z-of_z}
use Rattle.vortex_array_types.specs.declared.types.DType.TheVariants as dtype
use Rattle.vortex_array_children.specs.Children.{stands_for, width_of_number}
use Rattle.vortex_decimal_byte_parts.proofs.ReadParts.{one-read}
use Rattle.vortex_decimal_byte_parts.proofs.Told.{by-not}
use Rattle.vortex_decimal_byte_parts.proofs.reading.read_child.Goals as goal

pub returns-clause-ok : goal.returns-clause-ok
returns-clause-ok c =
    let a = c.args in
    let w = c.in-Some.width in
    let missed : not c.stands_for.result ≡ false = cc in
    one-read a.digits a.nulls a.len a.msp w (a.child ∷ []) a.child c.relabelled-part.result c.new.result refl (ap width_of_number (sym (to_z-of_z w32 a.msp c.ranges.msp)) ∙ c.in-Some.ensures.width.0)
    (by-not c.stands_for.result (stands_for (dtype.Primitive w a.nulls) a.len a.child) c.stands_for.ensures missed)
    c.relabelled-part.ensures.dtype c.relabelled-part.ensures.same c.new.ensures
