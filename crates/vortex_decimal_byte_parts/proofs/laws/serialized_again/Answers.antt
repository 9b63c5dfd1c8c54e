use Rattle.std.proofs.Common.{◌∙◌, ap, subst, sym, List}
use Rattle.std.specs.List.{AllZip}
use Rattle.vortex_array.specs.declared.arrays.Array.{Array}
use Rattle.vortex_array_children.specs.Children.{IsRelabelled}
use Rattle.vortex_decimal_byte_parts.specs.Serialized.{children_of}
use Rattle.vortex_decimal_byte_parts.proofs.SerializedAgain.{never-refused, same-parts}
use Rattle.vortex_decimal_byte_parts.proofs.laws.serialized_again.Goals as goal

pub returns-in-Ok : goal.returns-in-Ok
returns-in-Ok c =
    let p = c.args.parts.now in
    let q = c.in-Ok.again in
    let made = c.in-Ok.ensures.ok.made in
    same-parts p q c.lower_part-lower.ensures.parts c.lower_part-again_lower.ensures.parts (made.dtype ∙ c.dtype.ensures)
    (subst (λ (xs : List Array). AllZip IsRelabelled xs (children_of q)) (ap (λ v. v.items) c.into_parts-id.ensures.children ∙ c.in_ok-written.ensures.parts) made.parts)

pub memory_of-requires : goal.memory_of-requires
memory_of-requires c =
    never-refused c.args.parts.now c.len.result c.as_str.result.now c.as_slice.result.now c.into_parts-id.result.2.items c.dtype.result c.in-Err.error
    c.lower_part-lower.ensures.parts (sym c.len.ensures.msp)
    (c.as_str.ensures ∙ c.into_parts-id.ensures.id ∙ c.in_ok-written.ensures.named)
    (c.as_slice.ensures ∙ c.into_parts-id.ensures.metadata ∙ c.in_ok-written.ensures.told)
    (ap (λ v. v.items) c.into_parts-id.ensures.children ∙ c.in_ok-written.ensures.parts)
    c.dtype.ensures c.in-Err.ensures.err
