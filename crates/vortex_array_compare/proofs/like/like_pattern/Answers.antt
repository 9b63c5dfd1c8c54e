use Rattle.std.proofs.Common.{◌∙◌, length, refl}
use Rattle.vortex_array_types.specs.Truth.{is_like}
use Rattle.vortex_array_types.specs.declared.types.DType.TheVariants as dtype
use Rattle.vortex_array_types.specs.declared.scalar.Value.TheVariants as value
use Rattle.vortex_array_kinds.specs.StringValues.{strings_of}
use Rattle.vortex_array_kinds.specs.Validities.{nullability_of}
use Rattle.vortex_array_compare.proofs.Likes.{like-value, string-laws, text-kind, text-lists}
use Rattle.vortex_array_compare.proofs.Tested.{counted-with}
use Rattle.vortex_array_compare.proofs.like.like_pattern.Goals as goal

pub invariant_of-beside : goal.invariant_of-beside
invariant_of-beside c =
    let a = c.args.texts.now in
    record { texts_are = rw (c.lists.ensures.value, c.strings.ensures.value) (text-lists a.values (text-kind a.values.kind (nullability_of a.validity) c.requires.texts) (rw c.strings.ensures.value at c.lists.ensures.texts)) }

pub value_answers-requires : goal.value_answers-requires
value_answers-requires c =
    let a = c.args.texts.now in
    let is = (rw (c.lists.ensures.value, c.strings.ensures.value, c.new-pattern.ensures) at c.in_ok-bits.ensures) ∙ like-value a.values c.args.pattern.now (text-kind a.values.kind (nullability_of a.validity) c.requires.texts) in
    counted-with (λ text. is_like text (value.Utf8 c.args.pattern.now)) (strings_of a.values) (length a.values.lists) c.in_ok-bits.bits (string-laws.counted a.values) is

pub returns : goal.returns
returns c =
    let a = c.args.texts.now in
    c.in_ok-answers.ensures is_like (dtype.Utf8 c.args.nullability) (value.Utf8 c.args.pattern.now) refl
    ((rw (c.lists.ensures.value, c.strings.ensures.value, c.new-pattern.ensures) at c.in_ok-bits.ensures) ∙ like-value a.values c.args.pattern.now (text-kind a.values.kind (nullability_of a.validity) c.requires.texts))
