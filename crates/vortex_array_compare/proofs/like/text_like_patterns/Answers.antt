use Rattle.std.proofs.Common.{◌∙◌, Bool, length, refl}
use Rattle.vortex_array_types.specs.Truth.{is_like}
use Rattle.vortex_array_types.specs.declared.types.DType.TheVariants as dtype
use Rattle.vortex_array_types.specs.declared.scalar.Value.{Value}
use Rattle.vortex_array_types.specs.declared.scalar.Value.TheVariants as value
use Rattle.vortex_array_kinds.specs.Kinds.{string_column}
use Rattle.vortex_array_kinds.specs.StringValues.{strings_of}
use Rattle.vortex_array_kinds.specs.Validities.{nullability_of}
use Rattle.vortex_array_compare.specs.Repeated.{repeated}
use Rattle.vortex_array_compare.proofs.Likes.{string-laws, text-kind, text-lists, value-like}
use Rattle.vortex_array_compare.proofs.Tested.{counted-with, tested-turned}
use Rattle.vortex_array_compare.proofs.like.text_like_patterns.Goals as goal

pub invariant_of-beside : goal.invariant_of-beside
invariant_of-beside c =
    let b = c.args.patterns.now in
    record { patterns_are = rw (c.lists.ensures.value, c.strings.ensures.value) (text-lists b.values (text-kind b.values.kind (nullability_of b.validity) c.requires.patterns) (rw c.strings.ensures.value at c.lists.ensures.texts)) }

pub value_answers-requires : goal.value_answers-requires
value_answers-requires c =
    let b = c.args.patterns.now in
    let is = (rw (c.lists.ensures.value, c.strings.ensures.value) at c.in_ok-bits.ensures) ∙ value-like c.args.text.now b.values (text-kind b.values.kind (nullability_of b.validity) c.requires.patterns) in
    counted-with (is_like (value.Utf8 c.args.text.now)) (strings_of b.values) (length b.values.lists) c.in_ok-bits.bits (string-laws.counted b.values) is

pub returns : goal.returns
returns c =
    let b = c.args.patterns.now in
    let text = value.Utf8 c.args.text.now in
    let kind = dtype.Utf8 c.args.nullability in
    let turned : Value → Value → Bool = λ pattern x. is_like x pattern in
    c.in_ok-answers.ensures turned kind text refl
    ((rw (c.lists.ensures.value, c.strings.ensures.value) at c.in_ok-bits.ensures) ∙ value-like c.args.text.now b.values (text-kind b.values.kind (nullability_of b.validity) c.requires.patterns))
    ∙ tested-turned turned is_like (λ x y. refl) (repeated kind text (length (string_column b).rows)) (string_column b)
