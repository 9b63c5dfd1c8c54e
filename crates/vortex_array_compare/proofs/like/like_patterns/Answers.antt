use Rattle.std.proofs.Common.{◌∙◌, length, sym}
use Rattle.vortex_array_types.specs.Truth.{is_like}
use Rattle.vortex_array_kinds.specs.StringValues.{strings_of}
use Rattle.vortex_array_kinds.specs.Validities.{nullability_of}
use Rattle.vortex_array_compare.proofs.Likes.{like-values, string-laws, text-kind, text-lists}
use Rattle.vortex_array_compare.proofs.Tested.{counted-each, same-count}
use Rattle.vortex_array_compare.proofs.like.like_patterns.Goals as goal

pub invariant_of-pairs : goal.invariant_of-pairs
invariant_of-pairs c =
    let a = c.args.texts.now in
    let b = c.args.patterns.now in
    record {
      same_length = rw (c.lists.ensures.value, c.lists-2.ensures.value, c.strings.ensures.value, c.strings-2.ensures.value) (same-count _ _ _ string-laws a b c.strings.ensures.fits c.strings-2.ensures.fits c.requires.same_length);
      texts_are = rw (c.lists.ensures.value, c.strings.ensures.value) (text-lists a.values (text-kind a.values.kind (nullability_of a.validity) c.requires.texts) (rw c.strings.ensures.value at c.lists.ensures.texts));
      patterns_are = rw (c.lists-2.ensures.value, c.strings-2.ensures.value) (text-lists b.values (text-kind b.values.kind (nullability_of b.validity) c.requires.patterns) (rw c.strings-2.ensures.value at c.lists-2.ensures.texts));
    }

pub pair_answers-requires : goal.pair_answers-requires
pair_answers-requires c =
    let a = c.args.texts.now in
    let b = c.args.patterns.now in
    let same = same-count _ _ _ string-laws a b c.strings.ensures.fits c.strings-2.ensures.fits c.requires.same_length in
    let is = (rw (c.lists.ensures.value, c.lists-2.ensures.value, c.strings.ensures.value, c.strings-2.ensures.value) at c.in_ok-bits.ensures)
    ∙ like-values a.values b.values (text-kind a.values.kind (nullability_of a.validity) c.requires.texts) (text-kind b.values.kind (nullability_of b.validity) c.requires.patterns) in
    let count = counted-each is_like (strings_of a.values) (strings_of b.values) (length a.values.lists) c.in_ok-bits.bits (string-laws.counted a.values) (string-laws.counted b.values ∙ sym same) is in
    record { left = count; right = count ∙ same }

pub returns : goal.returns
returns c =
    let a = c.args.texts.now in
    let b = c.args.patterns.now in
    c.in_ok-answers.ensures is_like
    ((rw (c.lists.ensures.value, c.lists-2.ensures.value, c.strings.ensures.value, c.strings-2.ensures.value) at c.in_ok-bits.ensures)
    ∙ like-values a.values b.values (text-kind a.values.kind (nullability_of a.validity) c.requires.texts) (text-kind b.values.kind (nullability_of b.validity) c.requires.patterns))
