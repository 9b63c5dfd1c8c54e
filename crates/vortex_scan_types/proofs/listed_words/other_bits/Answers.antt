use Rattle.std.proofs.Common.{arith, ap, ◌∙◌, ◌+◌, ◌*◌, ◌<◌, ◌&&◌, not}
use Rattle.std.proofs.lemmas.List.{with_items_is}
use Rattle.vortex_buffer.specs.Bits.{bits_of, word_bit, words_for}
use Rattle.vortex_scan_types.specs.Members.{is_listed}
use Rattle.vortex_scan_types.proofs.Words.{bits_of_test, word_bit-all}
use Rattle.vortex_scan_types.proofs.listed_words.other_bits.Goals as goal

pub returns : goal.returns
returns c =
    let listed = c.args.listed.now in
    let start = c.args.start in
    let len = c.args.len in
    let olds = c.deref_mut.result.now in
    let words = c.clear_listed.new.words in
    c.from_words.ensures.bits
    ∙ ap (λ ws. bits_of len ws) (c.from_vec.ensures ∙ with_items_is c.in_ok-words.words words (c.clear_listed.auto.words ∙ c.deref_mut.ensures.len))
    ∙ bits_of_test (λ place. not (is_listed listed place)) words start len
    (λ i l.
    let m : i < 64 * words_for len = omega (arith, l) in
    let old = ap (λ ws. word_bit ws i) (c.deref_mut.ensures.value ∙ c.in_ok-words.ensures) ∙ word_bit-all (words_for len) i m in
    c.clear_listed.ensures i ∙ ap (λ b. b && not (is_listed listed (start + i))) old)
