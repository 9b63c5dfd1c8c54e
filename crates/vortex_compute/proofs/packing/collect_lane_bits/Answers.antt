use Rattle.std.proofs.Common.{◌≡◌, ◌+◌, ◌/◌, length, sym, ap, ◌∙◌}
use Rattle.std.proofs.lemmas.List.{with_items_is}
use Rattle.vortex_buffer.specs.Bits.{bits_of}
use Rattle.vortex_buffer.proofs.Bits.{div_ceil-64}
use Rattle.vortex_compute.proofs.WordSteps.{bits_of-written}
use Rattle.vortex_compute.proofs.packing.collect_lane_bits.Goals as goal

pub returns : goal.returns
returns g c =
    let lanes = g.S.IndexedSource.lanes c.args.values.now in
    let done = c.map_bits_into.ensures.written in
    let room : length c.deref_mut.result.now ≡ (c.len-len.result + 63) / 64 = c.deref_mut.ensures.len ∙ c.in_ok-words.ensures.len ∙ c.div_ceil.ensures ∙ div_ceil-64 c.len-len.result in
    let same : c.from_words.result ≡ done.answers =
    c.from_words.ensures.bits
    ∙ ap (λ ws. bits_of c.len-len.result ws) (c.from_vec.ensures ∙ with_items_is c.in_ok-words.words c.map_bits_into.new.words (c.map_bits_into.auto.words ∙ c.deref_mut.ensures.len))
    ∙ bits_of-written _ lanes c.len-len.result c.deref_mut.result.now c.map_bits_into.new.words (sym c.len-len.ensures) room done
    in
    record { ok = rw same done.each }
