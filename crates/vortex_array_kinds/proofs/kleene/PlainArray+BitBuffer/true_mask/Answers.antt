use Rattle.std.proofs.Common.{◌∙◌, ◌≡◌, ◌&&◌, ap, length}
use Rattle.std.specs.Simd.Lanes.{zip2}
use Rattle.vortex_array_kinds.specs.Validities.{valid_bits}
use Rattle.vortex_array_kinds.proofs.TruthColumns.{true-column}
use Rattle.vortex_array_kinds.proofs.kleene.PlainArray+BitBuffer.true_mask.Goals as goal

pub returns : goal.returns
returns c =
    let a = c.args.self.now in
    let long : c.len.result ≡ length a.values = c.len.ensures ∙ ap length c.bits.ensures.value in
    let valid : c.in_ok-valid.valid ≡ valid_bits a.validity (length a.values) = c.in_ok-valid.ensures ∙ ap (λ v. valid_bits v c.len.result) c.validity.ensures.value ∙ ap (valid_bits a.validity) long in
    c.from_buffer.ensures ∙ c.in_ok-bits.ensures ∙ ap (λ xs. zip2 ◌&&◌ xs c.in_ok-valid.valid) c.bits-2.ensures.value ∙ ap (zip2 ◌&&◌ a.values) valid ∙ true-column a
