use Rattle.std.proofs.Common.{◌∙◌, ap, false, map, not, sym, true}
use Rattle.std.proofs.lemmas.Result.{IfOk-weaker}
use Rattle.vortex_buffer.proofs.Bits.{map-replicate}
use Rattle.vortex_buffer.specs.Mask.{mask_bits}
use Rattle.vortex_table_chunks.proofs.answers.other_bits.Goals as goal

pub returns-in-AllTrue : goal.returns-in-AllTrue
returns-in-AllTrue c =
    IfOk-weaker c.new_unset.result _ _ (λ bits e. e ∙ sym (ap (λ m. map not (mask_bits m)) c.in-AllTrue.is ∙ map-replicate not c.in-AllTrue.len true)) c.new_unset.ensures

pub returns-in-AllFalse : goal.returns-in-AllFalse
returns-in-AllFalse c =
    IfOk-weaker c.to_bits.result _ _ (λ bits e. e ∙ sym (ap (λ m. map not (mask_bits m)) c.in-AllFalse.is ∙ map-replicate not c.in-AllFalse.len false)) c.to_bits.ensures
