use Rattle.std.proofs.Common.{rules, arith, length, ◌+◌, ◌<◌, ◌^◌}
use Rattle.vortex_compute.proofs.Running.{may_run_while}
use Rattle.worked_kernels.specs.contracts.counting.fn.asked_to_valid_refusal.try_map_masked_in_place as closure
use Rattle.worked_kernels.proofs.counting.asked_to_valid_refusal.Goals as goal

pub try_map_masked_in_place-done-requires-clause-callable : goal.try_map_masked_in_place-done-requires-clause-callable
try_map_masked_in_place-done-requires-clause-callable c =
    may_run_while _ _ (λ f xs. (closure.captures f).calls + length xs < 2 ^ 64) (λ f x xs h. omega (arith, h)) (λ f g x xs r h called. search rules) _ c.new.result.slice.now (search rules)
