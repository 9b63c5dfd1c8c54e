use Rattle.std.proofs.Common.{rules}
use Rattle.vortex_compute.proofs.Running.{may_run_ever}
use Rattle.worked_kernels.proofs.kernels.tries_valid_in_place.Goals as goal

pub try_map_masked_in_place-done-requires-clause-callable : goal.try_map_masked_in_place-done-requires-clause-callable
try_map_masked_in_place-done-requires-clause-callable c = may_run_ever _ _ _ c.new.result.slice.now (λ f. search rules)
