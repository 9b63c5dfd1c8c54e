use Rattle.std.proofs.Common.{rules}
use Rattle.vortex_compute.proofs.Running.{may_run_ever}
use Rattle.worked_kernels.proofs.kernels.tries_in_place.Goals as goal

pub try_map_in_place-done-requires : goal.try_map_in_place-done-requires
try_map_in_place-done-requires c = record { callable = may_run_ever _ _ _ c.new.result.slice.now (λ f. search rules) }
