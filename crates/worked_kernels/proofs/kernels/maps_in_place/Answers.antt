use Rattle.std.proofs.Common.{rules}
use Rattle.vortex_compute.proofs.Running.{may_run_ever}
use Rattle.worked_kernels.proofs.kernels.maps_in_place.Goals as goal

pub map_into_in_place-requires : goal.map_into_in_place-requires
map_into_in_place-requires c = record { callable = may_run_ever _ _ _ c.new.result.slice.now (λ f. search rules) }
