use Rattle.std.proofs.Common.{arith, ◌<◌, length, map}
use Rattle.std.proofs.lemmas.List.{length-map}
use Rattle.vortex_dict.proofs.Refusals.{all-places}
use Rattle.vortex_dict.proofs.codes.first_outside.Goals as goal

pub returns-clause-none : goal.returns-clause-none
returns-clause-none g c =
    all-places c.args.bound c.args.nulls.now (map g.P.RowIndex.place c.args.places.now) (λ k h v. let inside : k < length c.args.places.now = simp length-map at h in c.loop-row.invariant k (omega arith) v)
