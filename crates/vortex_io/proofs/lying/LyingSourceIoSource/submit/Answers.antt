use Rattle.std.proofs.Common.{◌≡◌, ◌++◌, rules}
use Rattle.std.proofs.lemmas.List.{take_at}
use Rattle.vortex_io.specs.Source.{fetches}
use Rattle.vortex_io.proofs.Covered.{covered_added}
use Rattle.vortex_io.proofs.lying.LyingSourceIoSource.submit.Goals as goal

pub invariant_of-self : goal.invariant_of-self
invariant_of-self g c = let same : c.add.new.self.outstanding.items ≡ c.self.inside.own.outstanding.items = search rules in rw same c.self.invariant

pub invariant_of-self-in-Ok : goal.invariant_of-self-in-Ok
invariant_of-self-in-Ok g c =
    let own : c.add.new.self.outstanding.items ≡ c.self.inside.own.outstanding.items ++ fetches c.args.owner c.args.batch = search rules in
    rw (own, c.in-Ok.ensures.accounts) (covered_added (g.S.IoSource.outstanding c.self.inside.inner) c.self.inside.own.outstanding.items (fetches c.args.owner c.args.batch) c.self.invariant)

pub invariant_of-self-in-Err : goal.invariant_of-self-in-Err
invariant_of-self-in-Err g c =
    let added : c.add.new.self.outstanding.items ≡ c.self.inside.own.outstanding.items ++ fetches c.args.owner c.args.batch = search rules in
    rw (c.truncate.ensures.items, added, c.in-Err.ensures.accounts, take_at c.self.inside.own.outstanding.items (fetches c.args.owner c.args.batch) c.len-count.result (search rules)) c.self.invariant
