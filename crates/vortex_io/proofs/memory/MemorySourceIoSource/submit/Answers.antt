use Rattle.std.proofs.Common.{◌≡◌, ◌++◌, map, rules, false}
use Rattle.std.specs.List.{list_any}
use Rattle.vortex_io.specs.Source.{is_outside, fetches}
use Rattle.vortex_io.specs.Memory.{columns_of}
use Rattle.vortex_io.proofs.Fetches.{AreHeld-append}
use Rattle.vortex_io.proofs.memory.MemorySourceIoSource.submit.Goals as goal

pub invariant_of-self-2 : goal.invariant_of-self-2
invariant_of-self-2 g c =
    let none : list_any (is_outside (map columns_of c.self.inside.chunks.items)) c.args.batch ≡ false = search rules in
    let items : c.add_fetches.new.outstanding.items ≡ c.self.inside.outstanding.items ++ fetches c.args.owner c.args.batch = search rules in
    rw items (AreHeld-append (map columns_of c.self.inside.chunks.items) c.self.inside.outstanding.items c.args.owner c.args.batch c.self.invariant none)
