use Rattle.std.proofs.Common.{◌≡◌, Some, rules, map, remove, slice_get}
use Rattle.std.proofs.lemmas.Option.{slice_get_read}
use Rattle.vortex_io.specs.Memory.{columns_of, Delivers}
use Rattle.vortex_io.proofs.Fetches.{Completes-delivered}
use Rattle.vortex_io.proofs.held.complete.Goals as goal

pub returns-clause-accounts : goal.returns-clause-accounts
returns-clause-accounts g c = λ before now.
    let old = c.args.outstanding.now.items in
    let at : slice_get old c.args.place ≡ Some c.index.result.now = slice_get_read old c.args.outstanding.now.len c.args.place c.index.result.now (search rules) c.requires.within c.index.ensures in
    let delivers : Delivers g.C.Payload.means (map columns_of c.args.chunks.now) c.index.result.now c.in_ok-completion.completion = search rules in
    let items : c.remove.new.self.items ≡ remove old c.args.place = search rules in
    rw items (Completes-delivered g.C.Payload.means (map columns_of c.args.chunks.now) old c.args.place before now c.index.result.now c.in_ok-completion.completion at delivers)
