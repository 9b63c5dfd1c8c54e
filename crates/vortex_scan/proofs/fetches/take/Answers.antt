use Rattle.std.proofs.Common.{◌≡◌, sym, false}
use Rattle.std.proofs.lemmas.Option.{slice_get-get_or}
use Rattle.std.proofs.lemmas.List.Quantifiers.{position-Some}
use Rattle.std.specs.List.{list_any}
use Rattle.vortex_scan.specs.Fetching.{is_answer}
use Rattle.vortex_scan.proofs.Places.{none_at}
use Rattle.vortex_scan.proofs.TakenFetch.{took}
use Rattle.vortex_scan.proofs.fetches.take.Goals as goal

pub unreachable-requires : goal.unreachable-requires
unreachable-requires g c =
    let none : list_any (is_answer c.args.completion.now) c.args.items.now.items ≡ false = none_at (is_answer c.args.completion.now) c.args.items.now.items (rw c.deref.ensures.value at (sym c.in-None.ensures)) in
    let some = c.requires in
    absurd (cc)

pub returns : goal.returns
returns g c =
    let first = rw c.deref.ensures.value at (sym c.in-Some.ensures) in
    let within = position-Some (is_answer c.args.completion.now) c.args.items.now.items c.in-Some.place c.remove.result first in
    took c.args.completion.now c.args.items.now.items c.remove.new.self.items c.in-Some.place _ first (slice_get-get_or c.args.items.now.items c.in-Some.place c.remove.result within.0) c.remove.ensures.items
