use Rattle.std.proofs.Common.{◌≢◌, ◌∙◌, ap, length, [], Ok, refl, inl, inr}
use Rattle.vortex_scan.proofs.Kept.{each_same}
use Rattle.vortex_scan.proofs.Leaving.{given_in_vain, known_root, publishes, read_published, submit_faults}
use Rattle.vortex_scan.proofs.Outcomes.{if_err, if_ok}
use Rattle.vortex_scan.proofs.Places.{some_at}
use Rattle.vortex_scan.proofs.publish.publish.Goals as goal

pub returns-then-len-eq0-clause-sources : goal.returns-then-len-eq0-clause-sources
returns-then-len-eq0-clause-sources g c = each_same g.S.IoSource c.args.slots.now.items

pub returns-in_default-clause-sources : goal.returns-in_default-clause-sources
returns-in_default-clause-sources g c = each_same g.S.IoSource c.args.slots.now.items

pub returns-then-not-noted-clause-sources : goal.returns-then-not-noted-clause-sources
returns-then-not-noted-clause-sources g c = each_same g.S.IoSource c.args.slots.now.items

pub returns-then-not-noted-clause-err : goal.returns-then-not-noted-clause-err
returns-then-not-noted-clause-err g c = λ item owners at. inr (inr (inl (refl, rw c.as_slice.ensures at (c.in-Ok.ensures.repeated (ap (λ b. Ok b) c.if-not-noted.true) item at))))

pub submit_to-requires : goal.submit_to-requires
submit_to-requires g c =
    let it = some_at c.args.items.now.items c.args.at c.requires.in_range in
    let noted = c.in-Ok.ensures.noted (ap (λ b. Ok b) c.if-not-noted.false) it.0 it.1 in
    known_root c.args.at it.0 c.args.items.now.items c.note.new.items.items c.as_slice.result.now c.index-item.result.now (length c.args.slots.now.items) it.1 noted c.index-item.ensures (c.requires.known it.0 it.1)

pub returns-clause-ok : goal.returns-clause-ok
returns-clause-ok g c =
    if_ok _ _ c.submit_to.result (λ went submits. λ item owners at.
    let some : c.args.batch ≢ [] = λ e. c.if-len-eq0.false (c.len.ensures ∙ ap length e) in
    let yes = ap (λ b. Ok b) c.if-not-noted.false in
    let noted = rw c.as_slice.ensures at (c.in-Ok.ensures.noted yes item at) in
    let fresh = rw c.as_slice.ensures at (c.in-Ok.ensures.fresh yes item at) in
    publishes g.S.IoSource c.args.at owners item c.index-item.result.now c.args.batch c.args.items.now.items c.note.new.items.items c.args.slots.now.items c.submit_to.new.slots.items
    (read_published c.args.at item c.args.items.now.items c.note.new.items.items c.args.batch c.index-item.result.now at noted c.index-item.ensures) (c.requires.known item at) some noted fresh submits) c.submit_to.ensures.ok

pub returns-clause-err : goal.returns-clause-err
returns-clause-err g c =
    if_err _ _ c.submit_to.result (λ why fails. λ item owners at.
    let noted = rw c.as_slice.ensures at (c.in-Ok.ensures.noted (ap (λ b. Ok b) c.if-not-noted.false) item at) in
    submit_faults g.S.IoSource c.args.at owners item c.index-item.result.now c.args.batch c.args.items.now.items c.note.new.items.items c.args.slots.now.items c.submit_to.new.slots.items
    (read_published c.args.at item c.args.items.now.items c.note.new.items.items c.args.batch c.index-item.result.now at noted c.index-item.ensures) (c.requires.known item at) why fails) c.submit_to.ensures.err

pub returns-clause-given : goal.returns-clause-given
returns-clause-given g c =
    if_err _ _ c.submit_to.result (λ why given. λ item at.
    let noted = rw c.as_slice.ensures at (c.in-Ok.ensures.noted (ap (λ b. Ok b) c.if-not-noted.false) item at) in
    inr (given_in_vain g.S.IoSource item c.index-item.result.now c.args.batch c.args.slots.now.items c.submit_to.new.slots.items
    (read_published c.args.at item c.args.items.now.items c.note.new.items.items c.args.batch c.index-item.result.now at noted c.index-item.ensures) (c.requires.known item at) given)) c.submit_to.ensures.given
