use Rattle.std.proofs.Common.{◌∙◌, ◌∷◌, [], ◌++◌, ap, sym, append_assoc, arith, length}
use Rattle.vortex_scan.proofs.Kept.{cleared_more}
use Rattle.vortex_scan.proofs.taking.clear_all.Goals as goal

pub loop-slot-preserved : goal.loop-slot-preserved
loop-slot-preserved g c =
    let inv = c.loop-slot.invariant in
    let step = c.in-Some.ensures.steps in
    let count = ap length step.0 in
    record {
      whole = append_assoc c.loop-slot.yielded (c.in-Some.slot ∷ []) c.next.new.self.rest.items ∙ ap (λ z. c.loop-slot.yielded ++ z) (sym step.0) ∙ inv.whole;
      cleared = rw c.push_reserved.ensures.items (cleared_more g.S.IoSource c.loop-slot.yielded c.loop-slot.sources.items c.in-Some.slot c.into_cleared.result inv.cleared c.into_cleared.ensures);
      room = omega (arith, count, inv.room, c.push_reserved.ensures.len, c.push_reserved.ensures.capacity);
    }
