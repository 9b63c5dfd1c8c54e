use Rattle.std.proofs.Common.{◌∙◌, ◌∷◌, [], ◌++◌, ap, sym, append_assoc}
use Rattle.vortex_table_scan.proofs.Cutting.{cut_on, cut_stays}
use Rattle.vortex_table_scan.proofs.cut.keep_first.Goals as goal

-- a batch joins those that are kept
pub batches-preserved-then-not-is_reached : goal.batches-preserved-then-not-is_reached
batches-preserved-then-not-is_reached c =
    let inv = c.batches.invariant in
    let step = c.in-Some.ensures.steps in
    record {
      whole = append_assoc c.batches.yielded (c.in-Some.batch ∷ []) c.next.new.self.rest.items ∙ ap (λ rest. c.batches.yielded ++ rest) (sym step.0) ∙ inv.whole;
      cut = cut_on c.args.limit c.batches.yielded c.in-Some.batch c.batches.kept.items c.push_within.new.batches.items c.batches.left c.in_ok-left.left inv.cut (c.is_reached.ensures.no c.if-not-is_reached.true) c.in_ok-left.ensures;
    }

-- nothing is left for it
pub batches-preserved : goal.batches-preserved
batches-preserved c =
    let inv = c.batches.invariant in
    let step = c.in-Some.ensures.steps in
    record {
      whole = append_assoc c.batches.yielded (c.in-Some.batch ∷ []) c.next.new.self.rest.items ∙ ap (λ rest. c.batches.yielded ++ rest) (sym step.0) ∙ inv.whole;
      cut = cut_stays c.args.limit c.batches.yielded c.in-Some.batch c.batches.kept.items c.batches.left inv.cut (c.is_reached.ensures.yes c.if-not-is_reached.false);
    }
