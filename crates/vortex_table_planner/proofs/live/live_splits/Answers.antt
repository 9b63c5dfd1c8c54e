use Rattle.std.proofs.Common.{◌∙◌, ◌+◌, ◌∷◌, ◌++◌, [], Bool, List, ap, get_or, sym, ℕ}
use Rattle.std.specs.Prelude.{filter}
use Rattle.std.proofs.lemmas.List.Sums.{sum_by_more}
use Rattle.vortex_table_types.specs.declared.describe.SplitDesc.{SplitDesc}
use Rattle.vortex_table_planner.specs.Live.{is_live}
use Rattle.vortex_table_planner.specs.declared.live.LiveSplit.{LiveSplit}
use Rattle.vortex_table_planner.proofs.Loops.{scope_more}
use Rattle.vortex_table_planner.proofs.NewOwed.{dead}
use Rattle.vortex_table_planner.proofs.live.live_splits.Goals as goal

pub returns-then-not-is_chosen : goal.returns-then-not-is_chosen
returns-then-not-is_chosen c = c.new-live.ensures.items ∙ sym (dead c.args.request.now c.args.index 0 0 c.args.splits.now (sym c.if-not-is_chosen.ensures))

pub loop-split-preserved : goal.loop-split-preserved
loop-split-preserved c =
    let test : LiveSplit → Bool = λ live. is_live c.args.request.now live.scope in
    let splits : List SplitDesc = c.args.splits.now in
    let desc : SplitDesc = get_or splits c.loop-split.split c.index-splits-split.result in
    let start : ℕ = c.loop-split.start in
    let live : LiveSplit = record { split = c.loop-split.split; scope = record { file_ordinal = c.args.index; rows = record { start = start; end = start + desc.rows } } } in (
      c.in_ok-add_if_live.ensures ∙ ap (λ (before : List LiveSplit). before ++ filter test (live ∷ [])) c.loop-split.invariant.0
          ∙ sym (scope_more test c.args.index splits c.loop-split.split c.index-splits-split.result start c.loop-split-test.true c.loop-split.invariant.1),
      ap (λ (n : ℕ). n + desc.rows) c.loop-split.invariant.1 ∙ sym (sum_by_more (λ split. split.rows) splits c.loop-split.split c.index-splits-split.result c.loop-split-test.true),
    )
