use Rattle.std.proofs.Common.{◌≡◌, ◌∙◌, ap, sym, List, [], ◌++◌, ◌+◌, get_or, drop, map, arith, append_assoc, length}
use Rattle.std.specs.Prelude.{filter}
use Rattle.std.proofs.lemmas.List.Sums.{sum_by_more}
use Rattle.vortex_table.specs.Given.{given}
use Rattle.vortex_table.specs.Kept.{passes}
use Rattle.vortex_table_types.specs.Answers.{Given}
use Rattle.vortex_table.specs.Scanning.{batch_if, kept_batches, scope_at}
use Rattle.vortex_table_types.specs.declared.describe.SplitDesc.{SplitDesc}
use Rattle.vortex_table.proofs.SplitSteps.{extended_more, kept_here, oldest_here, outstanding_after, waits_after}
use Rattle.vortex_table.proofs.partition.scan_splits.Goals as goal

pub scan_split-requires-clause-fetched : goal.scan_split-requires-clause-fetched
scan_split-requires-clause-fetched c l =
    let i = c.loop-split.split-index in
    let inv = c.loop-split.invariant in
    let held = c.requires.held in
    (get_or held.0 i [], rw (inv.outstanding, inv.stands.chunks) (oldest_here i c.args.splits.now c.split-item.result c.loop-split-test.true c.split-item.is c.args.source.now.chunks held.0 held.1 l))

pub loop-split-preserved : goal.loop-split-preserved
loop-split-preserved c =
    let i = c.loop-split.split-index in
    let inv = c.loop-split.invariant in
    let splits = c.args.splits.now in
    let s = c.split-item.result in
    let before = c.loop-split.source in
    let after = c.scan_split.new.source in
    let step = c.in_ok-scan_split.ensures in
    let more = sum_by_more (λ (split : SplitDesc). split.rows) splits i s c.loop-split-test.true in
    let same : s.rows ≡ (get_or splits i s).rows = ap (λ (split : SplitDesc). split.rows) c.split-item.is in
    record {
      start_is = omega (arith, inv.start_is, more, same);
      outstanding = rw step.source (outstanding_after i splits s c.loop-split-test.true c.split-item.is before inv.outstanding);
      stands = extended_more c.args.source.now before after inv.stands step.stands;
      waits = rw step.source (waits_after i splits s c.loop-split-test.true c.split-item.is before) ∙ inv.waits;
      batches = λ numbers held.
          let ns = get_or numbers i [] in
          let counted : length ns ≡ s.rows = held.counted i [] s c.loop-split-test.true ∙ sym same in
          let made = step.batches ns counted (λ l. rw (inv.outstanding, inv.stands.chunks) (oldest_here i splits s c.loop-split-test.true c.split-item.is c.args.source.now.chunks numbers held l)) in
          let rest = kept_batches c.args.keep.now (c.loop-split.start + s.rows) (drop (i + 1) splits) (drop (i + 1) numbers) in
          ap (λ (bs : List Given). bs ++ rest) made ∙ append_assoc (map given c.loop-split.batches.items) (batch_if (scope_at c.loop-split.start s) (filter (passes c.args.keep.now) ns)) rest
          ∙ ap (λ (bs : List Given). map given c.loop-split.batches.items ++ bs) (sym (kept_here i splits s c.loop-split-test.true c.split-item.is c.args.keep.now c.loop-split.start numbers held.long))
          ∙ inv.batches numbers held;
      roots = step.roots inv.roots;
    }
