use Rattle.std.proofs.Common.{◌≡◌, ◌∙◌, sym, ap, subst, ℕ, Option, arith, filter, length}
use Rattle.std.proofs.lemmas.List.FromFn.{length-range_with_len}
use Rattle.std.specs.List.{range_with_len}
use Rattle.vortex_scan.specs.RunState.{new_run}
use Rattle.vortex_table_scan.specs.Admitting.{IsAdmitted}
use Rattle.vortex_table_scan.specs.Parted.{is_admitted, is_left, picked}
use Rattle.vortex_table_scan.specs.Refusals.{IsNamed}
use Rattle.vortex_table_scan.proofs.Meeting.{admitted_fits, failure_named}
use Rattle.vortex_table_scan.proofs.Picking.{picked_length}
use Rattle.vortex_table_scan.proofs.Scanned.{run_keeps, run_refused}
use Rattle.vortex_table_scan.proofs.Within.{back_long, begun_well, from_new}
use Rattle.vortex_table_scan.proofs.scan.scan_within.Goals as goal

pub run_admitted-answer-requires-clause-well : goal.run_admitted-answer-requires-clause-well
run_admitted-answer-requires-clause-well g c =
    begun_well c.args.columns.now c.args.partitions.now c.args.request.now c.args.steps _ _ c.admit_all-stopped.new.run
    (from_new c.args.columns.now c.args.partitions.now c.args.request.now c.args.steps _ _ c.new.result c.with_step_limit-run.result c.admit_all-stopped.new.run c.new.ensures c.with_step_limit-run.ensures c.admit_all-stopped.ensures.admitted)

pub run_admitted-answer-requires-clause-fits : goal.run_admitted-answer-requires-clause-fits
run_admitted-answer-requires-clause-fits g c =
    admitted_fits g.S.IoSource c.args.columns.now c.args.partitions.now c.args.request.now c.args.steps _ _ c.admit_all-stopped.new.run
    (from_new c.args.columns.now c.args.partitions.now c.args.request.now c.args.steps _ _ c.new.result c.with_step_limit-run.result c.admit_all-stopped.new.run c.new.ensures c.with_step_limit-run.ensures c.admit_all-stopped.ensures.admitted)

-- where all roots were admitted, a failure has a name
pub run_admitted-answer-requires-clause-meets : goal.run_admitted-answer-requires-clause-meets
run_admitted-answer-requires-clause-meets g c = λ none failure new stops.
    let sources = c.args.sources.items in
    let admitted : IsAdmitted c.args.columns.now c.args.partitions.now c.args.request.now (record new_run { limit = c.args.steps }) (filter (is_admitted c.args.request.now c.admit_all-stopped.result) (range_with_len 0 (length sources)))
    (picked (is_admitted c.args.request.now c.admit_all-stopped.result) 0 sources) c.admit_all-stopped.new.run =
    from_new c.args.columns.now c.args.partitions.now c.args.request.now c.args.steps _ _ c.new.result c.with_step_limit-run.result c.admit_all-stopped.new.run c.new.ensures c.with_step_limit-run.ensures c.admit_all-stopped.ensures.admitted in
    let long : length sources ≡ c.len-count.result = sym (c.len-count.ensures ∙ omega (arith, c.args.sources.ok)) in
    subst (λ n. IsNamed c.args.request.now n failure) long
    (failure_named g.S.IoSource c.args.columns.now c.args.partitions.now c.args.request.now c.args.steps sources c.admit_all-stopped.new.run c.requires.table
    (subst (λ (stopped : Option ℕ). IsAdmitted c.args.columns.now c.args.partitions.now c.args.request.now (record new_run { limit = c.args.steps }) (filter (is_admitted c.args.request.now stopped) (range_with_len 0 (length sources)))
    (picked (is_admitted c.args.request.now stopped) 0 sources) c.admit_all-stopped.new.run) none admitted) failure new stops)

-- as many sources come back as the run had
pub put_back-sources-requires-clause-admitted : goal.put_back-sources-requires-clause-admitted
put_back-sources-requires-clause-admitted g c =
    let sources = c.args.sources.items in
    let long : length sources ≡ c.len-count.result = sym (c.len-count.ensures ∙ omega (arith, c.args.sources.ok)) in
    let keeps = run_keeps g.S.IoSource c.args.columns.now c.args.partitions.now c.args.request.now c.args.steps sources sources (λ v. v.items) c.admit_all-stopped.result c.admit_all-stopped.new.run c.run_admitted-answer.new.run c.run_admitted-answer.result
    c.run_admitted-answer.ensures.ok
    (run_refused g.S.IoSource c.args.columns.now c.args.partitions.now c.args.request.now c.args.steps sources sources (λ v. v.items) c.admit_all-stopped.result c.admit_all-stopped.new.run c.run_admitted-answer.new.run c.len-count.result (sym long)
    c.run_admitted-answer.result c.run_admitted-answer.ensures.err c.run_admitted-answer.ensures.stops) in
    back_long c.args.columns.now c.args.partitions.now c.args.request.now c.args.steps _ _ c.admit_all-stopped.new.run
    (from_new c.args.columns.now c.args.partitions.now c.args.request.now c.args.steps _ _ c.new.result c.with_step_limit-run.result c.admit_all-stopped.new.run c.new.ensures c.with_step_limit-run.ensures c.admit_all-stopped.ensures.admitted)
    g.S.IoSource c.run_admitted-answer.new.run c.take_sources-admitted.result.items keeps c.take_sources-admitted.ensures.cleared
    ∙ picked_length (is_admitted c.args.request.now c.admit_all-stopped.result) 0 sources (range_with_len 0 c.len-count.result) (long ∙ sym (length-range_with_len 0 c.len-count.result))

pub put_back-sources-requires-clause-others : goal.put_back-sources-requires-clause-others
put_back-sources-requires-clause-others g c =
    let sources = c.args.sources.items in
    let long : length sources ≡ c.len-count.result = sym (c.len-count.ensures ∙ omega (arith, c.args.sources.ok)) in
    ap length c.admit_all-stopped.ensures.others ∙ picked_length (is_left c.args.request.now c.admit_all-stopped.result) 0 sources (range_with_len 0 c.len-count.result) (long ∙ sym (length-range_with_len 0 c.len-count.result))

pub returns : goal.returns
returns g c =
    let sources = c.args.sources.items in
    let long : length sources ≡ c.len-count.result = sym (c.len-count.ensures ∙ omega (arith, c.args.sources.ok)) in (
      c.admit_all-stopped.result,
      c.admit_all-stopped.new.run,
      c.run_admitted-answer.new.run,
      record {
        admitted = from_new c.args.columns.now c.args.partitions.now c.args.request.now c.args.steps _ _ c.new.result c.with_step_limit-run.result c.admit_all-stopped.new.run c.new.ensures c.with_step_limit-run.ensures c.admit_all-stopped.ensures.admitted;
        back = c.take_sources-admitted.result.items;
        cleared = c.take_sources-admitted.ensures.cleared;
        long = c.put_back-sources.ensures.length ∙ sym long;
        placed = c.put_back-sources.ensures.admitted;
        others = c.put_back-sources.ensures.others ∙ c.admit_all-stopped.ensures.others;
      },
      c.run_admitted-answer.ensures.ok,
      run_refused g.S.IoSource c.args.columns.now c.args.partitions.now c.args.request.now c.args.steps sources sources (λ v. v.items) c.admit_all-stopped.result c.admit_all-stopped.new.run c.run_admitted-answer.new.run c.len-count.result (sym long)
          c.run_admitted-answer.result c.run_admitted-answer.ensures.err c.run_admitted-answer.ensures.stops,
    )
