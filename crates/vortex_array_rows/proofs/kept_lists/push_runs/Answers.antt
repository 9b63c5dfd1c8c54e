use Rattle.std.proofs.Common.{arith, ◌∙◌, ◌+◌, ◌-◌, ◌++◌, ap, sym, refl, length, drop, append-nil}
use Rattle.std.specs.Int.Count.{count_trailing_zeros}
use Rattle.vortex_array_rows.specs.Kept.{kept_in}
use Rattle.vortex_array_rows.proofs.KeptWords.{kept_in-none}
use Rattle.vortex_array_rows.proofs.KeptRuns.{next_run, run_more, run_shorter}
use Rattle.vortex_array_rows.proofs.kept_lists.push_runs.Goals as goal

pub overflow_add-first : goal.overflow_add-first
overflow_add-first c =
    let next = next_run c.loop-rest.rest (length c.args.lists.now - c.loop-rest.at) c.trailing_ones-run.result (omega (arith, c.loop-rest-test.true)) (omega (arith, c.loop-rest.auto.rest-fits)) c.loop-rest.invariant.small c.trailing_ones-run.ensures in
    omega (arith, next.within)

pub overflow_add-end : goal.overflow_add-end
overflow_add-end c =
    let next = next_run c.loop-rest.rest (length c.args.lists.now - c.loop-rest.at) c.trailing_ones-run.result (omega (arith, c.loop-rest-test.true)) (omega (arith, c.loop-rest.auto.rest-fits)) c.loop-rest.invariant.small c.trailing_ones-run.ensures in
    omega (arith, next.within)

pub push_part-requires-clause-within : goal.push_part-requires-clause-within
push_part-requires-clause-within c =
    let next = next_run c.loop-rest.rest (length c.args.lists.now - c.loop-rest.at) c.trailing_ones-run.result (omega (arith, c.loop-rest-test.true)) (omega (arith, c.loop-rest.auto.rest-fits)) c.loop-rest.invariant.small c.trailing_ones-run.ensures in
    omega (arith, next.within)

pub overflow_sub-rest : goal.overflow_sub-rest
overflow_sub-rest c =
    let next = next_run c.loop-rest.rest (length c.args.lists.now - c.loop-rest.at) c.trailing_ones-run.result (omega (arith, c.loop-rest-test.true)) (omega (arith, c.loop-rest.auto.rest-fits)) c.loop-rest.invariant.small c.trailing_ones-run.ensures in
    omega (arith, next.ones.some)

pub loop-rest-smaller : goal.loop-rest-smaller
loop-rest-smaller c =
    let next = next_run c.loop-rest.rest (length c.args.lists.now - c.loop-rest.at) c.trailing_ones-run.result (omega (arith, c.loop-rest-test.true)) (omega (arith, c.loop-rest.auto.rest-fits)) c.loop-rest.invariant.small c.trailing_ones-run.ensures in
    omega (arith, next.within, next.ones.some)

pub loop-rest-preserved : goal.loop-rest-preserved
loop-rest-preserved c =
    let lists = c.args.lists.now in
    let n = length c.args.lists.now - c.loop-rest.at in
    let t = count_trailing_zeros 64 c.loop-rest.rest in
    let run = c.trailing_ones-run.result in
    let next = next_run c.loop-rest.rest (length c.args.lists.now - c.loop-rest.at) c.trailing_ones-run.result (omega (arith, c.loop-rest-test.true)) (omega (arith, c.loop-rest.auto.rest-fits)) c.loop-rest.invariant.small c.trailing_ones-run.ensures in
    record {
      within = omega (arith, next.within);
      small = run_shorter c.loop-rest.rest n t run (length lists - (c.loop-rest.at + t + run)) next c.loop-rest.invariant.small (omega arith);
      so_far = run_more c.loop-rest.kept c.push_part.new.self (c.args.kept.now ++ kept_in c.args.word (drop c.args.start lists)) lists c.loop-rest.rest n c.loop-rest.at t run (c.loop-rest.at + t) (c.loop-rest.at + t + run) next refl refl c.in_ok-push_part.ensures.pushed c.loop-rest.invariant.so_far;
    }

pub returns : goal.returns
returns c =
    let none = kept_in-none c.loop-rest.rest (drop c.loop-rest.at c.args.lists.now) c.loop-rest-test.false in
    record { ok = sym (append-nil c.loop-rest.kept) ∙ ap (λ ys. c.loop-rest.kept ++ ys) (sym none) ∙ c.loop-rest.invariant.so_far }
