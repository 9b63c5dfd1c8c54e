use Rattle.std.proofs.Common.{arith, ap, sym, ◌∙◌, ◌≡◌, ◌+◌, ◌*◌, ◌/◌, ◌%◌, length, unwrap_or}
use Rattle.std.specs.Int.Bits.{bit_and}
use Rattle.vortex_compute.proofs.InPlaceSteps.{tried_none, may_go_on, tried_group_more, tried_fails, tried_whole}
use Rattle.vortex_compute.proofs.in_place.try_map_masked_in_place.Goals as goal

pub loop-k-init : goal.loop-k-init
loop-k-init g c = record {
  lanes = tried_none _ c.args.f (λ answer. g.S.IndexedSink.reads_back (unwrap_or answer g.S.Write.LaneDefault.its_default)) c.args.mask.now (g.S.IndexedSource.lanes c.args.values.now);
  kept = g.met.S.IndexedSink.stays c.args.values.now;
}

pub try_group_in_place-requires-clause-callable : goal.try_group_in_place-requires-clause-callable
try_group_in_place-requires-clause-callable g c = may_go_on (λ f x. goal.F-pre g f x) _ c.args.f c.loop-k.f _ (64 * c.loop-k.k) _ (g.S.IndexedSource.lanes c.args.values.now) (g.S.IndexedSource.lanes c.loop-k.values) c.loop-k.invariant.lanes c.requires.callable

pub returns-then-failed-ne0-clause-err : goal.returns-then-failed-ne0-clause-err
returns-then-failed-ne0-clause-err g c =
    let old = g.S.IndexedSource.lanes c.args.values.now in
    let now = g.S.IndexedSource.lanes c.loop-k.values in
    let new = g.S.IndexedSource.lanes c.try_group_in_place.new.values in
    rw (c.failed_lane.ensures, c.word.ensures)
    (tried_fails _ c.args.f c.loop-k.f c.try_group_in_place.new.f (λ answer. g.S.IndexedSink.reads_back (unwrap_or answer g.S.Write.LaneDefault.its_default)) c.args.mask.now c.loop-k.k 64 c.try_group_in_place.result old now new (omega arith) (omega (arith, c.len-len.ensures)) c.loop-k.invariant.lanes c.try_group_in_place.ensures.lanes
    (λ e. c.if-failed-ne0.true (ap (bit_and c.try_group_in_place.result) c.word.ensures ∙ e)))

pub loop-k-preserved : goal.loop-k-preserved
loop-k-preserved g c =
    let old = g.S.IndexedSource.lanes c.args.values.now in
    let now = g.S.IndexedSource.lanes c.loop-k.values in
    let new = g.S.IndexedSource.lanes c.try_group_in_place.new.values in
    record {
      lanes =
          tried_group_more _ c.args.f c.loop-k.f c.try_group_in_place.new.f (λ answer. g.S.IndexedSink.reads_back (unwrap_or answer g.S.Write.LaneDefault.its_default)) c.args.mask.now c.loop-k.k 64 (64 * (c.loop-k.k + 1)) c.try_group_in_place.result old now new (omega arith) (omega arith) (omega (arith, c.len-len.ensures)) c.loop-k.invariant.lanes c.try_group_in_place.ensures.lanes
          (ap (bit_and c.try_group_in_place.result) (sym c.word.ensures) ∙ c.if-failed-ne0.false);
      kept = g.met.S.IndexedSink.goes_on c.args.values.now c.loop-k.values c.try_group_in_place.new.values c.loop-k.invariant.kept c.try_group_in_place.ensures.kept;
    }

pub returns-then-rest-eq0-clause-ok : goal.returns-then-rest-eq0-clause-ok
returns-then-rest-eq0-clause-ok g c =
    let old = g.S.IndexedSource.lanes c.args.values.now in
    let all : length old ≡ 64 * c.loop-k.k = omega (arith, c.len-len.ensures) in
    tried_whole _ c.args.f c.loop-k.f g.S.IndexedSink.reads_back g.S.Write.LaneDefault.its_default (64 * c.loop-k.k) c.args.mask.now old (g.S.IndexedSource.lanes c.loop-k.values) all c.loop-k.invariant.lanes

pub try_group_in_place-requires-2-clause-callable : goal.try_group_in_place-requires-2-clause-callable
try_group_in_place-requires-2-clause-callable g c =
    let k : c.loop-k.k ≡ c.len-len.result / 64 = omega arith in
    may_go_on (λ f x. goal.F-pre g f x) _ c.args.f c.loop-k.f _ (64 * (c.len-len.result / 64)) _ (g.S.IndexedSource.lanes c.args.values.now) (g.S.IndexedSource.lanes c.loop-k.values) (rw k at c.loop-k.invariant.lanes) c.requires.callable

pub returns-then-failed-ne0-2-clause-err : goal.returns-then-failed-ne0-2-clause-err
returns-then-failed-ne0-2-clause-err g c =
    let old = g.S.IndexedSource.lanes c.args.values.now in
    let now = g.S.IndexedSource.lanes c.loop-k.values in
    let new = g.S.IndexedSource.lanes c.try_group_in_place-2.new.values in
    let len = c.len-len.result in
    let k : c.loop-k.k ≡ len / 64 = omega arith in
    rw (c.failed_lane-then-failed-ne0-2.ensures, c.word-2.ensures)
    (tried_fails _ c.args.f c.loop-k.f c.try_group_in_place-2.new.f (λ answer. g.S.IndexedSink.reads_back (unwrap_or answer g.S.Write.LaneDefault.its_default)) c.args.mask.now (len / 64) (len % 64) c.try_group_in_place-2.result old now new (omega arith) (omega (arith, c.len-len.ensures)) (rw k at c.loop-k.invariant.lanes) c.try_group_in_place-2.ensures.lanes
    (λ e. c.if-failed-ne0-2.true (ap (bit_and c.try_group_in_place-2.result) c.word-2.ensures ∙ e)))

pub returns-clause-ok : goal.returns-clause-ok
returns-clause-ok g c =
    let old = g.S.IndexedSource.lanes c.args.values.now in
    let now = g.S.IndexedSource.lanes c.loop-k.values in
    let new = g.S.IndexedSource.lanes c.try_group_in_place-2.new.values in
    let len = c.len-len.result in
    let k : c.loop-k.k ≡ len / 64 = omega arith in
    let all : length old ≡ len = omega (arith, c.len-len.ensures) in
    tried_whole _ c.args.f c.try_group_in_place-2.new.f g.S.IndexedSink.reads_back g.S.Write.LaneDefault.its_default len c.args.mask.now old new all
    (tried_group_more _ c.args.f c.loop-k.f c.try_group_in_place-2.new.f (λ answer. g.S.IndexedSink.reads_back (unwrap_or answer g.S.Write.LaneDefault.its_default)) c.args.mask.now (len / 64) (len % 64) len c.try_group_in_place-2.result old now new (omega arith) (omega arith) (omega (arith, c.len-len.ensures)) (rw k at c.loop-k.invariant.lanes) c.try_group_in_place-2.ensures.lanes
    (ap (bit_and c.try_group_in_place-2.result) (sym c.word-2.ensures) ∙ c.if-failed-ne0-2.false))
