use Rattle.std.proofs.Common.{arith, ◌≡◌, ◌∙◌, ◌+◌, ◌-◌, ◌++◌, ap, sym, refl, length, drop, append-nil}
use Rattle.std.specs.Int.Count.{count_trailing_zeros}
use Rattle.vortex_array_rows.specs.Kept.{kept_in}
use Rattle.vortex_array_rows.proofs.KeptWords.{lowest, kept_in-none, walk_more, shorter}
use Rattle.vortex_array_rows.proofs.kept_items.push_walked.Goals as goal

pub offset_bounds-group-place : goal.offset_bounds-group-place
offset_bounds-group-place g c =
    let low = lowest c.loop-rest.rest (length c.args.group.now - c.loop-rest.at) (omega (arith, c.loop-rest-test.true)) c.loop-rest.invariant.small (omega (arith, c.requires.small)) in
    omega (arith, low.within)

pub bounds-group-place : goal.bounds-group-place
bounds-group-place g c =
    let low = lowest c.loop-rest.rest (length c.args.group.now - c.loop-rest.at) (omega (arith, c.loop-rest-test.true)) c.loop-rest.invariant.small (omega (arith, c.requires.small)) in
    omega (arith, low.within)

pub loop-rest-preserved : goal.loop-rest-preserved
loop-rest-preserved g c =
    let low = lowest c.loop-rest.rest (length c.args.group.now - c.loop-rest.at) (omega (arith, c.loop-rest-test.true)) c.loop-rest.invariant.small (omega (arith, c.requires.small)) in
    let t = count_trailing_zeros 64 c.loop-rest.rest in
    let left : length c.args.group.now - c.loop-rest.at - (t + 1) ≡ length c.args.group.now - (c.loop-rest.at + t + 1) = omega arith in
    record {
      within = omega (arith, low.within);
      small = rw left at (shorter c.loop-rest.rest t (length c.args.group.now - c.loop-rest.at) c.loop-rest.invariant.small low.within);
      so_far = walk_more c.loop-rest.kept.items c.push.new.self.items (c.args.kept.now.items ++ kept_in c.args.word c.args.group.now) c.args.group.now c.loop-rest.rest c.loop-rest.at t (c.loop-rest.at + t) (c.loop-rest.at + t + 1) c.index-group-place.result low.here low.before refl refl c.loop-rest.invariant.within c.loop-rest.invariant.small c.index-group-place.is c.in_ok-push.ensures.items c.loop-rest.invariant.so_far;
    }

pub returns : goal.returns
returns g c =
    let none = kept_in-none c.loop-rest.rest (drop c.loop-rest.at c.args.group.now) c.loop-rest-test.false in
    record { ok = sym (append-nil c.loop-rest.kept.items) ∙ ap (λ ys. c.loop-rest.kept.items ++ ys) (sym none) ∙ c.loop-rest.invariant.so_far }
