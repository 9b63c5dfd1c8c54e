use Rattle.std.proofs.Common.{◌≡◌, ℕ, ◌+◌, ◌<◌, List, ◌++◌, ◌∷◌, [], length, sym, ◌∙◌, arith, add-one, length-append}
use Rattle.std.proofs.lemmas.Option.{slice_get_within}
use Rattle.std.specs.Prelude.{slice_get, Some}
use Rattle.vortex_scan.proofs.Keys.{less_no_right, less_no_left, less_yes, less_no, less_next}
use Rattle.vortex_scan.proofs.least.less.Goals as goal

pub returns-in_default : goal.returns-in_default
returns-in_default c = sym (c.loop-q.invariant.1 ∙ less_no_right _ _ c.loop-q.i (sym c.in_default.ensures))

pub returns-in_default-number_at : goal.returns-in_default-number_at
returns-in_default-number_at c =
    sym (c.loop-q.invariant.1 ∙ less_no_left _ _ c.loop-q.i _ (sym c.in-Some.ensures) (sym c.in_default-number_at.ensures))

pub returns-then-p-q : goal.returns-then-p-q
returns-then-p-q c =
    sym (c.loop-q.invariant.1 ∙ less_yes _ _ c.loop-q.i _ _ (sym c.in-Some.ensures) (sym c.in-Some-number_at.ensures) c.if-p-q.true)

pub returns-then-q-p : goal.returns-then-q-p
returns-then-q-p c =
    sym (c.loop-q.invariant.1 ∙ less_no _ _ c.loop-q.i _ _ (sym c.in-Some.ensures) (sym c.in-Some-number_at.ensures) c.if-q-p.true)

below_end : (b : List ℕ) (y i q : ℕ) → slice_get (b ++ y ∷ []) i ≡ Some q → i < length b + 1
below_end b y i q e = let h = slice_get_within (b ++ y ∷ []) i q e in omega (arith, h, length-append b (y ∷ []))

pub loop-q-smaller : goal.loop-q-smaller
loop-q-smaller c =
    let h : c.loop-q.i < length c.args.b.now + 1 = below_end _ _ _ _ (sym c.in-Some.ensures) in
    omega (arith, h)

pub loop-q-preserved : goal.loop-q-preserved
loop-q-preserved c =
    let h : c.loop-q.i < length c.args.b.now + 1 = below_end _ _ _ _ (sym c.in-Some.ensures) in (
      omega (arith, h),
      rw add-one (c.loop-q.invariant.1 ∙ less_next _ _ c.loop-q.i _ _ (sym c.in-Some.ensures) (sym c.in-Some-number_at.ensures) c.if-p-q.false c.if-q-p.false),
    )
