-- Lists of seats, and what passes from one to the next: the same targets or fewer.
use Rattle.std.proofs.Common.{◌≡◌, ℕ, zero, suc, ◌+◌, ◌≤◌, List, [], ◌∷◌, ◌++◌, refl, sym, ◌∙◌, ap, subst, Bool, true, false, cond, eqb, ◌&&◌, Some, arith, ◌⊎◌, ⊎_elim, inl, inr, append_assoc, append-nil, filter, flat_map}
use Rattle.std.specs.Prelude.{slice_get, count_by}
use Rattle.std.specs.List.{AllByRecursion, remove}
use Rattle.std.proofs.Math.ListN.{set}
use Rattle.std.proofs.lemmas.Bool.{and_parts, eqb-true}
use Rattle.std.proofs.lemmas.List.Concat.{flat_map-append}
use Rattle.vortex_io.specs.declared.request.IoTarget.{IoTarget}
use Rattle.vortex_io.specs.declared.request.IoTarget.TheVariants as target
use Rattle.vortex_scan.specs.Plans.{IsSpent}
use Rattle.vortex_scan.specs.Seats.{IsFetched, IsLess, Seat, SomeByRecursion, StaysFresh, targets_of}
use Rattle.vortex_scan.proofs.Places.{each_append, each_weaker}
use Rattle.vortex_scan.proofs.Rooted.{eqb_same}
use Rattle.vortex_scan.proofs.Tallies.{count_cons, count_join, one_if}

-- Some element.

module _ {X : Type 0} where
  pub some_weaker : (P Q : X → Type 0) (xs : List X) → ((x : X) → P x → Q x) → SomeByRecursion P xs → SomeByRecursion Q xs
  some_weaker P Q [] f s = absurd s
  some_weaker P Q (x ∷ xs) f s = ⊎_elim (λ p. inl (f x p)) (λ r. inr (some_weaker P Q xs f r)) s

  pub some_before : (P : X → Type 0) (xs ys : List X) → SomeByRecursion P xs → SomeByRecursion P (xs ++ ys)
  some_before P [] ys s = absurd s
  some_before P (x ∷ xs) ys s = ⊎_elim (λ p. inl p) (λ r. inr (some_before P xs ys r)) s

  pub some_behind : (P : X → Type 0) (xs ys : List X) → SomeByRecursion P ys → SomeByRecursion P (xs ++ ys)
  some_behind P [] ys s = s
  some_behind P (x ∷ xs) ys s = inr (some_behind P xs ys s)

  -- an element of which this holds, and what holds of each
  pub some_of : (P Q : X → Type 0) (xs : List X) → AllByRecursion Q xs → SomeByRecursion P xs → (x : X) × P x × Q x
  some_of P Q [] a s = absurd s
  some_of P Q (x ∷ xs) a s = ⊎_elim (λ p. (x, p, a.0)) (λ r. some_of P Q xs a.1 r) s

  -- each element is one of them
  pub each_some : (R : X → X → Type 0) → ((x : X) → R x x) → (xs : List X) → AllByRecursion (λ y. SomeByRecursion (λ x. R x y) xs) xs
  each_some R r [] = tt
  each_some R r (x ∷ xs) =
      (inl (r x), each_weaker (λ y. SomeByRecursion (λ z. R z y) xs) (λ y. SomeByRecursion (λ z. R z y) (x ∷ xs)) xs (λ y h. inr h) (each_some R r xs))

-- Targets among targets.

abbrev is_same : IoTarget → IoTarget → Bool
is_same (target.Chunk split column) (target.Chunk split' column') = eqb split split' && eqb column column'
is_same (target.Chunk split column) target.Size = false
is_same target.Size (target.Chunk split column) = false
is_same target.Size target.Size = true

is_itself : (x : IoTarget) → is_same x x ≡ true
is_itself (target.Chunk split column) = rw (eqb_same split, eqb_same column) refl
is_itself target.Size = refl

same_is : (x y : IoTarget) → is_same x y ≡ true → y ≡ x
same_is (target.Chunk split column) (target.Chunk split' column') e =
    let h = and_parts (eqb split split') (eqb column column') e in
    let s : split ≡ split' = eqb-true _ _ h.0 in
    let c : column ≡ column' = eqb-true _ _ h.1 in
    rw (s, c) refl
same_is (target.Chunk split column) target.Size e = absurd (cc)
same_is target.Size (target.Chunk split column) e = absurd (cc)
same_is target.Size target.Size e = refl

counted : (x : IoTarget) (xs : List IoTarget) → SomeByRecursion (λ y. y ≡ x) xs → 1 ≤ count_by (is_same x) xs
counted x [] s = absurd s
counted x (y ∷ ys) s =
    let h = count_cons (is_same x) y ys in
    ⊎_elim (λ e. let yes : is_same x y ≡ true = rw e (is_itself x) in let one : one_if (is_same x y) ≡ 1 = ap one_if yes in omega (arith, h, one)) (λ r. let t = counted x ys r in omega (arith, h, t)) s

found : (x : IoTarget) (xs : List IoTarget) → 1 ≤ count_by (is_same x) xs → SomeByRecursion (λ y. y ≡ x) xs
found x [] c = let none : count_by (is_same x) [] ≡ 0 = refl in absurd (omega (arith, c, none))
found x (y ∷ ys) c =
    let h = count_cons (is_same x) y ys in
    elim (is_same x y) as (λ b. is_same x y ≡ b → SomeByRecursion (λ z. z ≡ x) (y ∷ ys)) [
      | true ↦ λ e. inl (same_is x y e)
      | false ↦ λ e. inr (found x ys (let no : one_if (is_same x y) ≡ 0 = ap one_if e in omega (arith, h, no, c)))
    ] refl

-- a target of the fewer is one of the more
pub more_has : (more fewer : List IoTarget) (x : IoTarget) → IsSpent more [] fewer → SomeByRecursion (λ y. y ≡ x) fewer → SomeByRecursion (λ y. y ≡ x) more
more_has more fewer x s some =
    let c = counted x fewer some in
    let h : 0 + count_by (is_same x) fewer ≤ count_by (is_same x) more = s (is_same x) in
    found x more (omega (arith, c, h))

each_in : (P : IoTarget → Type 0) (xs : List IoTarget) → SomeByRecursion P xs → (x : IoTarget) × P x × SomeByRecursion (λ y. y ≡ x) xs
each_in P [] s = absurd s
each_in P (x ∷ xs) s = ⊎_elim (λ p. (x, p, inl refl)) (λ r. let h = each_in P xs r in (h.0, h.1, inr h.2)) s

pub more_fetched : (more fewer fetches : List IoTarget) → IsSpent more [] fewer → IsFetched fewer fetches → IsFetched more fetches
more_fetched more fewer fetches s f =
    let h = each_in (λ x. SomeByRecursion (λ fetch. fetch ≡ x) fetches) fewer f in
    some_weaker (λ y. y ≡ h.0) (λ x. SomeByRecursion (λ fetch. fetch ≡ x) fetches) more (λ y e. rw e h.1) (more_has more fewer h.0 s h.2)

fetched_before : (targets fetches others : List IoTarget) → IsFetched targets fetches → IsFetched targets (fetches ++ others)
fetched_before targets fetches others f = some_weaker (λ x. SomeByRecursion (λ fetch. fetch ≡ x) fetches) (λ x. SomeByRecursion (λ fetch. fetch ≡ x) (fetches ++ others)) targets (λ x h. some_before (λ fetch. fetch ≡ x) fetches others h) f

fetched_behind : (targets fetches others : List IoTarget) → IsFetched targets others → IsFetched targets (fetches ++ others)
fetched_behind targets fetches others f = some_weaker (λ x. SomeByRecursion (λ fetch. fetch ≡ x) others) (λ x. SomeByRecursion (λ fetch. fetch ≡ x) (fetches ++ others)) targets (λ x h. some_behind (λ fetch. fetch ≡ x) fetches others h) f

pub spent_same : (xs : List IoTarget) → IsSpent xs [] xs
spent_same xs test = let none : count_by test [] ≡ 0 = refl in omega (arith, none)

pub spent_on : (a b d f h : List IoTarget) → IsSpent a f b → IsSpent b h d → IsSpent a (f ++ h) d
spent_on a b d f h first then test =
    let one = first test in
    let two = then test in
    let j = count_join test f h in
    omega (arith, one, two, j)

-- Seats.

pub less_same : (seat : Seat) → IsLess seat seat
less_same seat = record { place = refl; scope = refl; targets = spent_same seat.targets; over_none = spent_same seat.over_none }

pub less_on : (a b d : Seat) → IsLess a b → IsLess b d → IsLess a d
less_on a b d first then = record {
  place = then.place ∙ first.place;
  scope = then.scope ∙ first.scope;
  targets = spent_on a.targets b.targets d.targets [] [] first.targets then.targets;
  over_none = spent_on a.over_none b.over_none d.over_none [] [] first.over_none then.over_none;
}

-- what is left of seats, once these targets were fetched
pub record Passes (old : List Seat) (fetches : List IoTarget) (new : List Seat) : Type 0 where
  pub from : AllByRecursion (λ seat. SomeByRecursion (λ was. IsLess was seat) old) new
  pub spent : IsSpent (targets_of old) fetches (targets_of new)
  pub fresh : AllByRecursion (StaysFresh new fetches) old

abbrev StillFresh : Seat → Seat → Type 0
StillFresh seat now = IsLess seat now × (now.fresh ≡ true)

-- each seat is one of them, and stays fresh if it is
pub stay_fresh : (seats : List Seat) (fetches : List IoTarget) → AllByRecursion (StaysFresh seats fetches) seats
stay_fresh seats fetches =
    each_weaker (λ seat. SomeByRecursion (λ now. seat.fresh ≡ true → StillFresh seat now) seats) (StaysFresh seats fetches) seats
    (λ seat some is. inl (some_weaker (λ now. seat.fresh ≡ true → StillFresh seat now) (StillFresh seat) seats (λ now h. h is) some))
    (each_some (λ now seat. seat.fresh ≡ true → StillFresh seat now) (λ seat is. (less_same seat, is)) seats)

pub stay_less : (seats : List Seat) → AllByRecursion (λ seat. SomeByRecursion (λ was. IsLess was seat) seats) seats
stay_less seats = each_some IsLess less_same seats

pub passes_same : (seats : List Seat) → Passes seats [] seats
passes_same seats = record { from = stay_less seats; spent = spent_same (targets_of seats); fresh = stay_fresh seats [] }

-- an earlier seat of an earlier seat
pub from_on : (a b d : List Seat) → AllByRecursion (λ seat. SomeByRecursion (λ was. IsLess was seat) a) b → AllByRecursion (λ seat. SomeByRecursion (λ was. IsLess was seat) b) d → AllByRecursion (λ seat. SomeByRecursion (λ was. IsLess was seat) a) d
from_on a b d first then =
    each_weaker (λ seat. SomeByRecursion (λ was. IsLess was seat) b) (λ seat. SomeByRecursion (λ was. IsLess was seat) a) d
    (λ seat some.
    let h = some_of (λ was. IsLess was seat) (λ mid. SomeByRecursion (λ was. IsLess was mid) a) b first some in
    some_weaker (λ was. IsLess was h.0) (λ was. IsLess was seat) a (λ was l. less_on was h.0 seat l h.1) h.2) then

pub passes_on : (a b d : List Seat) (f h : List IoTarget) → Passes a f b → Passes b h d → Passes a (f ++ h) d
passes_on a b d f h first then = record {
  from = from_on a b d first.from then.from;
  spent = spent_on (targets_of a) (targets_of b) (targets_of d) f h first.spent then.spent;
  fresh = each_weaker (StaysFresh b f) (StaysFresh d (f ++ h)) a
      (λ seat stays is.
      ⊎_elim (λ some.
      let m = some_of (StillFresh seat) (StaysFresh d h) b then.fresh some in
      let less = m.1.0 in
      ⊎_elim (λ still. inl (some_weaker (StillFresh m.0) (StillFresh seat) d (λ now s. (less_on seat m.0 now less s.0, s.1)) still))
      (λ fetched. inr (fetched_behind seat.over_none f h (more_fetched seat.over_none m.0.over_none h less.over_none fetched)))
      (m.2 m.1.1))
      (λ fetched. inr (fetched_before seat.over_none f h fetched))
      (stays is)) first.fresh;
}

-- beside seats that stay
pub passes_beside : (r a b : List Seat) (f : List IoTarget) → Passes a f b → Passes (r ++ a) f (r ++ b)
passes_beside r a b f p = record {
  from = each_append (λ seat. SomeByRecursion (λ was. IsLess was seat) (r ++ a)) r b
      (each_weaker (λ seat. SomeByRecursion (λ was. IsLess was seat) r) (λ seat. SomeByRecursion (λ was. IsLess was seat) (r ++ a)) r (λ seat s. some_before (λ was. IsLess was seat) r a s) (stay_less r))
      (each_weaker (λ seat. SomeByRecursion (λ was. IsLess was seat) a) (λ seat. SomeByRecursion (λ was. IsLess was seat) (r ++ a)) b (λ seat s. some_behind (λ was. IsLess was seat) r a s) p.from);
  spent = λ test.
      let h = p.spent test in
      let j = ap (count_by test) (flat_map-append (λ (seat : Seat). seat.targets) r a) ∙ count_join test (targets_of r) (targets_of a) in
      let k = ap (count_by test) (flat_map-append (λ (seat : Seat). seat.targets) r b) ∙ count_join test (targets_of r) (targets_of b) in
      omega (arith, h, j, k);
  fresh = each_append (StaysFresh (r ++ b) f) r a
      (each_weaker (StaysFresh r f) (StaysFresh (r ++ b) f) r (λ seat s is. ⊎_elim (λ still. inl (some_before (StillFresh seat) r b still)) (λ fetched. inr fetched) (s is)) (stay_fresh r f))
      (each_weaker (StaysFresh b f) (StaysFresh (r ++ b) f) a (λ seat s is. ⊎_elim (λ still. inl (some_behind (StillFresh seat) r b still)) (λ fetched. inr fetched) (s is)) p.fresh);
}

pub passes_before : (r a b : List Seat) (f : List IoTarget) → Passes a f b → Passes (a ++ r) f (b ++ r)
passes_before r a b f p = record {
  from = each_append (λ seat. SomeByRecursion (λ was. IsLess was seat) (a ++ r)) b r
      (each_weaker (λ seat. SomeByRecursion (λ was. IsLess was seat) a) (λ seat. SomeByRecursion (λ was. IsLess was seat) (a ++ r)) b (λ seat s. some_before (λ was. IsLess was seat) a r s) p.from)
      (each_weaker (λ seat. SomeByRecursion (λ was. IsLess was seat) r) (λ seat. SomeByRecursion (λ was. IsLess was seat) (a ++ r)) r (λ seat s. some_behind (λ was. IsLess was seat) a r s) (stay_less r));
  spent = λ test.
      let h = p.spent test in
      let j = ap (count_by test) (flat_map-append (λ (seat : Seat). seat.targets) a r) ∙ count_join test (targets_of a) (targets_of r) in
      let k = ap (count_by test) (flat_map-append (λ (seat : Seat). seat.targets) b r) ∙ count_join test (targets_of b) (targets_of r) in
      omega (arith, h, j, k);
  fresh = each_append (StaysFresh (b ++ r) f) a r
      (each_weaker (StaysFresh b f) (StaysFresh (b ++ r) f) a (λ seat s is. ⊎_elim (λ still. inl (some_before (StillFresh seat) b r still)) (λ fetched. inr fetched) (s is)) p.fresh)
      (each_weaker (StaysFresh r f) (StaysFresh (b ++ r) f) r (λ seat s is. ⊎_elim (λ still. inl (some_behind (StillFresh seat) b r still)) (λ fetched. inr fetched) (s is)) (stay_fresh r f));
}

-- seats that are not fresh may leave
pub passes_gone : (seats : List Seat) → AllByRecursion (λ seat. seat.fresh ≡ false) seats → Passes seats [] []
passes_gone seats none = record {
  from = tt;
  spent = λ test. let zero' : count_by test [] ≡ 0 = refl in omega (arith, zero');
  fresh = each_weaker (λ seat. seat.fresh ≡ false) (StaysFresh [] []) seats (λ seat no is. absurd (cc)) none;
}

-- in another order
pub passes_swapped : (a b : List Seat) → Passes (a ++ b) [] (b ++ a)
passes_swapped a b = record {
  from = each_append (λ seat. SomeByRecursion (λ was. IsLess was seat) (a ++ b)) b a
      (each_weaker (λ seat. SomeByRecursion (λ was. IsLess was seat) b) (λ seat. SomeByRecursion (λ was. IsLess was seat) (a ++ b)) b (λ seat s. some_behind (λ was. IsLess was seat) a b s) (stay_less b))
      (each_weaker (λ seat. SomeByRecursion (λ was. IsLess was seat) a) (λ seat. SomeByRecursion (λ was. IsLess was seat) (a ++ b)) a (λ seat s. some_before (λ was. IsLess was seat) a b s) (stay_less a));
  spent = λ test.
      let j = ap (count_by test) (flat_map-append (λ (seat : Seat). seat.targets) a b) ∙ count_join test (targets_of a) (targets_of b) in
      let k = ap (count_by test) (flat_map-append (λ (seat : Seat). seat.targets) b a) ∙ count_join test (targets_of b) (targets_of a) in
      let none : count_by test [] ≡ 0 = refl in
      omega (arith, j, k, none);
  fresh = each_append (StaysFresh (b ++ a) []) a b
      (each_weaker (StaysFresh a []) (StaysFresh (b ++ a) []) a (λ seat s is. ⊎_elim (λ still. inl (some_behind (StillFresh seat) b a still)) (λ fetched. inr fetched) (s is)) (stay_fresh a []))
      (each_weaker (StaysFresh b []) (StaysFresh (b ++ a) []) b (λ seat s is. ⊎_elim (λ still. inl (some_before (StillFresh seat) b a still)) (λ fetched. inr fetched) (s is)) (stay_fresh b []));
}

-- The seats of items.

module _ {X : Type 0} (g : X → List Seat) where
  pub passes_set : (xs : List X) (i : ℕ) (x y : X) (f : List IoTarget) → slice_get xs i ≡ Some x → Passes (g x) f (g y) → Passes (flat_map g xs) f (flat_map g (set xs i y))
  passes_set [] i x y f there p = absurd (cc)
  passes_set (z ∷ zs) zero x y f there p = let same : z ≡ x = cc in passes_before (flat_map g zs) (g z) (g y) f (rw same p)
  passes_set (z ∷ zs) (suc i) x y f there p = passes_beside (g z) (flat_map g zs) (flat_map g (set zs i y)) f (passes_set zs i x y f there p)

  pub passes_removed : (xs : List X) (i : ℕ) (x : X) → slice_get xs i ≡ Some x → AllByRecursion (λ seat. seat.fresh ≡ false) (g x) → Passes (flat_map g xs) [] (flat_map g (remove xs i))
  passes_removed [] i x there none = absurd (cc)
  passes_removed (z ∷ zs) zero x there none = let same : z ≡ x = cc in passes_before (flat_map g zs) (g z) [] [] (passes_gone (g z) (rw same none))
  passes_removed (z ∷ zs) (suc i) x there none = passes_beside (g z) (flat_map g zs) (flat_map g (remove zs i)) [] (passes_removed zs i x there none)

  -- one takes its first seats apart
  passes_parted : (xs : List X) (i : ℕ) (x y : X) (firsts : List Seat) → slice_get xs i ≡ Some x → g x ≡ firsts ++ g y → Passes (flat_map g xs) [] (flat_map g (set xs i y) ++ firsts)
  passes_parted [] i x y firsts there parts = absurd (cc)
  passes_parted (z ∷ zs) zero x y firsts there parts =
      let same : z ≡ x = cc in
      let is : flat_map g (z ∷ zs) ≡ firsts ++ (g y ++ flat_map g zs) = ap (λ s. s ++ flat_map g zs) (ap g same ∙ parts) ∙ append_assoc firsts (g y) (flat_map g zs) in
      subst (λ s. Passes s [] ((g y ++ flat_map g zs) ++ firsts)) (sym is) (passes_swapped firsts (g y ++ flat_map g zs))
  passes_parted (z ∷ zs) (suc i) x y firsts there parts =
      subst (λ s. Passes (g z ++ flat_map g zs) [] s) (sym (append_assoc (g z) (flat_map g (set zs i y)) firsts))
      (passes_beside (g z) (flat_map g zs) (flat_map g (set zs i y) ++ firsts) [] (passes_parted zs i x y firsts there parts))

  pub passes_split : (xs : List X) (i : ℕ) (x y child : X) → slice_get xs i ≡ Some x → g x ≡ g child ++ g y → Passes (flat_map g xs) [] (flat_map g (set xs i y ++ child ∷ []))
  passes_split xs i x y child there parts =
      let is : flat_map g (set xs i y ++ child ∷ []) ≡ flat_map g (set xs i y) ++ g child = flat_map-append g (set xs i y) (child ∷ []) ∙ ap (λ s. flat_map g (set xs i y) ++ s) (append-nil (g child)) in
      subst (λ s. Passes (flat_map g xs) [] s) (sym is) (passes_parted xs i x y (g child) there parts)

  -- some of the items are left
  pub from_filtered : (p : X → Bool) (xs : List X) → AllByRecursion (λ seat. SomeByRecursion (λ was. IsLess was seat) (flat_map g xs)) (flat_map g (filter p xs))
  from_filtered p [] = tt
  from_filtered p (x ∷ xs) =
      let rest = each_weaker (λ seat. SomeByRecursion (λ was. IsLess was seat) (flat_map g xs)) (λ seat. SomeByRecursion (λ was. IsLess was seat) (g x ++ flat_map g xs)) (flat_map g (filter p xs))
      (λ seat s. some_behind (λ was. IsLess was seat) (g x) (flat_map g xs) s) (from_filtered p xs) in
      elim (p x) as (λ b. AllByRecursion (λ seat. SomeByRecursion (λ was. IsLess was seat) (g x ++ flat_map g xs)) (flat_map g (cond b (x ∷ filter p xs) (filter p xs)))) [
        | true ↦ each_append (λ seat. SomeByRecursion (λ was. IsLess was seat) (g x ++ flat_map g xs)) (g x) (flat_map g (filter p xs))
            (each_weaker (λ seat. SomeByRecursion (λ was. IsLess was seat) (g x)) (λ seat. SomeByRecursion (λ was. IsLess was seat) (g x ++ flat_map g xs)) (g x) (λ seat s. some_before (λ was. IsLess was seat) (g x) (flat_map g xs) s) (stay_less (g x))) rest
        | false ↦ rest
      ]

-- One seat.

-- its targets, as those of its list
pub spent_flat : (was now : Seat) (fetches : List IoTarget) → IsSpent was.targets fetches now.targets → IsSpent (targets_of (was ∷ [])) fetches (targets_of (now ∷ []))
spent_flat was now fetches s test =
    let h = s test in
    let j = ap (count_by test) (append-nil was.targets) in
    let k = ap (count_by test) (append-nil now.targets) in
    omega (arith, h, j, k)

-- the first of what is fetched was there
pub fetched_head : (was now fetches : List IoTarget) → IsSpent was fetches now → (fetches ≡ []) ⊎ IsFetched was fetches
fetched_head was now [] s = inl refl
fetched_head was now (x ∷ xs) s =
    let c = counted x (x ∷ xs) (inl refl) in
    let h = s (is_same x) in
    let some = found x was (omega (arith, c, h)) in
    inr (some_weaker (λ y. y ≡ x) (λ y. SomeByRecursion (λ fetch. fetch ≡ y) (x ∷ xs)) was (λ y e. inl (sym e)) some)
