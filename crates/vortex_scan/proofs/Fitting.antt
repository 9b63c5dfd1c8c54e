-- What a run keeps, through each step.
use Rattle.std.proofs.Common.{◌≡◌, ◌≢◌, ℕ, zero, suc, ◌+◌, ◌<◌, ◌≤◌, List, [], ◌∷◌, ◌++◌, refl, sym, ◌∙◌, ap, subst, Bool, true, false, cond, not, ◌||◌, Some, arith, length, filter, map, ⊎_elim}
use Rattle.std.specs.Prelude.{slice_get, eqb}
use Rattle.std.specs.List.{AllByRecursion, list_any, remove}
use Rattle.std.proofs.Math.ListN.{set}
use Rattle.std.proofs.lemmas.Bool.{eqb-true}
use Rattle.std.proofs.lemmas.Bool.Decides.{nat_tests}
use Rattle.std.proofs.lemmas.List.Folds.{list_any-append}
use Rattle.vortex_io.specs.Source.{Completes, Taken, TakesNone, TakesOne, is_named, is_of_others, without_owner}
use Rattle.vortex_io.specs.declared.ids.IoOwnerId.{IoOwnerId}
use Rattle.vortex_io.specs.declared.ids.IoRequestId.{IoRequestId}
use Rattle.vortex_io.specs.declared.request.Completion.{Completion}
use Rattle.vortex_io.specs.declared.request.Fetch.{Fetch}
use Rattle.vortex_io.specs.declared.source.IoSource.{Ghosts}
use Rattle.vortex_scan.specs.declared.item.Item.{Item}
use Rattle.vortex_scan.specs.declared.item.Slot.{Slot}
use Rattle.vortex_scan_types.specs.declared.place.RootId.{RootId}
use Rattle.vortex_scan.specs.Fetching.{numbers}
use Rattle.vortex_scan.specs.Fits.{AreKept, AreOwn, AreRising, ItemFits, LiveFits}
use Rattle.vortex_scan.specs.Numbers.{repeats}
use Rattle.vortex_scan.specs.RunState.{is_of_root, live_with}
use Rattle.vortex_scan.specs.Steps.{Delivers, Hands, handed}
use Rattle.vortex_scan.specs.declared.worker.Worker.{Ghosts as Works}
use Rattle.std.proofs.lemmas.List.{map-append}
use Rattle.vortex_scan.proofs.Places.{each_append, each_at, each_before, each_behind, each_filter, each_push, each_remove, each_set_of_removed, each_weaker, get_set, get_set_other, none_passes}

eqb-refl : (n : ℕ) → eqb n n ≡ true
eqb-refl n = grind (arith, nat_tests)

-- two facts of each element as one
pub each_both : {A : Type 0} (P Q R : A → Type 0) (xs : List A) → ((x : A) → P x → Q x → R x) → AllByRecursion P xs → AllByRecursion Q xs → AllByRecursion R xs
each_both P Q R [] f a b = tt
each_both P Q R (x ∷ xs) f a b = (f x a.0 b.0, each_both P Q R xs f a.1 b.1)

pub get_before : {A : Type 0} (xs ys : List A) (i : ℕ) (x : A) → slice_get xs i ≡ Some x → slice_get (xs ++ ys) i ≡ Some x
get_before [] ys i x e = absurd (cc)
get_before (z ∷ xs) ys zero x e = e
get_before (z ∷ xs) ys (suc i) x e = get_before xs ys i x e

pub get_end : {A : Type 0} (xs : List A) (y : A) → slice_get (xs ++ y ∷ []) (length xs) ≡ Some y
get_end [] y = refl
get_end (x ∷ xs) y = get_end xs y

below_other : (x y : ℕ) → x < y → y ≢ x
below_other x y h e = omega (arith, h, e)

above_other : (x y : ℕ) → x < y → x ≢ y
above_other x y h e = omega (arith, h, e)

-- Items in the order of their owners.
module _ {W : Type 0} where
  -- another item than the one at a place is another owner's
  pub others : (items : List (Item W)) (at : ℕ) (item : Item W) → AreRising items → slice_get items at ≡ Some item → AllByRecursion (λ (other : Item W). other.owner.0 ≢ item.owner.0) (remove items at)
  others [] at item r there = absurd (cc)
  others (x ∷ xs) zero item r there =
      let same : x ≡ item = cc in
      each_weaker (λ (other : Item W). x.owner.0 < other.owner.0) (λ (other : Item W). other.owner.0 ≢ item.owner.0) xs (λ y h. below_other item.owner.0 y.owner.0 (subst (λ (z : Item W). z.owner.0 < y.owner.0) same h)) r.0
  others (x ∷ xs) (suc at) item r there =
      (above_other x.owner.0 item.owner.0 (each_at (λ (other : Item W). x.owner.0 < other.owner.0) xs at item r.0 there), others xs at item r.1 there)

  pub rising_remove : (items : List (Item W)) (at : ℕ) → AreRising items → AreRising (remove items at)
  rising_remove [] zero r = tt
  rising_remove [] (suc at) r = tt
  rising_remove (x ∷ xs) zero r = r.1
  rising_remove (x ∷ xs) (suc at) r = (each_remove (λ (other : Item W). x.owner.0 < other.owner.0) xs at r.0, rising_remove xs at r.1)

  set_above : (items : List (Item W)) (at n : ℕ) (item now : Item W) → slice_get items at ≡ Some item → now.owner ≡ item.owner → AllByRecursion (λ (other : Item W). n < other.owner.0) items → AllByRecursion (λ (other : Item W). n < other.owner.0) (set items at now)
  set_above [] at n item now there same a = absurd (cc)
  set_above (x ∷ xs) zero n item now there same a =
      let e : x ≡ item = cc in
      (subst (λ (o : IoOwnerId). n < o.0) (sym same) (subst (λ (z : Item W). n < z.owner.0) e a.0), a.1)
  set_above (x ∷ xs) (suc at) n item now there same a = (a.0, set_above xs at n item now there same a.1)

  pub rising_set : (items : List (Item W)) (at : ℕ) (item now : Item W) → slice_get items at ≡ Some item → now.owner ≡ item.owner → AreRising items → AreRising (set items at now)
  rising_set [] at item now there same r = absurd (cc)
  rising_set (x ∷ xs) zero item now there same r =
      let e : x ≡ item = cc in (
        each_weaker (λ (other : Item W). x.owner.0 < other.owner.0) (λ (other : Item W). now.owner.0 < other.owner.0) xs
            (λ y h. subst (λ (o : IoOwnerId). o.0 < y.owner.0) (sym same) (subst (λ (z : Item W). z.owner.0 < y.owner.0) e h)) r.0,
        r.1,
      )
  rising_set (x ∷ xs) (suc at) item now there same r = (set_above xs at x.owner.0 item now there same r.0, rising_set xs at item now there same r.1)

  pub rising_push : (items : List (Item W)) (item : Item W) (n : ℕ) → item.owner.0 ≡ n → AllByRecursion (λ (other : Item W). other.owner.0 < n) items → AreRising items → AreRising (items ++ item ∷ [])
  rising_push [] item n e below r = (tt, tt)
  rising_push (x ∷ xs) item n e below r = (each_push (λ (other : Item W). x.owner.0 < other.owner.0) xs item r.0 (rw e below.0), rising_push xs item n e below.1 r.1)

  pub rising_filter : (p : Item W → Bool) (items : List (Item W)) → AreRising items → AreRising (filter p items)
  rising_filter p [] r = tt
  rising_filter p (x ∷ xs) r =
      let Above : Item W → Type 0 = λ other. x.owner.0 < other.owner.0 in
      elim (p x) as (λ b. AreRising (cond b (x ∷ filter p xs) (filter p xs)))
      [ true ↦ (each_filter Above Above p xs (λ y e h. h) r.0, rising_filter p xs r.1) | false ↦ rising_filter p xs r.1 ]

-- Fetches that stay outstanding.
abbrev pub OthersStay : IoOwnerId → List Fetch → List Fetch → Type 0
OthersStay owner old new = (other : IoOwnerId) (number : IoRequestId) → other.0 ≢ owner.0 → list_any (is_named other number) old ≡ true → list_any (is_named other number) new ≡ true

or_left : (a b : Bool) → a ≡ true → (a || b) ≡ true
or_left a b e = rw e refl

or_right : (a b : Bool) → b ≡ true → (a || b) ≡ true
or_right true b e = refl
or_right false b e = e

or_false : (a b : Bool) → a ≡ false → (a || b) ≡ true → b ≡ true
or_false true b e h = absurd (cc)
or_false false b e h = h

pub any_before : {A : Type 0} (p : A → Bool) (xs ys : List A) → list_any p xs ≡ true → list_any p (xs ++ ys) ≡ true
any_before p xs ys e = list_any-append p xs ys ∙ or_left (list_any p xs) (list_any p ys) e

pub any_behind : {A : Type 0} (p : A → Bool) (xs ys : List A) → list_any p ys ≡ true → list_any p (xs ++ ys) ≡ true
any_behind p xs ys e = list_any-append p xs ys ∙ or_right (list_any p xs) (list_any p ys) e

-- an element that fails a test may leave
any_without : {A : Type 0} (p : A → Bool) (xs ys : List A) (x : A) → p x ≡ false → list_any p (xs ++ x ∷ ys) ≡ true → list_any p (xs ++ ys) ≡ true
any_without p [] ys x fails h = or_false (p x) (list_any p ys) fails h
any_without {A} p (z ∷ xs) ys x fails h =
    elim (p z) as (λ b. (b || list_any p (xs ++ x ∷ ys)) ≡ true → (b || list_any p (xs ++ ys)) ≡ true) [ true ↦ λ e. refl | false ↦ λ e. any_without p xs ys x fails e ] h

other_owner : (other : IoOwnerId) (number : IoRequestId) (entry : Fetch) → other.0 ≢ entry.owner.0 → is_named other number entry ≡ false
other_owner other number entry ne = grind (arith, nat_tests)

other_number : (owner : IoOwnerId) (number : IoRequestId) (entry : Fetch) → number.0 ≢ entry.request.0 → is_named owner number entry ≡ false
other_number owner number entry ne = grind (arith, nat_tests)

-- what is taken leaves other owners' fetches, and those of other numbers
pub taken_stays : (owner : IoOwnerId) (number : IoRequestId) (old new : List Fetch) (entry : Fetch) → Taken owner number old new entry → OthersStay owner old new
taken_stays owner number old new entry t other n ne h =
    let fails : is_named other n entry ≡ false = other_owner other n entry (rw t.whose ne) in
    rw t.left (any_without (is_named other n) t.before t.behind entry fails (rw t.stood at h))

pub taken_leaves : (owner : IoOwnerId) (number : IoRequestId) (old new : List Fetch) (entry : Fetch) → Taken owner number old new entry → (o : IoOwnerId) (n : IoRequestId) → n.0 ≢ number.0 → list_any (is_named o n) old ≡ true → list_any (is_named o n) new ≡ true
taken_leaves owner number old new entry t o n ne h =
    let fails : is_named o n entry ≡ false = other_number o n entry (rw t.number ne) in
    rw t.left (any_without (is_named o n) t.before t.behind entry fails (rw t.stood at h))

own_is_no_other : (owner other : IoOwnerId) (n : IoRequestId) (f : Fetch) → other.0 ≢ owner.0 → is_of_others owner f ≡ false → is_named other n f ≡ false
own_is_no_other owner other n f ne own = grind (arith, nat_tests)

-- what is released leaves other owners' fetches
pub released_stays : (owner : IoOwnerId) (old : List Fetch) → OthersStay owner old (without_owner owner old)
released_stays owner [] other n ne h = h
released_stays owner (f ∷ fs) other n ne h =
    elim (is_of_others owner f) as (λ b. is_of_others owner f ≡ b → list_any (is_named other n) (cond b (f ∷ without_owner owner fs) (without_owner owner fs)) ≡ true) [
      | true ↦ λ e. elim (is_named other n f) as (λ b. (b || list_any (is_named other n) fs) ≡ true → (b || list_any (is_named other n) (without_owner owner fs)) ≡ true)
          [ true ↦ λ k. refl | false ↦ λ k. released_stays owner fs other n ne k ] h
      | false ↦ λ e. released_stays owner fs other n ne (or_false (is_named other n f) (list_any (is_named other n) fs) (own_is_no_other owner other n f ne e) h)
    ] refl

get_middle : (xs : List ℕ) (n : ℕ) (ys : List ℕ) → slice_get (xs ++ n ∷ ys) (length xs) ≡ Some n
get_middle [] n ys = refl
get_middle (x ∷ xs) n ys = get_middle xs n ys

any_fewer : (p : ℕ → Bool) (xs ys : List ℕ) (n : ℕ) → list_any p (xs ++ n ∷ ys) ≡ false → list_any p (xs ++ ys) ≡ false
any_fewer p [] ys n none = grind arith
any_fewer p (x ∷ xs) ys n none = let both : (p x ≡ false) × (list_any p (xs ++ n ∷ ys) ≡ false) = (grind arith, grind arith) in let ih = any_fewer p xs ys n both.1 in grind arith

-- the numbers of an item's other fetches, once one was taken, are others
one_number : (xs ys : List ℕ) (n : ℕ) → repeats (xs ++ n ∷ ys) ≡ false → AllByRecursion (λ k. k ≢ n) (xs ++ ys)
one_number [] ys n distinct =
    let none : list_any (eqb n) ys ≡ false = grind arith in
    each_weaker (λ k. eqb n k ≡ false) (λ k. k ≢ n) ys (λ k h e. let t : eqb n k ≡ true = grind (arith, nat_tests) in cc) (none_passes (eqb n) ys none)
one_number (x ∷ xs) ys n distinct =
    let both : (list_any (eqb x) (xs ++ n ∷ ys) ≡ false) × (repeats (xs ++ n ∷ ys) ≡ false) = (grind arith, grind arith) in
    let each = none_passes (eqb x) (xs ++ n ∷ ys) both.0 in
    let here : eqb x n ≡ false = each_at (λ k. eqb x k ≡ false) (xs ++ n ∷ ys) (length xs) n each (get_middle xs n ys) in
    ((λ e. let t : eqb x n ≡ true = grind (arith, nat_tests) in cc), one_number xs ys n both.1)

-- fewer numbers do not repeat
fewer_distinct : (xs ys : List ℕ) (n : ℕ) → repeats (xs ++ n ∷ ys) ≡ false → repeats (xs ++ ys) ≡ false
fewer_distinct [] ys n distinct = grind arith
fewer_distinct (x ∷ xs) ys n distinct =
    let both : (list_any (eqb x) (xs ++ n ∷ ys) ≡ false) × (repeats (xs ++ n ∷ ys) ≡ false) = (grind arith, grind arith) in
    let ih = fewer_distinct xs ys n both.1 in
    let none = any_fewer (eqb x) xs ys n both.0 in
    grind arith

each_unmap : {A B : Type 0} (f : A → B) (Q : B → Type 0) (xs : List A) → AllByRecursion Q (map f xs) → AllByRecursion (λ x. Q (f x)) xs
each_unmap f Q [] a = tt
each_unmap f Q (x ∷ xs) a = (a.0, each_unmap f Q xs a.1)

-- what holds of all fetches holds of those that are left
pub each_fewer : (Q : Fetch → Type 0) (owner : IoOwnerId) (number : IoRequestId) (old new : List Fetch) (entry : Fetch) → Taken owner number old new entry → AllByRecursion Q old → AllByRecursion Q new
each_fewer Q owner number old new entry t a =
    let b : AllByRecursion Q (t.before ++ entry ∷ t.behind) = rw t.stood at a in
    rw t.left (each_append Q t.before t.behind (each_before Q t.before (entry ∷ t.behind) b) (each_behind Q t.before (entry ∷ t.behind) b).1)

set_same : {A : Type 0} (xs : List A) (i : ℕ) (x : A) → slice_get xs i ≡ Some x → set xs i x ≡ xs
set_same [] i x e = absurd (cc)
set_same (y ∷ ys) zero x e = let same : x ≡ y = cc in ap (λ z. z ∷ ys) same
set_same (y ∷ ys) (suc i) x e = ap (λ zs. y ∷ zs) (set_same ys i x e)

-- what was handed to an item leaves it fetches that are its own, apart, and other than the one that was taken
pub left_fits : {C : Type 0} (completion : Completion C) (asked left : List Fetch) (entry : Fetch) (owner : IoOwnerId) → Taken completion.owner completion.request asked left entry → AreOwn owner asked → repeats (numbers asked) ≡ false
    → AreOwn owner left × (repeats (numbers left) ≡ false) × AllByRecursion (λ (x : Fetch). x.request.0 ≢ completion.request.0) left × (completion.owner ≡ owner)
left_fits completion asked left entry owner t own distinct =
    let number : Fetch → ℕ = λ x. x.request.0 in
    let own' : AreOwn owner (t.before ++ entry ∷ t.behind) = rw t.stood at own in
    let Own : Fetch → Type 0 = λ x. x.owner ≡ owner in
    let before = each_before Own t.before (entry ∷ t.behind) own' in
    let behind = each_behind Own t.before (entry ∷ t.behind) own' in
    let parts : numbers (t.before ++ entry ∷ t.behind) ≡ numbers t.before ++ entry.request.0 ∷ numbers t.behind = map-append number t.before (entry ∷ t.behind) in
    let apart : repeats (numbers t.before ++ entry.request.0 ∷ numbers t.behind) ≡ false = rw (t.stood, parts) at distinct in
    let joined : numbers (t.before ++ t.behind) ≡ numbers t.before ++ numbers t.behind = map-append number t.before t.behind in
    let others' : AllByRecursion (λ k. k ≢ entry.request.0) (numbers (t.before ++ t.behind)) = rw joined (one_number (numbers t.before) (numbers t.behind) entry.request.0 apart) in
    let whose : completion.owner ≡ owner = sym t.whose ∙ behind.0 in (
      rw t.left (each_append Own t.before t.behind before behind.1),
      rw (t.left, joined) (fewer_distinct (numbers t.before) (numbers t.behind) entry.request.0 apart),
      rw (t.left, ← t.number) (each_unmap number (λ k. k ≢ entry.request.0) (t.before ++ t.behind) others'),
      whose,
    )

-- Runs that fit, over one kind of source.
abbrev pub out : {S C : Type 0} → Ghosts S C → Slot S → List Fetch
out source slot = source.outstanding slot.source

module _ {W S C : Type 0} (source : Ghosts S C) where
  -- an item fits with more sources and more numbers
  pub fits_more : (slots : List (Slot S)) (slot : Slot S) (owners : ℕ) (item : Item W) → ItemFits source slots owners item → ItemFits source (slots ++ slot ∷ []) (owners + 1) item
  fits_more slots slot owners item f = record {
    slot = f.slot;
    there = get_before slots (slot ∷ []) item.root.0 f.slot f.there;
    live = f.live;
    kept = f.kept;
    own = f.own;
    distinct = f.distinct;
    owner = omega (arith, f.owner);
    next = omega (arith, f.next);
    parked = f.parked;
  }

  -- a root that joins fits
  pub admit_fits : (items : List (Item W)) (slots : List (Slot S)) (owners roots : ℕ) (slot : Slot S) (item : Item W) → length slots ≡ roots → LiveFits source (live_with items slots owners)
      → slot.live ≡ true → item.root.0 ≡ roots → item.owner.0 ≡ owners → item.next ≡ 0 → item.asked ≡ [] → item.ready ≡ true
      → LiveFits source (live_with (items ++ item ∷ []) (slots ++ slot ∷ []) (owners + 1))
  admit_fits items slots owners roots slot item long fits live root owner next asked ready =
      let Q : Item W → Type 0 = ItemFits source (slots ++ slot ∷ []) (owners + 1) in
      let more : AllByRecursion Q items = each_weaker (ItemFits source slots owners) Q items (λ x f. fits_more slots slot owners x f) fits.each in
      let there : slice_get (slots ++ slot ∷ []) item.root.0 ≡ Some slot = rw (root, ← long) (get_end slots slot) in
      let one : Q item = record {
        slot = slot;
        there = there;
        live = live;
        kept = rw asked tt;
        own = rw asked tt;
        distinct = rw asked refl;
        owner = omega (arith, owner);
        next = omega (arith, next);
        parked = λ e. absurd (let t = ready in cc);
      } in
      record {
        each = each_push Q items item more one;
        rising = rising_push items item owners owner (each_weaker (ItemFits source slots owners) (λ (other : Item W). other.owner.0 < owners) items (λ x f. f.owner) fits.each) fits.rising;
      }

  -- one item changes, and the others fit still
  pub fits_set : (items : List (Item W)) (slots slots' : List (Slot S)) (owners owners' at : ℕ) (item now : Item W) → LiveFits source (live_with items slots owners) → slice_get items at ≡ Some item
      → ((other : Item W) → other.owner.0 ≢ item.owner.0 → ItemFits source slots owners other → ItemFits source slots' owners' other)
      → now.owner ≡ item.owner → ItemFits source slots' owners' now → LiveFits source (live_with (set items at now) slots' owners')
  fits_set items slots slots' owners owners' at item now fits there keep same one =
      let Others : Item W → Type 0 = λ other. other.owner.0 ≢ item.owner.0 in
      record {
        each = each_set_of_removed (ItemFits source slots' owners') items at now
            (each_both Others (ItemFits source slots owners) (ItemFits source slots' owners') (remove items at) keep (others items at item fits.rising there) (each_remove (ItemFits source slots owners) items at fits.each)) one;
        rising = rising_set items at item now there same fits.rising;
      }

  -- one item leaves, and the others fit still
  pub fits_remove : (items : List (Item W)) (slots slots' : List (Slot S)) (owners at : ℕ) (item : Item W) → LiveFits source (live_with items slots owners) → slice_get items at ≡ Some item
      → AllByRecursion (λ (other : Item W). other.owner.0 ≢ item.owner.0 → ItemFits source slots owners other → ItemFits source slots' owners other) (remove items at)
      → LiveFits source (live_with (remove items at) slots' owners)
  fits_remove items slots slots' owners at item fits there keep =
      let Others : Item W → Type 0 = λ other. other.owner.0 ≢ item.owner.0 in
      let Old : Item W → Type 0 = ItemFits source slots owners in
      let New : Item W → Type 0 = ItemFits source slots' owners in
      record {
        each = each_both Old New New (remove items at) (λ x f g. g) (each_remove Old items at fits.each)
            (each_both (λ (other : Item W). Others other → Old other → New other) (λ (other : Item W). Others other × Old other) New (remove items at) (λ x f g. f g.0 g.1) keep
            (each_both Others Old (λ (other : Item W). Others other × Old other) (remove items at) (λ x f g. (f, g)) (others items at item fits.rising there) (each_remove Old items at fits.each)));
        rising = rising_remove items at fits.rising;
      }

  -- another owner's item fits once the source of a root was called, if the fetches of others stayed
  pub other_called : (slots : List (Slot S)) (root owners owners' : ℕ) (slot slot' : Slot S) (owner : IoOwnerId) → slice_get slots root ≡ Some slot → slot'.live ≡ slot.live → owners ≤ owners' → OthersStay owner (out source slot) (out source slot')
      → (other : Item W) → other.owner.0 ≢ owner.0 → ItemFits source slots owners other → ItemFits source (set slots root slot') owners' other
  other_called slots root owners owners' slot slot' owner there live more stay other ne f =
      elim (eqb other.root.0 root) as (λ b. eqb other.root.0 root ≡ b → ItemFits source (set slots root slot') owners' other) [
        | true ↦ λ e.
            let same : other.root.0 ≡ root = eqb-true _ _ e in
            let mine : slot ≡ f.slot = let h : slice_get slots root ≡ Some f.slot = rw same at f.there in cc in
            record {
              slot = slot';
              there = rw same (get_set slots root slot slot' there);
              live = live ∙ (rw (← mine) at f.live);
              kept = each_both (λ (x : Fetch). list_any (is_named x.owner x.request) (out source f.slot) ≡ true) (λ (x : Fetch). x.owner ≡ other.owner) (λ (x : Fetch). list_any (is_named x.owner x.request) (out source slot') ≡ true) other.asked
                  (λ x k o. stay x.owner x.request (rw o ne) (rw (← mine) at k)) f.kept f.own;
              own = f.own;
              distinct = f.distinct;
              owner = omega (arith, f.owner, more);
              next = omega (arith, f.next, more);
              parked = f.parked;
            }
        | false ↦ λ e.
            let differs : other.root.0 ≢ root = λ h. let t : eqb other.root.0 root ≡ true = rw h (eqb-refl root) in cc in
            record {
              slot = f.slot;
              there = get_set_other slots root other.root.0 slot' differs ∙ f.there;
              live = f.live;
              kept = f.kept;
              own = f.own;
              distinct = f.distinct;
              owner = omega (arith, f.owner, more);
              next = omega (arith, f.next, more);
              parked = f.parked;
            }
      ] refl

  -- an item of another root fits whatever became of a root's slot
  pub other_root : (slots : List (Slot S)) (root owners : ℕ) (slot' : Slot S) (other : Item W) → other.root.0 ≢ root → ItemFits source slots owners other → ItemFits source (set slots root slot') owners other
  other_root slots root owners slot' other differs f = record {
    slot = f.slot;
    there = get_set_other slots root other.root.0 slot' differs ∙ f.there;
    live = f.live;
    kept = f.kept;
    own = f.own;
    distinct = f.distinct;
    owner = f.owner;
    next = f.next;
    parked = f.parked;
  }

  -- a root's items leave
  pub cancel_fits : (items : List (Item W)) (slots : List (Slot S)) (owners : ℕ) (root : RootId) (slot' : Slot S) → LiveFits source (live_with items slots owners)
      → LiveFits source (live_with (filter (λ item. not (is_of_root root item)) items) (set slots root.0 slot') owners)
  cancel_fits items slots owners root slot' fits = record {
    each = each_filter (ItemFits source slots owners) (ItemFits source (set slots root.0 slot') owners) (λ item. not (is_of_root root item)) items
        (λ x e f. other_root slots root.0 owners slot' x (λ h. let t : eqb x.root.0 root.0 ≡ true = rw h (eqb-refl root.0) in cc) f) fits.each;
    rising = rising_filter (λ item. not (is_of_root root item)) items fits.rising;
  }

  -- an item fits once the source of a root was called in a way that leaves what is outstanding
  quiet_called : (slots : List (Slot S)) (root owners : ℕ) (slot : Slot S) (after : S) → slice_get slots root ≡ Some slot → source.outstanding after ≡ source.outstanding slot.source
      → (item : Item W) → ItemFits source slots owners item → ItemFits source (set slots root (record slot { source = after })) owners item
  quiet_called slots root owners slot after there same item f =
      elim (eqb item.root.0 root) as (λ b. eqb item.root.0 root ≡ b → ItemFits source (set slots root (record slot { source = after })) owners item) [
        | true ↦ λ e.
            let here : item.root.0 ≡ root = eqb-true _ _ e in
            let mine : slot ≡ f.slot = let h : slice_get slots root ≡ Some f.slot = rw here at f.there in cc in
            record {
              slot = record slot { source = after };
              there = rw here (get_set slots root slot (record slot { source = after }) there);
              live = rw (← mine) at f.live;
              kept = rw same (rw (← mine) at f.kept);
              own = f.own;
              distinct = f.distinct;
              owner = f.owner;
              next = f.next;
              parked = f.parked;
            }
        | false ↦ λ e. other_root slots root owners (record slot { source = after }) item (λ h. let t : eqb item.root.0 root ≡ true = rw h (eqb-refl root) in cc) f
      ] refl

  -- the item that was handed a result fits, where the source keeps what it keeps
  handed_fits : {E : Type 0} (works : Works W C E) (slots : List (Slot S)) (root owners : ℕ) (slot slot' : Slot S) (completion : Completion C) (item : Item W) (left : List Fetch) (work : W)
      → ItemFits source slots owners item → item.root.0 ≡ root → slice_get slots root ≡ Some slot → slot'.live ≡ slot.live
      → ((o : IoOwnerId) (n : IoRequestId) → n.0 ≢ completion.request.0 → list_any (is_named o n) (out source slot) ≡ true → list_any (is_named o n) (out source slot') ≡ true)
      → Hands works completion item left work → ((handed works item left work).ready ≡ false → left ≢ [])
      → ItemFits source (set slots root slot') owners (handed works item left work)
  handed_fits works slots root owners slot slot' completion item left work f same there live stay hands parked =
      let t = hands.taken in
      let l = left_fits completion item.asked left hands.entry item.owner t f.own f.distinct in
      let mine : slot ≡ f.slot = let h : slice_get slots root ≡ Some f.slot = rw same at f.there in cc in
      let Kept : Fetch → Type 0 = λ x. list_any (is_named x.owner x.request) (out source slot) ≡ true in
      let kept' : AllByRecursion Kept left = each_fewer Kept completion.owner completion.request item.asked left hands.entry t (rw (← mine) at f.kept) in
      record {
        slot = slot';
        there = rw same (get_set slots root slot slot' there);
        live = live ∙ (rw (← mine) at f.live);
        kept = each_both Kept (λ (x : Fetch). x.request.0 ≢ completion.request.0) (λ (x : Fetch). list_any (is_named x.owner x.request) (out source slot') ≡ true) left (λ x k n. stay x.owner x.request n k) kept' l.2;
        own = l.0;
        distinct = l.1;
        owner = f.owner;
        next = f.next;
        parked = parked;
      }

  -- a run whose item was handed a result fits, where the source keeps the fetches of other owners and numbers
  pub deliver_fits : {E : Type 0} (works : Works W C E) (items items' : List (Item W)) (slots : List (Slot S)) (owners : ℕ) (root : RootId) (slot slot' : Slot S) (completion : Completion C) → LiveFits source (live_with items slots owners)
      → slice_get slots root.0 ≡ Some slot → slot'.live ≡ slot.live → OthersStay completion.owner (out source slot) (out source slot')
      → ((o : IoOwnerId) (n : IoRequestId) → n.0 ≢ completion.request.0 → list_any (is_named o n) (out source slot) ≡ true → list_any (is_named o n) (out source slot') ≡ true)
      → Delivers works root completion items items' → LiveFits source (live_with items' (set slots root.0 slot') owners)
  deliver_fits works items items' slots owners root slot slot' completion fits there live stay stay' d =
      let f = each_at (ItemFits source slots owners) items d.at d.item fits.each d.there in
      let whose : completion.owner ≡ d.item.owner = (left_fits completion d.item.asked d.left d.hands.entry d.item.owner d.hands.taken f.own f.distinct).3 in
      let keep : OthersStay d.item.owner (out source slot) (out source slot') = rw whose at stay in
      rw d.now (fits_set items slots (set slots root.0 slot') owners owners d.at d.item (handed works d.item d.left d.work) fits d.there
      (λ other ne. other_called slots root.0 owners owners slot slot' d.item.owner there live (omega arith) keep other ne) refl
      (handed_fits works slots root.0 owners slot slot' completion d.item d.left d.work f (ap (λ (r : RootId). r.0) d.of_root) there live stay' d.hands d.waits))

  -- the item that a completion was delivered to had it outstanding at its source
  pub delivered_outstanding : {E : Type 0} (works : Works W C E) (items items' : List (Item W)) (slots : List (Slot S)) (owners : ℕ) (root : RootId) (slot : Slot S) (completion : Completion C) → LiveFits source (live_with items slots owners)
      → slice_get slots root.0 ≡ Some slot → Delivers works root completion items items' → list_any (is_named completion.owner completion.request) (out source slot) ≡ true
  delivered_outstanding works items items' slots owners root slot completion fits there d =
      let f = each_at (ItemFits source slots owners) items d.at d.item fits.each d.there in
      let t = d.hands.taken in
      let h : slice_get slots root.0 ≡ Some f.slot = subst (λ (r : RootId). slice_get slots r.0 ≡ Some f.slot) d.of_root f.there in
      let mine : f.slot ≡ slot = cc in
      let kept' : AreKept (out source slot) (t.before ++ d.hands.entry ∷ t.behind) = rw (mine, t.stood) at f.kept in
      let here = (each_behind (λ (x : Fetch). list_any (is_named x.owner x.request) (out source slot) ≡ true) t.before (d.hands.entry ∷ t.behind) kept').0 in
      rw (t.whose, t.number) at here

  -- a run fits once the source of a live root was asked, and what came was delivered
  pub completed_fits : {E V : Type 0} (works : Works W C E) (means : C → V) (items items' : List (Item W)) (slots : List (Slot S)) (owners before now : ℕ) (root : RootId) (slot : Slot S) (after : S) (completion : Completion C) → LiveFits source (live_with items slots owners)
      → slice_get slots root.0 ≡ Some slot → Completes means (source.content slot.source) (source.outstanding slot.source) (source.outstanding after) before now completion → Delivers works root completion items items'
      → LiveFits source (live_with items' (set slots root.0 (record slot { source = after })) owners)
  completed_fits {E} {V} works means items items' slots owners before now root slot after completion fits there c d =
      ⊎_elim (λ (one : TakesOne means (source.content slot.source) (source.outstanding slot.source) (source.outstanding after) before now completion).
      deliver_fits works items items' slots owners root slot (record slot { source = after }) completion fits there refl
      (taken_stays completion.owner completion.request (source.outstanding slot.source) (source.outstanding after) one.entry one.taken)
      (taken_leaves completion.owner completion.request (source.outstanding slot.source) (source.outstanding after) one.entry one.taken) d)
      (λ (none : TakesNone (source.outstanding slot.source) (source.outstanding after) before now completion).
      absurd (let h = delivered_outstanding works items items' slots owners root slot completion fits there d in let n = none.none in cc)) c

  -- a run fits once a source was called in a way that leaves what is outstanding
  pub called_fits : (items : List (Item W)) (slots : List (Slot S)) (owners : ℕ) (root : ℕ) (slot : Slot S) (after : S) → LiveFits source (live_with items slots owners) → slice_get slots root ≡ Some slot
      → source.outstanding after ≡ source.outstanding slot.source → LiveFits source (live_with items (set slots root (record slot { source = after })) owners)
  called_fits items slots owners root slot after fits there same = record {
    each = each_weaker (ItemFits source slots owners) (ItemFits source (set slots root (record slot { source = after })) owners) items (λ x f. quiet_called slots root owners slot after there same x f) fits.each;
    rising = fits.rising;
  }

  -- a completion delivered from elsewhere leaves a run that fits
  pub complete_fits : {E : Type 0} (works : Works W C E) (items items' : List (Item W)) (slots : List (Slot S)) (owners : ℕ) (root : RootId) (completion : Completion C) → LiveFits source (live_with items slots owners)
      → Delivers works root completion items items' → LiveFits source (live_with items' slots owners)
  complete_fits works items items' slots owners root completion fits d =
      let f = each_at (ItemFits source slots owners) items d.at d.item fits.each d.there in
      let there : slice_get slots root.0 ≡ Some f.slot = subst (λ (r : RootId). slice_get slots r.0 ≡ Some f.slot) d.of_root f.there in
      let same : set slots root.0 f.slot ≡ slots = set_same slots root.0 f.slot there in
      rw same at (deliver_fits works items items' slots owners root f.slot f.slot completion fits there refl (λ o n ne h. h) (λ o n ne h. h) d)
