-- What is outstanding at a source that lies, and at the one inside.
use Rattle.std.proofs.Common.{◌≡◌, ◌∙◌, ℕ, ◌+◌, ◌-◌, ◌<◌, ◌≤◌, Bool, true, false, cond, ◌⊎◌, Option, List, [], ◌∷◌, ◌++◌, length, filter, refl, sym, ap, subst, arith, inl, inr, length-append}
use Rattle.std.specs.List.{list_any}
use Rattle.std.proofs.lemmas.Bool.{and_parts, cases_Bool, cases_eq, cases_lt, eqb-true, or_from}
use Rattle.std.proofs.lemmas.List.Elements.{filter-append}
use Rattle.std.proofs.lemmas.List.Sums.{length-filter, count_by-le-length}
use Rattle.vortex_buffer.specs.Counts.{Rose, one_more, together}
use Rattle.vortex_io.specs.declared.ids.IoOwnerId.{IoOwnerId}
use Rattle.vortex_io.specs.declared.ids.IoRequestId.{IoRequestId}
use Rattle.vortex_io.specs.declared.request.Completion.{Completion}
use Rattle.vortex_io.specs.declared.request.Fetch.{Fetch}
use Rattle.vortex_io.specs.Source.{Content, Completes, Taken, is_named, is_of_others, without_owner}
use Rattle.vortex_io.specs.Lying.{AreCovered, without}

-- a fetch has its own owner and number
pub is_named_own : (fetch : Fetch) → is_named fetch.owner fetch.request fetch ≡ true
is_named_own fetch = grind arith

-- how many fetches of an owner and number there are
abbrev count_at : IoOwnerId → IoRequestId → List Fetch → ℕ
count_at owner request outstanding = length (filter (is_named owner request) outstanding)

-- a fetch of an owner and number has them
pub named_owner : (owner : IoOwnerId) (request : IoRequestId) (fetch : Fetch) → is_named owner request fetch ≡ true → fetch.owner ≡ owner
named_owner owner request fetch named =
    let same : fetch.owner.0 ≡ owner.0 = eqb-true _ _ (and_parts _ _ named).0 in
    λ i. record { 0 = same i }

pub named_request : (owner : IoOwnerId) (request : IoRequestId) (fetch : Fetch) → is_named owner request fetch ≡ true → fetch.request ≡ request
named_request owner request fetch named =
    let same : fetch.request.0 ≡ request.0 = eqb-true _ _ (and_parts _ _ named).1 in
    λ i. record { 0 = same i }

-- how long a list is with an element before it, or without
length_cond : {X : Type 0} (t : Bool) (x : X) (xs : List X) → length (cond t (x ∷ xs) xs) ≡ length xs + cond t 1 0
length_cond true x xs = omega arith
length_cond false x xs = omega arith

fewer_step : (p : Fetch → Bool) (t : Bool) (x : Fetch) (xs left : List Fetch) → p x ≡ t → length (filter p left) ≤ length (filter p xs) - 1 → length (filter p (cond t xs (x ∷ left))) ≤ length (filter p (x ∷ xs)) - 1
fewer_step p true x xs left is h = rw is (omega arith)
fewer_step p false x xs left is h = rw is h

-- taking out the first fetch of an owner and number leaves one fewer of these
fewer : (owner : IoOwnerId) (request : IoRequestId) (xs : List Fetch) → count_at owner request (without owner request xs) ≤ count_at owner request xs - 1
fewer owner request [] = omega arith
fewer owner request (x ∷ xs) = fewer_step (is_named owner request) (is_named owner request x) x xs (without owner request xs) refl (fewer owner request xs)

no_more_step : (p : Fetch → Bool) (t : Bool) (x : Fetch) (xs left : List Fetch) → length (filter p left) ≤ length (filter p xs) → length (filter p (cond t xs (x ∷ left))) ≤ length (filter p (x ∷ xs))
no_more_step p true x xs left h = omega (arith, length_cond (p x) x (filter p xs))
no_more_step p false x xs left h = omega (arith, length_cond (p x) x (filter p left), length_cond (p x) x (filter p xs))

-- and no more of any other
no_more : (owner : IoOwnerId) (request : IoRequestId) (a : IoOwnerId) (b : IoRequestId) (xs : List Fetch) → count_at owner request (without a b xs) ≤ count_at owner request xs
no_more owner request a b [] = omega arith
no_more owner request a b (x ∷ xs) = no_more_step (is_named owner request) (is_named a b x) x xs (without a b xs) (no_more owner request a b xs)

-- how many pass a test where one stands between others
count_between : (p : Fetch → Bool) (before behind : List Fetch) (entry : Fetch) → length (filter p (before ++ entry ∷ behind)) ≡ length (filter p (before ++ behind)) + cond (p entry) 1 0
count_between p before behind entry = omega (
  arith,
  ap length (filter-append p before (entry ∷ behind)),
  ap length (filter-append p before behind),
  length-append (filter p before) (filter p (entry ∷ behind)),
  length-append (filter p before) (filter p behind),
  length_cond (p entry) entry (filter p behind),
)

-- where the source inside takes one out, taking out the first here keeps the fetches covered
covered_taken : (inner left own : List Fetch) (a : IoOwnerId) (b : IoRequestId) (entry : Fetch) → AreCovered inner own → Taken a b inner left entry → AreCovered left (without a b own)
covered_taken inner left own a b entry covered taken = λ owner request.
    let between = count_between (is_named owner request) taken.before taken.behind entry in
    let stood : count_at owner request inner ≡ count_at owner request (taken.before ++ entry ∷ taken.behind) = ap (count_at owner request) taken.stood in
    let stays : count_at owner request left ≡ count_at owner request (taken.before ++ taken.behind) = ap (count_at owner request) taken.left in
    elim (cases_Bool (is_named owner request entry)) [
      | inl passes ↦
          let same_owner : a ≡ owner = sym taken.whose ∙ named_owner owner request entry passes in
          let same_request : b ≡ request = sym taken.number ∙ named_request owner request entry passes in
          let one : ◌≡◌ {A = ℕ} (cond (is_named owner request entry) 1 0) 1 = rw passes refl in
          let less : count_at owner request (without a b own) ≤ count_at owner request own - 1 =
          subst (λ (z : IoRequestId). count_at owner z (without a b own) ≤ count_at owner z own - 1) same_request
          (subst (λ (z : IoOwnerId). count_at z b (without a b own) ≤ count_at z b own - 1) same_owner (fewer a b own)) in
          omega (arith, covered owner request, between, stood, stays, one, less)
      | inr fails ↦
          let none : ◌≡◌ {A = ℕ} (cond (is_named owner request entry) 1 0) 0 = rw fails refl in
          omega (arith, covered owner request, between, stood, stays, none, no_more owner request a b own)
    ]

-- where it takes none out, it does too
pub covered_lied : (inner own : List Fetch) (a : IoOwnerId) (b : IoRequestId) → AreCovered inner own → AreCovered inner (without a b own)
covered_lied inner own a b covered = λ owner request. omega (arith, covered owner request, no_more owner request a b own)

-- a completion of the source inside keeps them covered
pub covered_completed : {C M : Type 0} (means : C → M) (told : Option (Content C)) (inner left own : List Fetch) (before now : ℕ) (completion : Completion C) → AreCovered inner own
    → Completes means told inner left before now completion → AreCovered left (without completion.owner completion.request own)
covered_completed means told inner left own before now completion covered completes =
    elim completes [
      | inl one ↦ covered_taken inner left own completion.owner completion.request one.entry covered one.taken
      | inr none ↦ subst (λ (z : List Fetch). AreCovered z (without completion.owner completion.request own)) (sym none.same) (covered_lied inner own completion.owner completion.request covered)
    ]

-- the same fetches behind both keep them covered
pub covered_added : (inner own added : List Fetch) → AreCovered inner own → AreCovered (inner ++ added) (own ++ added)
covered_added inner own added covered = λ owner request.
    let p = is_named owner request in
    omega (arith, covered owner request, ap length (filter-append p inner added), ap length (filter-append p own added), length-append (filter p inner) (filter p added), length-append (filter p own) (filter p added))

-- what passes one test alone is gone
pub both_gone : (p q : Fetch → Bool) → ((x : Fetch) → q x ≡ true → p x ≡ false) → (xs : List Fetch) → filter p (filter q xs) ≡ []
both_gone p q apart [] = refl
both_gone p q apart (x ∷ xs) = elim (cases_Bool (q x)) [ inl passes ↦ rw (passes, apart x passes) (both_gone p q apart xs) | inr fails ↦ rw fails (both_gone p q apart xs) ]

-- what passes both tests is kept
pub both_kept : (p q : Fetch → Bool) → ((x : Fetch) → q x ≡ false → p x ≡ false) → (xs : List Fetch) → filter p (filter q xs) ≡ filter p xs
both_kept p q within [] = refl
both_kept p q within (x ∷ xs) = elim (cases_Bool (q x)) [ inl passes ↦ rw passes (ap (λ (z : List Fetch). cond (p x) (x ∷ z) z) (both_kept p q within xs)) | inr fails ↦ rw (fails, within x fails) (both_kept p q within xs) ]

-- a fetch of another owner has not this one
pub not_named : (w owner : IoOwnerId) (request : IoRequestId) (x : Fetch) → owner.0 ≡ w.0 → is_of_others w x ≡ true → is_named owner request x ≡ false
not_named w owner request x same others = grind arith

-- nor has a fetch of this one another
pub named_other : (w owner : IoOwnerId) (request : IoRequestId) (x : Fetch) → (owner.0 ≡ w.0 → ⊥) → is_of_others w x ≡ false → is_named owner request x ≡ false
named_other w owner request x differ own = grind arith

-- what an owner gives up on both sides keeps the rest covered
pub covered_released : (inner own : List Fetch) (w : IoOwnerId) → AreCovered inner own → AreCovered (without_owner w inner) (without_owner w own)
covered_released inner own w covered = λ owner request.
    let p = is_named owner request in
    let q = is_of_others w in
    elim (cases_eq owner.0 w.0) [
      | inl same ↦ omega (arith, ap length (both_gone p q (λ x others. not_named w owner request x same others) own))
      | inr differ ↦
          let within : (x : Fetch) → q x ≡ false → p x ≡ false = λ x own. named_other w owner request x differ own in
          omega (arith, covered owner request, ap length (both_kept p q within inner), ap length (both_kept p q within own))
    ]

-- where something is outstanding here, something is at the source inside
pub covered_some : (inner own : List Fetch) → AreCovered inner own → 0 < length own → 0 < length inner
covered_some inner [] covered some = absurd (omega arith)
covered_some inner (x ∷ own) covered some =
    let named : is_named x.owner x.request x ≡ true = is_named_own x in
    let first : count_at x.owner x.request (x ∷ own) ≡ count_at x.owner x.request own + 1 = rw named (omega arith) in
    omega (arith, covered x.owner x.request, first, length-filter (is_named x.owner x.request) inner, count_by-le-length (is_named x.owner x.request) inner)

-- one step of the next lemma
taken_step : (a : IoOwnerId) (b : IoRequestId) (t : Bool) (x : Fetch) (xs : List Fetch) → is_named a b x ≡ t → ((entry : Fetch) × Taken a b xs (without a b xs) entry) ⊎ ((list_any (is_named a b) xs ≡ false) × (without a b xs ≡ xs))
    → ((entry : Fetch) × Taken a b (x ∷ xs) (cond t xs (x ∷ without a b xs)) entry) ⊎ ((list_any (is_named a b) (x ∷ xs) ≡ false) × (cond t xs (x ∷ without a b xs) ≡ x ∷ xs))
taken_step a b true x xs is rest = inl (x, record { before = []; behind = xs; stood = refl; left = refl; whose = named_owner a b x is; number = named_request a b x is })
taken_step a b false x xs is (inl one) = inl (one.0, record { before = x ∷ one.1.before; behind = one.1.behind; stood = ap (λ (z : List Fetch). x ∷ z) one.1.stood; left = ap (λ (z : List Fetch). x ∷ z) one.1.left; whose = one.1.whose; number = one.1.number })
taken_step a b false x xs is (inr none) = inr (or_from (is_named a b x) (list_any (is_named a b) xs) is none.0, ap (λ (z : List Fetch). x ∷ z) none.1)

-- taking out the first takes one, or there is none and the list stays
without_cases : (a : IoOwnerId) (b : IoRequestId) (xs : List Fetch) → ((entry : Fetch) × Taken a b xs (without a b xs) entry) ⊎ ((list_any (is_named a b) xs ≡ false) × (without a b xs ≡ xs))
without_cases a b [] = inr (refl, refl)
without_cases a b (x ∷ xs) = taken_step a b (is_named a b x) x xs refl (without_cases a b xs)

-- a completion in a call in which the count of lies rose takes the first of its owner and number, if there is one
pub completes_lied : {C M : Type 0} (means : C → M) (told : Option (Content C)) (own : List Fetch) (before now : ℕ) (completion : Completion C) → Rose before now
    → Completes means told own (without completion.owner completion.request own) before now completion
completes_lied means told own before now completion rose =
    elim (without_cases completion.owner completion.request own) [
      | inl one ↦ inl (record { entry = one.0; taken = one.1; answers = λ honest. absurd (honest rose) })
      | inr none ↦ inr (record { none = none.0; same = none.1; counted = rose })
    ]

-- a count of lies that a source adds to its own rises with its own
pub rose_together : (own before now : ℕ) → before ≤ now → Rose (together own before) (together (one_more own) now)
rose_together own before now later = elim (cases_lt (together own before) (together (one_more own) now)) [ inl rose ↦ inl rose | inr stands ↦ inr (omega arith) ]
