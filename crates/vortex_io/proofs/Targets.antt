-- Targets of the fetches of a number, under additions and removals, and counts over the parts of a call.
use Rattle.std.proofs.Common.{◌≡◌, ◌∙◌, ◌≢◌, ℕ, ◌≤◌, true, false, List, [], ◌∷◌, ◌++◌, All, length, map, filter, refl, sym, ap, subst, arith, inl, inr, length-append}
use Rattle.std.proofs.lemmas.Bool.{and_parts, cases_lt, eqb-true, false_from_ne_true}
use Rattle.std.proofs.lemmas.List.{map-append, take_at, drop_at}
use Rattle.std.proofs.lemmas.List.Elements.{filter-append, All-take, All-drop, All-append, All-head, All-tail}
use Rattle.vortex_buffer.specs.Counts.{Rose}
use Rattle.vortex_io.specs.declared.ids.IoOwnerId.{IoOwnerId}
use Rattle.vortex_io.specs.declared.ids.IoRequestId.{IoRequestId}
use Rattle.vortex_io.specs.declared.request.Fetch.{Fetch}
use Rattle.vortex_io.specs.declared.request.IoRequest.{IoRequest}
use Rattle.vortex_io.specs.declared.request.IoTarget.{IoTarget}
use Rattle.vortex_io.specs.Source.{fetch_of, is_fetch, is_named, is_of_others, targets_at}
use Rattle.vortex_io.specs.Laws.{HoldsOfTaken, HonestAnswers, HonestInParts, OneFewer, RoseInWhole, TargetsAdded, TargetsKept, TargetsOfOthers, TargetsReleased, TargetsStay, TargetsTaken}
use Rattle.vortex_io.proofs.Covered.{both_gone, both_kept, is_named_own, named_owner, named_request, named_other, not_named}

-- ---- counts

rose_front : (before between now : ℕ) → before ≤ between → between ≤ now → Rose before between → Rose before now
rose_front before between now early late (inl rose) = inl (omega arith)
rose_front before between now early late (inr stands) = elim (cases_lt before now) [ inl rose ↦ inl rose | inr stays ↦ inr (omega arith) ]

rose_back : (before between now : ℕ) → before ≤ between → between ≤ now → Rose between now → Rose before now
rose_back before between now early late (inl rose) = inl (omega arith)
rose_back before between now early late (inr stands) = inr stands

pub rose_whole : RoseInWhole
rose_whole before between now early late rose = elim rose [ inl front ↦ rose_front before between now early late front | inr back ↦ rose_back before between now early late back ]

pub honest_parts : HonestInParts
honest_parts before between now early late honest = (λ rose. honest (rose_front before between now early late rose), λ rose. honest (rose_back before between now early late rose))

-- ---- completions

pub honest_answer : {C M : Type 0} (means : C → M) → HonestAnswers means
honest_answer means told old new before now completion honest completes = elim completes [ inl one ↦ (one.entry, one.taken, one.answers honest) | inr none ↦ absurd (honest none.counted) ]

pub fewer_one : OneFewer
fewer_one owner request old new entry t = omega (arith, ap length t.stood, ap length t.left, length-append t.before (entry ∷ t.behind), length-append t.before t.behind)

pub taken_holds : HoldsOfTaken
taken_holds test owner request old new entry t all =
    let P : Fetch → Type 0 = λ fetch. test fetch ≡ true in
    let whole : All P (t.before ++ entry ∷ t.behind) = subst (λ (z : List Fetch). All P z) t.stood all in
    let front : All P t.before = subst (λ (z : List Fetch). All P z) (take_at t.before (entry ∷ t.behind) (length t.before) refl) (All-take P (length t.before) (t.before ++ entry ∷ t.behind) whole) in
    let back : All P (entry ∷ t.behind) = subst (λ (z : List Fetch). All P z) (drop_at t.before (entry ∷ t.behind) (length t.before) refl) (All-drop P (length t.before) (t.before ++ entry ∷ t.behind) whole) in
    (All-head P entry t.behind back, subst (λ (z : List Fetch). All P z) (sym t.left) (All-append P t.before t.behind front (All-tail P entry t.behind back)))

-- ---- targets

abbrev target_of : Fetch → IoTarget
target_of fetch = fetch.target

pub added : TargetsAdded
added owner request outstanding more = ap (map target_of) (filter-append (is_named owner request) outstanding more) ∙ map-append target_of (filter (is_named owner request) outstanding) (filter (is_named owner request) more)

-- no fetch of another owner's requests has this owner
of_others : (owner other : IoOwnerId) (request : IoRequestId) (batch : List IoRequest) → owner.0 ≢ other.0 → filter (is_named owner request) (map (fetch_of other) batch) ≡ []
of_others owner other request [] differ = refl
of_others owner other request (x ∷ xs) differ =
    let fails : is_named owner request (fetch_of other x) ≡ false = false_from_ne_true (is_named owner request (fetch_of other x)) (λ passes. differ (sym (eqb-true other.0 owner.0 (and_parts _ _ passes).0))) in
    rw fails (of_others owner other request xs differ)

pub none_of_others : TargetsOfOthers
none_of_others owner other request batch differ = ap (map target_of) (of_others owner other request (filter is_fetch batch) differ)

pub taken_from : TargetsTaken
taken_from owner request old new entry t =
    let p = is_named owner request in
    let passes : p entry ≡ true = subst (λ (z : IoRequestId). is_named owner z entry ≡ true) t.number (subst (λ (z : IoOwnerId). is_named z entry.request entry ≡ true) t.whose (is_named_own entry)) in
    let cut : targets_at owner request (entry ∷ t.behind) ≡ entry.target ∷ targets_at owner request t.behind = rw passes refl in (
      targets_at owner request t.before,
      targets_at owner request t.behind,
      ap (targets_at owner request) t.stood ∙ added owner request t.before (entry ∷ t.behind) ∙ ap (λ (z : List IoTarget). targets_at owner request t.before ++ z) cut,
      ap (targets_at owner request) t.left ∙ added owner request t.before t.behind,
    )

pub stay : TargetsStay
stay owner other request number old new entry t differ =
    let p = is_named other number in
    let fails : p entry ≡ false = false_from_ne_true (p entry) (λ passes. elim differ [
      | inl owners ↦ owners (ap (λ (z : IoOwnerId). z.0) (sym (named_owner other number entry passes) ∙ t.whose))
      | inr numbers ↦ numbers (ap (λ (z : IoRequestId). z.0) (sym (named_request other number entry passes) ∙ t.number))
    ]) in
    let cut : targets_at other number (entry ∷ t.behind) ≡ targets_at other number t.behind = rw fails refl in
    let whole : targets_at other number old ≡ targets_at other number t.before ++ targets_at other number t.behind =
    ap (targets_at other number) t.stood ∙ added other number t.before (entry ∷ t.behind) ∙ ap (λ (z : List IoTarget). targets_at other number t.before ++ z) cut in
    ap (targets_at other number) t.left ∙ added other number t.before t.behind ∙ sym whole

pub released : TargetsReleased
released owner request outstanding = ap (map target_of) (both_gone (is_named owner request) (is_of_others owner) (λ x others. not_named owner owner request x refl others) outstanding)

pub kept : TargetsKept
kept owner other request outstanding differ = ap (map target_of) (both_kept (is_named other request) (is_of_others owner) (λ x own. named_other owner other request x differ own) outstanding)
