-- Batches cut at a limit, one after another.
use Rattle.std.proofs.Common.{◌≡◌, ◌∙◌, ap, subst, refl, ℕ, ◌+◌, ◌-◌, List, [], ◌∷◌, ◌++◌, arith, inl, inr, ⊎_elim}
use Rattle.std.specs.Prelude.{◌≢◌, Option, None, Some}
use Rattle.std.proofs.lemmas.List.Sums.{sum_by-cons}
use Rattle.vortex_scan_types.specs.declared.batch.Batch.{Batch}
use Rattle.vortex_table_scan.specs.Cut.{CutAt, CutWithin, IsCutOf, Joins, JoinsWithin}
use Rattle.vortex_table_scan.specs.Gathering.{IsReached, rows_together}

-- of batches so far: those that hold the first rows within a limit, and how many rows are left
abbrev pub CutSoFar : Option ℕ → List Batch → List Batch → Option ℕ → Type 0
CutSoFar None given cut left = (left ≡ None) × (cut ≡ given)
CutSoFar (Some limit) given cut left = (left ≡ Some (limit - rows_together given)) × CutAt limit given cut

rows_more : (first : Batch) (given : List Batch) → rows_together (first ∷ given) ≡ first.array.rows + rows_together given
rows_more first given = sum_by-cons (λ (batch : Batch). batch.array.rows) first given

-- what is left behind a first batch and others
left_behind : (limit : ℕ) (first : Batch) (given : List Batch) → limit - rows_together (first ∷ given) ≡ (limit - first.array.rows) - rows_together given
left_behind limit first given = let more = rows_more first given in omega (arith, more)

-- a batch behind others
abbrev Behind : ℕ → List Batch → Batch → List Batch → ℕ → Type 0
Behind limit given batch cut now = CutAt limit (given ++ batch ∷ []) cut × (now ≡ limit - rows_together (given ++ batch ∷ []))

behind_none : (limit : ℕ) (batch : Batch) (cut new : List Batch) (now : ℕ) → cut ≡ [] → limit - 0 ≢ 0 → Joins batch (limit - 0) cut new now → Behind limit [] batch new now
behind_none limit batch cut new now none some joins =
    let all : limit - 0 ≡ limit = omega arith in
    let ne : limit ≢ 0 = λ e. some (all ∙ e) in
    ⊎_elim
    (λ whole. (inr (inl (ne, omega (arith, whole.0), ([], whole.1 ∙ ap (λ list. list ++ batch ∷ []) none, refl))), omega (arith, whole.2)))
    (λ part. (
      inr (inr (ne, omega (arith, part.0), (part.1.0, subst (λ n. IsCutOf n batch part.1.0) all part.1.1, part.1.2 ∙ ap (λ list. list ++ part.1.0 ∷ []) none))),
      let less = part.0 in let zero' = part.2 in omega (arith, less, zero'),
    )) joins

behind : (limit : ℕ) (given : List Batch) (batch : Batch) (cut new : List Batch) (now : ℕ) → CutAt limit given cut → limit - rows_together given ≢ 0 → Joins batch (limit - rows_together given) cut new now
    → Behind limit given batch new now
behind limit [] batch cut new now at some joins = behind_none limit batch cut new now at some joins
behind limit (first ∷ given) batch cut new now at some joins =
    let all_rows = rows_more first (given ++ batch ∷ []) in
    let rest_left = left_behind limit first given in
    let ne : (limit - first.array.rows) - rows_together given ≢ 0 = λ e. some (rest_left ∙ e) in
    ⊎_elim
    (λ none. absurd (some (let e = none.0 in omega (arith, e))))
    (λ more. ⊎_elim
    (λ whole.
    let rest = whole.2 in
    let split : (new' : List Batch) × (new ≡ first ∷ new') × Joins batch ((limit - first.array.rows) - rows_together given) rest.0 new' now =
    ⊎_elim
    (λ w. (rest.0 ++ batch ∷ [], w.1 ∙ ap (λ list. list ++ batch ∷ []) rest.1, inl (let le = w.0 in let n = w.2 in (omega (arith, rest_left, le), refl, omega (arith, rest_left, n)))))
    (λ p. (rest.0 ++ p.1.0 ∷ [], p.1.2 ∙ ap (λ list. list ++ p.1.0 ∷ []) rest.1, inr (let lt = p.0 in (omega (arith, rest_left, lt), (p.1.0, subst (λ n. IsCutOf n batch p.1.0) rest_left p.1.1, refl), p.2))))
    joins in
    let then = behind (limit - first.array.rows) given batch rest.0 split.0 now rest.2 ne split.2 in
    (inr (inl (whole.0, whole.1, (split.0, split.1, then.0))), let n = then.1 in omega (arith, n, all_rows)))
    (λ part. absurd (some (let lt = part.1 in let more_rows = rows_more first given in omega (arith, lt, more_rows)))) more)
    at

pub cut_on : (limit : Option ℕ) (given : List Batch) (batch : Batch) (cut new : List Batch) (left now : Option ℕ) → CutSoFar limit given cut left → left ≢ Some 0 → JoinsWithin batch left cut new now → CutSoFar limit (given ++ batch ∷ []) new now
cut_on None given batch cut new left None so some joins = (refl, (let none = so.0 in rw none at joins) ∙ ap (λ list. list ++ batch ∷ []) so.1)
cut_on None given batch cut new left (Some now) so some joins = absurd (let none = so.0 in rw none at joins)
cut_on (Some limit) given batch cut new left None so some joins = absurd (let is = so.0 in rw is at joins)
cut_on (Some limit) given batch cut new left (Some now) so some joins =
    let is = so.0 in
    let then = behind limit given batch cut new now so.1 (λ e. some (is ∙ ap (λ n. Some n) e)) (rw is at joins) in
    (ap (λ n. Some n) then.1, then.0)

pub cut_none : (limit : Option ℕ) → CutSoFar limit [] [] limit
cut_none None = (refl, refl)
cut_none (Some limit) = (ap (λ n. Some n) (omega arith), refl)

pub cut_done : (limit : Option ℕ) (given cut : List Batch) (left : Option ℕ) → CutSoFar limit given cut left → CutWithin limit given cut
cut_done None given cut left so = so.1
cut_done (Some limit) given cut left so = so.1

-- where none is left, the limit is reached
pub cut_reached : (limit : Option ℕ) (given cut : List Batch) (left : Option ℕ) → CutSoFar limit given cut left → left ≡ Some 0 → IsReached limit given
cut_reached None given cut left so none = absurd (let is = so.0 in cc)
cut_reached (Some limit) given cut left so none = let is = so.0 in let e : limit - rows_together given ≡ 0 = (cc) in omega (arith, e)

-- and nothing more joins then
cut_past : (limit : ℕ) (given : List Batch) (batch : Batch) (cut : List Batch) → CutAt limit given cut → limit - rows_together given ≡ 0 → CutAt limit (given ++ batch ∷ []) cut
cut_past limit [] batch cut at none = inl (omega (arith, none), at)
cut_past limit (first ∷ given) batch cut at none =
    let more_rows = rows_more first given in
    ⊎_elim
    (λ stop. inl stop)
    (λ more. ⊎_elim
    (λ whole. inr (inl (whole.0, whole.1, (whole.2.0, whole.2.1, cut_past (limit - first.array.rows) given batch whole.2.0 whole.2.2 (omega (arith, none, more_rows))))))
    (λ part. inr (inr part)) more) at

pub cut_stays : (limit : Option ℕ) (given : List Batch) (batch : Batch) (cut : List Batch) (left : Option ℕ) → CutSoFar limit given cut left → left ≡ Some 0 → CutSoFar limit (given ++ batch ∷ []) cut left
cut_stays None given batch cut left so none = absurd (let is = so.0 in cc)
cut_stays (Some limit) given batch cut left so none =
    let is = so.0 in
    let e : limit - rows_together given ≡ 0 = (cc) in
    (none ∙ ap (λ n. Some n) (more limit given batch e), cut_past limit given batch cut so.1 e)
  where
    more : (limit : ℕ) (given : List Batch) (batch : Batch) → limit - rows_together given ≡ 0 → 0 ≡ limit - rows_together (given ++ batch ∷ [])
    more limit [] batch e = omega (arith, e)
    more limit (first ∷ given) batch e =
        let more_rows = rows_more first given in
        let all_rows = rows_more first (given ++ batch ∷ []) in
        let n = more (limit - first.array.rows) given batch (omega (arith, e, more_rows)) in
        omega (arith, n, all_rows)
