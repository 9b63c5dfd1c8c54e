-- A row of the table has its place in the list of chosen rows exactly where it is chosen.
use Rattle.std.proofs.Common.{◌≡◌, ◌∙◌, sym, ap, subst, refl, ℕ, zero, suc, ◌+◌, List, [], ◌∷◌, ◌++◌, Bool, true, false, cond, map, arith, inl, inr}
use mathlib.Core.Logic.{⊎_elim}
use Rattle.std.specs.Prelude.{◌⊎◌, filter, flat_map, Any, Option, Some, None, slice_get, option_and_then}
use Rattle.std.specs.List.{enumerate_from}
use Rattle.vortex_scan_types.specs.declared.request.ScanRequest.{ScanRequest}
use Rattle.vortex_array_types.specs.Cells.{Row}
use Rattle.vortex_table_types.specs.Table.{Decoded}
use Rattle.vortex_table_types.specs.Chosen.{Placed, chosen, is_chosen, projected, placed_rows, all_rows}
use Rattle.vortex_table_types.specs.Laws.{row_of, ChosenExactly}
use Rattle.vortex_table_types.proofs.Rising.{Each, each_at, each_map, each_append}

module _ {X : Type 0} where
  -- nothing is not something
  absent : {A : Type 0} {x : X} → None ≡ Some x → A
  absent h = cc

  -- what two equal somethings hold is equal
  value : {x y : X} → Some x ≡ Some y → x ≡ y
  value {x} h = ap (λ o. held x o) h
    where
      held : X → Option X → X
      held d (Some y) = y
      held d None = d

-- some element passes
abbrev Has : {X : Type 0} → (X → Type 0) → List X → Type 0
Has P [] = ⊥
Has P (x ∷ xs) = P x ⊎ Has P xs

-- std says it by a place in the list
any_of : {X : Type 0} (P : X → Type 0) (xs : List X) → Has P xs → Any P xs
any_of P [] h = absurd h
any_of P (x ∷ xs) h = ⊎_elim (λ p. (0, x, omega arith, refl, p)) (λ t. let a = any_of P xs t in (suc a.0, a.1, omega (arith, a.2), a.3, a.4)) h

-- a weaker fact holds of some element too
has_more : {X : Type 0} (P Q : X → Type 0) → ((x : X) → P x → Q x) → (xs : List X) → Has P xs → Has Q xs
has_more P Q f [] h = absurd h
has_more P Q f (x ∷ xs) h = ⊎_elim (λ p. inl (f x p)) (λ t. inr (has_more P Q f xs t)) h

-- and of its image
has_map : {X Y : Type 0} (P : X → Type 0) (Q : Y → Type 0) (g : X → Y) → ((x : X) → P x → Q (g x)) → (xs : List X) → Has P xs → Has Q (map g xs)
has_map P Q g f [] h = absurd h
has_map P Q g f (x ∷ xs) h = ⊎_elim (λ p. inl (f x p)) (λ t. inr (has_map P Q g f xs t)) h

-- in a longer list, by its first part
has_left : {X : Type 0} (P : X → Type 0) (xs ys : List X) → Has P xs → Has P (xs ++ ys)
has_left P [] ys h = absurd h
has_left P (x ∷ xs) ys h = ⊎_elim (λ p. inl p) (λ t. inr (has_left P xs ys t)) h

-- and by its second
has_right : {X : Type 0} (P : X → Type 0) (xs ys : List X) → Has P ys → Has P (xs ++ ys)
has_right P [] ys h = h
has_right P (x ∷ xs) ys h = inr (has_right P xs ys h)

-- in one of the lists that are joined
has_flat : {X Y : Type 0} (P : X → Type 0) (Q : Y → Type 0) (g : X → List Y) → ((x : X) → P x → Has Q (g x)) → (xs : List X) → Has P xs → Has Q (flat_map g xs)
has_flat P Q g f [] h = absurd h
has_flat P Q g f (x ∷ xs) h = ⊎_elim (λ p. has_left Q (g x) (flat_map g xs) (f x p)) (λ t. has_right Q (g x) (flat_map g xs) (has_flat P Q g f xs t)) h

-- what passes a test is kept by it
has_kept : {X : Type 0} (P : X → Type 0) (p : X → Bool) → ((x : X) → P x → p x ≡ true) → (xs : List X) → Has P xs → Has P (filter p xs)
has_kept P p f [] h = absurd h
has_kept P p f (x ∷ xs) h =
    ⊎_elim (λ q. subst (λ b. Has P (cond b (x ∷ filter p xs) (filter p xs))) (sym (f x q)) (inl q))
    (λ t. elim (p x) as (λ b. Has P (cond b (x ∷ filter p xs) (filter p xs))) [ true ↦ inr (has_kept P p f xs t) | false ↦ has_kept P p f xs t ]) h

-- what stands at a place is found under its number
has_number : {X : Type 0} (n i : ℕ) (xs : List X) (x : X) → slice_get xs i ≡ Some x → Has (λ t. (t.0 ≡ n + i) × (t.1 ≡ x)) (enumerate_from n xs)
has_number n i [] x h = absent h
has_number n zero (y ∷ xs) x h = inl (omega arith, value h)
has_number n (suc i) (y ∷ xs) x h = inr (has_more (λ t. (t.0 ≡ n + 1 + i) × (t.1 ≡ x)) (λ t. (t.0 ≡ n + suc i) × (t.1 ≡ x)) (λ t e. (omega (arith, e.0), e.1)) (enumerate_from (n + 1) xs) (has_number (n + 1) i xs x h))

-- and each number tells what stands there
numbers_tell : {X : Type 0} (ys : List X) (n : ℕ) (xs : List X) → ((k : ℕ) (x : X) → slice_get xs k ≡ Some x → slice_get ys (n + k) ≡ Some x) → Each (λ t. slice_get ys t.0 ≡ Some t.1) (enumerate_from n xs)
numbers_tell ys n [] f = tt
numbers_tell ys n (x ∷ xs) f = (
  let e : n + 0 ≡ n = omega arith in sym (ap (slice_get ys) e) ∙ f 0 x refl,
  numbers_tell ys (n + 1) xs (λ k y h. let e : n + 1 + k ≡ n + suc k = omega arith in ap (slice_get ys) e ∙ f (suc k) y h),
)

-- each numbered element stands at its number
told : {X : Type 0} (xs : List X) → Each (λ t. slice_get xs t.0 ≡ Some t.1) (enumerate_from 0 xs)
told xs = numbers_tell xs 0 xs (λ k x h. let e : 0 + k ≡ k = omega arith in ap (slice_get xs) e ∙ h)

-- what holds of each element of each list holds of each of the joined list
each_flat : {X Y : Type 0} (P : X → Type 0) (Q : Y → Type 0) (g : X → List Y) → ((x : X) → P x → Each Q (g x)) → (xs : List X) → Each P xs → Each Q (flat_map g xs)
each_flat P Q g f [] e = tt
each_flat P Q g f (x ∷ xs) e = each_append Q (g x) (flat_map g xs) (f x e.0) (each_flat P Q g f xs e.1)

-- what a filter keeps passes its test
each_kept : {X : Type 0} (P : X → Type 0) (p : X → Bool) (xs : List X) → Each P xs → Each (λ x. P x × (p x ≡ true)) (filter p xs)
each_kept P p [] e = tt
each_kept {X} P p (x ∷ xs) e = by (each_kept P p xs e.1) (p x) refl
  where
    by : Each (λ y. P y × (p y ≡ true)) (filter p xs) → (b : Bool) → p x ≡ b → Each (λ y. P y × (p y ≡ true)) (cond b (x ∷ filter p xs) (filter p xs))
    by rest true q = ((e.0, q), rest)
    by rest false q = rest

module _ (request : ScanRequest) (table : Decoded) where
  -- the row stands in the table at its place
  abbrev at : Placed → Type 0
  at x = row_of table x.partition x.row ≡ Some x.values

  -- so does each row of the table
  all_told : Each at (all_rows table.partitions)
  all_told = each_flat (λ t. slice_get table.partitions t.0 ≡ Some t.1) at (λ t. placed_rows t.0 t.1)
      (λ t h. each_map (λ s. slice_get t.1 s.0 ≡ Some s.1) at (λ s. record { partition = t.0; row = s.0; values = s.1 }) (λ s k. ap (option_and_then (λ rows. slice_get rows s.0)) h ∙ k) (enumerate_from 0 t.1) (told t.1))
      (enumerate_from 0 table.partitions) (told table.partitions)

  -- and each row that stands in the table is among them
  has_row : (p r : ℕ) (rows : List Row) (values : Row) → slice_get table.partitions p ≡ Some rows → slice_get rows r ≡ Some values
      → Has (λ x. x ≡ record { partition = p; row = r; values = values }) (all_rows table.partitions)
  has_row p r rows values h k =
      has_flat (λ t. (t.0 ≡ 0 + p) × (t.1 ≡ rows)) (λ x. x ≡ record { partition = p; row = r; values = values }) (λ t. placed_rows t.0 t.1)
      (λ t e. has_map (λ s. (s.0 ≡ 0 + r) × (s.1 ≡ values)) (λ x. x ≡ record { partition = p; row = r; values = values }) (λ s. record { partition = t.0; row = s.0; values = s.1 })
      (λ s f. let u : t.0 ≡ p = omega (arith, e.0) in let v : s.0 ≡ r = omega (arith, f.0) in λ i. record { partition = u i; row = v i; values = f.1 i })
      (enumerate_from 0 t.1) (has_number 0 r t.1 values (ap (λ l. slice_get l r) e.1 ∙ k)))
      (enumerate_from 0 table.partitions) (has_number 0 p table.partitions rows h)

  -- a row at a place is a row of a partition
  opened : (r : ℕ) (values : Row) (o : Option (List Row)) → option_and_then (λ rows. slice_get rows r) o ≡ Some values → (rows : List Row) × (o ≡ Some rows) × (slice_get rows r ≡ Some values)
  opened r values None h = absent h
  opened r values (Some rows) h = (rows, refl, h)

  -- whatever stands in the table at the place is chosen
  abbrev Sound : Placed → Type 0
  Sound x = (w : Row) → row_of table x.partition x.row ≡ Some w → is_chosen request table.columns (record { partition = x.partition; row = x.row; values = w }) ≡ true

  -- so with each row of L
  sound : Each Sound (chosen request table)
  sound = each_map (λ x. at x × (is_chosen request table.columns x ≡ true)) Sound (projected table.columns request.projection)
      (λ x h w k. ap (λ v. is_chosen request table.columns (record { partition = x.partition; row = x.row; values = v })) (value (sym k ∙ h.0)) ∙ h.1)
      (filter (is_chosen request table.columns) (all_rows table.partitions)) (each_kept at (is_chosen request table.columns) (all_rows table.partitions) all_told)

  -- what stands in the table at a place is chosen
  abbrev Claim : Row → ℕ → ℕ → Type 0
  Claim values p r = row_of table p r ≡ Some values → is_chosen request table.columns (record { partition = p; row = r; values = values }) ≡ true

  -- a place in L is of a chosen row
  back : (p r : ℕ) (values : Row) → row_of table p r ≡ Some values → Any (λ x. (x.partition ≡ p) × (x.row ≡ r)) (chosen request table)
      → is_chosen request table.columns (record { partition = p; row = r; values = values }) ≡ true
  back p r values h a =
      let found : Sound a.1 = subst Sound a.3 (each_at Sound (chosen request table) sound a.0 a.1 a.2) in
      let there : Claim values p r = subst (λ q. Claim values p q) a.4.1 (subst (λ q. Claim values q a.1.row) a.4.0 (found values)) in
      there h

  -- and a chosen row has its place in L
  forth : (p r : ℕ) (values : Row) → row_of table p r ≡ Some values → is_chosen request table.columns (record { partition = p; row = r; values = values }) ≡ true
      → Any (λ x. (x.partition ≡ p) × (x.row ≡ r)) (chosen request table)
  forth p r values h k =
      let y : Placed = record { partition = p; row = r; values = values } in
      let o : (rows : List Row) × (slice_get table.partitions p ≡ Some rows) × (slice_get rows r ≡ Some values) = opened r values (slice_get table.partitions p) h in
      any_of (λ x. (x.partition ≡ p) × (x.row ≡ r)) (chosen request table)
      (has_map (λ x. x ≡ y) (λ x. (x.partition ≡ p) × (x.row ≡ r)) (projected table.columns request.projection) (λ x e. (ap (λ z. z.partition) e, ap (λ z. z.row) e))
      (filter (is_chosen request table.columns) (all_rows table.partitions))
      (has_kept (λ x. x ≡ y) (is_chosen request table.columns) (λ x e. ap (is_chosen request table.columns) e ∙ k) (all_rows table.partitions) (has_row p r o.0 values o.1 o.2)))

-- a row of the table has its place in L exactly where it is chosen
pub exactly : ChosenExactly
exactly request table p r values h = (forth request table p r values h, back request table p r values h)
