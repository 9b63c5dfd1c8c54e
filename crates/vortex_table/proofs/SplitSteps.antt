-- One split after another: what is asked for, what is outstanding, and what was kept.
use Rattle.std.proofs.Common.{◌≡◌, ◌∙◌, ap, sym, refl, subst, ℕ, suc, ◌+◌, ◌<◌, List, [], ◌∷◌, ◌++◌, true, false, Option, Some, None, length, get_or, drop, arith, drop-cons, add-one, append_assoc, inl, inr}
use Rattle.std.specs.Prelude.{filter, nat_lt, option_map, is_some}
use Rattle.std.specs.List.{list_any}
use Rattle.std.proofs.lemmas.Bool.{cases_Bool}
use Rattle.std.proofs.lemmas.Bool.Decides.{nat_tests}
use Rattle.vortex_io.specs.Memory.{MemoryState}
use Rattle.vortex_io.specs.Source.{chunk_at, fetches, is_outside}
use Rattle.vortex_io.specs.declared.request.JournalEntry.{JournalEntry}
use Rattle.vortex_table.specs.declared.built.Comparison.{Comparison}
use Rattle.vortex_table.specs.declared.chunk.Chunk.{Chunk}
use Rattle.vortex_table_types.specs.declared.describe.SplitDesc.{SplitDesc}
use Rattle.vortex_table.specs.Kept.{passes}
use Rattle.vortex_table.specs.Fetching.{first_owner, split_request, split_requests, waits_for}
use Rattle.vortex_table.specs.Scanning.{HasNumbers, IsExtended, after_split, batch_if, kept_batches, oldest_column, scope_at, u64_column}

-- a split that has rows is asked for first
requests_live : (i : ℕ) (s : SplitDesc) (ss : List SplitDesc) → nat_lt 0 s.rows ≡ true → split_requests i (s ∷ ss) ≡ split_request i ∷ split_requests (i + 1) ss
requests_live i s ss h = rw h refl

-- a split without rows is not asked for
requests_empty : (i : ℕ) (s : SplitDesc) (ss : List SplitDesc) → nat_lt 0 s.rows ≡ false → split_requests i (s ∷ ss) ≡ split_requests (i + 1) ss
requests_empty i s ss h = rw h refl

-- the list from place i on
from_place : {X : Type 0} (i : ℕ) (xs : List X) (d : X) → i < length xs → drop i xs ≡ get_or xs i d ∷ drop (i + 1) xs
from_place i xs d h = rw add-one (drop-cons xs i d h)

-- the splits from place i on, the first of which was read there
from_here : {X : Type 0} (i : ℕ) (xs : List X) (x : X) → i < length xs → x ≡ get_or xs i x → drop i xs ≡ x ∷ drop (i + 1) xs
from_here i xs x h e = from_place i xs x h ∙ ap (λ y. y ∷ drop (i + 1) xs) (sym e)

module _ (i : ℕ) (splits : List SplitDesc) (s : SplitDesc) (h : i < length splits) (e : s ≡ get_or splits i s) where
  live_here : nat_lt 0 s.rows ≡ true → split_requests i (drop i splits) ≡ split_request i ∷ split_requests (i + 1) (drop (i + 1) splits)
  live_here l = ap (split_requests i) (from_here i splits s h e) ∙ requests_live i s (drop (i + 1) splits) l

  empty_here : nat_lt 0 s.rows ≡ false → split_requests i (drop i splits) ≡ split_requests (i + 1) (drop (i + 1) splits)
  empty_here l = ap (split_requests i) (from_here i splits s h e) ∙ requests_empty i s (drop (i + 1) splits) l

  -- the oldest outstanding fetch is of the numbers of this split
  pub oldest_here : (chunks : List (List Chunk)) (numbers : List (List ℕ)) → HasNumbers chunks splits numbers → 0 < s.rows
      → oldest_column chunks (fetches first_owner (split_requests i (drop i splits))) ≡ Some (u64_column (get_or numbers i []))
  oldest_here chunks numbers held l =
      let live : nat_lt 0 s.rows ≡ true = grind (arith, nat_tests) in
      ap (λ requests. oldest_column chunks (fetches first_owner requests)) (live_here live) ∙ held.held i [] h

  -- and after it what is outstanding is of the splits behind it
  pub outstanding_after : (source : MemoryState Chunk) → source.outstanding ≡ fetches first_owner (split_requests i (drop i splits))
      → (after_split s source).outstanding ≡ fetches first_owner (split_requests (i + 1) (drop (i + 1) splits))
  outstanding_after source o = elim (cases_Bool (nat_lt 0 s.rows)) [
    | inl l ↦ rw l (ap (drop 1) (o ∙ ap (fetches first_owner) (live_here l)))
    | inr l ↦ rw l (o ∙ ap (fetches first_owner) (empty_here l))
  ]

  -- and the journal has one wait more, if the split has rows
  pub waits_after : (source : MemoryState Chunk) → (after_split s source).journal ++ waits_for (split_requests (i + 1) (drop (i + 1) splits)) ≡ source.journal ++ waits_for (split_requests i (drop i splits))
  waits_after source = elim (cases_Bool (nat_lt 0 s.rows)) [
    | inl l ↦ rw l (append_assoc source.journal _ _ ∙ ap (λ requests. source.journal ++ waits_for requests) (sym (live_here l)))
    | inr l ↦ rw l (ap (λ requests. source.journal ++ waits_for requests) (sym (empty_here l)))
  ]

  -- and the batches behind it are those from it on without its own
  pub kept_here : (keep : Option Comparison) (start : ℕ) (numbers : List (List ℕ)) → length numbers ≡ length splits
      → kept_batches keep start (drop i splits) (drop i numbers) ≡ batch_if (scope_at start s) (filter (passes keep) (get_or numbers i [])) ++ kept_batches keep (start + s.rows) (drop (i + 1) splits) (drop (i + 1) numbers)
  kept_here keep start numbers long =
      ap (λ ss. kept_batches keep start ss (drop i numbers)) (from_here i splits s h e)
      ∙ ap (kept_batches keep start (s ∷ drop (i + 1) splits)) (from_place i numbers [] (omega (arith, long, h)))

-- an extended source, extended further
pub extended_more : (a b c : MemoryState Chunk) → IsExtended a b → IsExtended b c → IsExtended a c
extended_more a b c x y = record {
  chunks = y.chunks ∙ x.chunks;
  arrive = y.arrive ∙ x.arrive;
  faults = y.faults ∙ x.faults;
  added = x.added ++ y.added;
  journal = y.journal ∙ ap (λ (j : List JournalEntry). j ++ y.added) x.journal ∙ append_assoc a.journal x.added y.added;
}

some_mapped : {A B : Type 0} (f : A → B) (o : Option A) (b : B) → option_map f o ≡ Some b → is_some o ≡ true
some_mapped f None b e = absurd (cc e)
some_mapped f (Some a) b e = refl

none_from : (chunks : List (List Chunk)) (i : ℕ) (ss : List SplitDesc) → ((k : ℕ) → k < length ss → is_some (chunk_at chunks (i + k) 0) ≡ true) → list_any (is_outside chunks) (split_requests i ss) ≡ false
none_from chunks i [] held = refl
none_from chunks i (s ∷ ss) held =
    let rest : list_any (is_outside chunks) (split_requests (i + 1) ss) ≡ false = none_from chunks (i + 1) ss (λ k l. subst (λ n. is_some (chunk_at chunks n 0) ≡ true) (omega arith) (held (suc k) (omega (arith, l)))) in
    let here : is_some (chunk_at chunks i 0) ≡ true = subst (λ n. is_some (chunk_at chunks n 0) ≡ true) (omega arith) (held 0 (omega arith)) in
    elim (cases_Bool (nat_lt 0 s.rows)) [
      | inl l ↦ ap (list_any (is_outside chunks)) (requests_live i s ss l) ∙ rw here rest
      | inr l ↦ ap (list_any (is_outside chunks)) (requests_empty i s ss l) ∙ rest
    ]

-- no request of a scan is outside the chunks
pub none_outside : (chunks : List (List Chunk)) (splits : List SplitDesc) (numbers : List (List ℕ)) → HasNumbers chunks splits numbers → list_any (is_outside chunks) (split_requests 0 splits) ≡ false
none_outside chunks splits numbers held =
    none_from chunks 0 splits (λ k l. subst (λ n. is_some (chunk_at chunks n 0) ≡ true) (omega arith) (some_mapped _ (chunk_at chunks k 0) _ (held.held k [] l)))
