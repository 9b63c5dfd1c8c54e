-- What morsels of tables tell keeps the rules of morsels.
use Rattle.std.specs.Prelude.{◌≡◌, ◌≢◌, ℕ, ◌+◌, ◌<◌, ◌≤◌, ◌==◌, ◌&&◌, Bool, true, false, IsTrue, Option, None, Some, Result, Ok, Err, List, [], ◌∷◌, length, map, filter, slice_get, slice_set, if◌then◌else◌, refl}
use Rattle.std.proofs.Common.{sym, ap, subst, ◌∙◌, zero, suc, arith, lit<}
use Rattle.std.proofs.lemmas.List.Elements.{All-cons, All-nil}
use Rattle.std.specs.Option.{option_map}
use Rattle.std.specs.List.{AllByRecursion, AllZip, filter_map, list_all, list_any}
use Rattle.vortex_array.specs.Batch.{BatchParts}
use Rattle.vortex_array.specs.ColumnOf.{column_of, is_plain}
use Rattle.vortex_array.specs.declared.arrays.Array.{Array}
use Rattle.vortex_array_types.specs.Row.{Column}
use Rattle.vortex_array_types.specs.Truth.{Cells}
use Rattle.vortex_array_types.specs.declared.column.ColumnDesc.{ColumnDesc}
use Rattle.vortex_io.specs.Source.{Agrees, Content, chunk_at, is_fetch, is_of_kind}
use Rattle.vortex_io.specs.declared.ids.IoRequestId.{IoRequestId}
use Rattle.vortex_io.specs.declared.request.IoRequest.{IoRequest}
use Rattle.vortex_io.specs.declared.request.IoResult.{IoResult}
use Rattle.vortex_io.specs.declared.request.IoResult.TheVariants as result
use Rattle.vortex_io.specs.declared.request.IoTarget.{IoTarget}
use Rattle.vortex_io.specs.declared.request.IoTarget.TheVariants as target
use Rattle.vortex_scan.specs.Orderly.{MorselGoesOn, MorselIsOrderly, PublishesAnew, has_number, is_other, request_numbers}
use Rattle.vortex_scan.specs.Owed.{MorselGives, MorselOwes, NamesTargets, Rows, rows_of}
use Rattle.vortex_scan.specs.Plans.{DeliversAsTold, IsSpent, MorselFollowsPlan, answer_fetches}
use Rattle.vortex_scan.specs.declared.state.MorselOutput.{MorselOutput}
use Rattle.vortex_scan.specs.declared.state.MorselOutput.TheVariants as morsel
use Rattle.vortex_scan.specs.declared.state.State.TheVariants as state
use Rattle.vortex_table_chunks.specs.ChunkOf.{chunk_column}
use Rattle.vortex_table_chunks.specs.Kept.{HoldsNamed, IsBatchOf, StandsFor}
use Rattle.vortex_table_chunks.specs.declared.chunk.Chunk.{Chunk}
use Rattle.vortex_table_planner.specs.Live.{chunks_of}
use Rattle.vortex_table_planner.specs.Morsels as m
use Rattle.vortex_table_planner.specs.Morsels.{Gives, IsFitting, IsSound, Mismatches, MorselComputes, MorselState, MorselTakes, chunk_request, handed, has_plain_columns, if_any, is_among, is_asking, is_awaited, is_free, is_fresh, is_fresh_at, is_missing, is_ready, is_want, kept_of, lacks, morsel_asked, morsel_names, morsel_owed, morsel_permits, morsel_plan, morsel_state, morsel_work, named_column, names_of, or_empty, owed_at, requests_of, rows_for, rows_under, seen, seen_columns, seen_from, settled, slot, state_at, targets_at, work_at}
use Rattle.vortex_table_planner.specs.declared.errors.PlanError.{PlanError}
use Rattle.vortex_table_planner.specs.declared.errors.PlanError.TheVariants as error
use Rattle.vortex_table_planner.specs.declared.phase.Phase.{Phase}
use Rattle.vortex_table_planner.specs.declared.phase.Phase.TheVariants as phase

-- ---- rows

-- the columns that are seen are what the given chunks stand for
stands : (columns : List ColumnDesc) (chunks : List (Option Chunk)) (others : ℕ → Option Chunk) (n : ℕ) → length chunks ≡ length columns → AllZip StandsFor chunks (seen_from columns chunks others n)
stands [] [] others n e = tt
stands [] (chunk ∷ chunks) others n e = absurd (cc)
stands (column ∷ columns) [] others n e = absurd (cc)
stands (column ∷ columns) (None ∷ chunks) others n e = (tt, stands columns chunks others (n + 1) (omega (arith, e)))
stands (column ∷ columns) (Some chunk ∷ chunks) others n e = (refl, stands columns chunks others (n + 1) (omega (arith, e)))

-- arrays of what stands under the names are the named columns
arrays_are : (columns : List ColumnDesc) (rows : List Cells) (names : List (List ℕ)) (arrays : List Array) → AllZip (HoldsNamed columns rows) names arrays → filter_map (named_column columns rows) names ≡ map column_of arrays
arrays_are columns rows [] [] z = refl
arrays_are columns rows [] (array ∷ arrays) z = absurd z
arrays_are columns rows (name ∷ names) [] z = absurd z
arrays_are columns rows (name ∷ names) (array ∷ arrays) z = rw (z.0.dtype, sym z.0.rows) (ap (λ rest. column_of array ∷ rest) (arrays_are columns rows names arrays z.1))

all_plain : (columns : List ColumnDesc) (rows : List Cells) (names : List (List ℕ)) (arrays : List Array) → AllZip (HoldsNamed columns rows) names arrays → list_all is_plain arrays ≡ true
all_plain columns rows [] [] z = refl
all_plain columns rows [] (array ∷ arrays) z = absurd z
all_plain columns rows (name ∷ names) [] z = absurd z
all_plain columns rows (name ∷ names) (array ∷ arrays) z = grind (arith, z.0.plain, all_plain columns rows names arrays z.1)

-- rows that are some are one entry, and none are no entry
some_rows : (kept : List Cells) (rows : Rows) → length kept ≢ 0 → if_any kept rows ≡ rows ∷ []
some_rows [] rows n = absurd (n refl)
some_rows (cells ∷ kept) rows n = refl

no_rows : (kept : List Cells) (rows : Rows) → length kept ≡ 0 → if_any kept rows ≡ []
no_rows [] rows e = refl
no_rows (cells ∷ kept) rows e = absurd (cc)

-- what a ready morsel owes does not wait on anything
owed_ready : (step : Phase) (needed : List ℕ) (rows : List Rows) → is_ready step needed ≡ true → owed_at step rows ≡ rows
owed_ready phase.Fresh [] rows e = refl
owed_ready phase.Fresh (column ∷ needed) rows e = absurd (cc)
owed_ready phase.Asking needed rows e = absurd (cc)
owed_ready phase.Ready needed rows e = refl
owed_ready phase.Done needed rows e = absurd (cc)

module _ (content : Content Chunk) (old : MorselState) (array : BatchParts) (g : Gives old array) where
  is_batch : IsBatchOf old.wanted.columns (names_of old.wanted) (kept_of old.wanted old.bits (seen_columns old content)) array
  is_batch = g.rows (seen_columns old content) (stands old.wanted.columns old.chunks (chunk_at content old.split) 0 g.long)

  gives_some : array.rows ≢ 0 → morsel_owed old content ≡ rows_of array ∷ []
  gives_some n =
      let kept : List Cells = kept_of old.wanted old.bits (seen_columns old content) in
      let same : rows_under old.wanted.columns (names_of old.wanted) kept ≡ rows_of array =
      ap (λ (count : ℕ). record { count = count; columns = filter_map (named_column old.wanted.columns kept) (names_of old.wanted) }) (sym is_batch.rows)
      ∙ ap (λ (columns : List Column). record { count = array.rows; columns = columns }) (arrays_are old.wanted.columns kept (names_of old.wanted) array.columns is_batch.arrays) in
      owed_ready old.step old.wanted.needed (rows_for old.wanted old.bits (seen_columns old content)) g.ready
      ∙ some_rows kept (rows_under old.wanted.columns (names_of old.wanted) kept) (λ e. n (is_batch.rows ∙ e)) ∙ ap (λ (rows : Rows). rows ∷ []) same

  gives_none : array.rows ≡ 0 → morsel_owed old content ≡ []
  gives_none e =
      let kept : List Cells = kept_of old.wanted old.bits (seen_columns old content) in
      owed_ready old.step old.wanted.needed (rows_for old.wanted old.bits (seen_columns old content)) g.ready
      ∙ no_rows kept (rows_under old.wanted.columns (names_of old.wanted) kept) (sym is_batch.rows ∙ e)

morsel_gives : (content : Content Chunk) (old : MorselState) (answer : Result MorselOutput PlanError) (new : MorselState) → MorselComputes old answer new → MorselGives (morsel_owed old content) answer (morsel_owed new content)
morsel_gives content old (Ok morsel.Done) new c = gives_none content old c.0.0 c.0.1 c.0.2
morsel_gives content old (Ok morsel.Continue) new c = absurd c
morsel_gives content old (Ok (morsel.NeedsIO batch)) new c = rw (c.3, c.0) refl
morsel_gives content old (Ok (morsel.Batch array)) new c = rw c.2 (gives_some content old array c.0 c.1)
morsel_gives content old (Err failure) new c = tt

-- done, it owes nothing
ends_at : (step : Phase) (rows : List Rows) → state_at step ≡ state.Done → owed_at step rows ≡ []
ends_at phase.Fresh rows e = absurd (cc)
ends_at phase.Asking rows e = absurd (cc)
ends_at phase.Ready rows e = absurd (cc)
ends_at phase.Done rows e = refl

-- ---- chunks that come

-- a chunk put at a free place, which is what stands there, changes nothing that is seen
seen_given : (columns : List ColumnDesc) (chunks : List (Option Chunk)) (others : ℕ → Option Chunk) (n k : ℕ) (chunk : Chunk) → is_free (slice_get chunks k) ≡ true
    → option_map chunk_column (others (n + k)) ≡ Some (chunk_column chunk) → seen_from columns (slice_set chunks k (Some chunk)) others n ≡ seen_from columns chunks others n
seen_given columns [] others n k chunk free e = absurd (cc)
seen_given [] (old ∷ chunks) others n k chunk free e = refl
seen_given (column ∷ columns) (None ∷ chunks) others n zero chunk free e =
    let here : option_map chunk_column (others n) ≡ Some (chunk_column chunk) = subst (λ (i : ℕ). option_map chunk_column (others i) ≡ Some (chunk_column chunk)) (omega arith) e in
    rw here refl
seen_given (column ∷ columns) (Some old ∷ chunks) others n zero chunk free e = absurd (cc)
seen_given (column ∷ columns) (old ∷ chunks) others n (suc k) chunk free e =
    let next : option_map chunk_column (others (n + 1 + k)) ≡ Some (chunk_column chunk) = subst (λ (i : ℕ). option_map chunk_column (others i) ≡ Some (chunk_column chunk)) (omega arith) e in
    ap (λ (rest : List Column). or_empty column (seen old (others n)) ∷ rest) (seen_given columns chunks others (n + 1) k chunk free next)

pub nat_same : (i k : ℕ) → (i == k) ≡ true → i ≡ k
nat_same i k e = grind (arith, e)

pub nat_other : (i k : ℕ) → (i == k) ≡ false → i ≢ k
nat_other i k e same = grind (arith, e, same)

-- the place where a chunk was put has it, and every other place what it had
pub slot_set : (chunks : List (Option Chunk)) (k : ℕ) (chunk : Chunk) → is_free (slice_get chunks k) ≡ true → slot (slice_set chunks k (Some chunk)) k ≡ Some chunk
slot_set [] k chunk free = absurd (cc)
slot_set (old ∷ chunks) zero chunk free = refl
slot_set (old ∷ chunks) (suc k) chunk free = slot_set chunks k chunk free

pub slot_free : (chunks : List (Option Chunk)) (k : ℕ) → is_free (slice_get chunks k) ≡ true → slot chunks k ≡ None
slot_free [] k free = absurd (cc)
slot_free (None ∷ chunks) zero free = refl
slot_free (Some old ∷ chunks) zero free = absurd (cc)
slot_free (old ∷ chunks) (suc k) free = slot_free chunks k free

pub slot_other : (chunks : List (Option Chunk)) (k i : ℕ) (chunk : Chunk) → i ≢ k → slot (slice_set chunks k (Some chunk)) i ≡ slot chunks i
slot_other [] k i chunk n = refl
slot_other (old ∷ chunks) zero zero chunk n = absurd (n refl)
slot_other (old ∷ chunks) zero (suc i) chunk n = refl
slot_other (old ∷ chunks) (suc k) zero chunk n = refl
slot_other (old ∷ chunks) (suc k) (suc i) chunk n = slot_other chunks k i chunk (λ e. n (ap suc e))

-- a missing chunk of a column that has a place is free there
free_inside : (chunks : List (Option Chunk)) (k : ℕ) → k < length chunks → is_missing chunks k ≡ true → is_free (slice_get chunks k) ≡ true
free_inside [] k h e = absurd (omega (arith, h))
free_inside (None ∷ chunks) zero h e = refl
free_inside (Some old ∷ chunks) zero h e = absurd (cc)
free_inside (old ∷ chunks) (suc k) h e = free_inside chunks k (omega (arith, h)) e

-- whether a chunk is awaited, by its three tests
tests : (a b c : Bool) → (a && b && c) ≡ true → (a ≡ true) × (b ≡ true) × (c ≡ true)
tests true true true e = (refl, refl, refl)
tests true true false e = absurd (cc)
tests true false c e = absurd (cc)
tests false b c e = absurd (cc)

asks : (step : Phase) → is_asking step ≡ true → step ≡ phase.Asking
asks phase.Fresh e = absurd (cc)
asks phase.Asking e = refl
asks phase.Ready e = absurd (cc)
asks phase.Done e = absurd (cc)

-- a fact of a morsel that was handed a chunk: it is as it was, or it took the chunk, and waits on or has all
by_given : (P : MorselState → Type 0) (it : MorselState) (column : ℕ) (chunk : Chunk) → (is_awaited it column ≡ false → P it)
    → (it.step ≡ phase.Asking → is_free (slice_get it.chunks column) ≡ true → lacks it.wanted.needed (slice_set it.chunks column (Some chunk)) ≡ true → P (record it { chunks = slice_set it.chunks column (Some chunk) }))
    → (it.step ≡ phase.Asking → is_free (slice_get it.chunks column) ≡ true → lacks it.wanted.needed (slice_set it.chunks column (Some chunk)) ≡ false → P (record it { chunks = slice_set it.chunks column (Some chunk); step = phase.Ready }))
    → P (handed it column (result.Chunk chunk))
by_given P it column chunk same waits all = by (is_awaited it column) refl (lacks it.wanted.needed (slice_set it.chunks column (Some chunk))) refl
  where
    by : (b : Bool) → is_awaited it column ≡ b → (l : Bool) → lacks it.wanted.needed (slice_set it.chunks column (Some chunk)) ≡ l
        → P (if b then (if l then record it { chunks = slice_set it.chunks column (Some chunk) } else record it { chunks = slice_set it.chunks column (Some chunk); step = phase.Ready }) else it)
    by false e l f = same e
    by true e true f = let t = tests (is_asking it.step) (is_among it.wanted.needed column) (is_free (slice_get it.chunks column)) e in waits (asks it.step t.0) t.2 f
    by true e false f = let t = tests (is_asking it.step) (is_among it.wanted.needed column) (is_free (slice_get it.chunks column)) e in all (asks it.step t.0) t.2 f

morsel_delivers : (content : Content Chunk) (old : MorselState) (number : IoRequestId) (at : IoTarget) (outcome : IoResult Chunk) (new : MorselState) → MorselTakes old number outcome new
    → morsel_names old number ≡ Some at → Agrees chunk_column content at outcome → morsel_owed new content ≡ morsel_owed old content
morsel_delivers content old number at (result.Size size) new takes named agrees = rw takes refl
morsel_delivers content old number at (result.Chunk chunk) new takes named agrees =
    let e : target.Chunk old.split number.0 ≡ at = cc in
    let a : option_map chunk_column (chunk_at content old.split number.0) ≡ Some (chunk_column chunk) = subst (λ (t : IoTarget). Agrees chunk_column content t (result.Chunk chunk)) (sym e) agrees in
    let b : option_map chunk_column (chunk_at content old.split (0 + number.0)) ≡ Some (chunk_column chunk) = subst (λ (i : ℕ). option_map chunk_column (chunk_at content old.split i) ≡ Some (chunk_column chunk)) (omega arith) a in
    rw takes
    (by_given (λ it. morsel_owed it content ≡ morsel_owed old content) old number.0 chunk (λ n. refl)
    (λ step free l. ap (λ (columns : List Column). owed_at old.step (rows_for old.wanted old.bits columns)) (seen_given old.wanted.columns old.chunks (chunk_at content old.split) 0 number.0 chunk free b))
    (λ step free l. rw step (ap (λ (columns : List Column). rows_for old.wanted old.bits columns) (seen_given old.wanted.columns old.chunks (chunk_at content old.split) 0 number.0 chunk free b))))

-- its requests ask for what their numbers name
names_all : (it : MorselState) (needed : List ℕ) → NamesTargets (morsel_names it) (requests_of it.split needed)
names_all it [] = All-nil (λ (request : IoRequest). IsTrue (is_fetch request) → morsel_names it request.request ≡ Some request.target)
names_all it (column ∷ needed) =
    All-cons (λ (request : IoRequest). IsTrue (is_fetch request) → morsel_names it request.request ≡ Some request.target) (chunk_request it.split column) (requests_of it.split needed) (λ owed. refl) (names_all it needed)

morsel_publishes : (old : MorselState) (batch : List IoRequest) (new : MorselState) → MorselComputes old (Ok (morsel.NeedsIO batch)) new → NamesTargets (morsel_names old) batch
morsel_publishes old batch new c = rw c.2 (names_all old old.wanted.needed)

pub morsel_owes : MorselOwes chunk_column MorselTakes morsel_names morsel_state MorselComputes morsel_owed
morsel_owes = record { gives = morsel_gives; ends = λ content it done. ends_at it.step (rows_for it.wanted it.bits (seen_columns it content)) done; delivers = morsel_delivers; publishes = morsel_publishes }

-- ---- behaviour

-- a filter that keeps all of some elements passes one; one that passes none keeps none
keeps_all : {X : Type 0} (p : X → Bool) (xs : List X) → list_any p xs ≡ false → filter p xs ≡ []
keeps_all p [] e = refl
keeps_all {X} p (x ∷ xs) e = by (p x) refl (keeps_all p xs)
  where
    by : (b : Bool) → p x ≡ b → (list_any p xs ≡ false → filter p xs ≡ []) → filter p (x ∷ xs) ≡ []
    by true f rest = absurd (let no : true ≡ false = rw f at e in cc)
    by false f rest = rw f (rest (rw f at e))

some_pass : {X : Type 0} (p : X → Bool) (xs : List X) → xs ≢ [] → filter p xs ≡ xs → list_any p xs ≡ true
some_pass p [] n e = absurd (n refl)
some_pass {X} p (x ∷ xs) n e = by (list_any p (x ∷ xs)) refl
  where
    by : (b : Bool) → list_any p (x ∷ xs) ≡ b → b ≡ true
    by true f = refl
    by false f = absurd (let none : [] ≡ x ∷ xs = sym (keeps_all p (x ∷ xs) f) ∙ e in cc)

none_if : {X : Type 0} (p : X → Bool) (xs : List X) → list_any p xs ≡ true → filter p xs ≢ []
none_if p [] e = absurd (cc)
none_if {X} p (x ∷ xs) e = by (p x) refl (none_if p xs)
  where
    by : (b : Bool) → p x ≡ b → (list_any p xs ≡ true → filter p xs ≢ []) → filter p (x ∷ xs) ≢ []
    by true f rest = rw f (λ n. absurd (cc))
    by false f rest = rw f (rest (rw f at e))

-- no requests are asked for where no column is
no_requests : (split : ℕ) (needed : List ℕ) → requests_of split needed ≡ [] → needed ≡ []
no_requests split [] e = refl
no_requests split (column ∷ needed) e = absurd (cc)

-- all are fetches, numbered by their columns
all_fetches : (split : ℕ) (needed : List ℕ) → filter is_fetch (requests_of split needed) ≡ requests_of split needed
all_fetches split [] = refl
all_fetches split (column ∷ needed) = ap (λ rest. chunk_request split column ∷ rest) (all_fetches split needed)

numbers_are : (split : ℕ) (needed : List ℕ) → request_numbers (requests_of split needed) ≡ needed
numbers_are split [] = refl
numbers_are split (column ∷ needed) = ap (λ rest. column ∷ rest) (numbers_are split needed)

targets_are : (split : ℕ) (needed : List ℕ) → map (λ (request : IoRequest). request.target) (requests_of split needed) ≡ chunks_of split needed
targets_are split [] = refl
targets_are split (column ∷ needed) = ap (λ rest. target.Chunk split column ∷ rest) (targets_are split needed)

no_targets : (split : ℕ) (needed : List ℕ) → chunks_of split needed ≡ [] → needed ≡ []
no_targets split [] e = refl
no_targets split (column ∷ needed) e = absurd (cc)

-- what a ready morsel has asked: nothing; its work, and that it is not fresh
asked_ready : (step : Phase) (needed : List ℕ) (requests : List IoRequest) → is_ready step needed ≡ true → m.asked_at step requests ≡ []
asked_ready phase.Fresh needed requests e = refl
asked_ready phase.Asking needed requests e = absurd (cc)
asked_ready phase.Ready needed requests e = refl
asked_ready phase.Done needed requests e = refl

work_ready : (step : Phase) (needed : List ℕ) → is_ready step needed ≡ true → 1 < work_at step
work_ready phase.Fresh needed e = lit< tt
work_ready phase.Asking needed e = lit< tt
work_ready phase.Ready needed e = lit< tt
work_ready phase.Done needed e = absurd (cc)

ready_not_fresh : (step : Phase) (needed : List ℕ) → is_ready step needed ≡ true → is_fresh_at step needed ≡ false
ready_not_fresh phase.Fresh [] e = refl
ready_not_fresh phase.Fresh (column ∷ needed) e = absurd (cc)
ready_not_fresh phase.Asking needed e = refl
ready_not_fresh phase.Ready needed e = refl
ready_not_fresh phase.Done needed e = refl

fresh_computes : (step : Phase) (needed : List ℕ) → is_fresh_at step needed ≡ true → state_at step ≡ state.NeedsCompute
fresh_computes phase.Fresh needed e = refl
fresh_computes phase.Asking needed e = absurd (cc)
fresh_computes phase.Ready needed e = refl
fresh_computes phase.Done needed e = absurd (cc)

some_work_at : (step : Phase) → 0 < work_at step
some_work_at phase.Fresh = lit< tt
some_work_at phase.Asking = lit< tt
some_work_at phase.Ready = lit< tt
some_work_at phase.Done = lit< tt

-- a waiting morsel has asked something
waits_at : (it : MorselState) (step : Phase) → IsSound it → it.step ≡ step → state_at step ≡ state.Waiting → m.asked_at step (requests_of it.split (filter (is_missing it.chunks) it.wanted.needed)) ≢ []
waits_at it phase.Fresh s e w = absurd (cc)
waits_at it phase.Asking s e w = λ n. none_if (is_missing it.chunks) it.wanted.needed (s.some e) (no_requests it.split (filter (is_missing it.chunks) it.wanted.needed) n)
waits_at it phase.Ready s e w = absurd (cc)
waits_at it phase.Done s e w = absurd (cc)

-- a sound morsel that is done is sound
sound_done : (it : MorselState) → IsSound it → IsSound (record it { step = phase.Done })
sound_done it s = record { wanted = s.wanted; long = s.long; none = λ e. absurd (cc); some = λ e. absurd (cc) }

sound_asking : (it : MorselState) → IsSound it → it.step ≡ phase.Fresh → it.wanted.needed ≢ [] → IsSound (record it { step = phase.Asking })
sound_asking it s fresh n = record { wanted = s.wanted; long = s.long; none = λ e. absurd (cc); some = λ e. some_pass (is_missing it.chunks) it.wanted.needed n (s.none fresh) }

morsel_goes_on : (old : MorselState) (output : MorselOutput) (new : MorselState) → IsSound old → MorselComputes old (Ok output) new
    → IsSound new × MorselGoesOn output (morsel_asked old) (morsel_asked new) (morsel_work old) (morsel_work new) (morsel_state new)
morsel_goes_on old morsel.Done new s c = rw c.1 (sound_done old s, sym (asked_ready old.step old.wanted.needed (requests_of old.split (filter (is_missing old.chunks) old.wanted.needed)) c.0.1.ready))
morsel_goes_on old morsel.Continue new s c = absurd c
morsel_goes_on old (morsel.NeedsIO batch) new s c =
    let asked : requests_of old.split (filter (is_missing old.chunks) old.wanted.needed) ≡ requests_of old.split old.wanted.needed = ap (requests_of old.split) (s.none c.0) in
    let anew : PublishesAnew [] (requests_of old.split old.wanted.needed) = record {
      some = λ e. c.1 (no_requests old.split old.wanted.needed e);
      numbers = rw (all_fetches old.split old.wanted.needed, numbers_are old.split old.wanted.needed) s.wanted.apart;
    } in
    rw (c.3, c.2, c.0) (sound_asking old s c.0 c.1, (anew, rw (all_fetches old.split old.wanted.needed) asked, lit< tt))
morsel_goes_on old (morsel.Batch array) new s c =
    rw c.2 (sound_done old s, (c.1, sym (asked_ready old.step old.wanted.needed (requests_of old.split (filter (is_missing old.chunks) old.wanted.needed)) c.0.ready), work_ready old.step old.wanted.needed c.0.ready, (λ e. absurd (cc))))

-- ---- what an asked number is

any_later : (column : ℕ) (needed : List ℕ) (number : ℕ) → is_among needed number ≡ true → is_among (column ∷ needed) number ≡ true
any_later column needed number e = grind (arith, e)

-- where one asked request has a number, it is of a needed column without a chunk
found : (split : ℕ) (chunks : List (Option Chunk)) (needed : List ℕ) (number : IoRequestId) (request : IoRequest) → filter (has_number number) (requests_of split (filter (is_missing chunks) needed)) ≡ request ∷ []
    → (is_among needed number.0 ≡ true) × (is_missing chunks number.0 ≡ true) × (chunk_request split number.0 ≡ request)
found split chunks [] number request e = absurd (cc)
found split chunks (column ∷ needed) number request e = by (is_missing chunks column) refl (column == number.0) refl (found split chunks needed number request)
  where
    by : (b : Bool) → is_missing chunks column ≡ b → (d : Bool) → (column == number.0) ≡ d
        → (filter (has_number number) (requests_of split (filter (is_missing chunks) needed)) ≡ request ∷ [] → (is_among needed number.0 ≡ true) × (is_missing chunks number.0 ≡ true) × (chunk_request split number.0 ≡ request))
        → (is_among (column ∷ needed) number.0 ≡ true) × (is_missing chunks number.0 ≡ true) × (chunk_request split number.0 ≡ request)
    by false f d g rest =
        let r = rest (rw f at e) in
        (any_later column needed number.0 r.0, r.1, r.2)
    by true f false g rest =
        let r = rest (rw (f, g) at e) in
        (any_later column needed number.0 r.0, r.1, r.2)
    by true f true g rest =
        let same : column ≡ number.0 = nat_same column number.0 g in
        let h : chunk_request split column ∷ filter (has_number number) (requests_of split (filter (is_missing chunks) needed)) ≡ request ∷ [] = rw (f, g) at e in
        let first : chunk_request split column ≡ request = cc in
        (rw g refl, subst (λ (i : ℕ). is_missing chunks i ≡ true) same f, subst (λ (i : ℕ). chunk_request split i ≡ request) same first)

-- after a chunk came, what is missing is asked for but for its column
asked_after : (split : ℕ) (chunks : List (Option Chunk)) (needed : List ℕ) (number : IoRequestId) (chunk : Chunk) → is_free (slice_get chunks number.0) ≡ true
    → requests_of split (filter (is_missing (slice_set chunks number.0 (Some chunk))) needed) ≡ filter (is_other number) (requests_of split (filter (is_missing chunks) needed))
asked_after split chunks [] number chunk free = refl
asked_after split chunks (column ∷ needed) number chunk free = by (asked_after split chunks needed number chunk free) (column == number.0) refl (is_missing chunks column) refl
  where
    by : requests_of split (filter (is_missing (slice_set chunks number.0 (Some chunk))) needed) ≡ filter (is_other number) (requests_of split (filter (is_missing chunks) needed)) → (d : Bool) → (column == number.0) ≡ d → (b : Bool) → is_missing chunks column ≡ b
        → requests_of split (filter (is_missing (slice_set chunks number.0 (Some chunk))) (column ∷ needed)) ≡ filter (is_other number) (requests_of split (filter (is_missing chunks) (column ∷ needed)))
    by rest true g b f =
        let same : column ≡ number.0 = nat_same column number.0 g in
        let there : is_missing (slice_set chunks number.0 (Some chunk)) column ≡ false = rw (same, slot_set chunks number.0 chunk free) refl in
        let missing : is_missing chunks column ≡ true = rw (same, slot_free chunks number.0 free) refl in
        rw (there, missing, g) rest
    by rest false g true f =
        let there : is_missing (slice_set chunks number.0 (Some chunk)) column ≡ true = rw (slot_other chunks number.0 column chunk (nat_other column number.0 g)) f in
        rw (there, f, g) (ap (λ (requests : List IoRequest). chunk_request split column ∷ requests) rest)
    by rest false g false f =
        let there : is_missing (slice_set chunks number.0 (Some chunk)) column ≡ false = rw (slot_other chunks number.0 column chunk (nat_other column number.0 g)) f in
        rw (there, f) rest

-- a needed column is a column
inside_at : (n : ℕ) (needed : List ℕ) (column : ℕ) → AllByRecursion (λ other. other < n) needed → is_among needed column ≡ true → column < n
inside_at n [] column all e = absurd (cc)
inside_at n (other ∷ needed) column all e = by (other == column) refl (inside_at n needed column all.1)
  where
    by : (b : Bool) → (other == column) ≡ b → (is_among needed column ≡ true → column < n) → column < n
    by true f rest = subst (λ (i : ℕ). i < n) (nat_same other column f) all.0
    by false f rest = rest (rw f at e)

pub length_set : {X : Type 0} (xs : List X) (k : ℕ) (x : X) → length (slice_set xs k x) ≡ length xs
length_set [] k x = refl
length_set (y ∷ xs) zero x = refl
length_set (y ∷ xs) (suc k) x = ap suc (length_set xs k x)

-- an awaited chunk is awaited
awaits : (it : MorselState) (column : ℕ) → IsSound it → it.step ≡ phase.Asking → is_among it.wanted.needed column ≡ true → is_missing it.chunks column ≡ true → is_awaited it column ≡ true
awaits it column s e among missing =
    let inside : column < length it.wanted.columns = inside_at (length it.wanted.columns) it.wanted.needed column s.wanted.inside among in
    let free : is_free (slice_get it.chunks column) ≡ true = free_inside it.chunks column (omega (arith, inside, s.long)) missing in
    rw (e, among, free) refl

-- what an orderly morsel is after what came
record Takes (old : MorselState) (number : IoRequestId) (new : MorselState) : Type 0 where
  sound : IsSound new
  asked : morsel_asked new ≡ filter (is_other number) (morsel_asked old)
  work : morsel_work new ≤ morsel_work old
  acts : morsel_state old ≢ state.Waiting → morsel_state new ≢ state.Waiting

takes_asking : (old : MorselState) (number : IoRequestId) (request : IoRequest) (chunk : Chunk) → IsSound old → old.step ≡ phase.Asking → filter (has_number number) (requests_of old.split (filter (is_missing old.chunks) old.wanted.needed)) ≡ request ∷ []
    → Takes old number (handed old number.0 (result.Chunk chunk))
takes_asking old number request chunk s e one =
    let f = found old.split old.chunks old.wanted.needed number request one in
    let put : List (Option Chunk) = slice_set old.chunks number.0 (Some chunk) in
    by_given (Takes old number) old number.0 chunk
    (λ n. absurd (let no : true ≡ false = sym (awaits old number.0 s e f.0 f.1) ∙ n in cc))
    (λ step free l. record {
      sound = record { wanted = s.wanted; long = length_set old.chunks number.0 (Some chunk) ∙ s.long; none = λ h. absurd (let no : phase.Asking ≡ phase.Fresh = sym step ∙ h in cc); some = λ h. l };
      asked = rw step (asked_after old.split old.chunks old.wanted.needed number chunk free);
      work = omega arith;
      acts = λ n. absurd (n (rw step refl));
    })
    (λ step free l. record {
      sound = record { wanted = s.wanted; long = length_set old.chunks number.0 (Some chunk) ∙ s.long; none = λ h. absurd (cc); some = λ h. absurd (cc) };
      asked = rw step (sym (ap (requests_of old.split) (keeps_all (is_missing put) old.wanted.needed l)) ∙ asked_after old.split old.chunks old.wanted.needed number chunk free);
      work = rw step (omega arith);
      acts = λ n h. absurd (cc);
    })

takes_at : (old : MorselState) (step : Phase) (number : IoRequestId) (request : IoRequest) (outcome : IoResult Chunk) → IsSound old → old.step ≡ step
    → filter (has_number number) (m.asked_at step (requests_of old.split (filter (is_missing old.chunks) old.wanted.needed))) ≡ request ∷ [] → IsTrue (is_of_kind request.target outcome) → Takes old number (handed old number.0 outcome)
takes_at old phase.Fresh number request outcome s e one kind = absurd (cc)
takes_at old phase.Asking number request (result.Chunk chunk) s e one kind = takes_asking old number request chunk s e one
takes_at old phase.Asking number request (result.Size size) s e one kind =
    absurd (let f = found old.split old.chunks old.wanted.needed number request one in let outcome : IoResult Chunk = result.Size size in let k : IsTrue (is_of_kind (target.Chunk old.split number.0) outcome) = subst (λ (r : IoRequest). IsTrue (is_of_kind r.target outcome)) (sym f.2) kind in cc)
takes_at old phase.Ready number request outcome s e one kind = absurd (cc)
takes_at old phase.Done number request outcome s e one kind = absurd (cc)

morsel_takes_orderly : (old : MorselState) (number : IoRequestId) (request : IoRequest) (outcome : IoResult Chunk) (new : MorselState) → IsSound old
    → filter (has_number number) (morsel_asked old) ≡ request ∷ [] → IsTrue (is_of_kind request.target outcome) → MorselTakes old number outcome new
    → IsSound new × (morsel_asked new ≡ filter (is_other number) (morsel_asked old)) × (morsel_work new ≤ morsel_work old) × (morsel_state old ≢ state.Waiting → morsel_state new ≢ state.Waiting)
morsel_takes_orderly old number request outcome new s one kind takes =
    let t : Takes old number (handed old number.0 outcome) = takes_at old old.step number request outcome s refl one kind in
    rw takes (t.sound, t.asked, t.work, t.acts)

morsel_memory : (it : MorselState) (content : Content Chunk) (failure : PlanError) → IsSound it → is_want failure ≡ true → morsel_permits it content failure
morsel_memory it content (error.ChunkMismatch split column) s e = absurd (cc)
morsel_memory it content error.OutOfMemory s e = tt

-- ---- failures

-- a chunk that was given is seen whatever else stands there
seen_any : (given other : Option Chunk) (column : Column) → seen given None ≡ Some column → seen given other ≡ Some column
seen_any None other column e = absurd (cc)
seen_any (Some chunk) other column e = e

morsel_fails : (old : MorselState) (failure : PlanError) (new : MorselState) → IsSound old → MorselComputes old (Err failure) new → (content : Content Chunk) → morsel_permits old content failure
morsel_fails old (error.ChunkMismatch split column) new s c content =
    record { here = c.0.here; needed = c.0.needed; described = c.0.described; named = c.0.named; chunk = c.0.chunk; there = seen_any (slot old.chunks column) (chunk_at content old.split column) c.0.chunk c.0.there; differs = c.0.differs }
morsel_fails old error.OutOfMemory new s c content = tt

-- a step changes nothing of what is permitted
permits_step : (it : MorselState) (step : Phase) (content : Content Chunk) (failure : PlanError) → morsel_permits (record it { step = step }) content failure → morsel_permits it content failure
permits_step it step content (error.ChunkMismatch split column) p = record { here = p.here; needed = p.needed; described = p.described; named = p.named; chunk = p.chunk; there = p.there; differs = p.differs }
permits_step it step content error.OutOfMemory p = tt

morsel_permits_less : (old : MorselState) (output : MorselOutput) (new : MorselState) (content : Content Chunk) (failure : PlanError) → IsSound old → MorselComputes old (Ok output) new → morsel_permits new content failure → morsel_permits old content failure
morsel_permits_less old morsel.Done new content failure s c p = permits_step old phase.Done content failure (rw c.1 at p)
morsel_permits_less old morsel.Continue new content failure s c p = absurd c
morsel_permits_less old (morsel.NeedsIO batch) new content failure s c p = permits_step old phase.Asking content failure (rw c.3 at p)
morsel_permits_less old (morsel.Batch array) new content failure s c p = permits_step old phase.Done content failure (rw c.2 at p)

-- what is seen of a column once what stands there was put at its place
seen_set : (chunks : List (Option Chunk)) (others : ℕ → Option Chunk) (k i : ℕ) (chunk : Chunk) → is_free (slice_get chunks k) ≡ true → option_map chunk_column (others k) ≡ Some (chunk_column chunk)
    → seen (slot (slice_set chunks k (Some chunk)) i) (others i) ≡ seen (slot chunks i) (others i)
seen_set chunks others k i chunk free e = by (i == k) refl
  where
    by : (b : Bool) → (i == k) ≡ b → seen (slot (slice_set chunks k (Some chunk)) i) (others i) ≡ seen (slot chunks i) (others i)
    by true f = rw (nat_same i k f, slot_set chunks k chunk free, slot_free chunks k free) (sym e)
    by false f = rw (slot_other chunks k i chunk (nat_other i k f)) refl

permits_put : (old : MorselState) (step : Phase) (column : ℕ) (chunk : Chunk) (content : Content Chunk) (failure : PlanError) → is_free (slice_get old.chunks column) ≡ true → option_map chunk_column (chunk_at content old.split column) ≡ Some (chunk_column chunk)
    → morsel_permits (record old { chunks = slice_set old.chunks column (Some chunk); step = step }) content failure → morsel_permits old content failure
permits_put old step column chunk content (error.ChunkMismatch split other) free e p = record {
  here = p.here;
  needed = p.needed;
  described = p.described;
  named = p.named;
  chunk = p.chunk;
  there = sym (seen_set old.chunks (chunk_at content old.split) column other chunk free e) ∙ p.there;
  differs = p.differs;
}
permits_put old step column chunk content error.OutOfMemory free e p = tt

permits_handed : (old : MorselState) (number : IoRequestId) (request : IoRequest) (chunk : Chunk) (content : Content Chunk) (failure : PlanError) → old.step ≡ phase.Asking
    → filter (has_number number) (requests_of old.split (filter (is_missing old.chunks) old.wanted.needed)) ≡ request ∷ [] → Agrees chunk_column content request.target (result.Chunk chunk)
    → morsel_permits (handed old number.0 (result.Chunk chunk)) content failure → morsel_permits old content failure
permits_handed old number request chunk content failure step one agrees =
    let f = found old.split old.chunks old.wanted.needed number request one in
    let a : option_map chunk_column (chunk_at content old.split number.0) ≡ Some (chunk_column chunk) = subst (λ (r : IoRequest). Agrees chunk_column content r.target (result.Chunk chunk)) (sym f.2) agrees in
    by_given (λ it. morsel_permits it content failure → morsel_permits old content failure) old number.0 chunk (λ n p. p)
    (λ e free l p. permits_put old phase.Asking number.0 chunk content failure free a (rw e at p))
    (λ e free l p. permits_put old phase.Ready number.0 chunk content failure free a p)

permits_at : (old : MorselState) (step : Phase) (number : IoRequestId) (request : IoRequest) (outcome : IoResult Chunk) (content : Content Chunk) (failure : PlanError) → old.step ≡ step
    → filter (has_number number) (m.asked_at step (requests_of old.split (filter (is_missing old.chunks) old.wanted.needed))) ≡ request ∷ [] → Agrees chunk_column content request.target outcome
    → morsel_permits (handed old number.0 outcome) content failure → morsel_permits old content failure
permits_at old step number request (result.Size size) content failure e one agrees p = p
permits_at old phase.Fresh number request (result.Chunk chunk) content failure e one agrees p = absurd (cc)
permits_at old phase.Asking number request (result.Chunk chunk) content failure e one agrees p = permits_handed old number request chunk content failure e one agrees p
permits_at old phase.Ready number request (result.Chunk chunk) content failure e one agrees p = absurd (cc)
permits_at old phase.Done number request (result.Chunk chunk) content failure e one agrees p = absurd (cc)

morsel_permits_given : (old : MorselState) (number : IoRequestId) (request : IoRequest) (outcome : IoResult Chunk) (new : MorselState) (content : Content Chunk) (failure : PlanError) → IsSound old
    → filter (has_number number) (morsel_asked old) ≡ request ∷ [] → Agrees chunk_column content request.target outcome → MorselTakes old number outcome new → morsel_permits new content failure → morsel_permits old content failure
morsel_permits_given old number request outcome new content failure s one agrees takes p = permits_at old old.step number request outcome content failure refl one agrees (rw takes at p)

pub morsel_is_orderly : MorselIsOrderly chunk_column MorselTakes morsel_state MorselComputes IsSound morsel_asked morsel_work is_want morsel_permits
morsel_is_orderly = record {
  some_work = λ it s. some_work_at it.step;
  waits = λ it s w. waits_at it it.step s refl w;
  goes_on = morsel_goes_on;
  delivers = morsel_takes_orderly;
  memory = morsel_memory;
  fails = morsel_fails;
  permits_less = morsel_permits_less;
  permits_given = morsel_permits_given;
}

-- ---- plan

morsel_spends : (told : Option (Content Chunk)) (old : MorselState) (answer : Result MorselOutput PlanError) (new : MorselState) → MorselComputes old answer new → IsSpent (morsel_plan old told) (answer_fetches answer) (morsel_plan new told)
morsel_spends told old (Ok morsel.Done) new c test = rw c.1 (omega arith)
morsel_spends told old (Ok morsel.Continue) new c test = absurd c
morsel_spends told old (Ok (morsel.NeedsIO batch)) new c test = rw (c.3, c.2, c.0, all_fetches old.split old.wanted.needed, targets_are old.split old.wanted.needed) (omega arith)
morsel_spends told old (Ok (morsel.Batch array)) new c test = rw c.2 (omega arith)
morsel_spends told old (Err (error.ChunkMismatch split column)) new c test = rw c.1 (omega arith)
morsel_spends told old (Err error.OutOfMemory) new c test = rw c (omega arith)

morsel_keeps_plan : (told : Option (Content Chunk)) (old : MorselState) (number : IoRequestId) (outcome : IoResult Chunk) (new : MorselState) → MorselTakes old number outcome new
    → DeliversAsTold chunk_column told (morsel_names old number) outcome → IsSpent (morsel_plan old told) [] (morsel_plan new told)
morsel_keeps_plan told old number (result.Size size) new takes delivers test = rw takes (omega arith)
morsel_keeps_plan told old number (result.Chunk chunk) new takes delivers test =
    rw takes (by_given (λ it. IsSpent (morsel_plan old told) [] (morsel_plan it told)) old number.0 chunk (λ n more. omega arith) (λ e free l more. rw e (omega arith)) (λ e free l more. rw e (omega arith)) test)

morsel_stays_fresh : (old : MorselState) (answer : Result MorselOutput PlanError) (new : MorselState) → MorselComputes old answer new → is_fresh old ≡ true → answer_fetches answer ≡ [] → is_fresh new ≡ true
morsel_stays_fresh old (Ok morsel.Done) new c fresh none = absurd (let no : true ≡ false = sym fresh ∙ ready_not_fresh old.step old.wanted.needed c.0.1.ready in cc)
morsel_stays_fresh old (Ok morsel.Continue) new c fresh none = absurd c
morsel_stays_fresh old (Ok (morsel.NeedsIO batch)) new c fresh none =
    let e : chunks_of old.split old.wanted.needed ≡ [] = rw (c.2, all_fetches old.split old.wanted.needed, targets_are old.split old.wanted.needed) at none in
    absurd (c.1 (no_targets old.split old.wanted.needed e))
morsel_stays_fresh old (Ok (morsel.Batch array)) new c fresh none = absurd (let no : true ≡ false = sym fresh ∙ ready_not_fresh old.step old.wanted.needed c.0.ready in cc)
morsel_stays_fresh old (Err (error.ChunkMismatch split column)) new c fresh none = rw c.1 fresh
morsel_stays_fresh old (Err error.OutOfMemory) new c fresh none = rw c fresh

morsel_given_fresh : (old : MorselState) (number : IoRequestId) (outcome : IoResult Chunk) (new : MorselState) → MorselTakes old number outcome new → is_fresh old ≡ true → is_fresh new ≡ true
morsel_given_fresh old number (result.Size size) new takes fresh = rw takes fresh
morsel_given_fresh old number (result.Chunk chunk) new takes fresh =
    rw takes (by_given (λ it. is_fresh it ≡ true) old number.0 chunk (λ n. fresh) (λ e free l. absurd (let no : false ≡ true = rw e at fresh in cc)) (λ e free l. absurd (let no : false ≡ true = rw e at fresh in cc)))

morsel_plain : (old : MorselState) (array : BatchParts) (new : MorselState) → MorselComputes old (Ok (morsel.Batch array)) new → has_plain_columns array ≡ true
morsel_plain old array new c =
    let contents : List Column = seen_from old.wanted.columns old.chunks (λ _. None) 0 in
    let b : IsBatchOf old.wanted.columns (names_of old.wanted) (kept_of old.wanted old.bits contents) array = c.0.rows contents (stands old.wanted.columns old.chunks (λ _. None) 0 c.0.long) in
    all_plain old.wanted.columns (kept_of old.wanted old.bits contents) (names_of old.wanted) array.columns b.arrays

pub morsel_follows_plan : MorselFollowsPlan chunk_column MorselTakes morsel_names morsel_state MorselComputes morsel_plan is_fresh has_plain_columns
morsel_follows_plan = record {
  spends = morsel_spends;
  delivers = morsel_keeps_plan;
  stays_fresh = morsel_stays_fresh;
  given_fresh = morsel_given_fresh;
  acts = λ it fresh. fresh_computes it.step it.wanted.needed fresh;
  not_done = λ old new c. ready_not_fresh old.step old.wanted.needed c.0.1.ready;
  gives = morsel_plain;
}
