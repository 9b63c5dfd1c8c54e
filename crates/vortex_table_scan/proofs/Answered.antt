-- The batches that a scan takes of its run: over honest sources an answer, and over any sources of their partitions' roots and of plain columns.
use Rattle.std.proofs.Common.{◌≡◌, ◌∙◌, sym, ap, subst, refl, ℕ, zero, suc, ◌+◌, ◌<◌, List, [], ◌∷◌, Bool, true, false, ◌&&◌, map, Option, None, Some, get_or, arith, inl, inr, ⊎_elim}
use Rattle.std.specs.Prelude.{◌⊎◌, ◌≢◌, count_by, option_map, slice_get, sum_by}
use Rattle.std.specs.List.{AllByRecursion, AllZip, list_all, range_with_len}
use Rattle.std.proofs.lemmas.List.Sorted.{All-permutation}
use Rattle.std.proofs.lemmas.Option.{get_or_from_slice_get, slice_get-map}
use Rattle.vortex_array.specs.ColumnOf.{is_plain}
use Rattle.vortex_array.specs.Head.{IsHeadOf}
use Rattle.vortex_array.specs.declared.arrays.Array.{Array}
use Rattle.vortex_array_types.specs.declared.column.ColumnDesc.{ColumnDesc}
use Rattle.vortex_io.specs.Source.{Content, IsHonest}
use Rattle.vortex_io.specs.declared.source.IoSource.{Ghosts}
use Rattle.vortex_scan.specs.Bag.{AreHonest as AreHonestIn, bag, entries_of, owes}
use Rattle.vortex_scan.specs.Bag as bags
use Rattle.vortex_scan.specs.Owed.{Entry}
use Rattle.vortex_scan.specs.RunState.{RunState}
use Rattle.vortex_scan.specs.Seats.{IsOfSeat, Seat, SomeByRecursion, planned_seats, seats, work_seats}
use Rattle.vortex_scan.specs.Sources.{KeepsEach}
use Rattle.vortex_scan.specs.declared.worker.Work.{Work}
use Rattle.vortex_scan.proofs.Bagged.{honest_early}
use Rattle.vortex_scan.proofs.Keeping.{slots_at}
use Rattle.vortex_scan.proofs.Passing.{some_of}
use Rattle.vortex_scan.proofs.Places.{each_weaker}
use Rattle.vortex_scan_types.specs.declared.batch.Batch.{Batch}
use Rattle.vortex_scan_types.specs.declared.place.RootId.{RootId}
use Rattle.vortex_scan_types.specs.declared.request.ScanRequest.{ScanRequest}
use Rattle.vortex_table_chunks.specs.ChunkOf.{content_of}
use Rattle.vortex_table_chunks.specs.declared.chunk.Chunk.{Chunk}
use Rattle.vortex_table_planner.specs.Live.{live_splits, morsels_of, needed_columns}
use Rattle.vortex_table_planner.specs.Morsels.{MorselState, has_plain_columns, is_fresh, morsel_plan}
use Rattle.vortex_table_planner.specs.Owing.{entry_of}
use Rattle.vortex_table_planner.specs.Planners.{PlannerState, planner_plan}
use Rattle.vortex_table_types.specs.Answers.{Answers, Asked, Given}
use Rattle.vortex_table_types.specs.Described.{IsTable}
use Rattle.vortex_table_types.specs.Table.{FitsPartition}
use Rattle.vortex_table_types.specs.Turn.{in_turn}
use Rattle.vortex_table_types.specs.declared.describe.PartitionDesc.{PartitionDesc}
use Rattle.vortex_table_types.proofs.Apart.{Past, scopes_rise}
use Rattle.vortex_table_types.proofs.Rising.{Each, Rising, each_at, each_more}
use Rattle.vortex_table_types.proofs.Tiling.{Tiles, chosen_tiled}
use Rattle.vortex_table_types.proofs.Whole.{all_each}
use Rattle.vortex_table_scan.specs.Admitting.{Root}
use Rattle.vortex_table_scan.specs.Cut.{CutWithin, IsCutOf}
use Rattle.vortex_table_scan.specs.Gathering.{IsReached}
use Rattle.vortex_table_scan.specs.Given.{ArePlain, AreRanked, given, rank}
use Rattle.vortex_table_scan.specs.Over.{AreHonest, IsSource, question}
use Rattle.vortex_table_scan.specs.Parted.{is_admitted, picked}
use Rattle.vortex_table_scan.specs.Taking.{Finishes, Takes, stop_at}
use Rattle.vortex_table_scan.specs.Went.{Went}
use Rattle.vortex_table_scan.proofs.Answering.{cut_each, ordered_answers, permuted_alike, unordered_answers}
use Rattle.vortex_table_scan.proofs.Begun.{bag_sum, items_of, owed, seats_none, seats_of, slot_of, works}
use Rattle.vortex_table_scan.proofs.InTurn.{parts_turn, turn_parts}
use Rattle.vortex_table_scan.proofs.Leaving.{takes_keeps}
use Rattle.vortex_table_scan.proofs.Meeting.{roots_aligned}
use Rattle.vortex_table_scan.proofs.PlanSeats.{each_seat, live_of, plan_seats, seats_on}
use Rattle.vortex_table_scan.proofs.Ranked.{other_at, picked_at}
use Rattle.vortex_table_scan.proofs.Returned.{at_root, ends_at, from_root, root_of, run_begins, same_some}
use Rattle.vortex_table_scan.proofs.Tallied.{IsAlike, IsWithin, both_true, count_map}

-- ---- lists

zip_at : {A B : Type 0} (R : A → B → Type 0) (xs : List A) (ys : List B) (k : ℕ) (x : A) (y : B) → AllZip R xs ys → slice_get xs k ≡ Some x → slice_get ys k ≡ Some y → R x y
zip_at R [] ys k x y z e f = absurd (cc)
zip_at R (a ∷ xs) [] k x y z e f = absurd z
zip_at R (a ∷ xs) (b ∷ ys) zero x y z e f = let p : a ≡ x = (cc) in let q : b ≡ y = (cc) in subst (λ v. R x v) q (subst (λ u. R u b) p z.0)
zip_at R (a ∷ xs) (b ∷ ys) (suc k) x y z e f = zip_at R xs ys k x y z.1 e f

zip_map : {A B C : Type 0} (R : A → C → Type 0) (f : B → C) (xs : List A) (ys : List B) → AllZip (λ x y. R x (f y)) xs ys → AllZip R xs (map f ys)
zip_map R f [] [] z = tt
zip_map R f [] (y ∷ ys) z = z
zip_map R f (x ∷ xs) [] z = z
zip_map R f (x ∷ xs) (y ∷ ys) z = (z.0, zip_map R f xs ys z.1)

-- what the source of a place tells
told_there : {S C : Type 0} (content_of_source : S → Option (Content C)) (sources : List S) (told : List (Content C)) → map content_of_source sources ≡ map (λ (content : Content C). Some content) told → (p : ℕ) (before : S) → slice_get sources p ≡ Some before
    → (content : Content C) × (content_of_source before ≡ Some content) × (slice_get told p ≡ Some content)
told_there f [] told e p before there = absurd (cc)
told_there f (s ∷ sources) [] e p before there = absurd (cc)
told_there f (s ∷ sources) (content ∷ told) e zero before there = (content, (let same : s ≡ before = (cc) in subst (λ it. f it ≡ Some content) same (cc)), refl)
told_there f (s ∷ sources) (content ∷ told) e (suc p) before there = told_there f sources told (cc) p before there

each_by : {X : Type 0} (P : X → Type 0) (xs : List X) → AllByRecursion P xs → Each P xs
each_by P [] all = tt
each_by P (x ∷ xs) all = (all.0, each_by P xs all.1)

-- ---- plain columns of a cut batch

and_from : (a b : Bool) → a ≡ true → b ≡ true → (a && b) ≡ true
and_from a b e f = rw (e, f) refl

plain_heads : (k : ℕ) (wholes cuts : List Array) → AllZip (IsHeadOf k) wholes cuts → list_all is_plain wholes ≡ true → list_all is_plain cuts ≡ true
plain_heads k [] [] z e = refl
plain_heads k [] (c ∷ cuts) z e = absurd z
plain_heads k (w ∷ wholes) [] z e = absurd z
plain_heads k (w ∷ wholes) (c ∷ cuts) z e =
    let parts = both_true (is_plain w) (list_all is_plain wholes) e in
    and_from (is_plain c) (list_all is_plain cuts) (z.0.plain parts.0) (plain_heads k wholes cuts z.1 parts.1)

-- ---- entries as batches

abbrev back : Entry → Given
back entry = record { scope = entry.scope; rows = entry.rows.count; columns = entry.rows.columns }

-- what counts say of entries they say of the batches that these are
counted_entries : (test : Given → Bool) (batches : List Batch) → count_by test (map given batches) ≡ count_by (λ e. test (back e)) (entries_of batches)
counted_entries test batches = count_map test given batches ∙ sym (count_map (λ e. test (back e)) bags.entry_of batches)

counted_turn : (test : Given → Bool) (turn : List Given) → count_by test turn ≡ count_by (λ e. test (back e)) (map entry_of turn)
counted_turn test turn = sym (count_map (λ e. test (back e)) entry_of turn)

-- ---- the whole scan

module _ {S : Type 0} (source : Ghosts S Chunk) (columns : List ColumnDesc) (partitions : List PartitionDesc) (request : ScanRequest) (steps : ℕ) (old now : List S) (begun ended : RunState (Work PlannerState MorselState) S)
    (w : Went source columns partitions request steps None old now begun ended) (table : IsTable source.outstanding columns partitions old) (batches : List Batch)
    (t : Takes works source owed (Unit {0}) (Unit {0}) (work_seats planner_plan morsel_plan is_fresh) has_plain_columns request batches begun ended) where
  abbrev gathered_of : List Batch
  gathered_of = t.gathers.given

  keeps : KeepsEach source begun.live.slots ended.live.slots
  keeps = takes_keeps works source owed (work_seats planner_plan morsel_plan is_fresh) has_plain_columns request batches begun ended t

  -- ---- over honest sources

  module _ (told : List (Content Chunk)) (honest : AreHonest source partitions told old now) where
    -- the content at each root
    abbrev contents : ℕ → Content Chunk
    contents root = get_or (picked (is_admitted request None) 0 told) root []

    contents_at : (p : ℕ) (content : Content Chunk) → slice_get told p ≡ Some content → is_admitted request None (0 + p) ≡ true → contents (root_of source columns partitions request steps None old now begun ended w p) ≡ content
    contents_at p content there inside =
        get_or_from_slice_get (picked (is_admitted request None) 0 told) (root_of source columns partitions request steps None old now begun ended w p) content [] (picked_at (is_admitted request None) 0 told p content there inside)

    honest_in : AreHonestIn source contents begun.live.slots t.between.live.slots
    honest_in root before after there here live =
        let from = from_root source columns partitions request steps None old now begun ended w root before there in
        let p : ℕ = from.partition in
        let last = other_at old now p before.source w.long from.was in
        let is : IsSource p old now before.source last.0 = record { was = from.was; now = last.1 } in
        let a = at_root source columns partitions request steps None old now begun ended w p before.source from.was from.inside in
        let e = ends_at source columns partitions request steps None old now begun ended w keeps p before.source last.0 is from.inside a in
        let tells = told_there source.content old told honest.tells p before.source from.was in
        let first = slots_at source begun.live.slots t.between.live.slots root before after t.gathers.keeps.sources there here in
        let then = slots_at source t.between.live.slots ended.live.slots root after e.slot t.cancels.keeps here (ap (slice_get ended.live.slots) from.number ∙ e.last) in
        let fair = zip_at (λ x y. IsHonest (source.lies x) (source.lies y)) old now p before.source last.0 honest.honest from.was last.1 in
        let zero' : 0 + p ≡ p = omega arith in (
          tells.1 ∙ ap (λ (c : Content Chunk). Some c) (sym (ap contents from.number ∙ contents_at p tells.0 tells.2 (ap (is_admitted request None) zero' ∙ from.inside))),
          honest_early (source.lies before.source) (source.lies after.source) (source.lies last.0) first.keeps.lies (let one = then.keeps.lies in let two = e.clears.keeps.lies in omega (arith, one, two)) fair,
        )

    abbrev asked_of : Asked
    asked_of = question (record { columns = columns; partitions = partitions; sources = old }) told request

    abbrev turn : List Given
    turn = in_turn asked_of.types asked_of.rows asked_of.scopes

    turn_is : turn ≡ parts_turn columns request 0 partitions (map content_of told)
    turn_is = turn_parts columns request 0 partitions (map content_of told)

    -- what was given and is still owed is what the table owes
    whole_bag : (test : Entry → Bool) → count_by test (entries_of gathered_of) + sum_by (owes owed contents test) t.between.live.items ≡ count_by test (map entry_of turn)
    whole_bag test =
        let begins = run_begins source columns partitions request steps None old now begun ended w in
        let kept = t.gathers.keeps.bag tt contents honest_in [] test in
        let first = ap (λ list. sum_by (owes owed contents test) list) begins.items in
        let sum = bag_sum columns request contents test 0 partitions told w.admitted.roots 0 0 (roots_aligned source columns partitions request steps old begun table w.admitted) honest.fit
        (λ k content there inside. (let same : 0 + count_by (is_admitted request None) (range_with_len 0 k) ≡ count_by (is_admitted request None) (range_with_len 0 k) = omega arith in ap contents same) ∙ contents_at k content there inside) in
        let is = ap (λ list. count_by test (map entry_of list)) turn_is in
        omega (arith, kept, first, sum, is)

    inside_turn : IsWithin (map given gathered_of) turn
    inside_turn test =
        let b = whole_bag (λ e. test (back e)) in
        omega (arith, b, counted_entries test gathered_of, counted_turn test turn)

    alike_turn : t.between.live.items ≡ [] → IsAlike (map given gathered_of) turn
    alike_turn none test =
        let b = whole_bag (λ e. test (back e)) in
        let over = ap (λ list. sum_by (owes owed contents (λ e. test (back e))) list) none in
        omega (arith, b, over, counted_entries test gathered_of, counted_turn test turn)

    fits : AllZip FitsPartition partitions (map content_of told)
    fits = zip_map FitsPartition content_of partitions told honest.fit

    rise : Rising Past asked_of.scopes
    rise = scopes_rise 0 partitions

    tiles : Tiles asked_of.scopes asked_of.rows
    tiles = chosen_tiled columns partitions (map content_of told) request fits

    -- the batches are an answer
    pub rows_answered : Answers (question (record { columns = columns; partitions = partitions; sources = old }) told request) (map given batches)
    rows_answered = by request.ordered refl t.finishes t.gathers.cut t.gathers.ends
      where
        by : (b : Bool) → request.ordered ≡ b → Finishes b request.limit t.gathered batches → CutWithin (stop_at b request.limit) gathered_of t.gathered → (t.between.live.items ≡ []) ⊎ IsReached (stop_at b request.limit) gathered_of
            → Answers asked_of (map given batches)
        by false free finished cut ends =
            unordered_answers asked_of rise tiles gathered_of batches inside_turn free (subst (CutWithin request.limit gathered_of) (sym finished) cut) (⊎_elim (λ none. inl (alike_turn none)) (λ reached. inr reached) ends)
        by true wanted trims same ends =
            let none : t.between.live.items ≡ [] = ⊎_elim (λ none. none) (λ never. absurd never) ends in
            let all : IsAlike (map given t.gathered) turn = subst (λ list. IsAlike (map given list) turn) (sym same) (alike_turn none) in
            ordered_answers asked_of rise tiles trims.sorted batches trims.order (permuted_alike t.gathered trims.sorted turn trims.same all) trims.cut

  -- ---- over any sources

  -- a batch of its partition's root, with plain columns
  pub record IsPlaced (batch : Batch) : Type 0 where
    pub ranked : batch.root.0 ≡ rank request batch.scope.file_ordinal
    pub plain : has_plain_columns batch.array ≡ true

  no_seat : {X : Type 0} (P : Seat → Type 0) (list : List Seat) → list ≡ [] → SomeByRecursion P list → X
  no_seat P list e some = absurd (subst (SomeByRecursion P) e some)

  ranked_of : (batch : Batch) → SomeByRecursion (IsOfSeat batch) (seats (work_seats planner_plan morsel_plan is_fresh) batch.root None begun.live.items) → batch.root.0 ≡ rank request batch.scope.file_ordinal
  ranked_of batch some = by (slice_get w.admitted.roots batch.root.0) refl
    where
      items : begun.live.items ≡ items_of 0 0 w.admitted.roots
      items = (run_begins source columns partitions request steps None old now begun ended w).items

      here : SomeByRecursion (IsOfSeat batch) (seats (work_seats planner_plan morsel_plan is_fresh) batch.root None (items_of 0 0 w.admitted.roots))
      here = subst (λ list. SomeByRecursion (IsOfSeat batch) (seats (work_seats planner_plan morsel_plan is_fresh) batch.root None list)) items some

      zero' : batch.root.0 ≡ 0 + batch.root.0
      zero' = omega arith

      by : (o : Option (Root S)) → slice_get w.admitted.roots batch.root.0 ≡ o → batch.root.0 ≡ rank request batch.scope.file_ordinal
      by None e = no_seat (IsOfSeat batch) (seats (work_seats planner_plan morsel_plan is_fresh) batch.root None (items_of 0 0 w.admitted.roots)) (seats_none batch.root 0 0 w.admitted.roots batch.root.0 zero' e) here
      by (Some it) e =
          let begins = run_begins source columns partitions request steps None old now begun ended w in
          let slot : slice_get begun.live.slots batch.root.0 ≡ Some (slot_of it) = ap (λ list. slice_get list batch.root.0) begins.slots ∙ slice_get-map slot_of w.admitted.roots batch.root.0 ∙ ap (option_map slot_of) e in
          let from = from_root source columns partitions request steps None old now begun ended w batch.root.0 (slot_of it) slot in
          let p : ℕ = from.partition in
          let a = at_root source columns partitions request steps None old now begun ended w p it.source from.was from.inside in
          let planner = a.planner in
          let needed : List ℕ = needed_columns columns request in
          let same : it ≡ a.it = same_some it a.it (sym e ∙ ap (slice_get w.admitted.roots) from.number ∙ a.there) in
          let plan : planner_plan it.planner None ≡ morsels_of needed (live_splits request p planner.0) =
          ap (λ (r : Root S). planner_plan r.planner None) same ∙ planner.2.plan None ∙ ap (λ n. morsels_of needed (live_splits request n planner.0)) a.number in
          let list : seats (work_seats planner_plan morsel_plan is_fresh) batch.root None (items_of 0 0 w.admitted.roots) ≡ seats_on needed (batch.root.0 ∷ []) 0 (live_splits request p planner.0) =
          seats_of batch.root 0 0 w.admitted.roots batch.root.0 it zero' e ∙ ap (λ plans. planned_seats (batch.root.0 ∷ []) 0 plans plans) plan ∙ plan_seats needed (batch.root.0 ∷ []) 0 (live_splits request p planner.0) in
          let of_p : AllByRecursion (λ (seat : Seat). seat.scope.file_ordinal ≡ p) (seats_on needed (batch.root.0 ∷ []) 0 (live_splits request p planner.0)) =
          each_seat needed (batch.root.0 ∷ []) (λ l. l.scope.file_ordinal ≡ p) (λ (seat : Seat). seat.scope.file_ordinal ≡ p) (λ next l is. is) 0 (live_splits request p planner.0) (live_of request p planner.0) in
          let found = some_of (IsOfSeat batch) (λ (seat : Seat). seat.scope.file_ordinal ≡ p) (seats_on needed (batch.root.0 ∷ []) 0 (live_splits request p planner.0)) of_p (subst (SomeByRecursion (IsOfSeat batch)) list here) in
          let ordinal : p ≡ batch.scope.file_ordinal = sym (ap (λ s. s.file_ordinal) found.1.1 ∙ found.2) in
          let number : batch.root.0 ≡ rank request p = from.number in
          subst (λ n. batch.root.0 ≡ rank request n) ordinal number

  gathered_placed : Each IsPlaced gathered_of
  gathered_placed =
      let places = t.gathers.places tt in
      each_by IsPlaced gathered_of
      (each_weaker (λ (batch : Batch). SomeByRecursion (IsOfSeat batch) (seats (work_seats planner_plan morsel_plan is_fresh) batch.root None begun.live.items) × (has_plain_columns batch.array ≡ true)) IsPlaced gathered_of
      (λ batch p. record { ranked = ranked_of batch p.0; plain = p.1 }) places.placed)

  cut_placed : (k : ℕ) (whole cut : Batch) → IsPlaced whole → k ≢ 0 → k < whole.array.rows → IsCutOf k whole cut → IsPlaced cut
  cut_placed k whole cut p some less c = record {
    ranked = ap (λ (r : RootId). r.0) c.root ∙ p.ranked ∙ ap (λ s. rank request s.file_ordinal) (sym c.scope);
    plain = plain_heads k whole.array.columns cut.array.columns c.columns p.plain;
  }

  batches_placed : Each IsPlaced batches
  batches_placed = by request.ordered refl t.finishes t.gathers.cut
    where
      first : (limit : Option ℕ) → CutWithin limit gathered_of t.gathered → Each IsPlaced t.gathered
      first limit cut = cut_each IsPlaced IsPlaced (λ b p. p) cut_placed limit gathered_of t.gathered cut gathered_placed

      by : (b : Bool) → request.ordered ≡ b → Finishes b request.limit t.gathered batches → CutWithin (stop_at b request.limit) gathered_of t.gathered → Each IsPlaced batches
      by false free finished cut = subst (Each IsPlaced) (sym finished) (first request.limit cut)
      by true wanted trims cut =
          let sorted : Each IsPlaced trims.sorted = all_each IsPlaced trims.sorted (All-permutation IsPlaced t.gathered trims.sorted trims.same (each_at IsPlaced t.gathered (first None cut))) in
          cut_each IsPlaced IsPlaced (λ b p. p) cut_placed request.limit trims.sorted batches trims.cut sorted

  -- each batch is of the root with its partition's rank
  pub roots_ranked : AreRanked request batches
  roots_ranked = each_at (λ (b : Batch). b.root.0 ≡ rank request b.scope.file_ordinal) batches (each_more IsPlaced (λ (b : Batch). b.root.0 ≡ rank request b.scope.file_ordinal) (λ b p. p.ranked) batches batches_placed)

  -- and all columns are plain
  pub columns_plain : ArePlain batches
  columns_plain = each_at (λ (b : Batch). has_plain_columns b.array ≡ true) batches (each_more IsPlaced (λ (b : Batch). has_plain_columns b.array ≡ true) (λ b p. p.plain) batches batches_placed)
