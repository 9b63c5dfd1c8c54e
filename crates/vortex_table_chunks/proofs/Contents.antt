-- The rows of a split are the same by its chunks and by whatever columns these stand for, as far as the chunks are there.
use Rattle.std.proofs.Common.{ℕ, ◌≡◌, ◌∙◌, refl, sym, ap, subst, arith, Bool, true, false, cond, not, ◌&&◌, List, [], ◌∷◌, length, map, Option, Some, None}
use Rattle.std.specs.Prelude.{All, filter, is_none, is_some, option_map, slice_get, unwrap_or}
use Rattle.std.specs.List.{AllZip, count_by, range_with_len}
use Rattle.std.specs.Simd.Lanes.{zip2}
use Rattle.std.specs.Str.{bytes_eq}
use Rattle.std.proofs.lemmas.List.Elements.{All-head, All-tail}
use Rattle.vortex_buffer.specs.declared.compare_operator.CompareOperator.{CompareOperator}
use Rattle.vortex_array_types.specs.declared.column.ColumnDesc.{ColumnDesc}
use Rattle.vortex_array_types.specs.declared.filter.BetweenOptions.{BetweenOptions}
use Rattle.vortex_array_types.specs.declared.filter.Filter.{Filter, Truth, Compare, Between, Like, IsNull, Not, And, Or, ind-Filter, map-Filter}
use Rattle.vortex_array_types.specs.declared.filter.Filter.TheOpen.{Filter-F}
use Rattle.vortex_array_types.specs.declared.filter.Filter.TheViews.{roll-Filter}
use Rattle.vortex_array_types.specs.declared.filter.Filter.TheVariants.{rolls-Truth, rolls-Compare, rolls-Between, rolls-Like, rolls-IsNull, rolls-Not, rolls-And, rolls-Or}
use Rattle.vortex_array_types.specs.declared.filter.Operand.{Operand}
use Rattle.vortex_array_types.specs.declared.filter.Operand.TheVariants.{Column as Named, Constant}
use Rattle.vortex_array_types.specs.declared.scalar.Value.{Value}
use Rattle.vortex_array_types.specs.Cells.{cell_of}
use Rattle.vortex_array_types.specs.Order.{compares}
use Rattle.vortex_array_types.specs.Row.{Column}
use Rattle.vortex_array_types.specs.Truth.{Cells, all_three, and3, both, is_like, keeps, lies_between, operand_value, or3, truth}
use Rattle.vortex_array_types.specs.Typed.{filter_names}
use Rattle.vortex_array_kinds.specs.Truths.{answer_in}
use Rattle.vortex_array_rows.specs.Kept.{kept_by}
use Rattle.vortex_array.specs.declared.arrays.Array.{Array}
use Rattle.vortex_array.specs.Batch.{BatchParts}
use Rattle.vortex_table_types.specs.Table.{row_at}
use Rattle.vortex_table_chunks.specs.declared.chunk.Chunk.{Chunk}
use Rattle.vortex_table_chunks.specs.Kept.{HoldsNamed, IsBatchOf, StandsFor, kept_rows, rows_of}
use Rattle.vortex_table_chunks.specs.Rows.{IsOperand, IsThere, cells_at, cells_of, chunk_of, chunk_row, split_row}
use Rattle.vortex_table_chunks.proofs.FilterParts as parts
use Rattle.vortex_table_chunks.proofs.KeptRows.{rows-counted, rows-kept}

-- ---- one row

chunk_same : (chunk : Option Chunk) (content : Column) (i : ℕ) → StandsFor chunk content → is_some chunk ≡ true → chunk_row i chunk ≡ unwrap_or (slice_get content.rows i) None
chunk_same None content i h some = absurd (cc some)
chunk_same (Some chunk) content i h some = ap (λ (c : Column). unwrap_or (slice_get c.rows i) None) h

-- what stands under the name of a chunk that is there
pub cell-same : (columns : List ColumnDesc) (chunks : List (Option Chunk)) (contents : List Column) (i : ℕ) (name : List ℕ) → AllZip StandsFor chunks contents → IsThere columns chunks name
    → cells_at columns chunks i name ≡ cell_of columns (row_at contents i) name
cell-same [] chunks contents i name h there = refl
cell-same (column ∷ columns) [] [] i name h there = refl
cell-same (column ∷ columns) [] (content ∷ contents) i name h there = absurd h
cell-same (column ∷ columns) (chunk ∷ chunks) [] i name h there = absurd h
cell-same (column ∷ columns) (chunk ∷ chunks) (content ∷ contents) i name h there = by_test (bytes_eq column.name name) there (cell-same columns chunks contents i name h.1)
  where
    by_test : (b : Bool) → is_some (cond b chunk (chunk_of columns chunks name)) ≡ true → (IsThere columns chunks name → cells_at columns chunks i name ≡ cell_of columns (row_at contents i) name)
        → cond b (chunk_row i chunk) (cell_of columns (split_row chunks i) name) ≡ cond b (unwrap_or (slice_get content.rows i) None) (cell_of columns (row_at contents i) name)
    by_test true some rest = chunk_same chunk content i h.0 some
    by_test false some rest = rest some

-- ---- the truth of a filter

module _ (columns : List ColumnDesc) (chunks : List (Option Chunk)) where
  -- two rows agree under each name whose chunk is there
  abbrev pub Agree : Cells → Cells → Type 0
  Agree p q = (name : List ℕ) → IsThere columns chunks name → p name ≡ q name

  module _ (p q : Cells) (same : Agree p q) where
    operand_same : (x : Operand) → IsOperand columns chunks x → operand_value p x ≡ operand_value q x
    operand_same (Named name) there = same name there
    operand_same (Constant scalar) there = refl

    abbrev SameTruth : Filter → Type 0
    SameTruth f = All (IsThere columns chunks) (filter_names (Some f)) → truth p f ≡ truth q f

    same_itself : (x : Operand) → SameTruth (Truth x)
    same_itself x there = sym (parts.truth-itself p x) ∙ ap answer_in (operand_same x (parts.truth-there columns chunks (Truth x) there x refl)) ∙ parts.truth-itself q x

    same_compare : (operator : CompareOperator) (x y : Operand) → SameTruth (Compare operator x y)
    same_compare operator x y there =
        let operands : IsOperand columns chunks x × IsOperand columns chunks y = parts.compare-there columns chunks (Compare operator x y) there operator x y refl in
        sym (parts.truth-compare p operator x y)
        ∙ ap (λ a. both (compares operator) a (operand_value p y)) (operand_same x operands.0)
        ∙ ap (both (compares operator) (operand_value q x)) (operand_same y operands.1)
        ∙ parts.truth-compare q operator x y

    same_between : (options : BetweenOptions) (x lower upper : Operand) → SameTruth (Between options x lower upper)
    same_between options x lower upper there =
        let operands : IsOperand columns chunks x × IsOperand columns chunks lower × IsOperand columns chunks upper = parts.between-there columns chunks (Between options x lower upper) there options x lower upper refl in
        sym (parts.truth-between p options x lower upper)
        ∙ ap (λ a. all_three (lies_between options) a (operand_value p lower) (operand_value p upper)) (operand_same x operands.0)
        ∙ ap (λ b. all_three (lies_between options) (operand_value q x) b (operand_value p upper)) (operand_same lower operands.1)
        ∙ ap (all_three (lies_between options) (operand_value q x) (operand_value q lower)) (operand_same upper operands.2)
        ∙ parts.truth-between q options x lower upper

    same_like : (x pattern : Operand) → SameTruth (Like x pattern)
    same_like x pattern there =
        let operands : IsOperand columns chunks x × IsOperand columns chunks pattern = parts.like-there columns chunks (Like x pattern) there x pattern refl in
        sym (parts.truth-like p x pattern)
        ∙ ap (λ a. both is_like a (operand_value p pattern)) (operand_same x operands.0)
        ∙ ap (both is_like (operand_value q x)) (operand_same pattern operands.1)
        ∙ parts.truth-like q x pattern

    same_null : (x : Operand) → SameTruth (IsNull x)
    same_null x there = sym (parts.truth-null p x) ∙ ap (λ (a : Option Value). Some (is_none a)) (operand_same x (parts.null-there columns chunks (IsNull x) there x refl)) ∙ parts.truth-null q x

    same_not : (f : Filter) → SameTruth f → SameTruth (Not f)
    same_not f known there = sym (parts.truth-not p f) ∙ ap (option_map not) (known (parts.not-there columns chunks (Not f) there f refl)) ∙ parts.truth-not q f

    same_and : (f g : Filter) → SameTruth f → SameTruth g → SameTruth (And f g)
    same_and f g first second there =
        sym (parts.truth-and p f g)
        ∙ ap (λ a. and3 a (truth p g)) (first (parts.and-there-first columns chunks (And f g) there f g refl))
        ∙ ap (and3 (truth q f)) (second (parts.and-there-second columns chunks (And f g) there f g refl))
        ∙ parts.truth-and q f g

    same_or : (f g : Filter) → SameTruth f → SameTruth g → SameTruth (Or f g)
    same_or f g first second there =
        sym (parts.truth-or p f g)
        ∙ ap (λ a. or3 a (truth p g)) (first (parts.or-there-first columns chunks (Or f g) there f g refl))
        ∙ ap (or3 (truth q f)) (second (parts.or-there-second columns chunks (Or f g) there f g refl))
        ∙ parts.truth-or q f g

    -- one level, where each filter inside has the same truth for both rows
    layer : (y : Filter-F ((f : Filter) × SameTruth f)) → SameTruth (roll-Filter (map-Filter ((f : Filter) × SameTruth f) Filter (λ e. e.0) y))
    layer (Filter-F.Truth x) = subst SameTruth (sym (rolls-Truth x)) (same_itself x)
    layer (Filter-F.Compare operator x y) = subst SameTruth (sym (rolls-Compare operator x y)) (same_compare operator x y)
    layer (Filter-F.Between options x lower upper) = subst SameTruth (sym (rolls-Between options x lower upper)) (same_between options x lower upper)
    layer (Filter-F.Like x pattern) = subst SameTruth (sym (rolls-Like x pattern)) (same_like x pattern)
    layer (Filter-F.IsNull x) = subst SameTruth (sym (rolls-IsNull x)) (same_null x)
    layer (Filter-F.Not f) = subst SameTruth (sym (rolls-Not f.0)) (same_not f.0 f.1)
    layer (Filter-F.And f g) = subst SameTruth (sym (rolls-And f.0 g.0)) (same_and f.0 g.0 f.1 g.1)
    layer (Filter-F.Or f g) = subst SameTruth (sym (rolls-Or f.0 g.0)) (same_or f.0 g.0 f.1 g.1)

    -- a filter whose names' chunks are there has the same truth for both rows
    pub truth-same : (f : Filter) → All (IsThere columns chunks) (filter_names (Some f)) → truth p f ≡ truth q f
    truth-same = ind-Filter SameTruth (λ x y is. subst (λ z. SameTruth (roll-Filter z)) is (layer y))

    keeps_same : (f : Option Filter) → All (IsThere columns chunks) (filter_names f) → keeps f p ≡ keeps f q
    keeps_same None there = refl
    keeps_same (Some f) there = by_truth (truth p f) (truth q f) refl refl
      where
        by_truth : (a b : Option Bool) → truth p f ≡ a → truth q f ≡ b → keeps (Some f) p ≡ keeps (Some f) q
        by_truth None None d e = rw (d, e) refl
        by_truth None (Some b) d e = absurd (let clash : None ≡ Some b = sym d ∙ truth-same f there ∙ e in cc)
        by_truth (Some a) None d e = absurd (let clash : Some a ≡ None = sym d ∙ truth-same f there ∙ e in cc)
        by_truth (Some a) (Some b) d e = let same_truth : Some a ≡ Some b = sym d ∙ truth-same f there ∙ e in rw (d, e) (cc)

-- ---- the kept rows

module _ {X : Type 0} (R : X → X → Type 0) where
  made_related : (f g : ℕ → X) (places : List ℕ) → ((i : ℕ) → R (f i) (g i)) → AllZip R (map f places) (map g places)
  made_related f g [] h = tt
  made_related f g (i ∷ places) h = (h i, made_related f g places h)

  kept_related : (bits : List Bool) (xs ys : List X) → AllZip R xs ys → AllZip R (kept_by bits xs) (kept_by bits ys)
  kept_related [] xs ys h = tt
  kept_related (bit ∷ bits) [] [] h = tt
  kept_related (bit ∷ bits) [] (y ∷ ys) h = absurd h
  kept_related (bit ∷ bits) (x ∷ xs) [] h = absurd h
  kept_related (true ∷ bits) (x ∷ xs) (y ∷ ys) h = (h.0, kept_related bits xs ys h.1)
  kept_related (false ∷ bits) (x ∷ xs) (y ∷ ys) h = kept_related bits xs ys h.1

  passed_related : (p : X → Bool) (xs ys : List X) → ((x y : X) → R x y → p x ≡ p y) → AllZip R xs ys → AllZip R (filter p xs) (filter p ys)
  passed_related p [] [] same h = tt
  passed_related p [] (y ∷ ys) same h = absurd h
  passed_related p (x ∷ xs) [] same h = absurd h
  passed_related p (x ∷ xs) (y ∷ ys) same h = by_test (p x) (p y) (same x y h.0) (passed_related p xs ys same h.1)
    where
      by_test : (a b : Bool) → a ≡ b → AllZip R (filter p xs) (filter p ys) → AllZip R (cond a (x ∷ filter p xs) (filter p xs)) (cond b (y ∷ filter p ys) (filter p ys))
      by_test true true e rest = (h.0, rest)
      by_test true false e rest = absurd (cc e)
      by_test false true e rest = absurd (cc e)
      by_test false false e rest = rest

  related_long : (xs ys : List X) → AllZip R xs ys → length xs ≡ length ys
  related_long [] [] h = refl
  related_long [] (y ∷ ys) h = absurd h
  related_long (x ∷ xs) [] h = absurd h
  related_long (x ∷ xs) (y ∷ ys) h = let rest : length xs ≡ length ys = related_long xs ys h.1 in omega (arith, rest)

  same_made : {Y : Type 0} (f : X → Y) (xs ys : List X) → ((x y : X) → R x y → f x ≡ f y) → AllZip R xs ys → map f xs ≡ map f ys
  same_made f [] [] same h = refl
  same_made f [] (y ∷ ys) same h = absurd h
  same_made f (x ∷ xs) [] same h = absurd h
  same_made f (x ∷ xs) (y ∷ ys) same h = ap (λ a. a ∷ map f xs) (same x y h.0) ∙ ap (λ rest. f y ∷ rest) (same_made f xs ys same h.1)

-- what is kept by the chunks, and by columns for which they stand
module _ (columns : List ColumnDesc) (chunks : List (Option Chunk)) (contents : List Column) (stand : AllZip StandsFor chunks contents) (condition : Option Filter) (bits : List Bool) (filtered : All (IsThere columns chunks) (filter_names condition)) where
  abbrev By_chunks : List Cells
  By_chunks = kept_rows condition bits (cells_of columns chunks (length bits))

  abbrev By_contents : List Cells
  By_contents = kept_rows condition bits (rows_of columns contents (length bits))

  kept_agree : AllZip (Agree columns chunks) By_chunks By_contents
  kept_agree =
      passed_related (Agree columns chunks) (keeps condition) (kept_by bits (cells_of columns chunks (length bits))) (kept_by bits (rows_of columns contents (length bits))) (λ p q same. keeps_same columns chunks p q same condition filtered)
      (kept_related (Agree columns chunks) bits (cells_of columns chunks (length bits)) (rows_of columns contents (length bits))
      (made_related (Agree columns chunks) (cells_at columns chunks) (λ i. cell_of columns (row_at contents i)) (range_with_len 0 (length bits)) (λ i name there. cell-same columns chunks contents i name stand there)))

  -- as many rows
  pub kept-long : length By_chunks ≡ length By_contents
  kept-long = related_long (Agree columns chunks) By_chunks By_contents kept_agree

  -- and the same under each name whose chunk is there
  pub kept-held : (names : List (List ℕ)) (arrays : List Array) → All (IsThere columns chunks) names → AllZip (HoldsNamed columns By_chunks) names arrays → AllZip (HoldsNamed columns By_contents) names arrays
  kept-held [] [] there h = tt
  kept-held [] (array ∷ arrays) there h = absurd h
  kept-held (name ∷ names) [] there h = absurd h
  kept-held (name ∷ names) (array ∷ arrays) there h =
      let here : IsThere columns chunks name = All-head (IsThere columns chunks) name names there in
      let named : HoldsNamed columns By_chunks name array = h.0 in (
        record {
          dtype = named.dtype;
          rows = named.rows ∙ same_made (Agree columns chunks) (λ (cells : Cells). cells name) By_chunks By_contents (λ p q same. same name here) kept_agree;
          plain = named.plain;
        },
        kept-held names arrays (All-tail (IsThere columns chunks) name names there) h.1,
      )

  -- so a batch of what is kept by the chunks is one of what is kept by the columns
  pub batch-is : (kept : List Bool) → kept ≡ zip2 ◌&&◌ bits (map (keeps condition) (cells_of columns chunks (length bits))) → (names : List (List ℕ)) (arrays : List Array) → All (IsThere columns chunks) names
      → AllZip (HoldsNamed columns (kept_by kept (cells_of columns chunks (length kept)))) names arrays → (count : ℕ) → count ≡ count_by (λ bit. bit) kept → (batch : BatchParts) → batch ≡ record { rows = count; columns = arrays }
      → IsBatchOf columns names By_contents batch
  batch-is kept is names arrays there held count counted batch made =
      let same : kept_by kept (cells_of columns chunks (length kept)) ≡ By_chunks = rows-kept columns chunks condition bits kept is in
      let by_chunks : AllZip (HoldsNamed columns By_chunks) names arrays = subst (λ rows. AllZip (HoldsNamed columns rows) names arrays) same held in
      let by_contents : AllZip (HoldsNamed columns By_contents) names arrays = kept-held names arrays there by_chunks in
      record {
        rows = ap (λ (b : BatchParts). b.rows) made ∙ counted ∙ sym (rows-counted columns chunks kept) ∙ ap length same ∙ kept-long;
        arrays = subst (AllZip (HoldsNamed columns By_contents) names) (sym (ap (λ (b : BatchParts). b.columns) made)) by_contents;
      }
