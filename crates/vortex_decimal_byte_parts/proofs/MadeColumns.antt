-- Columns that are made of numbers, bits and a validity.
use Rattle.std.proofs.Common.{◌≡◌, Bool, true, false, ◌&&◌, List, [], ◌∷◌, length, map, refl, sym, ap, subst, ◌∙◌, Option, Some, None}
use Rattle.std.specs.Prelude.{ℤ, is_some, replicate}
use Rattle.std.specs.List.{AllZip}
use Rattle.std.specs.Simd.Lanes.{zip2}
use Rattle.std.proofs.lemmas.List.{length-map}
use Rattle.vortex_array_types.specs.Digits.{Digits}
use Rattle.vortex_array_types.specs.Row.{Column, nullability}
use Rattle.vortex_array_types.specs.Widths.{nullable_form}
use Rattle.vortex_array_types.specs.declared.types.DType.{DType}
use Rattle.vortex_array_types.specs.declared.types.DType.TheVariants as dtype
use Rattle.vortex_array_types.specs.declared.types.Nullability.{Nullability}
use Rattle.vortex_array_types.specs.declared.types.Nullability.TheVariants as nulls
use Rattle.vortex_array_types.specs.declared.types.PType.{PType}
use Rattle.vortex_array_types.specs.declared.scalar.Value.{Value}
use Rattle.vortex_array_types.specs.declared.scalar.Value.TheVariants as value
use Rattle.vortex_array_kinds.specs.Kinds.{bool_column, decimal_column, numbers_of, primitive_column, ptype_of, unscaled_of}
use Rattle.vortex_array_kinds.specs.Parts.{PlainParts}
use Rattle.vortex_array_kinds.specs.Truths.{BothValid, either, truth_row, truths}
use Rattle.vortex_array_kinds.specs.Validities.{nullability_of, row_of, rows_under, valid_bits}
use Rattle.vortex_array_kinds.specs.declared.decimals.Decimals.{Decimals}
use Rattle.vortex_array_kinds.specs.declared.decimals.DecimalBuffer.{DecimalBuffer}
use Rattle.vortex_array_kinds.specs.declared.primitives.PrimitiveBuffer.{PrimitiveBuffer}
use Rattle.vortex_array_kinds.specs.declared.validity.Validity.{Validity}
use Rattle.vortex_array_kinds.proofs.RowLemmas.{column_with}
use Rattle.vortex_array_kinds.proofs.TruthColumns.{truth-column}
use Rattle.vortex_array_kinds.proofs.TruthRows.{rows-present}
use Rattle.vortex_array_kinds.proofs.BothValid.{either_nullable}
use Rattle.vortex_decimal_byte_parts.specs.Columns.{kept_row, masked, one_row, two_rows}
use Rattle.vortex_decimal_byte_parts.specs.Held.{Holds, answer_if, wide}
use Rattle.vortex_decimal_byte_parts.proofs.HeldRows.{length-held, ones-held, ones-present, rows-under-held}
use Rattle.vortex_decimal_byte_parts.proofs.TwoParts.{TwoHeld, both-held, two-present}

-- bits beside bits that are all set
and_full : (bits : List Bool) → zip2 ◌&&◌ bits (replicate (length bits) true) ≡ bits
and_full [] = refl
and_full (true ∷ bits) = ap (λ more. true ∷ more) (and_full bits)
and_full (false ∷ bits) = ap (λ more. false ∷ more) (and_full bits)

truth_answer : (b p : Bool) → row_of (value.Bool b) p ≡ truth_row (answer_if p b)
truth_answer b true = refl
truth_answer b false = refl

truth_answers : (bits present : List Bool) → zip2 (λ b p. row_of (value.Bool b) p) bits present ≡ map truth_row (zip2 answer_if present bits)
truth_answers [] [] = refl
truth_answers [] (p ∷ present) = refl
truth_answers (b ∷ bits) [] = refl
truth_answers (b ∷ bits) (p ∷ present) = ap (λ r. r ∷ zip2 (λ x q. row_of (value.Bool x) q) bits present) (truth_answer b p) ∙ ap (λ more. truth_row (answer_if p b) ∷ more) (truth_answers bits present)

-- bits under the validity of rows, with nulls where that is asked for, are answers where the rows are not null
pub answers-made : (bits : List Bool) (v own asked : Validity) (rows : List (Option Value)) (k n : Nullability) → length bits ≡ length rows → BothValid (length bits) own asked v → valid_bits own (length rows) ≡ map is_some rows → valid_bits asked (length bits) ≡ replicate (length bits) true → nullability_of own ≡ k → nullability_of asked ≡ n
    → bool_column (record { values = bits; validity = v }) ≡ truths (either k n) (zip2 answer_if (map is_some rows) bits)
answers-made bits v own asked rows k n same valid rows-are all-are own-kind asked-kind =
    let present : valid_bits v (length bits) ≡ map is_some rows =
    valid.present
    ∙ ap (λ bs. zip2 ◌&&◌ bs (valid_bits asked (length bits))) (ap (valid_bits own) same ∙ rows-are)
    ∙ ap (zip2 ◌&&◌ (map is_some rows)) (all-are ∙ ap (λ m. replicate m true) (same ∙ sym (length-map rows is_some)))
    ∙ and_full (map is_some rows) in
    truth-column bits v (length bits) (either k n) (zip2 answer_if (map is_some rows) bits) (map is_some rows) refl (valid.nulls ∙ ap (λ x. either x (nullability_of asked)) own-kind ∙ ap (either k) asked-kind) present (truth_answers bits (map is_some rows))

masked_row : (row : Option Value) (n : ℤ) (b : Bool) → Holds value.Int row n → row_of (value.Int n) (is_some row && b) ≡ kept_row row b
masked_row None n true h = refl
masked_row None n false h = refl
masked_row (Some v) n true h = ap (λ x. Some x) (sym h)
masked_row (Some v) n false h = refl

masked_rows : (rows : List (Option Value)) (ns : List ℤ) (bits : List Bool) → AllZip (Holds value.Int) rows ns → zip2 (λ n b. row_of (value.Int n) b) ns (zip2 ◌&&◌ (map is_some rows) bits) ≡ zip2 kept_row rows bits
masked_rows [] [] bits h = refl
masked_rows [] (n ∷ ns) bits h = absurd h
masked_rows (r ∷ rows) [] bits h = absurd h
masked_rows (r ∷ rows) (n ∷ ns) [] h = refl
masked_rows (r ∷ rows) (n ∷ ns) (b ∷ bits) h =
    ap (λ x. x ∷ zip2 (λ m c. row_of (value.Int m) c) ns (zip2 ◌&&◌ (map is_some rows) bits)) (masked_row r n b h.0)
    ∙ ap (λ more. kept_row r b ∷ more) (masked_rows rows ns bits h.1)

nullable_again : (w : PType) (t : DType) → t ≡ dtype.Primitive w (nullability t) → dtype.Primitive w nulls.Nullable ≡ nullable_form t
nullable_again w t e = sym (ap nullable_form e)

-- numbers of a part under its validity and a mask's bits are the part with null where the mask keeps no row
pub masked-made : (b : PrimitiveBuffer) (v own kept : Validity) (c : Column) (ns : List ℤ) (bits : List Bool) → AllZip (Holds value.Int) c.rows ns → numbers_of b ≡ ns → c.dtype ≡ dtype.Primitive (ptype_of b) (nullability c.dtype) → length bits ≡ length c.rows → BothValid (length c.rows) own kept v
    → valid_bits own (length c.rows) ≡ map is_some c.rows → valid_bits kept (length bits) ≡ bits → nullability_of kept ≡ nulls.Nullable
    → primitive_column (record { values = b; validity = v }) ≡ masked bits c
masked-made b v own kept c ns bits held numbers kind same valid rows-are bits-are nullable =
    let nulls-are : nullability_of v ≡ nulls.Nullable = valid.nulls ∙ ap (either (nullability_of own)) nullable ∙ sym (either_nullable (nullability_of own)) in
    let present : valid_bits v (length ns) ≡ zip2 ◌&&◌ (map is_some c.rows) bits =
    ap (valid_bits v) (sym (length-held value.Int c.rows ns held)) ∙ valid.present ∙ ap (λ bs. zip2 ◌&&◌ bs (valid_bits kept (length c.rows))) rows-are ∙ ap (zip2 ◌&&◌ (map is_some c.rows)) (ap (valid_bits kept) (sym same) ∙ bits-are) in
    ap (λ n. column_with (dtype.Primitive (ptype_of b) n) (rows_under v (map value.Int (numbers_of b)))) nulls-are
    ∙ ap (λ t. column_with t (rows_under v (map value.Int (numbers_of b)))) (nullable_again (ptype_of b) c.dtype kind)
    ∙ ap (λ xs. column_with (nullable_form c.dtype) (rows_under v (map value.Int xs))) numbers
    ∙ ap (column_with (nullable_form c.dtype)) (rows-present value.Int v ns ∙ ap (zip2 (λ n x. row_of (value.Int n) x) ns) present ∙ masked_rows c.rows ns bits held)

-- unscaled numbers, and how many digits they have
abbrev pub decimals_with : DecimalBuffer → Digits → Decimals
decimals_with b d = record { numbers = b; digits = d }

-- unscaled numbers that rows hold, null where the rows are, are the rows
decimals_made : (a : PlainParts Decimals) (b : DecimalBuffer) (d : Digits) (k : Nullability) (rows : List (Option Value)) → a.values ≡ decimals_with b d → nullability_of a.validity ≡ k → AllZip (Holds value.Decimal) rows (unscaled_of b) → valid_bits a.validity (length (unscaled_of b)) ≡ map is_some rows
    → decimal_column a ≡ column_with (dtype.Decimal d k) rows
decimals_made a b d k rows is kind held present =
    ap (λ n. column_with (dtype.Decimal a.values.digits n) (rows_under a.validity (map value.Decimal (unscaled_of a.values.numbers)))) kind
    ∙ ap (λ (x : Decimals). column_with (dtype.Decimal x.digits k) (rows_under a.validity (map value.Decimal (unscaled_of x.numbers)))) is
    ∙ ap (column_with (dtype.Decimal d k)) (rows-under-held value.Decimal a.validity rows (unscaled_of b) held present)

-- the numbers of a most significant part alone, null where it is
pub one-assembled : (a : PlainParts Decimals) (b : DecimalBuffer) (d : Digits) (c : Column) (ns : List ℤ) → AllZip (Holds value.Int) c.rows ns → a.values ≡ decimals_with b d → nullability_of a.validity ≡ nullability c.dtype → unscaled_of b ≡ ns → length (unscaled_of b) ≡ length c.rows → valid_bits a.validity (length c.rows) ≡ map is_some c.rows
    → decimal_column a ≡ column_with (dtype.Decimal d (nullability c.dtype)) (map one_row c.rows)
one-assembled a b d c ns held is kind numbers long present =
    decimals_made a b d (nullability c.dtype) (map one_row c.rows) is kind (subst (λ ks. AllZip (Holds value.Decimal) (map one_row c.rows) ks) (sym numbers) (ones-held c.rows ns held))
    (ap (valid_bits a.validity) long ∙ present ∙ sym (ones-present c.rows ns held))

-- and those of two parts
pub two-assembled : (a : PlainParts Decimals) (b : DecimalBuffer) (d : Digits) (c : Column) (others : List (Option Value)) (ms ns : List ℤ) → TwoHeld c.rows others ms ns → a.values ≡ decimals_with b d → nullability_of a.validity ≡ nullability c.dtype → unscaled_of b ≡ zip2 wide ms ns → length (unscaled_of b) ≡ length c.rows → valid_bits a.validity (length c.rows) ≡ map is_some c.rows
    → decimal_column a ≡ column_with (dtype.Decimal d (nullability c.dtype)) (zip2 two_rows c.rows others)
two-assembled a b d c others ms ns h is kind numbers long present =
    decimals_made a b d (nullability c.dtype) (zip2 two_rows c.rows others) is kind
    (subst (λ ks. AllZip (Holds value.Decimal) (zip2 two_rows c.rows others) ks) (sym numbers) (both-held c.rows others ms ns h))
    (ap (valid_bits a.validity) long ∙ present ∙ sym (two-present c.rows others ms ns h))
