-- Decimals split in parts, and the parts' rows.
use Rattle.std.proofs.Common.{ℕ, zero, suc, ◌≤◌, ◌≡◌, ◌==◌, Bool, true, false, not, ◌&&◌, cond, List, [], ◌∷◌, length, map, refl, sym, ap, subst, ◌∙◌, arith, Option, Some, None, eq-eqb, get_or}
use Rattle.std.specs.Prelude.{ℤ, pos, IsTrue, IsFalse, is_some, option_to_list, replicate}
use Rattle.std.specs.List.{AllZip, list_all, zip}
use Rattle.std.specs.Simd.Lanes.{zip2}
use Rattle.std.proofs.lemmas.List.{length-map, length-replicate, map-id}
use Rattle.std.proofs.lemmas.Simd.{length-zip2}
use Rattle.std.proofs.lemmas.List.Elements.{All-cons, All-nil}
use Rattle.vortex_array_types.specs.declared.types.DType.TheVariants as dtype
use Rattle.vortex_array_types.specs.declared.types.PType.TheVariants as width
use Rattle.vortex_array_types.specs.declared.types.Nullability.{Nullability}
use Rattle.vortex_array_types.specs.declared.types.Nullability.TheVariants as nulls
use Rattle.vortex_array_types.specs.declared.scalar.Value.{Value}
use Rattle.vortex_array_types.specs.declared.scalar.Value.TheVariants.{Int, Decimal}
use Rattle.vortex_array_kinds.specs.Kinds.{decimal_column, nullability_of, numbers_of, ptype_of, rows_under, unscaled_of}
use Rattle.vortex_array_kinds.specs.Parts.{PlainParts}
use Rattle.vortex_array_kinds.specs.Validities.{is_as_long, row_of, valid_bits}
use Rattle.vortex_array_kinds.specs.declared.decimals.Decimals.{Decimals}
use Rattle.vortex_array_kinds.specs.declared.decimals.DecimalBuffer.{DecimalBuffer}
use Rattle.vortex_array_kinds.specs.declared.decimals.DecimalBuffer.TheVariants as unscaled
use Rattle.vortex_array_kinds.specs.declared.primitives.PrimitiveBuffer.{PrimitiveBuffer}
use Rattle.vortex_array_kinds.specs.declared.validity.Validity.{Validity}
use Rattle.vortex_array_kinds.specs.declared.validity.Validity.TheVariants.{NonNullable, AllValid, AllInvalid, Bits}
use Rattle.vortex_array_kinds.proofs.RowLemmas.{column_with, length-rows-map, valid-rows}
use Rattle.vortex_array_kinds.proofs.TruthRows.{rows-present}
use Rattle.vortex_array.specs.declared.arrays.Array.{Array}
use Rattle.vortex_array.specs.declared.arrays.Array.TheVariants.{Primitive}
use Rattle.vortex_array.specs.ColumnOf.{column_of}
use Rattle.vortex_array.specs.Single.{number_held}
use Rattle.vortex_decimal_byte_parts.specs.Checked.{first_of_lower, is_lower_type, is_msp_type, refused_beside, refused_lower, refused_parts}
use Rattle.vortex_decimal_byte_parts.specs.Columns.{one_row, two_rows}
use Rattle.vortex_decimal_byte_parts.specs.Number.{value}
use Rattle.vortex_decimal_byte_parts.specs.Split.{IsLowerOf, IsSplit, SplitInto, SplitsTo, bits_kept, empty_part, empty_row, has_value, msp_width}
use Rattle.vortex_decimal_byte_parts.specs.declared.errors.PartsError.TheVariants as refused

-- what is parts is not refused
pub unrefused-one : (m : Array) → IsTrue (is_msp_type (column_of m).dtype) → refused_parts m [] ≡ None
unrefused-one m h = ap (λ b. cond b None (Some refused.MspNotSigned)) h

pub unrefused-two : (m l : Array) → IsTrue (is_msp_type (column_of m).dtype) → IsTrue (is_lower_type (column_of l).dtype) → length (column_of l).rows ≡ length (column_of m).rows → refused_parts m (l ∷ []) ≡ None
unrefused-two m l h k e =
    ap (λ b. cond b (refused_beside (length (column_of m).rows) (l ∷ [])) (Some refused.MspNotSigned)) h
    ∙ ap (λ b. cond (b && true) (refused_lower (l ∷ [])) (Some refused.LengthMismatch)) (eq-eqb (length (column_of l).rows) (length (column_of m).rows) e)
    ∙ ap (λ b. cond b None (Some refused.LowerNotUnsigned)) k

-- the only one of lower parts where there is one at most
pub only-lower : (ls : List Array) → length ls ≤ 1 → option_to_list (first_of_lower ls) ≡ ls
only-lower [] h = refl
only-lower (l ∷ []) h = refl
only-lower (l ∷ o ∷ ls) h = absurd (omega (arith, h))

msp_signed : (b : DecimalBuffer) (n : Nullability) → IsTrue (is_msp_type (dtype.Primitive (msp_width b) n))
msp_signed (unscaled.I8 b) n = refl
msp_signed (unscaled.I16 b) n = refl
msp_signed (unscaled.I32 b) n = refl
msp_signed (unscaled.I64 b) n = refl
msp_signed (unscaled.I128 b) n = refl

whole_rows : (ns : List ℤ) → map one_row (map (λ v. Some v) (map Int ns)) ≡ map (λ v. Some v) (map Decimal ns)
whole_rows [] = refl
whole_rows (n ∷ ns) = ap (λ more. Some (Decimal n) ∷ more) (whole_rows ns)

null_rows : (ns : List ℤ) → map one_row (rows_under AllInvalid (map Int ns)) ≡ rows_under AllInvalid (map Decimal ns)
null_rows [] = refl
null_rows (n ∷ ns) = ap (λ more. None ∷ more) (null_rows ns)

one_bit : (n : ℤ) (b : Bool) → one_row (row_of (Int n) b) ≡ row_of (Decimal n) b
one_bit n true = refl
one_bit n false = refl

bit_rows : (ns : List ℤ) (bits : List Bool) → map one_row (zip2 row_of (map Int ns) bits) ≡ zip2 row_of (map Decimal ns) bits
bit_rows [] bits = refl
bit_rows (n ∷ ns) [] = refl
bit_rows (n ∷ ns) (b ∷ bits) = ap (λ r. r ∷ map one_row (zip2 row_of (map Int ns) bits)) (one_bit n b) ∙ ap (λ more. row_of (Decimal n) b ∷ more) (bit_rows ns bits)

-- whole numbers under a validity as decimals
pub rows-converted : (v : Validity) (ns : List ℤ) → map one_row (rows_under v (map Int ns)) ≡ rows_under v (map Decimal ns)
rows-converted NonNullable ns = whole_rows ns
rows-converted AllValid ns = whole_rows ns
rows-converted AllInvalid ns = null_rows ns
rows-converted (Bits bits) ns = bit_rows ns bits

-- numbers of up to 64 bits are split in a most significant part alone
pub split-narrow : (a : PlainParts Decimals) (b : PrimitiveBuffer) → numbers_of b ≡ unscaled_of a.values.numbers → ptype_of b ≡ msp_width a.values.numbers → IsFalse (bits_kept a.values.numbers == 128) → IsTrue (has_value (decimal_column a).rows) → IsSplit a (Primitive (record { values = b; validity = a.validity })) []
split-narrow a b numbers kind narrow some =
    let n = nullability_of a.validity in
    let signed : IsTrue (is_msp_type (dtype.Primitive (ptype_of b) n)) = subst (λ w. IsTrue (is_msp_type (dtype.Primitive w n))) (sym kind) (msp_signed a.values.numbers n) in
    record {
      parts = unrefused-one (Primitive (record { values = b; validity = a.validity })) signed;
      column = ap (column_with (dtype.Decimal a.values.digits n)) (rows-converted a.validity (numbers_of b) ∙ ap (λ ns. rows_under a.validity (map Decimal ns)) numbers);
      kind = ap (λ w. dtype.Primitive w n) kind;
      plain = sym some;
      empty = λ none. absurd (cc (sym some ∙ none));
      count = sym narrow;
      lower = All-nil (IsLowerOf (decimal_column a).rows);
      zero = λ wide. absurd (cc (sym wide ∙ narrow));
    }

-- bits that are not set are those of rows without a value
pub none-set : (rows : List (Option Value)) → list_all not (map is_some rows) ≡ true → IsFalse (has_value rows)
none-set [] h = refl
none-set (None ∷ rows) h = none-set rows h
none-set (Some x ∷ rows) h = absurd (cc h)

pub some-set : (rows : List (Option Value)) → list_all not (map is_some rows) ≡ false → IsTrue (has_value rows)
some-set [] h = absurd (cc h)
some-set (None ∷ rows) h = some-set rows h
some-set (Some x ∷ rows) h = refl

-- no value among rows
nulls_alike : (f : Option Value → Option Value) → f None ≡ None → (rows : List (Option Value)) → IsFalse (has_value rows) → map f (replicate (length rows) None) ≡ rows
nulls_alike f e [] h = refl
nulls_alike f e (None ∷ rows) h = ap (λ r. r ∷ map f (replicate (length rows) None)) e ∙ ap (λ more. None ∷ more) (nulls_alike f e rows h)
nulls_alike f e (Some x ∷ rows) h = absurd (cc h)

empty_alike : (f : Option Value → Option Value) → f None ≡ None → (v : Validity) (xs : List Value) → IsFalse (has_value (rows_under v xs)) → map f (replicate (length (rows_under v xs)) (empty_row (nullability_of v))) ≡ rows_under v xs
empty_alike f e NonNullable [] h = refl
empty_alike f e NonNullable (x ∷ xs) h = absurd (cc h)
empty_alike f e AllValid xs h = nulls_alike f e (rows_under AllValid xs) h
empty_alike f e AllInvalid xs h = nulls_alike f e (rows_under AllInvalid xs) h
empty_alike f e (Bits bits) xs h = nulls_alike f e (rows_under (Bits bits) xs) h

equal_twos : (row other : Option Value) (n : ℕ) → zip2 two_rows (replicate n row) (replicate n other) ≡ map (λ r. two_rows r other) (replicate n row)
equal_twos row other zero = refl
equal_twos row other (suc n) = ap (λ more. two_rows row other ∷ more) (equal_twos row other n)

zero_kept : (n : Nullability) → number_held (empty_row n) ≡ pos 0
zero_kept nulls.NonNullable = refl
zero_kept nulls.Nullable = refl

zeros_kept : {X : Type 0} (rows : List X) (z : ℤ) → z ≡ pos 0 → (P : X → Type 0) → AllZip (λ row n. P row → n ≡ pos 0) rows (replicate (length rows) z)
zeros_kept [] z e P = tt
zeros_kept (r ∷ rows) z e P = ((λ _. e), zeros_kept rows z e P)

zero_parts : (rows : List (Option Value)) → AllZip (λ row part. row ≡ None → part ≡ Some (Int (pos 0))) rows (replicate (length rows) (Some (Int (pos 0))))
zero_parts [] = tt
zero_parts (r ∷ rows) = ((λ _. refl), zero_parts rows)

-- decimals of up to 64 bits of which none is a value
pub split-empty-narrow : (a : PlainParts Decimals) → IsFalse (bits_kept a.values.numbers == 128) → IsFalse (has_value (decimal_column a).rows) → IsSplit a (empty_part (msp_width a.values.numbers) (nullability_of a.validity) (length (decimal_column a).rows)) []
split-empty-narrow a narrow none =
    let n = nullability_of a.validity in
    record {
      parts = unrefused-one (empty_part (msp_width a.values.numbers) n (length (decimal_column a).rows)) (msp_signed a.values.numbers n);
      column = ap (column_with (dtype.Decimal a.values.digits n)) (empty_alike one_row refl a.validity (map Decimal (unscaled_of a.values.numbers)) none);
      kind = refl;
      plain = sym none;
      empty = λ _. refl;
      count = sym narrow;
      lower = All-nil (IsLowerOf (decimal_column a).rows);
      zero = λ wide. absurd (cc (sym wide ∙ narrow));
    }

-- and of 128 bits
pub split-empty-wide : (a : PlainParts Decimals) → IsTrue (bits_kept a.values.numbers == 128) → IsFalse (has_value (decimal_column a).rows)
    → IsSplit a (empty_part (msp_width a.values.numbers) (nullability_of a.validity) (length (decimal_column a).rows)) (empty_part width.U64 nulls.NonNullable (length (decimal_column a).rows) ∷ [])
split-empty-wide a wide none =
    let n = nullability_of a.validity in
    let rows = (decimal_column a).rows in
    let m = empty_part (msp_width a.values.numbers) n (length rows) in
    let l = empty_part width.U64 nulls.NonNullable (length rows) in
    let zero_row : Option Value = Some (Int (pos 0)) in
    let low : IsLowerOf rows l = record { kind = refl; zero = zero_parts rows; plain = sym none; empty = λ _. refl } in
    record {
      parts = unrefused-two m l (msp_signed a.values.numbers n) refl (length-replicate (length rows) zero_row ∙ sym (length-replicate (length rows) (empty_row n)));
      column =
          ap (column_with (dtype.Decimal a.values.digits n))
          (equal_twos (empty_row n) zero_row (length rows) ∙ empty_alike (λ r. two_rows r zero_row) refl a.validity (map Decimal (unscaled_of a.values.numbers)) none);
      kind = refl;
      plain = sym none;
      empty = λ _. refl;
      count = sym wide;
      lower = All-cons (IsLowerOf rows) l [] low (All-nil (IsLowerOf rows));
      zero = λ _. zeros_kept rows (number_held (empty_row n)) (zero_kept n) (λ row. row ≡ None);
    }

-- the parts of a number give it back
abbrev pub GivesBack : ℤ → ℤ × List ℕ → Type 0
GivesBack n parts = value parts.0 (get_or parts.1 0 0) ≡ n

split_row : (n : ℤ) (b : Bool) (high : ℤ) (low : ℕ) → SplitsTo GivesBack (n, b) (high, low) → two_rows (row_of (Int high) b) (Some (Int (pos low))) ≡ row_of (Decimal n) b
split_row n true high low s = ap (λ m. Some (Decimal m)) (s.set refl)
split_row n false high low s = refl

split_rows : (ns : List ℤ) (bits : List Bool) (highs : List ℤ) (lows : List ℕ) → length bits ≡ length ns → length highs ≡ length ns → length lows ≡ length ns → AllZip (SplitsTo GivesBack) (zip ns bits) (zip highs lows)
    → zip2 two_rows (zip2 (λ n b. row_of (Int n) b) highs bits) (map (λ v. Some v) (map Int (map (λ x. pos x) lows))) ≡ zip2 (λ n b. row_of (Decimal n) b) ns bits
split_rows [] [] [] [] e f g s = refl
split_rows [] (b ∷ bits) highs lows e f g s = absurd (omega (arith, e))
split_rows [] [] (h ∷ highs) lows e f g s = absurd (omega (arith, f))
split_rows [] [] [] (l ∷ lows) e f g s = absurd (omega (arith, g))
split_rows (n ∷ ns) [] highs lows e f g s = absurd (omega (arith, e))
split_rows (n ∷ ns) (b ∷ bits) [] lows e f g s = absurd (omega (arith, f))
split_rows (n ∷ ns) (b ∷ bits) (h ∷ highs) [] e f g s = absurd (omega (arith, g))
split_rows (n ∷ ns) (b ∷ bits) (h ∷ highs) (l ∷ lows) e f g s =
    ap (λ r. r ∷ zip2 two_rows (zip2 (λ m c. row_of (Int m) c) highs bits) (map (λ v. Some v) (map Int (map (λ x. pos x) lows)))) (split_row n b h l s.0)
    ∙ ap (λ more. row_of (Decimal n) b ∷ more) (split_rows ns bits highs lows (omega (arith, e)) (omega (arith, f)) (omega (arith, g)) s.1)

unset_high : (n : ℤ) (b : Bool) (high : ℤ) (low : ℕ) → SplitsTo GivesBack (n, b) (high, low) → row_of (Decimal n) b ≡ None → high ≡ pos 0
unset_high n true high low s e = absurd (cc e)
unset_high n false high low s e = (s.unset refl).0

unset_low : (n : ℤ) (b : Bool) (high : ℤ) (low : ℕ) → SplitsTo GivesBack (n, b) (high, low) → row_of (Decimal n) b ≡ None → Some (Int (pos low)) ≡ Some (Int (pos 0))
unset_low n true high low s e = absurd (cc e)
unset_low n false high low s e = ap (λ x. Some (Int (pos x))) (s.unset refl).1

unset_highs : (ns : List ℤ) (bits : List Bool) (highs : List ℤ) (lows : List ℕ) → length bits ≡ length ns → length highs ≡ length ns → length lows ≡ length ns → AllZip (SplitsTo GivesBack) (zip ns bits) (zip highs lows)
    → AllZip (λ row n. row ≡ None → n ≡ pos 0) (zip2 (λ n b. row_of (Decimal n) b) ns bits) highs
unset_highs [] bits [] lows e f g s = tt
unset_highs [] bits (h ∷ highs) lows e f g s = absurd (omega (arith, f))
unset_highs (n ∷ ns) [] highs lows e f g s = absurd (omega (arith, e))
unset_highs (n ∷ ns) (b ∷ bits) [] lows e f g s = absurd (omega (arith, f))
unset_highs (n ∷ ns) (b ∷ bits) (h ∷ highs) [] e f g s = absurd (omega (arith, g))
unset_highs (n ∷ ns) (b ∷ bits) (h ∷ highs) (l ∷ lows) e f g s = (unset_high n b h l s.0, unset_highs ns bits highs lows (omega (arith, e)) (omega (arith, f)) (omega (arith, g)) s.1)

unset_lows : (ns : List ℤ) (bits : List Bool) (highs : List ℤ) (lows : List ℕ) → length bits ≡ length ns → length highs ≡ length ns → length lows ≡ length ns → AllZip (SplitsTo GivesBack) (zip ns bits) (zip highs lows)
    → AllZip (λ row part. row ≡ None → part ≡ Some (Int (pos 0))) (zip2 (λ n b. row_of (Decimal n) b) ns bits) (map (λ v. Some v) (map Int (map (λ x. pos x) lows)))
unset_lows [] bits highs [] e f g s = tt
unset_lows [] bits highs (l ∷ lows) e f g s = absurd (omega (arith, g))
unset_lows (n ∷ ns) [] highs lows e f g s = absurd (omega (arith, e))
unset_lows (n ∷ ns) (b ∷ bits) [] lows e f g s = absurd (omega (arith, f))
unset_lows (n ∷ ns) (b ∷ bits) (h ∷ highs) [] e f g s = absurd (omega (arith, g))
unset_lows (n ∷ ns) (b ∷ bits) (h ∷ highs) (l ∷ lows) e f g s = (unset_low n b h l s.0, unset_lows ns bits highs lows (omega (arith, e)) (omega (arith, f)) (omega (arith, g)) s.1)

-- a mask of the rows has as many bits as there are numbers
pub mask-long : (a : PlainParts Decimals) (ns : List ℤ) (bits : List Bool) → a.values.numbers ≡ unscaled.I128 ns → bits ≡ map is_some (decimal_column a).rows → IsTrue (is_as_long a.validity (length (unscaled_of a.values.numbers))) → length ns ≡ length bits
mask-long a ns bits numbers bits-are long =
    ap length (sym (map-id ns))
    ∙ ap (λ b. length (unscaled_of b)) (sym numbers)
    ∙ sym (length-rows-map Decimal a.validity (unscaled_of a.values.numbers) long)
    ∙ sym (length-map (decimal_column a).rows is_some)
    ∙ ap length (sym bits-are)

-- numbers of 128 bits are split in two parts
pub split-wide : (a : PlainParts Decimals) (ns : List ℤ) (bits : List Bool) (highs : List ℤ) (lows : List ℕ) (h l : PrimitiveBuffer) → unscaled_of a.values.numbers ≡ ns → IsTrue (bits_kept a.values.numbers == 128) → msp_width a.values.numbers ≡ width.I64 → numbers_of h ≡ highs → ptype_of h ≡ width.I64 → numbers_of l ≡ map (λ x. pos x) lows → ptype_of l ≡ width.U64
    → bits ≡ map is_some (decimal_column a).rows → IsTrue (has_value (decimal_column a).rows) → IsTrue (is_as_long a.validity (length ns)) → SplitInto GivesBack ns bits highs lows → IsSplit a (Primitive (record { values = h; validity = a.validity })) (Primitive (record { values = l; validity = NonNullable }) ∷ [])
split-wide a ns bits highs lows h l numbers wide kept highs-are high-kind lows-are low-kind bits-are some long s =
    let v = a.validity in
    let n = nullability_of v in
    let rows = (decimal_column a).rows in
    let m : Array = Primitive (record { values = h; validity = v }) in
    let low : Array = Primitive (record { values = l; validity = NonNullable }) in
    let long' : IsTrue (is_as_long v (length (map Decimal ns))) = subst (λ k. IsTrue (is_as_long v k)) (sym (length-map ns Decimal)) long in
    let present : valid_bits v (length ns) ≡ bits =
    ap (valid_bits v) (sym (length-map ns Decimal)) ∙ valid-rows v (map Decimal ns) long' ∙ ap (λ xs. map is_some (rows_under v (map Decimal xs))) (sym numbers) ∙ sym bits-are in
    let many : length bits ≡ length ns =
    ap length bits-are ∙ length-map rows is_some ∙ ap (λ xs. length (rows_under v (map Decimal xs))) numbers ∙ length-rows-map Decimal v ns long in
    let rows-are : rows ≡ zip2 (λ k b. row_of (Decimal k) b) ns bits =
    ap (λ xs. rows_under v (map Decimal xs)) numbers ∙ rows-present Decimal v ns ∙ ap (zip2 (λ k b. row_of (Decimal k) b) ns) present in
    let high-rows : rows_under v (map Int (numbers_of h)) ≡ zip2 (λ k b. row_of (Int k) b) highs bits =
    ap (λ xs. rows_under v (map Int xs)) highs-are ∙ rows-present Int v highs ∙ ap (zip2 (λ k b. row_of (Int k) b) highs) (ap (valid_bits v) s.msp_length ∙ present) in
    let low-rows : map (λ x. Some x) (map Int (numbers_of l)) ≡ map (λ x. Some x) (map Int (map (λ x. pos x) lows)) = ap (λ xs. map (λ x. Some x) (map Int xs)) lows-are in
    let low-count : length (map (λ x. Some x) (map Int (numbers_of l))) ≡ length ns =
    ap length low-rows ∙ length-map (map Int (map (λ x. pos x) lows)) (λ x. Some x) ∙ length-map (map (λ x. pos x) lows) Int ∙ length-map lows (λ x. pos x) ∙ s.lower_length in
    let high-count : length (rows_under v (map Int (numbers_of h))) ≡ length ns =
    ap length high-rows ∙ length-zip2 (λ k b. row_of (Int k) b) highs bits (s.msp_length ∙ sym many) ∙ s.msp_length in
    let signed : IsTrue (is_msp_type (dtype.Primitive (ptype_of h) n)) = subst (λ w. IsTrue (is_msp_type (dtype.Primitive w n))) (sym high-kind) refl in
    let unsigned : IsTrue (is_lower_type (dtype.Primitive (ptype_of l) nulls.NonNullable)) = subst (λ w. IsTrue (is_lower_type (dtype.Primitive w nulls.NonNullable))) (sym low-kind) refl in
    let lows-zero : AllZip (λ row part. row ≡ None → part ≡ Some (Int (pos 0))) rows (column_of low).rows =
    subst (λ rs. AllZip (λ row part. row ≡ None → part ≡ Some (Int (pos 0))) rs (column_of low).rows) (sym rows-are)
    (subst (λ ps. AllZip (λ row part. row ≡ None → part ≡ Some (Int (pos 0))) (zip2 (λ k b. row_of (Decimal k) b) ns bits) ps) (sym low-rows) (unset_lows ns bits highs lows many s.msp_length s.lower_length s.each)) in
    let highs-zero : AllZip (λ row k. row ≡ None → k ≡ pos 0) rows (numbers_of h) =
    subst (λ rs. AllZip (λ row k. row ≡ None → k ≡ pos 0) rs (numbers_of h)) (sym rows-are)
    (subst (λ ks. AllZip (λ row k. row ≡ None → k ≡ pos 0) (zip2 (λ k b. row_of (Decimal k) b) ns bits) ks) (sym highs-are) (unset_highs ns bits highs lows many s.msp_length s.lower_length s.each)) in
    let lower : IsLowerOf rows low = record { kind = ap (λ w. dtype.Primitive w nulls.NonNullable) low-kind; zero = lows-zero; plain = sym some; empty = λ none. absurd (cc (sym some ∙ none)) } in
    record {
      parts = unrefused-two m low signed unsigned (low-count ∙ sym high-count);
      column =
          ap (column_with (dtype.Decimal a.values.digits n))
          (ap (λ rs. zip2 two_rows rs (column_of low).rows) high-rows
          ∙ ap (zip2 two_rows (zip2 (λ k b. row_of (Int k) b) highs bits)) low-rows
          ∙ split_rows ns bits highs lows many s.msp_length s.lower_length s.each
          ∙ sym rows-are);
      kind = ap (λ w. dtype.Primitive w n) (high-kind ∙ sym kept);
      plain = sym some;
      empty = λ none. absurd (cc (sym some ∙ none));
      count = sym wide;
      lower = All-cons (IsLowerOf rows) low [] lower (All-nil (IsLowerOf rows));
      zero = λ _. highs-zero;
    }
