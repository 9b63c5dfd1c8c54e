-- Columns of truth values that are made by words.
use Rattle.std.proofs.Common.{ℕ, ◌≡◌, Bool, not, ◌&&◌, ◌||◌, List, ◌∷◌, length, map, refl, sym, ap, ◌∙◌, Option}
use Rattle.std.specs.Prelude.{IsTrue, option_map}
use Rattle.std.specs.Simd.Lanes.{zip2}
use Rattle.std.proofs.lemmas.List.{length-map}
use Rattle.std.proofs.lemmas.Simd.{length-zip2}
use Rattle.vortex_array_types.specs.Truth.{and3, or3}
use Rattle.vortex_array_types.specs.Row.{Column}
use Rattle.vortex_array_types.specs.declared.types.DType.{DType}
use Rattle.vortex_array_types.specs.declared.types.DType.TheVariants as dtype
use Rattle.vortex_array_types.specs.declared.types.Nullability.{Nullability}
use Rattle.vortex_array_types.specs.declared.scalar.Value.{Value}
use Rattle.vortex_array_types.specs.declared.scalar.Value.TheVariants as value
use Rattle.vortex_array_kinds.specs.Kinds.{bool_column}
use Rattle.vortex_array_kinds.specs.Parts.{PlainParts}
use Rattle.vortex_array_kinds.specs.Validities.{is_as_long, nullability_of, row_of, valid_bits}
use Rattle.vortex_array_kinds.specs.Truths.{BothValid, either, either_column, truths, truth_row, answer_in, answers, both_true, is_true, joined_by_and, joined_by_or, joined_strictly, negated}
use Rattle.vortex_array_kinds.specs.Known.{KnownWhere, known}
use Rattle.vortex_array_kinds.specs.declared.validity.Validity.{Validity}
use Rattle.vortex_array_kinds.proofs.RowLemmas.{length-rows-map}
use Rattle.vortex_array_kinds.proofs.TruthRows.{length-valid, rows-present, truth_rows, joined-rows, and_row, or_row, strict_row, not-rows, true-rows}

-- a column of this type and these rows
abbrev pub column : DType → List (Option Value) → Column
column t rows = record { dtype = t; rows = rows }

-- columns are the same where their types and their rows are
pub same_column : (s t : DType) (xs ys : List (Option Value)) → s ≡ t → xs ≡ ys → column s xs ≡ column t ys
same_column s t xs ys e f = ap (λ d. column d xs) e ∙ ap (column t) f

-- a column of truth values by its bits
pub truth-column : (bits : List Bool) (v : Validity) (n : ℕ) (k : Nullability) (given : List (Option Bool)) (present : List Bool) → length bits ≡ n → nullability_of v ≡ k → valid_bits v n ≡ present → truth_rows bits present ≡ map truth_row given
    → bool_column (record { values = bits; validity = v }) ≡ truths k given
truth-column bits v n k given present long nulls is rows =
    same_column _ _ _ _ (ap dtype.Bool nulls) (rows-present (λ b. value.Bool b) v bits ∙ ap (λ m. truth_rows bits (valid_bits v m)) long ∙ ap (truth_rows bits) is ∙ rows)

-- the answers of a column of truth values by its bits
pub answers-present : (a : PlainParts (List Bool)) (n : ℕ) → length a.values ≡ n → map answer_in (truth_rows a.values (valid_bits a.validity n)) ≡ answers (bool_column a)
answers-present a n long = ap (λ m. map answer_in (truth_rows a.values (valid_bits a.validity m))) (sym long) ∙ ap (map answer_in) (sym (rows-present (λ b. value.Bool b) a.validity a.values))

-- columns of as many rows have as many bits
pub same-bits : (a b : PlainParts (List Bool)) → IsTrue (is_as_long a.validity (length a.values)) → IsTrue (is_as_long b.validity (length b.values)) → length (bool_column a).rows ≡ length (bool_column b).rows → length a.values ≡ length b.values
same-bits a b ka kb e = sym (length-rows-map (λ x. value.Bool x) a.validity a.values ka) ∙ e ∙ length-rows-map (λ x. value.Bool x) b.validity b.values kb

long_at : (v : Validity) (m n : ℕ) → m ≡ n → IsTrue (is_as_long v m) → IsTrue (is_as_long v n)
long_at v m n e k = rw (← e) k

-- two columns joined row by row, by words
joined-column : (f : Bool → Bool → Bool) (k : Bool → Bool → Bool → Bool → Bool) (known_of : List Bool → List Bool → List Bool → List Bool → List Bool) (op : Option Bool → Option Bool → Option Bool)
    → ((x y p q : Bool) (xs ys ps qs : List Bool) → known_of (x ∷ xs) (y ∷ ys) (p ∷ ps) (q ∷ qs) ≡ k x y p q ∷ known_of xs ys ps qs)
    → ((x y p q : Bool) → row_of (value.Bool (f x y)) (k x y p q) ≡ truth_row (op (answer_in (row_of (value.Bool x) p)) (answer_in (row_of (value.Bool y) q))))
    → (a b : PlainParts (List Bool)) (v : Validity) (m : ℕ) → IsTrue (is_as_long a.validity (length a.values)) → IsTrue (is_as_long b.validity (length b.values)) → length (bool_column a).rows ≡ length (bool_column b).rows
    → m ≡ length a.values → valid_bits v m ≡ known_of a.values b.values (valid_bits a.validity m) (valid_bits b.validity m) → nullability_of v ≡ either (nullability_of a.validity) (nullability_of b.validity)
    → bool_column (record { values = zip2 f a.values b.values; validity = v }) ≡ truths (either_column (bool_column a) (bool_column b)) (zip2 op (answers (bool_column a)) (answers (bool_column b)))
joined-column f k known_of op next row a b v m ka kb rows long present nulls =
    let same = same-bits a b ka kb rows in
    let other : m ≡ length b.values = long ∙ same in
    truth-column (zip2 f a.values b.values) v m _ _ _ (length-zip2 f a.values b.values same ∙ sym long) nulls present
    (joined-rows f k known_of op next row a.values b.values (valid_bits a.validity m) (valid_bits b.validity m) (sym same) (length-valid a.validity m (long_at a.validity (length a.values) m (sym long) ka) ∙ long) (length-valid b.validity m (long_at b.validity (length b.values) m (sym other) kb) ∙ long)
    ∙ ap (λ given. map truth_row (zip2 op given (map answer_in (truth_rows b.values (valid_bits b.validity m))))) (answers-present a m (sym long))
    ∙ ap (λ given. map truth_row (zip2 op (answers (bool_column a)) given)) (answers-present b m (sym other)))

-- the rows that are true, by words
pub true-column : (a : PlainParts (List Bool)) → zip2 ◌&&◌ a.values (valid_bits a.validity (length a.values)) ≡ map is_true (answers (bool_column a))
true-column a = true-rows a.values (valid_bits a.validity (length a.values)) ∙ ap (map is_true) (answers-present a (length a.values) refl)

-- a conjunction that is made in steps
pub and-made : (a b : PlainParts (List Bool)) (ds es : List Bool) (v : Validity) (bits : List Bool) (made : PlainParts (List Bool)) → IsTrue (is_as_long a.validity (length a.values)) → IsTrue (is_as_long b.validity (length b.values)) → length (bool_column a).rows ≡ length (bool_column b).rows
    → ds ≡ map not a.values → es ≡ map not b.values → KnownWhere (length ds) a.validity ds b.validity es v → bits ≡ zip2 ◌&&◌ a.values b.values → made ≡ record { values = bits; validity = v }
    → bool_column made ≡ joined_by_and (bool_column a) (bool_column b)
and-made a b ds es v bits made ka kb same d e h is parts =
    let words : KnownWhere (length (map not a.values)) a.validity (map not a.values) b.validity (map not b.values) v = rw (d, e) at h in
    rw (parts, is) (joined-column ◌&&◌ (λ x y p q. ((p && q) || (p && not x)) || (q && not y)) (λ xs ys ps qs. known ps (map not xs) qs (map not ys)) and3 (λ x y p q xs ys ps qs. refl) and_row a b v (length (map not a.values)) ka kb same (length-map a.values not) words.present words.nulls)

-- a disjunction that is made in steps
pub or-made : (a b : PlainParts (List Bool)) (v : Validity) (bits : List Bool) (made : PlainParts (List Bool)) → IsTrue (is_as_long a.validity (length a.values)) → IsTrue (is_as_long b.validity (length b.values)) → length (bool_column a).rows ≡ length (bool_column b).rows
    → KnownWhere (length a.values) a.validity a.values b.validity b.values v → bits ≡ zip2 ◌||◌ a.values b.values → made ≡ record { values = bits; validity = v }
    → bool_column made ≡ joined_by_or (bool_column a) (bool_column b)
or-made a b v bits made ka kb same h is parts =
    rw (parts, is) (joined-column ◌||◌ (λ x y p q. ((p && q) || (p && x)) || (q && y)) (λ xs ys ps qs. known ps xs qs ys) or3 (λ x y p q xs ys ps qs. refl) or_row a b v (length a.values) ka kb same refl h.present h.nulls)

-- both rows, made in steps
pub strict-made : (a b : PlainParts (List Bool)) (v : Validity) (bits : List Bool) (made : PlainParts (List Bool)) → IsTrue (is_as_long a.validity (length a.values)) → IsTrue (is_as_long b.validity (length b.values)) → length (bool_column a).rows ≡ length (bool_column b).rows
    → BothValid (length a.values) a.validity b.validity v → bits ≡ zip2 ◌&&◌ a.values b.values → made ≡ record { values = bits; validity = v }
    → bool_column made ≡ joined_strictly (bool_column a) (bool_column b)
strict-made a b v bits made ka kb same h is parts =
    rw (parts, is) (joined-column ◌&&◌ (λ x y p q. p && q) (λ xs ys ps qs. zip2 ◌&&◌ ps qs) both_true (λ x y p q xs ys ps qs. refl) strict_row a b v (length a.values) ka kb same refl h.present h.nulls)

-- a negation that is made in steps
pub not-made : (a : PlainParts (List Bool)) (v : Validity) (bits : List Bool) (made : PlainParts (List Bool)) → v ≡ a.validity → bits ≡ map not a.values → made ≡ record { values = bits; validity = v } → bool_column made ≡ negated (bool_column a)
not-made a v bits made e is parts =
    let m : ℕ = length a.values in
    rw (parts, is, e) (truth-column (map not a.values) a.validity m _ _ _ (length-map a.values not) refl refl
    (not-rows a.values (valid_bits a.validity m) ∙ ap (λ given. map truth_row (map (option_map not) given)) (answers-present a m refl)))
