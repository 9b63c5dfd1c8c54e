-- What is said of the columns that operands stand for, said of the operands.
use Rattle.std.proofs.Common.{ℕ, ◌≡◌, ◌==◌, ◌∙◌, refl, sym, ap, subst, Bool, true, false, ◌&&◌, List, length, map, replicate, Option, Some, None}
use Rattle.std.specs.Prelude.{IsTrue, is_none}
use Rattle.std.specs.Ordering.{int_eq}
use Rattle.std.specs.Simd.Lanes.{zip2}
use Rattle.std.proofs.lemmas.Bool.Decides.{Decides-eqb, Decides-int_eq}
use Rattle.std.proofs.lemmas.List.{length-replicate}
use Rattle.std.proofs.lemmas.Simd.{zip2_splat}
use Rattle.vortex_buffer.proofs.Bits.{map-replicate}
use Rattle.vortex_buffer.specs.declared.compare_operator.CompareOperator.{CompareOperator}
use Rattle.vortex_array_types.specs.Digits.{Digits}
use Rattle.vortex_array_types.specs.Order.{compares}
use Rattle.vortex_array_types.specs.Row.{Column, TypedRow, nullability}
use Rattle.vortex_array_types.specs.Truth.{all_three, both, is_like, lies_between}
use Rattle.vortex_array_types.specs.Typed.{is_text, operand_type, same_apart_from_nullability, same_type, width_number}
use Rattle.vortex_array_types.specs.declared.column.ColumnDesc.{ColumnDesc}
use Rattle.vortex_array_types.specs.declared.filter.BetweenOptions.{BetweenOptions}
use Rattle.vortex_array_types.specs.declared.filter.Operand.{Operand}
use Rattle.vortex_array_types.specs.declared.filter.Operand.TheVariants.{Column as Named, Constant}
use Rattle.vortex_array_types.specs.declared.scalar.Value.{Value}
use Rattle.vortex_array_types.specs.declared.types.DType.{DType}
use Rattle.vortex_array_types.specs.declared.types.DType.TheVariants as dtype
use Rattle.vortex_array_kinds.specs.Kinds.{constant_column}
use Rattle.vortex_array_kinds.specs.StringValues.{is_text_type}
use Rattle.vortex_array_kinds.specs.Truths.{answers, bounded, compared, either, either_column}
use Rattle.vortex_table_chunks.specs.declared.chunk.Chunk.{Chunk}
use Rattle.vortex_table_chunks.specs.ChunkOf.{chunk_column}
use Rattle.vortex_table_chunks.specs.Rows.{FitColumns, IsOperand, IsThere, cells_of, chunk_of, values_of}
use Rattle.vortex_table_chunks.proofs.Asked.{answers-of}
use Rattle.vortex_table_chunks.proofs.NamedChunks.{constant-operand, constant-type, named-fits, named-operand, named-type}

-- the column has the rows and the type of an operand
pub record IsOf (n : ℕ) (columns : List ColumnDesc) (chunks : List (Option Chunk)) (x : Operand) (c : Column) : Type 0 where
  pub rows : c.rows ≡ values_of (cells_of columns chunks n) x
  pub dtype : Some c.dtype ≡ operand_type columns x
  pub long : length c.rows ≡ n

-- the chunk of an operand that is a name is there
pub named-there : (columns : List ColumnDesc) (chunks : List (Option Chunk)) (x : Operand) (name text : List ℕ) → IsOperand columns chunks x → x ≡ Named name → text ≡ name → IsThere columns chunks text
named-there columns chunks x name text h is same = subst (IsThere columns chunks) (sym same) (subst (IsOperand columns chunks) is h)

-- and stands for the operand
pub named-is : (n : ℕ) (columns : List ColumnDesc) (chunks : List (Option Chunk)) (x : Operand) (name text : List ℕ) (chunk : Chunk) → FitColumns n columns chunks → x ≡ Named name → text ≡ name → chunk_of columns chunks text ≡ Some chunk
    → IsOf n columns chunks x (chunk_column chunk)
named-is n columns chunks x name text chunk fits is same found =
    let here : chunk_of columns chunks name ≡ Some chunk = ap (chunk_of columns chunks) (sym same) ∙ found in
    record {
      rows = named-operand n columns chunks x name chunk fits is here;
      dtype = named-type n columns chunks x name chunk fits is here;
      long = (named-fits n columns chunks name chunk fits here).rows;
    }

-- so do equal rows for a constant
pub constant-is : (n : ℕ) (columns : List ColumnDesc) (chunks : List (Option Chunk)) (x : Operand) (scalar : TypedRow) (c : Column) → x ≡ Constant scalar → c ≡ constant_column (record { scalar = scalar; len = n }) → IsOf n columns chunks x c
constant-is n columns chunks x scalar c is same = record {
  rows = ap (λ (d : Column). d.rows) same ∙ constant-operand n columns chunks x scalar is;
  dtype = ap (λ (d : Column). Some d.dtype) same ∙ constant-type columns x scalar is;
  long = ap (λ (d : Column). length d.rows) same ∙ length-replicate n scalar.value;
}

-- operands of the same type are columns of the same type
pub same-types : (s t : DType) (x y : Option DType) → Some s ≡ x → Some t ≡ y → IsTrue (same_type x y) → IsTrue (same_apart_from_nullability s t)
same-types s t x y is other h = subst (λ o. IsTrue (same_type (Some s) o)) (sym other) (subst (λ o. IsTrue (same_type o y)) (sym is) h)

both_true : (a b : Bool) → IsTrue a → IsTrue b → IsTrue (a && b)
both_true true b p q = q
both_true false b p q = absurd (cc p)

digits_turned : (d e : Digits) (b : Bool) → (d.precision == e.precision) ≡ b → IsTrue (b && int_eq d.scale e.scale) → IsTrue (e.precision == d.precision && int_eq e.scale d.scale)
digits_turned d e true p h =
    both_true (e.precision == d.precision) (int_eq e.scale d.scale)
    ((Decides-eqb e.precision d.precision).1 (sym ((Decides-eqb d.precision e.precision).0 p)))
    ((Decides-int_eq e.scale d.scale).1 (sym ((Decides-int_eq d.scale e.scale).0 h)))
digits_turned d e false p h = absurd (cc h)

-- and the other way round
pub same-turned : (s t : DType) → IsTrue (same_apart_from_nullability s t) → IsTrue (same_apart_from_nullability t s)
same-turned (dtype.Bool k) (dtype.Bool m) h = refl
same-turned (dtype.Primitive p k) (dtype.Primitive q m) h = (Decides-eqb (width_number q) (width_number p)).1 (sym ((Decides-eqb (width_number p) (width_number q)).0 h))
same-turned (dtype.Decimal d k) (dtype.Decimal e m) h = digits_turned d e (d.precision == e.precision) refl h
same-turned (dtype.Utf8 k) (dtype.Utf8 m) h = refl
same-turned (dtype.Binary k) (dtype.Binary m) h = refl
same-turned s t h = absurd (cc h)

text_type : (t : DType) → IsTrue (is_text (Some t)) → IsTrue (is_text_type t)
text_type (dtype.Utf8 k) h = refl
text_type t h = absurd (cc h)

-- an operand of texts is a column of texts
pub text-type : (t : DType) (x : Option DType) → Some t ≡ x → IsTrue (is_text x) → IsTrue (is_text_type t)
text-type t x is h = text_type t (subst (λ o. IsTrue (is_text o)) (sym is) h)

-- the answers of a comparison of two columns
pub compared-answers : (operator : CompareOperator) (a b made : Column) (xs ys : List (Option Value)) → made ≡ compared operator a b → a.rows ≡ xs → b.rows ≡ ys → answers made ≡ zip2 (both (compares operator)) xs ys
compared-answers operator a b made xs ys is left right =
    answers-of made (either_column a b) (zip2 (both (compares operator)) a.rows b.rows) is
    ∙ ap (λ rows. zip2 (both (compares operator)) rows b.rows) left
    ∙ ap (zip2 (both (compares operator)) xs) right

-- and of a column between its bounds
pub bounded-answers : (options : BetweenOptions) (a lower upper made : Column) (xs ls us : List (Option Value)) → made ≡ bounded options a lower upper → a.rows ≡ xs → lower.rows ≡ ls → upper.rows ≡ us
    → answers made ≡ zip2 (λ test z. test z) (zip2 (all_three (lies_between options)) xs ls) us
bounded-answers options a lower upper made xs ls us is here below above =
    answers-of made (either (either_column a lower) (nullability upper.dtype)) (zip2 (λ test z. test z) (zip2 (all_three (lies_between options)) a.rows lower.rows) upper.rows) is
    ∙ ap (λ rows. zip2 (λ test z. test z) (zip2 (all_three (lies_between options)) rows lower.rows) upper.rows) here
    ∙ ap (λ rows. zip2 (λ test z. test z) (zip2 (all_three (lies_between options)) xs rows) upper.rows) below
    ∙ ap (zip2 (λ test z. test z) (zip2 (all_three (lies_between options)) xs ls)) above

-- what is answered row by row of a pattern, where each row has that pattern
pub liked-rows : (pattern : Option Value) (n : ℕ) (rows xs ys : List (Option Value)) (given : List (Option Bool)) → given ≡ map (λ row. both is_like row pattern) rows → rows ≡ xs → length rows ≡ n → replicate n pattern ≡ ys → given ≡ zip2 (both is_like) xs ys
liked-rows pattern n rows xs ys given is here long equal =
    is ∙ sym (zip2_splat (both is_like) rows n pattern long) ∙ ap (zip2 (both is_like) rows) equal ∙ ap (λ r. zip2 (both is_like) r ys) here

-- what is answered of each row, where all are one
pub equal-rows : {A B : Type 0} (f : A → B) (n : ℕ) (row : A) (xs : List A) (given : List B) → given ≡ replicate n (f row) → replicate n row ≡ xs → given ≡ map f xs
equal-rows f n row xs given is equal = is ∙ sym (map-replicate f n row) ∙ ap (map f) equal
