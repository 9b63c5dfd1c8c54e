-- Which rows of a column are not null, by its validity.
use Rattle.std.proofs.Common.{ℕ, ◌≡◌, ◌∙◌, refl, sym, ap, Bool, true, false, List, length, map, replicate, Option, Some, None}
use Rattle.std.specs.Prelude.{IsTrue, is_some}
use Rattle.std.proofs.lemmas.List.{length-replicate}
use Rattle.vortex_array_types.specs.Row.{nullability}
use Rattle.vortex_array_types.specs.Widths.{with_nullability}
use Rattle.vortex_array_types.specs.declared.types.DType.{DType}
use Rattle.vortex_array_types.specs.declared.types.Nullability.{Nullability}
use Rattle.vortex_array_types.specs.declared.scalar.Value.{Value}
use Rattle.vortex_array_types.proofs.SameTypes.{nulls-with}
use Rattle.vortex_array_kinds.specs.Kinds.{constant_column, plain_column}
use Rattle.vortex_array_kinds.specs.Parts.{ConstantParts, PlainParts}
use Rattle.vortex_array_kinds.specs.Validities.{is_as_long, nullability_of, rows_under, valid_bits}
use Rattle.vortex_array_kinds.specs.declared.validity.Validity.{Validity}
use Rattle.vortex_array_kinds.proofs.RowLemmas.{equal-present, rows-counted, valid-rows}

-- a plain column has the nulls of its validity
pub plain-kind : {X : Type 0} (type_of : X → Nullability → DType) (items : X → List Value) → ((x : X) (m n : Nullability) → type_of x n ≡ with_nullability n (type_of x m)) → (a : PlainParts X) (v : Validity) → v ≡ a.validity
    → nullability_of v ≡ nullability (plain_column type_of items a).dtype
plain-kind type_of items alike a v is =
    let n : Nullability = nullability_of a.validity in
    ap nullability_of is ∙ sym (ap nullability (alike a.values n n) ∙ nulls-with n (type_of a.values n))

-- its validity speaks of its rows
pub plain-long : {X : Type 0} (items : X → List Value) (a : PlainParts X) (v : Validity) (n : ℕ) → v ≡ a.validity → length (items a.values) ≡ n → IsTrue (is_as_long a.validity n) → IsTrue (is_as_long v (length (rows_under a.validity (items a.values))))
plain-long items a v n is many fits = rw (is, rows-counted a.validity (items a.values) n many fits) fits

-- and shows them
pub plain-present : {X : Type 0} (items : X → List Value) (a : PlainParts X) (v : Validity) (n : ℕ) → v ≡ a.validity → length (items a.values) ≡ n → IsTrue (is_as_long a.validity n)
    → valid_bits v (length (rows_under a.validity (items a.values))) ≡ map is_some (rows_under a.validity (items a.values))
plain-present items a v n is many fits =
    ap (λ w. valid_bits w (length (rows_under a.validity (items a.values)))) is
    ∙ ap (valid_bits a.validity) (rows-counted a.validity (items a.values) n many fits ∙ sym many)
    ∙ valid-rows a.validity (items a.values) (rw many fits)

-- a validity that says one thing of all rows shows equal rows
pub equal-shown : {X : Type 0} (n : ℕ) (x : Option X) (v : Validity) (b : Bool) → ((m : ℕ) → valid_bits v m ≡ replicate m b) → b ≡ is_some x → valid_bits v (length (replicate n x)) ≡ map is_some (replicate n x)
equal-shown n x v b told is = told (length (replicate n x)) ∙ ap (λ m. replicate m b) (length-replicate n x) ∙ ap (replicate n) is ∙ sym (equal-present n x)
