-- Equal rows as a dictionary in which each code is 0.
use Rattle.std.proofs.Common.{ℕ, zero, suc, ◌≡◌, ◌<◌, ◌∙◌, refl, sym, ap, arith, List, length, map, replicate, get_or, Option, Some, None}
use Rattle.std.specs.Prelude.{All, pos}
use Rattle.std.proofs.lemmas.List.{get_or-replicate, length-replicate}
use Rattle.vortex_buffer.proofs.Bits.{map-replicate}
use Rattle.vortex_array_types.specs.Row.{Column, TypedRow}
use Rattle.vortex_array_types.specs.declared.types.DType.TheVariants as dtypes
use Rattle.vortex_array_types.specs.declared.types.Nullability.TheVariants as nulls
use Rattle.vortex_array_types.specs.declared.types.PType.TheVariants as widths
use Rattle.vortex_array_types.specs.declared.scalar.Value.{Value}
use Rattle.vortex_array_types.specs.declared.scalar.Value.TheVariants as values
use Rattle.vortex_array_kinds.specs.Kinds.{constant_column}
use Rattle.vortex_array_kinds.specs.Parts.{ConstantParts}
use Rattle.vortex_array_kinds.proofs.TruthColumns.{same_column}
use Rattle.vortex_array_select.specs.Selected.{IndexBelow, NamesRows, row_at, taken}

-- the place of a first row
abbrev pub first_code : TypedRow
first_code = record { dtype = dtypes.Primitive widths.U64 nulls.NonNullable; value = Some (values.Int (pos 0)) }

-- as many codes as there are rows
abbrev pub codes_of : ℕ → Column
codes_of n = constant_column (record { scalar = first_code; len = n })

below_first : (n : ℕ) (x : Option Value) → All (IndexBelow (length (replicate n x))) (replicate n first_code.value)
below_first n x i d inside =
    let within : i < n = omega (arith, inside, length-replicate n first_code.value) in
    rw (get_or-replicate n i first_code.value d within) (omega (arith, within, length-replicate n x))

-- the codes are places of the rows
pub equal-codes : (row : TypedRow) (n : ℕ) → NamesRows (codes_of n) (length (constant_column (record { scalar = row; len = n })).rows)
equal-codes row n = record { kind = refl; below = below_first n row.value }

first_of : (n : ℕ) (x : Option Value) → replicate n (get_or (replicate n x) 0 None) ≡ replicate n x
first_of zero x = refl
first_of (suc n) x = refl

-- what they take are the rows
pub equal-taken : (k : ConstantParts) → taken (codes_of k.len) (constant_column k) ≡ constant_column k
equal-taken k = same_column _ _ _ _ refl (map-replicate (row_at (replicate k.len k.scalar.value)) k.len first_code.value ∙ first_of k.len k.scalar.value)

-- and so what codes take that are said to be equal
pub equal-dict : (k held codes : ConstantParts) (place : TypedRow) (n : ℕ) → codes ≡ record { scalar = place; len = n } → place ≡ first_code → n ≡ k.len → held ≡ k → taken (constant_column codes) (constant_column held) ≡ constant_column k
equal-dict k held codes place n is first long same =
    ap (λ (c : ConstantParts). taken (constant_column c) (constant_column held)) is
    ∙ ap (λ (s : TypedRow). taken (constant_column (record { scalar = s; len = n })) (constant_column held)) first
    ∙ ap (λ m. taken (codes_of m) (constant_column held)) long
    ∙ ap (λ (c : ConstantParts). taken (codes_of k.len) (constant_column c)) same
    ∙ equal-taken k
