-- The names that a filter has, and the type rules that it meets.
use Rattle.std.specs.Prelude.{ℕ, List, [], ◌∷◌, ◌++◌, Bool, true, false, ◌&&◌, ◌==◌, Option, Some, None}
use Rattle.std.specs.Ordering.{int_eq}
use Rattle.vortex_array_types.specs.declared.types.PType.{PType}
use Rattle.vortex_array_types.specs.declared.types.PType.TheVariants.{U8, U16, U32, U64, I8, I16, I32, I64}
use Rattle.vortex_array_types.specs.declared.types.DType.{DType}
use Rattle.vortex_array_types.specs.declared.types.DType.TheVariants.{Bool as TruthValue, Primitive, Decimal, Utf8, Binary}
use Rattle.vortex_array_types.specs.declared.column.ColumnDesc.{ColumnDesc}
use Rattle.vortex_array_types.specs.declared.filter.Operand.{Operand}
use Rattle.vortex_array_types.specs.declared.filter.Operand.TheVariants.{Column, Constant}
use Rattle.vortex_array_types.specs.declared.filter.Filter.{Filter, fold-Filter}
use Rattle.vortex_array_types.specs.declared.filter.Filter.TheOpen.{Filter-F}
use Rattle.vortex_array_types.specs.Cells.{dtype_of}

-- the name of a column, and none of a constant
abbrev pub operand_names : Operand → List (List ℕ)
operand_names (Column name) = name ∷ []
operand_names (Constant scalar) = []

-- one level, with the names of each filter inside
abbrev pub names_step : Filter-F (List (List ℕ)) → List (List ℕ)
names_step (Filter-F.Truth x) = operand_names x
names_step (Filter-F.Compare operator x y) = operand_names x ++ operand_names y
names_step (Filter-F.Between options x lower upper) = operand_names x ++ operand_names lower ++ operand_names upper
names_step (Filter-F.Like x pattern) = operand_names x ++ operand_names pattern
names_step (Filter-F.IsNull x) = operand_names x
names_step (Filter-F.Not f) = f
names_step (Filter-F.And f g) = f ++ g
names_step (Filter-F.Or f g) = f ++ g

-- the names of a filter, from left to right
abbrev pub filter_names : Option Filter → List (List ℕ)
filter_names None = []
filter_names (Some filter) = fold-Filter (List (List ℕ)) names_step filter

-- the number of a width, by which two widths are compared
abbrev pub width_number : PType → ℕ
width_number U8 = 0
width_number U16 = 1
width_number U32 = 2
width_number U64 = 3
width_number I8 = 4
width_number I16 = 5
width_number I32 = 6
width_number I64 = 7

-- kind, width, precision and scale agree
abbrev pub same_apart_from_nullability : DType → DType → Bool
same_apart_from_nullability (TruthValue _) (TruthValue _) = true
same_apart_from_nullability (Primitive p _) (Primitive q _) = width_number p == width_number q
same_apart_from_nullability (Decimal d _) (Decimal e _) = d.precision == e.precision && int_eq d.scale e.scale
same_apart_from_nullability (Utf8 _) (Utf8 _) = true
same_apart_from_nullability (Binary _) (Binary _) = true
same_apart_from_nullability _ _ = false

-- the type of a column, or of a constant
abbrev pub operand_type : List ColumnDesc → Operand → Option DType
operand_type columns (Column name) = dtype_of columns name
operand_type columns (Constant scalar) = Some scalar.dtype

-- both types are known, and are the same apart from nullability
abbrev pub same_type : Option DType → Option DType → Bool
same_type (Some t) (Some u) = same_apart_from_nullability t u
same_type _ _ = false

-- a type of truth values
abbrev pub is_truth_value : Option DType → Bool
is_truth_value (Some (TruthValue _)) = true
is_truth_value _ = false

-- a type of texts
abbrev pub is_text : Option DType → Bool
is_text (Some (Utf8 _)) = true
is_text _ = false

-- the operand is a constant
abbrev pub is_constant : Operand → Bool
is_constant (Column name) = false
is_constant (Constant scalar) = true

-- one level, where each filter inside meets its rules or not
abbrev pub typed_step : List ColumnDesc → Filter-F Bool → Bool
typed_step columns (Filter-F.Truth x) = is_truth_value (operand_type columns x)
typed_step columns (Filter-F.Compare operator x y) = same_type (operand_type columns x) (operand_type columns y)
typed_step columns (Filter-F.Between options x lower upper) = same_type (operand_type columns x) (operand_type columns lower) && same_type (operand_type columns x) (operand_type columns upper)
typed_step columns (Filter-F.Like x pattern) = is_text (operand_type columns x) && is_text (operand_type columns pattern) && is_constant pattern
typed_step columns (Filter-F.IsNull x) = true
typed_step columns (Filter-F.Not f) = f
typed_step columns (Filter-F.And f g) = f && g
typed_step columns (Filter-F.Or f g) = f && g

-- the filter meets the type rules, or there is none
abbrev pub well_typed : List ColumnDesc → Option Filter → Bool
well_typed columns None = true
well_typed columns (Some filter) = fold-Filter Bool (typed_step columns) filter
