-- The forms of tables and requests that a scan answers today.
use Rattle.std.specs.Prelude.{◌≡◌, ◌≢◌, ◌&&◌, List, [], ◌∷◌, length, nat_le, Bool, true, false, Option, Some, None, is_none, ⊤}
use Rattle.vortex_array_types.specs.declared.types.PType.TheVariants.{U64}
use Rattle.vortex_array_types.specs.declared.types.Nullability.TheVariants.{NonNullable}
use Rattle.vortex_array_types.specs.declared.types.DType.{DType}
use Rattle.vortex_array_types.specs.declared.types.DType.TheVariants.{Primitive}
use Rattle.vortex_array_types.specs.declared.column.ColumnDesc.{ColumnDesc}
use Rattle.vortex_array_types.specs.declared.filter.Operand.{Operand}
use Rattle.vortex_array_types.specs.declared.filter.Operand.TheVariants.{Column, Constant}
use Rattle.vortex_array_types.specs.declared.filter.Filter.{Filter, fold-Filter}
use Rattle.vortex_array_types.specs.declared.filter.Filter.TheOpen.{Filter-F}
use Rattle.vortex_array_types.specs.Checked.{unknown_in}
use Rattle.vortex_table.specs.State.{TableState}
use Rattle.vortex_scan_types.specs.Valid.{first_unknown}
use Rattle.vortex_table.specs.declared.errors.ScanError.{ScanError}
use Rattle.vortex_table.specs.declared.errors.ScanError.TheVariants.{NotBuilt, InvalidRequest, OutOfMemory}
use Rattle.vortex_table_types.specs.declared.describe.PartitionDesc.{PartitionDesc}
use Rattle.vortex_scan_types.specs.declared.request.Projection.{Projection}
use Rattle.vortex_scan_types.specs.declared.request.Projection.TheVariants.{All, Columns}
use Rattle.vortex_scan_types.specs.declared.request.ScanRequest.{ScanRequest}
use Rattle.vortex_scan_types.specs.declared.selection.Selection.{Selection}
use Rattle.vortex_scan_types.specs.declared.selection.Selection.TheVariants as selection

-- the type of whole numbers of 64 bits without sign and without nulls
abbrev pub u64_type : DType
u64_type = Primitive U64 NonNullable

-- whether a type is that one
abbrev pub is_u64 : DType → Bool
is_u64 (Primitive U64 NonNullable) = true
is_u64 _ = false

-- whether a table has one column, of that type
abbrev pub is_one_u64 : List ColumnDesc → Bool
is_one_u64 [] = false
is_one_u64 (column ∷ []) = is_u64 column.dtype
is_one_u64 (column ∷ next ∷ rest) = false

-- whether an operand is a column
abbrev pub is_column : Operand → Bool
is_column (Column name) = true
is_column (Constant scalar) = false

-- whether an operand is a constant of that type
abbrev pub is_u64_constant : Operand → Bool
is_u64_constant (Column name) = false
is_u64_constant (Constant scalar) = is_u64 scalar.dtype

-- one level: a column compared with a constant of that type
abbrev pub comparison_step : Filter-F Bool → Bool
comparison_step (Filter-F.Compare operator x y) = is_column x && is_u64_constant y
comparison_step _ = false

-- whether a filter is one comparison of a column with a constant of that type, or there is none
abbrev pub is_comparison : Option Filter → Bool
is_comparison None = true
is_comparison (Some filter) = fold-Filter Bool comparison_step filter

-- whether all columns are asked for
abbrev pub is_whole : Projection → Bool
is_whole All = true
is_whole (Columns names) = false

-- whether all places are selected
abbrev pub selects_all : Selection → Bool
selects_all selection.All = true
selects_all (selection.IncludeByIndex listed) = false
selects_all (selection.ExcludeByIndex listed) = false

-- whether a request has no projection, range, selection or limit
abbrev pub is_unlimited : ScanRequest → Bool
is_unlimited request =
    is_whole request.projection && is_none request.row_range && is_none request.partition_range
    && selects_all request.selection && selects_all request.partition_selection && is_none request.limit

-- whether the table has at most one partition and one such column, and the request one such comparison at most
abbrev pub is_built : List ColumnDesc → List PartitionDesc → ScanRequest → Bool
is_built columns partitions request = nat_le (length partitions) 1 && is_one_u64 columns && is_unlimited request && is_comparison request.filter

-- a refusal by a name: the first of the filter that is not the table's
abbrev pub UnknownIn : List ColumnDesc → Filter → ScanError → Type 0
UnknownIn columns filter NotBuilt = ⊥
UnknownIn columns filter (InvalidRequest name) = unknown_in columns filter ≡ Some name
UnknownIn columns filter OutOfMemory = ⊤

-- why a scan is refused: each cause holds, and none before it
abbrev pub HasCause : List ColumnDesc → List PartitionDesc → ScanRequest → ScanError → Type 0
HasCause columns partitions request NotBuilt = is_built columns partitions request ≡ false
HasCause columns partitions request (InvalidRequest name) = (is_built columns partitions request ≡ true) × (first_unknown columns request ≡ Some name)
HasCause columns partitions request OutOfMemory = ⊤

-- a refusal by form or by name leaves the whole table as it was, and so does want of memory where a name is unknown
abbrev pub ChangesNothing : {S : Type 0} → ScanRequest → TableState S → TableState S → ScanError → Type 0
ChangesNothing request old new NotBuilt = new ≡ old
ChangesNothing request old new (InvalidRequest name) = new ≡ old
ChangesNothing request old new OutOfMemory = first_unknown old.columns request ≢ None → new ≡ old
