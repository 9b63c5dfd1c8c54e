-- What a call of three values answers of one row: the truth of a filter for that row.
use Rattle.std.specs.Prelude.{◌≡◌, ◌<◌, ℕ, Bool, List, length, Option, None, replicate, slice_index_or}
use Rattle.vortex_buffer.specs.declared.compare_operator.CompareOperator.{CompareOperator}
use Rattle.vortex_array_types.specs.declared.filter.BetweenOptions.{BetweenOptions}
use Rattle.vortex_array_types.specs.declared.filter.Operand.{Operand}
use Rattle.vortex_array_types.specs.declared.filter.Operand.TheVariants.{Column as Named, Constant}
use Rattle.vortex_array_types.specs.declared.filter.Filter.{Filter, Compare, Between, Like, Not, And, Or}
use Rattle.vortex_array_types.specs.declared.scalar.Value.{Value}
use Rattle.vortex_array_types.specs.Row.{Column}
use Rattle.vortex_array_types.specs.Truth.{Cells, truth}
use Rattle.vortex_array_kinds.specs.Truths.{answers, bounded, compared, joined_by_and, joined_by_or, liked, negated}

-- row i of a column
abbrev pub row_at : Column → ℕ → Option Value
row_at c i = slice_index_or c.rows i None

-- answer i of a column of truth values
abbrev pub answer_at : Column → ℕ → Option Bool
answer_at c i = slice_index_or (answers c) i None

-- columns of n rows, by their names
pub record Columns (n : ℕ) : Type 0 where
  pub of : List ℕ → Column
  pub long : (name : List ℕ) → length (of name).rows ≡ n

-- row i of them
abbrev pub cells_at : {n : ℕ} → Columns n → ℕ → Cells
cells_at columns i name = row_at (columns.of name) i

-- the column with the operand's name, or the constant in each row
abbrev pub operand_column : {n : ℕ} → Columns n → Operand → Column
operand_column columns (Named name) = columns.of name
operand_column {n} columns (Constant scalar) = record { dtype = scalar.dtype; rows = replicate n scalar.value }

-- a comparison of two operands answers for each row as the filter that compares them
abbrev pub ComparedByRow : Type 0
ComparedByRow = (n : ℕ) (columns : Columns n) (i : ℕ) → i < n → (operator : CompareOperator) (x y : Operand)
    → answer_at (compared operator (operand_column columns x) (operand_column columns y)) i ≡ truth (cells_at columns i) (Compare operator x y)

-- between answers for each row as the filter that bounds
abbrev pub BoundedByRow : Type 0
BoundedByRow = (n : ℕ) (columns : Columns n) (i : ℕ) → i < n → (options : BetweenOptions) (x lower upper : Operand)
    → answer_at (bounded options (operand_column columns x) (operand_column columns lower) (operand_column columns upper)) i ≡ truth (cells_at columns i) (Between options x lower upper)

-- like answers for each row as the filter that matches
abbrev pub LikedByRow : Type 0
LikedByRow = (n : ℕ) (columns : Columns n) (i : ℕ) → i < n → (x pattern : Operand)
    → answer_at (liked (operand_column columns x) (operand_column columns pattern)) i ≡ truth (cells_at columns i) (Like x pattern)

-- where two columns answer for a row as two filters do, their conjunction answers as the filter that joins these
abbrev pub AndByRow : Type 0
AndByRow = (cells : Cells) (f g : Filter) (a b : Column) (i : ℕ) → i < length a.rows → i < length b.rows → answer_at a i ≡ truth cells f → answer_at b i ≡ truth cells g
    → answer_at (joined_by_and a b) i ≡ truth cells (And f g)

-- and so their disjunction
abbrev pub OrByRow : Type 0
OrByRow = (cells : Cells) (f g : Filter) (a b : Column) (i : ℕ) → i < length a.rows → i < length b.rows → answer_at a i ≡ truth cells f → answer_at b i ≡ truth cells g
    → answer_at (joined_by_or a b) i ≡ truth cells (Or f g)

-- where a column answers for a row as a filter does, its negation answers as the filter that negates it
abbrev pub NegatedByRow : Type 0
NegatedByRow = (cells : Cells) (f : Filter) (a : Column) (i : ℕ) → i < length a.rows → answer_at a i ≡ truth cells f → answer_at (negated a) i ≡ truth cells (Not f)
