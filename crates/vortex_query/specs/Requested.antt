-- The request that a text spells, over the JSON value that `serde_json` reads.
use Rattle.std.specs.Prelude.{ℕ, pos, ◌==◌, List, codes, Bool, false, Option, Some, None, is_some, option_and_then, option_map, if◌then◌else◌}
use Rattle.std.specs.Str.{bytes_eq}
use Rattle.serde_json.specs.Data.{Data, null, boolean, number, string, array, object}
use Rattle.serde_json.specs.Find.{as_number, as_str, as_u64, get}
use Rattle.serde_json.specs.Read.{read}
use Rattle.vortex_array_types.specs.declared.scalar.Value.TheVariants.{Int}
use Rattle.vortex_buffer.specs.declared.compare_operator.CompareOperator.{CompareOperator}
use Rattle.vortex_buffer.specs.declared.compare_operator.CompareOperator.TheVariants.{Eq, NotEq, Gt, Gte, Lt, Lte}
use Rattle.vortex_array_types.specs.declared.filter.Operand.{Operand}
use Rattle.vortex_array_types.specs.declared.filter.Operand.TheVariants.{Column, Constant}
use Rattle.vortex_array_types.specs.declared.filter.Filter.{Filter, Compare}
use Rattle.vortex_scan_types.specs.declared.request.Projection.TheVariants as projection
use Rattle.vortex_scan_types.specs.declared.request.ScanRequest.{ScanRequest}
use Rattle.vortex_scan_types.specs.declared.selection.Selection.TheVariants as selection
use Rattle.vortex_table.specs.Built.{u64_type}
use Rattle.vortex_query.specs.Members.{item_of, only_member, width}

-- the operator that a text names
abbrev pub operator_of : List ℕ → Option CompareOperator
operator_of text =
    if bytes_eq text (codes "=") then Some Eq
    else if bytes_eq text (codes "!=") then Some NotEq
    else if bytes_eq text (codes ">") then Some Gt
    else if bytes_eq text (codes ">=") then Some Gte
    else if bytes_eq text (codes "<") then Some Lt
    else if bytes_eq text (codes "<=") then Some Lte
    else None

-- {"col": name}
abbrev pub column_in : Data → Option (List ℕ)
column_in d = option_and_then as_str (only_member (codes "col") d)

-- ["u64", number]
abbrev pub u64_in : Data → Option ℕ
u64_in d = option_and_then (λ kind. if bytes_eq kind (codes "u64") then option_and_then as_u64 (option_and_then as_number (item_of 2 1 d)) else None) (option_and_then as_str (item_of 2 0 d))

-- {"lit": ["u64", number]}
abbrev pub number_in : Data → Option ℕ
number_in d = option_and_then u64_in (only_member (codes "lit") d)

-- a number as a constant of that type
abbrev pub constant_of : ℕ → Operand
constant_of n = Constant (record { dtype = u64_type; value = Some (Int (pos n)) })

-- a column compared with a number
abbrev pub compared : CompareOperator → List ℕ → ℕ → Filter
compared operator name n = Compare operator (Column name) (constant_of n)

-- the comparison of these parts, where each is there
abbrev pub compared_parts : Option CompareOperator → Option (List ℕ) → Option ℕ → Option Filter
compared_parts operator name n = option_and_then (λ o. option_and_then (λ c. option_map (compared o c) n) name) operator

-- [operator, column, number]
abbrev pub comparison_in : Data → Option Filter
comparison_in d = compared_parts (option_and_then operator_of (option_and_then as_str (item_of 3 0 d))) (option_and_then column_in (item_of 3 1 d)) (option_and_then number_in (item_of 3 2 d))

-- {"cmp": comparison}
abbrev pub filter_in : Data → Option Filter
filter_in d = option_and_then comparison_in (only_member (codes "cmp") d)

-- a truth value; null stands for an absent one
abbrev pub truth_in : Data → Option Bool
truth_in null = Some false
truth_in (boolean b) = Some b
truth_in (number n) = None
truth_in (string s) = None
truth_in (array ds) = None
truth_in (object ms) = None

-- a truth value, which is false where it is absent
abbrev pub ordered_in : Option Data → Option Bool
ordered_in None = Some false
ordered_in (Some d) = truth_in d

-- the request for the rows that a filter keeps, in this order or in any, and nothing else asked
abbrev pub filtered : Filter → Bool → ScanRequest
filtered filter ordered = record {
  projection = projection.All;
  filter = Some filter;
  row_range = None;
  selection = selection.All;
  partition_selection = selection.All;
  partition_range = None;
  ordered = ordered;
  limit = None;
}

-- how many keys an object has that has the key `filter` and at most the key `ordered`
abbrev pub key_count : Data → ℕ
key_count d = if is_some (get (codes "ordered") d) then 2 else 1

-- {"filter": filter, "ordered": truth value}, of which the second may be missing
abbrev pub request_in : Data → Option ScanRequest
request_in d =
    if width d == key_count d
    then option_and_then (λ f. option_map (filtered f) (ordered_in (get (codes "ordered") d))) (option_and_then filter_in (get (codes "filter") d))
    else None

-- the request that a text of JSON spells
abbrev pub requested : List ℕ → Option ScanRequest
requested text = option_and_then request_in (read text)
