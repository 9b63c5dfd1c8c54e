-- The requests and tables that texts spell are of forms that a scan is built for.
use Rattle.std.proofs.Common.{◌≡◌, ◌≤◌, refl, arith, subst, ℕ, List, [], ◌∷◌, length, map, Bool, true, false, Option, Some, None, inl, inr}
use Rattle.std.specs.Prelude.{IfSome, codes, ◌==◌, option_and_then, option_map, nat_le, if◌then◌else◌}
use Rattle.std.specs.Int.{div_ceil}
use Rattle.std.specs.List.{range_with_len}
use Rattle.std.proofs.lemmas.Bool.{cases_Bool}
use Rattle.std.proofs.lemmas.Bool.Decides.{nat_tests}
use Rattle.std.proofs.lemmas.Grind.{div_ceil_times}
use Rattle.std.proofs.lemmas.List.{length-map}
use Rattle.std.proofs.lemmas.List.FromFn.{length-range_with_len}
use Rattle.csv.specs.Reading.{default_config, records, strip_bom}
use Rattle.serde_json.specs.Data.{Data}
use Rattle.serde_json.specs.Find.{as_str, get}
use Rattle.serde_json.specs.Read.{read}
use Rattle.vortex_buffer.specs.declared.compare_operator.CompareOperator.{CompareOperator}
use Rattle.vortex_array_types.specs.declared.filter.Filter.{Filter, the_lemmas}
use Rattle.vortex_scan_types.specs.declared.request.Projection.TheVariants as projection
use Rattle.vortex_scan_types.specs.declared.request.ScanRequest.{ScanRequest}
use Rattle.vortex_table.specs.Built.{is_built, is_comparison, is_one_u64, is_unlimited}
use Rattle.vortex_query.specs.Fields.{header_name}
use Rattle.vortex_query.specs.Members.{item_of, only_member, width}
use Rattle.vortex_query.specs.Numbered.{NumberedColumn, column_in, few, numbered, rows_numbers, under_name}
use Rattle.vortex_query.specs.Requested.{column_in as name_in, compared_parts, comparison_in, filter_in, filtered, key_count, number_in, operator_of, ordered_in, request_in, requested}
use Rattle.vortex_query.specs.Refused.{IsSpelledRequest, IsSpelledTable}
use Rattle.vortex_query.specs.Shown.{IsOneU64Column}
use Rattle.vortex_query.specs.Spelled.{SpelledTable, cut, partition_of, piece, pieces, spelled}

-- ---- optional values

through : {A B : Type 0} (P : A → Type 0) (Q : B → Type 0) (f : A → Option B) (o : Option A) → IfSome o P → ((a : A) → P a → IfSome (f a) Q) → IfSome (option_and_then f o) Q
through P Q f None h g = tt
through P Q f (Some a) h g = g a h

over : {A B : Type 0} (P : A → Type 0) (Q : B → Type 0) (f : A → B) (o : Option A) → IfSome o P → ((a : A) → P a → Q (f a)) → IfSome (option_map f o) Q
over P Q f None h g = tt
over P Q f (Some a) h g = g a h

any : {A : Type 0} (o : Option A) → IfSome o (λ _. Unit {0})
any None = tt
any (Some a) = tt

where_true : {A : Type 0} (Q : A → Type 0) (b : Bool) (o : Option A) → IfSome o Q → IfSome (if b then o else None) Q
where_true Q true o h = h
where_true Q false o h = tt

this_one : {A : Type 0} (Q : A → Type 0) (o : Option A) (a : A) → IfSome o Q → o ≡ Some a → Q a
this_one Q o a h e = subst (λ x. IfSome x Q) e h

-- ---- requests

-- what a request of a text has, whatever its filter compares
pub record IsComparison (request : ScanRequest) : Type 0 where
  pub compares : is_comparison request.filter ≡ true
  pub unlimited : is_unlimited request ≡ true
  pub whole : request.projection ≡ projection.All

abbrev Compares : Filter → Type 0
Compares f = is_comparison (Some f) ≡ true

parts_compare : (o : Option CompareOperator) (name : Option (List ℕ)) (n : Option ℕ) → IfSome (compared_parts o name n) Compares
parts_compare None name n = tt
parts_compare (Some o) None n = tt
parts_compare (Some o) (Some name) None = tt
parts_compare (Some o) (Some name) (Some n) = simp the_lemmas refl

filter_compares : (d : Data) → IfSome (filter_in d) Compares
filter_compares d = through (λ _. Unit {0}) Compares comparison_in (only_member (codes "cmp") d) (any _) (λ parts _. parts_compare (option_and_then operator_of (option_and_then as_str (item_of 3 0 parts))) (option_and_then name_in (item_of 3 1 parts)) (option_and_then number_in (item_of 3 2 parts)))

with_order : (f : Filter) (o : Option Bool) → Compares f → IfSome (option_map (filtered f) o) IsComparison
with_order f None h = tt
with_order f (Some b) h = record { compares = h; unlimited = refl; whole = refl }

value_compares : (d : Data) → IfSome (request_in d) IsComparison
value_compares d =
    where_true IsComparison (width d == key_count d) _
    (through Compares IsComparison (λ f. option_map (filtered f) (ordered_in (get (codes "ordered") d))) (option_and_then filter_in (get (codes "filter") d))
    (through (λ _. Unit {0}) Compares filter_in (get (codes "filter") d) (any _) (λ v _. filter_compares v))
    (λ f h. with_order f (ordered_in (get (codes "ordered") d)) h))

pub spelled_request : (request : ScanRequest) → IsSpelledRequest request → IsComparison request
spelled_request request s = this_one IsComparison (requested s.0) request (through (λ _. Unit {0}) IsComparison request_in (read s.0) (any _) (λ d _. value_compares d)) s.1

-- ---- tables

few_numbers : (numbers : List ℕ) → IfSome (few numbers) (λ ns. length ns ≤ 65536)
few_numbers numbers = elim (cases_Bool (nat_le (length numbers) 65536)) [
  | inl e ↦ rw e (grind (arith, nat_tests, e))
  | inr e ↦ rw e tt
]

few_rows : (rows : List (List (List ℕ))) → IfSome (column_in rows) (λ column. length column.numbers ≤ 65536)
few_rows [] = tt
few_rows (header ∷ rows) =
    through (λ _. Unit {0}) (λ column. length column.numbers ≤ 65536) (λ name. under_name name (rows_numbers rows)) (header_name header) (any _)
    (λ name _. over (λ ns. length ns ≤ 65536) (λ column. length column.numbers ≤ 65536) (λ ns. record { name = name; numbers = ns }) (option_and_then few (rows_numbers rows))
    (through (λ _. Unit {0}) (λ ns. length ns ≤ 65536) few (rows_numbers rows) (any _) (λ ns _. few_numbers ns)) (λ ns h. h))

-- what a table of a text has
pub record IsOneColumn (table : SpelledTable) : Type 0 where
  pub column : is_one_u64 table.columns ≡ true
  pub typed : IsOneU64Column table.columns
  pub one : length table.partitions ≤ 1

one_piece : (numbers : List ℕ) → length numbers ≤ 65536 → length (map (partition_of 8192) (pieces 65536 numbers)) ≤ 1
one_piece numbers h =
    let parts = length-map (pieces 65536 numbers) (partition_of 8192) in
    let places = length-map (range_with_len 0 (div_ceil (length numbers) 65536)) (piece 65536 numbers) in
    let count = length-range_with_len 0 (div_ceil (length numbers) 65536) in
    let bound = (div_ceil_times (length numbers) 65536 (omega arith)).1 in
    omega (arith, parts, places, count, bound, h)

cut_is_one : (column : NumberedColumn) → length column.numbers ≤ 65536 → IsOneColumn (cut 65536 8192 column)
cut_is_one column h = record { column = refl; typed = refl; one = one_piece column.numbers h }

pub spelled_table : (table : SpelledTable) → IsSpelledTable table → IsOneColumn table
spelled_table table s =
    this_one IsOneColumn (spelled s.0) table (over (λ column. length column.numbers ≤ 65536) IsOneColumn (cut 65536 8192) (numbered s.0) (few_rows (records default_config (strip_bom s.0))) cut_is_one) s.1

-- a scan of such a table for such a request is built
pub is_built_for : (request : ScanRequest) (table : SpelledTable) → IsSpelledRequest request → IsSpelledTable table → is_built table.columns table.partitions request ≡ true
is_built_for request table r t =
    let q = spelled_request request r in
    let o = spelled_table table t in
    let one : length table.partitions ≤ 1 = o.one in
    rw (o.column, q.unlimited, q.compares) (grind (arith, nat_tests, one))
