-- The name of a type that is written is read as the type, and so is a header cell.
use Rattle.std.proofs.Common.{◌≡◌, ◌<◌, ◌≤◌, ◌+◌, ◌-◌, ◌/◌, ◌%◌, ◌==◌, ◌&&◌, ◌++◌, ◌∙◌, ap, sym, ℕ, suc, ℤ, pos, negsuc, Bool, true, false, true≢false, not, List, [], ◌∷◌, length, length-append, get_or, take, drop, nat_lt, nat_le, Some, None, option_and_then, option_map, arith, refl, decimal, codes, add-one, inl, inr, append_assoc, append-nil, IsTrue}
use lib.Seq.{get_or-append_seam}
use Rattle.std.specs.Prelude.{if◌then◌else◌}
use Rattle.std.specs.Char.{is_ascii_digit}
use Rattle.std.specs.List.{list_all}
use Rattle.std.specs.Str.{is_utf8}
use Rattle.std.proofs.lemmas.Bool.Decides.{nat_tests}
use Rattle.std.proofs.lemmas.Fmt.{decimal_digit}
use Rattle.std.proofs.lemmas.List.Folds.{list_all-append}
use Rattle.itoa.proofs.Decimal.{decimal_two}
use Rattle.vortex_array_types.specs.declared.types.DType.{DType}
use Rattle.vortex_array_types.specs.declared.types.DType.TheVariants as dtype
use Rattle.vortex_array_types.specs.declared.types.Nullability.{Nullability}
use Rattle.vortex_array_types.specs.declared.types.Nullability.TheVariants.{NonNullable, Nullable}
use Rattle.vortex_array_types.specs.declared.types.PType.TheVariants.{U8, U16, U32, U64, I8, I16, I32, I64}
use Rattle.vortex_array_types.specs.Row.{is_nullable}
use Rattle.vortex_array_types.specs.Widths.{nullable_form}
use Rattle.vortex_query_fields.specs.Columns.{column_of, column_spelled, last_place, name_spelled}
use Rattle.vortex_query_fields.specs.Decimals.{is_scale}
use Rattle.vortex_query_fields.specs.Laws.{HeadersAreRead, TypesAreRead, has_name}
use Rattle.vortex_query_fields.specs.Numbers.{is_count}
use Rattle.vortex_query_fields.specs.Types.{before_last, by_mark, count_spelled, decimal_of, digits_type, has_leading_zero, kind_spelled, kind_text, type_spelled, type_text}
use Rattle.vortex_query_fields.proofs.Shown.{apart, both, digits-alone, number-shown, other-digit, place-behind}

pub take-front : (front rest : List ℕ) → take (length front) (front ++ rest) ≡ front
take-front [] rest = refl
take-front (x ∷ front) rest = ap (λ l. x ∷ l) (take-front front rest)

dropped : (front : List ℕ) (x : ℕ) (rest : List ℕ) → drop (suc (length front)) (front ++ x ∷ rest) ≡ rest
dropped [] x rest = refl
dropped (y ∷ front) x rest = dropped front x rest

pub drop-front : (front : List ℕ) (x : ℕ) (rest : List ℕ) → drop (length front + 1) (front ++ x ∷ rest) ≡ rest
drop-front front x rest = ap (λ n. drop n (front ++ x ∷ rest)) (add-one (length front)) ∙ dropped front x rest

-- what stands before a last byte
last-by : (front : List ℕ) (c b : ℕ) (t : Bool) → (c == b) ≡ t → before_last b (front ++ c ∷ []) ≡ (if t then Some front else None)
last-by front c b t e =
    let n : length (front ++ c ∷ []) - 1 ≡ length front = omega (arith, length-append front (c ∷ [])) in
    ap (λ k. if get_or (front ++ c ∷ []) k 0 == b then Some (take k (front ++ c ∷ [])) else None) n
    ∙ ap (λ x. if x == b then Some (take (length front) (front ++ c ∷ [])) else None) (get_or-append_seam front c [] 0)
    ∙ ap (λ l. if c == b then Some l else None) (take-front front (c ∷ []))
    ∙ ap (λ t. if t then Some front else None) e

-- ---- numbers up to 38

counted : (n : ℕ) (digits : List ℕ) → nat_lt 0 (length digits) ≡ true → has_leading_zero digits ≡ false → decimal n ≡ digits → n < 39 → count_spelled digits ≡ Some n
counted n digits some plain is few =
    let small : nat_lt n 39 ≡ true = grind (arith, nat_tests) in
    rw (some, plain, ← is, number-shown n (omega arith), small) refl

count-one : (n : ℕ) → n < 10 → count_spelled (decimal n) ≡ Some n
count-one n h =
    let e = decimal_digit n h in
    ap count_spelled e ∙ counted n ((48 + n) ∷ []) refl refl e (omega arith)

count-two : (n : ℕ) → 10 ≤ n → n < 39 → count_spelled (decimal n) ≡ Some n
count-two n lo hi =
    let e = decimal_two n lo (omega arith) in
    let first : (48 + n / 10 == 48) ≡ false = grind (arith, nat_tests) in
    ap count_spelled e ∙ counted n ((48 + n / 10) ∷ (48 + n % 10) ∷ []) refl first e hi

count-shown : (n : ℕ) → n < 39 → count_spelled (decimal n) ≡ Some n
count-shown n h = elim (apart n 10) [
  | inl lo ↦ count-one n lo
  | inr hi ↦ count-two n hi h
]

-- ---- decimal types

abbrev digits_text : ℕ → ℕ → List ℕ
digits_text p s = decimal p ++ 32 ∷ decimal s

digits-read : (p s : ℕ) → 0 < p → p < 39 → s < 39 → digits_type (digits_text p s) ≡ Some (dtype.Decimal (record { precision = p; scale = pos s }) NonNullable)
digits-read p s least few small =
    let some : nat_lt 0 p ≡ true = grind (arith, nat_tests) in
    let text : List ℕ = digits_text p s in
    ap (option_and_then (λ at. decimal_of (count_spelled (take at text)) (count_spelled (drop (at + 1) text)))) (place-behind 32 (decimal p) (decimal s) (digits-alone p (omega arith)) refl)
    ∙ ap (λ l. decimal_of (count_spelled l) (count_spelled (drop (length (decimal p) + 1) text))) (take-front (decimal p) (32 ∷ decimal s))
    ∙ ap (λ l. decimal_of (count_spelled (decimal p)) (count_spelled l)) (drop-front (decimal p) 32 (decimal s))
    ∙ ap (λ o. decimal_of o (count_spelled (decimal s))) (count-shown p few)
    ∙ ap (decimal_of (Some p)) (count-shown s small)
    ∙ ap (λ b. if b then Some (dtype.Decimal (record { precision = p; scale = pos s }) NonNullable) else None) some

abbrev front_text : ℕ → ℕ → List ℕ
front_text p s = codes "decimal(" ++ digits_text p s

kind-read : (p s : ℕ) → 0 < p → p < 39 → s < 39 → kind_spelled (front_text p s ++ 41 ∷ []) ≡ Some (dtype.Decimal (record { precision = p; scale = pos s }) NonNullable)
kind-read p s least few small = ap (option_and_then digits_type) (last-by (digits_text p s) 41 41 true refl) ∙ digits-read p s least few small

kind-is : (p s : ℕ) (n : Nullability) → kind_text (dtype.Decimal (record { precision = p; scale = pos s }) n) ≡ front_text p s ++ 41 ∷ []
kind-is p s n = ap (λ l. codes "decimal(" ++ (l ++ 41 ∷ [])) (append_assoc (decimal p) (32 ∷ []) (decimal s))

full-read : (p s : ℕ) → 0 < p → p < 39 → s < 39 → type_spelled (type_text (dtype.Decimal (record { precision = p; scale = pos s }) NonNullable)) ≡ Some (dtype.Decimal (record { precision = p; scale = pos s }) NonNullable)
full-read p s least few small =
    let text : List ℕ = front_text p s ++ 41 ∷ [] in
    ap type_spelled (append-nil (kind_text (dtype.Decimal (record { precision = p; scale = pos s }) NonNullable)) ∙ kind-is p s NonNullable)
    ∙ ap (by_mark text) (last-by (front_text p s) 41 63 false refl)
    ∙ kind-read p s least few small

nullable-read : (p s : ℕ) → 0 < p → p < 39 → s < 39 → type_spelled (type_text (dtype.Decimal (record { precision = p; scale = pos s }) Nullable)) ≡ Some (dtype.Decimal (record { precision = p; scale = pos s }) Nullable)
nullable-read p s least few small =
    let text : List ℕ = front_text p s ++ 41 ∷ [] in
    ap (λ l. type_spelled (l ++ 63 ∷ [])) (kind-is p s Nullable)
    ∙ ap (by_mark (text ++ 63 ∷ [])) (last-by text 63 63 true refl)
    ∙ ap (option_map nullable_form) (kind-read p s least few small)

decimal-read : (p s : ℕ) (n : Nullability) → 0 < p → p < 39 → s < 39 → type_spelled (type_text (dtype.Decimal (record { precision = p; scale = pos s }) n)) ≡ Some (dtype.Decimal (record { precision = p; scale = pos s }) n)
decimal-read p s NonNullable = full-read p s
decimal-read p s Nullable = nullable-read p s

-- a count that is told
pub counts : (p : ℕ) → is_count 38 p ≡ true → (0 < p) × (p < 39)
counts p e = let h = both (nat_lt 0 p) (nat_le p 38) e in (grind (arith, nat_tests), grind (arith, nat_tests))

pub least-scale : (s : ℕ) → is_scale (pos s) ≡ true → s < 39
least-scale s e = grind (arith, nat_tests)

pub type-read : TypesAreRead
type-read (dtype.Bool NonNullable) h = refl
type-read (dtype.Bool Nullable) h = refl
type-read (dtype.Utf8 NonNullable) h = refl
type-read (dtype.Utf8 Nullable) h = refl
type-read (dtype.Binary NonNullable) h = refl
type-read (dtype.Binary Nullable) h = refl
type-read (dtype.Primitive U8 NonNullable) h = refl
type-read (dtype.Primitive U8 Nullable) h = refl
type-read (dtype.Primitive U16 NonNullable) h = refl
type-read (dtype.Primitive U16 Nullable) h = refl
type-read (dtype.Primitive U32 NonNullable) h = refl
type-read (dtype.Primitive U32 Nullable) h = refl
type-read (dtype.Primitive U64 NonNullable) h = refl
type-read (dtype.Primitive U64 Nullable) h = refl
type-read (dtype.Primitive I8 NonNullable) h = refl
type-read (dtype.Primitive I8 Nullable) h = refl
type-read (dtype.Primitive I16 NonNullable) h = refl
type-read (dtype.Primitive I16 Nullable) h = refl
type-read (dtype.Primitive I32 NonNullable) h = refl
type-read (dtype.Primitive I32 Nullable) h = refl
type-read (dtype.Primitive I64 NonNullable) h = refl
type-read (dtype.Primitive I64 Nullable) h = refl
type-read (dtype.Decimal d n) h = by-scale d.precision d.scale n h
  where
    by-scale : (p : ℕ) (s : ℤ) (n : Nullability) → IsTrue (is_count 38 p && is_scale s)
        → type_spelled (type_text (dtype.Decimal (record { precision = p; scale = s }) n)) ≡ Some (dtype.Decimal (record { precision = p; scale = s }) n)
    by-scale p (pos s) n h =
        let k = both (is_count 38 p) (is_scale (pos s)) h in
        let few = counts p k.0 in
        decimal-read p s n few.0 few.1 (least-scale s k.1)
    by-scale p (negsuc s) n h = absurd (true≢false (sym (both (is_count 38 p) (is_scale (negsuc s)) h).1))

-- ---- header cells

colon-behind : (front rest : List ℕ) → last_place 58 rest ≡ None → last_place 58 (front ++ 58 ∷ rest) ≡ Some (length front)
unfolding last_place
colon-behind [] rest e = rw e refl
colon-behind (x ∷ front) rest e = rw (colon-behind front rest e) (ap Some (add-one (length front)))

-- no byte is a colon
abbrev spare : List ℕ → Bool
spare xs = list_all (λ x. not (x == 58)) xs

no-colon : (xs : List ℕ) → spare xs ≡ true → last_place 58 xs ≡ None
unfolding last_place
no-colon [] h = refl
no-colon (x ∷ xs) h =
    let k = both (not (x == 58)) (spare xs) h in
    rw (no-colon xs k.1, not-true (x == 58) k.0) refl
  where
    not-true : (b : Bool) → not b ≡ true → b ≡ false
    not-true true e = absurd (true≢false (sym e))
    not-true false e = refl

digits-spare : (xs : List ℕ) → list_all is_ascii_digit xs ≡ true → spare xs ≡ true
digits-spare [] h = refl
digits-spare (x ∷ xs) h =
    let k = both (is_ascii_digit x) (list_all is_ascii_digit xs) h in
    rw (other-digit x 58 k.0 refl) (digits-spare xs k.1)

spare-joined : (xs ys : List ℕ) → spare xs ≡ true → spare ys ≡ true → spare (xs ++ ys) ≡ true
spare-joined xs ys a b = list_all-append (λ x. not (x == 58)) xs ys ∙ ap (λ c. c && spare ys) a ∙ b

mark-spare : (p : ℕ) (s : ℤ) (n : Nullability) → spare (if is_nullable (dtype.Decimal (record { precision = p; scale = s }) n) then codes "?" else []) ≡ true
mark-spare p s NonNullable = refl
mark-spare p s Nullable = refl

decimal-spare : (p s : ℕ) (n : Nullability) → p < 39 → s < 39 → spare (type_text (dtype.Decimal (record { precision = p; scale = pos s }) n)) ≡ true
decimal-spare p s n few small =
    let t : DType = dtype.Decimal (record { precision = p; scale = pos s }) n in
    let front : spare (decimal p) ≡ true = digits-spare (decimal p) (digits-alone p (omega arith)) in
    let behind : spare (32 ∷ decimal s) ≡ true = digits-spare (decimal s) (digits-alone s (omega arith)) in
    let digits : spare (digits_text p s) ≡ true = spare-joined (decimal p) (32 ∷ decimal s) front behind in
    let kind : spare (kind_text t) ≡ true = ap spare (kind-is p s n) ∙ spare-joined (digits_text p s) (41 ∷ []) digits refl in
    spare-joined (kind_text t) (if is_nullable t then codes "?" else []) kind (mark-spare p (pos s) n)

type-spare : (t : DType) → IsTrue (has_name t) → spare (type_text t) ≡ true
type-spare (dtype.Bool NonNullable) h = refl
type-spare (dtype.Bool Nullable) h = refl
type-spare (dtype.Utf8 NonNullable) h = refl
type-spare (dtype.Utf8 Nullable) h = refl
type-spare (dtype.Binary NonNullable) h = refl
type-spare (dtype.Binary Nullable) h = refl
type-spare (dtype.Primitive U8 NonNullable) h = refl
type-spare (dtype.Primitive U8 Nullable) h = refl
type-spare (dtype.Primitive U16 NonNullable) h = refl
type-spare (dtype.Primitive U16 Nullable) h = refl
type-spare (dtype.Primitive U32 NonNullable) h = refl
type-spare (dtype.Primitive U32 Nullable) h = refl
type-spare (dtype.Primitive U64 NonNullable) h = refl
type-spare (dtype.Primitive U64 Nullable) h = refl
type-spare (dtype.Primitive I8 NonNullable) h = refl
type-spare (dtype.Primitive I8 Nullable) h = refl
type-spare (dtype.Primitive I16 NonNullable) h = refl
type-spare (dtype.Primitive I16 Nullable) h = refl
type-spare (dtype.Primitive I32 NonNullable) h = refl
type-spare (dtype.Primitive I32 Nullable) h = refl
type-spare (dtype.Primitive I64 NonNullable) h = refl
type-spare (dtype.Primitive I64 Nullable) h = refl
type-spare (dtype.Decimal d n) h = by-scale d.precision d.scale n h
  where
    by-scale : (p : ℕ) (s : ℤ) (n : Nullability) → IsTrue (is_count 38 p && is_scale s) → spare (type_text (dtype.Decimal (record { precision = p; scale = s }) n)) ≡ true
    by-scale p (pos s) n h =
        let k = both (is_count 38 p) (is_scale (pos s)) h in
        decimal-spare p s n (counts p k.0).1 (least-scale s k.1)
    by-scale p (negsuc s) n h = absurd (true≢false (sym (both (is_count 38 p) (is_scale (negsuc s)) h).1))

name-read : (name : List ℕ) → 0 < length name → is_utf8 name ≡ true → name_spelled name ≡ Some name
name-read [] some e = absurd (omega arith)
name-read (b ∷ rest) some e = ap (λ t. if t then Some (b ∷ rest) else None) e

pub header-read : HeadersAreRead
header-read column some utf8 named =
    let text : List ℕ = type_text column.dtype in
    let cell : List ℕ = column.name ++ 58 ∷ text in
    ap column_spelled (append_assoc column.name (58 ∷ []) text)
    ∙ ap (option_and_then (λ at. column_of (name_spelled (take at cell)) (type_spelled (drop (at + 1) cell)))) (colon-behind column.name text (no-colon text (type-spare column.dtype named)))
    ∙ ap (λ l. column_of (name_spelled l) (type_spelled (drop (length column.name + 1) cell))) (take-front column.name (58 ∷ text))
    ∙ ap (λ l. column_of (name_spelled column.name) (type_spelled l)) (drop-front column.name 58 text)
    ∙ ap (λ o. column_of o (type_spelled text)) (name-read column.name some utf8)
    ∙ ap (column_of (Some column.name)) (type-read column.dtype named)
