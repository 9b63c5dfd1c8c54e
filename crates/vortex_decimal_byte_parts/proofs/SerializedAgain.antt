-- Parts that are written, and read again.
use Rattle.std.proofs.Common.{ℕ, ◌≡◌, ◌<◌, ◌≤◌, ◌^◌, Bool, true, false, not, List, [], ◌∷◌, ◌++◌, length, refl, sym, ap, subst, ◌∙◌, arith, rules, lit<, Option, Some, None}
use Rattle.std.specs.Prelude.{pos, IsTrue, FitsSigned, option_to_list}
use Rattle.std.specs.Int.{w32}
use Rattle.std.specs.List.{AllZip}
use Rattle.std.proofs.lemmas.List.{append-nil}
use Rattle.vortex_array_types.specs.Digits.{Digits}
use Rattle.vortex_array_types.specs.Row.{nullability}
use Rattle.vortex_array_types.specs.Typed.{width_number}
use Rattle.vortex_array_types.specs.Widths.{has_no_sign}
use Rattle.vortex_array_types.specs.declared.types.DType.{DType}
use Rattle.vortex_array_types.specs.declared.types.DType.TheVariants as dtype
use Rattle.vortex_array_types.specs.declared.types.Nullability.{Nullability}
use Rattle.vortex_array_types.specs.declared.types.Nullability.TheVariants.{NonNullable, Nullable}
use Rattle.vortex_array_types.specs.declared.types.PType.{PType}
use Rattle.vortex_array_types.specs.declared.types.PType.TheVariants.{U8, U16, U32, U64, I8, I16, I32, I64}
use Rattle.vortex_array.specs.declared.arrays.Array.{Array}
use Rattle.vortex_array.specs.ColumnOf.{column_of}
use Rattle.vortex_array_children.specs.Children.{IsRelabelled, stands_for, type_number, width_of_number}
use Rattle.vortex_array_children.proofs.Forms.{form-same, form-self, same-kind, stands-own}
use Rattle.vortex_array_children.proofs.Numbered.{width-back}
use Rattle.vortex_wire.specs.Canonical.{run_of, shortest}
use Rattle.vortex_wire.specs.Messages.{Integer, Several, Whole}
use Rattle.vortex_wire.specs.Tables.{v1_rows, v2_rows}
use Rattle.vortex_wire.proofs.Canonical.{v1_spells, v2_spells}
use Rattle.vortex_wire.proofs.Unique.{one_message}
use Rattle.vortex_wire.proofs.Written.{shortest_spells}
use Rattle.vortex_decimal_byte_parts.specs.Checked.{are_parts, is_lower_type, is_msp_type}
use Rattle.vortex_decimal_byte_parts.specs.Columns.{Parts, parts_column}
use Rattle.vortex_decimal_byte_parts.specs.Serialized.{RefusesSerialized, Tells, PartTypes, V1, V2, children_of, id_of, metadata_of, part_number, refused_told, v1_id, v2_id}
use Rattle.vortex_decimal_byte_parts.specs.declared.errors.SerdeError.{SerdeError}
use Rattle.vortex_decimal_byte_parts.specs.declared.errors.SerdeError.TheVariants.{UnknownId, BadMetadata, NotDecimal, LowerCount, ChildCount, BadType, ChildMismatch, OutOfMemory}
use Rattle.vortex_decimal_byte_parts.proofs.MadeParts.{lower-full}
use Rattle.vortex_decimal_byte_parts.proofs.PartColumns.{lower-long, lower-typed, msp-typed, parts_of}
use Rattle.vortex_decimal_byte_parts.proofs.ReadParts.{one-right, two-told}
use Rattle.vortex_decimal_byte_parts.proofs.ReadTold.{ids-differ}

-- the number of a width has 32 bits
width_fits : (w : PType) → FitsSigned w32 (pos (width_number w))
width_fits U8 = search rules
width_fits U16 = search rules
width_fits U32 = search rules
width_fits U64 = search rules
width_fits I8 = search rules
width_fits I16 = search rules
width_fits I32 = search rules
width_fits I64 = search rules

number_fits : (t : DType) → FitsSigned w32 (type_number t)
number_fits (dtype.Primitive w k) = width_fits w
number_fits (dtype.Bool k) = width_fits U8
number_fits (dtype.Decimal d k) = width_fits U8
number_fits (dtype.Utf8 k) = width_fits U8
number_fits (dtype.Binary k) = width_fits U8

width_short : (w : PType) → width_number w < 2 ^ 64
width_short U8 = lit< tt
width_short U16 = lit< tt
width_short U32 = lit< tt
width_short U64 = lit< tt
width_short I8 = lit< tt
width_short I16 = lit< tt
width_short I32 = lit< tt
width_short I64 = lit< tt

one_short : (n : ℕ) → n < 2 ^ 64 → length (run_of (pos n ∷ [])) < 2 ^ 64
one_short n h =
    let short : length (shortest n) ≤ 10 = (shortest_spells n h).short in
    let whole : length (shortest n ++ []) ≡ length (shortest n) = ap length (append-nil (shortest n)) in
    omega (arith, short, whole)

part_short : (t : DType) → length (run_of (type_number t ∷ [])) < 2 ^ 64
part_short (dtype.Primitive w k) = one_short (width_number w) (width_short w)
part_short (dtype.Bool k) = one_short 0 (lit< tt)
part_short (dtype.Decimal d k) = one_short 0 (lit< tt)
part_short (dtype.Utf8 k) = one_short 0 (lit< tt)
part_short (dtype.Binary k) = one_short 0 (lit< tt)

-- what the metadata of parts tells
abbrev pub told_of : Array → Option Array → PartTypes
told_of m None = V1 (part_number m) 0
told_of m (Some l) = V2 (part_number m) (part_number l ∷ [])

pub tells : (m : Array) (o : Option Array) → Tells (id_of o) (metadata_of m o) (told_of m o)
tells m None = (refl, v1_spells (part_number m) 0 (number_fits (column_of m).dtype) (lit< tt))
tells m (Some l) = (refl, v2_spells (part_number m) (part_number l ∷ []) (number_fits (column_of m).dtype) (number_fits (column_of l).dtype, tt) (part_short (column_of l).dtype))

-- and nothing else
pub told-only : (m : Array) (o : Option Array) (told : PartTypes) → Tells (id_of o) (metadata_of m o) told → told ≡ told_of m o
told-only m None (V1 msp count) t =
    let e = one_message v1_rows (metadata_of m None) (Integer msp ∷ Whole count ∷ []) (Integer (part_number m) ∷ Whole 0 ∷ []) t.1 (tells m None).1 in
    cc
told-only m None (V2 msp lowers) t = absurd (ids-differ t.0)
told-only m (Some l) (V1 msp count) t = absurd (ids-differ (sym t.0))
told-only m (Some l) (V2 msp lowers) t =
    let e = one_message v2_rows (metadata_of m (Some l)) (Integer msp ∷ Several lowers ∷ []) (Integer (part_number m) ∷ Several (part_number l ∷ []) ∷ []) t.1 (tells m (Some l)).1 in
    cc

-- the type of a part
record IsMsp (t : DType) : Type 0 where
  width : PType
  nulls : Nullability
  is : t ≡ dtype.Primitive width nulls
  signed : has_no_sign width ≡ false

not_true : (b : Bool) → IsTrue (not b) → b ≡ false
not_true true h = absurd (cc h)
not_true false h = refl

msp_type : (t : DType) → IsTrue (is_msp_type t) → IsMsp t
msp_type (dtype.Primitive w k) h = record { width = w; nulls = k; is = refl; signed = not_true (has_no_sign w) h }
msp_type (dtype.Bool k) h = absurd (cc h)
msp_type (dtype.Decimal d k) h = absurd (cc h)
msp_type (dtype.Utf8 k) h = absurd (cc h)
msp_type (dtype.Binary k) h = absurd (cc h)

record IsLower (t : DType) : Type 0 where
  width : PType
  is : t ≡ dtype.Primitive width NonNullable
  unsigned : has_no_sign width ≡ true

lower_type : (t : DType) → IsTrue (is_lower_type t) → IsLower t
lower_type (dtype.Primitive w NonNullable) h = record { width = w; is = refl; unsigned = h }
lower_type (dtype.Primitive w Nullable) h = absurd (cc h)
lower_type (dtype.Bool k) h = absurd (cc h)
lower_type (dtype.Decimal d k) h = absurd (cc h)
lower_type (dtype.Utf8 k) h = absurd (cc h)
lower_type (dtype.Binary k) h = absurd (cc h)

-- a part stands for its own type
stands : (a : Array) (n : ℕ) (t : DType) → (column_of a).dtype ≡ t → length (column_of a).rows ≡ n → stands_for t n a ≡ true
stands a n t e long = stands-own t n a long (rw (sym e) (form-self (column_of a).dtype))

width_told : (t : DType) (w : PType) (k : Nullability) → t ≡ dtype.Primitive w k → width_of_number (type_number t) ≡ Some w
width_told t w k e = ap (λ u. width_of_number (type_number u)) e ∙ width-back w

right_by : (p : Parts) (n : ℕ) (o : Option Array) → o ≡ p.lower → IsTrue (are_parts p) → length (column_of p.msp).rows ≡ n → refused_told (parts_column p).dtype n (children_of p) (told_of p.msp o) ≡ None
right_by p n None e h long =
    let m = msp_type (column_of p.msp).dtype (msp-typed p h) in
    rw (sym e) (one-right (nullability (column_of p.msp).dtype) n (part_number p.msp) m.width (p.msp ∷ []) p.msp refl (width_told (column_of p.msp).dtype m.width m.nulls m.is) m.signed
    (stands p.msp n (dtype.Primitive m.width (nullability (column_of p.msp).dtype)) (m.is ∙ ap (λ t. dtype.Primitive m.width (nullability t)) (sym m.is)) long))
right_by p n (Some l) e h long =
    let m = msp_type (column_of p.msp).dtype (msp-typed p h) in
    let k = lower_type (column_of l).dtype (lower-typed p l h e) in
    rw (sym e) (two-told (nullability (column_of p.msp).dtype) n (part_number p.msp) (part_number l) m.width k.width (p.msp ∷ l ∷ []) p.msp l true true refl
    (width_told (column_of p.msp).dtype m.width m.nulls m.is) m.signed (width_told (column_of l).dtype k.width NonNullable k.is) k.unsigned
    (stands p.msp n (dtype.Primitive m.width (nullability (column_of p.msp).dtype)) (m.is ∙ ap (λ t. dtype.Primitive m.width (nullability t)) (sym m.is)) long)
    (stands l n (dtype.Primitive k.width NonNullable) k.is (sym (lower-long p l h e) ∙ long)))

-- what is told of parts is not refused with them
pub told-right : (p : Parts) (n : ℕ) → IsTrue (are_parts p) → length (column_of p.msp).rows ≡ n → refused_told (parts_column p).dtype n (children_of p) (told_of p.msp p.lower) ≡ None
told-right p n h long = right_by p n p.lower refl h long

told_cause : (p : Parts) (n : ℕ) (e : SerdeError) → IsTrue (are_parts p) → length (column_of p.msp).rows ≡ n → (told : PartTypes) → Tells (id_of p.lower) (metadata_of p.msp p.lower) told → refused_told (parts_column p).dtype n (children_of p) told ≡ Some e → ⊥
told_cause p n e h long told t c = absurd (cc (sym c ∙ ap (refused_told (parts_column p).dtype n (children_of p)) (told-only p.msp p.lower told t) ∙ told-right p n h long))

known_id : (o : Option Array) → (id_of o ≡ v1_id → ⊥) → (id_of o ≡ v2_id → ⊥) → ⊥
known_id None f g = f refl
known_id (Some l) f g = g refl

memory_alone : (p : Parts) (n : ℕ) (cause : SerdeError) → IsTrue (are_parts p) → length (column_of p.msp).rows ≡ n → RefusesSerialized (id_of p.lower) (parts_column p).dtype n (metadata_of p.msp p.lower) (children_of p) cause → cause ≡ OutOfMemory
memory_alone p n UnknownId h long r = absurd (known_id p.lower r.0 r.1)
memory_alone p n BadMetadata h long r = absurd (r.1 (told_of p.msp p.lower) (tells p.msp p.lower))
memory_alone p n NotDecimal h long r = absurd (told_cause p n NotDecimal h long r.0 r.1 r.2)
memory_alone p n LowerCount h long r = absurd (told_cause p n LowerCount h long r.0 r.1 r.2)
memory_alone p n ChildCount h long r = absurd (told_cause p n ChildCount h long r.0 r.1 r.2)
memory_alone p n (BadType part) h long r = absurd (told_cause p n (BadType part) h long r.0 r.1 r.2)
memory_alone p n (ChildMismatch child) h long r = absurd (told_cause p n (ChildMismatch child) h long r.0 r.1 r.2)
memory_alone p n OutOfMemory h long r = refl

-- so nothing is refused but for want of memory
pub never-refused : (p : Parts) (n : ℕ) (id metadata : List ℕ) (cs : List Array) (t : DType) (cause : SerdeError) → IsTrue (are_parts p) → length (column_of p.msp).rows ≡ n → id ≡ id_of p.lower → metadata ≡ metadata_of p.msp p.lower → cs ≡ children_of p → t ≡ (parts_column p).dtype
    → RefusesSerialized id t n metadata cs cause → cause ≡ OutOfMemory
never-refused p n id metadata cs t cause h long is bytes children type r =
    let a : RefusesSerialized (id_of p.lower) t n metadata cs cause = subst (λ (x : List ℕ). RefusesSerialized x t n metadata cs cause) is r in
    let b : RefusesSerialized (id_of p.lower) (parts_column p).dtype n metadata cs cause = subst (λ (x : DType). RefusesSerialized (id_of p.lower) x n metadata cs cause) type a in
    let c : RefusesSerialized (id_of p.lower) (parts_column p).dtype n (metadata_of p.msp p.lower) cs cause = subst (λ (x : List ℕ). RefusesSerialized (id_of p.lower) (parts_column p).dtype n x cs cause) bytes b in
    memory_alone p n cause h long (subst (λ (x : List Array). RefusesSerialized (id_of p.lower) (parts_column p).dtype n (metadata_of p.msp p.lower) x cause) children c)

-- an array that is relabelled with the same nulls is as it was
same_array : (a b : Array) → IsRelabelled a b → nullability (column_of a).dtype ≡ nullability (column_of b).dtype → b ≡ a
same_array a b same n = same.kept (same-kind (column_of a).dtype (column_of b).dtype (form-same (column_of a).dtype (column_of b).dtype same.form) n)

-- decimals of one type have one count of digits, and parts with the same nulls
record OneType (p q : Parts) : Type 0 where
  digits : q.digits ≡ p.digits
  nulls : nullability (column_of p.msp).dtype ≡ nullability (column_of q.msp).dtype

one_type : (p q : Parts) (d e : Digits) (k n : Nullability) → dtype.Decimal e n ≡ dtype.Decimal d k → d ≡ p.digits → e ≡ q.digits → k ≡ nullability (column_of p.msp).dtype → n ≡ nullability (column_of q.msp).dtype → OneType p q
one_type p q d e k n same a b f g = record { digits = cc; nulls = cc }

same_by : (p q : Parts) (o r : Option Array) → o ≡ p.lower → r ≡ q.lower → IsTrue (are_parts p) → IsTrue (are_parts q) → OneType p q → AllZip IsRelabelled (p.msp ∷ option_to_list o) (q.msp ∷ option_to_list r) → q ≡ p
same_by p q None None e f h k t z =
    ap (λ m. parts_of m q.lower q.digits) (same_array p.msp q.msp z.0 t.nulls)
    ∙ ap (λ l. parts_of p.msp l q.digits) (sym f ∙ e)
    ∙ ap (parts_of p.msp p.lower) t.digits
same_by p q None (Some l) e f h k t z = absurd z.1
same_by p q (Some l) None e f h k t z = absurd z.1
same_by p q (Some a) (Some b) e f h k t z =
    let nulls : nullability (column_of a).dtype ≡ nullability (column_of b).dtype =
    lower-full (column_of a).dtype (lower-typed p a h e) ∙ sym (lower-full (column_of b).dtype (lower-typed q b k f)) in
    ap (λ m. parts_of m q.lower q.digits) (same_array p.msp q.msp z.0 t.nulls)
    ∙ ap (λ l. parts_of p.msp l q.digits) (sym f ∙ ap (λ l. Some l) (same_array a b z.1.0 nulls) ∙ e)
    ∙ ap (parts_of p.msp p.lower) t.digits

-- parts that are read of what parts were written as are the same
pub same-parts : (p q : Parts) → IsTrue (are_parts p) → IsTrue (are_parts q) → (parts_column q).dtype ≡ (parts_column p).dtype → AllZip IsRelabelled (children_of p) (children_of q) → q ≡ p
same-parts p q h k t z =
    same_by p q p.lower q.lower refl refl h k
    (one_type p q p.digits q.digits (nullability (column_of p.msp).dtype) (nullability (column_of q.msp).dtype) t refl refl refl refl) z
