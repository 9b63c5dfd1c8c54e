use Rattle.std.proofs.Common.{◌≡◌, false, not, sym, true, refl, ap, ◌∙◌, [], ◌∷◌, length, w32}
use Rattle.std.proofs.lemmas.Int.{to_z-of_z}
use Rattle.vortex_array_types.specs.declared.types.DType.TheVariants as dtype
use Rattle.vortex_array_types.specs.declared.types.Nullability.TheVariants.{NonNullable}
use Rattle.vortex_array.specs.ColumnOf.{column_of}
use Rattle.vortex_array_children.specs.Children.{stands_for, width_of_number}
use Rattle.vortex_array_children.proofs.Forms.{stands-form, stands-long}
use Rattle.vortex_decimal_byte_parts.specs.Serialized.{is_unsigned_number}
use Rattle.vortex_decimal_byte_parts.proofs.PartColumns.{two-parts}
use Rattle.vortex_decimal_byte_parts.proofs.ReadParts.{lower-kind, msp-kind, signed-width, two-lower-type, two-read, two-told}
use Rattle.vortex_decimal_byte_parts.proofs.Told.{by-missed, by-not}
use Rattle.vortex_decimal_byte_parts.proofs.reading.read_children.Goals as goal

pub returns-in_default-unsigned_numbered-clause-err : goal.returns-in_default-unsigned_numbered-clause-err
returns-in_default-unsigned_numbered-clause-err c =
    let a = c.args in
    let unknown : is_unsigned_number a.lower ≡ false = ap is_unsigned_number (sym (to_z-of_z w32 a.lower c.ranges.lower)) ∙ sym c.in_default-unsigned_numbered.ensures.known in
    two-lower-type a.nulls a.len a.msp a.lower (a.first ∷ a.second ∷ []) a.first a.second refl
    (signed-width a.msp c.in-Some.width (ap width_of_number (sym (to_z-of_z w32 a.msp c.ranges.msp)) ∙ c.in-Some.ensures.width.0) c.in-Some.ensures.width.1) unknown

pub returns-then-not-stands_for-clause-err : goal.returns-then-not-stands_for-clause-err
returns-then-not-stands_for-clause-err c =
    let a = c.args in
    let w = c.in-Some.width in
    let v = c.in-Some-unsigned_numbered.lower_width in
    let missed : not c.stands_for.result ≡ true = cc in
    two-told a.nulls a.len a.msp a.lower w v (a.first ∷ a.second ∷ []) a.first a.second false (stands_for (dtype.Primitive v NonNullable) a.len a.second) refl
    (ap width_of_number (sym (to_z-of_z w32 a.msp c.ranges.msp)) ∙ c.in-Some.ensures.width.0) c.in-Some.ensures.width.1 (ap width_of_number (sym (to_z-of_z w32 a.lower c.ranges.lower)) ∙ c.in-Some-unsigned_numbered.ensures.width.0) c.in-Some-unsigned_numbered.ensures.width.1
    (by-missed c.stands_for.result (stands_for (dtype.Primitive w a.nulls) a.len a.first) c.stands_for.ensures missed) refl

pub returns-then-not-stands_for-2-clause-err : goal.returns-then-not-stands_for-2-clause-err
returns-then-not-stands_for-2-clause-err c =
    let a = c.args in
    let w = c.in-Some.width in
    let v = c.in-Some-unsigned_numbered.lower_width in
    let found : not c.stands_for.result ≡ false = cc in
    let missed : not c.stands_for-2.result ≡ true = cc in
    two-told a.nulls a.len a.msp a.lower w v (a.first ∷ a.second ∷ []) a.first a.second true false refl
    (ap width_of_number (sym (to_z-of_z w32 a.msp c.ranges.msp)) ∙ c.in-Some.ensures.width.0) c.in-Some.ensures.width.1 (ap width_of_number (sym (to_z-of_z w32 a.lower c.ranges.lower)) ∙ c.in-Some-unsigned_numbered.ensures.width.0) c.in-Some-unsigned_numbered.ensures.width.1
    (by-not c.stands_for.result (stands_for (dtype.Primitive w a.nulls) a.len a.first) c.stands_for.ensures found)
    (by-missed c.stands_for-2.result (stands_for (dtype.Primitive v NonNullable) a.len a.second) c.stands_for-2.ensures missed)

pub relabelled-part-requires : goal.relabelled-part-requires
relabelled-part-requires c =
    let a = c.args in
    let w = c.in-Some.width in
    let found : not c.stands_for.result ≡ false = cc in
    stands-form (dtype.Primitive w a.nulls) a.len a.first (by-not c.stands_for.result (stands_for (dtype.Primitive w a.nulls) a.len a.first) c.stands_for.ensures found)

pub relabelled-other-requires : goal.relabelled-other-requires
relabelled-other-requires c =
    let a = c.args in
    let v = c.in-Some-unsigned_numbered.lower_width in
    let found : not c.stands_for-2.result ≡ false = cc in
    stands-form (dtype.Primitive v NonNullable) a.len a.second (by-not c.stands_for-2.result (stands_for (dtype.Primitive v NonNullable) a.len a.second) c.stands_for-2.ensures found)

pub new-requires : goal.new-requires
new-requires c =
    let a = c.args in
    let w = c.in-Some.width in
    let v = c.in-Some-unsigned_numbered.lower_width in
    let found : not c.stands_for.result ≡ false = cc in
    let other : not c.stands_for-2.result ≡ false = cc in
    let first_long : length (column_of a.first).rows ≡ a.len =
    stands-long (dtype.Primitive w a.nulls) a.len a.first (by-not c.stands_for.result (stands_for (dtype.Primitive w a.nulls) a.len a.first) c.stands_for.ensures found) in
    let second_long : length (column_of a.second).rows ≡ a.len =
    stands-long (dtype.Primitive v NonNullable) a.len a.second (by-not c.stands_for-2.result (stands_for (dtype.Primitive v NonNullable) a.len a.second) c.stands_for-2.ensures other) in
    two-parts c.relabelled-part.result c.relabelled-other.result a.digits
    (msp-kind (column_of c.relabelled-part.result).dtype w a.nulls c.relabelled-part.ensures.dtype c.in-Some.ensures.width.1)
    (lower-kind (column_of c.relabelled-other.result).dtype v c.relabelled-other.ensures.dtype c.in-Some-unsigned_numbered.ensures.width.1)
    (ap length c.relabelled-part.ensures.same.rows ∙ first_long ∙ sym second_long ∙ sym (ap length c.relabelled-other.ensures.same.rows))

pub returns-clause-ok : goal.returns-clause-ok
returns-clause-ok c =
    let a = c.args in
    let w = c.in-Some.width in
    let v = c.in-Some-unsigned_numbered.lower_width in
    let found : not c.stands_for.result ≡ false = cc in
    let other : not c.stands_for-2.result ≡ false = cc in
    two-read a.digits a.nulls a.len a.msp a.lower w v (a.first ∷ a.second ∷ []) a.first a.second c.relabelled-part.result c.relabelled-other.result c.new.result refl
    (ap width_of_number (sym (to_z-of_z w32 a.msp c.ranges.msp)) ∙ c.in-Some.ensures.width.0) (ap width_of_number (sym (to_z-of_z w32 a.lower c.ranges.lower)) ∙ c.in-Some-unsigned_numbered.ensures.width.0)
    (by-not c.stands_for.result (stands_for (dtype.Primitive w a.nulls) a.len a.first) c.stands_for.ensures found)
    (by-not c.stands_for-2.result (stands_for (dtype.Primitive v NonNullable) a.len a.second) c.stands_for-2.ensures other)
    c.relabelled-part.ensures.dtype c.relabelled-other.ensures.dtype c.relabelled-part.ensures.same c.relabelled-other.ensures.same c.new.ensures

pub returns-clause-right : goal.returns-clause-right
returns-clause-right c =
    let a = c.args in
    let w = c.in-Some.width in
    let v = c.in-Some-unsigned_numbered.lower_width in
    let found : not c.stands_for.result ≡ false = cc in
    let other : not c.stands_for-2.result ≡ false = cc in
    two-told a.nulls a.len a.msp a.lower w v (a.first ∷ a.second ∷ []) a.first a.second true true refl
    (ap width_of_number (sym (to_z-of_z w32 a.msp c.ranges.msp)) ∙ c.in-Some.ensures.width.0) c.in-Some.ensures.width.1 (ap width_of_number (sym (to_z-of_z w32 a.lower c.ranges.lower)) ∙ c.in-Some-unsigned_numbered.ensures.width.0) c.in-Some-unsigned_numbered.ensures.width.1
    (by-not c.stands_for.result (stands_for (dtype.Primitive w a.nulls) a.len a.first) c.stands_for.ensures found)
    (by-not c.stands_for-2.result (stands_for (dtype.Primitive v NonNullable) a.len a.second) c.stands_for-2.ensures other)
