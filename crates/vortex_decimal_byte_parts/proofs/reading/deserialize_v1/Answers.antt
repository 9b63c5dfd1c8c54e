use Rattle.std.proofs.Common.{◌≡◌, ◌==◌, None, Some, refl, ap, []}
use Rattle.std.proofs.lemmas.Bool.Decides.{Decides-eqb}
use Rattle.vortex_array_types.specs.declared.types.DType.TheVariants as dtype
use Rattle.vortex_decimal_byte_parts.specs.Serialized.{AreParts, IsDeserialized, IsOfChildren, RefusesSerialized, V1, refused_children, v1_id}
use Rattle.vortex_decimal_byte_parts.proofs.KeptNumbers.{kept, kept-v1}
use Rattle.vortex_decimal_byte_parts.proofs.ReadTold.{bad-v1, lower-count, not-decimal, other-type, read-told, refused-children}
use Rattle.vortex_decimal_byte_parts.proofs.Told.{by-never, err-both, ok-both}
use Rattle.vortex_decimal_byte_parts.proofs.reading.deserialize_v1.Goals as goal

pub returns-in_default-clause-err : goal.returns-in_default-clause-err
returns-in_default-clause-err c = bad-v1 c.args.dtype.now c.args.len c.args.metadata.now c.args.children.items c.in_default.ensures.bad

pub returns-in_default-dtype : goal.returns-in_default-dtype
returns-in_default-dtype c =
    let m = c.in-Ok.message in
    record {
      ok = tt;
      err = not-decimal v1_id c.args.dtype.now c.args.len c.args.metadata.now (V1 m.zeroth_child_ptype m.lower_part_count) c.args.children.items (refl, c.in-Ok.ensures.found) (other-type c.args.dtype.now c.in_default-dtype.not-Decimal);
    }

pub returns-then-message-ne0-clause-err : goal.returns-then-message-ne0-clause-err
returns-then-message-ne0-clause-err c =
    let m = c.in-Ok.message in
    lower-count v1_id c.args.dtype.now c.in-Decimal.digits c.in-Decimal.nulls c.args.len c.args.metadata.now (V1 m.zeroth_child_ptype m.lower_part_count) c.args.children.items c.in-Decimal.is (refl, c.in-Ok.ensures.found)
    (by-never (m.lower_part_count == 0) (λ h. c.if-message-ne0.true ((Decides-eqb m.lower_part_count 0).0 h)))

pub returns-clause-ok : goal.returns-clause-ok
returns-clause-ok c =
    let m = c.in-Ok.message in
    let z = kept m.zeroth_child_ptype in
    let t = c.args.dtype.now in
    let d = c.in-Decimal.digits in
    let k = c.in-Decimal.nulls in
    let n = c.args.len in
    let bytes = c.args.metadata.now in
    let cs = c.args.children.items in
    ok-both (AreParts (dtype.Decimal d k) n z [] cs) (λ _. refused_children k n z [] cs ≡ None) (IsDeserialized v1_id t n bytes cs) c.read_msp.result
    (λ p made right. read-told v1_id t d k n bytes (V1 z m.lower_part_count) cs p c.in-Decimal.is (refl, kept-v1 bytes m.zeroth_child_ptype m.lower_part_count c.in-Ok.ensures.found) (ap (λ count. count == 0) c.if-message-ne0.false) right made)
    c.read_msp.ensures.ok c.read_msp.ensures.right

pub returns-clause-err : goal.returns-clause-err
returns-clause-err c =
    let m = c.in-Ok.message in
    let z = kept m.zeroth_child_ptype in
    let t = c.args.dtype.now in
    let d = c.in-Decimal.digits in
    let k = c.in-Decimal.nulls in
    let n = c.args.len in
    let bytes = c.args.metadata.now in
    let cs = c.args.children.items in
    err-both (λ e. refused_children k n z [] cs ≡ Some e) IsOfChildren (RefusesSerialized v1_id t n bytes cs) c.read_msp.result
    (λ e r of. refused-children v1_id t d k n bytes (V1 z m.lower_part_count) cs e c.in-Decimal.is (refl, kept-v1 bytes m.zeroth_child_ptype m.lower_part_count c.in-Ok.ensures.found) (ap (λ count. count == 0) c.if-message-ne0.false) r of)
    c.read_msp.ensures.err c.read_msp.ensures.cause
