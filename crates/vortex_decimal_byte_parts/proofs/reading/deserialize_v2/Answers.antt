use Rattle.std.proofs.Common.{◌≡◌, ◌≤◌, pos, Err, None, Some, sym, refl, ap, arith, get_or, length, [], ◌∷◌}
use Rattle.std.specs.Prelude.{nat_le}
use Rattle.std.proofs.lemmas.Bool.{leb-true}
use Rattle.vortex_array_types.specs.declared.types.DType.TheVariants as dtype
use Rattle.vortex_decimal_byte_parts.specs.Serialized.{AreParts, IsDeserialized, IsOfChildren, RefusesSerialized, V2, refused_children, v2_id}
use Rattle.vortex_decimal_byte_parts.proofs.KeptNumbers.{kept, kept-none, kept-one}
use Rattle.vortex_decimal_byte_parts.proofs.Told.{by-never, err-both, ok-both}
use Rattle.vortex_decimal_byte_parts.proofs.ReadTold.{bad-v2, lower-count, memory-v2, not-decimal, other-type, read-told, refused-children}
use Rattle.vortex_decimal_byte_parts.proofs.reading.deserialize_v2.Goals as goal

pub returns-in-Err-BadMetadata-clause-err : goal.returns-in-Err-BadMetadata-clause-err
returns-in-Err-BadMetadata-clause-err c = bad-v2 c.args.dtype.now c.args.len c.args.metadata.now c.args.children.items (c.in-Err-BadMetadata.ensures.bad (ap (λ e. Err e) c.in-Err-BadMetadata.field-0-is))

pub returns-in-Err-OutOfMemory-clause-err : goal.returns-in-Err-OutOfMemory-clause-err
returns-in-Err-OutOfMemory-clause-err c =
    let found = c.in-Err-OutOfMemory.ensures.memory (ap (λ e. Err e) c.in-Err-OutOfMemory.field-0-is) in
    memory-v2 c.args.dtype.now c.args.len c.args.metadata.now c.args.children.items found.0 found.1

pub returns-in_default : goal.returns-in_default
returns-in_default c =
    let m = c.in-Ok.message in
    record {
      ok = tt;
      err = not-decimal v2_id c.args.dtype.now c.args.len c.args.metadata.now (V2 m.msp_ptype m.lower_part_ptypes) c.args.children.items (refl, c.in-Ok.ensures.found) (other-type c.args.dtype.now c.in_default.not-Decimal);
    }

pub returns-in-empty-clause-ok : goal.returns-in-empty-clause-ok
returns-in-empty-clause-ok c =
    let m = c.in-Ok.message in
    let z = kept m.msp_ptype in
    let t = c.args.dtype.now in
    let d = c.in-Decimal.digits in
    let k = c.in-Decimal.nulls in
    let n = c.args.len in
    let bytes = c.args.metadata.now in
    let cs = c.args.children.items in
    let tells = kept-none bytes m.msp_ptype m.lower_part_ptypes c.as_slice.result.now c.as_slice.ensures c.in-empty.len_below c.in-Ok.ensures.found in
    ok-both (AreParts (dtype.Decimal d k) n z [] cs) (λ _. refused_children k n z [] cs ≡ None) (IsDeserialized v2_id t n bytes cs) c.read_msp.result
    (λ p made right. read-told v2_id t d k n bytes (V2 z []) cs p c.in-Decimal.is (refl, tells) refl right made)
    c.read_msp.ensures.ok c.read_msp.ensures.right

pub returns-in-empty-clause-err : goal.returns-in-empty-clause-err
returns-in-empty-clause-err c =
    let m = c.in-Ok.message in
    let z = kept m.msp_ptype in
    let t = c.args.dtype.now in
    let d = c.in-Decimal.digits in
    let k = c.in-Decimal.nulls in
    let n = c.args.len in
    let bytes = c.args.metadata.now in
    let cs = c.args.children.items in
    let tells = kept-none bytes m.msp_ptype m.lower_part_ptypes c.as_slice.result.now c.as_slice.ensures c.in-empty.len_below c.in-Ok.ensures.found in
    err-both (λ e. refused_children k n z [] cs ≡ Some e) IsOfChildren (RefusesSerialized v2_id t n bytes cs) c.read_msp.result
    (λ e r of. refused-children v2_id t d k n bytes (V2 z []) cs e c.in-Decimal.is (refl, tells) refl r of)
    c.read_msp.ensures.err c.read_msp.ensures.cause

pub returns-in-len1-clause-ok : goal.returns-in-len1-clause-ok
returns-in-len1-clause-ok c =
    let m = c.in-Ok.message in
    let z = kept m.msp_ptype in
    let l = kept (get_or c.as_slice.result.now 0 (pos 0)) in
    let t = c.args.dtype.now in
    let d = c.in-Decimal.digits in
    let k = c.in-Decimal.nulls in
    let n = c.args.len in
    let bytes = c.args.metadata.now in
    let cs = c.args.children.items in
    let tells = kept-one bytes m.msp_ptype m.lower_part_ptypes c.as_slice.result.now c.as_slice.ensures c.in-len1.len_at_least c.in-len1.len_below c.in-Ok.ensures.found in
    ok-both (AreParts (dtype.Decimal d k) n z (l ∷ []) cs) (λ _. refused_children k n z (l ∷ []) cs ≡ None) (IsDeserialized v2_id t n bytes cs) c.read_both.result
    (λ p made right. read-told v2_id t d k n bytes (V2 z (l ∷ [])) cs p c.in-Decimal.is (refl, tells) refl right made)
    c.read_both.ensures.ok c.read_both.ensures.right

pub returns-in-len1-clause-err : goal.returns-in-len1-clause-err
returns-in-len1-clause-err c =
    let m = c.in-Ok.message in
    let z = kept m.msp_ptype in
    let l = kept (get_or c.as_slice.result.now 0 (pos 0)) in
    let t = c.args.dtype.now in
    let d = c.in-Decimal.digits in
    let k = c.in-Decimal.nulls in
    let n = c.args.len in
    let bytes = c.args.metadata.now in
    let cs = c.args.children.items in
    let tells = kept-one bytes m.msp_ptype m.lower_part_ptypes c.as_slice.result.now c.as_slice.ensures c.in-len1.len_at_least c.in-len1.len_below c.in-Ok.ensures.found in
    err-both (λ e. refused_children k n z (l ∷ []) cs ≡ Some e) IsOfChildren (RefusesSerialized v2_id t n bytes cs) c.read_both.result
    (λ e r of. refused-children v2_id t d k n bytes (V2 z (l ∷ [])) cs e c.in-Decimal.is (refl, tells) refl r of)
    c.read_both.ensures.err c.read_both.ensures.cause

pub returns-in_default-as_slice-clause-err : goal.returns-in_default-as_slice-clause-err
returns-in_default-as_slice-clause-err c =
    let m = c.in-Ok.message in
    let many : 2 ≤ length m.lower_part_ptypes = rw (sym c.as_slice.ensures) c.in_default-as_slice.len_at_least in
    lower-count v2_id c.args.dtype.now c.in-Decimal.digits c.in-Decimal.nulls c.args.len c.args.metadata.now (V2 m.msp_ptype m.lower_part_ptypes) c.args.children.items c.in-Decimal.is (refl, c.in-Ok.ensures.found)
    (by-never (nat_le (length m.lower_part_ptypes) 1) (λ h. let few : length m.lower_part_ptypes ≤ 1 = leb-true (length m.lower_part_ptypes) 1 h in omega (arith, many, few)))
