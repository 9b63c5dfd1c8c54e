use Rattle.std.proofs.Common.{◌≡◌, ◌&&◌, ◌∙◌, Bool, ap, false, not, true, refl}
use Rattle.vortex_array.specs.ColumnOf.{column_of}
use Rattle.vortex_array_types.specs.Row.{Column, is_nullable}
use Rattle.vortex_array_children.proofs.Forms.{form-nullable, form-own}
use Rattle.vortex_array_children.proofs.children.relabelled.Goals as goal
use Rattle.vortex_array_children.proofs.children.relabelled.Goals.{else-is_nullable-via-then-is_nullable+else-not-is_nullable, else-is_nullable-via-else-is_nullable}

pub returns-then-not-is_nullable-clause-dtype : goal.returns-then-not-is_nullable-clause-dtype
returns-then-not-is_nullable-clause-dtype c =
    let nulls : is_nullable c.args.dtype.now ≡ true = cc in
    ap (λ (a : Column). a.dtype) c.into_nullable.ensures.column ∙ form-nullable (column_of c.args.array).dtype c.args.dtype.now c.requires nulls

never_left : (a b : Bool) → a ≡ false → (a && b) ≡ false
never_left a b e = rw e refl

never_right : (a b : Bool) → b ≡ false → (a && b) ≡ false
never_right true b e = e
never_right false b e = refl

pub returns-else-is_nullable-clause-dtype : goal.returns-else-is_nullable-clause-dtype
returns-else-is_nullable-clause-dtype c =
    let from = (column_of c.args.array).dtype in
    elim c.else-is_nullable.branch [
      | else-is_nullable-via-then-is_nullable+else-not-is_nullable w ↦
          let has : not (is_nullable (column_of c.args.array).dtype) ≡ false = cc in
          form-own from c.args.dtype.now c.requires (never_right (is_nullable c.args.dtype.now) (not (is_nullable from)) has)
      | else-is_nullable-via-else-is_nullable w ↦
          let none : is_nullable c.args.dtype.now ≡ false = cc in
          form-own from c.args.dtype.now c.requires (never_left (is_nullable c.args.dtype.now) (not (is_nullable from)) none)
    ]
