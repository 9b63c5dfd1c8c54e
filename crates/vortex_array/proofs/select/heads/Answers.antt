use Rattle.std.proofs.Common.{◌≡◌, ◌∙◌, ◌+◌, ◌++◌, ◌∷◌, [], ap, arith, sym, take}
use Rattle.std.proofs.lemmas.List.{take_more}
use Rattle.std.proofs.lemmas.Slice.Zip.{all_zipped_more}
use Rattle.vortex_array.specs.declared.arrays.Array.{Array}
use Rattle.vortex_array.specs.Head.{IsHeadOf}
use Rattle.vortex_array.proofs.select.heads.Goals as goal

pub loop-column-preserved : goal.loop-column-preserved
loop-column-preserved c =
    let i = c.loop-column.column-index in
    let whole : Array = c.column-item.result in
    let head : IsHeadOf c.args.k whole c.in_ok-slice.field-0 = record { rows = c.in_ok-slice.ensures.column; plain = λ p. rw c.in_ok-slice.ensures.plain p } in
    let more : take (i + 1) c.args.columns.now ≡ take i c.args.columns.now ++ whole ∷ [] =
    take_more c.args.columns.now i whole (omega arith) ∙ ap (λ (a : Array). take i c.args.columns.now ++ a ∷ []) (sym c.column-item.is) in
    rw (c.in_ok-push.ensures.items, more)
    (all_zipped_more (IsHeadOf c.args.k) (take i c.args.columns.now) c.loop-column.heads.items whole c.in_ok-slice.field-0 c.loop-column.invariant head)
