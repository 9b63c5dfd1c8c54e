use Rattle.std.proofs.Common.{◌≡◌, ◌∙◌, ap, subst, false, true, refl}
use Rattle.std.proofs.Math.ListN.{set}
use Rattle.std.proofs.lemmas.Option.{get_or_from_slice_get, slice_get_read}
use Rattle.vortex_scan.specs.Fetching.{numbers}
use Rattle.vortex_scan.specs.Numbers.{repeats}
use Rattle.vortex_scan.specs.Steps.{published}
use Rattle.vortex_scan.specs.declared.item.Item.{Item}
use Rattle.vortex_scan.proofs.publish.note.Goals as goal

pub add_all-requires : goal.add_all-requires
add_all-requires g c = c.requires.distinct c.index_mut-item.result.now (slice_get_read _ _ _ _ refl c.requires.in_range c.index_mut-item.ensures.value)

pub returns-clause-noted : goal.returns-clause-noted
returns-clause-noted g c = λ told item at.
    let same : c.index_mut-item.result.now ≡ item = c.index_mut-item.ensures.value ∙ get_or_from_slice_get c.args.items.now.items c.args.at item c.index_mut-item.result.now at in
    ap (λ asked. set c.args.items.now.items c.args.at (record c.index_mut-item.result.now { asked = asked })) (c.add_all.ensures.added told) ∙ ap (λ (x : Item _). set c.args.items.now.items c.args.at (published x c.args.batch.now)) same

pub returns-clause-fresh : goal.returns-clause-fresh
returns-clause-fresh g c = λ told item at.
    let same : c.index_mut-item.result.now ≡ item = c.index_mut-item.ensures.value ∙ get_or_from_slice_get c.args.items.now.items c.args.at item c.index_mut-item.result.now at in
    subst (λ (x : Item _). repeats (numbers (published x c.args.batch.now).asked) ≡ false) same (c.add_all.ensures.fresh told)

pub returns-clause-repeated : goal.returns-clause-repeated
returns-clause-repeated g c = λ told item at.
    let same : c.index_mut-item.result.now ≡ item = c.index_mut-item.ensures.value ∙ get_or_from_slice_get c.args.items.now.items c.args.at item c.index_mut-item.result.now at in
    subst (λ (x : Item _). repeats (numbers (published x c.args.batch.now).asked) ≡ true) same (c.add_all.ensures.repeated told)
