use Rattle.std.proofs.Common.{◌≡◌, ◌∙◌, ap, sym, arith, length}
use Rattle.vortex_scan.specs.Sources.{Clears}
use Rattle.vortex_table_types.proofs.Zipped.{written-over, zipped-same}
use Rattle.vortex_table_scan.proofs.table.clear_all.Goals as goal

pub returns : goal.returns
returns g c =
    let old = c.args.sources.now.items in
    let new = c.loop-source.source-items in
    let inv = c.loop-source.invariant in
    let e : length c.deref_mut-source-items.result.now ≡ c.args.sources.now.len = c.deref_mut-source-items.ensures.len in
    let f : length c.deref_mut-source-items.result.now ≡ length old = ap length c.deref_mut-source-items.ensures.value in
    rw (written-over c.args.sources.now.len new old inv.long (sym e ∙ f ∙ sym inv.long))
    (zipped-same (Clears g.S.IoSource) old new (sym inv.long) (λ k d l. inv.cleared k d (omega (arith, l, f, c.loop-source-test.false))))
