use Rattle.std.proofs.Common.{◌≡◌, ◌∙◌, ap, length}
use Rattle.vortex_scan.specs.Sources.{Clears}
use Rattle.vortex_table_types.proofs.Zipped.{zipped-all, zipped-long}
use Rattle.vortex_table_scan.proofs.table.Table.try_new.Goals as goal

pub invariant_of-result : goal.invariant_of-result
invariant_of-result g c =
    let R = Clears g.S.IoSource in
    let long = zipped-long R c.args.sources.items c.clear_all.new.sources.items c.clear_all.ensures in
    let count : length c.as_slice-count.result.now ≡ length c.args.sources.items = ap length c.as_slice-count.ensures.value in
    let described = c.in-None.ensures.none in
    record {
      described = rw (c.as_slice.ensures.value, c.as_slice-2.ensures.value, count ∙ long) at described;
      idle = zipped-all R _ (λ x y r. r.accounts) c.args.sources.items c.clear_all.new.sources.items c.clear_all.ensures;
    }
