use Rattle.std.proofs.Common.{◌≡◌, ◌∙◌, ap, sym, subst, [], length}
use Rattle.vortex_scan.specs.Driving.{Returns}
use Rattle.vortex_table_types.specs.Described.{IsDescribed}
use Rattle.vortex_table_types.proofs.Zipped.{zipped-all, zipped-long}
use Rattle.vortex_table_scan.proofs.table.Table.scan.Goals as goal

-- the table is one with the sources that came back
pub invariant_of-self : goal.invariant_of-self
invariant_of-self g c =
    let R = Returns g.S.IoSource in
    let old = c.replace-sources.result.items in
    let new = c.scan_sources-sources.result.sources.items in
    let back = c.scan_sources-sources.ensures.sources in
    let same : length old ≡ length c.self.inside.sources.items = ap (λ v. length v.items) c.replace-sources.ensures.value in
    let long : length c.self.inside.sources.items ≡ length new = sym same ∙ zipped-long R old new back in
    record {
      described = subst (λ n. IsDescribed c.self.inside.columns.items c.self.inside.partitions.items n) long c.self.invariant.described;
      idle = zipped-all R (λ it. g.S.IoSource.outstanding it ≡ []) (λ x y r. r.none) old new back;
    }

pub returns-clause-rows : goal.returns-clause-rows
returns-clause-rows g c = rw (← c.self.view_is) (rw (c.as_slice.ensures.value, c.as_slice-2.ensures.value, c.replace-sources.ensures.value) at c.scan_sources-sources.ensures.rows)

pub returns-clause-journals : goal.returns-clause-journals
returns-clause-journals g c = rw (← c.self.view_is) (rw (c.as_slice.ensures.value, c.as_slice-2.ensures.value, c.replace-sources.ensures.value) at c.scan_sources-sources.ensures.journals)
