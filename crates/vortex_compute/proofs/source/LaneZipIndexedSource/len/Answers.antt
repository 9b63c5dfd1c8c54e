use Rattle.std.proofs.Common.{sym, ◌∙◌, ap, min}
use Rattle.std.proofs.lemmas.Slice.Zip.{length-zip}
use Rattle.vortex_compute.proofs.source.LaneZipIndexedSource.len.Goals as goal

pub returns : goal.returns
returns g c =
    c.min.ensures
    ∙ ap (λ n. min n c.len-2.result) c.len.ensures
    ∙ ap (min _) c.len-2.ensures
    ∙ sym (length-zip (g.A.IndexedSource.lanes c.args.self.now.left) (g.B.IndexedSource.lanes c.args.self.now.right))
