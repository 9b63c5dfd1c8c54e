use Rattle.std.proofs.Common.{below_more, arith, get_or, refl, sym}
use Rattle.vortex_table_chunks.specs.Rows.{IsPartOrMissing}
use Rattle.vortex_table_types.proofs.Zipped.{zipped, zipped-read}
use Rattle.vortex_table_planner.proofs.morsel.first_mismatch.Goals as goal

pub loop-place-preserved : goal.loop-place-preserved
loop-place-preserved c i d e h =
    below_more (λ m. IsPartOrMissing c.args.rows (get_or c.args.columns.now m d) (get_or c.args.chunks.now m e)) c.loop-place.place (λ m. c.loop-place.invariant m d e)
    (zipped-read (IsPartOrMissing c.args.rows) c.args.columns.now c.args.chunks.now c.loop-place.place c.index-columns-place.result c.index-chunks-place.result c.loop-place-test.true (sym c.requires)
    c.index-columns-place.is c.index-chunks-place.is (c.if-is_unlike.ensures.no refl) d e) i h

pub returns-clause-none : goal.returns-clause-none
returns-clause-none c = zipped (IsPartOrMissing c.args.rows) c.args.columns.now c.args.chunks.now (sym c.requires) (λ k d e l. c.loop-place.invariant k d e (omega (arith, l, c.loop-place-test.false)))
