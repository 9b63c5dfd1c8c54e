use Rattle.std.proofs.Common.{◌+◌, arith}
use Rattle.vortex_array_types.specs.Row.{in_width}
use Rattle.vortex_array_cast.proofs.CastItems.{block-more, fit-more}
use Rattle.vortex_array_cast.proofs.widths.cast_block.Goals as goal

pub loop-i-preserved : goal.loop-i-preserved
loop-i-preserved g c =
    let number = g.T.NativeValue.number in
    let fits = in_width g.U.NativeValue.width in
    let made = c.convert_or-number in
    record {
      cast = block-more number g.U.NativeValue.number fits c.args.items.now c.args.start c.loop-i.out c.loop-i.i c.index-items-start.result made.result.0 made.result.1 (omega arith) (omega arith) c.index-items-start.is made.ensures.fits made.ensures.same c.loop-i.invariant.cast;
      fit = fit-more number fits c.args.items.now (c.args.start + c.loop-i.i) (c.args.start + (c.loop-i.i + 1)) c.index-items-start.result c.loop-i.all_fit made.result.1 (omega arith) (omega arith) c.index-items-start.is made.ensures.fits c.loop-i.invariant.fit;
    }
