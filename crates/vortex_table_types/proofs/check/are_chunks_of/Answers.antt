use Rattle.std.proofs.Common.{below_more, arith, get_or, refl}
use Rattle.vortex_table_types.specs.Described.{IsChunkOf}
use Rattle.vortex_table_types.proofs.Zipped.{zipped, zipped-at, zipped-long, zipped-read, from_false}
use Rattle.vortex_table_types.proofs.check.are_chunks_of.Goals as goal

pub returns-then-columns-chunks : goal.returns-then-columns-chunks
returns-then-columns-chunks c = (λ t. from_false t, λ z. absurd (c.if-columns-chunks.true (zipped-long (IsChunkOf c.args.split.now) c.args.columns.now c.args.chunks.now z)))

pub returns-then-not-is_chunk_of : goal.returns-then-not-is_chunk_of
returns-then-not-is_chunk_of c = (
  λ t. from_false t,
  λ z. from_false (c.if-not-is_chunk_of.ensures.1
      (rw (c.index-columns-place.is, c.index-chunks-place.is) (zipped-at (IsChunkOf c.args.split.now) c.args.columns.now c.args.chunks.now z c.loop-place.place _ _ c.loop-place-test.true))),
)

pub loop-place-preserved : goal.loop-place-preserved
loop-place-preserved c i d e h =
    below_more (λ m. IsChunkOf c.args.split.now (get_or c.args.columns.now m d) (get_or c.args.chunks.now m e)) c.loop-place.place (λ m. c.loop-place.invariant m d e)
    (zipped-read (IsChunkOf c.args.split.now) c.args.columns.now c.args.chunks.now c.loop-place.place c.index-columns-place.result c.index-chunks-place.result c.loop-place-test.true c.if-columns-chunks.false
    c.index-columns-place.is c.index-chunks-place.is (c.if-not-is_chunk_of.ensures.0 refl) d e) i h

pub returns : goal.returns
returns c = (
  λ t. zipped (IsChunkOf c.args.split.now) c.args.columns.now c.args.chunks.now c.if-columns-chunks.false (λ k d e l. c.loop-place.invariant k d e (omega (arith, l, c.loop-place-test.false))),
  λ z. refl,
)
