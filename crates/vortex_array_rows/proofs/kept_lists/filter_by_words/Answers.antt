use Rattle.std.proofs.Common.{arith, ◌-◌, ◌*◌, length}
use Rattle.vortex_buffer.proofs.Bits.{word_of-lt}
use Rattle.vortex_array_rows.proofs.KeptWords.{word_reach}
use Rattle.vortex_array_rows.proofs.KeptRuns.{word_more}
use Rattle.vortex_array_rows.proofs.kept_lists.filter_by_words.Goals as goal

pub push_runs-requires-clause-word : goal.push_runs-requires-clause-word
push_runs-requires-clause-word c =
    word_reach c.args.bits.now c.loop-k.k (length c.args.lists.now - 64 * c.loop-k.k) c.word.result c.word.ensures (omega (arith, c.requires.same_length))

pub loop-k-preserved : goal.loop-k-preserved
loop-k-preserved c =
    word_more c.args.bits.now c.args.lists.now c.loop-k.k c.word.result c.loop-k.kept c.push_runs.new.kept c.requires.same_length c.word.ensures (omega (arith, c.word.ensures, word_of-lt c.args.bits.now c.loop-k.k)) c.loop-k.invariant c.in_ok-push_runs.ensures.ok
