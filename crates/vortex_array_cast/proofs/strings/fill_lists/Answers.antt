use Rattle.std.proofs.Common.{◌∙◌, [], arith}
use Rattle.vortex_array_cast.proofs.FilledRows.{filled-more, filled-whole}
use Rattle.vortex_array_cast.proofs.strings.fill_lists.Goals as goal

pub loop-i-preserved : goal.loop-i-preserved
loop-i-preserved c =
    c.in_ok-push.ensures.pushed
    ∙ filled-more c.args.fill.now c.args.validity.now c.args.lists.now c.loop-i.filled c.loop-i.i c.list_or.result.now [] c.requires.long (omega arith) c.list_or.ensures c.loop-i.invariant

pub returns : goal.returns
returns c = filled-whole c.args.fill.now c.args.validity.now c.args.lists.now c.loop-i.filled c.loop-i.i c.requires.long (omega arith) c.loop-i.invariant
