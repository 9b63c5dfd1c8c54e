use Rattle.std.proofs.Common.{arith, ◌≡◌, ◌+◌, ◌*◌, ◌∙◌, ap, sym, length, take, take_all}
use Rattle.vortex_array_cast.specs.Filled.{filled_in}
use Rattle.vortex_array_cast.proofs.FilledWords.{length-filled_in}
use Rattle.vortex_array_cast.proofs.fill.write_whole.Goals as goal

pub loop-k-preserved : goal.loop-k-preserved
loop-k-preserved g c =
    let all = filled_in c.args.fill c.args.word c.args.group.now in
    let next : 8 * (c.loop-k.k + 1) ≡ 8 * c.loop-k.k + 8 = omega arith in
    ap (λ n. take n c.write_eight.new.room) next ∙ c.write_eight.ensures ∙ ap (λ n. take n all) (sym next)

pub returns : goal.returns
returns g c =
    let all = filled_in c.args.fill c.args.word c.args.group.now in
    let end : length c.args.group.now ≡ 8 * c.loop-k.k = omega (arith, c.requires.whole) in
    ap (λ n. take n c.loop-k.room) end ∙ c.loop-k.invariant ∙ take_all (8 * c.loop-k.k) all (omega (arith, c.requires.whole, length-filled_in c.args.fill c.args.word c.args.group.now))
