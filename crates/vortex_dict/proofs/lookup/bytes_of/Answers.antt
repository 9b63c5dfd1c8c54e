use Rattle.std.proofs.Common.{◌≡◌, ◌<◌, ◌≤◌, ◌++◌, ◌∷◌, ◌∙◌, [], Bool, List, ap, arith, false, length, sym, take}
use Rattle.std.proofs.lemmas.List.{take_all, take_more}
use Rattle.vortex_dict.proofs.lookup.bytes_of.Goals as goal

pub loop-i-preserved : goal.loop-i-preserved
loop-i-preserved c =
    let bits : List Bool = c.args.bits.now in
    let i = c.loop-i.i in
    let inside : i < length bits = omega (arith, c.loop-i-test.true, c.loop-i.auto.i-end, c.len-len.ensures) in
    c.in_ok-push.ensures.items
    ∙ ap (λ (bs : List Bool). bs ++ c.value.result ∷ []) c.loop-i.invariant
    ∙ ap (λ (b : Bool). take i bits ++ b ∷ []) c.value.ensures
    ∙ sym (take_more bits i false inside)

pub returns : goal.returns
returns c =
    let bits : List Bool = c.args.bits.now in
    let all : length bits ≤ c.loop-i.i = omega (arith, c.loop-i-test.false, c.len-len.ensures) in
    c.loop-i.invariant ∙ take_all c.loop-i.i bits all
