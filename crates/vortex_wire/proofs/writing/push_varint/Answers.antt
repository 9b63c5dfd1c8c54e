use Rattle.std.proofs.Common.{◌++◌, ◌∙◌, ◌/◌, ◌≡◌, List, ℕ, OnOk, ap, arith, subst}
use Rattle.vortex_wire.proofs.Written.{groups_end, groups_start, groups_step}
use Rattle.vortex_wire.proofs.writing.push_varint.Goals as goal
use Rattle.vortex_wire.specs.Canonical.{groups_of}

pub loop-left-init : goal.loop-left-init
loop-left-init c = groups_start c.args.number (omega arith) c.args.out.now.items

pub loop-left-preserved : goal.loop-left-preserved
loop-left-preserved c =
    let t = c.loop-left.invariant in
    let r = groups_step t.0 c.loop-left.left c.loop-left.out.items _ c.loop-left-test.true t.1 t.2 in
    (r.0, r.1, ap (λ (l : List ℕ). l ++ groups_of r.0 (c.loop-left.left / 128)) c.in-Ok.ensures ∙ r.2)

pub returns : goal.returns
returns c =
    let t = c.loop-left.invariant in
    let e = groups_end t.0 c.loop-left.left c.loop-left.out.items _ (omega arith) t.2 in
    subst (λ (l : List ℕ). OnOk c.push_byte.result (c.push_byte.new.out.items ≡ l)) e c.push_byte.ensures
