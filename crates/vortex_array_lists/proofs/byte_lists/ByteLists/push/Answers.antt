use Rattle.std.proofs.Common.{arith, ◌≤◌, ◌≡◌, ◌+◌, ◌∷◌, [], ◌++◌, length, ap, ◌∙◌}
use Rattle.std.proofs.Common.{length-append}
use Rattle.vortex_array_lists.proofs.Pieces.{chain-push, pieces-push, when_ok}
use Rattle.vortex_array_lists.proofs.byte_lists.ByteLists.push.Goals as goal

pub invariant_of-self-2 : goal.invariant_of-self-2
invariant_of-self-2 c =
    let end = c.len-end.result in
    let ends : c.push.new.self.items ≡ c.self.inside.ends.items ++ end ∷ [] =
    c.push.ensures.items ∙ when_ok c.push.result (c.reserve.new.self.items ++ end ∷ []) c.reserve.new.self.items (c.push.ensures.succeeds (omega (arith, c.in_ok-reserve.ensures.ok))) ∙ ap (λ xs. xs ++ end ∷ []) c.in_ok-reserve.ensures.items
    in
    let bytes = c.in_ok-extend_from_slice.ensures.items in
    let long : length c.extend_from_slice.new.self.items ≡ end = omega (arith, c.len-end.ensures) in
    let more : length c.self.inside.bytes.items ≤ end = omega (arith, ap length bytes, length-append c.self.inside.bytes.items c.args.value.now, long) in
    rw (ends, long) (chain-push 0 c.self.inside.ends.items (length c.self.inside.bytes.items) end more c.self.invariant)

pub returns-clause-pushed : goal.returns-clause-pushed
returns-clause-pushed c =
    let end = c.len-end.result in
    let ends : c.push.new.self.items ≡ c.self.inside.ends.items ++ end ∷ [] =
    c.push.ensures.items ∙ when_ok c.push.result (c.reserve.new.self.items ++ end ∷ []) c.reserve.new.self.items (c.push.ensures.succeeds (omega (arith, c.in_ok-reserve.ensures.ok))) ∙ ap (λ xs. xs ++ end ∷ []) c.in_ok-reserve.ensures.items
    in
    let bytes = c.in_ok-extend_from_slice.ensures.items in
    let long : end ≡ length c.self.inside.bytes.items + length c.args.value.now = omega (arith, c.len-end.ensures, ap length bytes, length-append c.self.inside.bytes.items c.args.value.now) in
    rw (ends, bytes) (pieces-push c.self.inside.bytes.items c.args.value.now 0 c.self.inside.ends.items end long c.self.invariant)
    ∙ ap (λ ps. ps ++ c.args.value.now ∷ []) c.self.view_is
