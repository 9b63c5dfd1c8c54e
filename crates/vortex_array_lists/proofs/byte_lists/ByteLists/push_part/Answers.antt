use Rattle.std.proofs.Common.{rules, arith, ◌≡◌, ◌≤◌, ◌<◌, ◌+◌, ◌-◌, ◌++◌, length, drop, map, ap, ◌∙◌, length-append, length-take, length-drop}
use Rattle.std.specs.Prelude.{slice_range}
use Rattle.vortex_array_lists.specs.Pieces.{pieces, start_at}
use Rattle.vortex_array_lists.proofs.Pieces.{length-pieces, part_above, part_below, put_behind}
use Rattle.vortex_array_lists.proofs.byte_lists.ByteLists.push_part.Goals as goal

pub run_of-from-requires-clause-inside : goal.run_of-from-requires-clause-inside
run_of-from-requires-clause-inside c =
    omega (arith, c.requires.within, length-pieces c.lists.inside.bytes.items 0 c.lists.inside.ends.items, ap length c.lists.view_is, ap length c.deref.ensures.value)

pub offset_bounds-deref-start : goal.offset_bounds-deref-start
offset_bounds-deref-start c =
    let within : c.args.end ≤ length c.deref-3.result.now =
    omega (arith, c.requires.within, length-pieces c.lists.inside.bytes.items 0 c.lists.inside.ends.items, ap length c.lists.view_is, ap length c.deref-3.ensures.value)
    in
    search rules

pub slice_bounds-push_moved-end : goal.slice_bounds-push_moved-end
slice_bounds-push_moved-end c =
    let within : c.args.end ≤ length c.deref-3.result.now =
    omega (arith, c.requires.within, length-pieces c.lists.inside.bytes.items 0 c.lists.inside.ends.items, ap length c.lists.view_is, ap length c.deref-3.ensures.value)
    in
    search rules

pub push_moved-requires-clause-above : goal.push_moved-requires-clause-above
push_moved-requires-clause-above c =
    let others = c.lists.inside.ends.items in
    let starts = c.run_of-from.ensures.start ∙ ap (λ es. start_at 0 es c.args.start) c.deref.ensures.value in
    rw c.deref-3.ensures.value (part_above others _ c.args.start c.args.end c.run_of-from.result.0 c.requires.order c.lists.invariant starts)

pub push_moved-requires-clause-fits : goal.push_moved-requires-clause-fits
push_moved-requires-clause-fits c =
    let other = c.lists.inside.bytes.items in
    let others = c.lists.inside.ends.items in
    let from = c.run_of-from.result.0 in
    let to = c.run_of-from.result.1 in
    let starts = c.run_of-from.ensures.start ∙ ap (λ es. start_at 0 es c.args.start) c.deref.ensures.value in
    let stops = c.run_of-from.ensures.end ∙ ap (λ es. start_at 0 es c.args.end) c.deref.ensures.value in
    let bytes : c.extend_from_slice.new.self.items ≡ c.self.inside.bytes.items ++ slice_range c.lists.inside.bytes.items c.run_of-from.result.0 c.run_of-from.result.1 =
    c.in_ok-extend_from_slice.ensures.items ∙ ap (λ bs. c.self.inside.bytes.items ++ slice_range bs from to) c.deref-2.ensures.value
    in
    let long : length c.extend_from_slice.new.self.items ≡ c.len-before.result + (c.run_of-from.result.1 - c.run_of-from.result.0) =
    omega (arith, ap length bytes, length-append c.self.inside.bytes.items (slice_range other from to), length-take (to - from) (drop from other), length-drop from other, c.len-before.ensures, c.self.inside.bytes.ok, c.run_of-from.ensures.within, c.len.ensures, c.lists.inside.bytes.ok)
    in
    let room : length c.extend_from_slice.new.self.items < 9223372036854775808 = omega (arith, c.extend_from_slice.new.self.ok, c.extend_from_slice.new.self.small) in
    rw c.deref-3.ensures.value (λ i l. let below = part_below others _ c.args.start c.args.end to c.requires.order c.lists.invariant stops i l in omega (arith, below, long, room))

pub invariant_of-self-2 : goal.invariant_of-self-2
invariant_of-self-2 c =
    let other = c.lists.inside.bytes.items in
    let others = c.lists.inside.ends.items in
    let from = c.run_of-from.result.0 in
    let to = c.run_of-from.result.1 in
    let starts = c.run_of-from.ensures.start ∙ ap (λ es. start_at 0 es c.args.start) c.deref.ensures.value in
    let stops = c.run_of-from.ensures.end ∙ ap (λ es. start_at 0 es c.args.end) c.deref.ensures.value in
    let bytes : c.extend_from_slice.new.self.items ≡ c.self.inside.bytes.items ++ slice_range c.lists.inside.bytes.items c.run_of-from.result.0 c.run_of-from.result.1 =
    c.in_ok-extend_from_slice.ensures.items ∙ ap (λ bs. c.self.inside.bytes.items ++ slice_range bs from to) c.deref-2.ensures.value
    in
    let moved = map (λ end. c.len-before.result + (end - from)) (slice_range others c.args.start c.args.end) in
    let ends : c.push_moved.new.ends.items ≡ c.self.inside.ends.items ++ map (λ end. c.len-before.result + (end - c.run_of-from.result.0)) (slice_range c.lists.inside.ends.items c.args.start c.args.end) =
    c.push_moved.ensures
    ∙ ap (λ es. c.reserve.new.self.items ++ map (λ end. c.len-before.result + (end - from)) (slice_range es c.args.start c.args.end)) c.deref-3.ensures.value
    ∙ ap (λ es. es ++ moved) c.in_ok-reserve.ensures.items
    in
    let long : c.len-before.result ≡ length c.self.inside.bytes.items = omega (arith, c.len-before.ensures, c.self.inside.bytes.ok) in
    let put = put_behind c.self.inside.bytes.items c.self.inside.ends.items other others c.args.start c.args.end from to c.len-before.result c.self.invariant long c.requires.order c.lists.invariant starts stops in
    rw (ends, bytes) put.chain

pub returns-clause-pushed : goal.returns-clause-pushed
returns-clause-pushed c =
    let other = c.lists.inside.bytes.items in
    let others = c.lists.inside.ends.items in
    let from = c.run_of-from.result.0 in
    let to = c.run_of-from.result.1 in
    let starts = c.run_of-from.ensures.start ∙ ap (λ es. start_at 0 es c.args.start) c.deref.ensures.value in
    let stops = c.run_of-from.ensures.end ∙ ap (λ es. start_at 0 es c.args.end) c.deref.ensures.value in
    let bytes : c.extend_from_slice.new.self.items ≡ c.self.inside.bytes.items ++ slice_range c.lists.inside.bytes.items c.run_of-from.result.0 c.run_of-from.result.1 =
    c.in_ok-extend_from_slice.ensures.items ∙ ap (λ bs. c.self.inside.bytes.items ++ slice_range bs from to) c.deref-2.ensures.value
    in
    let moved = map (λ end. c.len-before.result + (end - from)) (slice_range others c.args.start c.args.end) in
    let ends : c.push_moved.new.ends.items ≡ c.self.inside.ends.items ++ map (λ end. c.len-before.result + (end - c.run_of-from.result.0)) (slice_range c.lists.inside.ends.items c.args.start c.args.end) =
    c.push_moved.ensures
    ∙ ap (λ es. c.reserve.new.self.items ++ map (λ end. c.len-before.result + (end - from)) (slice_range es c.args.start c.args.end)) c.deref-3.ensures.value
    ∙ ap (λ es. es ++ moved) c.in_ok-reserve.ensures.items
    in
    let long : c.len-before.result ≡ length c.self.inside.bytes.items = omega (arith, c.len-before.ensures, c.self.inside.bytes.ok) in
    let put = put_behind c.self.inside.bytes.items c.self.inside.ends.items other others c.args.start c.args.end from to c.len-before.result c.self.invariant long c.requires.order c.lists.invariant starts stops in
    rw (ends, bytes) put.pieces_are
    ∙ ap (λ ps. ps ++ slice_range (pieces other 0 others) c.args.start c.args.end) c.self.view_is
    ∙ ap (λ ps. c.args.self.now ++ slice_range ps c.args.start c.args.end) c.lists.view_is
