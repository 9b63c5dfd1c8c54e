use Rattle.std.proofs.Common.{arith, length, sym, ◌≡◌, ◌∙◌, ◌-◌, drop, length-drop, length-take}
use Rattle.std.specs.Prelude.{slice_range}
use Rattle.vortex_array_lists.proofs.FrontOrder.{bytes-between, fronts-differ, lengths-differ}
use Rattle.vortex_array_lists.proofs.fronts.equal_between.Goals as goal

pub returns-then-end-start : goal.returns-then-end-start
returns-then-end-start c =
    let list = slice_range c.args.bytes.now c.args.start c.args.end in
    let long : length list ≡ c.args.end - c.args.start = omega (arith, length-take (c.args.end - c.args.start) (drop c.args.start c.args.bytes.now), length-drop c.args.start c.args.bytes.now, c.requires.within) in
    sym (lengths-differ list c.args.other.now (λ e. c.if-end-start.true (sym long ∙ e)))

pub returns-then-front_between-front : goal.returns-then-front_between-front
returns-then-front_between-front c =
    sym (fronts-differ (slice_range c.args.bytes.now c.args.start c.args.end) c.args.other.now c.front_between.result c.args.front (bytes-between c.args.bytes.now c.args.start c.args.end (λ k. (c.type_inv.bytes k).fits)) (λ k. (c.type_inv.other k).fits) c.front_between.ensures c.requires.front c.if-front_between-front.true)
