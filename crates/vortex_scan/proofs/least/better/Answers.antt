use Rattle.std.proofs.Common.{◌<◌, length, refl, sym, arith}
use Rattle.std.proofs.lemmas.Option.{slice_get_read}
use Rattle.vortex_scan.proofs.LeastReady.{better_skip, better_first, better_take, better_keep}
use Rattle.vortex_scan.proofs.least.better.Goals as goal

pub returns-then-not-x : goal.returns-then-not-x
returns-then-not-x g c =
    better_skip c.args.items.now c.args.i c.index-items-i.result (slice_get_read _ _ _ _ refl c.requires.in_range c.index-items-i.is) c.args.best c.requires.so_far c.if-not-x.true

pub returns-in_default : goal.returns-in_default
returns-in_default g c =
    better_first c.args.items.now c.args.i c.index-items-i.result (slice_get_read _ _ _ _ refl c.requires.in_range c.index-items-i.is)
    (rw c.in_default.is at c.requires.so_far) c.if-not-x.false

pub returns-then-less : goal.returns-then-less
returns-then-less g c =
    let so_far = rw c.in-Some.is at c.requires.so_far in
    let inside : c.in-Some.b < length c.args.items.now = omega (arith, c.requires.in_range, so_far.0) in
    better_take c.args.items.now c.args.i c.index-items-i.result (slice_get_read _ _ _ _ refl c.requires.in_range c.index-items-i.is)
    c.in-Some.b c.index-items-b.result so_far (slice_get_read _ _ _ _ refl inside c.index-items-b.is) c.if-not-x.false
    (rw (← c.as_slice.ensures, ← c.as_slice-2.ensures) (sym c.if-less.ensures))

pub returns : goal.returns
returns g c =
    let so_far = rw c.in-Some.is at c.requires.so_far in
    let inside : c.in-Some.b < length c.args.items.now = omega (arith, c.requires.in_range, so_far.0) in
    better_keep c.args.items.now c.args.i c.index-items-i.result (slice_get_read _ _ _ _ refl c.requires.in_range c.index-items-i.is)
    c.in-Some.b c.index-items-b.result so_far (slice_get_read _ _ _ _ refl inside c.index-items-b.is)
    (rw (← c.as_slice.ensures, ← c.as_slice-2.ensures) (sym c.if-less.ensures))
