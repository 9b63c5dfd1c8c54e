use Rattle.std.proofs.Common.{◌≡◌, ◌≢◌, refl, [], true}
use Rattle.std.proofs.lemmas.Option.{slice_get_read}
use Rattle.vortex_scan.proofs.FirstAsking.{first_begin, first_keep, first_skip, first_take}
use Rattle.vortex_scan.proofs.ask.earlier.Goals as goal

pub returns-then-is_empty : goal.returns-then-is_empty
returns-then-is_empty g c =
    first_skip c.args.items.now c.args.i c.index-items-i.result (slice_get_read _ _ _ _ refl c.requires.in_range c.index-items-i.is) c.args.best (c.is_empty.ensures.0 c.if-is_empty.true) c.requires.so_far

pub returns-in_default : goal.returns-in_default
returns-in_default g c =
    let some : c.index-items-i.result.asked ≢ [] = λ e. let t : c.is_empty.result ≡ true = c.is_empty.ensures.1 e in let f = c.if-is_empty.false in cc in
    first_begin c.args.items.now c.args.i c.index-items-i.result (slice_get_read _ _ _ _ refl c.requires.in_range c.index-items-i.is) some (rw c.in_default.is at c.requires.so_far)

pub returns-then-root-item : goal.returns-then-root-item
returns-then-root-item g c =
    (first_keep c.args.items.now c.args.i c.index-items-i.result (slice_get_read _ _ _ _ refl c.requires.in_range c.index-items-i.is) c.in-Some.root c.if-root-item.true (rw c.in-Some.is at c.requires.so_far))

pub returns : goal.returns
returns g c =
    let some : c.index-items-i.result.asked ≢ [] = λ e. let t : c.is_empty.result ≡ true = c.is_empty.ensures.1 e in let f = c.if-is_empty.false in cc in
    first_take c.args.items.now c.args.i c.index-items-i.result (slice_get_read _ _ _ _ refl c.requires.in_range c.index-items-i.is) c.in-Some.root some c.if-root-item.false (rw c.in-Some.is at c.requires.so_far)
