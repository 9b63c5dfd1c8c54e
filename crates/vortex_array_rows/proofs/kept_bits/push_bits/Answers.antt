use Rattle.std.proofs.Common.{arith, ◌≡◌, ◌<◌, ◌+◌, ◌-◌, ◌*◌, ◌/◌, ◌%◌, ◌^◌, ◌∙◌, ap, refl, sym, subst}
use Rattle.std.proofs.lemmas.Nat.{shl_whole, pow-add, div_below}
use Rattle.vortex_array_rows.proofs.PackedBits.{joined_small, packs_within, packs_past}
use Rattle.vortex_array_rows.proofs.kept_bits.push_bits.Goals as goal

pub returns-then-len-lt64-clause-last : goal.returns-then-len-lt64-clause-last
returns-then-len-lt64-clause-last c =
    let whole : c.args.bits * 2 ^ c.args.last.len % 2 ^ 128 ≡ c.args.bits * 2 ^ c.args.last.len = shl_whole c.args.bits 64 c.args.last.len 128 (omega (arith, c.ranges.bits.fits)) (omega (arith, c.requires.partial)) in
    let below = joined_small c.args.last.bits c.args.last.len c.args.bits c.args.count c.requires.last c.requires.bits in
    subst (λ n. (c.args.last.bits + n) % 2 ^ 64 < 2 ^ (c.args.last.len + c.args.count)) (sym whole) (omega (arith, below))

pub returns-then-len-lt64-clause-packed : goal.returns-then-len-lt64-clause-packed
returns-then-len-lt64-clause-packed c =
    let whole : c.args.bits * 2 ^ c.args.last.len % 2 ^ 128 ≡ c.args.bits * 2 ^ c.args.last.len = shl_whole c.args.bits 64 c.args.last.len 128 (omega (arith, c.ranges.bits.fits)) (omega (arith, c.requires.partial)) in
    let joined = c.args.last.bits + c.args.bits * 2 ^ c.args.last.len % 2 ^ 128 in
    record {
      behind =
          λ before more p is counted.
          packs_within before more c.args.words.now.items c.args.last.bits c.args.last.len c.args.count joined (joined % 2 ^ 64) (c.args.last.len + c.args.count) p (subst (λ m. m < 2 ^ c.args.count) is c.requires.bits) counted
          (ap (λ n. c.args.last.bits + n) (whole ∙ ap (λ m. m * 2 ^ c.args.last.len) is))
          refl
          refl
          (omega (arith, c.if-len-lt64.true));
    }

pub returns-clause-last : goal.returns-clause-last
returns-clause-last c =
    let whole : c.args.bits * 2 ^ c.args.last.len % 2 ^ 128 ≡ c.args.bits * 2 ^ c.args.last.len = shl_whole c.args.bits 64 c.args.last.len 128 (omega (arith, c.ranges.bits.fits)) (omega (arith, c.requires.partial)) in
    let left = c.args.last.len + c.args.count - 64 in
    let parts : c.args.last.len + c.args.count ≡ left + 64 = omega (arith, c.if-len-lt64.false) in
    let far : 2 ^ (c.args.last.len + c.args.count) ≡ 2 ^ left * 2 ^ 64 = ap (λ n. 2 ^ n) parts ∙ pow-add 2 left 64 in
    let below = joined_small c.args.last.bits c.args.last.len c.args.bits c.args.count c.requires.last c.requires.bits in
    subst (λ n. (c.args.last.bits + n) / 2 ^ 64 < 2 ^ left) (sym whole) (div_below (c.args.last.bits + c.args.bits * 2 ^ c.args.last.len) (2 ^ 64) (2 ^ left) (omega arith) (omega (arith, below, far)))

pub returns-clause-packed : goal.returns-clause-packed
returns-clause-packed c =
    let whole : c.args.bits * 2 ^ c.args.last.len % 2 ^ 128 ≡ c.args.bits * 2 ^ c.args.last.len = shl_whole c.args.bits 64 c.args.last.len 128 (omega (arith, c.ranges.bits.fits)) (omega (arith, c.requires.partial)) in
    let joined = c.args.last.bits + c.args.bits * 2 ^ c.args.last.len % 2 ^ 128 in
    rw c.in_ok-push.ensures.items
    record {
      behind =
          λ before more p is counted.
          packs_past before more c.args.words.now.items c.args.last.bits c.args.last.len c.args.count joined (joined % 2 ^ 64) (joined / 2 ^ 64) (c.args.last.len + c.args.count - 64) p (subst (λ m. m < 2 ^ c.args.count) is c.requires.bits) counted
          (ap (λ n. c.args.last.bits + n) (whole ∙ ap (λ m. m * 2 ^ c.args.last.len) is))
          refl
          refl
          (omega (arith, c.if-len-lt64.false))
          (omega (arith, c.requires.partial, c.requires.few));
    }
