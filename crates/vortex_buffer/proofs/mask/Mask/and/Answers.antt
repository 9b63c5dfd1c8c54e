use Rattle.std.proofs.Common.{sym, ap, ◌∙◌, ◌≡◌, ◌&&◌, length, replicate, true, false}
use Rattle.std.specs.Simd.Lanes.{zip2}
use Rattle.std.proofs.lemmas.List.{length-replicate}
use Rattle.vortex_buffer.specs.Mask.{mask_bits}
use Rattle.vortex_buffer.proofs.Unset.{and-all_left, and-all_right, and-none_left, and-none_right}
use Rattle.vortex_buffer.proofs.mask.Mask.and.Goals as goal

pub returns-in-AllTrue-default : goal.returns-in-AllTrue-default
returns-in-AllTrue-default c =
    let n = c.in-AllTrue-default.field-0-0 in
    let all : mask_bits c.args.self.now ≡ replicate n true = ap mask_bits c.in-AllTrue-default.is-0 in
    let long : n ≡ length (mask_bits c.args.other.now) = sym (length-replicate n true) ∙ sym (ap length all) ∙ c.requires in
    rw (all, and-all_left n (mask_bits c.args.other.now) long) c.try_clone.ensures

pub returns-in-AllFalse-default : goal.returns-in-AllFalse-default
returns-in-AllFalse-default c =
    let n = c.in-AllFalse-default.len in
    let none : mask_bits c.args.self.now ≡ replicate n false = ap mask_bits c.in-AllFalse-default.is-0 in
    let long : n ≡ length (mask_bits c.args.other.now) = sym (length-replicate n false) ∙ sym (ap length none) ∙ c.requires in
    sym (ap (λ bs. zip2 ◌&&◌ bs (mask_bits c.args.other.now)) none ∙ and-none_left n (mask_bits c.args.other.now) long)

pub returns-in-Values-AllTrue : goal.returns-in-Values-AllTrue
returns-in-Values-AllTrue c =
    let n = c.in-Values-AllTrue.field-0-1 in
    let all : mask_bits c.args.other.now ≡ replicate n true = ap mask_bits c.in-Values-AllTrue.is-1 in
    let long : length (mask_bits c.args.self.now) ≡ n = c.requires ∙ ap length all ∙ length-replicate n true in
    rw (all, and-all_right n (mask_bits c.args.self.now) long) c.try_clone-in-Values-AllTrue.ensures

pub returns-in-Values-AllFalse : goal.returns-in-Values-AllFalse
returns-in-Values-AllFalse c =
    let n = c.in-Values-AllFalse.len in
    let none : mask_bits c.args.other.now ≡ replicate n false = ap mask_bits c.in-Values-AllFalse.is-1 in
    let long : length (mask_bits c.args.self.now) ≡ n = c.requires ∙ ap length none ∙ length-replicate n false in
    sym (ap (λ bs. zip2 ◌&&◌ (mask_bits c.args.self.now) bs) none ∙ and-none_right n (mask_bits c.args.self.now) long)
