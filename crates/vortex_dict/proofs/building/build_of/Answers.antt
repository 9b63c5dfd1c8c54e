use Rattle.std.proofs.Common.{◌≡◌, Bool, false, not, sym, true}
use Rattle.vortex_array_children.specs.Children.{stands_for}
use Rattle.vortex_dict.specs.Built.{stands_for_codes}
use Rattle.vortex_dict.proofs.BuiltParts.{built}
use Rattle.vortex_dict.proofs.building.build_of.Goals as goal

by_not : (b x : Bool) → b ≡ x → not b ≡ false → x ≡ true
by_not true x e h = sym e
by_not false x e h = absurd (cc h)

pub returns-in-None-clause-ok : goal.returns-in-None-clause-ok
returns-in-None-clause-ok c =
    let t = c.args.dtype.now in
    let s = c.args.codes_dtype.now in
    let m = c.args.metadata.now in
    let unset : not c.are_codes.result ≡ false = cc in
    let missed : not c.stands_for.result ≡ false = cc in
    built t s c.args.len m c.args.codes c.args.values c.relabelled-codes.result c.relabelled-values.result c.new.result c.requires
    (by_not c.are_codes.result (stands_for_codes t c.args.len s c.args.codes) c.are_codes.ensures unset)
    (by_not c.stands_for.result (stands_for t m.values_len c.args.values) c.stands_for.ensures missed)
    c.relabelled-codes.ensures.dtype c.relabelled-values.ensures.dtype c.relabelled-codes.ensures.same c.relabelled-values.ensures.same c.new.ensures
