use Rattle.std.proofs.Common.{◌<◌, arith}
use Rattle.vortex_dict.proofs.Named.{all-equal-named}
use Rattle.vortex_dict.proofs.valid.all_equal_name.Goals as goal

pub returns : goal.returns
returns c =
    let code = c.args.code.now in
    let some : 0 < code.len = omega (arith, c.if-len-eq0.false, c.len.ensures.count) in
    all-equal-named c.args.present.now code.scalar.value code.len c.equal_code_names.result c.args.wanted some (rw c.scalar.ensures at c.equal_code_names.ensures)
