use Rattle.std.proofs.Common.{◌≡◌, ◌≢◌, arith, length}
use Rattle.vortex_wire.proofs.Leading.{no_field_at}
use Rattle.vortex_wire.proofs.reading.next_number.Goals as goal

pub returns-in-Err : goal.returns-in-Err
returns-in-Err c =
    let same : c.args.place.at ≡ c.args.place.run_end = omega (arith, c.if-place.false, c.requires.order) in
    let before : c.args.place.at ≢ length c.args.bytes.now = λ e. let both = c.in-Err.ensures.end e in cc in
    no_field_at c.args.runs c.args.number c.args.bytes.now c.args.place same (omega (arith, same, before, c.requires.inside)) c.in-Err.ensures.bad
