use Rattle.std.proofs.Common.{◌++◌, ◌∙◌, [], ap, sym, refl, arith, option_to_list}
use Rattle.vortex_wire.proofs.Leading.{latest_later, until_bad, until_end, until_start, until_step}
use Rattle.vortex_wire.proofs.reading.last_number.Goals as goal
use Rattle.vortex_wire.specs.Places.{later}

pub loop-told-init : goal.loop-told-init
loop-told-init c = record { order = omega arith; inside = omega arith; told = ([], refl, until_start c.args.runs c.args.number c.args.bytes.now) }

pub returns-in-Bad-clause-bad : goal.returns-in-Bad-clause-bad
returns-in-Bad-clause-bad c =
    let t = c.loop-told.invariant.told in
    until_bad c.args.runs c.args.number c.args.bytes.now c.loop-told.place t.0 t.2 c.in-Bad.ensures

pub returns-in-End-clause-found : goal.returns-in-End-clause-found
returns-in-End-clause-found c =
    let t = c.loop-told.invariant.told in
    (t.0, until_end c.args.runs c.args.number c.args.bytes.now c.loop-told.place t.0 t.2 c.in-End.ensures.0 c.in-End.ensures.1, t.1)

pub loop-told-preserved : goal.loop-told-preserved
loop-told-preserved c =
    let t = c.loop-told.invariant.told in
    let s = c.in-Next.ensures in
    record {
      order = s.order;
      inside = s.inside;
      told = (
        t.0 ++ option_to_list c.in-Next.told,
        c.later_of-last.ensures ∙ ap (λ l. later l c.in-Next.told) t.1 ∙ sym (latest_later t.0 c.in-Next.told),
        until_step c.args.runs c.args.number c.args.bytes.now c.loop-told.place c.in-Next.after t.0 (option_to_list c.in-Next.told) t.2 s,
      );
    }
