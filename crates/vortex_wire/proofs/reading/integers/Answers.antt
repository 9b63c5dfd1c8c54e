use Rattle.std.proofs.Common.{◌++◌, ◌∙◌, [], ap, sym, arith, option_to_list, map, true}
use Rattle.std.proofs.lemmas.List.{map-append}
use Rattle.vortex_wire.proofs.Leading.{until_bad, until_end, until_start, until_step}
use Rattle.vortex_wire.proofs.reading.integers.Goals as goal
use Rattle.vortex_wire.specs.Messages.{signed}

pub loop-integers-init : goal.loop-integers-init
loop-integers-init c = record { order = omega arith; inside = omega arith; told = ([], c.new-integers.ensures.items, until_start true c.args.number c.args.bytes.now) }

pub returns-in-Bad-clause-bad : goal.returns-in-Bad-clause-bad
returns-in-Bad-clause-bad c =
    let t = c.loop-integers.invariant.told in
    λ _. until_bad true c.args.number c.args.bytes.now c.loop-integers.place t.0 t.2 c.in-Bad.ensures

pub returns-in-End-clause-found : goal.returns-in-End-clause-found
returns-in-End-clause-found c =
    let t = c.loop-integers.invariant.told in
    (t.0, until_end true c.args.number c.args.bytes.now c.loop-integers.place t.0 t.2 c.in-End.ensures.0 c.in-End.ensures.1, t.1)

pub loop-integers-preserved : goal.loop-integers-preserved
loop-integers-preserved c =
    let t = c.loop-integers.invariant.told in
    let s = c.in-Next.ensures in
    record {
      order = s.order;
      inside = s.inside;
      told = (
        t.0 ++ option_to_list c.in-Next.told,
        c.in-Ok.ensures ∙ ap (λ l. l ++ map signed (option_to_list c.in-Next.told)) t.1 ∙ sym (map-append signed t.0 (option_to_list c.in-Next.told)),
        until_step true c.args.number c.args.bytes.now c.loop-integers.place c.in-Next.after t.0 (option_to_list c.in-Next.told) t.2 s,
      );
    }
