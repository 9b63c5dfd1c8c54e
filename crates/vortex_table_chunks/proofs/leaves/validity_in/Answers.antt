use Rattle.std.proofs.Common.{◌∙◌}
use Rattle.vortex_table_chunks.proofs.Present.{plain-kind, plain-long, plain-present}
use Rattle.vortex_table_chunks.proofs.leaves.validity_in.Goals as goal

pub returns-clause-kind : goal.returns-clause-kind
returns-clause-kind g c =
    plain-kind g.V.Values.type_of g.V.Values.items g.V.Values.alike c.args.rows.now c.in_ok-validity.validity (c.in_ok-validity.ensures ∙ c.validity.ensures.value)

pub returns-clause-long : goal.returns-clause-long
returns-clause-long g c =
    let a = c.args.rows.now in
    plain-long g.V.Values.items a c.in_ok-validity.validity (g.V.Values.count_of a.values) (c.in_ok-validity.ensures ∙ c.validity.ensures.value) (g.V.Values.counted a.values) c.validity.ensures.fits

pub returns-clause-present : goal.returns-clause-present
returns-clause-present g c =
    let a = c.args.rows.now in
    plain-present g.V.Values.items a c.in_ok-validity.validity (g.V.Values.count_of a.values) (c.in_ok-validity.ensures ∙ c.validity.ensures.value) (g.V.Values.counted a.values) c.validity.ensures.fits
