use Rattle.std.proofs.Common.{◌∙◌}
use Rattle.vortex_buffer.specs.Mask.{mask_bits}
use Rattle.vortex_array_kinds.proofs.RowLemmas.{rows-counted}
use Rattle.vortex_array_select.proofs.SelectedRows.{kept-column, kept-long}
use Rattle.vortex_array_select.proofs.plain.PlainArraySelect.filter.Goals as goal

pub filter_values-requires : goal.filter_values-requires
filter_values-requires g c =
    let a = c.args.self.now in
    record { same_length = rw c.stored.ensures.value (c.requires.same_length ∙ rows-counted a.validity (g.V.Values.items a.values) (g.V.Values.count_of a.values) (g.V.Values.counted a.values) c.stored.ensures.fits) }

pub filter_validity-requires : goal.filter_validity-requires
filter_validity-requires g c =
    let a = c.args.self.now in
    record { same_length = c.requires.same_length ∙ rows-counted a.validity (g.V.Values.items a.values) (g.V.Values.count_of a.values) (g.V.Values.counted a.values) c.stored.ensures.fits }

pub new-requires : goal.new-requires
new-requires g c =
    let a = c.args.self.now in
    rw c.in_ok-validity.ensures
    (kept-long g.V.Values.items g.V.Values.count_of g.V.Values.counted a c.in_ok-values.values (mask_bits c.args.mask.now) c.stored.ensures.fits
    (c.requires.same_length ∙ rows-counted a.validity (g.V.Values.items a.values) (g.V.Values.count_of a.values) (g.V.Values.counted a.values) c.stored.ensures.fits) (rw c.stored.ensures.value at c.in_ok-values.ensures.items))

pub returns : goal.returns
returns g c =
    rw (c.new.ensures, c.in_ok-validity.ensures)
    (kept-column g.V.Values.type_of g.V.Values.items c.args.self.now c.in_ok-values.values (mask_bits c.args.mask.now) (rw c.stored.ensures.value at c.in_ok-values.ensures.same_type) (rw c.stored.ensures.value at c.in_ok-values.ensures.items))
