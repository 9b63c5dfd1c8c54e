use Rattle.std.proofs.Common.{◌∙◌, ap, length, sym}
use Rattle.std.proofs.lemmas.List.{length-map}
use Rattle.vortex_array_kinds.specs.Validities.{is_as_long}
use Rattle.vortex_dict_builders.proofs.EntryLemmas.{numbers-column}
use Rattle.vortex_dict_builders.proofs.primitives.number_array.Goals as goal

pub new-requires : goal.new-requires
new-requires g c =
    rw (c.into_buffer.ensures.numbers, length-map c.args.items g.T.NativeValue.number) c.requires

pub returns : goal.returns
returns g c =
    rw (c.new.ensures)
    (numbers-column g.T.NativeValue.number g.T.NativeValue.width c.into_buffer.result c.args.validity c.args.items c.into_buffer.ensures.numbers c.into_buffer.ensures.width)
