use Rattle.std.proofs.Common.{◌∙◌, ap, sym}
use Rattle.std.specs.Prelude.{filter}
use Rattle.vortex_array.specs.ColumnOf.{column_of}
use Rattle.vortex_table.specs.Kept.{passes}
use Rattle.vortex_table.proofs.ReadBack.{column_read}
use Rattle.vortex_table.proofs.partition.kept_in.Goals as goal

pub returns-in-Some : goal.returns-in-Some
returns-in-Some c =
    c.in_ok-kept.ensures ∙ ap (filter (passes c.args.keep.now)) (sym (column_read (column_of c.args.array.now) _ c.in-Some.ensures.numbers))
