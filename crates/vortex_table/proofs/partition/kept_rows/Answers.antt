use Rattle.std.proofs.Common.{◌∙◌, ap, sym}
use Rattle.std.specs.Prelude.{filter}
use Rattle.vortex_array.specs.ColumnOf.{column_of}
use Rattle.vortex_table.specs.Kept.{passes}
use Rattle.vortex_table.proofs.ReadBack.{column_read}
use Rattle.vortex_table.proofs.partition.kept_rows.Goals as goal

pub returns : goal.returns
returns c =
    c.in_ok-kept.ensures ∙ ap (filter (passes c.args.keep.now)) (c.as_slice.ensures.value ∙ sym (column_read (column_of c.args.array.now) _ c.in_ok-numbers.ensures))
