use Rattle.vortex_query.proofs.Cut.{fits_cut}
use Rattle.vortex_query.proofs.table_text.parts_of.Goals as goal

pub returns-clause-fits : goal.returns-clause-fits
returns-clause-fits c = fits_cut c.args.options.now.partition_rows c.args.options.now.split_rows c.args.numbers.now c.type_inv.numbers
