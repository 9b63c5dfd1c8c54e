use Rattle.std.proofs.Common.{◌*◌, ◌+◌, max}
use Rattle.vortex_array_types.specs.declared.filter.Filter.{size-Filter}
use Rattle.vortex_table_chunks.proofs.filters.+filter_truth.Given as goal

abbrev pub decreases-filter_truth : goal.decreases-filter_truth
decreases-filter_truth l = 2 * size-Filter l.filter.now

abbrev pub decreases-conjunction : goal.decreases-conjunction
decreases-conjunction l = 2 * max (size-Filter l.f.now) (size-Filter l.g.now) + 1

abbrev pub decreases-disjunction : goal.decreases-disjunction
decreases-disjunction l = 2 * max (size-Filter l.f.now) (size-Filter l.g.now) + 1
