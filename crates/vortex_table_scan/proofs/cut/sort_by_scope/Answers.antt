use Rattle.std.proofs.Common.{◌≡◌, rules}
use Rattle.std.proofs.lemmas.Fn.{always_returns_same}
use Rattle.vortex_table_scan.proofs.Sorting.{on_ok, scope_key, sorted_in_order}
use Rattle.vortex_table_scan.proofs.cut.sort_by_scope.Goals as goal

pub returns-clause-order : goal.returns-clause-order
returns-clause-order c = on_ok c.sort_by_key.result _ _ (λ sorted. sorted_in_order c.sort_by_key.new.self.items (sorted scope_key (always_returns_same _ (λ a r. r ≡ scope_key a.0.now) _ (λ a r q k. search rules)))) c.sort_by_key.ensures.sorted
