use Rattle.std.proofs.Common.{◌≡◌, ℕ, List, Some, vec_len}
use Rattle.vortex_query.specs.Left.{Left}
use Rattle.vortex_query.specs.Numbered.{Going}
use Rattle.vortex_query.proofs.table_text.numbered.numbers_left.Given as goal

abbrev pub invariant-loop-index : goal.invariant-loop-index
invariant-loop-index l = record {
  going : (rows : List (List (List ℕ))) → Left (λ s. Some s.now) l.fn.reader rows → Going (λ s. Some s.now) l.reader rows l.numbers.items;
  counted : vec_len l.numbers ≡ l.index;
}
