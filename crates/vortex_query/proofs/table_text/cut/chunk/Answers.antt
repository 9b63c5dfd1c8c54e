use Rattle.std.proofs.Common.{◌≡◌, ◌∷◌, [], ap, rules, true}
use Rattle.std.specs.Result.{is_ok}
use Rattle.vortex_table.specs.Built.{u64_type}
use Rattle.vortex_query.proofs.Cut.{read_numbers}
use Rattle.vortex_query.proofs.table_text.cut.chunk.Goals as goal

pub returns : goal.returns
returns c =
    let good : is_ok c.push.result ≡ true = search rules in
    let items = rw (good, c.new-chunks.ensures.items) at c.push.ensures.items in
    let h = c.new-array.ensures in
    let k = c.in_ok-from_slice.ensures in
    rw (items, h, k) (ap (λ rows. record { dtype = u64_type; rows = rows } ∷ []) (read_numbers c.args.numbers.now))
