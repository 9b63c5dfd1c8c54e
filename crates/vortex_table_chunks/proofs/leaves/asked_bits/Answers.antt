use Rattle.std.proofs.Common.{ℕ, ◌≡◌, ◌<◌, ◌≤◌, ◌∙◌, Bool, List, Option, None, ap, arith, get_or, length, map}
use Rattle.std.specs.Prelude.{option_map}
use Rattle.std.proofs.lemmas.List.{take_all}
use Rattle.vortex_array_types.specs.Seen.{value_seen}
use Rattle.vortex_array_types.specs.declared.scalar.Value.{Value}
use Rattle.vortex_array.specs.ColumnOf.{column_of}
use Rattle.vortex_dict.proofs.Held.{held, held-here, held-more}
use Rattle.vortex_table_chunks.proofs.leaves.asked_bits.Goals as goal

pub loop-i-preserved : goal.loop-i-preserved
loop-i-preserved g c =
    let rows : List (Option Value) = (column_of c.args.array.now).rows in
    let truth : Value → Bool = g.Q.Predicate.truth c.args.q.now in
    let i : ℕ = c.loop-i.i in
    let inside : i < length rows = omega (arith, c.len-i-end.ensures) in
    let told : c.is_held.result ≡ held truth (get_or rows i None) =
    held-here _ truth (option_map value_seen c.value_at.result) (get_or rows i None) c.is_held.result c.is_held.ensures.answer c.loop-i.invariant.truths c.value_at.ensures.value in
    record {
      told = held-more truth rows i _ _ c.is_held.result inside c.loop-i.invariant.told told c.in_ok-push.ensures.pushed;
      truths = c.is_held.ensures.truths ∙ c.loop-i.invariant.truths;
      count = omega (arith, c.is_held.ensures.count, c.loop-i.invariant.count);
    }

pub returns-clause-bits : goal.returns-clause-bits
returns-clause-bits g c =
    let rows : List (Option Value) = (column_of c.args.array.now).rows in
    let truth : Value → Bool = g.Q.Predicate.truth c.args.q.now in
    let all : length rows ≤ c.loop-i.i = omega (arith, c.len-i-end.ensures) in
    c.loop-i.invariant.told ∙ ap (map (held truth)) (take_all c.loop-i.i rows all)
