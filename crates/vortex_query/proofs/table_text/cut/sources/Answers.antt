use Rattle.std.proofs.Common.{◌≡◌, All, arith, rules, subst, sym, true}
use Rattle.std.specs.Result.{is_ok}
use Rattle.std.proofs.lemmas.Grind.{common_steps}
use Rattle.std.proofs.lemmas.List.Elements.{All-push}
use Rattle.vortex_io.specs.declared.order.Order.TheVariants.{First}
use Rattle.vortex_query.specs.Spelled.{IsFresh}
use Rattle.vortex_query.proofs.table_text.cut.sources.Goals as goal

pub loop-part-preserved : goal.loop-part-preserved
loop-part-preserved c =
    let good : is_ok c.push.result ≡ true = search rules in
    let items = rw good at c.push.ensures.items in
    record {
      fresh = subst (All (IsFresh First)) (sym items) (All-push (IsFresh First) c.loop-part.sources.items c.in_ok-source.field-0 c.loop-part.invariant.fresh c.in_ok-source.ensures.fresh);
      contents = grind (arith, common_steps);
    }
