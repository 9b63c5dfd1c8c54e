use Rattle.std.proofs.Common.{◌+◌, ◌<◌, ◌∙◌, ap, arith, get_or, length, None}
use Rattle.std.proofs.lemmas.List.{length_push}
use Rattle.vortex_array_kinds.specs.Kinds.{rows_under}
use Rattle.vortex_dict_builders.specs.Building.{EncodesRow}
use Rattle.vortex_dict_builders.specs.Encoder.{Encoder}
use Rattle.vortex_dict_builders.proofs.EncodingLemmas.{codes-push, encodes-more}
use Rattle.vortex_dict_builders.proofs.Succeeds.{on-failure}
use Rattle.vortex_dict_builders.proofs.builder.DictBuilder.push_codes.Goals as goal

pub returns-in_err-push-in-Some-clause-err : goal.returns-in_err-push-in-Some-clause-err
returns-in_err-push-in-Some-clause-err g c =
    let f = g.Code.NativeValue.number in
    let rows = rows_under c.args.rows.now.validity (g.E.Stored.Values.items c.args.rows.now.values) in
    let i = c.loop-i.i in
    let inside : i < length rows = omega (arith, c.loop-i-test.true, c.len-i-end.ensures.rows) in
    let row : EncodesRow c.loop-i.self (get_or rows i None) (f c.in-Some.code) c.code_of.new.self = rw c.in-Some.is at c.in_ok-code.ensures.taken in
    on-failure c.from_residual-in_err-push-in-Some.result
    (record { count = i + 1; prefix = encodes-more c.args.self.now c.loop-i.self c.code_of.new.self rows i (f c.in-Some.code) inside c.loop-i.invariant.prefix row })

pub loop-i-preserved : goal.loop-i-preserved
loop-i-preserved g c =
    let f = g.Code.NativeValue.number in
    let rows = rows_under c.args.rows.now.validity (g.E.Stored.Values.items c.args.rows.now.values) in
    let i = c.loop-i.i in
    let code = c.in-Some.code in
    let inside : i < length rows = omega (arith, c.loop-i-test.true, c.len-i-end.ensures.rows) in
    let row : EncodesRow c.loop-i.self (get_or rows i None) (f code) c.code_of.new.self = rw c.in-Some.is at c.in_ok-code.ensures.taken in
    let items = c.in_ok-push-in-Some.ensures.items in
    record {
      prefix = encodes-more c.args.self.now c.loop-i.self c.code_of.new.self rows i (f code) inside c.loop-i.invariant.prefix row;
      count = omega (arith, ap length items, length_push c.loop-i.codes.items code, c.loop-i.invariant.count);
      codes = rw items (codes-push f c.loop-i.self c.code_of.new.self rows c.loop-i.codes.items code i c.loop-i.invariant.count row c.loop-i.invariant.codes);
      same = ap (λ (b : Encoder). b.dtype) row.entries ∙ c.loop-i.invariant.same;
    }
