use Rattle.std.proofs.Common.{rules, arith, ◌<◌, ◌∙◌, ap, sym, false, cond, length, get_or}
use Rattle.vortex_array_rows.proofs.Taken.{length-taken_or_at, taken_or_here}
use Rattle.vortex_dict.proofs.lookup.TruthsAtOrIndexedSource.get.Goals as goal

pub offset_bounds-self-i : goal.offset_bounds-self-i
offset_bounds-self-i g c =
    let s = c.args.self.now in
    let inside : c.args.i < length c.args.self.now.codes.now = omega (arith, c.requires, length-taken_or_at g.P.RowIndex.place false s.truths.now s.codes.now s.valid.now s.same_length) in
    search rules

pub bounds-self-i : goal.bounds-self-i
bounds-self-i g c =
    let s = c.args.self.now in
    omega (arith, c.requires, length-taken_or_at g.P.RowIndex.place false s.truths.now s.codes.now s.valid.now s.same_length)

pub value-requires : goal.value-requires
value-requires g c =
    let s = c.args.self.now in
    omega (arith, c.requires, length-taken_or_at g.P.RowIndex.place false s.truths.now s.codes.now s.valid.now s.same_length, s.same_length)

pub returns : goal.returns
returns g c =
    let s = c.args.self.now in
    let f = g.P.RowIndex.place in
    let inside : c.args.i < length c.args.self.now.codes.now = omega (arith, c.requires, length-taken_or_at f false s.truths.now s.codes.now s.valid.now s.same_length) in
    taken_or_here f false s.truths.now s.codes.now s.valid.now c.args.i c.index-self-i.result c.truth_or_false.result s.same_length inside c.index-self-i.is
    (c.truth_or_false.ensures
    ∙ ap (λ p. cond c.value.result (get_or s.truths.now (f p) false) false) (sym c.index-self-i.is)
    ∙ ap (λ b. cond b (get_or s.truths.now (f c.index-self-i.result) false) false) c.value.ensures)
