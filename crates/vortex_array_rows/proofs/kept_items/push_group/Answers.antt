use Rattle.std.proofs.Common.{◌∙◌, ◌++◌, ap, sym, length, append-nil}
use Rattle.vortex_array_rows.proofs.KeptWords.{kept_in-none, kept_in-all, full_word}
use Rattle.vortex_array_rows.proofs.kept_items.push_group.Goals as goal

pub returns-then-word-eq0 : goal.returns-then-word-eq0
returns-then-word-eq0 g c = record { ok = sym (ap (λ ys. c.args.kept.now.items ++ ys) (kept_in-none c.args.word c.args.group.now c.if-word-eq0.true) ∙ append-nil c.args.kept.now.items) }

pub returns-then-word-eq18446744073709551615 : goal.returns-then-word-eq18446744073709551615
returns-then-word-eq18446744073709551615 g c =
    let whole = full_word c.args.word (length c.args.group.now) c.if-word-eq18446744073709551615.true c.requires.word c.requires.small in
    record { ok = c.in_ok-extend_from_slice.ensures.items ∙ ap (λ ys. c.args.kept.now.items ++ ys) (sym (kept_in-all c.args.word c.args.group.now whole)) }
