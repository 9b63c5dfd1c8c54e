use Rattle.std.proofs.Common.{◌≡◌, ◌∙◌, sym}
use Rattle.vortex_dict.specs.Presence.{names_value}
use Rattle.vortex_dict.proofs.Named.{equal-named}
use Rattle.vortex_dict.proofs.valid.naming_equal.Goals as goal

pub returns-then-equal_code_names : goal.returns-then-equal_code_names
returns-then-equal_code_names c =
    let code = c.args.code.now in
    let told : c.equal_code_names.result ≡ names_value c.args.present.now code.scalar.value = rw c.scalar.ensures at c.equal_code_names.ensures in
    c.new_true.ensures ∙ equal-named c.args.present.now code.scalar.value c.len.result code.len _ (sym c.if-equal_code_names.true ∙ told) c.len.ensures.count

pub returns-else-equal_code_names : goal.returns-else-equal_code_names
returns-else-equal_code_names c =
    let code = c.args.code.now in
    let told : c.equal_code_names.result ≡ names_value c.args.present.now code.scalar.value = rw c.scalar.ensures at c.equal_code_names.ensures in
    c.new_false.ensures ∙ equal-named c.args.present.now code.scalar.value c.len-else-equal_code_names.result code.len _ (sym c.if-equal_code_names.false ∙ told) c.len-else-equal_code_names.ensures.count
