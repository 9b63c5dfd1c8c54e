use Rattle.std.proofs.Common.{◌∙◌, ap, sym, Some, None, inl, inr}
use Rattle.std.specs.Prelude.{if◌then◌else◌}
use Rattle.std.specs.Str.{is_utf8}
use Rattle.std.proofs.lemmas.Bool.{cases_Bool}
use Rattle.std.proofs.lemmas.Str.{is_utf8-from_IsUtf8, IsUtf8-from_is_utf8}
use Rattle.vortex_query_fields.proofs.texts.text_in.Goals as goal

pub returns-in-Ok : goal.returns-in-Ok
returns-in-Ok c =
    let bytes = c.args.field.now in
    let h = c.in-Ok.ensures.cases in
    ap Some h.0 ∙ sym (ap (λ b. if b then Some bytes else None) (is_utf8-from_IsUtf8 bytes h.1))

pub returns-in-Err : goal.returns-in-Err
returns-in-Err c =
    let bytes = c.args.field.now in
    elim (cases_Bool (is_utf8 bytes)) [
      | inl e ↦ absurd (c.in-Err.ensures.cases.0 (IsUtf8-from_is_utf8 bytes e))
      | inr e ↦ sym (ap (λ b. if b then Some bytes else None) e)
    ]
