use Rattle.std.proofs.Common.{◌∙◌, ap, length, map}
use Rattle.vortex_array_kinds.specs.StringValues.{IsString, string_value, strings_of}
use Rattle.vortex_array_kinds.specs.Validities.{valid_bits}
use Rattle.vortex_array_cast.specs.Filled.{filled_items}
use Rattle.vortex_array_cast.proofs.FilledRows.{all-filled, map-filled}
use Rattle.vortex_array_cast.proofs.strings.StringsFillValues.fill_values.Goals as goal

pub new-requires : goal.new-requires
new-requires c =
    let s = c.args.self.now in
    rw (c.kind-kind.ensures, c.in_ok-filled.ensures, c.lists.ensures.value) (all-filled (IsString s.kind) c.bytes_in.result.now s.lists (valid_bits c.args.validity.now (length s.lists)) c.lists.ensures.texts (rw c.kind-kind.ensures at c.bytes_in.ensures.text))

pub returns-clause-ok : goal.returns-clause-ok
returns-clause-ok c =
    let s = c.args.self.now in
    let bits = valid_bits c.args.validity.now (length s.lists) in
    rw (c.new.ensures, c.kind-kind.ensures)
    (ap (map (string_value s.kind)) (rw c.lists.ensures.value at c.in_ok-filled.ensures)
    ∙ map-filled (string_value s.kind) c.bytes_in.result.now s.lists bits
    ∙ ap (λ v. filled_items v (strings_of s) bits) (rw c.kind-kind.ensures at c.bytes_in.ensures.value))
