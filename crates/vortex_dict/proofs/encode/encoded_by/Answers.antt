use Rattle.std.proofs.Common.{◌∙◌, ap, length}
use Rattle.vortex_array_types.specs.Row.{Column}
use Rattle.vortex_array_kinds.specs.Kinds.{primitive_column}
use Rattle.vortex_array.specs.ColumnOf.{column_of}
use Rattle.vortex_dict.specs.Encoded.{narrowed}
use Rattle.vortex_dict_builders.specs.Any.{any_encoder}
use Rattle.vortex_dict.proofs.Encodings.{encodes-part, on-both}
use Rattle.vortex_dict.proofs.encode.encoded_by.Goals as goal

pub returns-in-Ok-values-clause-ok : goal.returns-in-Ok-values-clause-ok
returns-in-Ok-values-clause-ok c =
    let codes = primitive_column c.in-Ok.codes in
    let values = c.in-Ok-values.ensures.column in
    on-both c.dict_of.result _ _ _
    (λ d narrow same. encodes-part (any_encoder c.args.encoder) (any_encoder c.encode.new.self) (column_of c.args.array.now) codes d c.requires.same_type c.requires.none c.in-Ok.ensures.ok (ap column_of same ∙ values) (narrow ∙ ap (λ (k : Column). narrowed (length k.rows) codes) values))
    c.dict_of.ensures.ok c.dict_of.ensures.values
