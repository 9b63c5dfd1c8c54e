use Rattle.std.proofs.Common.{arith, subst}
use Rattle.vortex_array.specs.ColumnOf.{column_of}
use Rattle.vortex_dict.specs.Encoded.{EncodesPart}
use Rattle.vortex_dict_builders.specs.Encoder.{Encoder}
use Rattle.vortex_dict.proofs.Encodings.{encodes-all}
use Rattle.vortex_dict.proofs.encode.dict_encode.Goals as goal

pub returns-clause-ok : goal.returns-clause-ok
returns-clause-ok c =
    let column = column_of c.args.array.now in
    encodes-all column c.in_ok-dict.dict (omega (arith, c.len.ensures, c.len.type_inv))
    (subst (λ (e : Encoder). EncodesPart e column c.in_ok-dict.dict) c.in_ok-encoder.ensures.ok c.in_ok-dict.ensures.ok)
