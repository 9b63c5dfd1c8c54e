-- The fields of each message, and a message as the values that it holds, one for each row of its table.
use Rattle.std.specs.Prelude.{List, [], ◌∷◌}
use Rattle.vortex_wire.specs.Messages.{Row, Unsigned, Signed, Truth, Repeated, Value, Whole, Integer, Chosen, Several}
use Rattle.vortex_wire.specs.declared.messages.DictMetadata.{DictMetadata}
use Rattle.vortex_wire.specs.declared.messages.DecimalBytePartsV1Metadata.{DecimalBytePartsV1Metadata}
use Rattle.vortex_wire.specs.declared.messages.DecimalBytePartsV2Metadata.{DecimalBytePartsV2Metadata}

abbrev pub dict_rows : List Row
dict_rows = record { number = 1; kind = Unsigned } ∷ record { number = 2; kind = Signed } ∷ record { number = 3; kind = Truth } ∷ []

abbrev pub dict_values : DictMetadata → List Value
dict_values message = Whole message.values_len ∷ Integer message.codes_ptype ∷ Chosen message.is_nullable_codes ∷ []

abbrev pub v1_rows : List Row
v1_rows = record { number = 1; kind = Signed } ∷ record { number = 2; kind = Unsigned } ∷ []

abbrev pub v1_values : DecimalBytePartsV1Metadata → List Value
v1_values message = Integer message.zeroth_child_ptype ∷ Whole message.lower_part_count ∷ []

abbrev pub v2_rows : List Row
v2_rows = record { number = 1; kind = Signed } ∷ record { number = 2; kind = Repeated } ∷ []

abbrev pub v2_values : DecimalBytePartsV2Metadata → List Value
v2_values message = Integer message.msp_ptype ∷ Several message.lower_part_ptypes ∷ []
