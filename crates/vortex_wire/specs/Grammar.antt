-- The grammar of messages, on whole lists of bytes: numbers, fields, and lists of both.
use Rattle.std.specs.Prelude.{ℕ, ◌+◌, ◌*◌, ◌^◌, ◌<◌, ◌≤◌, ◌≡◌, ◌⊎◌, List, [], ◌∷◌, ◌++◌, length, slice_range}
use Rattle.vortex_wire.specs.declared.field.WireField.{WireField}
use Rattle.vortex_wire.specs.declared.field.WirePayload.{WirePayload}
use Rattle.vortex_wire.specs.declared.field.WirePayload.TheVariants as seen

-- groups of seven bits, the low group first: a byte below 128 is the last, and one from 128 on has others behind it
abbrev pub Groups : List ℕ → ℕ → Type 0
Groups [] number = ⊥
Groups (byte ∷ bytes) number =
    ((byte < 128) × (number ≡ byte) × (bytes ≡ [])) ⊎ ((128 ≤ byte) × (byte < 256) × (high : ℕ) × (number + 128 ≡ byte + 128 * high) × Groups bytes high)

-- the bytes, 10 at most, spell a number of 64 bits: so a tenth byte is 0 or 1
pub record Varint (number : ℕ) (bytes : List ℕ) : Type 0 where
  pub groups : Groups bytes number
  pub short : length bytes ≤ 10
  pub fits : number < 2 ^ 64

-- the bytes spell these numbers, one after another
abbrev pub Varints : List ℕ → List ℕ → Type 0
Varints [] bytes = bytes ≡ []
Varints (number ∷ numbers) bytes = (front rest : List ℕ) × (bytes ≡ front ++ rest) × Varint number front × Varints numbers rest

-- what a field holds: a number, eight bytes, a run of bytes, or four bytes
pub data Payload : Type 0 where
  Number : ℕ → Payload
  Eight : Payload
  Run : List ℕ → Payload
  Four : Payload

pub record Field : Type 0 where
  pub number : ℕ
  pub payload : Payload

abbrev pub wire_type : Payload → ℕ
wire_type (Number n) = 0
wire_type Eight = 1
wire_type (Run run) = 2
wire_type Four = 5

-- what stands before a field's payload, as a number
abbrev pub key_of : Field → ℕ
key_of field = field.number * 8 + wire_type field.payload

abbrev pub SpellsPayload : Payload → List ℕ → Type 0
SpellsPayload (Number n) bytes = Varint n bytes
SpellsPayload Eight bytes = length bytes ≡ 8
SpellsPayload (Run run) bytes = (size : List ℕ) × Varint (length run) size × (bytes ≡ size ++ run)
SpellsPayload Four bytes = length bytes ≡ 4

-- a key of 32 bits, whose field number is not 0, and the payload
pub record SpellsField (field : Field) (bytes : List ℕ) : Type 0 where
  pub key : List ℕ
  pub body : List ℕ
  pub whole : bytes ≡ key ++ body
  pub numbered : 0 < field.number
  pub small : key_of field < 2 ^ 32
  pub keyed : Varint (key_of field) key
  pub payload : SpellsPayload field.payload body

-- the bytes are the spellings of the fields, one after another, with nothing left over
abbrev pub Fields : List Field → List ℕ → Type 0
Fields [] bytes = bytes ≡ []
Fields (field ∷ fields) bytes = (front rest : List ℕ) × (bytes ≡ front ++ rest) × SpellsField field front × Fields fields rest

-- a number, or a field, stands at the front of the bytes
abbrev pub BeginsVarint : List ℕ → Type 0
BeginsVarint bytes = (number : ℕ) × (front rest : List ℕ) × (bytes ≡ front ++ rest) × Varint number front

abbrev pub BeginsField : List ℕ → Type 0
BeginsField bytes = (field : Field) × (front rest : List ℕ) × (bytes ≡ front ++ rest) × SpellsField field front

-- a payload of this wire type stands at the front of the bytes
abbrev pub BeginsPayload : ℕ → List ℕ → Type 0
BeginsPayload kind bytes = (payload : Payload) × (front rest : List ℕ) × (bytes ≡ front ++ rest) × (wire_type payload ≡ kind) × SpellsPayload payload front

-- what code holds of a field, with the bytes of its run
abbrev pub payload_of : List ℕ → WirePayload → Payload
payload_of bytes (seen.Varint n) = Number n
payload_of bytes seen.Eight = Eight
payload_of bytes (seen.Run start end) = Run (slice_range bytes start end)
payload_of bytes seen.Four = Four

abbrev pub field_of : List ℕ → WireField → Field
field_of bytes field = record { number = field.number; payload = payload_of bytes field.payload }

-- a run lies behind its field's first byte and ends where the field does
abbrev pub LiesWithin : ℕ → ℕ → WirePayload → Type 0
LiesWithin at end (seen.Run start stop) = (at < start) × (start ≤ stop) × (stop ≡ end)
LiesWithin at end payload = Unit {0}
