-- What fields say of a message: one definition for all messages, over a table of the fields of each.
use Rattle.std.specs.Prelude.{ℕ, ℤ, ◌%◌, ◌^◌, ◌≡◌, ◌≢◌, ◌==◌, ◌⊎◌, Bool, true, false, not, List, [], ◌∷◌, ◌++◌, map, Option, Some, None}
use Rattle.std.specs.Int.{w32, cast_signed}
use Rattle.vortex_wire.specs.Grammar.{Payload, Number, Eight, Run, Four, Field, Fields, Varints}

-- what a field of a message is: a number of 32 bits without or with a sign, a truth that may be absent, or any number of numbers with a sign
pub data Kind : Type 0 where
  Unsigned : Kind
  Signed : Kind
  Truth : Kind
  Repeated : Kind

-- what a message holds in one of its fields
pub data Value : Type 0 where
  Whole : ℕ → Value
  Integer : ℤ → Value
  Chosen : Option Bool → Value
  Several : List ℤ → Value

-- a row of a message's table: the number of a field, and what it is
pub record Row : Type 0 where
  pub number : ℕ
  pub kind : Kind

-- whether a field of this kind may hold a run of numbers
abbrev pub takes_runs : Kind → Bool
takes_runs Unsigned = false
takes_runs Signed = false
takes_runs Truth = false
takes_runs Repeated = true

-- the numbers that a payload adds to a known field; with a payload that is not allowed there are none
abbrev pub Adds : Bool → Payload → List ℕ → Type 0
Adds runs (Number n) numbers = numbers ≡ n ∷ []
Adds true (Run run) numbers = Varints numbers run
Adds false (Run run) numbers = ⊥
Adds runs Eight numbers = ⊥
Adds runs Four numbers = ⊥

-- the numbers that the fields of this number hold together, in order; other fields are passed over
abbrev pub Told : Bool → ℕ → List Field → List ℕ → Type 0
Told runs number [] numbers = numbers ≡ []
Told runs number (field ∷ fields) numbers =
    ((field.number ≡ number) × (front rest : List ℕ) × (numbers ≡ front ++ rest) × Adds runs field.payload front × Told runs number fields rest)
    ⊎ ((field.number ≢ number) × Told runs number fields numbers)

-- the last number, if there is one
abbrev pub latest : List ℕ → Option ℕ
latest [] = None
latest (number ∷ numbers) = elim (latest numbers) [ None ↦ Some number | Some later ↦ Some later ]

-- a number, or 0 where there is none
abbrev pub or_zero : Option ℕ → ℕ
or_zero None = 0
or_zero (Some number) = number

-- the low 32 bits of a number, as a number with a sign
abbrev pub signed : ℕ → ℤ
signed number = cast_signed w32 (number % 2 ^ 32)

abbrev pub truth_of : Option ℕ → Option Bool
truth_of None = None
truth_of (Some number) = Some (not (number == 0))

-- what a field of this kind is where it holds these numbers: the last one wins, an absent number is 0, and repeats are joined
abbrev pub value_of : Kind → List ℕ → Value
value_of Unsigned numbers = Whole (or_zero (latest numbers) % 2 ^ 32)
value_of Signed numbers = Integer (signed (or_zero (latest numbers)))
value_of Truth numbers = Chosen (truth_of (latest numbers))
value_of Repeated numbers = Several (map signed numbers)

-- the fields say these values, one for each row of the table
abbrev pub Message : List Row → List Field → List Value → Type 0
Message [] fields [] = Unit {0}
Message [] fields (value ∷ values) = ⊥
Message (row ∷ rows) fields [] = ⊥
Message (row ∷ rows) fields (value ∷ values) =
    ((numbers : List ℕ) × Told (takes_runs row.kind) row.number fields numbers × (value ≡ value_of row.kind numbers)) × Message rows fields values

-- the bytes spell a message of these values: some list of fields stands between the two
abbrev pub Spells : List Row → List ℕ → List Value → Type 0
Spells rows bytes values = (fields : List Field) × Fields fields bytes × Message rows fields values

-- the bytes are fields that hold these numbers in the field of this number
abbrev pub Reads : Bool → ℕ → List ℕ → List ℕ → Type 0
Reads runs number bytes numbers = (fields : List Field) × Fields fields bytes × Told runs number fields numbers

-- the same, where a run of numbers stands before the fields
abbrev pub ReadsOn : Bool → ℕ → List ℕ → List ℕ → List ℕ → Type 0
ReadsOn runs number run bytes numbers = (front rest : List ℕ) × (numbers ≡ front ++ rest) × Varints front run × Reads runs number bytes rest
