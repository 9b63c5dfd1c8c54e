-- The one spelling that is written of each message.
use Rattle.std.specs.Prelude.{ℕ, ℤ, ◌+◌, ◌*◌, ◌/◌, ◌%◌, ◌^◌, ◌==◌, nat_lt, Bool, true, false, List, [], ◌∷◌, ◌++◌, length, Some, None, if◌then◌else◌}
use Rattle.std.specs.List.{flat_map}
use Rattle.std.specs.Prelude.{zero, suc, pos, negsuc, ◌-◌}
use Rattle.vortex_wire.specs.Messages.{Row, Value, Whole, Integer, Chosen, Several}

-- the shortest groups of seven bits, with so many more groups at most
unfoldable pub groups_of : ℕ → ℕ → List ℕ
groups_of zero number = number ∷ []
groups_of (suc more) number = if nat_lt number 128 then number ∷ [] else (number % 128 + 128) ∷ groups_of more (number / 128)

-- the shortest spelling of a number of 64 bits
unfoldable pub shortest : ℕ → List ℕ
shortest number = groups_of 9 number

-- a number with a sign, extended to 64 bits
abbrev pub extended : ℤ → ℕ
extended (pos number) = number
extended (negsuc number) = 2 ^ 64 - 1 - number

-- a field that holds a number
abbrev pub scalar : ℕ → ℕ → List ℕ
scalar field number = shortest (field * 8) ++ shortest number

-- the same, omitted where the number is 0
abbrev pub scalar_unless_zero : ℕ → ℕ → List ℕ
scalar_unless_zero field number = if number == 0 then [] else scalar field number

-- numbers one after another
abbrev pub run_of : List ℤ → List ℕ
run_of integers = flat_map (λ integer. shortest (extended integer)) integers

abbrev pub packed : ℕ → List ℕ → List ℕ
packed field run = if length run == 0 then [] else shortest (field * 8 + 2) ++ shortest (length run) ++ run

abbrev pub bit_of : Bool → ℕ
bit_of true = 1
bit_of false = 0

-- a field of a message: a number that is 0, an absent truth and an empty list are omitted, and a list is one run
abbrev pub canonical_field : ℕ → Value → List ℕ
canonical_field field (Whole number) = scalar_unless_zero field number
canonical_field field (Integer integer) = scalar_unless_zero field (extended integer)
canonical_field field (Chosen None) = []
canonical_field field (Chosen (Some truth)) = scalar field (bit_of truth)
canonical_field field (Several integers) = packed field (run_of integers)

-- the fields ascend, as the rows of the table do
abbrev pub canonical : List Row → List Value → List ℕ
canonical [] values = []
canonical (row ∷ rows) [] = []
canonical (row ∷ rows) (value ∷ values) = canonical_field row.number value ++ canonical rows values
