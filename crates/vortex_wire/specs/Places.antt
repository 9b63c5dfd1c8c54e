-- What a step of reading one field of a message leads to.
use Rattle.std.specs.Prelude.{ℕ, ◌≡◌, ◌<◌, ◌≤◌, Bool, List, Option, None, Some, ◌++◌, length, drop, slice_range, option_to_list}
use Rattle.vortex_wire.specs.Messages.{ReadsOn}
use Rattle.vortex_wire.specs.declared.reading.Place.{Place}
use Rattle.vortex_wire.specs.declared.reading.Step.{Step}
use Rattle.vortex_wire.specs.declared.reading.Step.TheVariants.{Bad, End, Next}

-- what is left to read from a place on: a run, and the fields behind it
abbrev pub ReadsAt : Bool → ℕ → List ℕ → Place → List ℕ → Type 0
ReadsAt runs number bytes place numbers = ReadsOn runs number (slice_range bytes place.at place.run_end) (drop place.run_end bytes) numbers

-- the later of two numbers, where one is told
abbrev pub later : Option ℕ → Option ℕ → Option ℕ
later last None = last
later last (Some number) = Some number

-- these numbers, and what is read from the next place on, are what is read from the place on, and something is read there only if something is here
pub record Leads (runs : Bool) (number : ℕ) (bytes : List ℕ) (place next : Place) (told : List ℕ) : Type 0 where
  pub further : place.at < next.at
  pub order : next.at ≤ next.run_end
  pub inside : next.run_end ≤ length bytes
  pub onward : (numbers : List ℕ) → ReadsAt runs number bytes next numbers → ReadsAt runs number bytes place (told ++ numbers)
  pub back : (numbers : List ℕ) → ReadsAt runs number bytes place numbers → (others : List ℕ) × ReadsAt runs number bytes next others

-- what a step has to say of its place
abbrev pub Follows : Bool → ℕ → List ℕ → Place → Step → Type 0
Follows runs number bytes place Bad = (numbers : List ℕ) → ReadsAt runs number bytes place numbers → ⊥
Follows runs number bytes place End = (place.at ≡ length bytes) × (place.run_end ≡ length bytes)
Follows runs number bytes place (Next told next) = Leads runs number bytes place next (option_to_list told)
