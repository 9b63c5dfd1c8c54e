-- How many of some truths hold, and where.
use Rattle.std.specs.Prelude.{◌≡◌, ℕ, Bool, true, false, List, slice_index_or}
use Rattle.vortex_dict.specs.declared.shortcuts.TrueValues.{TrueValues}
use Rattle.vortex_dict.specs.declared.shortcuts.TrueValues.TheVariants.{Never, Once, Often}

-- none holds; one does, at this place; or nothing is said
abbrev pub AreTrue : List Bool → TrueValues → Type 0
AreTrue bits Never = (i : ℕ) → slice_index_or bits i false ≡ false
AreTrue bits (Once place) = ((i : ℕ) → slice_index_or bits i false ≡ true → i ≡ place) × (slice_index_or bits place false ≡ true)
AreTrue bits Often = Unit {0}
