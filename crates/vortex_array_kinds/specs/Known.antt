-- Which answers of two columns of truth values are known.
use Rattle.std.specs.Prelude.{◌≡◌, ℕ, Bool, ◌&&◌, ◌||◌, IsTrue, List}
use Rattle.std.specs.Simd.Lanes.{zip2}
use Rattle.vortex_array_kinds.specs.Validities.{is_as_long, nullability_of, valid_bits}
use Rattle.vortex_array_kinds.specs.Truths.{either}
use Rattle.vortex_array_kinds.specs.declared.validity.Validity.{Validity}

-- both rows are present, or one is that decides by itself
abbrev pub known : List Bool → List Bool → List Bool → List Bool → List Bool
known left left_decides right right_decides = zip2 ◌||◌ (zip2 ◌||◌ (zip2 ◌&&◌ left right) (zip2 ◌&&◌ left left_decides)) (zip2 ◌&&◌ right right_decides)

-- of so many rows those are not null that are known, and the type has nulls where one of the two has
pub record KnownWhere (n : ℕ) (a : Validity) (a_decides : List Bool) (b : Validity) (b_decides : List Bool) (v : Validity) : Type 0 where
  pub long : IsTrue (is_as_long v n)
  pub present : valid_bits v n ≡ known (valid_bits a n) a_decides (valid_bits b n) b_decides
  pub nulls : nullability_of v ≡ either (nullability_of a) (nullability_of b)
