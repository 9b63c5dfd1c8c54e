-- The unscaled numbers that the fields of decimals spell.
use Rattle.std.specs.Prelude.{ℕ, ℤ, pos, int_le, unsigned_abs, ◌+◌, ◌-◌, ◌*◌, ◌^◌, ◌==◌, ◌&&◌, Bool, List, length, take, drop, position, Option, Some, None, option_map, option_and_then, if◌then◌else◌}
use Rattle.vortex_array_types.specs.Digits.{Digits}
use Rattle.vortex_query_fields.specs.Numbers.{below, digits_spelled, is_count, number_after, signed_spelled}

-- digits alone: those behind the point are zeros
abbrev pub unpointed : ℕ → ℕ → List ℕ → Option ℕ
unpointed precision scale whole = below (10 ^ precision) (option_map (λ n. n * 10 ^ scale) (digits_spelled whole))

-- digits before a point, and at least one and at most all of those behind it: missing ones are zeros
abbrev pub pointed : ℕ → ℕ → List ℕ → List ℕ → Option ℕ
pointed precision scale whole part =
    if is_count scale (length part)
    then below (10 ^ precision) (option_map (λ n. n * 10 ^ (scale - length part)) (option_and_then (λ n. number_after n part) (digits_spelled whole)))
    else None

-- the size by the place of the point, if there is one
abbrev pub by_point : ℕ → ℕ → List ℕ → Option ℕ → Option ℕ
by_point precision scale bytes None = unpointed precision scale bytes
by_point precision scale bytes (Some at) = pointed precision scale (take at bytes) (drop (at + 1) bytes)

-- the size of an unscaled number: below 10 ^ precision
abbrev pub size_spelled : ℕ → ℕ → List ℕ → Option ℕ
size_spelled precision scale bytes = by_point precision scale bytes (position (λ b. b == 46) bytes)

-- 0 to 38 digits behind the point
abbrev pub is_scale : ℤ → Bool
is_scale scale = int_le (pos 0) scale && int_le scale (pos 38)

-- an optional '-' and a size; types with another scale have no fields
abbrev pub decimal_spelled : Digits → List ℕ → Option ℤ
decimal_spelled digits field = if is_scale digits.scale then signed_spelled (size_spelled digits.precision (unsigned_abs digits.scale)) field else None
