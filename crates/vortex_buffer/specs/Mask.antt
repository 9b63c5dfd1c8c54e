use Rattle.std.specs.Prelude.{ℕ, Bool, true, false, List, replicate, map, ◌==◌}
use Rattle.std.specs.List.{list_any, range_with_len}
use Rattle.vortex_buffer.specs.declared.mask.Mask.{Mask}
use Rattle.vortex_buffer.specs.declared.mask.Mask.TheVariants.{AllTrue, AllFalse, Values}

-- the bits of a mask
abbrev pub mask_bits : Mask → List Bool
mask_bits (AllTrue len) = replicate len true
mask_bits (AllFalse len) = replicate len false
mask_bits (Values bits) = bits

-- so many bits, of which bit i is set exactly where i is among the places
unfoldable pub bits_at : ℕ → List ℕ → List Bool
bits_at len places = map (λ i. list_any (λ place. place == i) places) (range_with_len 0 len)
