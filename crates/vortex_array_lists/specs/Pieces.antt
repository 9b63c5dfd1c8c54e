-- Lists of bytes in one list of bytes, by where each of them ends.
use Rattle.std.specs.Prelude.{ℕ, zero, suc, ◌≤◌, ◌≡◌, List, [], ◌∷◌, slice_range}

-- the pieces of the bytes that end at `ends`, the first from `start` on
abbrev pub pieces : List ℕ → ℕ → List ℕ → List (List ℕ)
pieces bytes start [] = []
pieces bytes start (e ∷ es) = slice_range bytes start e ∷ pieces bytes e es

-- the ends ascend from `start` to n
abbrev pub IsChain : ℕ → List ℕ → ℕ → Type 0
IsChain start [] n = start ≡ n
IsChain start (e ∷ es) n = (start ≤ e) × IsChain e es n

-- where piece i begins
abbrev pub start_at : ℕ → List ℕ → ℕ → ℕ
start_at start [] i = start
start_at start (e ∷ es) zero = start
start_at start (e ∷ es) (suc i) = start_at e es i
