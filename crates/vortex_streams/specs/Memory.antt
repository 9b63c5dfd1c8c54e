-- What contracts see of the streams in memory.
use Rattle.std.specs.Prelude.{◌==◌, ◌&&◌, ◌||◌, Bool, nat_lt, List, ℕ, length}
use Rattle.std.specs.List.{list_any}

-- an input in memory: its bytes that are left, the number of its next call, the numbers of the calls that fail, and how often one failed
pub record Input : Type 0 where
  pub left : List ℕ
  pub calls : ℕ
  pub failing : List ℕ
  pub faults : ℕ

-- an output in memory: the bytes that it took, its room for bytes, the number of its next call, the numbers of the calls that fail, and
-- how often one failed
pub record Output : Type 0 where
  pub taken : List ℕ
  pub room : ℕ
  pub calls : ℕ
  pub failing : List ℕ
  pub faults : ℕ

-- a call of this number is listed
abbrev pub is_listed : List ℕ → ℕ → Bool
is_listed failing call = list_any (λ n. n == call) failing

-- a write of so many bytes is refused: its call is listed, or it has bytes and no room is left
abbrev pub is_refused : Output → ℕ → Bool
is_refused output size = is_listed output.failing output.calls || ((length output.taken == output.room) && nat_lt 0 size)
