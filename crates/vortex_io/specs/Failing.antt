-- What contracts see of a source that fails at listed calls, and what each of its calls does.
use Rattle.std.specs.Prelude.{◌≡◌, ℕ, ◌==◌, Bool, MatchBool, Result, Err, List}
use Rattle.std.specs.List.{list_any}
use Rattle.vortex_buffer.specs.Counts.{one_more}
use Rattle.vortex_io.specs.declared.request.IoError.{IoError}
use Rattle.vortex_io.specs.declared.request.IoError.TheVariants.{Fault}

-- the source inside, the numbers of the calls that fail, the number of the next call, and how often a listed call failed
pub record FailingState (S : Type 0) : Type 0 where
  pub inner : S
  pub failing : List ℕ
  pub calls : ℕ
  pub own : ℕ

-- whether the next call is listed
abbrev pub is_listed : {S : Type 0} → FailingState S → Bool
is_listed s = list_any (λ n. n == s.calls) s.failing

-- a listed call answers a fault and counts it, and leaves the source inside; any other call is that source's
abbrev pub FailsOr : {S T : Type 0} → (S → Result T IoError → S → Type 0) → FailingState S → Result T IoError → FailingState S → Type 0
FailsOr call old result new = MatchBool (is_listed old)
    ((result ≡ Err Fault) × (new ≡ record old { calls = one_more old.calls; own = one_more old.own }))
    ((call old.inner result new.inner) × (new ≡ record old { inner = new.inner; calls = one_more old.calls }))
