-- What planners and morsels still fetch, by a plan that they tell.
use Rattle.std.specs.Prelude.{◌≡◌, ◌≢◌, ◌+◌, ◌≤◌, Bool, true, false, List, [], ◌∷◌, map, filter, Option, None, Some, Result, Ok, Err, count_by}
use Rattle.vortex_array.specs.Batch.{BatchParts}
use Rattle.vortex_io.specs.Source.{Agrees, Content, is_fetch}
use Rattle.vortex_io.specs.declared.ids.IoRequestId.{IoRequestId}
use Rattle.vortex_io.specs.declared.request.IoRequest.{IoRequest}
use Rattle.vortex_io.specs.declared.request.IoResult.{IoResult}
use Rattle.vortex_io.specs.declared.request.IoTarget.{IoTarget}
use Rattle.vortex_scan_types.specs.declared.batch.WorkScope.{WorkScope}
use Rattle.vortex_scan.specs.declared.state.State.{State}
use Rattle.vortex_scan.specs.declared.state.State.TheVariants as state
use Rattle.vortex_scan.specs.declared.state.PlannerOutput.{PlannerOutput}
use Rattle.vortex_scan.specs.declared.state.PlannerOutput.TheVariants as planner
use Rattle.vortex_scan.specs.declared.state.MorselOutput.{MorselOutput}
use Rattle.vortex_scan.specs.declared.state.MorselOutput.TheVariants as morsel

-- a morsel that a planner still makes: its scope, and the targets that it may fetch
pub record Planned : Type 0 where
  pub scope : WorkScope
  pub targets : List IoTarget

-- the targets of a batch's fetches
abbrev pub fetched : List IoRequest → List IoTarget
fetched batch = map (λ (request : IoRequest). request.target) (filter is_fetch batch)

-- what is fetched leaves the plan, each target at most as often as the plan had it, and nothing joins
abbrev pub IsSpent : List IoTarget → List IoTarget → List IoTarget → Type 0
IsSpent old targets new = (test : IoTarget → Bool) → count_by test targets + count_by test new ≤ count_by test old

-- whether there is a target
abbrev pub has_targets : List IoTarget → Bool
has_targets [] = false
has_targets (target ∷ targets) = true

-- what an answer takes from a planner's plan: it makes morsels alone, in the plan's order, and ends with none left
abbrev pub PlannerSpends : {P M E : Type 0} → (M → List IoTarget) → List Planned → Result (PlannerOutput P M) E → List Planned → Type 0
PlannerSpends targets old (Ok planner.Done) new = old ≡ []
PlannerSpends targets old (Ok planner.Continue) new = new ≡ old
PlannerSpends targets old (Ok (planner.NeedsIO batch)) new = ⊥
PlannerSpends targets old (Ok (planner.Planner scope child)) new = ⊥
PlannerSpends targets old (Ok (planner.Morsel scope child)) new = old ≡ record { scope = scope; targets = targets child } ∷ new
PlannerSpends targets old (Err error) new = new ≡ old

-- the rules of a planner type that tells a plan; a morsel that it makes is fresh exactly where it has targets over none
pub record PlannerFollowsPlan {P M C E : Type 0} (state_is : P → State) (computes : P → Result (PlannerOutput P M) E → P → Type 0)
    (plan : P → Option (Content C) → List Planned) (targets : M → Option (Content C) → List IoTarget) (fresh : M → Bool) : Type 0 where
  pub spends : (told : Option (Content C)) (old : P) (answer : Result (PlannerOutput P M) E) (new : P) → computes old answer new
      → PlannerSpends (λ child. targets child told) (plan old told) answer (plan new told)
  pub fresh_child : (old : P) (scope : WorkScope) (child : M) (new : P) → computes old (Ok (planner.Morsel scope child)) new → fresh child ≡ has_targets (targets child None)
  pub acts : (it : P) → state_is it ≢ state.Waiting
  pub ends : (told : Option (Content C)) (it : P) → state_is it ≡ state.Done → plan it told ≡ []

-- the targets that an answer of a morsel fetches
abbrev pub answer_fetches : {E : Type 0} → Result MorselOutput E → List IoTarget
answer_fetches (Ok morsel.Done) = []
answer_fetches (Ok morsel.Continue) = []
answer_fetches (Ok (morsel.NeedsIO batch)) = fetched batch
answer_fetches (Ok (morsel.Batch array)) = []
answer_fetches (Err error) = []

-- what is delivered is what a told content has at the target that the number names; over none it may be anything
abbrev pub DeliversAsTold : {C V : Type 0} → (C → V) → Option (Content C) → Option IoTarget → IoResult C → Type 0
DeliversAsTold means None named outcome = Unit {0}
DeliversAsTold means (Some content) None outcome = ⊥
DeliversAsTold means (Some content) (Some target) outcome = Agrees means content target outcome

-- the rules of a morsel type that tells a plan
pub record MorselFollowsPlan {M C E V : Type 0} (means : C → V) (takes : M → IoRequestId → IoResult C → M → Type 0) (names : M → IoRequestId → Option IoTarget)
    (state_is : M → State) (computes : M → Result MorselOutput E → M → Type 0) (plan : M → Option (Content C) → List IoTarget) (fresh : M → Bool) (gives_such : BatchParts → Bool) : Type 0 where
  pub spends : (told : Option (Content C)) (old : M) (answer : Result MorselOutput E) (new : M) → computes old answer new → IsSpent (plan old told) (answer_fetches answer) (plan new told)
  pub delivers : (told : Option (Content C)) (old : M) (number : IoRequestId) (outcome : IoResult C) (new : M) → takes old number outcome new
      → DeliversAsTold means told (names old number) outcome → IsSpent (plan old told) [] (plan new told)
  pub stays_fresh : (old : M) (answer : Result MorselOutput E) (new : M) → computes old answer new → fresh old ≡ true → answer_fetches answer ≡ [] → fresh new ≡ true
  pub given_fresh : (old : M) (number : IoRequestId) (outcome : IoResult C) (new : M) → takes old number outcome new → fresh old ≡ true → fresh new ≡ true
  pub acts : (it : M) → fresh it ≡ true → state_is it ≡ state.NeedsCompute
  pub not_done : (old new : M) → computes old (Ok morsel.Done) new → fresh old ≡ false
  pub gives : (old : M) (array : BatchParts) (new : M) → computes old (Ok (morsel.Batch array)) new → gives_such array ≡ true
