-- How orderly planners and morsels behave, whatever is delivered to them.
use Rattle.std.specs.Prelude.{◌≡◌, ◌≢◌, ℕ, ◌+◌, ◌<◌, ◌≤◌, ◌==◌, Bool, true, false, not, IsTrue, List, [], ◌∷◌, ◌++◌, map, filter, Result, Ok, Err}
use Rattle.vortex_io.specs.Source.{Agrees, Content, is_fetch, is_of_kind}
use Rattle.vortex_io.specs.declared.ids.IoRequestId.{IoRequestId}
use Rattle.vortex_io.specs.declared.request.IoRequest.{IoRequest}
use Rattle.vortex_io.specs.declared.request.IoResult.{IoResult}
use Rattle.vortex_scan.specs.declared.state.State.{State}
use Rattle.vortex_scan.specs.declared.state.State.TheVariants as state
use Rattle.vortex_scan.specs.declared.state.PlannerOutput.{PlannerOutput}
use Rattle.vortex_scan.specs.declared.state.PlannerOutput.TheVariants as planner
use Rattle.vortex_scan.specs.declared.state.MorselOutput.{MorselOutput}
use Rattle.vortex_scan.specs.declared.state.MorselOutput.TheVariants as morsel
use Rattle.vortex_scan.specs.Numbers.{repeats}

-- the numbers of requests
abbrev pub request_numbers : List IoRequest → List ℕ
request_numbers requests = map (λ (request : IoRequest). request.request.0) requests

-- whether a request has another number
abbrev pub is_other : IoRequestId → IoRequest → Bool
is_other number request = not (request.request.0 == number.0)

-- whether a request has this number
abbrev pub has_number : IoRequestId → IoRequest → Bool
has_number number request = request.request.0 == number.0

-- what is asked after a batch: its fetches join
abbrev pub asked_with : List IoRequest → List IoRequest → List IoRequest
asked_with asked batch = asked ++ filter is_fetch batch

-- a published batch is not empty, and the numbers of its fetches are new and distinct
pub record PublishesAnew (asked batch : List IoRequest) : Type 0 where
  pub some : batch ≢ []
  pub numbers : repeats (request_numbers (asked_with asked batch)) ≡ false

-- one computation of an orderly morsel: what is asked, what work is left, whether it waits
abbrev pub MorselGoesOn : MorselOutput → List IoRequest → List IoRequest → ℕ → ℕ → State → Type 0
MorselGoesOn morsel.Done asked asked' work work' shown = asked' ≡ asked
MorselGoesOn morsel.Continue asked asked' work work' shown = (asked' ≡ asked) × (work' < work) × (shown ≢ state.Waiting)
MorselGoesOn (morsel.NeedsIO batch) asked asked' work work' shown = PublishesAnew asked batch × (asked' ≡ asked_with asked batch) × (work' < work)
MorselGoesOn (morsel.Batch array) asked asked' work work' shown = (array.rows ≢ 0) × (asked' ≡ asked) × (work' < work) × (shown ≢ state.Waiting)

-- the rules of orderly morsels
pub record MorselIsOrderly {M C E V : Type 0} (means : C → V) (takes : M → IoRequestId → IoResult C → M → Type 0) (state_is : M → State)
    (computes : M → Result MorselOutput E → M → Type 0) (orderly : M → Type 0) (asked : M → List IoRequest) (work : M → ℕ) (is_memory : E → Bool) (permits : M → Content C → E → Type 0) : Type 0 where
  pub some_work : (it : M) → orderly it → 0 < work it
  pub waits : (it : M) → orderly it → state_is it ≡ state.Waiting → asked it ≢ []
  pub goes_on : (old : M) (output : MorselOutput) (new : M) → orderly old → computes old (Ok output) new
      → orderly new × MorselGoesOn output (asked old) (asked new) (work old) (work new) (state_is new)
  pub delivers : (old : M) (number : IoRequestId) (request : IoRequest) (outcome : IoResult C) (new : M) → orderly old
      → filter (has_number number) (asked old) ≡ request ∷ [] → IsTrue (is_of_kind request.target outcome) → takes old number outcome new
      → orderly new × (asked new ≡ filter (is_other number) (asked old)) × (work new ≤ work old) × (state_is old ≢ state.Waiting → state_is new ≢ state.Waiting)
  pub memory : (it : M) (content : Content C) (error : E) → orderly it → is_memory error ≡ true → permits it content error
  pub fails : (old : M) (error : E) (new : M) → orderly old → computes old (Err error) new → (content : Content C) → permits old content error
  pub permits_less : (old : M) (output : MorselOutput) (new : M) (content : Content C) (error : E) → orderly old → computes old (Ok output) new → permits new content error → permits old content error
  pub permits_given : (old : M) (number : IoRequestId) (request : IoRequest) (outcome : IoResult C) (new : M) (content : Content C) (error : E) → orderly old
      → filter (has_number number) (asked old) ≡ request ∷ [] → Agrees means content request.target outcome → takes old number outcome new → permits new content error → permits old content error

-- what planners know of their morsels
pub record Children (M C E : Type 0) : Type 1 where
  pub orderly : M → Type 0
  pub asked : M → List IoRequest
  pub work : M → ℕ
  pub permits : M → Content C → E → Type 0
  pub state_is : M → State

-- a child is orderly, has asked nothing and does not wait, and its work and the parent's are together less than the parent's was
abbrev pub IsNewChild : {A : Type 0} → (A → Type 0) → (A → List IoRequest) → (A → State) → (A → ℕ) → A → ℕ → ℕ → Type 0
IsNewChild orderly asked state_is works child work work' = orderly child × (asked child ≡ []) × (state_is child ≢ state.Waiting) × (works child + work' < work)

-- one computation of an orderly planner: what is asked, what work is left, whether it waits
abbrev pub PlannerGoesOn : {P M C E : Type 0} → (P → Type 0) → (P → List IoRequest) → (P → State) → (P → ℕ) → Children M C E
    → PlannerOutput P M → List IoRequest → List IoRequest → ℕ → ℕ → State → Type 0
PlannerGoesOn orderly askeds state_is works morsels planner.Done asked asked' work work' shown = asked' ≡ asked
PlannerGoesOn orderly askeds state_is works morsels planner.Continue asked asked' work work' shown = (asked' ≡ asked) × (work' < work) × (shown ≢ state.Waiting)
PlannerGoesOn orderly askeds state_is works morsels (planner.NeedsIO batch) asked asked' work work' shown = PublishesAnew asked batch × (asked' ≡ asked_with asked batch) × (work' < work)
PlannerGoesOn orderly askeds state_is works morsels (planner.Planner scope child) asked asked' work work' shown =
    IsNewChild orderly askeds state_is works child work work' × (asked' ≡ asked) × (shown ≢ state.Waiting)
PlannerGoesOn orderly askeds state_is works morsels (planner.Morsel scope child) asked asked' work work' shown =
    IsNewChild morsels.orderly morsels.asked morsels.state_is morsels.work child work work' × (asked' ≡ asked) × (shown ≢ state.Waiting)

-- a child is permitted nothing that its parent was not permitted
abbrev pub ChildPermits : {P M C E : Type 0} → (P → Content C → E → Type 0) → (M → Content C → E → Type 0) → PlannerOutput P M → Content C → E → Type 0 → Type 0
ChildPermits planners morsels planner.Done content error permitted = Unit {0}
ChildPermits planners morsels planner.Continue content error permitted = Unit {0}
ChildPermits planners morsels (planner.NeedsIO batch) content error permitted = Unit {0}
ChildPermits planners morsels (planner.Planner scope child) content error permitted = planners child content error → permitted
ChildPermits planners morsels (planner.Morsel scope child) content error permitted = morsels child content error → permitted

-- the rules of orderly planners
pub record PlannerIsOrderly {P M C E V : Type 0} (means : C → V) (takes : P → IoRequestId → IoResult C → P → Type 0) (state_is : P → State)
    (computes : P → Result (PlannerOutput P M) E → P → Type 0) (orderly : P → Type 0) (asked : P → List IoRequest) (work : P → ℕ) (is_memory : E → Bool) (permits : P → Content C → E → Type 0)
    (morsels : Children M C E) : Type 0 where
  pub some_work : (it : P) → orderly it → 0 < work it
  pub waits : (it : P) → orderly it → state_is it ≡ state.Waiting → asked it ≢ []
  pub goes_on : (old : P) (output : PlannerOutput P M) (new : P) → orderly old → computes old (Ok output) new
      → orderly new × PlannerGoesOn orderly asked state_is work morsels output (asked old) (asked new) (work old) (work new) (state_is new)
  pub delivers : (old : P) (number : IoRequestId) (request : IoRequest) (outcome : IoResult C) (new : P) → orderly old
      → filter (has_number number) (asked old) ≡ request ∷ [] → IsTrue (is_of_kind request.target outcome) → takes old number outcome new
      → orderly new × (asked new ≡ filter (is_other number) (asked old)) × (work new ≤ work old) × (state_is old ≢ state.Waiting → state_is new ≢ state.Waiting)
  pub memory : (it : P) (content : Content C) (error : E) → orderly it → is_memory error ≡ true → permits it content error
  pub fails : (old : P) (error : E) (new : P) → orderly old → computes old (Err error) new → (content : Content C) → permits old content error
  pub permits_less : (old : P) (output : PlannerOutput P M) (new : P) (content : Content C) (error : E) → orderly old → computes old (Ok output) new
      → (permits new content error → permits old content error) × ChildPermits permits morsels.permits output content error (permits old content error)
  pub permits_given : (old : P) (number : IoRequestId) (request : IoRequest) (outcome : IoResult C) (new : P) (content : Content C) (error : E) → orderly old
      → filter (has_number number) (asked old) ≡ request ∷ [] → Agrees means content request.target outcome → takes old number outcome new → permits new content error → permits old content error

-- a type whose morsels are never orderly keeps these rules
pub unordered_morsel : {M C E V : Type 0} (means : C → V) (takes : M → IoRequestId → IoResult C → M → Type 0) (state_is : M → State)
    (computes : M → Result MorselOutput E → M → Type 0) (asked : M → List IoRequest) (work : M → ℕ) (is_memory : E → Bool) (permits : M → Content C → E → Type 0)
    → MorselIsOrderly means takes state_is computes (λ _. ⊥) asked work is_memory permits
unordered_morsel means takes state_is computes asked work is_memory permits = record {
  some_work = λ it o. absurd o;
  waits = λ it o. absurd o;
  goes_on = λ old output new o. absurd o;
  delivers = λ old number request outcome new o. absurd o;
  memory = λ it content error o. absurd o;
  fails = λ old error new o. absurd o;
  permits_less = λ old output new content error o. absurd o;
  permits_given = λ old number request outcome new content error o. absurd o;
}

-- a type whose planners are never orderly keeps these rules
pub unordered_planner : {P M C E V : Type 0} (means : C → V) (takes : P → IoRequestId → IoResult C → P → Type 0) (state_is : P → State)
    (computes : P → Result (PlannerOutput P M) E → P → Type 0) (asked : P → List IoRequest) (work : P → ℕ) (is_memory : E → Bool) (permits : P → Content C → E → Type 0)
    (morsels : Children M C E) → PlannerIsOrderly means takes state_is computes (λ _. ⊥) asked work is_memory permits morsels
unordered_planner means takes state_is computes asked work is_memory permits morsels = record {
  some_work = λ it o. absurd o;
  waits = λ it o. absurd o;
  goes_on = λ old output new o. absurd o;
  delivers = λ old number request outcome new o. absurd o;
  memory = λ it content error o. absurd o;
  fails = λ old error new o. absurd o;
  permits_less = λ old output new content error o. absurd o;
  permits_given = λ old number request outcome new content error o. absurd o;
}
