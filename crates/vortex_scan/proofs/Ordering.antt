-- How the work of an item behaves, by the rules of orderly planners and morsels.
use Rattle.std.proofs.Common.{◌≡◌, ◌≢◌, ℕ, ◌+◌, ◌<◌, ◌≤◌, List, [], ◌∷◌, refl, sym, subst, ap, IsTrue, Bool, filter, Option, Result, Ok, Err}
use Rattle.vortex_io.specs.Source.{Agrees, Content, is_of_kind}
use Rattle.vortex_io.specs.declared.ids.IoRequestId.{IoRequestId}
use Rattle.vortex_io.specs.declared.request.IoRequest.{IoRequest}
use Rattle.vortex_io.specs.declared.request.IoResult.{IoResult}
use Rattle.vortex_io.specs.declared.request.IoTarget.{IoTarget}
use Rattle.vortex_scan.specs.declared.state.MorselOutput.{MorselOutput}
use Rattle.vortex_scan.specs.declared.state.MorselOutput.TheVariants as morsel
use Rattle.vortex_scan.specs.declared.state.Output.{Output}
use Rattle.vortex_scan.specs.declared.state.Output.TheVariants as output
use Rattle.vortex_scan.specs.declared.state.PlannerOutput.{PlannerOutput}
use Rattle.vortex_scan.specs.declared.state.PlannerOutput.TheVariants as planner
use Rattle.vortex_scan.specs.declared.state.State.{State}
use Rattle.vortex_scan.specs.declared.state.State.TheVariants as state
use Rattle.vortex_scan.specs.declared.worker.Work.{Work}
use Rattle.vortex_scan.specs.declared.worker.Work.TheVariants as work
use Rattle.vortex_scan.specs.declared.worker.Worker.{Ghosts as Works}
use Rattle.vortex_scan.specs.Orderly.{ChildPermits, Children, MorselGoesOn, MorselIsOrderly, PlannerGoesOn, PlannerIsOrderly, PublishesAnew, asked_with, has_number, is_other}
use Rattle.vortex_scan.specs.Works.{WorkComputes, WorkIs, WorkPermits, WorkTakes, of_morsel, of_planner, work_asked, work_bound, work_names, work_state}

-- one computation of orderly work: what is asked, what work is left, whether it waits
abbrev pub OutputGoesOn : {W C E : Type 0} → Works W C E → Output W → List IoRequest → List IoRequest → ℕ → ℕ → State → Type 0
OutputGoesOn works output.Done asked asked' left left' shown = asked' ≡ asked
OutputGoesOn works output.Continue asked asked' left left' shown = (asked' ≡ asked) × (left' < left) × (shown ≢ state.Waiting)
OutputGoesOn works (output.NeedsIO batch) asked asked' left left' shown = PublishesAnew asked batch × (asked' ≡ asked_with asked batch) × (left' < left)
OutputGoesOn works (output.Child scope child) asked asked' left left' shown =
    (works.orderly child × (works.asked child ≡ []) × (works.state_is child ≢ state.Waiting) × (works.work child + left' < left)) × (asked' ≡ asked) × (shown ≢ state.Waiting)
OutputGoesOn works (output.Batch array) asked asked' left left' shown = (array.rows ≢ 0) × (asked' ≡ asked) × (left' < left) × (shown ≢ state.Waiting)

-- a child is permitted nothing that its parent was not permitted
abbrev pub OutputPermits : {W C E : Type 0} → Works W C E → Output W → Content C → E → Type 0 → Type 0
OutputPermits works output.Done content failure permitted = Unit {0}
OutputPermits works output.Continue content failure permitted = Unit {0}
OutputPermits works (output.NeedsIO batch) content failure permitted = Unit {0}
OutputPermits works (output.Child scope child) content failure permitted = works.permits child content failure → permitted
OutputPermits works (output.Batch array) content failure permitted = Unit {0}

-- the rules of orderly work
pub record WorkIsOrderly {W C E V : Type 0} (means : C → V) (works : Works W C E) : Type 0 where
  pub some_work : (it : W) → works.orderly it → 0 < works.work it
  pub waits : (it : W) → works.orderly it → works.state_is it ≡ state.Waiting → works.asked it ≢ []
  pub goes_on : (old : W) (out : Output W) (new : W) → works.orderly old → works.computes old (Ok out) new
      → works.orderly new × OutputGoesOn works out (works.asked old) (works.asked new) (works.work old) (works.work new) (works.state_is new)
  pub delivers : (old : W) (number : IoRequestId) (request : IoRequest) (outcome : IoResult C) (new : W) → works.orderly old
      → filter (has_number number) (works.asked old) ≡ request ∷ [] → IsTrue (is_of_kind request.target outcome) → works.takes old number outcome new
      → works.orderly new × (works.asked new ≡ filter (is_other number) (works.asked old)) × (works.work new ≤ works.work old) × (works.state_is old ≢ state.Waiting → works.state_is new ≢ state.Waiting)
  pub fails : (old : W) (failure : E) (new : W) → works.orderly old → works.computes old (Err failure) new → (content : Content C) → works.permits old content failure
  pub permits_less : (old : W) (out : Output W) (new : W) (content : Content C) (failure : E) → works.orderly old → works.computes old (Ok out) new
      → (works.permits new content failure → works.permits old content failure) × OutputPermits works out content failure (works.permits old content failure)
  pub permits_given : (old : W) (number : IoRequestId) (request : IoRequest) (outcome : IoResult C) (new : W) (content : Content C) (failure : E) → works.orderly old
      → filter (has_number number) (works.asked old) ≡ request ∷ [] → Agrees means content request.target outcome → works.takes old number outcome new → works.permits new content failure → works.permits old content failure

ok_same : {A E : Type 0} (a b : A) → (let one : Result A E = Ok a in one) ≡ Ok b → a ≡ b
ok_same a b e = cc

module _ {P M C E V : Type 0} (means : C → V) (planner_takes : P → IoRequestId → IoResult C → P → Type 0) (morsel_takes : M → IoRequestId → IoResult C → M → Type 0)
    (planner_names : P → IoRequestId → Option IoTarget) (morsel_names : M → IoRequestId → Option IoTarget) (planner_state : P → State) (morsel_state : M → State)
    (planner_computes : P → Result (PlannerOutput P M) E → P → Type 0) (morsel_computes : M → Result MorselOutput E → M → Type 0)
    (planner_orderly : P → Type 0) (morsel_orderly : M → Type 0) (planner_asked : P → List IoRequest) (morsel_asked : M → List IoRequest) (planner_work : P → ℕ) (morsel_work : M → ℕ)
    (is_memory is_memory' : E → Bool)
    (planner_permits : P → Content C → E → Type 0) (morsel_permits : M → Content C → E → Type 0) where
  abbrev pub works_of : Works (Work P M) C E
  works_of = record {
    state_is = work_state planner_state morsel_state;
    computes = WorkComputes planner_computes morsel_computes;
    takes = WorkTakes planner_takes morsel_takes;
    names = work_names planner_names morsel_names;
    orderly = WorkIs planner_orderly morsel_orderly;
    asked = work_asked planner_asked morsel_asked;
    work = work_bound planner_work morsel_work;
    permits = WorkPermits planner_permits morsel_permits;
  }

  abbrev children : Children M C E
  children = record { orderly = morsel_orderly; asked = morsel_asked; work = morsel_work; permits = morsel_permits; state_is = morsel_state }

  planner_on : (own : PlannerOutput P M) (out : Output (Work P M)) (asked asked' : List IoRequest) (left left' : ℕ) (shown : State) → Ok out ≡ of_planner {P = P} {M = M} {E = E} (Ok own)
      → PlannerGoesOn planner_orderly planner_asked planner_state planner_work children own asked asked' left left' shown → OutputGoesOn works_of out asked asked' left left' shown
  planner_on planner.Done out asked asked' left left' shown e g = let is : out ≡ output.Done = ok_same out (output.Done) e in rw is g
  planner_on planner.Continue out asked asked' left left' shown e g = let is : out ≡ output.Continue = ok_same out (output.Continue) e in rw is g
  planner_on (planner.NeedsIO batch) out asked asked' left left' shown e g = let is : out ≡ output.NeedsIO batch = ok_same out (output.NeedsIO batch) e in rw is g
  planner_on (planner.Planner scope child) out asked asked' left left' shown e g = let is : out ≡ output.Child scope (work.Planner child) = ok_same out (output.Child scope (work.Planner child)) e in rw is g
  planner_on (planner.Morsel scope child) out asked asked' left left' shown e g = let is : out ≡ output.Child scope (work.Morsel child) = ok_same out (output.Child scope (work.Morsel child)) e in rw is g

  morsel_on : (own : MorselOutput) (out : Output (Work P M)) (asked asked' : List IoRequest) (left left' : ℕ) (shown : State) → Ok out ≡ of_morsel {P = P} {M = M} {E = E} (Ok own)
      → MorselGoesOn own asked asked' left left' shown → OutputGoesOn works_of out asked asked' left left' shown
  morsel_on morsel.Done out asked asked' left left' shown e g = let is : out ≡ output.Done = ok_same out (output.Done) e in rw is g
  morsel_on morsel.Continue out asked asked' left left' shown e g = let is : out ≡ output.Continue = ok_same out (output.Continue) e in rw is g
  morsel_on (morsel.NeedsIO batch) out asked asked' left left' shown e g = let is : out ≡ output.NeedsIO batch = ok_same out (output.NeedsIO batch) e in rw is g
  morsel_on (morsel.Batch array) out asked asked' left left' shown e g = let is : out ≡ output.Batch array = ok_same out (output.Batch array) e in rw is g

  planner_child : (own : PlannerOutput P M) (out : Output (Work P M)) (content : Content C) (failure : E) (permitted : Type 0) → Ok out ≡ of_planner {P = P} {M = M} {E = E} (Ok own)
      → ChildPermits planner_permits morsel_permits own content failure permitted → OutputPermits works_of out content failure permitted
  planner_child planner.Done out content failure permitted e g = let is : out ≡ output.Done = ok_same out (output.Done) e in rw is tt
  planner_child planner.Continue out content failure permitted e g = let is : out ≡ output.Continue = ok_same out (output.Continue) e in rw is tt
  planner_child (planner.NeedsIO batch) out content failure permitted e g = let is : out ≡ output.NeedsIO batch = ok_same out (output.NeedsIO batch) e in rw is tt
  planner_child (planner.Planner scope child) out content failure permitted e g = let is : out ≡ output.Child scope (work.Planner child) = ok_same out (output.Child scope (work.Planner child)) e in rw is g
  planner_child (planner.Morsel scope child) out content failure permitted e g = let is : out ≡ output.Child scope (work.Morsel child) = ok_same out (output.Child scope (work.Morsel child)) e in rw is g

  morsel_child : (own : MorselOutput) (out : Output (Work P M)) (content : Content C) (failure : E) (permitted : Type 0) → Ok out ≡ of_morsel {P = P} {M = M} {E = E} (Ok own) → OutputPermits works_of out content failure permitted
  morsel_child morsel.Done out content failure permitted e = let is : out ≡ output.Done = ok_same out (output.Done) e in rw is tt
  morsel_child morsel.Continue out content failure permitted e = let is : out ≡ output.Continue = ok_same out (output.Continue) e in rw is tt
  morsel_child (morsel.NeedsIO batch) out content failure permitted e = let is : out ≡ output.NeedsIO batch = ok_same out (output.NeedsIO batch) e in rw is tt
  morsel_child (morsel.Batch array) out content failure permitted e = let is : out ≡ output.Batch array = ok_same out (output.Batch array) e in rw is tt

  -- what a planner or a morsel itself answered
  own_planner : (out : Output (Work P M)) (own : Result (PlannerOutput P M) E) → Ok out ≡ of_planner own → (answer : PlannerOutput P M) × (own ≡ Ok answer)
  own_planner out (Ok answer) e = (answer, refl)
  own_planner out (Err failure) e = absurd (cc)

  own_morsel : (out : Output (Work P M)) (own : Result MorselOutput E) → Ok out ≡ of_morsel {P = P} {M = M} own → (answer : MorselOutput) × (own ≡ Ok answer)
  own_morsel out (Ok answer) e = (answer, refl)
  own_morsel out (Err failure) e = absurd (cc)

  planner_failed : (failure : E) (own : Result (PlannerOutput P M) E) → Err failure ≡ of_planner own → own ≡ Err failure
  planner_failed failure (Ok planner.Done) e = absurd (cc)
  planner_failed failure (Ok planner.Continue) e = absurd (cc)
  planner_failed failure (Ok (planner.NeedsIO batch)) e = absurd (cc)
  planner_failed failure (Ok (planner.Planner scope child)) e = absurd (cc)
  planner_failed failure (Ok (planner.Morsel scope child)) e = absurd (cc)
  planner_failed failure (Err other) e = let same : failure ≡ other = cc in ap (λ z. Err z) (sym same)

  morsel_failed : (failure : E) (own : Result MorselOutput E) → Err failure ≡ of_morsel {P = P} {M = M} own → own ≡ Err failure
  morsel_failed failure (Ok morsel.Done) e = absurd (cc)
  morsel_failed failure (Ok morsel.Continue) e = absurd (cc)
  morsel_failed failure (Ok (morsel.NeedsIO batch)) e = absurd (cc)
  morsel_failed failure (Ok (morsel.Batch array)) e = absurd (cc)
  morsel_failed failure (Err other) e = let same : failure ≡ other = cc in ap (λ z. Err z) (sym same)

  some_by : PlannerIsOrderly means planner_takes planner_state planner_computes planner_orderly planner_asked planner_work is_memory planner_permits children
      → MorselIsOrderly means morsel_takes morsel_state morsel_computes morsel_orderly morsel_asked morsel_work is_memory' morsel_permits
      → (it : Work P M) → WorkIs planner_orderly morsel_orderly it → 0 < work_bound planner_work morsel_work it
  some_by p m (work.Planner it) o = p.some_work it o
  some_by p m (work.Morsel it) o = m.some_work it o

  waits_by : PlannerIsOrderly means planner_takes planner_state planner_computes planner_orderly planner_asked planner_work is_memory planner_permits children
      → MorselIsOrderly means morsel_takes morsel_state morsel_computes morsel_orderly morsel_asked morsel_work is_memory' morsel_permits
      → (it : Work P M) → WorkIs planner_orderly morsel_orderly it → work_state planner_state morsel_state it ≡ state.Waiting → work_asked planner_asked morsel_asked it ≢ []
  waits_by p m (work.Planner it) o e = p.waits it o e
  waits_by p m (work.Morsel it) o e = m.waits it o e

  goes_by : PlannerIsOrderly means planner_takes planner_state planner_computes planner_orderly planner_asked planner_work is_memory planner_permits children
      → MorselIsOrderly means morsel_takes morsel_state morsel_computes morsel_orderly morsel_asked morsel_work is_memory' morsel_permits
      → (old : Work P M) (out : Output (Work P M)) (new : Work P M) → WorkIs planner_orderly morsel_orderly old → WorkComputes planner_computes morsel_computes old (Ok out) new
      → WorkIs planner_orderly morsel_orderly new × OutputGoesOn works_of out (work_asked planner_asked morsel_asked old) (work_asked planner_asked morsel_asked new) (work_bound planner_work morsel_work old) (work_bound planner_work morsel_work new)
      (work_state planner_state morsel_state new)
  goes_by p m (work.Planner old) out (work.Planner new) o c =
      let own = own_planner out c.0 c.2 in
      let g = p.goes_on old own.0 new o (subst (λ z. planner_computes old z new) own.1 c.1) in
      (g.0, planner_on own.0 out (planner_asked old) (planner_asked new) (planner_work old) (planner_work new) (planner_state new) (subst (λ z. Ok out ≡ of_planner z) own.1 c.2) g.1)
  goes_by p m (work.Morsel old) out (work.Morsel new) o c =
      let own = own_morsel out c.0 c.2 in
      let g = m.goes_on old own.0 new o (subst (λ z. morsel_computes old z new) own.1 c.1) in
      (g.0, morsel_on own.0 out (morsel_asked old) (morsel_asked new) (morsel_work old) (morsel_work new) (morsel_state new) (subst (λ z. Ok out ≡ of_morsel {P = P} {M = M} z) own.1 c.2) g.1)
  goes_by p m (work.Planner old) out (work.Morsel new) o c = absurd c
  goes_by p m (work.Morsel old) out (work.Planner new) o c = absurd c

  delivers_by : PlannerIsOrderly means planner_takes planner_state planner_computes planner_orderly planner_asked planner_work is_memory planner_permits children
      → MorselIsOrderly means morsel_takes morsel_state morsel_computes morsel_orderly morsel_asked morsel_work is_memory' morsel_permits
      → (old : Work P M) (number : IoRequestId) (request : IoRequest) (outcome : IoResult C) (new : Work P M) → WorkIs planner_orderly morsel_orderly old
      → filter (has_number number) (work_asked planner_asked morsel_asked old) ≡ request ∷ [] → IsTrue (is_of_kind request.target outcome) → WorkTakes planner_takes morsel_takes old number outcome new
      → WorkIs planner_orderly morsel_orderly new × (work_asked planner_asked morsel_asked new ≡ filter (is_other number) (work_asked planner_asked morsel_asked old)) × (work_bound planner_work morsel_work new ≤ work_bound planner_work morsel_work old)
      × (work_state planner_state morsel_state old ≢ state.Waiting → work_state planner_state morsel_state new ≢ state.Waiting)
  delivers_by p m (work.Planner old) number request outcome (work.Planner new) o one kind t = p.delivers old number request outcome new o one kind t
  delivers_by p m (work.Morsel old) number request outcome (work.Morsel new) o one kind t = m.delivers old number request outcome new o one kind t
  delivers_by p m (work.Planner old) number request outcome (work.Morsel new) o one kind t = absurd t
  delivers_by p m (work.Morsel old) number request outcome (work.Planner new) o one kind t = absurd t

  fails_by : PlannerIsOrderly means planner_takes planner_state planner_computes planner_orderly planner_asked planner_work is_memory planner_permits children
      → MorselIsOrderly means morsel_takes morsel_state morsel_computes morsel_orderly morsel_asked morsel_work is_memory' morsel_permits
      → (old : Work P M) (failure : E) (new : Work P M) → WorkIs planner_orderly morsel_orderly old → WorkComputes planner_computes morsel_computes old (Err failure) new → (content : Content C) → WorkPermits planner_permits morsel_permits old content failure
  fails_by p m (work.Planner old) failure (work.Planner new) o c content = p.fails old failure new o (subst (λ z. planner_computes old z new) (planner_failed failure c.0 c.2) c.1) content
  fails_by p m (work.Morsel old) failure (work.Morsel new) o c content = m.fails old failure new o (subst (λ z. morsel_computes old z new) (morsel_failed failure c.0 c.2) c.1) content
  fails_by p m (work.Planner old) failure (work.Morsel new) o c content = absurd c
  fails_by p m (work.Morsel old) failure (work.Planner new) o c content = absurd c

  less_by : PlannerIsOrderly means planner_takes planner_state planner_computes planner_orderly planner_asked planner_work is_memory planner_permits children
      → MorselIsOrderly means morsel_takes morsel_state morsel_computes morsel_orderly morsel_asked morsel_work is_memory' morsel_permits
      → (old : Work P M) (out : Output (Work P M)) (new : Work P M) (content : Content C) (failure : E) → WorkIs planner_orderly morsel_orderly old → WorkComputes planner_computes morsel_computes old (Ok out) new
      → (WorkPermits planner_permits morsel_permits new content failure → WorkPermits planner_permits morsel_permits old content failure) × OutputPermits works_of out content failure (WorkPermits planner_permits morsel_permits old content failure)
  less_by p m (work.Planner old) out (work.Planner new) content failure o c =
      let own = own_planner out c.0 c.2 in
      let g = p.permits_less old own.0 new content failure o (subst (λ z. planner_computes old z new) own.1 c.1) in
      (g.0, planner_child own.0 out content failure (planner_permits old content failure) (subst (λ z. Ok out ≡ of_planner z) own.1 c.2) g.1)
  less_by p m (work.Morsel old) out (work.Morsel new) content failure o c =
      let own = own_morsel out c.0 c.2 in
      let g = m.permits_less old own.0 new content failure o (subst (λ z. morsel_computes old z new) own.1 c.1) in
      (g, morsel_child own.0 out content failure (morsel_permits old content failure) (subst (λ z. Ok out ≡ of_morsel {P = P} {M = M} z) own.1 c.2))
  less_by p m (work.Planner old) out (work.Morsel new) content failure o c = absurd c
  less_by p m (work.Morsel old) out (work.Planner new) content failure o c = absurd c

  given_by : PlannerIsOrderly means planner_takes planner_state planner_computes planner_orderly planner_asked planner_work is_memory planner_permits children
      → MorselIsOrderly means morsel_takes morsel_state morsel_computes morsel_orderly morsel_asked morsel_work is_memory' morsel_permits
      → (old : Work P M) (number : IoRequestId) (request : IoRequest) (outcome : IoResult C) (new : Work P M) (content : Content C) (failure : E) → WorkIs planner_orderly morsel_orderly old
      → filter (has_number number) (work_asked planner_asked morsel_asked old) ≡ request ∷ [] → Agrees means content request.target outcome → WorkTakes planner_takes morsel_takes old number outcome new
      → WorkPermits planner_permits morsel_permits new content failure → WorkPermits planner_permits morsel_permits old content failure
  given_by p m (work.Planner old) number request outcome (work.Planner new) content failure o one agrees t permits = p.permits_given old number request outcome new content failure o one agrees t permits
  given_by p m (work.Morsel old) number request outcome (work.Morsel new) content failure o one agrees t permits = m.permits_given old number request outcome new content failure o one agrees t permits
  given_by p m (work.Planner old) number request outcome (work.Morsel new) content failure o one agrees t permits = absurd t
  given_by p m (work.Morsel old) number request outcome (work.Planner new) content failure o one agrees t permits = absurd t

  -- where planners and morsels keep the rules of orderly ones, their work does
  pub work_orderly : PlannerIsOrderly means planner_takes planner_state planner_computes planner_orderly planner_asked planner_work is_memory planner_permits children
      → MorselIsOrderly means morsel_takes morsel_state morsel_computes morsel_orderly morsel_asked morsel_work is_memory' morsel_permits
      → WorkIsOrderly means works_of
  work_orderly p m = record { some_work = some_by p m; waits = waits_by p m; goes_on = goes_by p m; delivers = delivers_by p m; fails = fails_by p m; permits_less = less_by p m; permits_given = given_by p m }
