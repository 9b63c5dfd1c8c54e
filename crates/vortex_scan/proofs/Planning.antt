-- The seats of work, by the rules of planners and of morsels that tell a plan.
use Rattle.std.proofs.Common.{◌≡◌, ◌≢◌, ℕ, ◌+◌, List, [], ◌∷◌, ◌++◌, refl, sym, subst, Bool, true, false, Option, None, Result, Ok, Err, arith, ◌⊎◌, ⊎_elim, inl, inr}
use Rattle.std.specs.Prelude.{count_by}
use Rattle.std.specs.List.{AllByRecursion}
use Rattle.vortex_array.specs.Batch.{BatchParts}
use Rattle.vortex_io.specs.Source.{Content}
use Rattle.vortex_io.specs.declared.ids.IoRequestId.{IoRequestId}
use Rattle.vortex_io.specs.declared.request.IoRequest.{IoRequest}
use Rattle.vortex_io.specs.declared.request.IoResult.{IoResult}
use Rattle.vortex_io.specs.declared.request.IoTarget.{IoTarget}
use Rattle.vortex_scan_types.specs.declared.batch.WorkScope.{WorkScope}
use Rattle.vortex_scan.specs.declared.state.MorselOutput.{MorselOutput}
use Rattle.vortex_scan.specs.declared.state.MorselOutput.TheVariants as morsel
use Rattle.vortex_scan.specs.declared.state.Output.{Output}
use Rattle.vortex_scan.specs.declared.state.Output.TheVariants as output
use Rattle.vortex_scan.specs.declared.state.PlannerOutput.{PlannerOutput}
use Rattle.vortex_scan.specs.declared.state.PlannerOutput.TheVariants as planner
use Rattle.vortex_scan.specs.declared.state.State.{State}
use Rattle.vortex_scan.specs.declared.state.State.TheVariants as state
use Rattle.vortex_scan.specs.declared.worker.Work.{Work}
use Rattle.vortex_scan.specs.declared.worker.Work.TheVariants as work
use Rattle.vortex_scan.specs.declared.worker.Worker.{Ghosts as Works}
use Rattle.vortex_scan.specs.Plans.{DeliversAsTold, IsSpent, MorselFollowsPlan, Planned, PlannerFollowsPlan, answer_fetches, fetched}
use Rattle.vortex_scan.specs.Seats.{IsLess, IsMorsel, Seat, Seating, SomeByRecursion, planned_seats, work_seats}
use Rattle.vortex_scan.specs.Works.{WorkComputes, WorkTakes, of_morsel, of_planner, work_names, work_state}
use Rattle.vortex_scan.proofs.Passing.{Passes, fetched_head, passes_same, spent_flat}

-- a seat of this place and scope
abbrev pub IsSeat : List ℕ → WorkScope → Seat → Type 0
IsSeat place scope seat = (place ≡ seat.place) × (scope ≡ seat.scope)

-- no seat is fresh
abbrev pub AreOld : List Seat → Type 0
AreOld seats = AllByRecursion (λ (seat : Seat). seat.fresh ≡ false) seats

-- what an answer makes of the seats of work, whether it is a planner's or a morsel's; what is done leaves, and a child takes the first seats with it
abbrev pub OutputPasses : {W C E : Type 0} → Seating W C → (BatchParts → Bool) → Option (Content C) → List ℕ → ℕ → WorkScope → W → Result (Output W) E → W → Type 0
OutputPasses seating gives_such told path next scope old (Ok output.Done) new = AreOld (seating told path next scope old)
OutputPasses seating gives_such told path next scope old (Ok output.Continue) new = Passes (seating told path next scope old) [] (seating told path next scope new)
OutputPasses seating gives_such told path next scope old (Ok (output.NeedsIO batch)) new = Passes (seating told path next scope old) (fetched batch) (seating told path next scope new)
OutputPasses seating gives_such told path next scope old (Ok (output.Child other child)) new = seating told path next scope old ≡ seating told (path ++ next ∷ []) 0 other child ++ seating told path (next + 1) scope new
OutputPasses seating gives_such told path next scope old (Ok (output.Batch array)) new =
    Passes (seating told path next scope old) [] (seating told path next scope new) × SomeByRecursion (IsSeat path scope) (seating told path next scope old) × (gives_such array ≡ true)
OutputPasses seating gives_such told path next scope old (Err error) new = Unit {0}

-- the rules of work that tells its seats
pub record WorkPlans {W C E V : Type 0} (means : C → V) (works : Works W C E) (seating : Seating W C) (gives_such : BatchParts → Bool) (publishes : W → Type 0) : Type 0 where
  pub passes : (told : Option (Content C)) (path : List ℕ) (next : ℕ) (scope : WorkScope) (old : W) (answer : Result (Output W) E) (new : W) → works.computes old answer new → OutputPasses seating gives_such told path next scope old answer new
  pub delivers : (told : Option (Content C)) (path : List ℕ) (next : ℕ) (scope : WorkScope) (old : W) (number : IoRequestId) (outcome : IoResult C) (new : W) → publishes old → works.takes old number outcome new
      → DeliversAsTold means told (works.names old number) outcome → Passes (seating told path next scope old) [] (seating told path next scope new)
  pub acts : (told : Option (Content C)) (path : List ℕ) (next : ℕ) (scope : WorkScope) (it : W) → works.state_is it ≢ state.NeedsCompute → AreOld (seating told path next scope it)
  pub asks : (old : W) (batch : List IoRequest) (new : W) → works.computes old (Ok (output.NeedsIO batch)) new → publishes old
  pub computes_on : (old : W) (answer : Result (Output W) E) (new : W) → works.computes old answer new → publishes old → publishes new
  pub takes_on : (old : W) (number : IoRequestId) (outcome : IoResult C) (new : W) → works.takes old number outcome new → publishes old → publishes new

-- one seat that goes on: its targets leave as they are fetched
one_passes : (was now : Seat) (fetches : List IoTarget) → now.place ≡ was.place → now.scope ≡ was.scope → IsSpent was.targets fetches now.targets → IsSpent was.over_none fetches now.over_none
    → (was.fresh ≡ true → fetches ≡ [] → now.fresh ≡ true) → Passes (was ∷ []) fetches (now ∷ [])
one_passes was now fetches place scope targets over_none fresh =
    let fewer : (a b : List IoTarget) → IsSpent a fetches b → IsSpent a [] b = λ a b s test. let h = s test in let none : count_by test [] ≡ 0 = refl in omega (arith, h, none) in
    let less : IsLess was now = record { place = place; scope = scope; targets = fewer was.targets now.targets targets; over_none = fewer was.over_none now.over_none over_none } in
    record {
      from = (inl less, tt);
      spent = spent_flat was now fetches targets;
      fresh = (λ is. ⊎_elim (λ none. inl (inl (less, fresh is none))) (λ some. inr some) (fetched_head was.over_none now.over_none fetches over_none), tt);
    }

module _ {P M C E V : Type 0} (means : C → V) (planner_takes : P → IoRequestId → IoResult C → P → Type 0) (morsel_takes : M → IoRequestId → IoResult C → M → Type 0)
    (planner_names : P → IoRequestId → Option IoTarget) (morsel_names : M → IoRequestId → Option IoTarget) (planner_state : P → State) (morsel_state : M → State)
    (planner_computes : P → Result (PlannerOutput P M) E → P → Type 0) (morsel_computes : M → Result MorselOutput E → M → Type 0)
    (plan : P → Option (Content C) → List Planned) (targets : M → Option (Content C) → List IoTarget) (fresh : M → Bool) (gives_such : BatchParts → Bool) where
  abbrev Plans' : Type 0
  Plans' = PlannerFollowsPlan planner_state planner_computes plan targets fresh

  abbrev Morsels' : Type 0
  Morsels' = MorselFollowsPlan means morsel_takes morsel_names morsel_state morsel_computes targets fresh gives_such

  abbrev seating : Seating (Work P M) C
  seating = work_seats plan targets fresh

  -- the seats of a planner whose plans are these
  same_plans : (told : Option (Content C)) (path : List ℕ) (next : ℕ) (scope : WorkScope) (old new : P) → plan new told ≡ plan old told → plan new None ≡ plan old None
      → Passes (seating told path next scope (work.Planner old)) [] (seating told path next scope (work.Planner new))
  same_plans told path next scope old new e f = rw (e, f) (passes_same (planned_seats path next (plan old told) (plan old None)))

  of_planner_passes : Plans' → (told : Option (Content C)) (path : List ℕ) (next : ℕ) (scope : WorkScope) (old : P) (own : Result (PlannerOutput P M) E) (new : P) → planner_computes old own new
      → OutputPasses seating gives_such told path next scope (work.Planner old) (of_planner own) (work.Planner new)
  of_planner_passes p told path next scope old (Ok planner.Done) new c = rw (p.spends told old (Ok planner.Done) new c) tt
  of_planner_passes p told path next scope old (Ok planner.Continue) new c = same_plans told path next scope old new (p.spends told old (Ok planner.Continue) new c) (p.spends None old (Ok planner.Continue) new c)
  of_planner_passes p told path next scope old (Ok (planner.NeedsIO batch)) new c = absurd (p.spends told old (Ok (planner.NeedsIO batch)) new c)
  of_planner_passes p told path next scope old (Ok (planner.Planner other child)) new c = absurd (p.spends told old (Ok (planner.Planner other child)) new c)
  of_planner_passes p told path next scope old (Ok (planner.Morsel other child)) new c =
      rw (p.spends told old (Ok (planner.Morsel other child)) new c, p.spends None old (Ok (planner.Morsel other child)) new c, p.fresh_child old other child new c) refl
  of_planner_passes p told path next scope old (Err error) new c = tt

  -- a morsel's one seat goes on
  goes_on : Morsels' → (told : Option (Content C)) (path : List ℕ) (next : ℕ) (scope : WorkScope) (old : M) (own : Result MorselOutput E) (new : M) → morsel_computes old own new
      → Passes (seating told path next scope (work.Morsel old)) (answer_fetches own) (seating told path next scope (work.Morsel new))
  goes_on m told path next scope old own new c =
      one_passes (record { place = path; scope = scope; targets = targets old told; over_none = targets old None; fresh = fresh old })
      (record { place = path; scope = scope; targets = targets new told; over_none = targets new None; fresh = fresh new }) (answer_fetches own) refl refl
      (m.spends told old own new c) (m.spends None old own new c) (λ is none. m.stays_fresh old own new c is none)

  of_morsel_passes : Morsels' → (told : Option (Content C)) (path : List ℕ) (next : ℕ) (scope : WorkScope) (old : M) (own : Result MorselOutput E) (new : M) → morsel_computes old own new
      → OutputPasses seating gives_such told path next scope (work.Morsel old) (of_morsel own) (work.Morsel new)
  of_morsel_passes m told path next scope old (Ok morsel.Done) new c = (m.not_done old new c, tt)
  of_morsel_passes m told path next scope old (Ok morsel.Continue) new c = goes_on m told path next scope old (Ok morsel.Continue) new c
  of_morsel_passes m told path next scope old (Ok (morsel.NeedsIO batch)) new c = goes_on m told path next scope old (Ok (morsel.NeedsIO batch)) new c
  of_morsel_passes m told path next scope old (Ok (morsel.Batch array)) new c = (goes_on m told path next scope old (Ok (morsel.Batch array)) new c, inl (refl, refl), m.gives old array new c)
  of_morsel_passes m told path next scope old (Err error) new c = tt

  passes_by : Plans' → Morsels' → (told : Option (Content C)) (path : List ℕ) (next : ℕ) (scope : WorkScope) (old : Work P M) (answer : Result (Output (Work P M)) E) (new : Work P M)
      → WorkComputes planner_computes morsel_computes old answer new → OutputPasses seating gives_such told path next scope old answer new
  passes_by p m told path next scope (work.Planner old) answer (work.Planner new) c =
      subst (λ z. OutputPasses seating gives_such told path next scope (work.Planner old) z (work.Planner new)) (sym c.2) (of_planner_passes p told path next scope old c.0 new c.1)
  passes_by p m told path next scope (work.Morsel old) answer (work.Morsel new) c =
      subst (λ z. OutputPasses seating gives_such told path next scope (work.Morsel old) z (work.Morsel new)) (sym c.2) (of_morsel_passes m told path next scope old c.0 new c.1)
  passes_by p m told path next scope (work.Planner old) answer (work.Morsel new) c = absurd c
  passes_by p m told path next scope (work.Morsel old) answer (work.Planner new) c = absurd c

  delivers_by : Morsels' → (told : Option (Content C)) (path : List ℕ) (next : ℕ) (scope : WorkScope) (old : Work P M) (number : IoRequestId) (outcome : IoResult C) (new : Work P M) → IsMorsel old
      → WorkTakes planner_takes morsel_takes old number outcome new → DeliversAsTold means told (work_names planner_names morsel_names old number) outcome
      → Passes (seating told path next scope old) [] (seating told path next scope new)
  delivers_by m told path next scope (work.Planner old) number outcome new is t d = absurd is
  delivers_by m told path next scope (work.Morsel old) number outcome (work.Planner new) is t d = absurd t
  delivers_by m told path next scope (work.Morsel old) number outcome (work.Morsel new) is t d =
      one_passes (record { place = path; scope = scope; targets = targets old told; over_none = targets old None; fresh = fresh old })
      (record { place = path; scope = scope; targets = targets new told; over_none = targets new None; fresh = fresh new }) [] refl refl
      (m.delivers told old number outcome new t d) (m.delivers None old number outcome new t tt) (λ fresh' none. m.given_fresh old number outcome new t fresh')

  planner_old : Plans' → (told : Option (Content C)) (path : List ℕ) (next : ℕ) (it : P) (shown : State) → planner_state it ≡ shown → shown ≢ state.NeedsCompute → AreOld (planned_seats path next (plan it told) (plan it None))
  planner_old p told path next it state.Done shows differs = rw (p.ends told it shows) tt
  planner_old p told path next it state.Waiting shows differs = absurd (p.acts it shows)
  planner_old p told path next it state.NeedsCompute shows differs = absurd (differs refl)

  acts_by : Plans' → Morsels' → (told : Option (Content C)) (path : List ℕ) (next : ℕ) (scope : WorkScope) (it : Work P M) → work_state planner_state morsel_state it ≢ state.NeedsCompute → AreOld (seating told path next scope it)
  acts_by p m told path next scope (work.Planner it) differs = planner_old p told path next it (planner_state it) refl differs
  acts_by p m told path next scope (work.Morsel it) differs =
      (elim (fresh it) as (λ b. fresh it ≡ b → b ≡ false) [ true ↦ λ is. absurd (differs (m.acts it is)) | false ↦ λ is. refl ] refl, tt)

  planner_asks_not : Plans' → (own : Result (PlannerOutput P M) E) (old new : P) (batch : List IoRequest) → planner_computes old own new → Ok (output.NeedsIO batch) ≡ of_planner own → ⊥
  planner_asks_not p (Ok planner.Done) old new batch c e = absurd (cc)
  planner_asks_not p (Ok planner.Continue) old new batch c e = absurd (cc)
  planner_asks_not p (Ok (planner.NeedsIO other)) old new batch c e = p.spends None old (Ok (planner.NeedsIO other)) new c
  planner_asks_not p (Ok (planner.Planner other child)) old new batch c e = absurd (cc)
  planner_asks_not p (Ok (planner.Morsel other child)) old new batch c e = absurd (cc)
  planner_asks_not p (Err error) old new batch c e = absurd (cc)

  asks_by : Plans' → (old : Work P M) (batch : List IoRequest) (new : Work P M) → WorkComputes planner_computes morsel_computes old (Ok (output.NeedsIO batch)) new → IsMorsel old
  asks_by p (work.Planner old) batch (work.Planner new) c = planner_asks_not p c.0 old new batch c.1 c.2
  asks_by p (work.Planner old) batch (work.Morsel new) c = absurd c
  asks_by p (work.Morsel old) batch new c = tt

  computes_by : (old : Work P M) (answer : Result (Output (Work P M)) E) (new : Work P M) → WorkComputes planner_computes morsel_computes old answer new → IsMorsel old → IsMorsel new
  computes_by (work.Planner old) answer new c is = absurd is
  computes_by (work.Morsel old) answer (work.Morsel new) c is = tt
  computes_by (work.Morsel old) answer (work.Planner new) c is = absurd c

  takes_by : (old : Work P M) (number : IoRequestId) (outcome : IoResult C) (new : Work P M) → WorkTakes planner_takes morsel_takes old number outcome new → IsMorsel old → IsMorsel new
  takes_by (work.Planner old) number outcome new t is = absurd is
  takes_by (work.Morsel old) number outcome (work.Morsel new) t is = tt
  takes_by (work.Morsel old) number outcome (work.Planner new) t is = absurd t

  -- where planners and morsels tell a plan, their work tells its seats
  pub work_plans : {orderly : Work P M → Type 0} {asked : Work P M → List IoRequest} {bound : Work P M → ℕ} {permits : Work P M → Content C → E → Type 0} → Plans' → Morsels'
      → WorkPlans means (record { state_is = work_state planner_state morsel_state; computes = WorkComputes planner_computes morsel_computes; takes = WorkTakes planner_takes morsel_takes; names = work_names planner_names morsel_names; orderly = orderly; asked = asked; work = bound; permits = permits })
      (work_seats plan targets fresh) gives_such IsMorsel
  work_plans p m = record { passes = passes_by p m; delivers = delivers_by m; acts = acts_by p m; asks = asks_by p; computes_on = computes_by; takes_on = takes_by }
