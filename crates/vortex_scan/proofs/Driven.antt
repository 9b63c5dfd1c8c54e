-- What a driver keeps of its run, from round to round.
use Rattle.std.proofs.Common.{◌≡◌, ℕ, zero, suc, ◌+◌, ◌<◌, ◌≤◌, List, [], ◌∷◌, ◌++◌, refl, sym, ◌∙◌, ap, subst, true, false, Option, Result, arith, inl, inr, ◌⊎◌, ⊎_elim}
use Rattle.std.proofs.lemmas.List.{map-append}
use Rattle.vortex_io.specs.Source.{Content}
use Rattle.vortex_io.specs.declared.ids.IoRequestId.{IoRequestId}
use Rattle.vortex_io.specs.declared.payload.Payload.{Ghosts as Meanings}
use Rattle.vortex_io.specs.declared.request.IoRequest.{IoRequest}
use Rattle.vortex_io.specs.declared.request.IoResult.{IoResult}
use Rattle.vortex_io.specs.declared.request.IoTarget.{IoTarget}
use Rattle.vortex_io.specs.declared.source.IoSource.{Ghosts}
use Rattle.vortex_scan_types.specs.declared.batch.Batch.{Batch}
use Rattle.vortex_scan.specs.declared.driver.Round.{Round}
use Rattle.vortex_scan.specs.declared.driver.Round.TheVariants as round
use Rattle.vortex_scan.specs.declared.errors.RunError.{RunError}
use Rattle.vortex_scan.specs.declared.errors.RunError.TheVariants as error
use Rattle.vortex_scan.specs.declared.state.MorselOutput.{MorselOutput}
use Rattle.vortex_scan.specs.declared.state.PlannerOutput.{PlannerOutput}
use Rattle.vortex_scan.specs.declared.state.State.{State}
use Rattle.vortex_scan.specs.declared.worker.Work.{Work}
use Rattle.vortex_scan.specs.declared.worker.Worker.{Ghosts as Works}
use Rattle.vortex_scan.specs.Bag.{Owing, bag, entries_of, entry_of}
use Rattle.vortex_scan.specs.Driving.{Breaks, ComesTo, GoesRound, KeepsRun, Proceeds, Rounds, StopsRun, VisitsMore, given_by, is_last, is_wait}
use Rattle.vortex_scan.specs.Fits.{LiveFits}
use Rattle.vortex_scan.specs.Owed.{Entry}
use Rattle.vortex_scan.specs.RunState.{RunState}
use Rattle.vortex_scan.specs.Visits.{asked_count}
use Rattle.vortex_scan.specs.Works.{WorkComputes, WorkIs, WorkPermits, WorkTakes, work_asked, work_bound, work_names, work_state}
use Rattle.vortex_scan.proofs.Bagged.{early, late}
use Rattle.vortex_scan.proofs.Faulting.{causes_on}
use Rattle.vortex_scan.proofs.Expecting.{lies_on}
use Rattle.vortex_scan.proofs.Keeping.{slot_before}
use Rattle.vortex_scan.proofs.Kept.{each_on, each_same}
use Rattle.vortex_scan.proofs.Permitted.{at_early, at_late}
use Rattle.vortex_scan.proofs.Proceeding.{memory_no_fault}

-- the work of an item, by a planner's and a morsel's own
abbrev pub works_of : {P M C E : Type 0} → (P → State) → (M → State) → (P → Result (PlannerOutput P M) E → P → Type 0) → (M → Result MorselOutput E → M → Type 0)
    → (P → IoRequestId → IoResult C → P → Type 0) → (M → IoRequestId → IoResult C → M → Type 0) → (P → IoRequestId → Option IoTarget) → (M → IoRequestId → Option IoTarget)
    → (P → Type 0) → (M → Type 0) → (P → List IoRequest) → (M → List IoRequest) → (P → ℕ) → (M → ℕ) → (P → Content C → E → Type 0) → (M → Content C → E → Type 0) → Works (Work P M) C E
works_of p_state m_state p_computes m_computes p_takes m_takes p_names m_names p_orderly m_orderly p_asked m_asked p_work m_work p_permits m_permits = record {
  state_is = work_state p_state m_state;
  computes = WorkComputes p_computes m_computes;
  takes = WorkTakes p_takes m_takes;
  names = work_names p_names m_names;
  orderly = WorkIs p_orderly m_orderly;
  asked = work_asked p_asked m_asked;
  work = work_bound p_work m_work;
  permits = WorkPermits p_permits m_permits;
}

append_none : {A : Type 0} (xs : List A) → xs ++ [] ≡ xs
append_none [] = refl
append_none (x ∷ xs) = ap (λ z. x ∷ z) (append_none xs)

pub append_twice : {A : Type 0} (xs ys zs : List A) → (xs ++ ys) ++ zs ≡ xs ++ (ys ++ zs)
append_twice [] ys zs = refl
append_twice (x ∷ xs) ys zs = ap (λ z. x ∷ z) (append_twice xs ys zs)

module _ {W S C E : Type 0} (works : Works W C E) (source : Ghosts S C) (payload : Meanings C) where
  -- rounds after rounds
  pub goes_on : (rounds more : ℕ) (given given' : List Batch) (a b d : RunState W S) → GoesRound works source payload rounds given a b → GoesRound works source payload more given' b d
      → (all : ℕ) × GoesRound works source payload all (given ++ given') a d
  goes_on rounds zero given given' a b d first then =
      (rounds, subst (λ list. GoesRound works source payload rounds list a d) (sym (ap (λ list. given ++ list) then.0 ∙ append_none given)) (subst (λ run. GoesRound works source payload rounds given a run) (sym then.1) first))
  goes_on rounds (suc more) given given' a b d first then =
      let before = goes_on rounds more given then.0 a b then.1 first then.3 in (
        suc before.0,
        (given ++ then.0, then.1, then.2, before.1, then.4, then.5, ap (λ list. given ++ list) then.6 ∙ sym (append_twice given then.0 (given_by then.2))),
      )

  -- one more round
  pub goes_once : (rounds : ℕ) (given : List Batch) (came : Round) (a b d : RunState W S) → GoesRound works source payload rounds given a b → Rounds works source payload came b d → is_last came ≡ false
      → GoesRound works source payload (suc rounds) (given ++ given_by came) a d
  goes_once rounds given came a b d first then more = (given, b, came, first, then, more, refl)

  -- rounds up to one more, after rounds
  pub comes_on : (rounds : ℕ) (given given' : List Batch) (came : Round) (a b d : RunState W S) → GoesRound works source payload rounds given a b → ComesTo works source payload given' came b d
      → ComesTo works source payload (given ++ given') came a d
  comes_on rounds given given' came a b d first then =
      let all = goes_on rounds then.rounds given given' a b then.between first then.goes in
      record { rounds = all.0; between = then.between; goes = all.1; last = then.last }

  -- which are rounds where that one is not the last
  pub came_on : (given : List Batch) (came : Round) (a d : RunState W S) → ComesTo works source payload given came a d → is_last came ≡ false → (rounds : ℕ) × GoesRound works source payload rounds (given ++ given_by came) a d
  came_on given came a d c more = (suc c.rounds, goes_once c.rounds given came a c.between d c.goes c.last more)

  -- rounds after rounds, by what the last one was
  pub went_waiting : (rounds : ℕ) (given : List Batch) (a b d : RunState W S) → GoesRound works source payload rounds given a b → ComesTo works source payload [] round.Waited b d → (all : ℕ) × GoesRound works source payload all given a d
  went_waiting rounds given a b d first then =
      let whole = came_on (given ++ []) round.Waited a d (comes_on rounds given [] round.Waited a b d first then) refl in
      (whole.0, subst (λ list. GoesRound works source payload whole.0 list a d) (append_none (given ++ []) ∙ append_none given) whole.1)

  pub went_giving : (rounds : ℕ) (given : List Batch) (batch : Batch) (a b d : RunState W S) → GoesRound works source payload rounds given a b → ComesTo works source payload [] (round.Gave batch) b d
      → (all : ℕ) × GoesRound works source payload all (given ++ batch ∷ []) a d
  went_giving rounds given batch a b d first then =
      let whole = came_on (given ++ []) (round.Gave batch) a d (comes_on rounds given [] (round.Gave batch) a b d first then) refl in
      (whole.0, subst (λ list. GoesRound works source payload whole.0 list a d) (ap (λ list. list ++ batch ∷ []) (append_none given)) whole.1)

  pub went_ended : (rounds : ℕ) (given : List Batch) (a b d : RunState W S) → GoesRound works source payload rounds given a b → ComesTo works source payload [] round.Ended b d → ComesTo works source payload given round.Ended a d
  went_ended rounds given a b d first then = subst (λ list. ComesTo works source payload list round.Ended a d) (append_none given) (comes_on rounds given [] round.Ended a b d first then)

  pub breaks_on : (rounds : ℕ) (given : List Batch) (why : RunError E) (a b d : RunState W S) → GoesRound works source payload rounds given a b → Breaks works source payload why b d → Breaks works source payload why a d
  breaks_on rounds given why a b d first then =
      let all = goes_on rounds then.rounds given then.given a b then.between first then.goes in
      record { rounds = all.0; given = given ++ then.given; between = then.between; goes = all.1; fails = then.fails }

module _ {W S C E : Type 0} (works : Works W C E) (source : Ghosts S C) (owed : Owing W C) (tells : Type 0) where
  -- nothing done keeps all
  pub keeps_none : (run : RunState W S) → run.failed ≡ false → LiveFits source run.live → KeepsRun works source owed tells [] run run
  keeps_none run well fits = record {
    well = well;
    fits = fits;
    limit = refl;
    sources = each_same source run.live.slots;
    in_step = λ root was. was;
    bag = λ t contents honest given test. ap (λ list. bag owed contents test list run.live.items) (append_none given);
    orderly = λ o. o;
    work = λ o. (omega arith, omega arith);
    permitted = λ t root failure content o h p. p;
  }

  given_twice : (first then : List Batch) (more : List Entry) → more ++ entries_of (first ++ then) ≡ (more ++ entries_of first) ++ entries_of then
  given_twice first then more = ap (λ list. more ++ list) (map-append entry_of first then) ∙ sym (append_twice more (entries_of first) (entries_of then))

  pub keeps_then : (first then : List Batch) (a b d : RunState W S) → KeepsRun works source owed tells first a b → KeepsRun works source owed tells then b d → KeepsRun works source owed tells (first ++ then) a d
  keeps_then first then a b d k l = record {
    well = l.well;
    fits = l.fits;
    limit = l.limit ∙ k.limit;
    sources = each_on source a.live.slots b.live.slots d.live.slots k.sources l.sources;
    in_step = λ root was. l.in_step root (k.in_step root was);
    bag = λ t contents honest given test.
        let one = k.bag t contents (early source contents a.live.slots b.live.slots d.live.slots k.sources l.sources honest) given test in
        let two = l.bag t contents (late source contents a.live.slots b.live.slots d.live.slots k.sources l.sources honest) (given ++ entries_of first) test in
        ap (λ list. bag owed contents test list d.live.items) (given_twice first then given) ∙ two ∙ one;
    orderly = λ o. l.orderly (k.orderly o);
    work = λ o. let one = k.work o in let two = l.work (k.orderly o) in (omega (arith, one.0, two.0), omega (arith, one.1, two.1));
    permitted = λ t root failure content o h p.
        k.permitted t root failure content o (at_early source root content a.live.slots b.live.slots d.live.slots k.sources l.sources h)
        (l.permitted t root failure content (k.orderly o) (at_late source root content a.live.slots b.live.slots d.live.slots k.sources h) p);
  }

  pub stops_then : (given : List Batch) (why : RunError E) (a b d : RunState W S) → KeepsRun works source owed tells given a b → StopsRun works source tells why b d → StopsRun works source tells why a d
  stops_then given why a b d k s = record {
    own = s.own;
    sources = each_on source a.live.slots b.live.slots d.live.slots k.sources s.sources;
    cause = causes_on source why a.live.slots b.live.slots d.live.slots k.sources s.cause;
    unexpected = lies_on source why a.live b.live d.live.slots k.sources k.in_step s.unexpected;
    disorder = λ o.
        let f = s.disorder (k.orderly o) in
        let w = k.work o in
        let same = k.limit in
        record {
          empty_batch = f.empty_batch;
          empty_io = f.empty_io;
          republished = f.republished;
          waits_for_nothing = f.waits_for_nothing;
          step_limit = λ e. let less = f.step_limit e in omega (arith, less, w.0, same);
          ids_exhausted = λ e. let less = f.ids_exhausted e in omega (arith, less, w.1);
        };
    permits = λ t root failure content e o h.
        k.permitted t root failure content o (at_early source root content a.live.slots b.live.slots d.live.slots k.sources s.sources h)
        (s.permits t root failure content e (k.orderly o) (at_late source root content a.live.slots b.live.slots d.live.slots k.sources h));
    blames = λ root failure e. let b' = s.blames root failure e in slot_before source a.live.slots b.live.slots root.0 b'.0 k.sources b'.1;
  }

  pub keeps_more : (given : List Batch) (a b d : RunState W S) → KeepsRun works source owed tells given a b → KeepsRun works source owed tells [] b d → KeepsRun works source owed tells given a d
  keeps_more given a b d k l = subst (λ list. KeepsRun works source owed tells list a d) (append_none given) (keeps_then given [] a b d k l)

  -- want of memory has no cause
  pub memory_stops : (given : List Batch) (why : RunError E) (a b : RunState W S) → why ≡ error.OutOfMemory → KeepsRun works source owed tells given a b → StopsRun works source tells why a b
  memory_stops given why a b is k = record {
    own = memory_no_fault why is;
    sources = k.sources;
    cause = λ root e. absurd (cc);
    unexpected = λ root owner request e was. absurd (cc);
    disorder = λ o. record { empty_batch = λ e. absurd (cc); empty_io = λ e. absurd (cc); republished = λ e. absurd (cc); waits_for_nothing = λ e. absurd (cc); step_limit = λ e. absurd (cc); ids_exhausted = λ e. absurd (cc) };
    permits = λ t root failure content e o h. absurd (cc);
    blames = λ root failure e. absurd (cc);
  }

-- A round that is followed by others.

pub waited_on : {W S C E : Type 0} (works : Works W C E) (source : Ghosts S C) (payload : Meanings C) (rounds : ℕ) (came : Round) (a b d : RunState W S) → GoesRound works source payload rounds [] a b → Rounds works source payload came b d → is_wait came ≡ true
    → GoesRound works source payload (suc rounds) [] a d
waited_on works source payload rounds round.Waited a b d first then waits = ([], b, round.Waited, first, then, refl, refl)
waited_on works source payload rounds (round.Gave batch) a b d first then waits = absurd (cc)
waited_on works source payload rounds round.Ended a b d first then waits = absurd (cc)

pub waited_keeps : {W S C E : Type 0} (works : Works W C E) (source : Ghosts S C) (owed : Owing W C) (tells : Type 0) (came : Round) (a b d : RunState W S) → KeepsRun works source owed tells [] a b → KeepsRun works source owed tells (given_by came) b d → is_wait came ≡ true
    → KeepsRun works source owed tells [] a d
waited_keeps works source owed tells round.Waited a b d k l waits = keeps_then works source owed tells [] [] a b d k l
waited_keeps works source owed tells (round.Gave batch) a b d k l waits = absurd (cc)
waited_keeps works source owed tells round.Ended a b d k l waits = absurd (cc)

module _ {W S : Type 0} where
  -- where no visit was made, something was delivered
  pub waited_fewer : (came : Round) (old new : RunState W S) → Proceeds came old new → is_wait came ≡ true → new.visits ≡ old.visits → asked_count new.live.items < asked_count old.live.items
  waited_fewer round.Waited old new p waits same = ⊎_elim (λ more. absurd (let m = more.0 in omega (arith, m, same))) (λ rests. rests.1) p
  waited_fewer (round.Gave batch) old new p waits same = absurd (cc)
  waited_fewer round.Ended old new p waits same = absurd (cc)

  -- and where a round was no wait, or visits were made, more were made
  pub went_more : (came : Round) (old new : RunState W S) → Proceeds came old new → is_last came ≡ false → (new.visits ≡ old.visits → is_wait came ≡ false) → VisitsMore old new
  went_more round.Waited old new p last moved = ⊎_elim (λ more. more) (λ rests. absurd (let no = moved rests.0 in cc)) p
  went_more (round.Gave batch) old new p last moved = p
  went_more round.Ended old new p last moved = absurd (cc)

  -- of a round in which all items waited
  pub waited_proceeds : (old between new : RunState W S) → new.visits ≡ between.visits → new.limit ≡ between.limit → asked_count new.live.items < asked_count between.live.items
      → VisitsMore old between ⊎ ((between.visits ≡ old.visits) × (asked_count between.live.items ≤ asked_count old.live.items)) → Proceeds round.Waited old new
  waited_proceeds old between new visits limit fewer went =
      ⊎_elim (λ more. inl (let made = more.0 in let most = more.1 in (omega (arith, visits, made), omega (arith, visits, limit, most))))
      (λ rests. inr (let same = rests.0 in let less = rests.1 in (omega (arith, visits, same), omega (arith, fewer, less)))) went
