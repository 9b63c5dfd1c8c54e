-- A relation that each step keeps is kept by whole calls: one induction for all relations.
use Rattle.std.proofs.Common.{◌≡◌, ℕ, zero, suc, ◌+◌, ◌≤◌, List, [], ◌∷◌, sym, ◌∙◌, ap, subst, Bool, true, false, Option, None, Some, length, inl, inr, ◌⊎◌, ⊎_elim}
use Rattle.std.specs.Prelude.{slice_get}
use Rattle.vortex_io.specs.declared.payload.Payload.{Ghosts as Meanings}
use Rattle.vortex_io.specs.declared.request.Completion.{Completion}
use Rattle.vortex_io.specs.declared.source.IoSource.{Ghosts}
use Rattle.vortex_scan_types.specs.declared.batch.Batch.{Batch}
use Rattle.vortex_scan.specs.declared.errors.Progress.{Progress}
use Rattle.vortex_scan.specs.declared.errors.Progress.TheVariants as progress
use Rattle.vortex_scan.specs.declared.errors.RunError.{RunError}
use Rattle.vortex_scan.specs.declared.errors.RunError.TheVariants as error
use Rattle.vortex_scan.specs.declared.errors.Visited.{Visited}
use Rattle.vortex_scan.specs.declared.errors.Visited.TheVariants as visited
use Rattle.vortex_scan.specs.declared.item.Item.{Item}
use Rattle.vortex_scan_types.specs.declared.place.RootId.{RootId}
use Rattle.vortex_scan.specs.declared.worker.Worker.{Ghosts as Works}
use Rattle.vortex_scan.specs.Asking.{AskingFails, AsksLive, AsksOnce, is_live, root_at}
use Rattle.vortex_scan.specs.Bag.{batches_of}
use Rattle.vortex_scan.specs.Fails.{AskFails, VisitFails, VisitGives}
use Rattle.vortex_scan.specs.Going.{AdvanceFails, Advances, AskingFailsThen, AsksAll, AsksIfDue, AsksOut, AsksOutFails, Ends, Gives, GoesOn, TurnFails, TurnFailsThen, Turns, VisitLeastFails}
use Rattle.vortex_scan.specs.Keys.{IsLeastReady}
use Rattle.vortex_scan.specs.RunState.{Live, RunState}
use Rattle.vortex_scan.specs.Sources.{KeepsEach}
use Rattle.vortex_scan.specs.Steps.{Asks, Visits}
use Rattle.vortex_scan.proofs.Kept.{each_on}
use Rattle.vortex_scan.proofs.Keeping.{asks_all_keeps, asks_due_keeps, asks_keeps, asks_live_keeps, asks_once_keeps, asks_out_keeps, ends_keeps, gives_keeps, goes_keeps, turns_keeps, visits_keeps}

-- the batches that a visit gives
abbrev pub came_batches : Visited → List Batch
came_batches visited.Went = []
came_batches (visited.Batch batch) = batch ∷ []
came_batches (visited.RootDone root) = []

-- what each step keeps, between the visits made and the live items before and after, with the batches given between: where `holds` holds, a step
-- leaves that it holds, and the relation between its ends
pub record Carried {W S C E : Type 0} (works : Works W C E) (source : Ghosts S C) (payload : Meanings C) (holds : Live W S → Type 0) (keeps : List Batch → ℕ → Live W S → ℕ → Live W S → Type 0) : Type 0 where
  pub same : (made : ℕ) (live : Live W S) → keeps [] made live made live
  pub on : (batches : List Batch) (m n o : ℕ) (a b d : Live W S) → KeepsEach source a.slots b.slots → KeepsEach source b.slots d.slots → keeps [] m a n b → keeps batches n b o d → keeps batches m a o d
  pub asks : (root : RootId) (answer : Option (Completion C)) (made : ℕ) (old new : Live W S) → holds old → Asks works source payload root answer old new → holds new × keeps [] made old made new
  pub visits : (made at : ℕ) (item : Item W) (old new : Live W S) (came : Visited) → holds old → IsLeastReady old.items at item → Visits works source (works.state_is item.work) at item old new came
      → holds new × keeps (came_batches came) made old (made + 1) new

-- the step at which a call fails
pub record Breaks {W S C E : Type 0} (works : Works W C E) (source : Ghosts S C) (payload : Meanings C) (made limit : ℕ) (old new : Live W S) (why : RunError E) : Type 0 where
  pub way : ((root : RootId) × AskFails works source payload root old new why)
      ⊎ (((why ≡ error.StepLimit) × (limit ≤ made) × ((at : ℕ) × (item : Item W) × IsLeastReady old.items at item) × (new ≡ old))
      ⊎ ((at : ℕ) × (item : Item W) × IsLeastReady old.items at item × KeepsEach source old.slots new.slots × VisitFails works source (works.state_is item.work) at item old new why
      × VisitGives works source (works.state_is item.work) item old.slots new.slots))

-- where a call went on to, and the step that fails there
pub record Broken {W S C E : Type 0} (works : Works W C E) (source : Ghosts S C) (payload : Meanings C) (holds : Live W S → Type 0) (keeps : List Batch → ℕ → Live W S → ℕ → Live W S → Type 0) (made limit : ℕ) (old new : Live W S) (why : RunError E) : Type 0 where
  pub between : Live W S
  pub count : ℕ
  pub held : holds between
  pub kept : keeps [] made old count between
  pub sources : KeepsEach source old.slots between.slots
  pub breaks : Breaks works source payload count limit between new why

module _ {W S C E : Type 0} (works : Works W C E) (source : Ghosts S C) (payload : Meanings C) (holds : Live W S → Type 0) (keeps : List Batch → ℕ → Live W S → ℕ → Live W S → Type 0)
    (c : Carried works source payload holds keeps) where
  due_limit : (asked : Bool) (old new : RunState W S) → AsksIfDue works source payload asked old new → new.limit ≡ old.limit
  due_limit true old new a = ap (λ (r : RunState W S). r.limit) a.1.now
  due_limit false old new a = ap (λ (r : RunState W S). r.limit) a.0

  goes_limit : (turns : ℕ) (old new : RunState W S) → GoesOn works source payload turns old new → new.limit ≡ old.limit
  goes_limit zero old new g = ap (λ (r : RunState W S). r.limit) g
  goes_limit (suc turns) old new g =
      let t = g.2 in
      ap (λ (r : RunState W S). r.limit) t.visits.now ∙ due_limit t.asked g.0 t.between t.asks ∙ goes_limit turns old g.0 g.1

  stays : (made : ℕ) (old new : Live W S) → new ≡ old → holds old → holds new × keeps [] made old made new
  stays made old new e h = rw e (h, c.same made old)

  carry_gives : (root times made : ℕ) (old new : Live W S) → holds old → Gives works source payload root times old new → holds new × keeps [] made old made new
  carry_gives root zero made old new h g = stays made old new g h
  carry_gives root (suc times) made old new h g =
      let first = carry_gives root times made old g.0 h g.2 in
      let then = c.asks (root_at root) (Some g.1) made g.0 new first.0 g.3 in
      (then.0, c.on [] made made made old g.0 new (gives_keeps works source payload root times old g.0 g.2) (asks_keeps works source payload (root_at root) (Some g.1) g.0 new g.3) first.1 then.1)

  carry_out : (root : ℕ) (live : Bool) (made : ℕ) (old new : Live W S) → holds old → AsksOut works source payload root live old new → holds new × keeps [] made old made new
  carry_out root true made old new h a =
      let first = carry_gives root a.0 made old a.1 h a.2 in
      let then = c.asks (root_at root) None made a.1 new first.0 a.3 in
      (then.0, c.on [] made made made old a.1 new (gives_keeps works source payload root a.0 old a.1 a.2) (asks_keeps works source payload (root_at root) None a.1 new a.3) first.1 then.1)
  carry_out root false made old new h a = stays made old new a h

  carry_all : (roots made : ℕ) (old new : Live W S) → holds old → AsksAll works source payload roots old new → holds new × keeps [] made old made new
  carry_all zero made old new h a = stays made old new a h
  carry_all (suc root) made old new h a =
      let live = is_live (slice_get a.0.slots root) in
      let first = carry_all root made old a.0 h a.1 in
      let then = carry_out root live made a.0 new first.0 a.2 in
      (then.0, c.on [] made made made old a.0 new (asks_all_keeps works source payload root old a.0 a.1) (asks_out_keeps works source payload root live a.0 new a.2) first.1 then.1)

  carry_live : (root : ℕ) (live : Bool) (made : ℕ) (old new : Live W S) (came : Bool) → holds old → AsksLive works source payload root live old new came → holds new × keeps [] made old made new
  carry_live root true made old new came h a = c.asks (root_at root) a.0 made old new h a.1
  carry_live root false made old new came h a = stays made old new a.0 h

  -- over a call that asks each source once
  pub carry_once : (roots made : ℕ) (old new : Live W S) (came : Bool) → holds old → AsksOnce works source payload roots old new came → holds new × keeps [] made old made new
  carry_once zero made old new came h a = stays made old new a.0 h
  carry_once (suc root) made old new came h a =
      let live = is_live (slice_get a.0.slots root) in
      let first = carry_once root made old a.0 a.1 h a.3 in
      let then = carry_live root live made a.0 new a.2 first.0 a.4 in
      (then.0, c.on [] made made made old a.0 new (asks_once_keeps works source payload root old a.0 a.1 a.3) (asks_live_keeps works source payload root live a.0 new a.2 a.4) first.1 then.1)

  pub carry_due : (asked : Bool) (old new : RunState W S) → holds old.live → AsksIfDue works source payload asked old new → holds new.live × keeps [] old.visits old.live new.visits new.live
  carry_due true old new h a =
      let did = carry_all (length old.live.slots) old.visits old.live new.live h a.1.asks in
      (did.0, subst (λ made. keeps [] old.visits old.live made new.live) (sym (ap (λ (r : RunState W S). r.visits) a.1.now)) did.1)
  carry_due false old new h a = rw a.0 (h, c.same old.visits old.live)

  pub carry_turn : (old new : RunState W S) (came : Visited) → holds old.live → Turns works source payload old new came → holds new.live × keeps (came_batches came) old.visits old.live new.visits new.live
  carry_turn old new came h t =
      let v = t.visits in
      let first = carry_due t.asked old t.between h t.asks in
      let then = c.visits t.between.visits v.at v.item t.between.live new.live came first.0 v.least v.visits in
      let last = subst (λ made. keeps (came_batches came) t.between.visits t.between.live made new.live) (sym (ap (λ (r : RunState W S). r.visits) v.now)) then.1 in (
        then.0,
        c.on (came_batches came) old.visits t.between.visits new.visits old.live t.between.live new.live (asks_due_keeps works source payload t.asked old t.between t.asks)
            (visits_keeps source works (works.state_is v.item.work) v.at v.item t.between.live new.live came v.visits) first.1 last,
      )

  pub carry_goes : (turns : ℕ) (old new : RunState W S) → holds old.live → GoesOn works source payload turns old new → holds new.live × keeps [] old.visits old.live new.visits new.live
  carry_goes zero old new h g = rw g (h, c.same old.visits old.live)
  carry_goes (suc turns) old new h g =
      let first = carry_goes turns old g.0 h g.1 in
      let then = carry_turn g.0 new visited.Went first.0 g.2 in (
        then.0,
        c.on [] old.visits g.0.visits new.visits old.live g.0.live new.live (goes_keeps works source payload turns old g.0 g.1) (turns_keeps works source payload g.0 new visited.Went g.2) first.1 then.1,
      )

  carry_ends : (old new : RunState W S) (answer : Progress) → holds old.live → Ends works source payload old new answer → holds new.live × keeps (batches_of answer) old.visits old.live new.visits new.live
  carry_ends old new (progress.Batch batch) h t = carry_turn old new (visited.Batch batch) h t
  carry_ends old new (progress.RootDone root) h t = carry_turn old new (visited.RootDone root) h t
  carry_ends old new progress.Waiting h t = carry_due true old new h t.0
  carry_ends old new progress.Idle h t = carry_due true old new h t.0

  -- over a call that goes on to an answer
  pub carry_advance : (old new : RunState W S) (answer : Progress) → holds old.live → Advances works source payload old new answer → holds new.live × keeps (batches_of answer) old.visits old.live new.visits new.live
  carry_advance old new answer h a =
      let first = carry_goes a.turns old a.between h a.goes in
      let then = carry_ends a.between new answer first.0 a.ends in (
        then.0,
        c.on (batches_of answer) old.visits a.between.visits new.visits old.live a.between.live new.live (goes_keeps works source payload a.turns old a.between a.goes)
            (ends_keeps works source payload a.between new answer a.ends) first.1 then.1,
      )

  -- A call that fails: it went on to a step that fails.

  asking_breaks : (made limit root : ℕ) (old new : Live W S) (why : RunError E) → holds old → AsksOutFails works source payload root old new why → Broken works source payload holds keeps made limit old new why
  asking_breaks made limit root old new why h f =
      let first = carry_gives root f.times made old f.between h f.gives in
      record { between = f.between; count = made; held = first.0; kept = first.1; sources = gives_keeps works source payload root f.times old f.between f.gives; breaks = record { way = inl (root_at root, f.fails) } }

  breaks_on : (m n limit : ℕ) (a b d : Live W S) (why : RunError E) → KeepsEach source a.slots b.slots → keeps [] m a n b → Broken works source payload holds keeps n limit b d why → Broken works source payload holds keeps m limit a d why
  breaks_on m n limit a b d why k first f = record {
    between = f.between;
    count = f.count;
    held = f.held;
    kept = c.on [] m n f.count a b f.between k f.sources first f.kept;
    sources = each_on source a.slots b.slots f.between.slots k f.sources;
    breaks = f.breaks;
  }

  -- over a call that asks each source once
  pub once_breaks : (limit : ℕ) (old new : Live W S) (why : RunError E) → holds old → AskingFails works source payload old new why → Broken works source payload holds keeps 0 limit old new why
  once_breaks limit old new why h f =
      let first = carry_once f.number 0 old f.between f.came h f.asked in
      record { between = f.between; count = 0; held = first.0; kept = first.1; sources = asks_once_keeps works source payload f.number old f.between f.came f.asked; breaks = record { way = inl (root_at f.number, f.fails) } }

  turn_breaks : (old new : RunState W S) (why : RunError E) → holds old.live → TurnFails works source payload old new why → Broken works source payload holds keeps old.visits old.limit old.live new.live why
  turn_breaks old new why h f =
      ⊎_elim (λ (a : AskingFailsThen works source payload old new why).
      let o = a.fails in
      let first = carry_all o.root old.visits old.live o.between h o.before in
      breaks_on old.visits old.visits old.limit old.live o.between new.live why (asks_all_keeps works source payload o.root old.live o.between o.before) first.1 (asking_breaks old.visits old.limit o.root o.between new.live why first.0 o.fails))
      (λ (t : TurnFailsThen works source payload old new why).
      let first = carry_due t.asked old t.between h t.asks in
      let same : t.between.limit ≡ old.limit = due_limit t.asked old t.between t.asks in
      record {
        between = t.between.live;
        count = t.between.visits;
        held = first.0;
        kept = first.1;
        sources = asks_due_keeps works source payload t.asked old t.between t.asks;
        breaks = record {
          way = ⊎_elim (λ l. let at_limit = l.1 in inr (inl (l.0, (rw same at at_limit.reached), (at_limit.at, at_limit.item, at_limit.least), ap (λ (r : RunState W S). r.live) l.2)))
              (λ (v : VisitLeastFails works source t.between new why). inr (inr (v.at, v.item, v.least, v.sources, v.fails, v.gives))) t.fails;
        };
      }) f

  -- over a call that went on to a turn that fails
  pub advance_breaks : (old new : RunState W S) (why : RunError E) → holds old.live → AdvanceFails works source payload old new why → Broken works source payload holds keeps old.visits old.limit old.live new.live why
  advance_breaks old new why h f =
      let first = carry_goes f.turns old f.between h f.goes in
      let limits : f.between.limit ≡ old.limit = goes_limit f.turns old f.between f.goes in
      let last = turn_breaks f.between new why first.0 f.fails in
      breaks_on old.visits f.between.visits old.limit old.live f.between.live new.live why (goes_keeps works source payload f.turns old f.between f.goes) first.1
      (subst (λ limit. Broken works source payload holds keeps f.between.visits limit f.between.live new.live why) limits last)
