-- The bag of what was given and of what is still owed.
use Rattle.std.specs.Prelude.{◌≡◌, ℕ, ◌+◌, Bool, true, Some, List, [], ◌∷◌, ◌++◌, map, slice_get, count_by, sum_by}
use Rattle.std.specs.List.{AllByRecursion}
use Rattle.vortex_io.specs.Source.{Agrees, Content, IsHonest}
use Rattle.vortex_io.specs.declared.request.Completion.{Completion}
use Rattle.vortex_io.specs.declared.request.Fetch.{Fetch}
use Rattle.vortex_io.specs.declared.source.IoSource.{Ghosts}
use Rattle.vortex_scan_types.specs.declared.batch.Batch.{Batch}
use Rattle.vortex_scan_types.specs.declared.batch.WorkScope.{WorkScope}
use Rattle.vortex_scan.specs.declared.errors.Progress.{Progress}
use Rattle.vortex_scan.specs.declared.errors.Progress.TheVariants as progress
use Rattle.vortex_scan.specs.declared.item.Item.{Item}
use Rattle.vortex_scan.specs.declared.item.Slot.{Slot}
use Rattle.vortex_scan_types.specs.declared.place.RootId.{RootId}
use Rattle.vortex_scan.specs.declared.worker.Work.{Work}
use Rattle.vortex_scan.specs.declared.worker.Work.TheVariants as work
use Rattle.vortex_scan.specs.Fetching.{is_answer}
use Rattle.vortex_scan.specs.Owed.{Entry, Rows, rows_of, under}
use Rattle.vortex_scan.specs.RunState.{Live}

-- what the work of an item owes over a content, under the scope with which the item was made
abbrev pub Owing : Type 0 → Type 0 → Type 0
Owing W C = WorkScope → W → Content C → List Entry

-- a planner's own entries, or a morsel's rows under its scope
abbrev pub work_owed : {P M C : Type 0} → (P → Content C → List Entry) → (M → Content C → List Rows) → Owing (Work P M) C
work_owed planners morsels scope (work.Planner it) content = planners it content
work_owed planners morsels scope (work.Morsel it) content = under scope (morsels it content)

-- how many entries that pass a test an item owes, over the content of its root
abbrev pub owes : {W C : Type 0} → Owing W C → (ℕ → Content C) → (Entry → Bool) → Item W → ℕ
owes owed contents test item = count_by test (owed item.scope item.work (contents item.root.0))

-- the bag: how many entries that pass a test were given, or are still owed by a live item
abbrev pub bag : {W C : Type 0} → Owing W C → (ℕ → Content C) → (Entry → Bool) → List Entry → List (Item W) → ℕ
bag owed contents test given items = count_by test given + sum_by (owes owed contents test) items

-- the entry that a batch is
abbrev pub entry_of : Batch → Entry
entry_of batch = record { scope = batch.scope; rows = rows_of batch.array }

abbrev pub entries_of : List Batch → List Entry
entries_of batches = map entry_of batches

-- the batches that an answer gives
abbrev pub batches_of : Progress → List Batch
batches_of (progress.Batch batch) = batch ∷ []
batches_of (progress.RootDone root) = []
batches_of progress.Waiting = []
batches_of progress.Idle = []

-- the source of each root that is live as a call begins tells this content, and is honest in the call
abbrev pub AreHonest : {S C : Type 0} → Ghosts S C → (ℕ → Content C) → List (Slot S) → List (Slot S) → Type 0
AreHonest {S} source contents old new = (root : ℕ) (before after : Slot S) → slice_get old root ≡ Some before → slice_get new root ≡ Some after → before.live ≡ true
    → (source.content before.source ≡ Some (contents root)) × IsHonest (source.lies before.source) (source.lies after.source)

-- nothing is lost and nothing doubled: what was given with these batches and is then still owed is what was given and was owed
abbrev pub KeepsBag : {W S C : Type 0} → Ghosts S C → Owing W C → List Batch → Live W S → Live W S → Type 0
KeepsBag {W} {S} {C} source owed batches old new = (contents : ℕ → Content C) → AreHonest source contents old.slots new.slots
    → (given : List Entry) (test : Entry → Bool) → bag owed contents test (given ++ entries_of batches) new.items ≡ bag owed contents test given old.items

-- a root that joins adds what it owes
abbrev pub AddsToBag : {W S C : Type 0} → Owing W C → ℕ → WorkScope → W → Live W S → Live W S → Type 0
AddsToBag {W} {S} {C} owed root scope work old new = (contents : ℕ → Content C) (given : List Entry) (test : Entry → Bool)
    → bag owed contents test given new.items ≡ bag owed contents test given old.items + count_by test (owed scope work (contents root))

-- a completion carries what a content has at the target of the fetch that it answers
abbrev pub Carries : {W C V : Type 0} → (C → V) → Content C → RootId → Completion C → List (Item W) → Type 0
Carries {W} means content root completion items = AllByRecursion (λ (item : Item W). item.root ≡ root
    → AllByRecursion (λ (fetch : Fetch). is_answer completion fetch ≡ true → Agrees means content fetch.target completion.result) item.asked) items

-- what is delivered from elsewhere neither loses nor doubles anything, where it is what the content has
abbrev pub KeepsBagGiven : {W S C V : Type 0} → (C → V) → Owing W C → RootId → Completion C → Live W S → Live W S → Type 0
KeepsBagGiven {W} {S} {C} means owed root completion old new = (contents : ℕ → Content C) → Carries means (contents root.0) root completion old.items
    → (given : List Entry) (test : Entry → Bool) → bag owed contents test given new.items ≡ bag owed contents test given old.items

-- where no item is live, all that there is was given
abbrev pub IsEmptied : {W S C : Type 0} → Owing W C → Progress → Live W S → Type 0
IsEmptied {W} {S} {C} owed answer live = answer ≡ progress.Idle → (contents : ℕ → Content C) (given : List Entry) (test : Entry → Bool) → bag owed contents test given live.items ≡ count_by test given
