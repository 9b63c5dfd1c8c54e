-- What planners of tables tell keeps the rules of planners.
use Rattle.std.specs.Prelude.{◌≡◌, ℕ, ◌+◌, true, Option, Result, Ok, Err, List, [], ◌∷◌, length, filter, flat_map, refl}
use Rattle.std.proofs.Common.{sym, ap, subst, zero, suc, arith, inl, inr}
use Rattle.vortex_array_types.specs.declared.column.ColumnDesc.{ColumnDesc}
use Rattle.vortex_io.specs.Source.{Content}
use Rattle.vortex_scan.specs.Orderly.{ChildPermits, Children, PlannerGoesOn, PlannerIsOrderly}
use Rattle.vortex_scan.specs.Owed.{PlannerGives, PlannerOwes, under}
use Rattle.vortex_scan.specs.Plans.{PlannerFollowsPlan, PlannerSpends, has_targets}
use Rattle.vortex_scan.specs.declared.state.PlannerOutput.{PlannerOutput}
use Rattle.vortex_scan.specs.declared.state.PlannerOutput.TheVariants as planner
use Rattle.vortex_table_chunks.specs.ChunkOf.{chunk_column}
use Rattle.vortex_table_chunks.specs.declared.chunk.Chunk.{Chunk}
use Rattle.vortex_table_planner.specs.Live.{chunks_of}
use Rattle.vortex_table_planner.specs.Morsels.{IsSound, MorselState, is_fresh, is_fresh_at, is_missing, is_want, morsel_asked, morsel_owed, morsel_permits, morsel_plan, morsel_state, morsel_work, no_chunks}
use Rattle.vortex_table_planner.specs.Planners.{PermitsSome, PlannerComputes, PlannerState, PlannerTakes, morsel_for, planner_asked, planner_names, planner_orderly, planner_owed, planner_permits, planner_plan, planner_state, planner_work}
use Rattle.vortex_table_planner.specs.declared.errors.PlanError.{PlanError}
use Rattle.vortex_table_planner.specs.declared.errors.PlanError.TheVariants as error
use Rattle.vortex_table_planner.specs.declared.live.LiveSplit.{LiveSplit}
use Rattle.vortex_table_planner.specs.declared.phase.Phase.TheVariants as phase

-- what planners know of their morsels
abbrev pub morsels : Children MorselState Chunk PlanError
morsels = record { orderly = IsSound; asked = morsel_asked; work = morsel_work; permits = morsel_permits; state_is = morsel_state }

-- what is owed by these splits' morsels is that of the first and then that of the others
planner_gives : (content : Content Chunk) (old : PlannerState) (answer : Result (PlannerOutput PlannerState MorselState) PlanError) (new : PlannerState) → PlannerComputes old answer new
    → PlannerGives (λ child. planner_owed child content) (λ child. morsel_owed child content) (planner_owed old content) answer (planner_owed new content)
planner_gives content old (Ok planner.Done) new c = rw c.0 refl
planner_gives content old (Ok planner.Continue) new c = absurd c
planner_gives content old (Ok (planner.NeedsIO batch)) new c = absurd c
planner_gives content old (Ok (planner.Planner scope child)) new c = absurd c
planner_gives content old (Ok (planner.Morsel scope child)) new c =
    let kept : planner_owed new content ≡ flat_map (λ (live : LiveSplit). under live.scope (morsel_owed (morsel_for old live) content)) new.left =
    ap (λ (it : PlannerState). planner_owed it content) c.4 in
    rw (c.1, c.2, c.3, kept) refl
planner_gives content old (Err failure) new c = tt

pub planner_owes : PlannerOwes chunk_column PlannerTakes planner_names planner_state PlannerComputes planner_owed morsel_owed
planner_owes = record {
  gives = planner_gives;
  ends = λ content it done. absurd (cc);
  delivers = λ content old number target outcome new takes named agrees. rw takes refl;
  publishes = λ old batch new c. absurd c;
}

-- no chunk was given for no column
pub none_given : (columns : List ColumnDesc) (column : ℕ) → is_missing (no_chunks columns) column ≡ true
none_given [] column = refl
none_given (first ∷ columns) zero = refl
none_given (first ∷ columns) (suc column) = none_given columns column

pub all_missing : (columns : List ColumnDesc) (needed : List ℕ) → filter (is_missing (no_chunks columns)) needed ≡ needed
all_missing columns [] = refl
all_missing columns (column ∷ needed) = rw (none_given columns column) (ap (λ rest. column ∷ rest) (all_missing columns needed))

pub length_none : (columns : List ColumnDesc) → length (no_chunks columns) ≡ length columns
length_none [] = refl
length_none (column ∷ columns) = ap suc (length_none columns)

-- a new morsel is sound
sound_new : (it : PlannerState) (live : LiveSplit) → planner_orderly it → IsSound (morsel_for it live)
sound_new it live fits = record { wanted = fits; long = length_none it.wanted.columns; none = λ e. all_missing it.wanted.columns it.wanted.needed; some = λ e. absurd (cc) }

planner_goes_on : (old : PlannerState) (output : PlannerOutput PlannerState MorselState) (new : PlannerState) → planner_orderly old → PlannerComputes old (Ok output) new
    → planner_orderly new × PlannerGoesOn planner_orderly planner_asked planner_state planner_work morsels output (planner_asked old) (planner_asked new) (planner_work old) (planner_work new) (planner_state new)
planner_goes_on old planner.Done new o c = rw c.1 (o, refl)
planner_goes_on old planner.Continue new o c = absurd c
planner_goes_on old (planner.NeedsIO batch) new o c = absurd c
planner_goes_on old (planner.Planner scope child) new o c = absurd c
planner_goes_on old (planner.Morsel scope child) new o c =
    let kept : planner_orderly new = rw c.4 o in
    let fewer : length old.left ≡ length new.left + 1 = rw c.1 (omega arith) in
    rw c.3 (kept, ((sound_new old c.0 o, refl, (λ e. absurd (cc)), omega (arith, fewer)), refl, (λ e. absurd (cc))))

planner_memory : (it : PlannerState) (content : Content Chunk) (failure : PlanError) → planner_orderly it → is_want failure ≡ true → planner_permits it content failure
planner_memory it content (error.ChunkMismatch split column) o e = absurd (cc)
planner_memory it content error.OutOfMemory o e = tt

planner_fails : (old : PlannerState) (failure : PlanError) (new : PlannerState) → planner_orderly old → PlannerComputes old (Err failure) new → (content : Content Chunk) → planner_permits old content failure
planner_fails old (error.ChunkMismatch split column) new o c content = absurd (let e = c.0 in cc)
planner_fails old error.OutOfMemory new o c content = tt

-- what is permitted of these splits is so by what is wanted and selected alone
permits_kept : (old : PlannerState) (left : List LiveSplit) (content : Content Chunk) (failure : PlanError) (splits : List LiveSplit) → PermitsSome (record old { left = left }) content failure splits → PermitsSome old content failure splits
permits_kept old left content failure [] p = absurd p
permits_kept old left content failure (live ∷ splits) (inl p) = inl p
permits_kept old left content failure (live ∷ splits) (inr p) = inr (permits_kept old left content failure splits p)

planner_permits_less : (old : PlannerState) (output : PlannerOutput PlannerState MorselState) (new : PlannerState) (content : Content Chunk) (failure : PlanError) → planner_orderly old → PlannerComputes old (Ok output) new
    → (planner_permits new content failure → planner_permits old content failure) × ChildPermits planner_permits morsel_permits output content failure (planner_permits old content failure)
planner_permits_less old planner.Done new content failure o c = rw c.1 ((λ p. p), tt)
planner_permits_less old planner.Continue new content failure o c = absurd c
planner_permits_less old (planner.NeedsIO batch) new content failure o c = absurd c
planner_permits_less old (planner.Planner scope child) new content failure o c = absurd c
planner_permits_less old (planner.Morsel scope child) new content error.OutOfMemory o c = ((λ p. tt), (λ p. tt))
planner_permits_less old (planner.Morsel scope child) new content (error.ChunkMismatch split column) o c =
    let failure : PlanError = error.ChunkMismatch split column in
    let left : List LiveSplit = new.left in (
      (λ p. subst (λ (left : List LiveSplit). PermitsSome old content failure left) (sym c.1) (inr (permits_kept old left content failure left (subst (λ (it : PlannerState). PermitsSome it content failure left) c.4 p)))),
      (λ p. subst (λ (left : List LiveSplit). PermitsSome old content failure left) (sym c.1) (inl (rw c.3 at p))),
    )

pub planner_is_orderly : PlannerIsOrderly chunk_column PlannerTakes planner_state PlannerComputes planner_orderly planner_asked planner_work is_want planner_permits morsels
planner_is_orderly = record {
  some_work = λ it o. omega arith;
  waits = λ it o waits. absurd (cc);
  goes_on = planner_goes_on;
  delivers = λ old number request outcome new o one kind takes. absurd (cc);
  memory = planner_memory;
  fails = planner_fails;
  permits_less = planner_permits_less;
  permits_given = λ old number request outcome new content failure o one agrees takes permits. absurd (cc);
}

planner_spends : (told : Option (Content Chunk)) (old : PlannerState) (answer : Result (PlannerOutput PlannerState MorselState) PlanError) (new : PlannerState) → PlannerComputes old answer new
    → PlannerSpends (λ child. morsel_plan child told) (planner_plan old told) answer (planner_plan new told)
planner_spends told old (Ok planner.Done) new c = rw c.0 refl
planner_spends told old (Ok planner.Continue) new c = absurd c
planner_spends told old (Ok (planner.NeedsIO batch)) new c = absurd c
planner_spends told old (Ok (planner.Planner scope child)) new c = absurd c
planner_spends told old (Ok (planner.Morsel scope child)) new c =
    let kept : new.wanted ≡ old.wanted = ap (λ (it : PlannerState). it.wanted) c.4 in
    rw (c.1, c.2, c.3, kept) refl
planner_spends told old (Err failure) new c = rw c.1 refl

-- a new morsel is fresh where it has targets
fresh_new : (split : ℕ) (needed : List ℕ) → is_fresh_at phase.Fresh needed ≡ has_targets (chunks_of split needed)
fresh_new split [] = refl
fresh_new split (column ∷ needed) = refl

pub planner_follows_plan : PlannerFollowsPlan planner_state PlannerComputes planner_plan morsel_plan is_fresh
planner_follows_plan = record {
  spends = planner_spends;
  fresh_child = λ old scope child new c. rw c.3 (fresh_new c.0.split old.wanted.needed);
  acts = λ it e. absurd (cc);
  ends = λ told it done. absurd (cc);
}
