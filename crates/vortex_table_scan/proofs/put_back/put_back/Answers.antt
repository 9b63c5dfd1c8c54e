use Rattle.std.proofs.Common.{◌≡◌, ◌∙◌, sym, ap, refl, ℕ, not, List, [], ◌∷◌, ◌++◌, length, arith}
use Rattle.std.specs.Prelude.{Option, Some, None, MatchOption}
use Rattle.std.specs.Option.{option_to_list}
use Rattle.vortex_table_scan.specs.Parted.{is_admitted, is_left}
use Rattle.vortex_table_scan.proofs.Picking.{all_moved, moved_on, moved_past, some_left}
use Rattle.vortex_table_scan.proofs.put_back.put_back.Goals.{then-is_admitted, else-is_admitted}
use Rattle.vortex_table_scan.proofs.put_back.put_back.Goals as goal

-- what an iterator gave was its first
taken : {X : Type 0} (next result : Option X) (x : X) (list rest : List X) → next ≡ result → next ≡ Some x → list ≡ option_to_list result ++ rest → list ≡ x ∷ rest
taken next result x list rest same is items = let e : result ≡ Some x = sym same ∙ is in rw e at items

-- one that gave nothing was at its end
at_end : {X : Type 0} (A B : Type 0) (C : X → Type 0) (next result : Option X) → next ≡ result → next ≡ None → MatchOption result (A × B) C → A
at_end A B C next result same is cases = let e : result ≡ None = sym same ∙ is in (rw e at cases).0

no_items : {X : Type 0} (list : List X) (len : ℕ) → length list ≡ len → len ≡ 0 → list ≡ []
no_items [] len e n = refl
no_items (x ∷ list) len e n = absurd (omega (arith, e, n))

pub unreachable-requires : goal.unreachable-requires
unreachable-requires g c = elim c.if-is_admitted.branch [
  | then-is_admitted w ↦
      let end = at_end _ _ _ c.if-is_admitted.next w.next-next.result w.next-is c.in-None.is w.next-next.ensures.cases in
      some_left (is_admitted c.args.request.now c.args.stopped) c.partitions.home.items c.partitions.admitted.rest.items c.args.admitted.items c.partitions.partition c.args.partitions (sym c.partitions.invariant.long) (sym w.if-is_admitted.ensures)
      c.partitions-test.true c.partitions.invariant.admitted c.requires.admitted (no_items _ c.partitions.admitted.rest.len (sym c.partitions.admitted.rest.ok.0) end)
  | else-is_admitted w ↦
      let end = at_end _ _ _ c.if-is_admitted.next w.next-next-else-is_admitted.result w.next-is c.in-None.is w.next-next-else-is_admitted.ensures.cases in
      some_left (is_left c.args.request.now c.args.stopped) c.partitions.home.items c.partitions.others.rest.items c.args.others.items c.partitions.partition c.args.partitions (sym c.partitions.invariant.long) (ap not (sym w.if-is_admitted.ensures))
      c.partitions-test.true c.partitions.invariant.others c.requires.others (no_items _ c.partitions.others.rest.len (sym c.partitions.others.rest.ok.0) end)
]

-- the source moves from the list of which it is
pub partitions-preserved : goal.partitions-preserved
partitions-preserved g c =
    let inv = c.partitions.invariant in
    let items = c.push_reserved.ensures.items in
    let long = ap length items in
    elim c.if-is_admitted.branch [
      | then-is_admitted w ↦
          let first = taken c.if-is_admitted.next w.next-next.result c.in-Some.source c.partitions.admitted.rest.items w.next-next.new.self.rest.items w.next-is c.in-Some.is w.next-next.ensures.items in
          record {
            long = rw items (omega arith);
            room = c.push_reserved.ensures.capacity ∙ inv.room;
            admitted = rw (items, w.admitted-is) (moved_on (is_admitted c.args.request.now c.args.stopped) c.partitions.home.items c.in-Some.source c.partitions.partition c.partitions.admitted.rest.items w.next-next.new.self.rest.items c.args.admitted.items (sym inv.long) (sym w.if-is_admitted.ensures) inv.admitted first);
            others = rw (items, w.others-is) (moved_past (is_left c.args.request.now c.args.stopped) c.partitions.home.items c.in-Some.source c.partitions.partition c.partitions.others.rest.items c.args.others.items (sym inv.long) (ap not (sym w.if-is_admitted.ensures)) inv.others);
          }
      | else-is_admitted w ↦
          let first = taken c.if-is_admitted.next w.next-next-else-is_admitted.result c.in-Some.source c.partitions.others.rest.items w.next-next-else-is_admitted.new.self.rest.items w.next-is c.in-Some.is w.next-next-else-is_admitted.ensures.items in
          record {
            long = rw items (omega arith);
            room = c.push_reserved.ensures.capacity ∙ inv.room;
            admitted = rw (items, w.admitted-is) (moved_past (is_admitted c.args.request.now c.args.stopped) c.partitions.home.items c.in-Some.source c.partitions.partition c.partitions.admitted.rest.items c.args.admitted.items (sym inv.long) (sym w.if-is_admitted.ensures) inv.admitted);
            others = rw (items, w.others-is) (moved_on (is_left c.args.request.now c.args.stopped) c.partitions.home.items c.in-Some.source c.partitions.partition c.partitions.others.rest.items w.next-next-else-is_admitted.new.self.rest.items c.args.others.items (sym inv.long) (ap not (sym w.if-is_admitted.ensures)) inv.others first);
          }
    ]

pub returns-clause-admitted : goal.returns-clause-admitted
returns-clause-admitted g c = all_moved (is_admitted c.args.request.now c.args.stopped) c.partitions.home.items c.partitions.admitted.rest.items c.args.admitted.items c.args.partitions (omega (arith, c.partitions.invariant.long, c.partitions.auto.partition-end, c.partitions-test.false)) c.partitions.invariant.admitted c.requires.admitted

pub returns-clause-others : goal.returns-clause-others
returns-clause-others g c = all_moved (is_left c.args.request.now c.args.stopped) c.partitions.home.items c.partitions.others.rest.items c.args.others.items c.args.partitions (omega (arith, c.partitions.invariant.long, c.partitions.auto.partition-end, c.partitions-test.false)) c.partitions.invariant.others c.requires.others
