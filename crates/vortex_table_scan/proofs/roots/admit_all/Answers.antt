use Rattle.std.proofs.Common.{◌∙◌, sym, ap, refl, ◌+◌, ◌<◌, ◌∷◌, [], ◌++◌, length, vec_capacity, append_assoc}
use Rattle.vortex_table_scan.specs.Parted.{is_left}
use Rattle.vortex_table_scan.proofs.AdmitsMore.{so_far_then}
use Rattle.vortex_table_scan.proofs.Picking.{room_left}
use Rattle.vortex_table_scan.proofs.roots.admit_all.Goals as goal

pub place_one-stopped-requires-clause-room : goal.place_one-stopped-requires-clause-room
place_one-stopped-requires-clause-room g c =
    let inv = c.sources.invariant in
    let less : length c.sources.others.items < vec_capacity c.args.others.now =
    room_left (is_left c.args.request.now c.sources.stopped) c.sources.yielded c.in-Some.source c.sources.source-iterator.rest.items c.next.new.self.rest.items c.args.sources.items c.sources.others.items c.args.sources.len (vec_capacity c.args.others.now)
    inv.so.others inv.whole c.in-Some.ensures.steps.0 c.args.sources.ok.0 c.requires.room in
    rw inv.room less

-- one more source
pub sources-preserved : goal.sources-preserved
sources-preserved g c =
    let inv = c.sources.invariant in
    let step = c.in-Some.ensures.steps in
    record {
      whole = append_assoc c.sources.yielded (c.in-Some.source ∷ []) c.next.new.self.rest.items ∙ ap (λ rest. c.sources.yielded ++ rest) (sym step.0) ∙ inv.whole;
      room = c.place_one-stopped.ensures.room ∙ inv.room;
      so = so_far_then c.args.columns.now c.args.partitions.now c.args.request.now c.args.run.now c.sources.run c.place_one-stopped.new.run c.sources.yielded c.in-Some.source c.sources.partition (c.sources.partition + 1) c.sources.stopped
          c.place_one-stopped.result c.sources.others.items c.place_one-stopped.new.others.items inv.so refl c.place_one-stopped.ensures.placed;
    }
