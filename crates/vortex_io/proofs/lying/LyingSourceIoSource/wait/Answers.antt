use Rattle.std.proofs.Common.{◌≡◌, Ok, Some, None, arith, rules}
use Rattle.vortex_io.proofs.Copied.{given_inside, given_listed}
use Rattle.vortex_io.proofs.Covered.{covered_lied, covered_completed, covered_some, completes_lied, rose_together}
use Rattle.vortex_io.proofs.lying.LyingSourceIoSource.wait.Goals as goal
use Rattle.vortex_io.proofs.lying.LyingSourceIoSource.wait.Goals.{in-Some, in-None+in_ok-answer-in-None}

pub wait-requires : goal.wait-requires
wait-requires g c = covered_some (g.S.IoSource.outstanding c.self.inside.inner) c.self.inside.own.outstanding.items c.self.invariant (rw (← c.self.view_is) at c.requires)

pub invariant_of-self-2 : goal.invariant_of-self-2
invariant_of-self-2 g c =
    let own = c.self.inside.own.outstanding.items in
    let before = g.S.IoSource.outstanding c.self.inside.inner in
    let answer = c.match-branch-2.answer in
    elim c.match-branch-2.branch [
      | in-Some w ↦ rw (c.counted.ensures.taken, w.self-inside-is, c.next.ensures.counted) (covered_lied before own answer.owner answer.request c.self.invariant)
      | in-None+in_ok-answer-in-None w ↦
          let completes = w.in_ok-answer-in-None.ensures.accounts in
          rw (c.counted.ensures.taken, w.self-inside-is, c.next.ensures.counted, w.answer-is)
          (covered_completed g.S.Payload.Payload.means (g.S.IoSource.content c.self.inside.inner) before (g.S.IoSource.outstanding w.wait.new.self) own (g.S.IoSource.lies c.self.inside.inner) (g.S.IoSource.lies w.wait.new.self) w.in_ok-answer-in-None.answer c.self.invariant completes)
    ]

pub returns-clause-accounts : goal.returns-clause-accounts
returns-clause-accounts g c =
    let own = c.self.inside.own.outstanding.items in
    let count = c.self.inside.own.answers in
    let lies = g.S.IoSource.lies c.self.inside.inner in
    let told = g.S.IoSource.content c.self.inside.inner in
    let answer = c.match-branch-2.answer in
    elim c.match-branch-2.branch [
      | in-Some w ↦
          rw (← c.self.view_is, c.counted.ensures.same, c.counted.ensures.taken, c.counted.ensures.counted, w.self-inside-is, c.next.ensures.counted)
          (completes_lied g.S.Payload.Payload.means told own _ _ answer (rose_together count lies lies (omega arith)))
      | in-None+in_ok-answer-in-None w ↦
          rw (← c.self.view_is, c.counted.ensures.same, c.counted.ensures.taken, c.counted.ensures.counted, w.self-inside-is, c.next.ensures.counted)
          (completes_lied g.S.Payload.Payload.means told own _ _ answer (rose_together count lies (g.S.IoSource.lies w.wait.new.self) w.wait.ensures.lies))
    ]

pub returns-clause-waits : goal.returns-clause-waits
returns-clause-waits g c =
    elim c.match-branch-2.branch [
      | in-Some w ↦
          let is : c.next.result ≡ Ok (Some c.match-branch-2.answer) = search rules in
          let copied = rw is at c.next.ensures.ok in
          record {
            left = search rules;
            given = rw (← c.self.view_is, c.counted.ensures.same, w.self-inside-is) (given_listed g.S.Payload.Payload.means c.self.inside.inner _ c.match-branch-2.answer _ copied);
          }
      | in-None+in_ok-answer-in-None w ↦
          let is : c.next.result ≡ Ok None = search rules in
          let copied = rw is at c.next.ensures.ok in
          let waited = w.in_ok-answer-in-None.ensures.waits in
          record {
            left = search rules;
            given = rw (← c.self.view_is, c.counted.ensures.same, w.self-inside-is, w.answer-is) (given_inside g.S.Payload.Payload.means _ _ _ copied waited);
          }
    ]
