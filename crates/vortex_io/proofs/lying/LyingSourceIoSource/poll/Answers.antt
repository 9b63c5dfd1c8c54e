use Rattle.std.proofs.Common.{◌≡◌, Ok, Some, None, arith, rules}
use Rattle.vortex_io.proofs.Copied.{given_inside, given_listed}
use Rattle.vortex_io.proofs.Covered.{covered_lied, covered_completed, completes_lied, rose_together}
use Rattle.vortex_io.proofs.lying.LyingSourceIoSource.poll.Goals as goal
use Rattle.vortex_io.proofs.lying.LyingSourceIoSource.poll.Goals.{in-Ok-Some, in-Ok-None+in-Ok-Some-poll}

pub invariant_of-self-2 : goal.invariant_of-self-2
invariant_of-self-2 g c =
    let own = c.self.inside.own.outstanding.items in
    let before = g.S.IoSource.outstanding c.self.inside.inner in
    let answer = c.match-next-2.answer in
    elim c.match-next-2.branch [
      | in-Ok-Some w ↦ rw (c.counted.ensures.taken, w.self-inside-is, c.next.ensures.counted) (covered_lied before own answer.owner answer.request c.self.invariant)
      | in-Ok-None+in-Ok-Some-poll w ↦
          let completes = rw (w.in-Ok-Some-poll.is, w.in-Ok-Some-poll.field-0-is) at w.poll.ensures.accounts in
          rw (c.counted.ensures.taken, w.self-inside-is, c.next.ensures.counted, w.answer-is)
          (covered_completed g.S.Payload.Payload.means (g.S.IoSource.content c.self.inside.inner) before (g.S.IoSource.outstanding w.poll.new.self) own (g.S.IoSource.lies c.self.inside.inner) (g.S.IoSource.lies w.poll.new.self) w.in-Ok-Some-poll.answer c.self.invariant completes)
    ]

pub returns-clause-accounts : goal.returns-clause-accounts
returns-clause-accounts g c =
    let own = c.self.inside.own.outstanding.items in
    let count = c.self.inside.own.answers in
    let lies = g.S.IoSource.lies c.self.inside.inner in
    let told = g.S.IoSource.content c.self.inside.inner in
    let answer = c.match-next-2.answer in
    elim c.match-next-2.branch [
      | in-Ok-Some w ↦
          rw (← c.self.view_is, c.counted.ensures.same, c.counted.ensures.taken, c.counted.ensures.counted, w.self-inside-is, c.next.ensures.counted)
          (completes_lied g.S.Payload.Payload.means told own _ _ answer (rose_together count lies lies (omega arith)))
      | in-Ok-None+in-Ok-Some-poll w ↦
          rw (← c.self.view_is, c.counted.ensures.same, c.counted.ensures.taken, c.counted.ensures.counted, w.self-inside-is, c.next.ensures.counted)
          (completes_lied g.S.Payload.Payload.means told own _ _ answer (rose_together count lies (g.S.IoSource.lies w.poll.new.self) w.poll.ensures.lies))
    ]

pub returns-clause-polls : goal.returns-clause-polls
returns-clause-polls g c =
    elim c.match-next-2.branch [
      | in-Ok-Some w ↦
          let is : c.next.result ≡ Ok (Some c.match-next-2.answer) = search rules in
          let copied = rw is at c.next.ensures.ok in
          record {
            left = search rules;
            given = rw (← c.self.view_is, c.counted.ensures.same, w.self-inside-is) (given_listed g.S.Payload.Payload.means c.self.inside.inner _ c.match-next-2.answer _ copied);
          }
      | in-Ok-None+in-Ok-Some-poll w ↦
          let is : c.next.result ≡ Ok None = search rules in
          let copied = rw is at c.next.ensures.ok in
          let polled = rw (w.in-Ok-Some-poll.is, w.in-Ok-Some-poll.field-0-is) at w.poll.ensures.polls in
          record {
            left = search rules;
            given = rw (← c.self.view_is, c.counted.ensures.same, w.self-inside-is, w.answer-is) (given_inside g.S.Payload.Payload.means _ _ _ copied polled);
          }
    ]
