-- One read of a reader gives the next of the records that it has left.
use Rattle.std.proofs.Common.{◌≡◌, ◌<◌, ◌∙◌, ℕ, zero, suc, List, [], ◌∷◌, length, true, false, Bool, Option, Some, None, arith, refl}
use Rattle.std.specs.Prelude.{IfSome}
use Rattle.csv.specs.Machine.{Read, ends_at_end, next_record}
use Rattle.csv.specs.Reading.{NextIs, ReadRecord, ReadsNext, ReadsOn, default_config, pending_of, records_from, reader_state}
use Rattle.csv.specs.declared.parser.State.{State}
use Rattle.csv.specs.declared.reader.Reader.{Reader}
use Rattle.vortex_query.specs.Left.{AreLeft, Gives, Left}
use Rattle.vortex_query.proofs.Records.{Shorter, records-next, records-none, takes-some}

record More (state : State) (bytes : Option (List ℕ)) (rows : List (List (List ℕ))) (fields : List (List ℕ)) : Type 0 where
  others : List (List (List ℕ))
  rows_are : rows ≡ fields ∷ others
  left : AreLeft state bytes others
  between : ends_at_end state ≡ false

more-some : (s s2 : State) (y ys : List ℕ) (f : List (List ℕ)) (n : ℕ) (o : Option Read) → next_record default_config s [] [] y ≡ o → IfSome o (Shorter (length y))
    → length y < n → NextIs o true f s2 ys → More s2 (Some ys) (records_from default_config n s y) f
more-some s s2 y ys f n None e short enough h = absurd (cc h)
more-some s s2 y ys f zero (Some p) e short enough h = absurd (omega arith)
more-some s s2 y ys f (suc n) (Some p) e short enough h = record {
  others = records_from default_config n s2 ys;
  rows_are = rw (h.1, h.2, h.3) (records-next default_config n s y p e);
  left = record { rest = ys; known = refl; turns = n; enough = rw h.3 (omega arith); rows_are = refl };
  between = rw h.2 short.between;
}

more : (s s2 : State) (y : List ℕ) (k : Option (List ℕ)) (f : List (List ℕ)) (n : ℕ) → ends_at_end s ≡ false → length y < n
    → ReadsNext default_config s (Some y) k true f s2 → More s2 k (records_from default_config n s y) f
more s s2 y None f n b enough h = absurd h
more s s2 y (Some ys) f n b enough h = more-some s s2 y ys f n (next_record default_config s [] [] y) refl (takes-some default_config s y b) enough h

none-some : (s : State) (y ys : List ℕ) (f : List (List ℕ)) (s2 : State) (n : ℕ) (o : Option Read) → next_record default_config s [] [] y ≡ o → NextIs o false f s2 ys → records_from default_config n s y ≡ []
none-some s y ys f s2 n None e h = records-none default_config n s y e
none-some s y ys f s2 n (Some p) e h = absurd (cc h.0)

none : (s s2 : State) (y : List ℕ) (k : Option (List ℕ)) (f : List (List ℕ)) (n : ℕ) → ReadsNext default_config s (Some y) k false f s2 → records_from default_config n s y ≡ []
none s s2 y None f n h = absurd h
none s s2 y (Some ys) f n h = none-some s y ys f s2 n (next_record default_config s [] [] y) refl h

pub gives : {R : Type 0} (rem : R → Option (List ℕ)) (a b : Reader R) (found : Bool) (f : List (List ℕ)) (rows : List (List (List ℕ)))
    → Left rem a rows → ReadRecord rem a b found f → (found ≡ true → ReadsOn a b) → Gives rem found rows f b
gives rem a b true f rows l r on =
    let o = on refl in
    let next = rw (l.config_is, l.left.known) at r.0 in
    let m = more (reader_state a) (reader_state b) l.left.rest (pending_of (rem b.rdr) b) f l.left.turns l.between l.left.enough next in (
      m.others,
      l.left.rows_are ∙ m.rows_are,
      record {
        trims = o.1 ∙ l.trims;
        is_ready = (o.4 l.is_ready).0;
        config_is = o.0 ∙ l.config_is;
        flexible_is = o.2 ∙ l.flexible_is;
        between = m.between;
        left = rw r.1 m.left;
      },
    )
gives rem a b false f rows l r on =
    let next = rw (l.config_is, l.left.known) at r.0 in
    l.left.rows_are ∙ none (reader_state a) (reader_state b) l.left.rest (pending_of (rem b.rdr) b) f l.left.turns next
