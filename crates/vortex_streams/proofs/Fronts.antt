-- What reads take from the front of the bytes that are left.
use Rattle.std.proofs.Common.{◌≡◌, ◌≤◌, ◌<◌, ◌+◌, ◌-◌, ◌++◌, ◌∙◌, ap, sym, subst, arith, ℕ, List, [], length, length-append, length-drop, length-take, take, drop, Option, min}
use Rattle.std.proofs.Math.Seq.{take-add}
use Rattle.std.proofs.KnownBytes.{Appends-trans, Consumes-trans}
use Rattle.std.proofs.lemmas.List.{drop_all, take_all, take-append-le}
use Rattle.std.proofs.lemmas.List.Folds.{drop_split}
use Rattle.std.specs.Io.KnownBytes.{Appends, Consumes}
use Rattle.std.specs.List.{slice_range}
use Rattle.vortex_streams.specs.Known.{ConsumesFront, ConsumesMoreThan}

-- a read after others that passes the limit with them
pub more_than : (a b c : Option (List ℕ)) (before buffer : List ℕ) (n limit : ℕ) → Consumes a b before → Consumes b c (take n buffer) → n ≤ length buffer
    → limit < length before + n → ConsumesMoreThan a c limit
more_than a b c before buffer n limit first second inside past =
    let l = length-append before (take n buffer) in
    let t = length-take n buffer in
    (before ++ take n buffer, omega (arith, l, t, inside, past), Consumes-trans a b c before (take n buffer) first second)

-- what the reads consumed together is a front
pub front_consumed : (a b c : Option (List ℕ)) (before now : List ℕ) → Consumes a b before → Consumes b c now → ConsumesFront a c
front_consumed a b c before now first second = (before ++ now, Consumes-trans a b c before now first second)

-- the part that was copied to the front of a buffer stood before what is left
front_read : (bytes rest : List ℕ) (at n : ℕ) → at + n ≤ length bytes → drop at bytes ≡ take n (slice_range bytes at (at + n) ++ rest) ++ drop (at + n) bytes
front_read bytes rest at n inside =
    let part = slice_range bytes at (at + n) in
    let t = length-take (at + n - at) (drop at bytes) in
    let d = length-drop at bytes in
    let front : take n (part ++ rest) ≡ part = take-append-le n part rest (omega (arith, t, d, inside)) ∙ take_all n part (omega (arith, t, d, inside)) in
    drop_split bytes at (at + n) (omega arith) ∙ ap (λ l. l ++ drop (at + n) bytes) (sym front)

-- a read of as many bytes as are left and fit a buffer takes them from the front, and takes none only at the end or with no room
pub whole_read : (bytes buffer copied : List ℕ) (at n : ℕ) → at ≤ length bytes → n ≡ min (length buffer) (length bytes - at) → copied ≡ slice_range bytes at (at + n)
    → (drop at bytes ≡ take n (copied ++ drop n buffer) ++ drop (at + n) bytes) × (n ≡ 0 → 0 < length (copied ++ drop n buffer) → drop (at + n) bytes ≡ [])
whole_read bytes buffer copied at n inside size same =
    let t = length-take (at + n - at) (drop at bytes) in
    let d = length-drop at bytes in
    let b = length-drop n buffer in
    let s : length copied ≡ length (slice_range bytes at (at + n)) = ap length same in (
      rw same (front_read bytes (drop n buffer) at n (omega (arith, inside, size))),
      λ none room. let a = length-append copied (drop n buffer) in drop_all (at + n) bytes (omega (arith, inside, size, none, room, a, b, s, t, d)),
    )

-- a front of the bytes and a front of those behind it, handed over one after the other, are a longer front
pub appended_more : (a b c : Option (List ℕ)) (bytes : List ℕ) (at n : ℕ) → Appends a b (take at bytes) → Appends b c (take n (take (length bytes - at) (drop at bytes)))
    → Appends a c (take (at + n) bytes)
appended_more a b c bytes at n first second =
    let all : take (length bytes - at) (drop at bytes) ≡ drop at bytes = take_all (length bytes - at) (drop at bytes) (omega (arith, length-drop at bytes)) in
    let joined : take at bytes ++ take n (take (length bytes - at) (drop at bytes)) ≡ take (at + n) bytes =
    ap (λ l. take at bytes ++ take n l) all ∙ sym (take-add at n bytes) in
    subst (Appends a c) joined (Appends-trans a b c _ _ first second)
