-- A fetch that a completion answers, taken out of a list.
use Rattle.std.proofs.Common.{◌≡◌, ℕ, suc, List, true, IsTrue, Some, take, drop}
use Rattle.std.specs.Prelude.{position, slice_get}
use Rattle.std.specs.List.{remove}
use Rattle.std.proofs.lemmas.Bool.{and_parts, eqb-true}
use Rattle.vortex_io.specs.declared.ids.IoOwnerId.{IoOwnerId}
use Rattle.vortex_io.specs.declared.ids.IoRequestId.{IoRequestId}
use Rattle.vortex_io.specs.declared.request.Completion.{Completion}
use Rattle.vortex_io.specs.declared.request.Fetch.{Fetch}
use Rattle.vortex_io.specs.Source.{Taken, is_named, is_of_kind}
use Rattle.vortex_scan.specs.Fetching.{is_answer}
use Rattle.vortex_scan.proofs.Places.{at_position, split_at}

pub named_owner : (owner : IoOwnerId) (request : IoRequestId) (fetch : Fetch) → is_named owner request fetch ≡ true → fetch.owner ≡ owner
named_owner owner request fetch named =
    let same : fetch.owner.0 ≡ owner.0 = eqb-true _ _ (and_parts _ _ named).0 in
    λ i. record { 0 = same i }

pub named_request : (owner : IoOwnerId) (request : IoRequestId) (fetch : Fetch) → is_named owner request fetch ≡ true → fetch.request ≡ request
named_request owner request fetch named =
    let same : fetch.request.0 ≡ request.0 = eqb-true _ _ (and_parts _ _ named).1 in
    λ i. record { 0 = same i }

pub took : {C : Type 0} (completion : Completion C) (old new : List Fetch) (place : ℕ) (entry : Fetch) → position (is_answer completion) old ≡ Some place → slice_get old place ≡ Some entry → new ≡ remove old place
    → (one : Fetch) × Taken completion.owner completion.request old new one × IsTrue (is_of_kind one.target completion.result)
took completion old new place entry first at left =
    let passes = at_position (is_answer completion) old place entry first at in
    let parts = and_parts (is_named completion.owner completion.request entry) (is_of_kind entry.target completion.result) passes in (
      entry,
      record {
        before = take place old;
        behind = drop (suc place) old;
        stood = split_at old place entry at;
        left = left;
        whose = named_owner completion.owner completion.request entry parts.0;
        number = named_request completion.owner completion.request entry parts.0;
      },
      parts.1,
    )
