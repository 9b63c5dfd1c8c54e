-- Where the steps of a reading lead, place by place.
use Rattle.std.proofs.Common.{◌≡◌, ◌≢◌, ◌≤◌, ◌<◌, ◌-◌, ◌++◌, ◌∙◌, ap, sym, refl, subst, arith, ℕ, List, [], ◌∷◌, length, length-drop, Bool, true, false, Option, None, Some, take, drop, option_to_list, append_assoc}
use Rattle.std.proofs.lemmas.List.{drop_all, append-nil}
use Rattle.std.proofs.lemmas.List.Folds.{drop_split}
use Rattle.std.specs.List.{slice_range}
use Rattle.vortex_wire.proofs.Slices.{length_slice, slice_join}
use Rattle.vortex_wire.proofs.Steps.{into_run_back, into_run_onward, no_field, no_run_number, no_such_payload, number_back, number_onward, past_back, past_onward, reads_end, run_back, run_onward, none_in_empty}
use Rattle.vortex_wire.specs.Grammar.{BeginsField, BeginsVarint, Number, Run, LiesWithin, SpellsField, Varint, field_of, payload_of}
use Rattle.vortex_wire.specs.Messages.{Adds, Reads, ReadsOn, latest}
use Rattle.vortex_wire.specs.Places.{Leads, ReadsAt, later}
use Rattle.vortex_wire.specs.declared.field.WireField.{WireField}
use Rattle.vortex_wire.specs.declared.field.WirePayload.{WirePayload}
use Rattle.vortex_wire.specs.declared.field.WirePayload.TheVariants as seen
use Rattle.vortex_wire.specs.declared.reading.Place.{Place}

no_slice : (xs : List ℕ) (at : ℕ) → slice_range xs at at ≡ []
no_slice xs at = let none : at - at ≡ 0 = omega arith in ap (λ n. take n (drop at xs)) none

-- before a field no run is left
from_place : (runs : Bool) (number : ℕ) (bytes : List ℕ) (place : Place) → place.at ≡ place.run_end → (numbers : List ℕ) → ReadsAt runs number bytes place numbers
    → ReadsOn runs number [] (drop place.at bytes) numbers
from_place runs number bytes place order numbers h =
    let first : ReadsOn runs number (slice_range bytes place.at place.at) (drop place.at bytes) numbers =
    subst (λ (e : ℕ). ReadsOn runs number (slice_range bytes place.at e) (drop e bytes) numbers) (sym order) h in
    subst (λ (r : List ℕ). ReadsOn runs number r (drop place.at bytes) numbers) (no_slice bytes place.at) first

to_place : (runs : Bool) (number : ℕ) (bytes : List ℕ) (place : Place) → place.at ≡ place.run_end → (numbers : List ℕ) → ReadsOn runs number [] (drop place.at bytes) numbers
    → ReadsAt runs number bytes place numbers
to_place runs number bytes place order numbers h =
    let first : ReadsOn runs number (slice_range bytes place.at place.at) (drop place.at bytes) numbers =
    subst (λ (r : List ℕ). ReadsOn runs number r (drop place.at bytes) numbers) (sym (no_slice bytes place.at)) h in
    subst (λ (e : ℕ). ReadsOn runs number (slice_range bytes place.at e) (drop e bytes) numbers) order first

pub leads_run_number : (runs : Bool) (number : ℕ) (bytes : List ℕ) (place : Place) (at told : ℕ) → place.at < at → at ≤ place.run_end → place.run_end ≤ length bytes
    → Varint told (slice_range bytes place.at at) → Leads runs number bytes place (record { at = at; run_end = place.run_end }) (told ∷ [])
leads_run_number runs number bytes place at told further order inside v =
    let split = slice_join bytes place.at at place.run_end (omega (arith, further)) order in
    record {
      further = further;
      order = order;
      inside = inside;
      onward = λ numbers h. run_onward runs number _ _ _ (drop place.run_end bytes) told split v numbers h;
      back = λ numbers h. run_back runs number _ _ _ (drop place.run_end bytes) told split v numbers h;
    }

pub no_number_in_run : (runs : Bool) (number : ℕ) (bytes : List ℕ) (place : Place) → place.at < place.run_end → place.run_end ≤ length bytes
    → (BeginsVarint (slice_range bytes place.at place.run_end) → ⊥) → (numbers : List ℕ) → ReadsAt runs number bytes place numbers → ⊥
no_number_in_run runs number bytes place order inside none numbers h =
    no_run_number runs number _ _ (omega (arith, length_slice bytes place.at place.run_end (omega (arith, order)) inside)) none numbers h

pub no_field_at : (runs : Bool) (number : ℕ) (bytes : List ℕ) (place : Place) → place.at ≡ place.run_end → place.at < length bytes
    → (BeginsField (drop place.at bytes) → ⊥) → (numbers : List ℕ) → ReadsAt runs number bytes place numbers → ⊥
no_field_at runs number bytes place order inside none numbers h =
    no_field runs number (drop place.at bytes) (omega (arith, length-drop place.at bytes)) none numbers (from_place runs number bytes place order numbers h)

pub leads_past : (runs : Bool) (number : ℕ) (bytes : List ℕ) (place : Place) (field : WireField) → place.at ≡ place.run_end → place.at < field.end → field.end ≤ length bytes
    → SpellsField (field_of bytes field) (slice_range bytes place.at field.end) → field.number ≢ number
    → Leads runs number bytes place (record { at = field.end; run_end = field.end }) []
leads_past runs number bytes place field order further inside s other =
    let next : Place = record { at = field.end; run_end = field.end } in
    let split = drop_split bytes place.at field.end (omega (arith, further)) in
    record {
      further = further;
      order = omega arith;
      inside = inside;
      onward = λ numbers h.
          to_place runs number bytes place order numbers
          (past_onward runs number _ _ _ (field_of bytes field) split s other numbers (from_place runs number bytes next refl numbers h));
      back = λ numbers h.
          let r = past_back runs number _ _ _ (field_of bytes field) split s other numbers (from_place runs number bytes place order numbers h) in
          (r.0, to_place runs number bytes next refl r.0 r.1);
    }

pub leads_number : (runs : Bool) (bytes : List ℕ) (place : Place) (field : WireField) (told : ℕ) → place.at ≡ place.run_end → place.at < field.end → field.end ≤ length bytes
    → SpellsField (field_of bytes field) (slice_range bytes place.at field.end) → field.payload ≡ seen.Varint told
    → Leads runs field.number bytes place (record { at = field.end; run_end = field.end }) (told ∷ [])
leads_number runs bytes place field told order further inside s is =
    let next : Place = record { at = field.end; run_end = field.end } in
    let split = drop_split bytes place.at field.end (omega (arith, further)) in
    let held : payload_of bytes field.payload ≡ Number told = ap (payload_of bytes) is in
    record {
      further = further;
      order = omega arith;
      inside = inside;
      onward = λ numbers h.
          to_place runs field.number bytes place order (told ∷ numbers)
          (number_onward runs field.number _ _ _ (field_of bytes field) told split s refl held numbers (from_place runs field.number bytes next refl numbers h));
      back = λ numbers h.
          let r = number_back runs field.number _ _ _ (field_of bytes field) split s numbers (from_place runs field.number bytes place order numbers h) in
          (r.0, to_place runs field.number bytes next refl r.0 r.1);
    }

pub leads_into_run : (runs : Bool) (bytes : List ℕ) (place : Place) (field : WireField) (start stop : ℕ) → runs ≡ true → place.at ≡ place.run_end → field.end ≤ length bytes
    → SpellsField (field_of bytes field) (slice_range bytes place.at field.end) → LiesWithin place.at field.end field.payload → field.payload ≡ seen.Run start stop
    → Leads runs field.number bytes place (record { at = start; run_end = stop }) []
leads_into_run runs bytes place field start stop taken order inside s lies is =
    let within : LiesWithin place.at field.end (seen.Run start stop) = subst (LiesWithin place.at field.end) is lies in
    let ends : field.end ≡ stop = sym within.2 in
    let split = drop_split bytes place.at field.end (omega (arith, within.0, within.1, within.2)) in
    let held : payload_of bytes field.payload ≡ Run (slice_range bytes start stop) = ap (payload_of bytes) is in
    let run = slice_range bytes start stop in
    record {
      further = within.0;
      order = within.1;
      inside = omega (arith, within.2, inside);
      onward = λ numbers h.
          let here : ReadsOn true field.number run (drop field.end bytes) numbers =
          subst (λ (e : ℕ). ReadsOn true field.number run (drop e bytes) numbers) (sym ends) (subst (λ (b : Bool). ReadsOn b field.number run (drop stop bytes) numbers) taken h) in
          let all = into_run_onward field.number _ _ _ run (field_of bytes field) split s refl held numbers here in
          to_place runs field.number bytes place order numbers (subst (λ (b : Bool). ReadsOn b field.number [] (drop place.at bytes) numbers) (sym taken) all);
      back = λ numbers h.
          let all : ReadsOn true field.number [] (drop place.at bytes) numbers =
          subst (λ (b : Bool). ReadsOn b field.number [] (drop place.at bytes) numbers) taken (from_place runs field.number bytes place order numbers h) in
          let r = into_run_back field.number _ _ _ run (field_of bytes field) split s refl held numbers all in
          (r.0, subst (λ (b : Bool). ReadsOn b field.number run (drop stop bytes) r.0) (sym taken) (subst (λ (e : ℕ). ReadsOn true field.number run (drop e bytes) r.0) ends r.1));
    }

-- a field of this number whose payload is not allowed
no_payload_at : (runs : Bool) (bytes : List ℕ) (place : Place) (field : WireField) → place.at ≡ place.run_end → place.at < field.end
    → SpellsField (field_of bytes field) (slice_range bytes place.at field.end) → ((added : List ℕ) → Adds runs (payload_of bytes field.payload) added → ⊥)
    → (numbers : List ℕ) → ReadsAt runs field.number bytes place numbers → ⊥
no_payload_at runs bytes place field order further s none numbers h =
    no_such_payload runs field.number _ _ _ (field_of bytes field) (drop_split bytes place.at field.end (omega (arith, further))) s refl none numbers
    (from_place runs field.number bytes place order numbers h)

pub refused_run : (runs : Bool) (bytes : List ℕ) (place : Place) (field : WireField) (start stop : ℕ) → runs ≡ false → place.at ≡ place.run_end → place.at < field.end
    → SpellsField (field_of bytes field) (slice_range bytes place.at field.end) → field.payload ≡ seen.Run start stop
    → (numbers : List ℕ) → ReadsAt runs field.number bytes place numbers → ⊥
refused_run runs bytes place field start stop taken order further s is =
    no_payload_at runs bytes place field order further s
    (λ added a. subst (λ (b : Bool). Adds b (Run (slice_range bytes start stop)) added) taken (subst (λ (p : WirePayload). Adds runs (payload_of bytes p) added) is a))

pub refused_eight : (runs : Bool) (bytes : List ℕ) (place : Place) (field : WireField) → place.at ≡ place.run_end → place.at < field.end
    → SpellsField (field_of bytes field) (slice_range bytes place.at field.end) → field.payload ≡ seen.Eight
    → (numbers : List ℕ) → ReadsAt runs field.number bytes place numbers → ⊥
refused_eight runs bytes place field order further s is =
    no_payload_at runs bytes place field order further s (λ added a. subst (λ (p : WirePayload). Adds runs (payload_of bytes p) added) is a)

pub refused_four : (runs : Bool) (bytes : List ℕ) (place : Place) (field : WireField) → place.at ≡ place.run_end → place.at < field.end
    → SpellsField (field_of bytes field) (slice_range bytes place.at field.end) → field.payload ≡ seen.Four
    → (numbers : List ℕ) → ReadsAt runs field.number bytes place numbers → ⊥
refused_four runs bytes place field order further s is =
    no_payload_at runs bytes place field order further s (λ added a. subst (λ (p : WirePayload). Adds runs (payload_of bytes p) added) is a)

-- what was read up to a place, with what is read from there on, is what is read of all the bytes
pub record Until (runs : Bool) (number : ℕ) (bytes : List ℕ) (place : Place) (numbers : List ℕ) : Type 0 where
  pub onward : (rest : List ℕ) → ReadsAt runs number bytes place rest → Reads runs number bytes (numbers ++ rest)
  pub back : (all : List ℕ) → Reads runs number bytes all → (rest : List ℕ) × ReadsAt runs number bytes place rest

pub until_start : (runs : Bool) (number : ℕ) (bytes : List ℕ) → Until runs number bytes (record { at = 0; run_end = 0 }) []
until_start runs number bytes =
    let start : Place = record { at = 0; run_end = 0 } in
    record {
      onward = λ rest h.
          let r = from_place runs number bytes start refl rest h in
          subst (λ (l : List ℕ). Reads runs number bytes l) (sym (r.2 ∙ ap (λ l. l ++ r.1) (none_in_empty r.0 r.3))) r.4;
      back = λ all h. (all, to_place runs number bytes start refl all ([], all, refl, refl, h));
    }

pub until_step : (runs : Bool) (number : ℕ) (bytes : List ℕ) (place next : Place) (numbers told : List ℕ) → Until runs number bytes place numbers
    → Leads runs number bytes place next told → Until runs number bytes next (numbers ++ told)
until_step runs number bytes place next numbers told u s = record {
  onward = λ rest h. subst (λ (l : List ℕ). Reads runs number bytes l) (sym (append_assoc numbers told rest)) (u.onward (told ++ rest) (s.onward rest h));
  back = λ all h. let r = u.back all h in s.back r.0 r.1;
}

pub until_end : (runs : Bool) (number : ℕ) (bytes : List ℕ) (place : Place) (numbers : List ℕ) → Until runs number bytes place numbers
    → place.at ≡ length bytes → place.run_end ≡ length bytes → Reads runs number bytes numbers
until_end runs number bytes place numbers u at_end run_at_end =
    let order : place.at ≡ place.run_end = at_end ∙ sym run_at_end in
    let none : drop place.at bytes ≡ [] = drop_all place.at bytes (omega (arith, at_end)) in
    let last = to_place runs number bytes place order [] (subst (λ (l : List ℕ). ReadsOn runs number [] l []) (sym none) (reads_end runs number)) in
    subst (λ (l : List ℕ). Reads runs number bytes l) (append-nil numbers) (u.onward [] last)

pub until_bad : (runs : Bool) (number : ℕ) (bytes : List ℕ) (place : Place) (numbers : List ℕ) → Until runs number bytes place numbers
    → ((rest : List ℕ) → ReadsAt runs number bytes place rest → ⊥) → (all : List ℕ) → Reads runs number bytes all → ⊥
until_bad runs number bytes place numbers u none all h = let r = u.back all h in none r.0 r.1

latest_more : (told : List ℕ) (n : ℕ) → latest (told ++ n ∷ []) ≡ Some n
latest_more [] n = refl
latest_more (m ∷ ms) n = ap (λ (o : Option ℕ). elim o [ None ↦ Some m | Some later ↦ Some later ]) (latest_more ms n)

pub latest_later : (numbers : List ℕ) (told : Option ℕ) → latest (numbers ++ option_to_list told) ≡ later (latest numbers) told
latest_later numbers None = ap latest (append-nil numbers)
latest_later numbers (Some n) = latest_more numbers n
