use Rattle.std.proofs.Common.{rules, ◌≡◌, ◌∙◌, Bool, List, map}
use Rattle.std.proofs.lemmas.List.{map-id}
use Rattle.vortex_array_compare.proofs.OrderAnswers.{answers-map}
use Rattle.vortex_array_select.proofs.TakenRows.{index_rows}
use Rattle.vortex_dict.specs.Presence.{names_value}
use Rattle.vortex_dict.proofs.Named.{named-numbers}
use Rattle.vortex_dict.proofs.valid.naming_places.Goals as goal

pub returns : goal.returns
returns g c =
    let f = g.P.RowIndex.place in
    let lanes : List Bool = map (names_value c.args.present.now) (index_rows c.args.nulls.now (map f c.as_slice.result.now)) in
    let told : c.in_ok-bits.bits ≡ lanes = answers-map _ (λ x. x) lanes c.in_ok-bits.bits (λ x b p. let here : b ≡ x = search rules in here) c.in_ok-bits.ensures.ok ∙ map-id lanes in
    c.from_buffer.ensures
    ∙ (rw c.as_slice.ensures at told)
    ∙ named-numbers f c.args.present.now c.args.nulls.now c.args.places.now
