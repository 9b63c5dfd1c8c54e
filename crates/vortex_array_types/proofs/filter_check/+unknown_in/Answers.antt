use Rattle.std.proofs.Common.{◌∙◌, sym, ap}
use Rattle.std.specs.Option.{option_copied}
use Rattle.vortex_array_types.proofs.UnknownNames.{unknown-Not, first-And, first-Or, second-And, second-Or}
use Rattle.vortex_array_types.proofs.filter_check.+unknown_in.Goals as goal

pub returns-in-Not : goal.returns-in-Not
returns-in-Not t c = c.unknown_in.ensures ∙ unknown-Not _ _ c.in-Not.f c.in-Not.f _ c.in-Not.is c.get.ensures

pub returns-in-Some : goal.returns-in-Some
returns-in-Some t c =
    first-And _ _ c.in-And.f c.in-And.g _ _ c.in-And.is c.get-in-And.ensures (ap option_copied (sym c.in-Some.is) ∙ c.unknown_in-in-And.ensures)

pub returns-in-None : goal.returns-in-None
returns-in-None t c =
    c.unknown_in-in-None.ensures
    ∙ second-And _ _ c.in-And.f c.in-And.g _ _ c.in-And.is c.get-in-And.ensures (ap option_copied (sym c.in-None.is) ∙ c.unknown_in-in-And.ensures) c.get-in-None.ensures

pub returns-in-Some-unknown_in : goal.returns-in-Some-unknown_in
returns-in-Some-unknown_in t c =
    first-Or _ _ c.in-Or.f c.in-Or.g _ _ c.in-Or.is c.get-in-Or.ensures (ap option_copied (sym c.in-Some-unknown_in.is) ∙ c.unknown_in-in-Or.ensures)

pub returns-in-None-unknown_in : goal.returns-in-None-unknown_in
returns-in-None-unknown_in t c =
    c.unknown_in-in-None-unknown_in.ensures
    ∙ second-Or _ _ c.in-Or.f c.in-Or.g _ _ c.in-Or.is c.get-in-Or.ensures (ap option_copied (sym c.in-None-unknown_in.is) ∙ c.unknown_in-in-Or.ensures) c.get-in-None-unknown_in.ensures
