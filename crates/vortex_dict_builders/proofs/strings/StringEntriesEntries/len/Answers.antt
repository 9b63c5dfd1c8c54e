use Rattle.std.proofs.Common.{◌∙◌, [], arith, get_or}
use Rattle.std.proofs.lemmas.List.{get_or_default}
use Rattle.vortex_array_kinds.specs.StringValues.{string_value}
use Rattle.vortex_dict_builders.proofs.EntryLemmas.{same-string}
use Rattle.vortex_dict_builders.proofs.IndexLemmas.{distinct-rows}
use Rattle.vortex_dict_builders.proofs.ValidityLemmas.{rows-long}
use Rattle.vortex_dict_builders.proofs.strings.StringEntriesEntries.len.Goals as goal

pub returns-clause-count : goal.returns-clause-count
returns-clause-count c =
    let e = c.self.inside in
    rw (← c.self.view_is) (omega (arith, c.count.ensures, rows-long (string_value e.strings.kind) e.validity e.strings.lists c.self.invariant.0.grows))

pub returns-clause-distinct : goal.returns-clause-distinct
returns-clause-distinct c =
    let e = c.self.inside in
    let lists = e.strings.lists in
    rw (← c.self.view_is)
    (distinct-rows (string_value e.strings.kind) e.validity lists e.null_place c.self.invariant.0.grows c.self.invariant.0.at
    (λ i j d l m p q same. c.self.invariant.1 i j l m p q (get_or_default lists i [] d l ∙ same-string e.strings.kind (get_or lists i d) (get_or lists j d) same ∙ get_or_default lists j d [] m)))
