use Rattle.vortex_dict_builders.specs.Indexed.{Walks, hash_number}
use Rattle.vortex_dict_builders.proofs.strings.StringEntries.place_of_list.Given as goal

abbrev pub invariant-loop-next : goal.invariant-loop-next
invariant-loop-next l = Walks (hash_number l.self-inside.hasher) l.self-inside.strings.lists l.self-inside.validity l.bytes l.next

abbrev pub decreases-loop-next : goal.decreases-loop-next
decreases-loop-next l = l.next
