use Rattle.vortex_wire.proofs.varint.+groups.Given as goal

abbrev pub decreases-groups : goal.decreases-groups
decreases-groups l = l.room
