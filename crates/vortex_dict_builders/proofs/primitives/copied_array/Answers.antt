use Rattle.std.proofs.Common.{refl}
use Rattle.vortex_dict_builders.proofs.primitives.copied_array.Goals as goal

pub number_array-requires : goal.number_array-requires
number_array-requires g c = rw (c.in_ok-validity.ensures, c.in_ok-items.ensures) c.requires

pub returns : goal.returns
returns g c = rw (c.number_array.ensures, c.in_ok-validity.ensures, c.in_ok-items.ensures) refl
