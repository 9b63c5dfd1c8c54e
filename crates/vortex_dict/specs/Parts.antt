-- What contracts see of a dictionary.
use Rattle.vortex_array.specs.declared.arrays.Array.{Array}

-- its codes, one for each row, and its values
pub record DictParts : Type 0 where
  pub codes : Array
  pub values : Array
