-- Parts of a JSON value.
use Rattle.std.specs.Prelude.{ℕ, ◌==◌, List, Option, None, if◌then◌else◌}
use Rattle.serde_json.specs.Data.{Data, null, boolean, number, string, array, object}
use Rattle.serde_json.specs.Events.{items_len, members_len}
use Rattle.serde_json.specs.Find.{at, get}

-- how many members an object has, and how many items a list
abbrev pub width : Data → ℕ
width null = 0
width (boolean b) = 0
width (number n) = 0
width (string s) = 0
width (array ds) = items_len ds
width (object ms) = members_len ms

-- the value of an object's one member, where that has this name
abbrev pub only_member : List ℕ → Data → Option Data
only_member name d = if width d == 1 then get name d else None

-- the item at a place of a list of so many
abbrev pub item_of : ℕ → ℕ → Data → Option Data
item_of count place d = if width d == count then at place d else None
