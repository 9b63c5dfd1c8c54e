use Rattle.vortex_dict.proofs.valid.all_numbers_name.Goals as goal

pub returns-in-U8 : goal.returns-in-U8
returns-in-U8 c = rw (← c.validity-nulls.ensures.value, ← c.values.ensures.value, c.in-U8.is) c.all_places_name.ensures

pub returns-in-U16 : goal.returns-in-U16
returns-in-U16 c = rw (← c.validity-nulls.ensures.value, ← c.values.ensures.value, c.in-U16.is) c.all_places_name-in-U16.ensures

pub returns-in-U32 : goal.returns-in-U32
returns-in-U32 c = rw (← c.validity-nulls.ensures.value, ← c.values.ensures.value, c.in-U32.is) c.all_places_name-in-U32.ensures

pub returns-in-U64 : goal.returns-in-U64
returns-in-U64 c = rw (← c.validity-nulls.ensures.value, ← c.values.ensures.value, c.in-U64.is) c.all_places_name-in-U64.ensures
