-- The value that a lent one shows.
use Rattle.vortex_array_types.specs.declared.scalar.Value.{Value}
use Rattle.vortex_array_types.specs.declared.scalar.Value.TheVariants as value
use Rattle.vortex_array_types.specs.declared.value_ref.ValueRef.{ValueRef}
use Rattle.vortex_array_types.specs.declared.value_ref.ValueRef.TheVariants as lent

-- the value itself
abbrev pub value_seen : ValueRef → Value
value_seen (lent.Bool b) = value.Bool b
value_seen (lent.Int n) = value.Int n
value_seen (lent.Decimal n) = value.Decimal n
value_seen (lent.Utf8 t) = value.Utf8 t.now
value_seen (lent.Binary b) = value.Binary b.now
