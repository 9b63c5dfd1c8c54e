use Rattle.std.proofs.Common.{◌∙◌}
use Rattle.vortex_array_types.specs.declared.types.Nullability.TheVariants.{NonNullable}
use Rattle.vortex_array_kinds.specs.StringValues.{string_type, string_value}
use Rattle.vortex_array_cast.proofs.CastTypes.{all-map, can-strings, string-fits}
use Rattle.vortex_array_cast.proofs.strings.StringsCastValues.cast_values.Goals as goal

pub cast_same-requires-clause-fits : goal.cast_same-requires-clause-fits
cast_same-requires-clause-fits c = let s = c.args.self.now in all-map (string_value s.kind) (string_type s.kind NonNullable) (string-fits s.kind NonNullable) s.lists

pub cast_same-requires-clause-same_type : goal.cast_same-requires-clause-same_type
cast_same-requires-clause-same_type c = can-strings c.args.self.now.kind NonNullable c.args.dtype.now ∙ c.requires.castable
