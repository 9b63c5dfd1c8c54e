use Rattle.std.proofs.Common.{sym, subst}
use Rattle.vortex_array_types.specs.Row.{Column}
use Rattle.vortex_array.specs.ColumnOf.{column_of}
use Rattle.vortex_dict.specs.Encoded.{IsDictOf}
use Rattle.vortex_dict.proofs.Encodings.{equal-codes, equal-values}
use Rattle.vortex_dict.proofs.encode.encode_both.Goals as goal

pub returns-clause-codes : goal.returns-clause-codes
returns-clause-codes c =
    let column = column_of c.args.first.now in
    let other = subst (λ (k : Column). IsDictOf k c.in_ok-other.other) (sym c.requires) c.in_ok-other.ensures.ok in
    equal-codes column c.in_ok-one.one c.in_ok-other.other c.codes.ensures.fits c.codes-2.ensures.fits c.in_ok-one.ensures.ok other

pub returns-clause-values : goal.returns-clause-values
returns-clause-values c =
    let column = column_of c.args.first.now in
    let other = subst (λ (k : Column). IsDictOf k c.in_ok-other.other) (sym c.requires) c.in_ok-other.ensures.ok in
    equal-values column c.in_ok-one.one c.in_ok-other.other c.in_ok-one.ensures.ok other
