-- A row of one field.
use Rattle.std.proofs.Common.{◌≡◌, ◌≢◌, ℕ, List, [], ◌∷◌, length, None, refl, arith}
use Rattle.csv.specs.Records.{field_at}
use Rattle.vortex_query.specs.Fields.{only}

pub only-one : (fields : List (List ℕ)) → length fields ≡ 1 → field_at fields 0 ≡ only fields
unfolding field_at
only-one [] e = refl
only-one (f ∷ []) e = refl
only-one (f ∷ g ∷ rest) e = absurd (omega (arith, e))

pub only-other : (fields : List (List ℕ)) → length fields ≢ 1 → only fields ≡ None
only-other [] e = refl
only-other (f ∷ []) e = absurd (e refl)
only-other (f ∷ g ∷ rest) e = refl
