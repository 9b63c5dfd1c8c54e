-- What the readings of its fields say of a message.
use Rattle.std.proofs.Common.{◌≡◌, ◌%◌, ◌^◌, ◌∙◌, ap, sym, subst, ℕ, ℤ, List, [], ◌∷◌, Bool, true, false, Option, map, arith, to_z, of_z, w32}
use Rattle.std.proofs.lemmas.Int.{of_z-to_z}
use Rattle.vortex_wire.proofs.Unique.{no_head, no_tail, spells_more, spells_one}
use Rattle.vortex_wire.specs.Messages.{Chosen, Integer, Reads, Repeated, Row, Several, Signed, Spells, Truth, Unsigned, Value, Whole, latest, or_zero, signed, takes_runs, truth_of, value_of}
use Rattle.vortex_wire.specs.Tables.{dict_rows, v1_rows, v2_rows}

-- a number with a sign keeps its value as it is stored
pub stored : (z : ℤ) (n : ℕ) → z ≡ signed n → to_z w32 (of_z w32 z) ≡ signed n
stored z n e = ap (λ (y : ℤ). to_z w32 (of_z w32 y)) e ∙ ap (to_z w32) (of_z-to_z w32 (n % 2 ^ 32) (omega arith))

-- the last number of a field was found
abbrev pub Last : Bool → ℕ → List ℕ → Option ℕ → Type 0
Last runs number bytes last = (numbers : List ℕ) × Reads runs number bytes numbers × (last ≡ latest numbers)

pub dict_found : (bytes : List ℕ) (a b c : Option ℕ) (w : ℕ) (z : ℤ) (t : Option Bool) → w ≡ or_zero a % 2 ^ 32 → z ≡ signed (or_zero b) → t ≡ truth_of c
    → Last false 1 bytes a → Last false 2 bytes b → Last false 3 bytes c → Spells dict_rows bytes (Whole w ∷ Integer z ∷ Chosen t ∷ [])
dict_found bytes a b c w z t ew ez et la lb lc =
    let first : Row = record { number = 1; kind = Unsigned } in
    let second : Row = record { number = 2; kind = Signed } in
    let third : Row = record { number = 3; kind = Truth } in
    let s = spells_more first (second ∷ third ∷ []) bytes la.0 (value_of Signed lb.0 ∷ value_of Truth lc.0 ∷ []) la.1
    (spells_more second (third ∷ []) bytes lb.0 (value_of Truth lc.0 ∷ []) lb.1 (spells_one third bytes lc.0 lc.1)) in
    let make : ℕ → ℤ → Option Bool → List Value = λ x y u. Whole x ∷ Integer y ∷ Chosen u ∷ [] in
    let pw : or_zero (latest la.0) % 2 ^ 32 ≡ w = ap (λ (o : Option ℕ). or_zero o % 2 ^ 32) (sym la.2) ∙ sym ew in
    let pz : signed (or_zero (latest lb.0)) ≡ z = ap (λ (o : Option ℕ). signed (or_zero o)) (sym lb.2) ∙ sym ez in
    let pt : truth_of (latest lc.0) ≡ t = ap truth_of (sym lc.2) ∙ sym et in
    let e = ap (λ x. make x (signed (or_zero (latest lb.0))) (truth_of (latest lc.0))) pw ∙ ap (λ y. make w y (truth_of (latest lc.0))) pz ∙ ap (λ u. make w z u) pt in
    subst (λ (vs : List Value). Spells dict_rows bytes vs) e s

pub v1_found : (bytes : List ℕ) (a b : Option ℕ) (z : ℤ) (w : ℕ) → z ≡ signed (or_zero a) → w ≡ or_zero b % 2 ^ 32
    → Last false 1 bytes a → Last false 2 bytes b → Spells v1_rows bytes (Integer z ∷ Whole w ∷ [])
v1_found bytes a b z w ez ew la lb =
    let first : Row = record { number = 1; kind = Signed } in
    let second : Row = record { number = 2; kind = Unsigned } in
    let s = spells_more first (second ∷ []) bytes la.0 (value_of Unsigned lb.0 ∷ []) la.1 (spells_one second bytes lb.0 lb.1) in
    let make : ℤ → ℕ → List Value = λ y x. Integer y ∷ Whole x ∷ [] in
    let pz : signed (or_zero (latest la.0)) ≡ z = ap (λ (o : Option ℕ). signed (or_zero o)) (sym la.2) ∙ sym ez in
    let pw : or_zero (latest lb.0) % 2 ^ 32 ≡ w = ap (λ (o : Option ℕ). or_zero o % 2 ^ 32) (sym lb.2) ∙ sym ew in
    let e = ap (λ y. make y (or_zero (latest lb.0) % 2 ^ 32)) pz ∙ ap (λ x. make z x) pw in
    subst (λ (vs : List Value). Spells v1_rows bytes vs) e s

pub v2_found : (bytes : List ℕ) (a : Option ℕ) (z : ℤ) (zs : List ℤ) → z ≡ signed (or_zero a)
    → Last false 1 bytes a → ((numbers : List ℕ) × Reads true 2 bytes numbers × (zs ≡ map signed numbers)) → Spells v2_rows bytes (Integer z ∷ Several zs ∷ [])
v2_found bytes a z zs ez la lb =
    let first : Row = record { number = 1; kind = Signed } in
    let second : Row = record { number = 2; kind = Repeated } in
    let s = spells_more first (second ∷ []) bytes la.0 (value_of Repeated lb.0 ∷ []) la.1 (spells_one second bytes lb.0 lb.1) in
    let make : ℤ → List ℤ → List Value = λ y x. Integer y ∷ Several x ∷ [] in
    let pz : signed (or_zero (latest la.0)) ≡ z = ap (λ (o : Option ℕ). signed (or_zero o)) (sym la.2) ∙ sym ez in
    let e = ap (λ y. make y (map signed lb.0)) pz ∙ ap (λ x. make z x) (sym lb.2) in
    subst (λ (vs : List Value). Spells v2_rows bytes vs) e s

pub v2_some : (bytes ms ns : List ℕ) → Reads false 1 bytes ms → Reads true 2 bytes ns → (values : List Value) × Spells v2_rows bytes values
v2_some bytes ms ns a b =
    let first : Row = record { number = 1; kind = Signed } in
    let second : Row = record { number = 2; kind = Repeated } in
    (value_of Signed ms ∷ value_of Repeated ns ∷ [], spells_more first (second ∷ []) bytes ms (value_of Repeated ns ∷ []) a (spells_one second bytes ns b))

-- a row of a table that the fields say nothing of
pub no_first : (row : Row) (rows : List Row) (bytes : List ℕ) → ((numbers : List ℕ) → Reads (takes_runs row.kind) row.number bytes numbers → ⊥)
    → (values : List Value) → Spells (row ∷ rows) bytes values → ⊥
no_first row rows bytes none = no_head row rows bytes none

pub no_second : (first row : Row) (rows : List Row) (bytes : List ℕ) → ((numbers : List ℕ) → Reads (takes_runs row.kind) row.number bytes numbers → ⊥)
    → (values : List Value) → Spells (first ∷ row ∷ rows) bytes values → ⊥
no_second first row rows bytes none = no_tail first (row ∷ rows) bytes (no_head row rows bytes none)

pub no_third : (first second row : Row) (rows : List Row) (bytes : List ℕ) → ((numbers : List ℕ) → Reads (takes_runs row.kind) row.number bytes numbers → ⊥)
    → (values : List Value) → Spells (first ∷ second ∷ row ∷ rows) bytes values → ⊥
no_third first second row rows bytes none = no_tail first (second ∷ row ∷ rows) bytes (no_second second row rows bytes none)
