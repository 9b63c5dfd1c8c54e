-- The same bytes spell no two messages.
use Rattle.std.proofs.Common.{◌≡◌, ◌++◌, ◌∙◌, inl, inr, ap, sym, refl, subst, ℕ, List, [], ◌∷◌, Bool, true, false}
use Rattle.vortex_wire.proofs.Fields.{field_not_empty, same_field}
use Rattle.vortex_wire.proofs.Slices.{same_rest}
use Rattle.vortex_wire.proofs.Steps.{not_empty}
use Rattle.vortex_wire.proofs.Varints.{same_varint, varint_not_empty}
use Rattle.vortex_wire.specs.Grammar.{Varints, Payload, Number, Eight, Run, Four, Field, Fields}
use Rattle.vortex_wire.specs.Messages.{Adds, Message, Reads, Row, Spells, Told, Value, takes_runs, value_of}

pub same_varints : (ns ms bytes : List ℕ) → Varints ns bytes → Varints ms bytes → ns ≡ ms
same_varints [] [] bytes g h = refl
same_varints [] (m ∷ ms) bytes g (front, rest, e, v, vs) = absurd (not_empty front rest (varint_not_empty m front v) (sym g ∙ e))
same_varints (n ∷ ns) [] bytes (front, rest, e, v, vs) h = absurd (not_empty front rest (varint_not_empty n front v) (sym h ∙ e))
same_varints (n ∷ ns) (m ∷ ms) bytes (a, x, e, v, vs) (b, y, f, w, ws) =
    let e2 : a ++ x ≡ b ++ y = sym e ∙ f in
    let same = same_varint a b x y n m v w e2 in
    let rest : y ≡ x = same_rest a y x (ap (λ l. l ++ y) same.0 ∙ sym e2) in
    let others = same_varints ns ms x vs (subst (λ (l : List ℕ). Varints ms l) rest ws) in
    ap (λ k. k ∷ ns) same.1 ∙ ap (λ l. m ∷ l) others

pub same_fields : (fs gs : List Field) (bytes : List ℕ) → Fields fs bytes → Fields gs bytes → fs ≡ gs
same_fields [] [] bytes g h = refl
same_fields [] (m ∷ ms) bytes g (front, rest, e, v, vs) = absurd (not_empty front rest (field_not_empty m front v) (sym g ∙ e))
same_fields (n ∷ ns) [] bytes (front, rest, e, v, vs) h = absurd (not_empty front rest (field_not_empty n front v) (sym h ∙ e))
same_fields (n ∷ ns) (m ∷ ms) bytes (a, x, e, v, vs) (b, y, f, w, ws) =
    let e2 : a ++ x ≡ b ++ y = sym e ∙ f in
    let same = same_field n m a b x y v w e2 in
    let rest : y ≡ x = same_rest a y x (ap (λ l. l ++ y) same.1 ∙ sym e2) in
    let others = same_fields ns ms x vs (subst (λ (l : List ℕ). Fields ms l) rest ws) in
    ap (λ k. k ∷ ns) same.0 ∙ ap (λ l. m ∷ l) others

same_adds : (runs : Bool) (payload : Payload) (a b : List ℕ) → Adds runs payload a → Adds runs payload b → a ≡ b
same_adds runs (Number n) a b g h = g ∙ sym h
same_adds runs Eight a b g h = absurd g
same_adds runs Four a b g h = absurd g
same_adds true (Run run) a b g h = same_varints a b run g h
same_adds false (Run run) a b g h = absurd g

pub same_told : (runs : Bool) (number : ℕ) (fields : List Field) (a b : List ℕ) → Told runs number fields a → Told runs number fields b → a ≡ b
same_told runs number [] a b g h = g ∙ sym h
same_told runs number (field ∷ fields) a b g h =
    elim g [
      | inl u ↦ elim h [
        | inl v ↦ u.3 ∙ ap (λ l. l ++ u.2) (same_adds runs field.payload u.1 v.1 u.4 v.4) ∙ ap (λ l. v.1 ++ l) (same_told runs number fields u.2 v.2 u.5 v.5) ∙ sym v.3
        | inr v ↦ absurd (v.0 u.0)
      ]
      | inr u ↦ elim h [
        | inl v ↦ absurd (u.0 v.0)
        | inr v ↦ same_told runs number fields a b u.1 v.1
      ]
    ]

same_message : (rows : List Row) (fields : List Field) (a b : List Value) → Message rows fields a → Message rows fields b → a ≡ b
same_message [] fields [] [] g h = refl
same_message [] fields [] (v ∷ vs) g h = absurd h
same_message [] fields (v ∷ vs) b g h = absurd g
same_message (row ∷ rows) fields [] b g h = absurd g
same_message (row ∷ rows) fields (v ∷ vs) [] g h = absurd h
same_message (row ∷ rows) fields (v ∷ vs) (w ∷ ws) ((n, t, e), g) ((m, u, f), h) =
    let same = same_told (takes_runs row.kind) row.number fields n m t u in
    let values : v ≡ w = e ∙ ap (value_of row.kind) same ∙ sym f in
    ap (λ x. x ∷ vs) values ∙ ap (λ l. w ∷ l) (same_message rows fields vs ws g h)

pub one_message : (rows : List Row) (bytes : List ℕ) (a b : List Value) → Spells rows bytes a → Spells rows bytes b → a ≡ b
one_message rows bytes a b (fs, f, m) (gs, g, n) =
    let same = same_fields gs fs bytes g f in
    same_message rows fs a b m (subst (λ (l : List Field). Message rows l b) same n)

-- a message of one row, and of one row more
pub spells_one : (row : Row) (bytes numbers : List ℕ) → Reads (takes_runs row.kind) row.number bytes numbers → Spells (row ∷ []) bytes (value_of row.kind numbers ∷ [])
spells_one row bytes numbers (fs, f, told) = (fs, f, ((numbers, told, refl), tt))

pub spells_more : (row : Row) (rows : List Row) (bytes numbers : List ℕ) (values : List Value) → Reads (takes_runs row.kind) row.number bytes numbers → Spells rows bytes values
    → Spells (row ∷ rows) bytes (value_of row.kind numbers ∷ values)
spells_more row rows bytes numbers values (fs, f, told) (gs, g, m) =
    let same = same_fields gs fs bytes g f in
    (fs, f, ((numbers, told, refl), subst (λ (l : List Field). Message rows l values) same m))

pub no_head : (row : Row) (rows : List Row) (bytes : List ℕ) → ((numbers : List ℕ) → Reads (takes_runs row.kind) row.number bytes numbers → ⊥)
    → (values : List Value) → Spells (row ∷ rows) bytes values → ⊥
no_head row rows bytes none [] (fs, f, m) = m
no_head row rows bytes none (v ∷ vs) (fs, f, ((n, told, e), m)) = none n (fs, f, told)

pub no_tail : (row : Row) (rows : List Row) (bytes : List ℕ) → ((values : List Value) → Spells rows bytes values → ⊥)
    → (values : List Value) → Spells (row ∷ rows) bytes values → ⊥
no_tail row rows bytes none [] (fs, f, m) = m
no_tail row rows bytes none (v ∷ vs) (fs, f, (h, m)) = none vs (fs, f, m)
