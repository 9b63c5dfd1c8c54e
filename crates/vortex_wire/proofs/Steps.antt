-- What one step of a reading says of the fields that are left: a number of a run, a field that is passed over, a number, or a run.
use Rattle.std.proofs.Common.{◌≡◌, ◌≢◌, ◌<◌, ◌++◌, ◌∙◌, inl, inr, ap, sym, refl, subst, arith, ℕ, List, [], ◌∷◌, length, Bool, true}
use Rattle.vortex_wire.proofs.Fields.{field_not_empty, same_field}
use Rattle.vortex_wire.proofs.Slices.{same_rest}
use Rattle.vortex_wire.proofs.Varints.{same_varint, varint_not_empty}
use Rattle.vortex_wire.specs.Grammar.{Varint, Varints, BeginsVarint, BeginsField, Payload, Number, Run, Field, Fields, SpellsField}
use Rattle.vortex_wire.specs.Messages.{Adds, Told, Reads, ReadsOn}

-- a front that is not empty leaves no empty list
pub not_empty : (front rest : List ℕ) → 0 < length front → [] ≡ front ++ rest → ⊥
not_empty [] rest some e = omega (arith, some)
not_empty (b ∷ bs) rest some e = cc

-- no number lies in an empty run
pub none_in_empty : (numbers : List ℕ) → Varints numbers [] → numbers ≡ []
none_in_empty [] h = refl
none_in_empty (n ∷ ns) (front, rest, e, v, vs) = absurd (not_empty front rest (varint_not_empty n front v) e)

pub reads_end : (runs : Bool) (number : ℕ) → ReadsOn runs number [] [] []
reads_end runs number = ([], [], refl, refl, ([], refl, refl))

-- the next number of a run
pub run_onward : (runs : Bool) (number : ℕ) (run front more bytes : List ℕ) (n : ℕ) → run ≡ front ++ more → Varint n front
    → (numbers : List ℕ) → ReadsOn runs number more bytes numbers → ReadsOn runs number run bytes (n ∷ numbers)
run_onward runs number run front more bytes n split v numbers (a, b, e, va, r) = (n ∷ a, b, ap (λ l. n ∷ l) e, (front, more, split, v, va), r)

pub run_back : (runs : Bool) (number : ℕ) (run front more bytes : List ℕ) (n : ℕ) → run ≡ front ++ more → Varint n front
    → (numbers : List ℕ) → ReadsOn runs number run bytes numbers → (others : List ℕ) × ReadsOn runs number more bytes others
run_back runs number run front more bytes n split v numbers ([], b, e, va, r) = absurd (not_empty front more (varint_not_empty n front v) (sym va ∙ split))
run_back runs number run front more bytes n split v numbers (m ∷ ms, b, e, (f, t, s, w, vs), r) =
    let e2 : front ++ more ≡ f ++ t = sym split ∙ s in
    let same = same_varint front f more t n m v w e2 in
    let rest : t ≡ more = same_rest front t more (ap (λ l. l ++ t) same.0 ∙ sym e2) in
    (ms ++ b, (ms, b, refl, subst (λ (l : List ℕ). Varints ms l) rest vs, r))

pub no_run_number : (runs : Bool) (number : ℕ) (run bytes : List ℕ) → 0 < length run → (BeginsVarint run → ⊥) → (numbers : List ℕ) → ReadsOn runs number run bytes numbers → ⊥
no_run_number runs number run bytes some none numbers ([], b, e, va, r) = omega (arith, ap length va, some)
no_run_number runs number run bytes some none numbers (m ∷ ms, b, e, (f, t, s, w, vs), r) = none (m, f, t, s, w)

-- the fields that begin with one that is known
head_field : (runs : Bool) (number : ℕ) (bytes front more : List ℕ) (field : Field) → bytes ≡ front ++ more → SpellsField field front
    → (numbers : List ℕ) → Reads runs number bytes numbers → (fields : List Field) × Fields fields more × Told runs number (field ∷ fields) numbers
head_field runs number bytes front more field split s numbers ([], f, told) = absurd (not_empty front more (field_not_empty field front s) (sym f ∙ split))
head_field runs number bytes front more field split s numbers (g ∷ gs, (a, t, e, sg, fs), told) =
    let e2 : front ++ more ≡ a ++ t = sym split ∙ e in
    let same = same_field field g front a more t s sg e2 in
    let rest : t ≡ more = same_rest front t more (ap (λ l. l ++ t) same.1 ∙ sym e2) in
    (gs, subst (λ (l : List ℕ). Fields gs l) rest fs, subst (λ (f : Field). Told runs number (f ∷ gs) numbers) (sym same.0) told)

pub no_field : (runs : Bool) (number : ℕ) (bytes : List ℕ) → 0 < length bytes → (BeginsField bytes → ⊥) → (numbers : List ℕ) → ReadsOn runs number [] bytes numbers → ⊥
no_field runs number bytes some none numbers (a, b, e, va, ([], f, told)) = omega (arith, ap length f, some)
no_field runs number bytes some none numbers (a, b, e, va, (g ∷ gs, (x, t, s, sg, fs), told)) = none (g, x, t, s, sg)

-- a field of another number
pub past_onward : (runs : Bool) (number : ℕ) (bytes front more : List ℕ) (field : Field) → bytes ≡ front ++ more → SpellsField field front → field.number ≢ number
    → (numbers : List ℕ) → ReadsOn runs number [] more numbers → ReadsOn runs number [] bytes numbers
past_onward runs number bytes front more field split s other numbers (a, b, e, va, (fs, f, told)) =
    (a, b, e, va, (field ∷ fs, (front, more, split, s, f), inr (other, told)))

pub past_back : (runs : Bool) (number : ℕ) (bytes front more : List ℕ) (field : Field) → bytes ≡ front ++ more → SpellsField field front → field.number ≢ number
    → (numbers : List ℕ) → ReadsOn runs number [] bytes numbers → (others : List ℕ) × ReadsOn runs number [] more others
past_back runs number bytes front more field split s other numbers (a, b, e, va, r) =
    let h = head_field runs number bytes front more field split s b r in
    elim h.2 [
      | inl u ↦ absurd (other u.0)
      | inr u ↦ (a ++ b, (a, b, refl, va, (h.0, h.1, u.1)))
    ]

-- a field of this number that holds a number
pub number_onward : (runs : Bool) (number : ℕ) (bytes front more : List ℕ) (field : Field) (n : ℕ) → bytes ≡ front ++ more → SpellsField field front → field.number ≡ number
    → field.payload ≡ Number n → (numbers : List ℕ) → ReadsOn runs number [] more numbers → ReadsOn runs number [] bytes (n ∷ numbers)
number_onward runs number bytes front more field n split s same is numbers (a, b, e, va, (fs, f, told)) =
    let adds : Adds runs field.payload (n ∷ []) = subst (λ (p : Payload). Adds runs p (n ∷ [])) (sym is) refl in
    ([], n ∷ b, ap (λ l. n ∷ l) (e ∙ ap (λ l. l ++ b) (none_in_empty a va)), refl, (field ∷ fs, (front, more, split, s, f), inl (same, n ∷ [], b, refl, adds, told)))

pub number_back : (runs : Bool) (number : ℕ) (bytes front more : List ℕ) (field : Field) → bytes ≡ front ++ more → SpellsField field front
    → (numbers : List ℕ) → ReadsOn runs number [] bytes numbers → (others : List ℕ) × ReadsOn runs number [] more others
number_back runs number bytes front more field split s numbers (a, b, e, va, r) =
    let h = head_field runs number bytes front more field split s b r in
    elim h.2 [
      | inl u ↦ (u.2, ([], u.2, refl, refl, (h.0, h.1, u.5)))
      | inr u ↦ (a ++ b, (a, b, refl, va, (h.0, h.1, u.1)))
    ]

-- a field of this number that holds a run
pub into_run_onward : (number : ℕ) (bytes front more run : List ℕ) (field : Field) → bytes ≡ front ++ more → SpellsField field front → field.number ≡ number
    → field.payload ≡ Run run → (numbers : List ℕ) → ReadsOn true number run more numbers → ReadsOn true number [] bytes numbers
into_run_onward number bytes front more run field split s same is numbers (a, b, e, va, (fs, f, told)) =
    let adds : Adds true field.payload a = subst (λ (p : Payload). Adds true p a) (sym is) va in
    ([], numbers, refl, refl, (field ∷ fs, (front, more, split, s, f), inl (same, a, b, e, adds, told)))

pub into_run_back : (number : ℕ) (bytes front more run : List ℕ) (field : Field) → bytes ≡ front ++ more → SpellsField field front → field.number ≡ number
    → field.payload ≡ Run run → (numbers : List ℕ) → ReadsOn true number [] bytes numbers → (others : List ℕ) × ReadsOn true number run more others
into_run_back number bytes front more run field split s same is numbers (a, b, e, va, r) =
    let h = head_field true number bytes front more field split s b r in
    elim h.2 [
      | inl u ↦ (u.1 ++ u.2, (u.1, u.2, refl, subst (λ (p : Payload). Adds true p u.1) is u.4, (h.0, h.1, u.5)))
      | inr u ↦ absurd (u.0 same)
    ]

-- a field of this number whose payload adds nothing
pub no_such_payload : (runs : Bool) (number : ℕ) (bytes front more : List ℕ) (field : Field) → bytes ≡ front ++ more → SpellsField field front → field.number ≡ number
    → ((added : List ℕ) → Adds runs field.payload added → ⊥) → (numbers : List ℕ) → ReadsOn runs number [] bytes numbers → ⊥
no_such_payload runs number bytes front more field split s same none numbers (a, b, e, va, r) =
    let h = head_field runs number bytes front more field split s b r in
    elim h.2 [
      | inl u ↦ none u.1 u.4
      | inr u ↦ absurd (u.0 same)
    ]
