-- The canonical bytes of a message spell it.
use Rattle.std.proofs.Common.{◌≡◌, ◌≢◌, ◌<◌, ◌+◌, ◌-◌, ◌*◌, ◌%◌, ◌^◌, ◌++◌, ◌∙◌, ◌==◌, inl, inr, ap, sym, refl, subst, arith, ℕ, zero, suc, ℤ, pos, negsuc, List, [], ◌∷◌, length, length-append, map, append_assoc, Bool, true, false, Option, None, Some, FitsSigned, w32}
use Rattle.std.proofs.Math.Facts.{to_z-neg}
use Rattle.std.proofs.lemmas.Int.{ints}
use Rattle.std.proofs.lemmas.List.{append-nil}
use Rattle.std.specs.Int.{cast_signed}
use Rattle.std.specs.List.{AllByRecursion}
use Rattle.vortex_wire.proofs.Varints.{varint_not_empty}
use Rattle.vortex_wire.proofs.Written.{shortest_spells}
use Rattle.vortex_wire.specs.Canonical.{canonical, canonical_field, extended, packed, run_of, scalar, scalar_unless_zero, shortest}
use Rattle.vortex_wire.specs.Grammar.{Field, Fields, Number, Run, SpellsField, Varint, Varints}
use Rattle.vortex_wire.specs.Messages.{Chosen, Integer, Repeated, Row, Several, Signed, Spells, Told, Truth, Unsigned, Value, Whole, signed, takes_runs, value_of}
use Rattle.vortex_wire.specs.Tables.{dict_rows, v1_rows, v2_rows}

-- a field that holds a number
scalar_field : (n number : ℕ) → 0 < n → n * 8 < 2 ^ 32 → number < 2 ^ 64 → SpellsField (record { number = n; payload = Number number }) (scalar n number)
scalar_field n number some small fits = record {
  key = shortest (n * 8);
  body = shortest number;
  whole = refl;
  numbered = some;
  small = omega (arith, small);
  keyed = subst (λ (k : ℕ). Varint k (shortest (n * 8))) (let e : n * 8 ≡ n * 8 + 0 = omega arith in e) (shortest_spells (n * 8) (omega (arith, small)));
  payload = shortest_spells number fits;
}

-- what is written of one row: the fields, which spell its bytes, tell its value, and are of its number alone
record Wrote (row : Row) (value : Value) : Type 0 where
  fields : List Field
  numbers : List ℕ
  spelled : Fields fields (canonical_field row.number value)
  told : Told (takes_runs row.kind) row.number fields numbers
  is : value ≡ value_of row.kind numbers
  other : (runs : Bool) (n : ℕ) → n ≢ row.number → Told runs n fields []

-- no field
wrote_none : (row : Row) (value : Value) → canonical_field row.number value ≡ [] → value ≡ value_of row.kind [] → Wrote row value
wrote_none row value none is = record { fields = []; numbers = []; spelled = none; told = refl; is = is; other = λ runs n ne. refl }

-- one field that holds a number
wrote_number : (row : Row) (value : Value) (number : ℕ) → 0 < row.number → row.number * 8 < 2 ^ 32 → number < 2 ^ 64 → canonical_field row.number value ≡ scalar row.number number
    → value ≡ value_of row.kind (number ∷ []) → Wrote row value
wrote_number row value number some small fits written is = record {
  fields = record { number = row.number; payload = Number number } ∷ [];
  numbers = number ∷ [];
  spelled = (scalar row.number number, [], written ∙ sym (append-nil (scalar row.number number)), scalar_field row.number number some small fits, refl);
  told = inl (refl, number ∷ [], [], refl, refl, refl);
  is = is;
  other = λ runs n ne. inr (λ e. ne (sym e), refl);
}

unless_zero : (n number : ℕ) → 0 < number → scalar_unless_zero n number ≡ scalar n number
unless_zero n number some = let test : (number == 0) ≡ false = grind arith in rw test refl

wrote_whole : (n : ℕ) → 0 < n → n * 8 < 2 ^ 32 → (number : ℕ) → number < 2 ^ 32 → Wrote (record { number = n; kind = Unsigned }) (Whole number)
wrote_whole n some small zero fits = wrote_none (record { number = n; kind = Unsigned }) (Whole 0) refl refl
wrote_whole n some small (suc k) fits =
    wrote_number (record { number = n; kind = Unsigned }) (Whole (suc k)) (suc k) some small (omega (arith, fits)) (unless_zero n (suc k) (omega arith))
    (ap Whole (omega (arith, fits)))

-- a number with a sign is the low 32 bits of its extension
signed_extended : (z : ℤ) → FitsSigned w32 z → signed (extended z) ≡ z
signed_extended (pos k) fits = omega (arith, ints)
signed_extended (negsuc k) fits =
    let small : k < 2 ^ 31 = omega (arith, ints) in
    let low : (2 ^ 64 - 1 - k) % 2 ^ 32 ≡ 2 ^ 32 - suc k = omega (arith, small) in
    ap (cast_signed w32) low ∙ to_z-neg w32 k small

extended_fits : (z : ℤ) → FitsSigned w32 z → extended z < 2 ^ 64
extended_fits (pos k) fits = omega (arith, ints)
extended_fits (negsuc k) fits = omega arith

wrote_integer : (n : ℕ) → 0 < n → n * 8 < 2 ^ 32 → (z : ℤ) → FitsSigned w32 z → Wrote (record { number = n; kind = Signed }) (Integer z)
wrote_integer n some small (pos zero) fits = wrote_none (record { number = n; kind = Signed }) (Integer (pos 0)) refl (ap Integer (sym (signed_extended (pos 0) fits)))
wrote_integer n some small (pos (suc k)) fits =
    wrote_number (record { number = n; kind = Signed }) (Integer (pos (suc k))) (suc k) some small (extended_fits (pos (suc k)) fits) (unless_zero n (suc k) (omega arith))
    (ap Integer (sym (signed_extended (pos (suc k)) fits)))
wrote_integer n some small (negsuc k) fits =
    let high : 0 < extended (negsuc k) = omega (arith, ints) in
    wrote_number (record { number = n; kind = Signed }) (Integer (negsuc k)) (extended (negsuc k)) some small (extended_fits (negsuc k) fits) (unless_zero n (extended (negsuc k)) high)
    (ap Integer (sym (signed_extended (negsuc k) fits)))

wrote_truth : (n : ℕ) → 0 < n → n * 8 < 2 ^ 32 → (truth : Option Bool) → Wrote (record { number = n; kind = Truth }) (Chosen truth)
wrote_truth n some small None = wrote_none (record { number = n; kind = Truth }) (Chosen None) refl refl
wrote_truth n some small (Some true) = wrote_number (record { number = n; kind = Truth }) (Chosen (Some true)) 1 some small (omega arith) refl refl
wrote_truth n some small (Some false) = wrote_number (record { number = n; kind = Truth }) (Chosen (Some false)) 0 some small (omega arith) refl refl

run_spells : (zs : List ℤ) → AllByRecursion (FitsSigned w32) zs → Varints (map extended zs) (run_of zs) × (map signed (map extended zs) ≡ zs)
run_spells [] fit = (refl, refl)
run_spells (z ∷ zs) fit =
    let r = run_spells zs fit.1 in (
      (shortest (extended z), run_of zs, refl, shortest_spells (extended z) (extended_fits z fit.0), r.0),
      ap (λ y. y ∷ map signed (map extended zs)) (signed_extended z fit.0) ∙ ap (λ l. z ∷ l) r.1,
    )

run_not_empty : (z : ℤ) (zs : List ℤ) → FitsSigned w32 z → 0 < length (run_of (z ∷ zs))
run_not_empty z zs fits =
    let some = varint_not_empty (extended z) (shortest (extended z)) (shortest_spells (extended z) (extended_fits z fits)) in
    omega (arith, some, length-append (shortest (extended z)) (run_of zs))

packed_run : (n : ℕ) (run : List ℕ) → 0 < length run → packed n run ≡ shortest (n * 8 + 2) ++ shortest (length run) ++ run
packed_run n run some = let test : (length run == 0) ≡ false = grind arith in rw test refl

wrote_several : (n : ℕ) → 0 < n → n * 8 + 2 < 2 ^ 32 → (zs : List ℤ) → AllByRecursion (FitsSigned w32) zs → length (run_of zs) < 2 ^ 64
    → Wrote (record { number = n; kind = Repeated }) (Several zs)
wrote_several n some small [] fit short = wrote_none (record { number = n; kind = Repeated }) (Several []) refl refl
wrote_several n some small (z ∷ zs) fit short =
    let run = run_of (z ∷ zs) in
    let r = run_spells (z ∷ zs) fit in
    let field : Field = record { number = n; payload = Run run } in
    let bytes = shortest (n * 8 + 2) ++ shortest (length run) ++ run in
    record {
      fields = field ∷ [];
      numbers = map extended (z ∷ zs);
      spelled = (
        bytes,
        [],
        packed_run n run (run_not_empty z zs fit.0) ∙ sym (append-nil bytes),
        record {
          key = shortest (n * 8 + 2);
          body = shortest (length run) ++ run;
          whole = append_assoc (shortest (n * 8 + 2)) (shortest (length run)) run;
          numbered = some;
          small = small;
          keyed = shortest_spells (n * 8 + 2) (omega (arith, small));
          payload = (shortest (length run), shortest_spells (length run) short, refl);
        },
        refl,
      );
      told = inl (refl, map extended (z ∷ zs), [], sym (append-nil (map extended (z ∷ zs))), r.0, refl);
      is = ap Several (sym r.1);
      other = λ runs m ne. inr (λ e. ne (sym e), refl);
    }

fields_append : (fs gs : List Field) (a b : List ℕ) → Fields fs a → Fields gs b → Fields (fs ++ gs) (a ++ b)
fields_append [] gs a b f g = subst (λ (l : List ℕ). Fields gs (l ++ b)) (sym f) g
fields_append (h ∷ fs) gs a b (front, rest, e, s, f) g =
    (front, rest ++ b, ap (λ l. l ++ b) e ∙ append_assoc front rest b, s, fields_append fs gs rest b f g)

told_append : (runs : Bool) (n : ℕ) (fs gs : List Field) (a b : List ℕ) → Told runs n fs a → Told runs n gs b → Told runs n (fs ++ gs) (a ++ b)
told_append runs n [] gs a b f g = subst (λ (l : List ℕ). Told runs n gs (l ++ b)) (sym f) g
told_append runs n (h ∷ fs) gs a b f g =
    elim f [
      | inl u ↦ inl (u.0, u.1, u.2 ++ b, ap (λ l. l ++ b) u.3 ∙ append_assoc u.1 u.2 b, u.4, told_append runs n fs gs u.2 b u.5 g)
      | inr u ↦ inr (u.0, told_append runs n fs gs a b u.1 g)
    ]

told_first : (runs : Bool) (n : ℕ) (fs gs : List Field) (a : List ℕ) → Told runs n fs a → Told runs n gs [] → Told runs n (fs ++ gs) a
told_first runs n fs gs a f g = subst (λ (l : List ℕ). Told runs n (fs ++ gs) l) (append-nil a) (told_append runs n fs gs a [] f g)

two_rows : (p q : Row) (v w : Value) → p.number ≢ q.number → Wrote p v → Wrote q w → Spells (p ∷ q ∷ []) (canonical (p ∷ q ∷ []) (v ∷ w ∷ [])) (v ∷ w ∷ [])
two_rows p q v w ne a b =
    let none : Fields [] [] = refl in (
      a.fields ++ (b.fields ++ []),
      fields_append a.fields (b.fields ++ []) _ _ a.spelled (fields_append b.fields [] _ _ b.spelled none),
      (
        (a.numbers, told_first _ _ a.fields (b.fields ++ []) a.numbers a.told (told_append _ _ b.fields [] [] [] (b.other _ p.number ne) refl), a.is),
        (
          (
            b.numbers,
            told_append _ _ a.fields (b.fields ++ []) [] b.numbers (a.other _ q.number (λ e. ne (sym e))) (told_first _ _ b.fields [] b.numbers b.told refl),
            b.is,
          ),
          tt,
        ),
      ),
    )

three_rows : (p q r : Row) (u v w : Value) → p.number ≢ q.number → p.number ≢ r.number → q.number ≢ r.number → Wrote p u → Wrote q v → Wrote r w
    → Spells (p ∷ q ∷ r ∷ []) (canonical (p ∷ q ∷ r ∷ []) (u ∷ v ∷ w ∷ [])) (u ∷ v ∷ w ∷ [])
three_rows p q r u v w pq pr qr a b c =
    let none : Fields [] [] = refl in
    let last : (runs : Bool) (n : ℕ) (numbers : List ℕ) → Told runs n c.fields numbers → Told runs n (c.fields ++ []) numbers = λ runs n numbers t. told_first runs n c.fields [] numbers t refl in (
      a.fields ++ (b.fields ++ (c.fields ++ [])),
      fields_append a.fields _ _ _ a.spelled (fields_append b.fields _ _ _ b.spelled (fields_append c.fields [] _ _ c.spelled none)),
      (
        (
          a.numbers,
          told_first _ _ a.fields _ a.numbers a.told (told_append _ _ b.fields _ [] [] (b.other _ p.number pq) (last _ _ [] (c.other _ p.number pr))),
          a.is,
        ),
        (
          (
            b.numbers,
            told_append _ _ a.fields _ [] b.numbers (a.other _ q.number (λ e. pq (sym e))) (told_first _ _ b.fields _ b.numbers b.told (last _ _ [] (c.other _ q.number qr))),
            b.is,
          ),
          (
            (
              c.numbers,
              told_append _ _ a.fields _ [] c.numbers (a.other _ r.number (λ e. pr (sym e)))
                  (told_append _ _ b.fields _ [] c.numbers (b.other _ r.number (λ e. qr (sym e))) (last _ _ c.numbers c.told)),
              c.is,
            ),
            tt,
          ),
        ),
      ),
    )

pub dict_spells : (len : ℕ) (ptype : ℤ) (nullable : Option Bool) → len < 2 ^ 32 → FitsSigned w32 ptype
    → Spells dict_rows (canonical dict_rows (Whole len ∷ Integer ptype ∷ Chosen nullable ∷ [])) (Whole len ∷ Integer ptype ∷ Chosen nullable ∷ [])
dict_spells len ptype nullable fits signs =
    three_rows (record { number = 1; kind = Unsigned }) (record { number = 2; kind = Signed }) (record { number = 3; kind = Truth }) (Whole len) (Integer ptype) (Chosen nullable)
    (λ e. omega (arith, e)) (λ e. omega (arith, e)) (λ e. omega (arith, e)) (wrote_whole 1 (omega arith) (omega arith) len fits) (wrote_integer 2 (omega arith) (omega arith) ptype signs)
    (wrote_truth 3 (omega arith) (omega arith) nullable)

pub v1_spells : (ptype : ℤ) (count : ℕ) → FitsSigned w32 ptype → count < 2 ^ 32 → Spells v1_rows (canonical v1_rows (Integer ptype ∷ Whole count ∷ [])) (Integer ptype ∷ Whole count ∷ [])
v1_spells ptype count signs fits =
    two_rows (record { number = 1; kind = Signed }) (record { number = 2; kind = Unsigned }) (Integer ptype) (Whole count)
    (λ e. omega (arith, e)) (wrote_integer 1 (omega arith) (omega arith) ptype signs) (wrote_whole 2 (omega arith) (omega arith) count fits)

pub v2_spells : (ptype : ℤ) (lower : List ℤ) → FitsSigned w32 ptype → AllByRecursion (FitsSigned w32) lower → length (run_of lower) < 2 ^ 64
    → Spells v2_rows (canonical v2_rows (Integer ptype ∷ Several lower ∷ [])) (Integer ptype ∷ Several lower ∷ [])
v2_spells ptype lower signs fit short =
    two_rows (record { number = 1; kind = Signed }) (record { number = 2; kind = Repeated }) (Integer ptype) (Several lower)
    (λ e. omega (arith, e)) (wrote_integer 1 (omega arith) (omega arith) ptype signs) (wrote_several 2 (omega arith) (omega arith) lower fit short)
