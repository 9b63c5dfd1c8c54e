-- No spelling of a field begins another, and what the front of the bytes says of the field there.
use Rattle.std.proofs.Common.{◌≡◌, ◌≤◌, ◌<◌, ◌+◌, ◌*◌, ◌/◌, ◌%◌, ◌^◌, ◌++◌, ◌∙◌, ◌⊎◌, inl, inr, ap, sym, refl, subst, arith, ℕ, List, length, length-append, append_assoc}
use Rattle.std.specs.List.{slice_range}
use Rattle.vortex_wire.proofs.Slices.{length_slice, same_front, same_rest, slice_join}
use Rattle.vortex_wire.proofs.Varints.{same_varint, varint_not_empty}
use Rattle.vortex_wire.specs.Grammar.{Varint, BeginsVarint, BeginsField, BeginsPayload, Payload, Number, Eight, Run, Four, Field, SpellsField, SpellsPayload, LiesWithin, wire_type, key_of}
use Rattle.vortex_wire.specs.declared.field.WirePayload.{WirePayload}
use Rattle.vortex_wire.specs.declared.field.WirePayload.TheVariants as seen

pub same_payload : (p q : Payload) (a b x y : List ℕ) → wire_type p ≡ wire_type q → SpellsPayload p a → SpellsPayload q b → a ++ x ≡ b ++ y → (p ≡ q) × (a ≡ b)
same_payload (Number m) (Number n) a b x y t g h e = let r = same_varint a b x y m n g h e in (ap Number r.1, r.0)
same_payload Eight Eight a b x y t g h e = (refl, same_front a b x y (g ∙ sym h) e)
same_payload Four Four a b x y t g h e = (refl, same_front a b x y (g ∙ sym h) e)
same_payload (Run u) (Run v) a b x y t (s, g, i) (r, h, j) e =
    let e2 : s ++ (u ++ x) ≡ r ++ (v ++ y) = sym (append_assoc s u x) ∙ ap (λ l. l ++ x) (sym i) ∙ e ∙ ap (λ l. l ++ y) j ∙ append_assoc r v y in
    let sizes = same_varint s r (u ++ x) (v ++ y) (length u) (length v) g h e2 in
    let e3 : u ++ x ≡ v ++ y = same_rest s (u ++ x) (v ++ y) (e2 ∙ ap (λ l. l ++ (v ++ y)) (sym sizes.0)) in
    let runs : u ≡ v = same_front u v x y sizes.1 e3 in
    (ap Run runs, i ∙ ap (λ l. l ++ u) sizes.0 ∙ ap (λ l. r ++ l) runs ∙ sym j)
same_payload (Number m) Eight a b x y t g h e = absurd (omega (arith, t))
same_payload (Number m) (Run v) a b x y t g h e = absurd (omega (arith, t))
same_payload (Number m) Four a b x y t g h e = absurd (omega (arith, t))
same_payload Eight (Number n) a b x y t g h e = absurd (omega (arith, t))
same_payload Eight (Run v) a b x y t g h e = absurd (omega (arith, t))
same_payload Eight Four a b x y t g h e = absurd (omega (arith, t))
same_payload (Run u) (Number n) a b x y t g h e = absurd (omega (arith, t))
same_payload (Run u) Eight a b x y t g h e = absurd (omega (arith, t))
same_payload (Run u) Four a b x y t g h e = absurd (omega (arith, t))
same_payload Four (Number n) a b x y t g h e = absurd (omega (arith, t))
same_payload Four Eight a b x y t g h e = absurd (omega (arith, t))
same_payload Four (Run v) a b x y t g h e = absurd (omega (arith, t))

pub below_eight : (p : Payload) → wire_type p < 8
below_eight (Number n) = omega arith
below_eight Eight = omega arith
below_eight (Run run) = omega arith
below_eight Four = omega arith

-- a field whose key is known: what is behind the key is its payload
pub behind_key : (k : ℕ) (key more front rest : List ℕ) (field : Field) → Varint k key → SpellsField field front → key ++ more ≡ front ++ rest
    → (body : List ℕ) × (more ≡ body ++ rest) × (key_of field ≡ k) × SpellsPayload field.payload body × (front ≡ key ++ body)
behind_key k key more front rest field v s e =
    let e2 : key ++ more ≡ s.key ++ (s.body ++ rest) = e ∙ ap (λ l. l ++ rest) s.whole ∙ append_assoc s.key s.body rest in
    let r = same_varint key s.key more (s.body ++ rest) k (key_of field) v s.keyed e2 in
    let e3 : more ≡ s.body ++ rest = same_rest key more (s.body ++ rest) (e2 ∙ ap (λ l. l ++ (s.body ++ rest)) (sym r.0)) in
    (s.body, e3, sym r.1, s.payload, s.whole ∙ ap (λ l. l ++ s.body) (sym r.0))

pub same_field : (f g : Field) (a b x y : List ℕ) → SpellsField f a → SpellsField g b → a ++ x ≡ b ++ y → (f ≡ g) × (a ≡ b)
same_field f g a b x y s t e =
    let e2 : s.key ++ (s.body ++ x) ≡ b ++ y = sym (append_assoc s.key s.body x) ∙ ap (λ l. l ++ x) (sym s.whole) ∙ e in
    let r = behind_key (key_of f) s.key (s.body ++ x) b y g s.keyed t e2 in
    let kinds : wire_type f.payload ≡ wire_type g.payload = omega (arith, r.2, below_eight f.payload, below_eight g.payload) in
    let numbers : f.number ≡ g.number = omega (arith, r.2, kinds) in
    let p = same_payload f.payload g.payload s.body r.0 x y kinds s.payload r.3 r.1 in
    let made : ℕ → Payload → Field = λ n q. record { number = n; payload = q } in
    (ap (λ n. made n f.payload) numbers ∙ ap (λ q. made g.number q) p.0, s.whole ∙ ap (λ l. s.key ++ l) p.1 ∙ sym r.4)

pub field_not_empty : (field : Field) (front : List ℕ) → SpellsField field front → 0 < length front
field_not_empty field front s = omega (arith, ap length s.whole, length-append s.key s.body, varint_not_empty _ s.key s.keyed)

-- where no number begins, no field does
pub no_key : (bytes : List ℕ) → (BeginsVarint bytes → ⊥) → BeginsField bytes → ⊥
no_key bytes none (field, front, rest, e, s) = none (key_of field, s.key, s.body ++ rest, e ∙ ap (λ l. l ++ rest) s.whole ∙ append_assoc s.key s.body rest, s.keyed)

-- a key without a field number, or past 32 bits
pub bad_key : (bytes key more : List ℕ) (k : ℕ) → bytes ≡ key ++ more → Varint k key → ((k < 8) ⊎ (2 ^ 32 ≤ k)) → BeginsField bytes → ⊥
bad_key bytes key more k split v bad (field, front, rest, e, s) =
    let r = behind_key k key more front rest field v s (sym split ∙ e) in
    elim bad [ inl low ↦ absurd (omega (arith, r.2, s.numbered)) | inr high ↦ absurd (omega (arith, r.2, s.small)) ]

-- no payload of the type that the key names
pub no_payload : (bytes key more : List ℕ) (k : ℕ) → bytes ≡ key ++ more → Varint k key → (BeginsPayload (k % 8) more → ⊥) → BeginsField bytes → ⊥
no_payload bytes key more k split v none (field, front, rest, e, s) =
    let r = behind_key k key more front rest field v s (sym split ∙ e) in
    none (field.payload, r.0, rest, r.1, omega (arith, r.2, below_eight field.payload), r.3)

pub no_number : (bytes : List ℕ) → (BeginsVarint bytes → ⊥) → BeginsPayload 0 bytes → ⊥
no_number bytes none (Number n, front, rest, e, t, s) = none (n, front, rest, e, s)
no_number bytes none (Eight, front, rest, e, t, s) = absurd (omega (arith, t))
no_number bytes none (Run run, front, rest, e, t, s) = absurd (omega (arith, t))
no_number bytes none (Four, front, rest, e, t, s) = absurd (omega (arith, t))

pub no_eight : (bytes : List ℕ) → length bytes < 8 → BeginsPayload 1 bytes → ⊥
no_eight bytes few (Number n, front, rest, e, t, s) = absurd (omega (arith, t))
no_eight bytes few (Eight, front, rest, e, t, s) = omega (arith, ap length e, length-append front rest, s, few)
no_eight bytes few (Run run, front, rest, e, t, s) = absurd (omega (arith, t))
no_eight bytes few (Four, front, rest, e, t, s) = absurd (omega (arith, t))

pub no_four : (bytes : List ℕ) → length bytes < 4 → BeginsPayload 5 bytes → ⊥
no_four bytes few (Number n, front, rest, e, t, s) = absurd (omega (arith, t))
no_four bytes few (Eight, front, rest, e, t, s) = absurd (omega (arith, t))
no_four bytes few (Run run, front, rest, e, t, s) = absurd (omega (arith, t))
no_four bytes few (Four, front, rest, e, t, s) = omega (arith, ap length e, length-append front rest, s, few)

pub no_size : (bytes : List ℕ) → (BeginsVarint bytes → ⊥) → BeginsPayload 2 bytes → ⊥
no_size bytes none (Number n, front, rest, e, t, s) = absurd (omega (arith, t))
no_size bytes none (Eight, front, rest, e, t, s) = absurd (omega (arith, t))
no_size bytes none (Run run, front, rest, e, t, (size, v, w)) = none (length run, size, run ++ rest, e ∙ ap (λ l. l ++ rest) w ∙ append_assoc size run rest, v)
no_size bytes none (Four, front, rest, e, t, s) = absurd (omega (arith, t))

-- a run that is longer than the bytes behind its length
pub no_run : (bytes size more : List ℕ) (n : ℕ) → bytes ≡ size ++ more → Varint n size → length more < n → BeginsPayload 2 bytes → ⊥
no_run bytes size more n split v long (Number m, front, rest, e, t, s) = absurd (omega (arith, t))
no_run bytes size more n split v long (Eight, front, rest, e, t, s) = absurd (omega (arith, t))
no_run bytes size more n split v long (Run run, front, rest, e, t, (size2, v2, w)) =
    let e2 : size ++ more ≡ size2 ++ (run ++ rest) = sym split ∙ e ∙ ap (λ l. l ++ rest) w ∙ append_assoc size2 run rest in
    let r = same_varint size size2 more (run ++ rest) n (length run) v v2 e2 in
    let e3 : more ≡ run ++ rest = same_rest size more (run ++ rest) (e2 ∙ ap (λ l. l ++ (run ++ rest)) (sym r.0)) in
    omega (arith, r.1, ap length e3, length-append run rest, long)
no_run bytes size more n split v long (Four, front, rest, e, t, s) = absurd (omega (arith, t))

pub no_such_type : (kind : ℕ) (bytes : List ℕ) → (kind ≡ 0 → ⊥) → (kind ≡ 1 → ⊥) → (kind ≡ 2 → ⊥) → (kind ≡ 5 → ⊥) → BeginsPayload kind bytes → ⊥
no_such_type kind bytes a b c d (Number n, front, rest, e, t, s) = a (sym t)
no_such_type kind bytes a b c d (Eight, front, rest, e, t, s) = b (sym t)
no_such_type kind bytes a b c d (Run run, front, rest, e, t, s) = c (sym t)
no_such_type kind bytes a b c d (Four, front, rest, e, t, s) = d (sym t)

-- a length that was found, and so many bytes
pub run_found : (bytes : List ℕ) (at start size : ℕ) → at ≤ start → start + size ≤ length bytes → Varint size (slice_range bytes at start)
    → SpellsPayload (Run (slice_range bytes start (start + size))) (slice_range bytes at (start + size))
run_found bytes at start size order inside v =
    let exact : size ≡ length (slice_range bytes start (start + size)) = omega (arith, length_slice bytes start (start + size) (omega arith) inside) in
    (slice_range bytes at start, subst (λ (n : ℕ). Varint n (slice_range bytes at start)) exact v, slice_join bytes at start (start + size) order (omega arith))

-- a key that was found, and a payload of its type
pub field_found : (bytes : List ℕ) (at body end key : ℕ) (payload : Payload) → at ≤ body → body ≤ end → 8 ≤ key → key < 2 ^ 32 → Varint key (slice_range bytes at body)
    → wire_type payload ≡ key % 8 → SpellsPayload payload (slice_range bytes body end) → SpellsField (record { number = key / 8; payload = payload }) (slice_range bytes at end)
field_found bytes at body end key payload first second low high v kind s =
    let same : key ≡ (key / 8) * 8 + wire_type payload = omega (arith, kind) in
    record {
      key = slice_range bytes at body;
      body = slice_range bytes body end;
      whole = slice_join bytes at body end first second;
      numbered = omega arith;
      small = omega (arith, same);
      keyed = subst (λ (n : ℕ). Varint n (slice_range bytes at body)) same v;
      payload = s;
    }

pub lies_further : (at body end : ℕ) (payload : WirePayload) → at ≤ body → LiesWithin body end payload → LiesWithin at end payload
lies_further at body end (seen.Varint n) order h = tt
lies_further at body end seen.Eight order h = tt
lies_further at body end (seen.Run start stop) order h = (omega (arith, h.0), h.1, h.2)
lies_further at body end seen.Four order h = tt
