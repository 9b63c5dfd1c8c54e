-- Texts matched with patterns.
use Rattle.std.proofs.Common.{ℕ, ◌≡◌, List, [], ◌∷◌, length, get_or, map, refl, ap, ◌∙◌}
use Rattle.std.specs.Prelude.{IsTrue, IsUtf8, All}
use Rattle.std.specs.Simd.Lanes.{zip2}
use Rattle.std.specs.Str.{is_utf8}
use Rattle.std.proofs.lemmas.List.{length-map}
use Rattle.std.proofs.lemmas.Str.{is_utf8-from_IsUtf8}
use Rattle.vortex_array_types.specs.Matches.{matches}
use Rattle.vortex_array_types.specs.Truth.{is_like}
use Rattle.vortex_array_types.specs.declared.types.Nullability.{Nullability}
use Rattle.vortex_array_types.specs.declared.scalar.Value.TheVariants as value
use Rattle.vortex_array_kinds.specs.Parts.{StringParts}
use Rattle.vortex_array_kinds.specs.StringValues.{AreStrings, is_text_type, string_type, string_value, strings_of}
use Rattle.vortex_array_kinds.specs.StringTypes.{same_kind}
use Rattle.vortex_array_kinds.specs.declared.strings.StringKind.{StringKind}
use Rattle.vortex_array_kinds.specs.declared.strings.StringKind.TheVariants.{Utf8, Binary}
use Rattle.vortex_array_compare.proofs.Tested.{Laws}

-- strings as values of a plain array
pub string-laws : Laws (λ (s : StringParts) (n : Nullability). string_type s.kind n) strings_of (λ (s : StringParts). length s.lists)
string-laws = record { counted = λ s. length-map s.lists (string_value s.kind); alike = λ s. same_kind s.kind }

-- strings of a type of texts are texts
pub text-kind : (kind : StringKind) (n : Nullability) → IsTrue (is_text_type (string_type kind n)) → kind ≡ Utf8
text-kind Utf8 n e = refl
text-kind Binary n e = absurd (cc e)

-- texts are all UTF-8, by the test
pub text-lists : (s : StringParts) → s.kind ≡ Utf8 → AreStrings s.kind s.lists → All (λ bytes. IsTrue (is_utf8 bytes)) s.lists
text-lists s e h = let texts : All IsUtf8 s.lists = rw e at h in λ k d l. is_utf8-from_IsUtf8 (get_or s.lists k d) (texts k d l)

-- the values of texts
pub text-values : (s : StringParts) → s.kind ≡ Utf8 → map (λ text. value.Utf8 text) s.lists ≡ strings_of s
text-values s e = rw e refl

matched : (xs ys : List (List ℕ)) → zip2 (λ text pattern. matches pattern text) xs ys ≡ zip2 is_like (map (λ text. value.Utf8 text) xs) (map (λ text. value.Utf8 text) ys)
matched [] ys = refl
matched (x ∷ xs) [] = refl
matched (x ∷ xs) (y ∷ ys) = ap (λ rest. matches y x ∷ rest) (matched xs ys)

-- texts and patterns
pub like-values : (s p : StringParts) → s.kind ≡ Utf8 → p.kind ≡ Utf8 → zip2 (λ text pattern. matches pattern text) s.lists p.lists ≡ zip2 is_like (strings_of s) (strings_of p)
like-values s p e f = matched s.lists p.lists ∙ ap (λ xs. zip2 is_like xs (map (λ text. value.Utf8 text) p.lists)) (text-values s e) ∙ ap (zip2 is_like (strings_of s)) (text-values p f)

matched_with : (xs : List (List ℕ)) (y : List ℕ) → map (λ text. matches y text) xs ≡ map (λ text. is_like text (value.Utf8 y)) (map (λ text. value.Utf8 text) xs)
matched_with [] y = refl
matched_with (x ∷ xs) y = ap (λ rest. matches y x ∷ rest) (matched_with xs y)

-- texts and one pattern
pub like-value : (s : StringParts) (y : List ℕ) → s.kind ≡ Utf8 → map (λ text. matches y text) s.lists ≡ map (λ text. is_like text (value.Utf8 y)) (strings_of s)
like-value s y e = matched_with s.lists y ∙ ap (map (λ text. is_like text (value.Utf8 y))) (text-values s e)

matched_beside : (x : List ℕ) (ys : List (List ℕ)) → map (λ pattern. matches pattern x) ys ≡ map (is_like (value.Utf8 x)) (map (λ text. value.Utf8 text) ys)
matched_beside x [] = refl
matched_beside x (y ∷ ys) = ap (λ rest. matches y x ∷ rest) (matched_beside x ys)

-- one text and patterns
pub value-like : (x : List ℕ) (p : StringParts) → p.kind ≡ Utf8 → map (λ pattern. matches pattern x) p.lists ≡ map (is_like (value.Utf8 x)) (strings_of p)
value-like x p e = matched_beside x p.lists ∙ ap (map (is_like (value.Utf8 x))) (text-values p e)
