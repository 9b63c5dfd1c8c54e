use Rattle.std.proofs.Common.{ℕ, ◌<◌, ◌≡◌, List, length, get_or, sym, ap, ◌∙◌}
use Rattle.std.specs.List.{zip}
use Rattle.std.proofs.lemmas.Slice.Zip.{get_or-zip}

-- a pair read from two lists is the pair at that place
pub pair_read : {A B : Type 0} (xs : List A) (ys : List B) (i : ℕ) (x : A) (y : B) → i < length xs → i < length ys → x ≡ get_or xs i x → y ≡ get_or ys i y → (x, y) ≡ get_or (zip xs ys) i (x, y)
pair_read xs ys i x y left right read_x read_y = ap (λ z. (z, y)) read_x ∙ ap (λ z. (get_or xs i x, z)) read_y ∙ sym (get_or-zip xs ys i (x, y) left right)
