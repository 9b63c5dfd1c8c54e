-- What the chunks of a source have of the fetches of a batch, and which fetch a completion takes.
use Rattle.std.proofs.Common.{◌≡◌, ℕ, zero, suc, Bool, true, false, Some, IsTrue, List, [], ◌∷◌, ◌++◌, take, drop, filter, All, slice_index_or, refl, sym, ap, arith, subst, inl}
use Rattle.std.specs.Prelude.{remove, slice_get}
use Rattle.std.specs.List.{list_any}
use Rattle.std.proofs.lemmas.Bool.{or_parts}
use Rattle.std.proofs.lemmas.List.Elements.{All-map, All-filter, All-nil, All-cons, All-append, filter_passes}
use Rattle.vortex_io.specs.declared.ids.IoOwnerId.{IoOwnerId}
use Rattle.vortex_io.specs.declared.request.Completion.{Completion}
use Rattle.vortex_io.specs.declared.request.IoTarget.{IoTarget}
use Rattle.vortex_io.specs.declared.request.IoTarget.TheVariants as target
use Rattle.vortex_io.specs.declared.request.IoRequest.{IoRequest}
use Rattle.vortex_io.specs.declared.request.Fetch.{Fetch}
use Rattle.vortex_io.specs.declared.request.IoResult.{IoResult}
use Rattle.vortex_io.specs.declared.request.IoResult.TheVariants as result
use Rattle.vortex_io.specs.Source.{Content, is_fetch, fetch_of, fetches, has_target, is_outside, is_of_kind, Agrees, Answers, Completes}
use Rattle.vortex_io.specs.Memory.{AreHeld, Delivers}

-- where no element passes a test, each fails it
none_passes : {X : Type 0} (p : X → Bool) (xs : List X) → list_any p xs ≡ false → All (λ x. p x ≡ false) xs
none_passes {X} p [] none = All-nil (λ (y : X). p y ≡ false)
none_passes {X} p (x ∷ xs) none = All-cons (λ (y : X). p y ≡ false) x xs (or_parts (p x) (list_any p xs) none).0 (none_passes p xs (or_parts (p x) (list_any p xs) none).1)

-- a fetch that is not outside is of something that the content has
held : {C : Type 0} (content : Content C) (request : IoRequest) → is_fetch request ≡ true → is_outside content request ≡ false → has_target content request.target ≡ true
held content request owed inside = grind arith

-- the fetches of a batch that asks nothing outside are of what the content has
AreHeld-fetches : {C : Type 0} (content : Content C) (owner : IoOwnerId) (batch : List IoRequest) → list_any (is_outside content) batch ≡ false → AreHeld content (fetches owner batch)
AreHeld-fetches content owner batch none = All-map (λ (fetch : Fetch). IsTrue (has_target content fetch.target)) (fetch_of owner) (filter is_fetch batch)
    (λ k d lt. held content (slice_index_or (filter is_fetch batch) k d) (filter_passes is_fetch batch k d lt)
    (All-filter is_fetch (λ (r : IoRequest). is_outside content r ≡ false) batch (none_passes (is_outside content) batch none) k d lt))

-- with these behind it, what is outstanding is held still
pub AreHeld-append : {C : Type 0} (content : Content C) (outstanding : List Fetch) (owner : IoOwnerId) (batch : List IoRequest) → AreHeld content outstanding → list_any (is_outside content) batch ≡ false → AreHeld content (outstanding ++ fetches owner batch)
AreHeld-append content outstanding owner batch h none = All-append (λ (fetch : Fetch). IsTrue (has_target content fetch.target)) outstanding (fetches owner batch) h (AreHeld-fetches content owner batch none)

-- a list is what stands before a place, its element there, and what stands behind
pub split_at : {X : Type 0} (xs : List X) (i : ℕ) (x : X) → slice_get xs i ≡ Some x → xs ≡ take i xs ++ x ∷ drop (suc i) xs
split_at [] i x e = absurd (cc)
split_at (y ∷ ys) zero x e = let same : y ≡ x = cc in ap (λ z. z ∷ ys) same
split_at (y ∷ ys) (suc i) x e = ap (λ zs. y ∷ zs) (split_at ys i x e)

-- a result that agrees with content at a target is of its kind
kind_agrees : {C M : Type 0} (means : C → M) (content : Content C) (t : IoTarget) (r : IoResult C) → Agrees means content t r → is_of_kind t r ≡ true
kind_agrees means content (target.Chunk split column) (result.Chunk chunk) agrees = refl
kind_agrees means content (target.Chunk split column) (result.Size size) agrees = absurd agrees
kind_agrees means content target.Size (result.Chunk chunk) agrees = absurd agrees
kind_agrees means content target.Size (result.Size size) agrees = refl

-- a result that agrees with the told content answers the target
answers_agreeing : {C M : Type 0} (means : C → M) (content : Content C) (t : IoTarget) (r : IoResult C) → Agrees means content t r → Answers means (Some content) t r
answers_agreeing {C} means content t r agrees = record {
  kind = kind_agrees means content t r agrees;
  agrees = λ told e. subst (λ (k : Content C). Agrees means k t r) (let same : content ≡ told = cc in same) agrees;
}

-- what delivers the fetch at a place completes it
pub Completes-delivered : {C M : Type 0} (means : C → M) (content : Content C) (old : List Fetch) (place before now : ℕ) (fetch : Fetch) (completion : Completion C) → slice_get old place ≡ Some fetch → Delivers means content fetch completion
    → Completes means (Some content) old (remove old place) before now completion
Completes-delivered means content old place before now fetch completion at delivers = inl (record {
  entry = fetch;
  taken = record { before = take place old; behind = drop (suc place) old; stood = split_at old place fetch at; left = refl; whose = sym delivers.owner; number = sym delivers.request };
  answers = λ _. answers_agreeing means content fetch.target completion.result delivers.agrees;
})
