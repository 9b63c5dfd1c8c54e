-- What every call keeps of sources, over several calls and several sources.
use Rattle.std.proofs.Common.{◌≡◌, ℕ, zero, suc, List, [], ◌∷◌, ◌++◌, refl, sym, ◌∙◌, ap, Bool, true, false, ◌&&◌, Option, None, Some, arith, append-nil, append_assoc, length}
use Rattle.std.specs.Prelude.{slice_get}
use Rattle.std.proofs.Math.ListN.{set}
use Rattle.vortex_io.specs.Source.{grown}
use Rattle.vortex_io.specs.declared.ids.IoOwnerId.{IoOwnerId}
use Rattle.vortex_io.specs.declared.request.JournalEntry.{JournalEntry}
use Rattle.vortex_io.specs.declared.source.IoSource.{Ghosts}
use Rattle.vortex_scan.specs.declared.item.Slot.{Slot}
use Rattle.vortex_scan.specs.Sources.{Clears, ClearsEach, Keeps, KeepsEach, KeepsSlot, Releases}
use Rattle.vortex_scan.specs.Steps.{ClearsLast}

pub grown_none : (told : Option (List JournalEntry)) → told ≡ grown told []
grown_none None = refl
grown_none (Some journal) = ap (λ z. Some z) (sym (append-nil journal))

pub grown_twice : (told : Option (List JournalEntry)) (first then : List JournalEntry) → grown (grown told first) then ≡ grown told (first ++ then)
grown_twice None first then = refl
grown_twice (Some journal) first then = ap (λ z. Some z) (append_assoc journal first then)

module _ {S C : Type 0} (source : Ghosts S C) where
  pub keeps_same : (it : S) → Keeps source it it
  keeps_same it = record { content = refl; sure = refl; faults = omega arith; lies = omega arith; quiet = omega arith; added = []; journal = grown_none (source.journal it) }

  pub keeps_on : (a b d : S) → Keeps source a b → Keeps source b d → Keeps source a d
  keeps_on a b d k l = record {
    content = l.content ∙ k.content;
    sure = l.sure ∙ k.sure;
    faults = omega (arith, k.faults, l.faults);
    lies = omega (arith, k.lies, l.lies);
    quiet = omega (arith, k.quiet, l.quiet);
    added = k.added ++ l.added;
    journal = l.journal ∙ ap (λ t. grown t l.added) k.journal ∙ grown_twice (source.journal a) k.added l.added;
  }

  -- a source that an owner left, cleared with its last one
  pub leaving_keeps : (owner : IoOwnerId) (others : Bool) (a b d : S) → Releases source owner a b → ClearsLast source others b d → Keeps source a d
  leaving_keeps owner true a b d r l = rw l r.keeps
  leaving_keeps owner false a b d r l = keeps_on a b d r.keeps l.keeps

  pub slot_same : (slot : Slot S) → KeepsSlot source slot slot
  slot_same slot = record { keeps = keeps_same slot.source; ends = λ e. e }

  pub each_same : (slots : List (Slot S)) → KeepsEach source slots slots
  each_same [] = tt
  each_same (slot ∷ slots) = (slot_same slot, each_same slots)

  pub each_on : (olds bs ds : List (Slot S)) → KeepsEach source olds bs → KeepsEach source bs ds → KeepsEach source olds ds
  each_on [] [] [] k l = tt
  each_on [] [] (d ∷ ds) k l = absurd l
  each_on [] (b ∷ bs) ds k l = absurd k
  each_on (a ∷ olds) [] ds k l = absurd k
  each_on (a ∷ olds) (b ∷ bs) [] k l = absurd l
  each_on (a ∷ olds) (b ∷ bs) (d ∷ ds) k l =
      (record { keeps = keeps_on a.source b.source d.source k.0.keeps l.0.keeps; ends = λ e. k.0.ends (l.0.ends e) }, each_on olds bs ds k.1 l.1)

  pub each_with : (slots : List (Slot S)) (i : ℕ) (slot slot' : Slot S) → slice_get slots i ≡ Some slot → KeepsSlot source slot slot' → KeepsEach source slots (set slots i slot')
  each_with [] i slot slot' at k = absurd (cc)
  each_with (s ∷ ss) zero slot slot' at k = let same : slot ≡ s = cc in (rw same at k, each_same ss)
  each_with (s ∷ ss) (suc i) slot slot' at k = (slot_same s, each_with ss i slot slot' at k)

  pub each_long : (olds bs : List (Slot S)) → KeepsEach source olds bs → length bs ≡ length olds
  each_long [] [] k = refl
  each_long [] (b ∷ bs) k = absurd k
  each_long (a ∷ olds) [] k = absurd k
  each_long (a ∷ olds) (b ∷ bs) k = ap (λ n. suc n) (each_long olds bs k.1)

  -- a slot whose source alone was called
  pub each_called : (slots : List (Slot S)) (i : ℕ) (slot : Slot S) (after : S) → slice_get slots i ≡ Some slot → Keeps source slot.source after → KeepsEach source slots (set slots i (record slot { source = after }))
  each_called slots i slot after at k = each_with slots i slot (record slot { source = after }) at (record { keeps = k; ends = λ e. e })

  and_right : (a b : Bool) → (a && b) ≡ true → b ≡ true
  and_right true b e = e
  and_right false b e = absurd (cc)

  pub slot_left : (owner : IoOwnerId) (others : Bool) (slot slot' : Slot S) (released : S) → Releases source owner slot.source released → ClearsLast source others released slot'.source
      → slot'.live ≡ (others && slot.live) → KeepsSlot source slot slot'
  slot_left owner others slot slot' released r l live = record { keeps = leaving_keeps owner others slot.source released slot'.source r l; ends = λ e. and_right others slot.live (sym live ∙ e) }

-- one more source is cleared and leaves
pub cleared_more : {S C : Type 0} (source : Ghosts S C) (slots : List (Slot S)) (left : List S) (slot : Slot S) (after : S) → ClearsEach source slots left → Clears source slot.source after → ClearsEach source (slots ++ slot ∷ []) (left ++ after ∷ [])
cleared_more source [] [] slot after all one = (one, tt)
cleared_more source [] (x ∷ xs) slot after all one = absurd all
cleared_more source (s ∷ ss) [] slot after all one = absurd all
cleared_more source (s ∷ ss) (x ∷ xs) slot after all one = (all.0, cleared_more source ss xs slot after all.1 one)
