-- What row masks of ranges have in common.
use Rattle.std.proofs.Common.{ℕ, ◌+◌, ◌-◌, ◌<◌, ◌≡◌, Bool, cond, ◌++◌, length, map, not, sym, ap, ◌∙◌, arith}
use Rattle.std.specs.List.{count_by, range_with_len}
use Rattle.std.specs.declared.ops.Range.{Range}
use Rattle.std.proofs.lemmas.List.{map-append}
use Rattle.std.proofs.lemmas.List.FromFn.{length-map-range_with_len}
use Rattle.vortex_buffer.specs.Mask.{mask_bits}
use Rattle.vortex_scan_types.specs.Laws.{RowMasksCount, RowMasksJoin, RowMasksComplement}
use Rattle.vortex_scan_types.specs.Members.{in_selection, is_listed, places_of}
use Rattle.vortex_scan_types.specs.RowMasks.{offset_of}
use Rattle.vortex_scan_types.proofs.Ascending.{below_yes}
use Rattle.vortex_scan_types.proofs.Counted.{count-map, map_opposite, range_in_two}

-- the mask of a range that has a place begins at its start
begins : (range : Range ℕ) → range.start < range.end → offset_of range ≡ range.start
begins range below = ap (λ b. cond b range.start 0) (below_yes range.start range.end below)

-- a range by its bounds
abbrev span : ℕ → ℕ → Range ℕ
span first end = record { start = first; end = end }

pub masks_count : RowMasksCount
masks_count selection range rows below h =
    let at : rows.row_offset ≡ range.start = h.offset ∙ begins range below in
    let long = ap length h.bits ∙ length-map-range_with_len (λ place. in_selection selection place) range.start (range.end - range.start) in
    let ends : rows.row_offset + length (mask_bits rows.mask) ≡ range.end = omega (arith, at, long, below) in
    (ap (λ a. span a (rows.row_offset + length (mask_bits rows.mask))) at ∙ ap (λ b. span range.start b) ends, ap (count_by (λ b. b)) h.bits ∙ count-map (λ place. in_selection selection place) (places_of range))

-- the answers of a test on two stretches side by side
joined_answers : (test : ℕ → Bool) (first middle end : ℕ) → first < middle → middle < end → map test (range_with_len first (end - first)) ≡ map test (range_with_len first (middle - first)) ++ map test (range_with_len middle (end - middle))
joined_answers test first middle end low high =
    let split : end - first ≡ (middle - first) + (end - middle) = omega (arith, low, high) in
    let next : first + (middle - first) ≡ middle = omega (arith, low) in
    ap (λ n. map test (range_with_len first n)) split
    ∙ ap (map test) (range_in_two first (middle - first) (end - middle))
    ∙ map-append test (range_with_len first (middle - first)) (range_with_len (first + (middle - first)) (end - middle))
    ∙ ap (λ a. map test (range_with_len first (middle - first)) ++ map test (range_with_len a (end - middle))) next

pub masks_join : RowMasksJoin
masks_join selection first middle end left right whole low high l r w =
    let wide : first < end = omega (arith, low, high) in
    let test : ℕ → Bool = λ place. in_selection selection place in (
      w.bits
          ∙ joined_answers test first middle end low high
          ∙ sym (ap (λ bits. bits ++ map test (range_with_len middle (end - middle))) l.bits)
          ∙ sym (ap (λ bits. mask_bits left.mask ++ bits) r.bits),
      w.offset ∙ begins (span first end) wide ∙ sym (begins (span first middle) low) ∙ sym l.offset,
    )

pub masks_complement : RowMasksComplement
masks_complement listed range included excluded i e =
    (e.bits ∙ map_opposite (is_listed listed) (places_of range) ∙ sym (ap (map not) i.bits), e.offset ∙ sym i.offset)
