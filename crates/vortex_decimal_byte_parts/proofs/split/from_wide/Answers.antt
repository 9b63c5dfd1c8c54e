use Rattle.std.proofs.Common.{◌==◌, ◌∙◌, ap, length, refl}
use Rattle.std.specs.Prelude.{IsTrue}
use Rattle.std.proofs.lemmas.List.{map-id}
use Rattle.vortex_buffer.specs.Mask.{mask_bits}
use Rattle.vortex_array_kinds.specs.Kinds.{unscaled_of}
use Rattle.vortex_array_kinds.specs.Validities.{is_as_long}
use Rattle.vortex_array_kinds.specs.declared.primitives.PrimitiveBuffer.TheVariants.{I64, U64}
use Rattle.vortex_decimal_byte_parts.specs.Split.{SplitInto, bits_kept, msp_width}
use Rattle.vortex_decimal_byte_parts.proofs.SplitRows.{GivesBack, mask-long, split-wide}
use Rattle.vortex_decimal_byte_parts.proofs.split.from_wide.Goals as goal

pub split_wide-requires-clause-same_length : goal.split_wide-requires-clause-same_length
split_wide-requires-clause-same_length c = rw c.as_slice.ensures (mask-long c.args.decimal.now c.args.items.now (mask_bits c.args.mask.now) c.requires.items c.requires.mask c.validity.ensures.fits)

pub returns : goal.returns
returns c =
    let a = c.args.decimal.now in
    let items = c.args.items.now in
    let bits = mask_bits c.args.mask.now in
    let high = c.in_ok-high.high in
    let low = c.in_ok-high.low in
    let long : IsTrue (is_as_long a.validity (length items)) = rw (c.requires.items, map-id items) at c.validity.ensures.fits in
    let split : SplitInto GivesBack items bits high low = rw c.as_slice.ensures at c.in_ok-high.ensures in
    rw (c.in_ok-push.ensures.items, c.in_ok-lower_parts.ensures.items, c.new-msp.ensures, c.new-lower.ensures, c.in_ok-validity.ensures, c.validity.ensures.value)
    (split-wide a items bits high low (I64 high) (U64 low) (ap unscaled_of c.requires.items ∙ map-id items) (ap (λ b. bits_kept b == 128) c.requires.items) (ap msp_width c.requires.items) (map-id high) refl refl refl c.requires.mask c.requires.some long split)
