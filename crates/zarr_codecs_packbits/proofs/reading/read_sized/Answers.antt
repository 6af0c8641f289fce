use Rattle.std.proofs.Common.{◌≡◌, ◌∙◌, ◌+◌, ◌*◌, ◌/◌, ℕ, List, ap, arith, length, option_map, Option, Some, None}
use Rattle.std.specs.Prelude.{unwrap_or}
use Rattle.zarr_grids_boxes.specs.Boxes.{product}
use Rattle.zarr_codecs_meaning.specs.Fits.{packed_size}
use Rattle.zarr_codecs_types.specs.Views.{components_of}
use Rattle.zarr_codecs_traits.specs.Sources.{value_length}
use Rattle.zarr_codecs_packbits.specs.Parts.{bits_of_packed}
use Rattle.zarr_codecs_packbits.proofs.PackedParts.{none_packed}
use Rattle.zarr_codecs_packbits.proofs.reading.read_sized.Goals as goal

sized : (contents : Option (List ℕ)) (total : ℕ) → Some total ≡ option_map length contents → value_length contents ≡ total
sized None total h = cc
sized (Some value) total h = cc

pub returns-in_default-packed_bits-clause-given : goal.returns-in_default-packed_bits-clause-given
returns-in_default-packed_bits-clause-given g c = λ honest.
    let D = g.D.BytesPartialDecoderTraits in
    let packed = c.args.packed in
    let count = product packed.part.shape.now in
    let bits = bits_of_packed packed in
    let first = unwrap_or packed.codec.first_bit 0 in
    let size : c.args.total ≡ 0 + (bits * count + 7) / 8 = c.in_default.ensures.sized ∙ ap (λ p. packed_size p first packed.codec.last_bit (components_of packed.components.now) count) c.requires.untold in
    let empty = none_packed bits count c.args.total c.in_default-packed_bits.ensures.none c.in_default.ensures.small size in
    let whole = sized (D.contents c.args.source.now) c.args.total (c.requires.sized honest) in
    omega (arith, empty, whole, c.read_whole.ensures.given honest)
