-- The elements at the places that are asked for, of what is decoded.
use Rattle.std.proofs.Common.{◌≡◌, ℕ, List, length, ap, ◌∙◌, subst, refl, Some, None, true, Option, ◌+◌, ◌≤◌}
use Rattle.std.specs.Prelude.{unwrap_or}
use Rattle.zarr_grids_boxes.specs.Boxes.{product}
use Rattle.zarr_codecs_meaning.specs.Types.{Cell, DataType, Elements}
use Rattle.zarr_codecs_meaning.specs.Chains.{Chain}
use Rattle.zarr_codecs_meaning.specs.Chains.Chain.{packbits}
use Rattle.zarr_codecs_meaning.specs.Places.{gather}
use Rattle.zarr_codecs_meaning.specs.Payloads.{Payload, cells_in}
use Rattle.zarr_codecs_meaning.proofs.Counts.{decoded_count}
use Rattle.zarr_codecs_meaning.proofs.PartReading.{part_read}
use Rattle.zarr_codecs_arrays.specs.Outcomes.{IsCounted}
use Rattle.zarr_codecs_traits.specs.Indexers.{Asked, are_inside, numbers_asked}
use Rattle.zarr_codecs_traits.specs.Arrays.{coded}
use Rattle.zarr_codecs_traits.specs.Outcomes.{IsDecoded, IsPart}
use Rattle.zarr_codecs_traits.specs.ReadBytes.{bytes_of_numbers, most_read}
use Rattle.zarr_codecs_traits.specs.Sources.{value_length}
use Rattle.zarr_codecs_packbits.specs.Views.{packbits_chain, padding_of}
use Rattle.zarr_codecs_packbits.specs.declared.codec.PackBitsPaddingEncoding.{PackBitsPaddingEncoding}
use Rattle.zarr_codecs_packbits.specs.declared.codec.PackBitsPaddingEncoding.TheVariants as padding
use Rattle.zarr_codecs_packbits.specs.declared.codec.PackBitsCodec.{PackBitsCodec}
use Rattle.zarr_codecs_regions.proofs.AskedPlaces.{asked_places}

-- ---- of a value

pub takes_part : (chain : Chain) (elements : Elements) (shape value : List ℕ) (asked : Asked) (type : DataType) (payload made : Payload) → are_inside shape asked ≡ true → type ≡ elements.type → IsDecoded (coded chain elements shape) value payload
    → ((cells : List Cell) → IsCounted type payload (product shape) cells → cells_in type made ≡ Some (gather elements.fill cells (numbers_asked shape asked))) → IsPart (coded chain elements shape) (Some value) asked made
takes_part chain elements shape value asked type payload made inside same d law = record {
  cells = gather elements.fill d.cells (numbers_asked shape asked);
  fit = d.fit;
  inside = inside;
  lists = subst (λ (t : DataType). cells_in t made ≡ Some (gather elements.fill d.cells (numbers_asked shape asked))) same
      (law d.cells (record { lists = ap (λ (t : DataType). cells_in t payload) same ∙ d.lists; many = decoded_count chain elements shape value d.cells d.is }));
  is = part_read chain elements shape value d.cells (numbers_asked shape asked) d.fit d.is (asked_places shape asked inside);
}

-- ---- how many bytes are taken

-- with a padding byte all of a value is taken
pub padded_most : (codec : PackBitsCodec) (type : DataType) (shape : List ℕ) (contents : Option (List ℕ)) (asked : Asked) (old new : ℕ) → (codec.padding ≡ padding.None → ⊥) → new ≤ old + value_length contents → new ≤ old + most_read (packbits_chain codec) type shape contents asked
padded_most codec type shape None asked old new told h = h
padded_most codec type shape (Some value) asked old new told h = by_padding codec.padding told h where
  by_padding : (p : PackBitsPaddingEncoding) → (p ≡ padding.None → ⊥) → new ≤ old + length value → new ≤ old + bytes_of_numbers (packbits (padding_of p) (unwrap_or codec.first_bit 0) codec.last_bit) type shape (numbers_asked shape asked) value
  by_padding padding.None told h = absurd (told refl)
  by_padding padding.FirstByte told h = h
  by_padding padding.LastByte told h = h
