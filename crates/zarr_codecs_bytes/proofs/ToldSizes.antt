-- What `bytes` tells of the size of what it makes.
use Rattle.std.proofs.Common.{◌≡◌, ◌∙◌, ℕ, ◌*◌, ◌^◌, ◌<◌, List, Option, ap, sym, true}
use Rattle.std.proofs.Math.Nat.{mul_comm}
use Rattle.std.proofs.lemmas.Bool.{lt-leb}
use Rattle.zarr_grids_boxes.specs.Boxes.{product}
use Rattle.zarr_codecs_meaning.specs.Chains.{Endianness}
use Rattle.zarr_codecs_meaning.specs.Chains.BytesRepresentation.{fixed_size}
use Rattle.zarr_codecs_meaning.specs.Chains.Chain.{bytes}
use Rattle.zarr_codecs_meaning.specs.Fits.{fits, is_too_long}
use Rattle.zarr_codecs_meaning.specs.Types.{DataType, bytes_in, components}
use Rattle.zarr_codecs_traits.specs.Representations.{IsRepresented}
use Rattle.zarr_codecs_traits.specs.declared.bytes_representation.BytesRepresentation.TheVariants.{FixedSize}

-- fewer than 2^63 bytes, those of all elements
pub bytes_told : (order : Option Endianness) (type : DataType) (shape : List ℕ) (count size : ℕ) → fits (bytes order) type shape ≡ true → count ≡ product shape → size ≡ count * bytes_in (components type) → size < 2 ^ 63
    → IsRepresented (bytes order) type shape (FixedSize size)
bytes_told order type shape count size fit same is small =
    let width = bytes_in (components type) in
    let known : size ≡ width * product shape = is ∙ (ap (λ n. n * width) same ∙ mul_comm (product shape) width) in
    record {
      fit = fit;
      is = ap fixed_size known;
      short = ap (λ n. is_too_long (fixed_size n)) (sym known) ∙ lt-leb (2 ^ 63) size small;
    }
