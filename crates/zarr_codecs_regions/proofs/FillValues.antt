-- Fill values of an array of which nothing is stored.
use Rattle.std.proofs.Common.{◌≡◌, ◌∙◌, ℕ, ◌*◌, ◌^◌, ◌≤◌, List, [], ◌∷◌, length, map, replicate, ap, sym, subst, refl, arith, Option, Some, None, true, inl, inr, Result, Ok, Err}
use Rattle.std.specs.Prelude.{MatchOption, IfOk, IfErr, ◌≢◌}
use Rattle.std.proofs.Math.Nat.{mul-le-mul_right}
use Rattle.zarr_grids_boxes.specs.Boxes.{Region, product}
use Rattle.zarr_grids_boxes.specs.Subsets.{region_of}
use Rattle.zarr_codecs_meaning.specs.Chains.{Chain}
use Rattle.zarr_codecs_meaning.specs.Fits.{fits}
use Rattle.zarr_codecs_meaning.specs.Payloads.{Payload, cells_in}
use Rattle.zarr_codecs_meaning.specs.Types.{DataType, byte_width, Elements, IsTooLarge}
use Rattle.zarr_codecs_arrays.specs.Views.{payload_of}
use Rattle.zarr_codecs_arrays.specs.declared.array_bytes.ArrayBytes.{ArrayBytes}
use Rattle.zarr_codecs_arrays.specs.declared.error.CodecError.{CodecError}
use Rattle.zarr_codecs_arrays.specs.declared.error.CodecError.TheVariants as error
use Rattle.zarr_codecs_traits.specs.Arrays.{coded}
use Rattle.zarr_codecs_traits.specs.Indexers.{Asked, in_box, are_inside, asked_of, shape_has, numbers_asked}
use Rattle.zarr_codecs_traits.specs.Outcomes.{DecodesPart, IsPart}
use Rattle.zarr_codecs_traits.specs.declared.indexer.Indexer.{Indexer}
use Rattle.zarr_codecs_traits.specs.declared.indexer.Indexer.TheVariants as indexer
use Rattle.zarr_codecs_regions.specs.Filling.{IsBoxTooLarge}
use Rattle.zarr_codecs_regions.proofs.CountAsked.{count_of_box}
use Rattle.zarr_codecs_regions.proofs.InsideArray.{inside_product}

-- ---- sizes

-- a box that lies in an array is too large only where the array is
pub larger_too : (type : DataType) (shape : List ℕ) (region : Region) → length region.shape ≡ length region.start → shape_has shape region ≡ true → IsTooLarge type (product region.shape) → IsTooLarge type (product shape)
larger_too type shape region l inside (inl many) = inl (let few = inside_product shape region l inside in omega (arith, many, few))
larger_too type shape region l inside (inr wide) = inr (at_width (byte_width type) wide) where
  at_width : (o : Option ℕ) → MatchOption o ⊥ (λ width. 2 ^ 63 ≤ product region.shape * width) → MatchOption o ⊥ (λ width. 2 ^ 63 ≤ product shape * width)
  at_width None h = h
  at_width (Some width) h = let more : product region.shape * width ≤ product shape * width = mul-le-mul_right width (inside_product shape region l inside) in omega (arith, h, more)

-- and so is a box that is asked for
pub too_large_asked : (type : DataType) (shape : List ℕ) (i : Indexer) → are_inside shape (asked_of i) ≡ true → IsBoxTooLarge type (asked_of i) → IsTooLarge type (product shape)
too_large_asked type shape (indexer.Subset region) inside large = larger_too type shape (region_of region.now) region.now.same inside large
too_large_asked type shape (indexer.List numbers) inside large = absurd large

-- ---- as many fill values as places are asked for

pub fills_asked : (chain : Chain) (elements : Elements) (shape : List ℕ) (asked : Asked) (count : ℕ) (payload : Payload) → are_inside shape asked ≡ true → count ≡ length (numbers_asked shape asked) → fits chain elements.type shape ≡ true
    → cells_in elements.type payload ≡ Some (replicate count elements.fill) → IsPart (coded chain elements shape) None asked payload
fills_asked chain elements shape asked count payload inside many fit lists = record {
  cells = replicate count elements.fill;
  fit = fit;
  inside = inside;
  lists = lists;
  is = ap Some (sym (ap (λ n. replicate n elements.fill) many ∙ each (numbers_asked shape asked)));
} where
  each : (ms : List ℕ) → replicate (length ms) elements.fill ≡ map (λ n. elements.fill) ms
  each [] = refl
  each (m ∷ ms) = ap (λ cells. elements.fill ∷ cells) (each ms)

-- ---- of a box

pub fills_part : (chain : Chain) (elements : Elements) (shape : List ℕ) (region : Region) (count : ℕ) (r : Result ArrayBytes CodecError) → length region.shape ≡ length region.start → shape_has shape region ≡ true → fits chain elements.type shape ≡ true → count ≡ product region.shape
    → IfOk r (λ made. cells_in elements.type (payload_of made) ≡ Some (replicate count elements.fill)) → IfErr r (λ e. e ≢ error.Memory → (e ≡ error.Size) × IsTooLarge elements.type count) → DecodesPart (coded chain elements shape) None (in_box region) r
fills_part chain elements shape region count (Ok made) l inside fit many lists large = fills_asked chain elements shape (in_box region) count (payload_of made) inside (many ∙ count_of_box shape region l) fit lists
fills_part chain elements shape region count (Err error.Memory) l inside fit many lists large = tt
fills_part chain elements shape region count (Err error.Size) l inside fit many lists large = larger_too elements.type shape region l inside (subst (IsTooLarge elements.type) many (large (λ q. cc)).1)
fills_part chain elements shape region count (Err error.Source) l inside fit many lists large = tt
fills_part chain elements shape region count (Err error.Fit) l inside fit many lists large = absurd (let h = (large (λ q. cc)).0 in cc)
fills_part chain elements shape region count (Err error.IncompatibleIndexer) l inside fit many lists large = absurd (let h = (large (λ q. cc)).0 in cc)
fills_part chain elements shape region count (Err error.Damage) l inside fit many lists large = absurd (let h = (large (λ q. cc)).0 in cc)
fills_part chain elements shape region count (Err error.Codec) l inside fit many lists large = absurd (let h = (large (λ q. cc)).0 in cc)
fills_part chain elements shape region count (Err error.CellOutOfRange) l inside fit many lists large = absurd (let h = (large (λ q. cc)).0 in cc)
fills_part chain elements shape region count (Err error.InvalidNumberOfElements) l inside fit many lists large = absurd (let h = (large (λ q. cc)).0 in cc)
fills_part chain elements shape region count (Err error.ExpectedFixedLengthBytes) l inside fit many lists large = absurd (let h = (large (λ q. cc)).0 in cc)
fills_part chain elements shape region count (Err error.ExpectedVariableLengthBytes) l inside fit many lists large = absurd (let h = (large (λ q. cc)).0 in cc)
fills_part chain elements shape region count (Err error.ExpectedOptionalBytes) l inside fit many lists large = absurd (let h = (large (λ q. cc)).0 in cc)
fills_part chain elements shape region count (Err error.Unsupported) l inside fit many lists large = absurd (let h = (large (λ q. cc)).0 in cc)
fills_part chain elements shape region count (Err (error.Other text)) l inside fit many lists large = absurd (let h = (large (λ q. cc)).0 in cc)
