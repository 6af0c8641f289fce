-- Fill values that are put into a target.
use Rattle.std.specs.Prelude.{◌≡◌, ◌≢◌, ◌⊎◌, ℕ, replicate, Some}
use Rattle.zarr_grids_boxes.specs.Boxes.{product}
use Rattle.zarr_codecs_meaning.specs.Payloads.{Payload, cells_in}
use Rattle.zarr_codecs_meaning.specs.Types.{DataType, Elements, IsTooLarge}
use Rattle.zarr_codecs_arrays.specs.declared.error.CodecError.{CodecError}
use Rattle.zarr_codecs_arrays.specs.declared.error.CodecError.TheVariants as error
use Rattle.zarr_codecs_traits.specs.Indexers.{Asked, in_box, listed}

-- a payload is so many elements, each of which nobody wrote
abbrev pub AreFill : Elements → ℕ → Payload → Type 0
AreFill elements count payload = cells_in elements.type payload ≡ Some (replicate count elements.fill)

-- so many fill values were put into a target
abbrev pub IsFilled : Elements → ℕ → (Payload → Type 0) → Type 0
IsFilled elements count puts = (payload : Payload) × AreFill elements count payload × puts payload

-- why so many fill values are not put into a target: they are too large, or it takes other elements
abbrev pub IsNotFilled : Elements → ℕ → (Payload → CodecError → Type 0) → CodecError → Type 0
IsNotFilled elements count misfits e =
    e ≢ error.Memory → ((e ≡ error.Size) × IsTooLarge elements.type count) ⊎ ((payload : Payload) × AreFill elements count payload × misfits payload e)

-- the elements of a box that is asked for are too many, or would have too many bytes; those at listed places aren't measured
abbrev pub IsBoxTooLarge : DataType → Asked → Type 0
IsBoxTooLarge type (in_box region) = IsTooLarge type (product region.shape)
IsBoxTooLarge type (listed numbers) = ⊥
