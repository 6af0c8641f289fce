-- Elements that are asked for by their numbers.
use Rattle.std.proofs.Common.{◌≡◌, ◌∙◌, ℕ, ◌*◌, ◌^◌, ◌<◌, true, List, [], ◌∷◌, length, map, replicate, refl, sym, ap, arith, subst, zero-mul, Some, None, option_and_then, nat_lt, Result, Ok, Err, Vec, Global}
use Rattle.std.specs.Prelude.{IfOk}
use Rattle.std.specs.List.{list_all}
use Rattle.std.proofs.lemmas.Bool.{and_parts, ltb-true}
use Rattle.zarr_grids_boxes.specs.Boxes.{product}
use Rattle.zarr_codecs_meaning.specs.Chains.{Chain}
use Rattle.zarr_codecs_meaning.specs.Fits.{fits}
use Rattle.zarr_codecs_meaning.specs.Payloads.{Payload, fixed_cells, cells_in}
use Rattle.zarr_codecs_meaning.specs.Places.{gather}
use Rattle.zarr_codecs_meaning.specs.Types.{DataType, components, bytes_in, is_fixed, byte_width, Cell, Elements}
use Rattle.zarr_codecs_types.specs.Parts.{word_sized}
use Rattle.zarr_codecs_arrays.proofs.FixedCells.{fixed_cells-nil}
use Rattle.zarr_codecs_traits.specs.Indexers.{listed}
use Rattle.zarr_codecs_traits.specs.Arrays.{coded}
use Rattle.zarr_codecs_traits.specs.Outcomes.{IsPart}
use Rattle.zarr_codecs_bytes.specs.Parts.{IsListed}
use Rattle.zarr_codecs_bytes.proofs.PartDecoding.{no_places, too_wide}

-- where nothing is stored, each number has the fill value
pub filled_listed : (chain : Chain) (elements : Elements) (shape numbers : List ℕ) (payload : Payload) → list_all (λ n. nat_lt n (product shape)) numbers ≡ true → fits chain elements.type shape ≡ true
    → cells_in elements.type payload ≡ Some (replicate (length numbers) elements.fill) → IsPart (coded chain elements shape) None (listed numbers) payload
filled_listed chain elements shape numbers payload inside fit lists = record {
  cells = replicate (length numbers) elements.fill;
  fit = fit;
  inside = inside;
  lists = lists;
  is = ap Some (sym (each numbers));
} where
  each : (ns : List ℕ) → replicate (length ns) elements.fill ≡ map (λ n. elements.fill) ns
  each [] = refl
  each (n ∷ ns) = ap (λ cells. elements.fill ∷ cells) (each ns)

pub listed_by : {E : Type 0} (r : Result (Vec ℕ Global) E) (width other_width : ℕ) (value numbers : List ℕ) → width ≡ other_width → ((other : Cell) → IfOk r (λ v. fixed_cells width v.items ≡ gather other (fixed_cells width value) numbers))
    → IfOk r (λ v. length v.items ≡ length numbers * width) → IfOk r (λ v. IsListed other_width value numbers v.items)
listed_by (Ok v) width other_width value numbers same elements long = subst (λ w. IsListed w value numbers v.items) same (record { long = long; elements = elements })
listed_by (Err e) width other_width value numbers same elements long = tt

-- an array whose elements are too wide for a slice has none
pub nothing_listed : (type : DataType) (value shape numbers extracted : List ℕ) → is_fixed type ≡ true → None ≡ option_and_then word_sized (byte_width type) → length value ≡ product shape * bytes_in (components type) → length value < 2 ^ 64
    → list_all (λ n. nat_lt n (product shape)) numbers ≡ true → extracted ≡ [] → IsListed (bytes_in (components type)) value numbers extracted
nothing_listed type value shape numbers extracted one_size h whole few inside empty =
    let width = bytes_in (components type) in
    let none : product shape ≡ 0 = no_places (product shape) width (product shape) (omega arith) (omega (arith, whole, few)) (too_wide type one_size h) in
    let no_numbers : numbers ≡ [] = no_number numbers (ap (λ count. list_all (λ n. nat_lt n count) numbers) (sym none) ∙ inside) in
    record {
      long = ap length empty ∙ sym (ap (λ (ns : List ℕ). length ns * width) no_numbers ∙ zero-mul width);
      elements = λ other. ap (fixed_cells width) empty ∙ (fixed_cells-nil width ∙ sym (ap (gather other (fixed_cells width value)) no_numbers));
    } where
      no_number : (ns : List ℕ) → list_all (λ n. nat_lt n 0) ns ≡ true → ns ≡ []
      no_number [] h = refl
      no_number (n ∷ ns) h = absurd (let below = ltb-true n 0 (and_parts (nat_lt n 0) (list_all (λ n. nat_lt n 0) ns) h).0 in omega (arith, below))
