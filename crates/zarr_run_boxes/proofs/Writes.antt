-- Boxes that commands write: what they give, and why a write is refused.
use Rattle.std.proofs.Common.{◌≡◌, ◌∙◌, ℕ, suc, map, ◌<◌, ◌^◌, Bool, true, false, cond, List, [], ◌∷◌, length, Option, Some, None, option_and_then, refl, sym, ap, subst, arith, inl, inr, ◌⊎◌}
use Rattle.std.specs.Prelude.{Result, Ok, Err, IfErr}
use Rattle.std.specs.Option.{option_map_or}
use Rattle.std.specs.List.{filter}
use Rattle.std.proofs.lemmas.List.{length-map}
use Rattle.std.proofs.Math.Nat.{div-le_self}
use Rattle.zarr_grids_boxes.specs.Boxes.{Region, product, share_place}
use Rattle.zarr_grids_chunks.specs.Grids.{Grid, chunk_box, chunk_indices, intersects, intersecting}
use Rattle.zarr_codecs_meaning.specs.Types.{DataType, byte_width, inner_type, is_variable, Cell, of_bytes}
use Rattle.zarr_codecs_meaning.specs.Payloads.{Payload, fixed_cells, fixed_in, bytes_between, variable_in, masked_in, cells_in, values_in, values_only}
use Rattle.zarr_codecs_meaning.proofs.Lists.{some_same, bind_some, map_some, if_some}
use Rattle.zarr_codecs_options.specs.declared.codec_options.CodecOptions.{CodecOptions}
use Rattle.zarr_codecs_types.specs.Given.{GivenCells, given_bytes, given_in}
use Rattle.zarr_codecs_arrays.specs.Views.{payload_of, numbers_of}
use Rattle.zarr_codecs_arrays.specs.declared.array_bytes.ArrayBytes.{ArrayBytes, Fixed, Variable, Optional'}
use Rattle.zarr_codecs_arrays.proofs.FixedCells.{length-fixed_cells}
use Rattle.zarr_codecs_arrays.proofs.Masks.{masked_lengths}
use Rattle.zarr_array_core.proofs.ChunksWritten.{wrote_none}
use Rattle.zarr_array_core.specs.Outcomes.{IsSmall, ChunkStops, WriteStops}
use Rattle.zarr_array_core.specs.declared.error.ChunkError.{ChunkError}
use Rattle.zarr_array_core.specs.declared.error.ChunkError.TheVariants as error
use Rattle.zarr_array_core.specs.declared.error.ManyError.{ManyError}
use Rattle.zarr_array_meaning.specs.Arrays.{Array, value_at}
use Rattle.zarr_array_meaning.specs.Documents.{Document}
use Rattle.zarr_array_meaning.specs.StoreMaps.{StoreMap}
use Rattle.zarr_array_meaning.specs.Writes.{Write, write_to}
use Rattle.zarr_array_meaning.specs.Writing.{WroteChunks}
use Rattle.zarr_run_meaning.specs.Causes.{IsTarget, Gives, WriteRefuses, ChunkRefuses}
use Rattle.zarr_run_meaning.specs.Requests.{Target, WriteAsked}
use Rattle.zarr_run_meaning.specs.declared.cause.Cause.{Cause}
use Rattle.zarr_run_meaning.specs.declared.cause.Cause.TheVariants as cause
use Rattle.zarr_run_boxes.specs.Outcomes.{AreValuesOf, BoxAsked, CoveredWriteRefuses, CoveredWriteRefused, WriteRefused, WritesCovered, cause_of}
use Rattle.zarr_run_boxes.specs.declared.refusal.Refusal.{Refusal}
use Rattle.zarr_run_boxes.proofs.Boxes.{shares_none, small_fits, fits_empty}

-- ---- how many values there are

-- the values that a payload is are its elements
cells_of_values : (type : DataType) (payload : Payload) (values : List Cell) → values_in type payload ≡ Some values → cells_in type payload ≡ Some values
cells_of_values type payload values h =
    let found = bind_some (values_only type) (cells_in type payload) values h in
    found.1 ∙ (if_some _ (Some found.0) values found.2).1

-- bytes of one width are fewer elements than a vector holds
few_fixed : (width : ℕ) (bytes : List ℕ) (cells : List Cell) → length bytes < 2 ^ 63 → fixed_in width bytes ≡ Some cells → length cells < 2 ^ 63
few_fixed width bytes cells few h =
    let same = some_same (if_some _ (Some (fixed_cells width bytes)) cells h).1 in
    let count = ap (λ (cs : List Cell). length cs) (sym same) ∙ length-fixed_cells width bytes in
    let less = div-le_self (length bytes) width in
    omega arith

-- as many pieces as ends
between_long : (start : ℕ) (ends bytes : List ℕ) (pieces : List (List ℕ)) → bytes_between start ends bytes ≡ Some pieces → length pieces ≡ length ends
between_long start [] bytes pieces h = ap length (sym (some_same (if_some _ (Some []) pieces h).1))
between_long start (end ∷ ends) bytes pieces h =
    let rest = map_some _ (bytes_between end ends bytes) pieces (if_some _ _ pieces h).1 in
    sym (ap length rest.2) ∙ ap suc (between_long end ends bytes rest.0 rest.1)

few_variable : (offsets bytes : List ℕ) (cells : List Cell) → length offsets < 2 ^ 63 → variable_in offsets bytes ≡ Some cells → length cells < 2 ^ 63
few_variable [] bytes cells few h = cc
few_variable (start ∷ ends) bytes cells few h =
    let pieces = map_some (map of_bytes) (bytes_between start ends bytes) cells h in
    let long = between_long start ends bytes pieces.0 pieces.1 in
    omega (arith, long, ap length (sym pieces.2), length-map pieces.0 of_bytes)

-- elements are fewer than 2^63
few_cells : (type : DataType) (elements : ArrayBytes) (cells : List Cell) → cells_in type (payload_of elements) ≡ Some cells → length cells < 2 ^ 63
few_cells type (Fixed bytes) cells h =
    let ok = bytes.ok in
    let small = bytes.small in
    let wide = bind_some (λ w. fixed_in w bytes.items) (byte_width type) cells h in
    few_fixed wide.0 bytes.items cells (omega arith) wide.2
few_cells type (Variable bytes offsets) cells h =
    let ok = offsets.offsets.ok in
    let small = offsets.offsets.small in
    few_variable (numbers_of offsets) bytes.items cells (omega arith) (if_some (is_variable type) _ cells h).1
few_cells type (Optional' p inner mask) cells h =
    let ok = mask.ok in
    let small = mask.small in
    let of_type = bind_some (λ t. option_and_then (λ cs. masked_in cs mask.items) (cells_in t (payload_of inner))) (inner_type type) cells h in
    let below = bind_some (λ cs. masked_in cs mask.items) (cells_in of_type.0 (payload_of inner)) cells of_type.2 in
    let long = masked_lengths below.0 mask.items cells below.2 in
    omega (arith, long.0)

-- so no elements are the values of a box with 2^63 places or more
pub none_so_many : (document : Document) (region : Region) (elements : ArrayBytes) (values : List Cell) → (product region.shape < 2 ^ 63 → ⊥) → AreValuesOf document region (payload_of elements) values → ⊥
none_so_many document region elements values many are =
    let few = few_cells document.elements.type elements values (cells_of_values document.elements.type (payload_of elements) values are.lists) in
    many (subst (λ n. n < 2 ^ 63) are.many few)

-- ---- boxes with no place

none_kept : {X : Type 0} (test : X → Bool) (xs : List X) → ((x : X) → test x ≡ false) → filter test xs ≡ []
none_kept test [] h = refl
none_kept test (x ∷ xs) h = ap (λ b. cond b (x ∷ filter test xs) (filter test xs)) (h x) ∙ none_kept test xs h

no_true : (b : Bool) → (b ≡ true → ⊥) → b ≡ false
no_true true h = absurd (h refl)
no_true false h = refl

-- an empty box intersects no chunk
none_intersecting : (grid : Grid) (region : Region) → product region.shape ≡ 0 → intersecting grid region ≡ []
none_intersecting grid region z = none_kept (intersects grid region) (chunk_indices grid) (λ chunk. at_box (chunk_box grid chunk)) where
  at_box : (o : Option Region) → option_map_or (λ (box : Region). share_place box.start box.shape region.start region.shape) o false ≡ false
  at_box None = refl
  at_box (Some box) = no_true (share_place box.start box.shape region.start region.shape) (shares_none region box z)

pub writes_empty : (array : Array) (region : Region) (payload : Payload) (options : CodecOptions) (store : StoreMap) (values : List Cell) → product region.shape ≡ 0 → AreValuesOf array.document region payload values
    → WritesCovered array (record { region = region; cells = given_bytes payload; options = options }) store store
writes_empty array region payload options store values z are =
    let write = write_to array region values options in
    record {
      values = values;
      gives = (are.lists, are.many);
      small = fits_empty array.document region z;
      wrote = subst (λ (chunks : List (List ℕ)). WroteChunks write chunks store store) (sym (none_intersecting array.document.grid region z)) (wrote_none write store);
    }

-- ---- writes that stop at a chunk

chunk_refuses : (write : Write) (box : Region) (stored : Option (List ℕ)) (e : ChunkError) → ChunkStops write box stored e → ChunkRefuses write box stored (cause_of e)
chunk_refuses write box stored error.Fit stops = stops
chunk_refuses write box stored (error.Storage e) stops = stops.0
chunk_refuses write box stored error.Damage stops = stops
chunk_refuses write box stored error.Codec stops = stops
chunk_refuses write box stored error.Size stops = stops
chunk_refuses write box stored error.Memory stops = stops

-- the values that a payload is are the cells that it lists
same_values : (document : Document) (region : Region) (payload : Payload) (values cells : List Cell) → AreValuesOf document region payload values → cells_in document.elements.type payload ≡ Some cells → AreValuesOf document region payload cells
same_values document region payload values cells are lists =
    subst (λ (vs : List Cell). AreValuesOf document region payload vs) (some_same (sym (cells_of_values document.elements.type payload values are.lists) ∙ lists)) are

pub stopped_covered : (array : Array) (region : Region) (payload : Payload) (options : CodecOptions) (values cells : List Cell) (old new : StoreMap) (stopped : ManyError) (refusal : Refusal)
    → AreValuesOf array.document region payload values → IsSmall array.document region → WriteStops (write_to array region cells options) payload old new stopped → refusal ≡ record { cause = cause_of stopped.error; applied = stopped.applied }
    → CoveredWriteRefused array (record { region = region; cells = given_bytes payload; options = options }) refusal old new
stopped_covered array region payload options values cells old new stopped refusal are small stops is =
    let here = same_values array.document region payload values cells are stops.lists in
    subst (λ (r : Refusal). CoveredWriteRefused array (record { region = region; cells = given_bytes payload; options = options }) r old new) (sym is) (inr (record {
      values = cells;
      gives = (here.lists, here.many);
      small = λ large. small_fits array.document region small large;
      stops = record {
        chunk = stops.chunk;
        box = stops.box;
        nth = stops.nth;
        refuses = chunk_refuses (write_to array region cells options) stops.box (value_at array old stops.chunk) stopped.error stops.stops;
      };
      wrote = stops.wrote;
    }))

-- ---- what is given, said in another way

gives_same : (document : Document) (region : Region) (a b : GivenCells) (values : List Cell) → given_in document.elements.type a ≡ given_in document.elements.type b → Gives document region a values → Gives document region b values
gives_same document region a b values same gives = (sym same ∙ gives.0, gives.1)

refuses_same : (document : Document) (region : Region) (a b : GivenCells) (c : Cause) → given_in document.elements.type a ≡ given_in document.elements.type b → CoveredWriteRefuses document region a c → CoveredWriteRefuses document region b c
refuses_same document region a b cause.Data same why = λ values gives. why values (gives_same document region b a values (sym same) gives)
refuses_same document region a b cause.Size same why = (why.0, gives_same document region a b why.0 same why.1, why.2)
refuses_same document region a b cause.Memory same why = why
refuses_same document region a b _ same why = why

covered_same : (array : Array) (asked : BoxAsked) (b : GivenCells) (old new : StoreMap) (refusal : Refusal) → given_in array.document.elements.type asked.cells ≡ given_in array.document.elements.type b
    → CoveredWriteRefused array asked refusal old new → CoveredWriteRefused array (record asked { cells = b }) refusal old new
covered_same array asked b old new refusal same (inl (untouched, why)) = inl (untouched, refuses_same array.document asked.region asked.cells b refusal.cause same why)
covered_same array asked b old new refusal same (inr first) =
    inr (record { values = first.values; gives = gives_same array.document asked.region asked.cells b first.values same first.gives; small = first.small; stops = first.stops; wrote = first.wrote })

pub refused_same : {A : Type 0} (array : Array) (asked : BoxAsked) (b : GivenCells) (old new : StoreMap) (result : Result A Refusal) → given_in array.document.elements.type asked.cells ≡ given_in array.document.elements.type b
    → IfErr result (λ refusal. CoveredWriteRefused array asked refusal old new) → IfErr result (λ refusal. CoveredWriteRefused array (record asked { cells = b }) refusal old new)
refused_same array asked b old new (Ok value) same why = tt
refused_same array asked b old new (Err refusal) same why = covered_same array asked b old new refusal same why

-- ---- targets

refuses_target : (document : Document) (target : Target) (box : Region) (given : GivenCells) (c : Cause) → IsTarget document.grid target box → CoveredWriteRefuses document box given c → WriteRefuses document target given c ⊎ (c ≡ cause.Memory)
refuses_target document target box given cause.Data is why = inl (box, is, why)
refuses_target document target box given cause.Size is why = inl (box, why.0, record { is = is; gives = why.1 }, why.2)
refuses_target document target box given cause.Memory is why = inr refl
refuses_target document target box given _ is why = absurd why

target_refused : (array : Array) (asked : WriteAsked) (box : Region) (old new : StoreMap) (refusal : Refusal) → IsTarget array.document.grid asked.target box
    → CoveredWriteRefused array (record { region = box; cells = asked.cells; options = asked.options }) refusal old new → WriteRefused array asked refusal old new
target_refused array asked box old new refusal is (inl (untouched, why)) = inl (untouched, refuses_target array.document asked.target box asked.cells refusal.cause is why)
target_refused array asked box old new refusal is (inr first) =
    inr (record { box = box; values = first.values; is = record { is = is; gives = first.gives }; small = first.small; stops = first.stops; wrote = first.wrote })

-- why a covered box is not written is why the target with that box is not
pub refused_target : {A : Type 0} (array : Array) (asked : WriteAsked) (box : Region) (old new : StoreMap) (result : Result A Refusal) → IsTarget array.document.grid asked.target box
    → IfErr result (λ refusal. CoveredWriteRefused array (record { region = box; cells = asked.cells; options = asked.options }) refusal old new) → IfErr result (λ refusal. WriteRefused array asked refusal old new)
refused_target array asked box old new (Ok value) is why = tt
refused_target array asked box old new (Err refusal) is why = target_refused array asked box old new refusal is why
