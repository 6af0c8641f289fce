-- The chunk grid of a document, by the checks that it passes.
use Rattle.std.proofs.Common.{◌≡◌, ℕ, suc, List, [], ◌∷◌, length, map, Bool, true, false, ◌==◌, Option, Some, None, option_map, option_and_then, Result, Ok, Err, codes, refl, sym, ap, ◌∙◌}
use Rattle.std.specs.Option.{ok_or}
use Rattle.std.proofs.lemmas.Bool.{eq-eqb}
use Rattle.serde_json.specs.Data.{Data, Members}
use Rattle.serde_json.specs.Find.{get_member}
use Rattle.zarr_grids_chunks.specs.Grids.{Grid, Dimension}
use Rattle.zarr_grids_dimensions.specs.Lookups.{size_of}
use Rattle.zarr_grids_configurations.specs.Configurations.{configuration_in}
use Rattle.zarr_grids_configurations.specs.Grids.{Edges, dimension_in, grid_in}
use Rattle.zarr_grids_chunk_grids.specs.Grids.{grid_of_chunks, sizes_of_grid, edges_of_grid}
use Rattle.zarr_grids_chunk_grids.specs.declared.chunk_grid.ChunkGrid.{ChunkGrid}
use Rattle.zarr_grids_chunk_grids.proofs.Made.{grid-of_configuration}
use Rattle.zarr_grids_keys.specs.EncodingMetadata.{keys_in}
use Rattle.zarr_codecs_meaning.specs.Types.{Cell, DataType}
use Rattle.zarr_codecs_meaning.specs.Chains.{Chain}
use Rattle.zarr_codecs_types.specs.Metadata.{data_type_in}
use Rattle.zarr_codecs_metadata.specs.Chains.{ReadsCodecs}
use Rattle.zarr_array_meaning.specs.Parts.{codecs_in, fill_in, has_no_transformers}
use Rattle.zarr_array_meaning.specs.Documents.{FieldsFound, fields_in, additional_in, must_understand_any, ◌>>=◌, ◌>>◌, check, read_members, document_of}
use Rattle.zarr_array_meaning.specs.declared.error.DocumentError.{DocumentError}
use Rattle.zarr_array_meaning.specs.declared.error.DocumentError.TheVariants as error
use Rattle.zarr_array_fields.specs.Grids.{grid_for}
use Rattle.zarr_array_fields.proofs.GridSizes.{grid_sizes}

-- the grid that the edges of a chunk grid make of its shape
pub grid_made : (grid : ChunkGrid) (shape : List ℕ) → sizes_of_grid grid ≡ shape → grid_in shape (edges_of_grid grid) ≡ Some (grid_of_chunks grid)
grid_made grid shape is = ap (λ sizes. grid_in sizes (edges_of_grid grid)) (sym is) ∙ grid-of_configuration grid

-- each dimension has the size of the shape
pub grid_sized : (grid : ChunkGrid) (shape : List ℕ) → sizes_of_grid grid ≡ shape → map size_of (grid_of_chunks grid) ≡ shape
grid_sized grid shape is = grid_sizes shape (edges_of_grid grid) (grid_of_chunks grid) (grid_made grid shape is)

more_edges : (size : ℕ) (shape : List ℕ) (given : Edges) (configuration : List Edges) (first : Option Dimension) (rest : Option Grid) (grid : Grid) → ((ds : Grid) → rest ≡ Some ds → length configuration ≡ length shape)
    → option_and_then (λ d. option_map (λ ds. d ∷ ds) rest) first ≡ Some grid → suc (length configuration) ≡ suc (length shape)
more_edges size shape given configuration None rest grid h is = absurd (cc)
more_edges size shape given configuration (Some d) None grid h is = absurd (cc)
more_edges size shape given configuration (Some d) (Some ds) grid h is = ap suc (h ds refl)

-- edges that make a grid of a shape are given for each of its dimensions
pub edges_counted : (shape : List ℕ) (configuration : List Edges) (grid : Grid) → grid_in shape configuration ≡ Some grid → length configuration ≡ length shape
edges_counted [] [] grid is = refl
edges_counted [] (given ∷ configuration) grid is = absurd (cc)
edges_counted (size ∷ shape) [] grid is = absurd (cc)
edges_counted (size ∷ shape) (given ∷ configuration) grid is = more_edges size shape given configuration (dimension_in size given) (grid_in shape configuration) grid (λ ds h. edges_counted shape configuration ds h) is

pub grid_counted : (grid : ChunkGrid) (shape : List ℕ) → sizes_of_grid grid ≡ shape → length (edges_of_grid grid) ≡ length shape
grid_counted grid shape is = edges_counted shape (edges_of_grid grid) (grid_of_chunks grid) (grid_made grid shape is)

-- ---- refused

refused_at : {A : Type 0} (grid : Option Grid) (rest : Grid → Result A DocumentError) (e : DocumentError) → ok_or grid error.ChunkGrid ≡ Err e → (ok_or grid error.ChunkGrid >>= rest) ≡ Err e
refused_at None rest e is = cc
refused_at (Some g) rest e is = absurd (cc)

refused_by : {A : Type 0} (configuration : Option (List Edges)) (is_same : List Edges → Bool) (made : List Edges → Option Grid) (rest : List Edges → Grid → Result A DocumentError) (e : DocumentError)
    → (ok_or configuration error.ChunkGrid >>= λ c. check (is_same c) error.Dimensionality >> ok_or (made c) error.ChunkGrid) ≡ Err e
    → (ok_or configuration error.ChunkGrid >>= λ c. check (is_same c) error.Dimensionality >> (ok_or (made c) error.ChunkGrid >>= rest c)) ≡ Err e
refused_by None is_same made rest e is = cc
refused_by (Some c) is_same made rest e is = elim (is_same c) as (λ b. (check b error.Dimensionality >> ok_or (made c) error.ChunkGrid) ≡ Err e → (check b error.Dimensionality >> (ok_or (made c) error.ChunkGrid >>= rest c)) ≡ Err e)
    [ true ↦ λ h. refused_at (made c) (rest c) e h | false ↦ λ h. cc ] is

-- what refuses the grid refuses the document
pub grid_refuses : {A : Type 0} (shape : List ℕ) (d : Data) (rest : List Edges → Grid → Result A DocumentError) (e : DocumentError) → grid_for shape d ≡ Err e
    → (ok_or (configuration_in d) error.ChunkGrid >>= λ c. check (length c == length shape) error.Dimensionality >> (ok_or (grid_in shape c) error.ChunkGrid >>= rest c)) ≡ Err e
grid_refuses shape d rest e is = refused_by (configuration_in d) (λ c. length c == length shape) (grid_in shape) rest e is

-- what refuses the grid refuses the members, where the checks before it pass
pub members_refused : (reads : ReadsCodecs) (ms : Members) (found : FieldsFound) (chain : Chain) (type : DataType) (e : DocumentError)
    → fields_in ms ≡ Ok found → must_understand_any (additional_in ms) ≡ false → ok_or (codecs_in reads found.codecs) error.Codecs ≡ Ok chain → ok_or (data_type_in found.data_type) error.DataTypes ≡ Ok type
    → grid_for found.shape found.chunk_grid ≡ Err e → document_of (read_members reads ms) ≡ Err e
members_refused reads ms found chain type e fields understood codecs typed refused =
    rw (fields, understood, codecs, typed) (ap document_of (grid_refuses found.shape found.chunk_grid _ e refused))

-- what refuses the fill value refuses the members, where the checks before it pass
pub members_refused_at_fill : (reads : ReadsCodecs) (ms : Members) (found : FieldsFound) (chain : Chain) (type : DataType) (configuration : List Edges) (grid : Grid) (e : DocumentError)
    → fields_in ms ≡ Ok found → must_understand_any (additional_in ms) ≡ false → ok_or (codecs_in reads found.codecs) error.Codecs ≡ Ok chain → ok_or (data_type_in found.data_type) error.DataTypes ≡ Ok type
    → configuration_in found.chunk_grid ≡ Some configuration → length configuration ≡ length found.shape → grid_in found.shape configuration ≡ Some grid
    → ok_or (fill_in type found.fill_value) error.FillValue ≡ Err e → document_of (read_members reads ms) ≡ Err e
members_refused_at_fill reads ms found chain type configuration grid e fields understood codecs typed configured same made refused =
    rw (fields, understood, codecs, typed, configured, eq-eqb (length configuration) (length found.shape) same, made, refused) refl

-- what refuses the chunk key encoding refuses the members, where the checks before it pass
pub members_refused_at_keys : (reads : ReadsCodecs) (ms : Members) (found : FieldsFound) (chain : Chain) (type : DataType) (configuration : List Edges) (grid : Grid) (fill : Cell) (e : DocumentError)
    → fields_in ms ≡ Ok found → must_understand_any (additional_in ms) ≡ false → ok_or (codecs_in reads found.codecs) error.Codecs ≡ Ok chain → ok_or (data_type_in found.data_type) error.DataTypes ≡ Ok type
    → configuration_in found.chunk_grid ≡ Some configuration → length configuration ≡ length found.shape → grid_in found.shape configuration ≡ Some grid
    → ok_or (fill_in type found.fill_value) error.FillValue ≡ Ok fill → has_no_transformers (get_member (codes "storage_transformers") ms) ≡ true
    → ok_or (keys_in found.chunk_key_encoding) error.ChunkKeyEncoding ≡ Err e → document_of (read_members reads ms) ≡ Err e
members_refused_at_keys reads ms found chain type configuration grid fill e fields understood codecs typed configured same made filled none refused =
    rw (fields, understood, codecs, typed, configured, eq-eqb (length configuration) (length found.shape) same, made, filled, none, refused) refl
