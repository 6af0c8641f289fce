-- Which cells are printed.
use Rattle.std.proofs.Common.{◌≡◌, ◌∙◌, ℕ, zero, suc, ◌<◌, List, [], ◌∷◌, length, map, get_or, sym, ap, subst, refl, Bool, true, false, ◌&&◌, Option, Some, None, is_some, if◌then◌else◌, option_map, option_and_then, codes, Ok}
use Rattle.std.specs.List.{list_all}
use Rattle.std.specs.Option.{ok_or, option_map_or}
use Rattle.std.specs.Str.{is_utf8}
use Rattle.std.proofs.lemmas.Bool.{and_parts}
use Rattle.std.proofs.lemmas.List.{ext_get_or}
use Rattle.serde_json.specs.Data.{Data, array, item, no_items, string as text, Members}
use Rattle.serde_json.specs.Find.{get_member, as_object}
use Rattle.zarr_grids_boxes.specs.Boxes.{Region, product, places, place_at, is_in_box, share_place}
use Rattle.zarr_grids_boxes.proofs.InBox.{in_box-place_at, ravel-place_at}
use Rattle.zarr_grids_boxes.proofs.Sharing.{share_place-of}
use Rattle.zarr_grids_chunks.specs.Grids.{intersects}
use Rattle.zarr_grids_configurations.specs.Configurations.{configuration_in}
use Rattle.zarr_grids_configurations.specs.Grids.{grid_in}
use Rattle.zarr_grids_keys.specs.EncodingMetadata.{keys_in}
use Rattle.zarr_grids_metadata.specs.ExtensionPoints.{ExtensionPoint, extension_point, configuration_members}
use Rattle.zarr_grids_metadata.specs.Members.{has_only}
use Rattle.zarr_codecs_meaning.specs.Types.{DataType, bool, integer, custom, string, variable_bytes, optional_of, Cell, of_bytes, absent, present, are_bytes, is_value, is_value_in_bytes}
use Rattle.zarr_codecs_meaning.proofs.Lists.{bind_some}
use Rattle.zarr_codecs_types.specs.FillMetadata.{bytes_data, cell_data}
use Rattle.zarr_codecs_types.specs.Metadata.{Row, rows, type_named, is_optional_name, inner_point, plain_type, type_within, configuration_depth, point_type, data_type_in}
use Rattle.zarr_codecs_metadata.specs.Chains.{ReadsCodecs}
use Rattle.zarr_array_meaning.specs.Boxes.{IsRead, cell_of_box}
use Rattle.zarr_array_meaning.specs.Chunks.{number_in, stored_at}
use Rattle.zarr_array_meaning.specs.Documents.{Document, Metadata, fields_in, read_members, version_3_of, read_metadata, read_document}
use Rattle.zarr_array_meaning.specs.declared.error.DocumentError.TheVariants.{DataTypes}
use Rattle.zarr_array_meaning.specs.Parts.{codecs_in, fill_in, dimension_names_in}
use Rattle.zarr_array_meaning.specs.Standing.{IsGood}
use Rattle.zarr_array_meaning.specs.StoreMaps.{StoreMap}
use Rattle.zarr_array_meaning.proofs.Showing.{first_cell, length_listed, listed_at, each_inside, each_place}
use Rattle.zarr_array_meaning.proofs.ShownValues.{stored_value}
use Rattle.zarr_run_meaning.specs.Laws.{HasTables, RunsPrint, ReadsPrint}
use Rattle.zarr_run_meaning.specs.Printing.{has_text, is_printed, PrintsValues}
use Rattle.zarr_run_meaning.specs.Requests.{Request, Answer}
use Rattle.zarr_run_meaning.specs.Runs.{Run}
use Rattle.zarr_run_meaning.specs.Worlds.{World}
use Rattle.zarr_run_meaning.proofs.Apart.{IsFilled, target_filled}
use Rattle.zarr_run_meaning.proofs.Documents.{bind_ok, then_ok, ok_some, ok_same}
use Rattle.zarr_run_meaning.proofs.Frames.{steps_show}

-- ---- the types that have a name

-- whether a type is none of a caller's, nor optional over one
abbrev is_named : DataType → Bool
is_named bool = true
is_named (integer sign width) = true
is_named (custom parts) = false
is_named string = true
is_named variable_bytes = true
is_named (optional_of inner) = is_named inner

row_named : (found : Bool) (row type : DataType) (rest : Option DataType) → is_named row ≡ true → ((t : DataType) → rest ≡ Some t → is_named t ≡ true) → (if found then Some row else rest) ≡ Some type → is_named type ≡ true
row_named true row type rest h g is = let e : row ≡ type = cc in ap is_named (sym e) ∙ h
row_named false row type rest h g is = g type is

rows_named : (name : List ℕ) (rs : List Row) (type : DataType) → list_all (λ (row : Row). is_named row.1) rs ≡ true → type_named name rs ≡ Some type → is_named type ≡ true
rows_named name [] type h is = absurd (cc)
rows_named name (row ∷ rs) type h is =
    let both = and_parts (is_named row.1) (list_all (λ (row : Row). is_named row.1) rs) h in
    row_named _ row.1 type (type_named name rs) both.0 (λ t e. rows_named name rs t both.1 e) is

plain_named : (plain : Bool) (name : List ℕ) (type : DataType) → (if plain then type_named name rows else None) ≡ Some type → is_named type ≡ true
plain_named true name type is = rows_named name rows type refl is
plain_named false name type is = absurd (cc)

optional_named : (inner : Option DataType) (type : DataType) → ((t : DataType) → inner ≡ Some t → is_named t ≡ true) → option_map optional_of inner ≡ Some type → is_named type ≡ true
optional_named None type h is = absurd (cc)
optional_named (Some inner) type h is = let e : optional_of inner ≡ type = cc in ap is_named (sym e) ∙ h inner refl

within_named : (levels : ℕ) (point : ExtensionPoint) (type : DataType) → type_within levels point ≡ Some type → is_named type ≡ true
within_named zero point type is = absurd (cc)
within_named (suc levels) point type is = elim (is_optional_name point.name)
    as (λ b. (if b then option_map optional_of (option_and_then (type_within levels) (inner_point (configuration_members point.configuration))) else plain_type point) ≡ Some type → is_named type ≡ true) [
      | true ↦ λ h. optional_named _ type (λ t e. let found = bind_some (type_within levels) (inner_point (configuration_members point.configuration)) t e in within_named levels found.0 t found.2) h
      | false ↦ λ h. plain_named (has_only [] (configuration_members point.configuration)) point.name type h
    ] is

said_named : (d : Data) (type : DataType) → data_type_in d ≡ Some type → is_named type ≡ true
said_named d type is =
    let found = bind_some point_type (extension_point d) type is in
    within_named (suc (configuration_depth found.0.configuration)) found.0 type found.2

-- ---- the cells that are printed

some_if : (b : Bool) (d : Data) → is_some (if b then Some d else None) ≡ b
some_if true d = refl
some_if false d = refl

some_map : (f : Data → Data) (o : Option Data) → is_some (option_map f o) ≡ is_some o
some_map f None = refl
some_map f (Some d) = refl

and_true : (b : Bool) → b ≡ (b && true)
and_true true = refl
and_true false = refl

if_value : (b : Bool) (o : Option Data) (c : Bool) → (b ≡ true → is_some o ≡ c) → is_some (if b then o else None) ≡ (b && c)
if_value true o c h = h refl
if_value false o c h = refl

no_bytes : (b : Bool) → (b && false) ≡ true → ⊥
no_bytes true h = absurd (cc)
no_bytes false h = absurd (cc)

bytes_printed : (type : DataType) (bytes : List ℕ) → is_named type ≡ true → is_value_in_bytes type bytes ≡ true → is_some (bytes_data type bytes) ≡ has_text type (of_bytes bytes)
bytes_printed bool bytes n h = refl
bytes_printed (integer sign width) bytes n h = refl
bytes_printed (custom parts) bytes n h = absurd (cc)
bytes_printed string bytes n h = some_if (is_utf8 bytes) (text bytes)
bytes_printed variable_bytes bytes n h = refl
bytes_printed (optional_of inner) bytes n h = absurd (no_bytes (are_bytes bytes) h)

prints_values : (type : DataType) → is_named type ≡ true → PrintsValues type
prints_values type n (of_bytes bytes) = if_value (is_value_in_bytes type bytes) (bytes_data type bytes) (has_text type (of_bytes bytes)) (bytes_printed type bytes n)
prints_values bool n absent = refl
prints_values (integer sign width) n absent = refl
prints_values (custom parts) n absent = absurd (cc)
prints_values string n absent = refl
prints_values variable_bytes n absent = refl
prints_values (optional_of inner) n absent = refl
prints_values bool n (present cell) = refl
prints_values (integer sign width) n (present cell) = refl
prints_values (custom parts) n (present cell) = absurd (cc)
prints_values string n (present cell) = refl
prints_values variable_bytes n (present cell) = refl
prints_values (optional_of inner) n (present cell) = some_map (λ d. array (item d no_items)) (cell_data inner cell) ∙ prints_values inner n cell

pub all_printed : (type : DataType) (values : List Cell) → PrintsValues type → list_all (is_value type) values ≡ true → list_all (is_printed type) values ≡ list_all (has_text type) values
all_printed type [] law h = refl
all_printed type (cell ∷ cells) law h =
    let both = and_parts (is_value type cell) (list_all (is_value type) cells) h in
    ap (λ (b : Bool). b && list_all (is_printed type) cells) (law cell ∙ ap (λ (b : Bool). b && has_text type cell) both.0)
    ∙ ap (λ (b : Bool). has_text type cell && b) (all_printed type cells law both.1)

-- ---- documents and runs

members_print : (reads : ReadsCodecs) (ms : Members) (m : Metadata) → read_members reads ms ≡ Ok m → PrintsValues m.document.elements.type
members_print reads ms m h =
    let found = bind_ok (fields_in ms) _ m h in
    let f = found.0 in
    let chain = bind_ok (ok_or (codecs_in reads f.codecs) _) _ m (then_ok _ _ m found.2) in
    let type = bind_ok (ok_or (data_type_in f.data_type) _) _ m chain.2 in
    let configuration = bind_ok (ok_or (configuration_in f.chunk_grid) _) _ m type.2 in
    let grid = bind_ok (ok_or (grid_in f.shape configuration.0) _) _ m (then_ok _ _ m configuration.2) in
    let fill = bind_ok (ok_or (fill_in type.0 f.fill_value) _) _ m grid.2 in
    let keys = bind_ok (ok_or (keys_in f.chunk_key_encoding) _) _ m (then_ok _ _ m fill.2) in
    let names = bind_ok (ok_or (dimension_names_in (length f.shape) (get_member (codes "dimension_names") ms)) _) _ m keys.2 in
    subst (λ (x : Metadata). PrintsValues x.document.elements.type) (ok_same _ m names.2)
    (prints_values type.0 (said_named f.data_type type.0 (ok_some (data_type_in f.data_type) DataTypes type.0 type.1)))

-- the values of a document that opens are printed
document_prints : (reads : ReadsCodecs) (d : Data) (document : Document) → read_document reads d ≡ Ok document → PrintsValues document.elements.type
document_prints reads d document h =
    let whole = bind_ok (read_metadata reads d) _ document h in
    let members = bind_ok (ok_or (as_object d) _) _ whole.0 (then_ok _ _ whole.0 (then_ok _ _ whole.0 whole.1)) in
    let version_3 = bind_ok (version_3_of members.0) _ whole.0 members.2 in
    subst (λ (x : Document). PrintsValues x.elements.type) (ok_same whole.0.document document whole.2) (members_print reads version_3.0 whole.0 version_3.2)

run_shows : (reads : ReadsCodecs) (old new : World) (requests : List Request) (answers : List Answer) → HasTables reads old → Run reads old requests answers new → HasTables reads new
run_shows reads old new [] [] tables r = subst (HasTables reads) (sym r) tables
run_shows reads old new [] (answer ∷ answers) tables r = absurd r
run_shows reads old new (request ∷ requests) [] tables r = absurd r
run_shows reads old new (request ∷ requests) (answer ∷ answers) tables r = run_shows reads r.0 new requests answers (steps_show reads old r.0 request answer tables r.1) r.2

pub runs_print : RunsPrint
runs_print reads store count requests answers new r path h held =
    let tables = run_shows reads _ new requests answers (λ other array none. absurd (cc)) r in
    document_prints reads h.tree h.document (tables path h held).1

-- ---- what is read

module _ (path : List ℕ) (document : Document) (store : StoreMap) (box : Region) (values : List Cell) (good : IsGood document) (filled : IsFilled document.grid box) (reading : IsRead path document store box values) where
  abbrev cell_there : List ℕ → Cell
  cell_there = cell_of_box box values document.elements.fill

  abbrev listed : List Cell
  listed = map cell_there (places box.start box.shape)

  one_listed : (n : ℕ) → n < product box.shape → get_or values n document.elements.fill ≡ get_or listed n document.elements.fill
  one_listed n low =
      let place = place_at box.start box.shape n in
      let inside : is_in_box box.start box.shape place ≡ true = in_box-place_at box.start box.shape n filled.formed low in
      let number : number_in box place ≡ n = ravel-place_at box.start box.shape n filled.formed low in
      ap (λ m. get_or values m document.elements.fill) (sym number) ∙ sym (listed_at cell_there box place document.elements.fill inside) ∙ ap (λ m. get_or listed m document.elements.fill) number

  values_listed : values ≡ listed
  values_listed = ext_get_or document.elements.fill values listed (reading.many ∙ sym (length_listed cell_there box.start box.shape filled.formed))
      (λ n low. one_listed n (subst (λ m. n < m) reading.many low))

  value_there : (place : List ℕ) → is_in_box box.start box.shape place ≡ true → is_value document.elements.type (cell_there place) ≡ true
  value_there place inside =
      let c = filled.covered place inside in
      let shares : intersects document.grid box c.0 ≡ true =
      ap (λ found. option_map_or (λ (b : Region). share_place b.start b.shape box.start box.shape) found false) c.2.has_box ∙ share_place-of c.1.start c.1.shape box.start box.shape place c.3 inside in
      let read = reading.each c.0 c.1 place (record { below = c.2; of_region = inside; of_chunk = c.3 }) in
      ap (λ o. is_value document.elements.type (first_cell document.elements.fill o)) (sym read)
      ∙ stored_value document.chain document.elements c.1.shape (stored_at path document store c.0) (number_in c.1 place) good.fill (reading.fit c.0 c.1 c.2 shares)

  read_values : list_all (is_value document.elements.type) values ≡ true
  read_values = ap (list_all (is_value document.elements.type)) values_listed
      ∙ each_place (is_value document.elements.type) cell_there (places box.start box.shape) (each_inside (λ place. is_value document.elements.type (cell_there place) ≡ true) box.start box.shape filled.formed value_there)

pub reads_print : ReadsPrint
reads_print reads old new path target options payload good tables formed s =
    let r = s.0 in
    let h = r.held in
    let opens = (tables path h r.found).1 in
    let are = read_values h.path h.document old.store r.box r.values (good h.tree h.document opens) (target_filled h.document.grid target r.box formed r.is) r.read in record {
      held = h;
      found = r.found;
      values = r.values;
      lists = r.lists;
      are = are;
      printed = all_printed h.document.elements.type r.values (document_prints reads h.tree h.document opens) are;
    }
