-- What a document that opens says of the grid and of the keys.
use Rattle.std.proofs.Common.{◌≡◌, ◌∙◌, ℕ, List, [], ◌∷◌, refl, sym, ap, subst, Bool, true, false, Option, Some, None, option_map, if◌then◌else◌, bytes_eq, codes, Result, Ok, Err, arith}
use Rattle.std.specs.Prelude.{◌&&◌, nat_le, nat_lt, length, ⊤}
use Rattle.std.specs.List.{sum}
use Rattle.std.specs.Option.{ok_or}
use Rattle.std.specs.Result.{result_ok}
use Rattle.std.proofs.lemmas.Bool.{and_parts, and_from, eqb-true, le-leb}
use Rattle.serde_json.specs.Data.{Data, Members}
use Rattle.serde_json.specs.Find.{get_member, as_object, as_str}
use Rattle.zarr_grids_metadata.specs.ExtensionPoints.{ExtensionPoint, extension_point}
use Rattle.zarr_grids_chunks.specs.Grids.{Dimension, Grid}
use Rattle.zarr_grids_dimensions.specs.Lookups.{is_dimension, are_dimensions, all_positive}
use Rattle.zarr_grids_dimensions.specs.RepeatedEdges.{expanded, edges, counts}
use Rattle.zarr_grids_dimensions.proofs.Expanded.{positive-expanded}
use Rattle.zarr_grids_configurations.specs.Configurations.{configuration_in}
use Rattle.zarr_grids_configurations.specs.Grids.{Edges, fixed, bounded, exact, covering, is_positive, suits, is_countable, dimension_with, dimension_in, grid_in}
use Rattle.zarr_grids_keys.specs.Keys.{KeyEncoding, default, v2, suffixed, is_separator, has_separator}
use Rattle.zarr_grids_keys.specs.EncodingMetadata.{separator_of, separator_in, separator_among, suffix_in, members_of, default_in, v2_in, suffixed_in, default_made, v2_made, suffixed_made, keys_made, keys_in, is_suffix_name}
use Rattle.zarr_codecs_types.specs.Metadata.{data_type_in}
use Rattle.zarr_codecs_metadata.specs.Chains.{ReadsCodecs}
use Rattle.zarr_codecs_meaning.proofs.Lists.{bind_some, map_some, if_some, some_same}
use Rattle.zarr_array_meaning.specs.Documents.{Document, Metadata, ◌>>=◌, ◌>>◌, fields_in, read_members, version_3_of, read_metadata, read_document}
use Rattle.zarr_array_meaning.specs.Parts.{codecs_in, fill_in, dimension_names_in}

-- ---- checks that passed

pub bind_ok : {A B E : Type 0} (r : Result A E) (f : A → Result B E) (y : B) → (r >>= f) ≡ Ok y → (x : A) × (r ≡ Ok x) × (f x ≡ Ok y)
bind_ok (Ok x) f y h = (x, refl, h)
bind_ok (Err e) f y h = absurd (cc)

pub then_ok : {A E : Type 0} (c : Result ⊤ E) (r : Result A E) (y : A) → (c >> r) ≡ Ok y → r ≡ Ok y
then_ok (Ok x) r y h = h
then_ok (Err e) r y h = absurd (cc)

pub ok_some : {A E : Type 0} (o : Option A) (e : E) (x : A) → ok_or o e ≡ Ok x → o ≡ Some x
ok_some None e x h = absurd (cc)
ok_some (Some y) e x h = let same : y ≡ x = cc in ap Some same

pub ok_same : {A E : Type 0} (x y : A) → ◌≡◌ {A = Result A E} (Ok x) (Ok y) → x ≡ y
ok_same x y h = cc

result_some : {A E : Type 0} (r : Result A E) (x : A) → result_ok r ≡ Some x → r ≡ Ok x
result_some (Ok y) x h = let same : y ≡ x = cc in ap Ok same
result_some (Err e) x h = absurd (cc)

-- ---- grids

positive_dimension : (size : ℕ) (given : Edges) → is_positive given ≡ true → suits size given ≡ true → is_dimension (dimension_with size given) ≡ true
positive_dimension size (fixed e) h s = h
positive_dimension size (bounded e) h s = h
positive_dimension size (exact es) h s =
    let all = (and_parts (nat_lt 0 (length es)) (all_positive es) h).1 in
    let is = eqb-true (sum es) size s in
    and_from (all_positive es) (nat_le size (sum es)) all (le-leb size (sum es) (omega arith))
positive_dimension size (covering repeats) h s =
    let all = (and_parts (all_positive (edges repeats)) (all_positive (counts repeats)) h).0 in
    and_from (all_positive (expanded repeats)) (nat_le size (sum (expanded repeats))) (positive-expanded repeats all) s

made_dimension : (size : ℕ) (given : Edges) (d : Dimension) → dimension_in size given ≡ Some d → is_dimension d ≡ true
made_dimension size given d h =
    let made = if_some ((is_positive given && suits size given) && is_countable given) (Some (dimension_with size given)) d h in
    let parts = and_parts (is_positive given && suits size given) (is_countable given) made.0 in
    let both = and_parts (is_positive given) (suits size given) parts.0 in
    ap is_dimension (sym (some_same made.1)) ∙ positive_dimension size given both.0 both.1

made_dimensions : (shape : List ℕ) (given : List Edges) (grid : Grid) → grid_in shape given ≡ Some grid → are_dimensions grid ≡ true
made_dimensions [] [] grid h = ap are_dimensions (sym (some_same h))
made_dimensions [] (e ∷ es) grid h = absurd (cc)
made_dimensions (n ∷ shape) [] grid h = absurd (cc)
made_dimensions (n ∷ shape) (e ∷ es) grid h =
    let first = bind_some (λ d. option_map (λ ds. d ∷ ds) (grid_in shape es)) (dimension_in n e) grid h in
    let rest = map_some (λ ds. first.0 ∷ ds) (grid_in shape es) grid first.2 in
    ap are_dimensions (sym rest.2) ∙ and_from (is_dimension first.0) (are_dimensions rest.0) (made_dimension n e first.0 first.1) (made_dimensions shape es rest.0 rest.1)

-- ---- keys

is_separator-of : (text : List ℕ) (s : ℕ) → separator_of text ≡ Some s → is_separator s ≡ true
is_separator-of text s h = go (bytes_eq text (codes "/")) (bytes_eq text (codes ".")) h where
  go : (a b : Bool) → (if a then Some 47 else (if b then Some 46 else None)) ≡ Some s → is_separator s ≡ true
  go true b e = ap is_separator (sym (some_same e))
  go false true e = ap is_separator (sym (some_same e))
  go false false e = absurd (cc)

is_separator-in : (usual : ℕ) (o : Option Data) (s : ℕ) → is_separator usual ≡ true → separator_in usual o ≡ Some s → is_separator s ≡ true
is_separator-in usual None s u h = ap is_separator (sym (some_same h)) ∙ u
is_separator-in usual (Some d) s u h = let found = bind_some separator_of (as_str d) s h in is_separator-of found.0 s found.2

is_separator-among : (names : List (List ℕ)) (usual : ℕ) (ms : Members) (s : ℕ) → is_separator usual ≡ true → separator_among names usual ms ≡ Some s → is_separator s ≡ true
is_separator-among names usual ms s u h = is_separator-in usual (get_member (codes "separator") ms) s u (if_some _ _ s h).1

has_separator-default : (ms : Members) (keys : KeyEncoding) → default_in ms ≡ Some keys → has_separator keys ≡ true
has_separator-default ms keys h =
    let found = map_some default (separator_among (codes "separator" ∷ []) 47 ms) keys h in
    ap has_separator (sym found.2) ∙ is_separator-among (codes "separator" ∷ []) 47 ms found.0 refl found.1

has_separator-v2 : (ms : Members) (keys : KeyEncoding) → v2_in ms ≡ Some keys → has_separator keys ≡ true
has_separator-v2 ms keys h =
    let found = map_some v2 (separator_among (codes "separator" ∷ []) 46 ms) keys h in
    ap has_separator (sym found.2) ∙ is_separator-among (codes "separator" ∷ []) 46 ms found.0 refl found.1

has_separator-suffixed : (ms : Members) (keys : KeyEncoding) → suffixed_in ms ≡ Some keys → has_separator keys ≡ true
has_separator-suffixed ms keys h =
    let names : List (List ℕ) = codes "separator" ∷ codes "suffix" ∷ [] in
    let found = bind_some (λ s. option_map (suffixed s) (suffix_in (get_member (codes "suffix") ms))) (separator_among names 47 ms) keys h in
    let made = map_some (suffixed found.0) (suffix_in (get_member (codes "suffix") ms)) keys found.2 in
    ap has_separator (sym made.2) ∙ is_separator-among names 47 ms found.0 refl found.1

if_ok : {A E : Type 0} (b : Bool) (r s : Result A E) (x : A) (P : Type 0) → (if b then r else s) ≡ Ok x → (r ≡ Ok x → P) → (s ≡ Ok x → P) → P
if_ok true r s x P h f g = f h
if_ok false r s x P h f g = g h

has_separator-made : (point : ExtensionPoint) (keys : KeyEncoding) → keys_made point ≡ Ok keys → has_separator keys ≡ true
has_separator-made point keys h =
    let ms = members_of point in
    if_ok (bytes_eq point.name (codes "default")) (default_made point) (if bytes_eq point.name (codes "v2") then v2_made point else suffixed_made point) keys (has_separator keys ≡ true) h
    (λ d. if_ok (bytes_eq point.name (codes "default")) (ok_or (default_in ms) _) (Err _) keys (has_separator keys ≡ true) d (λ e. has_separator-default ms keys (ok_some (default_in ms) _ keys e)) (λ e. absurd (cc)))
    (λ r. if_ok (bytes_eq point.name (codes "v2")) (v2_made point) (suffixed_made point) keys (has_separator keys ≡ true) r
    (λ d. if_ok (bytes_eq point.name (codes "v2")) (ok_or (v2_in ms) _) (Err _) keys (has_separator keys ≡ true) d (λ e. has_separator-v2 ms keys (ok_some (v2_in ms) _ keys e)) (λ e. absurd (cc)))
    (λ d. if_ok (is_suffix_name point.name) (ok_or (suffixed_in ms) _) (Err _) keys (has_separator keys ≡ true) d (λ e. has_separator-suffixed ms keys (ok_some (suffixed_in ms) _ keys e)) (λ e. absurd (cc))))

has_separator-in : (d : Data) (keys : KeyEncoding) → keys_in d ≡ Some keys → has_separator keys ≡ true
has_separator-in d keys h =
    let found = bind_some (λ point. result_ok (keys_made point)) (extension_point d) keys h in
    has_separator-made found.0 keys (result_some (keys_made found.0) keys found.2)

-- ---- documents

-- the grid and the keys are such that chunks share neither places nor keys
pub record IsFormed (document : Document) : Type 0 where
  pub grid : are_dimensions document.grid ≡ true
  pub keys : has_separator document.keys ≡ true

formed_members : (reads : ReadsCodecs) (ms : Members) (m : Metadata) → read_members reads ms ≡ Ok m → IsFormed m.document
formed_members reads ms m h =
    let found = bind_ok (fields_in ms) _ m h in
    let f = found.0 in
    let chain = bind_ok (ok_or (codecs_in reads f.codecs) _) _ m (then_ok _ _ m found.2) in
    let type = bind_ok (ok_or (data_type_in f.data_type) _) _ m chain.2 in
    let configuration = bind_ok (ok_or (configuration_in f.chunk_grid) _) _ m type.2 in
    let grid = bind_ok (ok_or (grid_in f.shape configuration.0) _) _ m (then_ok _ _ m configuration.2) in
    let fill = bind_ok (ok_or (fill_in type.0 f.fill_value) _) _ m grid.2 in
    let keys = bind_ok (ok_or (keys_in f.chunk_key_encoding) _) _ m (then_ok _ _ m fill.2) in
    let names = bind_ok (ok_or (dimension_names_in (length f.shape) (get_member (codes "dimension_names") ms)) _) _ m keys.2 in
    let is = sym (ok_same _ m names.2) in
    record {
      grid = ap (λ (x : Metadata). are_dimensions x.document.grid) is ∙ made_dimensions f.shape configuration.0 grid.0 (ok_some (grid_in f.shape configuration.0) _ grid.0 grid.1);
      keys = ap (λ (x : Metadata). has_separator x.document.keys) is ∙ has_separator-in f.chunk_key_encoding keys.0 (ok_some (keys_in f.chunk_key_encoding) _ keys.0 keys.1);
    }

pub formed : (reads : ReadsCodecs) (d : Data) (document : Document) → read_document reads d ≡ Ok document → IsFormed document
formed reads d document h =
    let whole = bind_ok (read_metadata reads d) _ document h in
    let members = bind_ok (ok_or (as_object d) _) _ whole.0 (then_ok _ _ whole.0 (then_ok _ _ whole.0 whole.1)) in
    let is = ok_same whole.0.document document whole.2 in
    let version_3 = bind_ok (version_3_of members.0) _ whole.0 members.2 in
    subst IsFormed is (formed_members reads version_3.0 whole.0 version_3.2)
