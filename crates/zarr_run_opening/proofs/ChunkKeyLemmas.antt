-- The chunk whose key a text is.
use Rattle.std.proofs.Common.{◌≡◌, ◌∙◌, ℕ, ◌+◌, ◌-◌, ◌<◌, ◌≤◌, true, false, cond, IsTrue, List, [], ◌∷◌, ◌++◌, length, take, drop, refl, sym, ap, subst, arith, codes, append_assoc, length-append, bytes_eq, ◌↔◌, Bool, Some, None, Result, Ok, Err}
use Rattle.std.specs.Result.{IfOk}
use Rattle.std.proofs.lemmas.Bool.{false≢true}
use Rattle.std.proofs.lemmas.Option.{none-some, same_Some}
use Rattle.zarr_grids_boxes.specs.Boxes.{Region, IsSmall}
use Rattle.zarr_grids_keys.specs.Keys.{suffixed, numbers_after, default_key, chunk_key, has_separator, is_separator, has_flat_suffix}
use Rattle.zarr_grids_keys.specs.Documents.{document_key}
use Rattle.zarr_grids_keys.specs.Encodings.{keys_of, suffixed_keys, encoding_separator, encoding_suffix}
use Rattle.zarr_grids_keys.specs.Paths.{is_node_path}
use Rattle.zarr_grids_keys.specs.Related.{parent_path}
use Rattle.zarr_grids_keys.specs.Separators.{separator_byte}
use Rattle.zarr_grids_keys.specs.declared.document_name.DocumentName.{DocumentName}
use Rattle.zarr_grids_keys.specs.declared.default_suffix_encoding.DefaultSuffixChunkKeyEncoding.{DefaultSuffixChunkKeyEncoding}
use Rattle.zarr_grids_keys.specs.declared.encoding.ChunkKeyEncoding.{ChunkKeyEncoding}
use Rattle.zarr_grids_keys.specs.declared.encoding.ChunkKeyEncoding.TheVariants.{Default, V2, DefaultSuffix}
use Rattle.zarr_grids_keys.specs.declared.separator.ChunkKeySeparator.{ChunkKeySeparator}
use Rattle.zarr_grids_keys.specs.declared.separator.ChunkKeySeparator.TheVariants.{Slash, Dot}
use Rattle.zarr_grids_keys.proofs.DocumentsUnder.{chunk_key-document_under}
use Rattle.zarr_grids_keys.proofs.HeadLemmas.{chunk_key-no_document}
use Rattle.zarr_grids_chunks.specs.Grids.{Grid, IsInGrid}
use Rattle.zarr_grids_chunk_grids.specs.Grids.{grid_of_chunks}
use Rattle.zarr_grids_chunk_grids.specs.declared.chunk_grid.ChunkGrid.{ChunkGrid}
use Rattle.zarr_array_core.proofs.ChunkBoxes.{box_of_chunk}
use Rattle.zarr_array_meaning.specs.Documents.{Document}
use Rattle.zarr_codecs_meaning.specs.Chains.{ByteCodec}
use Rattle.zarr_run_meaning.specs.Causes.{IsChunkKey}
use Rattle.zarr_run_opening.specs.ChunkKeys.{IsChunkKeyAt, IsChunkKeyOf, IsDocumentKey, length_above}
use Rattle.zarr_run_opening.specs.Sessions.{Arrays, array_at, document_of}
use Rattle.zarr_run_opening.specs.declared.held.HeldArray.{HeldArray}
use Rattle.zarr_run_opening.proofs.TakenLemmas.{IsReachedFrom, none_above}

-- what stands before the numbers of a chunk's key
abbrev pub front : List ℕ → List ℕ
front path = cond (bytes_eq path (codes "/")) (codes "c") (drop 1 path ++ 47 ∷ codes "c")

key_parts : (path : List ℕ) (separator : ℕ) (suffix chunk : List ℕ) → chunk_key path (suffixed separator suffix) chunk ≡ front path ++ (numbers_after separator chunk ++ suffix)
key_parts path separator suffix chunk =
    let name = default_key separator chunk ++ suffix in
    elim (bytes_eq path (codes "/")) as (λ b. cond b name (drop 1 path ++ 47 ∷ name) ≡ cond b (codes "c") (drop 1 path ++ 47 ∷ codes "c") ++ (numbers_after separator chunk ++ suffix)) [
      | true ↦ refl
      | false ↦ sym (append_assoc (drop 1 path) (47 ∷ codes "c") (numbers_after separator chunk ++ suffix))
    ]

some_node : (path : List ℕ) → IsTrue (is_node_path path) → 0 < length path
some_node [] node = absurd (false≢true node)
some_node (x ∷ xs) node = omega arith

length-front : (path : List ℕ) → IsTrue (is_node_path path) → length (front path) ≡ length_above path + 1
length-front path node =
    elim (bytes_eq path (codes "/")) as (λ b. length (cond b (codes "c") (drop 1 path ++ 47 ∷ codes "c")) ≡ cond b 0 (length path) + 1) [
      | true ↦ refl
      | false ↦ go path (some_node path node)
    ] where
      go : (p : List ℕ) → 0 < length p → length (drop 1 p ++ 47 ∷ codes "c") ≡ length p + 1
      go [] h = absurd (omega arith)
      go (x ∷ xs) h = omega (arith, length-append xs (47 ∷ codes "c"))

drop_front : (xs ys : List ℕ) → drop (length xs) (xs ++ ys) ≡ ys
drop_front [] ys = refl
drop_front (x ∷ xs) ys = drop_front xs ys

take_front : (xs ys : List ℕ) → take (length xs) (xs ++ ys) ≡ xs
take_front [] ys = refl
take_front (x ∷ xs) ys = ap (λ zs. x ∷ zs) (take_front xs ys)

-- what stands between the front and the end of a text
between : (xs ys zs : List ℕ) (first end : ℕ) → first ≡ length xs → end ≡ length xs + length ys → take (end - first) (drop first (xs ++ (ys ++ zs))) ≡ ys
between xs ys zs first end e f =
    ap (λ n. take (end - first) (drop n (xs ++ (ys ++ zs)))) e
    ∙ ap (take (end - first)) (drop_front xs (ys ++ zs))
    ∙ ap (λ n. take n (ys ++ zs)) (omega (arith, e, f))
    ∙ take_front ys zs

module _ (path key : List ℕ) (separator : ℕ) (suffix chunk : List ℕ) (node : IsTrue (is_node_path path)) (same : key ≡ chunk_key path (suffixed separator suffix) chunk) where
  is : key ≡ front path ++ (numbers_after separator chunk ++ suffix)
  is = same ∙ key_parts path separator suffix chunk

  long : length key ≡ length_above path + 1 + length (numbers_after separator chunk) + length suffix
  long = ap length is ∙ omega (arith, length-append (front path) (numbers_after separator chunk ++ suffix), length-append (numbers_after separator chunk) suffix, length-front path node)

-- a text without room for a separator is the key of no chunk but that of no dimension
pub no_numbers : (path key : List ℕ) (separator : ℕ) (suffix chunk : List ℕ) → IsTrue (is_node_path path) → length key - length suffix < length_above path + 2 → key ≡ chunk_key path (suffixed separator suffix) chunk → chunk ≡ []
no_numbers path key separator suffix [] node short same = refl
no_numbers path key separator suffix (n ∷ ns) node short same = let l = long path key separator suffix (n ∷ ns) node same in absurd (omega (arith, short, l))

-- else the numbers stand between the front and the suffix
pub numbers_between : (path key : List ℕ) (separator : ℕ) (suffix chunk : List ℕ) → IsTrue (is_node_path path) → length_above path + 2 ≤ length key - length suffix → key ≡ chunk_key path (suffixed separator suffix) chunk
    → separator ∷ take (length key - length suffix - (length_above path + 2)) (drop (length_above path + 2) key) ≡ numbers_after separator chunk
numbers_between path key separator suffix [] node enough same = let l = long path key separator suffix [] node same in absurd (omega (arith, enough, l))
numbers_between path key separator suffix (n ∷ ns) node enough same = go (numbers_after separator (n ∷ ns)) refl where
  go : (m : List ℕ) → numbers_after separator (n ∷ ns) ≡ m → separator ∷ take (length key - length suffix - (length_above path + 2)) (drop (length_above path + 2) key) ≡ m
  go [] e = absurd (cc)
  go (x ∷ xs) e =
      let first : separator ≡ x = cc in
      let l = long path key separator suffix (n ∷ ns) node same in
      let m : length (numbers_after separator (n ∷ ns)) ≡ 1 + length xs = ap length e ∙ omega arith in
      let f = length-front path node in
      let parts : key ≡ (front path ++ x ∷ []) ++ (xs ++ suffix) = is path key separator suffix (n ∷ ns) node same ∙ ap (λ m. front path ++ (m ++ suffix)) e ∙ sym (append_assoc (front path) (x ∷ []) (xs ++ suffix)) in
      let g : length (front path ++ x ∷ []) ≡ length_above path + 2 = length-append (front path) (x ∷ []) ∙ omega (arith, f) in
      ap (λ z. z ∷ take (length key - length suffix - (length_above path + 2)) (drop (length_above path + 2) key)) first
      ∙ ap (λ t. x ∷ t) (ap (λ k. take (length key - length suffix - (length_above path + 2)) (drop (length_above path + 2) k)) parts ∙ between (front path ++ x ∷ []) xs suffix (length_above path + 2) (length key - length suffix) (sym g) (omega (arith, g, l, m)))

-- ---- the separators of keys
slash_or_dot : (separator : ChunkKeySeparator) → IsTrue (is_separator (separator_byte separator))
slash_or_dot Slash = refl
slash_or_dot Dot = refl

separated : (keys : ChunkKeyEncoding) → IsTrue (has_separator (keys_of keys))
separated (Default encoding) = slash_or_dot encoding.separator
separated (V2 encoding) = slash_or_dot encoding.separator
separated (DefaultSuffix encoding) = slash_or_dot encoding.separator

pub below_digits : (separator : ChunkKeySeparator) → separator_byte separator < 48
below_digits Slash = omega arith
below_digits Dot = omega arith

-- ---- a key of a document and an array
-- where no suffix holds a slash it is no chunk's
pub no_flat : (path key : List ℕ) (document : Document) (keys : ChunkKeyEncoding) → keys_of keys ≡ document.keys → has_flat_suffix (keys_of keys) ≡ true → IsDocumentKey key → IsChunkKey path document key → ⊥
no_flat path key document keys same flat d k =
    chunk_key-no_document path d.0 (keys_of keys) k.chunk d.2.0 flat (separated keys) (ap (λ e. chunk_key path e k.chunk) same ∙ sym k.is ∙ d.2.1)

module _ (path key : List ℕ) (document : Document) (keys : ChunkKeyEncoding) (encoding : DefaultSuffixChunkKeyEncoding) (grid : ChunkGrid) (found : List ℕ) (lies : grid_of_chunks grid ≡ document.grid) (same : keys_of keys ≡ document.keys) (is_suffixed : keys ≡ DefaultSuffix encoding)
    (only : (chunk : List ℕ) → IsSmall chunk → key ≡ chunk_key path (suffixed_keys encoding) chunk → found ≡ chunk) where
  -- the chunk that is found is the one whose key it is
  found_same : (k : IsChunkKey path document key) → found ≡ k.chunk
  found_same k =
      let P : Grid → Type 0 = λ g. IsInGrid g k.chunk k.box in
      let within : IsInGrid (grid_of_chunks grid) k.chunk k.box = subst P (sym lies) k.within in
      only k.chunk (box_of_chunk grid k.chunk k.box within.has_box).small (k.is ∙ ap (λ e. chunk_key path e k.chunk) (sym same ∙ ap keys_of is_suffixed))

  -- it lies in the grid
  pub found_within : IsChunkKey path document key → (box : Region) × IsInGrid document.grid found box
  found_within k = let P : List ℕ → Type 0 = λ c. IsInGrid document.grid c k.box in (k.box, subst P (sym (found_same k)) k.within)

  pub found_key : IsChunkKey path document key → chunk_key path (keys_of keys) found ≡ key
  found_key k = ap (chunk_key path (keys_of keys)) (found_same k) ∙ ap (λ e. chunk_key path e k.chunk) same ∙ sym k.is

  pub is_found : (box : Region) × IsInGrid document.grid found box → chunk_key path (keys_of keys) found ≡ key → IsChunkKey path document key
  is_found b e = record { chunk = found; box = b.0; within = b.1; is = sym e ∙ ap (λ e. chunk_key path e found) same }

-- ---- a key of a document and the arrays that are held
module _ {B : Type 0} (meaning : B → ByteCodec) (arrays : Arrays B) (key path : List ℕ) where
  pub none_at : None ≡ array_at arrays path → IsChunkKeyAt meaning arrays key path → ⊥
  none_at e c = none-some c.array (e ∙ c.found)

  pub at_array : (array : HeldArray B) → Some array ≡ array_at arrays path → IsChunkKeyAt meaning arrays key path → IsChunkKey path (document_of meaning array) key
  at_array array e c = let P : HeldArray B → Type 0 = λ a. IsChunkKey path (document_of meaning a) key in subst P (sym (same_Some array c.array (e ∙ c.found))) c.names

  pub array_names : (array : HeldArray B) → Some array ≡ array_at arrays path → IsChunkKey path (document_of meaning array) key → IsChunkKeyAt meaning arrays key path
  array_names array e k = record { array = array; found = sym e; names = k }

-- where no parent is left, it is the key of no chunk
pub none_left : {B : Type 0} (meaning : B → ByteCodec) (arrays : Arrays B) (key path lower : List ℕ) (name : DocumentName) → IsTrue (is_node_path path) → key ≡ document_key path name → IsReachedFrom (IsChunkKeyAt meaning arrays key) path lower → parent_path lower ≡ None → IsChunkKeyOf meaning arrays (document_key path name) → ⊥
none_left {B} meaning arrays key path lower name node same r e c =
    let P : List ℕ → Type 0 = λ k. IsChunkKeyAt meaning arrays k c.path in
    let k = c.at.names in
    let under = chunk_key-document_under c.path path (keys_of c.at.array.core.keys) k.chunk name c.node node (separated c.at.array.core.keys) (sym k.is) in
    false≢true (sym (none_above (IsChunkKeyAt meaning arrays key) path lower r e c.path c.node (subst P (sym same) c.at)) ∙ under.0)

-- the answer for an array is that for its path
pub array_answers : {B E : Type 0} (meaning : B → ByteCodec) (arrays : Arrays B) (key path : List ℕ) (array : HeldArray B) (r : Result Bool E) → Some array ≡ array_at arrays path → IfOk r (λ b. IsTrue b ↔ IsChunkKey path (document_of meaning array) key) → IfOk r (λ b. IsTrue b ↔ IsChunkKeyAt meaning arrays key path)
array_answers meaning arrays key path array (Ok b) e h = (λ t. array_names meaning arrays key path array e (h.0 t), λ k. h.1 (at_array meaning arrays key path array e k))
array_answers meaning arrays key path array (Err f) e h = tt

-- the numbers that are read are those of the chunk whose key a text is
pub numbers_answer : {A E : Type 0} (items : A → List ℕ) (path key : List ℕ) (encoding : DefaultSuffixChunkKeyEncoding) (separator : ChunkKeySeparator) (suffix text : List ℕ) (start end : ℕ) (r : Result A E) → IsTrue (is_node_path path) → separator ≡ encoding_separator encoding → suffix ≡ encoding_suffix encoding
    → start ≡ length_above path → end ≡ length key - length suffix → 2 ≤ end - start → text ≡ take (end - (start + 2)) (drop (start + 2) key)
    → IfOk r (λ found. (chunk : List ℕ) → IsSmall chunk → separator_byte separator ∷ text ≡ numbers_after (separator_byte separator) chunk → items found ≡ chunk)
    → IfOk r (λ found. (chunk : List ℕ) → IsSmall chunk → key ≡ chunk_key path (suffixed_keys encoding) chunk → items found ≡ chunk)
numbers_answer items path key encoding separator suffix text start end (Err f) node s x first last enough at h = tt
numbers_answer items path key encoding separator suffix text start end (Ok found) node s x first last enough at h = λ chunk small e.
    let same : suffixed_keys encoding ≡ suffixed (separator_byte separator) suffix = ap (λ z. suffixed (separator_byte z) (encoding_suffix encoding)) (sym s) ∙ ap (suffixed (separator_byte separator)) (sym x) in
    let is : key ≡ chunk_key path (suffixed (separator_byte separator) suffix) chunk = e ∙ ap (λ k. chunk_key path k chunk) same in
    let room : length_above path + 2 ≤ length key - length suffix = omega (arith, enough, first, last) in
    h chunk small (ap (λ t. separator_byte separator ∷ t) (at ∙ ap (λ n. take (n - (start + 2)) (drop (start + 2) key)) last ∙ ap (λ n. take (length key - length suffix - (n + 2)) (drop (n + 2) key)) first) ∙ numbers_between path key (separator_byte separator) suffix chunk node room is)
