-- Worked examples of version 2 documents, and the version 3 documents that say the same.
use Rattle.std.specs.Prelude.{◌≡◌, ℕ, List, [], ◌∷◌, codes, true, false, Option, Some, None, option_and_then}
use Rattle.serde_json.specs.Data.{Data, null, boolean, number, unsigned, string, array, object, Items, no_items, item, Members, no_members, member, put}
use Rattle.serde_json.specs.Find.{get_member}
use Rattle.zarr_array_v2.specs.Conversion.{to_v3}

-- whole numbers as a list
abbrev pub numbers : List ℕ → Items
numbers [] = no_items
numbers (n ∷ ns) = item (number (unsigned n)) (numbers ns)

-- an extension point that has a configuration of one field
abbrev pub configured_by : List ℕ → List ℕ → Data → Data
configured_by name field d = object (member (codes "configuration") (object (member field d no_members)) (member (codes "name") (string name) no_members))

-- an array of 2 by 2 numbers of two bytes, in the order F
abbrev pub order_f : Members
order_f =
    member (codes "chunks") (array (numbers (2 ∷ 2 ∷ [])))
    (member (codes "compressor") null
    (member (codes "dtype") (string (codes "<i2"))
    (member (codes "fill_value") (number (unsigned 0))
    (member (codes "filters") null
    (member (codes "order") (string (codes "F"))
    (member (codes "shape") (array (numbers (2 ∷ 2 ∷ [])))
    (member (codes "zarr_format") (number (unsigned 2)) no_members)))))))

-- its version 3 document
abbrev pub order_f_v3 : Members
order_f_v3 =
    member (codes "chunk_grid") (configured_by (codes "regular") (codes "chunk_shape") (array (numbers (2 ∷ 2 ∷ []))))
    (member (codes "chunk_key_encoding") (configured_by (codes "v2") (codes "separator") (string (codes ".")))
    (member (codes "codecs") (array (item (configured_by (codes "transpose") (codes "order") (array (numbers (1 ∷ 0 ∷ []))))
    (item (configured_by (codes "bytes") (codes "endian") (string (codes "little"))) no_items)))
    (member (codes "data_type") (string (codes "int16"))
    (member (codes "fill_value") (number (unsigned 0))
    (member (codes "node_type") (string (codes "array"))
    (member (codes "shape") (array (numbers (2 ∷ 2 ∷ [])))
    (member (codes "zarr_format") (number (unsigned 3)) no_members)))))))

-- a codec with an `id` and one other member
abbrev pub codec_by : List ℕ → List ℕ → Data → Data
codec_by id field d = object (put field d (put (codes "id") (string id) no_members))

-- big numbers under slashes, in the order C, with two filters, a compressor, attributes and a field that isn't known
abbrev pub filtered : Members
filtered =
    put (codes "attributes") (object (member (codes "units") (string (codes "m")) no_members))
    (put (codes "order") (string (codes "C"))
    (put (codes "dtype") (string (codes ">u4"))
    (put (codes "dimension_separator") (string (codes "/"))
    (put (codes "written_by") (string (codes "hand"))
    (put (codes "filters") (array (item (codec_by (codes "x-first") (codes "level") (number (unsigned 1))) (item (object (member (codes "id") (string (codes "x-second")) no_members)) no_items)))
    (put (codes "compressor") (codec_by (codes "x-last") (codes "a") null) order_f))))))

-- its version 3 document: the field that isn't known is left out
abbrev pub filtered_v3 : Members
filtered_v3 =
    put (codes "attributes") (object (member (codes "units") (string (codes "m")) no_members))
    (put (codes "data_type") (string (codes "uint32"))
    (put (codes "chunk_key_encoding") (configured_by (codes "v2") (codes "separator") (string (codes "/")))
    (put (codes "codecs") (array
    (item (configured_by (codes "bytes") (codes "endian") (string (codes "big")))
    (item (configured_by (codes "x-first") (codes "level") (number (unsigned 1)))
    (item (string (codes "x-second")) (item (configured_by (codes "x-last") (codes "a") null) no_items))))) order_f_v3)))

-- the first document with another dtype and fill value
abbrev pub with_fill : List ℕ → Data → Members
with_fill dtype fill_value = put (codes "dtype") (string dtype) (put (codes "fill_value") fill_value order_f)

-- a field of the version 3 document
abbrev pub v3_field : List ℕ → Members → Option Data
v3_field name ms = option_and_then (get_member name) (to_v3 ms)

-- fill values: null, and for booleans 0 and 1; another stays
pub record FillRows : Type 0 where
  pub null_is_zero : v3_field (codes "fill_value") (with_fill (codes "|i1") null) ≡ Some (number (unsigned 0))
  pub null_is_false : v3_field (codes "fill_value") (with_fill (codes "|b1") null) ≡ Some (boolean false)
  pub zero_is_false : v3_field (codes "fill_value") (with_fill (codes "|b1") (number (unsigned 0))) ≡ Some (boolean false)
  pub one_is_true : v3_field (codes "fill_value") (with_fill (codes "|b1") (number (unsigned 1))) ≡ Some (boolean true)
  pub two_stays : v3_field (codes "fill_value") (with_fill (codes "|b1") (number (unsigned 2))) ≡ Some (number (unsigned 2))
  pub one_stays : v3_field (codes "fill_value") (with_fill (codes ">i8") (number (unsigned 1))) ≡ Some (number (unsigned 1))

-- the first document with these filters
abbrev pub with_filters : Data → Members
with_filters filters = put (codes "order") (string (codes "C")) (put (codes "filters") filters order_f)

-- the codecs of the version 3 document, where one more follows `bytes`
abbrev pub with_last : Data → Option Data
with_last d = Some (array (item (configured_by (codes "bytes") (codes "endian") (string (codes "little"))) (item d no_items)))

-- what can't be said in version 3: no document, or null in the place of a data type or a codec
pub record RefusalRows : Type 0 where
  pub no_chunks : to_v3 (member (codes "shape") (array no_items) no_members) ≡ None
  pub other_order : to_v3 (put (codes "order") (string (codes "A")) order_f) ≡ None
  pub unknown_dtype : v3_field (codes "data_type") (with_fill (codes "<f4") null) ≡ Some null
  pub marked_bool : v3_field (codes "data_type") (with_fill (codes "<b1") null) ≡ Some null
  pub unmarked_number : v3_field (codes "data_type") (with_fill (codes "|i2") null) ≡ Some null
  pub text_filter : v3_field (codes "codecs") (with_filters (array (item (string (codes "x-reverse")) no_items))) ≡ with_last null
  pub named_filter : v3_field (codes "codecs") (with_filters (array (item (object (member (codes "name") (string (codes "x-reverse")) no_members)) no_items))) ≡ with_last null
  pub no_list : v3_field (codes "codecs") (with_filters (string (codes "x-reverse"))) ≡ with_last null
  pub empty_list : v3_field (codes "codecs") (with_filters (array no_items)) ≡ v3_field (codes "codecs") (with_filters null)

-- whole documents
pub record DocumentRows : Type 0 where
  pub in_order_f : to_v3 order_f ≡ Some order_f_v3
  pub with_codecs : to_v3 filtered ≡ Some filtered_v3
