-- The fields of a version 2 document, by their names.
use Rattle.std.proofs.Common.{◌≡◌, ℕ, List, codes, bytes_eq, true, Option, Some, None, option_and_then, subst, refl}
use Rattle.std.specs.List.{list_any}
use Rattle.serde_json.specs.Data.{Data, Members}
use Rattle.serde_json.specs.Find.{get_member}
use Rattle.zarr_array_v2.specs.Fields.{Fields, ◌>>=◌, order_in, fields_in}
use Rattle.zarr_array_v2.specs.Laws.{IsReadFrom, field_names}
use Rattle.zarr_array_v2.specs.declared.fields.Order.{Order}

-- the fields that are made of what stands at their names
abbrev pub fields_at : (shape chunks dtype fill_value : Option Data) (order : Option Order) (filters compressor separator : Option Data) → Option Fields
fields_at shape chunks dtype fill_value order filters compressor separator = do
  s ← shape
  c ← chunks
  d ← dtype
  v ← fill_value
  o ← order
  fs ← filters
  k ← compressor
  Some (record { shape = s; chunks = c; dtype = d; fill_value = v; order = o; filters = fs; compressor = k; dimension_separator = separator })

record IsMade (f : Fields) (shape chunks dtype fill_value : Option Data) (order : Option Order) (filters compressor separator : Option Data) : Type 0 where
  shape_is : shape ≡ Some f.shape
  chunks_is : chunks ≡ Some f.chunks
  dtype_is : dtype ≡ Some f.dtype
  fill_is : fill_value ≡ Some f.fill_value
  order_is : order ≡ Some f.order
  filters_is : filters ≡ Some f.filters
  compressor_is : compressor ≡ Some f.compressor
  separator_is : separator ≡ f.dimension_separator

made : (shape chunks dtype fill_value : Option Data) (order : Option Order) (filters compressor separator : Option Data) (f : Fields)
    → fields_at shape chunks dtype fill_value order filters compressor separator ≡ Some f → IsMade f shape chunks dtype fill_value order filters compressor separator
made None c d v o fs k sep f is = absurd (cc)
made (Some s) None d v o fs k sep f is = absurd (cc)
made (Some s) (Some c) None v o fs k sep f is = absurd (cc)
made (Some s) (Some c) (Some d) None o fs k sep f is = absurd (cc)
made (Some s) (Some c) (Some d) (Some v) None fs k sep f is = absurd (cc)
made (Some s) (Some c) (Some d) (Some v) (Some o) None k sep f is = absurd (cc)
made (Some s) (Some c) (Some d) (Some v) (Some o) (Some fs) None sep f is = absurd (cc)
made (Some s) (Some c) (Some d) (Some v) (Some o) (Some fs) (Some k) sep f is =
    let g : Fields = record { shape = s; chunks = c; dtype = d; fill_value = v; order = o; filters = fs; compressor = k; dimension_separator = sep } in
    let e : g ≡ f = cc in
    subst (λ (h : Fields). IsMade h (Some s) (Some c) (Some d) (Some v) (Some o) (Some fs) (Some k) sep) e
    (record { shape_is = refl; chunks_is = refl; dtype_is = refl; fill_is = refl; order_is = refl; filters_is = refl; compressor_is = refl; separator_is = refl })

pub reads : (ms : Members) (f : Fields) → fields_in ms ≡ Some f → IsReadFrom ms f
reads ms f is =
    let m = made (get_member (codes "shape") ms) (get_member (codes "chunks") ms) (get_member (codes "dtype") ms) (get_member (codes "fill_value") ms) (option_and_then order_in (get_member (codes "order") ms)) (get_member (codes "filters") ms)
    (get_member (codes "compressor") ms) (get_member (codes "dimension_separator") ms) f is in
    record { shape = m.shape_is; chunks = m.chunks_is; dtype = m.dtype_is; fill_value = m.fill_is; order = m.order_is; filters = m.filters_is; compressor = m.compressor_is; dimension_separator = m.separator_is }

pub same_fields : (ms others : Members) → ((name : List ℕ) → list_any (bytes_eq name) field_names ≡ true → get_member name ms ≡ get_member name others) → fields_in ms ≡ fields_in others
same_fields ms others h =
    rw (h (codes "shape") refl, h (codes "chunks") refl, h (codes "dtype") refl, h (codes "fill_value") refl, h (codes "order") refl, h (codes "filters") refl, h (codes "compressor") refl, h (codes "dimension_separator") refl)
