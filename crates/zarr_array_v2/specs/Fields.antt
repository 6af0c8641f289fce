-- The fields of a version 2 document (Zarr storage specification version 2, "Metadata").
use Rattle.std.specs.Prelude.{ℕ, List, codes, bytes_eq, if◌then◌else◌, Option, Some, None, option_and_then}
use Rattle.serde_json.specs.Data.{Data, Members}
use Rattle.serde_json.specs.Find.{get_member, as_str}
use Rattle.zarr_array_v2.specs.declared.fields.Order.{Order}
use Rattle.zarr_array_v2.specs.declared.fields.Order.TheVariants.{C, F}

-- the fields of a version 2 document, but for its attributes
pub record Fields : Type 0 where
  pub shape : Data
  pub chunks : Data
  pub dtype : Data
  pub fill_value : Data
  pub order : Order
  pub filters : Data
  pub compressor : Data
  pub dimension_separator : Option Data

infixl 10 ◌>>=◌
-- what follows a field that is there
abbrev pub ◌>>=◌ : {A B : Type 0} → Option A → (A → Option B) → Option B
(Some x) >>= f = f x
None >>= f = None

-- the order that a text names
abbrev pub order_named : List ℕ → Option Order
order_named name = if bytes_eq name (codes "C") then Some C else (if bytes_eq name (codes "F") then Some F else None)

-- the order that the member `order` gives
abbrev pub order_in : Data → Option Order
order_in d = option_and_then order_named (as_str d)

-- the fields of an object: all but `dimension_separator` are there, and the order is C or F
abbrev pub fields_in : Members → Option Fields
fields_in ms = do
  shape ← get_member (codes "shape") ms
  chunks ← get_member (codes "chunks") ms
  dtype ← get_member (codes "dtype") ms
  fill_value ← get_member (codes "fill_value") ms
  order ← option_and_then order_in (get_member (codes "order") ms)
  filters ← get_member (codes "filters") ms
  compressor ← get_member (codes "compressor") ms
  Some (record { shape = shape; chunks = chunks; dtype = dtype; fill_value = fill_value; order = order; filters = filters; compressor = compressor; dimension_separator = get_member (codes "dimension_separator") ms })
