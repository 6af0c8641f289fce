-- The version 3 document of a version 2 document, field by field.
use Rattle.std.proofs.Common.{◌≡◌, Option, Some, None, option_map, codes, subst, refl}
use Rattle.serde_json.specs.Data.{Data, Members}
use Rattle.serde_json.specs.Find.{get_member}
use Rattle.zarr_array_v2.specs.Attributes.{with_attributes}
use Rattle.zarr_array_v2.specs.Conversion.{v3_fields, to_v3}
use Rattle.zarr_array_v2.specs.Fields.{Fields, fields_in}
use Rattle.zarr_array_v2.specs.Laws.{IsConverted}

converted : (f : Fields) (a : Option Data) → IsConverted f a (with_attributes a (v3_fields f))
converted f None = record { zarr_format = refl; node_type = refl; shape = refl; data_type = refl; chunk_grid = refl; chunk_key_encoding = refl; fill_value = refl; codecs = refl; attributes = refl; no_other = refl }
converted f (Some d) = record { zarr_format = refl; node_type = refl; shape = refl; data_type = refl; chunk_grid = refl; chunk_key_encoding = refl; fill_value = refl; codecs = refl; attributes = refl; no_other = refl }

converts_at : (o : Option Fields) (a : Option Data) (c : Members) → option_map (λ f. with_attributes a (v3_fields f)) o ≡ Some c → (f : Fields) × (o ≡ Some f) × IsConverted f a c
converts_at None a c is = absurd (cc)
converts_at (Some f) a c is =
    let e : with_attributes a (v3_fields f) ≡ c = cc in
    (f, refl, subst (λ (m : Members). IsConverted f a m) e (converted f a))

pub converts : (ms c : Members) → to_v3 ms ≡ Some c → (f : Fields) × (fields_in ms ≡ Some f) × IsConverted f (get_member (codes "attributes") ms) c
converts ms c is = converts_at (fields_in ms) (get_member (codes "attributes") ms) c is
