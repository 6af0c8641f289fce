-- What the fields that `src/` finds stand for.
use Rattle.serde_json.specs.Data.{Members}
use Rattle.serde_json.specs.View.{view}
use Rattle.zarr_array_meaning.specs.Documents.{FieldsFound}
use Rattle.zarr_array_fields.specs.declared.fields.RequiredFields.{RequiredFields}

-- the fields that every document has, with these attributes
abbrev pub fields_view : RequiredFields → Members → FieldsFound
fields_view f attributes = record { shape = f.shape.items; data_type = view f.data_type.now; chunk_grid = view f.chunk_grid.now; chunk_key_encoding = view f.chunk_key_encoding.now; fill_value = view f.fill_value.now; codecs = view f.codecs.now; attributes = attributes }
