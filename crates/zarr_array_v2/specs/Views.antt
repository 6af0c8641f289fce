-- What the types of `src/` stand for.
use Rattle.std.specs.Prelude.{option_map}
use Rattle.serde_json.specs.View.{view}
use Rattle.zarr_array_v2.specs.Dtypes as dtypes
use Rattle.zarr_array_v2.specs.Fields as fields
use Rattle.zarr_array_v2.specs.declared.dtypes.Dtype.{Dtype}
use Rattle.zarr_array_v2.specs.declared.fields.Fields.{Fields}

-- what a dtype says
abbrev pub dtype_of : Dtype → dtypes.Dtype
dtype_of t = record { data_type = t.data_type.now; endian = option_map (λ e. e.now) t.endian }

-- the fields of a version 2 document, but for its attributes
abbrev pub fields_of : Fields → fields.Fields
fields_of f = record { shape = view f.shape.now; chunks = view f.chunks.now; dtype = view f.dtype.now; fill_value = view f.fill_value.now; order = f.order; filters = view f.filters.now; compressor = view f.compressor.now; dimension_separator = option_map (λ v. view v.now) f.dimension_separator }
