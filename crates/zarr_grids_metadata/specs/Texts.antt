-- Extension points in JSON texts.
use Rattle.std.specs.Prelude.{ℕ, List, option_and_then, ok_or, Result}
use Rattle.serde_json.specs.Read.{read}
use Rattle.zarr_grids_metadata.specs.declared.error.PluginCreateError.{PluginCreateError}
use Rattle.zarr_grids_metadata.specs.declared.error.PluginCreateError.TheVariants.{MetadataInvalid}
use Rattle.zarr_grids_metadata.specs.ExtensionPoints.{ExtensionPoint, extension_point}

-- the extension point that a JSON text is; another text is refused
abbrev pub point_in_text : List ℕ → Result ExtensionPoint PluginCreateError
point_in_text text = ok_or (option_and_then extension_point (read text)) MetadataInvalid
