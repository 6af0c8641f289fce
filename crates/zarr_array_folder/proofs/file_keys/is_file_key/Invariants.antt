use Rattle.std.proofs.Common.{◌≡◌, length}
use denote.Text.{Utf8}
use denote.Shadow.{shadow}
use Rattle.zarr_array_folder.specs.FileKeys.{is_file_key}
use Rattle.zarr_array_folder.proofs.file_keys.is_file_key.Given as goal

-- what is left decides as the whole key does
abbrev pub invariant-loop-part : goal.invariant-loop-part
invariant-loop-part l = shadow (Utf8 l.rest) × (is_file_key l.rest ≡ is_file_key l.key)

abbrev pub decreases-loop-part : goal.decreases-loop-part
decreases-loop-part l = length l.rest
