-- What a version 2 document is converted to says what it says.
use Rattle.std.proofs.Common.{◌≡◌, ◌≤◌, Bool, true, false, not, nat_le, Some, Result, Ok, refl, sym, ap, ◌∙◌}
use Rattle.std.specs.Option.{ok_or, option_map_or}
use Rattle.std.proofs.lemmas.Bool.{le-leb, not_from_false}
use Rattle.serde_json.specs.Data.{object, Members, depth}
use Rattle.serde_json.specs.Written.{has_float}
use Rattle.zarr_codecs_metadata.specs.Chains.{ReadsCodecs}
use Rattle.zarr_array_v2.specs.Conversion.{to_v3}
use Rattle.zarr_array_v2.specs.Dtypes.{is_number}
use Rattle.zarr_array_v2.specs.Versions.{has_version_2}
use Rattle.zarr_array_v2.proofs.Converted.{converts}
use Rattle.zarr_array_meaning.specs.Documents.{Metadata, depth_limit, read_members, version_3_of, read_metadata}
use Rattle.zarr_array_meaning.specs.declared.error.DocumentError.{DocumentError}
use Rattle.zarr_array_meaning.specs.declared.error.DocumentError.TheVariants.{Fields}
use Rattle.zarr_array_meaning.proofs.ConvertedFloats.{converted_float}
use Rattle.zarr_array_meaning.proofs.ReadsBack.{all_checks, version_3_of-2, version_3_of-3}

passes : (shallow exact : Bool) (members : Result Members DocumentError) (c : Members) (rest : Members → Result Metadata DocumentError)
    → shallow ≡ true → exact ≡ true → members ≡ Ok c → all_checks shallow exact members rest ≡ rest c
passes shallow exact members c rest p q r = rw (p, q, r) refl

-- what was converted is of version 3
pub converted_version : (ms converted : Members) → to_v3 ms ≡ Some converted → has_version_2 converted ≡ false
converted_version ms converted made = ap (λ o. option_map_or (is_number 2) o false) (converts ms converted made).2.zarr_format

pub converted_says_same : (reads : ReadsCodecs) (ms converted : Members) → has_version_2 ms ≡ true → to_v3 ms ≡ Some converted → has_float (object ms) ≡ false
    → depth (object ms) ≤ depth_limit → depth (object converted) ≤ depth_limit → read_metadata reads (object converted) ≡ read_metadata reads (object ms)
converted_says_same reads ms converted version made none low deep =
    let given = passes (nat_le (depth (object ms)) depth_limit) (not (has_float (object ms))) (version_3_of ms) converted (read_members reads)
    (le-leb (depth (object ms)) depth_limit low) (not_from_false (has_float (object ms)) none) (version_3_of-2 ms version ∙ ap (λ o. ok_or o Fields) made) in
    let made_so = passes (nat_le (depth (object converted)) depth_limit) (not (has_float (object converted))) (version_3_of converted) converted (read_members reads)
    (le-leb (depth (object converted)) depth_limit deep) (not_from_false (has_float (object converted)) (converted_float ms converted none made)) (version_3_of-3 converted (converted_version ms converted made)) in
    made_so ∙ sym given
