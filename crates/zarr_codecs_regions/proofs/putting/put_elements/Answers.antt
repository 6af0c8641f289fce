use Rattle.std.proofs.Common.{◌≡◌, ◌∙◌, ap, Some, ◌++◌, length, true}
use Rattle.std.specs.List.{range_with_len}
use Rattle.std.proofs.lemmas.Result.{IfOk-weaker}
use Rattle.zarr_codecs_meaning.specs.Payloads.{cells_in}
use Rattle.zarr_codecs_meaning.specs.Places.{gather}
use Rattle.zarr_codecs_meaning.specs.Types.{absent}
use Rattle.zarr_codecs_types.specs.Views.{type_of}
use Rattle.zarr_codecs_arrays.specs.Views.{payload_of}
use Rattle.zarr_codecs_regions.specs.Updates.{put}
use Rattle.zarr_codecs_regions.proofs.Gathers.{are_below}
use Rattle.zarr_codecs_regions.proofs.Puts.{put_gathered, put_inside}
use Rattle.zarr_codecs_regions.proofs.putting.put_elements.Goals as goal

pub returns : goal.returns
returns c before given b-is old g-is new =
    let type = type_of c.args.data_type.now in
    let count = c.args.count in
    let numbers = c.args.numbers.now in
    let sources = c.as_slice.result.now in
    let are : sources ≡ put numbers (range_with_len count (length numbers)) (range_with_len 0 count) = c.as_slice.ensures.value ∙ c.in_ok-sources.ensures in
    let joined = c.in_ok-joined.ensures before given b-is g-is in
    let inside : are_below (length (before ++ given)) sources ≡ true = ap (are_below (length (before ++ given))) are ∙ put_inside before given count numbers old new in
    let result : gather absent (before ++ given) sources ≡ put numbers given before = ap (gather absent (before ++ given)) are ∙ put_gathered before given absent count numbers old new in
    IfOk-weaker c.gather.result (λ made. cells_in type (payload_of made) ≡ Some (gather absent (before ++ given) sources)) (λ made. cells_in type (payload_of made) ≡ Some (put numbers given before))
    (λ made e. e ∙ ap Some result) (c.gather.ensures (before ++ given) absent joined inside)
