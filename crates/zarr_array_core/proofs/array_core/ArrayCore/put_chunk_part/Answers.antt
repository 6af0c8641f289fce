use Rattle.std.proofs.Common.{◌∙◌, sym, subst, inr, Option, Some}
use Rattle.zarr_grids_boxes.specs.Boxes.{Region, is_in_box}
use Rattle.zarr_grids_boxes.specs.Cuts.{relative}
use Rattle.zarr_grids_boxes.specs.Subsets.{region_of}
use Rattle.zarr_grids_boxes.proofs.Places.{both}
use Rattle.zarr_codecs_arrays.specs.Views.{payload_of}
use Rattle.zarr_array_elements.specs.Views.{cells_shown}
use Rattle.zarr_array_elements.proofs.Meeting.{IsMeeting}
use Rattle.zarr_array_core.specs.Arrays.{array_of}
use Rattle.zarr_array_core.specs.Parts.{FindsAt, met_in}
use Rattle.zarr_array_core.specs.Views.{document_of}
use Rattle.zarr_array_core.specs.declared.chunk_reading.ChunkPart.{ChunkPart}
use Rattle.zarr_array_core.proofs.FoundParts.{shares_places}
use Rattle.zarr_array_core.proofs.Placed.{placed, ranks_alike}
use Rattle.zarr_array_core.proofs.array_core.ArrayCore.put_chunk_part.Goals as goal

pub put-requires-clause-given : goal.put-requires-clause-given
put-requires-clause-given g c = (shares_places (document_of g.C.ArrayToBytesCodecTraits.meaning c.args.self.now) (region_of c.args.region.now) c.args.found c.in-Some.part c.in-Some.is c.requires.met).shared.counted

pub put-requires-clause-rank : goal.put-requires-clause-rank
put-requires-clause-rank g c =
    let region : Region = region_of c.args.region.now in
    let is = shares_places (document_of g.C.ArrayToBytesCodecTraits.meaning c.args.self.now) region c.args.found c.in-Some.part c.in-Some.is c.requires.met in
    let shared : Region = region_of c.in-Some.part.shared in
    ranks_alike region is.box shared (relative shared is.box.start) is.meet

pub put-requires-clause-some : goal.put-requires-clause-some
put-requires-clause-some g c = (shares_places (document_of g.C.ArrayToBytesCodecTraits.meaning c.args.self.now) (region_of c.args.region.now) c.args.found c.in-Some.part c.in-Some.is c.requires.met).meet.some

pub put-requires-clause-inside : goal.put-requires-clause-inside
put-requires-clause-inside g c = λ place t.
    let region : Region = region_of c.args.region.now in
    let is = shares_places (document_of g.C.ArrayToBytesCodecTraits.meaning c.args.self.now) region c.args.found c.in-Some.part c.in-Some.is c.requires.met in
    (both (is_in_box region.start region.shape place) (is_in_box is.box.start is.box.shape place) (sym (is.meet.both place) ∙ t)).0

pub returns-clause-ok : goal.returns-clause-ok
returns-clause-ok g c = λ store chunk box below shares of_chunk finds.
    let document = document_of g.C.ArrayToBytesCodecTraits.meaning c.args.self.now in
    let array = array_of g.C.ArrayToBytesCodecTraits c.args.self.now in
    let region : Region = region_of c.args.region.now in
    let shared : Region = region_of c.in-Some.part.shared in
    let part = relative shared box.start in
    let is = shares_places document region c.args.found c.in-Some.part c.in-Some.is (chunk, shares, of_chunk) in
    let found : FindsAt array store chunk (Some c.in-Some.part) = subst (λ (o : Option ChunkPart). FindsAt array store chunk o) c.in-Some.is finds in
    let meet : IsMeeting region box shared part = is.at_ box below in
    inr (placed (met_in array store region chunk box) shared part (payload_of c.in-Some.part.bytes) (cells_shown document.elements c.args.shown) (cells_shown document.elements c.in_ok-made.made) meet (found box below).is c.in_ok-made.ensures.cells)
