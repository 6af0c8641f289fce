use Rattle.std.proofs.Common.{◌≡◌, ◌∙◌, sym, subst, ap, length}
use Rattle.std.proofs.lemmas.Result.{IfOk-weaker}
use Rattle.zarr_grids_boxes.specs.Boxes.{Region, product, is_in_box}
use Rattle.zarr_grids_boxes.specs.Cuts.{overlapped, relative}
use Rattle.zarr_grids_boxes.specs.Subsets.{region_of}
use Rattle.zarr_grids_boxes.proofs.Places.{both}
use Rattle.zarr_codecs_meaning.specs.Types.{IsTooLarge}
use Rattle.zarr_codecs_arrays.specs.Views.{payload_of, elements_of}
use Rattle.zarr_array_elements.specs.Boxes.{cells_of, ArePutOver, cells_at}
use Rattle.zarr_array_elements.proofs.ByNumber.{put_taken}
use Rattle.zarr_array_elements.proofs.Meeting.{IsMeeting, meeting, starts_alike}
use Rattle.zarr_array_elements.proofs.Shared.{shared_smaller, large_grows}
use Rattle.zarr_array_elements.proofs.putting.put_numbered.Goals as goal

meets : (region from shared : Region) → length from.start ≡ length region.start → shared ≡ overlapped from region → IsMeeting from region (overlapped from region) (relative (overlapped from region) region.start) → IsMeeting from region shared (relative (overlapped from region) region.start)
meets region from shared rank e meet = subst (λ (s : Region). IsMeeting from region s (relative (overlapped from region) region.start)) (sym e) meet

pub take_out-requires-clause-rank : goal.take_out-requires-clause-rank
take_out-requires-clause-rank c =
    let region : Region = region_of c.args.region.now in
    let from : Region = region_of c.args.from.now in
    ap (λ (r : Region). length r.start) c.in-Ok.ensures.made ∙ starts_alike from region c.requires.rank

pub take_out-requires-clause-some : goal.take_out-requires-clause-some
take_out-requires-clause-some c =
    let region : Region = region_of c.args.region.now in
    let from : Region = region_of c.args.from.now in
    (meets region from (region_of c.in-Ok.shared) c.requires.rank c.in-Ok.ensures.made (meeting from region c.requires.shares)).some

pub take_out-requires-clause-small : goal.take_out-requires-clause-small
take_out-requires-clause-small c = λ large.
    let region : Region = region_of c.args.region.now in
    let from : Region = region_of c.args.from.now in
    let type = (elements_of c.args.elements.now).type in
    let less = shared_smaller from region c.requires.shares in
    c.requires.small (large_grows type (product (overlapped from region).shape) (product region.shape) less (subst (λ (r : Region). IsTooLarge type (product r.shape)) c.in-Ok.ensures.made large))

pub take_out-requires-clause-inside : goal.take_out-requires-clause-inside
take_out-requires-clause-inside c = λ place t.
    let region : Region = region_of c.args.region.now in
    let from : Region = region_of c.args.from.now in
    let meet = meets region from (region_of c.in-Ok.shared) c.requires.rank c.in-Ok.ensures.made (meeting from region c.requires.shares) in
    (both (is_in_box from.start from.shape place) (is_in_box region.start region.shape place) (sym (meet.both place) ∙ t)).0

pub put_within-requires-clause-rank : goal.put_within-requires-clause-rank
put_within-requires-clause-rank c =
    let region : Region = region_of c.args.region.now in
    let from : Region = region_of c.args.from.now in
    ap (λ (r : Region). length r.start) c.in-Ok.ensures.made ∙ (starts_alike from region c.requires.rank ∙ c.requires.rank)

pub put_within-requires-clause-some : goal.put_within-requires-clause-some
put_within-requires-clause-some c =
    let region : Region = region_of c.args.region.now in
    let from : Region = region_of c.args.from.now in
    (meets region from (region_of c.in-Ok.shared) c.requires.rank c.in-Ok.ensures.made (meeting from region c.requires.shares)).some

pub put_within-requires-clause-inside : goal.put_within-requires-clause-inside
put_within-requires-clause-inside c = λ place t.
    let region : Region = region_of c.args.region.now in
    let from : Region = region_of c.args.from.now in
    let meet = meets region from (region_of c.in-Ok.shared) c.requires.rank c.in-Ok.ensures.made (meeting from region c.requires.shares) in
    (both (is_in_box from.start from.shape place) (is_in_box region.start region.shape place) (sym (meet.both place) ∙ t)).1

pub returns-clause-cells : goal.returns-clause-cells
returns-clause-cells c =
    let elements = elements_of c.args.elements.now in
    let region : Region = region_of c.args.region.now in
    let from : Region = region_of c.args.from.now in
    let shared : Region = region_of c.in-Ok.shared in
    let meet = meets region from shared c.requires.rank c.in-Ok.ensures.made (meeting from region c.requires.shares) in
    let given = cells_of elements.type (payload_of c.args.given.now) in
    let part = cells_of elements.type (payload_of c.in_ok-part.part) in
    let before = cells_of elements.type (payload_of c.args.before) in
    IfOk-weaker c.put_within.result (λ made. ArePutOver elements.fill (cells_at shared part) (cells_at region before) (cells_of elements.type (payload_of made))) (λ made. ArePutOver elements.fill (cells_at from given) (cells_at region before) (cells_of elements.type (payload_of made)))
    (λ made h. put_taken elements.fill region from shared given part before (cells_of elements.type (payload_of made)) meet.both c.in_ok-part.ensures.cells h) c.put_within.ensures.cells
