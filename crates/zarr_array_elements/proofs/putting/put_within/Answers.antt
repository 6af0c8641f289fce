use Rattle.std.proofs.Common.{◌≡◌, ◌∙◌, ℕ, List, sym, subst, ap, Some}
use Rattle.zarr_grids_boxes.specs.Boxes.{Region, product}
use Rattle.zarr_grids_boxes.specs.Subsets.{region_of}
use Rattle.zarr_codecs_meaning.specs.Payloads.{Payload, cells_in}
use Rattle.zarr_codecs_meaning.specs.Types.{Cell, DataType, Elements}
use Rattle.zarr_codecs_meaning.proofs.Lists.{some_same}
use Rattle.zarr_codecs_types.specs.Views.{type_of}
use Rattle.zarr_codecs_arrays.specs.Views.{payload_of, elements_of}
use Rattle.zarr_codecs_traits.specs.Indexers.{listed, numbers_asked}
use Rattle.zarr_codecs_regions.specs.Updates.{CanUpdate, array_places, put}
use Rattle.zarr_codecs_regions.proofs.PutPlaces.{length-put}
use Rattle.zarr_array_elements.specs.Boxes.{cells_of, AreOfBox, ArePutOver, cells_at}
use Rattle.zarr_array_elements.proofs.ByNumber.{put_at_box}
use Rattle.zarr_array_elements.proofs.FixedPuts.{counted, known}
use Rattle.zarr_array_elements.proofs.Moved.{numbers_there}
use Rattle.zarr_array_elements.proofs.putting.put_within.Goals as goal

-- the elements after an update, by those that the two payloads are
updated : (elements : Elements) (type : DataType) (box at_box : Region) (shape places : List ℕ) (before given made : Payload) (olds news : List Cell) → AreOfBox elements.type before box → AreOfBox elements.type given at_box → type ≡ elements.type
    → places ≡ numbers_there box at_box → CanUpdate (array_places type shape (listed places)) before given olds news → cells_in type made ≡ Some (put (numbers_asked shape (listed places)) news olds) → cells_in elements.type made ≡ Some (put (numbers_there box at_box) (cells_of elements.type given) (cells_of elements.type before))
updated elements type box at_box shape places before given made olds news old new same are updates made_is =
    let u = subst (λ (t : DataType). CanUpdate (array_places t shape (listed places)) before given olds news) same updates in
    let olds_are : olds ≡ cells_of elements.type before = some_same (sym u.array_is.lists ∙ old.lists) in
    let news_are : news ≡ cells_of elements.type given = some_same (sym u.update_is.lists ∙ new.lists) in
    subst (λ (t : DataType). cells_in t made ≡ Some (put places news olds)) same made_is
    ∙ (ap (λ (ns : List ℕ). Some (put ns news olds)) are
    ∙ (ap (λ (cells : List Cell). Some (put (numbers_there box at_box) cells olds)) news_are ∙ ap (λ (cells : List Cell). Some (put (numbers_there box at_box) (cells_of elements.type given) cells)) olds_are))

pub returns-in-Ok : goal.returns-in-Ok
returns-in-Ok c =
    let elements = elements_of c.args.elements.now in
    let box : Region = region_of c.args.region.now in
    let at_box : Region = region_of c.args.at.now in
    let ns = numbers_there box at_box in
    let before : List Cell = cells_of elements.type (payload_of c.args.before) in
    let part : List Cell = cells_of elements.type (payload_of c.args.given.now) in
    let made = payload_of c.in-Ok.made in
    let found = c.in-Ok.ensures in
    let places : c.as_slice.result.now ≡ ns = c.as_slice.ensures.value ∙ c.in_ok-places.ensures in
    let lists : cells_in elements.type made ≡ Some (put ns part before) =
    updated elements (type_of c.data_type.result.now) box at_box c.shape.result.now c.as_slice.result.now (payload_of c.args.before) (payload_of c.args.given.now) made found.0 found.1 c.requires.before c.requires.given c.data_type.ensures places found.2 found.3 in
    record {
      counted = counted elements.type made (put ns part before) (product box.shape) lists (length-put ns part before ∙ c.requires.before.many);
      cells =
          subst (ArePutOver elements.fill (cells_at at_box part) (cells_at box before)) (sym (known elements.type made (put ns part before) lists))
          (put_at_box elements.fill box at_box before part (sym c.args.at.now.same) c.requires.inside c.requires.before.many c.requires.given.many);
    }
