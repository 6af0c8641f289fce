use Rattle.std.proofs.Common.{◌≡◌, ◌∙◌, ap, map, sym, refl, subst, true, false, Err, Option, None, Some, List, ℕ}
use Rattle.zarr_codecs_meaning.specs.Fits.{fits}
use Rattle.zarr_codecs_types.specs.Views.{type_of}
use Rattle.zarr_codecs_arrays.specs.Views.{elements_of}
use Rattle.zarr_codecs_traits.specs.Indexers.{are_inside, asked_of}
use Rattle.zarr_codecs_traits.specs.Arrays.{coded}
use Rattle.zarr_codecs_traits.specs.Outcomes.{DecodesPart}
use Rattle.zarr_codecs_traits.specs.Pieces.{SplitsPart}
use Rattle.zarr_codecs_traits.specs.Sources.{value_bytes}
use Rattle.zarr_codecs_around.specs.Pieces.{IsPartCutInside}
use Rattle.zarr_codecs_around.specs.Views.{with_codecs}
use Rattle.zarr_codecs_around.proofs.CutInside.{part_split}
use Rattle.zarr_codecs_around.proofs.PartChains.{fits_as, part_not_undone}
use Rattle.zarr_codecs_around.proofs.stored_parts.split_stored_part.Goals as goal

pub returns-then-not-branch-clause-part : goal.returns-then-not-branch-clause-part
returns-then-not-branch-clause-part g c =
    let codecs = map g.B.BytesToBytesCodecTraits.meaning c.args.codecs.now in
    fits_as (g.A.ArrayToBytesCodecTraits.meaning c.args.codec.now) codecs (type_of c.data_type.result.now) (elements_of c.args.part.elements.now).type c.args.part.shape.now c.in_ok-fits.field-0 false c.data_type.ensures c.in_ok-fits.ensures c.if-not-branch.true

pub returns-in_default-value-clause-part : goal.returns-in_default-value-clause-part
returns-in_default-value-clause-part g c =
    let A = g.A.ArrayToBytesCodecTraits in
    let chain = A.meaning c.args.codec.now in
    let codecs = map g.B.BytesToBytesCodecTraits.meaning c.args.codecs.now in
    let elements = elements_of c.args.part.elements.now in
    let shape = c.args.part.shape.now in
    let asked = asked_of c.args.part.indexer in
    let cuts = λ (inside : Option (List ℕ)). A.cuts_part c.args.codec.now (coded chain elements shape) inside asked in
    let found = part_split cuts chain codecs elements shape None None asked c.split_inside.result refl c.split_inside.ensures.part in
    subst (λ value. SplitsPart (IsPartCutInside cuts codecs (value_bytes value)) (coded (with_codecs chain codecs) elements shape) (value_bytes value) asked c.split_inside.result) (sym c.in_default-value.is) found

pub returns-in-Ok-clause-part : goal.returns-in-Ok-clause-part
returns-in-Ok-clause-part g c =
    let A = g.A.ArrayToBytesCodecTraits in
    let chain = A.meaning c.args.codec.now in
    let codecs = map g.B.BytesToBytesCodecTraits.meaning c.args.codecs.now in
    let elements = elements_of c.args.part.elements.now in
    let shape = c.args.part.shape.now in
    let asked = asked_of c.args.part.indexer in
    let cuts = λ (inside : Option (List ℕ)). A.cuts_part c.args.codec.now (coded chain elements shape) inside asked in
    let found = part_split cuts chain codecs elements shape (Some c.in-Some.value.items) (Some c.in-Ok.inside.items) asked c.split_inside-in-Ok.result c.in-Ok.ensures c.split_inside-in-Ok.ensures.part in
    subst (λ value. SplitsPart (IsPartCutInside cuts codecs (value_bytes value)) (coded (with_codecs chain codecs) elements shape) (value_bytes value) asked c.split_inside-in-Ok.result) (sym c.in-Some.is) found

pub returns-in-Err-decode_all-clause-part : goal.returns-in-Err-decode_all-clause-part
returns-in-Err-decode_all-clause-part g c =
    let meaning = g.B.BytesToBytesCodecTraits.meaning in
    let chain = g.A.ArrayToBytesCodecTraits.meaning c.args.codec.now in
    let codecs = map meaning c.args.codecs.now in
    let elements = elements_of c.args.part.elements.now in
    let shape = c.args.part.shape.now in
    let asked = asked_of c.args.part.indexer in
    let e = c.in-Err-decode_all.error in
    let fit : fits chain elements.type shape ≡ true = ap (λ t. fits chain t shape) (sym c.data_type.ensures) ∙ (sym c.in_ok-fits.ensures ∙ c.if-not-branch.false) in
    let inside : are_inside shape asked ≡ true = c.in_default.ensures in
    let refused = c.in-Err-decode_all.ensures in
    let found = part_not_undone chain codecs elements shape c.in-Some.value.items asked e fit inside refused in
    subst (λ value. DecodesPart (coded (with_codecs chain codecs) elements shape) (value_bytes value) asked (Err e)) (sym c.in-Some.is) found
