use Rattle.std.proofs.Common.{◌≡◌, ◌∙◌, ◌⊎◌, true, rules, IsTrue}
use Rattle.zarr_grids_boxes.specs.Boxes.{Region, product}
use Rattle.zarr_grids_boxes.specs.Subsets.{region_of}
use Rattle.zarr_grids_overlay.specs.Overlays.{extent_of}
use Rattle.zarr_codecs_traits.specs.Representations.{IsRepresented}
use Rattle.zarr_codecs_meaning.specs.Fits.{tells_too_long}
use Rattle.zarr_codecs_meaning.specs.Types.{IsTooLarge}
use Rattle.zarr_array_meaning.specs.Writing.{may_be_in_part}
use Rattle.zarr_array_core.specs.Views.{document_of}
use Rattle.zarr_array_core.proofs.InParts.{told_in_part, long_in_part}
use Rattle.zarr_array_core.proofs.array_core.ArrayCore.is_in_part.Goals as goal

pub returns-in-Ok-clause-ok : goal.returns-in-Ok-clause-ok
returns-in-Ok-clause-ok g c =
    let document = document_of g.C.ArrayToBytesCodecTraits.meaning c.args.self.now in
    let region : Region = extent_of c.args.write.now.region in
    let box : Region = region_of c.args.own.now in
    let may : may_be_in_part document c.args.write.now.options.now region box ≡ true = search rules in
    let told : IsRepresented document.chain document.elements.type box.shape c.in-Ok.told = search rules in
    c.tells_size.ensures ∙ told_in_part document c.args.write.now.options.now region box c.in-Ok.told may told

pub returns-in-Err-Size-clause-ok : goal.returns-in-Err-Size-clause-ok
returns-in-Err-Size-clause-ok g c =
    let document = document_of g.C.ArrayToBytesCodecTraits.meaning c.args.self.now in
    let region : Region = extent_of c.args.write.now.region in
    let box : Region = region_of c.args.own.now in
    let large : IsTooLarge document.elements.type (product box.shape) ⊎ IsTrue (tells_too_long document.chain document.elements.type box.shape) = search rules in
    long_in_part document c.args.write.now.options.now region box c.requires.fit c.requires.small large
