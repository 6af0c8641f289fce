use Rattle.std.proofs.Common.{◌≡◌, ◌∙◌, [], ◌∷◌, ap, sym, subst, Some, Ok}
use Rattle.zarr_codecs_meaning.specs.Decoding.{decoded}
use Rattle.zarr_codecs_meaning.specs.Types.{zero_filled}
use Rattle.zarr_codecs_arrays.specs.Views.{elements_of}
use Rattle.zarr_codecs_traits.specs.Arrays.{coded}
use Rattle.zarr_codecs_traits.specs.Outcomes.{Decodes}
use Rattle.zarr_codecs_sections.specs.Marks.{count_ones}
use Rattle.zarr_codecs_chains.specs.Chosen.{chosen_type}
use Rattle.zarr_codecs_chains.proofs.OptionalDecoding.{decoded_ones}
use Rattle.zarr_codecs_chains.proofs.decoding.decode_alone.Goals as goal

pub returns-in-Ok : goal.returns-in-Ok
returns-in-Ok g c =
    let chain = g.C.ArrayToBytesCodecTraits.meaning c.args.codec.now in
    let chosen = c.args.chosen in
    let type = chosen_type chosen in
    let shape = chosen.count ∷ [] in
    let section = c.args.section.now in
    let given = c.in_ok-value.value.items in
    let elements : elements_of c.in_ok-elements.elements ≡ zero_filled type = c.in_ok-elements.ensures ∙ ap zero_filled c.in_ok-try_clone.ensures in
    let same : given ≡ section = c.in_ok-value.ensures.items_if_clones_equal (λ x y e. e) in
    let found = subst (λ e. Decodes (coded chain e shape) given (Ok c.in-Ok.found)) elements c.in-Ok.ensures in
    let is : decoded chain (zero_filled type) shape section ≡ Some found.cells = ap (decoded chain (zero_filled type) shape) (sym same) ∙ found.is in
    let long = decoded_ones chain (zero_filled type) section chosen.count (count_ones chosen.marks.now) found.cells c.requires is in
    (found.cells, is, c.in_ok-spread_elements-in-Ok.ensures found.cells found.lists long)
