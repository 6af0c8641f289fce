use Rattle.std.proofs.Common.{◌≡◌, ◌∙◌, ◌*◌, ◌<◌, ap, length, option_map, subst, sym, true, Some}
use Rattle.std.proofs.lemmas.Bool.{and_parts}
use Rattle.zarr_grids_boxes.specs.Boxes.{product}
use Rattle.zarr_codecs_meaning.specs.Fits.{order_fits}
use Rattle.zarr_codecs_meaning.specs.Payloads.{fixed}
use Rattle.zarr_codecs_meaning.specs.Types.{bytes_in, components, is_fixed}
use Rattle.zarr_codecs_arrays.specs.Outcomes.{IsValid}
use Rattle.zarr_codecs_arrays.specs.Views.{elements_of, payload_of}
use Rattle.zarr_codecs_traits.specs.Indexers.{asked_of, numbers_asked}
use Rattle.zarr_codecs_traits.specs.Patches.{patched, patches_in}
use Rattle.zarr_codecs_traits.specs.Arrays.{coded, update_of}
use Rattle.zarr_codecs_traits.specs.PartWriting.{IsEncodedInto}
use Rattle.zarr_codecs_bytes.specs.Orders.{all_ordered}
use Rattle.zarr_codecs_bytes.specs.Views.{bytes_chain, order_of}
use Rattle.zarr_codecs_bytes.specs.Writing.{PutsElements}
use Rattle.zarr_codecs_bytes.proofs.ElementsPut.{put_over}
use Rattle.zarr_codecs_bytes.proofs.Orders.{length-all_ordered}
use Rattle.zarr_codecs_bytes.proofs.PartWriting.{given_cells}
use Rattle.zarr_codecs_bytes.proofs.writing.asked_patches.Goals as goal

pub element_patches-requires-clause-long : goal.element_patches-requires-clause-long
element_patches-requires-clause-long c =
    let type = (elements_of c.args.part.elements.now).type in
    let order = option_map order_of c.args.codec.endian in
    let count = length (numbers_asked c.args.part.shape.now (asked_of c.args.part.indexer)) in
    let given = c.requires.given in
    let valid : IsValid type (fixed c.in-Fixed.bytes.items) count given.cells = subst (λ b. IsValid type (payload_of b) count given.cells) c.in-Fixed.is given.valid in
    let g = given_cells type c.in-Fixed.bytes.items count given.cells (and_parts (is_fixed type) (order_fits order (components type)) given.fit).0 valid in
    let some = subst (λ t. 0 < bytes_in (components t)) c.data_type-data_type.ensures c.in-Ok.ensures.some in
    let made = c.in_ok-ordered-in-Fixed.ensures ∙ ap (λ t. all_ordered order (components t) c.in-Fixed.bytes.items) c.data_type-data_type.ensures in
    ap length made ∙ length-all_ordered order (components type) count c.in-Fixed.bytes.items some g.long

pub returns-in_ok-element_patches-in-Fixed-clause-ok : goal.returns-in_ok-element_patches-in-Fixed-clause-ok
returns-in_ok-element_patches-in-Fixed-clause-ok c = λ value long.
    let elements = elements_of c.args.part.elements.now in
    let type = elements.type in
    let width = bytes_in (components type) in
    let shape = c.args.part.shape.now in
    let asked = asked_of c.args.part.indexer in
    let order = option_map order_of c.args.codec.endian in
    let numbers = numbers_asked shape asked in
    let given = c.requires.given in
    let patches = patches_in c.in_ok-element_patches-in-Fixed.field-0 in
    let content = c.in_ok-ordered-in-Fixed.ordered.items in
    let some = subst (λ t. 0 < bytes_in (components t)) c.data_type-data_type.ensures c.in-Ok.ensures.some in
    let size : c.in-Ok.size ≡ product shape * width = c.in-Ok.ensures.ok ∙ ap (λ t. product shape * bytes_in (components t)) c.data_type-data_type.ensures in
    let put : PutsElements width c.in-Ok.size numbers content patches = c.in_ok-element_patches-in-Fixed.ensures in (
      given.cells,
      subst (λ b. IsEncodedInto (coded (bytes_chain c.args.codec) elements shape) true (update_of asked (payload_of b) (Some value)) given.cells (Some (patched value patches))) (sym c.in-Fixed.is)
          (put_over order elements shape asked c.in-Fixed.bytes.items content given.cells value patches (
          record {
            fit = given.fit;
            some = some;
            inside = given.inside;
            valid = subst (λ b. IsValid type (payload_of b) (length numbers) given.cells) c.in-Fixed.is given.valid;
            is = c.in_ok-ordered-in-Fixed.ensures ∙ ap (λ t. all_ordered order (components t) c.in-Fixed.bytes.items) c.data_type-data_type.ensures;
            long = long ∙ (c.if-total-size.false ∙ size);
            puts = subst (λ n. PutsElements width n numbers content patches) size put;
          }
          )),
    )
