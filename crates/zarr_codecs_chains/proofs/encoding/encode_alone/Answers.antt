use Rattle.std.proofs.Common.{◌≡◌, ◌∙◌, [], ◌∷◌, ap, sym, subst, arith, Bool, true}
use Rattle.zarr_grids_boxes.specs.Boxes.{product}
use Rattle.zarr_codecs_meaning.specs.Types.{Elements, zero_filled}
use Rattle.zarr_codecs_arrays.specs.Outcomes.{IsValid}
use Rattle.zarr_codecs_arrays.specs.Views.{elements_of, payload_of}
use Rattle.zarr_codecs_traits.specs.Arrays.{coded}
use Rattle.zarr_codecs_traits.specs.Outcomes.{Encodes}
use Rattle.zarr_codecs_chains.specs.Chosen.{chosen_type}
use Rattle.zarr_codecs_chains.proofs.encoding.encode_alone.Goals as goal

pub returns : goal.returns
returns g c = λ cells exact are.
    let traits = g.C.ArrayToBytesCodecTraits in
    let chain = traits.meaning c.args.codec.now in
    let chosen = c.args.chosen in
    let type = chosen_type chosen in
    let count = chosen.count in
    let payload = payload_of c.in_ok-present.present in
    let one : product (count ∷ []) ≡ count = omega arith in
    let zero : elements_of c.in_ok-elements.elements ≡ zero_filled type = c.in_ok-elements.ensures ∙ ap zero_filled c.in_ok-try_clone.ensures in
    let whole : count ≡ product (count ∷ []) = sym one in
    let valid : IsValid type payload (product (count ∷ [])) cells = subst (λ n. IsValid type payload n cells) (sym c.requires ∙ whole) (c.in_ok-present.ensures cells are.marked are.values) in
    let encodes = subst (λ (b : Bool). Encodes (coded chain (elements_of c.in_ok-elements.elements) (count ∷ [])) b payload c.encode_in_order.result) exact c.encode_in_order.ensures in
    c.made_inside.ensures chain (zero_filled type) (count ∷ []) payload cells (c.is_small.ensures c.if-not-is_small.false) valid
    (subst (λ (e : Elements). Encodes (coded chain e (count ∷ [])) true payload c.encode_in_order.result) zero encodes)
