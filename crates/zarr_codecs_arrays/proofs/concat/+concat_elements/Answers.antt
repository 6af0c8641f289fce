use Rattle.std.proofs.Common.{◌≡◌, ◌∙◌, sym, ap, ◌++◌}
use Rattle.std.proofs.lemmas.Result.{IfOk-weaker}
use Rattle.zarr_codecs_meaning.specs.Types.{optional_of}
use Rattle.zarr_codecs_meaning.specs.Payloads.{fixed, optional}
use Rattle.zarr_codecs_types.specs.Views.{type_of}
use Rattle.zarr_codecs_arrays.specs.Views.{payload_of}
use Rattle.zarr_codecs_arrays.proofs.Joined.{fixed_payloads, masked_payloads}
use Rattle.zarr_codecs_arrays.proofs.concat.+concat_elements.Goals as goal

pub returns-in-Fixed-second : goal.returns-in-Fixed-second
returns-in-Fixed-second t c front back one two =
    let bytes = c.in-Fixed.bytes.items in
    let others = c.in-Fixed-second.others.items in
    fixed_payloads (type_of c.args.data_type.now) (payload_of c.args.first) (payload_of c.args.second.now) bytes others front back c.concat_fixed.result (ap payload_of c.in-Fixed.is) (ap payload_of c.in-Fixed-second.is)
    (IfOk-weaker c.concat_fixed.result (λ a. payload_of a ≡ fixed (bytes ++ c.as_slice.result.now)) (λ a. payload_of a ≡ fixed (bytes ++ others)) (λ a e. e ∙ ap (λ ns. fixed (bytes ++ ns)) c.as_slice.ensures.value) c.concat_fixed.ensures)
    one two

pub returns-in_ok-inner-in-Optional-data_type : goal.returns-in_ok-inner-in-Optional-data_type
returns-in_ok-inner-in-Optional-data_type t c front back one two =
    let whole = type_of c.args.data_type.now in
    let type = type_of c.deref-in-Optional-data_type.result.now in
    let inner = payload_of c.into_inner.result in
    let others = payload_of c.deref.result.now in
    let made = payload_of c.in_ok-inner-in-Optional-data_type.inner in
    let mask = c.in-Optional.mask.items in
    let marks = c.in-Optional-second.marks.items in
    let t-is : whole ≡ optional_of type = ap type_of c.in-Optional-data_type.is ∙ ap (λ x. optional_of (type_of x)) (sym c.deref-in-Optional-data_type.ensures) in
    let first-is : payload_of c.args.first ≡ optional inner mask = ap payload_of c.in-Optional.is ∙ ap (λ x. optional (payload_of x) mask) (sym c.into_inner.ensures) in
    let second-is : payload_of c.args.second.now ≡ optional others marks = ap payload_of c.in-Optional-second.is ∙ ap (λ x. optional (payload_of x) marks) (sym c.deref.ensures) in
    masked_payloads whole type (payload_of c.args.first) (payload_of c.args.second.now) inner others made mask marks front back c.concat_masks.result t-is first-is second-is
    c.in_ok-inner-in-Optional-data_type.ensures
    (IfOk-weaker c.concat_masks.result (λ a. payload_of a ≡ optional made (mask ++ c.as_slice-in-Optional-data_type.result.now)) (λ a. payload_of a ≡ optional made (mask ++ marks)) (λ a e. e ∙ ap (λ ns. optional made (mask ++ ns)) c.as_slice-in-Optional-data_type.ensures.value) c.concat_masks.ensures)
    one two
