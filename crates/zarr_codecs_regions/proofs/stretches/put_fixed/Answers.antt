use Rattle.std.proofs.Common.{◌≡◌, ◌∙◌, length, rules, Result, Ok, Err, IfOk}
use Rattle.zarr_grids_boxes.specs.Subsets.{region_of}
use Rattle.zarr_codecs_types.specs.Views.{type_of}
use Rattle.zarr_codecs_regions.proofs.BoxPuts.{stretches_put}
use Rattle.zarr_codecs_regions.proofs.stretches.put_fixed.Goals as goal

of_both : {T E : Type 0} (r : Result T E) (P Q R : T → Type 0) → ((x : T) → P x → Q x → R x) → IfOk r P → IfOk r Q → IfOk r R
of_both (Ok x) P Q R f p q = f x p q
of_both (Err e) P Q R f p q = tt

pub returns : goal.returns
returns c = λ before others old new.
    let known = c.in-Some.ensures in
    let size : length c.args.bytes.items ≡ c.len.result = search rules in
    let made = c.put_box.ensures in
    of_both c.put_box.result _ _ _
    (λ after same is. stretches_put (type_of c.args.data_type.now) c.in-Some.width c.args.shape.now (region_of c.args.region.now) c.args.bytes.items c.args.given.now after.items before others known.2 known.0 (size ∙ known.1) same is old new)
    made.length made.elements
