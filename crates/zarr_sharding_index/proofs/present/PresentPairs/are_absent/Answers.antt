use Rattle.std.proofs.Common.{◌==◌, ◌∙◌, ap, refl, sym}
use Rattle.zarr_codecs_meaning.specs.Decoding.{is_absent}
use Rattle.zarr_sharding_index.specs.Present.{kept_pairs}
use Rattle.zarr_sharding_index.proofs.Listed.{are_listed, full_all, none_present}
use Rattle.zarr_sharding_index.proofs.present.PresentPairs.are_absent.Goals as goal

pub returns : goal.returns
returns c =
    let self = c.args.self.now in
    let kept = kept_pairs self in
    let listed = are_listed 0 self.count kept self.listed in
    ap (λ n. n == 0) c.count_present.ensures.kept
    ∙ sym (full_all is_absent self.count kept refl listed ∙ none_present 0 self.count kept listed)
