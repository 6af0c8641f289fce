use Rattle.std.proofs.Common.{◌≡◌, ◌++◌, ◌+◌, ◌-◌, ◌*◌, ◌∙◌, ap, take, length, replicate, rules}
use Rattle.std.proofs.lemmas.Result.{on_ok_weaker}
use Rattle.zarr_codecs_types.specs.Views.{sign_of}
use Rattle.zarr_codecs_packbits.proofs.BitLists.{each_bit}
use Rattle.zarr_codecs_packbits.proofs.Restored.{restored_written}
use Rattle.zarr_codecs_packbits.proofs.turning.push_restored.Goals as goal

pub returns : goal.returns
returns c =
    let old = c.args.out.now.items in
    let kept = c.args.kept.now in
    let sign = sign_of c.args.part.sign in
    let count : c.in-Some.count ≡ c.args.part.byte_count * 8 = search rules in
    let from : c.in-Some-checked_add.from ≡ length old + c.args.first = search rules in
    let end : c.in-Some-checked_add-2.end ≡ length old + c.in-Some.count = search rules in
    let more = c.extend_from_slice.new.self.items in
    on_ok_weaker c.fill_to-2.result
    (λ w. restored_written sign c.args.part.byte_count c.args.first kept old c.fill_to.new.out.items more c.fill_to-2.new.out.items c.in-Some-checked_add.from c.in-Some-checked_add-2.end c.in-Some.count
    (each_bit kept c.requires.bits) c.requires.some count from end c.in_ok-fill_to.ensures c.in_ok-extend_from_slice.ensures.items
    (w ∙ ap (λ a. take c.in-Some-checked_add-2.end more ++ replicate (c.in-Some-checked_add-2.end - length more) a) c.bit_above-above.ensures))
    c.fill_to-2.ensures
