use Rattle.std.proofs.Common.{◌≡◌, ◌-◌, ◌∙◌, ◌++◌, ap, refl, drop, length, arith, length-drop}
use Rattle.std.proofs.lemmas.List.{take_all}
use Rattle.zarr_codecs_meaning.specs.Payloads.{variable_in}
use Rattle.zarr_codecs_arrays.specs.Views.{numbers_of}
use Rattle.zarr_codecs_arrays.proofs.Joined.{moved, variable_joined}
use Rattle.zarr_codecs_arrays.proofs.concat.concat_variable.Goals as goal

pub returns : goal.returns
returns c front back one two =
    let bytes = c.args.bytes.items in
    let others = c.args.others.now in
    let start = c.in-Some.start.now in
    let ends = c.in-Some.ends.now in
    let rest : c.in-Some-get.rest.now ≡ drop start others = (c.in-Some-get.ensures.lookup.0).2 ∙ take_all (length others - start) (drop start others) (let e = length-drop start others in omega (arith, e)) in
    let long : length c.as_slice.result.now ≡ length bytes = ap length c.as_slice.ensures.value in
    let offsets : numbers_of c.in_ok-offsets.offsets ≡ numbers_of c.args.offsets ++ moved (length bytes) start ends = c.in_ok-offsets.ensures ∙ ap (λ n. numbers_of c.args.offsets ++ moved n start ends) long in
    let new : c.extend_from_slice.new.self.items ≡ bytes ++ drop start others = c.in_ok-extend_from_slice.ensures.items ∙ ap (λ ns. bytes ++ ns) rest in
    let joined = variable_joined (numbers_of c.args.offsets) bytes c.args.cuts.now others start ends front back (c.in-Some.ensures.cases.0) one two in
    record {
      bytes = c.extend_from_slice.new.self.items;
      offsets = numbers_of c.in_ok-offsets.offsets;
      are = refl;
      cut = ap (λ ns. variable_in ns c.extend_from_slice.new.self.items) offsets ∙ (ap (variable_in (numbers_of c.args.offsets ++ moved (length bytes) start ends)) new ∙ joined);
    }
