use Rattle.std.proofs.Common.{rules, ◌∙◌, ◌&&◌, sym, ap, arith, Some, None}
use Rattle.std.proofs.lemmas.Str.Pattern.{split_parts}
use Rattle.zarr_array_folder.specs.FileKeys.{is_file_key}
use Rattle.zarr_array_folder.proofs.KeyParts.{key_cut, key_whole}
use Rattle.zarr_array_folder.proofs.file_keys.is_file_key.Goals as goal

pub returns-then-not-is_file_name : goal.returns-then-not-is_file_name
returns-then-not-is_file_name c =
    let parts = split_parts 47 c.loop-part.rest.now (Some (c.in-Some.part, c.in-Some.others)) c.in-Some.ensures.cases (omega arith) in
    ap (λ b. b && is_file_key c.in-Some.others.now) (sym c.if-not-is_file_name.true ∙ c.is_file_name.ensures) ∙ sym (key_cut c.loop-part.rest.now c.in-Some.part.now c.in-Some.others.now parts.0 parts.1) ∙ c.loop-part.invariant.1

pub loop-part-preserved : goal.loop-part-preserved
loop-part-preserved c =
    let parts = split_parts 47 c.loop-part.rest.now (Some (c.in-Some.part, c.in-Some.others)) c.in-Some.ensures.cases (omega arith) in
    (search rules, ap (λ b. b && is_file_key c.in-Some.others.now) (sym c.if-not-is_file_name.false ∙ c.is_file_name.ensures) ∙ sym (key_cut c.loop-part.rest.now c.in-Some.part.now c.in-Some.others.now parts.0 parts.1) ∙ c.loop-part.invariant.1)

pub returns : goal.returns
returns c =
    c.is_file_name-2.ensures ∙ sym (key_whole c.loop-part.rest.now (split_parts 47 c.loop-part.rest.now None c.in_default.ensures.cases (omega arith))) ∙ c.loop-part.invariant.1
