use Rattle.std.proofs.Common.{◌≡◌, ◌∙◌, ap, rules, true}
use Rattle.std.proofs.lemmas.Result.{IfOk-weaker}
use Rattle.zarr_codecs_meaning.specs.Types.{are_bytes}
use Rattle.zarr_codecs_types.proofs.Bytes.{are_bytes_items}
use Rattle.zarr_codecs_sections.proofs.content.from_first.Goals as goal

pub returns-then-first-eq0-clause-bytes : goal.returns-then-first-eq0-clause-bytes
returns-then-first-eq0-clause-bytes c = are_bytes_items c.args.bytes.items (search rules)

pub returns-in-Some-clause-bytes : goal.returns-in-Some-clause-bytes
returns-in-Some-clause-bytes c =
    IfOk-weaker c.copied.result (λ v. v.items ≡ c.in-Some.content.now) (λ v. are_bytes v.items ≡ true) (λ v e. ap are_bytes e ∙ c.copied.ensures.bytes) c.copied.ensures.value
