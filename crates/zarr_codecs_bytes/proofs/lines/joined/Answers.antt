use Rattle.std.proofs.Common.{rules, refl}
use Rattle.zarr_codecs_bytes.proofs.BoxElements.{joined_bytes}
use Rattle.zarr_codecs_bytes.proofs.lines.joined.Goals as goal

pub returns-in-Some-checked_add-clause-are : goal.returns-in-Some-checked_add-clause-are
returns-in-Some-checked_add-clause-are c = λ value.
    joined_bytes value c.args.first c.args.second (record { offset = c.args.first.offset; length = c.in-Some-checked_add.length }) refl (search rules) (search rules)
