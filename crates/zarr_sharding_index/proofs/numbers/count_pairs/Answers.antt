use Rattle.std.proofs.Common.{◌/◌, length, arith}
use Rattle.std.proofs.lemmas.Grind.{common_steps}
use Rattle.zarr_codecs_types.proofs.Bytes.{each_byte}
use Rattle.zarr_sharding_index.specs.Views.{pairs_of_bytes}
use Rattle.zarr_sharding_index.proofs.PairBytes.{bytes_of_pairs, length-pairs_of_bytes, pairs_are_numbers}
use Rattle.zarr_sharding_index.proofs.StoredAsIs.{stored_as_is}
use Rattle.zarr_sharding_index.proofs.numbers.count_pairs.Goals as goal

pub returns-clause-count : goal.returns-clause-count
returns-clause-count c = let count = length-pairs_of_bytes c.args.bytes.now in grind (arith, common_steps, count)

pub returns-clause-room : goal.returns-clause-room
returns-clause-room c = let count = length-pairs_of_bytes c.args.bytes.now in grind (arith, common_steps, count)

pub returns-clause-within : goal.returns-clause-within
returns-clause-within c = let count = length-pairs_of_bytes c.args.bytes.now in omega (arith, count)

pub returns-clause-cells : goal.returns-clause-cells
returns-clause-cells c whole =
    let bytes = c.args.bytes.now in
    pairs_are_numbers bytes (pairs_of_bytes bytes) (bytes_of_pairs (length bytes / 16) bytes (omega (arith, whole)) (each_byte bytes c.type_inv.bytes))

pub returns-clause-stored : goal.returns-clause-stored
returns-clause-stored c whole =
    let bytes = c.args.bytes.now in
    stored_as_is bytes (pairs_of_bytes bytes) (bytes_of_pairs (length bytes / 16) bytes (omega (arith, whole)) (each_byte bytes c.type_inv.bytes))
