use Rattle.std.proofs.Common.{◌≡◌, ◌∙◌, ◌%◌, ◌*◌, ℕ, List, Some, ap, arith, length, subst, sym}
use Rattle.zarr_grids_boxes.specs.Boxes.{product}
use Rattle.zarr_codecs_meaning.specs.Encoding.{Pair, pair_cells}
use Rattle.zarr_codecs_meaning.specs.Payloads.{cells_in, fixed}
use Rattle.zarr_codecs_meaning.specs.Types.{uint64}
use Rattle.zarr_sharding_index.specs.Stored.{AreStoredAsIs, IsIndexRead}
use Rattle.zarr_sharding_index.specs.Views.{pairs_of_bytes}
use Rattle.zarr_sharding_index.proofs.PairBytes.{length-pairs_of_bytes}
use Rattle.zarr_sharding_index.proofs.StoredAsIs.{not_as_is, read_as_is}
use Rattle.zarr_sharding_index.proofs.stored.index_as_is.Goals as goal
use Rattle.zarr_sharding_index.proofs.stored.index_as_is.Goals.{then-len-ne0-via-then-len-ne0, then-len-ne0-via-else-len-ne0+then-count-count_pairs}

pub returns-then-len-ne0 : goal.returns-then-len-ne0
returns-then-len-ne0 c = λ index as_is fit.
    let even = c.requires in
    let long = c.len.ensures in
    let held = c.args.bytes.ok.0 in
    let count = c.in-Some.ensures.1 in
    not_as_is index c.args.shape.now c.args.bytes.items as_is (λ is. elim c.then-len-ne0.branch [
      | then-len-ne0-via-then-len-ne0 w ↦ w.if-len-ne0.true (omega (arith, even, long, held, is))
      | then-len-ne0-via-else-len-ne0+then-count-count_pairs w ↦
          let lent = ap length w.as_slice.ensures.value in
          let pairs = w.count_pairs.ensures.count ∙ length-pairs_of_bytes w.as_slice.result.now in
          w.if-count-count_pairs.true (omega (arith, even, count, lent, pairs, is))
    ])

pub returns : goal.returns
returns c = λ index as_is fit.
    let shape = c.args.shape.now in
    let value = c.args.bytes.items in
    let lent : c.as_slice.result.now ≡ value = c.as_slice.ensures.value in
    let long = ap length (sym lent) ∙ c.as_slice.ensures.len ∙ sym c.len.ensures in
    let remainder = c.if-len-ne0.false in
    let whole : length value % 16 ≡ 0 = omega (arith, long, remainder) in
    let even = c.requires in
    let count = c.in-Some.ensures.1 in
    let same = c.if-count-count_pairs.false ∙ c.count_pairs.ensures.count ∙ ap (λ bytes. length (pairs_of_bytes bytes)) lent in
    let many : product shape ≡ 2 * length (pairs_of_bytes value) = omega (arith, even, count, same) in
    let cells = subst (λ (bytes : List ℕ). length bytes % 16 ≡ 0 → cells_in uint64 (fixed bytes) ≡ Some (pair_cells (pairs_of_bytes bytes))) lent c.count_pairs.ensures.cells in
    let stored = subst (λ (bytes : List ℕ). length bytes % 16 ≡ 0 → AreStoredAsIs (pairs_of_bytes bytes) bytes) lent c.count_pairs.ensures.stored in
    subst (λ (pairs : List Pair). IsIndexRead index shape value pairs) (sym c.from_bytes.ensures) (read_as_is index shape value as_is fit whole many (cells whole) (stored whole))
