use Rattle.std.proofs.Common.{◌≡◌, ℕ, List, subst}
use Rattle.std.specs.Prelude.{IfOk}
use Rattle.zarr_grids_metadata.specs.Views.{point_of}
use Rattle.zarr_codecs_meaning.specs.Chains.ArrayCodec.{transpose}
use Rattle.zarr_codecs_array_to_array.specs.Views.{order_of}
use Rattle.zarr_codecs_array_to_array.specs.Written.{array_codec_point}
use Rattle.zarr_codecs_array_to_array.proofs.ReadsBack.{written_transpose}
use Rattle.zarr_codecs_array_to_array.proofs.transpose.TransposeCodec.metadata.Goals as goal

pub returns-clause-reads_back : goal.returns-clause-reads_back
returns-clause-reads_back c =
    written_transpose c.transpose_metadata.result (order_of c.args.self.now.order) c.args.self.now.order.permutes
    (subst (λ (ns : List ℕ). IfOk c.transpose_metadata.result (λ m. point_of m ≡ array_codec_point (transpose ns))) c.as_slice.ensures c.transpose_metadata.ensures)
