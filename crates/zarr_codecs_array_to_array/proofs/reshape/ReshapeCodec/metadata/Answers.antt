use Rattle.zarr_codecs_array_to_array.specs.Views.{entries_of}
use Rattle.zarr_codecs_array_to_array.proofs.ReadsBack.{written_reshape}
use Rattle.zarr_codecs_array_to_array.proofs.reshape.ReshapeCodec.metadata.Goals as goal

pub returns-clause-reads_back : goal.returns-clause-reads_back
returns-clause-reads_back c = written_reshape c.reshape_metadata.result (entries_of c.args.self.now.shape) c.args.self.now.shape.is_one c.reshape_metadata.ensures
