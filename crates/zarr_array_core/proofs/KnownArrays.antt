-- What is known of each array in code.
use Rattle.std.proofs.Common.{◌≡◌, length}
use Rattle.zarr_grids_boxes.specs.Boxes.{Region}
use Rattle.zarr_grids_cover.specs.Boxed.{AreBoxed}
use Rattle.zarr_codecs_meaning.specs.Laws.{IsLawfulChain}
use Rattle.zarr_codecs_traits.specs.declared.array_to_bytes.ArrayToBytesCodecTraits as codecs
use Rattle.zarr_array_core.specs.Arrays.{array_of}
use Rattle.zarr_array_core.specs.Views.{path_of}
use Rattle.zarr_array_core.specs.declared.array_core.ArrayCore.{ArrayCore}
use Rattle.zarr_array_core.proofs.ChunkBoxes.{key_apart}
use Rattle.zarr_array_core.proofs.Rewritten.{IsArray, IsRewrite}

pub array_known : {C : Type 0} (c : codecs.Ghosts C) → ((codec : C) → IsLawfulChain (c.meaning codec)) → (array : ArrayCore C) → IsArray (array_of c array)
array_known c lawful array = record {
  good = record { lawful = lawful array.codecs; fill = array.elements.fills };
  apart = record { keys = λ c d box other below over ne. key_apart (path_of array) array.grid array.keys c d box other below over ne };
}

pub rewrite_known : {C : Type 0} (c : codecs.Ghosts C) → ((codec : C) → IsLawfulChain (c.meaning codec)) → (array : ArrayCore C) (chunks : Region) → length chunks.start ≡ length chunks.shape → AreBoxed (array_of c array).document.grid chunks → IsRewrite (array_of c array) chunks
rewrite_known c lawful array chunks rank boxed = record { known = array_known c lawful array; rank = rank; boxed = boxed }
