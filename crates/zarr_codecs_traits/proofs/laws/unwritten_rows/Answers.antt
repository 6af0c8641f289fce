use Rattle.zarr_codecs_traits.proofs.WorkedWrites.{index_asked, no_index, no_whole, room_left, whole_asked}
use Rattle.zarr_codecs_traits.proofs.laws.unwritten_rows.Goals as goal

pub returns : goal.returns
returns c = record { index_asked = index_asked; no_index = no_index; no_whole = no_whole; whole_asked = whole_asked; room = room_left }
