use Rattle.zarr_grids_boxes.proofs.Sharing.{share_place-has, share_place-of}
use Rattle.zarr_grids_boxes.proofs.laws.shared_places.Goals as goal

pub returns : goal.returns
returns c = λ ss es ts us. (share_place-has ss es ts us, share_place-of ss es ts us)
