-- Elements of one size put over those of a box of an array.
pub use Rattle.zarr_codecs_regions.proofs.BoxPuts.{length-numbers}
