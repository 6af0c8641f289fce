-- What a list holds at a place after others were put at some of its places.
pub use Rattle.zarr_codecs_regions.proofs.PutPlaces.{WasKept, WasPut, length-put, put_cases}
