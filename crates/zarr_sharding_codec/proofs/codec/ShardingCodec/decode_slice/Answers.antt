use Rattle.std.proofs.Common.{◌∙◌, List, ℕ, refl, subst}
use Rattle.zarr_codecs_arrays.specs.Views.{elements_of}
use Rattle.zarr_codecs_meaning.specs.Decoding.{decoded}
use Rattle.zarr_codecs_meaning.specs.Places.{place_numbers}
use Rattle.zarr_sharding_codec.specs.Reading.{AreBytes, slice_cells}
use Rattle.zarr_sharding_codec.proofs.PartsRead.{lists_unrefused}
use Rattle.zarr_sharding_codec.proofs.WholeRead.{slice_whole, whole_cells}
use Rattle.zarr_sharding_codec.proofs.codec.ShardingCodec.decode_slice.Goals as goal

pub returns : goal.returns
returns g c =
    let inner = g.I.ArrayToBytesCodecTraits.meaning c.args.self.now.inner_codecs in
    let elements = elements_of c.args.array.elements.now in
    let shape = c.args.array.shape.now in
    let slice = c.args.slice.items in
    let r = c.decode_in_order.result in
    let lists = slice_whole inner elements shape slice r c.requires.fit c.requires.some c.decode_in_order.ensures in
    record { part = lists; no_source = λ count. lists_unrefused elements shape (slice_cells inner elements shape slice (place_numbers shape)) r count lists }

pub returns-then-is_as_is : goal.returns-then-is_as_is
returns-then-is_as_is g c =
    let inner = g.I.ArrayToBytesCodecTraits.meaning c.args.self.now.inner_codecs in
    let elements = elements_of c.args.array.elements.now in
    let shape = c.args.array.shape.now in
    let slice = c.args.slice.items in
    let found = subst (λ (s : List ℕ). AreBytes elements (decoded inner elements shape s) s) c.as_slice.ensures.value (c.is_as_is.ensures c.if-is_as_is.true) in
    record { part = record { cells = found.cells; is = whole_cells inner elements shape slice c.requires.fit c.requires.some ∙ found.is; lists = found.lists }; no_source = λ count. refl }
