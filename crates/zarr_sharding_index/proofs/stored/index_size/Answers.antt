use Rattle.std.proofs.Common.{◌∙◌, subst, sym, Err, Ok}
use Rattle.zarr_codecs_meaning.specs.Types.{DataType}
use Rattle.zarr_codecs_types.specs.Views.{type_of}
use Rattle.zarr_codecs_arrays.specs.declared.error.CodecError.{CodecError}
use Rattle.zarr_codecs_arrays.specs.declared.error.CodecError.TheVariants as error
use Rattle.zarr_codecs_traits.specs.Representations.{RepresentsArray}
use Rattle.zarr_codecs_traits.specs.declared.bytes_representation.BytesRepresentation.{BytesRepresentation}
use Rattle.zarr_codecs_traits.specs.declared.bytes_representation.BytesRepresentation.TheVariants.{FixedSize}
use Rattle.zarr_sharding_index.proofs.Sizes.{index_told, index_untold}
use Rattle.zarr_sharding_index.proofs.stored.index_size.Goals as goal

pub returns-then-size : goal.returns-then-size
returns-then-size g c =
    let index = g.X.ArrayToBytesCodecTraits.meaning c.args.codec.now in
    let shape = c.args.shape.now in
    let size = c.in-Ok-FixedSize.size in
    let found = subst (λ (known : BytesRepresentation). RepresentsArray index (type_of c.uint64.result) shape (Ok known)) c.in-Ok-FixedSize.field-0-is c.in-Ok-FixedSize.ensures in
    let told = subst (λ (type : DataType). RepresentsArray index type shape (Ok (FixedSize size))) c.uint64.ensures found in
    index_told index shape size told.fit told.is told.short (sym c.have_few_bytes.ensures ∙ c.if-not-have_few_bytes.false) c.if-size.true

pub returns-in-Err-Size : goal.returns-in-Err-Size
returns-in-Err-Size g c =
    let index = g.X.ArrayToBytesCodecTraits.meaning c.args.codec.now in
    let shape = c.args.shape.now in
    let found = subst (λ (e : CodecError). RepresentsArray index (type_of c.uint64.result) shape (Err e)) c.in-Err-Size.field-0-is c.in-Err-Size.ensures in
    let long = subst (λ (type : DataType). RepresentsArray index type shape (Err error.Size)) c.uint64.ensures found in
    index_untold index shape (sym c.have_few_bytes.ensures ∙ c.if-not-have_few_bytes.false) long
