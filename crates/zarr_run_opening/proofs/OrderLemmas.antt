-- Arrays that get a write order.
use Rattle.std.proofs.Common.{◌≡◌, ◌∙◌, refl, sym, ap, ⊎_elim, true}
use Rattle.std.proofs.lemmas.Bool.{or_cases}
use Rattle.zarr_codecs_meaning.specs.Chains.{ByteCodec, Chain}
use Rattle.zarr_codecs_meaning.specs.Fits.{is_plain}
use Rattle.zarr_codecs_options.specs.declared.subchunk_write_order.SubchunkWriteOrder.{SubchunkWriteOrder}
use Rattle.zarr_codecs_options.specs.declared.subchunk_write_order.SubchunkWriteOrder.TheVariants.{Random, C, Unordered}
use Rattle.zarr_sharding_inner.specs.Orders as shard
use Rattle.zarr_sharding_chains.specs.ArrayChains.{array_function, array_meaning}
use Rattle.zarr_sharding_chains.specs.declared.array_chain.ArrayChain.{ArrayChain}
use Rattle.zarr_sharding_chains.proofs.Functions.{plain_function}
use Rattle.zarr_array_core.specs.Views.{codecs_of, document_of}
use Rattle.zarr_array_core.specs.declared.array_core.ArrayCore.{ArrayCore}
use Rattle.zarr_array_meaning.specs.Documents.{Document}
use Rattle.zarr_run_meaning.specs.Worlds.{is_row_major}
use Rattle.zarr_run_opening.specs.Sessions.{FollowsOrder}

row_major_same : (order : SubchunkWriteOrder) → is_row_major order ≡ shard.is_row_major order
row_major_same Random = refl
row_major_same C = refl
row_major_same Unordered = refl

-- an array whose codecs make a function where the order is row-major follows it
pub follows_order : {B : Type 0} (meaning : B → ByteCodec) (order : SubchunkWriteOrder) (array : ArrayCore (ArrayChain B)) → (shard.is_row_major order ≡ true → array_function (codecs_of array) ≡ true) → FollowsOrder meaning order array
follows_order meaning order array exact = λ either. ⊎_elim
    (λ plain. plain_function meaning (codecs_of array) plain)
    (λ major. exact (sym (row_major_same order) ∙ major))
    (or_cases (is_plain (document_of (array_meaning meaning) array).chain) (is_row_major order) either)

-- an array whose codecs were replaced by others, and these by codecs of the same chain as the first, says what it said
pub same_document : {B : Type 0} (meaning : B → ByteCodec) (old mid new : ArrayCore (ArrayChain B)) (others codecs : ArrayChain B)
    → document_of (array_meaning meaning) mid ≡ record (document_of (array_meaning meaning) old) { chain = array_meaning meaning others }
    → document_of (array_meaning meaning) new ≡ record (document_of (array_meaning meaning) mid) { chain = array_meaning meaning codecs }
    → array_meaning meaning codecs ≡ array_meaning meaning (codecs_of old) → document_of (array_meaning meaning) new ≡ document_of (array_meaning meaning) old
same_document meaning old mid new others codecs first second same =
    second
    ∙ ap (λ (d : Document). record d { chain = array_meaning meaning codecs }) first
    ∙ ap (λ (chain : Chain). record (document_of (array_meaning meaning) old) { chain = chain }) same
