-- What writing a box of cells makes of the chunks that it intersects.
use Rattle.std.specs.Prelude.{◌≡◌, ◌⊎◌, ℕ, ◌^◌, ◌≤◌, List, [], length, get_or, replicate, Option, Some, None, Bool, IsTrue, true, false, not, ◌&&◌, ◌||◌, if◌then◌else◌, is_some, unwrap_or, MatchBool, MatchOption}
use Rattle.zarr_grids_boxes.specs.Boxes.{Region, product, is_in_box}
use Rattle.zarr_grids_boxes.specs.Cuts.{overlapped, relative}
use Rattle.zarr_grids_chunks.specs.Grids.{IsInGrid}
use Rattle.zarr_codecs_meaning.specs.Types.{Cell, is_fill}
use Rattle.zarr_codecs_meaning.specs.Chunks.{chunk_decoded}
use Rattle.zarr_codecs_meaning.specs.Decoding.{opens}
use Rattle.zarr_codecs_options.specs.declared.codec_options.CodecOptions.{CodecOptions}
use Rattle.zarr_codecs_meaning.specs.Encoding.{encoded}
use Rattle.zarr_codecs_meaning.specs.Fits.{is_plain}
use Rattle.zarr_codecs_meaning.specs.Partial.{encodes_in_part}
use Rattle.zarr_codecs_meaning.specs.Refusals.{CodecRefuses, PassesIndex}
use Rattle.zarr_codecs_meaning.specs.Laws.{AreCells}
use Rattle.zarr_codecs_meaning.specs.Standing.{Stands, ChunkStands}
use Rattle.zarr_codecs_traits.specs.Indexers.{numbers_of}
use Rattle.zarr_codecs_traits.specs.PartWriting.{AfterWrite, PartsRefused, PassesLength, StopsPart, WholeRefused, after_write}
use Rattle.zarr_array_meaning.specs.Arrays.{value_at}
use Rattle.zarr_array_meaning.specs.Boxes.{cell_of_box, lies_in_any, replaced_in}
use Rattle.zarr_array_meaning.specs.Chunks.{stored_at, fits_box, decoded_in, part_at, ReadsCell, holds_box, is_listed, KeepsOtherKeys}
use Rattle.zarr_array_meaning.specs.Documents.{Document}
use Rattle.zarr_array_meaning.specs.ElementBytes.{KeepsBytes}
use Rattle.zarr_array_meaning.specs.Standing.{ChunkStandsAt, ChunkTightAt, IsLossless, AreValues}
use Rattle.zarr_array_meaning.specs.StoreMaps.{StoreMap}
use Rattle.zarr_array_meaning.specs.Writes.{Write}

-- whether a write may encode a chunk in part: the option says so, a part of the chunk is to stay, and the chain can
abbrev pub may_be_in_part : Document → CodecOptions → Region → Region → Bool
may_be_in_part document options region box = options.experimental_partial_encoding && (not (holds_box region box) && encodes_in_part document.chain)

-- whether a chunk is written in part: the write may encode it so, and the chain makes no shard
abbrev pub is_in_part : Document → CodecOptions → Region → Region → Bool
is_in_part document options region box = may_be_in_part document options region box && is_plain document.chain

-- whether a write puts a part of a chunk into the chunk's shard: it may encode it so, and the chain makes a shard
abbrev pub is_into_shard : Document → CodecOptions → Region → Region → Bool
is_into_shard document options region box = may_be_in_part document options region box && not (is_plain document.chain)

-- whether a chunk that is written has a key even if all its cells are fill: it is written in part, or empty chunks are stored; a shard into which a part was put has none
abbrev pub stores_fill : Document → CodecOptions → Region → Region → Bool
stores_fill document options region box = (options.store_empty_chunks && not (is_into_shard document options region box)) || is_in_part document options region box

-- whether what is stored for a chunk opens: nothing, or a value that can be read at places; through `bytes` it is one of the chunk's length, whatever its cells are
abbrev pub opens_in : Document → Region → Option (List ℕ) → Bool
opens_in document box stored = elim stored [ None ↦ true | Some value ↦ opens document.chain document.elements box.shape value ]

-- whether cells may be put into what is stored for a chunk: all of it is decoded; a chunk that is written in part only has to open, and no stored cell is tested
abbrev pub takes_cells : Document → CodecOptions → Region → Region → Option (List ℕ) → Bool
takes_cells document options region box stored = if is_in_part document options region box then opens_in document box stored else is_some (chunk_decoded document.chain document.elements box.shape stored)

-- the numbers in a chunk of the places that a box shares with it
abbrev pub shared_numbers : Region → Region → List ℕ
shared_numbers region box = numbers_of box.shape (relative (overlapped region box) box.start)

-- what is stored for a chunk stops a write that puts a part of it into its shard: the value can't be read at all, a subchunk that the box meets isn't decoded, or a present slice lies outside the shard's data part. The subchunks that the box doesn't meet don't matter
abbrev pub StopsInto : Document → Region → Region → Option (List ℕ) → Type 0
StopsInto document region box stored = MatchOption stored ⊥ (λ value. StopsPart document.chain document.elements box.shape value (shared_numbers region box))

-- what is stored for a chunk takes the cells of a write
abbrev pub Takes : Document → CodecOptions → Region → Region → Option (List ℕ) → Type 0
Takes document options region box stored =
    MatchBool (is_into_shard document options region box) (¬ StopsInto document region box stored) (takes_cells document options region box stored ≡ true)

-- what is stored for a chunk doesn't take them
abbrev pub Loses : Document → CodecOptions → Region → Region → Option (List ℕ) → Type 0
Loses document options region box stored =
    MatchBool (is_into_shard document options region box) (StopsInto document region box stored) (takes_cells document options region box stored ≡ false)

-- the cell that is read at a place of a chunk, and the fill value where none can be
abbrev pub cell_read : Document → Region → Option (List ℕ) → List ℕ → Cell
cell_read document box stored place = get_or (unwrap_or (part_at document box stored place) []) 0 document.elements.fill

-- the cell that a write gives at a place of its box
abbrev pub given_cell : Write → List ℕ → Cell
given_cell write place = cell_of_box write.region write.cells write.array.document.elements.fill place

-- whether a write puts a part of a chunk into the chunk's shard
abbrev pub goes_into_shard : Write → Region → Bool
goes_into_shard write box = is_into_shard write.array.document write.options write.region box

-- whether a write gives a chunk a key even if all its cells are fill
abbrev pub keeps_fill : Write → Region → Bool
keeps_fill write box = stores_fill write.array.document write.options write.region box

-- the cells of a chunk after a write of a box: the given ones in the box, and those that are read where cells are to stay, or the fill value where none can be. What is stored takes them; where a part is put into a shard, only that of a write that is done is known to
pub record ChunkBecomes (write : Write) (box : Region) (stored : Option (List ℕ)) (cells : List Cell) : Type 0 where
  pub many : length cells ≡ product box.shape
  pub written : (place : List ℕ) → is_in_box write.region.start write.region.shape place ≡ true → is_in_box box.start box.shape place ≡ true
      → cell_of_box box cells write.array.document.elements.fill place ≡ given_cell write place
  pub takes : goes_into_shard write box ≡ false → holds_box write.region box ≡ false → takes_cells write.array.document write.options write.region box stored ≡ true
  pub kept : holds_box write.region box ≡ false → (place : List ℕ) → is_in_box write.region.start write.region.shape place ≡ false → is_in_box box.start box.shape place ≡ true
      → cell_of_box box cells write.array.document.elements.fill place ≡ cell_read write.array.document box stored place

-- a chunk of which a part is to stay is damaged
pub record IsPartDamaged (write : Write) (box : Region) (stored : Option (List ℕ)) : Type 0 where
  pub fit : fits_box write.array.document box ≡ true
  pub part : holds_box write.region box ≡ false
  pub lost : Loses write.array.document write.options write.region box stored

-- what a write puts into what is stored for a chunk, whose cells are then these
abbrev pub part_write : Write → Region → Option (List ℕ) → List Cell → AfterWrite
part_write write box stored cells = after_write (shared_numbers write.region box) stored cells

-- a shard isn't decoded, and there is no room behind it for the new slices of the subchunks that the box meets: put there, they would make 2^63 bytes or more
pub record LacksRoom (write : Write) (box : Region) (stored : Option (List ℕ)) : Type 0 where
  pub fit : fits_box write.array.document box ≡ true
  pub into : goes_into_shard write box ≡ true
  pub undecoded : decoded_in write.array.document box stored ≡ None
  pub passes : (cells : List Cell) × ChunkBecomes write box stored cells × PassesLength write.array.document.chain write.array.document.elements box.shape (part_write write box stored cells)

-- the chunk's new cells are encoded: cells that are all fill only where such a chunk is stored
abbrev pub IsEncodedFor : Write → Region → List Cell → Type 0
IsEncodedFor write box cells = goes_into_shard write box ≡ false → keeps_fill write box ≡ false → is_fill write.array.document.elements.fill cells ≡ false

-- the caller's codec refuses what the chunk's new cells call for: all of them, or, where a part is put into the chunk's shard, what the subchunks call for that the box meets, and all where there is no room behind the shard for their new slices
abbrev pub RefusesCells : Write → Region → Option (List ℕ) → List Cell → Type 0
RefusesCells write box stored cells =
    let document = write.array.document in
    let part = part_write write box stored cells in
    let whole = WholeRefused document.chain document.elements box.shape cells in
    MatchBool (goes_into_shard write box) (PartsRefused document.chain document.elements box.shape part ⊎ (PassesLength document.chain document.elements box.shape part × whole))
    (CodecRefuses document.chain document.elements box.shape cells)

-- the caller's codec refuses bytes that encoding the chunk's new cells calls for
pub record IsCodecRefused (write : Write) (box : Region) (stored : Option (List ℕ)) : Type 0 where
  pub fit : fits_box write.array.document box ≡ true
  pub cells : List Cell
  pub becomes : ChunkBecomes write box stored cells
  pub called : IsEncodedFor write box cells
  pub refuses : RefusesCells write box stored cells

-- an offset or a length passes where it is written, or the chunk's value has 2^63 bytes or more; new slices put behind a shard may make it so long
pub record IsOversized (write : Write) (box : Region) (stored : Option (List ℕ)) : Type 0 where
  pub fit : fits_box write.array.document box ≡ true
  pub cells : List Cell
  pub becomes : ChunkBecomes write box stored cells
  pub called : IsEncodedFor write box cells
  pub passes : PassesIndex write.array.document.chain write.array.document.elements box.shape cells
      ⊎ ((value : List ℕ) × (encoded write.array.document.chain write.array.document.elements box.shape cells ≡ Some value) × (2 ^ 63 ≤ length value))
      ⊎ ((goes_into_shard write box ≡ true) × PassesLength write.array.document.chain write.array.document.elements box.shape (part_write write box stored cells))

-- a chunk that was written has its new cells, and a key exactly where these are not all fill or such a chunk is stored, whatever the chain keeps of them; its value is what encoding makes of these cells, where that depends on them alone (`exact`), as without shards, and the box holds the whole chunk or the chunk was decoded before. Where a part was put into its shard, it has a key exactly where its cells aren't all fill, if what was stored stood for cells; where it was written in part, each other element keeps its bytes, also where they are no value
pub record IsKeyed (write : Write) (box : Region) (old new : Option (List ℕ)) : Type 0 where
  pub cells : List Cell
  pub becomes : ChunkBecomes write box old cells
  pub key : goes_into_shard write box ≡ false → is_some new ≡ (keeps_fill write box || not (is_fill write.array.document.elements.fill cells))
  pub taken : goes_into_shard write box ≡ true → IsLossless write.array.document → (before : List Cell) → AreCells write.array.document.elements box.shape before
      → ChunkStands write.array.document.chain write.array.document.elements box.shape old before → is_some new ≡ not (is_fill write.array.document.elements.fill cells)
  pub encodes : IsTrue write.array.exact → goes_into_shard write box ≡ false → (holds_box write.region box ≡ false → is_some (decoded_in write.array.document box old) ≡ true)
      → (value : List ℕ) → new ≡ Some value → encoded write.array.document.chain write.array.document.elements box.shape cells ≡ Some value
  pub bytes : is_in_part write.array.document write.options write.region box ≡ true → KeepsBytes write box old new

-- of these chunks each that is stored even if all its cells are fill has a key; no other has a value that stands for the fill value alone
pub record HasKeys (write : Write) (chunks : List (List ℕ)) (store : StoreMap) : Type 0 where
  pub stored : (chunk : List ℕ) (box : Region) → IsInGrid write.array.document.grid chunk box → keeps_fill write box ≡ true → is_listed chunks chunk ≡ true
      → is_some (value_at write.array store chunk) ≡ true
  pub erased : IsLossless write.array.document → (chunk : List ℕ) (box : Region) → IsInGrid write.array.document.grid chunk box → goes_into_shard write box ≡ false → keeps_fill write box ≡ false → is_listed chunks chunk ≡ true
      → (value : List ℕ) → value_at write.array store chunk ≡ Some value
      → ¬ Stands write.array.document.chain write.array.document.elements box.shape value (replicate (product box.shape) write.array.document.elements.fill)

-- whatever was stored, each of these chunks is read as the given cells at the places of the box, and as before at its other places
abbrev pub ShowsWritten : Write → List (List ℕ) → StoreMap → StoreMap → Type 0
ShowsWritten write chunks old new = (chunk : List ℕ) (box : Region) (place : List ℕ) → IsInGrid write.array.document.grid chunk box → is_listed chunks chunk ≡ true → is_in_box box.start box.shape place ≡ true
    → MatchBool (is_in_box write.region.start write.region.shape place) (ReadsCell write.array.document box (value_at write.array new chunk) place (given_cell write place))
    (part_at write.array.document box (value_at write.array new chunk) place ≡ part_at write.array.document box (value_at write.array old chunk) place)

-- the cells of an array after those of a write were written to some of the chunks that its box intersects
abbrev pub written_over : Write → List (List ℕ) → (List ℕ → Cell) → List ℕ → Cell
written_over write chunks cells = replaced_in write.region (lies_in_any write.array.document.grid chunks) (given_cell write) cells

-- the cells of a box are given to some of the chunks that it intersects. Where the chain keeps every bit, each chunk is read so afterwards; one that stood for its cells stands for its new ones, and one whose slices are what encoding writes keeps such slices, where encoding depends on the cells alone (`exact`);
-- and one that lies in the box stands for the given cells, whatever was stored. Whatever the chain keeps, each chunk fits, one of which a part is to stay was not damaged, each has a key exactly where its new cells call for one, and only those chunks' keys changed; and where what encoding makes of cells depends on these alone (`exact`), each value is the encoding of its chunk's new cells, if the box holds the whole chunk or the chunk was decoded before
pub record WroteChunks (write : Write) (chunks : List (List ℕ)) (old new : StoreMap) : Type 0 where
  pub fit : (chunk : List ℕ) (box : Region) → IsInGrid write.array.document.grid chunk box → is_listed chunks chunk ≡ true → fits_box write.array.document box ≡ true
  pub undamaged : (chunk : List ℕ) (box : Region) → IsInGrid write.array.document.grid chunk box → is_listed chunks chunk ≡ true → holds_box write.region box ≡ false
      → Takes write.array.document write.options write.region box (value_at write.array old chunk)
  pub shows : IsLossless write.array.document → ShowsWritten write chunks old new
  pub keeps : IsLossless write.array.document → (cells : List ℕ → Cell) → AreValues write.array.document cells → (chunk : List ℕ) (box : Region) → IsInGrid write.array.document.grid chunk box
      → ChunkStandsAt write.array.document box (value_at write.array old chunk) cells → ChunkStandsAt write.array.document box (value_at write.array new chunk) (written_over write chunks cells)
  pub tight : IsTrue write.array.exact → IsLossless write.array.document → (cells : List ℕ → Cell) → AreValues write.array.document cells → (chunk : List ℕ) (box : Region) → IsInGrid write.array.document.grid chunk box
      → ChunkTightAt write.array.document box (value_at write.array old chunk) cells → ChunkTightAt write.array.document box (value_at write.array new chunk) (written_over write chunks cells)
  pub makes : IsLossless write.array.document → (chunk : List ℕ) (box : Region) → IsInGrid write.array.document.grid chunk box → is_listed chunks chunk ≡ true → holds_box write.region box ≡ true
      → ChunkStandsAt write.array.document box (value_at write.array new chunk) (given_cell write)
  pub others : KeepsOtherKeys write.array.path write.array.document chunks old new
  pub keys : HasKeys write chunks new
  pub keyed : (chunk : List ℕ) (box : Region) → IsInGrid write.array.document.grid chunk box → is_listed chunks chunk ≡ true → IsKeyed write box (value_at write.array old chunk) (value_at write.array new chunk)

-- some chunks are erased: they have no key, and no other key changed
pub record ErasedChunks (path : List ℕ) (document : Document) (chunks : List (List ℕ)) (old new : StoreMap) : Type 0 where
  pub gone : (chunk : List ℕ) → is_listed chunks chunk ≡ true → stored_at path document new chunk ≡ None
  pub others : KeepsOtherKeys path document chunks old new

-- ---- no two of these

-- no chunk that was written was damaged where a part of it is to stay; where the part is put into a shard, the subchunks that it doesn't meet don't matter
abbrev pub WrittenUndamaged : Type 0
WrittenUndamaged = (write : Write) (chunks : List (List ℕ)) (old new : StoreMap) (chunk : List ℕ) (box : Region)
    → WroteChunks write chunks old new → IsInGrid write.array.document.grid chunk box → is_listed chunks chunk ≡ true → IsPartDamaged write box (value_at write.array old chunk) → ⊥

-- two writes of the same cells over the same store leave keys to the same chunks of those that they wrote, whatever the chain keeps
abbrev pub WrittenKeysAlike : Type 0
WrittenKeysAlike = (write : Write) (chunks : List (List ℕ)) (old new other : StoreMap) (chunk : List ℕ) (box : Region)
    → WroteChunks write chunks old new → WroteChunks write chunks old other → IsInGrid write.array.document.grid chunk box → is_listed chunks chunk ≡ true → goes_into_shard write box ≡ false
    → length write.region.start ≡ length write.region.shape → length write.region.start ≡ length write.array.document.grid
    → is_some (value_at write.array new chunk) ≡ is_some (value_at write.array other chunk)

-- two values of a chunk, or none, are decoded, to the same cells at the places that lie outside a box
abbrev pub DecodesAlikeOutside : Document → Region → Region → Option (List ℕ) → Option (List ℕ) → Type 0
DecodesAlikeOutside document region box stored other = (a : List Cell) × (b : List Cell) × (decoded_in document box stored ≡ Some a) × (decoded_in document box other ≡ Some b)
    × ((place : List ℕ) → is_in_box region.start region.shape place ≡ false → is_in_box box.start box.shape place ≡ true
    → cell_of_box box a document.elements.fill place ≡ cell_of_box box b document.elements.fill place)

-- two writes of the same cells with the same options leave the same value of a chunk, or none, whatever was stored before: where a part of the chunk is to stay, the chunk has to be decoded before both, and that part alike. So a second write leaves the value of a first one, where the chunk is decoded before both, and what stays alike
abbrev pub RewrittenAlike : Type 0
RewrittenAlike = (write : Write) (chunks others : List (List ℕ)) (old new before after : StoreMap) (chunk : List ℕ) (box : Region)
    → IsTrue write.array.exact → WroteChunks write chunks old new → WroteChunks write others before after
    → IsInGrid write.array.document.grid chunk box → is_listed chunks chunk ≡ true → is_listed others chunk ≡ true → goes_into_shard write box ≡ false
    → length write.region.start ≡ length write.region.shape → length write.region.start ≡ length write.array.document.grid
    → (holds_box write.region box ≡ false → DecodesAlikeOutside write.array.document write.region box (value_at write.array old chunk) (value_at write.array before chunk))
    → value_at write.array new chunk ≡ value_at write.array after chunk
