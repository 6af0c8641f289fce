-- What a write of some subchunks makes of a shard's pairs and its data part: slices are appended, and pairs replaced.
use Rattle.std.specs.Prelude.{ℕ, ◌+◌, ◌<◌, List, [], ◌∷◌, ◌++◌, length, get_or, slice_set, Option}
use Rattle.zarr_codecs_meaning.specs.Types.{Cell, Elements}
use Rattle.zarr_codecs_meaning.specs.Chains.{Chain}
use Rattle.zarr_codecs_meaning.specs.Encoding.{Pair, Piece, slice_bytes, pair_at}
use Rattle.zarr_codecs_meaning.specs.Standing.{SliceStands, Slices, Standing, IsEncoding, StandsBy}
use Rattle.zarr_codecs_meaning.specs.Standing.Slices.{standing_slices, encoded_slices}

-- the number of a subchunk, and the slice that it is encoded as, or None where it became all fill
abbrev pub Change : Type 0
Change = ℕ × Option (List ℕ)

-- the bytes that changes append to the data part
abbrev pub appended : List Change → List ℕ
appended [] = []
appended (change ∷ changes) = slice_bytes change.1 ++ appended changes

-- the pairs after changes whose slices are appended from an offset on
abbrev pub pairs_after : ℕ → List Change → List Pair → List Pair
pairs_after offset [] pairs = pairs
pairs_after offset (change ∷ changes) pairs = pairs_after (offset + length (slice_bytes change.1)) changes (slice_set pairs change.0 (pair_at offset change.1))

-- no subchunk
abbrev pub no_piece : Piece
no_piece = ([], [])

-- the pieces, those that are changed as they are wanted
abbrev pub pieces_after : List Piece → List Change → List Piece → List Piece
pieces_after wanted [] pieces = pieces
pieces_after wanted (change ∷ changes) pieces = pieces_after wanted changes (slice_set pieces change.0 (get_or wanted change.0 no_piece))

-- a slice of a shard is to stand for its subchunk's cells, or it is to be what encoding writes
abbrev pub SliceStandsBy : Slices → Chain → Elements → Standing
SliceStandsBy slices inner elements = elim slices [ standing_slices ↦ StandsBy standing_slices inner elements | encoded_slices ↦ IsEncoding inner elements ]

-- each change is of a subchunk that is there, and its slice stands for what is wanted
abbrev pub ChangesStand : Standing → Cell → List Piece → List Change → Type 0
ChangesStand inner fill wanted [] = Unit {0}
ChangesStand inner fill wanted (change ∷ changes) =
    (change.0 < length wanted) × SliceStands inner fill (get_or wanted change.0 no_piece) change.1 × ChangesStand inner fill wanted changes
