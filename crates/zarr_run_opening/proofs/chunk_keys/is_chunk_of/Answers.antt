use Rattle.std.proofs.Common.{◌≡◌, ◌∙◌, List, ℕ, sym, ap, subst}
use Rattle.std.proofs.lemmas.Bool.{false≢true}
use Rattle.std.proofs.lemmas.Slice.Eq.{bytes_eq-Decides}
use Rattle.zarr_grids_chunks.specs.Grids.{Grid, IsInGrid}
use Rattle.zarr_grids_dimensions.specs.Dimensions.{grid_of}
use Rattle.zarr_sharding_chains.specs.ArrayChains.{array_meaning}
use Rattle.zarr_array_core.specs.Views.{document_of}
use Rattle.zarr_grids_keys.specs.Encodings.{keys_of}
use Rattle.zarr_grids_keys.specs.Keys.{chunk_key, has_flat_suffix}
use Rattle.zarr_run_opening.proofs.ChunkKeyLemmas.{no_flat, found_within, found_key, is_found}
use Rattle.zarr_run_opening.proofs.chunk_keys.is_chunk_of.Goals as goal

pub returns-in-Default : goal.returns-in-Default
returns-in-Default g c = (
  λ t. absurd (false≢true t),
  λ k. absurd (no_flat c.args.path.now c.args.key.now (document_of (array_meaning g.B.BytesToBytesCodecTraits.meaning) c.args.array.now) c.keys-keys.result.now c.keys-keys.ensures (ap (λ x. has_flat_suffix (keys_of x)) c.in-Default.is) c.requires.document k),
)

pub returns-in-V2 : goal.returns-in-V2
returns-in-V2 g c = (
  λ t. absurd (false≢true t),
  λ k. absurd (no_flat c.args.path.now c.args.key.now (document_of (array_meaning g.B.BytesToBytesCodecTraits.meaning) c.args.array.now) c.keys-keys.result.now c.keys-keys.ensures (ap (λ x. has_flat_suffix (keys_of x)) c.in-V2.is) c.requires.document k),
)

pub returns-then-not-is_in_grid : goal.returns-then-not-is_in_grid
returns-then-not-is_in_grid g c =
    let document = document_of (array_meaning g.B.BytesToBytesCodecTraits.meaning) c.args.array.now in
    let chunk : List ℕ = c.in_ok-chunk.chunk.items in (
      λ t. absurd (false≢true t),
      λ k.
          let within = found_within c.args.path.now c.args.key.now document c.keys-keys.result.now c.in-DefaultSuffix.encoding c.grid.result.now chunk c.grid.ensures.grid c.keys-keys.ensures c.in-DefaultSuffix.is c.in_ok-chunk.ensures k in
          let P : Grid → Type 0 = λ grid. IsInGrid grid chunk within.0 in
          let Q : List ℕ → Type 0 = λ xs. IsInGrid (grid_of c.dimensions.result.now) xs within.0 in
          absurd (false≢true (sym c.if-not-is_in_grid.true ∙ c.is_in_grid.ensures.1 (within.0, subst Q (sym c.deref.ensures.value) (subst P (sym (c.dimensions.ensures ∙ c.grid.ensures.grid)) within.1)))),
    )

pub returns : goal.returns
returns g c =
    let document = document_of (array_meaning g.B.BytesToBytesCodecTraits.meaning) c.args.array.now in
    let chunk : List ℕ = c.in_ok-chunk.chunk.items in
    let b = c.is_in_grid.ensures.0 c.if-not-is_in_grid.false in
    let P : Grid → Type 0 = λ grid. IsInGrid grid chunk b.0 in
    let Q : List ℕ → Type 0 = λ xs. IsInGrid (grid_of c.dimensions.result.now) xs b.0 in
    let within = subst P (c.dimensions.ensures ∙ c.grid.ensures.grid) (subst Q c.deref.ensures.value b.1) in
    let own : c.as_str.result.now ≡ chunk_key c.args.path.now (keys_of c.keys-keys.result.now) chunk = c.as_str.ensures.value ∙ c.in_ok-own.ensures ∙ ap (chunk_key c.args.path.now (keys_of c.keys-keys.result.now)) c.deref-2.ensures.value in (
      λ t. is_found c.args.path.now c.args.key.now document c.keys-keys.result.now c.in-DefaultSuffix.encoding c.grid.result.now chunk c.grid.ensures.grid c.keys-keys.ensures c.in-DefaultSuffix.is c.in_ok-chunk.ensures (b.0, within) (sym own ∙ (bytes_eq-Decides _ _).0 (sym c.eq.ensures ∙ t)),
      λ k. c.eq.ensures ∙ (bytes_eq-Decides _ _).1 (own ∙ found_key c.args.path.now c.args.key.now document c.keys-keys.result.now c.in-DefaultSuffix.encoding c.grid.result.now chunk c.grid.ensures.grid c.keys-keys.ensures c.in-DefaultSuffix.is c.in_ok-chunk.ensures k),
    )
