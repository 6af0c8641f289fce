-- Commands that name no array that is held.
use Rattle.std.proofs.Common.{◌≡◌, ℕ, List, refl, sym, subst, inl, Option, None}
use Rattle.zarr_grids_boxes.specs.Boxes.{Region}
use Rattle.zarr_codecs_meaning.specs.Chains.{ByteCodec}
use Rattle.zarr_codecs_metadata.specs.Chains.{ReadsCodecs}
use Rattle.zarr_codecs_options.specs.declared.codec_options.CodecOptions.{CodecOptions}
use Rattle.zarr_codecs_types.specs.Given.{GivenCells}
use Rattle.zarr_array_meaning.specs.StoreMaps.{StoreMap}
use Rattle.zarr_run_meaning.specs.declared.cause.Cause.{Cause}
use Rattle.zarr_run_meaning.specs.declared.cause.Cause.TheVariants as cause
use Rattle.zarr_run_meaning.specs.Requests.{Target, Refusal, refusal, Request, write, read, erase, compact, rewrite, path_of, refused}
use Rattle.zarr_run_meaning.specs.Steps.{RefusesHeld, RefusesWrite, RefusesRead, RefusesErase, RefusesCompact, RefusesRewrite, Refuses, RefusesAt}
use Rattle.zarr_run_meaning.specs.Worlds.{Held, World, held_at}
use Rattle.zarr_run_opening.specs.Sessions.{Arrays, array_at, IsIn, StepsFrom}
use Rattle.zarr_run_opening.proofs.HoldsLemmas.{agreed_none}
use Rattle.zarr_run_session.specs.Finding.{NotFound}
use Rattle.zarr_run_session.proofs.HeldSteps.{stays_at}

-- where no array is held, a command on one is refused
held_none : (o : Option Held) (refuses : Held → Refusal → World → World → Type 0) (w : World) → o ≡ None → RefusesHeld o refuses (refusal cause.NoArray 0) w w
held_none o refuses w none = let P : Option Held → Type 0 = λ o. RefusesHeld o refuses (refusal cause.NoArray 0) w w in subst P (sym none) (stays_at cause.NoArray 0 w.refused w refl (inl refl))

module _ (B : Type 0) (meaning : B → ByteCodec) (reads : ReadsCodecs) (arrays : Arrays B) (store : StoreMap) (n : ℕ) (path : List ℕ) where
  not_found : (request : Request) (c : Cause) → NotFound arrays (path_of request) c → ((w : World) → held_at (path_of request) w.arrays ≡ None → Refuses reads request (refusal cause.NoArray 0) w w)
      → (w : World) → IsIn meaning reads (arrays, (store, n)) w → RefusesAt reads request (refusal c 0) w w
  not_found request cause.Path none refuses w k = (none, stays_at cause.Path 0 w.refused w refl (inl refl))
  not_found request cause.NoArray none refuses w k =
      (none.0, refuses w (agreed_none B meaning reads store (array_at arrays (path_of request)) (held_at (path_of request) w.arrays) (k.agree (path_of request)) none.1))
  not_found request c none refuses w k = absurd none

  -- nothing changes
  pub write_not_found : (target : Target) (given : GivenCells) (options : CodecOptions) (c : Cause) → NotFound arrays path c
      → StepsFrom (meaning, reads) (arrays, (store, n)) (write path target given options, refused c 0) (arrays, (store, n))
  write_not_found target given options c none w k =
      (w, not_found (write path target given options) c none (λ v e. held_none (held_at path v.arrays) (RefusesWrite (record { target = target; cells = given; options = options })) v e) w k, k)

  pub read_not_found : (target : Target) (options : CodecOptions) (c : Cause) → NotFound arrays path c
      → StepsFrom (meaning, reads) (arrays, (store, n)) (read path target options, refused c 0) (arrays, (store, n))
  read_not_found target options c none w k =
      (w, not_found (read path target options) c none (λ v e. held_none (held_at path v.arrays) (RefusesRead target) v e) w k, k)

  pub erase_not_found : (chunks : Region) (c : Cause) → NotFound arrays path c
      → StepsFrom (meaning, reads) (arrays, (store, n)) (erase path chunks, refused c 0) (arrays, (store, n))
  erase_not_found chunks c none w k =
      (w, not_found (erase path chunks) c none (λ v e. held_none (held_at path v.arrays) (RefusesErase chunks) v e) w k, k)

  pub compact_not_found : (chunk : List ℕ) (options : CodecOptions) (c : Cause) → NotFound arrays path c
      → StepsFrom (meaning, reads) (arrays, (store, n)) (compact path chunk options, refused c 0) (arrays, (store, n))
  compact_not_found chunk options c none w k =
      (w, not_found (compact path chunk options) c none (λ v e. held_none (held_at path v.arrays) (RefusesCompact chunk) v e) w k, k)

  pub rewrite_not_found : (options : CodecOptions) (c : Cause) → NotFound arrays path c
      → StepsFrom (meaning, reads) (arrays, (store, n)) (rewrite path options, refused c 0) (arrays, (store, n))
  rewrite_not_found options c none w k =
      (w, not_found (rewrite path options) c none (λ v e. held_none (held_at path v.arrays) (RefusesRewrite options) v e) w k, k)
