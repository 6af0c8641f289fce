-- Sessions that run lines.
use Rattle.zarr_codecs_meaning.specs.Chains.{ByteCodec}
use Rattle.zarr_codecs_metadata.specs.Chains.{ReadsCodecs}
use Rattle.zarr_run_meaning.specs.Worlds.{World}
use Rattle.zarr_run_opening.specs.Sessions.{State, IsIn}

-- from each world that the old state is in, lines lead to one that the new state is in, and these two are so related
abbrev pub LeadsTo : {B : Type 0} → (B → ByteCodec) → ReadsCodecs → State B → State B → (World → World → Type 0) → Type 0
LeadsTo meaning reads old new are = (before : World) → IsIn meaning reads old before → (after : World) × IsIn meaning reads new after × are before after
