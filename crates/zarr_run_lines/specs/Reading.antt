-- Reading lines up to a limit, and keeping answers before they are written.
use Rattle.std.specs.Prelude.{◌≡◌, ◌≢◌, ℕ, ◌+◌, ◌≤◌, List, [], ◌++◌, length, take, Option, Some}
use Rattle.std.specs.Io.BufRead.{first_piece, drop_through}
use Rattle.std.specs.Io.KnownBytes.{Appends}
use Rattle.zarr_run_meaning.specs.Worlds.{World}
use Rattle.zarr_run_lines.specs.Lines.{lines_of, Setting, Output, RunsLines}

-- a reader: the bytes that it has, if they are known, and how many may still be read
pub record Reader : Type 0 where
  pub known : Option (List ℕ)
  pub limit : ℕ

-- a reader of these bytes, up to a limit
abbrev pub up_to : Option (List ℕ) → ℕ → Reader
up_to known limit = record { known = known; limit = limit }

-- of the bytes that are left, a reader has one more than the limit
abbrev pub IsLeft : Reader → List ℕ → Type 0
IsLeft reader rest = reader.known ≡ Some (take (reader.limit + 1) rest)

-- a reader gave its first line
pub record TakesLine (old new : Reader) (line rest : List ℕ) : Type 0 where
  pub some : rest ≢ []
  pub first : line ≡ first_piece 10 rest
  pub left : IsLeft new (drop_through 10 rest)
  pub count : length rest + new.limit ≡ length (drop_through 10 rest) + old.limit

-- how far a reading has come: these lines were taken
pub record HasRead (input : Option (List ℕ)) (left : Reader) (lines : ℕ) (done : List (List ℕ)) : Type 0 where
  pub number : length done + lines ≤ 1048576
  pub first : (text : List ℕ) → input ≡ Some text → (rest : List ℕ) × IsLeft left rest × (lines_of text ≡ done ++ lines_of rest) × (length text + left.limit ≤ 4294967296 + length rest)

-- these lines were run, and an output has grown by their answers
pub record HasRun (setting : Setting) (done : List (List ℕ)) (written : Output) (old new : World) : Type 0 where
  pub out : List ℕ
  pub ran : RunsLines setting done old new out
  pub answers : Appends written.before written.after out
