-- Laws of boxes: what is read of them and written to them, whatever the chunks of the array are.
use Rattle.std.specs.Prelude.{◌≡◌, ◌⊎◌, ℕ, Bool, List, ◌∷◌, [], map, length, All, slice_get, if◌then◌else◌, Option, Some, true, false}
use Rattle.std.specs.List.{list_any}
use Rattle.zarr_grids_boxes.specs.Boxes.{Region, places, is_in_box}
use Rattle.zarr_grids_chunks.specs.Grids.{Grid, IsInGrid}
use Rattle.zarr_grids_keys.specs.Related.{is_related}
use Rattle.zarr_codecs_meaning.specs.Payloads.{Payload, cells_in}
use Rattle.zarr_codecs_meaning.specs.Types.{Cell, DataType}
use Rattle.zarr_codecs_metadata.specs.Chains.{ReadsCodecs}
use Rattle.zarr_codecs_options.specs.declared.codec_options.CodecOptions.{CodecOptions}
use Rattle.zarr_codecs_types.specs.Given.{GivenCells, given_in}
use Rattle.zarr_array_meaning.specs.Boxes.{cell_of_box}
use Rattle.zarr_array_meaning.specs.Standing.{IsLossless}
use Rattle.zarr_run_meaning.specs.declared.cause.Cause.TheVariants as cause
use Rattle.zarr_run_meaning.specs.Causes.{IsTarget}
use Rattle.zarr_run_meaning.specs.Requests.{Target, in_box, Request, write, read, Answer, done, cells as gives, refused}
use Rattle.zarr_run_meaning.specs.Runs.{Run}
use Rattle.zarr_run_meaning.specs.Steps.{Step}
use Rattle.zarr_run_meaning.specs.Tables.{Table, cell}
use Rattle.zarr_run_meaning.specs.Worlds.{Held, World, held_at}

-- ---- reads

-- a box and its cells, row-major
pub record BoxCells : Type 0 where
  pub region : Region
  pub cells : List Cell

-- in a world, a read of a box of the array at a path, or of a chunk with this box, may be answered with these cells
pub record MayRead (reads : ReadsCodecs) (world : World) (path : List ℕ) (box : BoxCells) : Type 0 where
  pub held : Held
  pub found : held_at path world.arrays ≡ Some held
  pub target : Target
  pub is : IsTarget held.document.grid target box.region
  pub options : CodecOptions
  pub payload : Payload
  pub lists : cells_in held.document.elements.type payload ≡ Some box.cells
  pub after : World
  pub step : Step reads world (read path target options) (gives payload) after

-- in one world, whatever is stored: two reads give the same cell at each place that lies in the boxes of both
abbrev pub ReadsAgree : Type 0
ReadsAgree = (reads : ReadsCodecs) (world : World) (path : List ℕ) (one two : BoxCells) (place : List ℕ) (other : Cell) → MayRead reads world path one → MayRead reads world path two
    → is_in_box one.region.start one.region.shape place ≡ true → is_in_box two.region.start two.region.shape place ≡ true
    → cell_of_box one.region one.cells other place ≡ cell_of_box two.region two.cells other place

-- whether a place lies in one of some boxes
abbrev pub lies_in_some : List ℕ → List BoxCells → Bool
lies_in_some place boxes = list_any (λ box. is_in_box box.region.start box.region.shape place) boxes

-- the cell at a place, of the first of some boxes that it lies in
abbrev pub cell_among : Cell → List BoxCells → List ℕ → Cell
cell_among other [] place = other
cell_among other (box ∷ boxes) place = if is_in_box box.region.start box.region.shape place then cell_of_box box.region box.cells other place else cell_among other boxes place

-- each place of a box lies in one of some boxes
abbrev pub LiesInSome : Region → List BoxCells → Type 0
LiesInSome region boxes = (place : List ℕ) → is_in_box region.start region.shape place ≡ true → lies_in_some place boxes ≡ true

-- in one world, whatever is stored: the cells of a box are those of its parts put together. The box has a length for each start; its parts are boxes that are read, and each place of it lies in one of them
abbrev pub ReadsOfParts : Type 0
ReadsOfParts = (reads : ReadsCodecs) (world : World) (path : List ℕ) (whole : BoxCells) (parts : List BoxCells) (other : Cell) → length whole.region.start ≡ length whole.region.shape
    → MayRead reads world path whole → All (MayRead reads world path) parts → LiesInSome whole.region parts
    → whole.cells ≡ map (cell_among other parts) (places whole.region.start whole.region.shape)

-- and if its parts are read, no read of the box is refused for damage or because a chunk doesn't fit
abbrev pub PartsReadWhole : Type 0
PartsReadWhole = (reads : ReadsCodecs) (world after : World) (path : List ℕ) (region : Region) (parts : List BoxCells) (options : CodecOptions) (n : ℕ) → All (MayRead reads world path) parts → LiesInSome region parts
    → (Step reads world (read path (in_box region) options) (refused cause.Damage n) after → ⊥) × (Step reads world (read path (in_box region) options) (refused cause.Fit n) after → ⊥)

-- ---- writes

-- the array at a path is held as it was, with the cell at each place that it had; its table may be another map
pub record IsHeldWithCells (path : List ℕ) (h : Held) (world : World) : Type 0 where
  pub table : Table
  pub found : held_at path world.arrays ≡ Some (record h { table = table })
  pub same : (place : List ℕ) → cell h.document.elements.fill table place ≡ cell h.document.elements.fill h.table place

-- storing what was read changes no cell of an array whose chain keeps every bit: a read, and then a write to the same target that gives just the cells of the read, whatever it is answered
abbrev pub StoresBack : Type 0
StoresBack = (reads : ReadsCodecs) (old mid new : World) (path : List ℕ) (target : Target) (options more : CodecOptions) (payload : Payload) (given : GivenCells) (answer : Answer) (h : Held)
    → held_at path old.arrays ≡ Some h → IsLossless h.document → given_in h.document.elements.type given ≡ cells_in h.document.elements.type payload
    → Step reads old (read path target options) (gives payload) mid → Step reads mid (write path target given more) answer new → IsHeldWithCells path h new

-- the boxes that two targets mean have no common place
abbrev pub ShareNoPlace : Grid → Target → Target → Type 0
ShareNoPlace grid one two = (a b : Region) (place : List ℕ) → IsTarget grid one a → IsTarget grid two b → is_in_box a.start a.shape place ≡ true → is_in_box b.start b.shape place ≡ true → ⊥

-- two writes to an array, without a common place, are done one after the other: from one world, both orders leave it with one table, whatever the options
abbrev pub WritesCommute : Type 0
WritesCommute = (reads : ReadsCodecs) (old new last : World) (path : List ℕ) (one two : Target) (given other : GivenCells) (options more again others : CodecOptions) (h : Held)
    → held_at path old.arrays ≡ Some h → ShareNoPlace h.document.grid one two
    → Run reads old (write path one given options ∷ write path two other more ∷ []) (done ∷ done ∷ []) new
    → Run reads old (write path two other others ∷ write path one given again ∷ []) (done ∷ done ∷ []) last
    → held_at path new.arrays ≡ held_at path last.arrays

-- two writes to arrays at unrelated paths are done one after the other: from one world, both orders leave each of the two with one table, whatever the options
abbrev pub WritesCommuteApart : Type 0
WritesCommuteApart = (reads : ReadsCodecs) (old new last : World) (path away : List ℕ) (one two : Target) (given other : GivenCells) (options more again others : CodecOptions) → is_related path away ≡ false
    → Run reads old (write path one given options ∷ write away two other more ∷ []) (done ∷ done ∷ []) new
    → Run reads old (write away two other others ∷ write path one given again ∷ []) (done ∷ done ∷ []) last
    → (held_at path new.arrays ≡ held_at path last.arrays) × (held_at away new.arrays ≡ held_at away last.arrays)

-- ---- the same commands on two arrays

-- a command on a box, of whatever array: a read of its cells, or a write that gives them
pub data BoxCommand : Type 0 where
  read_box : (region : Region) → BoxCommand
  write_box : (region : Region) → (given : GivenCells) → BoxCommand

-- the box that such a command names
abbrev pub box_of : BoxCommand → Region
box_of (read_box region) = region
box_of (write_box region given) = region

-- whether a place lies in the box of one of some commands
abbrev pub lies_in_box_of : List ℕ → List BoxCommand → Bool
lies_in_box_of place commands = list_any (λ command. is_in_box (box_of command).start (box_of command).shape place) commands

-- a request is this command on the array at a path, with whatever options
abbrev pub Asks : List ℕ → BoxCommand → Request → Type 0
Asks path (read_box region) request = (options : CodecOptions) × (request ≡ read path (in_box region) options)
Asks path (write_box region given) request = (options : CodecOptions) × (request ≡ write path (in_box region) given options)

-- requests are these commands on the array at a path, in this order
abbrev pub AskAll : List ℕ → List BoxCommand → List Request → Type 0
AskAll path [] [] = Unit {0}
AskAll path (command ∷ commands) (request ∷ requests) = Asks path command request × AskAll path commands requests
AskAll path [] (request ∷ requests) = ⊥
AskAll path (command ∷ commands) [] = ⊥

-- an answer is no refusal
abbrev pub IsAccepted : Answer → Type 0
IsAccepted (refused c n) = ⊥
IsAccepted answer = Unit {0}

-- two commands have one answer: both are done, or both give the same cells of a type
abbrev pub HaveOneAnswer : DataType → Answer → Answer → Type 0
HaveOneAnswer type done done = Unit {0}
HaveOneAnswer type (gives payload) (gives again) = cells_in type payload ≡ cells_in type again
HaveOneAnswer type answer reply = ⊥

-- each command of a list has one answer in two runs
abbrev pub HaveSameAnswers : DataType → List Answer → List Answer → Type 0
HaveSameAnswers type answers replies = (n : ℕ) (answer reply : Answer) → slice_get answers n ≡ Some answer → slice_get replies n ≡ Some reply → HaveOneAnswer type answer reply

-- two arrays have one data type and chains that keep every bit, whatever their shapes, fill values, grids, keys and codecs are
pub record AreComparable (h g : Held) : Type 0 where
  pub type : h.document.elements.type ≡ g.document.elements.type
  pub lossless : IsLossless h.document
  pub also : IsLossless g.document

-- two arrays have the same cell at a place
abbrev pub AreSameAt : Held → Held → List ℕ → Type 0
AreSameAt h g place = cell h.document.elements.fill h.table place ≡ cell g.document.elements.fill g.table place

-- if a command is a read, two arrays have the same cell at each place of its box, which has a length for each start
abbrev pub AreSameWhereRead : Held → Held → BoxCommand → Type 0
AreSameWhereRead h g (read_box region) = (length region.start ≡ length region.shape) × ((place : List ℕ) → is_in_box region.start region.shape place ≡ true → AreSameAt h g place)
AreSameWhereRead h g (write_box region given) = Unit {0}

-- two arrays are held as they were, each with a table of its own: at each place of these commands' boxes the two have the same cell, and wherever they had the same before
pub record AreHeldAlike (h g : Held) (commands : List BoxCommand) (first second : Option Held) : Type 0 where
  pub table : Table
  pub other : Table
  pub held : first ≡ Some (record h { table = table })
  pub also : second ≡ Some (record g { table = other })
  pub same : (place : List ℕ) → AreSameAt h g place ⊎ (lies_in_box_of place commands ≡ true) → AreSameAt (record h { table = table }) (record g { table = other }) place

-- two comparable arrays, of two worlds, are asked the same commands on boxes, and accept them all: if they have the same cells where boxes are read, each read gives one answer in both, and at the end they have the same cells at each place of the boxes, and wherever they had the same before
abbrev pub BoxesAlike : Type 0
BoxesAlike = (reads others : ReadsCodecs) (old new before after : World) (path away : List ℕ) (h g : Held) (commands : List BoxCommand) (requests asked : List Request) (answers replies : List Answer)
    → held_at path old.arrays ≡ Some h → held_at away before.arrays ≡ Some g → AreComparable h g → All (AreSameWhereRead h g) commands
    → AskAll path commands requests → AskAll away commands asked → All IsAccepted answers → All IsAccepted replies
    → Run reads old requests answers new → Run others before asked replies after
    → HaveSameAnswers h.document.elements.type answers replies × AreHeldAlike h g commands (held_at path new.arrays) (held_at away after.arrays)

-- a grid covers a place: it lies in a chunk in the grid, even where it passes the array's shape
abbrev pub CoversPlace : Grid → List ℕ → Type 0
CoversPlace grid place = (chunk : List ℕ) × (box : Region) × IsInGrid grid chunk box × (is_in_box box.start box.shape place ≡ true)

-- two arrays have the same cell at each place that both grids cover
abbrev pub AreSameWhereCovered : Held → Held → Type 0
AreSameWhereCovered h g = (place : List ℕ) → CoversPlace h.document.grid place → CoversPlace g.document.grid place → AreSameAt h g place

-- two arrays are held, and have the same cell at each place that both grids cover
abbrev pub HoldSameWhereCovered : Option Held → Option Held → Type 0
HoldSameWhereCovered (Some h) (Some g) = AreSameWhereCovered h g
HoldSameWhereCovered first second = ⊥

-- two comparable arrays that have the same cell at each place that both grids cover are asked the same commands on boxes, and accept them all: each read gives one answer in both, and at the end they have the same cell at each such place again
abbrev pub AnsweredAlike : Type 0
AnsweredAlike = (reads others : ReadsCodecs) (old new before after : World) (path away : List ℕ) (h g : Held) (commands : List BoxCommand) (requests asked : List Request) (answers replies : List Answer)
    → held_at path old.arrays ≡ Some h → held_at away before.arrays ≡ Some g → AreComparable h g → AreSameWhereCovered h g → All (λ command. length (box_of command).start ≡ length (box_of command).shape) commands
    → AskAll path commands requests → AskAll away commands asked → All IsAccepted answers → All IsAccepted replies
    → Run reads old requests answers new → Run others before asked replies after
    → HaveSameAnswers h.document.elements.type answers replies × HoldSameWhereCovered (held_at path new.arrays) (held_at away after.arrays)
