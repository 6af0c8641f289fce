-- Why a run of the program ends early.
use Rattle.std.specs.Prelude.{ℕ, List, codes}
use Rattle.zarr_run_lines.specs.declared.lines.LinesFault.{LinesFault}
use Rattle.zarr_run_lines.specs.declared.lines.LinesFault.TheVariants as lines
use Rattle.zarr_run_start.specs.declared.fault.Fault.{Fault}
use Rattle.zarr_run_start.specs.declared.fault.Fault.TheVariants as fault

-- what the program says of a fault
abbrev pub message_text : Fault → List ℕ
message_text fault.Store = codes "zarr_run: store fault"
message_text fault.Read = codes "zarr_run: read fault"
message_text fault.Write = codes "zarr_run: write fault"
message_text fault.Memory = codes "zarr_run: out of memory"

-- what a fault of running lines is to the program
abbrev pub fault_of_lines : LinesFault → Fault
fault_of_lines lines.Read = fault.Read
fault_of_lines lines.Write = fault.Write
fault_of_lines lines.Memory = fault.Memory
