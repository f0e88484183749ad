-- A struct and its row: the struct's parts laid over a row make it, and parts cut out of it make the struct. Assumes nothing.
use mathlib.Core.Path.{◌≡◌, sym}
use mathlib.Core.List.{List}
use Prim.Native.Nat.{ℕ}
use lib.ListN.{length}
use Rattle.base_numbers.specs.Row as Row
use Rattle.base_numbers.specs.Process as Process
use Rattle.row_work.specs.Work.{process_widths, work_widths}
use Rattle.row_struct.specs.declared.Process.{Process}
use Rattle.row_struct.specs.declared.State.{State}
use Rattle.row_struct.specs.State.{process_parts_of, process_row_of, parts_of, row_of}
use Rattle.row_struct.specs.State.{ProcessFull, ProcessesFull, Full}
use Rattle.row_struct.proofs.Laying.{Written, written_laid, Cut, cut_laid, cut_wide}

-- FROM THE STRUCT to the row.
pub process_unpacked : (q : Process) (w v : List ℕ) → length w ≡ Process.WORDS → ProcessFull q
    → Written (process_parts_of q) process_widths 0 w v → (v ≡ process_row_of q) × ProcessFull q
unfolding process_row_of
process_unpacked q w v e f h = (written_laid h f (sym e), f)

pub state_unpacked : (s : State) (w v : List ℕ) → length w ≡ Row.WORDS → Full s → Written (parts_of s) work_widths 0 w v
    → (v ≡ row_of s) × Full s
unfolding row_of
state_unpacked s w v e f h = (written_laid h f.parts_full (sym e), f)

-- FROM THE ROW to the struct.
pub process_packed : (q : Process) (w : List ℕ) → length w ≡ Process.WORDS → Cut (process_parts_of q) process_widths 0 w
    → (process_row_of q ≡ w) × ProcessFull q
unfolding process_row_of
process_packed q w e h = (
  cut_laid h (sym e),
  cut_wide h (sym e),
)

pub state_packed : (s : State) (w : List ℕ) → length w ≡ Row.WORDS → Cut (parts_of s) work_widths 0 w → ProcessesFull s.processes
    → (row_of s ≡ w) × Full s
unfolding row_of
state_packed s w e h f = (
  cut_laid h (sym e),
  record { parts_full = cut_wide h (sym e); processes_full = f },
)
