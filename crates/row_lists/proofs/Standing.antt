-- What is read of a process in a work that shows the state. Assumes nothing.
use Prim.Native.Nat.{ℕ, ◌+◌, ◌*◌, ◌<◌}
use native.Mathlib.Omega.{arith}
use mathlib.Core.Path.{◌≡◌, ◌∙◌, ap}
use mathlib.Core.List.{List}
use lib.ListN.{get_or}
use Rattle.semantics.specs.Numbers as No
use Rattle.semantics.specs.State.{State, nobody, process}
use Rattle.promises.specs.Laws.{all_get}
use Rattle.base_numbers.specs.Row as Row
use Rattle.base_numbers.specs.Process as Process
use Rattle.base_numbers.specs.Code as Code
use Rattle.base_i32.specs.Code.{code}
use Rattle.base_i32.specs.Laws.{code_fits}
use Rattle.row_work.specs.Work.{process_row, ProcessSized}
use Rattle.row_work.specs.Shown.{process_at}
use Rattle.row_process.specs.Process.{Shown}

module _ {w : List ℕ} {P : State → Type 0} (v : Shown w P) (p : ℕ) where
  abbrev s : State
  s = v.is

  pub is_sized : ProcessSized (process s p)
  is_sized = all_get ProcessSized s.processes p nobody v.sized.processes_ok (omega arith)

  pub priority_is : p < No.places → get_or w (Row.PROCESSES + Process.WORDS * p + Process.PRIORITY) 0 ≡ code (process s p).priority
  unfolding process_row
  priority_is l = ap (λ x. get_or x (Row.PROCESSES + Process.WORDS * p + Process.PRIORITY) 0) v.shows
      ∙ process_at s v.sized p 1 l (omega arith)

  pub priority_low : code (process s p).priority < Code.CODES
  priority_low = code_fits (process s p).priority is_sized.priority_ok
