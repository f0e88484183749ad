-- The codes of the variables, and of a process's locals, cut out of the work. Assumes nothing.
use Rattle.std.specs.Prelude.{ℕ, ◌+◌, ◌-◌, ◌*◌, ◌<◌, ◌≡◌, List, map, length, get_or, take, drop}
use Rattle.std.proofs.Common.{arith, sym, ◌∙◌, ap, length-drop, ext_get_or, length-take-le, get_or-take, get_or-drop}
use Rattle.semantics.specs.Numbers as No
use Rattle.semantics.specs.State.{State, Process, nobody, process}
use Rattle.promises.specs.Laws.{all_get}
use Rattle.base_numbers.specs.Row as Row
use Rattle.base_numbers.specs.Process as Process
use Rattle.base_numbers.specs.Limit as Limit
use Rattle.base_i32.specs.Code.{code}
use Rattle.base_ordered.specs.Lines.{pad}
use Rattle.row_work.specs.Laid.{laid_at, laid_part}
use Rattle.row_work.specs.Work.{process_parts, process_widths, process_row, work_parts, work_widths, work_of, ProcessSized, Sized}
use Rattle.row_work.specs.Shown.{row_length, process_wide, work_wide, work_long, process_at}

module _ (s : State) (h : Sized s) where
  pub globals_part : take Limit.THINGS (drop Row.GLOBALS (work_of s)) ≡ pad Limit.THINGS (map code s.globals)
  unfolding work_of
  globals_part = laid_part (work_parts s) work_widths (work_wide s h) 3 (omega arith)

  module _ (p : ℕ) (in_places : p < No.places) where
    abbrev q : Process
    q = process s p

    abbrev first : ℕ
    first = Row.FIRST_LOCALS + Process.WORDS * p

    abbrev cut : List ℕ
    cut = take No.locals (drop first (work_of s))

    q_sized : ProcessSized q
    q_sized = all_get ProcessSized s.processes p nobody h.processes_ok (omega arith)

    cut_long : length cut ≡ No.locals
    cut_long =
        let n = work_long s h in
        let l : length (drop first (work_of s)) ≡ length (work_of s) - first = length-drop first (work_of s) in
        length-take-le No.locals (drop first (work_of s)) (omega arith)

    local_at : (i : ℕ) → i < No.locals
        → get_or (process_row q) (Process.LOCALS + i) 0 ≡ get_or (pad No.locals (map code q.locals)) i 0
    unfolding process_row
    local_at i l = laid_at (process_parts q) process_widths (process_wide q q_sized) 1 i l

    same_at : (i : ℕ) → i < length cut → get_or cut i 0 ≡ get_or (pad No.locals (map code q.locals)) i 0
    same_at i l =
        let k : i < No.locals = omega (arith, cut_long) in
        let e : first + i ≡ Row.PROCESSES + Process.WORDS * p + (Process.LOCALS + i) = omega arith in
        get_or-take No.locals (drop first (work_of s)) i 0 k
        ∙ get_or-drop first (work_of s) i 0
        ∙ ap (λ j. get_or (work_of s) j 0) e
        ∙ process_at s h p (Process.LOCALS + i) in_places (omega arith)
        ∙ local_at i k

    pub locals_part : cut ≡ pad No.locals (map code q.locals)
    locals_part = ext_get_or 0 cut _ (cut_long ∙ sym (row_length No.locals code q.locals q_sized.locals_few)) same_at
