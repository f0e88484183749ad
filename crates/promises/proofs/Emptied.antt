-- A journal that is emptied between calls: with room for one step each call moves on.
-- Assumes nothing.
use Rattle.std.specs.Prelude.{ℕ, ◌≤◌, ◌≡◌, List, length}
use Rattle.std.proofs.Common.{arith, leb-false}
use Rattle.semantics.specs.Numbers as No
use Rattle.semantics.specs.Model.{Model}
use Rattle.semantics.specs.State.{State}
use Rattle.semantics.specs.Walk.{Line}
use Rattle.semantics.specs.Run.{Answer, FAULT, room_for, run}
use Rattle.promises.specs.Sound.{Sound}
use Rattle.promises.proofs.Lines.{step_lines}
use Rattle.promises.specs.Safe.{safe_fault, step_safe}
use Rattle.promises.specs.Answers.{Made, none_made, one_made, run_made}
use Rattle.promises.specs.Answers.{Why, was_closed, was_idle, at_limit, at_fault, no_room, run_why}

-- One that answers 30 with room for the lines of a step has made one.
moved : {m : Model} {s t : State} {n k j : ℕ} {ls : List Line} {a : Answer} → Sound m s → 65 ≤ k → Made m s j ls t
    → Why m n (room_for k) a j ls t → a ≡ FAULT No.JOURNAL → 1 ≤ j
moved h l (one_made e f g) w q = omega arith
moved h l none_made (was_closed b) q = let z : ◌≡◌ {A = ℕ} 0 1 = cc in absurd (omega arith)
moved h l none_made (was_idle b) q = let z : ◌≡◌ {A = ℕ} 0 1 = cc in absurd (omega arith)
moved h l none_made (at_limit b i) q = let z : ◌≡◌ {A = ℕ} 0 1 = cc in absurd (omega arith)
moved {m = m} {s = s} h l none_made (at_fault {j = j} b i f) q =
    let z : j ≡ 30 = cc in let a = safe_fault (step_safe m s h b) f in absurd (omega arith)
moved {m = m} {s = s} {k = k} h l none_made (no_room {x = x} b i f g) q =
    let a = step_lines m s h x f in let c = leb-false (length x.lines) k g in absurd (omega arith)

pub moves_on : (m : Model) (n k : ℕ) (s : State) → Sound m s → 65 ≤ k → (run m n (room_for k) s).answer ≡ FAULT No.JOURNAL
    → 1 ≤ (run m n (room_for k) s).steps
moves_on m n k s h l e = moved h l (run_made m n (room_for k) s) (run_why m n (room_for k) s) e
