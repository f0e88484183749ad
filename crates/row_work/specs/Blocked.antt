-- The blocked list in the work: its row and how many there are. Assumes nothing.
use Rattle.std.specs.Prelude.{ℕ, ◌≡◌, refl, List, ◌++◌, length, get_or, take, drop}
use Rattle.std.proofs.Common.{arith, ◌∙◌}
use Rattle.std.proofs.Math.Path.{ap}
use Rattle.std.proofs.Math.ListN.{set}
use Rattle.semantics.specs.State.{State, Waiter, with_blocked}
use Rattle.base_numbers.specs.Row as Row
use Rattle.row_work.specs.Laid.{laid, laid_part, laid_replaced}
use Rattle.row_work.specs.Work.{waiters_row, work_parts, work_widths, work_of, Sized}
use Rattle.row_work.specs.Shown.{work_wide}

pub blocked_count : (s : State) → get_or (work_of s) Row.BLOCKED 0 ≡ length s.blocked
unfolding work_of laid
blocked_count s = refl

module _ (s : State) (h : Sized s) where
  pub blocked_part : take Row.WAITERS_MOST (drop Row.QUEUE (work_of s)) ≡ waiters_row s.blocked
  unfolding work_of
  blocked_part = laid_part (work_parts s) work_widths (work_wide s h) 5 (omega arith)

  -- Another list written, and how many there are.
  pub blocked_changed : (ws : List Waiter) (n : ℕ) → n ≡ length ws
      → set (take Row.QUEUE (work_of s) ++ (waiters_row ws ++ drop Row.WAITERS_MOST (drop Row.QUEUE (work_of s)))) Row.BLOCKED n
      ≡ work_of (with_blocked s ws)
  unfolding work_of laid
  blocked_changed ws n e =
      ap (λ l. set l Row.BLOCKED n) (laid_replaced (work_parts s) work_widths (work_wide s h) 5 (waiters_row ws) (omega arith))
      ∙ ap (λ k. set (work_of (with_blocked s ws)) Row.BLOCKED k) e
