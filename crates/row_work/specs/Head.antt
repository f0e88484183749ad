-- The first words of the work: the clock, whether the run is closed, who has the floor. Assumes nothing.
use Rattle.std.specs.Prelude.{ℕ, ◌≡◌, get_or, set}
use Rattle.std.proofs.Math.Path.{refl}
use Rattle.semantics.specs.State.{State, Floor, at_clock, now_closed, with_floor}
use Rattle.base_numbers.specs.Row as Row
use Rattle.row_work.specs.Laid.{laid}
use Rattle.row_work.specs.Work.{floor_word, work_of}

module _ (s : State) where
  pub clock_at : get_or (work_of s) Row.CLOCK 0 ≡ s.clock
  unfolding work_of laid
  clock_at = refl

  pub clock_set : (t : ℕ) → set (work_of s) Row.CLOCK t ≡ work_of (at_clock s t)
  unfolding work_of laid
  clock_set t = refl

  pub closed_set : set (work_of s) Row.CLOSED 1 ≡ work_of (now_closed s)
  unfolding work_of laid
  closed_set = refl

  pub floor_at : get_or (work_of s) Row.FLOOR 0 ≡ floor_word s.floor
  unfolding work_of laid
  floor_at = refl

  pub floor_set : (o : Floor) → set (work_of s) Row.FLOOR (floor_word o) ≡ work_of (with_floor s o)
  unfolding work_of laid
  floor_set o = refl
