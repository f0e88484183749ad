-- Slaves that were let go, in the middle of a step. Assumes nothing.
use Rattle.std.specs.Prelude.{ℕ, ◌+◌, ◌≤◌, ◌<◌, ◌≡◌, List, length, take}
use Rattle.promises.specs.Laws.{over, once}
use Rattle.promises.specs.Sound.{on_floor, Held}
use Rattle.base_numbers.specs.Limit as Limit
use Rattle.row_work.specs.Work.{FloorSized}
use Rattle.row_work.specs.Underway.{Underway}

-- The n processes whose places `places` begins with were slaves of sync i, and are in hand.
pub record Freeing (w : List ℕ) (i : ℕ) (places : List ℕ) (n : ℕ) : Type 0 where
  pub run : Underway w
  pub gone : List ℕ
  pub holds : Held run.model run.is run.is.blocked (λ k. over (once k) gone + on_floor k run.is.floor) (λ j. 0)
  pub floor_ok : FloorSized run.is.floor
  pub many : length gone ≡ n
  pub inside : n ≤ length places
  pub places_are : take n places ≡ gone
  pub sync_low : i < Limit.THINGS
