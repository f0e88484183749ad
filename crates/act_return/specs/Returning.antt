-- A return notice in the engine's hands. Assumes nothing.
use Rattle.std.specs.Prelude.{ℕ, List}
use Rattle.semantics.specs.State.{Notice}
use Rattle.semantics.specs.Numbers.{of_returns}
use Rattle.promises.specs.Sound.{gives, NoticeOk, Held}
use Rattle.row_work.specs.Work.{FloorSized}
use Rattle.row_work.specs.Underway.{Underway}
use Rattle.file_map.specs.Map.{Mapped}

-- A return notice e was first in the event list and is out of it: what it returns is in hand.
pub record Returning (bs map w : List ℕ) (e : Notice) : Type 0 where
  pub run : Underway w
  pub mapped : Mapped bs run.model map
  pub in_hand : ℕ → ℕ
  pub holds : Held run.model run.is run.is.blocked in_hand (λ j. gives j e)
  pub floor_ok : FloorSized run.is.floor
  pub tells : NoticeOk run.model run.is.last run.is.processes of_returns e
