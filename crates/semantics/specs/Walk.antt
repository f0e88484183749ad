-- The journal's lines as a step makes them, and the walk down the blocked list (document 01, "One step").
-- Assumes nothing.
use Rattle.std.specs.Prelude.{ℕ, List, [], ◌∷◌, ◌++◌, ℤ, pos}
use Rattle.semantics.specs.Numbers as No
use Rattle.semantics.specs.Model.{Model}
use Rattle.semantics.specs.State.{State, Waiter, process, with_blocked, wake}
use Rattle.semantics.specs.Claim.{asks, waits, goes, choice, grant}

-- A line of the journal, before it is written as bytes.
pub record Line : Type 0 where
  pub time : ℕ
  pub process : ℕ
  pub kind : ℕ
  pub value : ℤ

-- What a step leads to: the state and its lines, in order.
pub record Next : Type 0 where
  pub state : State
  pub lines : List Line

-- The time of a line is the clock.
abbrev pub line : State → ℕ → ℕ → ℤ → Line
line s n k v = record { time = s.clock; process = n; kind = k; value = v }

abbrev pub quiet : State → Next
quiet s = record { state = s; lines = [] }

-- One's own line comes first.
abbrev pub after : Line → Next → Next
after l n = record { state = n.state; lines = l ∷ n.lines }

-- Once down the blocked list from the front; `ahead` are those passed that are still blocked. Each one not barred by these and
-- met takes its first met branch and enters the event list now.
unfoldable pub walk_on : Model → State → List Waiter → List Waiter → Next
unfolding choice grant wake
walk_on m s ahead [] = quiet (with_blocked s ahead)
walk_on m s ahead (w ∷ ws) =
    elim (choice m s ahead (asks m s w.place)) [
      | waits r ↦ walk_on m s (ahead ++ w ∷ []) ws
      | goes i o ↦
          after (line s (process s w.place).number No.granted (pos i))
          (walk_on m (wake s.clock w.place (grant w.place o s)) ahead ws)
    ]

unfoldable pub walk : Model → State → Next
unfolding walk_on
walk m s = walk_on m s [] s.blocked
