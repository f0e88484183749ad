-- A run with a step limit and room for journal lines; the call on an open run; several calls in a row (document 01, "Numbers the
-- desk sees").
-- Assumes nothing.
use Rattle.std.specs.Prelude.{ℕ, zero, suc, ◌+◌, ◌-◌, List, [], ◌∷◌, ◌++◌, Bool, true, false, ◌&&◌, eqb, leb, length, if◌then◌else◌}
use Rattle.semantics.specs.Words.{ok, fails, is_empty}
use Rattle.semantics.specs.Numbers as No
use Rattle.semantics.specs.Model.{Model}
use Rattle.semantics.specs.Decode.{refused, accepted, decode}
use Rattle.semantics.specs.State.{State, Floor, empty, held_by}
use Rattle.semantics.specs.Walk.{Line, Next}
use Rattle.semantics.specs.Step.{step}
use Rattle.semantics.specs.Sound.{sound_in}

pub data Answer : Type 0 where
  CLOSED IDLE LIMIT : Answer
  FAULT : ℕ → Answer  -- its number

-- The answer, the steps done in this call, and the state and the lines that it leaves.
pub record Ran : Type 0 where
  pub answer : Answer
  pub steps : ℕ
  pub state : State
  pub lines : List Line

abbrev pub stopped : Answer → State → Ran
stopped a s = record { answer = a; steps = 0; state = s; lines = [] }

abbrev pub further : Next → Ran → Ran
further x r = record { answer = r.answer; steps = suc r.steps; state = r.state; lines = x.lines ++ r.lines }

-- Before each step: closed gives CLOSED; nobody on the floor and an empty event list gives IDLE.
pub data Before : Type 0 where
  is_closed is_idle goes_on : Before

abbrev pub nobody_has : Floor → Bool
nobody_has empty = true
nobody_has (held_by p) = false

abbrev pub before : State → Before
before s = if s.closed then is_closed else if nobody_has s.floor && is_empty s.events then is_idle else goes_on

-- Room in the journal for so many lines; `endless` for a reader who empties it before it is full.
pub data Room : Type 0 where
  endless : Room
  room_for : ℕ → Room

abbrev pub fits : List Line → Room → Bool
fits ls endless = true
fits ls (room_for n) = leb (length ls) n

abbrev pub left : List Line → Room → Room
left ls endless = endless
left ls (room_for n) = room_for (n - length ls)

-- At most n steps. A step that faults, or whose lines don't fit, is not made and leaves the state and the lines as before it.
unfoldable pub run : Model → ℕ → Room → State → Ran
unfolding step
run m zero r s =
    elim (before s) [ is_closed ↦ stopped CLOSED s | is_idle ↦ stopped IDLE s | goes_on ↦ stopped LIMIT s ]
run m (suc n) r s =
    elim (before s) [
      | is_closed ↦ stopped CLOSED s
      | is_idle ↦ stopped IDLE s
      | goes_on ↦
          elim (step m s) [
            | fails k ↦ stopped (FAULT k) s
            | ok x ↦
                elim (fits x.lines r) [
                  | true ↦ further x (run m n (left x.lines r) x.state)
                  | false ↦ stopped (FAULT No.JOURNAL) s
                ]
          ]
    ]

-- A call on an open run that is handed in: 20 comes before any step, with 0 steps.
pub record Ask : Type 0 where
  pub limit : ℕ
  pub room : Room

unfoldable pub call_in : Model → Ask → State → Ran
unfolding run sound_in
call_in m a s = elim (sound_in m s) [ true ↦ run m a.limit a.room s | false ↦ stopped (FAULT No.STATE) s ]

unfoldable pub call : List ℕ → Ask → State → Ran
unfolding decode call_in
call bs a s = elim (decode bs) [ refused n p ↦ stopped (FAULT No.STATE) s | accepted m ↦ call_in m a s ]

-- Several calls in a row, each taking the run as the call before left it: the state they leave, the steps they make, the limits
-- of those that don't answer 30, and whether none of them ends the run. LIMIT and 30 are no end.
abbrev pub is_number : ℕ → Answer → Bool
is_number n CLOSED = false
is_number n IDLE = false
is_number n LIMIT = false
is_number n (FAULT k) = eqb k n

abbrev pub no_end : Answer → Bool
no_end CLOSED = false
no_end IDLE = false
no_end LIMIT = true
no_end (FAULT k) = eqb k No.JOURNAL

module _ (bs : List ℕ) where
  abbrev pub leaves : List Ask → State → State
  leaves [] s = s
  leaves (a ∷ rest) s = leaves rest (call bs a s).state

  abbrev pub steps_of : List Ask → State → ℕ
  steps_of [] s = 0
  steps_of (a ∷ rest) s = (call bs a s).steps + steps_of rest (call bs a s).state

  abbrev pub limits_of : List Ask → State → ℕ
  limits_of [] s = 0
  limits_of (a ∷ rest) s =
      (if is_number No.JOURNAL (call bs a s).answer then 0 else a.limit) + limits_of rest (call bs a s).state

  abbrev pub none_ends : List Ask → State → Bool
  none_ends [] s = true
  none_ends (a ∷ rest) s = no_end (call bs a s).answer && none_ends rest (call bs a s).state
