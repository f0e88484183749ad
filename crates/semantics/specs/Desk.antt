-- What the booking desk's three requests answer (document 01, "Numbers the desk sees"): it hands over bytes to check a model,
-- to get its bound, or to run it whole.
-- Assumes nothing.
use Rattle.std.specs.Prelude.{ℕ, List}
use Rattle.semantics.specs.Words.{Passed, passed}
use Rattle.semantics.specs.State.{fresh}
use Rattle.semantics.specs.Decode.{Checked, accepted, if_accepted, decode}
use Rattle.semantics.specs.Run.{Answer, Ran, run}
use Rattle.semantics.specs.Bound.{Bounded, bound_is}
use Rattle.semantics.specs.Journal.{room_in, written}

-- Check: the number and the place of a refusal, or accepted.
unfoldable pub check_file : List ℕ → Checked Passed
unfolding decode
check_file bs = if_accepted (decode bs) λ m. accepted passed

-- Bound: the refusal, or NONE, OVER or the number.
unfoldable pub bound_file : List ℕ → Checked Bounded
unfolding decode bound_is
bound_file bs = if_accepted (decode bs) λ m. accepted (bound_is m)

-- Run whole, from fresh, with a step limit and a lent journal: the refusal, or the answer, the steps done and what the journal
-- holds.
pub record Told : Type 0 where
  pub answer : Answer
  pub steps : ℕ
  pub journal : List ℕ

unfoldable pub run_file : List ℕ → ℕ → List ℕ → Checked Told
unfolding decode run fresh written
run_file bs limit j =
    if_accepted (decode bs) λ m.
    let r : Ran = run m limit (room_in j) (fresh m) in
    accepted (record { answer = r.answer; steps = r.steps; journal = written r.lines j })
