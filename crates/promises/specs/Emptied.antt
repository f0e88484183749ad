-- A journal that is emptied between calls gives what endless room gives.
-- Assumes nothing.
use Rattle.std.specs.Prelude.{ℕ, ◌+◌, ◌-◌, ◌≡◌}
use Rattle.std.proofs.Common.{arith, sym, ap, ◌∙◌}
use Rattle.semantics.specs.Numbers as No
use Rattle.semantics.specs.Model.{Model}
use Rattle.semantics.specs.State.{State}
use Rattle.semantics.specs.Run.{FAULT, Room, endless, run}
use Rattle.promises.specs.Answers.{run_made, made_on, behind, steps_within}
use Rattle.promises.specs.Ends.{run-endless}

-- Whatever its room and answer, a run is the first part of the endless one, which goes on from the state that it leaves with the
-- steps that it does not make.
pub emptied : (m : Model) (n : ℕ) (r : Room) (s : State)
    → run m n endless s ≡ behind (run m n r s) (run m (n - (run m n r s).steps) endless (run m n r s).state)
emptied m n r s =
    let k : ℕ = (run m n r s).steps in
    let e : n ≡ k + (n - k) = let a = steps_within m n r s in omega arith in
    ap (λ j. run m j endless s) e ∙ made_on m (run_made m n r s) (n - k)

-- One that does not answer 30 is the endless one.
pub not_emptied : (m : Model) (n : ℕ) (r : Room) (s : State) → ((run m n r s).answer ≡ FAULT No.JOURNAL → ⊥)
    → run m n endless s ≡ run m n r s
not_emptied m n r s h = sym (run-endless m n r s h)
