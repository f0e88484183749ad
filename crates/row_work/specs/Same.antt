-- One answer: a change of the work is made in one way only. Assumes nothing.
use Rattle.std.specs.Prelude.{ℕ, ◌≡◌, List}
use Rattle.std.proofs.Common.{sym, ◌∙◌}
use Rattle.semantics.specs.State.{State}
use Rattle.row_work.specs.Work.{Doing, Done}

pub same_done : {w : List ℕ} {P : State → Type 0} {f : State → State} → Doing w P f → (x x' : List ℕ) → Done w P f x
    → Done w P f x' → x ≡ x'
same_done d x x' h k = h d ∙ sym (k d)
