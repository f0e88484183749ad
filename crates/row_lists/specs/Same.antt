-- One answer: what leaves a list is told in one way only. Assumes nothing.
use Rattle.std.specs.Prelude.{ℕ, ◌≡◌, List}
use Rattle.std.proofs.Common.{sym, ◌∙◌}
use Rattle.row_work.specs.Work.{Doing}
use Rattle.row_lists.specs.Lists.{Due, first_out, FirstOut, Waits, taken_waiting, TakenWaiting}

module _ (w : List ℕ) (r r' : ℕ) (x x' : List ℕ) where
  -- The first event,
  pub same_first_out : Doing w Due first_out → ((d : Doing w Due first_out) → FirstOut w r x d)
      → ((d : Doing w Due first_out) → FirstOut w r' x' d) → (r ≡ r') × (x ≡ x')
  same_first_out d h k = ((h d).word_is ∙ sym (k d).word_is, (h d).done ∙ sym (k d).done)

  -- and the first that waits for a sync.
  pub same_taken_waiting : (i : ℕ) → Doing w (Waits i) (taken_waiting i)
      → ((d : Doing w (Waits i) (taken_waiting i)) → TakenWaiting w i r x d)
      → ((d : Doing w (Waits i) (taken_waiting i)) → TakenWaiting w i r' x' d) → (r ≡ r') × (x ≡ x')
  same_taken_waiting i d h k = ((h d).place_is ∙ sym (k d).place_is, (h d).done ∙ sym (k d).done)
