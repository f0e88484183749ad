-- One answer: the contracts of the C functions admit one, and one row and journal left. Assumes nothing.
use Rattle.std.specs.Prelude.{ℕ, ◌≡◌, List, length}
use Rattle.std.proofs.Common.{sym, ◌∙◌}
use Rattle.semantics.specs.Journal.{written}
use Rattle.semantics.specs.Desk.{check_file, bound_file, run_file}
use Rattle.text_semantics.specs.Answer.{answer}
use Rattle.text_reader.specs.Answer.{answered_of, left}
use Rattle.run_file.specs.Whole.{journal_after}
use Rattle.run_row.specs.Open.{open_row}
use Rattle.run_row.specs.Call.{asked, call_row}
use Rattle.desk_c.specs.Word.{check_word, bound_word, run_word, open_word, move_word}

module _ (file : List ℕ) where
  pub same_desk_check : (r r' : ℕ) → r ≡ check_word (check_file file) → r' ≡ check_word (check_file file) → r ≡ r'
  same_desk_check r r' h k = h ∙ sym k

  pub same_desk_text : (out : List ℕ) (r r' p p' : ℕ) (x x' : List ℕ)
      → (r ≡ (answered_of (answer file (length out))).number) × ((p ≡ (answered_of (answer file (length out))).place)
      × (x ≡ left (answer file (length out)) out))
      → (r' ≡ (answered_of (answer file (length out))).number) × ((p' ≡ (answered_of (answer file (length out))).place)
      × (x' ≡ left (answer file (length out)) out))
      → (r ≡ r') × ((p ≡ p') × (x ≡ x'))
  same_desk_text out r r' p p' x x' h i =
      (h.0 ∙ sym i.0, (h.1.0 ∙ sym i.1.0, h.1.1 ∙ sym i.1.1))

  pub same_desk_bound : (r r' : ℕ) → r ≡ bound_word (bound_file file) → r' ≡ bound_word (bound_file file) → r ≡ r'
  same_desk_bound r r' h k = h ∙ sym k

  pub same_desk_run : (limit : ℕ) (j : List ℕ) (r r' : ℕ) (k k' : List ℕ)
      → (r ≡ run_word (run_file file limit j)) × (k ≡ journal_after (run_file file limit j) j)
      → (r' ≡ run_word (run_file file limit j)) × (k' ≡ journal_after (run_file file limit j) j) → (r ≡ r') × (k ≡ k')
  same_desk_run limit j r r' k k' h i = (h.0 ∙ sym i.0, h.1 ∙ sym i.1)

  pub same_desk_open : (run : List ℕ) (r r' : ℕ) (x x' : List ℕ)
      → (r ≡ open_word (open_row file run)) × (x ≡ (open_row file run).row)
      → (r' ≡ open_word (open_row file run)) × (x' ≡ (open_row file run).row) → (r ≡ r') × (x ≡ x')
  same_desk_open run r r' x x' h i = (h.0 ∙ sym i.0, h.1 ∙ sym i.1)

  pub same_desk_move : (run : List ℕ) (limit : ℕ) (j : List ℕ) (r r' : ℕ) (x x' k k' : List ℕ)
      → (r ≡ move_word (call_row file (asked limit j) run)) × ((x ≡ (call_row file (asked limit j) run).row)
      × (k ≡ written (call_row file (asked limit j) run).lines j))
      → (r' ≡ move_word (call_row file (asked limit j) run)) × ((x' ≡ (call_row file (asked limit j) run).row)
      × (k' ≡ written (call_row file (asked limit j) run).lines j))
      → (r ≡ r') × ((x ≡ x') × (k ≡ k'))
  same_desk_move run limit j r r' x x' k k' h i =
      (h.0 ∙ sym i.0, (h.1.0 ∙ sym i.1.0, h.1.1 ∙ sym i.1.1))
