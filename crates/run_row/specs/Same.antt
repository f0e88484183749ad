-- One answer: the contracts of an open run in a row admit one, and one row and journal left. Assumes nothing.
use Rattle.std.specs.Prelude.{ℕ, ◌<◌, ◌≡◌, List, Result, Ok, Err}
use Rattle.std.proofs.Common.{arith, refl, sym, ◌∙◌, ap}
use Rattle.semantics.specs.Numbers as No
use Rattle.file_check_record.specs.declared.Refusal.{Refusal}
use Rattle.file_check_record.specs.declared.Refusal.TheVariants as R
use Rattle.file_check_record.specs.Refused.{number_of, same_refusal}
use Rattle.file_check.specs.declared.Refused.{Refused}
use Rattle.run_row.specs.declared.Unopened.{Unopened}
use Rattle.run_row.specs.declared.Unopened.TheVariants.{File, Length}
use Rattle.run_limit.specs.declared.Ran.{Ran}
use Rattle.run_limit.specs.Same.{same_parts}
use Rattle.run_row.specs.Open.{open_row, number_told, place_told, TellsOpened}
use Rattle.run_row.specs.Call.{Called, asked, call_row, TellsCall}

-- A refusal's number is neither 0 nor 20.
number_few : (r : Refusal) → (0 < number_of r) × (number_of r < No.STATE)
number_few R.Short = (omega arith, omega arith)
number_few R.Kind = (omega arith, omega arith)
number_few R.Place = (omega arith, omega arith)
number_few R.Many = (omega arith, omega arith)
number_few R.Size = (omega arith, omega arith)
number_few R.Value = (omega arith, omega arith)
number_few R.Twice = (omega arith, omega arith)
number_few R.Name = (omega arith, omega arith)
number_few R.Order = (omega arith, omega arith)
number_few R.Deep = (omega arith, omega arith)

abbrev refused_as : Refusal → ℕ → Refused
refused_as r p = record { refusal = r; place = p }

same_told : (r r' : Result (Unit {0}) Unopened) → number_told r ≡ number_told r' → place_told r ≡ place_told r' → r ≡ r'
same_told (Ok a) (Ok b) n p = refl
same_told (Ok a) (Err (File r)) n p = absurd (omega (arith, n, (number_few r.refusal).0))
same_told (Ok a) (Err Length) n p = absurd (omega (arith, n))
same_told (Err (File r)) (Ok a) n p = absurd (omega (arith, n, (number_few r.refusal).0))
same_told (Err (File r)) (Err (File q)) n p =
    ap (λ x. Err (File (refused_as x r.place))) (same_refusal r.refusal q.refusal n)
    ∙ ap (λ x. Err (File (refused_as q.refusal x))) p
same_told (Err (File r)) (Err Length) n p = absurd (omega (arith, n, (number_few r.refusal).1))
same_told (Err Length) (Ok a) n p = absurd (omega (arith, n))
same_told (Err Length) (Err (File r)) n p = absurd (omega (arith, n, (number_few r.refusal).1))
same_told (Err Length) (Err Length) n p = refl

pub same_open_row : (s w : List ℕ) (r r' : Result (Unit {0}) Unopened) (x x' : List ℕ) → TellsOpened (open_row s w) r x
    → TellsOpened (open_row s w) r' x' → (r ≡ r') × (x ≡ x')
same_open_row s w r r' x x' h k = (
  same_told r r' (h.number_is ∙ sym k.number_is) (h.place_is ∙ sym k.place_is),
  h.row_is ∙ sym k.row_is,
)

-- Any call is told in one way only; so one on a row is.
pub same_called : (d : Called) (r r' : Ran) (x x' j k k' : List ℕ) → TellsCall d r x j k → TellsCall d r' x' j k'
    → (r ≡ r') × ((x ≡ x') × (k ≡ k'))
same_called d r r' x x' j k k' t u = (
  same_parts r r' (t.answer_is ∙ sym u.answer_is) (t.steps_are ∙ sym u.steps_are) (t.lines_are ∙ sym u.lines_are),
  (t.row_is ∙ sym u.row_is, t.journal_is ∙ sym u.journal_is),
)

pub same_run_row : (s w : List ℕ) (limit : ℕ) (j : List ℕ) (r r' : Ran) (x x' k k' : List ℕ)
    → TellsCall (call_row s (asked limit j) w) r x j k → TellsCall (call_row s (asked limit j) w) r' x' j k'
    → (r ≡ r') × ((x ≡ x') × (k ≡ k'))
same_run_row s w limit j r r' x x' k k' t u = same_called (call_row s (asked limit j) w) r r' x x' j k k' t u
