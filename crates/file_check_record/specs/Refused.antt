-- The refusals by document 01's numbers, and what the code answers as an outcome. Assumes nothing.
use Rattle.std.specs.Prelude.{ℕ, ◌≡◌, refl, [], ◌∷◌, get_or, Result, Ok, Err}
use Rattle.std.proofs.Common.{sym, ◌∙◌, ap}
use Rattle.semantics.specs.Words.{Outcome, ok, fails, Passed, passed}
use Rattle.semantics.specs.Numbers as No
use Rattle.file_check_record.specs.declared.Refusal.{Refusal}
use Rattle.file_check_record.specs.declared.Refusal.TheVariants as R

abbrev pub number_of : Refusal → ℕ
number_of R.Short = No.SHORT
number_of R.Kind = No.KIND
number_of R.Place = No.PLACE
number_of R.Many = No.MANY
number_of R.Size = No.SIZE
number_of R.Value = No.VALUE
number_of R.Twice = No.TWICE
number_of R.Name = No.NAME
number_of R.Order = No.ORDER
number_of R.Deep = No.DEEP

-- No two have one number: each is found by its own.
abbrev by_number : ℕ → Refusal
by_number n =
    get_or
    (R.Deep ∷ R.Short ∷ R.Kind ∷ R.Place ∷ R.Many ∷ R.Size ∷ R.Value ∷ R.Twice ∷ R.Name ∷ R.Order ∷ R.Deep ∷ [])
    n
    R.Deep

found : (r : Refusal) → by_number (number_of r) ≡ r
found R.Short = refl
found R.Kind = refl
found R.Place = refl
found R.Many = refl
found R.Size = refl
found R.Value = refl
found R.Twice = refl
found R.Name = refl
found R.Order = refl
found R.Deep = refl

pub same_refusal : (r r' : Refusal) → number_of r ≡ number_of r' → r ≡ r'
same_refusal r r' e = sym (found r) ∙ (ap by_number e ∙ found r')

-- What the code answers, as the definitions' outcome.
abbrev pub outcome_of : {A : Type 0} → Result A Refusal → Outcome Passed
outcome_of (Ok a) = ok passed
outcome_of (Err r) = fails (number_of r)
