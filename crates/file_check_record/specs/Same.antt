-- One answer: what a record is judged to be, and the tail that the table has by a number. Assumes nothing.
use Rattle.std.specs.Prelude.{ℕ, ◌≡◌, refl, Result, Ok, Err}
use Rattle.std.proofs.Common.{arith, sym, ◌∙◌, ap}
use Rattle.semantics.specs.Words.{Outcome, ok, fails, Passed}
use Rattle.semantics.specs.Record.{nothing, expression, branches, list_of, item, share}
use Rattle.semantics.specs.Record as R
use Rattle.file_check_tails.specs.declared.Tail.{Tail}
use Rattle.file_check_tails.specs.declared.Tail.TheVariants.{Nothing, Expression, Branches, Claim, Shares}
use Rattle.file_check_tails.specs.Kinds.{kind_of}
use Rattle.file_check_record.specs.declared.Refusal.{Refusal}
use Rattle.file_check_record.specs.Refused.{number_of, same_refusal, outcome_of}

abbrev number_in : Outcome Passed → ℕ
number_in (ok a) = 0
number_in (fails n) = n

abbrev passes_in : Outcome Passed → ℕ
passes_in (ok a) = 1
passes_in (fails n) = 0

pub same_outcome : (r r' : Result (Unit {0}) Refusal) → outcome_of r ≡ outcome_of r' → r ≡ r'
same_outcome (Ok a) (Ok b) e = refl
same_outcome (Ok a) (Err r) e = let z : ◌≡◌ {A = ℕ} 1 0 = ap passes_in e in absurd (omega arith)
same_outcome (Err r) (Ok a) e = let z : ◌≡◌ {A = ℕ} 0 1 = ap passes_in e in absurd (omega arith)
same_outcome (Err r) (Err r') e = ap Err (same_refusal r r' (ap number_in e))

-- A tail by its kind.
abbrev by_kind : R.Tail → Tail
by_kind nothing = Nothing
by_kind expression = Expression
by_kind branches = Branches
by_kind (list_of item) = Claim
by_kind (list_of share) = Shares

found : (t : Tail) → by_kind (kind_of t) ≡ t
found Nothing = refl
found Expression = refl
found Branches = refl
found Claim = refl
found Shares = refl

pub same_tail : (t u : Tail) → kind_of t ≡ kind_of u → t ≡ u
same_tail t u e = sym (found t) ∙ (ap by_kind e ∙ found u)
