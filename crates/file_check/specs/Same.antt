-- One answer: the contract of the check admits one. Assumes nothing.
use Rattle.std.specs.Prelude.{ℕ, ◌≡◌, List, Result, Ok, Err}
use Rattle.std.proofs.Common.{arith, refl, sym, ◌∙◌, ap}
use Rattle.semantics.specs.Words.{Passed}
use Rattle.semantics.specs.Decode.{Checked, refused, accepted}
use Rattle.semantics.specs.Desk.{check_file}
use Rattle.file_check_record.specs.declared.Refusal.{Refusal}
use Rattle.file_check_record.specs.Refused.{number_of, same_refusal}
use Rattle.file_check.specs.declared.Refused.{Refused}
use Rattle.file_check.specs.Check.{passed_of}

abbrev refused_at : Refusal → ℕ → Refused
refused_at r p = record { refusal = r; place = p }

abbrev number_in : Checked Passed → ℕ
number_in (refused n p) = n
number_in (accepted a) = 0

abbrev place_in : Checked Passed → ℕ
place_in (refused n p) = p
place_in (accepted a) = 0

-- A refusal by its number and its place is one.
pub same_refused : (r r' : Refused) → ◌≡◌ {A = Checked Passed} (refused (number_of r.refusal) r.place) (refused (number_of r'.refusal) r'.place) → r ≡ r'
same_refused r r' e =
    ap (λ x. refused_at x r.place) (same_refusal r.refusal r'.refusal (ap number_in e))
    ∙ ap (refused_at r'.refusal) (ap place_in e)

abbrev passes_in : Checked Passed → ℕ
passes_in (refused n p) = 0
passes_in (accepted a) = 1

same_passed : (r r' : Result (Unit {0}) Refused) → passed_of r ≡ passed_of r' → r ≡ r'
same_passed (Ok a) (Ok b) e = refl
same_passed (Ok a) (Err r) e = let z : ◌≡◌ {A = ℕ} 1 0 = ap passes_in e in absurd (omega arith)
same_passed (Err r) (Ok a) e = let z : ◌≡◌ {A = ℕ} 0 1 = ap passes_in e in absurd (omega arith)
same_passed (Err r) (Err r') e = ap Err (same_refused r r' e)

pub same_checked : (s : List ℕ) (r r' : Result (Unit {0}) Refused) → passed_of r ≡ check_file s → passed_of r' ≡ check_file s
    → r ≡ r'
same_checked s r r' h k = same_passed r r' (h ∙ sym k)
