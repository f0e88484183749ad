-- One answer: the contract of the bound admits one. Assumes nothing.
use Rattle.std.specs.Prelude.{ℕ, ◌≡◌, List, Result, Ok, Err}
use Rattle.std.proofs.Common.{arith, refl, sym, ◌∙◌, ap}
use Rattle.semantics.specs.Decode.{Checked, refused, accepted}
use Rattle.semantics.specs.Words.{Passed, passed}
use Rattle.semantics.specs.Bound as definition
use Rattle.semantics.specs.Bound.{NONE, OVER, AT}
use Rattle.semantics.specs.Desk.{bound_file}
use Rattle.file_check.specs.declared.Refused.{Refused}
use Rattle.file_check.specs.Same.{same_refused}
use Rattle.file_bound.specs.declared.Bounded.{Bounded}
use Rattle.file_bound.specs.declared.Bounded.TheVariants as B
use Rattle.file_bound.specs.Answer.{bounded_of}

-- A bound, and what is refused, as they are told.
abbrev told_back : Checked definition.Bounded → Bounded
told_back (refused n p) = B.None
told_back (accepted NONE) = B.None
told_back (accepted OVER) = B.Over
told_back (accepted (AT n)) = B.At n

abbrev refused_in : Checked definition.Bounded → Checked Passed
refused_in (refused n p) = refused n p
refused_in (accepted b) = accepted passed

abbrev accepts_in : Checked definition.Bounded → ℕ
accepts_in (refused n p) = 0
accepts_in (accepted b) = 1

found : (b : Bounded) → told_back (bounded_of (Ok b)) ≡ b
found B.None = refl
found B.Over = refl
found (B.At n) = refl

same_bounded : (r r' : Result Bounded Refused) → bounded_of r ≡ bounded_of r' → r ≡ r'
same_bounded (Ok a) (Ok b) e = ap Ok (sym (found a) ∙ (ap told_back e ∙ found b))
same_bounded (Ok a) (Err r) e = let z : ◌≡◌ {A = ℕ} 1 0 = ap accepts_in e in absurd (omega arith)
same_bounded (Err r) (Ok a) e = let z : ◌≡◌ {A = ℕ} 0 1 = ap accepts_in e in absurd (omega arith)
same_bounded (Err r) (Err r') e = ap Err (same_refused r r' (ap refused_in e))

pub same_bound : (s : List ℕ) (r r' : Result Bounded Refused) → bounded_of r ≡ bound_file s → bounded_of r' ≡ bound_file s
    → r ≡ r'
same_bound s r r' h k = same_bounded r r' (h ∙ sym k)
