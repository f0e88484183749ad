-- One answer: the contract of a whole run admits one, and one journal left. Assumes nothing.
use Rattle.std.specs.Prelude.{ℕ, ◌≡◌, List, Result, Ok, Err}
use Rattle.std.proofs.Common.{arith, refl, sym, ◌∙◌, ap}
use Rattle.semantics.specs.Words.{Passed, passed}
use Rattle.semantics.specs.Decode.{Checked, refused, accepted}
use Rattle.semantics.specs.Desk.{Told, run_file}
use Rattle.semantics.specs.Run as definition
use Rattle.semantics.specs.Run.{CLOSED, IDLE, LIMIT, FAULT}
use Rattle.file_check.specs.declared.Refused.{Refused}
use Rattle.file_check.specs.Same.{same_refused}
use Rattle.run_limit.specs.declared.Answer.{Answer}
use Rattle.run_limit.specs.declared.Answer.TheVariants.{Closed, Idle, Limit, Fault}
use Rattle.run_limit.specs.Ran.{answer_of}
use Rattle.run_file.specs.declared.Whole.{Whole}
use Rattle.run_file.specs.Whole.{told_of, journal_after}

abbrev whole_as : Answer → ℕ → Whole
whole_as a n = record { answer = a; steps = n }

-- What is told has the answer and the steps, or the refusal.
abbrev told_as : definition.Answer → Answer
told_as CLOSED = Closed
told_as IDLE = Idle
told_as LIMIT = Limit
told_as (FAULT k) = Fault k

told_back : (a : Answer) → told_as (answer_of a) ≡ a
told_back Closed = refl
told_back Idle = refl
told_back Limit = refl
told_back (Fault k) = refl

abbrev whole_in : Checked Told → Whole
whole_in (refused n p) = whole_as Closed 0
whole_in (accepted t) = whole_as (told_as t.answer) t.steps

abbrev refused_in : Checked Told → Checked Passed
refused_in (refused n p) = refused n p
refused_in (accepted t) = accepted passed

abbrev accepts_in : Checked Told → ℕ
accepts_in (refused n p) = 0
accepts_in (accepted t) = 1

same_told : (r r' : Result Whole Refused) (j : List ℕ) → told_of r j ≡ told_of r' j → r ≡ r'
same_told (Ok a) (Ok b) j e =
    ap Ok
    (ap (λ x. whole_as x a.steps) (sym (told_back a.answer))
    ∙ (ap whole_in e ∙ ap (λ x. whole_as x b.steps) (told_back b.answer)))
same_told (Ok a) (Err r) j e = let z : ◌≡◌ {A = ℕ} 1 0 = ap accepts_in e in absurd (omega arith)
same_told (Err r) (Ok a) j e = let z : ◌≡◌ {A = ℕ} 0 1 = ap accepts_in e in absurd (omega arith)
same_told (Err r) (Err r') j e = ap Err (same_refused r r' (ap refused_in e))

pub same_whole : (s : List ℕ) (limit : ℕ) (j : List ℕ) (r r' : Result Whole Refused) (k k' : List ℕ)
    → (told_of r k ≡ run_file s limit j) × (k ≡ journal_after (run_file s limit j) j)
    → (told_of r' k' ≡ run_file s limit j) × (k' ≡ journal_after (run_file s limit j) j) → (r ≡ r') × (k ≡ k')
same_whole s limit j r r' k k' h i =
    let e : k ≡ k' = h.1 ∙ sym i.1 in
    (same_told r r' k' (ap (told_of r) (sym e) ∙ (h.0 ∙ sym i.0)), e)
