-- One answer: the contract of the reader admits one, and one content of the bytes that are lent for the records.
-- Assumes nothing.
use Rattle.std.specs.Prelude.{ℕ, ◌≡◌, List, length, Result, Ok, Err}
use Rattle.std.proofs.Common.{arith, sym, ◌∙◌, ap}
use Rattle.std.proofs.Math.Path.{refl}
use Rattle.text_semantics.specs.Answer.{answer}
use Rattle.text_reader.specs.declared.refused.Refused.{Refused}
use Rattle.text_reader.specs.declared.refused.Reason.{Reason}
use Rattle.text_reader.specs.declared.refused.Reason.TheVariants.{Grammar, Unknown, Again, Checks, Buffer}
use Rattle.text_reader.specs.Reason.{number_of}
use Rattle.text_reader.specs.Answer.{answered_of, told_of, left}

-- A number is that of one reason, and of no record that is written.
pub one_reason : (a b : Reason) → number_of a ≡ number_of b → a ≡ b
one_reason Grammar Grammar e = refl
one_reason Grammar Unknown e = absurd (omega arith)
one_reason Grammar Again e = absurd (omega arith)
one_reason Grammar Checks e = absurd (omega arith)
one_reason Grammar Buffer e = absurd (omega arith)
one_reason Unknown Grammar e = absurd (omega arith)
one_reason Unknown Unknown e = refl
one_reason Unknown Again e = absurd (omega arith)
one_reason Unknown Checks e = absurd (omega arith)
one_reason Unknown Buffer e = absurd (omega arith)
one_reason Again Grammar e = absurd (omega arith)
one_reason Again Unknown e = absurd (omega arith)
one_reason Again Again e = refl
one_reason Again Checks e = absurd (omega arith)
one_reason Again Buffer e = absurd (omega arith)
one_reason Checks Grammar e = absurd (omega arith)
one_reason Checks Unknown e = absurd (omega arith)
one_reason Checks Again e = absurd (omega arith)
one_reason Checks Checks e = refl
one_reason Checks Buffer e = absurd (omega arith)
one_reason Buffer Grammar e = absurd (omega arith)
one_reason Buffer Unknown e = absurd (omega arith)
one_reason Buffer Again e = absurd (omega arith)
one_reason Buffer Checks e = absurd (omega arith)
one_reason Buffer Buffer e = refl

never_written : {A : Type 0} (a : Reason) → number_of a ≡ 0 → A
never_written Grammar e = absurd (omega arith)
never_written Unknown e = absurd (omega arith)
never_written Again e = absurd (omega arith)
never_written Checks e = absurd (omega arith)
never_written Buffer e = absurd (omega arith)

pub one_told : (r s : Result ℕ Refused) → told_of r ≡ told_of s → r ≡ s
one_told (Ok n) (Ok m) e = ap Ok (ap (λ a. a.place) e)
one_told (Ok n) (Err f) e = never_written f.reason (sym (ap (λ a. a.number) e))
one_told (Err d) (Ok m) e = never_written d.reason (ap (λ a. a.number) e)
one_told (Err d) (Err f) e =
    let x : d.reason ≡ f.reason = one_reason d.reason f.reason (ap (λ a. a.number) e) in
    let y : d.place ≡ f.place = ap (λ a. a.place) e in
    ap Err (λ i. record { reason = x i; place = y i })

pub same_read : (text out : List ℕ) (r r' : Result ℕ Refused) (xs xs' : List ℕ)
    → (told_of r ≡ answered_of (answer text (length out))) × (xs ≡ left (answer text (length out)) out)
    → (told_of r' ≡ answered_of (answer text (length out))) × (xs' ≡ left (answer text (length out)) out)
    → (r ≡ r') × (xs ≡ xs')
same_read text out r r' xs xs' h k = (one_told r r' (h.0 ∙ sym k.0), h.1 ∙ sym k.1)
