-- One answer: a run is told in one way only, with the work and the journal. Assumes nothing.
use Rattle.std.specs.Prelude.{ℕ, ◌≡◌, refl, List}
use Rattle.std.proofs.Common.{sym, ◌∙◌, ap}
use Rattle.semantics.specs.Run as definition
use Rattle.semantics.specs.Run.{CLOSED, IDLE, LIMIT, FAULT}
use Rattle.run_limit.specs.declared.Answer.{Answer}
use Rattle.run_limit.specs.declared.Answer.TheVariants.{Closed, Idle, Limit, Fault}
use Rattle.run_limit.specs.declared.Ran.{Ran}
use Rattle.run_limit.specs.Ran.{answer_of, RanAs}

-- Each answer has one form in the code.
abbrev told_of : definition.Answer → Answer
told_of CLOSED = Closed
told_of IDLE = Idle
told_of LIMIT = Limit
told_of (FAULT k) = Fault k

told_back : (a : Answer) → told_of (answer_of a) ≡ a
told_back Closed = refl
told_back Idle = refl
told_back Limit = refl
told_back (Fault k) = refl

pub same_answer : (a b : Answer) → answer_of a ≡ answer_of b → a ≡ b
same_answer a b e = sym (told_back a) ∙ ap told_of e ∙ told_back b

-- What is told of a run, by its parts.
abbrev ran_as : Answer → ℕ → ℕ → Ran
ran_as a n l = record { answer = a; steps = n; lines = l }

pub same_parts : (r r' : Ran) → answer_of r.answer ≡ answer_of r'.answer → r.steps ≡ r'.steps → r.lines ≡ r'.lines
    → r ≡ r'
same_parts r r' a n l =
    ap (λ z. ran_as z r.steps r.lines) (same_answer r.answer r'.answer a)
    ∙ ap (λ z. ran_as r'.answer z r.lines) n
    ∙ ap (ran_as r'.answer r'.steps) l

-- The run is one of the record that the `requires` asks for.
pub same_ran : {G : Type 0} (d : G → definition.Ran) (r r' : Ran) (x x' j k k' : List ℕ) → G
    → ((v : G) → RanAs (d v) r x j k) → ((v : G) → RanAs (d v) r' x' j k') → (r ≡ r') × ((x ≡ x') × (k ≡ k'))
same_ran d r r' x x' j k k' v h i =
    let t = h v in
    let u = i v in (
      same_parts r r' (t.answer_is ∙ sym u.answer_is) (t.steps_are ∙ sym u.steps_are) (t.lines_are ∙ sym u.lines_are),
      (t.state_is ∙ sym u.state_is, t.journal_is ∙ sym u.journal_is),
    )
