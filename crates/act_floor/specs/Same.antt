-- One answer: a step is told in one way only, its fault, its lines, the work and the journal. Assumes nothing.
use Rattle.std.specs.Prelude.{ℕ, ◌≡◌, List, []}
use Rattle.std.proofs.Common.{sym, ◌∙◌, ap}
use Rattle.semantics.specs.Words.{Outcome, ok, fails}
use Rattle.semantics.specs.Walk.{Next}
use Rattle.act_floor.specs.declared.Went.{Went}
use Rattle.act_floor.specs.Acting.{Stepped, SteppedQuietly, quietly}

abbrev went_as : ℕ → ℕ → Went
went_as f n = record { fault = f; lines = n }

module _ (r r' : Went) (w x x' : List ℕ) (at : ℕ) (out y y' : List ℕ) where
  abbrev Same : Type 0
  Same = (r ≡ r') × ((x ≡ x') × (y ≡ y'))

  told_once : (o : Outcome Next) → Stepped o r.fault r.lines w x at out y
      → Stepped o r'.fault r'.lines w x' at out y' → Same
  told_once (ok n) h k = (
    ap (λ f. went_as f r.lines) (h.0 ∙ sym k.0) ∙ ap (went_as r'.fault) (h.1.0 ∙ sym k.1.0),
    (h.1.1.0 ∙ sym k.1.1.0, h.1.1.1 ∙ sym k.1.1.1),
  )
  told_once (fails n) h k = (
    ap (λ f. went_as f r.lines) (h.0 ∙ sym k.0) ∙ ap (went_as r'.fault) (h.1.0 ∙ sym k.1.0),
    (h.1.1.0 ∙ sym k.1.1.0, h.1.1.1 ∙ sym k.1.1.1),
  )

  -- The step is one of the record that the `requires` asks for.
  pub same_stepped : {G : Type 0} (o : G → Outcome Next) → G
      → ((v : G) → Stepped (o v) r.fault r.lines w x at out y)
      → ((v : G) → Stepped (o v) r'.fault r'.lines w x' at out y') → (r ≡ r') × ((x ≡ x') × (y ≡ y'))
  same_stepped o v h k = told_once (o v) (h v) (k v)

-- And so is one that writes no line.
pub same_quietly : {G : Type 0} (o : G → Outcome Next) (r r' : Went) (w x x' : List ℕ) → G
    → ((v : G) → SteppedQuietly (o v) r.fault r.lines w x)
    → ((v : G) → SteppedQuietly (o v) r'.fault r'.lines w x') → (r ≡ r') × (x ≡ x')
same_quietly o r r' w x x' v h k =
    let s =
    same_stepped r r' w x x' 0 [] [] [] o v (λ v. quietly (o v) r.fault r.lines w x 0 [] (h v))
    (λ v. quietly (o v) r'.fault r'.lines w x' 0 [] (k v)) in
    (s.0, s.1.0)
