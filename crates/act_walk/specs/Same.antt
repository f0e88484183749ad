-- One answer: a walk is told in one way only, its lines, the work and the journal. Assumes nothing.
use Rattle.std.specs.Prelude.{ℕ, ◌≡◌, List}
use Rattle.std.proofs.Common.{sym, ◌∙◌}
use Rattle.semantics.specs.Walk.{Next}
use Rattle.act_walk.specs.Walking.{Walked}

-- The walk is one of the record that the `requires` asks for.
pub same_walked : {G : Type 0} (n : G → Next) (B : ℕ → Type 0) (r r' : ℕ) (x x' : List ℕ) (at : ℕ) (out y y' : List ℕ) → G
    → ((v : G) → Walked (n v) r x at out y) × B r → ((v : G) → Walked (n v) r' x' at out y') × B r'
    → (r ≡ r') × ((x ≡ x') × (y ≡ y'))
same_walked n B r r' x x' at out y y' v h k =
    let a = h.0 v in
    let b = k.0 v in
    (a.0 ∙ sym b.0, (a.1.0 ∙ sym b.1.0, a.1.1 ∙ sym b.1.1))
