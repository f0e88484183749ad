-- One answer: two answers that meet the same contract are the same. The laws for contracts that are equations, over any
-- definition; what is lent to be written counts as an answer. Assumes nothing.
use Rattle.std.specs.Prelude.{◌≡◌}
use Rattle.std.proofs.Common.{sym, ◌∙◌}

module _ {A : Type 0} where
  -- AN EQUATION; and one with more said of the answer.
  pub same_equal : {x r r' : A} → r ≡ x → r' ≡ x → r ≡ r'
  same_equal h k = h ∙ sym k

  pub same_bounded : {x : A} (B : A → Type 0) {r r' : A} → (r ≡ x) × B r → (r' ≡ x) × B r' → r ≡ r'
  same_bounded B h k = h.0 ∙ sym k.0

  -- GIVEN G, the record that the `requires` asks for: the equation holds for each v of it, and the caller has shown that there
  -- is one. With more said of the answer, for each v or for all.
  module _ {G : Type 0} (f : G → A) where
    pub same_given : {r r' : A} → G → ((v : G) → r ≡ f v) → ((v : G) → r' ≡ f v) → r ≡ r'
    same_given v h k = h v ∙ sym (k v)

    pub same_given_within : (B : G → A → Type 0) {r r' : A} → G → ((v : G) → (r ≡ f v) × B v r)
        → ((v : G) → (r' ≡ f v) × B v r') → r ≡ r'
    same_given_within B v h k = (h v).0 ∙ sym (k v).0

    pub same_given_bounded : (B : A → Type 0) {r r' : A} → G → ((v : G) → r ≡ f v) × B r → ((v : G) → r' ≡ f v) × B r'
        → r ≡ r'
    same_given_bounded B v h k = h.0 v ∙ sym (k.0 v)
