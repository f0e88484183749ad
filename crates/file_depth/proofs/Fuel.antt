-- Enough fuel is enough: a value by recursion over later blocks does not depend on how far the last block is.
-- Assumes nothing.
use Prim.Native.Nat.{ℕ, zero, suc, ◌+◌, ◌-◌, ◌≤◌, ◌<◌}
use mathlib.Core.Path.{◌≡◌, sym, ◌∙◌}
use native.Mathlib.Omega.{arith}

-- `at d b` is the value of block b where the last of the n blocks is at most d away. `step` gives it from the values of other
-- blocks, of which only those of later blocks matter.
module _ {A : Type 0} (n : ℕ) (at : ℕ → ℕ → A) (step : (ℕ → A) → ℕ → A) (is : (d b : ℕ) → at (suc d) b ≡ step (at d) b)
    (looks : (p q : ℕ → A) (b : ℕ) → b < n → ((x : ℕ) → b < x → x < n → p x ≡ q x) → step p b ≡ step q b) where
  enough : (f g b : ℕ) → b < n → n ≤ b + f → n ≤ b + g → at f b ≡ at g b
  enough zero g b l h k = absurd (omega arith)
  enough (suc f) zero b l h k = absurd (omega arith)
  enough (suc f) (suc g) b l h k =
      is f b ∙ looks (at f) (at g) b l (λ x p q. enough f g x q (omega arith) (omega arith)) ∙ sym (is g b)

  pub at_distance : (b : ℕ) → b < n → at (n - b) b ≡ step (λ x. at (n - x) x) b
  at_distance b l =
      let e : n - b ≡ suc (n - b - 1) = omega arith in
      rw e (is (n - b - 1) b ∙ looks (at (n - b - 1)) (λ x. at (n - x) x) b l
      (λ x p q. enough (n - b - 1) (n - x) x q (omega arith) (omega arith)))
