-- Codes are in the order of their numbers. Assumes nothing.
use Rattle.std.specs.Prelude.{◌≡◌, refl, Bool, true, false, ℕ, ◌+◌, ◌-◌, ◌≤◌, ◌<◌, ltb, ℤ, pos, negsuc}
use Rattle.std.proofs.Common.{arith, lt-ltb, le-ltb, ltb-true, ltb-false}
use Rattle.std.specs.Int.Signed.{lt_z}
use Rattle.promises.specs.Fit.{I32}
use Rattle.base_numbers.specs.Code as Code
use Rattle.base_i32.specs.Code.{code}

-- Two tests on two numbers agree where each follows from the other.
pub same_test : (a b c d : ℕ) → (a < b → c < d) → (b ≤ a → d ≤ c) → ltb c d ≡ ltb a b
same_test a b c d f g = by (ltb a b) refl
  where
    by : (t : Bool) → ltb a b ≡ t → ltb c d ≡ t
    by true e = lt-ltb c d (f (ltb-true a b e))
    by false e = le-ltb c d (g (ltb-false a b e))

pub code_order : (x y : ℤ) → I32 x → I32 y → ltb (code x) (code y) ≡ lt_z x y
unfolding code
code_order (pos a) (pos b) h g =
    same_test a b (Code.ZERO + a) (Code.ZERO + b) (λ l. omega arith) (λ l. omega arith)
code_order (pos a) (negsuc b) h g = le-ltb (Code.ZERO + a) (Code.MINUS_ONE - b) (omega arith)
code_order (negsuc a) (pos b) h g = lt-ltb (Code.MINUS_ONE - a) (Code.ZERO + b) (omega arith)
code_order (negsuc a) (negsuc b) h g =
    same_test b a (Code.MINUS_ONE - a) (Code.MINUS_ONE - b) (λ l. omega arith) (λ l. omega arith)
