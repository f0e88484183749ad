-- What the check's answer says of the bytes. Assumes nothing.
use Prim.Native.Nat.{ℕ}
use mathlib.Core.Path.{◌≡◌, refl, sym, ap}
use mathlib.Core.List.{List}
use native.Mathlib.Omega.{arith}
use Rattle.semantics.specs.Words.{Passed, passed}
use Rattle.semantics.specs.Model.{Model}
use Rattle.semantics.specs.Decode.{Checked, refused, accepted, if_accepted, decode}
use Rattle.semantics.specs.Desk.{check_file}

abbrev told : Checked Passed → Checked Model → Checked Model
told (refused n p) q = refused n p
told (accepted a) q = q

abbrev passes_in : Checked Passed → ℕ
passes_in (refused n p) = 0
passes_in (accepted a) = 1

module _ (bs : List ℕ) where
  pub refuses : (n p : ℕ) → refused n p ≡ check_file bs → decode bs ≡ refused n p
  unfolding check_file
  refuses n p e = go (decode bs) e
    where
      go : (q : Checked Model) → refused n p ≡ (if_accepted q λ m. accepted passed) → q ≡ refused n p
      go (refused a b) e = sym (ap (λ x. told x (refused 0 0)) e)
      go (accepted m) e = let z : ◌≡◌ {A = ℕ} 0 1 = ap passes_in e in absurd (omega arith)

  pub accepts : accepted passed ≡ check_file bs → (m : Model) × (decode bs ≡ accepted m)
  unfolding check_file
  accepts e = go (decode bs) e
    where
      go : (q : Checked Model) → accepted passed ≡ (if_accepted q λ m. accepted passed) → (m : Model) × (q ≡ accepted m)
      go (refused a b) e = let z : ◌≡◌ {A = ℕ} 1 0 = ap passes_in e in absurd (omega arith)
      go (accepted m) e = (m, refl)
