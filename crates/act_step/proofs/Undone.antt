-- A step that was made within another: its fault is undone, and where it has none the work before it is forgotten.
-- Assumes nothing.
use Prim.Native.Nat.{ℕ}
use native.Mathlib.Omega.{arith}
use mathlib.Core.Path.{◌≡◌}
use mathlib.Core.List.{List}
use Rattle.semantics.specs.Words.{Outcome, ok, fails}
use Rattle.semantics.specs.Walk.{Next}
use Rattle.promises.specs.Safe.{Safe, above}
use Rattle.act_floor.specs.Acting.{Stepped}

module _ (o : Outcome Next) (f l : ℕ) (w w' : List ℕ) (at : ℕ) (out out' : List ℕ) (done : Stepped o f l w w' at out out') where
  pub still : (f ≡ 0 → ⊥) → w' ≡ w
  still = by o done
    where
      by : (o : Outcome Next) → Stepped o f l w w' at out out' → (f ≡ 0 → ⊥) → w' ≡ w
      by (ok n) h not0 = absurd (not0 h.0)
      by (fails k) h not0 = h.1.1.0

  pub faulted : (f ≡ 0 → ⊥) → (u u' : List ℕ) → (w' ≡ w → u' ≡ u) → Stepped o f l u u' at out out'
  faulted = by o done
    where
      by : (o : Outcome Next) → Stepped o f l w w' at out out' → (f ≡ 0 → ⊥) → (u u' : List ℕ) → (w' ≡ w → u' ≡ u)
          → Stepped o f l u u' at out out'
      by (ok n) h not0 u u' g = absurd (not0 h.0)
      by (fails k) h not0 u u' g = (h.0, (h.1.0, (g h.1.1.0, h.1.1.1)))

  pub went : Safe o → f ≡ 0 → (u : List ℕ) → Stepped o f l u w' at out out'
  went s e u = by o s done
    where
      by : (o : Outcome Next) → Safe o → Stepped o f l w w' at out out' → Stepped o f l u w' at out out'
      by (ok n) s h = h
      by (fails k) (above a b) h = let g = h.0 in absurd (omega (arith, e))
