-- What the definitions make of a DO, case by case. Assumes nothing.
use Prim.Native.Nat.{ℕ, zero, suc}
use mathlib.Core.Path.{◌≡◌, refl, ap}
use Rattle.semantics.specs.Words.{ok}
use Rattle.semantics.specs.Model.{Model}
use Rattle.semantics.specs.State.{State, Process, process, put, past, into}
use Rattle.semantics.specs.Walk.{quiet}
use Rattle.semantics.specs.Step.{do_times}

module _ (m : Model) (s : State) (p : ℕ) where
  abbrev q : Process
  q = process s p

  pub do_none : (n b : ℕ) → n ≡ 0 → do_times m s p n b ≡ ok (quiet (put p (past q) s))
  unfolding do_times
  do_none n b e = ap (λ k. do_times m s p k b) e

  pub do_some : (n b : ℕ) → (n ≡ 0 → ⊥) → do_times m s p n b ≡ ok (quiet (put p (into n b q) s))
  unfolding do_times
  do_some zero b h = absurd (h refl)
  do_some (suc n) b h = refl
