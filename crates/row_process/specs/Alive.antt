-- Who is in a block, or in hand, lives. Assumes nothing.
use Rattle.std.specs.Prelude.{ℕ, ◌≤◌, ◌≡◌, refl, List, [], ◌∷◌}
use Rattle.std.proofs.Common.{arith, ap}
use Rattle.semantics.specs.Model.{Model}
use Rattle.semantics.specs.State.{State, Frame, Waiter, process}
use Rattle.promises.specs.Sound.{al, Held}
use Rattle.promises.specs.Keep.{alive_in}
use Rattle.promises.specs.Moves.{hand_alive}
use Rattle.row_process.specs.Process.{Lives}

module _ {m : Model} {s : State} {l : List Waiter} {z y : ℕ → ℕ} (h : Held m s l z y) (p : ℕ) where
  unfoldable pub lives_in : (f : Frame) (fs : List Frame) → (process s p).frames ≡ f ∷ fs → Lives p s
  lives_in f fs e =
      let a = alive_in s.processes p (let b = ap al e in omega (arith, b)) in
      record { in_places = let b = h.places_64 in omega arith; innermost = f; around = fs; frames_are = e }

  pub hand_lives : 1 ≤ z p → Lives p s
  hand_lives one = by (process s p).frames refl (hand_alive h p one)
    where
      by : (fs : List Frame) → (process s p).frames ≡ fs → al fs ≡ 1 → Lives p s
      by [] e a = absurd (omega arith)
      by (f ∷ fs) e a = lives_in f fs e
