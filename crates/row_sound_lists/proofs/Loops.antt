-- A loop over indices from 0 on: one turn more of a test of each, and of a sum. Assumes nothing.
use Prim.Native.Nat.{ℕ, ◌+◌, ◌*◌, ◌<◌}
use native.Mathlib.Omega.{arith}
use native.Mathlib.Numerals.{add-one}
use mathlib.Core.Path.{◌≡◌, refl, sym, ◌∙◌, ap}
use mathlib.Core.Bool.{Bool, true, ◌&&◌}
use mathlib.Core.List.{List}
use Rattle.base_numbers.specs.Row as Row
use Rattle.base_numbers.specs.Limit as Limit
use Rattle.row_sound_lists.specs.Tests.{each, tally, Bounded, Lined}

pub each_none : (f : ℕ → Bool) → true ≡ each 0 f
unfolding each
each_none f = refl

pub tally_none : (f : ℕ → ℕ) → 0 ≡ tally 0 f
unfolding tally
tally_none f = refl

-- One turn more.
pub each_on : (f : ℕ → Bool) (k : ℕ) (b ok : Bool) → b ≡ f k → ok ≡ each k f → (b && ok) ≡ each (k + 1) f
unfolding each
each_on f k b ok e h = ap (λ x. x && ok) e ∙ ap (λ x. f k && x) h ∙ ap (λ n. each n f) (sym (add-one k))

pub tally_on : (f : ℕ → ℕ) (k a t : ℕ) → a ≡ f k → t ≡ tally k f → a + t ≡ tally (k + 1) f
unfolding tally
tally_on f k a t e h = ap (λ x. x + t) e ∙ ap (λ x. f k + x) h ∙ ap (λ n. tally n f) (sym (add-one k))

-- The last turn was made.
pub each_done : (f : ℕ → Bool) (k n : ℕ) (ok : Bool) → k ≡ n → ok ≡ each k f → ok ≡ each n f
each_done f k n ok e h = h ∙ ap (λ x. each x f) e

pub tally_done : (f : ℕ → ℕ) (k n t : ℕ) → k ≡ n → t ≡ tally k f → t ≡ tally n f
tally_done f k n t e h = h ∙ ap (λ x. tally x f) e

-- The rows of the lists of those that wait.
pub blocked_lined : {w : List ℕ} → Bounded w → Lined w Row.QUEUE 6
blocked_lined b = record { long = b.long; row_in = omega arith; count_in = omega arith; few = b.blocked_few }

pub waiting_lined : {w : List ℕ} → Bounded w → (i : ℕ) → i < Limit.THINGS
    → Lined w (Row.WAITING + Row.WAITERS_MOST * i) (Row.WAITS + i)
waiting_lined b i h = record { long = b.long; row_in = omega arith; count_in = omega arith; few = b.waiting_few i h }
