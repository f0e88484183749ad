-- The numbers by which an answer and a bound are handed over to be printed. Assumes nothing.
use Rattle.std.specs.Prelude.{◌≡◌, ℕ, ◌≤◌, ◌<◌, eqb, ltb, if◌then◌else◌}
use Rattle.std.proofs.Common.{arith, lt-ltb, le-ltb, ne_eqb}
use Rattle.semantics.specs.Run.{Answer, CLOSED, IDLE, LIMIT, FAULT}
use Rattle.semantics.specs.Bound.{Bounded, NONE, OVER, AT}
use Rattle.base_numbers.specs.Bound as Bound

-- 0 closed, 1 idle, 2 limit; else a fault's own number.
unfoldable pub answer_of : ℕ → Answer
answer_of n = if eqb n 0 then CLOSED else if eqb n 1 then IDLE else if eqb n 2 then LIMIT else FAULT n

-- As the desk's words have it: the number; or, in the high 32 bits, 1 for NONE and 2 for OVER.
unfoldable pub bound_of : ℕ → Bounded
bound_of w = if ltb w Bound.NONE then AT w else if ltb w Bound.OVER then NONE else OVER

pub a_fault : (n : ℕ) → 2 < n → answer_of n ≡ FAULT n
unfolding answer_of
a_fault n h = rw (ne_eqb n 0 (λ e. omega arith), ne_eqb n 1 (λ e. omega arith), ne_eqb n 2 (λ e. omega arith))

pub a_number : (w : ℕ) → w < Bound.NONE → bound_of w ≡ AT w
unfolding bound_of
a_number w h = rw (lt-ltb w Bound.NONE h)

pub no_number : (w : ℕ) → Bound.NONE ≤ w → bound_of w ≡ (if ltb w Bound.OVER then NONE else OVER)
unfolding bound_of
no_number w h = rw (le-ltb w Bound.NONE h)
