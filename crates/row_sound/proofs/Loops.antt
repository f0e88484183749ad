-- A loop over indices from 0 on: one turn more of a test of any. Assumes nothing.
use Prim.Native.Nat.{ℕ, ◌+◌, ◌≤◌, ◌<◌}
use native.Mathlib.Omega.{arith}
use native.Mathlib.Numerals.{add-one}
use mathlib.Core.Path.{◌≡◌, refl, sym, ◌∙◌, ap}
use mathlib.Core.List.{List}
use mathlib.Core.Bool.{Bool, false, ◌||◌}
use lib.ListN.{length, get_or}
use Rattle.base_numbers.specs.Map as Map
use Rattle.file_map.specs.Map.{claim_at}
use Rattle.row_sound.specs.Chain.{among, Branching}

pub among_none : (f : ℕ → Bool) → false ≡ among 0 f
unfolding among
among_none f = refl

pub among_on : (f : ℕ → Bool) (k : ℕ) (b found : Bool) → b ≡ f k → found ≡ among k f → (b || found) ≡ among (k + 1) f
unfolding among
among_on f k b found e h = ap (λ x. x || found) e ∙ ap (λ x. f k || x) h ∙ ap (λ n. among n f) (sym (add-one k))

pub among_done : (f : ℕ → Bool) (k n : ℕ) (found : Bool) → k ≡ n → found ≡ among k f → found ≡ among n f
among_done f k n found e h = h ∙ ap (λ x. among x f) e

-- The claim of a branch stands within the bytes.
pub claim_inside : {bs map : List ℕ} {a : ℕ} → Branching bs map a → (from k : ℕ) → from ≡ get_or map (Map.FROM + a) 0
    → from + k < get_or map (Map.FROM + (a + 1)) 0 → (2 ≤ claim_at map (from + k)) × (claim_at map (from + k) ≤ length bs)
claim_inside b from k e h = rw e (b.each k (omega arith))
