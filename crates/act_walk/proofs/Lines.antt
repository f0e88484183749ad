-- A line, and then the lines of a walk. Assumes nothing.
use Prim.Native.Nat.{ℕ, ◌+◌}
use native.Mathlib.Omega.{arith}
use mathlib.Core.Path.{◌≡◌, refl, ◌∙◌, ap}
use mathlib.Core.List.{List, [], ◌∷◌}
use lib.ListN.{length}
use Rattle.semantics.specs.Words.{ok}
use Rattle.semantics.specs.Walk.{Next, Line, after}
use Rattle.base_journal.specs.Wrote.{wrote_at}
use Rattle.base_journal.specs.Laws.{wrote_length}
use Rattle.act_floor.specs.Acting.{Stepped}
use Rattle.act_walk.specs.Walking.{Walked}

pub stepped : (l : Line) (n : Next) (at : ℕ) (w out : List ℕ) {r : ℕ} {w' out' out'' : List ℕ} → out' ≡ wrote_at at (l ∷ []) out
    → Walked n r w' (at + 1) out' out'' → Stepped (ok (after l n)) 0 (r + 1) w w' at out out''
unfolding wrote_at
stepped l n at w out e h = (refl, (omega (arith, h.0), (h.1.0, h.1.1 ∙ ap (wrote_at (at + 1) n.lines) e)))

pub noted_long : (at : ℕ) (l : Line) (out out' : List ℕ) → out' ≡ wrote_at at (l ∷ []) out → length out' ≡ length out
noted_long at l out out' e = ap length e ∙ wrote_length (l ∷ []) at out
