-- `base_ordered::count_returns` meets its contract. The loop's invariant: those found and those to be found behind are the whole
-- answer. Assumes nothing.
use Prim.Native.Nat.{ℕ, ◌+◌, ◌≤◌, ◌<◌}
use borrow.Author.Tests.{lt-ltb, le-ltb}
use lib.Dec.{ltb}
use lib.ListN.{get_or}
use mathlib.Core.Bool.{Bool}
use mathlib.Core.Logic.{◌⊎◌, inl, inr}
use mathlib.Core.Path.{◌≡◌}
use native.Mathlib.Nat.{zero-add}
use native.Mathlib.Omega.{arith}
use Rattle.base_ordered.proofs.Laws.{found_one, found_none, counted_all}
use Rattle.base_ordered.specs.Lines.{kind_of}
use Rattle.base_ordered.proofs.count_returns.Goals as goal

abbrev is_returned : ℕ → Bool
is_returned d = ltb 0 (kind_of d)

-- One more is found, or none.
by_kind : (k f g b m : ℕ) → ((0 < k) × (g ≡ f + 1)) ⊎ ((k ≡ 0) × (g ≡ f)) → (0 < k → f + 1 + b ≡ m) → (k ≤ 0 → f + b ≡ m) → g + b ≡ m
by_kind k f g b m (inl x) one none = rw x.1 (one x.0)
by_kind k f g b m (inr x) one none = rw x.1 (none (omega arith))

pub loop-i-init : goal.loop-i-init
loop-i-init c = (omega arith, omega arith, zero-add _)

pub loop-i-preserved : goal.loop-i-preserved
loop-i-preserved c = let l = c.loop-i in
    let k = kind_of (get_or c.args.words.now l.i 0) in (
      omega arith,
      grind arith,
      by_kind k l.found _ _ _ (grind arith) (λ h. found_one _ _ c.requires is_returned _ l.i l.found (omega arith) (lt-ltb 0 k h) l.invariant.2)
          (λ h. found_none _ _ c.requires is_returned _ l.i l.found (omega arith) (le-ltb 0 k h) l.invariant.2),
    )

pub returns : goal.returns
returns c = let l = c.loop-i in
    (counted_all _ _ c.requires is_returned _ l.i l.found (omega arith) l.invariant.2, omega arith)
