-- `file_bars::covered` meets its contract. The loop's invariant: what the branches left say is the whole answer.
-- Assumes nothing.
use Prim.Native.Nat.{◌-◌, ◌≤◌}
use mathlib.Core.Path.{◌≡◌}
use Rattle.file_bars.specs.Bits.{covers_at, numbers_to}
use Rattle.semantics.specs.Words.{any}
use Rattle.file_bars.proofs.covered.Given as goal

abbrev pub invariant-loop-m : goal.invariant-loop-m
invariant-loop-m l = (l.from ≤ l.m)
    × (any (λ k. covers_at l.s l.map k l.n) (numbers_to l.m l.to) ≡ any (λ k. covers_at l.s l.map k l.n) (numbers_to l.from l.to))

abbrev pub decreases-loop-m : goal.decreases-loop-m
decreases-loop-m l = l.to - l.m
