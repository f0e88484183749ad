-- `base_ordered::place_below` meets its contract. The loop's invariant: those passed and those that pass the test behind them
-- are the whole answer. Assumes nothing.
use Prim.Native.Nat.{ℕ}
use borrow.Author.Tests.{lt-ltb, le-ltb}
use lib.Dec.{ltb}
use mathlib.Core.Bool.{Bool}
use native.Mathlib.Nat.{zero-add}
use native.Mathlib.Omega.{arith}
use Rattle.base_ordered.proofs.Laws.{go, stop, through}
use Rattle.base_ordered.proofs.place_below.Goals as goal

abbrev below : ℕ → ℕ → Bool
below limit k = ltb k limit

pub loop-i-init : goal.loop-i-init
loop-i-init c = (omega arith, zero-add _)

pub returns-then-limit-row : goal.returns-then-limit-row
returns-then-limit-row c = let l = c.loop-i in
    (stop _ _ c.requires (below c.args.limit) _ l.i (omega arith) (le-ltb _ _ c.if-limit-row.true) l.invariant.1, omega arith)

pub loop-i-preserved : goal.loop-i-preserved
loop-i-preserved c = let l = c.loop-i in
    (omega arith, go _ _ c.requires (below c.args.limit) _ l.i (omega arith) (lt-ltb _ _ c.if-limit-row.false) l.invariant.1)

pub returns : goal.returns
returns c = let l = c.loop-i in
    (through _ _ c.requires (below c.args.limit) _ l.i (omega arith) l.invariant.1, omega arith)
