-- `text_pile::column_of` meets its contract. The tests are found by what they say of kind and value. Assumes nothing.
use Prim.Native.Nat.{ℕ, ◌≤◌, ◌<◌}
use native.Mathlib.Omega.{arith}
use borrow.Author.Tests.{eq-eqb, ne_eqb, le-leb, lt-leb}
use mathlib.Core.Path.{◌≡◌, ◌∙◌}
use Rattle.text_semantics.specs.Numbers as No
use Rattle.text_machine.specs.Codes.{NUMBER, BAD}
use Rattle.text_pile.specs.Table.{LARGER, LARGEST, column_of}
use Rattle.text_pile.proofs.column_of.Goals as goal

other : (k v : ℕ) → (k ≡ NUMBER → ⊥) → k ≡ column_of k v
unfolding column_of
other k v n = rw (ne_eqb k NUMBER n)

number : (k v : ℕ) → k ≡ NUMBER → v ≤ No.top_count → k ≡ column_of k v
unfolding column_of
number k v e small = e ∙ rw (eq-eqb k NUMBER e, le-leb v No.top_count small)

larger : (k v : ℕ) → k ≡ NUMBER → No.top_count < v → v ≤ No.top_number → LARGER ≡ column_of k v
unfolding column_of
larger k v e large small = rw (eq-eqb k NUMBER e, lt-leb v No.top_count large, le-leb v No.top_number small)

largest : (k v : ℕ) → k ≡ NUMBER → No.top_number < v → v ≤ No.top_magnitude → LARGEST ≡ column_of k v
unfolding column_of
largest k v e large small =
    rw (eq-eqb k NUMBER e, lt-leb v No.top_count (omega arith), lt-leb v No.top_number large, le-leb v No.top_magnitude small)

bad : (k v : ℕ) → k ≡ NUMBER → No.top_magnitude < v → BAD ≡ column_of k v
unfolding column_of
bad k v e large =
    rw (eq-eqb k NUMBER e, lt-leb v No.top_count (omega arith), lt-leb v No.top_number (omega arith), lt-leb v No.top_magnitude large)

pub returns-then-kind-ne-NUMBER : goal.returns-then-kind-ne-NUMBER
returns-then-kind-ne-NUMBER c = (other _ _ c.if-kind-ne-NUMBER.true, omega arith)

pub returns-then-value-le-TOP_COUNT : goal.returns-then-value-le-TOP_COUNT
returns-then-value-le-TOP_COUNT c = (number _ _ c.if-kind-ne-NUMBER.false (omega arith), omega arith)

pub returns-then-value-le-TOP_NUMBER : goal.returns-then-value-le-TOP_NUMBER
returns-then-value-le-TOP_NUMBER c = (larger _ _ c.if-kind-ne-NUMBER.false (omega arith) (omega arith), omega arith)

pub returns-then-value-le-TOP_MAGNITUDE : goal.returns-then-value-le-TOP_MAGNITUDE
returns-then-value-le-TOP_MAGNITUDE c = (largest _ _ c.if-kind-ne-NUMBER.false (omega arith) (omega arith), omega arith)

pub returns : goal.returns
returns c = (bad _ _ c.if-kind-ne-NUMBER.false (omega arith), omega arith)
