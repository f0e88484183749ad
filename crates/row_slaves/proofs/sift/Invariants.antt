-- `row_slaves::sift` meets its contract. The loop's invariant: with what is left, those that stayed and went are the whole
-- answer. Assumes nothing.
use Prim.Native.Nat.{◌-◌}
use mathlib.Core.Path.{◌≡◌}
use lib.ListN.{length}
use Rattle.row_slaves.proofs.Words.{Sifting}
use Rattle.row_slaves.proofs.sift.Given as goal

abbrev pub invariant-loop-k : goal.invariant-loop-k
invariant-loop-k l = Sifting l.i l.n l.len l.initial.row l.initial.places l.k l.gone l.row l.places
    × ((length l.row ≡ length l.initial.row) × (length l.places ≡ length l.initial.places))

abbrev pub decreases-loop-k : goal.decreases-loop-k
decreases-loop-k l = l.len - l.k
