-- What is told of a call on a row is told of the struct that has this row. Assumes nothing.
use Prim.Native.Nat.{ℕ}
use mathlib.Core.Path.{◌≡◌, sym, subst}
use mathlib.Core.List.{List}
use Rattle.semantics.specs.Run.{Ask}
use Rattle.row_struct.specs.declared.State.{State}
use Rattle.row_struct.specs.State.{row_of, Full}
use Rattle.run_row.specs.Call.{call_row, TellsCall}
use Rattle.run_by_value.specs.declared.Moved.{Moved}
use Rattle.run_by_value.specs.Moved.{ran_of, TellsMoved}

-- The row is w before the call and w' after it.
pub moved_says : (bs : List ℕ) (a : Ask) (s : State) (r : Moved) (w w' j j' : List ℕ) → w ≡ row_of s
    → TellsCall (call_row bs a w) (ran_of r) w' j j' → row_of r.state ≡ w' → Full r.state
    → TellsMoved (call_row bs a (row_of s)) r j j'
moved_says bs a s r w w' j j' e t p f =
    record {
      tells =
          subst (λ x. TellsCall (call_row bs a x) (ran_of r) (row_of r.state) j j') e
          (subst (λ x. TellsCall (call_row bs a w) (ran_of r) x j j') (sym p) t);
      full = f;
    }
