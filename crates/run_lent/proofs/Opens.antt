-- What is told of a run that is opened, by what opening it in a row of zeros and the packing say. Assumes nothing.
use Rattle.std.specs.Prelude.{if◌then◌else◌, Result}
use Prim.Native.Nat.{ℕ}
use mathlib.Core.Path.{◌≡◌, ◌∙◌, ap, subst}
use mathlib.Core.List.{List}
use mathlib.Core.Bool.{Bool, true}
use lib.Dec.{eqb}
use lib.ListN.{length, replicate, length-replicate}
use Rattle.semantics.specs.Numbers as No
use Rattle.semantics.specs.Model.{Model}
use Rattle.semantics.specs.Decode.{Checked, refused, accepted, decode}
use Rattle.semantics.specs.State.{fresh}
use Rattle.base_numbers.specs.Row as Row
use Rattle.row_work.specs.Work.{work_of}
use Rattle.row_struct.specs.declared.State.{State}
use Rattle.row_struct.specs.State.{row_of, Full}
use Rattle.run_row.specs.Open as handed
use Rattle.run_row.specs.declared.Unopened.{Unopened}
use Rattle.run_row.specs.Open.{opens_as, open_row, number_told, place_told}
use Rattle.run_lent.specs.declared.Opened.{Opened}
use Rattle.run_lent.specs.Opened.{TellsOpened}

abbrev zeros : List ℕ
zeros = replicate Row.WORDS 0

abbrev opened_as : ℕ → ℕ → State → Opened
opened_as n p s = record { number = n; place = p; state = s }

module _ (r : Result (Unit {0}) Unopened) (w : List ℕ) (s : State) (e : row_of s ≡ w) (f : Full s) where
  told_by : (d : Checked Model) → handed.TellsOpened (opens_as zeros d) r w
      → TellsOpened d (opened_as (number_told r) (place_told r) s)
  told_by (refused n p) t =
      record { number_is = t.number_is; place_is = t.place_is; row_is = e ∙ t.row_is; full = f }
  told_by (accepted m) t =
      let l : eqb (length zeros) Row.WORDS ≡ true = ap (λ n. eqb n Row.WORDS) (length-replicate {A = ℕ} Row.WORDS 0) in
      let chosen : Bool → handed.Opened =
      λ b. if b then handed.opened_as 0 0 (work_of (fresh m)) else handed.opened_as No.STATE 0 zeros in
      let u = subst (λ b. handed.TellsOpened (chosen b) r w) l t in
      record { number_is = u.number_is; place_is = u.place_is; row_is = e ∙ u.row_is; full = f }

  pub opened_told : (bs : List ℕ) → handed.TellsOpened (open_row bs zeros) r w
      → TellsOpened (decode bs) (opened_as (number_told r) (place_told r) s)
  unfolding open_row
  opened_told bs t = told_by (decode bs) t
