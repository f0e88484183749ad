-- Who is first in the event list takes the floor, and leaves it again where that faults. Assumes nothing.
use Rattle.std.specs.Prelude.{if◌then◌else◌}
use Prim.Native.Nat.{ℕ, ◌+◌, ◌<◌}
use mathlib.Core.Path.{◌≡◌, refl, sym, ◌∙◌, ap}
use mathlib.Core.List.{List}
use lib.ListN.{length, set, length-set}
use mathlib.Core.Bool.{Bool}
use Rattle.semantics.specs.State.{State, empty, held_by, with_floor}
use Rattle.semantics.specs.Step.{moves, step}
use Rattle.semantics.specs.Run.{Before, is_closed, goes_on}
use Rattle.promises.specs.Safe.{Safe, step_safe}
use Rattle.base_numbers.specs.Row as Row
use Rattle.row_work.specs.Work.{work_of}
use Rattle.row_work.specs.Underway.{in_state}
use Rattle.row_work.specs.Head.{floor_set}
use Rattle.act_floor.specs.Acting.{Stepped}
use Rattle.act_floor.specs.Running.{runs}
use Rattle.act_floor.specs.Floor.{run_long, low}
use Rattle.act_step.specs.Steps.{Floored, Waking}
use Rattle.act_step.proofs.Undone as Undone

module _ {bs map w : List ℕ} {p : ℕ} (v : Waking bs map w p) where
  -- The state where p has the floor.
  abbrev taken : State
  taken = with_floor v.run.is (held_by p)

  pub floor_taken : set w 3 (p + 1) ≡ work_of taken
  floor_taken = ap (λ x. set x 3 (p + 1)) v.run.shows ∙ floor_set v.run.is (held_by p)

  -- u is the work where it has it.
  abbrev pub floored : {u : List ℕ} → u ≡ set w 3 (p + 1) → Floored bs map u p
  floored e =
      record {
        running =
            record { run = in_state v.run taken (e ∙ floor_taken); mapped = v.mapped; sound = v.sound };
        on_floor = refl;
      }

  pub work_is_long : length w ≡ Row.WORDS
  work_is_long = sym (length-set w 3 (p + 1)) ∙ run_long (runs (floored refl).running)

  pub place_low : p < 64
  place_low = low (runs (floored refl).running) p refl

  -- It never faults with 0.
  moves_safe : Safe (moves v.run.model taken p)
  unfolding step
  moves_safe =
      step_safe v.run.model taken v.sound
      (ap ends v.not_closed)
    where
      ends : Bool → Before
      ends b = if b then is_closed else goes_on

  module _ {u : List ℕ} (set_is : u ≡ set w 3 (p + 1)) (f l : ℕ) (w' : List ℕ) (at : ℕ) (out out' : List ℕ)
      (done : Stepped (moves v.run.model taken p) f l u w' at out out') where
    pub kept_floor : f ≡ 0 → Stepped (moves v.run.model taken p) f l w w' at out out'
    kept_floor e = Undone.went (moves v.run.model taken p) f l u w' at out out' done moves_safe e w

    pub left_floor : (f ≡ 0 → ⊥) → {u' : List ℕ} → u' ≡ set w' 3 0
        → Stepped (moves v.run.model taken p) f l w u' at out out'
    left_floor not0 {u'} d =
        Undone.faulted (moves v.run.model taken p) f l u w' at out out' done not0 w u'
        (λ e.
        d ∙ ap (λ x. set x 3 0) (e ∙ set_is ∙ floor_taken) ∙ floor_set taken empty
        ∙ ap (λ o. work_of (with_floor v.run.is o)) (sym v.nobody_has) ∙ sym v.run.shows)
