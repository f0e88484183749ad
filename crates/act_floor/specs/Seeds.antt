-- The process on the floor, when the seeds of the samplers have become others. Assumes nothing.
use Rattle.std.specs.Prelude.{ℕ, ◌≡◌, List, ◌++◌, take, drop}
use Rattle.std.proofs.Common.{◌∙◌, ap}
use Rattle.semantics.specs.Model.{Action}
use Rattle.semantics.specs.State.{with_seeds}
use Rattle.promises.specs.Sound.{SeedsOk}
use Rattle.promises.specs.Moves.{seeds_are}
use Rattle.base_numbers.specs.Row as Row
use Rattle.base_numbers.specs.Limit as Limit
use Rattle.base_ordered.specs.Lines.{pad}
use Rattle.row_work.specs.Work.{work_of}
use Rattle.row_work.specs.Seeds.{seeds_part_lem, seeds_changed}
use Rattle.row_work.specs.Underway.{in_state}
use Rattle.act_floor.specs.Running.{Runs, On}
use Rattle.act_floor.specs.Floor.{is_sized}

module _ {w : List ℕ} (r : Runs w) where
  -- As they stand in the work; and the work with d instead.
  pub copied : {seeds : List ℕ} → seeds ≡ drop Row.SEEDS w → seeds ≡ pad Limit.SAMPLERS r.run.is.seeds
  copied e = e ∙ ap (λ l. drop Row.SEEDS l) r.run.shows ∙ seeds_part_lem r.run.is (is_sized r)

  pub kept : (d : List ℕ) {w₁ seeds : List ℕ} → w₁ ≡ take Row.SEEDS w ++ seeds → seeds ≡ pad Limit.SAMPLERS d
      → w₁ ≡ work_of (with_seeds r.run.is d)
  kept d e f =
      e
      ∙ ap (λ l. take Row.SEEDS w ++ l) f
      ∙ ap (λ l. take Row.SEEDS l ++ pad Limit.SAMPLERS d) r.run.shows
      ∙ seeds_changed r.run.is (is_sized r) d

-- The process is on the floor and stands where it stood, if they are as they should.
abbrev pub on_with : {w : List ℕ} {p : ℕ} {x : Action} (v : On w p x) (d : List ℕ) → SeedsOk v.running.run.model d
    → {w₁ : List ℕ} → w₁ ≡ work_of (with_seeds v.running.run.is d) → On w₁ p x
on_with v d o e =
    record {
      running =
          record {
            run = in_state v.running.run (with_seeds v.running.run.is d) e;
            sound = seeds_are v.running.sound o;
          };
      on_floor = v.on_floor;
      stands = v.stands;
    }
