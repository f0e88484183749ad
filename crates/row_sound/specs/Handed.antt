-- A row handed in that shows a sized state of an accepted model, sound or not: what is known of it. Assumes nothing.
use Rattle.std.specs.Prelude.{ℕ, ◌≡◌, List, length}
use Rattle.semantics.specs.Model.{Model}
use Rattle.semantics.specs.State.{State}
use Rattle.promises.specs.Fit.{Fit, Nested}
use Rattle.promises.specs.Sound.{Sound}
use Rattle.row_work.specs.Work.{work_of}
use Rattle.row_work.specs.Sized.{Rounds, sound_sized}
use Rattle.file_map.specs.Map.{Mapped}
use Rattle.row_sound_lists.specs.Counted.{Shaped, Things, sound_shaped}
use Rattle.row_sound.specs.Chain.{Viewed}

-- The bytes and the map of an accepted model, and the row.
pub record Handed (bs map w totals : List ℕ) (resources bins syncs classes : ℕ) : Type 0 where
  pub viewed : Viewed bs map w classes
  pub things : Things viewed.model totals resources bins syncs
  pub shaped : Shaped viewed.model viewed.is

-- EVERY SOUND RUN meets it, so nothing is asked that a caller could not have.
pub sound_handed : {bs map w totals : List ℕ} {resources bins syncs classes : ℕ} (m : Model) → Fit m → Nested m → Rounds m
    → Mapped bs m map → Things m totals resources bins syncs → classes ≡ length m.classes → (s : State) → w ≡ work_of s
    → Sound m s → Handed bs map w totals resources bins syncs classes
sound_handed m f n r d t c s e h =
    record {
      viewed =
          record {
            model = m;
            fits = f;
            nested = n;
            mapped = d;
            classes_are = c;
            is = s;
            shows = e;
            sized = sound_sized m f n r s h;
          };
      things = t;
      shaped = sound_shaped m s h;
    }
