-- What is read of a work: the last number given and who lives. Assumes nothing.
use Prim.Native.Nat.{ℕ, ◌≤◌}
use mathlib.Core.Path.{◌≡◌, refl, ◌∙◌, ap}
use mathlib.Core.List.{List}
use lib.ListN.{get_or}
use Rattle.semantics.specs.Numbers as No
use Rattle.semantics.specs.State.{State}
use Rattle.base_places.specs.Places.{living_of, Shows}
use Rattle.row_work.specs.Laid.{laid}
use Rattle.row_work.specs.Work.{work_of}
use Rattle.row_work.specs.Places.{last_at}
use Rattle.row_process.specs.Process.{Shown}

living_at : (s : State) → get_or (work_of s) 4 0 ≡ living_of s.processes
unfolding work_of laid
living_at s = refl

-- A WORK that shows a state.
module _ {w : List ℕ} {P : State → Type 0} (v : Shown w P) where
  pub last_is : get_or w 2 0 ≡ v.is.last
  last_is = ap (λ l. get_or l 2 0) v.shows ∙ last_at v.is

  pub last_low : get_or w 2 0 ≤ No.last_number
  last_low = rw last_is v.sized.last_low

  pub living_is : Shows (get_or w 4 0) v.is.processes
  living_is = record { places = v.sized.places_64; digits = ap (λ l. get_or l 4 0) v.shows ∙ living_at v.is }
