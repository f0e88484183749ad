-- An open run's struct with no event and nobody alive shows a state that is so. Assumes nothing.
use Rattle.std.specs.Prelude.{ℕ, ◌≡◌, refl, List, [], ◌∷◌, length}
use Rattle.std.proofs.Common.{arith, sym, ◌∙◌, ap}
use Rattle.std.proofs.Math.ListN.{get_or}
use Rattle.semantics.specs.State as definition
use Rattle.semantics.specs.State.{Process, Event, Frame}
use Rattle.promises.specs.Laws.{AllOf}
use Rattle.base_places.specs.Places.{lives, living_of}
use Rattle.row_work.specs.Laid.{laid}
use Rattle.row_work.specs.Work.{work_of}
use Rattle.row_struct.specs.declared.State.{State}
use Rattle.row_struct.specs.State.{row_of}

-- NOBODY LIVES where no bit is set, and nothing is listed where the count is 0.
nobody_in : (q : Process) (fs : List Frame) → q.frames ≡ fs → lives q ≡ 0 → q.frames ≡ []
nobody_in q [] e l = e
nobody_in q (f ∷ fs) e l = absurd (let z : ◌≡◌ {A = ℕ} 1 0 = rw e at l in omega arith)

none_live : (ps : List Process) → living_of ps ≡ 0 → AllOf (λ q. q.frames ≡ []) ps
unfolding living_of
none_live [] e = tt
none_live (q ∷ ps) e = (nobody_in q q.frames refl (omega arith), none_live ps (omega arith))

none_listed : (es : List Event) → length es ≡ 0 → es ≡ []
none_listed [] e = refl
none_listed (x ∷ es) e = absurd (omega arith)

-- THE STRUCT run shows the state t.
module _ (run : State) (t : definition.State) (e : row_of run ≡ work_of t) where
  -- With no event the event list is empty, and with nobody alive every process has ended.
  pub events_shown : run.events ≡ 0 → t.events ≡ []
  unfolding row_of work_of laid
  events_shown z = none_listed t.events (sym (ap (λ w. get_or w 5 0) e) ∙ z)

  pub living_shown : run.living ≡ 0 → AllOf (λ q. q.frames ≡ []) t.processes
  unfolding row_of work_of laid
  living_shown z = none_live t.processes (sym (ap (λ w. get_or w 4 0) e) ∙ z)
