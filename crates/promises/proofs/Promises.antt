-- The promises of document 01 from the bytes of a model file: soundness kept, demand 3, one answer for each call; and those of
-- document 02's requests that speak of a run.
-- Assumes nothing.
use Rattle.std.specs.Prelude.{ℕ, ◌≤◌, ◌≡◌, List, [], ◌∷◌, true, false, length}
use Rattle.std.proofs.Common.{arith, sym, ap, ◌∙◌}
use Rattle.semantics.specs.Words.{ok}
use Rattle.semantics.specs.Numbers as No
use Rattle.semantics.specs.Model.{Model}
use Rattle.semantics.specs.Decode.{accepted, decode}
use Rattle.semantics.specs.State.{State, Process, fresh, process}
use Rattle.semantics.specs.Walk.{Next}
use Rattle.semantics.specs.Step.{step}
use Rattle.semantics.specs.Sound.{sound}
use Rattle.semantics.specs.Run.{FAULT, Room, Ask, goes_on, before, stopped, run, call, no_end, leaves, steps_of, limits_of, none_ends}
use Rattle.semantics.specs.Bound.{bound, loops}
use Rattle.promises.specs.Laws.{AllOf}
use Rattle.promises.specs.Fit.{Fit}
use Rattle.promises.specs.Accepted.{accepted_fit, accepted_nested, accepted_forward}
use Rattle.promises.specs.Sound.{Sound}
use Rattle.promises.proofs.Decides.{sound_yes, sound_back}
use Rattle.promises.proofs.Stays.{step_ok}
use Rattle.promises.proofs.FreshSound.{fresh_sound}
use Rattle.promises.specs.Capacity.{Fitting, lists_fit}
use Rattle.promises.specs.Nests.{eight_blocks}
use Rattle.promises.specs.Safe.{Safe, step_safe}
use Rattle.promises.specs.Keep.{al_none, free_or_fine}
use Rattle.promises.specs.Moves.{proc_at}
use Rattle.promises.specs.Left.{no_try}
use Rattle.promises.specs.Ends.{again}
use Rattle.promises.proofs.Reasons as R
use Rattle.promises.specs.Reasons.{SaysWhyItWaits}
use Rattle.promises.proofs.Calls as C
use Rattle.promises.proofs.Demand3 as D

-- WHAT HAS ENDED STAYS ENDED, whatever run was handed in: after CLOSED, IDLE or a fault other than 30 every later call, with any
-- limit and room, makes 0 steps, writes no line, leaves the run as it is and answers the same `again`. With limit 0 a fault is
-- not tried and the answer is LIMIT; 20 comes before that and stays.
pub end_stays : (bs : List ℕ) (a : Ask) (s : State) → no_end (call bs a s).answer ≡ false → (l : List Ask) (b : Ask)
    → call bs b (leaves bs l (call bs a s).state)
    ≡ stopped (again (call bs a s).answer b.limit) (call bs a s).state
end_stays = C.ended_stays

module _ (bs : List ℕ) (m : Model) (e : decode bs ≡ accepted m) where
  fit : Fit m
  fit = accepted_fit bs m e

  is_sound : (s : State) → sound bs s ≡ true → Sound m s
  is_sound s h = sound_yes m s (sym (C.sound_is bs m e s) ∙ h)

  -- SOUNDNESS. Fresh is sound.
  pub fresh_is_sound : sound bs (fresh m) ≡ true
  fresh_is_sound = C.sound_is bs m e (fresh m) ∙ sound_back m (fresh m) (fresh_sound m fit)

  -- A step from a sound state that does not fault leaves a sound state.
  pub step_keeps_sound : (s : State) (n : Next) → sound bs s ≡ true → step m s ≡ ok n → sound bs n.state ≡ true
  step_keeps_sound s n h k =
      C.sound_is bs m e n.state ∙ sound_back m n.state (step_ok m fit s (is_sound s h) n k)

  -- A step from a sound state that goes on never faults with 20: its faults are 21 to 29.
  pub step_faults : (s : State) → sound bs s ≡ true → before s ≡ goes_on → Safe (step m s)
  step_faults s h g = step_safe m s (is_sound s h) g

  -- THE BOUNDS OF EVERY LIST and of the depth that the arrays need.
  pub lists_are_short : (s : State) → sound bs s ≡ true → Fitting s
  lists_are_short s h = lists_fit m s (is_sound s h)

  pub blocks_are_few : (s : State) (p : ℕ) → sound bs s ≡ true → length (process s p).frames ≤ No.deepest
  blocks_are_few s p h =
      let q : Process = process s p in
      free_or_fine (length q.frames ≤ No.deepest) (proc_at (is_sound s h) p)
      (λ d v. let a = ap length (al_none q.frames d) in omega arith)
      (λ d f. eight_blocks m (accepted_nested bs m e) q.frames f.frames_ok)

  -- AN OPEN RUN THAT ONLY OUR CALLS MOVED never answers 20: each call is the run.
  pub call_is_run : (l : List Ask) (a : Ask)
      → call bs a (leaves bs l (fresh m)) ≡ run m a.limit a.room (leaves bs l (fresh m))
  call_is_run = C.call_is_run bs m e

  pub never_20 : (l : List Ask) (a : Ask) → (call bs a (leaves bs l (fresh m))).answer ≡ FAULT No.STATE → ⊥
  never_20 = C.never_20 bs m e

  -- WHY A JOB WAITS. Each line of kind 3 is of a process that asked with the floor. Its value is -1 or 1 to 4, and is what it says
  -- (`Explains`). So it is in a run from any state, and in each call of an open run that only our calls moved.
  pub run_says_why : (n : ℕ) (r : Room) (s : State) → AllOf (SaysWhyItWaits m s) (run m n r s).lines
  run_says_why = R.run_says_why m fit

  pub call_says_why : (l : List Ask) (a : Ask)
      → AllOf (SaysWhyItWaits m (leaves bs l (fresh m))) (call bs a (leaves bs l (fresh m))).lines
  call_says_why l a = rw (call_is_run l a) (run_says_why a.limit a.room (leaves bs l (fresh m)))

  -- DEMAND 3: no WHILE, and each START's class body later than the START's block. The steps of all calls together are at most
  -- the bound, whatever its size.
  module _ (l : loops m ≡ false) where
    pub steps_at_most : (asks : List Ask) → steps_of bs asks (fresh m) ≤ bound m
    steps_at_most = D.steps_at_most bs m e (accepted_forward bs m e l)

    -- By the time the limits of the calls that don't answer 30 add up to the bound, one of the calls has answered an end.
    pub ended_by_the_bound : (a : Ask) (asks : List Ask) → bound m ≤ limits_of bs (a ∷ asks) (fresh m)
        → none_ends bs (a ∷ asks) (fresh m) ≡ false
    ended_by_the_bound = D.ended_by_the_bound bs m e (accepted_forward bs m e l)

    -- With no TRY, an empty event list and every process ended, the steps are exactly the bound.
    pub exactly_the_bound : no_try m ≡ true → (asks : List Ask) → (leaves bs asks (fresh m)).events ≡ []
        → AllOf (λ q. q.frames ≡ []) (leaves bs asks (fresh m)).processes → steps_of bs asks (fresh m) ≡ bound m
    exactly_the_bound = D.exactly_the_bound bs m e (accepted_forward bs m e l)
