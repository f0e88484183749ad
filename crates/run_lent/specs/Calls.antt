-- Calls one after the other on an open run, each on the row that the call before left. From a fresh run on they are the calls of
-- the definition: 20 is never answered, and demand 3 holds of them. Assumes nothing.
use Rattle.std.specs.Prelude.{ℕ, ◌+◌, ◌≤◌, ◌≡◌, refl, List, [], ◌∷◌, ◌++◌, map, Bool, true, false, ◌&&◌, if◌then◌else◌}
use Rattle.std.proofs.Common.{arith, sym, ◌∙◌, ap, subst, le-leb}
use Rattle.semantics.specs.Numbers as No
use Rattle.semantics.specs.Model.{Model}
use Rattle.semantics.specs.Decode.{Checked, refused, accepted, decode}
use Rattle.semantics.specs.State.{State, fresh}
use Rattle.semantics.specs.Run as definition
use Rattle.semantics.specs.Run.{FAULT, Room, endless, room_for, fits, Ask, call, is_number, no_end}
use Rattle.semantics.specs.Run.{leaves, steps_of, limits_of, none_ends}
use Rattle.semantics.specs.Bound.{bound, loops}
use Rattle.promises.specs.Laws.{AllOf}
use Rattle.promises.specs.Left.{no_try}
use Rattle.promises.specs.Accepted.{accepted_fit, accepted_nested}
use Rattle.promises.specs.Answers.{steps_within, lines_fit}
use Rattle.promises.proofs.Calls.{calls_sound}
use Rattle.promises.proofs.Promises.{steps_at_most, ended_by_the_bound, exactly_the_bound}
use Rattle.row_work.specs.Work.{work_of}
use Rattle.row_work.specs.Sized.{IsByte, accepted_rounds, sound_sized}
use Rattle.row_view.specs.View.{view_in, sound_row}
use Rattle.row_view.specs.Rows.{sound_shaped}
use Rattle.row_view.specs.Back.{view_back}
use Rattle.run_row.specs.Call.{Called, called_as, turned_away, call_row, leaves_row}
use Rattle.run_row.specs.Own.{refused_called, sound_called, row_turned, own_called, own_never_20, own_rows}

-- THE CALLS on the file bs that ask l, from the row w on; and those of the definition, from the state s on.
module _ (bs : List ℕ) where
  abbrev pub called_on : List Ask → List ℕ → List Called
  called_on [] w = []
  called_on (a ∷ l) w = call_row bs a w ∷ called_on l (call_row bs a w).row

  abbrev pub ran_on : List Ask → State → List definition.Ran
  ran_on [] s = []
  ran_on (a ∷ l) s = call bs a s ∷ ran_on l (call bs a s).state

-- What they come to: all their steps, the limits of those that don't answer 30, and whether none of them ends the run.
abbrev pub steps_in : List Called → ℕ
steps_in [] = 0
steps_in (c ∷ cs) = c.steps + steps_in cs

abbrev pub limits_in : List Ask → List Called → ℕ
limits_in [] cs = 0
limits_in (a ∷ l) [] = 0
limits_in (a ∷ l) (c ∷ cs) = (if is_number No.JOURNAL c.answer then 0 else a.limit) + limits_in l cs

abbrev pub none_ends_in : List Called → Bool
none_ends_in [] = true
none_ends_in (c ∷ cs) = no_end c.answer && none_ends_in cs

module _ (bs : List ℕ) where
  -- The definition's calls come to what the definition says.
  steps_in_lem : (l : List Ask) (s : State) → steps_in (map called_as (ran_on bs l s)) ≡ steps_of bs l s
  steps_in_lem [] s = refl
  steps_in_lem (a ∷ l) s = ap (λ n. (call bs a s).steps + n) (steps_in_lem l (call bs a s).state)

  limits_in_lem : (l : List Ask) (s : State) → limits_in l (map called_as (ran_on bs l s)) ≡ limits_of bs l s
  limits_in_lem [] s = refl
  limits_in_lem (a ∷ l) s =
      ap (λ n. (if is_number No.JOURNAL (call bs a s).answer then 0 else a.limit) + n) (limits_in_lem l (call bs a s).state)

  none_ends_in_lem : (l : List Ask) (s : State) → none_ends_in (map called_as (ran_on bs l s)) ≡ none_ends bs l s
  none_ends_in_lem [] s = refl
  none_ends_in_lem (a ∷ l) s = ap (λ b. no_end (call bs a s).answer && b) (none_ends_in_lem l (call bs a s).state)

  -- One call more.
  leaves_then : (l : List Ask) (a : Ask) (s : State) → leaves bs (l ++ a ∷ []) s ≡ (call bs a (leaves bs l s)).state
  leaves_then [] a s = refl
  leaves_then (b ∷ l) a s = leaves_then l a (call bs b s).state

-- ANY CALL makes at most the steps of its limit, and its lines fit into its room, whatever the row is.
pub record Within (a : Ask) (c : Called) : Type 0 where
  pub steps_few : c.steps ≤ a.limit
  pub lines_few : fits c.lines a.room ≡ true

nothing_fits : (r : Room) → fits [] r ≡ true
nothing_fits endless = refl
nothing_fits (room_for n) = le-leb 0 n (omega arith)

module _ (bs : List ℕ) (a : Ask) (w : List ℕ) where
  away_within : call_row bs a w ≡ turned_away w → Within a (call_row bs a w)
  away_within z = rw z (record { steps_few = omega arith; lines_few = nothing_fits a.room })

  run_within : (m : Model) → decode bs ≡ accepted m → sound_row bs w ≡ true → Within a (call_row bs a w)
  run_within m e t =
      let v : State = view_in m w in
      rw (sound_called bs m e a w t)
      (record {
        steps_few = steps_within m a.limit a.room v;
        lines_few = lines_fit m a.limit a.room v;
      })

  pub call_within : Within a (call_row bs a w)
  call_within = by (decode bs) refl (sound_row bs w) refl
    where
      by : (d : Checked Model) → decode bs ≡ d → (t : Bool) → sound_row bs w ≡ t → Within a (call_row bs a w)
      by (refused n p) e t z = away_within (refused_called bs a w e)
      by (accepted m) e true z = run_within m e z
      by (accepted m) e false z = away_within (row_turned bs a w z)

-- FROM A FRESH RUN ON.
module _ (bs : List ℕ) (m : Model) (e : decode bs ≡ accepted m) (h : AllOf IsByte bs) where
  abbrev left : List Ask → State
  left l = leaves bs l (fresh m)

  from_left : (k l : List Ask) → called_on bs l (work_of (left k)) ≡ map called_as (ran_on bs l (left k))
  from_left k [] = refl
  from_left k (a ∷ l) =
      let r : definition.Ran = call bs a (left k) in
      ap (λ c. c ∷ called_on bs l c.row) (own_called bs m e h k a)
      ∙ ap (λ cs. called_as r ∷ cs)
      (subst (λ s. called_on bs l (work_of s) ≡ map called_as (ran_on bs l s)) (leaves_then bs k a (fresh m))
      (from_left (k ++ a ∷ []) l))

  -- The calls on the open run are the calls of the definition.
  pub own_calls : (l : List Ask) → called_on bs l (work_of (fresh m)) ≡ map called_as (ran_on bs l (fresh m))
  own_calls l = from_left [] l

  abbrev Not20 : Called → Type 0
  Not20 c = c.answer ≡ FAULT No.STATE → ⊥

  none_20 : (k l : List Ask) → AllOf Not20 (called_on bs l (work_of (left k)))
  none_20 k [] = tt
  none_20 k (a ∷ l) =
      let r = ap work_of (leaves_then bs k a (fresh m)) ∙ sym (ap (λ c. c.row) (own_called bs m e h k a)) in
      (own_never_20 bs m e h k a, subst (λ w. AllOf Not20 (called_on bs l w)) r (none_20 (k ++ a ∷ []) l))

  -- None of them answers 20.
  pub own_none_20 : (l : List Ask) → AllOf (λ c. c.answer ≡ FAULT No.STATE → ⊥) (called_on bs l (work_of (fresh m)))
  own_none_20 l = none_20 [] l

  -- The row left shows the state that they leave.
  pub own_view : (l : List Ask) → view_in m (leaves_row bs l (work_of (fresh m))) ≡ left l
  own_view l =
      let o = calls_sound bs m e l in
      let z = sound_sized m (accepted_fit bs m e) (accepted_nested bs m e) (accepted_rounds bs m h e) (left l) o in
      ap (view_in m) (own_rows bs m e h l) ∙ view_back m (left l) z (sound_shaped m (left l) o)

  -- DEMAND 3 of the open run, where the bound is not NONE. All its calls together make no more steps than the bound.
  module _ (n : loops m ≡ false) where
    pub own_steps_at_most : (l : List Ask) → steps_in (called_on bs l (work_of (fresh m))) ≤ bound m
    own_steps_at_most l =
        rw (own_calls l, steps_in_lem bs l (fresh m)) (steps_at_most bs m e n l)

    -- When the limits of the calls that don't answer 30 add up to the bound, some call has answered an end.
    pub own_ended_by_the_bound : (a : Ask) (l : List Ask)
        → bound m ≤ limits_in (a ∷ l) (called_on bs (a ∷ l) (work_of (fresh m)))
        → none_ends_in (called_on bs (a ∷ l) (work_of (fresh m))) ≡ false
    own_ended_by_the_bound a l b =
        let c = ap (limits_in (a ∷ l)) (own_calls (a ∷ l)) ∙ limits_in_lem bs (a ∷ l) (fresh m) in
        ap none_ends_in (own_calls (a ∷ l))
        ∙ none_ends_in_lem bs (a ∷ l) (fresh m)
        ∙ ended_by_the_bound bs m e n a l (subst (λ k. bound m ≤ k) c b)

    -- With no TRY, when the row left shows an empty event list and every process ended, the steps are the bound.
    pub own_exactly_the_bound : no_try m ≡ true → (l : List Ask)
        → (view_in m (leaves_row bs l (work_of (fresh m)))).events ≡ []
        → AllOf (λ q. q.frames ≡ []) (view_in m (leaves_row bs l (work_of (fresh m)))).processes
        → steps_in (called_on bs l (work_of (fresh m))) ≡ bound m
    own_exactly_the_bound q l v p =
        ap steps_in (own_calls l)
        ∙ steps_in_lem bs l (fresh m)
        ∙ exactly_the_bound bs m e n q l (sym (ap (λ s. s.events) (own_view l)) ∙ v)
        (subst (λ s. AllOf (λ q. q.frames ≡ []) s.processes) (own_view l) p)
