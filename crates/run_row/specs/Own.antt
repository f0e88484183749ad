-- Calls on rows: one that is not sound is turned away, a sound one is run, and the row of a state is called as the state is. So
-- an open run that only our calls moved is sound before each call, and 20 is never answered. Assumes nothing.
use Rattle.std.specs.Prelude.{ℕ, ◌≡◌, List, [], ◌∷◌, Bool, true, false, length}
use Rattle.std.proofs.Math.Path.{refl, ap}
use Rattle.std.proofs.Common.{sym, ◌∙◌, subst}
use Rattle.semantics.specs.Numbers as No
use Rattle.semantics.specs.Model.{Model}
use Rattle.semantics.specs.Decode.{Checked, refused, accepted, decode}
use Rattle.semantics.specs.State.{State, fresh}
use Rattle.semantics.specs.Sound.{sound_in}
use Rattle.semantics.specs.Run.{FAULT, Ask, stopped, run, call_in, call, leaves}
use Rattle.promises.specs.Laws.{AllOf, no_way, ◌&◌}
use Rattle.promises.proofs.Decides.{sound_yes, sound_back}
use Rattle.promises.specs.Sound.{Sound}
use Rattle.promises.specs.Accepted.{accepted_fit, accepted_nested}
use Rattle.promises.proofs.Calls.{call_is, run_sound, calls_sound, never_20}
use Rattle.base_numbers.specs.Row as Row
use Rattle.row_work.specs.Work.{work_of, Sized}
use Rattle.row_work.specs.Sized.{IsByte, accepted_rounds, sound_sized}
use Rattle.row_work.specs.Shown.{work_long}
use Rattle.row_view.specs.View.{view_in, same_row, sound_row}
use Rattle.row_view.specs.Rows.{says_same_row, says_sound_row, shows_none, sound_shaped, sound_work, work_shows}
use Rattle.row_view.specs.Back.{Shaped, view_back}
use Rattle.run_row.specs.Call.{called_as, turned_away, called_if, call_row, leaves_row}

-- A REFUSED FILE.
pub refused_called : (bs : List ℕ) (a : Ask) (w : List ℕ) {n p : ℕ} → decode bs ≡ refused n p → call_row bs a w ≡ turned_away w
unfolding call_row
refused_called bs a w e = rw (e, call_row) refl

-- AN ACCEPTED ONE.
module _ (bs : List ℕ) (m : Model) (e : decode bs ≡ accepted m) (a : Ask) where
  called_if_lem : (w : List ℕ) → call_row bs a w ≡ called_if (same_row w (work_of (view_in m w))) (call bs a (view_in m w)) w
  unfolding call_row
  called_if_lem w =
      ap
      (λ d.
      elim d [
        | refused n p ↦ turned_away w
        | accepted m ↦ called_if (same_row w (work_of (view_in m w))) (call bs a (view_in m w)) w
      ])
      e

  -- The row is the one form of what it shows.
  pub shown_called : (w : List ℕ) → w ≡ work_of (view_in m w) → call_row bs a w ≡ called_as (call bs a (view_in m w))
  shown_called w h =
      called_if_lem w ∙ ap (λ b. called_if b (call bs a (view_in m w)) w) ((says_same_row w (work_of (view_in m w))).back h)

  -- THE ROW OF A STATE that the work can hold.
  pub state_called : (s : State) → Sized s → Shaped m s → call_row bs a (work_of s) ≡ called_as (call bs a s)
  state_called s h f =
      shown_called (work_of s) (work_shows m s h f).is_form ∙ ap (λ t. called_as (call bs a t)) (view_back m s h f)

  -- A SOUND ROW is run.
  pub sound_called : (w : List ℕ) → sound_row bs w ≡ true
      → call_row bs a w ≡ called_as (run m a.limit a.room (view_in m w))
  sound_called w t =
      let h = (says_sound_row bs m e w).yes t in
      shown_called w h.0 ∙ ap called_as (call_is bs m e a (view_in m w) (sound_yes m (view_in m w) h.1))

  -- ANY OTHER is turned away.
  unsound_stops : (s : State) → sound_in m s ≡ false → call bs a s ≡ stopped (FAULT No.STATE) s
  unfolding call call_in
  unsound_stops s z = rw (call, e, call_in, z) refl

  unsound_called : (w : List ℕ) → sound_row bs w ≡ false → call_row bs a w ≡ turned_away w
  unsound_called w z = by (same_row w (work_of v)) refl (sound_in m v) refl
    where
      v : State
      v = view_in m w

      by : (b : Bool) → same_row w (work_of v) ≡ b → (c : Bool) → sound_in m v ≡ c → call_row bs a w ≡ turned_away w
      by false x c y = called_if_lem w ∙ ap (λ b. called_if b (call bs a v) w) x
      by true x true y =
          no_way (sym z ∙ (says_sound_row bs m e w).back ((says_same_row w (work_of v)).yes x & y))
      by true x false y =
          let h = (says_same_row w (work_of v)).yes x in
          shown_called w h ∙ ap called_as (unsound_stops v y) ∙ ap turned_away (sym h)

-- Whatever the file is.
pub row_turned : (bs : List ℕ) (a : Ask) (w : List ℕ) → sound_row bs w ≡ false → call_row bs a w ≡ turned_away w
row_turned bs a w z = by (decode bs) refl
  where
    by : (d : Checked Model) → decode bs ≡ d → call_row bs a w ≡ turned_away w
    by (refused n p) e = refused_called bs a w e
    by (accepted m) e = unsound_called bs m e a w z

-- A ROW OF ANOTHER LENGTH is no state's.
pub other_length : (bs w : List ℕ) → AllOf IsByte bs → (length w ≡ Row.WORDS → ⊥) → sound_row bs w ≡ false
unfolding sound_row
other_length bs w h n = by (decode bs) refl
  where
    by : (d : Checked Model) → decode bs ≡ d → sound_row bs w ≡ false
    by (refused k p) e = rw (e, sound_row) refl
    by (accepted m) e = shows_none bs m e h w (λ s. n (ap length s.is_form ∙ work_long (view_in m w) s.is_sized))

-- OUR OWN RUNS: fresh, and then moved by the calls l alone.
module _ (bs : List ℕ) (m : Model) (e : decode bs ≡ accepted m) (h : AllOf IsByte bs) where
  sound_state_called : (s : State) → Sound m s → (a : Ask) → call_row bs a (work_of s) ≡ called_as (call bs a s)
  sound_state_called s o a =
      state_called bs m e a s
      (sound_sized m (accepted_fit bs m e) (accepted_nested bs m e) (accepted_rounds bs m h e) s o)
      (sound_shaped m s o)

  abbrev left : List Ask → State
  left l = leaves bs l (fresh m)

  pub own_sound : (l : List Ask) → sound_row bs (work_of (left l)) ≡ true
  own_sound l = sound_work bs m e h (left l) (sound_back m (left l) (calls_sound bs m e l))

  -- Each call on the row is the call on the state, of which demand 3 and the rest of the promises speak.
  pub own_called : (l : List Ask) (a : Ask) → call_row bs a (work_of (left l)) ≡ called_as (call bs a (left l))
  own_called l a = sound_state_called (left l) (calls_sound bs m e l) a

  pub own_never_20 : (l : List Ask) (a : Ask) → (call_row bs a (work_of (left l))).answer ≡ FAULT No.STATE → ⊥
  own_never_20 l a f = never_20 bs m e l a (ap (λ c. c.answer) (sym (own_called l a)) ∙ f)

  -- And the rows that the calls leave show the states that they leave.
  rows_left : (l : List Ask) (s : State) → Sound m s → leaves_row bs l (work_of s) ≡ work_of (leaves bs l s)
  rows_left [] s o = refl
  rows_left (a ∷ l) s o =
      let t : Sound m (call bs a s).state =
      subst (λ r. Sound m r.state) (sym (call_is bs m e a s o)) (run_sound m (accepted_fit bs m e) a.limit a.room s o) in
      ap (λ c. leaves_row bs l c.row) (sound_state_called s o a) ∙ rows_left l (call bs a s).state t

  pub own_rows : (l : List Ask) → leaves_row bs l (work_of (fresh m)) ≡ work_of (left l)
  own_rows l = rows_left l (fresh m) (calls_sound bs m e [])
