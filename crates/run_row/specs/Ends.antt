-- An open run in a row that has ended stays ended. Assumes nothing.
use Rattle.std.specs.Prelude.{ℕ, ◌≡◌, List, [], ◌∷◌, Bool}
use Rattle.std.proofs.Math.Path.{refl}
use Rattle.std.proofs.Common.{sym, ◌∙◌, ap, subst}
use Rattle.std.proofs.Math.Bool.{true, false}
use Rattle.semantics.specs.Model.{Model}
use Rattle.semantics.specs.Decode.{Checked, refused, accepted, decode}
use Rattle.semantics.specs.State.{State}
use Rattle.semantics.specs.Run.{Answer, Ask, call, no_end}
use Rattle.promises.specs.Laws.{AllOf, no_way}
use Rattle.promises.proofs.Decides.{sound_yes}
use Rattle.promises.specs.Sound.{Sound}
use Rattle.promises.specs.Accepted.{accepted_fit, accepted_nested}
use Rattle.promises.specs.Ends.{again, again_20}
use Rattle.promises.proofs.Calls.{call_is, run_sound, ended_stays}
use Rattle.row_work.specs.Sized.{IsByte, accepted_rounds, sound_sized}
use Rattle.row_view.specs.View.{view_in, sound_row}
use Rattle.row_view.specs.Rows.{says_sound_row, sound_shaped}
use Rattle.run_row.specs.Call.{Called, called_as, call_row, leaves_row}
use Rattle.run_row.specs.Own.{state_called, sound_called, row_turned}

-- What a call is that makes no step and leaves the row.
abbrev pub stopped_row : Answer → List ℕ → Called
stopped_row a w = record { answer = a; steps = 0; row = w; lines = [] }

-- After CLOSED, IDLE or a fault other than 30, of any file and any row,
module _ (bs : List ℕ) (h : AllOf IsByte bs) (a : Ask) (w : List ℕ) (f : no_end (call_row bs a w).answer ≡ false) where
  abbrev Stays : Ask → Type 0
  Stays b = call_row bs b (call_row bs a w).row ≡ stopped_row (again (call_row bs a w).answer b.limit) (call_row bs a w).row

  sound_stays : (b : Ask) (m : Model) → decode bs ≡ accepted m → sound_row bs w ≡ true → Stays b
  sound_stays b m e z =
      let s : State = view_in m w in
      let o : Sound m s = sound_yes m s ((says_sound_row bs m e w).yes z).1 in
      let c = call_is bs m e a s o in
      let t : State = (call bs a s).state in
      let p : Sound m t =
      subst (λ r. Sound m r.state) (sym c) (run_sound m (accepted_fit bs m e) a.limit a.room s o) in
      let q : call_row bs a w ≡ called_as (call bs a s) = sound_called bs m e a w z ∙ ap called_as (sym c) in
      let i = sound_sized m (accepted_fit bs m e) (accepted_nested bs m e) (accepted_rounds bs m h e) t p in
      rw q
      (state_called bs m e b t i (sound_shaped m t p)
      ∙ ap called_as (ended_stays bs a s (subst (λ d. no_end d.answer ≡ false) q f) [] b))

  next_stays : (b : Ask) → Stays b
  unfolding sound_row
  next_stays b = by (sound_row bs w) refl (decode bs) refl
    where
      by : (t : Bool) → sound_row bs w ≡ t → (d : Checked Model) → decode bs ≡ d → Stays b
      by false z d e = rw (row_turned bs a w z, row_turned bs b w z) (ap (λ x. stopped_row x w) (sym (again_20 b.limit)))
      by true z (refused n p) e = no_way (rw (sound_row, e) at z)
      by true z (accepted m) e = sound_stays b m e z

  still_left : (l : List Ask) → leaves_row bs l (call_row bs a w).row ≡ (call_row bs a w).row
  still_left [] = refl
  still_left (b ∷ l) = ap (λ c. leaves_row bs l c.row) (next_stays b) ∙ still_left l

  -- every later call makes no step, writes no line, leaves the row and answers the same again.
  pub row_end_stays : (l : List Ask) (b : Ask)
      → call_row bs b (leaves_row bs l (call_row bs a w).row)
      ≡ stopped_row (again (call_row bs a w).answer b.limit) (call_row bs a w).row
  row_end_stays l b = ap (call_row bs b) (still_left l) ∙ next_stays b
