-- Sound rows and sound states: the work of a sound state is a sound row, and a sound row is the work of the sound state that it
-- shows. Assumes nothing.
use Rattle.std.proofs.Common.{arith, sym, ◌∙◌, ap, ap₂, subst}
use Rattle.std.specs.Prelude.{ℕ, ◌≡◌, refl, List, [], ◌∷◌, Bool, true, false, length}
use Rattle.semantics.specs.Model.{Model}
use Rattle.semantics.specs.Decode.{Checked, refused, accepted, decode}
use Rattle.semantics.specs.State.{State, Process, Frame, with_frames}
use Rattle.semantics.specs.Sound.{sound_in, sound}
use Rattle.promises.specs.Laws.{no_way, AllOf, all_map, ◌&◌}
use Rattle.promises.specs.Sound.{ProcOk, Sound}
use Rattle.promises.specs.Says.{Says, says_is, says_eq, says_for, ◌and◌}
use Rattle.promises.proofs.Decides.{sound_yes}
use Rattle.promises.specs.Accepted.{accepted_fit, accepted_nested}
use Rattle.file_index.specs.Index.{counts_in}
use Rattle.file_index.specs.declared.Counts.{Counts}
use Rattle.row_work.specs.Work.{work_of, Sized}
use Rattle.row_work.specs.Sized.{IsByte, accepted_rounds, sound_sized}
use Rattle.row_view.specs.View.{view_in, same_row, sound_row}
use Rattle.row_view.specs.Fits.{Counted, Few, Showing}
use Rattle.row_view.specs.Back.{Furnished, Shaped, view_back}

pub says_same_row : (xs ys : List ℕ) → Says (same_row xs ys) (xs ≡ ys)
unfolding same_row
says_same_row [] [] = record { yes = λ e. refl; back = λ e. refl }
says_same_row [] (y ∷ ys) = record { yes = λ e. no_way e; back = λ e. absurd (let n = ap length e in omega arith) }
says_same_row (x ∷ xs) [] = record { yes = λ e. no_way e; back = λ e. absurd (let n = ap length e in omega arith) }
says_same_row (x ∷ xs) (y ∷ ys) =
    says_for (says_eq and says_same_row xs ys) (λ h. ap₂ ◌∷◌ h.0 h.1) (λ e. (cc, cc))

-- A sound state has the model's lengths.
furnished_by : (m : Model) (n : ℕ) (q : Process) → ProcOk m n q → Furnished (length m.totals) q
furnished_by m n q o = by q.frames o
  where
    by : (fs : List Frame) → ProcOk m n (with_frames q fs) → Furnished (length m.totals) (with_frames q fs)
    by [] p =
        let v = p.dead refl in record { locals_many = ap length v.no_locals; held_many = ap length v.no_held }
    by (f ∷ fs) p =
        let v = p.live (omega arith) in record { locals_many = v.locals_many; held_many = v.held_many }

pub sound_shaped : (m : Model) (s : State) → Sound m s → Shaped m s
sound_shaped m s h =
    record {
      frees_many = h.frees_many;
      bins_many = h.bins_many;
      syncs_many = h.syncs_many;
      vars_many = h.vars_many;
      furnished = all_map _ _ (furnished_by m s.last) s.processes h.procs_ok;
      seeds_many = h.seeds_ok.many;
    }

-- THE WORK of a state of the model shows it.
pub work_shows : (m : Model) (s : State) → Sized s → Shaped m s → Showing m (work_of s)
work_shows m s h f =
    let v = view_back m s h f in record { is_form = ap work_of (sym v); is_sized = subst Sized (sym v) h }

module _ (bs : List ℕ) (m : Model) (e : decode bs ≡ accepted m) where
  -- A SOUND ROW is the work of the state that it shows, and that is sound.
  pub says_sound_row : (w : List ℕ) → Says (sound_row bs w) ((w ≡ work_of (view_in m w)) × (sound_in m (view_in m w) ≡ true))
  unfolding sound_row
  says_sound_row w = rw (e, sound_row) (says_same_row w (work_of (view_in m w)) and says_is)

  -- The work can hold it, where the file is one of bytes; so a row that shows no state is not sound.
  module _ (h : AllOf IsByte bs) where
    can_hold : (s : State) → Sound m s → Sized s
    can_hold s o = sound_sized m (accepted_fit bs m e) (accepted_nested bs m e) (accepted_rounds bs m h e) s o

    pub sound_shows : (w : List ℕ) → sound_row bs w ≡ true → Showing m w
    sound_shows w t =
        let a = (says_sound_row w).yes t in
        record { is_form = a.0; is_sized = can_hold (view_in m w) (sound_yes m (view_in m w) a.1) }

    pub shows_none : (w : List ℕ) → (Showing m w → ⊥) → sound_row bs w ≡ false
    shows_none w n = by (sound_row bs w) refl
      where
        by : (b : Bool) → sound_row bs w ≡ b → b ≡ false
        by true t = absurd (n (sound_shows w t))
        by false t = refl

    -- The work of a sound state is a sound row.
    pub sound_work : (s : State) → sound_in m s ≡ true → sound_row bs (work_of s) ≡ true
    sound_work s t =
        let o = sound_yes m s t in
        let v : view_in m (work_of s) ≡ s = view_back m s (can_hold s o) (sound_shaped m s o) in
        (says_sound_row (work_of s)).back (ap work_of (sym v) & (ap (sound_in m) v ∙ t))

  -- The counts of an accepted file are few.
  pub counted_by : {k : Counts} → k ≡ counts_in m → Counted m k.resources k.bins k.syncs k.variables k.samplers
  counted_by c =
      record {
        resources_are = ap (λ x. x.resources) (sym c);
        bins_are = ap (λ x. x.bins) (sym c);
        syncs_are = ap (λ x. x.syncs) (sym c);
        variables_are = ap (λ x. x.variables) (sym c);
        samplers_are = ap (λ x. x.samplers) (sym c);
      }

  pub few_by : {k : Counts} → k ≡ counts_in m → Few k.resources k.bins k.syncs k.variables k.samplers
  few_by c =
      let f = accepted_fit bs m e in
      let n = counted_by c in
      record {
        few_resources = omega (arith, n.resources_are, f.few_totals);
        few_bins = omega (arith, n.bins_are, f.few_amounts);
        few_syncs = omega (arith, n.syncs_are, f.few_syncs);
        few_variables = omega (arith, n.variables_are, f.few_vars);
        few_samplers = omega (arith, n.samplers_are, f.few_samplers);
      }

pub sound_row_lem : (bs : List ℕ) (s : State) → AllOf IsByte bs → sound bs s ≡ true → sound_row bs (work_of s) ≡ true
unfolding sound
sound_row_lem bs s h t = by (decode bs) refl t
  where
    by : (d : Checked Model) → decode bs ≡ d → (elim d [ refused n p ↦ false | accepted m ↦ sound_in m s ]) ≡ true
        → sound_row bs (work_of s) ≡ true
    by (refused n p) e x = no_way x
    by (accepted m) e x = sound_work bs m e h s x
