-- A row handed in that shows a sized state of a model, sound or not: what is known of it, and what is tested. Assumes nothing.
use Rattle.std.specs.Prelude.{ℕ, ◌≤◌, ◌<◌, ◌≡◌, refl, List, [], ◌∷◌, Bool, true, false, ◌&&◌, length, get_or}
use Rattle.std.proofs.Common.{arith, sym, ◌∙◌, ap}
use Rattle.semantics.specs.Model.{Model}
use Rattle.semantics.specs.Words.{is_empty}
use Rattle.semantics.specs.State.{State, Process, Frame, is_free}
use Rattle.semantics.specs.Sound.{shaped, numbers_in_range, in_order, own_numbers, in_one, adds_up}
use Rattle.promises.specs.Laws.{AllOf, all_map, no_way}
use Rattle.promises.specs.Fit.{Fit}
use Rattle.promises.specs.Sound.{al, Vacant, Fine, ProcOk, Sound}
use Rattle.row_work.specs.Work.{work_of, Sized}
use Rattle.semantics.specs.Numbers as No

-- A process in no block has no locals and holds nothing; any other has its locals and a holding for each resource.
pub record Furnished (m : Model) (q : Process) : Type 0 where
  pub empty : is_free q ≡ true → (q.locals ≡ []) × (q.held ≡ [])
  pub full : is_free q ≡ false → (length q.locals ≡ No.locals) × (length q.held ≡ length m.totals)

-- A state has what the model declares.
pub record Shaped (m : Model) (s : State) : Type 0 where
  pub frees_many : length s.free ≡ length m.totals
  pub bins_many : length s.bins ≡ length m.amounts
  pub vars_many : length s.globals ≡ length m.vars
  pub syncs_many : length s.waiting ≡ m.syncs
  pub seeds_many : length s.seeds ≡ length m.samplers
  pub furnished : AllOf (Furnished m) s.processes

-- How many things the model declares, and the totals of its resources.
pub record Things (m : Model) (totals : List ℕ) (resources bins syncs : ℕ) : Type 0 where
  pub resources_are : resources ≡ length m.totals
  pub bins_are : bins ≡ length m.amounts
  pub syncs_are : syncs ≡ m.syncs
  pub totals_many : resources ≤ length totals
  pub totals_are : (i : ℕ) → i < resources → get_or totals i 0 ≡ get_or m.totals i 0

-- A row that shows a sized state of that shape.
pub record Counted (w totals : List ℕ) (resources bins syncs : ℕ) : Type 0 where
  pub model : Model
  pub fits : Fit model
  pub things : Things model totals resources bins syncs
  pub is : State
  pub shows : w ≡ work_of is
  pub sized : Sized is
  pub shaped : Shaped model is

-- The clauses of soundness but two: that the blocks of each process are chained, and that a blocked one stands at a REQ or TRY.
unfoldable pub sound_beside : Model → State → Bool
sound_beside m s =
    shaped m s && (numbers_in_range m s && (in_order s && (own_numbers s && (in_one s && adds_up m s))))

-- WHAT A SOUND RUN MEETS: every one has this shape, so nothing is asked that a caller could not have.
pub sound_shaped : (m : Model) (s : State) → Sound m s → Shaped m s
sound_shaped m s h =
    record {
      frees_many = h.frees_many;
      bins_many = h.bins_many;
      vars_many = h.vars_many;
      syncs_many = h.syncs_many;
      seeds_many = h.seeds_ok.many;
      furnished =
          all_map (ProcOk m s.last) (Furnished m) (λ q o. by q.frames refl o.dead o.live) s.processes
          h.procs_ok;
    }
  where
    by : {q : Process} (fs : List Frame) → q.frames ≡ fs → (al q.frames ≡ 0 → Vacant q)
        → (1 ≤ al q.frames → Fine m s.last q) → Furnished m q
    by [] e dead live =
        let v = dead (ap al e) in
        record { empty = λ z. (v.no_locals, v.no_held); full = λ z. no_way (sym z ∙ ap is_empty e) }
    by (f ∷ fs) e dead live =
        let a = ap al e in
        let g = live (omega arith) in
        record { empty = λ z. no_way (sym (ap is_empty e) ∙ z); full = λ z. (g.locals_many, g.held_many) }
