-- The states between the entities of a fresh run: there is a place for each that is still to begin. Assumes nothing.
use Prim.Native.Nat.{ℕ, suc, ◌+◌, ◌≤◌, ◌<◌}
use native.Mathlib.Omega.{arith}
use mathlib.Core.Path.{◌≡◌, refl, sym, subst, ◌∙◌, ap}
use mathlib.Core.List.{List, [], ◌∷◌, map}
use lib.ListN.{length, replicate, length-set, length-map}
use lib.IntN.{ℤ, pos}
use Rattle.semantics.specs.Numbers as No
use Rattle.semantics.specs.Model.{Model, Entity, body}
use Rattle.semantics.specs.State.{State, Process, Frame, Slave, Event, wakes, nobody, process, free_place, sooner, enter}
use Rattle.semantics.specs.State.{wake, begin_all, bare}
use Rattle.promises.specs.Laws.{AllOf, all_set, all_get, all_map, all_replicate, over-set, over_none, length-insert}
use Rattle.promises.specs.Fit.{I32, EntityFit, Fit, Nested}
use Rattle.promises.specs.Sound.{al, Vacant, ProcOk, Sound}
use Rattle.promises.specs.Keep.{living_in, al_none, FreeAt, some_free, enter_all}
use Rattle.promises.specs.Moves.{nobody_ok}
use Rattle.promises.proofs.FreshSound.{bare_sound, begin_all_sound}
use Rattle.base_numbers.specs.Row as Row
use Rattle.base_numbers.specs.Limit as Limit
use Rattle.row_work.specs.Work.{ProcessSized, EventSized, Sized}
use Rattle.row_begin_end.specs.Begins.{newcomer_in, Roomy, begins, numbered}
use Rattle.row_begin_end.specs.Laws.{begin_is, begun_there}
use Rattle.run_fresh.proofs.Partly.{bare_sized}

-- The entities es of m are still to begin.
pub record Ready (m : Model) (es : List Entity) (s : State) : Type 0 where
  pub is_sound : Sound m s
  pub is_sized : Sized s
  pub clock_none : s.clock ≡ 0
  pub last_few : s.last + length es ≤ No.places
  pub living_few : living_in s.processes + length es ≤ No.places
  pub events_few : length s.events + length es ≤ No.places
  pub each_fits : AllOf (EntityFit m) es

pub ready_starts : (m : Model) → Fit m → Ready m m.entities (bare m)
ready_starts m f =
    let a : living_in (replicate No.places nobody) ≡ 0 = over_none (λ q. al q.frames) No.places nobody refl in
    record {
      is_sound = bare_sound m f;
      is_sized = bare_sized m f;
      clock_none = refl;
      last_few = omega (arith, f.few_entities);
      living_few = omega (arith, f.few_entities);
      events_few = omega (arith, f.few_entities);
      each_fits = f.entities_fit;
    }

-- A vacant place has nobody in it.
made : ℕ → ℤ → List ℤ → List ℕ → List Slave → List Frame → Process
made n p l h s f = record { number = n; priority = p; locals = l; held = h; slaves = s; frames = f }

same_parts : (q : Process) → Vacant q → q.frames ≡ []
    → made q.number q.priority q.locals q.held q.slaves q.frames ≡ made 0 (pos 0) [] [] [] []
same_parts q v e = cc

nobody_is : (q : Process) → Vacant q → q.frames ≡ [] → q ≡ nobody
unfolding made
nobody_is q v e = same_parts q v e

-- A NEWCOMER can be shown, and so can the state that it begins in.
new_sized : (n b : ℕ) (xs : List ℕ) → n ≤ No.last_number → b < Limit.BLOCKS → length xs ≤ Limit.THINGS
    → ProcessSized (newcomer_in n b (map (λ x. 0) xs))
new_sized n b xs l h few =
    record {
      number_low = l;
      priority_ok = omega arith;
      locals_few = omega arith;
      locals_ok = all_replicate I32 No.locals (pos 0) (omega arith);
      held_few = let k : length ns ≡ length xs = length-map xs (λ x. 0) in omega arith;
      held_low = zeros xs;
      frames_few = omega arith;
      frames_ok = (record { block_low = h; at_low = omega arith; rounds_low = omega arith }, tt);
      slaves_few = omega arith;
      slaves_ok = tt;
    }
  where
    ns : List ℕ
    ns = map (λ x. 0) xs

    zeros : (ys : List ℕ) → AllOf (λ n. n ≤ Limit.AMOUNT) (map (λ x. 0) ys)
    zeros [] = tt
    zeros (y ∷ ys) = (omega arith, zeros ys)

module _ (s : State) (h : Sized s) (b t : ℕ) (r : Roomy s) where
  abbrev new : Process
  new = newcomer_in (s.last + 1) b (map (λ x. 0) s.free)

  abbrev event : Event
  event = record { time = t; priority = (process (numbered b s) (free_place s)).priority; notice = wakes (free_place s) }

  event_sized : t ≤ No.latest → EventSized event
  event_sized late =
      record {
        time_low = late;
        priority_ok = subst (λ q. I32 q.priority) (sym (begun_there b s h.places_64 r)) (omega arith);
        notice_ok = r.in_places;
      }

  longer : length (enter event s.events) ≡ suc (length s.events)
  unfolding enter
  longer = length-insert sooner event s.events

  pub begins_sized : s.last < No.last_number → b < Limit.BLOCKS → t ≤ No.latest → length s.events < Row.EVENTS_MOST
      → Sized (begins b t s)
  unfolding begins wake
  begins_sized l low late few =
      record {
        clock_low = h.clock_low;
        last_low = omega arith;
        floor_ok = h.floor_ok;
        free_few = h.free_few;
        free_low = h.free_low;
        bins_few = h.bins_few;
        bins_low = h.bins_low;
        globals_few = h.globals_few;
        globals_ok = h.globals_ok;
        syncs_few = h.syncs_few;
        waiting_ok = h.waiting_ok;
        blocked_ok = h.blocked_ok;
        events_few = omega (arith, longer);
        events_ok = enter_all event s.events EventSized (event_sized late) h.events_ok;
        places_64 = length-set s.processes (free_place s) new ∙ h.places_64;
        processes_ok =
            all_set ProcessSized s.processes (free_place s) new h.processes_ok
            (new_sized (s.last + 1) b s.free (omega arith) low h.free_few);
        seeds_few = h.seeds_few;
        seeds_ok = h.seeds_ok;
      }

-- ONE MORE BEGINS: there is room for it, it is that of the definition, and those behind it are still to begin.
module _ (m : Model) (f : Fit m) (n : Nested m) (e : Entity) (es : List Entity) (s : State) (h : Ready m (e ∷ es) s) where
  abbrev after : State
  after = begins (body m e.class) e.offset s

  free_place_lem : FreeAt s.processes (free_place s)
  free_place_lem = let a = h.is_sound.places_64 in let b = h.living_few in some_free s.processes (omega arith)

  pub is_roomy : Roomy s
  is_roomy =
      let a = h.is_sound.places_64 in
      let p = free_place_lem in
      let o =
      all_get (ProcOk m s.last) s.processes (free_place s) nobody h.is_sound.procs_ok (nobody_ok m s.last) in
      record {
        in_places = omega arith;
        vacant = nobody_is (process s (free_place s)) (o.dead p.1) (al_none (process s (free_place s)).frames p.1);
      }

  pub is_begun : begin_all m (e ∷ es) s ≡ begin_all m es after
  unfolding begin_all
  is_begun = ap (begin_all m es) (begin_is m e.class e.offset s h.is_sound.frees_many)

  block_low : body m e.class < Limit.BLOCKS
  block_low =
      let a = f.few_blocks in
      let c = all_map _ (λ b. b < Limit.BLOCKS) (λ b l. omega (arith, l.0)) m.classes n.bodies in
      all_get (λ b. b < Limit.BLOCKS) m.classes e.class 0 c (omega arith)

  after_sound : Sound m after
  unfolding begin_all
  after_sound =
      let a = h.last_few in
      let b = h.living_few in
      subst (Sound m) (begin_is m e.class e.offset s h.is_sound.frees_many)
      (begin_all_sound m f (e ∷ []) s (h.each_fits.0, tt) h.clock_none (omega arith) (omega arith) h.is_sound)

  after_sized : Sized after
  after_sized =
      let a = h.last_few in
      let b = h.events_few in
      let t = h.each_fits.0.1 in
      begins_sized s h.is_sized (body m e.class) e.offset is_roomy
      (omega arith) block_low (omega arith) (omega arith)

  pub ready_next : Ready m es after
  unfolding begins wake
  ready_next =
      let b : ℕ = body m e.class in
      let d = over-set (λ q. al q.frames) s.processes (free_place s) (new s h.is_sized b e.offset is_roomy) nobody
      free_place_lem.0 in
      let p = free_place_lem.1 in
      let l = longer s h.is_sized b e.offset is_roomy in
      record {
        is_sound = after_sound;
        is_sized = after_sized;
        clock_none = h.clock_none;
        last_few = omega (arith, h.last_few);
        living_few = omega (arith, h.living_few);
        events_few = omega (arith, h.events_few);
        each_fits = h.each_fits.1;
      }
