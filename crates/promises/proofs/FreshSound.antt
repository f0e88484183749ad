-- A fresh run is sound.
-- Assumes nothing.
use Prim.Native.Nat.{ℕ, ◌+◌, ◌≤◌}
use Rattle.std.proofs.Common.{arith}
use Rattle.std.specs.Prelude.{◌≡◌, refl, length, get_or, replicate}
use mathlib.Core.List.{List, [], ◌∷◌, map}
use Rattle.std.proofs.lemmas.List.{length-replicate, length-map}
use Rattle.semantics.specs.Numbers as No
use Rattle.semantics.specs.Model.{Model, Entity}
use Rattle.semantics.specs.State.{State, Process, nobody, newcomer, free_place, wake, begin, begin_all, bare, fresh}
use Rattle.promises.specs.Laws.{AllOf, all_map, all_mapped, all_get, all_replicate, Ordered, over-set, over_none}
use Rattle.promises.specs.Laws.{once, once_apart}
use Rattle.promises.specs.Fit.{EntityFit, SamplerFit, Fit}
use Rattle.promises.specs.Sound.{al, waits, slaved, ProcOk, Ranked, Tied, Seed, Sound}
use Rattle.promises.specs.Keep.{living_in, some_free}
use Rattle.promises.specs.Moves.{nobody_ok}
use Rattle.promises.specs.Parts.{zeros_at}
use Rattle.promises.proofs.Stays.{begins}

module _ (m : Model) (t : Fit m) where
  -- Nobody lives yet.
  abbrev Dead : Process → Type 0
  Dead q = al q.frames ≡ 0

  pub bare_sound : Sound m (bare m)
  bare_sound =
      record {
        places_64 = length-replicate No.places nobody;
        syncs_many = length-replicate m.syncs [];
        frees_many = refl;
        bins_many = refl;
        vars_many = refl;
        clock_ok = omega arith;
        last_ok = omega arith;
        globals_ok = t.vars_fit;
        bins_ok = all_map (λ n. n ≤ No.top_amount) (λ n. n ≤ No.full_bin) (λ n h. omega arith) m.amounts t.amounts_fit;
        seeds_ok = record {
          many = length-map m.samplers (λ x. x.seed);
          each = all_mapped SamplerFit Seed (λ x. x.seed) (λ x h. h.seed_fits) m.samplers t.samplers_fit;
        };
        procs_ok = all_replicate (ProcOk m 0) No.places nobody (nobody_ok m 0);
        own_number =
            λ k h.
            let a = once_apart k 0 (λ e. absurd (omega arith)) in
            let b = over_none (λ q. once k q.number) No.places nobody a in
            omega arith;
        events_ok = tt;
        events_ordered = tt;
        few_returns = omega arith;
        blocked_ordered = tt;
        blocked_tied = tt;
        blocked_stand = tt;
        waiting_ordered = all_replicate (Ordered Ranked) m.syncs [] tt;
        waiting_tied = all_replicate (AllOf (Tied (bare m).processes)) m.syncs [] tt;
        in_one =
            λ k.
            let a = over_none (waits k) m.syncs [] refl in
            let b = over_none (λ q. slaved k q.slaves) No.places nobody refl in
            let c = all_get Dead (replicate No.places nobody) k nobody (all_replicate Dead No.places nobody refl) refl in
            omega arith;
        adds_up = λ j. let a = over_none (λ q. get_or q.held j 0) No.places nobody refl in omega arith;
      }

  -- The entities that are left are no more than the numbers and the places that are left.
  pub begin_all_sound :
      (es : List Entity) (s : State) → AllOf (EntityFit m) es → s.clock ≡ 0 → s.last + length es ≤ No.places
      → living_in s.processes + length es ≤ No.places → Sound m s → Sound m (begin_all m es s)
  unfolding begin_all begin wake
  begin_all_sound [] s f c l r h = h
  begin_all_sound (e ∷ es) s f c l r h =
      let hl : List ℕ = map (λ x. 0) m.totals in
      let a = f.0.1 in
      let b = some_free s.processes (let d = h.places_64 in omega arith) in
      let x : Process = newcomer m (s.last + 1) e.class hl in
      let d = over-set (λ q. al q.frames) s.processes (free_place s) x nobody b.0 in
      begin_all_sound es (begin m e.class e.offset hl s) f.1 c (omega arith) (omega arith)
      (begins m s h e.class e.offset hl (omega arith) (omega arith) f.0.0 (length-map m.totals (λ x. 0))
      (omega arith) (omega arith) (zeros_at m.totals))

pub fresh_sound : (m : Model) → Fit m → Sound m (fresh m)
unfolding fresh
fresh_sound m t =
    let n = t.few_entities in
    let a = over_none (λ q. al q.frames) No.places nobody refl in
    begin_all_sound m t m.entities (bare m) t.entities_fit refl (omega arith) (omega arith) (bare_sound m t)
