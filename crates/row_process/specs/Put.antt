-- A process put into its place: what is read there, what is put there next, and how large both are. Assumes nothing.
use Rattle.std.specs.Prelude.{ℕ, ◌≤◌, ◌<◌, ◌≡◌, List, length}
use Rattle.std.proofs.Common.{arith, subst, ◌∙◌, ap, length-set, get_or-set_same, set-set}
use Rattle.semantics.specs.Numbers as No
use Rattle.semantics.specs.State.{State, Process, Frame, nobody, process, put, with_processes, with_frames}
use Rattle.promises.specs.Laws.{AllOf, all_get, all_set}
use Rattle.base_numbers.specs.Limit as Limit
use Rattle.row_work.specs.Work.{FrameSized, ProcessSized, Sized}
use Rattle.row_process.specs.Process.{changed}

pub process_sized : (s : State) (p : ℕ) → Sized s → ProcessSized (process s p)
process_sized s p h = all_get ProcessSized s.processes p nobody h.processes_ok (omega arith)

module _ (s : State) (p : ℕ) (q : Process) where
  pub put_again : (r : Process) → put p r (put p q s) ≡ put p r s
  put_again r = ap (with_processes s) (set-set s.processes p q r)

  pub put_there : length s.processes ≡ No.places → p < No.places → process (put p q s) p ≡ q
  put_there n l = get_or-set_same s.processes p q nobody (omega arith)

  pub put_sized : Sized s → ProcessSized q → Sized (put p q s)
  put_sized h k =
      record {
        clock_low = h.clock_low;
        last_low = h.last_low;
        floor_ok = h.floor_ok;
        free_few = h.free_few;
        free_low = h.free_low;
        bins_few = h.bins_few;
        bins_low = h.bins_low;
        globals_few = h.globals_few;
        globals_ok = h.globals_ok;
        syncs_few = h.syncs_few;
        waiting_ok = h.waiting_ok;
        blocked_ok = h.blocked_ok;
        events_few = h.events_few;
        events_ok = h.events_ok;
        places_64 = length-set s.processes p q ∙ h.places_64;
        processes_ok = all_set ProcessSized s.processes p q h.processes_ok k;
        seeds_few = h.seeds_few;
        seeds_ok = h.seeds_ok;
      }

  -- What was put there is as large as the state allows.
  pub sized_put : length s.processes ≡ No.places → p < No.places → Sized (put p q s) → ProcessSized q
  sized_put n l h = subst ProcessSized (put_there n l) (process_sized (put p q s) p h)

-- Two changes of one process are one.
pub changed_twice : (s : State) (p : ℕ) (f g : Process → Process) → length s.processes ≡ No.places → p < No.places
    → changed p g (changed p f s) ≡ changed p (λ q. g (f q)) s
changed_twice s p f g n l =
    let q : Process = f (process s p) in
    ap (λ r. put p (g r) (put p q s)) (put_there s p q n l) ∙ put_again s p q (g q)

-- A process in other blocks.
pub framed_sized : (q : Process) → ProcessSized q → (fs : List Frame) → length fs ≤ Limit.DEPTH → AllOf FrameSized fs
    → ProcessSized (with_frames q fs)
framed_sized q h fs n k =
    record {
      number_low = h.number_low;
      priority_ok = h.priority_ok;
      locals_few = h.locals_few;
      locals_ok = h.locals_ok;
      held_few = h.held_few;
      held_low = h.held_low;
      frames_few = n;
      frames_ok = k;
      slaves_few = h.slaves_few;
      slaves_ok = h.slaves_ok;
    }
