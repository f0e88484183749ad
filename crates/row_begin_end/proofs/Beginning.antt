-- One more begins: it is numbered, comes and enters. Assumes nothing.
use Prim.Native.Nat.{ℕ, ◌+◌}
use native.Mathlib.Omega.{arith}
use mathlib.Core.Path.{◌≡◌, sym, ◌∙◌, ap}
use mathlib.Core.List.{List, [], map}
use lib.ListN.{length, get_or, set}
use Rattle.semantics.specs.State.{State, process, free_place, with_last, wake}
use Rattle.base_numbers.specs.Row as Row
use Rattle.row_work.specs.Work.{work_of, Sized, Doing, Done}
use Rattle.row_work.specs.Shown.{work_long}
use Rattle.row_work.specs.Places.{last_at, last_set}
use Rattle.row_process.specs.Process.{Lives}
use Rattle.row_begin_end.specs.Begins.{newcomer_in, Roomy, comes, begins, numbered, Answers}
use Rattle.row_begin_end.specs.Laws.{begun_there}

module _ (b t : ℕ) {w : List ℕ} (d : Doing w Roomy (λ s. begins b t s)) where
  abbrev s : State
  s = d.is

  pub is_long : length w ≡ Row.WORDS
  is_long = ap length d.shows ∙ work_long s d.before

  pub last_is : get_or w 2 0 ≡ s.last
  last_is = ap (λ l. get_or l 2 0) d.shows ∙ last_at s

  -- It is numbered, and comes: only the event list is then as before.
  counted_sized : Sized (with_last s (s.last + 1))
  unfolding begins wake
  counted_sized =
      let a = d.after in
      let c = d.before in
      record {
        clock_low = c.clock_low;
        last_low = a.last_low;
        floor_ok = c.floor_ok;
        free_few = c.free_few;
        free_low = c.free_low;
        bins_few = c.bins_few;
        bins_low = c.bins_low;
        globals_few = c.globals_few;
        globals_ok = c.globals_ok;
        syncs_few = c.syncs_few;
        waiting_ok = c.waiting_ok;
        blocked_ok = c.blocked_ok;
        events_few = c.events_few;
        events_ok = c.events_ok;
        places_64 = c.places_64;
        processes_ok = c.processes_ok;
        seeds_few = c.seeds_few;
        seeds_ok = c.seeds_ok;
      }

  numbered_sized : Sized (numbered b s)
  unfolding begins wake
  numbered_sized =
      let a = d.after in
      let c = counted_sized in
      record {
        clock_low = c.clock_low;
        last_low = c.last_low;
        floor_ok = c.floor_ok;
        free_few = c.free_few;
        free_low = c.free_low;
        bins_few = c.bins_few;
        bins_low = c.bins_low;
        globals_few = c.globals_few;
        globals_ok = c.globals_ok;
        syncs_few = c.syncs_few;
        waiting_ok = c.waiting_ok;
        blocked_ok = c.blocked_ok;
        events_few = c.events_few;
        events_ok = c.events_ok;
        places_64 = a.places_64;
        processes_ok = a.processes_ok;
        seeds_few = c.seeds_few;
        seeds_ok = c.seeds_ok;
      }

  module _ {n : ℕ} (e : n ≡ get_or w 2 0 + 1) where
    next : n ≡ s.last + 1
    next = omega (arith, last_is)

    pub coming : Doing (set w 2 n) Roomy (λ s. comes n b s)
    coming =
        record {
          is = with_last s (s.last + 1);
          shows = ap (λ l. set l 2 n) d.shows ∙ ap (set (work_of s) 2) next ∙ last_set s (s.last + 1);
          before = counted_sized;
          after = rw next numbered_sized;
          given = record { in_places = d.given.in_places; vacant = d.given.vacant };
        }

    -- Then it enters.
    module _ {x : List ℕ} {p : ℕ} (came : Done (set w 2 n) Roomy (λ s. comes n b s) x)
        (answered : Answers (set w 2 n) Roomy (λ s. comes n b s) free_place p) where
      pub lowest_free : p ≡ free_place s
      unfolding coming
      lowest_free = answered coming

      there : process (numbered b s) p ≡ newcomer_in (s.last + 1) b (map (λ x. 0) s.free)
      there = ap (process (numbered b s)) lowest_free ∙ begun_there b s d.before.places_64 d.given

      pub entering : Doing x (Lives p) (λ s. wake t p s)
      unfolding begins coming
      entering =
          record {
            is = numbered b s;
            shows = came coming ∙ ap (λ k. work_of (comes k b (with_last s (s.last + 1)))) next;
            before = numbered_sized;
            after = rw lowest_free d.after;
            given =
                record {
                  in_places = let l = d.given.in_places in omega (arith, lowest_free);
                  innermost = record { block = b; at = 0; rounds = 1 };
                  around = [];
                  frames_are = ap (λ q. q.frames) there;
                };
          }

      pub begun : {y : List ℕ} → Done x (Lives p) (λ s. wake t p s) y → y ≡ work_of (begins b t s)
      unfolding begins entering
      begun entered = entered entering ∙ ap (λ k. work_of (wake t k (numbered b s))) lowest_free

      pub begun_long : {y : List ℕ} → Done x (Lives p) (λ s. wake t p s) y → length y ≡ length w
      begun_long entered = ap length (begun entered) ∙ work_long (begins b t s) d.after ∙ sym is_long
