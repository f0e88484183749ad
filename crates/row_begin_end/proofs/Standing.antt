-- What is read of a place in a work that shows the state, and what another process there makes of it. Assumes nothing.
use Prim.Native.Nat.{ℕ, ◌+◌, ◌-◌, ◌*◌, ◌<◌}
use native.Mathlib.Omega.{arith}
use mathlib.Core.Path.{◌≡◌, refl, ◌∙◌, ap}
use mathlib.Core.List.{List, [], map}
use mathlib.Core.Bool.{true, false}
use lib.ListN.{length, get_or, set, take, drop}
use lib.Seq.{get_or-set_same}
use Rattle.semantics.specs.Words.{first_at}
use Rattle.semantics.specs.Numbers as No
use Rattle.semantics.specs.State.{State, Process, nobody, process, put, free_place, is_free}
use Rattle.promises.specs.Laws.{all_get}
use Rattle.base_numbers.specs.Row as Row
use Rattle.base_numbers.specs.Process as Process
use Rattle.base_places.specs.Places.{living_of, Shows}
use Rattle.row_work.specs.Laid.{laid}
use Rattle.row_work.specs.Work.{process_row, work_of, ProcessSized, Sized, Doing}
use Rattle.row_work.specs.Shown.{work_long, process_long}
use Rattle.row_work.specs.Inside.{whole_long}
use Rattle.row_work.specs.Places.{replaced, place_part, place_replaced}
use Rattle.row_begin_end.specs.Begins.{Ending, Leaving, newcomer_in, Roomy, Vacant, comes}
use Rattle.row_begin_end.proofs.Rows.{holds_nothing}

-- Where the row of place p stands, and how long it is, as the code computes it.
abbrev from : ℕ → ℕ
from p = Row.PROCESSES + Process.WORDS * p

abbrev wide : ℕ → ℕ
wide p = from p + Process.WORDS - from p

row_wide : (p : ℕ) → wide p ≡ Process.WORDS
row_wide p = omega arith

module _ (w : List ℕ) (s : State) (shows : w ≡ work_of s) (h : Sized s) where
  long : length w ≡ Row.WORDS
  long = ap length shows ∙ work_long s h

  living_shown : Shows (get_or w 4 0) s.processes
  unfolding work_of laid
  living_shown = record { places = h.places_64; digits = ap (λ l. get_or l 4 0) shows }

  -- ANOTHER PROCESS in place p.
  module _ (p : ℕ) (in_places : p < No.places) where
    sized : ProcessSized (process s p)
    sized = all_get ProcessSized s.processes p nobody h.processes_ok (let a = h.places_64 in omega arith)

    row_is : take (wide p) (drop (from p) w) ≡ process_row (process s p)
    row_is =
        ap (λ k. take k (drop (from p) w)) (row_wide p)
        ∙ ap (λ l. take Process.WORDS (drop (from p) l)) shows
        ∙ place_part s h p in_places

    module _ (q : Process) (ys : List ℕ) (e : ys ≡ process_row q) where
      changed_long : length (process_row q) ≡ Process.WORDS → length (replaced w (from p) (wide p) ys) ≡ Row.WORDS
      changed_long l =
          let a = long in
          let b : length ys ≡ Process.WORDS = ap length e ∙ l in
          ap (λ k. length (replaced w (from p) k ys)) (row_wide p) ∙ whole_long w (from p) Process.WORDS ys (omega arith) b ∙ a

      changed : (n : ℕ) → n ≡ living_of (set s.processes p q)
          → set (replaced w (from p) (wide p) ys) 4 n ≡ work_of (put p q s)
      changed n l =
          ap (λ k. set (replaced w (from p) k ys) 4 n) (row_wide p)
          ∙ ap (λ r. set (replaced w (from p) Process.WORDS r) Row.LIVING n) e
          ∙ ap (λ r. set (replaced r (from p) Process.WORDS (process_row q)) Row.LIVING n) shows
          ∙ place_replaced s h p in_places q n l

-- ONE ENDS in place p.
module _ {p : ℕ} {w : List ℕ} (d : Doing w (Ending p) (λ s. put p nobody s)) where
  abbrev ending : Process
  ending = process d.is p

  pub end_long : length w ≡ Row.WORDS
  end_long = long w d.is d.shows d.before

  pub leaving : Leaving (take (wide p) (drop (from p) w))
  leaving =
      record {
        who = ending;
        sized = sized w d.is d.shows d.before p d.given.in_places;
        leaves = d.given.leaves;
        shows = row_is w d.is d.shows d.before p d.given.in_places;
      }

  module _ {ys : List ℕ} (e : ys ≡ process_row nobody) where
    pub ended_long : length (replaced w (from p) (wide p) ys) ≡ Row.WORDS
    ended_long =
        changed_long w d.is d.shows d.before p d.given.in_places nobody ys e
        (process_long nobody (omega arith))

    pub ended : {n : ℕ}
        → ((ps : List Process) (q : Process) → Shows (get_or w 4 0) ps → is_free q ≡ true → n ≡ living_of (set ps p q))
        → set (replaced w (from p) (wide p) ys) 4 n ≡ work_of (put p nobody d.is)
    ended {n} l =
        changed w d.is d.shows d.before p d.given.in_places nobody ys e n
        (l d.is.processes nobody (living_shown w d.is d.shows d.before) refl)

-- ONE COMES into place p, the lowest free one.
module _ (n b : ℕ) {w : List ℕ} (d : Doing w Roomy (λ s. comes n b s)) where
  abbrev s : State
  s = d.is

  abbrev new : Process
  new = newcomer_in n b (map (λ x. 0) s.free)

  pub come_long : length w ≡ Row.WORDS
  come_long = long w s d.shows d.before

  module _ {p : ℕ} (first : (ps : List Process) → Shows (get_or w 4 0) ps → p ≡ first_at is_free ps) where
    pub lowest_free : p ≡ free_place s
    lowest_free = first s.processes (living_shown w s d.shows d.before)

    pub in_places : p < No.places
    in_places = let a = d.given.in_places in omega (arith, lowest_free)

    new_sized : ProcessSized new
    new_sized =
        let a = d.given.in_places in
        let k = d.before.places_64 in
        rw (get_or-set_same s.processes (free_place s) new nobody (omega arith)) at
        (all_get ProcessSized (comes n b s).processes (free_place s) nobody d.after.processes_ok (omega arith))

    pub vacant : Vacant (take (wide p) (drop (from p) w)) b
    vacant =
        record {
          shows =
              row_is w s d.shows d.before p in_places
              ∙ ap (λ k. process_row (process s k)) lowest_free
              ∙ ap process_row d.given.vacant;
          block_low = new_sized.frames_ok.0.block_low;
        }

    module _ {ys : List ℕ} (e : ys ≡ process_row (newcomer_in n b [])) where
      holding : ys ≡ process_row new
      holding = e ∙ holds_nothing n b s.free d.before.free_few

      pub came_long : length (replaced w (from p) (wide p) ys) ≡ Row.WORDS
      came_long = changed_long w s d.shows d.before p in_places new ys holding (process_long new new_sized)

      pub came : {m : ℕ}
          → ((ps : List Process) (q : Process) → Shows (get_or w 4 0) ps → is_free q ≡ false → m ≡ living_of (set ps p q))
          → set (replaced w (from p) (wide p) ys) 4 m ≡ work_of (comes n b s)
      came {m} l =
          changed w s d.shows d.before p in_places new ys holding m
          (l s.processes new (living_shown w s d.shows d.before) refl)
          ∙ ap (λ k. work_of (put k new s)) lowest_free
