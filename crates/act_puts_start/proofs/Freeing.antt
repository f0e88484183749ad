-- Slaves that were let go enter the event list one after the other. Assumes nothing.
use Prim.Native.Nat.{ℕ, suc, ◌+◌, ◌≤◌, ◌<◌}
use native.Mathlib.Omega.{arith}
use mathlib.Core.Path.{◌≡◌, refl, sym, subst, ◌∙◌, ap}
use mathlib.Core.List.{List, [], ◌∷◌}
use lib.ListN.{length, get_or, drop, drop_of_length-le}
use lib.Seq.{drop-cons, get_or-take}
use lib.IntN.{pos}
use Rattle.semantics.specs.State.{State, process, wake}
use Rattle.semantics.specs.Walk.{Line, Next, line}
use Rattle.semantics.specs.Step.{free_all}
use Rattle.promises.specs.Laws.{over, once, once_self}
use Rattle.promises.specs.Sound.{on_floor, Held}
use Rattle.promises.specs.Takes.{wakes_up}
use Rattle.base_numbers.specs.Row as Row
use Rattle.base_journal.specs.Wrote.{wrote_at}
use Rattle.base_journal.specs.Laws.{wrote_length}
use Rattle.row_work.specs.Work.{work_of, FloorSized, Sized, Doing, Done}
use Rattle.row_work.specs.Underway.{still_sized}
use Rattle.row_work.specs.Shown.{work_long}
use Rattle.row_process.specs.Process.{Lives}
use Rattle.row_process.specs.Alive.{hand_lives}
use Rattle.act_puts_start.specs.Freeing.{Freeing}

-- ONE. It wakes now, by the clock c that was read.
module _ {w : List ℕ} {r c : ℕ} where
  pub wakes_now : (d : Doing w (Lives r) (λ u. wake u.clock r u)) → c ≡ d.is.clock → Doing w (Lives r) (λ u. wake c r u)
  wakes_now d e =
      record {
        is = d.is;
        shows = d.shows;
        before = d.before;
        after = subst (λ k. Sized (wake k r d.is)) (sym e) d.after;
        given = d.given;
      }

  pub woken_now : {x : List ℕ} → Done w (Lives r) (λ u. wake c r u) x
      → ((d : Doing w (Lives r) (λ u. wake u.clock r u)) → c ≡ d.is.clock)
      → Done w (Lives r) (λ u. wake u.clock r u) x
  unfolding wakes_now
  woken_now f e d = f (wakes_now d (e d)) ∙ ap (λ k. work_of (wake k r d.is)) (e d)

-- ALL. Those from k on are left: freed in the state that w shows, they lead to the same state and the same bytes.
module _ {first places : List ℕ} {i n : ℕ} (v : Freeing first i places n) (at : ℕ) (out₀ : List ℕ) where
  abbrev goal : Next
  goal = free_all i v.gone v.run.is

  pub record LeftOf (k : ℕ) (w out : List ℕ) : Type 0 where
    pub is : State
    pub shows : w ≡ work_of is
    pub holds : Held v.run.model is is.blocked (λ j. over (once j) (drop k v.gone) + on_floor j is.floor) (λ j. 0)
    pub floor_ok : FloorSized is.floor
    pub same_state : (free_all i (drop k v.gone) is).state ≡ goal.state
    pub same_lines : wrote_at (at + k) (free_all i (drop k v.gone) is).lines out ≡ wrote_at at goal.lines out₀
    pub same_long : length out ≡ length out₀

  pub all_left : LeftOf 0 first out₀
  all_left =
      record {
        is = v.run.is;
        shows = v.run.shows;
        holds = v.holds;
        floor_ok = v.floor_ok;
        same_state = refl;
        same_lines = let z : at + 0 ≡ at = omega arith in ap (λ k. wrote_at k goal.lines out₀) z;
        same_long = refl;
      }

  pub left_long : {k : ℕ} {w out : List ℕ} → LeftOf k w out → length w ≡ Row.WORDS
  left_long l = ap length l.shows ∙ work_long l.is (still_sized v.run l.is l.holds l.floor_ok)

  module _ {k : ℕ} {w out : List ℕ} (h : k < n) (l : LeftOf k w out) where
    abbrev r : ℕ
    r = get_or places k 0

    abbrev rest : List ℕ
    rest = drop (k + 1) v.gone

    next : drop k v.gone ≡ r ∷ rest
    next =
        let z : suc k ≡ k + 1 = omega arith in
        drop-cons v.gone k 0 (omega (arith, v.many))
        ∙ ap (λ j. get_or v.gone k 0 ∷ drop j v.gone) z
        ∙ ap (λ x. x ∷ rest) (sym (ap (λ xs. get_or xs k 0) v.places_are) ∙ get_or-take n places k 0 h)

    abbrev s : State
    s = l.is

    holds : Held v.run.model s s.blocked (λ j. over (once j) (r ∷ rest) + on_floor j s.floor) (λ j. 0)
    holds =
        subst (λ xs. Held v.run.model s s.blocked (λ j. over (once j) xs + on_floor j s.floor) (λ j. 0)) next
        l.holds

    in_hand : 1 ≤ over (once r) (r ∷ rest) + on_floor r s.floor
    in_hand = let a = once_self r in omega arith

    awake : Held v.run.model (wake s.clock r s) s.blocked (λ j. over (once j) rest + on_floor j s.floor) (λ j. 0)
    awake =
        wakes_up v.run.model s holds s.clock r (omega arith) holds.clock_ok (λ j. omega arith)

    pub next_freed : Doing w (Lives r) (λ u. wake u.clock r u)
    unfolding wake
    next_freed =
        record {
          is = s;
          shows = l.shows;
          before = still_sized v.run s holds l.floor_ok;
          after = still_sized v.run (wake s.clock r s) awake l.floor_ok;
          given =
              hand_lives holds r in_hand;
        }

    pub less_left : {w' out' : List ℕ} → Done w (Lives r) (λ u. wake u.clock r u) w'
        → ((d : Doing w (Lives r) (λ u. wake u.clock r u))
        → out' ≡ wrote_at (at + k) (line d.is (process d.is r).number 8 (pos i) ∷ []) out)
        → LeftOf (k + 1) w' out'
    unfolding next_freed free_all wrote_at wake
    less_left {out' = out'} f g =
        let e = g next_freed in
        let ls : List Line = (free_all i rest (wake s.clock r s)).lines in
        let z : at + (k + 1) ≡ at + k + 1 = omega arith in
        record {
          is = wake s.clock r s;
          shows = f next_freed;
          holds = awake;
          floor_ok = l.floor_ok;
          same_state = sym (ap (λ xs. (free_all i xs s).state) next) ∙ l.same_state;
          same_lines =
              ap (λ j. wrote_at j ls out') z
              ∙ ap (wrote_at (at + k + 1) ls) e
              ∙ sym (ap (λ xs. wrote_at (at + k) (free_all i xs s).lines out) next)
              ∙ l.same_lines;
          same_long = ap length e ∙ wrote_length (line s (process s r).number 8 (pos i) ∷ []) (at + k) out ∙ l.same_long;
        }

  pub none_left : {k : ℕ} {w out : List ℕ} → n ≤ k → LeftOf k w out
      → (w ≡ work_of goal.state) × (out ≡ wrote_at at goal.lines out₀)
  unfolding free_all wrote_at
  none_left {k} {w} {out} h l =
      let e : drop k v.gone ≡ [] = drop_of_length-le v.gone {i = k} (omega (arith, v.many)) in (
        l.shows ∙ ap work_of (sym (ap (λ xs. (free_all i xs l.is).state) e) ∙ l.same_state),
        sym (ap (λ xs. wrote_at (at + k) (free_all i xs l.is).lines out) e) ∙ l.same_lines,
      )
