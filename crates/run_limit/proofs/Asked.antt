-- What the head of the work tells of the state before a step. Assumes nothing.
use Rattle.std.specs.Prelude.{if◌then◌else◌}
use Prim.Native.Nat.{ℕ, suc, ◌+◌, ◌≤◌}
use native.Mathlib.Omega.{arith}
use mathlib.Core.Path.{◌≡◌, refl, sym, ◌∙◌, ap}
use mathlib.Core.List.{List, [], ◌∷◌}
use mathlib.Core.Bool.{Bool, true, false, not, ◌&&◌}
use lib.Dec.{eqb}
use borrow.Author.Tests.{ne_eqb}
use lib.ListN.{length, get_or}
use Rattle.semantics.specs.Words.{is_empty}
use Rattle.semantics.specs.State.{State, Event, Floor, empty, held_by}
use Rattle.semantics.specs.Run.{CLOSED, IDLE, LIMIT, Before, is_closed, is_idle, goes_on, nobody_has, before}
use Rattle.row_work.specs.Work.{closed_word, floor_word, work_of}
use Rattle.run_limit.specs.Halts.{Showing, may_go, halted_by}

module _ {w : List ℕ} (v : Showing w) where
  abbrev s : State
  s = v.is

  pub head_there : 8 ≤ length w
  unfolding work_of
  head_there = let a = ap length v.shows in omega (arith, a)

  closed_word_lem : get_or w 1 0 ≡ closed_word s.closed
  unfolding work_of
  closed_word_lem = ap (λ l. get_or l 1 0) v.shows

  floor_word_lem : get_or w 3 0 ≡ floor_word s.floor
  unfolding work_of
  floor_word_lem = ap (λ l. get_or l 3 0) v.shows

  events_word : get_or w 5 0 ≡ length s.events
  unfolding work_of
  events_word = ap (λ l. get_or l 5 0) v.shows

  idle_test : eqb (get_or w 3 0) 0 && eqb (get_or w 5 0) 0 ≡ nobody_has s.floor && is_empty s.events
  idle_test = rw (floor_word_lem, events_word) (by s.floor s.events)
    where
      by : (f : Floor) (es : List Event) → eqb (floor_word f) 0 && eqb (length es) 0 ≡ nobody_has f && is_empty es
      by empty [] = refl
      by empty (e ∷ es) = ne_eqb (suc (length es)) 0 (λ e. omega arith)
      by (held_by p) es = rw (ne_eqb (p + 1) 0 (λ e. omega arith))

  abbrev asked : Bool → Bool → Before
  asked c i = if c then is_closed else if i then is_idle else goes_on

  pub may_go_lem : eqb (get_or w 1 0) 0 && not (eqb (get_or w 3 0) 0 && eqb (get_or w 5 0) 0) ≡ may_go (before s)
  may_go_lem = rw (idle_test, closed_word_lem) (by s.closed (nobody_has s.floor && is_empty s.events))
    where
      by : (c i : Bool) → eqb (closed_word c) 0 && not i ≡ may_go (asked c i)
      by true i = refl
      by false true = refl
      by false false = refl

  -- Why it halts.
  pub by_closed : (get_or w 1 0 ≡ 0 → ⊥) → CLOSED ≡ halted_by (before s)
  by_closed h = by s.closed (λ e. h (closed_word_lem ∙ e))
    where
      by : (c : Bool) → (closed_word c ≡ 0 → ⊥) → CLOSED ≡ halted_by (asked c (nobody_has s.floor && is_empty s.events))
      by true f = refl
      by false f = absurd (f refl)

  pub by_idle : (i : Bool) → get_or w 1 0 ≡ 0 → eqb (get_or w 3 0) 0 && eqb (get_or w 5 0) 0 ≡ i
      → (if i then IDLE else LIMIT) ≡ halted_by (before s)
  by_idle i h e = by s.closed (nobody_has s.floor && is_empty s.events) i (sym closed_word_lem ∙ h) (sym idle_test ∙ e)
    where
      by : (c j i : Bool) → closed_word c ≡ 0 → j ≡ i → (if i then IDLE else LIMIT) ≡ halted_by (asked c j)
      by true j i f g = absurd (omega arith)
      by false true true f g = refl
      by false true false f g = cc
      by false false true f g = cc
      by false false false f g = refl
