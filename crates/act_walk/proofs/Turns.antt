-- The walk, turn by turn: what is left to visit, behind the lines that are written, is the walk. Assumes nothing.
use Prim.Native.Nat.{ℕ, suc, ◌+◌, ◌-◌, ◌≤◌, ◌<◌}
use native.Mathlib.Omega.{arith}
use mathlib.Core.Path.{◌≡◌, refl, sym, subst, ◌∙◌, ap}
use mathlib.Core.List.{List, [], ◌∷◌, ◌++◌, append_assoc, append-nil}
use lib.ListN.{length, length-append}
use Rattle.semantics.specs.Model.{Model}
use Rattle.semantics.specs.State.{State}
use Rattle.semantics.specs.Claim.{Choice, waits, goes}
use Rattle.semantics.specs.Walk.{Next, Line, walk}
use Rattle.promises.specs.Sound.{Held}
use Rattle.base_ordered.specs.Order.{removed-length}
use Rattle.base_journal.specs.Wrote.{wrote_at}
use Rattle.base_journal.specs.Laws.{wrote_append, wrote_length}
use Rattle.row_work.specs.Work.{work_of, FloorSized}
use Rattle.row_work.specs.Underway.{in_state}
use Rattle.row_grant.specs.Standing.{place_at}
use Rattle.act_walk.specs.Walking.{Walking, Walked, Visiting, chooses, went, granted_line, Visited, visits}
use Rattle.act_walk.specs.Visits.{went_blocked, visit_waits, visit_goes, walk-visits}
use Rattle.act_floor.proofs.Reading.{is_long}
use Rattle.act_walk.proofs.Going.{is_sized, shown, woken_held, woken_floor}

-- Lines first.
abbrev behind : List Line → Next → Next
behind ls n = record { state = n.state; lines = ls ++ n.lines }

-- IN THE MIDDLE of the walk v, of which `wrote` lines are written: k were passed and are still blocked, `left` are left to
-- visit.
pub record Midway {bs row w₀ : List ℕ} (v : Walking bs row w₀) (at : ℕ) (out₀ w out : List ℕ) (left k wrote : ℕ) : Type 0 where
  pub is : State
  pub shows : w ≡ work_of is
  pub holds : Held v.run.model is is.blocked v.in_hand (λ j. 0)
  pub floor_ok : FloorSized is.floor
  pub left_are : k + left ≡ length is.blocked
  pub lines : List Line
  pub wrote_are : wrote ≡ length lines
  pub written : out ≡ wrote_at at lines out₀
  pub few : wrote + left ≤ 64
  pub rest : behind lines (visits v.run.model left k is) ≡ walk v.run.model v.run.is

module _ {bs row w₀ : List ℕ} (v : Walking bs row w₀) (at : ℕ) (out₀ : List ℕ) where
  abbrev m : Model
  m = v.run.model

  pub at_start : (left : ℕ) → left ≡ length v.run.is.blocked → left ≤ 64 → Midway v at out₀ w₀ out₀ left 0 0
  unfolding wrote_at
  at_start left e l =
      record {
        is = v.run.is;
        shows = v.run.shows;
        holds = v.holds;
        floor_ok = v.floor_ok;
        left_are = omega arith;
        lines = [];
        wrote_are = refl;
        written = refl;
        few = omega arith;
        rest = ap (λ n. visits m n 0 v.run.is) e ∙ walk-visits m v.run.is;
      }

  module _ {w out : List ℕ} {left k wrote : ℕ} (d : Midway v at out₀ w out left k wrote) where
    abbrev walking : Walking bs row w
    walking =
        record {
          run = in_state v.run d.is d.shows;
          mapped = v.mapped;
          in_hand = v.in_hand;
          holds = d.holds;
          floor_ok = d.floor_ok;
        }

    pub same_work : length w ≡ length w₀
    same_work = is_long (shown walking {P = λ s. Unit {0}} tt) ∙ sym (is_long (shown v {P = λ s. Unit {0}} tt))

    pub same_journal : length out ≡ length out₀
    same_journal = ap length d.written ∙ wrote_length d.lines at out₀

    pub passed_few : k + left ≤ 64
    passed_few = omega (arith, d.left_are, (is_sized walking).blocked_ok.few)

    -- THE NEXT is visited,
    module _ (some_left : 0 < left) where
      pub visiting : Visiting bs row w k
      visiting = record { walking = walking; there = omega (arith, d.left_are) }

      one_of : visits m left k d.is ≡ visits m (suc (left - 1)) k d.is
      one_of = ap (λ n. visits m n k d.is) (omega arith)

      -- and so the walk goes on.
      pub turned : {w' out' : List ℕ} (r : ℕ)
          → ((u : Visiting bs row w k)
          → Visited u.walking.run.is k (chooses u.walking.run.model u.walking.run.is k) r w w' (at + wrote)
          out out')
          → Midway v at out₀ w' out' (left - 1) (k + (1 - r)) (wrote + r)
      unfolding visiting
      turned {w'} {out'} r told = by (chooses m d.is k) refl (told visiting)
        where
          by : (c : Choice) → chooses m d.is k ≡ c → Visited d.is k c r w w' (at + wrote) out out'
              → Midway v at out₀ w' out' (left - 1) (k + (1 - r)) (wrote + r)
          by (waits y) e h =
              record {
                is = d.is;
                shows = h.1.0 ∙ d.shows;
                holds = d.holds;
                floor_ok = d.floor_ok;
                left_are = omega (arith, d.left_are, h.0);
                lines = d.lines;
                wrote_are = omega (arith, d.wrote_are, h.0);
                written = h.1.1 ∙ d.written;
                few = omega (arith, d.few, h.0);
                rest =
                    ap (λ j. behind d.lines (visits m (left - 1) j d.is)) (omega (arith, h.0))
                    ∙ ap (behind d.lines) (sym (one_of ∙ visit_waits m (left - 1) k d.is y e))
                    ∙ d.rest;
              }
          by (goes i o) e h =
              let l : Line = granted_line d.is k i in
              let p : ℕ = place_at d.is.blocked k in
              let there : k < length d.is.blocked = omega (arith, d.left_are) in
              let n = ap length (went_blocked m k o d.is) in
              let onward : Next = visits m (left - 1) k (went k o d.is) in
              record {
                is = went k o d.is;
                shows = h.1.0;
                holds = woken_held visiting p refl i o e;
                floor_ok = woken_floor visiting p refl i o e;
                left_are = omega (arith, d.left_are, h.0, n, removed-length k d.is.blocked there);
                lines = d.lines ++ l ∷ [];
                wrote_are = omega (arith, d.wrote_are, h.0, length-append d.lines (l ∷ []));
                written =
                    h.1.1
                    ∙ ap (wrote_at (at + wrote) (l ∷ [])) d.written
                    ∙ ap (λ j. wrote_at (at + j) (l ∷ []) (wrote_at at d.lines out₀)) d.wrote_are
                    ∙ sym (wrote_append d.lines (l ∷ []) at out₀);
                few = omega (arith, d.few, h.0);
                rest =
                    ap (λ j. behind (d.lines ++ l ∷ []) (visits m (left - 1) j (went k o d.is)))
                    (omega (arith, h.0))
                    ∙ ap (λ ls. record { state = onward.state; lines = ls }) (append_assoc d.lines (l ∷ []) onward.lines)
                    ∙ ap (behind d.lines) (sym (one_of ∙ visit_goes m (left - 1) k d.is i o e))
                    ∙ d.rest;
              }

    -- NOBODY is left.
    pub walked : left ≤ 0 → Walked (walk m v.run.is) wrote w at out₀ out
    unfolding visits
    walked none_left =
        let e : 0 ≡ left = omega arith in
        subst (λ (n : Next). Walked n wrote w at out₀ out)
        (ap (λ ls. record { state = d.is; lines = ls }) (sym (append-nil d.lines))
        ∙ ap (λ n. behind d.lines (visits m n k d.is)) e
        ∙ d.rest)
        (d.wrote_are, (d.shows, d.written))
