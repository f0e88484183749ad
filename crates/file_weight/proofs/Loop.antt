-- The loop of `block_weight` over the actions of a block, and that of `action_weight` over the blocks that an action goes to.
-- Assumes nothing.
use Prim.Native.Nat.{ℕ, ◌+◌, ◌*◌, ◌-◌, ◌≤◌, ◌<◌}
use mathlib.Core.Path.{◌≡◌, sym}
use mathlib.Core.List.{List, map}
use native.Mathlib.Omega.{arith}
use lib.ListN.{get_or, set}
use Rattle.semantics.specs.Words.{collect, sum}
use Rattle.base_numbers.specs.Limit as Limit
use Rattle.file_depth.specs.Deep.{Graph, Known, measured_all}
use Rattle.file_depth.proofs.Laws.{measured_step}
use Rattle.file_depth.proofs.Loop.{Turn, ended}
use Rattle.file_weight.specs.Weigh.{Acts, run, actions, action_weight_of, cap, told, names_of, weighed, action_weighed}
use Rattle.file_weight.specs.Weigh.{acts_in, Stands}
use Rattle.file_weight.specs.declared.Actions.{Actions}
use Rattle.file_weight.specs.Named.{acts}
use Rattle.file_weight.proofs.Laws.{measured_append, run-cons, run_none, Ahead, weight_step, names_later, action_later}
use Rattle.file_weight.proofs.Laws.{told_small, told_action}

-- At action a of block b, w is what the actions before it weigh, under the cap; and the memo, which was `old`, is right and is
-- what weighing them makes of it.
pub record Sum (s : Acts) (n b end : ℕ) (old memo : List ℕ) (w a : ℕ) : Type 0 where
  pub known : Known (told s n) n memo
  pub noted : measured_all (weighed s n) (collect s.goes (run (end - a) a)) memo ≡ measured_all (weighed s n) (names_of s b) old
  pub low : s.first b ≤ a
  pub high : a ≤ end
  pub last : end ≡ s.first (b + 1)
  pub small : w ≤ Limit.OVER
  pub found : cap (w + sum (map (action_weight_of s n) (run (end - a) a))) ≡ cap (sum (map (action_weight_of s n) (actions s b)))

module _ {s : Acts} {n b end : ℕ} {old : List ℕ} where
  pub sum_begun : {a : ℕ} → Known (told s n) n old → a ≡ s.first b → end ≡ s.first (b + 1) → s.first b ≤ s.first (b + 1) →
      Sum s n b end old old 0 a
  sum_begun k p q h = record {
    known = k;
    noted = rw (p, q);
    low = omega arith;
    high = omega arith;
    last = q;
    small = omega arith;
    found = rw (p, q) (omega arith);
  }

  module _ {memo : List ℕ} {w a : ℕ} (t : Sum s n b end old memo w a) where
    pub sum_turned : {after : List ℕ} {v : ℕ} → a < end → Known (told s n) n after → after ≡ action_weighed s n a memo →
        v ≡ cap (action_weight_of s n a) → Sum s n b end old after (cap (w + v)) (a + 1)
    sum_turned h k m e =
        let cut = run-cons a end h in
        let parted : cap (w + (action_weight_of s n a + sum (map (action_weight_of s n) (run (end - (a + 1)) (a + 1)))))
        ≡ cap (sum (map (action_weight_of s n) (actions s b))) = rw cut at t.found in
        record {
          known = k;
          noted = rw (m, ← measured_append (weighed s n) (s.goes a)) (rw cut at t.noted);
          low = omega (arith, t.low);
          high = omega arith;
          last = t.last;
          small = omega arith;
          found = rw e (omega (arith, parted));
        }

    module _ (ahead : Ahead s n) (l : b < n) (h : end ≤ a) where
      pub sum_ended : w + 1 ≡ told s n b
      sum_ended =
          let all : cap (w + 0) ≡ cap (sum (map (action_weight_of s n) (actions s b))) = rw (run_none a end h) at t.found in
          rw (weight_step s n ahead b l) (omega (arith, all, t.small))

      pub sum_noted : get_or old b 0 ≡ 0 → set memo b (w + 1) ≡ weighed s n b old
      sum_noted z =
          let all : memo ≡ measured_all (weighed s n) (names_of s b) old = rw (run_none a end h) at t.noted in
          rw (sum_ended, all) (sym (measured_step (names_of s) n (names_later s n ahead) (told s n) b l old z))

-- The loop of `action_weight`, over what action a goes to.
abbrev pub ActionTurn : Acts → List ℕ → List ℕ → ℕ → ℕ → ℕ → List ℕ → List ℕ → ℕ → ℕ → Type 0
ActionTurn s from goes n a = Turn (weighed s n) (told s n) n goes (get_or from a 0) (get_or from (a + 1) 0)

-- In the loops of methods: the actions are still those, s.
pub record Summed (s : Actions) (b end : ℕ) (old : List ℕ) (t : Actions) (memo : List ℕ) (w a : ℕ) : Type 0 where
  pub same : t ≡ s
  pub sum : Sum (acts s) s.blocks.count b end old memo w a

pub record Went (s : Actions) (a end : ℕ) (old : List ℕ) (t : Actions) (memo : List ℕ) (top k : ℕ) : Type 0 where
  pub same : t ≡ s
  pub turn : ActionTurn (acts s) s.blocks.from.now s.blocks.goes.now s.blocks.count a end old memo top k

module _ {first from goes : List ℕ} {n b a : ℕ} (g : Graph first from goes n) (s : Stands first n b a) where
  pub numbered : a < get_or first n 0
  numbered = omega (arith, s.high, g.laid.ends b s.block)

  pub goes_rise : get_or from a 0 ≤ get_or from (a + 1) 0
  goes_rise = g.laid.climbs a numbered

  pub goes_stop : get_or from (a + 1) 0 ≤ Limit.BRANCHES
  goes_stop = g.laid.stops (a + 1) (omega (arith, numbered))

  module _ (own times : List ℕ) {end : ℕ} {old memo : List ℕ} {top k : ℕ}
      (w : ActionTurn (acts_in first from goes own times) from goes n a end old memo top k) where
    pub action_next : k < end → (b < get_or goes k 0) × (get_or goes k 0 < n)
    action_next h = action_later first from goes n g s k w.low (omega (arith, w.last))

    module _ (h : end ≤ k) where
      pub top_small : top ≤ Limit.OVER + 1
      top_small = told_small (acts_in first from goes own times) n a top (ended w h)

      pub action_ended : cap (get_or own a 0 + get_or times a 0 * top)
          ≡ cap (action_weight_of (acts_in first from goes own times) n a)
      action_ended = told_action (acts_in first from goes own times) n a top (ended w h)
