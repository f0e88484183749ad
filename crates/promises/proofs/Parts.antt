-- The parts of a state that a step changes: values stay in their range, blocks stay chained, a process stays in order, and
-- amounts and slaves add up.
-- Assumes nothing.
use Prim.Native.Nat.{ℕ, ◌≤◌, ◌<◌}
use native.Mathlib.Omega.{arith}
use Rattle.std.specs.Prelude.{length, get_or, ℤ, neg_ℤ, ◌+ℤ◌, ◌-ℤ◌, ◌*ℤ◌}
use Rattle.std.proofs.Common.{◌∙◌, ltb-true, length-set}
use mathlib.Core.List.{List}
use Rattle.std.proofs.Math.IntN.{pos}
use Rattle.std.specs.Int.Signed.{mag, le_z}
use Rattle.semantics.specs.Words.{Outcome}
use Rattle.semantics.specs.Numbers as No
use Rattle.semantics.specs.Numbers.{lowest}
use Rattle.semantics.specs.Model.{Expr, literal, global, local, add, subtract, multiply, lesser, greater, negate, the_clock, draw}
use Rattle.semantics.specs.Model.{Model}
use Rattle.semantics.specs.State.{State, Process}
use Rattle.semantics.specs.Value.{is_i32, in_range, Drawing, plain, of_one, of_two, draw_from, eval}
use Rattle.promises.specs.Laws.{if_has, Good, good, good_then, good_need}
use Rattle.promises.specs.Laws.{AllOf, all_set, all_get, all_in}
use Rattle.promises.specs.Fit.{I32, ExprFit, SamplerFit, Fit}
use Rattle.promises.specs.Sound.{Seed, SeedsOk}
use Rattle.promises.specs.Draws.{seed_stays}
use Rattle.promises.proofs.Draws.{draw_ranged}
use Rattle.promises.specs.Parts.{ValuedOk}

module _
    (m : Model) (t : Fit m) (s : State) (q : Process) (g : AllOf I32 s.globals) (l : AllOf I32 q.locals)
    (c : s.clock ≤ No.latest) where
  in_range_lem : (v : ℤ) → Good I32 (in_range v)
  in_range_lem v = good_need No.SUM (is_i32 v) λ h. good (ltb-true (mag v) 2_147_483_648 h)

  -- What is worked out from such seeds.
  abbrev Draws : Drawing → Type 0
  Draws a = (d : List ℕ) → SeedsOk m d → Good (ValuedOk m) (a d)

  of_none : {v : ℤ} → I32 v → Draws (plain v)
  of_none h d o = good (record { value_ok = h; seeds_ok = o })

  of_one_lem : {f : ℤ → Outcome ℤ} {a : Drawing} → ((x : ℤ) → Good I32 (f x)) → Draws a → Draws (of_one f a)
  of_one_lem {f} {a} k i d o =
      good_then (ValuedOk m) (ValuedOk m) (a d) (i d o) λ x u.
      good_then I32 (ValuedOk m) (f x.value) (k x.value) λ v h. of_none h x.seeds u.seeds_ok

  of_two_lem : {f : ℤ → ℤ → Outcome ℤ} {a b : Drawing} → ((x y : ℤ) → I32 x → I32 y → Good I32 (f x y)) → Draws a → Draws b
      → Draws (of_two f a b)
  of_two_lem {f} {a} {b} k i j d o =
      good_then (ValuedOk m) (ValuedOk m) (a d) (i d o) λ x u.
      good_then (ValuedOk m) (ValuedOk m) (b x.seeds) (j x.seeds u.seeds_ok) λ y w.
      good_then I32 (ValuedOk m) (f x.value y.value) (k x.value y.value u.value_ok w.value_ok) λ v h.
      of_none h y.seeds w.seeds_ok

  of_draw : (i : ℕ) → i < length m.samplers → Draws (draw_from m i)
  of_draw i k d o =
      let n = o.many in
      let f = all_in SamplerFit m.samplers i _ t.samplers_fit k in
      let e = seed_stays (get_or d i 0) (all_in Seed d i 0 o.each (omega arith)) in
      good
      (record {
        value_ok = draw_ranged _ _ _ f.lowest_fits f.highest_fits f.not_above;
        seeds_ok = record { many = length-set d i _ ∙ n; each = all_set Seed d i _ o.each e };
      })

  pub eval_good : (e : Expr) → ExprFit m e → Draws (eval m s q e)
  unfolding eval
  eval_good (literal v) h = of_none h
  eval_good (global i) h = of_none (all_get I32 s.globals i (pos 0) g (omega arith))
  eval_good (local i) h = of_none (all_get I32 q.locals i (pos 0) l (omega arith))
  eval_good (add a b) h = of_two_lem (λ x y i j. in_range_lem (x +ℤ y)) (eval_good a h.0) (eval_good b h.1)
  eval_good (subtract a b) h = of_two_lem (λ x y i j. in_range_lem (x -ℤ y)) (eval_good a h.0) (eval_good b h.1)
  eval_good (multiply a b) h = of_two_lem (λ x y i j. in_range_lem (x *ℤ y)) (eval_good a h.0) (eval_good b h.1)
  eval_good (lesser a b) h =
      of_two_lem (λ x y i j. good (if_has I32 (le_z x y) (λ e. i) (λ e. j))) (eval_good a h.0) (eval_good b h.1)
  eval_good (greater a b) h =
      of_two_lem (λ x y i j. good (if_has I32 (le_z x y) (λ e. j) (λ e. i))) (eval_good a h.0) (eval_good b h.1)
  eval_good (negate a) h = of_one_lem (λ x. in_range_lem (neg_ℤ x)) (eval_good a h)
  eval_good the_clock h = of_none {v = pos s.clock} (omega arith)
  eval_good (draw i) h = of_draw i h
