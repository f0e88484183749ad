-- The value of an expression (document 01, "The model file", and fault 21), and the seeds after its draws (document 02, One).
-- Assumes nothing.
use Rattle.std.specs.Prelude.{ℕ, List, Bool, ltb, get_or, set, ℤ, pos, neg_ℤ, ◌+ℤ◌, ◌-ℤ◌, ◌*ℤ◌, if◌then◌else◌}
use Rattle.std.specs.Int.Signed.{le_z, mag}
use Rattle.semantics.specs.Words.{Outcome, ok, ◌>>=◌, ◌>>◌, need}
use Rattle.semantics.specs.Numbers as No
use Rattle.semantics.specs.Model.{Expr, literal, global, local, add, subtract, multiply, lesser, greater, negate, draw}
use Rattle.semantics.specs.Model.{the_clock, Model, Sampler, sampler}
use Rattle.semantics.specs.State.{State, Process}
use Rattle.semantics.specs.Generator.{next_seed, drawn}

-- The i32 range, -2,147,483,648 to 2,147,483,647: `mag` is n of a number n, and n - 1 of -n.
abbrev pub is_i32 : ℤ → Bool
is_i32 v = ltb (mag v) 2_147_483_648

-- A node's value, or 21 where it leaves the range.
abbrev pub in_range : ℤ → Outcome ℤ
in_range v = need No.SUM (is_i32 v) >> ok v

-- A value, and the seeds as the draws so far leave them.
pub record Valued : Type 0 where
  pub value : ℤ
  pub seeds : List ℕ

-- What is worked out from the seeds as they are handed in.
abbrev pub Drawing : Type 0
Drawing = List ℕ → Outcome Valued

-- It draws nothing, and has the value v.
abbrev pub plain : ℤ → Drawing
plain v d = ok (record { value = v; seeds = d })

-- f of the values of its operands, which are worked out in their order, each from the seeds that the one before leaves.
abbrev pub of_one : (ℤ → Outcome ℤ) → Drawing → Drawing
of_one f a d = a d >>= λ x. f x.value >>= λ v. plain v x.seeds

abbrev pub of_two : (ℤ → ℤ → Outcome ℤ) → Drawing → Drawing → Drawing
of_two f a b d = a d >>= λ x. b x.seeds >>= λ y. f x.value y.value >>= λ v. plain v y.seeds

-- A draw from sampler i moves its seed on, and answers by the new one.
abbrev pub draw_from : Model → ℕ → Drawing
draw_from m i d =
    let x : Sampler = sampler m i in
    let n : ℕ = next_seed (get_or d i 0) in
    ok (record { value = drawn x.lowest x.highest n; seeds = set d i n })

unfoldable pub eval : Model → State → Process → Expr → Drawing
unfolding next_seed drawn
eval m s q (literal v) = plain v
eval m s q (global i) = plain (get_or s.globals i (pos 0))
eval m s q (local i) = plain (get_or q.locals i (pos 0))
eval m s q (add a b) = of_two (λ x y. in_range (x +ℤ y)) (eval m s q a) (eval m s q b)
eval m s q (subtract a b) = of_two (λ x y. in_range (x -ℤ y)) (eval m s q a) (eval m s q b)
eval m s q (multiply a b) = of_two (λ x y. in_range (x *ℤ y)) (eval m s q a) (eval m s q b)
eval m s q (lesser a b) = of_two (λ x y. ok (if le_z x y then x else y)) (eval m s q a) (eval m s q b)
eval m s q (greater a b) = of_two (λ x y. ok (if le_z x y then y else x)) (eval m s q a) (eval m s q b)
eval m s q (negate a) = of_one (λ x. in_range (neg_ℤ x)) (eval m s q a)
eval m s q the_clock = plain (pos s.clock)
eval m s q (draw i) = draw_from m i
