-- The value of an expression and the seeds that its draws leave, each by itself, by what they are read from: the samplers of the
-- model, variables, locals, clock and seeds.
-- Assumes nothing.
use Rattle.std.specs.Prelude.{ℕ, ◌≤◌, ◌≡◌, List, get_or, set, ℤ, pos, neg_ℤ, ◌+ℤ◌, ◌-ℤ◌, ◌*ℤ◌, if◌then◌else◌}
use native.Mathlib.Omega.{arith}
use Rattle.std.proofs.Math.Path.{refl}
use Rattle.std.proofs.Common.{◌∙◌, ap}
use Rattle.std.proofs.Math.ListN.{length-set}
use Rattle.std.specs.Int.Signed.{le_z}
use Rattle.semantics.specs.Words.{Outcome, ok, fails, ◌>>=◌}
use Rattle.semantics.specs.Numbers as No
use Rattle.semantics.specs.Model.{Model, Expr, literal, global, local, add, subtract, multiply, lesser, greater, negate, draw}
use Rattle.semantics.specs.Model.{the_clock, sampler}
use Rattle.semantics.specs.State.{State, Process}
use Rattle.semantics.specs.Generator.{next_seed, drawn}
use Rattle.semantics.specs.Value.{in_range, Valued, Drawing, plain, of_one, of_two, eval}
use Rattle.promises.specs.Laws.{if_has, AllOf, all_set, all_get, all_in}
use Rattle.promises.specs.Fit.{I32, ExprFit, SamplerFit}
use Rattle.promises.specs.Sound.{Seed, SeedsOk}
use Rattle.promises.specs.Draws.{seed_stays}
use Rattle.promises.proofs.Draws.{draw_ranged}
use Rattle.base_i32.specs.Code.{Ranged}
use Rattle.base_i32.specs.Laws.{in_range_lem}

-- The seeds after all draws of an expression, in the order of its nodes, whatever comes of the value.
unfoldable pub draws_of : Expr → List ℕ → List ℕ
draws_of (literal v) d = d
draws_of (global i) d = d
draws_of (local i) d = d
draws_of (add a b) d = draws_of b (draws_of a d)
draws_of (subtract a b) d = draws_of b (draws_of a d)
draws_of (multiply a b) d = draws_of b (draws_of a d)
draws_of (lesser a b) d = draws_of b (draws_of a d)
draws_of (greater a b) d = draws_of b (draws_of a d)
draws_of (negate a) d = draws_of a d
draws_of the_clock d = d
draws_of (draw i) d = set d i (next_seed (get_or d i 0))

-- The value alone, or 21.
module _ (m : Model) (gs ls : List ℤ) (t : ℕ) where
  abbrev both : (ℤ → ℤ → Outcome ℤ) → Outcome ℤ → Outcome ℤ → Outcome ℤ
  both f a b = a >>= λ x. b >>= λ y. f x y

  unfoldable pub eval_in : Expr → List ℕ → Outcome ℤ
  eval_in (literal v) d = ok v
  eval_in (global i) d = ok (get_or gs i (pos 0))
  eval_in (local i) d = ok (get_or ls i (pos 0))
  eval_in (add a b) d = both (λ x y. in_range (x +ℤ y)) (eval_in a d) (eval_in b (draws_of a d))
  eval_in (subtract a b) d = both (λ x y. in_range (x -ℤ y)) (eval_in a d) (eval_in b (draws_of a d))
  eval_in (multiply a b) d = both (λ x y. in_range (x *ℤ y)) (eval_in a d) (eval_in b (draws_of a d))
  eval_in (lesser a b) d = both (λ x y. ok (if le_z x y then x else y)) (eval_in a d) (eval_in b (draws_of a d))
  eval_in (greater a b) d = both (λ x y. ok (if le_z x y then y else x)) (eval_in a d) (eval_in b (draws_of a d))
  eval_in (negate a) d = eval_in a d >>= λ x. in_range (neg_ℤ x)
  eval_in the_clock d = ok (pos t)
  eval_in (draw i) d = ok (drawn (sampler m i).lowest (sampler m i).highest (next_seed (get_or d i 0)))

-- BOTH TOGETHER are what an expression is worked out to, in every state and for every process that have these parts.
abbrev pub leaving : Outcome ℤ → List ℕ → Outcome Valued
leaving o d = o >>= λ v. plain v d

abbrev pub the_value : Outcome Valued → Outcome ℤ
the_value o = o >>= λ v. ok v.value

pub value_left : (o : Outcome ℤ) (d : List ℕ) → the_value (leaving o d) ≡ o
unfolding ◌>>=◌
value_left (ok v) d = refl
value_left (fails n) d = refl

two_leave : (f : ℤ → ℤ → Outcome ℤ) (a b : Drawing) (d : List ℕ) (o p : Outcome ℤ) (x y : List ℕ) → a d ≡ leaving o x
    → b x ≡ leaving p y → of_two f a b d ≡ leaving (o >>= λ v. p >>= λ w. f v w) y
unfolding ◌>>=◌
two_leave f a b d o p x y e g =
    ap (λ (r : Outcome Valued). r >>= λ u. b u.seeds >>= λ v. f u.value v.value >>= λ w. plain w v.seeds) e ∙ go o
  where
    second : (v : ℤ) (p : Outcome ℤ)
        → (leaving p y >>= λ u. f v u.value >>= λ w. plain w u.seeds) ≡ leaving (p >>= λ w. f v w) y
    second v (ok w) = refl
    second v (fails n) = refl

    go : (o : Outcome ℤ)
        → (leaving o x >>= λ u. b u.seeds >>= λ v. f u.value v.value >>= λ w. plain w v.seeds)
        ≡ leaving (o >>= λ v. p >>= λ w. f v w) y
    go (ok v) = ap (λ (r : Outcome Valued). r >>= λ u. f v u.value >>= λ w. plain w u.seeds) g ∙ second v p
    go (fails n) = refl

one_leaves : (f : ℤ → Outcome ℤ) (a : Drawing) (d : List ℕ) (o : Outcome ℤ) (x : List ℕ) → a d ≡ leaving o x
    → of_one f a d ≡ leaving (o >>= f) x
unfolding ◌>>=◌
one_leaves f a d o x e =
    ap (λ (r : Outcome Valued). r >>= λ u. f u.value >>= λ w. plain w u.seeds) e ∙ go o
  where
    go : (o : Outcome ℤ) → (leaving o x >>= λ u. f u.value >>= λ w. plain w u.seeds) ≡ leaving (o >>= f) x
    go (ok v) = refl
    go (fails n) = refl

module _ (m : Model) (s : State) (q : Process) where
  abbrev alone : Expr → List ℕ → Outcome ℤ
  alone e d = eval_in m s.globals q.locals s.clock e d

  two : (f : ℤ → ℤ → Outcome ℤ) (a b : Expr) (d : List ℕ) → eval m s q a d ≡ leaving (alone a d) (draws_of a d)
      → eval m s q b (draws_of a d) ≡ leaving (alone b (draws_of a d)) (draws_of b (draws_of a d))
      → of_two f (eval m s q a) (eval m s q b) d
      ≡ leaving (alone a d >>= λ x. alone b (draws_of a d) >>= λ y. f x y) (draws_of b (draws_of a d))
  two f a b d i j = two_leave f (eval m s q a) (eval m s q b) d (alone a d) (alone b (draws_of a d)) (draws_of a d) _ i j

  pub eval_parts : (e : Expr) (d : List ℕ) → eval m s q e d ≡ leaving (alone e d) (draws_of e d)
  unfolding eval_in draws_of eval ◌>>=◌
  eval_parts (literal v) d = refl
  eval_parts (global i) d = refl
  eval_parts (local i) d = refl
  eval_parts (add a b) d = two (λ x y. in_range (x +ℤ y)) a b d (eval_parts a d) (eval_parts b (draws_of a d))
  eval_parts (subtract a b) d = two (λ x y. in_range (x -ℤ y)) a b d (eval_parts a d) (eval_parts b (draws_of a d))
  eval_parts (multiply a b) d = two (λ x y. in_range (x *ℤ y)) a b d (eval_parts a d) (eval_parts b (draws_of a d))
  eval_parts (lesser a b) d =
      two (λ x y. ok (if le_z x y then x else y)) a b d (eval_parts a d) (eval_parts b (draws_of a d))
  eval_parts (greater a b) d =
      two (λ x y. ok (if le_z x y then y else x)) a b d (eval_parts a d) (eval_parts b (draws_of a d))
  eval_parts (negate a) d = one_leaves (λ x. in_range (neg_ℤ x)) (eval m s q a) d (alone a d) (draws_of a d) (eval_parts a d)
  eval_parts the_clock d = refl
  eval_parts (draw i) d = refl

-- The value is in the i32 range, or the fault is 21.
two_ranged : (f : ℤ → ℤ → Outcome ℤ) (a b : Outcome ℤ) → ((x y : ℤ) → I32 x → I32 y → Ranged (f x y)) → Ranged a → Ranged b →
    Ranged (a >>= λ x. b >>= λ y. f x y)
unfolding ◌>>=◌
two_ranged f (ok x) (ok y) g h k = g x y h k
two_ranged f (ok x) (fails n) g h k = k
two_ranged f (fails n) b g h k = h

one_ranged : (f : ℤ → Outcome ℤ) (a : Outcome ℤ) → ((x : ℤ) → Ranged (f x)) → Ranged a → Ranged (a >>= f)
unfolding ◌>>=◌
one_ranged f (ok x) g h = g x
one_ranged f (fails n) g h = h

module _ (m : Model) (x : AllOf SamplerFit m.samplers) (gs ls : List ℤ) (t : ℕ) (g : AllOf I32 gs) (l : AllOf I32 ls)
    (c : t ≤ No.latest) where
  pub eval_in_ranged : (e : Expr) → ExprFit m e → (d : List ℕ) → Ranged (eval_in m gs ls t e d)
  unfolding eval_in
  eval_in_ranged (literal v) h d = h
  eval_in_ranged (global i) h d = all_get I32 gs i (pos 0) g (omega arith)
  eval_in_ranged (local i) h d = all_get I32 ls i (pos 0) l (omega arith)
  eval_in_ranged (add a b) h d =
      two_ranged (λ x y. in_range (x +ℤ y)) _ _ (λ x y i j. in_range_lem (x +ℤ y)) (eval_in_ranged a h.0 d)
      (eval_in_ranged b h.1 (draws_of a d))
  eval_in_ranged (subtract a b) h d =
      two_ranged (λ x y. in_range (x -ℤ y)) _ _ (λ x y i j. in_range_lem (x -ℤ y)) (eval_in_ranged a h.0 d)
      (eval_in_ranged b h.1 (draws_of a d))
  eval_in_ranged (multiply a b) h d =
      two_ranged (λ x y. in_range (x *ℤ y)) _ _ (λ x y i j. in_range_lem (x *ℤ y)) (eval_in_ranged a h.0 d)
      (eval_in_ranged b h.1 (draws_of a d))
  eval_in_ranged (lesser a b) h d =
      two_ranged (λ x y. ok (if le_z x y then x else y)) _ _ (λ x y i j. if_has I32 (le_z x y) (λ e. i) (λ e. j))
      (eval_in_ranged a h.0 d) (eval_in_ranged b h.1 (draws_of a d))
  eval_in_ranged (greater a b) h d =
      two_ranged (λ x y. ok (if le_z x y then y else x)) _ _ (λ x y i j. if_has I32 (le_z x y) (λ e. j) (λ e. i))
      (eval_in_ranged a h.0 d) (eval_in_ranged b h.1 (draws_of a d))
  eval_in_ranged (negate a) h d = one_ranged (λ x. in_range (neg_ℤ x)) _ (λ x. in_range_lem (neg_ℤ x)) (eval_in_ranged a h d)
  eval_in_ranged the_clock h d = omega arith
  eval_in_ranged (draw i) h d =
      let f = all_in SamplerFit m.samplers i _ x h in
      draw_ranged _ _ _ f.lowest_fits f.highest_fits f.not_above

-- The seeds stay as they should.
module _ (m : Model) where
  pub draws_ok : (e : Expr) → ExprFit m e → (d : List ℕ) → SeedsOk m d → SeedsOk m (draws_of e d)
  unfolding draws_of
  draws_ok (literal v) h d o = o
  draws_ok (global i) h d o = o
  draws_ok (local i) h d o = o
  draws_ok (add a b) h d o = draws_ok b h.1 (draws_of a d) (draws_ok a h.0 d o)
  draws_ok (subtract a b) h d o = draws_ok b h.1 (draws_of a d) (draws_ok a h.0 d o)
  draws_ok (multiply a b) h d o = draws_ok b h.1 (draws_of a d) (draws_ok a h.0 d o)
  draws_ok (lesser a b) h d o = draws_ok b h.1 (draws_of a d) (draws_ok a h.0 d o)
  draws_ok (greater a b) h d o = draws_ok b h.1 (draws_of a d) (draws_ok a h.0 d o)
  draws_ok (negate a) h d o = draws_ok a h d o
  draws_ok the_clock h d o = o
  draws_ok (draw i) h d o =
      let n = o.many in
      let e = seed_stays (get_or d i 0) (all_in Seed d i 0 o.each (omega arith)) in
      record { many = length-set d i _ ∙ n; each = all_set Seed d i _ o.each e }
