-- The value of a node over the values of its operands, as codes. Assumes nothing.
use mathlib.Core.Path.{◌≡◌, refl, sym, ◌∙◌, ap}
use mathlib.Core.List.{List, [], ◌∷◌, ◌++◌, map}
use mathlib.Core.Bool.{◌&&◌}
use Prim.Native.Nat.{ℕ, zero, suc, ◌+◌, ◌-◌, ◌≤◌, ◌<◌}
use native.Mathlib.Omega.{arith}
use borrow.Author.Tests.{ne_eqb}
use lib.ListN.{length, get_or, set, replicate, length-append, length-map, length-set, get_or-append}
use lib.Seq.{set-append_left}
use lib.IntN.{ℤ, pos, neg_ℤ}
use Rattle.semantics.specs.Words.{Outcome, ok, fails, ◌>>=◌}
use Rattle.semantics.specs.Numbers as No
use Rattle.semantics.specs.Model.{Expr, negate, draw, sampler}
use Rattle.semantics.specs.Generator.{next_seed, drawn}
use Rattle.semantics.specs.Value.{in_range}
use Rattle.promises.specs.Laws.{AllOf, all_get, all_in}
use Rattle.promises.specs.Fit.{I32, ExprFit, SamplerFit}
use Rattle.promises.specs.Sound.{Seed, SeedsOk}
use Rattle.base_numbers.specs.Limit as Limit
use Rattle.base_numbers.specs.Code as Code
use Rattle.base_i32.specs.declared.Value.{Value}
use Rattle.base_i32.specs.Code.{code, value_of, a_value, value_in, Ranged, larger}
use Rattle.base_i32.specs.Laws.{value_of-code, code_fits}
use Rattle.base_generator.specs.Drawing.{highest_at}
use Rattle.act_value.specs.Parts.{eval_in, draws_of, eval_in_ranged}
use Rattle.act_value.specs.Reading.{Readable, worth, pad, HasCode, Sampled, moved_on, drawn_code, leaf_code, two_by}
use Rattle.act_value.specs.Reading.{of_two, given}
use Rattle.act_value.proofs.Prefix.{DRAW, leaf_of, two_of}

-- A row shows each value of the list, by its code.
shown : (vs : List ℤ) (ys : List ℕ) (i : ℕ) → i < length vs → code (get_or vs i (pos 0)) ≡ get_or (map code vs ++ ys) i 0
shown [] ys i h = absurd (omega arith)
shown (v ∷ vs) ys zero h = refl
shown (v ∷ vs) ys (suc i) h = shown vs ys i (omega arith)

has_code : {row : List ℕ} (n : ℕ) (vs : List ℤ) (i : ℕ) → row ≡ pad n 0 (map code vs) → AllOf I32 vs → i < length vs →
    HasCode row i
has_code n vs i e g h =
    let ys : List ℕ = replicate (n - length (map code vs)) 0 in
    let c = all_get I32 vs i (pos 0) g (omega arith) in
    rw e record {
      there = omega (arith, length-append (map code vs) ys, length-map vs code);
      is_code = omega (arith, shown vs ys i h, code_fits (get_or vs i (pos 0)) c);
    }

-- Past the literals, variables and locals a leaf is the clock.
pub clock_code : (gl lo : List ℕ) (t op v : ℕ) → (op ≡ 0 → ⊥) → (op ≡ 1 → ⊥) → (op ≡ 2 → ⊥) →
    Code.ZERO + t ≡ leaf_code gl lo t op v
unfolding leaf_code
clock_code gl lo t zero v e f g = absurd (e refl)
clock_code gl lo t (suc zero) v e f g = absurd (f refl)
clock_code gl lo t (suc (suc zero)) v e f g = absurd (g refl)
clock_code gl lo t (suc (suc (suc op))) v e f g = refl

-- Past the sum, the difference, the product and the lesser there is the greater.
pub last_op : (op : ℕ) (x y : ℤ) → 7 ≤ op → of_two op x y ≡ ok (larger x y)
unfolding of_two
last_op op x y h = go (op - 3) (omega arith)
  where
    go : (i : ℕ) → 4 ≤ i → two_by i x y ≡ ok (larger x y)
    go zero h = absurd (omega arith)
    go (suc zero) h = absurd (omega arith)
    go (suc (suc zero)) h = absurd (omega arith)
    go (suc (suc (suc zero))) h = absurd (omega arith)
    go (suc (suc (suc (suc i)))) h = refl

-- What is done with the codes of two values is done with the values.
joined : (f : ℤ → ℤ → Outcome ℤ) (o p : Outcome ℤ) → Ranged o → Ranged p →
    value_in (given ((value_in o).ok && (value_in p).ok) (f (value_of (value_in o).code) (value_of (value_in p).code)))
    ≡ value_in (o >>= λ x. p >>= λ y. f x y)
unfolding ◌>>=◌
joined f (ok x) (ok y) h k = rw (value_of-code x h, value_of-code y k)
joined f (ok x) (fails n) g h = refl
joined f (fails n) p g h = refl

-- And with one.
taken : (f : ℤ → Outcome ℤ) (o : Outcome ℤ) → Ranged o →
    value_in (given (value_in o).ok (f (value_of (value_in o).code))) ≡ value_in (o >>= f)
unfolding ◌>>=◌
taken f (ok x) h = rw (value_of-code x h)
taken f (fails n) g = refl

module _ {bs gl lo lw va : List ℕ} {t : ℕ} (w : Readable bs gl lo lw va t) where
  has_value : (e : Expr) → ExprFit w.model e → (d : List ℕ) → Ranged (worth w e d)
  has_value e h d =
      eval_in_ranged w.model w.samplers_fit w.gs w.ls t w.globals_ok w.locals_ok w.clock_ok e h d

  -- Of a leaf that fits and doesn't draw.
  pub leaf_value : (op v : ℕ) → (op ≡ DRAW → ⊥) → ExprFit w.model (leaf_of op v) → (d : List ℕ)
      → a_value (leaf_code gl lo t op v) ≡ value_in (worth w (leaf_of op v) d)
  unfolding eval_in leaf_code code
  leaf_value zero v n h d = refl
  leaf_value (suc zero) v n h d =
      ap a_value
      (ap (λ (xs : List ℕ). get_or xs v 0) w.shows_globals ∙ sym (shown w.gs _ v (omega (arith, w.vars_many))))
  leaf_value (suc (suc zero)) v n h d =
      ap a_value
      (ap (λ (xs : List ℕ). get_or xs v 0) w.shows_locals ∙ sym (shown w.ls _ v (omega (arith, w.locals_many))))
  leaf_value (suc (suc (suc op))) v n h d = rw (ne_eqb (suc (suc (suc op))) DRAW n)

  pub leaf_seeds : (op v : ℕ) → (op ≡ DRAW → ⊥) → (d : List ℕ) → d ≡ draws_of (leaf_of op v) d
  unfolding draws_of
  leaf_seeds zero v n d = refl
  leaf_seeds (suc zero) v n d = refl
  leaf_seeds (suc (suc zero)) v n d = refl
  leaf_seeds (suc (suc (suc op))) v n d = rw (ne_eqb (suc (suc (suc op))) DRAW n)

  -- Its code stands in the row.
  pub leaf_inside : (op v : ℕ) → ExprFit w.model (leaf_of op v) → (op ≡ 1 → HasCode gl v) × (op ≡ 2 → HasCode lo v)
  leaf_inside zero v h = ((λ e. absurd (omega arith)), (λ e. absurd (omega arith)))
  leaf_inside (suc zero) v h = (
    (λ e. has_code Limit.THINGS w.gs v w.shows_globals w.globals_ok (omega (arith, w.vars_many))),
    (λ e. absurd (omega arith)),
  )
  leaf_inside (suc (suc zero)) v h = (
    (λ e. absurd (omega arith)),
    (λ e. has_code No.locals w.ls v w.shows_locals w.locals_ok (omega (arith, w.locals_many))),
  )
  leaf_inside (suc (suc (suc op))) v h = ((λ e. absurd (omega arith)), (λ e. absurd (omega arith)))

  -- Of a draw from a sampler that there is, with the seeds d, which a row shows.
  module _ (v : ℕ) (h : v < length w.model.samplers) (d seeds : List ℕ) (o : SeedsOk w.model d)
      (e : seeds ≡ pad Limit.SAMPLERS 0 d) where
    abbrev low : ℤ
    low = (sampler w.model v).lowest

    abbrev high : ℤ
    high = (sampler w.model v).highest

    fit : SamplerFit (sampler w.model v)
    fit = all_in SamplerFit w.model.samplers v _ w.samplers_fit h

    -- Where the highest stands.
    ends : get_or lw v 0 + get_or va v 0 ≡ code high + 1
    ends =
        rw (w.shows_lowest v h, w.shows_values v h)
        (highest_at low high fit.lowest_fits fit.highest_fits fit.not_above)

    has_seed : v < length d
    has_seed = let n = o.many in omega arith

    its_seed : get_or seeds v 0 ≡ get_or d v 0
    its_seed = ap (λ (l : List ℕ). get_or l v 0) e ∙ get_or-append d _ 0 v has_seed

    pub sampled : Sampled lw va seeds v
    sampled =
        let s = all_in Seed d v 0 o.each has_seed in
        record {
          has_lowest = omega (arith, w.lowest_many, w.few_samplers);
          has_values = omega (arith, w.values_many, w.few_samplers);
          has_seed = omega (arith, w.few_samplers);
          seed_fits = omega (arith, its_seed, s.high);
          not_empty = omega (arith, w.shows_values v h);
          inside = omega (arith, ends, code_fits high fit.highest_fits);
        }

    pub draw_value : a_value (drawn_code lw va seeds v) ≡ value_in (worth w (draw v) d)
    unfolding eval_in
    draw_value =
        let l : value_of (get_or lw v 0) ≡ low = ap value_of (w.shows_lowest v h) ∙ value_of-code low fit.lowest_fits in
        let a : get_or lw v 0 + get_or va v 0 - 1 ≡ code high = omega (arith, ends) in
        let g : value_of (get_or lw v 0 + get_or va v 0 - 1) ≡ high = ap value_of a ∙ value_of-code high fit.highest_fits in
        ap (λ (x : ℤ). a_value (code (drawn x (value_of (get_or lw v 0 + get_or va v 0 - 1)) (moved_on seeds v)))) l
        ∙ ap (λ (x : ℤ). a_value (code (drawn low x (moved_on seeds v)))) g
        ∙ ap (λ (n : ℕ). a_value (code (drawn low high (next_seed n)))) its_seed

    pub draw-seeds : set seeds v (moved_on seeds v) ≡ pad Limit.SAMPLERS 0 (draws_of (draw v) d)
    unfolding draws_of
    draw-seeds =
        ap (λ (l : List ℕ). set l v (moved_on seeds v)) e
        ∙ ap (λ (n : ℕ). set (pad Limit.SAMPLERS 0 d) v (next_seed n)) its_seed
        ∙ set-append_left d _ v (moved_on d v) has_seed
        ∙ ap (λ (n : ℕ). set d v (moved_on d v) ++ replicate (Limit.SAMPLERS - n) 0) (sym (length-set d v (moved_on d v)))

  pub negated_value : (x : Value) (e : Expr) → ExprFit w.model e → (d : List ℕ) → x ≡ value_in (worth w e d)
      → value_in (given x.ok (in_range (neg_ℤ (value_of x.code)))) ≡ value_in (worth w (negate e) d)
  unfolding eval_in
  negated_value x e h d i =
      ap (λ (x : Value). value_in (given x.ok (in_range (neg_ℤ (value_of x.code))))) i
      ∙ taken (λ v. in_range (neg_ℤ v)) (worth w e d) (has_value e h d)

  -- The op by its place among those of two operands.
  two_value : (i : ℕ) (a b : Expr) (d : List ℕ)
      → worth w (two_of i a b) d ≡ (worth w a d >>= λ x. worth w b (draws_of a d) >>= λ y. two_by i x y)
  unfolding eval_in
  two_value zero a b d = refl
  two_value (suc zero) a b d = refl
  two_value (suc (suc zero)) a b d = refl
  two_value (suc (suc (suc zero))) a b d = refl
  two_value (suc (suc (suc (suc i)))) a b d = refl

  pub joined_value : (op : ℕ) (x y : Value) (a b : Expr) → ExprFit w.model a → ExprFit w.model b → (d : List ℕ)
      → x ≡ value_in (worth w a d) → y ≡ value_in (worth w b (draws_of a d))
      → value_in (given (x.ok && y.ok) (of_two op (value_of x.code) (value_of y.code)))
      ≡ value_in (worth w (two_of (op - 3) a b) d)
  unfolding of_two
  joined_value op x y a b g h d i j =
      let o : Outcome ℤ = worth w a d in
      ap (λ (x : Value). value_in (given (x.ok && y.ok) (of_two op (value_of x.code) (value_of y.code)))) i
      ∙ ap (λ (y : Value).
      value_in (given ((value_in o).ok && y.ok) (of_two op (value_of (value_in o).code) (value_of y.code)))) j
      ∙ joined (of_two op) o (worth w b (draws_of a d)) (has_value a g d) (has_value b h (draws_of a d))
      ∙ ap value_in (sym (two_value (op - 3) a b d))

pub two_seeds : (i : ℕ) (a b : Expr) (d : List ℕ) → draws_of b (draws_of a d) ≡ draws_of (two_of i a b) d
unfolding draws_of
two_seeds zero a b d = refl
two_seeds (suc zero) a b d = refl
two_seeds (suc (suc zero)) a b d = refl
two_seeds (suc (suc (suc zero))) a b d = refl
two_seeds (suc (suc (suc (suc i)))) a b d = refl
