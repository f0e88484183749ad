-- What the arrays say is what the model says: the weight that the code finds is the model's, where its actions go to later
-- blocks.
-- Assumes nothing.
use Prim.Native.Nat.{ℕ, zero, suc, ◌+◌, ◌*◌, ◌-◌, ◌<◌, max}
use mathlib.Core.Path.{◌≡◌, refl, ◌∙◌}
use mathlib.Core.List.{List, [], ◌∷◌, map}
use mathlib.Core.Bool.{true}
use mathlib.Core.Option.{some}
use native.Mathlib.Omega.{arith}
use native.Mathlib.Numerals.{unary_clauses}
use lib.ListN.{length, get_elem?}
use Rattle.semantics.specs.Words.{sum, largest}
use Rattle.semantics.specs.Model.{Action, HOLD, PRIO, TRACE, SET, LSET, DO, PUTR, PUTB, PUTS, BECOME, REQ, TRY, WHILE, START}
use Rattle.semantics.specs.Model.{CLOSE, Branch, Model, block, body}
use Rattle.semantics.specs.Bound as bound
use Rattle.semantics.specs.Bound.{own_weight, weigh, weight}
use Rattle.semantics.specs.Decode.{inner}
use Rattle.promises.specs.Laws.{AllOf, all_map, all_both, all_get}
use Rattle.promises.specs.Fit.{GoesForward, Nested, Forward}
use Rattle.file_depth.specs.Deep.{Laid, Graph}
use Rattle.file_depth.proofs.Laws.{agree_later}
use Rattle.file_depth.proofs.Model.{graph_is}
use Rattle.file_weight.specs.Weigh.{Acts, run, actions, action_weight, weight_in, weight_of, acts_in}
use Rattle.file_index.specs.Ties.{times_of, goes_of}
use Rattle.file_weight.specs.Agrees.{Alike, Agrees}
use Rattle.file_weight.proofs.Laws.{Ahead, same_action}

-- ONE FORMULA for all actions.
branches_largest : (w : ℕ → ℕ) (bs : List Branch) →
    largest (map (λ k. w k + 1) (map (λ x. x.block) bs)) ≡ largest (map (λ x. w x.block + 1) bs)
branches_largest w [] = refl
branches_largest w (x ∷ bs) = rw (branches_largest w bs)

formula : (m : Model) (w : ℕ → ℕ) (x : Action) →
    own_weight x + times_of x * largest (map (λ k. w k + 1) (goes_of true m x)) ≡ weigh m w x
unfolding weigh
formula m w (HOLD e) = refl
formula m w (PRIO e) = refl
formula m w (TRACE e) = refl
formula m w (SET i e) = refl
formula m w (LSET i e) = refl
formula m w (DO n b) = let e : max (w b + 1) 0 ≡ w b + 1 = omega arith in rw e
formula m w (PUTR i n) = refl
formula m w (PUTB i n) = refl
formula m w (PUTS i n) = refl
formula m w (BECOME i) = refl
formula m w (REQ c) = refl
formula m w (TRY bs) = rw (branches_largest w bs) (omega arith)
formula m w (WHILE b c) = omega arith
formula m w (START c t h) = omega arith
formula m w CLOSE = refl

-- THE SAME WEIGHT, action by action and block by block.
module _ (m : Model) (s : Acts) where
  alike_weigh : (w v : ℕ → ℕ) (a : ℕ) (x : Action) → Alike m s a x → AllOf (λ k. w k ≡ v k) (s.goes a) →
      action_weight s w a ≡ weigh m v x
  alike_weigh w v a x l h = same_action s w v a h ∙ rw (l.owns, l.rounds, l.ways) (formula m v x)

  all_weigh : (w v : ℕ → ℕ) (xs : List Action) (a : ℕ) →
      ((i : ℕ) (x : Action) → get_elem? xs i ≡ some x → Alike m s (a + i) x) →
      AllOf (λ c. AllOf (λ k. w k ≡ v k) (s.goes c)) (run (length xs) a) →
      sum (map (action_weight s w) (run (length xs) a)) ≡ sum (map (weigh m v) xs)
  unfolding run
  all_weigh w v [] a l h = refl
  all_weigh w v (x ∷ xs) a l h =
      let here : Alike m s a x = simp unary_clauses at (l 0 x refl) in
      rw (
        alike_weigh w v a x here h.0,
        all_weigh w v xs (suc a) (λ i y q.
            let e : a + suc i ≡ suc a + i = omega arith in rw e at (l (suc i) y q)) h.1,
      )

  module _ (agrees : Agrees m s) (ahead : Ahead s (length m.blocks)) where
    same_in : (d b : ℕ) → b < length m.blocks → weight_in s d b ≡ bound.weight_in m d b
    unfolding weight_in bound.weight_in
    same_in zero b l = refl
    same_in (suc d) b l =
        let e : s.first (b + 1) - s.first b ≡ length (block m b) = omega (arith, agrees.counts b l) in
        let later : AllOf (λ c. AllOf (λ k. weight_in s d k ≡ bound.weight_in m d k) (s.goes c)) (actions s b) =
        all_map (λ c. AllOf (λ k. (b < k) × (k < length m.blocks)) (s.goes c))
        (λ c. AllOf (λ k. weight_in s d k ≡ bound.weight_in m d k) (s.goes c))
        (λ c h. agree_later b _ (weight_in s d) (bound.weight_in m d) (s.goes c) (λ k p q. same_in d k q) h)
        (actions s b) (ahead b l) in
        rw e (all_weigh (weight_in s d) (bound.weight_in m d) (block m b) (s.first b) (agrees.each b l) (rw e at later))

    pub weight_is_model : (b : ℕ) → b < length m.blocks → weight_of s (length m.blocks) b ≡ weight m b
    unfolding weight_of weight
    weight_is_model b l = same_in (length m.blocks - b) b l

-- FORWARD. Where the bound is a number, the blocks that block b goes to are later ones, which there are.
module _ (m : Model) (nested : Nested m) (b : ℕ) where
  abbrev Later : ℕ → Type 0
  Later k = (b < k) × (k < length m.blocks)

  body_is : (c : ℕ) → b < body m c → body m c < length m.blocks
  body_is c h = all_get (λ k. b < k → k < length m.blocks) m.classes c 0
      (all_map _ _ (λ k w p. w.0) m.classes nested.bodies) (λ p. absurd (omega arith)) h

  goes_later : (x : Action) → GoesForward m b x → AllOf Later (inner x) → AllOf Later (goes_of true m x)
  goes_later (HOLD e) f h = tt
  goes_later (PRIO e) f h = tt
  goes_later (TRACE e) f h = tt
  goes_later (SET i e) f h = tt
  goes_later (LSET i e) f h = tt
  goes_later (DO n k) f h = h
  goes_later (PUTR i n) f h = tt
  goes_later (PUTB i n) f h = tt
  goes_later (PUTS i n) f h = tt
  goes_later (BECOME i) f h = tt
  goes_later (REQ c) f h = tt
  goes_later (TRY bs) f h = h
  goes_later (WHILE k c) f h = h
  goes_later (START c t g) f h = ((f, body_is c f), tt)
  goes_later CLOSE f h = tt

  block_forward : Forward m → AllOf (λ x. AllOf Later (goes_of true m x)) (block m b)
  block_forward f =
      all_map (λ x. GoesForward m b x × AllOf Later (inner x)) (λ x. AllOf Later (goes_of true m x))
      (λ x w. goes_later x w.0 w.1) (block m b)
      (all_both (GoesForward m b) (λ x. AllOf Later (inner x)) (block m b) (f.forward b) (nested.later b))

-- So the arrays are as the code requires.
pub forward_graph : (m : Model) → Nested m → Forward m → (first from goes own times : List ℕ) →
    Laid first from goes (length m.blocks) → Agrees m (acts_in first from goes own times) →
    Graph first from goes (length m.blocks)
forward_graph m nested f first from goes own times s agrees =
    graph_is m first from goes s (goes_of true m) agrees.counts (λ b l i x e. (agrees.each b l i x e).ways)
    (λ b. block_forward m nested b f)
