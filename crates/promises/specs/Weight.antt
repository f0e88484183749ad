-- The weight of a block is the sum of its actions' weights, where blocks name later ones: how far the last is does not matter.
-- Assumes nothing.
use Rattle.std.specs.Prelude.{ℕ, zero, suc, ◌+◌, ◌-◌, ◌≤◌, ◌<◌, ◌≡◌, length}
use Rattle.std.proofs.Common.{arith}
use Rattle.std.proofs.Math.Path.{refl}
use mathlib.Core.List.{List, [], ◌∷◌, map}
use Rattle.std.proofs.Math.ListN.{get_or-eq_default}
use Rattle.semantics.specs.Words.{sum, largest}
use Rattle.semantics.specs.Model.{Action, HOLD, PRIO, TRACE, SET, LSET, DO, PUTR, PUTB, PUTS, BECOME, REQ, TRY, WHILE, START}
use Rattle.semantics.specs.Model.{CLOSE, Branch, Model, block, body}
use Rattle.semantics.specs.Bound.{beside, weigh, weight_in, weight}
use Rattle.promises.specs.Laws.{AllOf, over}
use Rattle.promises.specs.Fit.{GoesForward, Forward}

-- An action of block b weighs the same under weights that agree on later blocks.
module _ (m : Model) (b : ℕ) (w v : ℕ → ℕ) (same : (k : ℕ) → b < k → w k ≡ v k) where
  branches_same : (bs : List Branch) → AllOf (λ x. b < x.block) bs
      → largest (map (λ x. w x.block + 1) bs) ≡ largest (map (λ x. v x.block + 1) bs)
  branches_same [] h = refl
  branches_same (x ∷ xs) h = rw (same x.block h.0, branches_same xs h.1)

  adds_same : (a : Action) → GoesForward m b a → beside m w a ≡ beside m v a
  adds_same (HOLD e) h = refl
  adds_same (PRIO e) h = refl
  adds_same (TRACE e) h = refl
  adds_same (SET i e) h = refl
  adds_same (LSET i e) h = refl
  adds_same (DO n k) h = rw (same k h)
  adds_same (PUTR i n) h = refl
  adds_same (PUTB i n) h = refl
  adds_same (PUTS i n) h = refl
  adds_same (BECOME i) h = refl
  adds_same (REQ c) h = refl
  adds_same (TRY bs) h = branches_same bs h
  adds_same (WHILE k c) h = absurd h
  adds_same (START c t g) h = rw (same (body m c) h)
  adds_same CLOSE h = refl

  all_same : (xs : List Action) → AllOf (GoesForward m b) xs → over (weigh m w) xs ≡ over (weigh m v) xs
  unfolding weigh
  all_same [] h = refl
  all_same (x ∷ xs) h = rw (adds_same x h.0, all_same xs h.1)

past_last : (m : Model) (b : ℕ) → length m.blocks ≤ b → block m b ≡ []
past_last m b h = get_or-eq_default m.blocks [] h

-- Two distances that both reach the last block give the same weight.
enough : (m : Model) → Forward m → (d e b : ℕ) → length m.blocks ≤ d + b → length m.blocks ≤ e + b
    → weight_in m d b ≡ weight_in m e b
unfolding weight_in
enough m t zero zero b h g = refl
enough m t zero (suc e) b h g = rw (past_last m b (omega arith))
enough m t (suc d) zero b h g = rw (past_last m b (omega arith))
enough m t (suc d) (suc e) b h g =
    all_same m b (weight_in m d) (weight_in m e) (λ k l. enough m t d e k (omega arith) (omega arith)) (block m b) (t.forward b)

pub weight_is : (m : Model) → Forward m → (b : ℕ) → weight m b ≡ sum (map (weigh m (weight m)) (block m b))
unfolding weight weight_in
weight_is m t b = go (length m.blocks - b) refl
  where
    go : (d : ℕ) → length m.blocks - b ≡ d → weight_in m d b ≡ over (weigh m (weight m)) (block m b)
    go zero e = rw (past_last m b (omega arith))
    go (suc d) e =
        all_same m b (weight_in m d) (weight m)
        (λ k l. enough m t d (length m.blocks - k) k (omega arith) (omega arith)) (block m b) (t.forward b)
