-- A process is in at most 8 blocks: what the checks 8, 9 and 10 say of the blocks that it goes into.
-- Assumes nothing.
use Prim.Native.Nat.{ℕ, zero, suc, ◌+◌, ◌-◌, ◌≤◌, ◌<◌}
use native.Mathlib.Omega.{arith}
use Rattle.std.specs.Prelude.{◌≡◌, List, [], ◌∷◌, map, true, eqb, leb}
use Rattle.std.proofs.Math.Path.{refl}
use Rattle.std.proofs.Math.Option.{Option, none, some}
use Rattle.std.proofs.Common.{eqb-true}
use Rattle.std.proofs.Math.ListN.{length, get_elem?}
use Rattle.semantics.specs.Words.{any, collect, largest}
use Rattle.semantics.specs.Numbers as No
use Rattle.semantics.specs.Model.{Model, block, Branch, Action, HOLD, PRIO, TRACE, SET, LSET, DO, PUTR, PUTB, PUTS, BECOME, REQ}
use Rattle.semantics.specs.Model.{TRY, WHILE, START, CLOSE}
use Rattle.semantics.specs.Decode.{inner, depth_in, depth}
use Rattle.semantics.specs.State.{Frame}
use Rattle.semantics.specs.Sound.{enters, enters_at, named_there, chained}
use Rattle.promises.specs.Laws.{no_way, and-true, AllOf, all_at, all_unmap, any_has, all_collect}
use Rattle.promises.specs.Fit.{Nested}

-- An action goes only into blocks that it names.
module _ (P : ℕ → Type 0) (b r : ℕ) where
  one_has : (k : ℕ) → eqb k b ≡ true → P k → P b
  one_has k e h = rw (eqb-true k b e) at h

  inner_has : (a : Action) → enters a b r ≡ true → AllOf P (inner a) → P b
  inner_has (HOLD e) n h = no_way n
  inner_has (PRIO e) n h = no_way n
  inner_has (TRACE e) n h = no_way n
  inner_has (SET i e) n h = no_way n
  inner_has (LSET i e) n h = no_way n
  inner_has (DO x k) n h = one_has k (and-true (eqb k b) _ n).0 h.0
  inner_has (PUTR i x) n h = no_way n
  inner_has (PUTB i x) n h = no_way n
  inner_has (PUTS i x) n h = no_way n
  inner_has (BECOME i) n h = no_way n
  inner_has (REQ c) n h = no_way n
  inner_has (TRY bs) n h =
      any_has (λ (x : Branch). P x.block) (P b) (λ x. eqb x.block b) (λ x e p. one_has x.block e p) bs
      (and-true (any (λ x. eqb x.block b) bs) _ n).0 (all_unmap P (λ x. x.block) bs h)
  inner_has (WHILE k c) n h = one_has k (and-true (eqb k b) _ n).0 h.0
  inner_has (START c t g) n h = no_way n
  inner_has CLOSE n h = no_way n

largest_all : (f : ℕ → ℕ) (n : ℕ) (l : List ℕ) → largest (map f l) ≤ n → AllOf (λ k. f k ≤ n) l
largest_all f n [] h = tt
largest_all f n (k ∷ l) h = (omega arith, largest_all f n l (omega arith))

module _ (m : Model) where
  -- Enough fuel is enough: with more, a block is no less deep.
  largest_grows : (f g : ℕ → ℕ) → ((k : ℕ) → f k ≤ g k) → (l : List ℕ) → largest (map f l) ≤ largest (map g l)
  largest_grows f g h [] = omega arith
  largest_grows f g h (k ∷ l) = let a = h k in let ih = largest_grows f g h l in omega arith

  depth_grows : (d e b : ℕ) → d ≤ e → depth_in m d b ≤ depth_in m e b
  unfolding depth_in
  depth_grows zero e b h = omega arith
  depth_grows (suc d) zero b h = absurd (omega arith)
  depth_grows (suc d) (suc e) b h =
      let a = largest_grows (depth_in m d) (depth_in m e) (λ k. depth_grows d e k (omega arith)) (collect inner (block m b)) in
      omega arith

  -- A block that is there is at least 1 deep.
  some_depth : (b : ℕ) → b < length m.blocks → 1 ≤ depth m b
  unfolding depth depth_in
  some_depth b h = go (length m.blocks - b) refl
    where
      go : (d : ℕ) → length m.blocks - b ≡ d → 1 ≤ depth_in m d b
      go zero e = absurd (omega arith)
      go (suc d) e = omega arith

module _ (m : Model) (n : Nested m) where
  abbrev Later : ℕ → ℕ → Type 0
  Later b k = (b < k) × (k < length m.blocks)

  later_at : (b i : ℕ) (a : Action) (k r : ℕ) → get_elem? (block m b) i ≡ some a → enters a k r ≡ true → Later b k
  later_at b i a k r e s =
      inner_has (Later b) k r a s (all_at (λ a. AllOf (Later b) (inner a)) (block m b) i a (n.later b) e)

  -- One block further in is one less deep.
  deeper : (b i : ℕ) (a : Action) (k r : ℕ) → get_elem? (block m b) i ≡ some a → enters a k r ≡ true → depth m k < depth m b
  unfolding depth depth_in
  deeper b i a k r e s = go (length m.blocks - b) refl
    where
      within : (d g : ℕ) → largest (map (depth_in m d) (collect inner (block m b))) ≤ g → depth_in m d k ≤ g
      within d g l =
          let h = all_collect _ inner (block m b) (largest_all (depth_in m d) g (collect inner (block m b)) l) in
          inner_has (λ j. depth_in m d j ≤ g) k r a s (all_at _ (block m b) i a h e)

      go : (d : ℕ) → length m.blocks - b ≡ d → depth_in m (length m.blocks - k) k < depth_in m d b
      go zero f = let l = later_at b i a k r e s in let l₀ = l.0 in let l₁ = l.1 in absurd (omega arith)
      go (suc d) f =
          let l = (later_at b i a k r e s).0 in
          let u = depth_grows m (length m.blocks - k) d k (omega arith) in
          let v = within d (largest (map (depth_in m d) (collect inner (block m b)))) (omega arith) in
          omega arith

  -- The depth of the innermost block and the number of those around it are at most 8 together, and there is such a block.
  pub chain_depth : (f : Frame) (fs : List Frame) → chained m (f ∷ fs) ≡ true
      → (depth m f.block + length fs ≤ No.deepest) × (f.block < length m.blocks)
  chain_depth f [] c =
      let a = (and-true (leb f.at (length (block m f.block))) _ c).1 in
      let b = (and-true (named_there m f []) _ a).0 in
      any_has (λ b. (b < length m.blocks) × (depth m b ≤ No.deepest)) _ (eqb f.block)
      (λ c e h. rw (eqb-true f.block c e) (let d = h.1 in (omega arith, h.0)))
      m.classes (and-true (any (eqb f.block) m.classes) _ b).0 n.bodies
  chain_depth f (g ∷ gs) c =
      let a = (and-true (leb f.at (length (block m f.block))) _ c).1 in
      let b = and-true (named_there m f (g ∷ gs)) _ a in
      go (get_elem? (block m g.block) g.at) refl b.0 (chain_depth g gs b.1).0
    where
      go : (x : Option Action) → get_elem? (block m g.block) g.at ≡ x → enters_at x f.block f.rounds ≡ true
          → depth m g.block + length gs ≤ No.deepest
          → (depth m f.block + suc (length gs) ≤ No.deepest) × (f.block < length m.blocks)
      go none e s h = no_way s
      go (some x) e s h =
          let d = deeper g.block g.at x f.block f.rounds e s in
          (omega arith, (later_at g.block g.at x f.block f.rounds e s).1)

pub eight_blocks : (m : Model) → Nested m → (fs : List Frame) → chained m fs ≡ true → length fs ≤ No.deepest
eight_blocks m n [] c = omega arith
eight_blocks m n (f ∷ fs) c =
    let d = chain_depth m n f fs c in let e = some_depth m f.block d.1 in let d₀ = d.0 in omega arith
