-- The pile of trees that the nodes from one on make is the tree that begins there, on the pile of what follows that tree.
-- Assumes nothing.
use Rattle.std.specs.Prelude.{if◌then◌else◌}
use mathlib.Core.Path.{◌≡◌, refl, sym, ◌∙◌, ap}
use mathlib.Core.List.{List, [], ◌∷◌}
use mathlib.Core.Bool.{true}
use mathlib.Core.Option.{Option, none, some}
use Prim.Native.Nat.{ℕ, zero, suc, ◌+◌, ◌*◌, ◌-◌, ◌≤◌, ◌<◌, ◌/◌}
use native.Mathlib.Omega.{arith}
use native.Mathlib.Numerals.{add-one}
use borrow.Author.Tests.{eqb-true, ne_eqb}
use lib.Dec.{eqb}
use lib.ListN.{length, take, drop, get_or}
use lib.Seq.{drop-cons, drop-drop}
use Rattle.semantics.specs.Model.{Model, Expr, literal, global, local, add, subtract, multiply, lesser, greater, negate}
use Rattle.semantics.specs.Model.{the_clock, draw}
use Rattle.semantics.specs.Bytes.{u16, u32, signed, parts}
use Rattle.semantics.specs.Record.{Node, leaf, unary, binary, node_of, onto, pile, nodes, one_tree, the_tree}
use Rattle.promises.specs.Laws.{no_way, AllOf}
use Rattle.promises.specs.Fit.{ExprFit}
use Rattle.promises.specs.Valued.{parts_many}
use Rattle.file_check_tails.specs.Tails.{arity}
use Rattle.file_check_tails.proofs.Pile.{arity_small}
use Rattle.act_value.specs.Reading.{the_rest}

-- The op that draws.
abbrev pub DRAW : ℕ
DRAW = 10

-- A NODE by how many operands it takes.
abbrev pub leaf_of : ℕ → ℕ → Expr
leaf_of op v = get_or (literal (signed v) ∷ global v ∷ local v ∷ []) op (if eqb op DRAW then draw v else the_clock)

abbrev pub two_of : ℕ → Expr → Expr → Expr
two_of i = get_or (add ∷ subtract ∷ multiply ∷ lesser ∷ []) i greater

abbrev pub node_by : ℕ → ℕ → ℕ → Node
node_by zero op v = leaf (leaf_of op v)
node_by (suc zero) op v = unary negate
node_by (suc (suc n)) op v = binary (two_of (op - 3))

by_operands : (v op : ℕ) → node_of op v ≡ node_by (arity op) op v
unfolding arity
by_operands v zero = refl
by_operands v (suc zero) = refl
by_operands v (suc (suc zero)) = refl
by_operands v (suc (suc (suc zero))) = refl
by_operands v (suc (suc (suc (suc zero)))) = refl
by_operands v (suc (suc (suc (suc (suc zero))))) = refl
by_operands v (suc (suc (suc (suc (suc (suc zero)))))) = refl
by_operands v (suc (suc (suc (suc (suc (suc (suc zero))))))) = refl
by_operands v (suc (suc (suc (suc (suc (suc (suc (suc zero)))))))) = refl
by_operands v (suc (suc (suc (suc (suc (suc (suc (suc (suc zero))))))))) = refl
by_operands v (suc (suc (suc (suc (suc (suc (suc (suc (suc (suc zero)))))))))) = refl
by_operands v (suc (suc (suc (suc (suc (suc (suc (suc (suc (suc (suc op))))))))))) =
    rw (ne_eqb (suc (suc (suc (suc (suc (suc (suc (suc (suc (suc (suc op))))))))))) DRAW (λ h. omega arith))

-- An op that takes neither none nor one takes two, and is from 3 on.
pub takes_two : (op n : ℕ) → n ≡ arity op → (n ≡ 0 → ⊥) → (n ≡ 1 → ⊥) → arity op ≡ 2
takes_two op n e f g = omega (arith, arity_small op)

pub draws_none : (op : ℕ) → op ≡ DRAW → arity op ≡ 0
unfolding arity
draws_none op e = rw e

pub two_from_3 : (op : ℕ) → arity op ≡ 2 → 3 ≤ op
unfolding arity
two_from_3 zero e = absurd (omega arith)
two_from_3 (suc zero) e = absurd (omega arith)
two_from_3 (suc (suc zero)) e = absurd (omega arith)
two_from_3 (suc (suc (suc op))) e = omega arith

-- A pile with a node more.
abbrev pub over : Node → Option (List Expr) → Option (List Expr)
over d none = none
over d (some es) = onto d es

abbrev pub node_in : List ℕ → Node
node_in n = node_by (arity (u16 n 0)) (u16 n 0) (u32 n 2)

pile_more : (n : List ℕ) (ns : List (List ℕ)) → pile (n ∷ ns) ≡ over (node_in n) (pile ns)
unfolding pile
pile_more n ns = go (pile ns) ∙ ap (λ (d : Node). over d (pile ns)) (by_operands (u32 n 2) (u16 n 0))
  where
    go : (p : Option (List Expr)) →
        elim p [ none ↦ none | some es ↦ onto (node_of (u16 n 0) (u32 n 2)) es ] ≡ over (node_of (u16 n 0) (u32 n 2)) p
    go none = refl
    go (some es) = refl

pub pile_at : (ns : List (List ℕ)) (k : ℕ) → k < length ns →
    pile (drop k ns) ≡ over (node_in (get_or ns k [])) (pile (drop (k + 1) ns))
pile_at ns k h = rw (drop-cons ns k [] h, add-one k) (pile_more (get_or ns k []) (drop (suc k) ns))

-- A pile that has a tree begins with a node.
abbrev pub Full : Option (List Expr) → Type 0
Full none = ⊥
Full (some []) = ⊥
Full (some (e ∷ es)) = Unit {0}

pub full_inside : (k : ℕ) (ns : List (List ℕ)) → Full (pile (drop k ns)) → k < length ns
unfolding pile
full_inside zero [] h = absurd h
full_inside zero (n ∷ ns) h = omega arith
full_inside (suc k) [] h = absurd h
full_inside (suc k) (n ∷ ns) h = omega (arith, full_inside k ns h)

-- There is a pile, and its trees fit the model.
module _ (m : Model) where
  abbrev pub Piled : Option (List Expr) → Type 0
  Piled none = ⊥
  Piled (some es) = AllOf (ExprFit m) es

  -- It begins with what the node says, over what the pile from the next node on begins with.
  pub over-leaf : (e : Expr) (p : Option (List Expr)) → Piled (over (leaf e) p) →
      (the_tree (over (leaf e) p) ≡ e) × (p ≡ the_rest (over (leaf e) p))
  over-leaf e none h = absurd h
  over-leaf e (some es) h = (refl, refl)

  pub over-unary : (f : Expr → Expr) (p : Option (List Expr)) → Piled (over (unary f) p) →
      Full p × (the_tree (over (unary f) p) ≡ f (the_tree p)) × (the_rest p ≡ the_rest (over (unary f) p))
  over-unary f none h = absurd h
  over-unary f (some []) h = absurd h
  over-unary f (some (a ∷ es)) h = (tt, refl, refl)

  pub over-binary : (f : Expr → Expr → Expr) (p : Option (List Expr)) → Piled (over (binary f) p) →
      (Full p × Full (the_rest p)) × (the_tree (over (binary f) p) ≡ f (the_tree p) (the_tree (the_rest p)))
      × (the_rest (the_rest p) ≡ the_rest (over (binary f) p))
  over-binary f none h = absurd h
  over-binary f (some []) h = absurd h
  over-binary f (some (a ∷ [])) h = absurd h
  over-binary f (some (a ∷ b ∷ es)) h = ((tt, tt), refl, refl)

  -- So are all piles below it.
  two_fit : (i : ℕ) (a b : Expr) → ExprFit m (two_of i a b) → ExprFit m a × ExprFit m b
  two_fit zero a b h = h
  two_fit (suc zero) a b h = h
  two_fit (suc (suc zero)) a b h = h
  two_fit (suc (suc (suc zero))) a b h = h
  two_fit (suc (suc (suc (suc i)))) a b h = h

  below : (k op v : ℕ) (p : Option (List Expr)) → Piled (over (node_by k op v) p) → Piled p
  below k op v none h = h
  below zero op v (some es) h = h.1
  below (suc zero) op v (some []) h = tt
  below (suc zero) op v (some (a ∷ es)) h = h
  below (suc (suc k)) op v (some []) h = tt
  below (suc (suc k)) op v (some (a ∷ [])) h = absurd h
  below (suc (suc k)) op v (some (a ∷ b ∷ es)) h = let f = two_fit (op - 3) a b h.0 in (f.0, (f.1, h.1))

  pub piled_from : (k : ℕ) (ns : List (List ℕ)) → Piled (pile ns) → Piled (pile (drop k ns))
  piled_from zero ns h = h
  piled_from (suc k) [] h = h
  piled_from (suc k) (n ∷ ns) h =
      piled_from k ns (below (arity (u16 n 0)) (u16 n 0) (u32 n 2) (pile ns) (rw (pile_more n ns) at h))

  pub tree_fits : (p : Option (List Expr)) → Piled p → ExprFit m (the_tree p)
  tree_fits none h = absurd h
  tree_fits (some []) h = tt
  tree_fits (some (e ∷ es)) h = h.0

  pub one_piled : (p : Option (List Expr)) → one_tree p ≡ true → ExprFit m (the_tree p) → Piled p
  one_piled none e h = no_way e
  one_piled (some []) e h = no_way e
  one_piled (some (a ∷ [])) e h = (h, tt)
  one_piled (some (a ∷ b ∷ es)) e h = let z = eqb-true (length (a ∷ b ∷ es)) 1 e in absurd (omega arith)

-- THE NODES of bs.
part_at : (n k : ℕ) (bs : List ℕ) → k < n → get_or (parts 6 n bs) k [] ≡ take 6 (drop (6 * k) bs)
unfolding parts
part_at zero k bs h = absurd (omega arith)
part_at (suc n) zero bs h = refl
part_at (suc n) (suc k) bs h =
    let e : 6 + 6 * k ≡ 6 * suc k = omega arith in
    part_at n k (drop 6 bs) (omega arith) ∙ rw (drop-drop (6 * k) 6 bs, e)

pub nodes_many : (bs : List ℕ) → length (nodes bs) ≡ length bs / 6
nodes_many bs = parts_many 6 (length bs / 6) bs

-- As the code cuts it out.
pub cut_node : (bs : List ℕ) (k : ℕ) → k < length bs / 6 → take (6 * k + 6 - 6 * k) (drop (6 * k) bs) ≡ get_or (nodes bs) k []
cut_node bs k h = let e : 6 * k + 6 - 6 * k ≡ 6 = omega arith in rw e (sym (part_at (length bs / 6) k bs h))
