-- One node of `tree_at`: what has been read at node k, from what was read of its operands. Assumes nothing.
use mathlib.Core.Path.{◌≡◌, refl, sym, ◌∙◌, ap}
use mathlib.Core.List.{List, []}
use mathlib.Core.Bool.{true, ◌&&◌}
use mathlib.Core.Option.{Option}
use Prim.Native.Nat.{ℕ, zero, suc, ◌+◌, ◌-◌, ◌<◌, ◌/◌, ◌%◌}
use native.Mathlib.Omega.{arith}
use borrow.Author.Tests.{leb-true}
use lib.Dec.{eqb, leb}
use lib.ListN.{length, drop, get_or, set}
use lib.IntN.{neg_ℤ}
use Rattle.semantics.specs.Words.{within}
use Rattle.semantics.specs.Numbers as No
use Rattle.semantics.specs.Model.{Expr, negate, draw}
use Rattle.semantics.specs.Bytes.{u16, u32}
use Rattle.semantics.specs.Record.{Node, nodes, pile, one_tree, the_tree, expression_in}
use Rattle.semantics.specs.Value.{in_range}
use Rattle.promises.specs.Laws.{and-true}
use Rattle.promises.specs.Fit.{ExprFit}
use Rattle.promises.specs.Sound.{SeedsOk}
use Rattle.base_numbers.specs.Limit as Limit
use Rattle.file_check_tails.specs.Tails.{arity}
use Rattle.base_i32.specs.declared.Value.{Value}
use Rattle.base_i32.specs.Code.{value_of, a_value, value_in}
use Rattle.act_value.specs.declared.Node as D
use Rattle.act_value.specs.declared.Tree.{Tree}
use Rattle.act_value.specs.Parts.{draws_of, draws_ok}
use Rattle.act_value.specs.Reading.{Readable, Ready, worth, tree_at, Stands, Read, HasCode, Sampled, moved_on, drawn_code}
use Rattle.act_value.specs.Reading.{pad, leaf_code, of_two, given, the_rest}
use Rattle.act_value.proofs.Prefix.{DRAW, leaf_of, two_of, node_by, node_in, over, pile_at, Full, full_inside, Piled}
use Rattle.act_value.proofs.Prefix.{over-leaf, over-unary, over-binary, piled_from, tree_fits, one_piled, nodes_many}
use Rattle.act_value.proofs.Values.{leaf_value, leaf_seeds, leaf_inside, sampled, draw_value, draw-seeds}
use Rattle.act_value.proofs.Values.{negated_value, joined_value, two_seeds}

same_node : (n : List ℕ) (op v a : ℕ) → op ≡ u16 n 0 → v ≡ u32 n 2 → arity op ≡ a → node_in n ≡ node_by a op v
same_node n op v a e f g =
    sym (ap (λ (o : ℕ). node_by (arity o) o v) e ∙ ap (λ (x : ℕ). node_by (arity (u16 n 0)) (u16 n 0) x) f)
    ∙ ap (λ (b : ℕ). node_by b op v) g

module _ {bs gl lo lw va : List ℕ} {t : ℕ} (w : Readable bs gl lo lw va t) where
  abbrev from : ℕ → Option (List Expr)
  from j = pile (drop j (nodes bs))

  one_tree_lem : (leb 1 (length bs / 6) ≡ true) × (one_tree (pile (nodes bs)) ≡ true)
  one_tree_lem =
      let a = and-true (within 1 No.most_nodes (length bs / 6)) _ (and-true (eqb (length bs % 6) 0) _ w.is_sized).1 in
      ((and-true (leb 1 (length bs / 6)) _ a.0).0, a.1)

  pub begins : 0 < length bs / 6
  begins = leb-true 1 (length bs / 6) one_tree_lem.0

  -- From each node on there is a pile, and its trees fit.
  piled : (j : ℕ) → Piled w.model (from j)
  unfolding expression_in
  piled j = piled_from w.model j (nodes bs) (one_piled w.model (pile (nodes bs)) one_tree_lem.1 w.fits)

  pub first_fits : (j : ℕ) → ExprFit w.model (the_tree (from j))
  first_fits j = tree_fits w.model (from j) (piled j)

  inside : (j : ℕ) → Full (from j) → j < length bs / 6
  inside j h = omega (arith, full_inside j (nodes bs) h, nodes_many bs)

  module _ (k : ℕ) (h : k < length bs / 6) (d : D.Node) (s : Stands bs k d) where
    here : (a : ℕ) → arity d.op ≡ a → from k ≡ over (node_by a d.op d.operand) (from (k + 1))
    here a e =
        pile_at (nodes bs) k (omega (arith, nodes_many bs))
        ∙ ap (λ (x : Node). over x (from (k + 1)))
        (same_node (get_or (nodes bs) k []) d.op d.operand a s.has_op s.has_operand e)

    so_piled : (a : ℕ) → arity d.op ≡ a → Piled w.model (over (node_by a d.op d.operand) (from (k + 1)))
    so_piled a e = rw (here a e) at (piled k)

    -- The value of the tree that begins here, and the seeds that it leaves, by what that tree is.
    told : (ds : List ℕ) {e : Expr} {x : Value} → x ≡ value_in (worth w e ds) → tree_at w k ≡ e
        → x ≡ value_in (worth w (tree_at w k) ds)
    told ds i j = i ∙ ap (λ (e : Expr). value_in (worth w e ds)) (sym j)

    left : (ds : List ℕ) {e : Expr} {seeds : List ℕ} → seeds ≡ pad Limit.SAMPLERS 0 (draws_of e ds) → tree_at w k ≡ e
        → seeds ≡ pad Limit.SAMPLERS 0 (draws_of (tree_at w k) ds)
    left ds i j = i ∙ ap (λ (e : Expr). pad Limit.SAMPLERS 0 (draws_of e ds)) (sym j)

    -- A leaf.
    module _ (e : arity d.op ≡ 0) where
      begins_leaf : (tree_at w k ≡ leaf_of d.op d.operand) × (from (k + 1) ≡ the_rest (from k))
      begins_leaf = rw (here 0 e) (over-leaf w.model _ (from (k + 1)) (so_piled 0 e))

      leaf_fits : ExprFit w.model (leaf_of d.op d.operand)
      leaf_fits = rw begins_leaf.0 at (first_fits k)

      pub leaf_indexed : (d.op ≡ 1 → HasCode gl d.operand) × (d.op ≡ 2 → HasCode lo d.operand)
      leaf_indexed = leaf_inside w d.op d.operand leaf_fits

      module _ (ds seeds : List ℕ) (shows : seeds ≡ pad Limit.SAMPLERS 0 ds) where
        pub leaf_read : (d.op ≡ DRAW → ⊥) → (x : ℕ) → x ≡ leaf_code gl lo t d.op d.operand
            → Read w k ds (record { value = a_value x; next = k + 1 }) seeds
        leaf_read n x i =
            record {
              has = told ds (ap a_value i ∙ leaf_value w d.op d.operand n leaf_fits ds) begins_leaf.0;
              onward = omega arith;
              inside = omega (arith, nodes_many bs);
              rest = begins_leaf.1;
              drew =
                  left ds (shows ∙ ap (λ (l : List ℕ). pad Limit.SAMPLERS 0 l) (leaf_seeds w d.op d.operand n ds))
                  begins_leaf.0;
            }

        -- One that draws.
        module _ (n : d.op ≡ DRAW) (o : SeedsOk w.model ds) where
          is_draw : leaf_of d.op d.operand ≡ draw d.operand
          is_draw = rw n

          known : d.operand < length w.model.samplers
          known = rw is_draw at leaf_fits

          pub can_draw : Sampled lw va seeds d.operand
          can_draw = sampled w d.operand known ds seeds o shows

          pub draw_read : (x : ℕ) (after : List ℕ) → x ≡ drawn_code lw va seeds d.operand
              → after ≡ set seeds d.operand (moved_on seeds d.operand)
              → Read w k ds (record { value = a_value x; next = k + 1 }) after
          draw_read x after i j =
              let b = begins_leaf.0 ∙ is_draw in
              record {
                has = told ds (ap a_value i ∙ draw_value w d.operand known ds seeds o shows) b;
                onward = omega arith;
                inside = omega (arith, nodes_many bs);
                rest = begins_leaf.1;
                drew = left ds (j ∙ draw-seeds w d.operand known ds seeds o shows) b;
              }

    -- Anything else has a first operand.
    pub first_inside : (arity d.op ≡ 0 → ⊥) → k + 1 < length bs / 6
    first_inside e = go (arity d.op) refl
      where
        go : (a : ℕ) → arity d.op ≡ a → k + 1 < length bs / 6
        go zero i = absurd (e i)
        go (suc zero) i = inside (k + 1) (over-unary w.model negate (from (k + 1)) (so_piled 1 i)).0
        go (suc (suc n)) i = inside (k + 1) (over-binary w.model _ (from (k + 1)) (so_piled (suc (suc n)) i)).0.0

    module _ (ds seeds : List ℕ) (r : Tree) (i : Read w (k + 1) ds r seeds) where
      -- One operand.
      pub one_read : arity d.op ≡ 1 → (x : Value) →
          x ≡ value_in (given r.value.ok (in_range (neg_ℤ (value_of r.value.code)))) →
          Read w k ds (record { value = x; next = r.next }) seeds
      unfolding draws_of
      one_read e x j =
          let b = over-unary w.model negate (from (k + 1)) (so_piled 1 e) in
          let n : tree_at w k ≡ negate (tree_at w (k + 1)) = ap the_tree (here 1 e) ∙ b.1 in
          record {
            has = told ds (j ∙ negated_value w r.value (tree_at w (k + 1)) (first_fits (k + 1)) ds i.has) n;
            onward = omega (arith, i.onward);
            inside = i.inside;
            rest = i.rest ∙ b.2 ∙ sym (ap the_rest (here 1 e));
            drew = left ds {e = negate (tree_at w (k + 1))} i.drew n;
          }

      -- Two.
      module _ (e : arity d.op ≡ 2) where
        begins_two :
            (Full (from (k + 1)) × Full (the_rest (from (k + 1))))
            × (tree_at w k ≡ two_of (d.op - 3) (tree_at w (k + 1)) (the_tree (the_rest (from (k + 1)))))
            × (the_rest (the_rest (from (k + 1))) ≡ the_rest (from k))
        begins_two = rw (here 2 e) (over-binary w.model _ (from (k + 1)) (so_piled 2 e))

        pub second_inside : r.next < length bs / 6
        second_inside = inside r.next (rw i.rest begins_two.0.1)

        pub two_read : (r' : Tree) (after : List ℕ) → Read w r.next (draws_of (tree_at w (k + 1)) ds) r' after → (x : Value) →
            x ≡ value_in (given (r.value.ok && r'.value.ok)
            (of_two d.op (value_of r.value.code) (value_of r'.value.code))) →
            Read w k ds (record { value = x; next = r'.next }) after
        two_read r' after i' x j =
            let a : Expr = tree_at w (k + 1) in
            let b : Expr = tree_at w r.next in
            let n : tree_at w k ≡ two_of (d.op - 3) a b =
            begins_two.1 ∙ ap (λ (p : Option (List Expr)). two_of (d.op - 3) a (the_tree p)) (sym i.rest) in
            record {
              has =
                  told ds
                  (j ∙ joined_value w d.op r.value r'.value a b (first_fits (k + 1)) (first_fits r.next) ds i.has
                  i'.has)
                  n;
              onward = omega (arith, i.onward, i'.onward);
              inside = i'.inside;
              rest = i'.rest ∙ ap the_rest i.rest ∙ begins_two.2;
              drew = left ds (i'.drew ∙ ap (λ (l : List ℕ). pad Limit.SAMPLERS 0 l) (two_seeds (d.op - 3) a b ds)) n;
            }

-- The second operand is worked out from the seeds that the first leaves.
abbrev pub then_ready : {bs gl lo lw va seeds after : List ℕ} {t : ℕ} (w : Ready bs gl lo lw va seeds t) (k : ℕ) (r : Tree)
    → Read w.to_read (k + 1) w.ds r after → Ready bs gl lo lw va after t
then_ready w k r i =
    record {
      to_read = w.to_read;
      ds = draws_of (tree_at w.to_read (k + 1)) w.ds;
      seeds_ok = draws_ok w.to_read.model _ (first_fits w.to_read (k + 1)) w.ds w.seeds_ok;
      shows_seeds = i.drew;
    }
