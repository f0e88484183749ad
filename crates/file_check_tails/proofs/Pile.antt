-- The height of a pile of trees, node by node from the last. Assumes nothing.
use mathlib.Core.Path.{◌≡◌, refl, sym, ◌∙◌, ap}
use mathlib.Core.List.{List, [], ◌∷◌}
use mathlib.Core.Option.{Option, none, some}
use Prim.Native.Nat.{ℕ, zero, suc, ◌+◌, ◌*◌, ◌-◌, ◌≤◌, ◌<◌}
use native.Mathlib.Omega.{arith}
use native.Mathlib.Nat.{add-zero}
use borrow.Author.Tests.{le-leb, lt-leb}
use lib.Dec.{eqb, eqb-suc-suc}
use lib.ListN.{length, take, drop, get_or}
use lib.Seq.{get_or-take, get_or-drop, drop-drop}
use Rattle.semantics.specs.Model.{Expr}
use Rattle.semantics.specs.Bytes.{parts, u16, u32}
use Rattle.semantics.specs.Record.{Node, leaf, unary, binary, node_of, onto, pile, one_tree}
use Rattle.file_check_parts.proofs.Laws.{parts-cons, parts_none}
use Rattle.file_check_tails.specs.Tails.{arity, height_of, grown_by}

-- How many trees a node takes off; the two tables agree.
takes : Node → ℕ
takes (leaf e) = 0
takes (unary f) = 1
takes (binary f) = 2

agree : (v op : ℕ) → takes (node_of op v) ≡ arity op
unfolding takes arity
agree v zero = refl
agree v (suc zero) = refl
agree v (suc (suc zero)) = refl
agree v (suc (suc (suc zero))) = refl
agree v (suc (suc (suc (suc zero)))) = refl
agree v (suc (suc (suc (suc (suc zero))))) = refl
agree v (suc (suc (suc (suc (suc (suc zero)))))) = refl
agree v (suc (suc (suc (suc (suc (suc (suc zero))))))) = refl
agree v (suc (suc (suc (suc (suc (suc (suc (suc zero)))))))) = refl
agree v (suc (suc (suc (suc (suc (suc (suc (suc (suc zero))))))))) = refl
agree v (suc (suc (suc (suc (suc (suc (suc (suc (suc (suc zero)))))))))) = refl
agree v (suc (suc (suc (suc (suc (suc (suc (suc (suc (suc (suc op))))))))))) = refl

takes_small : (n : Node) → takes n ≤ 2
unfolding takes
takes_small (leaf e) = omega arith
takes_small (unary f) = omega arith
takes_small (binary f) = omega arith

pub arity_small : (op : ℕ) → arity op ≤ 2
arity_small op = omega (arith, agree 0 op, takes_small (node_of op 0))

-- One node more.
grown_yes : (a h : ℕ) → a + 1 ≤ h → grown_by a h ≡ h + 1 - a
unfolding grown_by
grown_yes a h e = rw (le-leb (a + 1) h e)

grown_no : (a h : ℕ) → h < a + 1 → grown_by a h ≡ 0
unfolding grown_by
grown_no a h e = rw (lt-leb (a + 1) h e)

onto_height : (nd : Node) (es : List Expr) → height_of (onto nd es) ≡ grown_by (takes nd) (suc (length es))
unfolding takes
onto_height (leaf e) es = omega (arith, grown_yes 0 (suc (length es)) (omega arith))
onto_height (unary f) [] = sym (grown_no 1 1 (omega arith))
onto_height (unary f) (a ∷ es) = omega (arith, grown_yes 1 (suc (suc (length es))) (omega arith))
onto_height (binary f) [] = sym (grown_no 2 1 (omega arith))
onto_height (binary f) (a ∷ []) = sym (grown_no 2 2 (omega arith))
onto_height (binary f) (a ∷ b ∷ es) = omega (arith, grown_yes 2 (suc (suc (suc (length es)))) (omega arith))

height_over : (n : List ℕ) (q : Option (List Expr)) → height_of (elim q [
  | none ↦ none
  | some es ↦ onto (node_of (u16 n 0)
      (u32 n 2)) es
]) ≡ grown_by (arity (u16 n 0)) (height_of q)
height_over n none = sym (grown_no (arity (u16 n 0)) 0 (omega arith))
height_over n (some es) =
    onto_height (node_of (u16 n 0) (u32 n 2)) es ∙ ap (λ (a : ℕ). grown_by a (suc (length es))) (agree (u32 n 2) (u16 n 0))

height_more : (n : List ℕ) (ns : List (List ℕ)) → height_of (pile (n ∷ ns)) ≡ grown_by (arity (u16 n 0)) (height_of (pile ns))
unfolding pile
height_more n ns = height_over n (pile ns)

front : (bs : List ℕ) (at : ℕ) → u16 (take 6 (drop at bs)) 0 ≡ u16 bs at
front bs at =
    let x : get_or (take 6 (drop at bs)) 0 0 ≡ get_or bs at 0 =
    get_or-take 6 (drop at bs) 0 0 (omega arith) ∙ get_or-drop at bs 0 0 ∙ ap (λ (i : ℕ). get_or bs i 0) (add-zero at) in
    let y : get_or (take 6 (drop at bs)) 1 0 ≡ get_or bs (at + 1) 0 =
    get_or-take 6 (drop at bs) 1 0 (omega arith) ∙ get_or-drop at bs 1 0 in
    omega arith

-- Of n nodes, those from the k-th on: one more, none, all.
abbrev height_from : ℕ → ℕ → List ℕ → ℕ
height_from n k bs = height_of (pile (parts 6 (n - k) (drop (6 * k) bs)))

pub height_turn : (n k : ℕ) (bs : List ℕ) → 0 < k → k ≤ n → height_from n (k - 1) bs ≡ grown_by (arity (u16 bs (6 *
    (k - 1)))) (height_from n k bs)
height_turn n k bs h m =
    let i : n - (k - 1) - 1 ≡ n - k = omega arith in
    let j : 6 * (k - 1) + 6 ≡ 6 * k = omega arith in
    let rest : List (List ℕ) = parts 6 (n - k) (drop (6 * k) bs) in
    let e : parts 6 (n - (k - 1)) (drop (6 * (k - 1)) bs) ≡ take 6 (drop (6 * (k - 1)) bs) ∷ parts 6 (n - k) (drop
    (6 * k) bs) =
    rw (parts-cons 6 (n - (k - 1)) (drop (6 * (k - 1)) bs) (omega arith), i, drop-drop 6 (6 * (k - 1)) bs, j) in
    rw e (height_more (take 6 (drop (6 * (k - 1)) bs)) rest ∙ ap (λ (o : ℕ). grown_by (arity o) (height_of (pile rest)))
    (front bs (6 * (k - 1))))

pub height_none : (n : ℕ) (bs : List ℕ) → height_from n n bs ≡ 1
unfolding pile
height_none n bs = rw (parts_none 6 (n - n) (drop (6 * n) bs) (omega arith))

pub height_all : (n k : ℕ) (bs : List ℕ) → k ≡ 0 → height_from n k bs ≡ height_of (pile (parts 6 n bs))
height_all n k bs h = rw h (ap (λ (i : ℕ). height_of (pile (parts 6 i bs))) (omega arith))

pub tree_height : (q : Option (List Expr)) → one_tree q ≡ eqb (height_of q) 2
tree_height none = refl
tree_height (some es) = sym (eqb-suc-suc (length es) 1)
