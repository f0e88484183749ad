-- One turn of a loop over the branches of a TRY, and what the claim of a branch is. Assumes nothing.
use mathlib.Core.Path.{◌≡◌, refl, sym, ◌∙◌}
use mathlib.Core.List.{List, [], ◌∷◌}
use mathlib.Core.Bool.{Bool, true, false, ◌&&◌, ◌||◌, not}
use Prim.Native.Nat.{ℕ, zero, suc, ◌+◌, ◌*◌, ◌-◌, ◌≤◌, ◌<◌}
use native.Mathlib.Numerals.{sub-one}
use native.Mathlib.Omega.{arith}
use borrow.Author.Tests.{leb-true, le-leb, lt-leb}
use lib.Dec.{leb, eqb}
use lib.ListN.{length, take, drop, get_or, length-drop}
use lib.Seq.{get_or-take, get_or-drop, length-take-le}
use Rattle.semantics.specs.Words.{all, any}
use Rattle.semantics.specs.Bytes.{u16}
use Rattle.semantics.specs.Record.{branch_size, branches_from, branches_fit}
use Rattle.file_check_parts.proofs.Laws.{rest_of}

pub and_left : (a b : Bool) → (a && b) ≡ true → a ≡ true
and_left true b e = refl
and_left false b e = e

pub and_right : (a b : Bool) → (a && b) ≡ true → b ≡ true
and_right true b e = e
and_right false b e = absurd (let z : ◌≡◌ {A = ℕ} 0 1 = cc in omega arith)

from_cons : (n : ℕ) (bs : List ℕ) → 0 < n → branches_from n bs ≡ take (branch_size bs) bs ∷ branches_from (n - 1) (drop
    (branch_size bs) bs)
unfolding branches_from
from_cons zero bs h = absurd (omega arith)
from_cons (suc n) bs h = rw (sub-one (suc n))

from_none : (n : ℕ) (bs : List ℕ) → n ≡ 0 → branches_from n bs ≡ []
unfolding branches_from
from_none n bs h = rw h

pub fit_cons : (n : ℕ) (bs : List ℕ) → 0 < n → branches_fit n bs ≡ (leb 4 (length bs) && (leb (branch_size bs)
    (length bs) && branches_fit (n - 1) (drop (branch_size bs) bs)))
unfolding branches_fit
fit_cons zero bs h = absurd (omega arith)
fit_cons (suc n) bs h = rw (sub-one (suc n))

pub fit_none : (n : ℕ) (bs : List ℕ) → n ≡ 0 → branches_fit n bs ≡ eqb (length bs) 0
unfolding branches_fit
fit_none n bs h = rw h

-- Of n branches i are behind, and there is one more.
module _ (n i : ℕ) (bs : List ℕ) (h : i < n) where
  one_less : n - i - 1 ≡ n - (i + 1)
  one_less = omega arith

  fit_next : branches_fit (n - i) bs ≡ (leb 4 (length bs) && (leb (branch_size bs) (length bs) && branches_fit (n -
      (i + 1)) (drop (branch_size bs) bs)))
  fit_next = fit_cons (n - i) bs (omega arith) ∙ rw one_less refl

  from_next : branches_from (n - i) bs ≡ take (branch_size bs) bs ∷ branches_from (n - (i + 1)) (drop (branch_size bs) bs)
  from_next = from_cons (n - i) bs (omega arith) ∙ rw one_less refl

  -- It doesn't fit.
  pub lacks_head : length bs < 4 → branches_fit (n - i) bs ≡ false
  lacks_head l = rw (fit_next, lt-leb _ _ l) refl

  pub lacks_claim : (z : ℕ) → z ≡ branch_size bs → 4 ≤ length bs → length bs < z → branches_fit (n - i) bs ≡ false
  lacks_claim z e f l = rw (fit_next, le-leb _ _ f, ← e, lt-leb _ _ l) refl

  -- It does.
  module _ (z : ℕ) (e : z ≡ branch_size bs) where
    pub fit_on : 4 ≤ length bs → z ≤ length bs → branches_fit (n - i) bs ≡ branches_fit (n - (i + 1)) (drop z bs)
    fit_on f l = rw (fit_next, le-leb _ _ f, ← e, le-leb _ _ l) refl

    module _ (o : branches_fit (n - i) bs ≡ true) where
      split : (leb 4 (length bs) && (leb (branch_size bs) (length bs) && branches_fit (n - (i + 1)) (drop (branch_size bs) bs))) ≡ true
      split = sym fit_next ∙ o

      pub fit_four : 4 ≤ length bs
      fit_four = leb-true _ _ (and_left (leb 4 (length bs)) _ split)

      pub fit_size : z ≤ length bs
      fit_size = rw e (leb-true _ _ (and_left (leb (branch_size bs) (length bs)) _ (and_right (leb 4 (length bs)) _ split)))

      pub fit_turn : branches_fit (n - (i + 1)) (drop z bs) ≡ true
      fit_turn = sym (fit_on fit_four fit_size) ∙ o

    pub all_on : (p : List ℕ → Bool) → p (take z bs) ≡ true → all p (branches_from (n - i) bs) ≡ all p (branches_from (n -
        (i + 1)) (drop z bs))
    all_on p t = rw (from_next, ← e, t) refl

    pub all_fail : (p : List ℕ → Bool) → p (take z bs) ≡ false → all p (branches_from (n - i) bs) ≡ false
    all_fail p t = rw (from_next, ← e, t) refl

    -- the branch's slice has the branch's size
    branch_count : (k : ℕ) → k < 4 → 4 ≤ z → get_or (take z bs) k 0 ≡ get_or bs k 0
    branch_count k l f = get_or-take z bs k 0 (omega arith)

    pub branch_fits : 4 ≤ z → z ≤ length bs → branch_size (take z bs) ≤ length (take z bs)
    branch_fits f g = omega (arith, length-take-le z bs g, branch_count 2 (omega arith) f, branch_count 3 (omega arith) f)

-- There is none.
module _ (n i : ℕ) (bs : List ℕ) (h : n ≤ i) where
  pub fit_end : branches_fit (n - i) bs ≡ eqb (length bs) 0
  fit_end = fit_none (n - i) bs (omega arith)

  pub all_end : (p : List ℕ → Bool) → all p (branches_from (n - i) bs) ≡ true
  all_end p = rw (from_none (n - i) bs (omega arith)) refl

-- The claim of a branch has its size.
pub claim_fits : (b : List ℕ) → 4 ≤ length b → branch_size b ≤ length b → (2 ≤ length (take (length b - 2) (drop 2 b))) ×
    (2 + 8 * u16 (take (length b - 2) (drop 2 b)) 0 ≤ length (take (length b - 2) (drop 2 b)))
claim_fits b h e =
    let l = length-drop 2 b in
    rw (rest_of 2 b) (omega arith, omega (arith, get_or-drop 2 b 0 0, get_or-drop 2 b 1 0))

-- Something is among them where not all of them are otherwise.
pub any-not : (p q : List ℕ → Bool) → ((b : List ℕ) → q b ≡ not (p b)) → (bs : List (List ℕ)) → any p bs ≡ not (all q bs)
any-not p q e [] = refl
any-not p q e (b ∷ bs) = rw (e b) (go (p b) (any-not p q e bs))
  where
    go : (x : Bool) → any p bs ≡ not (all q bs) → x || any p bs ≡ not (not x && all q bs)
    go true ih = refl
    go false ih = ih
