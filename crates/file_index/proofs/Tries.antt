-- One turn of the loops over the branches of a TRY, which write the block of each, and its claim. Assumes nothing.
use mathlib.Core.Path.{◌≡◌, sym, ◌∙◌, ap}
use mathlib.Core.List.{List, [], ◌∷◌, ◌++◌, map}
use mathlib.Core.Bool.{true, ◌&&◌}
use Prim.Native.Nat.{ℕ, zero, suc, ◌+◌, ◌-◌, ◌≤◌, ◌<◌}
use native.Mathlib.Numerals.{sub-one}
use native.Mathlib.Omega.{arith}
use borrow.Author.Tests.{leb-true}
use lib.Dec.{leb}
use lib.ListN.{length, take, drop, length-drop}
use lib.Seq.{get_or-take, get_or-drop, length-take-le, take-nil}
use Rattle.semantics.specs.Bytes.{u16}
use Rattle.semantics.specs.Record.{branch_size, branches_from, branches_fit}
use Rattle.promises.specs.Laws.{and-true}
use Rattle.file_check_parts.proofs.Laws.{rest_of}
use Rattle.file_index.specs.Branches.{Claimed, offered, offered_at}
use Rattle.file_index.proofs.Filled.{Fills, Next}

abbrev pub blocks_from : ℕ → List ℕ → List ℕ
blocks_from n bs = map (λ b. u16 b 0) (branches_from n bs)

first_two : (z : ℕ) (bs : List ℕ) → 4 ≤ z → u16 (take z bs) 0 ≡ u16 bs 0
first_two z bs h = omega (arith, get_or-take z bs 0 0 (omega arith), get_or-take z bs 1 0 (omega arith))

blocks_cons : (n : ℕ) (bs : List ℕ) → 0 < n → blocks_from n bs ≡ u16 bs 0 ∷ blocks_from (n - 1) (drop (branch_size bs) bs)
unfolding branches_from
blocks_cons zero bs h = absurd (omega arith)
blocks_cons (suc n) bs h = rw (sub-one (suc n), first_two (branch_size bs) bs (omega arith))

pub blocks_none : (n : ℕ) (bs : List ℕ) → n ≡ 0 → blocks_from n bs ≡ []
unfolding branches_from
blocks_none n bs h = rw h

pub drop-take : (k m : ℕ) (bs : List ℕ) → drop k (take (k + m) bs) ≡ take m (drop k bs)
drop-take zero m bs = let e : 0 + m ≡ m = omega arith in rw e
drop-take (suc k) m [] = let e : suc k + m ≡ suc (k + m) = omega arith in rw e (sym (take-nil m))
drop-take (suc k) m (x ∷ bs) = let e : suc k + m ≡ suc (k + m) = omega arith in rw e (drop-take k m bs)

pub offered_none_left : (at n : ℕ) (bs : List ℕ) → n ≡ 0 → offered_at at (branches_from n bs) ≡ []
unfolding offered_at branches_from
offered_none_left at n bs h = rw h

-- There is one more branch, and it fits.
module _ (n : ℕ) (bs : List ℕ) (h : 0 < n) (e : branches_fit n bs ≡ true) where
  fit_cons : (n : ℕ) → 0 < n → branches_fit n bs ≡ true →
      (leb 4 (length bs) && (leb (branch_size bs) (length bs) && branches_fit (n - 1) (drop (branch_size bs) bs))) ≡ true
  unfolding branches_fit
  fit_cons zero h e = absurd (omega arith)
  fit_cons (suc n) h e = rw (sub-one (suc n)) e

  pub fit_four : 4 ≤ length bs
  fit_four = leb-true 4 (length bs) (and-true (leb 4 (length bs)) _ (fit_cons n h e)).0

  fit_rest : (leb (branch_size bs) (length bs) ≡ true) × (branches_fit (n - 1) (drop (branch_size bs) bs) ≡ true)
  fit_rest = and-true (leb (branch_size bs) (length bs)) _ (and-true (leb 4 (length bs)) _ (fit_cons n h e)).1

  pub fit_size : branch_size bs ≤ length bs
  fit_size = leb-true (branch_size bs) (length bs) fit_rest.0

  module _ {z : ℕ} (i : z ≡ branch_size bs) where
    pub fit_turn : branches_fit (n - 1) (take (length bs - z) (drop z bs)) ≡ true
    fit_turn = rw (rest_of z bs, i) fit_rest.1

    -- the block of this branch, and those behind it
    pub blocks_turn : {v : ℕ} → v ≡ u16 bs 0 → blocks_from n bs ≡ v ∷ blocks_from (n - 1) (take (length bs - z) (drop z bs))
    blocks_turn j = rw (rest_of z bs, i, j) (blocks_cons n bs h)

    -- what is left ends where it did
    pub end_turn : (at end : ℕ) → at + length bs ≤ end → at + z + length (take (length bs - z) (drop z bs)) ≤ end
    end_turn at end l = rw (rest_of z bs) (omega (arith, fit_size, length-drop z bs))

    -- the claim of this branch
    abbrev claim : List ℕ
    claim = take (z - 2) (drop 2 bs)

    claim_long : length claim ≡ z - 2
    claim_long = length-take-le (z - 2) (drop 2 bs) (omega (arith, fit_size, length-drop 2 bs))

    pub claim_there : Claimed claim
    claim_there =
        let a = get_or-take (z - 2) (drop 2 bs) 0 0 (omega arith) ∙ get_or-drop 2 bs 0 0 in
        let b = get_or-take (z - 2) (drop 2 bs) 1 0 (omega arith) ∙ get_or-drop 2 bs 1 0 in
        record { counted = omega (arith, claim_long); fits = omega (arith, a, b, claim_long) }

    claim_cut : drop 2 (take (branch_size bs) bs) ≡ claim
    claim_cut =
        let w : branch_size bs ≡ 2 + (z - 2) = omega arith in
        ap (λ k. drop 2 (take k bs)) w ∙ drop-take 2 (z - 2) bs

    -- this branch as it is offered, and those behind it
    offered-cons : (at n : ℕ) → 0 < n →
        offered_at at (branches_from n bs)
        ≡ offered (at + 2) claim ∷ offered_at (at + z) (branches_from (n - 1) (drop z bs))
    unfolding offered_at branches_from
    offered-cons at zero l = absurd (omega arith)
    offered-cons at (suc n) l =
        rw (sub-one (suc n), claim_cut, length-take-le (branch_size bs) bs fit_size, i)

    pub offered_turn : (at : ℕ) → offered_at at (branches_from n bs)
        ≡ (offered (at + 2) claim ∷ []) ++ offered_at (at + z) (branches_from (n - 1) (take (length bs - z) (drop z bs)))
    offered_turn at = rw (rest_of z bs) (offered-cons at n h)

pub turned : {base : List ℕ} {m : ℕ} {all out : List ℕ} {at v : ℕ} {l left : List ℕ} → l ≡ v ∷ left →
    Fills base m all out at l → Next base m all out at (v ∷ []) left
turned e f = record { fills = rw e at f }

-- OF n BRANCHES i are behind.
pub left_some : {m n i : ℕ} → m ≡ n → i < m → 0 < n - i
left_some e h = omega arith

pub left_none : {m n i : ℕ} → m ≡ n → m ≤ i → n - i ≡ 0
left_none e h = omega arith

pub left_less : (n i : ℕ) → n - i - 1 ≡ n - (i + 1)
left_less n i = omega arith

pub left_all : (n : ℕ) → n - 0 ≡ n
left_all n = omega arith
