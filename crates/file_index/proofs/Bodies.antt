-- What the kind of a fine record tells of its body, and how many blocks it names. Assumes nothing.
use mathlib.Core.Path.{◌≡◌, refl, ◌∙◌, ap}
use mathlib.Core.List.{List, [], ◌∷◌}
use mathlib.Core.Bool.{Bool, true, false}
use Prim.Native.Nat.{ℕ, zero, suc, ◌+◌, ◌-◌, ◌≤◌}
use native.Mathlib.Omega.{arith}
use borrow.Author.Tests.{leb-true, leb-false, eqb-true, ne_eqb}
use lib.Dec.{eqb, leb}
use lib.ListN.{length, get_or, drop, length-map}
use lib.IntN.{pos, ◌-ℤ◌}
use lib.Signed.{le_z}
use Rattle.semantics.specs.Words.{within}
use Rattle.semantics.specs.Numbers as No
use Rattle.semantics.specs.Kinds as K
use Rattle.semantics.specs.Bytes.{u16, u32, i32}
use Rattle.semantics.specs.Record.{item, list_sized, list_valid, branches_from, branches_fit, Tail, branches, claim, sized, valid}
use Rattle.semantics.specs.Record.{sampler_of, sampler_valid, of_sampler, row_of}
use Rattle.semantics.specs.Generator.{values_in}
use Rattle.promises.specs.Laws.{and-true, if_has}
use Rattle.base_i32.specs.Code.{code}
use Rattle.base_i32.specs.Laws.{code_order, code_above, signed_fits}
use Rattle.file_index.specs.Index.{Judged, given, acts, branch_blocks, goes_in}
use Rattle.file_index.specs.Branches.{Offered, offered, offered_at, offered_try, offered_in}
use Rattle.file_index.proofs.Records.{sized_by}
use Rattle.file_index.proofs.Filled.{given_few}

-- BODIES by kind.
head_5 : (row_of K.CLASS).head ≡ 2
unfolding row_of
head_5 = refl

head_8 : (row_of K.SAMPLER).head ≡ 12
unfolding row_of
head_8 = refl

field_8 : (row_of K.SAMPLER).field ≡ of_sampler
unfolding row_of
field_8 = refl

head_20 : (row_of K.DO).head ≡ 4
unfolding row_of
head_20 = refl

head_27 : (row_of K.WHILE).head ≡ 2
unfolding row_of
head_27 = refl

head_28 : (row_of K.START).head ≡ 6
unfolding row_of
head_28 = refl

head_25 : (row_of K.REQ).head ≡ 0
unfolding row_of
head_25 = refl

head_26 : (row_of K.TRY).head ≡ 0
unfolding row_of
head_26 = refl

tail_25 : (row_of K.REQ).tail ≡ claim
unfolding row_of
tail_25 = refl

tail_26 : (row_of K.TRY).tail ≡ branches
unfolding row_of
tail_26 = refl

tail_27 : (row_of K.WHILE).tail ≡ claim
unfolding row_of
tail_27 = refl

module _ {k : ℕ} {bs : List ℕ} (g : Judged k bs) where
  pub head_at : {j h : ℕ} → (row_of j).head ≡ h → k ≡ j → h ≤ length bs
  head_at i e = omega (arith, (sized_by (row_of k) bs g.body_judged).head_there, i, ap (λ x. (row_of x).head) e)

  pub class_head : k ≡ K.CLASS → 2 ≤ length bs
  class_head = head_at head_5

  pub sampler_head : k ≡ K.SAMPLER → 12 ≤ length bs
  sampler_head = head_at head_8

  pub sampler_judged : k ≡ K.SAMPLER → sampler_valid (sampler_of bs) ≡ true
  sampler_judged e =
      rw (ap (λ x. (row_of x).field) e ∙ field_8) at (sized_by (row_of k) bs g.body_judged).field_valid

  pub do_head : k ≡ K.DO → 4 ≤ length bs
  do_head = head_at head_20

  pub while_head : k ≡ K.WHILE → 2 ≤ length bs
  while_head = head_at head_27

  pub start_head : k ≡ K.START → 6 ≤ length bs
  start_head = head_at head_28

  tail_at : {j h : ℕ} {t : Tail} → (row_of j).head ≡ h → (row_of j).tail ≡ t → k ≡ j →
      (sized t (drop h bs) ≡ true) × (valid t (drop h bs) ≡ true)
  tail_at i j e =
      let s = sized_by (row_of k) bs g.body_judged in
      let x = ap (λ x. (row_of x).head) e ∙ i in
      let y = ap (λ x. (row_of x).tail) e ∙ j in
      (rw (x, y) at s.tail_sized, rw (x, y) at s.tail_valid)

  pub req_sized : k ≡ K.REQ → (list_sized item bs ≡ true) × (list_valid item bs ≡ true)
  req_sized = tail_at head_25 tail_25

  pub try_sized : k ≡ K.TRY → (sized branches bs ≡ true) × (valid branches bs ≡ true)
  try_sized = tail_at head_26 tail_26

  pub while_sized : k ≡ K.WHILE → (list_sized item (drop 2 bs) ≡ true) × (list_valid item (drop 2 bs) ≡ true)
  while_sized = tail_at head_27 tail_27

  -- the branches are counted, at most 4, and end with the body
  pub try_fits : k ≡ K.TRY → (2 ≤ length bs) × ((u16 bs 0 ≤ 4) × (branches_fit (u16 bs 0) (drop 2 bs) ≡ true))
  try_fits e =
      let s = try_sized e in
      let a = and-true (leb 2 (length bs)) _ s.0 in
      let v = and-true (within 1 4 (u16 bs 0)) _ s.1 in
      let w = and-true (leb 1 (u16 bs 0)) _ v.0 in
      (leb-true 2 (length bs) a.0, (leb-true (u16 bs 0) 4 w.1, a.1))

-- THE VALUES of a sampler, by the codes of the lowest and the highest.
module _ (bs : List ℕ) (v : sampler_valid (sampler_of bs) ≡ true) where
  abbrev low : ℕ
  low = code (i32 bs 0)

  abbrev high : ℕ
  high = code (i32 bs 4)

  pub low_first : low ≤ high
  low_first =
      let a = and-true (le_z (i32 bs 0) (i32 bs 4)) _ v in
      leb-true low high (code_order (i32 bs 0) (i32 bs 4) (signed_fits (u32 bs 0)) (signed_fits (u32 bs 4)) ∙ a.0)

  apart : i32 bs 4 -ℤ i32 bs 0 ≡ pos (high - low)
  apart = code_above (i32 bs 0) (i32 bs 4) (signed_fits (u32 bs 0)) (signed_fits (u32 bs 4)) low_first

  pub values_few : high - low ≤ No.top_spread
  values_few =
      let a = and-true (le_z (i32 bs 0) (i32 bs 4)) _ v in
      let b = and-true (le_z (i32 bs 4 -ℤ i32 bs 0) (pos No.top_spread)) _ a.1 in
      leb-true (high - low) No.top_spread (rw apart at b.0)

  pub values_are : high - low + 1 ≡ values_in (i32 bs 0) (i32 bs 4)
  values_are = rw apart

-- NAMES: at most 4 blocks.
branches_many : (n : ℕ) (bs : List ℕ) → length (branches_from n bs) ≡ n
unfolding branches_from
branches_many zero bs = refl
branches_many (suc n) bs = ap suc (branches_many n _)

blocks_many : (bs : List ℕ) → length (branch_blocks bs) ≡ u16 bs 0
unfolding branch_blocks
blocks_many bs = length-map (branches_from (u16 bs 0) (drop 2 bs)) _ ∙ branches_many (u16 bs 0) (drop 2 bs)

pub goes_few : (start : Bool) (bodies : List ℕ) (k : ℕ) (bs : List ℕ) → Judged k bs → length (goes_in start bodies k bs) ≤ 4
unfolding goes_in
goes_few start bodies k bs g =
    if_has (λ (l : List ℕ). length l ≤ 4) (eqb k K.DO) (λ e. omega arith)
    (λ e. if_has (λ (l : List ℕ). length l ≤ 4) (eqb k K.WHILE) (λ f. omega arith)
    (λ f. if_has (λ (l : List ℕ). length l ≤ 4) (eqb k K.TRY)
    (λ i. omega (arith, blocks_many bs, (try_fits g (eqb-true k K.TRY i)).1.0))
    (λ i. if_has (λ (l : List ℕ). length l ≤ 4) (eqb k K.START)
    (λ j. omega (arith, given_few start (get_or bodies (u16 bs 0) 0))) (λ j. omega arith))))

-- BRANCHES: at most 4.
offered_many : (at : ℕ) (bs : List (List ℕ)) → length (offered_at at bs) ≡ length bs
unfolding offered_at
offered_many at [] = refl
offered_many at (b ∷ bs) = ap suc (offered_many (at + length b) bs)

pub try_many : (at : ℕ) (bs : List ℕ) → length (offered_try at bs) ≡ u16 bs 0
unfolding offered_try
try_many at bs =
    offered_many (at + 2) (branches_from (u16 bs 0) (drop 2 bs)) ∙ branches_many (u16 bs 0) (drop 2 bs)

pub offered_few : (at k : ℕ) (bs : List ℕ) → Judged k bs → length (offered_in at k bs) ≤ 4
unfolding offered_in
offered_few at k bs g =
    if_has (λ (l : List Offered). length l ≤ 4) (eqb k K.REQ) (λ e. omega arith)
    (λ e. if_has (λ (l : List Offered). length l ≤ 4) (eqb k K.TRY)
    (λ f. omega (arith, try_many at bs, (try_fits g (eqb-true k K.TRY f)).1.0))
    (λ f. if_has (λ (l : List Offered). length l ≤ 4) (eqb k K.WHILE) (λ i. omega arith) (λ i. omega arith)))

-- NAMES, kind by kind.
module _ (start : Bool) (bodies : List ℕ) (k : ℕ) (bs : List ℕ) where
  pub goes_do : k ≡ K.DO → goes_in start bodies k bs ≡ u16 bs 2 ∷ []
  unfolding goes_in
  goes_do e = rw e

  pub goes_while : k ≡ K.WHILE → goes_in start bodies k bs ≡ u16 bs 0 ∷ []
  unfolding goes_in
  goes_while e = rw e

  pub goes_try : k ≡ K.TRY → goes_in start bodies k bs ≡ branch_blocks bs
  unfolding goes_in
  goes_try e = rw e

  pub goes_start : k ≡ K.START → goes_in start bodies k bs ≡ given start (get_or bodies (u16 bs 0) 0)
  unfolding goes_in
  goes_start e = rw e

  pub goes_other : (k ≡ K.DO → ⊥) → (k ≡ K.WHILE → ⊥) → (k ≡ K.TRY → ⊥) → (k ≡ K.START → ⊥) → goes_in start bodies k bs ≡ []
  unfolding goes_in
  goes_other e f g h = rw (ne_eqb k K.DO e, ne_eqb k K.WHILE f, ne_eqb k K.TRY g, ne_eqb k K.START h)

  pub goes_none : acts k ≡ false → goes_in start bodies k bs ≡ []
  goes_none e =
      let h = leb-false K.HOLD k e in
      goes_other (λ f. omega arith) (λ f. omega arith) (λ f. omega arith) (λ f. omega arith)

-- BRANCHES, kind by kind.
module _ (at k : ℕ) (bs : List ℕ) where
  pub offered_req : k ≡ K.REQ → offered_in at k bs ≡ offered at bs ∷ []
  unfolding offered_in
  offered_req e = rw e

  pub offered_try_lem : k ≡ K.TRY → offered_in at k bs ≡ offered_try at bs
  unfolding offered_in
  offered_try_lem e = rw e

  pub offered_while : k ≡ K.WHILE → offered_in at k bs ≡ offered (at + 2) (drop 2 bs) ∷ []
  unfolding offered_in
  offered_while e = rw e

  pub offered_other : (k ≡ K.REQ → ⊥) → (k ≡ K.TRY → ⊥) → (k ≡ K.WHILE → ⊥) → offered_in at k bs ≡ []
  unfolding offered_in
  offered_other e f g = rw (ne_eqb k K.REQ e, ne_eqb k K.TRY f, ne_eqb k K.WHILE g)

  pub offered_none : acts k ≡ false → offered_in at k bs ≡ []
  offered_none e =
      let h = leb-false K.HOLD k e in offered_other (λ f. omega arith) (λ f. omega arith) (λ f. omega arith)
