-- The table of kinds as the code's numbers. Assumes nothing.
use Rattle.std.specs.Prelude.{if◌then◌else◌}
use mathlib.Core.Path.{◌≡◌, refl}
use mathlib.Core.List.{List, [], ◌∷◌}
use mathlib.Core.Bool.{Bool, true, false, ◌&&◌}
use Prim.Native.Nat.{ℕ, zero, suc, ◌+◌, ◌*◌, ◌≤◌, ◌<◌, ◌/◌, ◌%◌}
use native.Mathlib.Omega.{arith}
use borrow.Author.Tests.{ne_eqb, leb-true, eqb-true}
use lib.Dec.{leb, eqb}
use lib.ListN.{length, get_or}
use Rattle.semantics.specs.Words.{all}
use Rattle.semantics.specs.Kinds as K
use Rattle.semantics.specs.Record.{Row, Tail, nothing, expression, branches, list_of, item, share, table, no_row, row_in, row_of}
use Rattle.base_numbers.specs.Limit as Limit
use Rattle.base_numbers.specs.Group as Group
use Rattle.base_numbers.specs.Column as Column
use Rattle.file_check_tails.specs.Tails.{tail_of}
use Rattle.file_check_tails.proofs.Branches.{and_left, and_right}
use Rattle.file_check_record.specs.Rows.{column_of, field_size, field_at, naming_at, naming_of, tail_number}

-- A KIND PAST THE TABLE has no row.
low : Row → Bool
low r = leb r.kind K.CLOSE

past : (rs : List Row) (k : ℕ) → all low rs ≡ true → Column.KINDS ≤ k → row_in rs k ≡ no_row
unfolding low
past [] k e h = refl
past (r ∷ rs) k e h =
    let l : r.kind ≤ K.CLOSE = leb-true _ _ (and_left (leb r.kind K.CLOSE) (all low rs) e) in
    rw (ne_eqb k r.kind (λ (q : k ≡ r.kind). omega arith)) (past rs k (and_right (leb r.kind K.CLOSE) (all low rs) e) h)

pub row_past : (k : ℕ) → Column.KINDS ≤ k → row_of k ≡ no_row
unfolding row_of low
row_past k h = past table k refl h

-- What a test finds of each row it finds of the row of any kind.
choice : (t : Bool) (ok : Row → Bool) (r q : Row) → ok r ≡ true → ok q ≡ true → ok (if t then r else q) ≡ true
choice true ok r q e f = e
choice false ok r q e f = f

pub holds : (ok : Row → Bool) (rs : List Row) → all ok rs ≡ true → ok no_row ≡ true → (k : ℕ) → ok (row_in rs k) ≡ true
holds ok [] e f k = f
holds ok (r ∷ rs) e f k =
    choice (eqb k r.kind) ok r (row_in rs k) (and_left (ok r) (all ok rs) e)
    (holds ok rs (and_right (ok r) (all ok rs) e) f k)

pub group_small : (k : ℕ) → (row_of k).group ≤ K.ACTION
unfolding row_of
group_small k = leb-true _ _ (holds (λ r. leb r.group K.ACTION) table refl refl k)

pub most_small : (k : ℕ) → (row_of k).most ≤ Limit.ACTIONS
unfolding row_of
most_small k = leb-true _ _ (holds (λ r. leb r.most Limit.ACTIONS) table refl refl k)

pub field_in : (k : ℕ) → field_at (row_of k).field + field_size (row_of k).field ≤ (row_of k).head
unfolding row_of
field_in k = leb-true _ _ (holds (λ r. leb (field_at r.field + field_size r.field) r.head) table refl refl k)

pub naming_in : (k : ℕ) → (naming_of (row_of k).naming ≡ 0 → ⊥) → naming_at (row_of k).naming + 2 ≤ (row_of k).head
unfolding row_of
naming_in k f =
    go (eqb (naming_of (row_of k).naming) 0) refl
    (holds (λ r. if eqb (naming_of r.naming) 0 then true else leb (naming_at r.naming + 2) r.head) table refl refl k)
  where
    go : (b : Bool) → eqb (naming_of (row_of k).naming) 0 ≡ b →
        (if b then true else leb (naming_at (row_of k).naming + 2) (row_of k).head) ≡ true →
        naming_at (row_of k).naming + 2 ≤ (row_of k).head
    go true e h = absurd (f (eqb-true _ _ e))
    go false e h = leb-true _ _ h

pub naming_small : (k : ℕ) → naming_of (row_of k).naming ≤ Group.LOCAL
unfolding row_of
naming_small k = leb-true _ _ (holds (λ r. leb (naming_of r.naming) Group.LOCAL) table refl refl k)

-- THE NUMBERS, each held to its row by one computed test.
abbrev entries : List ℕ
entries =
    0 ∷ 0 ∷ 0 ∷ 0 ∷ 0 ∷ 0 ∷ 0 ∷ 0 ∷ 0 ∷ 0
    ∷ 1 ∷ 32 ∷ 4 ∷ 4 ∷ 0 ∷ 0 ∷ 1000000 ∷ 0 ∷ 0 ∷ 0
    ∷ 2 ∷ 32 ∷ 4 ∷ 4 ∷ 0 ∷ 0 ∷ 1000000 ∷ 0 ∷ 0 ∷ 0
    ∷ 3 ∷ 32 ∷ 0 ∷ 0 ∷ 0 ∷ 0 ∷ 0 ∷ 0 ∷ 0 ∷ 0
    ∷ 4 ∷ 32 ∷ 4 ∷ 0 ∷ 0 ∷ 0 ∷ 0 ∷ 0 ∷ 0 ∷ 0
    ∷ 5 ∷ 64 ∷ 2 ∷ 0 ∷ 0 ∷ 0 ∷ 0 ∷ 0 ∷ 6 ∷ 0
    ∷ 6 ∷ 256 ∷ 0 ∷ 0 ∷ 0 ∷ 0 ∷ 0 ∷ 0 ∷ 0 ∷ 0
    ∷ 7 ∷ 64 ∷ 6 ∷ 4 ∷ 2 ∷ 0 ∷ 1000000 ∷ 0 ∷ 5 ∷ 0
    ∷ 8 ∷ 16 ∷ 12 ∷ 12 ∷ 0 ∷ 0 ∷ 0 ∷ 0 ∷ 0 ∷ 0
    ∷ 0 ∷ 0 ∷ 0 ∷ 0 ∷ 0 ∷ 0 ∷ 0 ∷ 0 ∷ 0 ∷ 0
    ∷ 0 ∷ 0 ∷ 0 ∷ 0 ∷ 0 ∷ 0 ∷ 0 ∷ 0 ∷ 0 ∷ 0
    ∷ 0 ∷ 0 ∷ 0 ∷ 0 ∷ 0 ∷ 0 ∷ 0 ∷ 0 ∷ 0 ∷ 0
    ∷ 0 ∷ 0 ∷ 0 ∷ 0 ∷ 0 ∷ 0 ∷ 0 ∷ 0 ∷ 0 ∷ 0
    ∷ 0 ∷ 0 ∷ 0 ∷ 0 ∷ 0 ∷ 0 ∷ 0 ∷ 0 ∷ 0 ∷ 0
    ∷ 0 ∷ 0 ∷ 0 ∷ 0 ∷ 0 ∷ 0 ∷ 0 ∷ 0 ∷ 0 ∷ 0
    ∷ 0 ∷ 0 ∷ 0 ∷ 0 ∷ 0 ∷ 0 ∷ 0 ∷ 0 ∷ 0 ∷ 0
    ∷ 16 ∷ 1024 ∷ 0 ∷ 0 ∷ 0 ∷ 0 ∷ 0 ∷ 1 ∷ 0 ∷ 0
    ∷ 16 ∷ 1024 ∷ 0 ∷ 0 ∷ 0 ∷ 0 ∷ 0 ∷ 1 ∷ 0 ∷ 0
    ∷ 16 ∷ 1024 ∷ 2 ∷ 0 ∷ 0 ∷ 0 ∷ 0 ∷ 1 ∷ 4 ∷ 0
    ∷ 16 ∷ 1024 ∷ 2 ∷ 0 ∷ 0 ∷ 0 ∷ 0 ∷ 1 ∷ 17 ∷ 0
    ∷ 16 ∷ 1024 ∷ 4 ∷ 0 ∷ 0 ∷ 0 ∷ 0 ∷ 0 ∷ 6 ∷ 2
    ∷ 16 ∷ 1024 ∷ 6 ∷ 4 ∷ 2 ∷ 1 ∷ 1000000 ∷ 0 ∷ 1 ∷ 0
    ∷ 16 ∷ 1024 ∷ 6 ∷ 4 ∷ 2 ∷ 1 ∷ 1000000 ∷ 0 ∷ 2 ∷ 0
    ∷ 16 ∷ 1024 ∷ 4 ∷ 2 ∷ 2 ∷ 1 ∷ 64 ∷ 0 ∷ 3 ∷ 0
    ∷ 16 ∷ 1024 ∷ 2 ∷ 0 ∷ 0 ∷ 0 ∷ 0 ∷ 0 ∷ 3 ∷ 0
    ∷ 16 ∷ 1024 ∷ 0 ∷ 0 ∷ 0 ∷ 0 ∷ 0 ∷ 3 ∷ 0 ∷ 0
    ∷ 16 ∷ 1024 ∷ 0 ∷ 0 ∷ 0 ∷ 0 ∷ 0 ∷ 2 ∷ 0 ∷ 0
    ∷ 16 ∷ 1024 ∷ 2 ∷ 0 ∷ 0 ∷ 0 ∷ 0 ∷ 3 ∷ 6 ∷ 0
    ∷ 16 ∷ 1024 ∷ 6 ∷ 4 ∷ 2 ∷ 0 ∷ 1000000 ∷ 4 ∷ 5 ∷ 0
    ∷ 16 ∷ 1024 ∷ 0 ∷ 0 ∷ 0 ∷ 0 ∷ 0 ∷ 1 ∷ 0 ∷ 0
    ∷ 16 ∷ 1024 ∷ 0 ∷ 0 ∷ 0 ∷ 0 ∷ 0 ∷ 0 ∷ 0 ∷ 0
    ∷ []

every : (ℕ → ℕ → Bool) → ℕ → List ℕ → Bool
every f i [] = true
every f i (x ∷ xs) = f i x && every f (suc i) xs

at : (f : ℕ → ℕ → Bool) (xs : List ℕ) (i : ℕ) → every f i xs ≡ true → (k j : ℕ) → j ≡ i + k → k < length xs → f j
    (get_or xs k 0) ≡ true
unfolding every
at f [] i e k j d h = absurd (omega arith)
at f (x ∷ xs) i e zero j d h = let z : j ≡ i = omega arith in rw z (and_left (f i x) _ e)
at f (x ∷ xs) i e (suc k) j d h = at f xs (suc i) (and_right (f i x) _ e) k j (omega arith) (omega arith)

right : ℕ → ℕ → Bool
right i x = eqb x (column_of (i % Column.MANY) (row_of (i / Column.MANY)))

all_right : every right 0 entries ≡ true
unfolding every right column_of row_of
all_right = refl

pub entry_is : (k c : ℕ) → k < Column.KINDS → c < Column.MANY → get_or entries (k * Column.MANY + c) 0 ≡ column_of c (row_of k)
unfolding right
entry_is k c h i =
    let m : (k * Column.MANY + c) % Column.MANY ≡ c = omega arith in
    let d : (k * Column.MANY + c) / Column.MANY ≡ k = omega arith in
    eqb-true _ _ (rw (m, d) at
    (at right entries 0 all_right (k * Column.MANY + c) (k * Column.MANY + c) (omega arith) (omega arith)))

pub tail_back : (t : Tail) → tail_of (tail_number t) ≡ t
unfolding tail_of
tail_back nothing = refl
tail_back expression = refl
tail_back branches = refl
tail_back (list_of item) = refl
tail_back (list_of share) = refl

pub column_none : (c : ℕ) → c < Column.MANY → column_of c no_row ≡ 0
unfolding column_of
column_none zero h = refl
column_none (suc zero) h = refl
column_none (suc (suc zero)) h = refl
column_none (suc (suc (suc zero))) h = refl
column_none (suc (suc (suc (suc zero)))) h = refl
column_none (suc (suc (suc (suc (suc zero))))) h = refl
column_none (suc (suc (suc (suc (suc (suc zero)))))) h = refl
column_none (suc (suc (suc (suc (suc (suc (suc zero))))))) h = refl
column_none (suc (suc (suc (suc (suc (suc (suc (suc zero)))))))) h = refl
column_none (suc (suc (suc (suc (suc (suc (suc (suc (suc zero))))))))) h = refl
column_none (suc (suc (suc (suc (suc (suc (suc (suc (suc (suc c)))))))))) h = refl
