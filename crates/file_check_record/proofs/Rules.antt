-- From what the code tests to the number of a record, row by row of the table. Assumes nothing.
use Rattle.std.specs.Prelude.{if◌then◌else◌}
use mathlib.Core.Path.{◌≡◌, refl, sym, ◌∙◌, ap}
use mathlib.Core.List.{List, [], ◌∷◌, map}
use mathlib.Core.Bool.{Bool, true, false, ◌&&◌, not}
use Prim.Native.Nat.{ℕ, suc, ◌-◌, ◌≤◌, ◌<◌}
use native.Mathlib.Omega.{arith}
use borrow.Author.Tests.{eqb-true, leb-true, le-leb, lt-leb}
use lib.Dec.{leb, ltb, eqb}
use lib.ListN.{length, get_or, take, drop}
use lib.Signed.{le_z}
use Rattle.semantics.specs.Words.{Outcome, ok, fails, Passed, passed, need, ◌>>◌, all, within}
use Rattle.semantics.specs.Numbers as No
use Rattle.semantics.specs.Kinds as K
use Rattle.semantics.specs.Bytes.{u16, u32, i32}
use Rattle.semantics.specs.Record.{Row, Tail, sized, valid, twice, in_set, body_judged, table, row_in, row_of, branches_from}
use Rattle.semantics.specs.Record.{branch_of}
use Rattle.semantics.specs.Record.{branches_in, sampler_of, sampler_valid, Field, any_value, u16_in, u32_in, of_sampler, Naming}
use Rattle.semantics.specs.Record.{nameless, names, names_local}
use Rattle.semantics.specs.Decode.{placed, judged, field_known, tail_known, inner_of, named}
use Rattle.base_numbers.specs.Group as Group
use Rattle.base_i32.specs.Code.{code}
use Rattle.base_i32.specs.Laws.{code_order, code_above, signed_fits}
use Rattle.file_check_parts.proofs.Laws.{rest_of}
use Rattle.file_check_tails.specs.Tails.{tail_of}
use Rattle.file_check_tails.proofs.Branches.{and_left, and_right}
use Rattle.file_check_record.specs.Rows.{SAMPLER_BYTES, field_size, field_at, field_low, field_high, number_at}
use Rattle.file_check_record.specs.Rows.{naming_of, naming_at, tail_number}
use Rattle.file_check_record.proofs.Table.{holds, tail_back}

-- WHAT THE CODE READ of a row and of a body is what the row says.
pub tail_is : {A : Type 0} (p : Tail → List ℕ → A) (r : Row) (bs : List ℕ) (h : ℕ) (t : Tail) → h ≡ r.head → t ≡ r.tail → p t (take
    (length bs - h) (drop h bs)) ≡ p r.tail (drop r.head bs)
tail_is p r bs h t i j = rw (rest_of h bs, i, j)

pub tail_read : (r : Row) {t : Tail} {n : ℕ} → t ≡ tail_of n → n ≡ tail_number r.tail → t ≡ r.tail
tail_read r i j = i ∙ rw j (tail_back r.tail)

pub in_set_is : (f : Field) (bs : List ℕ) → (field_size f ≡ SAMPLER_BYTES → ⊥) →
    in_set f bs ≡ within (field_low f) (field_high f) (number_at (field_size f) bs (field_at f))
in_set_is any_value bs n = refl
in_set_is (u16_in at lo hi) bs n = refl
in_set_is (u32_in at lo hi) bs n = refl
in_set_is of_sampler bs n = absurd (n refl)

pub in_sampler_set : (f : Field) (bs : List ℕ) → field_size f ≡ SAMPLER_BYTES → in_set f bs ≡ sampler_valid (sampler_of bs)
in_sampler_set any_value bs e = absurd (omega arith)
in_sampler_set (u16_in at lo hi) bs e = absurd (omega arith)
in_sampler_set (u32_in at lo hi) bs e = absurd (omega arith)
in_sampler_set of_sampler bs e = refl

-- A SAMPLER is judged by the codes of its ends: x of the lowest value, y of the highest.
module _ (bs : List ℕ) {x y n : ℕ} (d : x ≡ code (i32 bs 0)) (e : y ≡ code (i32 bs 4)) (f : n ≡ u32 bs 8) where
  in_order : le_z (i32 bs 0) (i32 bs 4) ≡ leb x y
  in_order = rw (d, e, code_order (i32 bs 0) (i32 bs 4) (signed_fits (u32 bs 0)) (signed_fits (u32 bs 4)))

  pub sampler_turned : y < x → false ≡ sampler_valid (sampler_of bs)
  sampler_turned h = rw (in_order, lt-leb x y h)

  pub sampler_judged : x ≤ y → leb (y - x) No.top_spread && within 1 No.last_seed n ≡ sampler_valid (sampler_of bs)
  sampler_judged h =
      let a = code_above (i32 bs 0) (i32 bs 4) (signed_fits (u32 bs 0)) (signed_fits (u32 bs 4)) (omega arith) in
      rw (in_order, le-leb x y h, a, d, e, f)

-- THE NUMBERS of checks 5 to 7, 2 to 4, and 8 and 9.
abbrev third_of : ℕ → ℕ → ℕ → Bool → Bool → Bool → Outcome Passed
third_of i j k a b c = if a then (if b then (if c then ok passed else fails k) else fails j) else fails i

three : (i j k : ℕ) (a b c : Bool) → need i a >> (need j b >> need k c) ≡ third_of i j k a b c
unfolding need ◌>>◌
three i j k true true true = refl
three i j k true true false = refl
three i j k true false c = refl
three i j k false b c = refl

pub body_is : (r : Row) (bs : List ℕ) → body_judged r bs ≡ third_of 5 6 7 (leb r.head (length bs) && sized
    r.tail (drop r.head bs)) (in_set r.field bs && valid r.tail (drop r.head bs)) (not (twice r.tail
    (drop r.head bs)))
unfolding body_judged
body_is r bs =
    three 5 6 7 (leb r.head (length bs) && sized r.tail (drop r.head bs))
    (in_set r.field bs && valid r.tail (drop r.head bs)) (not (twice r.tail (drop r.head bs)))

module _ (seen : List ℕ) (k : ℕ) (bs : List ℕ) where
  pub judged_2 : (row_of k).group ≡ 0 → fails 2 ≡ judged seen k bs
  unfolding judged need ◌>>◌
  judged_2 e = rw e

  pub judged_3 : 0 < (row_of k).group → placed (row_of k).group (get_or seen 6 0) ≡ false → fails 3 ≡ judged seen k bs
  unfolding judged need ◌>>◌
  judged_3 h e = rw (le-leb 1 (row_of k).group h, e)

  pub judged_4 : 0 < (row_of k).group → placed (row_of k).group (get_or seen 6 0) ≡ true → (row_of k).most ≤ get_or seen
      (row_of k).group 0 → fails 4 ≡ judged seen k bs
  unfolding judged need ◌>>◌
  judged_4 h e i = rw (
    le-leb 1 (row_of k).group h,
    e,
    lt-leb (suc (get_or seen (row_of k).group 0)) (row_of k).most
        (omega arith),
  )

  pub judged_on : 0 < (row_of k).group → placed (row_of k).group (get_or seen 6 0) ≡ true → get_or seen
      (row_of k).group 0 < (row_of k).most → body_judged (row_of k) bs ≡ judged seen k bs
  unfolding judged need ◌>>◌
  judged_on h e i = rw (le-leb 1 (row_of k).group h, e, le-leb (suc (get_or seen (row_of k).group 0)) (row_of k).most i)

pub named_is : (n : List ℕ) (own k : ℕ) (bs : List ℕ) → named n own k bs ≡ (if field_known n
    (row_of k).naming bs && tail_known n (row_of k).tail (drop (row_of k).head bs) then (if all (leb own) (inner_of
    ((row_of k).says bs)) then ok passed else fails 9) else fails 8)
unfolding named need ◌>>◌
named_is n own k bs =
    two (field_known n (row_of k).naming bs && tail_known n (row_of k).tail (drop (row_of k).head bs))
    (all (leb own) (inner_of ((row_of k).says bs)))
  where
    two : (a b : Bool) → need 8 a >> need 9 b ≡ (if a then (if b then ok passed else fails 9) else fails 8)
    two true true = refl
    two true false = refl
    two false b = refl

-- THE FIELD THAT NAMES. In no row does it name the group 0 or 17.
pub proper : Naming → Bool
proper nameless = true
proper (names group at) = within 1 K.ACTION group
proper (names_local at) = true

pub naming_proper : (k : ℕ) → proper (row_of k).naming ≡ true
unfolding row_of proper
naming_proper k = holds (λ r. proper r.naming) table refl refl k

module _ (n bs : List ℕ) where
  pub known_none : (x : Naming) → proper x ≡ true → naming_of x ≡ 0 → true ≡ field_known n x bs
  unfolding proper
  known_none nameless p e = refl
  known_none (names group at) p e = absurd (omega (arith, leb-true 1 group (and_left (leb 1 group) _ p)))
  known_none (names_local at) p e = absurd (omega arith)

  pub known_local : (x : Naming) → proper x ≡ true → naming_of x ≡ Group.LOCAL
      → ltb (u16 bs (naming_at x)) No.locals ≡ field_known n x bs
  unfolding proper
  known_local nameless p e = absurd (omega arith)
  known_local (names group at) p e = absurd (omega (arith, leb-true group K.ACTION (and_right (leb 1 group) _ p)))
  known_local (names_local at) p e = refl

  pub known_group : (x : Naming) → (naming_of x ≡ 0 → ⊥) → (naming_of x ≡ Group.LOCAL → ⊥) → ltb (u16 bs (naming_at x)) (get_or n
      (naming_of x) 0) ≡ field_known n x bs
  known_group nameless e f = absurd (e refl)
  known_group (names group at) e f = refl
  known_group (names_local at) e f = absurd (f refl)

-- THE BLOCKS THAT A RECORD NAMES: of a DO, TRY and WHILE, and of no other kind.
alone : (x : Bool) → x ≡ x && true
alone true = refl
alone false = refl

pub later_do : (own : ℕ) (bs : List ℕ) → leb own (u16 bs 2) ≡ all (leb own) (inner_of ((row_of K.DO).says bs))
unfolding row_of
later_do own bs = alone (leb own (u16 bs 2))

pub later_while : (own : ℕ) (bs : List ℕ) → leb own (u16 bs 0) ≡ all (leb own) (inner_of ((row_of K.WHILE).says bs))
unfolding row_of
later_while own bs = alone (leb own (u16 bs 0))

pub later_try : (own : ℕ) (bs : List ℕ) → all (λ b. leb own (u16 b 0)) (branches_from (u16 bs 0) (drop 2 bs)) ≡ all
    (leb own) (inner_of ((row_of K.TRY).says bs))
unfolding row_of branches_in
later_try own bs = go (branches_from (u16 bs 0) (drop 2 bs))
  where
    go : (xs : List (List ℕ)) → all (λ b. leb own (u16 b 0)) xs ≡ all (leb own) (map (λ x. x.block) (map branch_of xs))
    go [] = refl
    go (x ∷ xs) = rw (go xs)

-- The blocks that a row's records name, if it is of none of these kinds.
abbrev Quiet : List ℕ → Row → Type 0
Quiet bs r = (r.kind ≡ K.DO → ⊥) → (r.kind ≡ K.TRY → ⊥) → (r.kind ≡ K.WHILE → ⊥) → inner_of (r.says bs) ≡ []

data AllRows (P : Row → Type 0) : List Row → Type 0 where
  end : AllRows P []
  row : {r : Row} {rs : List Row} → P r → AllRows P rs → AllRows P (r ∷ rs)

quiet_row : (bs : List ℕ) → AllRows (Quiet bs) table
quiet_row bs =
    row plain (row plain (row plain (row plain (row plain (row plain (row plain (row plain (row plain (row plain (row plain
    (row plain (row (λ a b c. absurd (a refl)) (row plain (row plain (row plain (row plain (row plain
    (row (λ a b c. absurd (b refl)) (row (λ a b c. absurd (c refl)) (row plain (row plain (row plain end))))))))))))))))))))))
  where
    plain : {A B C : Type 0} {x : List ℕ} → A → B → C → x ≡ x
    plain a b c = refl

quiet_in : (bs : List ℕ) (rs : List Row) → AllRows (Quiet bs) rs → (k : ℕ) → (k ≡ K.DO → ⊥) → (k ≡ K.TRY → ⊥) →
    (k ≡ K.WHILE → ⊥) → inner_of ((row_in rs k).says bs) ≡ []
quiet_in bs [] end k a b c = refl
quiet_in bs (r ∷ rs) (row p ps) k a b c = go (eqb k r.kind) refl (quiet_in bs rs ps k a b c)
  where
    go : (x : Bool) → eqb k r.kind ≡ x → inner_of ((row_in rs k).says bs) ≡ [] → inner_of
        ((if x then r else row_in rs k).says bs) ≡ []
    go true e ih =
        let d = eqb-true k r.kind e in p (λ f. a (d ∙ f)) (λ f. b (d ∙ f)) (λ f. c (d ∙ f))
    go false e ih = ih

pub later_none : (own k : ℕ) (bs : List ℕ) → (k ≡ K.DO → ⊥) → (k ≡ K.TRY → ⊥) → (k ≡ K.WHILE → ⊥) → true ≡ all (leb own) (inner_of
    ((row_of k).says bs))
unfolding row_of
later_none own k bs a b c = sym (ap (all (leb own)) (quiet_in bs table (quiet_row bs) k a b c))
