-- One item further down a claim: how much it has of a thing, and what is left to be compared. Assumes nothing.
use Rattle.std.specs.Prelude.{if◌then◌else◌}
use Prim.Native.Nat.{ℕ, zero, suc, ◌+◌, ◌-◌, ◌≤◌, ◌<◌}
use native.Mathlib.Omega.{arith}
use mathlib.Core.Path.{◌≡◌, refl, sym, ◌∙◌, ap}
use mathlib.Core.List.{List, [], ◌∷◌, map}
use mathlib.Core.Bool.{Bool, true, false, ◌&&◌, ◌||◌, and-false}
use borrow.Author.Tests.{ltb-true, ltb-false, le-ltb, le-leb, lt-leb, ne_eqb}
use lib.Dec.{eqb, leb, ltb}
use lib.ListN.{length, get_or, take, drop}
use Rattle.semantics.specs.Words.{all, any}
use Rattle.semantics.specs.Bytes.{u8, u16, u32, i32}
use Rattle.semantics.specs.Model.{resource, bin, sync, Item, get, condition, Claim}
use Rattle.semantics.specs.Record.{relation_of, item_of, claim_in}
use Rattle.semantics.specs.Claim.{Name, names_of, amount_of, smaller_amounts}
use Rattle.file_check_parts.proofs.Laws.{rest_of, parts-cons, parts_none}
use Rattle.file_claim.specs.declared.Compared.{Compared}
use Rattle.file_claim.specs.Laid.{items_in, claim_items}
use Rattle.file_claim.specs.Amounts.{thing, names_thing, compared_by}

-- WHAT IS LEFT of the claim at byte `at` before its first item, and past one.
pub all_left : (bs : List ℕ) (at n : ℕ) → n ≡ u16 bs at
    → items_in n (take (length bs - (at + 2)) (drop (at + 2) bs)) ≡ claim_in (drop at bs)
all_left bs at n e = rw (rest_of (at + 2) bs, e) (claim_items bs at)

abbrev pub items_past : ℕ → List ℕ → Claim
items_past n rest = items_in (n - 1) (take (length rest - 8) (drop 8 rest))

module _ (n : ℕ) (rest : List ℕ) where
  next_item : 0 < n → items_in n rest ≡ item_of (take 8 rest) ∷ items_past n rest
  next_item h = rw (rest_of 8 rest) (ap (map item_of) (parts-cons 8 n rest h))

  pub none_left : n ≡ 0 → items_in n rest ≡ []
  none_left e = ap (map item_of) (parts_none 8 n rest e)

-- The item whose bytes are i, were k its kind.
abbrev of_kind : List ℕ → ℕ → Item
of_kind i k =
    get_or (get resource (u16 i 2) (u32 i 4) ∷ get bin (u16 i 2) (u32 i 4) ∷ get sync (u16 i 2) (u32 i 4) ∷ [])
    k
    (condition (u16 i 2) (relation_of (u8 i 1)) (i32 i 4))

-- HOW MUCH a claim has of a thing: its first item's amount, if that names it, else what the others have.
module _ (i : List ℕ) (is : Claim) where
  by_kinds : (k kind number : ℕ) → kind ≤ 2
      → amount_of (of_kind i k ∷ is) (thing kind number)
      ≡ (if eqb kind k && eqb number (u16 i 2) then u32 i 4 else amount_of is (thing kind number))
  by_kinds zero zero number h = refl
  by_kinds zero (suc zero) number h = refl
  by_kinds zero (suc (suc zero)) number h = refl
  by_kinds zero (suc (suc (suc kind))) number h = absurd (omega arith)
  by_kinds (suc zero) zero number h = refl
  by_kinds (suc zero) (suc zero) number h = refl
  by_kinds (suc zero) (suc (suc zero)) number h = refl
  by_kinds (suc zero) (suc (suc (suc kind))) number h = absurd (omega arith)
  by_kinds (suc (suc zero)) zero number h = refl
  by_kinds (suc (suc zero)) (suc zero) number h = refl
  by_kinds (suc (suc zero)) (suc (suc zero)) number h = refl
  by_kinds (suc (suc zero)) (suc (suc (suc kind))) number h = absurd (omega arith)
  by_kinds (suc (suc (suc k))) kind number h = rw (ne_eqb kind (suc (suc (suc k))) (λ e. omega arith))

  pub first_amount : (kind number : ℕ) → kind ≤ 2
      → amount_of (item_of i ∷ is) (thing kind number)
      ≡ (if names_thing i kind number then u32 i 4 else amount_of is (thing kind number))
  first_amount kind number h = by_kinds (u8 i 0) kind number h

-- So of the n items that `rest` begins with.
module _ (n : ℕ) (rest : List ℕ) (h : 0 < n) (kind number : ℕ) (l : kind ≤ 2) where
  by_first : amount_of (items_in n rest) (thing kind number)
      ≡ (if names_thing (take 8 rest) kind number then u32 (take 8 rest) 4 else amount_of (items_past n rest) (thing kind number))
  by_first =
      ap (λ is. amount_of is (thing kind number)) (next_item n rest h)
      ∙ first_amount (take 8 rest) (items_past n rest) kind number l

  pub amount_here : names_thing (take 8 rest) kind number ≡ true
      → u32 (take 8 rest) 4 ≡ amount_of (items_in n rest) (thing kind number)
  amount_here e = sym (rw e at by_first)

  pub amount_later : names_thing (take 8 rest) kind number ≡ false
      → amount_of (items_past n rest) (thing kind number) ≡ amount_of (items_in n rest) (thing kind number)
  amount_later e = sym (rw e at by_first)

-- ONE ITEM compared: the thing that it names, or nothing.
module _ (c d : Claim) (i : List ℕ) where
  abbrev compared : Name → Compared
  compared x = record { larger = ltb (amount_of d x) (amount_of c x); smaller = ltb (amount_of c x) (amount_of d x) }

  thing_of : (k : ℕ) → k ≤ 2 → compared (thing k (u16 i 2)) ≡ compared_by c d (of_kind i k)
  thing_of zero h = refl
  thing_of (suc zero) h = refl
  thing_of (suc (suc zero)) h = refl
  thing_of (suc (suc (suc k))) h = absurd (omega arith)

  nothing_of : (k : ℕ) → 2 < k → record { larger = false; smaller = false } ≡ compared_by c d (of_kind i k)
  nothing_of zero h = absurd (omega arith)
  nothing_of (suc zero) h = absurd (omega arith)
  nothing_of (suc (suc zero)) h = absurd (omega arith)
  nothing_of (suc (suc (suc k))) h = refl

  pub of_thing : u8 i 0 ≤ 2 → compared (thing (u8 i 0) (u16 i 2)) ≡ compared_by c d (item_of i)
  of_thing h = thing_of (u8 i 0) h

  pub of_nothing : 2 < u8 i 0 → record { larger = false; smaller = false } ≡ compared_by c d (item_of i)
  of_nothing h = nothing_of (u8 i 0) h

-- WHAT IS LEFT TO BE COMPARED of c with d, where a smaller amount was found already, or not.
abbrev pub left_of : Claim → Claim → Bool → Claim → Bool
left_of c d found is =
    all (λ x. leb (amount_of c x) (amount_of d x)) (names_of is)
    && (found || any (λ x. ltb (amount_of c x) (amount_of d x)) (names_of is))

or_assoc : (a b c : Bool) → a || (b || c) ≡ (a || b) || c
or_assoc true b c = refl
or_assoc false b c = refl

module _ (c d : Claim) (found : Bool) where
  no_larger : (x y : ℕ) → ltb y x ≡ false → leb x y ≡ true
  no_larger x y e = le-leb x y (ltb-false y x e)

  -- A larger amount decides.
  pub larger_ends : (i : Item) (is : Claim) → (compared_by c d i).larger ≡ true → left_of c d found (i ∷ is) ≡ false
  larger_ends (get k i n) is e =
      let x : Name = record { kind = k; number = i } in
      rw (lt-leb (amount_of c x) (amount_of d x) (ltb-true (amount_of d x) (amount_of c x) e)) refl
  larger_ends (condition i r v) is e = let z : ◌≡◌ {A = ℕ} 0 1 = cc in absurd (omega arith)

  -- Else the others do, and whether a smaller one is found by now.
  pub goes_on : (i : Item) (is : Claim) → (compared_by c d i).larger ≡ false
      → left_of c d found (i ∷ is) ≡ left_of c d (found || (compared_by c d i).smaller) is
  goes_on (get k i n) is e =
      let x : Name = record { kind = k; number = i } in
      rw (no_larger (amount_of c x) (amount_of d x) e)
      (ap (λ b. all (λ y. leb (amount_of c y) (amount_of d y)) (names_of is) && b)
      (or_assoc found (ltb (amount_of c x) (amount_of d x)) (any (λ y. ltb (amount_of c y) (amount_of d y)) (names_of is))))
  goes_on (condition i r v) is e = by found
    where
      by : (t : Bool) → left_of c d t is ≡ left_of c d (t || false) is
      by true = refl
      by false = refl

  -- So with the answer r for the first of the n items that `rest` begins with.
  module _ (n : ℕ) (rest : List ℕ) (h : 0 < n) (r : Compared) (e : r ≡ compared_by c d (item_of (take 8 rest))) where
    pub turn_ends : r.larger ≡ true → false ≡ left_of c d found (items_in n rest)
    turn_ends f =
        sym (ap (left_of c d found) (next_item n rest h)
        ∙ larger_ends (item_of (take 8 rest)) (items_past n rest) (sym (ap (λ x. x.larger) e) ∙ f))

    pub turn_on : r.larger ≡ false
        → left_of c d (found || r.smaller) (items_past n rest) ≡ left_of c d found (items_in n rest)
    turn_on f =
        ap (λ x. left_of c d (found || x.smaller) (items_past n rest)) e
        ∙ sym (ap (left_of c d found) (next_item n rest h)
        ∙ goes_on (item_of (take 8 rest)) (items_past n rest) (sym (ap (λ x. x.larger) e) ∙ f))

pub nothing_left : (c d : Claim) (found : Bool) → left_of c d found [] ≡ found
nothing_left c d true = refl
nothing_left c d false = refl

-- No claim has smaller amounts than itself.
pub never_smaller : (c : Claim) → smaller_amounts c c ≡ false
never_smaller c = rw (none (names_of c)) (and-false (all (λ x. leb (amount_of c x) (amount_of c x)) (names_of c)))
  where
    none : (xs : List Name) → any (λ x. ltb (amount_of c x) (amount_of c x)) xs ≡ false
    none [] = refl
    none (x ∷ xs) = rw (le-ltb (amount_of c x) (amount_of c x) (omega arith), none xs)
