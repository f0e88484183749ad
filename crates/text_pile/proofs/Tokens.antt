-- A token's column says of it all that the grammar asks. Assumes nothing.
use Rattle.std.specs.Prelude.{if◌then◌else◌}
use Prim.Native.Nat.{ℕ, ◌-◌, ◌≤◌, ◌<◌}
use native.Mathlib.Omega.{arith}
use mathlib.Core.Path.{◌≡◌, refl, ◌∙◌}
use mathlib.Core.List.{List, []}
use mathlib.Core.Bool.{Bool, true, false, ◌||◌}
use mathlib.Core.Option.{none}
use borrow.Author.Tests.{eqb-true, eqb-false, leb-true, leb-false, le-leb, lt-leb, ne_eqb}
use lib.Dec.{eqb, leb}
use Rattle.text_semantics.specs.Numbers as No
use Rattle.text_semantics.specs.Token as T
use Rattle.text_semantics.specs.Token.{Token, name, number, mark, bad}
use Rattle.text_semantics.specs.Reading.{Terminal, the, a_name, a_number, rows, step}
use Rattle.text_machine.specs.Codes.{symbol_of, token_of, NUMBER, NAME, BAD}
use Rattle.text_pile.specs.Pile.{SYMBOLS, next_of}
use Rattle.text_pile.specs.Table.{LARGER, LARGEST, COLUMNS, column_of, number_column, class_of, place_of}
use Rattle.text_pile.proofs.Table.{places}
use Rattle.text_pile.proofs.Rows.{next_in, hits, proper, chosen, like}
use Rattle.text_pile.proofs.Right.{token_at, proper_at, nothing_comes, found, Found}

-- Tokens are alike where rules that begin with known numbers take both or neither.
abbrev Alike : Token → Token → Type 0
Alike t u = (x : Terminal) → proper x ≡ true → hits x t ≡ hits x u

-- Two numbers are alike that the three bounds don't tell apart, and one above all bounds is like what is no token.
three : (b v u : ℕ) → proper (a_number b) ≡ true → leb v No.top_count ≡ leb u No.top_count → leb v No.top_number ≡ leb u No.top_number
    → leb v No.top_magnitude ≡ leb u No.top_magnitude → leb v b ≡ leb u b
three b v u p d e f = go (eqb b No.top_count) (eqb b No.top_number) (eqb b No.top_magnitude) refl refl refl p
  where
    go : (r s t : Bool) → eqb b No.top_count ≡ r → eqb b No.top_number ≡ s → eqb b No.top_magnitude ≡ t → (r || (s || t)) ≡ true
        → leb v b ≡ leb u b
    go true s t x y z q = rw (eqb-true b No.top_count x) d
    go false true t x y z q = rw (eqb-true b No.top_number y) e
    go false false true x y z q = rw (eqb-true b No.top_magnitude z) f
    go false false false x y z q = absurd (let z : ◌≡◌ {A = ℕ} 0 1 = cc in omega arith)

numbers_alike : (v u : ℕ) → leb v No.top_count ≡ leb u No.top_count → leb v No.top_number ≡ leb u No.top_number
    → leb v No.top_magnitude ≡ leb u No.top_magnitude → Alike (number v) (number u)
numbers_alike v u d e f (the k) p = refl
numbers_alike v u d e f a_name p = refl
numbers_alike v u d e f (a_number b) p = three b v u p d e f

over_alike : (v : ℕ) → No.top_magnitude < v → Alike (number v) bad
over_alike v h (the k) p = refl
over_alike v h a_name p = refl
over_alike v h (a_number b) p =
    three b v No.beyond p (rw (lt-leb v No.top_count (omega arith))) (rw (lt-leb v No.top_number (omega arith)))
    (rw (lt-leb v No.top_magnitude h))
    ∙ above (eqb b No.top_count) (eqb b No.top_number) (eqb b No.top_magnitude) refl refl refl p
  where
    above : (r s t : Bool) → eqb b No.top_count ≡ r → eqb b No.top_number ≡ s → eqb b No.top_magnitude ≡ t → (r || (s || t)) ≡ true
        → leb No.beyond b ≡ false
    above true s t x y z q = rw (eqb-true b No.top_count x)
    above false true t x y z q = rw (eqb-true b No.top_number y)
    above false false true x y z q = rw (eqb-true b No.top_magnitude z)
    above false false false x y z q = absurd (let z : ◌≡◌ {A = ℕ} 0 1 = cc in omega arith)

names_alike : (x y : List ℕ) → Alike (name x) (name y)
names_alike x y (the k) p = refl
names_alike x y a_name p = refl
names_alike x y (a_number b) p = refl

number_column_lem : (v : ℕ) → Alike (number v) (token_at (number_column v))
number_column_lem v = go (leb v No.top_count) (leb v No.top_number) (leb v No.top_magnitude) refl refl refl
  where
    go : (r s t : Bool) → leb v No.top_count ≡ r → leb v No.top_number ≡ s → leb v No.top_magnitude ≡ t
        → Alike (number v) (token_at (if r then NUMBER else if s then LARGER else if t then LARGEST else BAD))
    go true s t x y z =
        let h = leb-true v No.top_count x in
        numbers_alike v No.top_count x (le-leb v No.top_number (omega arith)) (le-leb v No.top_magnitude (omega arith))
    go false true t x y z =
        let h = leb-true v No.top_number y in numbers_alike v No.top_number x y (le-leb v No.top_magnitude (omega arith))
    go false false true x y z = numbers_alike v No.top_magnitude x y z
    go false false false x y z = over_alike v (leb-false v No.top_magnitude z)

other_column : (kind v : ℕ) (x : List ℕ) → kind ≤ BAD → (kind ≡ NUMBER → ⊥) → Alike (token_of kind v x) (token_at kind)
other_column kind v x h n =
    rw (ne_eqb kind LARGER (λ e. omega arith), ne_eqb kind LARGEST (λ e. omega arith), ne_eqb kind NUMBER n)
    (go (leb kind T.END) (eqb kind NAME))
  where
    go : (r s : Bool) → Alike (if r then mark kind else if s then name x else bad)
        (if r then mark kind else if s then name [] else bad)
    go true s y p = refl
    go false true y p = names_alike x [] y p
    go false false y p = refl

token_column : (kind v : ℕ) (x : List ℕ) → kind ≤ BAD → Alike (token_of kind v x) (token_at (column_of kind v))
unfolding column_of
token_column kind v x h = go (eqb kind NUMBER) refl
  where
    go : (t : Bool) → eqb kind NUMBER ≡ t → Alike (token_of kind v x) (token_at (if t then number_column v else kind))
    go true e = let k = eqb-true kind NUMBER e in rw k (number_column_lem v)
    go false e = other_column kind v x h (eqb-false kind NUMBER e)

-- It is one of the table's columns.
pub column_in : (kind v : ℕ) → kind ≤ BAD → column_of kind v < COLUMNS
unfolding column_of
column_in kind v h = go (eqb kind NUMBER) (leb v No.top_count) (leb v No.top_number) (leb v No.top_magnitude)
  where
    go : (q r s t : Bool)
        → (if q then (if r then NUMBER else if s then LARGER else if t then LARGEST else BAD) else kind) < COLUMNS
    go true true s t = omega arith
    go true false true t = omega arith
    go true false false true = omega arith
    go true false false false = omega arith
    go false r s t = omega arith

-- THE TABLE'S LAW: what comes by the rules is what stands at the table's place.
module _ (c kind v : ℕ) (known : c < SYMBOLS) (h : kind ≤ BAD) (x : List ℕ) where
  by_column : next_of (step (symbol_of c) (token_of kind v x)) ≡ next_in (rows (symbol_of c)) (token_at (column_of kind v))
  by_column =
      chosen (rows (symbol_of c)) (token_of kind v x)
      ∙ like (rows (symbol_of c)) (token_of kind v x) (token_at (column_of kind v)) (token_column kind v x h) (proper_at c known)

  pub fits_not : place_of places (class_of c) (column_of kind v) ≡ 0 → next_of (step (symbol_of c) (token_of kind v x)) ≡ none
  fits_not z = by_column ∙ nothing_comes c (column_of kind v) known (column_in kind v h) z

  pub fits : (place_of places (class_of c) (column_of kind v) ≡ 0 → ⊥)
      → Found (place_of places (class_of c) (column_of kind v)) (c - class_of c) (next_of (step (symbol_of c) (token_of kind v x)))
  fits z =
      let f = found c (column_of kind v) known (column_in kind v h) z in
      record { comes = by_column ∙ f.comes; ends = f.ends; known = f.known }
