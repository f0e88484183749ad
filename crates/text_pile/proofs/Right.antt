-- The table is the grammar: computed, symbol by symbol and token by token. Assumes nothing.
use Rattle.std.specs.Prelude.{if◌then◌else◌}
use Prim.Native.Nat.{ℕ, zero, suc, ◌+◌, ◌-◌, ◌≤◌, ◌<◌}
use native.Mathlib.Omega.{arith}
use mathlib.Core.Path.{◌≡◌, refl, sym, ◌∙◌, ap}
use mathlib.Core.List.{List, [], ◌∷◌}
use mathlib.Core.Bool.{Bool, true, false, ◌&&◌}
use mathlib.Core.Option.{Option, none, some}
use borrow.Author.Tests.{eqb-true, eqb-false, leb-true, ltb-true}
use lib.Dec.{eqb, leb, ltb}
use lib.ListN.{get_or}
use Rattle.semantics.specs.Words.{all}
use Rattle.text_semantics.specs.Numbers as No
use Rattle.text_semantics.specs.Token.{Token, number}
use Rattle.text_semantics.specs.Reading.{Symbol, one, the, a_name, a_number, factor_s, minus_s, more, signed_s, relation_s, item_s}
use Rattle.text_semantics.specs.Reading.{claim_s, items_s, gives_s, given_s, actions_s, try_s, few_s, lines_s, body_s, text_s}
use Rattle.text_semantics.specs.Reading.{round, comma, semi, rows}
use Rattle.text_machine.specs.Codes.{symbol_of, token_of, NAME, SIGNED, RELATION, ITEM, CLAIM, ITEMS, GIVES, GIVEN, ACTIONS, TRY}
use Rattle.text_machine.specs.Codes.{LINES, BODY, TEXT}
use Rattle.text_pile.specs.Pile.{SYMBOLS, Known}
use Rattle.text_pile.specs.Table.{LARGER, LARGEST, COLUMNS, NEXTS, class_of, place_of, run_of}
use Rattle.text_pile.proofs.Table.{places, nexts, many_at}
use Rattle.text_pile.proofs.Rows.{next_in, all_proper, and_left, and_right}

-- SYMBOLS are told apart by rows of numbers.
tag : Symbol → List ℕ
tag (one (the k)) = 0 ∷ k ∷ []
tag (one a_name) = NAME ∷ []
tag (one (a_number b)) = 7 ∷ b ∷ []
tag (factor_s d) = 6 ∷ d ∷ []
tag (minus_s d) = 1 ∷ d ∷ []
tag (more d round) = 2 ∷ d ∷ []
tag (more d comma) = 3 ∷ d ∷ []
tag (more d semi) = 4 ∷ d ∷ []
tag signed_s = SIGNED ∷ []
tag relation_s = RELATION ∷ []
tag item_s = ITEM ∷ []
tag claim_s = CLAIM ∷ []
tag items_s = ITEMS ∷ []
tag gives_s = GIVES ∷ []
tag given_s = GIVEN ∷ []
tag actions_s = ACTIONS ∷ []
tag try_s = TRY ∷ []
tag (few_s k) = 5 ∷ k ∷ []
tag lines_s = LINES ∷ []
tag body_s = BODY ∷ []
tag text_s = TEXT ∷ []

tagged : List ℕ → Symbol
tagged [] = text_s
tagged (c ∷ []) = symbol_of c
tagged (c ∷ d ∷ xs) =
    get_or (one (the d) ∷ minus_s d ∷ more d round ∷ more d comma ∷ more d semi ∷ few_s d ∷ factor_s d ∷ []) c (one (a_number d))

back : (s : Symbol) → tagged (tag s) ≡ s
unfolding tag tagged
back (one (the k)) = refl
back (one a_name) = refl
back (one (a_number b)) = refl
back (factor_s d) = refl
back (minus_s d) = refl
back (more d round) = refl
back (more d comma) = refl
back (more d semi) = refl
back signed_s = refl
back relation_s = refl
back item_s = refl
back claim_s = refl
back items_s = refl
back gives_s = refl
back given_s = refl
back actions_s = refl
back try_s = refl
back (few_s k) = refl
back lines_s = refl
back body_s = refl
back text_s = refl

equal : List ℕ → List ℕ → Bool
equal [] [] = true
equal [] (y ∷ ys) = false
equal (x ∷ xs) [] = false
equal (x ∷ xs) (y ∷ ys) = eqb x y && equal xs ys

alike : List Symbol → List Symbol → Bool
alike [] [] = true
alike [] (t ∷ ts) = false
alike (s ∷ ss) [] = false
alike (s ∷ ss) (t ∷ ts) = equal (tag s) (tag t) && alike ss ts

equal_is : (xs ys : List ℕ) → equal xs ys ≡ true → xs ≡ ys
unfolding equal
equal_is [] [] e = refl
equal_is [] (y ∷ ys) e = absurd (let z : ◌≡◌ {A = ℕ} 0 1 = cc in omega arith)
equal_is (x ∷ xs) [] e = absurd (let z : ◌≡◌ {A = ℕ} 0 1 = cc in omega arith)
equal_is (x ∷ xs) (y ∷ ys) e =
    rw (eqb-true x y (and_left (eqb x y) (equal xs ys) e), equal_is xs ys (and_right (eqb x y) (equal xs ys) e))

alike_is : (ss ts : List Symbol) → alike ss ts ≡ true → ss ≡ ts
unfolding alike
alike_is [] [] e = refl
alike_is [] (t ∷ ts) e = absurd (let z : ◌≡◌ {A = ℕ} 0 1 = cc in omega arith)
alike_is (s ∷ ss) [] e = absurd (let z : ◌≡◌ {A = ℕ} 0 1 = cc in omega arith)
alike_is (s ∷ ss) (t ∷ ts) e =
    let h = equal_is (tag s) (tag t) (and_left (equal (tag s) (tag t)) (alike ss ts) e) in
    let q : s ≡ t = sym (back s) ∙ ap tagged h ∙ back t in
    rw (q, alike_is ss ts (and_right (equal (tag s) (tag t)) (alike ss ts) e))

-- TOKENS: one stands for each column.
abbrev pub token_at : ℕ → Token
token_at j =
    if eqb j LARGER then number No.top_number else if eqb j LARGEST then number No.top_magnitude else token_of j No.top_count []

-- WHAT STANDS AT A PLACE, put onto what is still to come.
unfoldable pub pushed : List ℕ → List Symbol → List Symbol
pushed [] ss = ss
pushed (x ∷ xs) ss = pushed xs (symbol_of x ∷ ss)

abbrev pub run : ℕ → ℕ → List ℕ
run p by = run_of nexts (p + 1) (many_at p) by

abbrev pub all_known : List ℕ → Bool
all_known = all (λ n. ltb n SYMBOLS)

inside : ℕ → Bool
inside p = ltb 0 p && leb (p + 1 + many_at p) NEXTS

agree : ℕ → ℕ → Option (List Symbol) → Bool
agree p by none = eqb p 0
agree p by (some ns) = alike ns (pushed (run p by) []) && (inside p && all_known (run p by))

pub record Found (p by : ℕ) (o : Option (List Symbol)) : Type 0 where
  pub comes : o ≡ some (pushed (run p by) [])
  pub ends : p + 1 + many_at p ≤ NEXTS
  pub known : all_known (run p by) ≡ true

agree-none : (p by : ℕ) (o : Option (List Symbol)) → agree p by o ≡ true → p ≡ 0 → o ≡ none
unfolding agree inside
agree-none p by none e z = refl
agree-none p by (some ns) e z =
    let i = and_left (inside p) (all_known (run p by)) (and_right (alike ns (pushed (run p by) [])) _ e) in
    absurd (omega (arith, ltb-true 0 p (and_left (ltb 0 p) _ i)))

agree_some : (p by : ℕ) (o : Option (List Symbol)) → agree p by o ≡ true → (p ≡ 0 → ⊥) → Found p by o
unfolding agree inside
agree_some p by none e z = absurd (z (eqb-true p 0 e))
agree_some p by (some ns) e z =
    let i = and_right (alike ns (pushed (run p by) [])) _ e in
    record {
      comes = ap some (alike_is ns _ (and_left (alike ns (pushed (run p by) [])) _ e));
      ends = leb-true _ _ (and_right (ltb 0 p) _ (and_left (inside p) (all_known (run p by)) i));
      known = and_right (inside p) (all_known (run p by)) i;
    }

-- THE TEST, of all symbols and all columns.
below : (ℕ → Bool) → ℕ → Bool
below f zero = true
below f (suc n) = below f n && f n

below_at : (f : ℕ → Bool) (n k : ℕ) → below f n ≡ true → k < n → f k ≡ true
unfolding below
below_at f zero k e h = absurd (omega arith)
below_at f (suc n) k e h = go (eqb k n) refl (λ i. below_at f n k (and_left (below f n) (f n) e) i)
  where
    go : (t : Bool) → eqb k n ≡ t → (k < n → f k ≡ true) → f k ≡ true
    go true q r = rw (eqb-true k n q) (and_right (below f n) (f n) e)
    go false q r = let d = eqb-false k n q in r (omega arith)

right : ℕ → ℕ → Bool
right c j = agree (place_of places (class_of c) j) (c - class_of c) (next_in (rows (symbol_of c)) (token_at j))

all_right : below (λ c. below (right c) COLUMNS) SYMBOLS ≡ true
unfolding below right agree inside alike equal tag place_of class_of run_of pushed next_in nexts places
all_right = refl

all_proper_lem : below (λ c. all_proper (rows (symbol_of c))) SYMBOLS ≡ true
unfolding below all_proper
all_proper_lem = refl

pub proper_at : (c : ℕ) → c < SYMBOLS → all_proper (rows (symbol_of c)) ≡ true
proper_at c h = below_at (λ c. all_proper (rows (symbol_of c))) SYMBOLS c all_proper_lem h

module _ (c j : ℕ) (h : c < SYMBOLS) (i : j < COLUMNS) where
  right_at : right c j ≡ true
  right_at = below_at (right c) COLUMNS j (below_at (λ c. below (right c) COLUMNS) SYMBOLS c all_right h) i

  pub nothing_comes : place_of places (class_of c) j ≡ 0 → next_in (rows (symbol_of c)) (token_at j) ≡ none
  unfolding right
  nothing_comes z = agree-none _ _ _ right_at z

  pub found : (place_of places (class_of c) j ≡ 0 → ⊥)
      → Found (place_of places (class_of c) j) (c - class_of c) (next_in (rows (symbol_of c)) (token_at j))
  unfolding right
  found z = agree_some _ _ _ right_at z

-- EVERY NUMBER that stands there is a symbol's, or less.
pub next_known : Known nexts NEXTS
unfolding nexts
next_known p h = all_at nexts refl p
  where
    all_at : (xs : List ℕ) → all_known xs ≡ true → (p : ℕ) → get_or xs p 0 < SYMBOLS
    all_at [] e p = omega arith
    all_at (x ∷ xs) e zero = ltb-true x SYMBOLS (and_left (ltb x SYMBOLS) (all_known xs) e)
    all_at (x ∷ xs) e (suc p) = all_at xs (and_right (ltb x SYMBOLS) (all_known xs) e) p
