-- What comes by the rules of the grammar, without what they make: found by a test of the token. Assumes nothing.
use Rattle.std.specs.Prelude.{if◌then◌else◌}
use Prim.Native.Nat.{ℕ}
use mathlib.Core.Path.{◌≡◌, refl, ◌∙◌}
use mathlib.Core.List.{List, [], ◌∷◌}
use mathlib.Core.Bool.{Bool, true, false, ◌&&◌, ◌||◌}
use mathlib.Core.Option.{Option, none, some}
use native.Mathlib.Omega.{arith}
use lib.Dec.{eqb, leb}
use Rattle.text_semantics.specs.Numbers as No
use Rattle.text_semantics.specs.Token.{Token, name, number, mark, bad}
use Rattle.text_semantics.specs.Table.{Rule}
use Rattle.text_semantics.specs.Reading.{Terminal, the, a_name, a_number, Symbol, Of, say, Row, Hit}
use Rattle.text_semantics.specs.Reading.{same, fitted, accepts, taken, choose}
use Rattle.text_pile.specs.Pile.{next_of}

-- A test for each thing that a rule may begin with.
abbrev pub hits : Terminal → Token → Bool
hits (the k) (name n) = false
hits (the k) (number n) = false
hits (the k) (mark j) = eqb k j
hits (the k) bad = false
hits a_name (name n) = true
hits a_name (number n) = false
hits a_name (mark j) = false
hits a_name bad = false
hits (a_number b) (name n) = false
hits (a_number b) (number n) = leb n b
hits (a_number b) (mark j) = false
hits (a_number b) bad = false

unfoldable pub next_in : {s : Symbol} → List (Row s) → Token → Option (List Symbol)
next_in [] t = none
next_in (w ∷ ws) t = if hits w.first t then some w.next else next_in ws t

abbrev is_some : {A : Type 0} → Option A → Bool
is_some none = false
is_some (some a) = true

same_is : (k j : ℕ) (x : Bool) (e : eqb k j ≡ x) → is_some (same k j x e) ≡ x
same_is k j true e = refl
same_is k j false e = refl

fitted_is : (b n : ℕ) (x : Bool) (e : leb n b ≡ x) → is_some (fitted b n x e) ≡ x
fitted_is b n true e = refl
fitted_is b n false e = refl

hits_is : (x : Terminal) (t : Token) → is_some (accepts x t) ≡ hits x t
hits_is (the k) (name n) = refl
hits_is (the k) (number n) = refl
hits_is (the k) (mark j) = same_is k j (eqb k j) refl
hits_is (the k) bad = refl
hits_is a_name (name n) = refl
hits_is a_name (number n) = refl
hits_is a_name (mark j) = refl
hits_is a_name bad = refl
hits_is (a_number b) (name n) = refl
hits_is (a_number b) (number n) = fitted_is b n (leb n b) refl
hits_is (a_number b) (mark j) = refl
hits_is (a_number b) bad = refl

taken_is : {s : Symbol} (w : Row s) (t : Token) (h : Option (Hit w.first t)) (o : Option (Rule Of say s t))
    → next_of (taken w t h o) ≡ (if is_some h then some w.next else next_of o)
taken_is w t none o = refl
taken_is w t (some h) o = refl

pub chosen : {s : Symbol} (ws : List (Row s)) (t : Token) → next_of (choose ws t) ≡ next_in ws t
unfolding next_in
chosen [] t = refl
chosen (w ∷ ws) t = taken_is w t (accepts w.first t) (choose ws t) ∙ rw (hits_is w.first t, chosen ws t)

pub and_left : (a b : Bool) → (a && b) ≡ true → a ≡ true
and_left true b e = refl
and_left false b e = e

pub and_right : (a b : Bool) → (a && b) ≡ true → b ≡ true
and_right true b e = e
and_right false b e = absurd (let z : ◌≡◌ {A = ℕ} 0 1 = cc in omega arith)

-- Tokens by which all rules begin alike are one: the numbers that a rule may begin with are known.
abbrev pub proper : Terminal → Bool
proper (the k) = true
proper a_name = true
proper (a_number b) = eqb b No.top_count || (eqb b No.top_number || eqb b No.top_magnitude)

unfoldable pub all_proper : {s : Symbol} → List (Row s) → Bool
all_proper [] = true
all_proper (w ∷ ws) = proper w.first && all_proper ws

pub like : {s : Symbol} (ws : List (Row s)) (t u : Token) → ((x : Terminal) → proper x ≡ true → hits x t ≡ hits x u)
    → all_proper ws ≡ true → next_in ws t ≡ next_in ws u
unfolding next_in all_proper
like [] t u f e = refl
like (w ∷ ws) t u f e =
    rw (
      f w.first (and_left (proper w.first) (all_proper ws) e),
      like ws t u f (and_right (proper w.first) (all_proper ws) e),
    )
