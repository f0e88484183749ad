-- What is still to come, as the code has it: a list of numbers, the top last; and what a token makes of it.
-- Assumes nothing.
use Rattle.std.specs.Prelude.{ℕ, zero, suc, ◌≤◌, ◌<◌, ◌≡◌, List, [], ◌∷◌, ◌++◌, ltb, length, get_or, if◌then◌else◌, Result, Ok, Err, OnErr}
use Rattle.std.proofs.Math.Option.{Option, none, some}
use Rattle.text_semantics.specs.Token.{Token}
use Rattle.text_semantics.specs.Table.{Rule}
use Rattle.text_semantics.specs.Reading.{Symbol, Of, say, step}
use Rattle.text_machine.specs.Codes.{symbol_of, token_of}
use Rattle.text_machine.specs.Machine.{highest_pile}
use Rattle.text_pile.specs.declared.Misfit.{Misfit}

unfoldable pub pile_of : List ℕ → ℕ → List Symbol
pile_of p zero = []
pile_of p (suc h) = symbol_of (get_or p h 0) ∷ pile_of p h

-- All of it.
abbrev pub stack_of : List ℕ → List Symbol
stack_of p = pile_of p (length p)

-- The numbers of symbols, with as many brackets as may be open; and a pile of them.
abbrev pub SYMBOLS : ℕ
SYMBOLS = 157

abbrev pub Known : List ℕ → ℕ → Type 0
Known p h = (i : ℕ) → i < h → get_or p i 0 < SYMBOLS

pub record Piled (p : List ℕ) : Type 0 where
  pub low : length p ≤ highest_pile
  pub known : Known p (length p)

-- What comes by a rule; and what is still to come then, where there is room for it.
abbrev pub next_of : {s : Symbol} {t : Token} → Option (Rule Of say s t) → Option (List Symbol)
next_of none = none
next_of (some x) = some x.next

abbrev pub roomed : List Symbol → Option (List Symbol) → Option (List Symbol)
roomed ss none = none
roomed ss (some ns) = if ltb highest_pile (length (ns ++ ss)) then none else some (ns ++ ss)

-- What a token leaves of a pile; none where it doesn't fit.
unfoldable pub turned_of : List Symbol → Token → Option (List Symbol)
turned_of [] t = none
turned_of (s ∷ ss) t = roomed ss (next_of (step s t))

-- What the code answers: q is the pile that it leaves.
abbrev pub answered_of : {A : Type 0} → Result A Misfit → List ℕ → Option (List Symbol)
answered_of (Ok x) q = some (stack_of q)
answered_of (Err e) q = none

-- The code leaves the pile that the token leaves; where the token doesn't fit, the one that was there. A name's bytes don't matter.
pub record Turns (p : List ℕ) (kind value : ℕ) (r : Result (Unit {0}) Misfit) (q : List ℕ) : Type 0 where
  pub answer : (x : List ℕ) → answered_of r q ≡ turned_of (stack_of p) (token_of kind value x)
  pub kept : OnErr r (q ≡ p)
  pub piled : Piled q
