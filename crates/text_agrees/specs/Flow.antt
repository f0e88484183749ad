-- What a text's tokens make of the machine's reader, as long as none is in trouble: token by token, over the pile.
-- Assumes nothing.
use Rattle.std.specs.Prelude.{ℕ, suc, ◌≡◌, refl, Bool, true, false, T}
use mathlib.Core.List.{List, [], ◌∷◌, ◌++◌}
use Rattle.std.proofs.Math.Option.{Option, none, some}
use Rattle.text_semantics.specs.Token.{Token}
use Rattle.text_semantics.specs.Table.{Rule}
use Rattle.text_semantics.specs.Reading.{Symbol, Of, say, step, Row, a_number}
use Rattle.text_machine.specs.Entry.{Draft}
use Rattle.text_machine.specs.Sheet.{Sheet}
use Rattle.text_machine.specs.Machine.{Reader, draft_after, sheet_after, after}

-- What comes then.
abbrev pub next_in : {s : Symbol} {t : Token} → Option (Rule Of say s t) → List Symbol
next_in none = []
next_in (some p) = p.next

-- What a token makes of the reader; the pile is handed on beside it.
unfoldable pub effect : Reader → Symbol → Token → ℕ → Reader
unfolding draft_after sheet_after after
effect r s t p =
    let d : Draft = draft_after r s t p in
    let z : Sheet = sheet_after r d s t p in
    after r d z [] s t p

-- Tokens from the one with so many before it, each at its place.
module _ (place : ℕ → ℕ) where
  unfoldable pub flow : ℕ → List Token → List Symbol → Reader → Reader
  unfolding effect
  flow at [] ss r = r
  flow at (t ∷ ts) [] r = r
  flow at (t ∷ ts) (s ∷ ss) r = flow (suc at) ts (next_in (step s t) ++ ss) (effect r s t (place at))

-- A number that fits its bound goes on.
abbrev tested : {s : Symbol} (b n : ℕ) (w : Row s) → w.first ≡ a_number b → Type 0
tested b n w e = Unit

pub fits_true : (x : Bool) → T x → x ≡ true
fits_true true h = refl
fits_true false h = absurd h
