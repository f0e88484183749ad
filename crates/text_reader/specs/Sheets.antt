-- The sheet after a token: what a function that writes into it asks and gives.
-- Assumes nothing.
use Rattle.std.specs.Prelude.{ℕ, ◌+◌, ◌≤◌, ◌<◌, ◌≡◌, Bool, true, false, length, get_or, IfSome, Some, None, Result, OnOk}
use Rattle.std.specs.Prelude as Code
use Rattle.std.proofs.Common.{arith}
use Rattle.std.proofs.Math.Option.{Option, none, some}
use Rattle.semantics.specs.Numbers as F
use Rattle.promises.specs.Laws.{AllOf}
use Rattle.text_machine.specs.Entry.{KEPT, FULL}
use Rattle.text_machine.specs.Sheet.{Sheet, Level, Kept}
use Rattle.text_sheet.specs.Fit.{Fit}
use Rattle.text_reader.specs.Cut.{cut_of}

-- What a sheet is between two tokens: the total isn't full, no more is open and kept than a draft keeps, and what is counted and
-- placed is as each step leaves it.
abbrev pub ShortKept : Option Kept → Type 0
ShortKept none = Unit {0}
ShortKept (some x) = length x.body ≤ KEPT

abbrev pub Short : Level → Type 0
Short l = ShortKept l.kept

pub record Sound (z : Sheet) : Type 0 where
  pub roomy : z.total < FULL
  pub shallow : length z.levels ≤ F.deepest
  pub short : AllOf Short z.levels
  pub fit : Fit 0 z

-- So there are few records of each group.
pub few_seen : {z : Sheet} → Sound z → (g : ℕ) → get_or z.seen g 0 < FULL
few_seen h g = let f = h.fit.few h.roomy g in omega (arith, f, h.roomy)

-- The class whose body begins, if it is known.
abbrev pub is_class : Code.Option ℕ → Bool
is_class None = false
is_class (Some c) = true

abbrev pub class_of : Code.Option ℕ → ℕ
class_of None = 0
class_of (Some c) = c

-- What is asked there: no block is open, and a class that was announced has its place.
pub record Titled (z : Sheet) (class : Code.Option ℕ) : Type 0 where
  pub flat : length z.levels ≡ 0
  pub has : IfSome class (λ c. c < length z.class_at)
  pub placed : IfSome class (λ c. get_or z.class_at c 0 + 2 ≤ length z.declared)

-- The place of a limit that is passed; where none is, the sheet is what is wanted.
pub record Steps (o : Option ℕ) (want : Sheet) (r : Result (Unit {0}) ℕ) (z : Sheet) : Type 0 where
  pub cut : cut_of r ≡ o
  pub same : OnOk r (z ≡ want)
  pub sound : OnOk r (Sound z)
