-- Stores one behind the other, and a number's bytes by halves. Assumes nothing.
use mathlib.Core.Path.{◌≡◌, sym, ◌∙◌, ap}
use mathlib.Core.List.{List, ◌++◌}
use Prim.Native.Nat.{ℕ, ◌+◌, ◌/◌}
use native.Mathlib.Nat.{div-div-eq-div-mul}
use lib.ListN.{length}
use lib.Seq.{sets}
use Rattle.semantics.specs.Journal.{le16, le32}
use Rattle.base_numbers.specs.Byte as Byte
use Rattle.base_journal.specs.Laws.{sets-append}

-- What is stored where the first run ends makes one run with it.
pub stored_on : (xs : List ℕ) {ys zs : List ℕ} (i : ℕ) (us vs : List ℕ)
    → ys ≡ sets xs i us → zs ≡ sets ys (i + length us) vs → zs ≡ sets xs i (us ++ vs)
stored_on xs i us vs e f = f ∙ ap (λ s. sets s (i + length us) vs) e ∙ sym (sets-append us vs xs i)

pub halves : (n : ℕ) → le16 n ++ le16 (n / Byte.TWO) ≡ le32 n
halves n = rw div-div-eq-div-mul
