-- A journal read back: the lines that its bytes tell. Assumes nothing.
use Rattle.std.specs.Prelude.{◌≡◌, refl, List, [], ◌∷◌, ◌++◌, map, ℕ, zero, suc, ◌+◌, ◌*◌, ◌-◌, ◌<◌, ◌/◌, ◌%◌, ℤ, pos, negsuc, length, drop}
use Rattle.std.proofs.Common.{◌∙◌, ap, append_assoc, arith, lt-ltb, le-ltb}
use Rattle.std.proofs.Math.Nat.{div-div-eq-div-mul}
use Rattle.std.specs.Int.Signed.{mag}
use Rattle.semantics.specs.Bytes.{u16, u32, i32, signed}
use Rattle.semantics.specs.Walk.{Line}
use Rattle.semantics.specs.Journal.{twos, line_bytes, journal, written}
use Rattle.semantics.specs.Plan.{PrintedLine, print_line}
use Rattle.promises.specs.Laws.{AllOf}
use Rattle.base_numbers.specs.Code as Code
use Rattle.base_numbers.specs.Line as Line
use Rattle.base_numbers.specs.Byte as Byte

-- The line that bs begins with.
abbrev pub tell_in : List ℕ → PrintedLine
tell_in bs = (u32 bs Line.TIME_AT, u32 bs Line.PROCESS_AT, u16 bs Line.KIND_AT, i32 bs Line.VALUE_AT)

-- The first n lines of bs.
unfoldable pub tells_in : List ℕ → ℕ → List PrintedLine
tells_in bs zero = []
tells_in bs (suc n) = tell_in bs ∷ tells_in (drop Line.BYTES bs) n

-- A line that its 16 bytes can hold.
pub record Writable (l : Line) : Type 0 where
  pub time_fits : l.time < Byte.FOUR
  pub process_fits : l.process < Byte.FOUR
  pub kind_fits : l.kind < Byte.TWO
  pub value_fits : mag l.value < Code.ZERO

-- NUMBERS come back from their bytes.
low_half : (n : ℕ) → n % Byte.ONE + Byte.ONE * (n / Byte.ONE % Byte.ONE) ≡ n % Byte.TWO
low_half n = omega (arith, div-div-eq-div-mul n Byte.ONE Byte.ONE)

from_le16 : (n : ℕ) → n < Byte.TWO → n % Byte.ONE + Byte.ONE * (n / Byte.ONE % Byte.ONE) ≡ n
from_le16 n h = omega arith

from_le32 : (n : ℕ) → n < Byte.FOUR
    → (n % Byte.ONE + Byte.ONE * (n / Byte.ONE % Byte.ONE))
    + Byte.TWO * (n / Byte.TWO % Byte.ONE + Byte.ONE * (n / (Byte.TWO * Byte.ONE) % Byte.ONE))
    ≡ n
from_le32 n h =
    rw (low_half n, ← div-div-eq-div-mul n Byte.TWO Byte.ONE, from_le16 (n / Byte.TWO) (omega arith)) (omega arith)

signed-twos : (v : ℤ) → mag v < Code.ZERO → signed (twos v) ≡ v
signed-twos (pos n) h = rw (lt-ltb n Code.ZERO h)
signed-twos (negsuc n) h =
    rw (le-ltb (Code.HIGHEST - n) Code.ZERO (omega arith)) (ap negsuc (omega arith))

twos_fits : (v : ℤ) → mag v < Code.ZERO → twos v < Byte.FOUR
twos_fits (pos n) h = omega arith
twos_fits (negsuc n) h = omega arith

-- LINES come back from the journal that they were written into.
same_told : (t p k : ℕ) (v : ℤ) {t' p' k' : ℕ} {v' : ℤ} → t ≡ t' → p ≡ p' → k ≡ k' → v ≡ v'
    → ◌≡◌ {A = PrintedLine} (t, p, k, v) (t', p', k', v')
same_told t p k v e f g h = rw (e, f, g, h)

tell_line : (l : Line) (bs : List ℕ) → Writable l → tell_in (line_bytes l ++ bs) ≡ print_line l
unfolding line_bytes
tell_line l bs w =
    same_told _ _ _ _ (from_le32 l.time w.time_fits) (from_le32 l.process w.process_fits)
    (from_le16 l.kind w.kind_fits)
    (ap signed (from_le32 (twos l.value) (twos_fits l.value w.value_fits)) ∙ signed-twos l.value w.value_fits)

tell_on : (l : Line) (bs : List ℕ) (n : ℕ) → Writable l → tells_in (line_bytes l ++ bs) (suc n) ≡ print_line l ∷ tells_in bs n
unfolding line_bytes tells_in
tell_on l bs n w = ap (λ t. t ∷ tells_in bs n) (tell_line l bs w)

pub tells_journal : (ls : List Line) (bs : List ℕ) → AllOf Writable ls → tells_in (journal ls ++ bs) (length ls) ≡ map print_line ls
unfolding tells_in journal
tells_journal [] bs h = refl
tells_journal (l ∷ ls) bs h =
    ap (λ xs. tells_in xs (suc (length ls))) (append_assoc (line_bytes l) (journal ls) bs)
    ∙ tell_on l (journal ls ++ bs) (length ls) h.0
    ∙ ap (λ ts. print_line l ∷ ts) (tells_journal ls bs h.1)

pub tells_written : (ls : List Line) (j : List ℕ) → AllOf Writable ls → tells_in (written ls j) (length ls) ≡ map print_line ls
unfolding written
tells_written ls j h = tells_journal ls (drop (Line.BYTES * length ls) j) h
