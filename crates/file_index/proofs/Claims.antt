-- The bits of the things that a claim names, item by item. Assumes nothing.
use mathlib.Core.Path.{◌≡◌, refl, sym, ◌∙◌}
use mathlib.Core.List.{List, ◌++◌}
use mathlib.Core.Bool.{true}
use Prim.Native.Nat.{ℕ, ◌+◌, ◌≤◌, ◌*◌, ◌/◌, ◌%◌, ◌^◌, ◌<◌, max}
use native.Mathlib.Nat.{one-mul}
use native.Mathlib.Omega.{arith}
use borrow.Author.Tests.{leb-true, eqb-true}
use lib.Arith.{bin_ind}
use lib.Bits.{bit_or, or_step, or_zero_r}
use lib.Dec.{leb}
use lib.ListN.{length}
use lib.Pow.{shl_exact}
use Rattle.semantics.specs.Bytes.{parts}
use Rattle.semantics.specs.Record.{item, list_sized}
use Rattle.promises.specs.Laws.{and-true}
use Rattle.file_check_parts.proofs.Laws.{parts_none}
use Rattle.file_check_parts.proofs.Chunks.{comes, no_room}
use Rattle.file_index.specs.Branches.{bit_of, bits_of, Claimed}

-- A list of items of just its size begins with a claim.
pub claimed_by : (bs : List ℕ) → list_sized item bs ≡ true → Claimed bs
claimed_by bs e =
    let a = and-true (leb 2 (length bs)) _ e in
    record { counted = leb-true 2 (length bs) a.0; fits = omega (arith, eqb-true (length bs) _ a.1) }

-- OR of three numbers, digit by digit.
or_half : (a b : ℕ) → bit_or a b / 2 ≡ bit_or (a / 2) (b / 2)
or_half a b = omega (arith, or_step a b)

or_odd : (a b : ℕ) → bit_or a b % 2 ≡ max (a % 2) (b % 2)
or_odd a b = omega (arith, or_step a b)

or_assoc : (a b c : ℕ) → bit_or (bit_or a b) c ≡ bit_or a (bit_or b c)
or_assoc a =
    bin_ind (λ (n : ℕ). (b c : ℕ) → bit_or (bit_or n b) c ≡ bit_or n (bit_or b c)) (λ b c. refl) (λ n ih b c.
    or_step (bit_or n b) c
    ∙ rw (or_half n b, or_odd n b, ih (b / 2) (c / 2))
    (sym (or_step n (bit_or b c) ∙ rw (or_half b c, or_odd b c) (omega arith)))) a

-- ONE BIT, as a shift makes it.
pub bit_exact : (p : ℕ) → p < 32 → (1 * 2 ^ p) % 2 ^ 32 ≡ 2 ^ p
bit_exact p h = shl_exact 1 p 32 (omega arith) (omega arith) ∙ one-mul (2 ^ p)

-- ROUND THE LOOP over items: what is found so far, and what is found in the n that are left of r.
pub bits_turn : (j n m : ℕ) (r x r' : List ℕ) (found all b : ℕ) → r ≡ x ++ r' → length x ≡ 8 → m + 1 ≡ n → b ≡ bit_of j x →
    bit_or found (bits_of j (parts 8 n r)) ≡ all → bit_or (bit_or found b) (bits_of j (parts 8 m r')) ≡ all
unfolding bits_of
bits_turn j n m r x r' found all b e l o f i =
    rw f (or_assoc found (bit_of j x) _ ∙ (rw (comes 8 n m r x r' e l o) at i))

pub bits_end : (j n : ℕ) (r : List ℕ) (found all : ℕ) → (0 < n → length r < 8) → 8 * n ≤ length r → bit_or found (bits_of j
    (parts 8 n r)) ≡ all → found ≡ all
unfolding bits_of
bits_end j n r found all h f i =
    sym (or_zero_r found) ∙ rw (parts_none 8 n r (no_room 8 n (length r) (omega arith) f h)) at i
