-- Tails and tests on branches by the numbers that the code gives them; and how long a tail of its size is. Assumes nothing.
use mathlib.Core.Path.{◌≡◌, refl}
use mathlib.Core.List.{List}
use mathlib.Core.Bool.{true}
use Prim.Native.Nat.{ℕ, zero, suc, ◌+◌, ◌*◌, ◌≤◌, ◌/◌, ◌%◌}
use native.Mathlib.Omega.{arith}
use borrow.Author.Tests.{leb-true, eqb-true}
use lib.Dec.{leb, eqb}
use lib.ListN.{length}
use Rattle.semantics.specs.Words.{within}
use Rattle.semantics.specs.Numbers as No
use Rattle.semantics.specs.Bytes.{u16}
use Rattle.semantics.specs.Record.{Part, nothing, expression, branches, sized, part_size, list_sized}
use Rattle.file_check_tails.specs.Tails.{tail_of}
use Rattle.file_check_tails.proofs.Branches.{and_left, and_right}

pub no_tail : (t : ℕ) → (t ≡ 1 → ⊥) → (t ≡ 2 → ⊥) → (t ≡ 3 → ⊥) → (t ≡ 4 → ⊥) → tail_of t ≡ nothing
unfolding tail_of
no_tail zero e f g h = refl
no_tail (suc zero) e f g h = absurd (e refl)
no_tail (suc (suc zero)) e f g h = absurd (f refl)
no_tail (suc (suc (suc zero))) e f g h = absurd (g refl)
no_tail (suc (suc (suc (suc zero)))) e f g h = absurd (h refl)
no_tail (suc (suc (suc (suc (suc t))))) e f g h = refl

-- What a tail of its size has room for.
module _ (bs : List ℕ) where
  pub expression_few : sized expression bs ≡ true → length bs / 6 ≤ No.most_nodes
  expression_few e =
      let a = and_right (eqb (length bs % 6) 0) _ e in
      leb-true _ _ (and_right (leb 1 (length bs / 6)) _ (and_left (within 1 No.most_nodes (length bs / 6)) _ a))

  pub list_room : (p : Part) → list_sized p bs ≡ true → (2 ≤ length bs) × (2 + part_size p * u16 bs 0 ≤ length bs)
  list_room p e =
      let l = eqb-true (length bs) (2 + part_size p * u16 bs 0) (and_right (leb 2 (length bs)) _ e) in
      (leb-true _ _ (and_left (leb 2 (length bs)) _ e), omega arith)

  pub branches_room : sized branches bs ≡ true → 2 ≤ length bs
  branches_room e = leb-true _ _ (and_left (leb 2 (length bs)) _ e)
