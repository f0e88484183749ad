-- What is drawn, by codes: of so many values, of which the lowest has this code. Assumes nothing.
use Rattle.std.specs.Prelude.{ℕ, ◌+◌, ◌-◌, ◌%◌, ◌≤◌, ◌<◌, ◌≡◌, true, ℤ, pos}
use Rattle.std.proofs.Common.{arith, sym, ◌∙◌, leb-true}
use Rattle.std.specs.Int.Signed.{mag, le_z}
use Rattle.semantics.specs.Generator.{values_in, drawn}
use Rattle.base_numbers.specs.Code as Code
use Rattle.base_i32.specs.Code.{code, value_of}
use Rattle.base_i32.specs.Laws.{value_stands, code_stands, value_above, code_above, code_order}
use Rattle.base_i32.proofs.Sums.{sum_stands}

-- From lowest to highest there are so many.
many_values : (x n : ℕ) → 1 ≤ n → values_in (value_of x) (value_of (x + n - 1)) ≡ n
many_values x n h = rw (value_above x (x + n - 1) (omega arith)) (omega arith)

pub draw_code : (x n seed : ℕ) → 1 ≤ n → x + seed % n ≡ code (drawn (value_of x) (value_of (x + n - 1)) seed)
unfolding drawn
draw_code x n seed h =
    let k : ℕ = seed % n in
    rw (many_values x n h)
    (sym (code_stands _ _ (sum_stands (value_of x) (pos k) x Code.ZERO k 0 (value_stands x) (omega arith))))

-- Of two numbers of the i32 range, the first not above the second: where the second stands, by the first and how many there are.
pub highest_at : (low high : ℤ) → mag low < Code.ZERO → mag high < Code.ZERO → le_z low high ≡ true
    → code low + values_in low high ≡ code high + 1
highest_at low high f g e =
    let h : code low ≤ code high = leb-true (code low) (code high) (code_order low high f g ∙ e) in
    rw (code_above low high f g h) (omega arith)
