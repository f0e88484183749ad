-- A row that a loop fills with one number. Assumes nothing.
use Prim.Native.Nat.{ℕ, suc, ◌+◌, ◌-◌, ◌<◌}
use native.Mathlib.Omega.{arith}
use native.Mathlib.Numerals.{add-one}
use mathlib.Core.Path.{◌≡◌, ◌∙◌, ap}
use mathlib.Core.List.{List, ◌++◌, append-nil}
use lib.ListN.{length, set, drop, replicate, length-replicate}
use lib.Seq.{sets, sets-eq, drop-length}

pub fill_starts : (xs : List ℕ) (v : ℕ) → sets xs 0 (replicate (length xs - 0) v) ≡ replicate (length xs) v
fill_starts xs v =
    let n : ℕ = length xs in
    let z : n - 0 ≡ n = omega arith in
    let l : length (replicate n v) ≡ n = length-replicate n v in
    let e : 0 + length (replicate n v) ≡ n = omega arith in
    ap (λ k. sets xs 0 (replicate k v)) z
    ∙ sets-eq (replicate n v) xs 0 (omega arith)
    ∙ ap (λ k. replicate n v ++ drop k xs) e
    ∙ ap (λ r. replicate n v ++ r) (drop-length xs)
    ∙ append-nil (replicate n v)

pub fill_turn : (xs : List ℕ) (n i v : ℕ) → i < n
    → sets (set xs i v) (i + 1) (replicate (n - (i + 1)) v) ≡ sets xs i (replicate (n - i) v)
fill_turn xs n i v h =
    let e : n - i ≡ suc (n - (i + 1)) = omega arith in
    rw (e, add-one i)

pub fill_ends : (xs : List ℕ) (n i v : ℕ) → n - i ≡ 0 → sets xs i (replicate (n - i) v) ≡ xs
fill_ends xs n i v e = rw e
