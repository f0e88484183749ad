-- The loop that lays an array into the row: how far it has come, and one turn of it. Assumes nothing.
use mathlib.Core.Path.{◌≡◌, refl}
use mathlib.Core.List.{List, [], ◌∷◌}
use Prim.Native.Nat.{ℕ, ◌+◌, ◌≤◌, ◌<◌}
use native.Mathlib.Numerals.{add-one}
use native.Mathlib.Omega.{arith}
use lib.ListN.{length, get_or, drop, set, drop_of_length-le}
use lib.Seq.{drop-cons, sets}
use Rattle.file_index.proofs.Filled.{Fills, Next, fills_none, fills_length, next_room, next_filled, fills_end}

-- i of xs are laid from `at` of `base` on; the others are still to come.
pub record Laying (xs : List ℕ) (at : ℕ) (base row : List ℕ) (i : ℕ) : Type 0 where
  pub within : i ≤ length xs
  pub fills : Fills base at xs row (at + i) (drop i xs)

pub lay_starts : (xs : List ℕ) (at : ℕ) (base : List ℕ) → at + length xs ≤ length base → Laying xs at base base 0
lay_starts xs at base h =
    let z : at + 0 ≡ at = omega arith in
    record { within = omega arith; fills = rw z (fills_none base at xs xs h refl) }

module _ {xs : List ℕ} {at : ℕ} {base row : List ℕ} {i : ℕ} (x : Laying xs at base row i) where
  pub lay_long : length row ≡ length base
  lay_long = fills_length x.fills

  module _ (h : i < length xs) where
    on : Next base at xs row (at + i) (get_or xs i 0 ∷ []) (drop (i + 1) xs)
    on = record { fills = rw (drop-cons xs i 0 h, ← (add-one i)) at x.fills }

    pub lay_room : at + i < length row
    lay_room = omega (arith, next_room on)

    pub lay_turn : {v : ℕ} → v ≡ get_or xs i 0 → Laying xs at base (set row (at + i) v) (i + 1)
    lay_turn e =
        let z : at + (i + 1) ≡ at + i + 1 = omega arith in
        record { within = omega arith; fills = rw (z, e) (next_filled on) }

  pub lay_ends : length xs ≤ i → row ≡ sets base at xs
  lay_ends h = (fills_end (drop_of_length-le xs h) x.fills).after_is
