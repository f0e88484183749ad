-- A list copied over another of its length, number by number. Assumes nothing.
use Prim.Native.Nat.{ℕ, ◌+◌, ◌≤◌, ◌<◌}
use native.Mathlib.Omega.{arith}
use native.Mathlib.Nat.{zero-add}
use native.Mathlib.Numerals.{add-one}
use mathlib.Core.Path.{◌≡◌, refl, sym, ◌∙◌, ap}
use mathlib.Core.List.{List, ◌++◌, append-nil}
use lib.ListN.{length, get_or, set, take, drop, length-set}
use lib.Seq.{paste, paste-zero, paste-suc, take_all, drop-length}

-- The first i of `from` stand in `now`, which was `to`.
pub record Copied (from to now : List ℕ) (i : ℕ) : Type 0 where
  pub within : i ≤ length from
  pub as_long : length now ≡ length to
  pub stand : now ≡ paste to 0 from i

module _ (from to : List ℕ) (e : length from ≡ length to) where
  pub copied_none : Copied from to to 0
  copied_none = record { within = omega arith; as_long = refl; stand = paste-zero to 0 from }

  pub copied_one : (now : List ℕ) (i : ℕ) → Copied from to now i → i < length from
      → Copied from to (set now i (get_or from i 0)) (i + 1)
  copied_one now i c h =
      record {
        within = omega arith;
        as_long = length-set now i (get_or from i 0) ∙ c.as_long;
        stand =
            ap (λ l. set l i (get_or from i 0)) c.stand
            ∙ ap (λ k. set (paste to 0 from i) k (get_or from i 0)) (sym (zero-add i))
            ∙ paste-suc to 0 from i 0 (omega arith) h
            ∙ ap (paste to 0 from) (sym (add-one i));
      }

  pub copied_all : (now : List ℕ) (i : ℕ) → Copied from to now i → length from ≤ i → now ≡ from
  copied_all now i c h =
      let a : 0 + i ≡ length to = omega arith in
      c.stand
      ∙ ap (λ k. take i from ++ drop k to) a
      ∙ ap (λ l. take i from ++ l) (drop-length to)
      ∙ append-nil (take i from)
      ∙ take_all i from h
