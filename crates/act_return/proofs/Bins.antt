-- What is read of a bin. Assumes nothing.
use Prim.Native.Nat.{ℕ, ◌+◌, ◌≤◌, ◌<◌}
use native.Mathlib.Omega.{arith}
use mathlib.Core.Path.{◌≡◌, ◌∙◌, ap}
use mathlib.Core.List.{List}
use lib.ListN.{length, get_or}
use Rattle.semantics.specs.Numbers as No
use Rattle.promises.specs.Laws.{all_get}
use Rattle.row_work.specs.Shown.{bins_at}
use Rattle.row_process.specs.Process.{Shown}
use Rattle.act_floor.proofs.Reading.{is_long}

module _ {w : List ℕ} {i : ℕ} (v : Shown w (λ s. i < length s.bins)) where
  pub bin_in : 40 + i < length w
  bin_in = omega (arith, is_long v, v.given, v.sized.bins_few)

  pub bin_is : get_or w (40 + i) 0 ≡ get_or v.is.bins i 0
  bin_is = ap (λ l. get_or l (40 + i) 0) v.shows ∙ bins_at v.is v.sized i v.given

  pub bin_low : get_or w (40 + i) 0 ≤ No.full_bin
  bin_low = rw bin_is (all_get (λ x. x ≤ No.full_bin) v.is.bins i 0 v.sized.bins_low (omega arith))
