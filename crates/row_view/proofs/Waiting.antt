-- The waiting lists that are tested are those that the rows show. Assumes nothing.
use Prim.Native.Nat.{ℕ, ◌-◌, ◌*◌, ◌≤◌}
use native.Mathlib.Omega.{arith}
use mathlib.Core.Path.{◌≡◌, refl, sym, ◌∙◌, ap, ap₂}
use mathlib.Core.List.{List, [], ◌∷◌, ◌++◌, map, append_assoc}
use lib.ListN.{length, take, drop, replicate, length-drop, take-append-drop}
use lib.Seq.{take_at, drop_at, length-take-le}
use Rattle.semantics.specs.Words.{collect}
use Rattle.promises.specs.Laws.{AllOf, ◌&◌}
use Rattle.promises.specs.Says.{Says, says_for, ◌and◌}
use Rattle.base_numbers.specs.Row as Row
use Rattle.base_ordered.specs.Lines.{waiter_word}
use Rattle.row_work.specs.Work.{waiters_row, WaitersSized}
use Rattle.row_work.specs.Shown.{row_length}
use Rattle.row_view.specs.View.{waiters_of, waiting_of}
use Rattle.row_view.specs.Fits.{waiting_fits}
use Rattle.row_view.proofs.Shown.{says_nothing}
use Rattle.row_view.proofs.Lists.{Listed, says_waiters}

-- The rows are those of the waiting lists, and nothing behind them; each list is as long as its count says.
abbrev pub Waits : List ℕ → List ℕ → Type 0
Waits ns rows =
    (rows ≡ collect waiters_row (waiting_of ns rows) ++ replicate (length rows - Row.WAITERS_MOST * length ns) 0)
    × ((map length (waiting_of ns rows) ≡ ns) × AllOf WaitersSized (waiting_of ns rows))

-- One list more.
module _ (n : ℕ) (ns rows : List ℕ) (room : Row.WAITERS_MOST * length (n ∷ ns) ≤ length rows) where
  abbrev front : List ℕ
  front = take Row.WAITERS_MOST rows

  abbrev rest : List ℕ
  rest = drop Row.WAITERS_MOST rows

  abbrev mine : List ℕ
  mine = waiters_row (waiters_of n front)

  abbrev others : List ℕ
  others = collect waiters_row (waiting_of ns rest)

  same_zeros : length rest - Row.WAITERS_MOST * length ns ≡ length rows - Row.WAITERS_MOST * length (n ∷ ns)
  same_zeros = let a = length-drop Row.WAITERS_MOST rows in omega arith

  one_more : Listed n front × Waits ns rest → Waits (n ∷ ns) rows
  unfolding waiting_of
  one_more h =
      let zeros : List ℕ = replicate (length rest - Row.WAITERS_MOST * length ns) 0 in
      let a : front ++ rest ≡ mine ++ (others ++ zeros) = ap₂ ◌++◌ h.0.0 h.1.0 in
      (sym (take-append-drop Row.WAITERS_MOST rows) ∙ a ∙ sym (append_assoc mine others zeros)
      ∙ ap (λ j. (mine ++ others) ++ replicate j 0) same_zeros)
      & ap₂ ◌∷◌ h.0.1.0 h.1.1.0
      & (h.0.1.1, h.1.1.1)

  one_less : Waits (n ∷ ns) rows → Listed n front × Waits ns rest
  unfolding waiting_of
  one_less h =
      let zeros : List ℕ = replicate (length rows - Row.WAITERS_MOST * length (n ∷ ns)) 0 in
      let few = h.1.1.0.few in
      let l : length mine ≡ Row.WAITERS_MOST = row_length Row.WAITERS_MOST waiter_word (waiters_of n front) few in
      let e : rows ≡ mine ++ (others ++ zeros) = h.0 ∙ append_assoc mine others zeros in
      let a : front ≡ mine = ap (take Row.WAITERS_MOST) e ∙ take_at mine (others ++ zeros) Row.WAITERS_MOST l in
      let b : rest ≡ others ++ zeros = ap (drop Row.WAITERS_MOST) e ∙ drop_at mine (others ++ zeros) Row.WAITERS_MOST l in
      let c : length (waiters_of n front) ≡ n = let m = h.1.0 in (cc) in
      let d : map length (waiting_of ns rest) ≡ ns = let m = h.1.0 in (cc) in
      (a & c & h.1.1.0) & (b ∙ ap (λ j. others ++ replicate j 0) (sym same_zeros)) & d & h.1.1.1

pub says_waiting : (ns rows : List ℕ) → Row.WAITERS_MOST * length ns ≤ length rows → Says (waiting_fits ns rows) (Waits ns rows)
unfolding waiting_fits waiting_of
says_waiting [] rows h =
    let e : length rows - Row.WAITERS_MOST * 0 ≡ length rows = omega arith in
    says_for (says_nothing rows) (λ z. (z ∙ ap (λ j. replicate j 0) (sym e)) & refl & tt)
    (λ z. z.0 ∙ ap (λ j. replicate j 0) e)
says_waiting (n ∷ ns) rows h =
    let l : length (take Row.WAITERS_MOST rows) ≡ Row.WAITERS_MOST = length-take-le Row.WAITERS_MOST rows (omega arith) in
    says_for (says_waiters n (take Row.WAITERS_MOST rows) l
    and says_waiting ns (drop Row.WAITERS_MOST rows) (omega (arith, length-drop Row.WAITERS_MOST rows)))
    (one_more n ns rows h) (one_less n ns rows h)
