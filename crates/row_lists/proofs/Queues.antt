-- A list of those that wait, in its row: the place that a key finds, one more, and one less. Assumes nothing.
use Prim.Native.Nat.{ℕ, ◌+◌, ◌-◌, ◌*◌, ◌%◌, ◌≤◌, ◌<◌}
use native.Mathlib.Omega.{arith}
use mathlib.Core.Path.{◌≡◌, sym, ◌∙◌, ap}
use mathlib.Core.List.{List, ◌++◌, map}
use lib.Dec.{ltb}
use lib.ListN.{length, get_or, set, take, drop, length-map}
use lib.IntN.{pos}
use Rattle.semantics.specs.Words.{insert}
use Rattle.semantics.specs.State.{Waiter, higher}
use Rattle.promises.specs.Laws.{all_map, all_get}
use Rattle.base_numbers.specs.Row as Row
use Rattle.base_numbers.specs.Word as Word
use Rattle.base_ordered.specs.Lines.{pad, Canon, inserted, removed, place_of, waiter_key, waiter_word}
use Rattle.base_ordered.specs.Order.{Keyed, insert_placed, higher_key, waiter_below, word_place}
use Rattle.base_ordered.specs.Shown.{canon, placed, same_placed}
use Rattle.row_work.specs.Work.{waiters_row, WaiterSized}
use Rattle.row_work.specs.Shown.{pad_at, get_map}
use Rattle.row_work.specs.Inside.{part_at}
use Rattle.row_lists.specs.Queues.{Queue, queued, before, Seeking, Sought, Joining, Parting}
use Rattle.row_lists.proofs.Rows.{row_wide, row_put, row_out}

module _ {w : List ℕ} {from count : ℕ} {ws : List Waiter} (q : Queue w from count ws) where
  abbrev row : List ℕ
  row = take (from + Row.WAITERS_MOST - from) (drop from w)

  width : from + Row.WAITERS_MOST - from ≡ Row.WAITERS_MOST
  width = omega arith

  row_here : row ≡ waiters_row ws
  row_here = ap (λ n. take n (drop from w)) width ∙ q.row_is

  pub here_canon : Canon row (get_or w count 0)
  here_canon = canon waiter_word ws Row.WAITERS_MOST row _ row_here q.count_is

  pub here_wide : length row ≡ Row.WAITERS_MOST
  here_wide = row_wide waiter_word ws Row.WAITERS_MOST row _ row_here q.count_is q.sized.few

  -- Another list in its place.
  replaced : (xs : List Waiter) (ys : List ℕ) (m n : ℕ) → ys ≡ waiters_row xs → m ≡ n
      → set (take from w ++ (ys ++ drop (from + Row.WAITERS_MOST - from) (drop from w))) count m ≡ queued w from count xs n
  replaced xs ys m n a b =
      ap (λ k. set (take from w ++ (ys ++ drop k (drop from w))) count m) width
      ∙ ap (λ l. set (take from w ++ (l ++ drop Row.WAITERS_MOST (drop from w))) count m) a
      ∙ ap (λ k. queued w from count xs k) b

  -- The place of the one at k.
  pub place_at : (k : ℕ) → k < length ws → get_or w (from + k) 0 % Word.PLACES ≡ get_or (map (λ x. x.place) ws) k 0
  place_at k h =
      let l = q.sized.few in
      let c : length (map waiter_word ws) ≡ length ws = length-map ws waiter_word in
      let x : Waiter = get_or ws k (record { priority = pos 0; place = 0 }) in
      let z : WaiterSized x = all_get WaiterSized ws k _ q.sized.each (omega arith) in
      ap (λ n. n % Word.PLACES)
      (sym (part_at w from Row.WAITERS_MOST k (omega arith))
      ∙ ap (λ r. get_or r k 0) q.row_is
      ∙ pad_at Row.WAITERS_MOST (map waiter_word ws) k (omega arith)
      ∙ get_map waiter_word ws k _ h)
      ∙ word_place x z.place_low
      ∙ sym (get_map (λ x. x.place) ws k _ h)

-- The limit just above the key finds the place behind its equals.
pub found : {w : List ℕ} {from count key r : ℕ} (d : Seeking w from count key)
    → r ≡ place_of (λ y. ltb y (Word.KEY * (key + 1))) (take (get_or w count 0) (row d.queue)) → r ≤ get_or w count 0
    → Sought w from count key r d
found {w} {from} {count} d e l =
    let q = d.queue in
    record {
      place_is =
          e
          ∙ ap (λ k. place_of (λ y. ltb y (Word.KEY * (k + 1))) (take (get_or w count 0) (row q))) d.key_is
          ∙ placed waiter_word d.line Row.WAITERS_MOST (row q) _ (row_here q) q.count_is _
          ∙ same_placed _ _ d.line
          (all_map WaiterSized _ (λ v k. waiter_below d.who v k.place_low) d.line q.sized.each);
      in_line = omega (arith, q.count_is);
    }

module _ {w : List ℕ} {from count key place : ℕ} (d : Joining w from count key place) where
  abbrev line : List Waiter
  line = d.seeking.line

  abbrev who : Waiter
  who = d.seeking.who

  keyed : Keyed higher waiter_key who line
  keyed =
      all_map WaiterSized _ (λ v k. higher_key who v d.ranked k.priority_ok) line d.seeking.queue.sized.each

  pub joined : (at : ℕ) (ys : List ℕ) → at ≡ before who line
      → ys ≡ pad (length (row d.seeking.queue))
      (inserted at (Word.KEY * key + place) (take (get_or w count 0) (row d.seeking.queue)))
      → set (take from w ++ (ys ++ drop (from + Row.WAITERS_MOST - from) (drop from w))) count (get_or w count 0 + 1)
      ≡ queued w from count (insert higher who line) (length line + 1)
  joined at ys a b =
      let q = d.seeking.queue in
      let v : Word.KEY * key + place ≡ waiter_word who = omega (arith, d.seeking.key_is, d.place_is) in
      replaced q (insert higher who line) ys _ _
      (row_put waiter_word line Row.WAITERS_MOST (row q) _ (row_here q) q.count_is q.sized.few at _ who v ys b
      ∙ ap (λ i. waiters_row (inserted i who line)) a
      ∙ ap waiters_row (insert_placed higher waiter_key who line keyed))
      (ap (λ n. n + 1) q.count_is)

pub parted : {w : List ℕ} {from count k : ℕ} (d : Parting w from count k) (ys : List ℕ)
    → ys ≡ pad (length (row d.queue)) (removed k (take (get_or w count 0) (row d.queue)))
    → set (take from w ++ (ys ++ drop (from + Row.WAITERS_MOST - from) (drop from w))) count (get_or w count 0 - 1)
    ≡ queued w from count (removed k d.line) (length d.line - 1)
parted {k = k} d ys b =
    let q = d.queue in
    replaced q (removed k d.line) ys _ _
    (row_out waiter_word d.line Row.WAITERS_MOST (row q) _ (row_here q) q.count_is q.sized.few k ys b)
    (ap (λ n. n - 1) q.count_is)
