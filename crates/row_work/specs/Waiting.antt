-- The waiting list of a sync in the work: its row and how many wait. Assumes nothing.
use Rattle.std.specs.Prelude.{ℕ, ◌+◌, ◌-◌, ◌*◌, ◌≤◌, ◌<◌, ◌≡◌, List, [], ◌++◌, map, get_or, take, drop, replicate}
use Rattle.std.proofs.Common.{arith, sym, ◌∙◌, append_assoc, length-set, length-take-le}
use Rattle.std.proofs.Math.Path.{ap}
use Rattle.std.proofs.Math.ListN.{length, set, length-map}
use Rattle.semantics.specs.Words.{collect}
use Rattle.semantics.specs.State.{State, Waiter, with_waiting}
use Rattle.promises.specs.Laws.{all_set}
use Rattle.base_numbers.specs.Row as Row
use Rattle.base_numbers.specs.Limit as Limit
use Rattle.base_ordered.specs.Lines.{pad, waiter_word}
use Rattle.row_work.specs.Laid.{laid, Wide, laid-set, laid_replaced, Even, even_length, even_part, even_replaced}
use Rattle.row_work.specs.Work.{waiters_row, work_parts, work_widths, work_of, Sized}
use Rattle.row_work.specs.Shown.{pad-length, row_length, pad-set, set-map, waiting_even, work_wide, work_long}
use Rattle.row_work.specs.Inside.{wide_replaced, inner_part, inner_replaced}

module _ (s : State) (h : Sized s) where
  -- The rows of all lists, and what stands in front of them and behind.
  abbrev rows : List ℕ
  rows = collect waiters_row s.waiting

  abbrev front : List ℕ
  front = take Row.WAITING (work_of s)

  abbrev rest : List ℕ
  rest = drop Row.WAITERS_ALL (drop Row.WAITING (work_of s))

  abbrev zeros : List ℕ
  zeros = replicate (Row.WAITERS_ALL - length rows) 0

  rows_long : length rows ≡ Row.WAITERS_MOST * length s.waiting
  rows_long = even_length waiters_row Row.WAITERS_MOST s.waiting (waiting_even s h)

  front_long : length front ≡ Row.WAITING
  front_long = length-take-le Row.WAITING (work_of s) (omega (arith, work_long s h))

  -- Other rows in their place.
  others : (ys : List ℕ) → front ++ (ys ++ rest) ≡ laid (set (work_parts s) 8 ys)
  unfolding work_of
  others ys = laid_replaced (work_parts s) work_widths (work_wide s h) 8 ys (omega arith)

  abbrev all_of : List ℕ
  all_of = front ++ (rows ++ (zeros ++ rest))

  whole : all_of ≡ work_of s
  unfolding work_of
  whole = ap (λ l. front ++ l) (sym (append_assoc rows zeros rest)) ∙ others (rows ++ zeros)

  module _ (i : ℕ) (there : i < length s.waiting) where
    abbrev from : ℕ
    from = Row.WAITING + Row.WAITERS_MOST * i

    at_row : length front + Row.WAITERS_MOST * i ≡ from
    at_row = omega (arith, front_long)

    inside : Row.WAITERS_MOST * i + Row.WAITERS_MOST ≤ length rows
    inside = omega (arith, rows_long)

    pub waiting_part : take Row.WAITERS_MOST (drop from (work_of s)) ≡ waiters_row (get_or s.waiting i [])
    waiting_part =
        ap (λ l. take Row.WAITERS_MOST (drop from l)) (sym whole)
        ∙ ap (λ k. take Row.WAITERS_MOST (drop k all_of)) (sym at_row)
        ∙ inner_part front rows (zeros ++ rest) (Row.WAITERS_MOST * i) Row.WAITERS_MOST inside
        ∙ even_part waiters_row Row.WAITERS_MOST s.waiting (waiting_even s h) i [] there

    -- Another list written, and how many wait.
    module _ (ws : List Waiter) (few : length ws ≤ Row.WAITERS_MOST) where
      abbrev lists : List (List Waiter)
      lists = set s.waiting i ws

      lists_even : Even waiters_row Row.WAITERS_MOST lists
      lists_even = all_set _ s.waiting i ws (waiting_even s h) (row_length Row.WAITERS_MOST waiter_word ws few)

      lists_long : length (collect waiters_row lists) ≡ length rows
      lists_long =
          even_length waiters_row Row.WAITERS_MOST lists lists_even
          ∙ ap (λ n. Row.WAITERS_MOST * n) (length-set s.waiting i ws)
          ∙ sym rows_long

      abbrev laid_lists : List ℕ
      laid_lists = pad Row.WAITERS_ALL (collect waiters_row lists)

      row_written : take from (work_of s) ++ (waiters_row ws ++ drop Row.WAITERS_MOST (drop from (work_of s)))
          ≡ laid (set (work_parts s) 8 laid_lists)
      row_written =
          ap (λ l. take from l ++ (waiters_row ws ++ drop Row.WAITERS_MOST (drop from l))) (sym whole)
          ∙ ap (λ k. take k all_of ++ (waiters_row ws ++ drop Row.WAITERS_MOST (drop k all_of))) (sym at_row)
          ∙ inner_replaced front rows (zeros ++ rest) (Row.WAITERS_MOST * i) Row.WAITERS_MOST inside (waiters_row ws)
          ∙ ap (λ l. front ++ (l ++ (zeros ++ rest)))
          (even_replaced waiters_row Row.WAITERS_MOST s.waiting (waiting_even s h) i ws there)
          ∙ ap (λ l. front ++ l) (sym (append_assoc (collect waiters_row lists) zeros rest))
          ∙ ap (λ n. front ++ ((collect waiters_row lists ++ replicate (Row.WAITERS_ALL - n) 0) ++ rest)) (sym lists_long)
          ∙ others laid_lists

      lists_wide : Wide (set (work_parts s) 8 laid_lists) work_widths
      lists_wide =
          let b = h.syncs_few in
          wide_replaced (work_parts s) work_widths (work_wide s h) 8 laid_lists
          (pad-length Row.WAITERS_ALL (collect waiters_row lists) (omega (arith, lists_long, rows_long)))

      pub waiting_changed : (n : ℕ) → n ≡ length ws
          → set (take from (work_of s) ++ (waiters_row ws ++ drop Row.WAITERS_MOST (drop from (work_of s)))) (Row.WAITS + i) n
          ≡ work_of (with_waiting s lists)
      unfolding work_of
      waiting_changed n e =
          let b = h.syncs_few in
          let c : length (map length s.waiting) ≡ length s.waiting = length-map s.waiting length in
          ap (λ l. set l (Row.WAITS + i) n) row_written
          ∙ laid-set (set (work_parts s) 8 laid_lists) work_widths lists_wide 4 i n (omega arith)
          ∙ ap (λ r. laid (set (set (work_parts s) 8 laid_lists) 4 r))
          (pad-set Limit.THINGS (map length s.waiting) i n (omega arith)
          ∙ ap (λ k. pad Limit.THINGS (set (map length s.waiting) i k)) e
          ∙ ap (pad Limit.THINGS) (set-map length s.waiting i ws))
