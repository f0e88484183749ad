-- A process's slaves in a work that shows the state: their row and how many there are, read and written. Assumes nothing.
use Prim.Native.Nat.{ℕ, suc, ◌+◌, ◌-◌, ◌*◌, ◌≤◌, ◌<◌}
use native.Mathlib.Omega.{arith}
use mathlib.Core.Path.{◌≡◌, refl, sym, ◌∙◌, ap}
use mathlib.Core.List.{List, [], ◌∷◌, ◌++◌, map, map-append, append_assoc, append-nil}
use lib.ListN.{length, get_or, set, take, drop, replicate, length-append, length-map}
use lib.Seq.{length-take-le, append_snoc, set-get_or, set_at}
use Rattle.semantics.specs.Numbers as No
use Rattle.semantics.specs.Words.{sum, collect}
use Rattle.semantics.specs.State.{State, Process, Slave, nobody, is_free, process, put, with_slaves, with_processes}
use Rattle.base_numbers.specs.Row as Row
use Rattle.base_numbers.specs.Process as Process
use Rattle.base_numbers.specs.Limit as Limit
use Rattle.base_ordered.specs.Lines.{pad}
use Rattle.row_work.specs.Laid.{laid, Wide, laid_at, laid-set, laid_part, laid_replaced, even_length, even_replaced}
use Rattle.row_work.specs.Work.{slave_word, process_parts, process_row, head_of, work_parts, work_widths, work_of, Sized}
use Rattle.row_work.specs.Shown.{row_length, process_wide, living_still, processes_even, work_wide, work_long}
use Rattle.row_process.specs.Put.{process_sized}

-- Where the row of the slaves of the process in place p begins, and where it says how many there are.
abbrev pub row_at : ℕ → ℕ
row_at p = Row.FIRST_OWNED + Process.WORDS * p

abbrev pub count_at : ℕ → ℕ
count_at p = Row.PROCESSES + Process.WORDS * p + Process.SLAVES

-- The work w with ys in place of the k numbers from a on.
abbrev pub replaced : (a k : ℕ) → List ℕ → List ℕ → List ℕ
replaced a k ys w = take a w ++ (ys ++ drop k (drop a w))

-- Rows between others, as one.
laid-append : (xs ys : List (List ℕ)) → laid (xs ++ ys) ≡ laid xs ++ laid ys
unfolding laid
laid-append [] ys = refl
laid-append (x ∷ xs) ys = ap (λ l. x ++ l) (laid-append xs ys) ∙ sym (append_assoc x (laid xs) (laid ys))

between : (a b : List ℕ) (xs : List (List ℕ)) (c d : List ℕ)
    → laid (a ∷ b ∷ (xs ++ c ∷ d ∷ [])) ≡ a ++ ((b ++ (laid xs ++ c)) ++ d)
unfolding laid
between a b xs c d =
    ap (λ l. a ++ (b ++ l)) (laid-append xs (c ∷ d ∷ [])) ∙ simp (append_assoc, append-nil)

-- One more word, behind the others.
row_more : (xs : List Slave) (x : Slave) → length xs < Process.OWNED_MOST
    → set (pad Process.OWNED_MOST (map slave_word xs)) (length xs) (slave_word x)
    ≡ pad Process.OWNED_MOST (map slave_word (xs ++ x ∷ []))
row_more xs x h =
    let ws : List ℕ = map slave_word xs in
    let n : length ws ≡ length xs = length-map xs slave_word in
    let k : Process.OWNED_MOST - length ws ≡ suc (Process.OWNED_MOST - 1 - length ws) = omega arith in
    let m : Process.OWNED_MOST - length (ws ++ slave_word x ∷ []) ≡ Process.OWNED_MOST - 1 - length ws =
    omega (arith, length-append ws (slave_word x ∷ [])) in
    ap (λ j. set (ws ++ replicate j 0) (length xs) (slave_word x)) k
    ∙ set_at ws 0 (replicate (Process.OWNED_MOST - 1 - length ws) 0) (slave_word x) (length xs) n
    ∙ sym (append_snoc ws (slave_word x) (replicate (Process.OWNED_MOST - 1 - length ws) 0))
    ∙ ap (λ j. (ws ++ slave_word x ∷ []) ++ replicate j 0) (sym m)
    ∙ ap (pad Process.OWNED_MOST) (sym (map-append slave_word xs (x ∷ [])))

-- THE WORK with the parts of the process in place p laid out.
module _ (s : State) (h : Sized s) (p : ℕ) (l : p < No.places) where
  abbrev q : Process
  q = process s p

  abbrev rows : List ℕ
  rows = collect process_row s.processes

  abbrev parted : Process → List (List ℕ)
  parted r =
      take Row.PROCESSES (work_of s)
      ∷ take (Process.WORDS * p) rows
      ∷ (process_parts r ++ drop Process.WORDS (drop (Process.WORDS * p) rows)
      ∷ drop Row.PROCESSES_ALL (drop Row.PROCESSES (work_of s)) ∷ [])

  abbrev widths : List ℕ
  widths =
      Row.PROCESSES ∷ Process.WORDS * p ∷ Process.LOCALS ∷ No.locals ∷ Limit.THINGS ∷ Limit.DEPTH ∷ Process.OWNED_MOST
      ∷ length (drop Process.WORDS (drop (Process.WORDS * p) rows))
      ∷ length (drop Row.PROCESSES_ALL (drop Row.PROCESSES (work_of s))) ∷ []

  parted_is : (r : Process) → is_free r ≡ is_free q → laid (parted r) ≡ work_of (put p r s)
  unfolding work_of process_row
  parted_is r e =
      let n = h.places_64 in
      let ys : List ℕ = collect process_row (set s.processes p r) in
      between (take Row.PROCESSES (work_of s)) (take (Process.WORDS * p) rows) (process_parts r)
      (drop Process.WORDS (drop (Process.WORDS * p) rows))
      (drop Row.PROCESSES_ALL (drop Row.PROCESSES (work_of s)))
      ∙ ap (λ l. take Row.PROCESSES (work_of s) ++ (l ++ drop Row.PROCESSES_ALL (drop Row.PROCESSES (work_of s))))
      (even_replaced process_row Process.WORDS s.processes (processes_even s h) p r (omega arith))
      ∙ laid_replaced (work_parts s) work_widths (work_wide s h) 9 ys (omega arith)
      ∙ ap (λ n. laid (set (set (work_parts s) 9 ys) 0 (set (head_of s) 4 n))) (sym (living_still s.processes p r e))

  whole : laid (parted q) ≡ work_of s
  whole = parted_is q refl ∙ ap (λ ps. work_of (with_processes s ps)) (set-get_or s.processes p nobody)

  -- The row of the slaves, or another in its place.
  parted_wide : (row : List ℕ) → length row ≡ Process.OWNED_MOST → Wide (set (parted q) 6 row) widths
  parted_wide row e =
      let a = process_wide q (process_sized s p h) in
      let n = h.places_64 in
      let m = work_long s h in
      let k = even_length process_row Process.WORDS s.processes (processes_even s h) in (
        length-take-le Row.PROCESSES (work_of s) (omega arith),
        (
          length-take-le (Process.WORDS * p) rows (omega arith),
          (a.0, (a.1.0, (a.1.1.0, (a.1.1.1.0, (e, (refl, (refl, tt))))))),
        ),
      )

  wide : Wide (parted q) widths
  wide =
      let a = (process_sized s p h).slaves_few in
      parted_wide (pad Process.OWNED_MOST (map slave_word q.slaves))
      (row_length Process.OWNED_MOST slave_word q.slaves (omega arith))

  at_row : sum (take 6 widths) ≡ row_at p
  at_row = omega arith

  at_count : count_at p ≡ sum (take 2 widths) + 3
  at_count = omega arith

  pub slaves_part : take Process.OWNED_MOST (drop (row_at p) (work_of s)) ≡ pad Process.OWNED_MOST (map slave_word q.slaves)
  slaves_part =
      ap (λ k. take Process.OWNED_MOST (drop k (work_of s))) (sym at_row)
      ∙ ap (λ x. take Process.OWNED_MOST (drop (sum (take 6 widths)) x)) (sym whole)
      ∙ laid_part (parted q) widths wide 6 (omega arith)

  pub count_at_lem : get_or (work_of s) (count_at p) 0 ≡ length q.slaves
  count_at_lem =
      ap (λ k. get_or (work_of s) k 0) at_count
      ∙ ap (λ x. get_or x (sum (take 2 widths) + 3) 0) (sym whole)
      ∙ laid_at (parted q) widths wide 2 3 (omega arith)

  -- Another row, and how many there are.
  module _ (xs : List Slave) (few : length xs ≤ Process.OWNED_MOST) (n : ℕ) (all_of : n ≡ length xs) where
    counted : (row : List ℕ) → row ≡ pad Process.OWNED_MOST (map slave_word xs)
        → set (laid (set (parted q) 6 row)) (count_at p) n ≡ work_of (put p (with_slaves q xs) s)
    counted row e =
        let m : length row ≡ Process.OWNED_MOST = ap length e ∙ row_length Process.OWNED_MOST slave_word xs few in
        ap (λ k. set (laid (set (parted q) 6 row)) k n) at_count
        ∙ laid-set (set (parted q) 6 row) widths (parted_wide row m) 2 3 n (omega arith)
        ∙ ap (λ r. laid (set (set (parted q) 6 r) 2 (set (get_or (parted q) 2 []) 3 n))) e
        ∙ ap (λ m. laid (set (parted (with_slaves q xs)) 2 (set (get_or (parted q) 2 []) 3 m))) all_of
        ∙ parted_is (with_slaves q xs) refl

    pub slaves_changed : (row : List ℕ) → row ≡ pad Process.OWNED_MOST (map slave_word xs)
        → set (replaced (row_at p) Process.OWNED_MOST row (work_of s)) (count_at p) n ≡ work_of (put p (with_slaves q xs) s)
    slaves_changed row e =
        ap (λ k. set (replaced k Process.OWNED_MOST row (work_of s)) (count_at p) n) (sym at_row)
        ∙ ap (λ x. set (replaced (sum (take 6 widths)) Process.OWNED_MOST row x) (count_at p) n) (sym whole)
        ∙ ap (λ x. set x (count_at p) n) (laid_replaced (parted q) widths wide 6 row (omega arith))
        ∙ counted row e

  -- One more, behind the others.
  pub slaves_more : (x : Slave) → length q.slaves < No.places
      → set (set (work_of s) (Row.PROCESSES + Process.WORDS * p + (Process.OWNED + length q.slaves)) (slave_word x)) (count_at p)
      (length q.slaves + 1)
      ≡ work_of (put p (with_slaves q (q.slaves ++ x ∷ [])) s)
  slaves_more x few =
      let n : ℕ = length q.slaves in
      let v : ℕ = slave_word x in
      let k : Row.PROCESSES + Process.WORDS * p + (Process.OWNED + n) ≡ sum (take 6 widths) + n = omega arith in
      let m = length-append q.slaves (x ∷ []) in
      ap (λ k. set (set (work_of s) k v) (count_at p) (n + 1)) k
      ∙ ap (λ y. set (set y (sum (take 6 widths) + n) v) (count_at p) (n + 1)) (sym whole)
      ∙ ap (λ y. set y (count_at p) (n + 1))
      (laid-set (parted q) widths wide 6 n v (omega arith))
      ∙ counted (q.slaves ++ x ∷ []) (omega arith) (n + 1) (omega arith)
      (set (pad Process.OWNED_MOST (map slave_word q.slaves)) n v) (row_more q.slaves x (omega arith))
