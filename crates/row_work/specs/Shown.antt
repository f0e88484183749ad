-- What stands where in the work, and what a number written there makes of the state. Assumes nothing.
use Prim.Native.Nat.{ℕ, zero, suc, ◌+◌, ◌-◌, ◌*◌, ◌≤◌, ◌<◌}
use Rattle.std.proofs.Common.{arith, sym, ◌∙◌, length-append, length-set}
use Rattle.std.specs.Prelude.{◌≡◌, refl, replicate, ℤ, pos, if◌then◌else◌}
use Rattle.std.proofs.Math.Path.{ap}
use mathlib.Core.List.{List, [], ◌∷◌, ◌++◌, map}
use Rattle.std.proofs.Math.ListN.{length, get_or, set, length-map, get_or-append}
use Rattle.std.proofs.lemmas.List.{length-replicate, set-append_left}
use Rattle.semantics.specs.Numbers as No
use Rattle.semantics.specs.Words.{collect}
use Rattle.semantics.specs.State.{State, Process, Frame, Waiter, nobody, is_free, process, put}
use Rattle.semantics.specs.State.{with_free, with_bins, with_globals}
use Rattle.promises.specs.Laws.{all_map, ◌&◌}
use Rattle.base_numbers.specs.Row as Row
use Rattle.base_numbers.specs.Process as Process
use Rattle.base_numbers.specs.Limit as Limit
use Rattle.base_i32.specs.Code.{code}
use Rattle.base_ordered.specs.Lines.{pad, event_key, waiter_word, data_of}
use Rattle.base_places.specs.Places.{lives, living_of}
use Rattle.row_work.specs.Laid.{laid, Wide, laid_at, laid-set, laid-length}
use Rattle.row_work.specs.Laid.{Even, even_length, even_at, even_set}
use Rattle.row_work.specs.Work.{frame_word, stacked, process_parts, process_widths, process_row, waiters_row}
use Rattle.row_work.specs.Work.{work_parts, work_widths}
use Rattle.row_work.specs.Work.{head_of, slave_word, work_of, ProcessSized, WaitersSized, Sized}

-- A LIST IN A ROW of n.
pub pad-length : (n : ℕ) (xs : List ℕ) → length xs ≤ n → length (pad n xs) ≡ n
pad-length n xs h =
    let zeros : List ℕ = replicate (n - length xs) 0 in
    let a = length-append xs zeros in
    let b : length zeros ≡ n - length xs = length-replicate (n - length xs) 0 in
    omega arith

pub row_length : {A : Type 0} (n : ℕ) (f : A → ℕ) (xs : List A) → length xs ≤ n → length (pad n (map f xs)) ≡ n
row_length n f xs h = pad-length n (map f xs) (let a : length (map f xs) ≡ length xs = length-map xs f in omega arith)

pub pad_at : (n : ℕ) (xs : List ℕ) (i : ℕ) → i < length xs → get_or (pad n xs) i 0 ≡ get_or xs i 0
pad_at n xs i h = get_or-append xs _ 0 i h

pub pad-set : (n : ℕ) (xs : List ℕ) (i v : ℕ) → i < length xs → set (pad n xs) i v ≡ pad n (set xs i v)
pad-set n xs i v h =
    set-append_left xs _ i v h ∙ ap (λ k. set xs i v ++ replicate (n - k) 0) (sym (length-set xs i v))

pub set-map : {A : Type 0} (f : A → ℕ) (xs : List A) (i : ℕ) (x : A) → set (map f xs) i (f x) ≡ map f (set xs i x)
set-map f [] i x = refl
set-map f (y ∷ ys) zero x = refl
set-map f (y ∷ ys) (suc i) x = ap (λ l. f y ∷ l) (set-map f ys i x)

pub get_map : {A : Type 0} (f : A → ℕ) (xs : List A) (i : ℕ) (d : A) → i < length xs → get_or (map f xs) i 0 ≡ f (get_or xs i d)
get_map f [] i d h = absurd (omega arith)
get_map f (y ∷ ys) zero d h = refl
get_map f (y ∷ ys) (suc i) d h = get_map f ys i d (omega arith)

-- THE WIDTHS.
pub stacked-length : (fs : List Frame) → length (stacked fs) ≡ length fs
unfolding stacked
stacked-length [] = refl
stacked-length (f ∷ fs) =
    let i = stacked-length fs in let a = length-append (stacked fs) (frame_word f ∷ []) in omega (arith, a)

pub process_wide : (q : Process) → ProcessSized q → Wide (process_parts q) process_widths
process_wide q h =
    let l = stacked-length q.frames in
    let k = h.frames_few in
    let n = h.slaves_few in
    refl
    & row_length No.locals code q.locals h.locals_few
    & pad-length Limit.THINGS q.held h.held_few
    & pad-length Limit.DEPTH (stacked q.frames) (omega arith)
    & row_length Process.OWNED_MOST slave_word q.slaves (omega arith)
    & tt

pub process_long : (q : Process) → ProcessSized q → length (process_row q) ≡ Process.WORDS
unfolding process_row
process_long q h = laid-length (process_parts q) process_widths (process_wide q h)

waiters_long : (ws : List Waiter) → WaitersSized ws → length (waiters_row ws) ≡ Row.WAITERS_MOST
waiters_long ws h = row_length Row.WAITERS_MOST waiter_word ws h.few

-- Who lives is the same where a process stays free, or stays alive.
pub living_still : (ps : List Process) (p : ℕ) (q : Process) → is_free q ≡ is_free (get_or ps p nobody)
    → living_of (set ps p q) ≡ living_of ps
unfolding living_of
living_still [] p q e = refl
living_still (x ∷ xs) zero q e = ap (λ b. (if b then 0 else 1) + 2 * living_of xs) e
living_still (x ∷ xs) (suc p) q e = ap (λ n. lives x + 2 * n) (living_still xs p q e)

module _ (s : State) (h : Sized s) where
  pub processes_even : Even process_row Process.WORDS s.processes
  processes_even = all_map ProcessSized _ (λ q k. process_long q k) s.processes h.processes_ok

  pub waiting_even : Even waiters_row Row.WAITERS_MOST s.waiting
  waiting_even = all_map WaitersSized _ (λ ws k. waiters_long ws k) s.waiting h.waiting_ok

  pub work_wide : Wide (work_parts s) work_widths
  work_wide =
      let few = h.syncs_few in
      let many = h.places_64 in
      let v = even_length waiters_row Row.WAITERS_MOST s.waiting waiting_even in
      let p = even_length process_row Process.WORDS s.processes processes_even in
      refl
      & pad-length Limit.THINGS s.free h.free_few
      & pad-length Limit.THINGS s.bins h.bins_few
      & row_length Limit.THINGS code s.globals h.globals_few
      & row_length Limit.THINGS length s.waiting few
      & waiters_long s.blocked h.blocked_ok
      & row_length Row.EVENTS_MOST event_key s.events h.events_few
      & row_length Row.EVENTS_MOST (λ e. data_of e.notice) s.events h.events_few
      & pad-length Row.WAITERS_ALL (collect waiters_row s.waiting) (omega arith)
      & omega arith
      & pad-length Limit.SAMPLERS s.seeds h.seeds_few
      & tt

  pub work_long : length (work_of s) ≡ Row.WORDS
  unfolding work_of
  work_long = laid-length (work_parts s) work_widths work_wide

  -- WHAT IS FREE, THE BINS, THE VARIABLES, and how many wait.
  module _ (i : ℕ) where
    pub free_at : i < length s.free → get_or (work_of s) (Row.FREE + i) 0 ≡ get_or s.free i 0
    unfolding work_of
    free_at l =
        let a = h.free_few in
        laid_at (work_parts s) work_widths work_wide 1 i (omega arith) ∙ pad_at Limit.THINGS s.free i l

    pub free_set : (v : ℕ) → i < length s.free → set (work_of s) (Row.FREE + i) v ≡ work_of (with_free s (set s.free i v))
    unfolding work_of
    free_set v l =
        let a = h.free_few in
        laid-set (work_parts s) work_widths work_wide 1 i v (omega arith)
        ∙ ap (λ r. laid (set (work_parts s) 1 r)) (pad-set Limit.THINGS s.free i v l)

    pub bins_at : i < length s.bins → get_or (work_of s) (Row.BINS + i) 0 ≡ get_or s.bins i 0
    unfolding work_of
    bins_at l =
        let a = h.bins_few in
        laid_at (work_parts s) work_widths work_wide 2 i (omega arith) ∙ pad_at Limit.THINGS s.bins i l

    pub bins_set : (v : ℕ) → i < length s.bins → set (work_of s) (Row.BINS + i) v ≡ work_of (with_bins s (set s.bins i v))
    unfolding work_of
    bins_set v l =
        let a = h.bins_few in
        laid-set (work_parts s) work_widths work_wide 2 i v (omega arith)
        ∙ ap (λ r. laid (set (work_parts s) 2 r)) (pad-set Limit.THINGS s.bins i v l)

    pub globals_at : i < length s.globals → get_or (work_of s) (Row.GLOBALS + i) 0 ≡ code (get_or s.globals i (pos 0))
    unfolding work_of
    globals_at l =
        let a = h.globals_few in
        let b : length (map code s.globals) ≡ length s.globals = length-map s.globals code in
        laid_at (work_parts s) work_widths work_wide 3 i (omega arith)
        ∙ pad_at Limit.THINGS (map code s.globals) i (omega arith)
        ∙ get_map code s.globals i (pos 0) l

    pub globals_set : (v : ℤ) → i < length s.globals
        → set (work_of s) (Row.GLOBALS + i) (code v) ≡ work_of (with_globals s (set s.globals i v))
    unfolding work_of
    globals_set v l =
        let a = h.globals_few in
        let b : length (map code s.globals) ≡ length s.globals = length-map s.globals code in
        laid-set (work_parts s) work_widths work_wide 3 i (code v) (omega arith)
        ∙ ap (λ r. laid (set (work_parts s) 3 r))
        (pad-set Limit.THINGS (map code s.globals) i (code v) (omega arith)
        ∙ ap (pad Limit.THINGS) (set-map code s.globals i v))

    pub counts_at : i < length s.waiting → get_or (work_of s) (Row.WAITS + i) 0 ≡ length (get_or s.waiting i [])
    unfolding work_of
    counts_at l =
        let a = h.syncs_few in
        let b : length (map length s.waiting) ≡ length s.waiting = length-map s.waiting length in
        laid_at (work_parts s) work_widths work_wide 4 i (omega arith)
        ∙ pad_at Limit.THINGS (map length s.waiting) i (omega arith)
        ∙ get_map length s.waiting i [] l

  -- A PROCESS: the number at j of the row of place p, and another written there.
  module _ (p j : ℕ) (in_places : p < No.places) (in_row : j < Process.WORDS) where
    place_of : Row.PROCESSES + Process.WORDS * p + j ≡ Row.PROCESSES + (Process.WORDS * p + j)
    place_of = omega arith

    pub process_at : get_or (work_of s) (Row.PROCESSES + Process.WORDS * p + j) 0 ≡ get_or (process_row (process s p)) j 0
    unfolding work_of
    process_at =
        let m = h.places_64 in
        ap (λ k. get_or (work_of s) k 0) place_of
        ∙ laid_at (work_parts s) work_widths work_wide 9 (Process.WORDS * p + j) (omega arith)
        ∙ even_at process_row Process.WORDS s.processes processes_even p j nobody (omega arith) in_row

    pub process-set : (v : ℕ) (q : Process) → set (process_row (process s p)) j v ≡ process_row q → is_free q ≡ is_free (process s p)
        → set (work_of s) (Row.PROCESSES + Process.WORDS * p + j) v ≡ work_of (put p q s)
    unfolding work_of
    process-set v q e f =
        let m = h.places_64 in
        ap (λ k. set (work_of s) k v) place_of
        ∙ laid-set (work_parts s) work_widths work_wide 9 (Process.WORDS * p + j) v (omega arith)
        ∙ ap (λ r. laid (set (work_parts s) 9 r))
        (even_set process_row Process.WORDS s.processes processes_even p j v nobody q (omega arith) in_row e)
        ∙ ap (λ n. laid (set (set (work_parts s) 9 (collect process_row (set s.processes p q))) 0 (with_living n)))
        (sym (living_still s.processes p q f))
      where
        with_living : ℕ → List ℕ
        with_living n = set (head_of s) Row.LIVING n
