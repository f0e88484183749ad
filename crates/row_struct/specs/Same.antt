-- A row is of one struct: two full structs with one row are the same. Assumes nothing.
use Rattle.std.specs.Prelude.{ℕ, ◌≡◌, refl, List, [], ◌∷◌, ◌++◌, length, get_or, take, drop}
use Rattle.std.proofs.Common.{arith, sym, ◌∙◌, ap, take_at, drop_at}
use Rattle.semantics.specs.Words.{collect}
use Rattle.promises.specs.Laws.{AllOf, all_map}
use Rattle.base_numbers.specs.Row as Row
use Rattle.base_numbers.specs.Process as Process
use Rattle.row_work.specs.Laid.{laid, Wide, laid-length, even_length}
use Rattle.row_work.specs.Work.{process_widths, work_widths, seeds_part}
use Rattle.row_struct.specs.declared.Process.{Process}
use Rattle.row_struct.specs.declared.State.{State}
use Rattle.row_struct.specs.State.{process_parts_of, process_row_of, parts_of, row_of, ProcessFull, ProcessesFull, Full}

-- ROWS laid one behind the other, of the same widths.
module _ (x y r t : List ℕ) (n : ℕ) (hx : length x ≡ n) (hy : length y ≡ n) (e : x ++ r ≡ y ++ t) where
  same_front : x ≡ y
  same_front = sym (take_at x r n hx) ∙ ap (take n) e ∙ take_at y t n hy

  same_rest : r ≡ t
  same_rest = sym (drop_at x r n hx) ∙ ap (drop n) e ∙ drop_at y t n hy

pub same_parts : (xs ys : List (List ℕ)) (ws : List ℕ) → Wide xs ws → Wide ys ws → laid xs ≡ laid ys → xs ≡ ys
unfolding laid
same_parts [] [] [] h k e = refl
same_parts [] [] (n ∷ ws) h k e = absurd h
same_parts [] (y ∷ ys) [] h k e = absurd k
same_parts [] (y ∷ ys) (n ∷ ws) h k e = absurd h
same_parts (x ∷ xs) [] [] h k e = absurd h
same_parts (x ∷ xs) [] (n ∷ ws) h k e = absurd k
same_parts (x ∷ xs) (y ∷ ys) [] h k e = absurd h
same_parts (x ∷ xs) (y ∷ ys) (n ∷ ws) h k e =
    ap (λ z. z ∷ xs) (same_front x y (laid xs) (laid ys) n h.0 k.0 e)
    ∙ ap (λ zs. y ∷ zs) (same_parts xs ys ws h.1 k.1 (same_rest x y (laid xs) (laid ys) n h.0 k.0 e))

-- PROCESSES.
abbrev process_of : List (List ℕ) → Process
process_of ps =
    record {
      number = get_or (get_or ps 0 []) 0 0;
      priority = get_or (get_or ps 0 []) 1 0;
      depth = get_or (get_or ps 0 []) 2 0;
      slaves = get_or (get_or ps 0 []) 3 0;
      locals = get_or ps 1 [];
      held = get_or ps 2 [];
      blocks = get_or ps 3 [];
      owned = get_or ps 4 [];
    }

pub process_long : (q : Process) → ProcessFull q → length (process_row_of q) ≡ Process.WORDS
unfolding process_row_of
process_long q h = laid-length (process_parts_of q) process_widths h

pub processes_long : (qs : List Process) → ProcessesFull qs → length (collect process_row_of qs) ≡ Row.PROCESSES_ALL
processes_long qs f =
    let e = even_length process_row_of Process.WORDS qs
    (all_map ProcessFull (λ q. length (process_row_of q) ≡ Process.WORDS) process_long qs f.1) in
    let n = f.0 in
    omega arith

pub same_process : (a b : Process) → ProcessFull a → ProcessFull b → process_row_of a ≡ process_row_of b → a ≡ b
unfolding process_row_of
same_process a b h k e = ap process_of (same_parts (process_parts_of a) (process_parts_of b) process_widths h k e)

same_each : (xs ys : List Process) → length xs ≡ length ys → AllOf ProcessFull xs → AllOf ProcessFull ys
    → collect process_row_of xs ≡ collect process_row_of ys → xs ≡ ys
same_each [] [] l h k e = refl
same_each [] (y ∷ ys) l h k e = absurd (omega arith)
same_each (x ∷ xs) [] l h k e = absurd (omega arith)
same_each (x ∷ xs) (y ∷ ys) l h k e =
    let m = process_long x h.0 in
    let n = process_long y k.0 in
    let r = collect process_row_of xs in
    let t = collect process_row_of ys in
    ap (λ z. z ∷ xs) (same_process x y h.0 k.0 (same_front (process_row_of x) (process_row_of y) r t Process.WORDS m n e))
    ∙ ap (λ zs. y ∷ zs)
    (same_each xs ys (omega arith) h.1 k.1 (same_rest (process_row_of x) (process_row_of y) r t Process.WORDS m n e))

pub same_processes : (xs ys : List Process) → ProcessesFull xs → ProcessesFull ys
    → collect process_row_of xs ≡ collect process_row_of ys → xs ≡ ys
same_processes xs ys h k e = same_each xs ys (h.0 ∙ sym k.0) h.1 k.1 e

-- THE STATE.
abbrev state_of : List (List ℕ) → List Process → State
state_of ps qs =
    record {
      clock = get_or (get_or ps 0 []) 0 0;
      closed = get_or (get_or ps 0 []) 1 0;
      last = get_or (get_or ps 0 []) 2 0;
      floor = get_or (get_or ps 0 []) 3 0;
      living = get_or (get_or ps 0 []) 4 0;
      events = get_or (get_or ps 0 []) 5 0;
      blocked = get_or (get_or ps 0 []) 6 0;
      spare = get_or (get_or ps 0 []) 7 0;
      free = get_or ps 1 [];
      bins = get_or ps 2 [];
      globals = get_or ps 3 [];
      waits = get_or ps 4 [];
      queue = get_or ps 5 [];
      keys = get_or ps 6 [];
      words = get_or ps 7 [];
      waiting = get_or ps 8 [];
      processes = qs;
      seeds = get_or ps seeds_part [];
    }

pub state_long : (s : State) → Full s → length (row_of s) ≡ Row.WORDS
unfolding row_of
state_long s f = laid-length (parts_of s) work_widths f.parts_full

pub same_state : (a b : State) → Full a → Full b → row_of a ≡ row_of b → a ≡ b
unfolding row_of
same_state a b h k e =
    let ps = same_parts (parts_of a) (parts_of b) work_widths h.parts_full k.parts_full e in
    let qs =
    same_processes a.processes b.processes h.processes_full k.processes_full (ap (λ p. get_or p 9 []) ps) in
    ap (λ p. state_of p a.processes) ps ∙ ap (state_of (parts_of b)) qs
