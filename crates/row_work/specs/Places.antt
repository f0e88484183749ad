-- The row of one place, whole: cut out of the work, and another in its place; and the last number given. Assumes nothing.
use Rattle.std.specs.Prelude.{ℕ, zero, suc, ◌+◌, ◌*◌, ◌≤◌, ◌<◌, ◌≡◌, length, get_or, take, drop}
use Rattle.std.proofs.Common.{arith, sym, ◌∙◌, length-drop}
use Rattle.std.proofs.Math.Path.{refl, ap}
use mathlib.Core.List.{List, [], ◌∷◌, ◌++◌, append_assoc}
use Rattle.std.proofs.Math.ListN.{set}
use Rattle.std.proofs.lemmas.List.{take-append-le, drop-append-le}
use Rattle.std.proofs.Math.Seq.{take-append-add, drop-append-add}
use Rattle.semantics.specs.Numbers as No
use Rattle.semantics.specs.Words.{sum}
use Rattle.semantics.specs.State.{State, Process, nobody, process, put, with_last}
use Rattle.base_numbers.specs.Row as Row
use Rattle.base_numbers.specs.Process as Process
use Rattle.base_places.specs.Places.{living_of}
use Rattle.row_work.specs.Laid.{laid, Wide, even_part, even_replaced}
use Rattle.row_work.specs.Work.{process_row, work_parts, work_widths, work_of, Sized}
use Rattle.row_work.specs.Shown.{work_wide, processes_even}

-- ROWS LAID one behind the other: m numbers from o on in row k,
pub laid_inside : (xs : List (List ℕ)) (ws : List ℕ) → Wide xs ws → (k o m : ℕ) → k < length ws
    → o + m ≤ get_or ws k 0 → take m (drop (sum (take k ws) + o) (laid xs)) ≡ take m (drop o (get_or xs k []))
unfolding laid
laid_inside [] [] h k o m i l = absurd (omega arith)
laid_inside [] (n ∷ ws) h k o m i l = absurd h
laid_inside (x ∷ xs) [] h k o m i l = absurd h
laid_inside (x ∷ xs) (n ∷ ws) h zero o m i l =
    let a = h.0 in
    let e : 0 + o ≡ o = omega arith in
    ap (λ j. take m (drop j (x ++ laid xs))) e
    ∙ ap (take m) (drop-append-le o x (laid xs) (omega arith))
    ∙ take-append-le m (drop o x) (laid xs) (omega (arith, length-drop o x))
laid_inside (x ∷ xs) (n ∷ ws) h (suc k) o m i l =
    let a = h.0 in
    let e : n + sum (take k ws) + o ≡ length x + (sum (take k ws) + o) = omega arith in
    ap (λ j. take m (drop j (x ++ laid xs))) e
    ∙ ap (take m) (drop-append-add x (laid xs) (sum (take k ws) + o))
    ∙ laid_inside xs ws h.1 k o m (omega arith) l

-- and others in their place.
abbrev pub replaced : List ℕ → ℕ → ℕ → List ℕ → List ℕ
replaced xs o m ys = take o xs ++ (ys ++ drop m (drop o xs))

pub laid_inside_replaced : (xs : List (List ℕ)) (ws : List ℕ) → Wide xs ws → (k o m : ℕ) (ys : List ℕ) → k < length ws
    → o + m ≤ get_or ws k 0
    → replaced (laid xs) (sum (take k ws) + o) m ys ≡ laid (set xs k (replaced (get_or xs k []) o m ys))
unfolding laid
laid_inside_replaced [] [] h k o m ys i l = absurd (omega arith)
laid_inside_replaced [] (n ∷ ws) h k o m ys i l = absurd h
laid_inside_replaced (x ∷ xs) [] h k o m ys i l = absurd h
laid_inside_replaced (x ∷ xs) (n ∷ ws) h zero o m ys i l =
    let a = h.0 in
    let e : 0 + o ≡ o = omega arith in
    ap (λ j. replaced (x ++ laid xs) j m ys) e
    ∙ ap (λ r. r ++ (ys ++ drop m (drop o (x ++ laid xs)))) (take-append-le o x (laid xs) (omega arith))
    ∙ ap (λ r. take o x ++ (ys ++ drop m r)) (drop-append-le o x (laid xs) (omega arith))
    ∙ ap (λ r. take o x ++ (ys ++ r)) (drop-append-le m (drop o x) (laid xs) (omega (arith, length-drop o x)))
    ∙ sym (simp append_assoc)
laid_inside_replaced (x ∷ xs) (n ∷ ws) h (suc k) o m ys i l =
    let a = h.0 in
    let s : ℕ = sum (take k ws) + o in
    let e : n + sum (take k ws) + o ≡ length x + s = omega arith in
    ap (λ j. replaced (x ++ laid xs) j m ys) e
    ∙ rw (take-append-add x (laid xs) s, drop-append-add x (laid xs) s)
    (append_assoc x _ _ ∙ ap (λ r. x ++ r) (laid_inside_replaced xs ws h.1 k o m ys (omega arith) l))

-- THE LAST NUMBER GIVEN.
module _ (s : State) where
  pub last_at : get_or (work_of s) Row.LAST 0 ≡ s.last
  unfolding work_of laid
  last_at = refl

  pub last_set : (n : ℕ) → set (work_of s) Row.LAST n ≡ work_of (with_last s n)
  unfolding work_of laid
  last_set n = refl

-- THE ROW OF PLACE p, and another with what lives then.
module _ (s : State) (h : Sized s) (p : ℕ) (in_places : p < No.places) where
  pub place_part : take Process.WORDS (drop (Row.PROCESSES + Process.WORDS * p) (work_of s)) ≡ process_row (process s p)
  unfolding work_of
  place_part =
      let a = h.places_64 in
      laid_inside (work_parts s) work_widths (work_wide s h) 9 (Process.WORDS * p) Process.WORDS (omega arith) (omega arith)
      ∙ even_part process_row Process.WORDS s.processes (processes_even s h) p nobody (omega arith)

  pub place_replaced : (q : Process) (n : ℕ) → n ≡ living_of (set s.processes p q)
      → set (replaced (work_of s) (Row.PROCESSES + Process.WORDS * p) Process.WORDS (process_row q)) Row.LIVING n
      ≡ work_of (put p q s)
  unfolding work_of laid
  place_replaced q n e =
      let a = h.places_64 in
      let rows : List (List ℕ) = work_parts s in
      ap (λ r. set r Row.LIVING n)
      (laid_inside_replaced rows work_widths (work_wide s h) 9 (Process.WORDS * p) Process.WORDS (process_row q)
      (omega arith) (omega arith))
      ∙ ap (λ r. set (laid (set rows 9 r)) Row.LIVING n)
      (even_replaced process_row Process.WORDS s.processes (processes_even s h) p q (omega arith))
      ∙ ap (λ r. set (work_of (put p q s)) Row.LIVING r) e
