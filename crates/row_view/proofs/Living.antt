-- The rows of the 64 places that are tested are those of the processes that they show, and the digits say who lives.
-- Assumes nothing.
use Rattle.std.specs.Prelude.{if◌then◌else◌}
use Prim.Native.Nat.{ℕ, zero, suc, ◌*◌, ◌/◌, ◌%◌, ◌≤◌, min}
use native.Mathlib.Omega.{arith}
use mathlib.Core.Path.{◌≡◌, refl, sym, ◌∙◌, ap, ap₂}
use mathlib.Core.List.{List, [], ◌∷◌, ◌++◌}
use mathlib.Core.Bool.{Bool, true, false}
use lib.ListN.{length, get_or, take, drop, length-take, length-drop, take-append-drop}
use lib.Seq.{take_at, drop_at, length-take-le}
use Rattle.semantics.specs.Words.{collect}
use Rattle.semantics.specs.State.{Process, Frame, is_free}
use Rattle.promises.specs.Laws.{AllOf, ◌&◌}
use Rattle.promises.specs.Says.{Says, says_eq, says_for, ◌and◌}
use Rattle.base_numbers.specs.Process as Process
use Rattle.base_numbers.specs.Limit as Limit
use Rattle.base_places.specs.Places.{lives, living_of}
use Rattle.row_work.specs.Work.{process_row, ProcessSized}
use Rattle.row_work.specs.Shown.{process_long}
use Rattle.row_view.specs.View.{cut, frames_of, seated, process_of, processes_of}
use Rattle.row_view.specs.Fits.{processes_fit}
use Rattle.row_view.proofs.Cuts.{cut_long}
use Rattle.row_view.proofs.Lists.{frames_long}
use Rattle.row_view.proofs.Process.{says_process}

-- One that is in d blocks lives if d is not 0.
lives_by : (fs : List Frame) (q : Process) → q.frames ≡ fs → lives q ≡ seated (length fs) 1
lives_by [] q e = rw e
lives_by (f ∷ fs) q e = rw e

seated_same : (a b : ℕ) → (a ≡ 0 → b ≡ 0) → (b ≡ 0 → a ≡ 0) → seated a 1 ≡ seated b 1
seated_same zero zero f g = refl
seated_same zero (suc b) f g = absurd (let e = f refl in omega arith)
seated_same (suc a) zero f g = absurd (let e = g refl in omega arith)
seated_same (suc a) (suc b) f g = refl

lives_is : (r : ℕ) (row : List ℕ) → length row ≡ Process.WORDS → lives (process_of r row) ≡ seated (get_or row Process.DEPTH 0) 1
unfolding process_of
lives_is r row l =
    let d : ℕ = get_or row Process.DEPTH 0 in
    let fs : List Frame = frames_of (take d (cut Process.BLOCKS Limit.DEPTH row)) in
    let a : length fs ≡ length (take d (cut Process.BLOCKS Limit.DEPTH row)) =
    frames_long (take d (cut Process.BLOCKS Limit.DEPTH row)) in
    let b : length (take d (cut Process.BLOCKS Limit.DEPTH row)) ≡ min d (length (cut Process.BLOCKS Limit.DEPTH row)) =
    length-take d (cut Process.BLOCKS Limit.DEPTH row) in
    let c : length (cut Process.BLOCKS Limit.DEPTH row) ≡ Limit.DEPTH = cut_long Process.BLOCKS Limit.DEPTH row (omega arith) in
    lives_by fs (process_of r row) refl ∙ seated_same (length fs) d (λ e. omega arith) (λ e. omega arith)

module _ (r : ℕ) (few : r ≤ Limit.THINGS) where
  abbrev pub Lives : ℕ → List ℕ → ℕ → Type 0
  Lives n rows x =
      (rows ≡ collect process_row (processes_of r n rows))
      × (AllOf ProcessSized (processes_of r n rows) × (x ≡ living_of (processes_of r n rows)))

  -- One place more.
  module _ (n : ℕ) (rows : List ℕ) (x : ℕ) (long : length rows ≡ Process.WORDS * suc n) where
    abbrev q : Process
    q = process_of r (take Process.WORDS rows)

    abbrev others : List ℕ
    others = collect process_row (processes_of r n (drop Process.WORDS rows))

    abbrev Apart : Type 0
    Apart =
        (((take Process.WORDS rows ≡ process_row q) × ProcessSized q) × (x % 2 ≡ seated (get_or (take Process.WORDS rows) 2 0) 1))
        × Lives n (drop Process.WORDS rows) (x / 2)

    first_long : length (take Process.WORDS rows) ≡ Process.WORDS
    first_long = length-take-le Process.WORDS rows (omega arith)

    digit : lives q ≡ seated (get_or (take Process.WORDS rows) 2 0) 1
    digit = lives_is r (take Process.WORDS rows) first_long

    one_more : Apart → Lives (suc n) rows x
    unfolding processes_of living_of
    one_more h =
        (sym (take-append-drop Process.WORDS rows) ∙ ap₂ ◌++◌ h.0.0.0 h.1.0)
        & (h.0.0.1, h.1.1.0)
        & (let a = digit in let b = h.0.1 in let c = h.1.1.1 in omega arith)

    one_less : Lives (suc n) rows x → Apart
    unfolding processes_of living_of
    one_less h =
        let l : length (process_row q) ≡ Process.WORDS = process_long q h.1.0.0 in
        let a = ap (take Process.WORDS) h.0 ∙ take_at (process_row q) others Process.WORDS l in
        let b = ap (drop Process.WORDS) h.0 ∙ drop_at (process_row q) others Process.WORDS l in
        let c = digit in
        let e = h.1.1 in
        let z = at_most_one (is_free q) in
        ((a, h.1.0.0), omega arith) & b & h.1.0.1 & omega arith
      where
        at_most_one : (b : Bool) → (if b then 0 else 1) ≤ 1
        at_most_one true = omega arith
        at_most_one false = omega arith

  pub says_living : (n : ℕ) (rows : List ℕ) (x : ℕ) → length rows ≡ Process.WORDS * n
      → Says (processes_fit r n rows x) (Lives n rows x)
  unfolding processes_fit processes_of living_of
  says_living zero rows x l = says_for says_eq (λ h. none rows l & tt & h) (λ h. h.1.1)
    where
      none : (rows : List ℕ) → length rows ≡ 0 → rows ≡ []
      none [] e = refl
      none (x ∷ xs) e = absurd (omega arith)
  says_living (suc n) rows x l =
      says_for
      ((says_process r (take Process.WORDS rows) few (first_long n rows x l) and says_eq)
      and says_living n (drop Process.WORDS rows) (x / 2) (omega (arith, length-drop Process.WORDS rows)))
      (one_more n rows x l) (one_less n rows x l)
