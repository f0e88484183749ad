-- The row of one who leaves, and that of a newcomer. Assumes nothing.
use Prim.Native.Nat.{ℕ, zero, suc, ◌+◌, ◌-◌, ◌≤◌}
use native.Mathlib.Omega.{arith}
use mathlib.Core.Path.{◌≡◌, refl, sym, ◌∙◌, ap}
use mathlib.Core.List.{List, [], ◌∷◌, ◌++◌, map}
use lib.ListN.{length, set, take, drop, replicate, length-map, length-take, length-drop, length-set}
use lib.Seq.{drop_at}
use Rattle.semantics.specs.Numbers as No
use Rattle.semantics.specs.State.{Process, nobody}
use Rattle.promises.specs.Laws.{AllOf}
use Rattle.base_numbers.specs.Process as Process
use Rattle.base_numbers.specs.Limit as Limit
use Rattle.base_numbers.specs.Word as Word
use Rattle.base_numbers.specs.Code as Code
use Rattle.base_i32.specs.Code.{code}
use Rattle.base_ordered.specs.Lines.{pad}
use Rattle.row_work.specs.Laid.{laid}
use Rattle.row_work.specs.Work.{frame_word, stacked, slave_word, process_parts, process_row, ProcessSized}
use Rattle.row_work.specs.Shown.{row_length, process_long}
use Rattle.row_work.specs.Inside.{whole_long}
use Rattle.row_work.specs.Places.{replaced}
use Rattle.row_begin_end.specs.Begins.{Leaves, Leaving, newcomer_in, Vacant}

-- Zeros in a row of zeros.
pub zeros_padded : (n : ℕ) (xs : List ℕ) → AllOf (λ x. x ≡ 0) xs → length xs ≤ n → pad n xs ≡ replicate n 0
zeros_padded n [] h l = let e : n - 0 ≡ n = omega arith in ap (λ k. replicate k 0) e
zeros_padded zero (x ∷ xs) h l = absurd (omega arith)
zeros_padded (suc n) (x ∷ xs) h l =
    let e : suc n - suc (length xs) ≡ n - length xs = omega arith in
    ap (λ k. x ∷ (xs ++ replicate k 0)) e
    ∙ ap (λ y. y ∷ pad n xs) h.0
    ∙ ap (λ r. 0 ∷ r) (zeros_padded n xs h.1 (omega arith))

-- A part of n numbers, filled with v.
part_filled : (xs : List ℕ) (o n v : ℕ) (ys : List ℕ) → o + n ≤ length xs → ys ≡ replicate (length (take n (drop o xs))) v
    → ys ≡ replicate n v
part_filled xs o n v ys l e =
    let k : length (take n (drop o xs)) ≡ n = simp (length-take, length-drop) (omega arith) in
    e ∙ ap (λ j. replicate j v) k

-- ONE LEAVES: number, priority, block and locals go, and nothing else is there.
module _ (q : Process) (h : ProcessSized q) (l : Leaves q) where
  behind_locals : drop Process.HELD (process_row q)
      ≡ replicate Limit.THINGS 0 ++ (frame_word l.in_body ∷ replicate (Limit.DEPTH - 1 + Process.OWNED_MOST) 0)
  unfolding process_row laid stacked
  behind_locals =
      drop_at (pad No.locals (map code q.locals)) _ No.locals (row_length No.locals code q.locals h.locals_few)
      ∙ ap (λ r. r ++ (pad Limit.DEPTH (stacked q.frames) ++ (pad Process.OWNED_MOST (map slave_word q.slaves) ++ [])))
      (zeros_padded Limit.THINGS q.held l.held_none h.held_few)
      ∙ ap (λ f. replicate Limit.THINGS 0 ++
      (pad Limit.DEPTH (stacked f) ++ (pad Process.OWNED_MOST (map slave_word q.slaves) ++ []))) l.frames_are
      ∙ ap (λ x. replicate Limit.THINGS 0 ++
      (frame_word l.in_body ∷ (replicate (Limit.DEPTH - 1) 0 ++ (pad Process.OWNED_MOST (map slave_word x) ++ []))))
      l.slaves_none

  left_empty : set (set (replaced (process_row q) Process.NUMBER Process.HELD
      (replicate Process.HELD 0)) Process.PRIORITY Code.ZERO) Process.BLOCKS 0 ≡ process_row nobody
  unfolding process_row laid stacked code
  left_empty = ap (λ r. set (set (replicate Process.HELD 0 ++ r) Process.PRIORITY Code.ZERO) Process.BLOCKS 0) behind_locals

pub leaving_long : {row : List ℕ} → Leaving row → length row ≡ Process.WORDS
leaving_long d = ap length d.shows ∙ process_long d.who d.sized

module _ {row : List ℕ} (d : Leaving row) {ys : List ℕ}
    (e : ys ≡ replicate (length (take Process.HELD (drop Process.NUMBER row))) 0) where
  cleared : ys ≡ replicate Process.HELD 0
  cleared = let a = leaving_long d in part_filled row Process.NUMBER Process.HELD 0 ys (omega arith) e

  pub vacated_long : length (replaced row Process.NUMBER Process.HELD ys) ≡ Process.WORDS
  vacated_long =
      let a = leaving_long d in
      whole_long row Process.NUMBER Process.HELD ys (omega arith) (ap length cleared) ∙ a

  pub vacated : set (set (replaced row Process.NUMBER Process.HELD ys) Process.PRIORITY Code.ZERO) Process.BLOCKS 0
      ≡ process_row nobody
  vacated =
      ap (λ l. set (set (replaced row Process.NUMBER Process.HELD l) Process.PRIORITY Code.ZERO) Process.BLOCKS 0) cleared
      ∙ ap (λ r. set (set (replaced r Process.NUMBER Process.HELD
      (replicate Process.HELD 0)) Process.PRIORITY Code.ZERO) Process.BLOCKS 0) d.shows
      ∙ left_empty d.who d.sized d.leaves

-- ONE COMES: whatever resources there are, it holds nothing.
abbrev pub named : List ℕ → ℕ → List ℕ
named row n = set (set row 0 n) 2 1

standing : (n b : ℕ)
    → set (replaced (named (process_row nobody) n) Process.LOCALS No.locals (replicate No.locals Code.ZERO)) Process.BLOCKS
    (b + Word.ROUND)
    ≡ process_row (newcomer_in n b [])
unfolding process_row laid stacked code
standing n b = refl

module _ {row : List ℕ} {b : ℕ} (d : Vacant row b) (n : ℕ) where
  pub vacant_long : length row ≡ Process.WORDS
  unfolding process_row laid stacked
  vacant_long = ap length d.shows

  pub named_long : length (named row n) ≡ Process.WORDS
  named_long = length-set (set row 0 n) 2 1 ∙ length-set row 0 n ∙ vacant_long

  module _ {ys : List ℕ} (e : ys ≡ replicate (length (take No.locals (drop Process.LOCALS (named row n)))) Code.ZERO) where
    free_locals : ys ≡ replicate No.locals Code.ZERO
    free_locals = let a = named_long in part_filled (named row n) Process.LOCALS No.locals Code.ZERO ys (omega arith) e

    pub furnished_long : length (replaced (named row n) Process.LOCALS No.locals ys) ≡ Process.WORDS
    furnished_long =
        let a = named_long in
        whole_long (named row n) Process.LOCALS No.locals ys (omega arith) (ap length free_locals) ∙ a

    pub furnished : set (replaced (named row n) Process.LOCALS No.locals ys) Process.BLOCKS (b + Word.ROUND)
        ≡ process_row (newcomer_in n b [])
    furnished =
        ap (λ l. set (replaced (named row n) Process.LOCALS No.locals l) Process.BLOCKS (b + Word.ROUND)) free_locals
        ∙ ap (λ r. set (replaced (named r n) Process.LOCALS No.locals (replicate No.locals Code.ZERO)) Process.BLOCKS
        (b + Word.ROUND)) d.shows
        ∙ standing n b

pub holds_nothing : (n b : ℕ) (xs : List ℕ) → length xs ≤ Limit.THINGS
    → process_row (newcomer_in n b []) ≡ process_row (newcomer_in n b (map (λ x. 0) xs))
unfolding process_row
holds_nothing n b xs l =
    let ns : List ℕ = map (λ x. 0) xs in
    let k : length ns ≡ length xs = length-map xs (λ x. 0) in
    sym (ap (λ r. laid (set (process_parts (newcomer_in n b [])) 2 r)) (zeros_padded Limit.THINGS ns (zeros xs) (omega arith)))
  where
    zeros : (ys : List ℕ) → AllOf {A = ℕ} (λ x. x ≡ 0) (map (λ x. 0) ys)
    zeros [] = tt
    zeros (y ∷ ys) = (refl, zeros ys)
