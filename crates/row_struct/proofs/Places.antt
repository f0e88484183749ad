-- The processes of a state and their rows, place by place. Assumes nothing.
use Prim.Native.Nat.{ℕ, suc, ◌+◌, ◌-◌, ◌*◌, ◌≤◌, ◌<◌}
use native.Mathlib.Omega.{arith}
use native.Mathlib.Numerals.{add-one}
use mathlib.Core.Path.{◌≡◌, refl, sym, ◌∙◌, ap}
use mathlib.Core.List.{List, [], ◌∷◌, ◌++◌, append_assoc, append-nil}
use lib.ListN.{length, get_or, set, take, drop, length-set}
use lib.Seq.{take_all, take-suc, take-suc-set, take-add}
use Rattle.semantics.specs.Words.{collect}
use Rattle.semantics.specs.Numbers as No
use Rattle.promises.specs.Laws.{AllOf, all_append}
use Rattle.base_numbers.specs.Row as Row
use Rattle.base_numbers.specs.Process as Process
use Rattle.row_struct.specs.declared.Process.{Process}
use Rattle.row_struct.specs.State.{process_row_of, ProcessFull, ProcessesFull, over}
use Rattle.row_struct.specs.Same.{process_long}
use Rattle.row_struct.proofs.Laying.{part_over, over_long, over_front}

-- The rows of the first p processes stand at the front of w.
pub record Placed (ps : List Process) (w : List ℕ) (p : ℕ) : Type 0 where
  pub within : p ≤ No.places
  pub places : length ps ≡ No.places
  pub long : length w ≡ Row.PROCESSES_ALL
  pub stand : take (Process.WORDS * p) w ≡ collect process_row_of (take p ps)
  pub full : AllOf ProcessFull (take p ps)

pub placed_none : (ps : List Process) (w : List ℕ) → length ps ≡ No.places → length w ≡ Row.PROCESSES_ALL → Placed ps w 0
placed_none ps w k l = record { within = omega arith; places = k; long = l; stand = refl; full = tt }

collect_snoc : (qs : List Process) (q : Process)
    → collect process_row_of qs ++ process_row_of q ≡ collect process_row_of (qs ++ (q ∷ []))
collect_snoc [] q = sym (append-nil (process_row_of q))
collect_snoc (x ∷ qs) q =
    append_assoc (process_row_of x) (collect process_row_of qs) (process_row_of q)
    ∙ ap (λ r. process_row_of x ++ r) (collect_snoc qs q)

-- One more, whichever of the two was changed.
module _ {ps : List Process} {w : List ℕ} {p : ℕ} (s : Placed ps w p) (l : p < No.places) (q : Process) (f : ProcessFull q) where
  placed_one : (qs : List Process) (v : List ℕ) → length qs ≡ No.places → length v ≡ Row.PROCESSES_ALL
      → take (suc p) qs ≡ take p ps ++ (q ∷ [])
      → take (Process.WORDS * p + Process.WORDS) v ≡ take (Process.WORDS * p) w ++ process_row_of q
      → Placed qs v (p + 1)
  placed_one qs v k m e h =
      let a : Process.WORDS * (p + 1) ≡ Process.WORDS * p + Process.WORDS = omega arith in
      let t : take (p + 1) qs ≡ take p ps ++ (q ∷ []) = ap (λ j. take j qs) (add-one p) ∙ e in
      record {
        within = omega arith;
        places = k;
        long = m;
        stand =
            ap (λ j. take j v) a
            ∙ h
            ∙ ap (λ r. r ++ process_row_of q) s.stand
            ∙ collect_snoc (take p ps) q
            ∙ ap (collect process_row_of) (sym t);
        full = rw t (all_append ProcessFull (take p ps) (q ∷ []) s.full (f, tt));
      }

  -- A row is written,
  pub placed_row : (d : Process) → q ≡ get_or ps p d → (t : ℕ) → t ≡ Process.WORDS * p + Process.WORDS → (y : List ℕ)
      → y ≡ process_row_of q
      → Placed ps (take (Process.WORDS * p) w ++ (y ++ drop (t - Process.WORDS * p) (drop (Process.WORDS * p) w))) (p + 1)
  placed_row d g t i y e =
      let k = s.places in
      let n : length y ≡ Process.WORDS = ap length e ∙ process_long q f in
      let m = s.long in
      let v = over (Process.WORDS * p) y w in
      let u = part_over (Process.WORDS * p) t y w (omega arith) in
      let o : Process.WORDS * p + length y ≤ length w = omega arith in
      placed_one ps _ k (ap length u ∙ over_long (Process.WORDS * p) y w o ∙ m)
      (take-suc ps p d (omega arith) ∙ ap (λ x. take p ps ++ (x ∷ [])) (sym g))
      (ap (take (Process.WORDS * p + Process.WORDS)) u
      ∙ ap (λ j. take (Process.WORDS * p + j) v) (sym n)
      ∙ over_front (Process.WORDS * p) y w o
      ∙ ap (λ r. take (Process.WORDS * p) w ++ r) e)

  -- or read.
  pub placed_process : (t : ℕ) → t ≡ Process.WORDS * p + Process.WORDS
      → process_row_of q ≡ take (t - Process.WORDS * p) (drop (Process.WORDS * p) w)
      → Placed (set ps p q) w (p + 1)
  placed_process t g e =
      let k = s.places in
      let n : t - Process.WORDS * p ≡ Process.WORDS = omega arith in
      let h : process_row_of q ≡ take Process.WORDS (drop (Process.WORDS * p) w) = e
      ∙ ap (λ j. take j (drop (Process.WORDS * p) w)) n in
      placed_one (set ps p q) w (length-set ps p q ∙ k) s.long (take-suc-set ps p q (omega arith))
      (take-add (Process.WORDS * p) Process.WORDS w ∙ ap (λ r. take (Process.WORDS * p) w ++ r) (sym h))

pub placed_all : {ps : List Process} {w : List ℕ} {p : ℕ} → Placed ps w p → No.places ≤ p
    → (w ≡ collect process_row_of ps) × ProcessesFull ps
placed_all {ps} {w} {p} s l =
    let a = s.within in
    let k = s.places in
    let n = s.long in
    let t : take p ps ≡ ps = take_all p ps (omega arith) in (
      sym (take_all (Process.WORDS * p) w (omega arith)) ∙ s.stand ∙ ap (collect process_row_of) t,
      (k, rw t at s.full),
    )
