-- A process's row: what stands in it, and what a number written there makes of the process. Assumes nothing.
use Rattle.std.specs.Prelude.{ℕ, suc, ◌+◌, ◌-◌, ◌<◌, ◌≡◌, ℤ}
use Rattle.std.proofs.Common.{arith, ◌∙◌}
use Rattle.std.proofs.Math.Path.{refl, sym, ap}
use mathlib.Core.List.{List, [], ◌∷◌, ◌++◌, append_assoc, map}
use Rattle.std.proofs.Math.ListN.{length, get_or, set, replicate, length-map}
use Rattle.std.proofs.lemmas.List.{get_or_at}
use Rattle.std.proofs.Math.Seq.{set_at}
use Rattle.semantics.specs.Numbers as No
use Rattle.semantics.specs.State.{Process, Frame, with_frames, with_priority, with_locals, with_held}
use Rattle.base_numbers.specs.Process as Process
use Rattle.base_numbers.specs.Limit as Limit
use Rattle.base_i32.specs.Code.{code}
use Rattle.base_ordered.specs.Lines.{pad}
use Rattle.row_work.specs.Laid.{laid, laid_at, laid-set}
use Rattle.row_work.specs.Work.{frame_word, stacked, process_parts, process_widths, process_row, ProcessSized}
use Rattle.row_work.specs.Shown.{pad_at, pad-set, set-map, stacked-length, process_wide}

-- THE PRIORITY, the locals, what is held.
module _ (q : Process) (h : ProcessSized q) where
  pub priority_set : (v : ℤ) → set (process_row q) Process.PRIORITY (code v) ≡ process_row (with_priority q v)
  unfolding process_row
  priority_set v = refl

  pub local_set : (i : ℕ) (v : ℤ) → i < length q.locals
      → set (process_row q) (Process.LOCALS + i) (code v) ≡ process_row (with_locals q (set q.locals i v))
  unfolding process_row
  local_set i v l =
      let a = h.locals_few in
      let b : length (map code q.locals) ≡ length q.locals = length-map q.locals code in
      laid-set (process_parts q) process_widths (process_wide q h) 1 i (code v) (omega arith)
      ∙ ap (λ r. laid (set (process_parts q) 1 r))
      (pad-set No.locals (map code q.locals) i (code v) (omega arith) ∙ ap (pad No.locals) (set-map code q.locals i v))

  pub held_row_at : (i : ℕ) → i < Limit.THINGS → get_or (process_row q) (Process.HELD + i) 0 ≡ get_or (pad Limit.THINGS q.held) i 0
  unfolding process_row
  held_row_at i l = laid_at (process_parts q) process_widths (process_wide q h) 2 i l

  pub held_at : (i : ℕ) → i < length q.held → get_or (process_row q) (Process.HELD + i) 0 ≡ get_or q.held i 0
  held_at i l = held_row_at i (let a = h.held_few in omega arith) ∙ pad_at Limit.THINGS q.held i l

  pub held_set : (i n : ℕ) → i < length q.held
      → set (process_row q) (Process.HELD + i) n ≡ process_row (with_held q (set q.held i n))
  unfolding process_row
  held_set i n l =
      let a = h.held_few in
      laid-set (process_parts q) process_widths (process_wide q h) 2 i n (omega arith)
      ∙ ap (λ r. laid (set (process_parts q) 2 r)) (pad-set Limit.THINGS q.held i n l)

-- BLOCKS. The innermost stands behind those around it.
module _ (f : Frame) (fs : List Frame) where
  stack_is : (n : ℕ) → pad n (stacked (f ∷ fs)) ≡ stacked fs ++ frame_word f ∷ replicate (n - length (stacked (f ∷ fs))) 0
  unfolding stacked
  stack_is n = append_assoc (stacked fs) (frame_word f ∷ []) _

  top_in : (n : ℕ) → get_or (pad n (stacked (f ∷ fs))) (length fs) 0 ≡ frame_word f
  top_in n = ap (λ l. get_or l (length fs) 0) (stack_is n) ∙ get_or_at (stacked fs) (frame_word f) _ 0 (length fs) (stacked-length fs)

  top_set_in : (g : Frame) (n : ℕ) → set (pad n (stacked (f ∷ fs))) (length fs) (frame_word g) ≡ pad n (stacked (g ∷ fs))
  unfolding stacked
  top_set_in g n =
      ap (λ l. set l (length fs) (frame_word g)) (stack_is n)
      ∙ set_at (stacked fs) (frame_word f) _ (frame_word g) (length fs) (stacked-length fs)
      ∙ ap (λ k. stacked fs ++ frame_word g ∷ replicate (n - k) 0) same
      ∙ sym (append_assoc (stacked fs) (frame_word g ∷ []) _)
    where
      same : length (stacked (f ∷ fs)) ≡ length (stacked (g ∷ fs))
      same = stacked-length (f ∷ fs) ∙ sym (stacked-length (g ∷ fs))

module _ (q : Process) (h : ProcessSized q) (f : Frame) (fs : List Frame) (e : q.frames ≡ f ∷ fs) where
  few : length fs < Limit.DEPTH
  few = let a = h.frames_few in let b = ap length e in omega (arith, b)

  pub top_at : get_or (process_row q) (Process.BLOCKS + length fs) 0 ≡ frame_word f
  unfolding process_row
  top_at =
      laid_at (process_parts q) process_widths (process_wide q h) 3 (length fs) few
      ∙ ap (λ l. get_or (pad Limit.DEPTH (stacked l)) (length fs) 0) e
      ∙ top_in f fs Limit.DEPTH

  pub top_set : (g : Frame) → set (process_row q) (Process.BLOCKS + length fs) (frame_word g) ≡ process_row (with_frames q (g ∷ fs))
  unfolding process_row
  top_set g =
      laid-set (process_parts q) process_widths (process_wide q h) 3 (length fs) (frame_word g) few
      ∙ ap (λ r. laid (set (process_parts q) 3 r))
      (ap (λ l. set (pad Limit.DEPTH (stacked l)) (length fs) (frame_word g)) e ∙ top_set_in f fs g Limit.DEPTH)
      ∙ ap (λ n. laid (set (set (process_parts q) 3 (pad Limit.DEPTH (stacked (g ∷ fs)))) 0
      (set (get_or (process_parts q) 0 []) Process.DEPTH n)))
      (ap length e)

-- A block of nothing, innermost, has the word 0, as no block has: how deep the blocks are is all that tells.
abbrev pub blank : Frame
blank = record { block = 0; at = 0; rounds = 0 }

blank_in : (fs : List Frame) → length fs < Limit.DEPTH → pad Limit.DEPTH (stacked (blank ∷ fs)) ≡ pad Limit.DEPTH (stacked fs)
blank_in fs l =
    let n = stacked-length fs in
    let m = stacked-length (blank ∷ fs) in
    let e : suc (Limit.DEPTH - length (stacked (blank ∷ fs))) ≡ Limit.DEPTH - length (stacked fs) = omega arith in
    stack_is blank fs Limit.DEPTH ∙ ap (λ k. stacked fs ++ replicate k 0) e

module _ (q : Process) (fs : List Frame) (l : length fs < Limit.DEPTH) where
  pub depth_more : set (process_row (with_frames q fs)) Process.DEPTH (suc (length fs)) ≡ process_row (with_frames q (blank ∷ fs))
  unfolding process_row
  depth_more = ap (λ r. laid (set (process_parts (with_frames q (blank ∷ fs))) 3 r)) (sym (blank_in fs l))

  pub depth_less : set (process_row (with_frames q (blank ∷ fs))) Process.DEPTH (length fs) ≡ process_row (with_frames q fs)
  unfolding process_row
  depth_less = ap (λ r. laid (set (process_parts (with_frames q fs)) 3 r)) (blank_in fs l)
