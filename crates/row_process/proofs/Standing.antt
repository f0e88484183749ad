-- What is read of a process in a work that shows the state, and what a number written there makes of it. Assumes nothing.
use Prim.Native.Nat.{ℕ, ◌+◌, ◌*◌, ◌≤◌, ◌<◌}
use native.Mathlib.Omega.{arith}
use mathlib.Core.Path.{◌≡◌, refl, sym, subst, ◌∙◌, ap}
use mathlib.Core.List.{List, ◌∷◌}
use lib.ListN.{length, get_or, set}
use Rattle.semantics.specs.Numbers as No
use Rattle.semantics.specs.Words.{is_empty}
use Rattle.semantics.specs.State.{State, Process, Frame, is_free, process, put, with_priority, with_locals, with_frames}
use Rattle.promises.specs.Laws.{AllOf}
use Rattle.base_numbers.specs.Row as Row
use Rattle.base_numbers.specs.Process as Process
use Rattle.base_numbers.specs.Limit as Limit
use Rattle.base_numbers.specs.Code as Code
use Rattle.base_i32.specs.Code.{code, value_of}
use Rattle.base_i32.specs.Laws.{code_fits, code-value_of}
use Rattle.row_work.specs.Work.{frame_word, process_row, work_of, ProcessSized, FrameSized}
use Rattle.row_work.specs.Shown.{work_long, process_at, process-set}
use Rattle.row_process.specs.Process.{Shown, Lives, changed}
use Rattle.row_process.specs.Rows.{priority_set, local_set, top_at, top_set}
use Rattle.row_process.specs.Put.{process_sized}

pub is_long : {w : List ℕ} {P : State → Type 0} → Shown w P → length w ≡ Row.WORDS
is_long v = ap length v.shows ∙ work_long v.is v.sized

-- THE ROW of the process in place p.
module _ {w : List ℕ} {P : State → Type 0} (v : Shown w P) (p : ℕ) where
  abbrev q : Process
  q = process v.is p

  pub is_sized : ProcessSized q
  is_sized = process_sized v.is p v.sized

  module _ (l : p < No.places) where
    pub word_is : (j : ℕ) → j < Process.WORDS → get_or w (Row.PROCESSES + Process.WORDS * p + j) 0 ≡ get_or (process_row q) j 0
    word_is j h = ap (λ x. get_or x (Row.PROCESSES + Process.WORDS * p + j) 0) v.shows ∙ process_at v.is v.sized p j l h

    pub word_set : (j : ℕ) → j < Process.WORDS → (x : ℕ) (r : Process) → set (process_row q) j x ≡ process_row r
        → is_free r ≡ is_free q
        → set w (Row.PROCESSES + Process.WORDS * p + j) x ≡ work_of (put p r v.is)
    word_set j h x r e f =
        ap (λ y. set y (Row.PROCESSES + Process.WORDS * p + j) x) v.shows ∙ process-set v.is v.sized p j l h x r e f

    -- Its first four words.
    pub number_is : get_or w (Row.PROCESSES + Process.WORDS * p + Process.NUMBER) 0 ≡ q.number
    unfolding process_row
    number_is = word_is 0 (omega arith)

    pub priority_is : get_or w (Row.PROCESSES + Process.WORDS * p + Process.PRIORITY) 0 ≡ code q.priority
    unfolding process_row
    priority_is = word_is 1 (omega arith)

    pub priority_low : get_or w (Row.PROCESSES + Process.WORDS * p + Process.PRIORITY) 0 < Code.CODES
    priority_low = rw priority_is (code_fits q.priority is_sized.priority_ok)

    pub depth_is : get_or w (Row.PROCESSES + Process.WORDS * p + Process.DEPTH) 0 ≡ length q.frames
    unfolding process_row
    depth_is = word_is 2 (omega arith)

    pub depth_few : get_or w (Row.PROCESSES + Process.WORDS * p + Process.DEPTH) 0 ≤ Limit.DEPTH
    depth_few = rw depth_is is_sized.frames_few

    pub slaves_are : get_or w (Row.PROCESSES + Process.WORDS * p + Process.SLAVES) 0 ≡ length q.slaves
    unfolding process_row
    slaves_are = word_is 3 (omega arith)

    -- Its priority and a local, written.
    pub priority_written : (c : ℕ)
        → set w (Row.PROCESSES + Process.WORDS * p + Process.PRIORITY) c
        ≡ work_of (changed p (λ r. with_priority r (value_of c)) v.is)
    priority_written c =
        word_set 1 (omega arith) c (with_priority q (value_of c))
        (ap (set (process_row q) 1) (sym (code-value_of c)) ∙ priority_set q is_sized (value_of c)) refl

    pub local_there : (i : ℕ) → i < length q.locals → Process.LOCALS + i < Process.WORDS
    local_there i h = omega (arith, is_sized.locals_few)

    pub local_written : (i c : ℕ) → i < length q.locals
        → set w (Row.PROCESSES + Process.WORDS * p + (Process.LOCALS + i)) c
        ≡ work_of (changed p (λ r. with_locals r (set r.locals i (value_of c))) v.is)
    local_written i c h =
        word_set (4 + i) (local_there i h) c (with_locals q (set q.locals i (value_of c)))
        (ap (set (process_row q) (4 + i)) (sym (code-value_of c)) ∙ local_set q is_sized i (value_of c) h) refl

-- THE INNERMOST BLOCK of a process that lives, which is in n blocks.
module _ {w : List ℕ} {P : State → Type 0} (v : Shown w P) {p : ℕ} (l : Lives p v.is) where
  pub around_few : length l.around < 8
  around_few = let a = (is_sized v p).frames_few in let b = ap length l.frames_are in omega (arith, b)

  pub top_sized : FrameSized l.innermost
  top_sized = (subst (AllOf FrameSized) l.frames_are (is_sized v p).frames_ok).0

  module _ (n : ℕ) (e : n ≡ length (process v.is p).frames) where
    pub top_place : Process.BEFORE_BLOCKS + n ≡ Process.BLOCKS + length l.around
    top_place = let b = e ∙ ap length l.frames_are in omega (arith, b)

    pub top_is : get_or w (Row.PROCESSES + Process.WORDS * p + (Process.BEFORE_BLOCKS + n)) 0 ≡ frame_word l.innermost
    top_is =
        ap (λ j. get_or w (Row.PROCESSES + Process.WORDS * p + j) 0) top_place
        ∙ word_is v p l.in_places (Process.BLOCKS + length l.around) (let a = around_few in omega arith)
        ∙ top_at (process v.is p) (is_sized v p) l.innermost l.around l.frames_are

    pub top_written : (x : ℕ) (g : Frame) → x ≡ frame_word g
        → set w (Row.PROCESSES + Process.WORDS * p + (Process.BEFORE_BLOCKS + n)) x
        ≡ work_of (changed p (λ r. with_frames r (g ∷ l.around)) v.is)
    top_written x g k =
        ap (set w (Row.PROCESSES + Process.WORDS * p + (Process.BEFORE_BLOCKS + n))) k
        ∙ ap (λ j. set w (Row.PROCESSES + Process.WORDS * p + j) (frame_word g)) top_place
        ∙ word_set v p l.in_places (Process.BLOCKS + length l.around) (let a = around_few in omega arith) (frame_word g)
        (with_frames (process v.is p) (g ∷ l.around))
        (top_set (process v.is p) (is_sized v p) l.innermost l.around l.frames_are g)
        (sym (ap is_empty l.frames_are))

  -- Its blocks as the definitions name them.
  pub by_blocks : (f : List Frame → List Frame)
      → work_of (changed p (λ r. with_frames r (f (l.innermost ∷ l.around))) v.is)
      ≡ work_of (changed p (λ r. with_frames r (f r.frames)) v.is)
  by_blocks f = ap (λ fs. work_of (put p (with_frames (process v.is p) (f fs)) v.is)) (sym l.frames_are)
