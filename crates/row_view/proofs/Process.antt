-- The row of a process that is tested is the row of the process that it shows. Assumes nothing.
use Prim.Native.Nat.{ℕ, zero, suc, ◌+◌, ◌≤◌}
use native.Mathlib.Omega.{arith}
use mathlib.Core.Path.{◌≡◌, sym, ◌∙◌, ap}
use mathlib.Core.List.{List, [], ◌∷◌, map}
use lib.ListN.{length, get_or, take, length-map, length-take}
use lib.Seq.{length-take-le}
use Rattle.semantics.specs.Numbers as No
use Rattle.semantics.specs.State.{Process}
use Rattle.promises.specs.Laws.{AllOf, ◌&◌}
use Rattle.promises.specs.Fit.{I32}
use Rattle.promises.specs.Says.{Says, says_le, says_for, ◌and◌}
use Rattle.base_numbers.specs.Row as Row
use Rattle.base_numbers.specs.Process as Process
use Rattle.base_numbers.specs.Limit as Limit
use Rattle.base_i32.specs.Code.{code, value_of}
use Rattle.base_i32.specs.Laws.{code-value_of}
use Rattle.base_ordered.specs.Lines.{pad}
use Rattle.row_work.specs.Laid.{laid, laid_part}
use Rattle.row_work.specs.Work.{stacked, slave_word, process_parts, process_widths, process_row, FrameSized, SlaveSized, ProcessSized}
use Rattle.row_work.specs.Shown.{process_wide}
use Rattle.row_view.specs.View.{cut, slave_of, frames_of, seated, process_of}
use Rattle.row_view.specs.Fits.{process_fits}
use Rattle.row_view.proofs.Words.{says_code, says_slave}
use Rattle.row_view.proofs.Shown.{says_shown}
use Rattle.row_view.proofs.Lists.{says_amounts, says_frames, frames_long}
use Rattle.row_view.proofs.Cuts.{laid_cuts, cut_long, cut-words}

seated_few : (d n most : ℕ) → n ≤ most → seated d n ≤ most
seated_few zero n most h = omega arith
seated_few (suc d) n most h = h

module _ (r : ℕ) (row : List ℕ) (few : r ≤ Limit.THINGS) (long : length row ≡ Process.WORDS) where
  abbrev d : ℕ
  d = get_or row Process.DEPTH 0

  abbrev n : ℕ
  n = get_or row Process.SLAVES 0

  abbrev locals : List ℕ
  locals = take (seated d No.locals) (cut Process.LOCALS No.locals row)

  abbrev held : List ℕ
  held = take (seated d r) (cut Process.HELD Limit.THINGS row)

  abbrev frames : List ℕ
  frames = take d (cut Process.BLOCKS Limit.DEPTH row)

  abbrev slaves : List ℕ
  slaves = take n (cut Process.OWNED Process.OWNED_MOST row)

  -- What the tests say.
  pub record Tested : Type 0 where
    pub number_low : get_or row Process.NUMBER 0 ≤ No.last_number
    pub code_is : code (value_of (get_or row Process.PRIORITY 0)) ≡ get_or row Process.PRIORITY 0
    pub priority_ok : I32 (value_of (get_or row Process.PRIORITY 0))
    pub locals_are : cut Process.LOCALS No.locals row ≡ pad 8 (map code (map value_of locals))
    pub locals_ok : AllOf I32 (map value_of locals)
    pub held_are : cut Process.HELD Limit.THINGS row ≡ pad Limit.THINGS held
    pub held_low : AllOf (λ x. x ≤ Limit.AMOUNT) held
    pub frames_few : d ≤ 8
    pub frames_are : cut Process.BLOCKS Limit.DEPTH row ≡ pad Limit.DEPTH (stacked (frames_of frames))
    pub frames_ok : AllOf FrameSized (frames_of frames)
    pub slaves_few : n ≤ No.places
    pub slaves_are : cut Process.OWNED Process.OWNED_MOST row ≡ pad Process.OWNED_MOST (map slave_word (map slave_of slaves))
    pub slaves_ok : AllOf SlaveSized (map slave_of slaves)

  part_long : (a k : ℕ) → a + k ≤ Process.WORDS → length (cut a k row) ≡ k
  part_long a k h = cut_long a k row (omega arith)

  says_tested : Says (process_fits r row) Tested
  unfolding process_fits
  says_tested =
      says_for
      ((says_le and says_code (get_or row Process.PRIORITY 0))
      and says_shown _ code value_of I32 says_code 8 (seated d No.locals) (cut Process.LOCALS No.locals row)
      (part_long Process.LOCALS No.locals (omega arith))
      and says_amounts Limit.AMOUNT Limit.THINGS (seated d r) (cut Process.HELD Limit.THINGS row)
      (part_long Process.HELD Limit.THINGS (omega arith))
      and says_frames Limit.DEPTH d (cut Process.BLOCKS Limit.DEPTH row) (part_long Process.BLOCKS Limit.DEPTH (omega arith))
      and says_le
      and says_shown _ slave_word slave_of SlaveSized says_slave Process.OWNED_MOST n (cut Process.OWNED Process.OWNED_MOST row)
      (part_long Process.OWNED Process.OWNED_MOST (omega arith)))
      (λ h.
      record {
        number_low = h.0.0;
        code_is = h.0.1.0;
        priority_ok = h.0.1.1;
        locals_are = h.1.0.1.0;
        locals_ok = h.1.0.1.1;
        held_are = h.1.1.0.1.0;
        held_low = h.1.1.0.1.1;
        frames_few = h.1.1.1.0.0;
        frames_are = h.1.1.1.0.1.0;
        frames_ok = h.1.1.1.0.1.1;
        slaves_few = h.1.1.1.1.0;
        slaves_are = h.1.1.1.1.1.1.0;
        slaves_ok = h.1.1.1.1.1.1.1;
      })
      (λ t.
      (t.number_low & t.code_is & t.priority_ok)
      & (seated_few d No.locals 8 (omega arith) & t.locals_are & t.locals_ok)
      & (seated_few d r Limit.THINGS few & t.held_are & t.held_low)
      & (t.frames_few & t.frames_are & t.frames_ok)
      & t.slaves_few
      & (let a = t.slaves_few in omega arith) & t.slaves_are & t.slaves_ok)

  abbrev Is : Type 0
  Is = (row ≡ process_row (process_of r row)) × ProcessSized (process_of r row)

  there : Tested → Is
  unfolding process_of process_row
  there t =
      let q : Process = process_of r row in
      let i : d ≤ 8 = t.frames_few in
      let j : n ≤ No.places = t.slaves_few in
      let a : length (frames_of frames) ≡ d =
      frames_long frames ∙ length-take-le d (cut Process.BLOCKS Limit.DEPTH row)
      (omega (arith, part_long Process.BLOCKS Limit.DEPTH (omega arith))) in
      let b : length (map slave_of slaves) ≡ n =
      length-map slaves slave_of ∙ length-take-le n (cut Process.OWNED Process.OWNED_MOST row)
      (omega (arith, part_long Process.OWNED Process.OWNED_MOST (omega arith))) in
      let c : cut Process.NUMBER Process.LOCALS row
      ≡ q.number ∷ code q.priority ∷ length q.frames ∷ length q.slaves ∷ [] =
      cut-words 4 0 row (omega arith) ∙ (λ z. get_or row Process.NUMBER 0 ∷ sym t.code_is z ∷ sym a z ∷ sym b z ∷ []) in
      let e : laid (cut Process.NUMBER Process.LOCALS row ∷ cut Process.LOCALS No.locals row ∷ cut Process.HELD Limit.THINGS row
      ∷ cut Process.BLOCKS Limit.DEPTH row ∷ cut Process.OWNED Process.OWNED_MOST row ∷ []) ≡ row =
      laid_cuts 0 process_widths row long in (
        sym e ∙ (λ z. laid (c z ∷ t.locals_are z ∷ t.held_are z ∷ t.frames_are z ∷ t.slaves_are z ∷ [])),
        record {
          number_low = t.number_low;
          priority_ok = t.priority_ok;
          locals_few = rw (length-map locals value_of, length-take) (omega (arith, seated_few d No.locals 8 (omega arith)));
          locals_ok = t.locals_ok;
          held_few = rw length-take (omega (arith, seated_few d r Limit.THINGS few));
          held_low = t.held_low;
          frames_few = omega arith;
          frames_ok = t.frames_ok;
          slaves_few = omega arith;
          slaves_ok = t.slaves_ok;
        },
      )

  back : Is → Tested
  unfolding process_of process_row
  back h =
      let q : Process = process_of r row in
      let part = laid_part (process_parts q) process_widths (process_wide q h.1) in
      let i : d ≡ length (frames_of frames) = ap (λ w. get_or w Row.LAST 0) h.0 in
      let j : n ≡ length (map slave_of slaves) = ap (λ w. get_or w Row.FLOOR 0) h.0 in
      record {
        number_low = h.1.number_low;
        code_is = code-value_of (get_or row Process.PRIORITY 0);
        priority_ok = h.1.priority_ok;
        locals_are = ap (cut Process.LOCALS No.locals) h.0 ∙ part 1 (omega arith);
        locals_ok = h.1.locals_ok;
        held_are = ap (cut Process.HELD Limit.THINGS) h.0 ∙ part 2 (omega arith);
        held_low = h.1.held_low;
        frames_few = omega (arith, h.1.frames_few);
        frames_are = ap (cut Process.BLOCKS Limit.DEPTH) h.0 ∙ part 3 (omega arith);
        frames_ok = h.1.frames_ok;
        slaves_few = omega (arith, h.1.slaves_few);
        slaves_are = ap (cut Process.OWNED Process.OWNED_MOST) h.0 ∙ part 4 (omega arith);
        slaves_ok = h.1.slaves_ok;
      }

  pub says_process : Says (process_fits r row) Is
  says_process = says_for says_tested there back
