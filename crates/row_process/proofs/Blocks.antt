-- A block gone into, and a block left: the states on the way, which the work shows. Assumes nothing.
use Prim.Native.Nat.{ℕ, suc, ◌+◌, ◌*◌, ◌≤◌, ◌<◌}
use native.Mathlib.Nat.{le_of_lt}
use native.Mathlib.Omega.{arith}
use mathlib.Core.Path.{◌≡◌, refl, sym, subst, ◌∙◌, ap}
use mathlib.Core.List.{List, [], ◌∷◌}
use mathlib.Core.Bool.{Bool, true, false}
use lib.ListN.{length, set}
use Rattle.semantics.specs.Words.{is_empty}
use Rattle.semantics.specs.State.{State, Process, Frame, process, put, with_frames, past, into}
use Rattle.promises.specs.Laws.{AllOf, no_way}
use Rattle.base_numbers.specs.Row as Row
use Rattle.base_numbers.specs.Process as Process
use Rattle.row_work.specs.Work.{process_row, work_of, ProcessSized, FrameSized, Sized, Doing}
use Rattle.row_process.specs.Process.{Shown, at_first, Lives, Inner, changed, outside, out}
use Rattle.row_process.specs.Rows.{blank, depth_more, depth_less}
use Rattle.row_process.specs.Put.{put_again, put_there, put_sized, sized_put, changed_twice, framed_sized}
use Rattle.row_process.proofs.Standing.{is_sized, word_set, around_few, by_blocks}

pub blank_sized : FrameSized blank
blank_sized = omega arith

-- A process that lives, in other blocks.
module _ {w : List ℕ} {P : State → Type 0} (v : Shown w P) {p : ℕ} (l : Lives p v.is) where
  abbrev s : State
  s = v.is

  abbrev q : Process
  q = process v.is p

  abbrev within : List Frame → State
  within fs = changed p (λ r. with_frames r fs) v.is

  pub is_there : (fs : List Frame) → process (within fs) p ≡ with_frames q fs
  is_there fs = put_there s p (with_frames q fs) v.sized.places_64 l.in_places

  pub within_sized : (fs : List Frame) → length fs ≤ 8 → AllOf FrameSized fs → Sized (within fs)
  within_sized fs n k = put_sized s p (with_frames q fs) v.sized (framed_sized q (is_sized v p) fs n k)

  abbrev pub lives_within : (fs : List Frame) → is_empty fs ≡ false → Lives p (within fs)
  lives_within [] h = no_way (sym h)
  lives_within (f ∷ fs) h =
      record { in_places = l.in_places; innermost = f; around = fs; frames_are = ap (λ r. r.frames) (is_there (f ∷ fs)) }

  abbrev pub shown_within : (fs : List Frame) → length fs ≤ 8 → AllOf FrameSized fs → is_empty fs ≡ false → {x : List ℕ}
      → x ≡ work_of (within fs) → Shown x (Lives p)
  shown_within fs n k h e =
      record { is = within fs; shows = e; sized = within_sized fs n k; given = lives_within fs h }

  -- One block more: how many there are tells that.
  pub one_more_block : length q.frames < 8 → (m : ℕ) → m ≡ length q.frames
      → set w (Row.PROCESSES + Process.WORDS * p + Process.DEPTH) (m + 1) ≡ work_of (within (blank ∷ q.frames))
  one_more_block room m e =
      let k : m + 1 ≡ suc (length q.frames) = omega arith in
      word_set v p l.in_places 2 (omega arith) (m + 1) (with_frames q (blank ∷ q.frames))
      (ap (set (process_row q) 2) k ∙ depth_more q q.frames room) (sym (ap is_empty l.frames_are))

  -- One block less: first the innermost is a block of nothing.
  pub around_sized : AllOf FrameSized l.around
  around_sized = (subst (AllOf FrameSized) l.frames_are (is_sized v p).frames_ok).1

  abbrev pub emptied : {x : List ℕ} → x ≡ work_of (within (blank ∷ l.around)) → Shown x (Lives p)
  emptied e = shown_within (blank ∷ l.around) (around_few v l) (blank_sized, around_sized) refl e

  pub one_less_block : {x : List ℕ} → x ≡ work_of (within (blank ∷ l.around)) → is_empty l.around ≡ false
      → (m : ℕ) → m + 1 ≡ length q.frames → set x (Row.PROCESSES + Process.WORDS * p + Process.DEPTH) m
      ≡ work_of (within l.around)
  one_less_block e h m n =
      let here : process (within (blank ∷ l.around)) p ≡ with_frames q (blank ∷ l.around) = is_there (blank ∷ l.around) in
      let k : m ≡ length l.around = let a = n ∙ ap length l.frames_are in omega (arith, a) in
      word_set (emptied e) p l.in_places 2 (omega arith) m (with_frames q l.around)
      (ap (λ r. set (process_row r) 2 m) here ∙ ap (set (process_row (with_frames q (blank ∷ l.around))) 2) k
      ∙ depth_less q l.around (around_few v l))
      (h ∙ sym (ap (λ r. is_empty r.frames) here))
      ∙ ap work_of (put_again s p (with_frames q (blank ∷ l.around)) (with_frames q l.around))

-- INTO BLOCK b for n rounds: room for it and its size, the state on the way, and the end.
module _ (p n b : ℕ) {w : List ℕ} (d : Doing w (Lives p) (changed p (into n b))) where
  abbrev frames : List Frame
  frames = (process d.is p).frames

  abbrev pub new_block : Frame
  new_block = record { block = b; at = 0; rounds = n }

  new_sized : ProcessSized (into n b (process d.is p))
  new_sized = sized_put d.is p (into n b (process d.is p)) d.before.places_64 d.given.in_places d.after

  pub room : length frames < 8
  unfolding into
  room = new_sized.frames_few

  pub block_sized : FrameSized new_block
  unfolding into
  block_sized = new_sized.frames_ok.0

  abbrev pub on_the_way : (m : ℕ) → m ≡ length frames → {x : List ℕ}
      → x ≡ set w (Row.PROCESSES + Process.WORDS * p + Process.DEPTH) (m + 1)
      → Shown x (Lives p)
  on_the_way m e h =
      shown_within (at_first d) d.given (blank ∷ frames) room (blank_sized, (is_sized (at_first d) p).frames_ok) refl
      (h ∙ one_more_block (at_first d) d.given room m e)

  pub gone_in : work_of (changed p (λ r. with_frames r (new_block ∷ frames)) (within (at_first d) d.given (blank ∷ frames)))
      ≡ work_of (changed p (into n b) d.is)
  unfolding into
  gone_in =
      ap work_of
      (changed_twice d.is p (λ r. with_frames r (blank ∷ frames)) (λ r. with_frames r (new_block ∷ frames))
      d.before.places_64 d.given.in_places)

-- OUT OF THE INNERMOST BLOCK: back at the action that named it, or past that.
module _ {p : ℕ} (back : Bool) {w : List ℕ} (d : Doing w (Inner p) (changed p (out back))) where
  abbrev outer : State
  outer = changed p (λ r. with_frames r d.given.lives.around) d.is

  pub came_back : back ≡ true → work_of outer ≡ work_of (changed p (out back) d.is)
  unfolding out outside
  came_back e =
      by_blocks (at_first d) d.given.lives (outside true) ∙ ap (λ b. work_of (changed p (out b) d.is)) (sym e)

  pub went_past : back ≡ false → changed p past outer ≡ changed p (out back) d.is
  unfolding past out outside
  went_past e =
      changed_twice d.is p (λ r. with_frames r d.given.lives.around) past
      d.before.places_64 d.given.lives.in_places
      ∙ ap (λ fs. put p (with_frames (process d.is p) (outside false fs)) d.is) (sym d.given.lives.frames_are)
      ∙ ap (λ b. changed p (out b) d.is) (sym e)

  abbrev pub going_past : back ≡ false → {x : List ℕ} → x ≡ work_of outer → Doing x (Lives p) (changed p past)
  going_past e h =
      let l : Lives p d.is = d.given.lives in
      record {
        is = outer;
        shows = h;
        before = within_sized (at_first d) l l.around (le_of_lt (around_few (at_first d) l)) (around_sized (at_first d) l);
        after = subst Sized (sym (went_past e)) d.after;
        given = lives_within (at_first d) l l.around d.given.nested;
      }
