-- Rows of amounts, of blocks, of events and of waiters that are tested. Assumes nothing.
use Prim.Native.Nat.{ℕ, suc, ◌≤◌}
use native.Mathlib.Omega.{arith}
use mathlib.Core.Path.{◌≡◌, refl, sym, ◌∙◌, ap}
use mathlib.Core.List.{List, [], ◌∷◌, ◌++◌, map}
use mathlib.Core.Bool.{Bool}
use lib.Dec.{leb}
use lib.ListN.{length, take, length-append, length-map, length-take}
use lib.Seq.{length-take-le}
use Rattle.semantics.specs.Numbers as No
use Rattle.semantics.specs.State.{Frame, Event}
use Rattle.promises.specs.Laws.{AllOf, all_append, all_split, ◌&◌}
use Rattle.promises.specs.Sound.{Seed}
use Rattle.promises.specs.Says.{Says, says_le, says_within, says_all, says_for}
use Rattle.base_numbers.specs.Most as Most
use Rattle.base_numbers.specs.Row as Row
use Rattle.base_i32.specs.Laws.{value_fits}
use Rattle.base_ordered.specs.Lines.{pad, event_key, waiter_word, data_of}
use Rattle.row_work.specs.Work.{frame_word, stacked, waiters_row, FrameSized, NoticeSized, EventSized, WaiterSized, WaitersSized}
use Rattle.row_work.specs.Shown.{stacked-length}
use Rattle.row_view.specs.View.{frame_of, notice_of, event_of, waiter_of, frames_of, events_of, waiters_of}
use Rattle.row_view.specs.Fits.{frame_fits, seed_fits, fits, fits_below}
use Rattle.row_view.proofs.Words.{says_frame, says_waiter}
use Rattle.row_view.proofs.Shown.{says_row, says_words, says_shown}

-- NUMBERS that stand for themselves; amounts; seeds.
says_numbers : (t : ℕ → Bool) (P : ℕ → Type 0) → ((x : ℕ) → Says (t x) (P x)) → (n k : ℕ) (row : List ℕ) → length row ≡ n
    → Says (fits t k row) ((k ≤ n) × ((row ≡ pad n (take k row)) × AllOf P (take k row)))
says_numbers t P each =
    says_row t (λ xs. xs) (AllOf P) (λ xs. refl) (λ xs. says_for (says_all each xs) (λ h. (refl, h)) (λ h. h.1))

pub says_amounts : (most n k : ℕ) (row : List ℕ) → length row ≡ n
    → Says (fits_below k most row) ((k ≤ n) × ((row ≡ pad n (take k row)) × AllOf (λ x. x ≤ most) (take k row)))
says_amounts most = says_numbers (λ x. leb x most) (λ x. x ≤ most) (λ x. says_le)

pub says_seeds : (n k : ℕ) (row : List ℕ) → length row ≡ n
    → Says (fits seed_fits k row) ((k ≤ n) × ((row ≡ pad n (take k row)) × AllOf Seed (take k row)))
says_seeds = says_numbers seed_fits Seed (λ x. says_within)

-- BLOCKS: the outermost stands first in the row.
stacked_more : (fs : List Frame) (f : Frame) → stacked (fs ++ f ∷ []) ≡ frame_word f ∷ stacked fs
unfolding stacked
stacked_more [] f = refl
stacked_more (g ∷ gs) f = ap (λ l. l ++ frame_word g ∷ []) (stacked_more gs f)

again_stacked : (xs : List ℕ) → stacked (frames_of xs) ≡ map frame_word (map frame_of xs)
unfolding frames_of stacked
again_stacked [] = refl
again_stacked (x ∷ xs) = stacked_more (frames_of xs) (frame_of x) ∙ ap (λ l. frame_word (frame_of x) ∷ l) (again_stacked xs)

pub frames_long : (xs : List ℕ) → length (frames_of xs) ≡ length xs
unfolding frames_of
frames_long [] = refl
frames_long (x ∷ xs) = let a = length-append (frames_of xs) (frame_of x ∷ []) in let i = frames_long xs in omega (arith, a)

frames_all : (xs : List ℕ) → AllOf FrameSized (map frame_of xs) → AllOf FrameSized (frames_of xs)
unfolding frames_of
frames_all [] h = tt
frames_all (x ∷ xs) h = all_append FrameSized (frames_of xs) (frame_of x ∷ []) (frames_all xs h.1) (h.0, tt)

frames_each : (xs : List ℕ) → AllOf FrameSized (frames_of xs) → AllOf FrameSized (map frame_of xs)
unfolding frames_of
frames_each [] h = tt
frames_each (x ∷ xs) h =
    let a = all_split FrameSized (frames_of xs) (frame_of x ∷ []) h in (a.1.0, frames_each xs a.0)

pub says_frames : (n k : ℕ) (row : List ℕ) → length row ≡ n
    → Says (fits frame_fits k row)
    ((k ≤ n) × ((row ≡ pad n (stacked (frames_of (take k row)))) × AllOf FrameSized (frames_of (take k row))))
says_frames n k row l =
    says_row frame_fits (λ xs. stacked (frames_of xs)) (λ xs. AllOf FrameSized (frames_of xs))
    (λ xs. stacked-length (frames_of xs) ∙ frames_long xs)
    (λ xs.
    says_for (says_words frame_fits frame_word frame_of FrameSized says_frame xs)
    (λ h. (again_stacked xs ∙ h.0, frames_all xs h.1))
    (λ h. (sym (again_stacked xs) ∙ h.0, frames_each xs h.1)))
    n k row l

-- EVENTS: a row of keys, and a row of words.
abbrev pub Timely : Event → Type 0
Timely e = e.time ≤ No.latest

abbrev pub by_key : ℕ → Event
by_key k = event_of k 0

pub events_long : (ks ds : List ℕ) → length ks ≡ length ds → length (events_of ks ds) ≡ length ks
unfolding events_of
events_long [] ds e = refl
events_long (k ∷ ks) [] e = absurd (omega arith)
events_long (k ∷ ks) (d ∷ ds) e = ap suc (events_long ks ds (omega arith))

pub keys_are : (ks ds : List ℕ) → length ks ≡ length ds → map event_key (events_of ks ds) ≡ map event_key (map by_key ks)
unfolding events_of
keys_are [] ds e = refl
keys_are (k ∷ ks) [] e = absurd (omega arith)
keys_are (k ∷ ks) (d ∷ ds) e = ap (λ l. event_key (by_key k) ∷ l) (keys_are ks ds (omega arith))

pub words_are : (ks ds : List ℕ) → length ks ≡ length ds
    → map (λ e. data_of e.notice) (events_of ks ds) ≡ map data_of (map notice_of ds)
unfolding events_of
words_are [] [] e = refl
words_are [] (d ∷ ds) e = absurd (omega arith)
words_are (k ∷ ks) [] e = absurd (omega arith)
words_are (k ∷ ks) (d ∷ ds) e = ap (λ l. data_of (notice_of d) ∷ l) (words_are ks ds (omega arith))

pub events_all : (ks ds : List ℕ) → length ks ≡ length ds → AllOf Timely (map by_key ks) → AllOf NoticeSized (map notice_of ds)
    → AllOf EventSized (events_of ks ds)
unfolding events_of
events_all [] ds e h g = tt
events_all (k ∷ ks) [] e h g = absurd (omega arith)
events_all (k ∷ ks) (d ∷ ds) e h g = (
  record {
    time_low = h.0;
    priority_ok = value_fits _ (omega arith);
    notice_ok = g.0;
  },
  events_all ks ds (omega arith) h.1 g.1,
)

pub events_each : (ks ds : List ℕ) → length ks ≡ length ds → AllOf EventSized (events_of ks ds)
    → AllOf Timely (map by_key ks) × AllOf NoticeSized (map notice_of ds)
unfolding events_of
events_each [] [] e h = (tt, tt)
events_each [] (d ∷ ds) e h = absurd (omega arith)
events_each (k ∷ ks) [] e h = absurd (omega arith)
events_each (k ∷ ks) (d ∷ ds) e h =
    let i = events_each ks ds (omega arith) h.1 in ((h.0.time_low, i.0), (h.0.notice_ok, i.1))

-- WAITERS, in a row of 64.
abbrev pub Listed : ℕ → List ℕ → Type 0
Listed n row = (row ≡ waiters_row (waiters_of n row)) × ((length (waiters_of n row) ≡ n) × WaitersSized (waiters_of n row))

pub says_waiters : (n : ℕ) (row : List ℕ) → length row ≡ Row.WAITERS_MOST → Says (fits_below n Most.WAITER row) (Listed n row)
says_waiters n row l =
    says_for (says_shown (λ x. leb x Most.WAITER) waiter_word waiter_of WaiterSized says_waiter Row.WAITERS_MOST n row l)
    (λ h.
    let a = long h.0 in
    h.1.0 & a & record { few = omega (arith, h.0); each = h.1.1 })
    (λ h. few h.1.0 & h.0 & h.1.1.each)
  where
    made : length (waiters_of n row) ≡ length (take n row)
    made = length-map (take n row) waiter_of

    long : n ≤ Row.WAITERS_MOST → length (waiters_of n row) ≡ n
    long h = made ∙ length-take-le n row (omega arith)

    few : length (waiters_of n row) ≡ n → n ≤ Row.WAITERS_MOST
    few e = let a = length-take n row in let b = made in omega arith
