-- The work of a state shows that state, if the state has the model's lengths and the work can hold it. Assumes nothing.
use Prim.Native.Nat.{ℕ, ◌+◌, ◌-◌, ◌*◌, ◌/◌, ◌%◌, ◌≤◌, ◌<◌}
use Rattle.std.proofs.Common.{arith, sym, ◌∙◌, ap₂, ne_eqb, take_at}
use Rattle.std.specs.Prelude.{◌≡◌, Bool, true, false, eqb, take, ℤ}
use Rattle.std.proofs.Math.Path.{refl, ap}
use mathlib.Core.List.{List, [], ◌∷◌, ◌++◌, map, append_assoc}
use Rattle.std.proofs.Math.ListN.{length}
use Rattle.std.proofs.lemmas.List.{length-map}
use Rattle.std.proofs.Math.Seq.{take-append_seam, drop_at}
use Rattle.semantics.specs.Words.{collect}
use Rattle.semantics.specs.Numbers as No
use Rattle.semantics.specs.Model.{Model}
use Rattle.semantics.specs.State.{State, Process, Frame, Slave, Waiter, Event, Notice, wakes, returns_r, returns_b}
use Rattle.semantics.specs.State.{Floor, empty, held_by}
use Rattle.promises.specs.Laws.{AllOf}
use Rattle.promises.specs.Fit.{I32}
use Rattle.base_numbers.specs.Row as Row
use Rattle.base_numbers.specs.Process as Process
use Rattle.base_numbers.specs.Word as Word
use Rattle.base_numbers.specs.Limit as Limit
use Rattle.base_numbers.specs.Code as Code
use Rattle.base_i32.specs.Code.{code, value_of}
use Rattle.base_i32.specs.Laws.{value_of-code, code_fits}
use Rattle.base_ordered.specs.Order.{number-packed, amount-packed, giver-packed}
use Rattle.base_ordered.specs.Lines.{pad, kind_of, number_of, amount_of, giver_of, packed, event_key, waiter_word, data_of}
use Rattle.row_work.specs.Laid.{laid_part}
use Rattle.row_work.specs.Work.{frame_word, stacked, slave_word, process_parts, process_widths, process_row, closed_word, floor_word}
use Rattle.row_work.specs.Work.{waiters_row, work_parts, work_widths, work_of, FrameSized, SlaveSized, ProcessSized, WaiterSized}
use Rattle.row_work.specs.Work.{WaitersSized, NoticeSized, EventSized, Sized}
use Rattle.row_work.specs.Shown.{stacked-length, process_wide, process_long, row_length, work_wide, work_long}
use Rattle.row_work.specs.Seeds.{seeds_end, seeds_part_lem}
use Rattle.row_view.specs.View.{cut, frame_of, slave_of, waiter_of, notice_of, event_of, floor_of, frames_of, events_of, waiters_of}
use Rattle.row_view.specs.View.{waiting_of, seated, process_of, processes_of, view_by, view_in}

-- The list that stands in a row.
front_back : (k n : ℕ) (xs : List ℕ) → n ≡ length xs → take n (pad k xs) ≡ xs
front_back k n xs e = ap (λ i. take i (pad k xs)) e ∙ take-append_seam xs _

-- WORDS.
frame_back : (f : Frame) → FrameSized f → frame_of (frame_word f) ≡ f
frame_back f h =
    let a : frame_word f % Word.BLOCKS ≡ f.block = omega arith in
    let n : frame_word f / Word.ACTION ≡ f.at + Word.ACTIONS * f.rounds = omega arith in
    let b : frame_word f / Word.ACTION % Word.ACTIONS ≡ f.at = rw n (omega arith) in
    let c : frame_word f / Word.ROUND ≡ f.rounds = omega arith in
    λ t. record { block = a t; at = b t; rounds = c t }

slave_back : (x : Slave) → SlaveSized x → slave_of (slave_word x) ≡ x
slave_back x h =
    let a : slave_word x / Word.SYNC ≡ x.of = omega arith in
    let b : slave_word x % Word.PLACES ≡ x.place = omega arith in
    λ t. record { of = a t; place = b t }

rank_back : (v : ℤ) (n : ℕ) → I32 v → n ≡ Code.HIGHEST - code v → value_of (Code.HIGHEST - n) ≡ v
rank_back v n h e =
    let a : Code.HIGHEST - n ≡ code v = omega (arith, code_fits v h) in ap value_of a ∙ value_of-code v h

waiter_back : (w : Waiter) → WaiterSized w → waiter_of (waiter_word w) ≡ w
waiter_back w h =
    let a : waiter_word w / Word.KEY ≡ Code.HIGHEST - code w.priority = omega arith in
    let b : waiter_word w % Word.PLACES ≡ w.place = omega arith in
    let c = rank_back w.priority (waiter_word w / Word.KEY) h.priority_ok a in
    λ t. record { priority = c t; place = b t }

returned : (k i n g : ℕ) (f : ℕ → ℕ → ℕ → Notice) → k < Word.KINDS → i < Limit.THINGS → n ≤ Limit.AMOUNT
    → f (number_of (packed k i n g)) (amount_of (packed k i n g)) (giver_of (packed k i n g)) ≡ f i n g
returned k i n g f l h m =
    let a = number-packed k i n g l (omega arith) (omega arith) in
    let b = amount-packed k i n g l (omega arith) (omega arith) in
    let c = giver-packed k i n g l (omega arith) (omega arith) in
    λ t. f (a t) (b t) (c t)

notice_back : (n : Notice) → NoticeSized n → notice_of (data_of n) ≡ n
notice_back (wakes p) h =
    let k : kind_of (data_of (wakes p)) ≡ 0 = omega arith in
    rw k (ap wakes (number-packed 0 p 0 0 (omega arith) h (omega arith)))
notice_back (returns_r i n g) h =
    let k : kind_of (data_of (returns_r i n g)) ≡ 1 = omega arith in
    rw k (returned 1 i n g returns_r (omega arith) h.0 h.1.0)
notice_back (returns_b i n g) h =
    let k : kind_of (data_of (returns_b i n g)) ≡ 2 = omega arith in
    rw k (returned 2 i n g returns_b (omega arith) h.0 h.1.0)

event_back : (e : Event) → EventSized e → event_of (event_key e) (data_of e.notice) ≡ e
event_back e h =
    let l = code_fits e.priority h.priority_ok in
    let a : event_key e / Word.TIME ≡ e.time = omega arith in
    let b : event_key e % Word.RANKS ≡ Code.HIGHEST - code e.priority = omega arith in
    let c = rank_back e.priority (event_key e % Word.RANKS) h.priority_ok b in
    let d = notice_back e.notice h.notice_ok in
    λ t. record { time = a t; priority = c t; notice = d t }

floor_back : (o : Floor) → floor_of (floor_word o) ≡ o
floor_back empty = refl
floor_back (held_by p) =
    let a : p + 1 - 1 ≡ p = omega arith in rw (ne_eqb (p + 1) 0 (λ (e : p + 1 ≡ 0). omega arith)) (ap held_by a)

closed_back : (b : Bool) → eqb (closed_word b) 1 ≡ b
closed_back true = refl
closed_back false = refl

-- LISTS. The numbers f of a list, in a row of k.
module _ {A : Type 0} (f : A → ℕ) (g : ℕ → A) (P : A → Type 0) (back : (x : A) → P x → g (f x) ≡ x) where
  map_back : (xs : List A) → AllOf P xs → map g (map f xs) ≡ xs
  map_back [] h = refl
  map_back (x ∷ xs) h = ap₂ ◌∷◌ (back x h.0) (map_back xs h.1)

  row_back : (k n : ℕ) (xs : List A) → AllOf P xs → n ≡ length xs → map g (take n (pad k (map f xs))) ≡ xs
  row_back k n xs h e = ap (map g) (front_back k n (map f xs) (e ∙ sym (length-map xs f))) ∙ map_back xs h

frames_more : (xs : List ℕ) (x : ℕ) → frames_of (xs ++ x ∷ []) ≡ frame_of x ∷ frames_of xs
unfolding frames_of
frames_more [] x = refl
frames_more (y ∷ ys) x = ap (λ l. l ++ frame_of y ∷ []) (frames_more ys x)

frames_back : (fs : List Frame) → AllOf FrameSized fs → frames_of (stacked fs) ≡ fs
unfolding frames_of stacked
frames_back [] h = refl
frames_back (f ∷ fs) h =
    frames_more (stacked fs) (frame_word f) ∙ ap₂ ◌∷◌ (frame_back f h.0) (frames_back fs h.1)

events_back : (es : List Event) → AllOf EventSized es → events_of (map event_key es) (map (λ e. data_of e.notice) es) ≡ es
unfolding events_of
events_back [] h = refl
events_back (e ∷ es) h = ap₂ ◌∷◌ (event_back e h.0) (events_back es h.1)

-- .. in a row of keys and a row of words.
event_rows_back : (es : List Event) (keys words : List ℕ) → AllOf EventSized es → keys ≡ pad Row.EVENTS_MOST (map event_key es)
    → words ≡ pad Row.EVENTS_MOST (map (λ e. data_of e.notice) es)
    → events_of (take (length es) keys) (take (length es) words) ≡ es
event_rows_back es keys words h k d =
    let a : take (length es) keys ≡ map event_key es =
    ap (take (length es)) k ∙ front_back Row.EVENTS_MOST (length es) (map event_key es) (sym (length-map es event_key)) in
    let b : take (length es) words ≡ map (λ e. data_of e.notice) es =
    ap (take (length es)) d
    ∙ front_back Row.EVENTS_MOST (length es) (map (λ e. data_of e.notice) es) (sym (length-map es (λ e. data_of e.notice))) in
    ap₂ events_of a b ∙ events_back es h

waiters_back : (n : ℕ) (ws : List Waiter) → WaitersSized ws → n ≡ length ws → waiters_of n (waiters_row ws) ≡ ws
waiters_back n ws h e = row_back waiter_word waiter_of WaiterSized waiter_back Row.WAITERS_MOST n ws h.each e

-- Rows one behind the other, and zs behind them.
waiting_back : (wss : List (List Waiter)) (zs : List ℕ) → AllOf WaitersSized wss
    → waiting_of (map length wss) (collect waiters_row wss ++ zs) ≡ wss
unfolding waiting_of
waiting_back [] zs h = refl
waiting_back (ws ∷ wss) zs h =
    let l : length (waiters_row ws) ≡ Row.WAITERS_MOST = row_length Row.WAITERS_MOST waiter_word ws h.0.few in
    let b : List ℕ = collect waiters_row wss ++ zs in
    let a : (waiters_row ws ++ collect waiters_row wss) ++ zs ≡ waiters_row ws ++ b = append_assoc (waiters_row ws) _ zs in
    rw (a, take_at (waiters_row ws) b Row.WAITERS_MOST l, drop_at (waiters_row ws) b Row.WAITERS_MOST l)
    (ap₂ ◌∷◌ (waiters_back (length ws) ws h.0 refl) (waiting_back wss zs h.1))

-- A PROCESS that is empty where it is in no block, and else has 8 locals and a holding for each resource.
pub record Furnished (resources : ℕ) (q : Process) : Type 0 where
  pub locals_many : length q.locals ≡ seated (length q.frames) No.locals
  pub held_many : length q.held ≡ seated (length q.frames) resources

module _ (r : ℕ) where
  process_back : (q : Process) → ProcessSized q → Furnished r q → process_of r (process_row q) ≡ q
  unfolding process_of process_row
  process_back q h f =
      let d : ℕ = length q.frames in
      let part = laid_part (process_parts q) process_widths (process_wide q h) in
      let locals_are : cut Process.LOCALS No.locals (process_row q) ≡ pad No.locals (map code q.locals) =
      part 1 (omega arith) in
      let held_are : cut Process.HELD Limit.THINGS (process_row q) ≡ pad Limit.THINGS q.held = part 2 (omega arith) in
      let frames_are : cut Process.BLOCKS Limit.DEPTH (process_row q) ≡ pad Limit.DEPTH (stacked q.frames) =
      part 3 (omega arith) in
      let slaves_are : cut Process.OWNED Process.OWNED_MOST (process_row q)
      ≡ pad Process.OWNED_MOST (map slave_word q.slaves) = part 4 (omega arith) in
      let a = value_of-code q.priority h.priority_ok in
      let b =
      ap (λ row. map value_of (take (seated d No.locals) row)) locals_are
      ∙ row_back code value_of I32 value_of-code 8 (seated d No.locals) q.locals h.locals_ok (sym f.locals_many) in
      let c = ap (take (seated d r)) held_are ∙ front_back Limit.THINGS (seated d r) q.held (sym f.held_many) in
      let e =
      ap (λ row. map slave_of (take (length q.slaves) row)) slaves_are
      ∙ row_back slave_word slave_of SlaveSized slave_back Process.OWNED_MOST (length q.slaves) q.slaves h.slaves_ok
      refl in
      let g =
      ap (λ row. frames_of (take d row)) frames_are
      ∙ ap frames_of (front_back 8 d (stacked q.frames) (sym (stacked-length q.frames)))
      ∙ frames_back q.frames h.frames_ok in
      λ t. record { number = q.number; priority = a t; locals = b t; held = c t; slaves = e t; frames = g t }

  processes_back : (qs : List Process) → AllOf ProcessSized qs → AllOf (Furnished r) qs
      → processes_of r (length qs) (collect process_row qs) ≡ qs
  unfolding processes_of
  processes_back [] h f = refl
  processes_back (q ∷ qs) h f =
      let l = process_long q h.0 in
      let b : List ℕ = collect process_row qs in
      rw (take_at (process_row q) b Process.WORDS l, drop_at (process_row q) b Process.WORDS l)
      (ap₂ ◌∷◌ (process_back q h.0 f.0) (processes_back qs h.1 f.1))

-- THE STATE has the model's lengths.
pub record Shaped (m : Model) (s : State) : Type 0 where
  pub frees_many : length s.free ≡ length m.totals
  pub bins_many : length s.bins ≡ length m.amounts
  pub syncs_many : length s.waiting ≡ m.syncs
  pub vars_many : length s.globals ≡ length m.vars
  pub furnished : AllOf (Furnished (length m.totals)) s.processes
  pub seeds_many : length s.seeds ≡ length m.samplers

pub view_back : (m : Model) (s : State) → Sized s → Shaped m s → view_in m (work_of s) ≡ s
unfolding view_by work_of
view_back m s h f =
    let part = laid_part (work_parts s) work_widths (work_wide s h) in
    let r : ℕ = length m.totals in
    let row : ℕ → ℕ → List ℕ = λ i n. cut i n (work_of s) in
    let free_are : row Row.FREE Limit.THINGS ≡ pad Limit.THINGS s.free = part 1 (omega arith) in
    let bins_are : row Row.BINS Limit.THINGS ≡ pad Limit.THINGS s.bins = part 2 (omega arith) in
    let globals_are : row Row.GLOBALS Limit.THINGS ≡ pad Limit.THINGS (map code s.globals) = part 3 (omega arith) in
    let counts_are : row Row.WAITS Limit.THINGS ≡ pad Limit.THINGS (map length s.waiting) = part 4 (omega arith) in
    let blocked_are : row Row.QUEUE Row.WAITERS_MOST ≡ waiters_row s.blocked = part 5 (omega arith) in
    let keys_are : row Row.KEYS Row.EVENTS_MOST ≡ pad Row.EVENTS_MOST (map event_key s.events) = part 6 (omega arith) in
    let words_are : row Row.NOTICES Row.EVENTS_MOST ≡ pad Row.EVENTS_MOST (map (λ e. data_of e.notice) s.events) =
    part 7 (omega arith) in
    let lists_are : row Row.WAITING Row.WAITERS_ALL ≡ pad Row.WAITERS_ALL (collect waiters_row s.waiting) =
    part 8 (omega arith) in
    let places_are : row Row.PROCESSES Row.PROCESSES_ALL ≡ collect process_row s.processes = part 9 (omega arith) in
    let seeds_are : row Row.SEEDS Limit.SAMPLERS ≡ pad Limit.SAMPLERS s.seeds =
    seeds_end (work_of s) (work_long s h) ∙ seeds_part_lem s h in
    let a =
    ap (λ x. map value_of (take (length m.vars) x)) globals_are
    ∙ row_back code value_of I32 value_of-code Limit.THINGS (length m.vars) s.globals h.globals_ok (sym f.vars_many) in
    let b = ap (take r) free_are ∙ front_back Limit.THINGS r s.free (sym f.frees_many) in
    let c = ap (take (length m.amounts)) bins_are ∙ front_back Limit.THINGS _ s.bins (sym f.bins_many) in
    let d =
    ap₂ (λ x y. waiting_of (take m.syncs x) y) counts_are lists_are
    ∙ ap (λ x. waiting_of x (pad Row.WAITERS_ALL (collect waiters_row s.waiting)))
    (front_back Limit.THINGS m.syncs (map length s.waiting) (sym f.syncs_many ∙ sym (length-map s.waiting length)))
    ∙ waiting_back s.waiting _ h.waiting_ok in
    let e = event_rows_back s.events _ _ h.events_ok keys_are words_are in
    let k =
    ap (λ x. waiters_of (length s.blocked) x) blocked_are
    ∙ waiters_back (length s.blocked) s.blocked h.blocked_ok refl in
    let p =
    ap (λ x. processes_of r No.places x) places_are
    ∙ ap (λ i. processes_of r i (collect process_row s.processes)) (sym h.places_64)
    ∙ processes_back r s.processes h.processes_ok f.furnished in
    let q = ap (take (length m.samplers)) seeds_are ∙ front_back Limit.SAMPLERS _ s.seeds (sym f.seeds_many) in
    let u = closed_back s.closed in
    let v = floor_back s.floor in
    λ t.
    record {
      clock = s.clock;
      closed = u t;
      last = s.last;
      globals = a t;
      free = b t;
      bins = c t;
      waiting = d t;
      floor = v t;
      events = e t;
      blocked = k t;
      processes = p t;
      seeds = q t;
    }
