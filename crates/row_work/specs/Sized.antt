-- Every state of a sound run is Sized, also in the middle of a step: the work can show it. Assumes nothing.
use Rattle.std.specs.Prelude.{ℕ, zero, suc, ◌+◌, ◌-◌, ◌≤◌, ◌<◌, ◌≡◌, refl, List, [], ◌∷◌, true, eqb, leb, length, get_or, take, drop, ℤ}
use Rattle.std.proofs.Common.{arith, ap, subst, eqb-true, leb-true}
use Rattle.std.proofs.Math.Option.{Option, none, some}
use Rattle.std.proofs.Math.ListN.{get_elem?}
use Rattle.semantics.specs.Numbers as No
use Rattle.semantics.specs.Words.{any}
use Rattle.semantics.specs.Model.{Model, block, Action, HOLD, PRIO, TRACE, SET, LSET, DO, PUTR, PUTB, PUTS, BECOME, REQ}
use Rattle.semantics.specs.Model.{TRY, WHILE, START, CLOSE}
use Rattle.semantics.specs.Bytes.{u16, Raw, raw, torn, cut, records_from, spans, whole}
use Rattle.semantics.specs.Record.{Entry, RES, BIN, SYNC, VAR, CLASS, BLOCK, ENTITY, SAMPLER, ACTION, Row, table}
use Rattle.semantics.specs.Record.{row_in, row_of}
use Rattle.semantics.specs.Decode.{accepted, Gathered, adds, gather, decode}
use Rattle.semantics.specs.State.{State, Process, Frame, Slave, Waiter, Notice, wakes, returns_r, returns_b}
use Rattle.semantics.specs.State.{Floor, empty, held_by, nobody}
use Rattle.semantics.specs.Sound.{enters, enters_at, named_there, chained}
use Rattle.promises.specs.Laws.{no_way, and-true, if_has, AllOf, all_map, all_both, all_get, all_at, all_drop}
use Rattle.promises.specs.Laws.{over, once, once_self}
use Rattle.promises.specs.Fit.{I32, Fit, Nested}
use Rattle.promises.specs.Sound.{al, on_floor, noticed, waits, slaved, Fine, Vacant, ProcOk, NoticeOk, Tied}
use Rattle.promises.specs.Sound.{Held, Sound}
use Rattle.promises.specs.Passes.{accepted_by}
use Rattle.promises.specs.Keep.{al_none, alive_in, free_or_fine}
use Rattle.promises.specs.Moves.{hand_in, proc_at}
use Rattle.promises.specs.Nests.{chain_depth, eight_blocks}
use Rattle.promises.specs.Capacity.{lists_fit}
use Rattle.base_numbers.specs.Row as Row
use Rattle.base_numbers.specs.Word as Word
use Rattle.base_numbers.specs.Limit as Limit
use Rattle.base_numbers.specs.Byte as Byte
use Rattle.row_work.specs.Work.{FrameSized, SlaveSized, ProcessSized, WaiterSized, WaitersSized, NoticeSized, EventSized}
use Rattle.row_work.specs.Work.{FloorSized, Sized}

-- LISTS. No element counts for more than all together; what holds at every index holds of all; and of the first n.
module _ {A : Type 0} where
  over_parts : (c : ℕ → A → ℕ) (most : ℕ → ℕ) (xs : List A) → ((k : ℕ) → over (c k) xs ≤ most k)
      → AllOf (λ x. (k : ℕ) → c k x ≤ most k) xs
  over_parts c most [] h = tt
  over_parts c most (x ∷ xs) h =
      ((λ k. let a = h k in omega arith), over_parts c most xs (λ k. let a = h k in omega arith))

  all_indices : (P : A → Type 0) (d : A) (xs : List A) → ((i : ℕ) → P (get_or xs i d)) → AllOf P xs
  all_indices P d [] h = tt
  all_indices P d (x ∷ xs) h = (h zero, all_indices P d xs (λ i. h (suc i)))

  all_take : (P : A → Type 0) (n : ℕ) (xs : List A) → AllOf P xs → AllOf P (take n xs)
  all_take P zero xs h = tt
  all_take P (suc n) [] h = tt
  all_take P (suc n) (x ∷ xs) h = (h.0, all_take P n xs h.1)

-- ROUNDS. For how many rounds an action goes into a block at most. Fit doesn't bound those of a DO; its u16 in a file does.
abbrev pub rounds_of : Action → ℕ
rounds_of (HOLD e) = 0
rounds_of (PRIO e) = 0
rounds_of (TRACE e) = 0
rounds_of (SET i e) = 0
rounds_of (LSET i e) = 0
rounds_of (DO n b) = n
rounds_of (PUTR i n) = 0
rounds_of (PUTB i n) = 0
rounds_of (PUTS i n) = 0
rounds_of (BECOME i) = 0
rounds_of (REQ c) = 0
rounds_of (TRY bs) = 1
rounds_of (WHILE b c) = 1
rounds_of (START c t h) = 0
rounds_of CLOSE = 0

abbrev pub FewRounds : Action → Type 0
FewRounds a = rounds_of a < Word.ROUNDS

abbrev pub Rounds : Model → Type 0
Rounds m = (b : ℕ) → AllOf FewRounds (block m b)

enters_rounds : (a : Action) (b r : ℕ) → enters a b r ≡ true → r ≤ rounds_of a
enters_rounds (HOLD e) b r n = no_way n
enters_rounds (PRIO e) b r n = no_way n
enters_rounds (TRACE e) b r n = no_way n
enters_rounds (SET i e) b r n = no_way n
enters_rounds (LSET i e) b r n = no_way n
enters_rounds (DO x k) b r n = leb-true r x (and-true (leb 1 r) _ (and-true (eqb k b) _ n).1).1
enters_rounds (PUTR i x) b r n = no_way n
enters_rounds (PUTB i x) b r n = no_way n
enters_rounds (PUTS i x) b r n = no_way n
enters_rounds (BECOME i) b r n = no_way n
enters_rounds (REQ c) b r n = no_way n
enters_rounds (TRY bs) b r n =
    let e = eqb-true r 1 (and-true (any (λ x. eqb x.block b) bs) _ n).1 in omega arith
enters_rounds (WHILE k c) b r n = let e = eqb-true r 1 (and-true (eqb k b) _ n).1 in omega arith
enters_rounds (START c t h) b r n = no_way n
enters_rounds CLOSE b r n = no_way n

-- A PLACE that is free: all empty.
pub vacant_sized : (q : Process) → q.frames ≡ [] → Vacant q → ProcessSized q
vacant_sized q e v =
    record {
      number_low = let a = v.no_number in omega arith;
      priority_ok = rw v.no_priority (omega arith);
      locals_few = rw v.no_locals (omega arith);
      locals_ok = rw v.no_locals tt;
      held_few = rw v.no_held (omega arith);
      held_low = rw v.no_held tt;
      frames_few = rw e (omega arith);
      frames_ok = rw e tt;
      slaves_few = rw v.no_slaves (omega arith);
      slaves_ok = rw v.no_slaves tt;
    }

module _ (m : Model) (f : Fit m) (n : Nested m) (r : Rounds m) where
  -- BLOCKS that a process is in: each was named, with its rounds, by the action where the one around it stands.
  block_short : (b : ℕ) → length (block m b) ≤ Limit.ACTIONS
  block_short b =
      all_get (λ x. (k : ℕ) → length x ≤ Limit.ACTIONS) m.blocks b []
      (over_parts (λ k. length) (λ k. Limit.ACTIONS) m.blocks (λ k. f.few_actions)) (λ k. omega arith) 0

  named_rounds : (x : Frame) (xs : List Frame) → named_there m x xs ≡ true → x.rounds < Word.ROUNDS
  named_rounds x [] c = let e = eqb-true x.rounds 1 (and-true (any (eqb x.block) m.classes) _ c).1 in omega arith
  named_rounds x (g ∷ gs) c = go (get_elem? (block m g.block) g.at) refl c
    where
      go : (o : Option Action) → get_elem? (block m g.block) g.at ≡ o → enters_at o x.block x.rounds ≡ true
          → x.rounds < Word.ROUNDS
      go none e t = no_way t
      go (some a) e t =
          let u = all_at FewRounds (block m g.block) g.at a (r g.block) e in
          let v = enters_rounds a x.block x.rounds t in
          omega arith

  frames_sized : (xs : List Frame) → chained m xs ≡ true → AllOf FrameSized xs
  frames_sized [] c = tt
  frames_sized (x ∷ xs) c =
      let a = and-true (leb x.at (length (block m x.block))) _ c in
      let b = and-true (named_there m x xs) _ a.1 in
      let l = leb-true x.at (length (block m x.block)) a.0 in
      let d = (chain_depth m n x xs c).1 in (
        record {
          block_low = omega (arith, f.few_blocks);
          at_low = omega (arith, block_short x.block);
          rounds_low = named_rounds x xs b.0;
        },
        frames_sized xs b.1,
      )

  module _ (s : State) {z y : ℕ → ℕ} (h : Held m s s.blocked z y) where
    -- Who is listed lives, and so is in one of the 64 places. Every place has a priority in range: a free one has 0.
    abbrev lives : ℕ → ℕ
    lives k = al (get_or s.processes k nobody).frames

    listed_low : (p : ℕ) → once p p ≤ lives p → p < No.places
    listed_low p l =
        let a = alive_in s.processes p (let b = once_self p in omega arith) in let c = h.places_64 in omega arith

    priority_fits : (p : ℕ) → I32 (get_or s.processes p nobody).priority
    priority_fits p =
        free_or_fine _ (proc_at h p) (λ d v. rw v.no_priority (omega arith)) (λ d g. g.prio_high)

    -- LISTS OF WAITERS.
    waiters_sized : (ws : List Waiter) → length ws ≤ Row.WAITERS_MOST → AllOf (Tied s.processes) ws
        → ((k : ℕ) → waits k ws ≤ lives k) → WaitersSized ws
    waiters_sized ws l t c =
        record {
          few = l;
          each =
              all_map _ WaiterSized
              (λ w b.
              let p : ℕ = w.place in
              record { priority_ok = rw b.0 (priority_fits p); place_low = listed_low p (b.1 p) })
              ws (all_both _ _ ws t (over_parts (λ k w. once k w.place) lives ws c));
        }

    waiting_sized : AllOf WaitersSized s.waiting
    waiting_sized =
        let few = over_parts (λ k. length) (λ k. Row.WAITERS_MOST) s.waiting (λ k. (lists_fit m s h).waiting_fit) in
        let listed = over_parts waits lives s.waiting (λ k. let a = h.in_one k in omega arith) in
        all_map _ WaitersSized (λ ws b. waiters_sized ws (b.1.1 0) b.0 b.1.0) s.waiting
        (all_both _ _ s.waiting h.waiting_tied (all_both _ _ s.waiting listed few))

    -- THE EVENT LIST.
    notice_sized : (x : ℤ) (e : Notice) → NoticeOk m s.last s.processes x e → ((k : ℕ) → noticed k e ≤ lives k)
        → I32 x × NoticeSized e
    notice_sized x (wakes p) t c = (rw t (priority_fits p), listed_low p (c p))
    notice_sized x (returns_r i a g) t c =
        (rw t.is_low (omega arith), (omega (arith, f.few_totals), (t.amount_ok.high, omega (arith, h.last_ok))))
    notice_sized x (returns_b i a g) t c =
        (rw t.is_low (omega arith), (omega (arith, f.few_amounts), (t.amount_ok.high, omega (arith, h.last_ok))))

    events_sized : AllOf EventSized s.events
    events_sized =
        all_map _ EventSized
        (λ e b.
        let a = notice_sized e.priority e.notice b.0.tells b.1 in
        record { time_low = b.0.not_late; priority_ok = a.0; notice_ok = a.1 })
        s.events
        (all_both _ _ s.events h.events_ok
        (over_parts (λ k e. noticed k e.notice) lives s.events (λ k. let a = h.in_one k in omega arith)))

    -- PROCESSES.
    total_low : (i : ℕ) → get_or m.totals i 0 ≤ Limit.AMOUNT
    total_low i = all_get (λ t. t ≤ Limit.AMOUNT) m.totals i 0 f.totals_fit (omega arith)

    slaves_sized : (xs : List Slave) → AllOf (λ x. x.of < m.syncs) xs → ((k : ℕ) → slaved k xs ≤ lives k)
        → AllOf SlaveSized xs
    slaves_sized xs o c =
        all_map _ SlaveSized
        (λ x b.
        let p : ℕ = x.place in
        let a = b.0 in
        record { of_low = omega (arith, f.few_syncs); place_low = listed_low p (b.1 p) })
        xs (all_both _ _ xs o (over_parts (λ k x. once k x.place) lives xs c))

    process_sized : (q : Process) → ProcOk m s.last q → length q.slaves ≤ No.places
        → ((k : ℕ) → slaved k q.slaves ≤ lives k) → ((i : ℕ) → get_or q.held i 0 ≤ get_or m.totals i 0)
        → ProcessSized q
    process_sized q o few c low =
        free_or_fine (ProcessSized q) o (λ d v. vacant_sized q (al_none q.frames d) v) (λ d g. living g)
      where
        living : Fine m s.last q → ProcessSized q
        living g =
            record {
              number_low = omega (arith, h.last_ok, g.is_given);
              priority_ok = g.prio_high;
              locals_few = omega (arith, g.locals_many);
              locals_ok = g.locals_ok;
              held_few = omega (arith, g.held_many, f.few_totals);
              held_low = all_indices (λ t. t ≤ Limit.AMOUNT) 0 q.held (λ i. let a = low i in omega (arith, total_low i));
              frames_few = eight_blocks m n q.frames g.frames_ok;
              frames_ok = frames_sized q.frames g.frames_ok;
              slaves_few = few;
              slaves_ok = slaves_sized q.slaves g.slaves_ok c;
            }

    processes_sized : AllOf ProcessSized s.processes
    processes_sized =
        let ps : List Process = s.processes in
        let few = over_parts (λ k q. length q.slaves) (λ k. No.places) ps (λ k. (lists_fit m s h).slaves_fit) in
        let listed = over_parts (λ k q. slaved k q.slaves) lives ps (λ k. let a = h.in_one k in omega arith) in
        let low =
        over_parts (λ i q. get_or q.held i 0) (λ i. get_or m.totals i 0) ps (λ i. let a = h.adds_up i in omega arith) in
        all_map _ ProcessSized (λ q b. process_sized q b.0 (b.1.0 0) b.1.1.0 b.1.1.1) ps
        (all_both _ _ ps h.procs_ok (all_both _ _ ps few (all_both _ _ ps listed low)))

    -- THE STATE, whatever is in hand.
    free_low : (i : ℕ) → get_or s.free i 0 ≤ Limit.AMOUNT
    free_low i = let a = h.adds_up i in let b = total_low i in omega arith

    pub held_sized : FloorSized s.floor → Sized s
    held_sized o =
        let fits = lists_fit m s h in
        record {
          clock_low = h.clock_ok;
          last_low = h.last_ok;
          floor_ok = o;
          free_few = omega (arith, h.frees_many, f.few_totals);
          free_low = all_indices (λ t. t ≤ Limit.AMOUNT) 0 s.free free_low;
          bins_few = omega (arith, h.bins_many, f.few_amounts);
          bins_low = h.bins_ok;
          globals_few = omega (arith, h.vars_many, f.few_vars);
          globals_ok = h.globals_ok;
          syncs_few = omega (arith, h.syncs_many, f.few_syncs);
          waiting_ok = waiting_sized;
          blocked_ok =
              waiters_sized s.blocked fits.blocked_fit h.blocked_tied (λ k. let a = h.in_one k in omega arith);
          events_few = fits.events_fit;
          events_ok = events_sized;
          places_64 = h.places_64;
          processes_ok = processes_sized;
          seeds_few = omega (arith, h.seeds_ok.many, f.few_samplers);
          seeds_ok = h.seeds_ok.each;
        }

  -- BETWEEN STEPS who has the floor lives.
  pub sound_sized : (s : State) → Sound m s → Sized s
  sound_sized s h = held_sized s h (by s.floor refl)
    where
      by : (o : Floor) → s.floor ≡ o → FloorSized o
      by empty e = tt
      by (held_by p) e =
          let a = hand_in h p (let b = ap (on_floor p) e in let c = once_self p in omega arith) in
          let d = h.places_64 in
          omega arith

-- A FILE OF BYTES makes a model of few rounds: a DO's are a u16.
abbrev pub IsByte : ℕ → Type 0
IsByte b = b < Byte.ONE

abbrev BodyBytes : Raw → Type 0
BodyBytes (raw at k bs) = AllOf IsByte bs
BodyBytes (torn at) = Unit {0}

cut_bytes : (n at : ℕ) (bs : List ℕ) → AllOf IsByte bs → AllOf BodyBytes (cut n at bs)
unfolding cut
cut_bytes zero at bs h = tt
cut_bytes (suc n) at bs h =
    if_has (AllOf BodyBytes) (eqb (length bs) 0) (λ e. tt)
    (λ e.
    if_has (AllOf BodyBytes) (whole bs)
    (λ w. (
      all_take IsByte (spans bs - 4) (drop 4 bs) (all_drop IsByte 4 bs h),
      cut_bytes n (at + spans bs) (drop (spans bs) bs) (all_drop IsByte (spans bs) bs h),
    ))
    (λ w. (tt, tt)))

abbrev EntryRounds : Entry → Type 0
EntryRounds (RES n) = Unit {0}
EntryRounds (BIN n) = Unit {0}
EntryRounds SYNC = Unit {0}
EntryRounds (VAR v) = Unit {0}
EntryRounds (CLASS b) = Unit {0}
EntryRounds BLOCK = Unit {0}
EntryRounds (ENTITY x) = Unit {0}
EntryRounds (SAMPLER x) = Unit {0}
EntryRounds (ACTION a) = FewRounds a

u16_low : (bs : List ℕ) (k : ℕ) → AllOf IsByte bs → u16 bs k < Byte.TWO
u16_low bs k h =
    let a = all_get IsByte bs k 0 h (omega arith) in
    let b = all_get IsByte bs (k + 1) 0 h (omega arith) in
    omega arith

row_rounds : (k : ℕ) (bs : List ℕ) → AllOf IsByte bs → EntryRounds ((row_of k).says bs)
unfolding row_of
row_rounds k bs h = go table (let a = u16_low bs 0 h in omega arith)
  where
    go : (rs : List Row) → AllOf (λ r. EntryRounds (r.says bs)) rs → EntryRounds ((row_in rs k).says bs)
    go [] a = tt
    go (r ∷ rs) a = if_has (λ (x : Row). EntryRounds (x.says bs)) (eqb k r.kind) (λ e. a.0) (λ e. go rs a.1)

abbrev GatheredRounds : Gathered → Type 0
GatheredRounds g = AllOf FewRounds g.loose × AllOf (AllOf FewRounds) g.model.blocks

adds_rounds : (g : Gathered) (e : Entry) → EntryRounds e → GatheredRounds g → GatheredRounds (adds g e)
adds_rounds g (RES n) a h = h
adds_rounds g (BIN n) a h = h
adds_rounds g SYNC a h = h
adds_rounds g (VAR v) a h = h
adds_rounds g (CLASS b) a h = h
adds_rounds g BLOCK a h = (tt, h)
adds_rounds g (ENTITY x) a h = h
adds_rounds g (SAMPLER x) a h = h
adds_rounds g (ACTION x) a h = ((a, h.0), h.1)

gather_rounds : (rs : List Raw) → AllOf BodyBytes rs → GatheredRounds (gather rs)
unfolding gather
gather_rounds [] h = (tt, tt)
gather_rounds (torn at ∷ rs) h = gather_rounds rs h.1
gather_rounds (raw at k bs ∷ rs) h =
    adds_rounds (gather rs) ((row_of k).says bs) (row_rounds k bs h.0) (gather_rounds rs h.1)

pub accepted_rounds : (bs : List ℕ) (m : Model) → AllOf IsByte bs → decode bs ≡ accepted m → Rounds m
unfolding records_from
accepted_rounds bs m h e =
    let g : Gathered = gather (records_from 0 bs) in
    let r = gather_rounds (records_from 0 bs) (cut_bytes (length bs) 0 bs h) in
    subst Rounds (accepted_by bs m e).1 (λ b. all_get (AllOf FewRounds) g.model.blocks b [] r.1 tt)
