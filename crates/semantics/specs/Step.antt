-- One step (document 01, "One step"): the next state with the journal lines of the step, or the number of a fault.
-- Each action tests for its faults in ascending number, before it changes anything; so the lowest that applies is given.
-- Assumes nothing.
use Prim.Native.Nat.{ℕ, zero, suc, ◌+◌, ◌-◌}
use mathlib.Core.List.{List, [], ◌∷◌, map}
use Rattle.std.specs.Prelude.{Bool, true, false, ◌&&◌, length, get_or, set, pos, if◌then◌else◌}
use Rattle.std.proofs.Math.Option.{none, some}
use Rattle.std.proofs.Math.Dec.{eqb, leb, ltb}
use Rattle.std.proofs.Math.IntN.{nat_abs}
use Rattle.std.specs.Int.Signed.{le_z, non_neg}
use Rattle.semantics.specs.Words.{Outcome, ok, fails, ◌>>=◌, ◌>>◌, need, all, keep, is_empty, more, fewer}
use Rattle.semantics.specs.Numbers as No
use Rattle.semantics.specs.Kinds as K
use Rattle.semantics.specs.Model.{Expr, Share, Model, Action, HOLD, PRIO, TRACE, SET, LSET, DO, PUTR, PUTB, PUTS, BECOME}
use Rattle.semantics.specs.Model.{REQ, TRY, WHILE, START, CLOSE, kind_of}
use Rattle.semantics.specs.State.{State, Process, Frame, Slave, Waiter, Event, empty, held_by, Notice, wakes, returns_r}
use Rattle.semantics.specs.State.{returns_b, nobody, process, put, at_clock, now_closed, with_globals, with_free}
use Rattle.semantics.specs.State.{with_bins, with_waiting, with_floor, with_events, with_blocked, with_seeds}
use Rattle.semantics.specs.State.{with_priority, with_locals, with_held, with_slaves, with_frames, enter, wake, join}
use Rattle.semantics.specs.State.{onward, past, into, begin, living}
use Rattle.semantics.specs.Value.{Valued, eval}
use Rattle.semantics.specs.Claim.{offers, stands_in, waits, goes, choice, reason_said, grant}
use Rattle.semantics.specs.Walk.{Next, line, quiet, after, walk}

abbrev pub is_return : Event → Bool
is_return e = elim e.notice [ wakes p ↦ false | returns_r i n g ↦ true | returns_b i n g ↦ true ]

-- What a START hands over, added to what the new process holds and taken from what the giver holds.
unfoldable pub handed : List Share → List ℕ → List ℕ
handed [] l = l
handed (x ∷ xs) l = handed xs (more l x.of x.amount)

unfoldable pub kept : List Share → List ℕ → List ℕ
kept [] l = l
kept (x ∷ xs) l = kept xs (fewer l x.of x.amount)

-- The first n slaves of sync i in the order claimed, and those that stay. There are n of them (OWNED): the clauses where the
-- list ends first aren't reached.
unfoldable pub freed : ℕ → ℕ → List Slave → List ℕ
freed i zero xs = []
freed i (suc n) [] = []
freed i (suc n) (x ∷ xs) = elim (eqb x.of i) [ true ↦ x.place ∷ freed i n xs | false ↦ freed i (suc n) xs ]

unfoldable pub stay : ℕ → ℕ → List Slave → List Slave
stay i zero xs = xs
stay i (suc n) [] = []
stay i (suc n) (x ∷ xs) = elim (eqb x.of i) [ true ↦ stay i n xs | false ↦ x ∷ stay i (suc n) xs ]

-- Each of them enters the event list now.
unfoldable pub free_all : ℕ → List ℕ → State → Next
unfolding wake
free_all i [] s = quiet s
free_all i (r ∷ rs) s = after (line s (process s r).number No.slave_freed (pos i)) (free_all i rs (wake s.clock r s))

-- A block that is left: the process goes past the action that named it, but meets a WHILE again.
abbrev pub comes_back : Action → Bool
comes_back a = eqb (kind_of a) K.WHILE

-- `none` isn't reached in a sound run, where the inner block is named where the outer one stands (`named_there`).
abbrev pub leave : Model → List Frame → List Frame
leave m fs = elim (stands_in m fs) [ none ↦ fs | some a ↦ if comes_back a then fs else onward fs ]

-- WHAT THE PROCESS q in place p, which has the floor, does. `on r`: it goes on as r and keeps the floor; `off r`: it loses it.
module _ (m : Model) (s : State) (p : ℕ) where
  abbrev q : Process
  q = process s p

  abbrev on : Process → State
  on r = put p r s

  abbrev off : Process → State
  off r = with_floor (on r) empty

  -- An expression is worked out from the seeds as they are; `drew v t` is t with the seeds as v's draws leave them.
  abbrev worth : Expr → Outcome Valued
  worth e = eval m s q e s.seeds

  abbrev drew : Valued → State → State
  drew v t = with_seeds t v.seeds

  -- Leaving the class body ends the process, which has no resource held above 0 and no slave.
  unfoldable pub ends : Outcome Next
  ends = do
    need No.OWING (all (λ n. eqb n 0) q.held && is_empty q.slaves)
    ok (after (line s q.number No.ended (pos 0)) (quiet (off nobody)))

  -- Innermost block exhausted: one round less; go round again, or leave the block. One in no block doesn't have the floor in a
  -- sound run: 20 isn't reached (promises' `step_faults`).
  unfoldable pub exhausted : List Frame → Outcome Next
  unfolding ends onward
  exhausted [] = fails No.STATE
  exhausted (f ∷ fs) =
      if ltb 1 f.rounds
      then ok (quiet (on (with_frames q (record { block = f.block; at = 0; rounds = f.rounds - 1 } ∷ fs))))
      else if is_empty fs then ends else ok (quiet (on (with_frames q (leave m fs))))

  -- HOLD e: enter the list at clock + e; floor lost.
  unfoldable pub hold : Expr → Outcome Next
  unfolding eval wake past
  hold e = do
    v ← worth e
    need No.BACK (non_neg v.value)
    need No.LATE (leb (s.clock + nat_abs v.value) No.latest)
    ok (quiet (wake (s.clock + nat_abs v.value) p (drew v (off (past q)))))

  -- PRIO e: priority e, but never below -10,000.
  unfoldable pub prio : Expr → Outcome Next
  unfolding eval past
  prio e = do
    v ← worth e
    ok (quiet (drew v (on (past (with_priority q (if le_z No.lowest v.value then v.value else No.lowest))))))

  -- SET, LSET; SET then walks.
  unfoldable pub set_global : ℕ → Expr → Outcome Next
  unfolding eval past walk
  set_global i e = do
    v ← worth e
    ok (walk m (with_globals (drew v (on (past q))) (set s.globals i v.value)))

  unfoldable pub set_local : ℕ → Expr → Outcome Next
  unfolding eval past
  set_local i e = do
    v ← worth e
    ok (quiet (drew v (on (past (with_locals q (set q.locals i v.value))))))

  -- DO 0 passes on; DO n enters the block for n rounds.
  unfoldable pub do_times : ℕ → ℕ → Outcome Next
  unfolding past into
  do_times zero b = ok (quiet (on (past q)))
  do_times (suc n) b = ok (quiet (on (into (suc n) b q)))

  -- PUTR, PUTB: both enter a return notice at this time; PUTR takes the amount from the holder.
  unfoldable pub notify : Notice → Process → Outcome Next
  unfolding past enter
  notify n r = do
    need No.NOTICES (ltb (length (keep is_return s.events)) No.returns)
    ok (quiet (with_events (on (past r)) (enter (record { time = s.clock; priority = No.of_returns; notice = n }) s.events)))

  unfoldable pub putr : ℕ → ℕ → Outcome Next
  unfolding notify
  putr i n = do
    need No.HELD (leb n (get_or q.held i 0))
    notify (returns_r i n q.number) (with_held q (fewer q.held i n))

  unfoldable pub putb : ℕ → ℕ → Outcome Next
  unfolding notify
  putb i n = notify (returns_b i n q.number) q

  -- BECOME: join the sync's waiting list; floor lost; walk.
  unfoldable pub become : ℕ → Outcome Next
  unfolding past join walk
  become i =
      let t : State = off (past q) in
      ok (after (line s q.number No.waiting_as_slave (pos i))
      (walk m (with_waiting t (set t.waiting i (join t p (get_or t.waiting i []))))))

  -- PUTS n: the first n owned slaves of that sync enter the event list now.
  unfoldable pub puts : ℕ → ℕ → Outcome Next
  unfolding freed stay free_all past
  puts i n = do
    need No.OWNED (leb n (length (keep (λ x. eqb x.of i) q.slaves)))
    ok (free_all i (freed i n q.slaves) (on (past (with_slaves q (stay i n q.slaves)))))

  -- START: hand over, and enter the new process at clock + offset.
  unfoldable pub start : ℕ → ℕ → List Share → Outcome Next
  unfolding begin past handed kept
  start c t h = do
    need No.LATE (leb (s.clock + t) No.latest)
    need No.HELD (all (λ x. leb x.amount (get_or q.held x.of 0)) h)
    need No.FULL (ltb (living s) No.places && ltb s.last No.last_number)
    ok (after (line s (s.last + 1) No.started (pos c))
        (quiet (begin m c (s.clock + t) (handed h (map (λ x. 0) q.held)) (on (past (with_held q (kept h q.held)))))))

  -- On the floor one is barred by any blocked process of equal or higher priority.
  abbrev pub in_front : List Waiter
  in_front = keep (λ w. le_z q.priority w.priority) s.blocked

  -- REQ, TRY: take the first branch that can be met, or join the blocked list and say why; floor lost.
  unfoldable pub request : Action → Outcome Next
  unfolding choice grant join
  request a =
      elim (choice m s in_front (offers a)) [
        | waits r ↦
            ok (after (line s q.number No.blocked (reason_said r))
            (quiet (with_blocked (with_floor s empty) (join s p s.blocked))))
        | goes i o ↦ ok (after (line s q.number No.granted (pos i)) (quiet (grant p o s)))
      ]

  -- WHILE: take it and enter the block for one round, or pass on.
  unfoldable pub while : Action → Outcome Next
  unfolding choice grant past
  while a =
      elim (choice m s in_front (offers a)) [
        | waits r ↦ ok (quiet (on (past q)))
        | goes i o ↦ ok (after (line s q.number No.granted (pos i)) (quiet (grant p o s)))
      ]

  -- TRACE writes its value. CLOSE closes.
  unfoldable pub trace : Expr → Outcome Next
  unfolding eval past
  trace e = do
    v ← worth e
    ok (after (line s q.number No.traced v.value) (quiet (drew v (on (past q)))))

  unfoldable pub close : Outcome Next
  unfolding past
  close = ok (after (line s q.number No.closed (pos 0)) (quiet (now_closed (on (past q)))))

  unfoldable pub act : Action → Outcome Next
  unfolding hold prio set_global set_local do_times putr putb become puts start request while trace close
  act (HOLD e) = hold e
  act (PRIO e) = prio e
  act (TRACE e) = trace e
  act (SET i e) = set_global i e
  act (LSET i e) = set_local i e
  act (DO n b) = do_times n b
  act (PUTR i n) = putr i n
  act (PUTB i n) = putb i n
  act (PUTS i n) = puts i n
  act (BECOME i) = become i
  act (REQ c) = request (REQ c)
  act (TRY bs) = request (TRY bs)
  act (WHILE b c) = while (WHILE b c)
  act (START c t h) = start c t h
  act CLOSE = close

-- The process in place p has the floor and does one thing.
unfoldable pub moves : Model → State → ℕ → Outcome Next
unfolding act exhausted
moves m s p =
    elim (stands_in m (process s p).frames)
    [ none ↦ exhausted m s p (process s p).frames | some a ↦ act m s p a ]

-- A return notice, when first, adds the amount, walks and is gone.
unfoldable pub occurs : Model → State → Notice → Outcome Next
unfolding moves walk
occurs m s (wakes p) = moves m (with_floor s (held_by p)) p
occurs m s (returns_r i n g) =
    ok (after (line s g No.resource_returned (pos i)) (walk m (with_free s (more s.free i n))))
occurs m s (returns_b i n g) = do
  need No.BIN (leb (get_or s.bins i 0 + n) No.full_bin)
  ok (after (line s g No.bin_returned (pos i)) (walk m (with_bins s (more s.bins i n))))

-- If nobody has the floor, the first of the event list takes it and the clock becomes its time. With an empty list the run
-- answers IDLE before it (`before`): 20 isn't reached (promises' `step_faults`).
unfoldable pub next : Model → State → List Event → Outcome Next
unfolding occurs
next m s [] = fails No.STATE
next m s (e ∷ es) = occurs m (with_events (at_clock s e.time) es) e.notice

unfoldable pub step : Model → State → Outcome Next
unfolding moves next ◌>>=◌ ◌>>◌ need
step m s = elim s.floor [ held_by p ↦ moves m s p | empty ↦ next m s s.events ]
