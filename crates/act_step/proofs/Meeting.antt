-- The record that a process meets, read by its kind: the action that it is, and what each handler asks of it. Assumes nothing.
use Prim.Native.Nat.{ℕ, ◌≤◌, ◌<◌}
use native.Mathlib.Omega.{arith}
use mathlib.Core.Path.{◌≡◌, refl, sym, ◌∙◌, ap, subst}
use mathlib.Core.List.{List}
use mathlib.Core.Bool.{true, false}
use mathlib.Core.Option.{some}
use lib.ListN.{length, drop}
use Rattle.semantics.specs.Words.{Outcome}
use Rattle.semantics.specs.Model.{Expr, Action, HOLD, PRIO, TRACE, SET, LSET, DO, PUTR, PUTB, PUTS, BECOME, REQ, TRY, WHILE}
use Rattle.semantics.specs.Model.{START, CLOSE, kind_of, Model}
use Rattle.semantics.specs.Bytes.{u16, u32}
use Rattle.semantics.specs.State.{State}
use Rattle.semantics.specs.Walk.{Next}
use Rattle.semantics.specs.Step.{act}
use Rattle.file_index.specs.Ties.{body_at}
use Rattle.file_actions.specs.Kinds.{OfKind}
use Rattle.file_actions.proofs.ByKind.{kind_of_lem, of_kind}
use Rattle.file_actions.specs.Bodies.{ReadsExpression, Says}
use Rattle.file_actions.proofs.Bodies.{told}
use Rattle.act_floor.specs.Acting.{Acting, Stepped, SteppedQuietly, quietly}
use Rattle.act_floor.specs.Running.{on}
use Rattle.act_hold_prio_lset_trace.specs.Given.{Given}
use Rattle.act_set_become.specs.Setting.{Setting}
use Rattle.act_req_try_while.specs.Asks.{Asked, passes, enters, Requesting, Looping}
use Rattle.act_puts_start.specs.Hands.{Starting}
use Rattle.act_step.specs.Steps.{Meets, MeetsAt, doing}

kinds : (x : Action) → (16 ≤ kind_of x) × (kind_of x ≤ 30)
kinds (HOLD e) = omega arith
kinds (PRIO e) = omega arith
kinds (TRACE e) = omega arith
kinds (SET i e) = omega arith
kinds (LSET i e) = omega arith
kinds (DO n b) = omega arith
kinds (PUTR i n) = omega arith
kinds (PUTB i n) = omega arith
kinds (PUTS i n) = omega arith
kinds (BECOME i) = omega arith
kinds (REQ c) = omega arith
kinds (TRY bs) = omega arith
kinds (WHILE b c) = omega arith
kinds (START c t h) = omega arith
kinds CLOSE = omega arith

module _ {body bs map w : List ℕ} {p k : ℕ} (v : Meets body bs map w p k) where
  abbrev m : Model
  m = v.acting.running.run.model

  abbrev s : State
  s = v.acting.running.run.is

  pub kind_in : (16 ≤ k) × (k ≤ 30)
  kind_in = let a = kinds v.action in let b = kind_of_lem v.here in omega (arith, v.kind_is)

  pub known : (n : ℕ) → k ≡ n → OfKind n v.action
  known n e = of_kind v.here n (sym v.kind_is ∙ e)

  module _ (x : Action) (is : v.action ≡ x) where
    pub said : Says body x
    said = rw v.body_is (subst (Says (body_at bs v.place)) is (told v.here))

    abbrev pub stands_at : Acting bs map w p x
    stands_at =
        record {
          running = v.acting.running;
          on_floor = v.acting.on_floor;
          stands = v.acting.stands ∙ ap some is;
        }

    -- What is made of x, and comes to o, is made of the action.
    module _ (o : Outcome Next) (made : act m s p x ≡ o) (f l : ℕ) (w' : List ℕ) (at : ℕ) (out : List ℕ) where
      pub done : (out' : List ℕ) → Stepped o f l w w' at out out' → Stepped (doing v) f l w w' at out out'
      done out' h =
          subst (λ y. Stepped y f l w w' at out out') (sym (ap (act m s p) is ∙ made)) h

      pub done_quietly : SteppedQuietly o f l w w' → Stepped (doing v) f l w w' at out out
      done_quietly h = done out (quietly o f l w w' at out h)

  -- WITH AN EXPRESSION. HOLD, PRIO, TRACE;
  abbrev told_of : (x : Expr → Action) (e : Expr) → v.action ≡ x e → ReadsExpression body e → Given body map w p x
  told_of x e is r =
      record {
        expression = e;
        reads = r;
        on = on (stands_at (x e) is);
        drawn = v.acting.running.mapped.draws;
      }

  abbrev pub hold_told : k ≡ 16 → Given body map w p HOLD
  hold_told e = let h = known 16 e in told_of HOLD h.0 h.1 (said (HOLD h.0) h.1)

  abbrev pub prio_told : k ≡ 17 → Given body map w p PRIO
  prio_told e = let h = known 17 e in told_of PRIO h.0 h.1 (said (PRIO h.0) h.1)

  abbrev pub trace_told : k ≡ 29 → Given body map w p TRACE
  trace_told e = let h = known 29 e in told_of TRACE h.0 h.1 (said (TRACE h.0) h.1)

  -- SET and LSET of variable or local i, the number with which the body begins.
  module _ {i : ℕ} (number : i ≡ u16 body 0) where
    pub is_set : k ≡ 18 → (e : Expr) × (v.action ≡ SET i e) × ReadsExpression (drop 2 body) e
    is_set e =
        let h = known 18 e in
        let b = said (SET h.0 h.1) h.2 in
        (h.1, h.2 ∙ ap (λ j. SET j h.1) (sym (number ∙ b.number_is)), b.rest)

    pub is_lset : k ≡ 19 → (e : Expr) × (v.action ≡ LSET i e) × ReadsExpression (drop 2 body) e
    is_lset e =
        let h = known 19 e in
        let b = said (LSET h.0 h.1) h.2 in
        (h.1, h.2 ∙ ap (λ j. LSET j h.1) (sym (number ∙ b.number_is)), b.rest)

    module _ {rest : List ℕ} (rest_is : rest ≡ drop 2 body) where
      abbrev pub set_told : k ≡ 18 → Setting rest bs map w p i
      set_told e =
          let h = is_set e in
          record { expression = h.0; reads = rw rest_is h.2; acting = stands_at (SET i h.0) h.1 }

      abbrev pub lset_told : k ≡ 19 → Given rest map w p (LSET i)
      lset_told e =
          let h = is_lset e in
          record {
            expression = h.0;
            reads = rw rest_is h.2;
            on = on (stands_at (LSET i h.0) h.1);
            drawn = v.acting.running.mapped.draws;
          }

  -- WITH NUMBERS.
  pub head_long : 18 ≤ k → k < 25 → 2 ≤ length body
  head_long a b =
      let e = kind_of_lem v.here in
      long_by v.action (said v.action refl) (omega (arith, v.kind_is)) (omega (arith, v.kind_is))
    where
      long_by : (x : Action) → Says body x → 18 ≤ kind_of x → kind_of x < 25 → 2 ≤ length body
      long_by (HOLD e) h a b = absurd (omega arith)
      long_by (PRIO e) h a b = absurd (omega arith)
      long_by (TRACE e) h a b = absurd (omega arith)
      long_by (SET i e) h a b = h.long
      long_by (LSET i e) h a b = h.long
      long_by (DO n c) h a b = omega (arith, h.long)
      long_by (PUTR i n) h a b = omega (arith, h.long)
      long_by (PUTB i n) h a b = omega (arith, h.long)
      long_by (PUTS i n) h a b = omega (arith, h.long)
      long_by (BECOME i) h a b = omega (arith, h.long)
      long_by (REQ c) h a b = absurd (omega arith)
      long_by (TRY l) h a b = absurd (omega arith)
      long_by (WHILE c d) h a b = absurd (omega arith)
      long_by (START c t d) h a b = absurd (omega arith)
      long_by CLOSE h a b = absurd (omega arith)

  pub do_long : k ≡ 20 → length body ≡ 4
  do_long e = let h = known 20 e in (said (DO h.0 h.1) h.2).long

  pub puts_long : k ≡ 23 → length body ≡ 4
  puts_long e = let h = known 23 e in (said (PUTS h.0 h.1) h.2).long

  pub amount_long : 20 < k → k < 23 → length body ≡ 6
  amount_long a b =
      let e = kind_of_lem v.here in
      long_by v.action (said v.action refl) (omega (arith, v.kind_is)) (omega (arith, v.kind_is))
    where
      long_by : (x : Action) → Says body x → 20 < kind_of x → kind_of x < 23 → length body ≡ 6
      long_by (HOLD e) h a b = absurd (omega arith)
      long_by (PRIO e) h a b = absurd (omega arith)
      long_by (TRACE e) h a b = absurd (omega arith)
      long_by (SET i e) h a b = absurd (omega arith)
      long_by (LSET i e) h a b = absurd (omega arith)
      long_by (DO n c) h a b = absurd (omega arith)
      long_by (PUTR i n) h a b = h.long
      long_by (PUTB i n) h a b = h.long
      long_by (PUTS i n) h a b = absurd (omega arith)
      long_by (BECOME i) h a b = absurd (omega arith)
      long_by (REQ c) h a b = absurd (omega arith)
      long_by (TRY l) h a b = absurd (omega arith)
      long_by (WHILE c d) h a b = absurd (omega arith)
      long_by (START c t d) h a b = absurd (omega arith)
      long_by CLOSE h a b = absurd (omega arith)

  module _ {i : ℕ} (number : i ≡ u16 body 0) where
    pub is_become : k ≡ 24 → v.action ≡ BECOME i
    is_become e =
        let h = known 24 e in h.1 ∙ ap BECOME (sym (number ∙ (said (BECOME h.0) h.1).number_is))

    module _ {n : ℕ} where
      pub is_do : n ≡ u16 body 2 → k ≡ 20 → v.action ≡ DO i n
      is_do second e =
          let h = known 20 e in
          let b = said (DO h.0 h.1) h.2 in
          h.2 ∙ ap (λ j. DO j h.1) (sym (number ∙ b.first_is)) ∙ ap (DO i) (sym (second ∙ b.second_is))

      pub is_puts : n ≡ u16 body 2 → k ≡ 23 → v.action ≡ PUTS i n
      is_puts second e =
          let h = known 23 e in
          let b = said (PUTS h.0 h.1) h.2 in
          h.2 ∙ ap (λ j. PUTS j h.1) (sym (number ∙ b.first_is)) ∙ ap (PUTS i) (sym (second ∙ b.second_is))

      pub is_putr : n ≡ u32 body 2 → k ≡ 21 → v.action ≡ PUTR i n
      is_putr amount e =
          let h = known 21 e in
          let b = said (PUTR h.0 h.1) h.2 in
          h.2 ∙ ap (λ j. PUTR j h.1) (sym (number ∙ b.number_is)) ∙ ap (PUTR i) (sym (amount ∙ b.amount_is))

      pub is_putb : n ≡ u32 body 2 → k ≡ 22 → v.action ≡ PUTB i n
      is_putb amount e =
          let h = known 22 e in
          let b = said (PUTB h.0 h.1) h.2 in
          h.2 ∙ ap (λ j. PUTB j h.1) (sym (number ∙ b.number_is)) ∙ ap (PUTB i) (sym (amount ∙ b.amount_is))

  abbrev pub start_told : k ≡ 28 → Starting body map w p
  start_told e =
      let h = known 28 e in
      record {
        file = bs;
        class = h.0;
        offset = h.1;
        shares = h.2;
        acting = stands_at (START h.0 h.1 h.2) h.3;
        says = said (START h.0 h.1 h.2) h.3;
      }

-- WITH CLAIMS: a is its number in the map.
module _ {body bs map w : List ℕ} {p k a : ℕ} (v : MeetsAt body bs map w p k a) where
  abbrev pub asked_at : (x : Action) → v.meets.action ≡ x → Asked bs map w p a x
  asked_at x is =
      record {
        acting = stands_at v.meets x is;
        inside = v.meets.inside;
        index = v.meets.index;
        there = v.meets.there ∙ ap some is;
        number_is = v.number_is;
      }

  abbrev pub req_told : k ≡ 25 → Requesting bs map w p a false
  req_told e =
      let h = known v.meets 25 e in
      record { action = REQ h.0; requests = passes; asked = asked_at (REQ h.0) h.1 }

  abbrev pub try_told : k ≡ 26 → Requesting bs map w p a true
  try_told e =
      let h = known v.meets 26 e in
      record { action = TRY h.0; requests = enters; asked = asked_at (TRY h.0) h.1 }

  abbrev pub while_told : k ≡ 27 → Looping bs map w p a
  while_told e =
      let h = known v.meets 27 e in
      record { looped = h.0; claim = h.1; asked = asked_at (WHILE h.0 h.1) h.2 }
