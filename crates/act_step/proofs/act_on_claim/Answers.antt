-- `act_step::act_on_claim` meets its contract: the kind tells the action, the map its number. Assumes nothing.
use mathlib.Core.Path.{◌≡◌}
use native.Mathlib.Omega.{arith}
use Rattle.semantics.specs.Model.{REQ, TRY, WHILE, START, TRACE, CLOSE}
use Rattle.act_floor.specs.Running.{on}
use Rattle.act_step.proofs.Acts.{req_is, try_is, while_is, start_is, trace_is, close_is}
use Rattle.act_step.proofs.Meeting.{kind_in, known, stands_at, done, trace_told, start_told, req_told}
use Rattle.act_step.proofs.Meeting.{try_told, while_told}
use Rattle.act_step.proofs.act_on_claim.Goals as goal

pub request-requires : goal.request-requires
request-requires c = record {
  requesting = req_told c.requires.meets_at c.if-kind-eq-REQ.true;
  roomy = c.requires.le_kind.1;
}

pub returns-then-kind-eq-REQ : goal.returns-then-kind-eq-REQ
returns-then-kind-eq-REQ c = λ v.
    let e = c.if-kind-eq-REQ.true in
    let x = known v.meets 25 e in
    done v.meets (REQ x.0) x.1 _ (req_is _ _ _ _) _ _ _ _ _ _ (c.request.ensures (req_told v e))

pub request-requires-then-kind-eq-TRY : goal.request-requires-then-kind-eq-TRY
request-requires-then-kind-eq-TRY c = record {
  requesting = try_told c.requires.meets_at c.if-kind-eq-TRY.true;
  roomy = c.requires.le_kind.1;
}

pub returns-then-kind-eq-TRY : goal.returns-then-kind-eq-TRY
returns-then-kind-eq-TRY c = λ v.
    let e = c.if-kind-eq-TRY.true in
    let x = known v.meets 26 e in
    done v.meets (TRY x.0) x.1 _ (try_is _ _ _ _) _ _ _ _ _ _ (c.request-then-kind-eq-TRY.ensures (try_told v e))

pub pass_or_enter-requires : goal.pass_or_enter-requires
pass_or_enter-requires c = record {
  looping = while_told c.requires.meets_at c.if-kind-eq-WHILE.true;
  roomy = c.requires.le_kind.1;
}

pub returns-then-kind-eq-WHILE : goal.returns-then-kind-eq-WHILE
returns-then-kind-eq-WHILE c = λ v.
    let e = c.if-kind-eq-WHILE.true in
    let x = known v.meets 27 e in
    done v.meets (WHILE x.0 x.1) x.2 _ (while_is _ _ _ _ _) _ _ _ _ _ _
    (c.pass_or_enter.ensures (while_told v e))

pub start-requires : goal.start-requires
start-requires c = record {
  starting = start_told c.requires.meets_at.meets c.if-kind-eq-START.true;
  roomy = c.requires.le_kind.1;
}

pub returns-then-kind-eq-START : goal.returns-then-kind-eq-START
returns-then-kind-eq-START c = λ v.
    let e = c.if-kind-eq-START.true in
    let x = known v.meets 28 e in
    done v.meets (START x.0 x.1 x.2) x.3 _ (start_is _ _ _ _ _ _) _ _ _ _ _ _
    (c.start.ensures (start_told v.meets e))

pub trace-requires : goal.trace-requires
trace-requires c = record {
  given = trace_told c.requires.meets_at.meets c.if-kind-eq-TRACE.true;
  roomy = c.requires.le_kind.1;
}

pub returns-then-kind-eq-TRACE : goal.returns-then-kind-eq-TRACE
returns-then-kind-eq-TRACE c = λ v.
    let e = c.if-kind-eq-TRACE.true in
    let x = known v.meets 29 e in
    done v.meets (TRACE x.0) x.1 _ (trace_is _ _ _ _) _ _ _ _ _ _ (c.trace.ensures (trace_told v.meets e))

pub close-requires : goal.close-requires
close-requires c = let e : c.args.kind ≡ 30 = omega (
  arith,
  kind_in c.requires.meets_at.meets,
  c.requires.le_kind.0,
  c.if-kind-eq-REQ.false,
  c.if-kind-eq-TRY.false,
  c.if-kind-eq-WHILE.false,
  c.if-kind-eq-START.false,
  c.if-kind-eq-TRACE.false,
) in record {
  on = on (stands_at c.requires.meets_at.meets CLOSE (known c.requires.meets_at.meets 30 e));
  roomy = c.requires.le_kind.1;
}

pub returns : goal.returns
returns c = λ v.
    let r = c.requires.le_kind.0 in
    let e : c.args.kind ≡ 30 = omega (
      arith,
      kind_in v.meets,
      r,
      c.if-kind-eq-REQ.false,
      c.if-kind-eq-TRY.false,
      c.if-kind-eq-WHILE.false,
      c.if-kind-eq-START.false,
      c.if-kind-eq-TRACE.false,
    ) in
    let x = known v.meets 30 e in
    done v.meets CLOSE x _ (close_is _ _ _) _ _ _ _ _ _ (c.close.ensures (on (stands_at v.meets CLOSE x)))
