-- `file_claim::compare` meets its contract: by the thing that the item names, or by none. Assumes nothing.
use native.Mathlib.Omega.{arith}
use Rattle.file_claim.proofs.Turns.{of_thing, of_nothing}
use lib.ListN.{drop}
use Rattle.semantics.specs.Record.{claim_in}
use Rattle.file_claim.proofs.compare.Goals as goal

pub returns-then-kind-gt-GET_S : goal.returns-then-kind-gt-GET_S
returns-then-kind-gt-GET_S c = of_nothing (claim_in (drop c.args.q c.args.s.now)) (claim_in (drop c.args.b c.args.s.now)) c.args.i.now (omega (arith, c.if-kind-gt-GET_S.true, c.u8_at-kind.ensures.0))

pub returns : goal.returns
returns c = let u = c.u8_at-kind.ensures.0 in
    rw (c.amount_of-of.ensures, c.amount_of-by.ensures, u, c.u16_at-number.ensures.0)
    (of_thing (claim_in (drop c.args.q c.args.s.now)) (claim_in (drop c.args.b c.args.s.now)) c.args.i.now (omega (arith, c.if-kind-gt-GET_S.false, u)))
