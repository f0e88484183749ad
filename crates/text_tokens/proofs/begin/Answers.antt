-- `text_tokens::begin` meets its contract: what is told from `at` on is told from each byte on that is passed. Assumes nothing.
use mathlib.Core.Path.{◌≡◌, refl, sym, ◌∙◌}
use native.Mathlib.Omega.{arith}
use lib.ListN.{length}
use Rattle.text_tokens.specs.Parts.{Begins}
use Rattle.text_tokens.proofs.Turns.{passing_on, passing_stops, passing_ends}
use Rattle.text_tokens.proofs.begin.Goals as goal

pub loop-i-init : goal.loop-i-init
loop-i-init c = record { from = omega arith; within = c.requires; tokens = refl }

pub returns-then-not-passed : goal.returns-then-not-passed
returns-then-not-passed c = let l = c.loop-i in
    passing_stops l.invariant (sym c.passed.ensures ∙ c.if-not-passed.true)

pub loop-i-preserved : goal.loop-i-preserved
loop-i-preserved c = let l = c.loop-i in
    rw c.commented-comment.ensures (passing_on l.invariant c.loop-i-test.true
    (sym c.passed.ensures ∙ c.if-not-passed.false))

pub returns : goal.returns
returns c = let l = c.loop-i in
    let all : l.i ≡ length c.args.text.now = omega (arith, l.invariant.within) in
    let ends : Begins c.args.text.now c.args.at l.i = passing_ends l.invariant (omega arith) in
    rw all at ends
