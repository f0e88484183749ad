-- `text_tokens::word_at` meets its contract: what is told of the word so far. Assumes nothing.
use mathlib.Core.Path.{◌≡◌, sym, ◌∙◌, ap}
use native.Mathlib.Omega.{arith}
use lib.ListN.{length, get_or-eq_default}
use Rattle.text_semantics.specs.Lexing.{is_word}
use Rattle.text_tokens.specs.Parts.{WordAt}
use Rattle.text_tokens.specs.Tests.{word_byte}
use Rattle.text_tokens.proofs.Turns.{run_begins, runs_on, run_stops}
use Rattle.text_tokens.proofs.word_at.Goals as goal

pub loop-end-init : goal.loop-end-init
loop-end-init c = run_begins _ _ c.requires

pub returns-then-not-is_word : goal.returns-then-not-is_word
returns-then-not-is_word c = let l = c.loop-end in
    run_stops l.invariant (sym c.is_word.ensures ∙ c.if-not-is_word.true)

pub grown-value-requires : goal.grown-value-requires
grown-value-requires c = (word_byte _ (sym c.is_word.ensures ∙ c.if-not-is_word.false)).0

pub loop-end-preserved : goal.loop-end-preserved
loop-end-preserved c = let l = c.loop-end in
    rw (c.is_digit-digits.ensures, c.grown-value.ensures)
    (runs_on l.invariant c.loop-end-test.true
    (sym c.is_word.ensures ∙ c.if-not-is_word.false))

pub returns : goal.returns
returns c = let l = c.loop-end in
    let all : l.end ≡ length c.args.text.now = omega (arith, l.invariant.within) in
    let stops : WordAt c.args.text.now c.args.at (record { end = l.end; digits = l.digits; value = l.value })
    = run_stops l.invariant (ap is_word (get_or-eq_default c.args.text.now 0 (omega arith))) in
    rw all at stops
