-- `text_tokens::find` meets its contract: what is found from k on is what is found from `from` on. Assumes nothing.
use mathlib.Core.Path.{◌≡◌, refl, sym, ◌∙◌, ap}
use native.Mathlib.Omega.{arith}
use Rattle.text_tokens.specs.Next.{part}
use Rattle.text_tokens.specs.Parts.{spellings, found}
use Rattle.text_tokens.specs.Tests.{part_none}
use Rattle.text_tokens.proofs.Turns.{finds, seeks}
use Rattle.text_tokens.proofs.find.Goals as goal

pub loop-k-init : goal.loop-k-init
loop-k-init c = (omega arith, c.requires.0, λ _. refl)

pub overflow_cast-result : goal.overflow_cast-result
overflow_cast-result c = record { fits = omega arith }

pub returns-then-key-spelling : goal.returns-then-key-spelling
returns-then-key-spelling c other = let l = c.loop-k in
    let e = c.if-key-spelling.true ∙ c.spelling.ensures in
    sym (finds c.args.key other l.k c.args.to c.loop-k-test.true c.requires.1 e) ∙ l.invariant.2 other

pub loop-k-preserved : goal.loop-k-preserved
loop-k-preserved c = let l = c.loop-k in (
  omega arith,
  omega arith,
  λ other. sym (seeks c.args.key other l.k c.args.to c.loop-k-test.true c.requires.1
      (λ q. c.if-key-spelling.false (q ∙ sym c.spelling.ensures))) ∙ l.invariant.2 other,
)

pub returns : goal.returns
returns c other = let l = c.loop-k in
    let a = c.args in
    let all : l.k ≡ a.to = omega arith in
    sym (ap (λ n. found n other (part n a.to spellings) a.key) all
    ∙ ap (λ ks. found a.to other ks a.key) (part_none spellings a.to)) ∙ l.invariant.2 other
