-- A token stops the reader, or is the last one, or the next one comes. Assumes nothing.
use Rattle.std.proofs.lemmas.Result.{err_from_is_err_and}
use Rattle.text_reader.specs.Going.{reads_stopped, reads_over, reads_on}
use Rattle.text_reader.proofs.Reader.all_tokens.Goals as goal

pub returns-in_err-turn : goal.returns-in_err-turn
returns-in_err-turn c =
    let p = err_from_is_err_and c.from_residual.result c.from_residual.ensures.1 in
    rw (p.1, p.2) (reads_stopped c.tokens.invariant c.next-token.ensures c.in_err-turn.ensures)

pub returns-then-token-eq-END : goal.returns-then-token-eq-END
returns-then-token-eq-END c =
    reads_over c.tokens.invariant c.next-token.ensures c.in_ok-turn.ensures c.if-token-eq-END.true

pub tokens-preserved : goal.tokens-preserved
tokens-preserved c = reads_on c.tokens.invariant c.next-token.ensures c.in_ok-turn.ensures c.if-token-eq-END.false
