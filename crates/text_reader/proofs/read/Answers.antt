-- What is answered is what is to be answered. Assumes nothing.
use Rattle.std.proofs.lemmas.Result.{err_from_is_err_and}
use Rattle.text_reader.specs.First.{reads_first}
use Rattle.text_reader.specs.End.{closes}
use Rattle.text_reader.proofs.End.{answers_text, stopped_text}
use Rattle.text_reader.proofs.read.Goals as goal

pub all_tokens-requires : goal.all_tokens-requires
all_tokens-requires c = reads_first c.args.text.now c.new-reader.ensures

pub returns-in_err-all_tokens : goal.returns-in_err-all_tokens
returns-in_err-all_tokens c =
    let p = err_from_is_err_and c.from_residual.result c.from_residual.ensures.1 in
    let s = stopped_text c.args.text.now {out = c.args.out.now} c.in_err-all_tokens.ensures in
    record { value = rw (p.1, p.2) s.answer; out_after = s.bytes }

pub answer-requires : goal.answer-requires
answer-requires c = closes c.in_ok-all_tokens.ensures

pub returns : goal.returns
returns c =
    let s = answers_text c.in_ok-all_tokens.ensures c.answer.ensures in
    record { value = s.answer; out_after = s.bytes }
