-- Each way through the code is the machine's. Assumes nothing.
use Rattle.text_reader.specs.End.{answers_full, answers_lacking, answers_small, answers_written}
use Rattle.text_reader.proofs.Reader.answer.Goals as goal

pub returns-then-sheet : goal.returns-then-sheet
returns-then-sheet c = answers_full c.args.self.now c.args.bytes c.args.out.now (rw (← c.sheet.view_is) c.if-sheet.true)

pub returns-in-Some : goal.returns-in-Some
returns-in-Some c =
    answers_lacking c.args.self.now c.args.bytes c.args.out.now (rw (← c.sheet.view_is) c.if-sheet.false) c.in-Some.ensures
    c.class_line-line.ensures

pub returns-then-out-sheet : goal.returns-then-out-sheet
returns-then-out-sheet c =
    answers_small c.args.self.now c.args.bytes c.args.out.now (rw (← c.sheet.view_is) c.if-sheet.false) c.in_default.ensures
    (rw (← c.sheet.view_is) c.if-out-sheet.true)

pub returns : goal.returns
returns c =
    answers_written c.args.self.now c.args.bytes c.args.out.now (rw (← c.sheet.view_is) c.if-sheet.false) c.in_default.ensures
    (rw (← c.sheet.view_is) c.if-out-sheet.false) c.write.ensures.value c.write.ensures.out_after
