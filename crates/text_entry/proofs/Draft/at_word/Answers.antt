-- `text_entry::Draft::at_word` meets its contract. Assumes nothing.
use Rattle.std.specs.Prelude.{[]}
use Rattle.text_machine.specs.Entry as M
use Rattle.text_machine.specs.Entry.{put}
use Rattle.text_entry.specs.At.{count_small, word_text}
use Rattle.text_entry.proofs.Draft.at_word.Goals as goal

pub put_two-requires : goal.put_two-requires
put_two-requires c = rw (c.number_in-in-50.ensures [])
    (count_small c.args.kind c.args.value (c.requires.read.count c.in-50.is))

pub returns-in_default : goal.returns-in_default
unfolding M.drafted
returns-in_default c x = let r = c.in_default.in_default-own.rest in
    rw (word_text c.args.s c.requires.lt_s.0 c.requires.lt_s.1
    r.0.0.0.0.0.0.0.0.0.0.0.0.0.0.1 r.0.0.0.0.0.0.0.0.0.0.0.0.0.1
    r.0.0.0.0.0.0.0.0.0.0.0.0.1 r.0.0.0.0.0.0.0.0.0.0.0.1 r.0.0.0.0.0.0.0.0.0.0.1
    r.0.0.0.0.0.0.0.0.0.1 r.0.0.0.0.0.0.0.0.1 r.0.0.0.0.0.0.0.1 r.0.0.0.0.0.0.1
    r.0.0.0.0.0.1 r.0.0.0.0.1 r.0.0.0.1 r.0.0.1 r.0.1 r.1)
    (c.at_text.ensures x)
