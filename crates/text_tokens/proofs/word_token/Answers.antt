-- `text_tokens::word_token` meets its contract: a number, or another word. Assumes nothing.
use native.Mathlib.Omega.{arith}
use Rattle.text_tokens.proofs.Answers.{number_next, word_next}
use Rattle.text_tokens.proofs.word_token.Goals as goal

pub word_at-word-requires : goal.word_at-word-requires
word_at-word-requires c = omega (arith, c.requires.0)

pub returns-then-word : goal.returns-then-word
returns-then-word c = let o = c.requires in number_next c.word_at-word.ensures o.0 o.1 c.if-word.true

pub word_kind-requires : goal.word_kind-requires
word_kind-requires c = let w = c.word_at-word.ensures in (w.from, w.within, w.run)

pub returns : goal.returns
returns c = let o = c.requires in
    word_next c.word_at-word.ensures o.0 o.1 _ c.if-word.false c.word_kind.ensures
