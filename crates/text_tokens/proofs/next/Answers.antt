-- `text_tokens::next` meets its contract: the end, a word or a sign, behind blanks and comments. Assumes nothing.
use mathlib.Core.Path.{sym, ◌∙◌}
use native.Mathlib.Omega.{arith}
use Rattle.text_tokens.proofs.Answers.{further, the_end}
use Rattle.text_tokens.proofs.next.Goals as goal

pub begin-place-requires : goal.begin-place-requires
begin-place-requires c = c.requires

pub returns-then-place-text : goal.returns-then-place-text
returns-then-place-text c = the_end c.begin-place.ensures c.if-place-text.true

pub bounds-text-place : goal.bounds-text-place
bounds-text-place c = omega (arith, c.begin-place.ensures.within)

pub word_token-requires : goal.word_token-requires
word_token-requires c = let b = c.begin-place.ensures in
    (omega (arith, b.within), sym c.is_word.ensures ∙ c.if-is_word.true)

pub returns-then-is_word : goal.returns-then-is_word
returns-then-is_word c = further c.begin-place.ensures c.word_token.ensures

pub sign_token-requires : goal.sign_token-requires
sign_token-requires c = let b = c.begin-place.ensures in record {
  within = omega (arith, b.within);
  here = b.here;
  other = sym c.is_word.ensures ∙ c.if-is_word.false;
}

pub returns : goal.returns
returns c = further c.begin-place.ensures c.sign_token.ensures
