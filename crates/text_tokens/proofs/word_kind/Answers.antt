-- `text_tokens::word_kind` meets its contract: too long for a name or for a keyword, or found by its key. Assumes nothing.
use mathlib.Core.Path.{sym, ◌∙◌, ap}
use native.Mathlib.Omega.{arith}
use Rattle.text_semantics.specs.Token as K
use Rattle.text_tokens.specs.Next.{NAME, part}
use Rattle.text_tokens.specs.Parts.{found, spellings}
use Rattle.text_tokens.specs.Tests.{part_length}
use Rattle.text_tokens.specs.Found.{kind_bad, kind_name, kind_short}
use Rattle.text_tokens.proofs.word_kind.Goals as goal

pub overflow_sub-size : goal.overflow_sub-size
overflow_sub-size c = omega (arith, c.requires.0)

pub returns-then-size-gt-LONGEST_NAME : goal.returns-then-size-gt-LONGEST_NAME
returns-then-size-gt-LONGEST_NAME c = let a = c.args in
    let n = part_length a.text.now a.place a.end c.requires.1 in
    sym (kind_bad _ (omega (arith, n, c.if-size-gt-LONGEST_NAME.true)))

pub returns-then-size-gt-LONGEST_KEYWORD : goal.returns-then-size-gt-LONGEST_KEYWORD
returns-then-size-gt-LONGEST_KEYWORD c = let a = c.args in
    let n = part_length a.text.now a.place a.end c.requires.1 in
    sym (kind_name _ (omega (arith, n, c.if-size-gt-LONGEST_KEYWORD.true)) (omega (arith, n, c.if-size-gt-LONGEST_NAME.false)))

pub packed-requires : goal.packed-requires
packed-requires c = (c.requires.0, c.requires.1, omega (arith, c.if-size-gt-LONGEST_KEYWORD.false))

pub returns : goal.returns
returns c = let a = c.args in
    let n = part_length a.text.now a.place a.end c.requires.1 in
    c.unwrap_or.ensures ∙ c.find.ensures NAME ∙ ap (found 0 NAME (part 0 K.LP spellings)) c.packed.ensures
    ∙ kind_short _ c.requires.2 (omega (arith, n, c.if-size-gt-LONGEST_NAME.false))
