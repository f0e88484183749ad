-- The last sort, by all the tests before. Assumes nothing.
use mathlib.Core.Path.{◌≡◌, ◌∙◌}
use borrow.Author.Tests.{ne_eqb, le-ltb}
use Rattle.text_reader.specs.Sorts as Sort
use Rattle.text_reader.specs.Sorts.{sort_at, sort_at_lem}
use Rattle.text_reader.proofs.sort_of.Goals as goal

pub returns : goal.returns
returns c = let s = c.args.s in
    let e : Sort.MORE ≡ sort_at s = rw (
      ne_eqb _ _ c.if-s-eq-NAME.false,
      ne_eqb _ _ c.if-s-eq-SEMI.false,
      ne_eqb _ _ c.if-s-eq-LB.false,
      c.if-s.false,
      c.if-s-2.false,
      ne_eqb _ _ c.if-s-eq-BODY.false,
      ne_eqb _ _ c.if-s-eq-TEXT.false,
      le-ltb _ _ c.if-s-lt-EXPRESSION.false,
      le-ltb _ _ c.if-s-lt2.false,
    ) in
    e ∙ sort_at_lem s c.requires
