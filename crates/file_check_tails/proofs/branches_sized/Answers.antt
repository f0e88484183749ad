-- `file_check_tails::branches_sized` meets its contract. Assumes nothing.
use borrow.Author.Tests.{le-leb, lt-leb}
use Rattle.file_check_parts.proofs.Laws.{rest_of}
use Rattle.file_check_tails.proofs.branches_sized.Goals as goal

pub returns-then-bs-lt2 : goal.returns-then-bs-lt2
returns-then-bs-lt2 c = rw (lt-leb _ _ c.if-bs-lt2.true)

pub returns : goal.returns
returns c = rw (
  le-leb _ _ c.if-bs-lt2.false,
  c.branches_fit.ensures,
  rest_of 2
      c.args.bs.now,
  c.u16_at.ensures.0,
)
