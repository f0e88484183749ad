-- `file_check_record::sampler_valid` meets its contract: the ends are compared by their codes. Assumes nothing.
use mathlib.Core.Path.{◌≡◌, ◌∙◌, ap}
use Prim.Native.Nat.{ℕ}
use Rattle.base_i32.specs.Code.{code}
use Rattle.semantics.specs.Bytes.{signed}
use Rattle.file_check_record.proofs.Rules.{sampler_turned, sampler_judged}
use Rattle.file_check_record.proofs.sampler_valid.Goals as goal

coded : {x n k : ℕ} → x ≡ code (signed n) → n ≡ k → x ≡ code (signed k)
coded d e = d ∙ ap (λ (i : ℕ). code (signed i)) e

pub returns-then-highest-lowest : goal.returns-then-highest-lowest
returns-then-highest-lowest c = sampler_turned c.args.bs.now (coded c.from_twos-lowest.ensures c.u32_at.ensures)
    (coded c.from_twos-highest.ensures c.u32_at-2.ensures) c.u32_at-seed.ensures c.if-highest-lowest.true

pub returns : goal.returns
returns c = sampler_judged c.args.bs.now (coded c.from_twos-lowest.ensures c.u32_at.ensures)
    (coded c.from_twos-highest.ensures c.u32_at-2.ensures) c.u32_at-seed.ensures c.if-highest-lowest.false
