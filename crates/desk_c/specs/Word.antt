-- The answers for C, each in one number. Assumes nothing.
use Rattle.std.specs.Prelude.{ℕ, ◌+◌, ◌*◌}
use Rattle.semantics.specs.Decode.{Checked, refused, accepted}
use Rattle.semantics.specs.Bound.{Bounded, NONE, OVER, AT}
use Rattle.semantics.specs.Run.{Answer}
use Rattle.semantics.specs.Desk.{Told}
use Rattle.base_numbers.specs.Byte as Byte
use Rattle.base_numbers.specs.Bound as Bound
use Rattle.run_limit.specs.Ran.{number_of}
use Rattle.run_row.specs.Open.{Opened}
use Rattle.run_row.specs.Call.{Called}

-- A refusal: its number and, in the low 16 bits, its place.
abbrev pub refusal : ℕ → ℕ → ℕ
refusal n p = n * Byte.TWO + p

-- Check: 0, or the refusal.
abbrev pub check_word : {A : Type 0} → Checked A → ℕ
check_word (refused n p) = refusal n p
check_word (accepted a) = 0

-- A refusal where an answer or a bound may be: 3 in the high 32 bits.
abbrev pub REFUSED : ℕ
REFUSED = 3 * Byte.FOUR

-- Bound: the number; or, in the high 32 bits, 1 for NONE, 2 for OVER, and 3 with the refusal in the low ones.
abbrev pub bound_word : Checked Bounded → ℕ
bound_word (accepted (AT n)) = n
bound_word (accepted NONE) = Bound.NONE
bound_word (accepted OVER) = Bound.OVER
bound_word (refused n p) = REFUSED + refusal n p

-- Run: in the high 32 bits the answer, and in the low ones the steps; or 3 with the refusal.
abbrev pub told_word : Answer → ℕ → ℕ
told_word a steps = number_of a * Byte.FOUR + steps

abbrev pub run_word : Checked Told → ℕ
run_word (accepted t) = told_word t.answer t.steps
run_word (refused n p) = REFUSED + refusal n p

-- Open: 0, or the refusal, or 20 in a refusal's place.
abbrev pub open_word : Opened → ℕ
open_word d = refusal d.number d.place

-- Move on: the answer and the steps of this call.
abbrev pub move_word : Called → ℕ
move_word d = told_word d.answer d.steps
