-- The numbers of request Four (document 02; docs/TEXT.md): its refusals, and the bounds of its grammar.
-- Assumes nothing.
use Rattle.std.specs.Prelude.{ℕ}

-- 51 to 55 refuse a text.
abbrev pub GRAMMAR : ℕ
GRAMMAR = 51

abbrev pub UNKNOWN : ℕ
UNKNOWN = 52

abbrev pub AGAIN : ℕ
AGAIN = 53

abbrev pub CHECKS : ℕ
CHECKS = 54

abbrev pub BUFFER : ℕ
BUFFER = 55

-- A name's bytes; how deep brackets are open in an expression; the names behind the first of a `local` line.
abbrev pub longest_name : ℕ
longest_name = 16

abbrev pub brackets : ℕ
brackets = 16

abbrev pub more_locals : ℕ
more_locals = 7

-- A number of the grammar goes up to the greatest i32, one behind a minus a step further, a count up to the greatest u16.
abbrev pub top_number : ℕ
top_number = 2_147_483_647

abbrev pub top_magnitude : ℕ
top_magnitude = 2_147_483_648

abbrev pub top_count : ℕ
top_count = 65_535

-- What fits nowhere: a token's number goes no further.
abbrev pub beyond : ℕ
beyond = 4_294_967_295

-- The body block that is written for a class without a body.
abbrev pub no_body : ℕ
no_body = 65_535
