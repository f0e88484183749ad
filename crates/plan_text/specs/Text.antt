-- What `plan` prints, as bytes in ASCII (document 01, "The journal and one whole run").
-- Assumes nothing.
use Rattle.std.specs.Prelude.{ℕ, zero, suc, ◌+◌, ◌/◌, ◌%◌, List, [], ◌∷◌, ◌++◌, true, false, ltb, ℤ, pos, negsuc}
use Prim.Native.Char.{code}
use Prim.Native.String.{String, [] as no_letter, ◌∷◌ as ◌then◌}
use Rattle.semantics.specs.Words.{collect}
use Rattle.semantics.specs.Run.{Answer, CLOSED, IDLE, LIMIT, FAULT}
use Rattle.semantics.specs.Bound.{Bounded, NONE, OVER, AT}
use Rattle.semantics.specs.Plan.{PrintedLine, Printed, refused_at, ran}

abbrev pub ascii : String → List ℕ
ascii no_letter = []
ascii (c then s) = code c ∷ ascii s

-- Numbers are told in tens; and the byte of the digit 0.
abbrev pub BASE : ℕ
BASE = 10

abbrev pub ZERO : ℕ
ZERO = 48

-- A number in decimal: its last digit stands behind the digits of a tenth of it. n is above the number.
unfoldable pub digits_in : ℕ → ℕ → List ℕ
digits_in zero x = []
digits_in (suc n) x = elim (ltb x BASE) [ true ↦ (ZERO + x) ∷ [] | false ↦ digits_in n (x / BASE) ++ ((ZERO + x % BASE) ∷ []) ]

unfoldable pub decimal : ℕ → List ℕ
unfolding digits_in
decimal x = digits_in (suc x) x

unfoldable pub signed_decimal : ℤ → List ℕ
unfolding decimal
signed_decimal (pos n) = decimal n
signed_decimal (negsuc n) = ascii "-" ++ decimal (suc n)

-- Each line as time, process, kind, value.
unfoldable pub line_text : PrintedLine → List ℕ
unfolding decimal signed_decimal
line_text (t, p, k, v) =
    decimal t ++ ascii " " ++ decimal p ++ ascii " " ++ decimal k ++ ascii " " ++ signed_decimal v ++ ascii "\n"

unfoldable pub lines_text : List PrintedLine → List ℕ
unfolding line_text
lines_text ts = collect line_text ts

-- Then the answer (`closed`, `idle`, `limit`, or `fault` and its number), the steps, `bound`, and the bound, `none` or `over`.
unfoldable pub answer_text : Answer → List ℕ
unfolding decimal
answer_text CLOSED = ascii "closed"
answer_text IDLE = ascii "idle"
answer_text LIMIT = ascii "limit"
answer_text (FAULT n) = ascii "fault " ++ decimal n

unfoldable pub bound_text : Bounded → List ℕ
unfolding decimal
bound_text NONE = ascii "none"
bound_text OVER = ascii "over"
bound_text (AT n) = decimal n

unfoldable pub end_text : Answer → ℕ → Bounded → List ℕ
unfolding decimal answer_text bound_text
end_text a n b = answer_text a ++ ascii " " ++ decimal n ++ ascii " bound " ++ bound_text b ++ ascii "\n"

-- A refusal prints only `refused N at P`.
unfoldable pub refused_text : ℕ → ℕ → List ℕ
unfolding decimal
refused_text n p = ascii "refused " ++ decimal n ++ ascii " at " ++ decimal p ++ ascii "\n"

unfoldable pub printed_text : Printed → List ℕ
unfolding lines_text end_text refused_text
printed_text (refused_at n p) = refused_text n p
printed_text (ran ts a n b) = lines_text ts ++ end_text a n b
