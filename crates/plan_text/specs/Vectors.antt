-- The text of document 01's worked example, and of the other forms of a last line, computed.
-- Assumes nothing.
use Rattle.std.specs.Prelude.{◌≡◌, refl, [], ◌∷◌, map, negsuc}
use Rattle.semantics.specs.Run.{CLOSED, LIMIT, FAULT}
use Rattle.semantics.specs.Bound.{NONE, OVER, AT}
use Rattle.semantics.specs.Plan.{refused_at, ran, plan}
use Rattle.semantics.specs.Plans.{example, the_72_bytes}
use Rattle.plan_text.specs.Text.{ascii, printed_text}

pub the_example : printed_text (plan example)
    ≡ ascii "0 1 4 0\n0 2 3 1\n3 1 2 0\n3 1 5 0\n3 2 4 0\n6 2 2 0\n6 2 5 0\nidle 10 bound 10\n"
unfolding printed_text plan
the_example = rw the_72_bytes

pub the_forms : map printed_text
    (refused_at 5 65_530
    ∷ ran ((2_000_000_000, 2_147_483_647, 10, negsuc 2_147_483_647) ∷ []) CLOSED 1_000_000 NONE
    ∷ ran [] LIMIT 0 OVER
    ∷ ran [] (FAULT 22) 7 (AT 4_294_967_295)
    ∷ [])
    ≡ ascii "refused 5 at 65530\n"
    ∷ ascii "2000000000 2147483647 10 -2147483648\nclosed 1000000 bound none\n"
    ∷ ascii "limit 0 bound over\n"
    ∷ ascii "fault 22 7 bound 4294967295\n"
    ∷ []
unfolding printed_text
the_forms = refl
