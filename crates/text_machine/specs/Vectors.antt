-- The machine answers the tables of text_semantics as the definitions do, computed.
-- Assumes nothing.
use Prim.Native.String.{String}
use Rattle.std.specs.Prelude.{◌≡◌, refl, map, length}
use Rattle.std.proofs.Common.{sym, ap, ◌∙◌}
use Rattle.semantics.specs.Words.{collect}
use Rattle.semantics.specs.Plans as P
use Rattle.text_semantics.specs.Numbers as No
use Rattle.text_semantics.specs.Lexing.{ascii}
use Rattle.text_semantics.specs.Answer.{Answer, refused, written}
use Rattle.text_semantics.specs.Written.{bytes_of}
use Rattle.text_semantics.specs.Vectors.{room, at, unmarked, wrong_tokens, wrong_names, names_again, over_limits, two_jobs, nested}
use Rattle.text_semantics.specs.Vectors.{nested_records, too_few}
use Rattle.text_machine.specs.Machine.{machine}

abbrev to : String → Answer
to s = machine (unmarked s) room

the_51 : map to wrong_tokens ≡ map (at No.GRAMMAR) wrong_tokens
unfolding machine
the_51 = refl

the_52 : map to wrong_names ≡ map (at No.UNKNOWN) wrong_names
unfolding machine
the_52 = refl

the_53 : map to names_again ≡ map (at No.AGAIN) names_again
unfolding machine
the_53 = refl

the_54 : map to over_limits ≡ map (at No.CHECKS) over_limits
unfolding machine
the_54 = refl

the_72_bytes : to two_jobs ≡ written P.example
unfolding machine
the_72_bytes = refl ∙ ap written (sym P.the_72_bytes)

the_nested : to nested ≡ written (collect bytes_of nested_records)
unfolding machine bytes_of
the_nested = refl

the_55 : machine (ascii two_jobs) too_few ≡ refused No.BUFFER (length (ascii two_jobs))
unfolding machine
the_55 = refl
