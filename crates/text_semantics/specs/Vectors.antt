-- Texts and what is answered to them, as tables, proved: those of docs/TEXT.md, and more. ^ stands before the place.
-- Assumes nothing.
use Rattle.std.specs.Prelude.{ℕ, ◌≡◌, refl, List, [], ◌∷◌, ◌++◌, map, not, eqb, length, pos, negsuc}
use Prim.Native.String.{String}
use Rattle.std.proofs.Common.{sym, ap, ◌∙◌}
use Rattle.semantics.specs.Words.{keep, first_at, collect}
use Rattle.semantics.specs.Model as M
use Rattle.semantics.specs.Record as R
use Rattle.semantics.specs.Decode as D
use Rattle.semantics.specs.Decode.{decode}
use Rattle.semantics.specs.Plans as P
use Rattle.text_semantics.specs.Numbers as No
use Rattle.text_semantics.specs.Lexing.{ascii}
use Rattle.text_semantics.specs.Written as W
use Rattle.text_semantics.specs.Answer.{Answer, refused, written, answer}

abbrev pub CARET : ℕ
CARET = 94

abbrev pub room : ℕ
room = 65_535

-- What is answered to the text without its mark, and a refusal at the mark.
abbrev pub unmarked : String → List ℕ
unmarked s = keep (λ b. not (eqb CARET b)) (ascii s)

abbrev to : String → Answer
to s = answer (unmarked s) room

abbrev pub at : ℕ → String → Answer
at n s = refused n (first_at (eqb CARET) (ascii s))

abbrev pub wrong_tokens : List String
wrong_tokens =
    "res(a, 1) ^bin(b, 1);"
    ∷ "res(^hold, 1);"
    ∷ "res(a, 1^"
    ∷ "res(a, 2000000^"
    ∷ "class c { do ^65536 { } }"
    ∷ "var(x, ^2147483648);"
    ∷ "var(x, -2147483648); var(y, -^2147483649);"
    ∷ "class c { hold(1); }^;"
    ∷ "class c { try [] then { } etry [] then ^close; }"
    ∷ "class c { local a,b,c1,d,e,f,g,h^, i; }"
    ∷ "class c { trace(((((((((((((((((^(1))))))))))))))))))); }"
    ∷ "var(a, 0); class c { trace(a ^< 3); }"
    ∷ "res(a^:b)"
    ∷ "res(^abcdefghijklmnopq, 1);"
    ∷ "res(a, 1); class c { req [getR(a, ^-1)]; }"
    ∷ "class d { } class c { start(d, 0, [^]); }"
    ∷ "class c; class c ^)"
    ∷ "sync(s) ; ^@"
    ∷ []

the_51 : map to wrong_tokens ≡ map (at No.GRAMMAR) wrong_tokens
unfolding answer
the_51 = refl

abbrev pub wrong_names : List String
wrong_names =
    "class c { ^Hold(3); }"
    ∷ "bin(b, 1); class c { putR(^b, 1); }"
    ∷ "entity(^c, 0); class c { }"
    ∷ "class c { local x; x := 1; } class d { ^x := 1; }"
    ∷ "sampler(s, 1, 2, 3); class c { ^s := s; }"
    ∷ "class c { ^x := 1+1+1+1+1+1+1+1+1+1; }"
    ∷ "var(v, 0); class c { req [v < 3, ^w < 3]; }"
    ∷ []

the_52 : map to wrong_names ≡ map (at No.UNKNOWN) wrong_names
unfolding answer
the_52 = refl

abbrev pub names_again : List String
names_again =
    "res(a, 1); bin(^a, 1);"
    ∷ "class c; class ^c;"
    ∷ "class c { } class ^c { }"
    ∷ "class c { } class ^c;"
    ∷ "class c; class c { } class ^c { }"
    ∷ "res(a, 1); class ^a { }"
    ∷ "class c { local x, ^x; }"
    ∷ "class c { local ^c; }"
    ∷ []

the_53 : map to names_again ≡ map (at No.AGAIN) names_again
unfolding answer
the_53 = refl

abbrev pub over_limits : List String
over_limits =
    "sync(s); class c { ^putS(s, 65); }"
    ∷ "^res(a, 2000000); res(a, 1); @"
    ∷ "^class c { do 1 { do 1 { do 1 { do 1 { do 1 { do 1 { do 1 { do 1 { @"
    ∷ "^class c; entity(c, 0);"
    ∷ "^class c; class d { } class c { do 1 { do 1 { do 1 { do 1 { do 1 { do 1 { do 1 { do 1 { @"
    ∷ "res(a, 1); class c { ^req [getR(a, 1), getR(a, 1)]; }"
    ∷ "res(a, 1); class c { ^while [getR(a, 0)] { @"
    ∷ "class c { ^try [] then { } etry [] then { } etry [] then { } etry [] then { } etry [] then { @"
    ∷ "class c { hold(1); ^trace(1+1+1+1+1+1+1+1+1); @"
    ∷ "^sampler(s, 3, 2, 1); @"
    ∷ "class c { } ^entity(c, 1000001);"
    ∷ []

the_54 : map to over_limits ≡ map (at No.CHECKS) over_limits
unfolding answer
the_54 = refl

-- Documents 01's 72 bytes.
abbrev pub two_jobs : String
two_jobs = "res(suite, 1); class job { req [getR(suite, 1)]; hold(3); putR(suite, 1); } entity(job, 0); entity(job, 0);"

the_72_bytes : to two_jobs ≡ written P.example
unfolding answer
the_72_bytes = refl ∙ ap written (sym P.the_72_bytes)

-- 55: one byte too few.
abbrev pub too_few : ℕ
too_few = 71

the_55 : answer (ascii two_jobs) too_few ≡ refused No.BUFFER (length (ascii two_jobs))
unfolding answer
the_55 = refl

-- Blocks inside blocks, in the order of their braces; what binds how.
abbrev pub nested : String
nested =
    "var(v, 3); class c { do 2 { v := v - 1 - 1; try [v < 0] then { close; } etry [] then { } } trace(-v * 2); } entity(c, 0);"

abbrev one : M.Expr
one = M.literal (pos 1)

abbrev pub nested_records : List R.Entry
nested_records =
    R.VAR (pos 3) ∷ R.CLASS 0 ∷ R.ENTITY (record { class = 0; offset = 0 })
    ∷ R.BLOCK ∷ R.ACTION (M.DO 2 1) ∷ R.ACTION (M.TRACE (M.multiply (M.negate (M.global 0)) (M.literal (pos 2))))
    ∷ R.BLOCK ∷ R.ACTION (M.SET 0 (M.subtract (M.subtract (M.global 0) one) one))
    ∷ R.ACTION (M.TRY
    (record { block = 2; claim = M.condition 0 M.below (pos 0) ∷ [] } ∷ record { block = 3; claim = [] } ∷ []))
    ∷ R.BLOCK ∷ R.ACTION M.CLOSE
    ∷ R.BLOCK
    ∷ []

the_nested : to nested ≡ written (collect W.bytes_of nested_records)
unfolding answer W.bytes_of
the_nested = refl

-- One of nearly everything: a comment, what binds how, a minus before a bare number, each kind of item, what is handed over.
abbrev words : List ℕ
words =
    ascii "bin(b, 2); sync(s); # a note\nsampler(d, 1, 6, 7); var(v, -1); res(r, 3); class c { local x; "
    ++ ascii "x := greater(d, clock) + lesser(x, v) * 2; req [getB(b, 1), getS(s, 2), v <> -5]; start(c, 4, [(r, 1)]); "
    ++ ascii "putB(b, 1); priority(--5); become(s); putS(s, 2); while [v >= 0] { hold(-(3)); } } entity(c, 9);"

abbrev in_class : List M.Action
in_class =
    M.LSET 0 (M.add (M.greater (M.draw 0) M.the_clock) (M.multiply (M.lesser (M.local 0) (M.global 0)) (M.literal (pos 2))))
    ∷ M.REQ (M.get M.bin 0 1 ∷ M.get M.sync 0 2 ∷ M.condition 0 M.differs (negsuc 4) ∷ [])
    ∷ M.START 0 4 (record { of = 0; amount = 1 } ∷ [])
    ∷ M.PUTB 0 1 ∷ M.PRIO (M.negate (M.literal (negsuc 4))) ∷ M.BECOME 0 ∷ M.PUTS 0 2
    ∷ M.WHILE 1 (M.condition 0 M.at_least (pos 0) ∷ [])
    ∷ []

abbrev in_while : List M.Action
in_while = M.HOLD (M.negate (M.literal (pos 3))) ∷ []

abbrev words_bytes : List ℕ
words_bytes =
    collect W.bytes_of
    (R.BIN 2 ∷ R.SYNC ∷ R.SAMPLER (record { lowest = pos 1; highest = pos 6; seed = 7 }) ∷ R.VAR (negsuc 0) ∷ R.RES 3 ∷ R.CLASS 0
    ∷ R.ENTITY (record { class = 0; offset = 9 })
    ∷ R.BLOCK ∷ map R.ACTION in_class ++ (R.BLOCK ∷ map R.ACTION in_while))

the_words : answer words room ≡ written words_bytes
unfolding answer W.bytes_of
the_words = refl

-- .. and what is written is read as what was said.
the_words_read : decode words_bytes
    ≡ D.accepted (record {
      totals = 3 ∷ [];
      amounts = 2 ∷ [];
      syncs = 1;
      vars = negsuc 0 ∷ [];
      classes = 0 ∷ [];
      entities = record { class = 0; offset = 9 } ∷ [];
      samplers = record { lowest = pos 1; highest = pos 6; seed = 7 } ∷ [];
      blocks = in_class ∷ in_while ∷ [];
    })
unfolding decode W.bytes_of
the_words_read = refl

-- Just enough room; and the checks come before the room.
abbrev enough : ℕ
enough = 72

the_last_byte : answer (ascii two_jobs) enough ≡ written P.example
unfolding answer
the_last_byte = refl ∙ ap written (sym P.the_72_bytes)

the_54_first : answer (ascii "class c; entity(c, 0);") 0 ≡ refused No.CHECKS 0
unfolding answer
the_54_first = refl
