-- From the bytes of a text to its tokens with their places (docs/TEXT.md, section 2), byte by byte.
-- Assumes nothing.
use Rattle.std.specs.Prelude.{ℕ, suc, ◌+◌, ◌*◌, ◌-◌, min, List, [], ◌∷◌, ◌++◌, Bool, true, false, ◌&&◌, ◌||◌, eqb, leb, length, if◌then◌else◌}
use Prim.Native.Char.{code}
use Prim.Native.String.{String, [] as no_letter, ◌∷◌ as ◌then◌}
use Rattle.semantics.specs.Words.{all, any, within, first_at}
use Rattle.text_semantics.specs.Numbers as No
use Rattle.text_semantics.specs.Token as K
use Rattle.text_semantics.specs.Token.{Token, name, number, mark, bad}

abbrev pub ascii : String → List ℕ
ascii no_letter = []
ascii (c then s) = code c ∷ ascii s

-- The keywords, in the order of their numbers.
abbrev pub keywords : List (List ℕ)
keywords =
    ascii "res" ∷ ascii "bin" ∷ ascii "sync" ∷ ascii "var" ∷ ascii "sampler" ∷ ascii "class" ∷ ascii "entity" ∷ ascii "local"
    ∷ ascii "hold" ∷ ascii "priority" ∷ ascii "do" ∷ ascii "putR" ∷ ascii "putB" ∷ ascii "putS" ∷ ascii "become"
    ∷ ascii "req" ∷ ascii "try" ∷ ascii "then" ∷ ascii "etry" ∷ ascii "while" ∷ ascii "start" ∷ ascii "trace"
    ∷ ascii "close" ∷ ascii "getR" ∷ ascii "getB" ∷ ascii "getS" ∷ ascii "clock" ∷ ascii "lesser" ∷ ascii "greater" ∷ []

-- The signs of one byte that begin no longer one, in the order of their numbers.
abbrev pub signs : List ℕ
signs = ascii "()[]{},;+-*="

-- Bytes by name.
abbrev pub TAB : ℕ
TAB = 9

abbrev pub LF : ℕ
LF = 10

abbrev pub CR : ℕ
CR = 13

abbrev pub SPACE : ℕ
SPACE = 32

abbrev pub HASH : ℕ
HASH = 35

abbrev pub ZERO : ℕ
ZERO = 48

abbrev pub NINE : ℕ
NINE = 57

abbrev pub COLON : ℕ
COLON = 58

abbrev pub LOWER : ℕ
LOWER = 60  -- <

abbrev pub EQUALS : ℕ
EQUALS = 61  -- =

abbrev pub HIGHER : ℕ
HIGHER = 62  -- >

abbrev pub CAPITAL_A : ℕ
CAPITAL_A = 65

abbrev pub CAPITAL_Z : ℕ
CAPITAL_Z = 90

abbrev pub SMALL_A : ℕ
SMALL_A = 97

abbrev pub SMALL_Z : ℕ
SMALL_Z = 122

-- Numbers are written in tens.
abbrev pub BASE : ℕ
BASE = 10

abbrev pub is_digit : ℕ → Bool
is_digit b = within ZERO NINE b

abbrev pub is_word : ℕ → Bool
is_word b = is_digit b || (within CAPITAL_A CAPITAL_Z b || within SMALL_A SMALL_Z b)

abbrev pub is_break : ℕ → Bool
is_break b = eqb b LF || eqb b CR

abbrev pub is_blank : ℕ → Bool
is_blank b = eqb b SPACE || (eqb b TAB || is_break b)

abbrev pub same_bytes : List ℕ → List ℕ → Bool
same_bytes [] [] = true
same_bytes [] (y ∷ ys) = false
same_bytes (x ∷ xs) [] = false
same_bytes (x ∷ xs) (y ∷ ys) = eqb x y && same_bytes xs ys

-- The number that the digits make behind n. What is beyond 32 bits fits nowhere, and stays at their end.
abbrev pub value_of : ℕ → List ℕ → ℕ
value_of n [] = n
value_of n (b ∷ bs) = value_of (min No.beyond (BASE * n + (b - ZERO))) bs

unfoldable pub word_of : List ℕ → Token
word_of w =
    if all is_digit w
    then number (value_of 0 w)
    else if any (same_bytes w) keywords
    then mark (first_at (same_bytes w) keywords)
    else if leb (length w) No.longest_name
    then name w
    else bad

-- ( is the first of the signs of one byte.
unfoldable pub sign_of : ℕ → Token
sign_of b = if any (eqb b) signs then mark (K.LP + first_at (eqb b) signs) else bad

pub record Placed : Type 0 where
  pub token : Token
  pub place : ℕ

-- What has begun: nothing, a comment, a word with its place and its bytes so far, or a sign that may be longer, with its place.
pub data Begun : Type 0 where
  clear comment : Begun
  word : ℕ → List ℕ → Begun
  colon lower higher : ℕ → Begun

-- What a byte ends, and what has begun then.
pub record Fed : Type 0 where
  pub done : List Placed
  pub begun : Begun

abbrev pub put : Token → ℕ → List Placed
put t p = record { token = t; place = p } ∷ []

-- Behind the tokens ts, the byte b at p begins anew.
abbrev pub fresh : List Placed → ℕ → ℕ → Fed
fresh ts p b =
    if is_blank b
    then record { done = ts; begun = clear }
    else if eqb b HASH
    then record { done = ts; begun = comment }
    else if is_word b
    then record { done = ts; begun = word p (b ∷ []) }
    else if eqb b COLON
    then record { done = ts; begun = colon p }
    else if eqb b LOWER
    then record { done = ts; begun = lower p }
    else if eqb b HIGHER
    then record { done = ts; begun = higher p }
    else record { done = ts ++ put (sign_of b) p; begun = clear }

abbrev pub closing : Token → ℕ → Fed
closing t p = record { done = put t p; begun = clear }

abbrev pub feed : Begun → ℕ → ℕ → Fed
feed clear p b = fresh [] p b
feed comment p b = if is_break b then record { done = []; begun = clear } else record { done = []; begun = comment }
feed (word q w) p b = if is_word b then record { done = []; begun = word q (w ++ (b ∷ [])) } else fresh (put (word_of w) q) p b
feed (colon q) p b = if eqb b EQUALS then closing (mark K.BECOMES) q else fresh (put bad q) p b
feed (lower q) p b =
    if eqb b EQUALS
    then closing (mark K.LE) q
    else if eqb b HIGHER
    then closing (mark K.NE) q
    else fresh (put (mark K.LT) q) p b
feed (higher q) p b = if eqb b EQUALS then closing (mark K.GE) q else fresh (put (mark K.GT) q) p b

-- What ends with the text.
abbrev pub flush : Begun → List Placed
flush clear = []
flush comment = []
flush (word q w) = put (word_of w) q
flush (colon q) = put bad q
flush (lower q) = put (mark K.LT) q
flush (higher q) = put (mark K.GT) q

unfoldable pub tokens_from : ℕ → Begun → List ℕ → List Placed
unfolding word_of sign_of
tokens_from p m [] = flush m ++ put (mark K.END) p
tokens_from p m (b ∷ bs) = let f : Fed = feed m p b in f.done ++ tokens_from (suc p) f.begun bs

unfoldable pub tokens : List ℕ → List Placed
unfolding tokens_from
tokens bs = tokens_from 0 clear bs
