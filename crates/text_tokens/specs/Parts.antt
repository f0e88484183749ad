-- What the parts of `next` find: where a token begins, a word, a sign. Assumes nothing.
use Rattle.std.specs.Prelude.{ℕ, ◌+◌, ◌*◌, ◌≤◌, ◌<◌, ◌≡◌, List, [], ◌∷◌, ◌++◌, map, Bool, true, false, not, ◌&&◌, ◌||◌, eqb, leb, length, drop, get_or, if◌then◌else◌}
use Rattle.semantics.specs.Words.{all, any, first_at}
use Rattle.text_semantics.specs.Numbers as No
use Rattle.text_semantics.specs.Token as K
use Rattle.text_semantics.specs.Lexing.{HASH, COLON, LOWER, EQUALS, HIGHER, keywords, signs}
use Rattle.text_semantics.specs.Lexing.{is_digit, is_word, is_break, is_blank, same_bytes, value_of, clear, tokens_from}
use Rattle.text_tokens.specs.Next.{NAME, BAD, part, solid}
use Rattle.text_tokens.specs.declared.Word.{Word}

-- Whether b is passed over, inside a comment or outside; and whether a comment goes on behind it.
abbrev pub passes : Bool → ℕ → Bool
passes comment b = comment || (is_blank b || eqb b HASH)

abbrev pub comments : Bool → ℕ → Bool
comments comment b = if comment then not (is_break b) else eqb b HASH

-- From `at` on only blanks and comments stand before r. Behind the end get_or gives 0, which is solid.
pub record Begins (bs : List ℕ) (at r : ℕ) : Type 0 where
  pub from : at ≤ r
  pub within : r ≤ length bs
  pub tokens : tokens_from at clear (drop at bs) ≡ tokens_from r clear (drop r bs)
  pub here : solid (get_or bs r 0) ≡ true

-- The run of letters and digits at `at`. Behind the end get_or gives 0, which is none.
pub record WordAt (bs : List ℕ) (at : ℕ) (r : Word) : Type 0 where
  pub from : at ≤ r.end
  pub within : r.end ≤ length bs
  pub run : all is_word (part at r.end bs) ≡ true
  pub stops : is_word (get_or bs r.end 0) ≡ false
  pub digits : r.digits ≡ all is_digit (part at r.end bs)
  pub value : r.value ≡ value_of 0 (part at r.end bs)

-- What a byte adds to a number of bytes where it stands one place further.
abbrev pub BYTE : ℕ
BYTE = 256

-- Bytes as one number, the first lowest.
abbrev pub pack : List ℕ → ℕ
pack [] = 0
pack (b ∷ bs) = b + BYTE * pack bs

-- What the keywords and the signs of one byte that begin no longer one are packed to, in the order of their marks; how many
-- they are; and the longest keyword's bytes.
unfoldable pub spellings : List ℕ
spellings = map pack keywords ++ signs

abbrev pub SPELLED : ℕ
SPELLED = 41

abbrev pub longest_keyword : ℕ
longest_keyword = 8

-- The first of the keys that x is, counted from `from`; other where there is none.
abbrev pub found : ℕ → ℕ → List ℕ → ℕ → ℕ
found from other keys x = if any (eqb x) keys then from + first_at (eqb x) keys else other

-- The kind of a word that is not all digits: with these for the keywords, and with the keywords.
abbrev pub kind_in : List (List ℕ) → List ℕ → ℕ
kind_in ks w =
    if any (same_bytes w) ks then first_at (same_bytes w) ks else if leb (length w) No.longest_name then NAME else BAD

unfoldable pub word_kind : List ℕ → ℕ
word_kind w = kind_in keywords w

-- The kind of the sign of two bytes that b and c are, and of the sign of one byte that b is.
unfoldable pub double_of : ℕ → ℕ → ℕ
double_of b c =
    if eqb b COLON && eqb c EQUALS
    then K.BECOMES
    else if eqb b LOWER && eqb c EQUALS
    then K.LE
    else if eqb b LOWER && eqb c HIGHER
    then K.NE
    else if eqb b HIGHER && eqb c EQUALS
    then K.GE
    else BAD

unfoldable pub single_of : ℕ → ℕ
single_of b = if eqb b LOWER then K.LT else if eqb b HIGHER then K.GT else found K.LP BAD signs b

-- A byte stands at p that begins no word.
pub record Sign (bs : List ℕ) (p : ℕ) : Type 0 where
  pub within : p < length bs
  pub here : solid (get_or bs p 0) ≡ true
  pub other : is_word (get_or bs p 0) ≡ false
