-- The next token of a text: what `next` answers. Assumes nothing.
use Rattle.std.specs.Prelude.{ℕ, ◌+◌, ◌-◌, ◌≤◌, ◌<◌, ◌≡◌, List, [], ◌++◌, Bool, true, not, ◌||◌, eqb, length, take, drop, if◌then◌else◌}
use Rattle.semantics.specs.Words.{all}
use Rattle.text_semantics.specs.Numbers as No
use Rattle.text_semantics.specs.Token as K
use Rattle.text_semantics.specs.Token.{name, number, mark, bad}
use Rattle.text_semantics.specs.Lexing.{HASH, is_blank, Placed, put, clear, tokens_from}
use Rattle.text_tokens.specs.declared.Token.{Token}

-- The kinds that are no marks.
abbrev pub NUMBER : ℕ
NUMBER = 48

abbrev pub NAME : ℕ
NAME = 49

abbrev pub BAD : ℕ
BAD = 50

-- The bytes from place p to just before e.
abbrev pub part : ℕ → ℕ → List ℕ → List ℕ
part p e bs = take (e - p) (drop p bs)

-- The token of this kind, value and bytes.
abbrev pub token_of : ℕ → ℕ → List ℕ → K.Token
token_of kind value w =
    if eqb kind NUMBER then number value else if eqb kind NAME then name w else if eqb kind BAD then bad else mark kind

abbrev pub token_at : List ℕ → Token → K.Token
token_at bs r = token_of r.kind r.value (part r.place r.end bs)

-- The tokens behind it: none behind the end.
abbrev pub behind : List ℕ → Token → List Placed
behind bs r = if eqb r.kind K.END then [] else tokens_from r.end clear (drop r.end bs)

-- Neither a blank nor the beginning of a comment.
abbrev pub solid : ℕ → Bool
solid b = not (is_blank b || eqb b HASH)

-- r is the first token from `at` on. No blank and no comment stands in it, so that its end is no further than it must be.
pub record Next (bs : List ℕ) (at : ℕ) (r : Token) : Type 0 where
  pub tokens : tokens_from at clear (drop at bs) ≡ put (token_at bs r) r.place ++ behind bs r
  pub from : at ≤ r.place
  pub whole : all solid (part r.place r.end bs) ≡ true
  pub last : r.kind ≡ K.END → (r.place ≡ length bs) × (r.end ≡ length bs)
  pub room : (r.kind ≡ K.END → ⊥) → (r.place < r.end) × (r.end ≤ length bs)
  pub known : r.kind ≤ BAD
  pub short : r.kind ≡ NAME → r.end ≤ r.place + No.longest_name
  pub plain : (r.kind ≡ NUMBER → ⊥) → r.value ≡ 0
