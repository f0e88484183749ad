-- What bytes can tell apart, and what is asked of a token.
-- Assumes nothing.
use Rattle.std.specs.Prelude.{ℕ, ◌/◌, ◌%◌, ◌<◌, ◌≡◌, Bool, true, false, List, [], ◌∷◌, eqb, get_or, if◌then◌else◌}
use Rattle.semantics.specs.Kinds as K
use Rattle.text_semantics.specs.Token as T
use Rattle.text_semantics.specs.Written.{BYTE}
use Rattle.text_semantics.specs.Reading.{Closer, round, comma, semi}
use Rattle.text_machine.specs.Entry as M
use Rattle.text_machine.specs.Codes as C

-- What two bytes can tell apart, and four; and the most that one byte can have.
abbrev pub TWO : ℕ
TWO = 65_536

abbrev pub FOUR : ℕ
FOUR = 4_294_967_296

abbrev pub MOST : ℕ
MOST = 255

-- The low two bytes of a number, the lowest first.
abbrev pub low : ℕ → List ℕ
low n = n % BYTE ∷ n / BYTE % BYTE ∷ []

-- The bytes of a node.
abbrev pub NODE : ℕ
NODE = 6

-- Whether what closes an expression begins another one.
abbrev pub is_comma : Closer → Bool
is_comma round = false
is_comma comma = true
is_comma semi = false

-- The kind of the record that stores into a name of the kind w.
abbrev pub store_of : ℕ → ℕ
store_of w = if eqb w K.VAR then K.SET else K.LSET

-- What a token has to be where it is read: a count has two bytes, and one more branch of the try that goes on, which is no sign
-- that had to come, has a number of one byte.
pub record Read (s kind value : ℕ) (d : M.Draft) : Type 0 where
  pub count : s ≡ C.COUNT → kind ≡ C.NUMBER → value < TWO
  pub branches : T.END < s → kind ≡ T.ETRY → get_or d.body 0 0 < MOST

-- What a token leaves: the draft that is wanted, whatever the bytes of a name are.
abbrev pub Left : (List ℕ → M.Draft) → M.Draft → Type 0
Left want d = (x : List ℕ) → d ≡ want x
