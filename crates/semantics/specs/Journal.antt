-- The journal as bytes: a line of it, its room, and what is written into it (document 01, "The journal and one whole run").
-- Assumes nothing.
use Rattle.std.specs.Prelude.{ℕ, ◌-◌, ◌*◌, ◌/◌, ◌%◌, List, [], ◌∷◌, ◌++◌, ℤ, pos, negsuc, length, drop}
use Rattle.semantics.specs.Words.{collect}
use Rattle.semantics.specs.Walk.{Line}
use Rattle.semantics.specs.Run.{Room, room_for}

abbrev pub le16 : ℕ → List ℕ
le16 n = n % 256 ∷ n / 256 % 256 ∷ []

abbrev pub le32 : ℕ → List ℕ
le32 n = n % 256 ∷ n / 256 % 256 ∷ n / 65_536 % 256 ∷ n / 16_777_216 % 256 ∷ []

abbrev pub twos : ℤ → ℕ
twos (pos n) = n
twos (negsuc n) = 4_294_967_295 - n

-- u16 14, u16 kind, u32 time, u32 process, i32 value
unfoldable pub line_bytes : Line → List ℕ
line_bytes l = le16 14 ++ le16 l.kind ++ le32 l.time ++ le32 l.process ++ le32 (twos l.value)

unfoldable pub journal : List Line → List ℕ
unfolding line_bytes
journal ls = collect line_bytes ls

-- A lent journal has room for a line in each 16 of its bytes; the bytes beyond what was written are as they were.
abbrev pub room_in : List ℕ → Room
room_in bs = room_for (length bs / 16)

unfoldable pub written : List Line → List ℕ → List ℕ
unfolding journal
written ls bs = journal ls ++ drop (16 * length ls) bs
