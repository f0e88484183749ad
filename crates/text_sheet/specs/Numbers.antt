-- What contracts name: bytes of a record, the draft that is handed over as numbers and bytes, and a try that is kept; and what
-- gives such a try back from the machine's.
-- Assumes nothing.
use Rattle.std.specs.Prelude.{ℕ, ◌≡◌, refl, ◌+◌, List, [], ◌∷◌, ◌++◌, Bool, false, ◌||◌, leb, ltb, length, Some, None, if◌then◌else◌}
use Rattle.std.specs.Prelude as Prelude
use Rattle.std.proofs.Math.Option.{Option, none, some}
use Rattle.semantics.specs.Numbers as No
use Rattle.semantics.specs.Kinds as K
use Rattle.text_machine.specs.Entry.{Draft, begin, with_body}
use Rattle.text_machine.specs.Sheet as M

-- A record's length and kind; the bytes that there are for a kept body.
abbrev pub HEAD : ℕ
HEAD = 4

abbrev pub ROOM : ℕ
ROOM = 256

-- The draft that is handed over as numbers and bytes.
abbrev pub entry : ℕ → ℕ → ℕ → List ℕ → Draft
entry line kind size body = with_body (begin line kind 0) body false size

-- A try that is kept, or none; and how long its body is.
abbrev pub kept_of : Prelude.Option M.Kept → Option M.Kept
kept_of None = none
kept_of (Some k) = some k

abbrev pub kept_length : Option M.Kept → Prelude.Option ℕ
kept_length none = None
kept_length (some k) = Some (length k.body)

-- The one that is shown so.
abbrev pub kept_from : Option M.Kept → Prelude.Option M.Kept
kept_from none = None
kept_from (some k) = Some k

pub kept_same : (o : Prelude.Option M.Kept) → kept_from (kept_of o) ≡ o
kept_same None = refl
kept_same (Some k) = refl

-- A class is noted, whose body block's number stands there, if there is room for it.
unfoldable pub class_noted : ℕ → ℕ → M.Sheet → M.Sheet
class_noted at line s =
    if leb No.most_classes (length s.class_at)
    then M.filled s
    else M.with_class s (s.class_at ++ (at ∷ [])) (s.class_line ++ (line ∷ [])) (length s.class_at)

-- Whether there is no room for one record more in blocks, of n bytes.
abbrev pub crowded : ℕ → M.Sheet → Bool
crowded n s = leb No.most_actions (length s.pieces) || ltb No.longest_file (s.staged + n)

-- An action is counted, and a branch of a try, whatever its body is.
abbrev pub Counts : ℕ → ℕ → M.Sheet → M.Sheet → Type 0
Counts line size s r = (kind : ℕ) (bs : List ℕ) → r ≡ M.counts (entry line kind size bs) s

abbrev pub Branches : ℕ → ℕ → M.Sheet → M.Sheet → Type 0
Branches line size s r = (bs : List ℕ) → r ≡ M.branches (entry line K.TRY size bs) (M.kept_in s.levels) s

-- How many bytes there are with an action that opens a block, whatever its line and its body are.
abbrev pub OpenedTotal : ℕ → ℕ → M.Sheet → ℕ → Type 0
OpenedTotal kind size s n = (line : ℕ) (body : List ℕ) → n ≡ (M.opens (entry line kind size body) s).total
