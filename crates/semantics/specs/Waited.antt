-- Models in which a process waits, and what the journal says of why, proved (document 02, Two).
-- Assumes nothing.
use Rattle.std.specs.Prelude.{ℕ, ◌≡◌, refl, List, [], ◌∷◌, ◌++◌, map, length, ℤ, pos}
use Rattle.semantics.specs.Words.{collect}
use Rattle.semantics.specs.Numbers as No
use Rattle.semantics.specs.Kinds as K
use Rattle.semantics.specs.Journal.{le16, le32}
use Rattle.semantics.specs.Plan.{PrintedLine, refused_at, ran, plan_for}
use Rattle.semantics.specs.Plans.{rec, RES, CLASS, BLOCK, ENTITY}

-- Items, written: an amount of a resource, of a bin, of the slaves of a sync; and that global 0 is a number.
abbrev pub get_r : ℕ → ℕ → List ℕ
get_r i n = 0 ∷ 0 ∷ le16 i ++ le32 n

abbrev pub get_b : ℕ → List ℕ
get_b n = 1 ∷ 0 ∷ le16 0 ++ le32 n

abbrev pub get_s : ℕ → List ℕ
get_s n = 2 ∷ 0 ∷ le16 0 ++ le32 n

abbrev pub is_now : ℕ → List ℕ
is_now v = 3 ∷ 3 ∷ le16 0 ++ le32 v

abbrev claim : List (List ℕ) → List ℕ
claim is = le16 (length is) ++ collect (λ i. i) is

-- The actions that ask; each branch and the loop enter block 2.
abbrev pub REQ : List (List ℕ) → List ℕ
REQ is = rec K.REQ (claim is)

abbrev pub TRY : List (List (List ℕ)) → List ℕ
TRY cs = rec K.TRY (le16 (length cs) ++ collect (λ is. le16 2 ++ claim is) cs)

abbrev WHILE : List (List ℕ) → List ℕ
WHILE is = rec K.WHILE (le16 2 ++ claim is)

-- Two resources of 1, an empty bin, a sync that nobody waits for, and global 0, which is 0. The first process waits for 2 of
-- resource 0 and 1 of resource 1; then the second does what is said. Block 2 is empty.
asking : List ℕ → List ℕ
asking bs =
    RES 1 ++ RES 1 ++ rec K.BIN (le32 0) ++ rec K.SYNC [] ++ rec K.VAR (le32 0) ++ CLASS 0 ++ CLASS 1 ++ ENTITY 0 0 ++ ENTITY 1 0
    ++ BLOCK ++ REQ (get_r 0 2 ∷ get_r 1 1 ∷ []) ++ BLOCK ++ bs ++ BLOCK

-- What the second process does, and the lines that its run writes behind the first line.
pub record Case : Type 0 where
  pub does : List ℕ
  pub lines : List PrintedLine

abbrev waiting : List ℕ → ℤ → Case
waiting bs v = record { does = bs; lines = (0, 2, 3, v) ∷ [] }

pub lines_of : List ℕ → List PrintedLine
unfolding plan_for asking
lines_of bs = elim (plan_for No.plan_steps (asking bs)) [ refused_at n p ↦ [] | ran ls a n b ↦ ls ]

-- It waits for its item 1, 2, 3 or 4: the first that is lacking, though others are lacking too; conditions are counted, those
-- that hold and those that don't. Of a TRY it is the first branch's item, and nothing if another can be met.
-- Barred by the first process, that is said, also where something is lacking besides. A WHILE passes on and says nothing, lacking
-- or barred.
pub the_waits : List Case
the_waits =
    waiting (REQ (get_b 1 ∷ get_r 0 1 ∷ get_s 1 ∷ is_now 1 ∷ [])) (pos 1)
    ∷ waiting (REQ (is_now 0 ∷ get_b 1 ∷ get_s 1 ∷ [])) (pos 2)
    ∷ waiting (REQ (get_r 0 1 ∷ is_now 1 ∷ get_b 1 ∷ [])) (pos 2)
    ∷ waiting (REQ (get_r 0 1 ∷ get_r 1 1 ∷ get_s 1 ∷ get_b 1 ∷ [])) (pos 3)
    ∷ waiting (REQ (get_r 0 1 ∷ is_now 0 ∷ get_r 1 1 ∷ get_b 1 ∷ [])) (pos 4)
    ∷ waiting (TRY ((get_r 0 1 ∷ get_b 1 ∷ []) ∷ (get_b 1 ∷ []) ∷ (is_now 0 ∷ is_now 0 ∷ get_s 1 ∷ []) ∷ [])) (pos 2)
    ∷ record { does = TRY ((get_b 1 ∷ []) ∷ (is_now 0 ∷ []) ∷ []); lines = (0, 2, 4, pos 1) ∷ (0, 2, 2, pos 0) ∷ [] }
    ∷ waiting (REQ (get_r 1 1 ∷ [])) No.barred
    ∷ waiting (REQ (get_r 1 2 ∷ is_now 1 ∷ [])) No.barred
    ∷ waiting (TRY ((is_now 1 ∷ get_r 0 1 ∷ []) ∷ (get_r 1 1 ∷ []) ∷ [])) No.barred
    ∷ record { does = WHILE (get_b 1 ∷ []); lines = (0, 2, 2, pos 0) ∷ [] }
    ∷ record { does = WHILE (get_r 1 1 ∷ []); lines = (0, 2, 2, pos 0) ∷ [] }
    ∷ []

pub the_waits_lem : map (λ c. lines_of c.does) the_waits ≡ map (λ c. (0, 1, 3, pos 1) ∷ c.lines) the_waits
unfolding the_waits lines_of
the_waits_lem = refl
