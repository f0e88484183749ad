-- Models in which somebody waits, and whom it bars, proved (document 02, Three).
-- Assumes nothing.
use Rattle.std.specs.Prelude.{ℕ, ◌≡◌, refl, List, [], ◌∷◌, ◌++◌, map, ℤ, pos}
use Rattle.semantics.specs.Numbers as No
use Rattle.semantics.specs.Kinds as K
use Rattle.semantics.specs.Journal.{le32}
use Rattle.semantics.specs.Plan.{PrintedLine, refused_at, ran, plan_for}
use Rattle.semantics.specs.Plans.{rec, RES, CLASS, BLOCK, ENTITY}
use Rattle.semantics.specs.Waited.{get_r, get_b, get_s, is_now, REQ, TRY}

-- Two resources of 1, an empty bin, a sync that nobody waits for, and global 0, which is 0. Two processes ask for what isn't
-- there and wait; then the third asks, as is said. Block 2 is empty; the second, which enters no block, stands behind it.
asking : List ℕ → List ℕ → List ℕ → List ℕ
asking a b q =
    RES 1 ++ RES 1 ++ rec K.BIN (le32 0) ++ rec K.SYNC [] ++ rec K.VAR (le32 0)
    ++ CLASS 0 ++ CLASS 3 ++ CLASS 1 ++ ENTITY 0 0 ++ ENTITY 1 0 ++ ENTITY 2 0
    ++ BLOCK ++ a ++ BLOCK ++ q ++ BLOCK ++ BLOCK ++ b

-- What the first two wait for, what the third asks, and why it waits: it is barred, or it isn't and lacks that item.
pub record Case : Type 0 where
  pub first : List ℕ
  pub second : List ℕ
  pub third : List ℕ
  pub value : ℤ

pub lines_of : Case → List PrintedLine
unfolding plan_for asking
lines_of c = elim (plan_for No.plan_steps (asking c.first c.second c.third)) [ refused_at n p ↦ [] | ran ls a n b ↦ ls ]

-- The second waits for a condition, which bars nobody.
abbrev pair : List ℕ → List ℕ → ℤ → Case
pair b q v = record { first = b; second = REQ (is_now 1 ∷ []); third = q; value = v }

-- Of one thing: a smaller amount is barred, an equal one isn't, and neither is a larger; so too of bins and syncs.
abbrev of_one : List Case
of_one =
    pair (REQ (get_r 0 3 ∷ [])) (REQ (get_r 0 2 ∷ [])) No.barred
    ∷ pair (REQ (get_r 0 2 ∷ [])) (REQ (get_r 0 2 ∷ [])) (pos 1)
    ∷ pair (REQ (get_r 0 2 ∷ [])) (REQ (get_r 0 3 ∷ [])) (pos 1)
    ∷ pair (REQ (get_b 2 ∷ [])) (REQ (get_b 1 ∷ [])) No.barred
    ∷ pair (REQ (get_b 2 ∷ [])) (REQ (get_b 2 ∷ [])) (pos 1)
    ∷ pair (REQ (get_s 2 ∷ [])) (REQ (get_s 1 ∷ [])) No.barred
    ∷ pair (REQ (get_s 2 ∷ [])) (REQ (get_s 3 ∷ [])) (pos 1)
    ∷ []

-- Of several: one smaller amount is enough, one larger is too many, whichever is first; and thing by thing, in whatever order
-- they are written. A strict part is barred whatever its amounts.
abbrev of_several : List Case
of_several =
    pair (REQ (get_r 0 3 ∷ get_r 1 3 ∷ [])) (REQ (get_r 0 3 ∷ get_r 1 2 ∷ [])) No.barred
    ∷ pair (REQ (get_r 0 3 ∷ get_b 3 ∷ [])) (REQ (get_r 0 2 ∷ get_b 4 ∷ [])) (pos 1)
    ∷ pair (REQ (get_r 0 3 ∷ get_s 3 ∷ [])) (REQ (get_r 0 4 ∷ get_s 2 ∷ [])) (pos 1)
    ∷ pair (REQ (get_r 0 2 ∷ get_r 1 5 ∷ [])) (REQ (get_r 1 4 ∷ get_r 0 2 ∷ [])) No.barred
    ∷ pair (REQ (get_r 0 2 ∷ get_r 1 5 ∷ [])) (REQ (get_r 1 2 ∷ get_r 0 4 ∷ [])) (pos 1)
    ∷ pair (REQ (get_r 0 2 ∷ get_r 1 2 ∷ [])) (REQ (get_r 0 9 ∷ [])) No.barred
    ∷ pair (REQ (get_r 0 9 ∷ get_r 1 9 ∷ [])) (REQ (get_r 0 2 ∷ get_b 1 ∷ [])) (pos 1)
    ∷ []

-- Conditions are dropped: none is compared, and a claim of nothing else is neither barred nor does it bar.
abbrev of_conditions : List Case
of_conditions =
    pair (REQ (get_r 0 3 ∷ is_now 1 ∷ [])) (REQ (is_now 5 ∷ get_r 0 2 ∷ [])) No.barred
    ∷ pair (REQ (is_now 9 ∷ get_r 0 2 ∷ [])) (REQ (is_now 0 ∷ get_r 0 2 ∷ [])) (pos 2)
    ∷ pair (REQ (is_now 9 ∷ [])) (REQ (is_now 8 ∷ [])) (pos 1)
    ∷ []

-- Branches: each is covered by its own rule, and by whichever branch of the one who bars; but all by one and the same.
abbrev of_branches : List Case
of_branches =
    pair (REQ (get_r 0 3 ∷ get_r 1 3 ∷ [])) (TRY ((get_r 0 9 ∷ []) ∷ (get_r 0 3 ∷ get_r 1 2 ∷ []) ∷ [])) No.barred
    ∷ pair (TRY ((get_r 0 3 ∷ []) ∷ (get_r 1 3 ∷ []) ∷ [])) (TRY ((get_r 1 2 ∷ []) ∷ (get_r 0 2 ∷ []) ∷ [])) No.barred
    ∷ pair (REQ (get_r 0 3 ∷ [])) (TRY ((get_r 0 2 ∷ []) ∷ (get_r 1 2 ∷ []) ∷ [])) (pos 1)
    ∷ record {
      first = REQ (get_r 0 3 ∷ []);
      second = REQ (get_r 1 3 ∷ []);
      third = TRY ((get_r 0 2 ∷ []) ∷ (get_r 1 2 ∷ []) ∷ []);
      value = pos 1;
    }
    ∷ []

pub the_barred : List Case
the_barred = of_one ++ of_several ++ of_conditions ++ of_branches

pub the_barred_lem : map lines_of the_barred ≡ map (λ c. (0, 1, 3, pos 1) ∷ (0, 2, 3, pos 1) ∷ (0, 3, 3, c.value) ∷ []) the_barred
unfolding the_barred lines_of
the_barred_lem = refl
