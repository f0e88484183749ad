-- Models that draw, and what they print and leave, proved (document 02, One).
-- Assumes nothing.
use Rattle.std.specs.Prelude.{ℕ, ◌+◌, ◌≡◌, refl, List, [], ◌∷◌, ◌++◌, map, replicate, ℤ, pos, negsuc}
use Rattle.semantics.specs.Words.{collect}
use Rattle.semantics.specs.Numbers as No
use Rattle.semantics.specs.Kinds as K
use Rattle.semantics.specs.State.{fresh}
use Rattle.semantics.specs.Run.{IDLE, FAULT, endless, run}
use Rattle.semantics.specs.Bound.{AT}
use Rattle.semantics.specs.Journal.{le16, le32, twos}
use Rattle.semantics.specs.Decode.{refused, accepted, decode}
use Rattle.semantics.specs.Plan.{Printed, refused_at, ran, plan_for}
use Rattle.semantics.specs.Plans.{rec, one}

-- Records and nodes, written.
abbrev SAMPLER : ℤ → ℤ → ℕ → List ℕ
SAMPLER lowest highest seed = rec K.SAMPLER (le32 (twos lowest) ++ le32 (twos highest) ++ le32 seed)

abbrev node : ℕ → ℕ → List ℕ
node op v = le16 op ++ le32 v

-- A number is drawn from sampler i; one of two is subtracted, or the lesser.
abbrev draw : ℕ → List ℕ
draw i = node 10 i

abbrev less : List ℕ → List ℕ → List ℕ
less a b = node 4 0 ++ a ++ b

abbrev lesser : List ℕ → List ℕ → List ℕ
lesser a b = node 6 0 ++ a ++ b

abbrev HOLD : List ℕ → List ℕ
HOLD e = rec K.HOLD e

abbrev TRACE : List ℕ → List ℕ
TRACE e = rec K.TRACE e

-- One process, and a sampler of a digit with seed 1: its seeds are then 16807, 282475249, 1622650073, 984943658, 1144108930, ..,
-- and the digits 7, 9, 3, 8, 0.
digits : List ℕ → List ℕ
unfolding one
digits bs = SAMPLER (pos 0) (pos 9) 1 ++ one bs

-- A file, what `plan` prints of it, and the seeds that the run leaves.
pub record Case : Type 0 where
  pub file : List ℕ
  pub prints : Printed
  pub seeds : List ℕ

abbrev case : List ℕ → Printed → List ℕ → Case
case bs p d = record { file = bs; prints = p; seeds = d }

abbrev refuses : List ℕ → ℕ → ℕ → Case
refuses bs n at = case bs (refused_at n at) []

pub seeds_left : List ℕ → List ℕ
unfolding decode run fresh
seeds_left bs =
    elim (decode bs) [ refused n p ↦ [] | accepted m ↦ (run m No.plan_steps endless (fresh m)).state.seeds ]

-- Operands are drawn in their order, and both of a lesser. A HOLD draws 7, and the next one 9, less 10: it is 22, and the seed is
-- as before that step. Each sampler has its own seed, and one of a single value draws that. Then what is refused: a seed of 0 and
-- one too high, ends in the wrong order and too far apart, a seventeenth, one behind a BLOCK, one of another size, a sampler that
-- isn't declared, op 11.
pub the_draws : List Case
unfolding one digits
the_draws =
    case (digits (TRACE (less (draw 0) (draw 0)) ++ TRACE (lesser (draw 0) (draw 0)) ++ TRACE (draw 0)))
    (ran ((0, 1, 9, negsuc 1) ∷ (0, 1, 9, pos 3) ∷ (0, 1, 9, pos 0) ∷ (0, 1, 2, pos 0) ∷ []) IDLE 4 (AT 4))
    (1_144_108_930 ∷ [])
    ∷ case (digits (HOLD (draw 0) ++ HOLD (less (draw 0) (node 0 10))))
    (ran [] (FAULT 22) 1 (AT 3))
    (16_807 ∷ [])
    ∷ case (SAMPLER (negsuc 4) (negsuc 4) No.last_seed ++ digits (TRACE (draw 0) ++ TRACE (draw 1)))
    (ran ((0, 1, 9, negsuc 4) ∷ (0, 1, 9, pos 7) ∷ (0, 1, 2, pos 0) ∷ []) IDLE 3 (AT 3))
    (2_147_466_840 ∷ 16_807 ∷ [])
    ∷ refuses (SAMPLER (pos 0) (pos 9) 0) No.VALUE 0
    ∷ refuses (SAMPLER (pos 0) (pos 9) (No.last_seed + 1)) No.VALUE 0
    ∷ refuses (SAMPLER (pos 1) (pos 0) 1) No.VALUE 0
    ∷ refuses (SAMPLER (negsuc 0) (pos No.top_spread) 1) No.VALUE 0
    ∷ refuses (collect (λ bs. bs) (replicate 17 (SAMPLER (negsuc 0) (pos 999_999) 1))) No.MANY 256
    ∷ refuses (rec K.BLOCK [] ++ SAMPLER (pos 0) (pos 9) 1) No.PLACE 4
    ∷ refuses (rec K.SAMPLER (le32 0 ++ le32 9)) No.SIZE 0
    ∷ refuses (digits (TRACE (draw 1))) No.NAME 36
    ∷ refuses (digits (TRACE (node 11 0))) No.VALUE 36
    ∷ []

pub the_draws_lem :
    map (λ c. case c.file (plan_for No.plan_steps c.file) (seeds_left c.file)) the_draws ≡ the_draws
unfolding the_draws plan_for seeds_left
the_draws_lem = refl
