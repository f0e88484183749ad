-- The twelve plans of document 01 ("Plans to try on both sides") as a single table, with the 72 bytes of its worked example.
-- Assumes nothing.
use Rattle.std.specs.Prelude.{ℕ, ◌+◌, ◌≡◌, refl, List, [], ◌∷◌, ◌++◌, map, length, ℤ, pos, negsuc}
use Rattle.semantics.specs.Words.{collect}
use Rattle.semantics.specs.Numbers as No
use Rattle.semantics.specs.Kinds as K
use Rattle.semantics.specs.Model.{Model}
use Rattle.semantics.specs.State.{fresh, process}
use Rattle.semantics.specs.Run.{IDLE, LIMIT, FAULT, endless, run}
use Rattle.semantics.specs.Bound.{AT, weight}
use Rattle.semantics.specs.Journal.{le16, le32, twos}
use Rattle.semantics.specs.Decode.{refused, accepted, decode}
use Rattle.semantics.specs.Plan.{PrintedLine, Printed, refused_at, ran, plan_for}

-- Records, written.
abbrev pub rec : ℕ → List ℕ → List ℕ
rec k bs = le16 (2 + length bs) ++ le16 k ++ bs

abbrev pub RES : ℕ → List ℕ
RES n = rec K.RES (le32 n)

abbrev pub CLASS : ℕ → List ℕ
CLASS b = rec K.CLASS (le16 b)

abbrev pub BLOCK : List ℕ
BLOCK = rec K.BLOCK []

abbrev pub ENTITY : ℕ → ℕ → List ℕ
ENTITY c t = rec K.ENTITY (le16 c ++ le32 t)

abbrev HOLD : ℤ → List ℕ
HOLD v = rec K.HOLD (le16 0 ++ le32 (twos v))

abbrev PRIO : ℤ → List ℕ
PRIO v = rec K.PRIO (le16 0 ++ le32 (twos v))

abbrev DO : ℕ → ℕ → List ℕ
DO n b = rec K.DO (le16 n ++ le16 b)

abbrev PUTR : ℕ → ℕ → List ℕ
PUTR i n = rec K.PUTR (le16 i ++ le32 n)

-- A claim of 1 of each resource listed.
abbrev REQ : List ℕ → List ℕ
REQ is = rec K.REQ (le16 (length is) ++ collect (λ i. 0 ∷ 0 ∷ le16 i ++ le32 1) is)

-- One process, which does what the actions say.
unfoldable pub one : List ℕ → List ℕ
one bs = CLASS 0 ++ ENTITY 0 0 ++ BLOCK ++ bs

-- DO n of an empty block: all that block 0 has, so that block 0 weighs what the DO weighs.
doing : ℕ → List ℕ
unfolding one
doing n = one (DO n 1 ++ BLOCK)

-- The worked example.
pub example : List ℕ
example = RES 1 ++ CLASS 0 ++ ENTITY 0 0 ++ ENTITY 0 0 ++ BLOCK ++ REQ (0 ∷ []) ++ HOLD (pos 3) ++ PUTR 0 1

-- A (resource 0) and B (1) have 1. X holds A until 10; Y waits for A and B; Z, which begins as `z` says, claims B at 1. A fourth
-- process is declared by `w`, and its class body is `body`.
crowd : List ℕ → List ℕ → List ℕ → List ℕ
crowd z w body =
    RES 1 ++ RES 1 ++ CLASS 0 ++ CLASS 1 ++ CLASS 2 ++ ENTITY 0 0 ++ ENTITY 1 0 ++ ENTITY 2 1 ++ w
    ++ BLOCK ++ REQ (0 ∷ []) ++ HOLD (pos 10) ++ PUTR 0 1
    ++ BLOCK ++ REQ (0 ∷ 1 ∷ []) ++ HOLD (pos 5) ++ PUTR 0 1 ++ PUTR 1 1
    ++ BLOCK ++ z ++ REQ (1 ∷ []) ++ PUTR 1 1
    ++ body

three : List ℕ → List ℕ
unfolding crowd
three z = crowd z [] []

-- W claims A at 2 and returns it at once.
four : List ℕ
unfolding crowd
four = crowd [] (CLASS 3 ++ ENTITY 3 2) (BLOCK ++ REQ (0 ∷ []) ++ PUTR 0 1)

-- A has 1. X holds it until 10; Y waits for it, and then Z of higher priority, which waits in front of Y.
waiters : List ℕ
waiters =
    RES 1 ++ CLASS 0 ++ CLASS 1 ++ CLASS 2 ++ ENTITY 0 0 ++ ENTITY 1 0 ++ ENTITY 2 1
    ++ BLOCK ++ REQ (0 ∷ []) ++ HOLD (pos 10) ++ PUTR 0 1
    ++ BLOCK ++ REQ (0 ∷ []) ++ PUTR 0 1
    ++ BLOCK ++ PRIO (pos 1) ++ REQ (0 ∷ []) ++ PUTR 0 1

-- A file is looked at by what `plan` prints with a step limit, by what block 0 weighs, or by the first process's priority after
-- so many steps.
pub data Look : Type 0 where
  prints priority : ℕ → Look
  weighs : Look

pub data Shows : Type 0 where
  printed : Printed → Shows
  has : ℤ → Shows
  weighing : ℕ → Shows

pub record Case : Type 0 where
  pub look : Look
  pub file : List ℕ
  pub shows : Shows

of_model : (Model → Shows) → List ℕ → Shows
unfolding decode
of_model f bs = elim (decode bs) [ refused k p ↦ printed (refused_at k p) | accepted m ↦ f m ]

pub shown : Look → List ℕ → Shows
unfolding plan_for of_model run fresh weight
shown (prints n) bs = printed (plan_for n bs)
shown (priority n) bs = of_model (λ m. has (process (run m n endless (fresh m)).state 0).priority) bs
shown weighs bs = of_model (λ m. weighing (weight m 0)) bs

-- What the definitions show of cases, and what the cases say.
abbrev pub seen : List Case → List Shows
seen cs = map (λ c. shown c.look c.file) cs

abbrev pub said : List Case → List Shows
said cs = map (λ c. c.shows) cs

-- What is printed of a run to its end, or for n steps; the weight of block 0; the priority after 1 step.
abbrev stops : ℕ → List ℕ → Printed → Case
stops n bs p = record { look = prints n; file = bs; shows = printed p }

abbrev to_end : List ℕ → Printed → Case
to_end bs p = stops No.plan_steps bs p

abbrev weight0 : List ℕ → ℕ → Case
weight0 bs n = record { look = weighs; file = bs; shows = weighing n }

abbrev priority1 : List ℕ → ℤ → Case
priority1 bs v = record { look = priority 1; file = bs; shows = has v }

-- The lines of plans 2 and 9.
abbrev example_lines : List PrintedLine
example_lines =
    (0, 1, 4, pos 0) ∷ (0, 2, 3, pos 1)
    ∷ (3, 1, 2, pos 0) ∷ (3, 1, 5, pos 0) ∷ (3, 2, 4, pos 0)
    ∷ (6, 2, 2, pos 0) ∷ (6, 2, 5, pos 0)
    ∷ []

abbrev three_lines : List PrintedLine
three_lines =
    (0, 1, 4, pos 0) ∷ (0, 2, 3, pos 1)
    ∷ (1, 3, 3, No.barred)
    ∷ (10, 1, 2, pos 0) ∷ (10, 1, 5, pos 0) ∷ (10, 2, 4, pos 0)
    ∷ (15, 2, 2, pos 0) ∷ (15, 2, 5, pos 0) ∷ (15, 2, 5, pos 1)
    ∷ (15, 3, 4, pos 0) ∷ (15, 3, 2, pos 0) ∷ (15, 3, 5, pos 1)
    ∷ []

-- THE TABLE: a row for each plan, with all that document 01 says of it.
pub record Numbered : Type 0 where
  pub number : ℕ
  pub cases : List Case

abbrev numbered : ℕ → List Case → Numbered
numbered k cs = record { number = k; cases = cs }

pub the_plans : List Numbered
unfolding one doing example three
the_plans =
    numbered 1 (to_end [] (ran [] IDLE 0 (AT 0)) ∷ [])
    ∷ numbered 2 (to_end example (ran example_lines IDLE 10 (AT 10)) ∷ [])
    ∷ numbered 3 (weight0 (doing 0) 1 ∷ to_end (doing 0) (ran ((0, 1, 2, pos 0) ∷ []) IDLE 2 (AT 2)) ∷ [])
    ∷ numbered 4 (weight0 (doing 3) 4 ∷ to_end (doing 3) (ran ((0, 1, 2, pos 0) ∷ []) IDLE 5 (AT 5)) ∷ [])
    ∷ numbered 5 (to_end (one (HOLD (negsuc 0))) (ran [] (FAULT 22) 0 (AT 2)) ∷ [])
    ∷ numbered 6
    (to_end (one (HOLD (pos 2_000_000_000))) (ran ((2_000_000_000, 1, 2, pos 0) ∷ []) IDLE 2 (AT 2))
    ∷ to_end (one (HOLD (pos 2_000_000_000) ++ HOLD (pos 1))) (ran [] (FAULT 23) 1 (AT 3))
    ∷ [])
    ∷ numbered 7
    (stops 4 (three []) (ran ((0, 1, 4, pos 0) ∷ (0, 2, 3, pos 1) ∷ (1, 3, 3, No.barred) ∷ []) LIMIT 4 (AT 16)) ∷ [])
    ∷ numbered 8
    (stops 5 (three (PRIO (pos 1))) (ran ((0, 1, 4, pos 0) ∷ (0, 2, 3, pos 1) ∷ (1, 3, 4, pos 0) ∷ []) LIMIT 5 (AT 17)) ∷ [])
    ∷ numbered 9 (to_end (three []) (ran three_lines IDLE 16 (AT 16)) ∷ [])
    ∷ numbered 10 (priority1 (one (PRIO (negsuc 19_999))) (negsuc 9_999) ∷ [])
    ∷ numbered 11 (to_end (RES 2 ++ one (REQ (0 ∷ []) ++ PUTR 0 2)) (ran ((0, 1, 4, pos 0) ∷ []) (FAULT 24) 1 (AT 4)) ∷ [])
    ∷ numbered 12 (to_end (RES 1 ++ one (REQ (0 ∷ []))) (ran ((0, 1, 4, pos 0) ∷ []) (FAULT 26) 1 (AT 2)) ∷ [])
    ∷ []

pub one_to_twelve : map (λ r. r.number) the_plans ≡ 1 ∷ 2 ∷ 3 ∷ 4 ∷ 5 ∷ 6 ∷ 7 ∷ 8 ∷ 9 ∷ 10 ∷ 11 ∷ 12 ∷ []
unfolding the_plans
one_to_twelve = refl

pub the_twelve_plans : map (λ r. seen r.cases) the_plans ≡ map (λ r. said r.cases) the_plans
unfolding shown the_plans
the_twelve_plans = refl

-- FURTHER MODELS: a run that has ended answers so also where its limit is reached, as the empty file with limit 0; plan 8 with
-- two waiters; plan 9 with W: A comes back first at 15, the walk passes Z, since B is still out, and goes on to W.
abbrev waiters_lines : List PrintedLine
waiters_lines =
    (0, 1, 4, pos 0) ∷ (0, 2, 3, pos 1)
    ∷ (1, 3, 3, pos 1)
    ∷ (10, 1, 2, pos 0) ∷ (10, 1, 5, pos 0)
    ∷ (10, 3, 4, pos 0) ∷ (10, 3, 2, pos 0) ∷ (10, 3, 5, pos 0)
    ∷ (10, 2, 4, pos 0) ∷ (10, 2, 2, pos 0) ∷ (10, 2, 5, pos 0)
    ∷ []

abbrev four_lines : List PrintedLine
four_lines =
    (0, 1, 4, pos 0) ∷ (0, 2, 3, pos 1)
    ∷ (1, 3, 3, No.barred)
    ∷ (2, 4, 3, No.barred)
    ∷ (10, 1, 2, pos 0) ∷ (10, 1, 5, pos 0) ∷ (10, 2, 4, pos 0)
    ∷ (15, 2, 2, pos 0) ∷ (15, 2, 5, pos 0) ∷ (15, 4, 4, pos 0) ∷ (15, 4, 2, pos 0)
    ∷ (15, 2, 5, pos 1) ∷ (15, 3, 4, pos 0) ∷ (15, 3, 2, pos 0)
    ∷ (15, 4, 5, pos 0) ∷ (15, 3, 5, pos 1)
    ∷ []

pub further_models : List Case
unfolding four waiters
further_models =
    stops 0 [] (ran [] IDLE 0 (AT 0))
    ∷ to_end waiters (ran waiters_lines IDLE 14 (AT 14))
    ∷ to_end four (ran four_lines IDLE 20 (AT 20))
    ∷ []

pub the_further_models : seen further_models ≡ said further_models
unfolding shown further_models
the_further_models = refl

pub the_72_bytes : example
    ≡ 6 ∷ 0 ∷ 1 ∷ 0 ∷ 1 ∷ 0 ∷ 0 ∷ 0
    ∷ 4 ∷ 0 ∷ 5 ∷ 0 ∷ 0 ∷ 0
    ∷ 8 ∷ 0 ∷ 7 ∷ 0 ∷ 0 ∷ 0 ∷ 0 ∷ 0 ∷ 0 ∷ 0
    ∷ 8 ∷ 0 ∷ 7 ∷ 0 ∷ 0 ∷ 0 ∷ 0 ∷ 0 ∷ 0 ∷ 0
    ∷ 2 ∷ 0 ∷ 6 ∷ 0
    ∷ 12 ∷ 0 ∷ 25 ∷ 0 ∷ 1 ∷ 0 ∷ 0 ∷ 0 ∷ 0 ∷ 0 ∷ 1 ∷ 0 ∷ 0 ∷ 0
    ∷ 8 ∷ 0 ∷ 16 ∷ 0 ∷ 0 ∷ 0 ∷ 3 ∷ 0 ∷ 0 ∷ 0
    ∷ 8 ∷ 0 ∷ 21 ∷ 0 ∷ 0 ∷ 0 ∷ 1 ∷ 0 ∷ 0 ∷ 0 ∷ []
unfolding example
the_72_bytes = refl
