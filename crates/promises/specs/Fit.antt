-- What a model that passes 1 to 10 is, as far as the promises need it: Fit, Nested, and Forward where its bound is a number.
-- Assumes nothing.
use Rattle.std.specs.Prelude.{ℕ, ◌≤◌, ◌<◌, ◌≡◌, Bool, true, false, ◌&&◌, eqb, length, ℤ}
use Rattle.std.specs.Int.Signed.{mag, le_z}
use Rattle.semantics.specs.Numbers as No
use Rattle.semantics.specs.Model.{Expr, literal, global, local, add, subtract, multiply, lesser, greater, negate, the_clock, draw}
use Rattle.semantics.specs.Model.{Item, get, condition, Claim, Branch, Share, Entity, Action, HOLD, PRIO, TRACE, SET, LSET, DO}
use Rattle.semantics.specs.Model.{PUTR, PUTB, PUTS, BECOME, REQ, TRY, WHILE, START, CLOSE, Kind, resource, bin, sync, Sampler}
use Rattle.semantics.specs.Model.{Model, block, body}
use Rattle.semantics.specs.Decode.{inner, depth}
use Rattle.semantics.specs.Claim.{same_kind}
use Rattle.promises.specs.Laws.{AllOf, Ordered, over}

abbrev pub I32 : ℤ → Type 0
I32 v = mag v < 2_147_483_648

-- lo..hi
pub record Within (lo hi n : ℕ) : Type 0 where
  pub low : lo ≤ n
  pub high : n ≤ hi

-- Its literals are in the i32 range, its variables and samplers are declared, its locals are 0..7.
abbrev pub ExprFit : Model → Expr → Type 0
ExprFit m (literal v) = I32 v
ExprFit m (global i) = i < length m.vars
ExprFit m (local i) = i < No.locals
ExprFit m (add a b) = ExprFit m a × ExprFit m b
ExprFit m (subtract a b) = ExprFit m a × ExprFit m b
ExprFit m (multiply a b) = ExprFit m a × ExprFit m b
ExprFit m (lesser a b) = ExprFit m a × ExprFit m b
ExprFit m (greater a b) = ExprFit m a × ExprFit m b
ExprFit m (negate a) = ExprFit m a
ExprFit m the_clock = Unit {0}
ExprFit m (draw i) = i < length m.samplers

-- How many things of a kind are declared.
abbrev pub declared : Model → Kind → ℕ
declared m resource = length m.totals
declared m bin = length m.amounts
declared m sync = m.syncs

abbrev pub ItemFit : Model → Item → Type 0
ItemFit m (get k i n) = (i < declared m k) × Within 1 No.top_amount n
ItemFit m (condition i r v) = (i < length m.vars) × I32 v

-- Two items that name one resource, bin or sync.
abbrev pub clash : Item → Item → Bool
clash (get k i n) (get l j o) = same_kind k l && eqb i j
clash (get k i n) (condition j r v) = false
clash (condition i r v) y = false

abbrev pub Apart : Item → Item → Type 0
Apart x y = clash x y ≡ false

abbrev pub ClaimFit : Model → Claim → Type 0
ClaimFit m c = (length c ≤ No.most_items) × AllOf (ItemFit m) c × Ordered Apart c

abbrev pub BranchFit : Model → Branch → Type 0
BranchFit m b = (b.block < length m.blocks) × ClaimFit m b.claim

abbrev pub ShareFit : Model → Share → Type 0
ShareFit m x = (x.of < length m.totals) × Within 1 No.top_amount x.amount

abbrev pub SharesApart : Share → Share → Type 0
SharesApart x y = eqb x.of y.of ≡ false

abbrev pub ActFit : Model → Action → Type 0
ActFit m (HOLD e) = ExprFit m e
ActFit m (PRIO e) = ExprFit m e
ActFit m (TRACE e) = ExprFit m e
ActFit m (SET i e) = (i < length m.vars) × ExprFit m e
ActFit m (LSET i e) = (i < No.locals) × ExprFit m e
ActFit m (DO n b) = b < length m.blocks
ActFit m (PUTR i n) = (i < length m.totals) × Within 1 No.top_amount n
ActFit m (PUTB i n) = (i < length m.amounts) × Within 1 No.top_amount n
ActFit m (PUTS i n) = (i < m.syncs) × Within 1 No.most_slaves n
ActFit m (BECOME i) = i < m.syncs
ActFit m (REQ c) = ClaimFit m c
ActFit m (TRY bs) = Within 1 No.most_branches (length bs) × AllOf (BranchFit m) bs
ActFit m (WHILE b c) = (b < length m.blocks) × ClaimFit m c
ActFit m (START c t h) =
    (c < length m.classes) × (t ≤ No.top_amount) × (length h ≤ No.most_items) × AllOf (ShareFit m) h × Ordered SharesApart h
ActFit m CLOSE = Unit {0}

abbrev pub EntityFit : Model → Entity → Type 0
EntityFit m e = (e.class < length m.classes) × (e.offset ≤ No.top_amount)

pub record SamplerFit (x : Sampler) : Type 0 where
  pub lowest_fits : I32 x.lowest
  pub highest_fits : I32 x.highest
  pub not_above : le_z x.lowest x.highest ≡ true
  pub seed_fits : Within 1 No.last_seed x.seed

pub record Fit (m : Model) : Type 0 where
  pub acts : (b : ℕ) → AllOf (ActFit m) (block m b)
  pub totals_fit : AllOf (λ n. n ≤ No.top_amount) m.totals
  pub amounts_fit : AllOf (λ n. n ≤ No.top_amount) m.amounts
  pub vars_fit : AllOf I32 m.vars
  pub entities_fit : AllOf (EntityFit m) m.entities
  pub samplers_fit : AllOf SamplerFit m.samplers
  pub few_totals : length m.totals ≤ No.most_things
  pub few_amounts : length m.amounts ≤ No.most_things
  pub few_syncs : m.syncs ≤ No.most_things
  pub few_vars : length m.vars ≤ No.most_things
  pub few_classes : length m.classes ≤ No.most_classes
  pub few_blocks : length m.blocks ≤ No.most_blocks
  pub few_entities : length m.entities ≤ No.most_entities
  pub few_samplers : length m.samplers ≤ No.most_samplers
  pub few_actions : over length m.blocks ≤ No.most_actions

-- A block names later ones, which there are, and so does a class.
pub record Linked (m : Model) : Type 0 where
  pub later : (b : ℕ) → AllOf (λ a. AllOf (λ k. (b < k) × (k < length m.blocks)) (inner a)) (block m b)
  pub there : AllOf (λ b. b < length m.blocks) m.classes

-- And a class body nests 8 blocks at most.
pub record Nested (m : Model) : Type 0 where
  pub later : (b : ℕ) → AllOf (λ a. AllOf (λ k. (b < k) × (k < length m.blocks)) (inner a)) (block m b)
  pub bodies : AllOf (λ b. (b < length m.blocks) × (depth m b ≤ No.deepest)) m.classes

-- An action of block b is no WHILE, goes into later blocks only, and starts later class bodies only.
abbrev pub GoesForward : Model → ℕ → Action → Type 0
GoesForward m b (HOLD e) = Unit {0}
GoesForward m b (PRIO e) = Unit {0}
GoesForward m b (TRACE e) = Unit {0}
GoesForward m b (SET i e) = Unit {0}
GoesForward m b (LSET i e) = Unit {0}
GoesForward m b (DO n k) = b < k
GoesForward m b (PUTR i n) = Unit {0}
GoesForward m b (PUTB i n) = Unit {0}
GoesForward m b (PUTS i n) = Unit {0}
GoesForward m b (BECOME i) = Unit {0}
GoesForward m b (REQ c) = Unit {0}
GoesForward m b (TRY bs) = AllOf (λ x. b < x.block) bs
GoesForward m b (WHILE k c) = ⊥
GoesForward m b (START c t h) = b < body m c
GoesForward m b CLOSE = Unit {0}

pub record Forward (m : Model) : Type 0 where
  pub forward : (b : ℕ) → AllOf (GoesForward m b) (block m b)
