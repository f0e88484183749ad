-- A model: what a model file that is not refused says (document 01, "The model file").
-- Assumes nothing.
use Rattle.std.specs.Prelude.{ℕ, List, [], get_or, ℤ, pos}
use Rattle.semantics.specs.Kinds as K

-- 0 literal, 1 global, 2 local, 3 add, 4 subtract, 5 multiply, 6 lesser, 7 greater, 8 clock, 9 negate, 10 draw
pub data Expr : Type 0 where
  literal : ℤ → Expr
  global local : ℕ → Expr
  add subtract multiply lesser greater : Expr → Expr → Expr
  the_clock : Expr
  negate : Expr → Expr
  draw : ℕ → Expr  -- from this sampler

-- What a claim can get: 0 getR, 1 getB, 2 getS.
pub data Kind : Type 0 where
  resource bin sync : Kind

-- 1 `<`, 2 `<=`, 3 `=`, 4 `<>`, 5 `>=`, 6 `>`
pub data Relation : Type 0 where
  below at_most equals differs at_least above : Relation

pub data Item : Type 0 where
  get : Kind → ℕ → ℕ → Item  -- of what kind, its number, the amount
  condition : ℕ → Relation → ℤ → Item  -- global variable, relation, amount

abbrev pub Claim : Type 0
Claim = List Item

-- A branch of a TRY.
pub record Branch : Type 0 where
  pub block : ℕ
  pub claim : Claim

-- What a START hands over of one resource.
pub record Share : Type 0 where
  pub of : ℕ
  pub amount : ℕ

pub data Action : Type 0 where
  HOLD PRIO TRACE : Expr → Action
  SET LSET : ℕ → Expr → Action  -- variable or local, expression
  DO : ℕ → ℕ → Action  -- rounds, block
  PUTR PUTB PUTS : ℕ → ℕ → Action  -- number, amount or count
  BECOME : ℕ → Action  -- sync
  REQ : Claim → Action
  TRY : List Branch → Action
  WHILE : ℕ → Claim → Action  -- block, claim
  START : ℕ → ℕ → List Share → Action  -- class, offset, what is handed over
  CLOSE : Action

-- The kind of an action's record.
abbrev pub kind_of : Action → ℕ
kind_of (HOLD e) = K.HOLD
kind_of (PRIO e) = K.PRIO
kind_of (SET i e) = K.SET
kind_of (LSET i e) = K.LSET
kind_of (DO n b) = K.DO
kind_of (PUTR i n) = K.PUTR
kind_of (PUTB i n) = K.PUTB
kind_of (PUTS i n) = K.PUTS
kind_of (BECOME i) = K.BECOME
kind_of (REQ c) = K.REQ
kind_of (TRY bs) = K.TRY
kind_of (WHILE b c) = K.WHILE
kind_of (START c t h) = K.START
kind_of (TRACE e) = K.TRACE
kind_of CLOSE = K.CLOSE

pub record Entity : Type 0 where
  pub class : ℕ
  pub offset : ℕ

-- What is drawn lies in lowest..highest; the seed is the one that it starts with (document 02, One).
pub record Sampler : Type 0 where
  pub lowest : ℤ
  pub highest : ℤ
  pub seed : ℕ

-- Things of one kind stand in file order, so that their numbers are their indices.
pub record Model : Type 0 where
  pub totals : List ℕ  -- of the RES
  pub amounts : List ℕ  -- that the BINs start with
  pub syncs : ℕ  -- how many
  pub vars : List ℤ  -- the values that the VARs start with
  pub classes : List ℕ  -- their body blocks
  pub entities : List Entity
  pub samplers : List Sampler
  pub blocks : List (List Action)

-- The actions of block b, and the body block of class c.
abbrev pub block : Model → ℕ → List Action
block m b = get_or m.blocks b []

abbrev pub body : Model → ℕ → ℕ
body m c = get_or m.classes c 0

-- Sampler i. One that isn't declared isn't drawn from (check 8).
abbrev pub sampler : Model → ℕ → Sampler
sampler m i = get_or m.samplers i (record { lowest = pos 0; highest = pos 0; seed = 0 })
