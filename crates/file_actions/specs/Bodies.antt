-- What the body of an action's record says of the action: how long it is, and where the action's numbers, its expression, claim
-- or list stand in it.
-- Assumes nothing.
use Prim.Native.Nat.{ℕ, ◌+◌, ◌*◌, ◌≤◌}
use Rattle.std.specs.Prelude.{◌≡◌, true, length}
use mathlib.Core.List.{List}
use Rattle.std.proofs.Math.Option.{some}
use Rattle.std.proofs.Math.ListN.{drop, get_elem?}
use Rattle.semantics.specs.Model.{Expr, Share, Action, HOLD, PRIO, TRACE, SET, LSET, DO, PUTR, PUTB, PUTS, BECOME, REQ, TRY}
use Rattle.semantics.specs.Model.{WHILE, START, CLOSE, Model, block}
use Rattle.semantics.specs.Bytes.{u16, u32}
use Rattle.semantics.specs.Record.{expression_in, claim_in, shares_in, branches_in, Tail, expression, branches}
use Rattle.semantics.specs.Record.{claim, shares, sized, valid, Entry, RES, BIN, SYNC, VAR, CLASS, BLOCK, ENTITY, SAMPLER}
use Rattle.semantics.specs.Record.{ACTION, Row}
use Rattle.promises.specs.Laws.{all_at}
use Rattle.promises.specs.Fit.{ExprFit, ActFit, Fit}
use Rattle.file_index.proofs.Records.{Sized}

-- bs is a tail of the form t, in its size and its numbers, and is read as a.
abbrev pub Reads : {A : Type 0} → Tail → (List ℕ → A) → List ℕ → A → Type 0
Reads t read bs a = (sized t bs ≡ true) × ((valid t bs ≡ true) × (read bs ≡ a))

abbrev pub ReadsExpression : List ℕ → Expr → Type 0
ReadsExpression = Reads expression expression_in

-- THE BODIES: a number and then a tail; a number alone; two; a number and an amount; what a START says.
pub record Headed (i : ℕ) (Rest : List ℕ → Type 0) (bs : List ℕ) : Type 0 where
  pub long : 2 ≤ length bs
  pub number_is : u16 bs 0 ≡ i
  pub rest : Rest (drop 2 bs)

pub record Number (i : ℕ) (bs : List ℕ) : Type 0 where
  pub long : length bs ≡ 2
  pub number_is : u16 bs 0 ≡ i

pub record Numbers (i n : ℕ) (bs : List ℕ) : Type 0 where
  pub long : length bs ≡ 4
  pub first_is : u16 bs 0 ≡ i
  pub second_is : u16 bs 2 ≡ n

pub record Amount (i n : ℕ) (bs : List ℕ) : Type 0 where
  pub long : length bs ≡ 6
  pub number_is : u16 bs 0 ≡ i
  pub amount_is : u32 bs 2 ≡ n

pub record Starts (c t : ℕ) (h : List Share) (bs : List ℕ) : Type 0 where
  pub long : length bs ≡ 8 + 6 * u16 bs 6
  pub class_is : u16 bs 0 ≡ c
  pub offset_is : u32 bs 2 ≡ t
  pub shares_are : Reads shares shares_in (drop 6 bs) h
  pub shares_many : u16 bs 6 ≡ length h

-- What the body bs says of an action.
abbrev pub Says : List ℕ → Action → Type 0
Says bs (HOLD e) = ReadsExpression bs e
Says bs (PRIO e) = ReadsExpression bs e
Says bs (TRACE e) = ReadsExpression bs e
Says bs (SET i e) = Headed i (λ l. ReadsExpression l e) bs
Says bs (LSET i e) = Headed i (λ l. ReadsExpression l e) bs
Says bs (DO n b) = Numbers n b bs
Says bs (PUTR i n) = Amount i n bs
Says bs (PUTB i n) = Amount i n bs
Says bs (PUTS i n) = Numbers i n bs
Says bs (BECOME i) = Number i bs
Says bs (REQ c) = Reads claim claim_in bs c
Says bs (TRY l) = Reads branches branches_in bs l
Says bs (WHILE b c) = Headed b (λ l. Reads claim claim_in l c) bs
Says bs (START c t h) = Starts c t h bs
Says bs CLOSE = length bs ≡ 0

-- EVERY ROW of the table says so, where the body has passed its checks.
abbrev pub SaysEntry : List ℕ → Entry → Type 0
SaysEntry bs (RES n) = Unit {0}
SaysEntry bs (BIN n) = Unit {0}
SaysEntry bs SYNC = Unit {0}
SaysEntry bs (VAR v) = Unit {0}
SaysEntry bs (CLASS b) = Unit {0}
SaysEntry bs BLOCK = Unit {0}
SaysEntry bs (ENTITY x) = Unit {0}
SaysEntry bs (SAMPLER x) = Unit {0}
SaysEntry bs (ACTION x) = Says bs x

abbrev pub RowSays : List ℕ → Row → Type 0
RowSays bs r = Sized r bs → SaysEntry bs (r.says bs)

-- And that it fits the model: each action of a block does.
module _ (m : Model) where
  pub act_fits : Fit m → (b j : ℕ) (x : Action) → get_elem? (block m b) j ≡ some x → ActFit m x
  act_fits f b j x e = all_at (ActFit m) (block m b) j x (f.acts b) e

  pub expression_fits : (bs : List ℕ) (e : Expr) → ReadsExpression bs e → ExprFit m e → ExprFit m (expression_in bs)
  expression_fits bs e r h = rw r.1.1 h
