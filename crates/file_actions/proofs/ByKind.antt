-- The kind of a record, and the action that a kind is.
-- Assumes nothing.
use Rattle.std.specs.Prelude.{ℕ, ◌≡◌, refl, List, drop}
use Rattle.std.proofs.Common.{arith, sym, ◌∙◌, ap, subst}
use Rattle.semantics.specs.Kinds as K
use Rattle.semantics.specs.Model.{Expr, Claim, Branch, Share, Action, HOLD, PRIO, TRACE, SET, LSET, DO, PUTR, PUTB, PUTS}
use Rattle.semantics.specs.Model.{BECOME, REQ, TRY, WHILE, START, CLOSE, kind_of}
use Rattle.semantics.specs.Bytes.{u16}
use Rattle.semantics.specs.Record.{table}
use Rattle.promises.specs.Laws.{AllOf}
use Rattle.promises.specs.Passes.{its_row}
use Rattle.file_index.specs.Ties.{kind_at, body_at, ActionAt}
use Rattle.file_actions.specs.Kinds.{kind_in, SaysKind, OfKind}

rows_say : (bs : List ℕ) → AllOf (SaysKind bs) table
rows_say = omega arith

its_kind : (x : Action) → OfKind (kind_of x) x
its_kind (HOLD e) = (e, refl)
its_kind (PRIO e) = (e, refl)
its_kind (SET i e) = (i, e, refl)
its_kind (LSET i e) = (i, e, refl)
its_kind (DO n b) = (n, b, refl)
its_kind (PUTR i n) = (i, n, refl)
its_kind (PUTB i n) = (i, n, refl)
its_kind (PUTS i n) = (i, n, refl)
its_kind (BECOME i) = (i, refl)
its_kind (REQ c) = (c, refl)
its_kind (TRY bs) = (bs, refl)
its_kind (WHILE b c) = (b, c, refl)
its_kind (START c t h) = (c, t, h, refl)
its_kind (TRACE e) = (e, refl)
its_kind CLOSE = refl

-- AT BYTE p of the file bs stands the record of the action x.
module _ {bs : List ℕ} {p : ℕ} {x : Action} (a : ActionAt bs p x) where
  pub kind_of_lem : kind_at bs p ≡ kind_of x
  kind_of_lem =
      let b : List ℕ = body_at bs p in
      let r = its_row (SaysKind b) (rows_say b) (u16 (drop p bs) 2) a.judged.grouped in
      a.kind_is ∙ r.1 ∙ r.0 ∙ ap kind_in a.says

  -- By its kind it is known; below, kind by kind.
  pub of_kind : (k : ℕ) → kind_at bs p ≡ k → OfKind k x
  of_kind k e = subst (λ n. OfKind n x) (sym kind_of_lem ∙ e) (its_kind x)

  pub is_hold : kind_at bs p ≡ K.HOLD → (e : Expr) × (x ≡ HOLD e)
  is_hold = of_kind K.HOLD

  pub is_prio : kind_at bs p ≡ K.PRIO → (e : Expr) × (x ≡ PRIO e)
  is_prio = of_kind K.PRIO

  pub is_set : kind_at bs p ≡ K.SET → (i : ℕ) × (e : Expr) × (x ≡ SET i e)
  is_set = of_kind K.SET

  pub is_lset : kind_at bs p ≡ K.LSET → (i : ℕ) × (e : Expr) × (x ≡ LSET i e)
  is_lset = of_kind K.LSET

  pub is_do : kind_at bs p ≡ K.DO → (n : ℕ) × (b : ℕ) × (x ≡ DO n b)
  is_do = of_kind K.DO

  pub is_putr : kind_at bs p ≡ K.PUTR → (i : ℕ) × (n : ℕ) × (x ≡ PUTR i n)
  is_putr = of_kind K.PUTR

  pub is_putb : kind_at bs p ≡ K.PUTB → (i : ℕ) × (n : ℕ) × (x ≡ PUTB i n)
  is_putb = of_kind K.PUTB

  pub is_puts : kind_at bs p ≡ K.PUTS → (i : ℕ) × (n : ℕ) × (x ≡ PUTS i n)
  is_puts = of_kind K.PUTS

  pub is_become : kind_at bs p ≡ K.BECOME → (i : ℕ) × (x ≡ BECOME i)
  is_become = of_kind K.BECOME

  pub is_req : kind_at bs p ≡ K.REQ → (c : Claim) × (x ≡ REQ c)
  is_req = of_kind K.REQ

  pub is_try : kind_at bs p ≡ K.TRY → (l : List Branch) × (x ≡ TRY l)
  is_try = of_kind K.TRY

  pub is_while : kind_at bs p ≡ K.WHILE → (b : ℕ) × (c : Claim) × (x ≡ WHILE b c)
  is_while = of_kind K.WHILE

  pub is_start : kind_at bs p ≡ K.START → (c : ℕ) × (t : ℕ) × (h : List Share) × (x ≡ START c t h)
  is_start = of_kind K.START

  pub is_trace : kind_at bs p ≡ K.TRACE → (e : Expr) × (x ≡ TRACE e)
  is_trace = of_kind K.TRACE

  pub is_close : kind_at bs p ≡ K.CLOSE → x ≡ CLOSE
  is_close = of_kind K.CLOSE
