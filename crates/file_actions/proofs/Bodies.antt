-- What the body of an action's record says of the action: how long it is, and where the action's numbers, its expression, claim
-- or list stand in it.
-- Assumes nothing.
use Prim.Native.Nat.{ℕ, ◌+◌, ◌*◌, ◌≤◌}
use Rattle.std.proofs.Common.{arith, subst}
use Rattle.std.specs.Prelude.{◌≡◌, refl, leb, length}
use mathlib.Core.List.{List}
use borrow.Author.Tests.{eqb-true}
use Rattle.std.proofs.Math.ListN.{drop, length-drop, length-map}
use Rattle.std.proofs.Math.Seq.{get_or-drop}
use Rattle.semantics.specs.Model.{Expr, Action, HOLD, PRIO, TRACE, SET, LSET}
use Rattle.semantics.specs.Bytes.{u16, u32, parts}
use Rattle.semantics.specs.Record.{expression_in, claim_in, share_of, shares_in, branches_in, nothing}
use Rattle.semantics.specs.Record.{shares}
use Rattle.semantics.specs.Record.{Row, table, row_of}
use Rattle.promises.specs.Laws.{and-true, AllOf, ◌&◌}
use Rattle.promises.specs.Passes.{its_row}
use Rattle.promises.specs.Valued.{parts_many}
use Rattle.file_index.specs.Ties.{body_at, ActionAt}
use Rattle.file_index.proofs.Records.{Sized, sized_by}
use Rattle.file_actions.specs.Bodies.{Reads, ReadsExpression, Headed, Numbers, Amount, Starts, Says, SaysEntry, RowSays}

module _ (bs : List ℕ) where
  tail_reads : {A : Type 0} {r : Row} (read : List ℕ → A) → Sized r bs →
      Reads r.tail read (drop r.head bs) (read (drop r.head bs))
  tail_reads read s = (s.tail_sized, (s.tail_valid, refl))

  headed : {Rest : List ℕ → Type 0} → 2 ≤ length bs → Rest (drop 2 bs) → Headed (u16 bs 0) Rest bs
  headed l r = record { long = l; number_is = refl; rest = r }

  numbers : length bs ≡ 4 → Numbers (u16 bs 0) (u16 bs 2) bs
  numbers l = record { long = l; first_is = refl; second_is = refl }

  amount : length bs ≡ 6 → Amount (u16 bs 0) (u32 bs 2) bs
  amount l = record { long = l; number_is = refl; amount_is = refl }

  -- with no tail it is as long as its head
  no_tail : {r : Row} → r.tail ≡ nothing → Sized r bs → length bs ≡ r.head
  no_tail {r} e s =
      let b : List ℕ = drop r.head bs in
      omega (arith, eqb-true (length b) 0 (rw e at s.tail_sized), length-drop r.head bs, s.head_there)

  starts : 6 ≤ length bs → Reads shares shares_in (drop 6 bs) (shares_in (drop 6 bs)) →
      Starts (u16 bs 0) (u32 bs 2) (shares_in (drop 6 bs)) bs
  unfolding shares_in
  starts l s =
      let b : List ℕ = drop 6 bs in
      let n : u16 b 0 ≡ u16 bs 6 = omega (arith, get_or-drop 6 bs 0 0, get_or-drop 6 bs 1 0) in
      let e = eqb-true (length b) (2 + 6 * u16 b 0) (and-true (leb 2 (length b)) _ s.0).1 in
      record {
        long = omega (arith, length-drop 6 bs);
        class_is = refl;
        offset_is = refl;
        shares_are = s;
        shares_many = omega (arith, length-map (parts 6 (u16 b 0) (drop 2 b)) share_of, parts_many 6 (u16 b 0) (drop 2 b));
      }

  rows_say : AllOf (RowSays bs) table
  rows_say =
      (λ s. tt) & (λ s. tt) & (λ s. tt) & (λ s. tt) & (λ s. tt) & (λ s. tt) & (λ s. tt) & (λ s. tt)
      & (λ s. tail_reads expression_in s)
      & (λ s. tail_reads expression_in s)
      & (λ s. headed s.head_there (tail_reads expression_in s))
      & (λ s. headed s.head_there (tail_reads expression_in s))
      & (λ s. numbers (no_tail refl s))
      & (λ s. amount (no_tail refl s))
      & (λ s. amount (no_tail refl s))
      & (λ s. numbers (no_tail refl s))
      & (λ s. record { long = no_tail refl s; number_is = refl })
      & (λ s. tail_reads claim_in s)
      & (λ s. tail_reads branches_in s)
      & (λ s. headed s.head_there (tail_reads claim_in s))
      & (λ s. starts s.head_there (tail_reads shares_in s))
      & (λ s. tail_reads expression_in s)
      & (λ s. no_tail refl s)
      & tt

-- SO DOES THE RECORD of the action x that stands at byte p of the file bs.
pub told : {bs : List ℕ} {p : ℕ} {x : Action} → ActionAt bs p x → Says (body_at bs p) x
told {bs} {p} a =
    let b : List ℕ = body_at bs p in
    let k : ℕ = u16 (drop p bs) 2 in
    subst (SaysEntry b) a.says
    ((its_row (RowSays b) (rows_say b) k a.judged.grouped).0 (sized_by (row_of k) b a.judged.body_judged))

-- What `act_value::evaluate` asks of an expression's bytes, action by action.
module _ (bs : List ℕ) (p : ℕ) where
  pub expression_at : (e : Expr) → ActionAt bs p (HOLD e) → ReadsExpression (body_at bs p) e
  expression_at e a = told a

  pub prio_at : (e : Expr) → ActionAt bs p (PRIO e) → ReadsExpression (body_at bs p) e
  prio_at e a = told a

  pub trace_at : (e : Expr) → ActionAt bs p (TRACE e) → ReadsExpression (body_at bs p) e
  trace_at e a = told a

  pub set_at : (i : ℕ) (e : Expr) → ActionAt bs p (SET i e) → Headed i (λ l. ReadsExpression l e) (body_at bs p)
  set_at i e a = told a

  pub lset_at : (i : ℕ) (e : Expr) → ActionAt bs p (LSET i e) → Headed i (λ l. ReadsExpression l e) (body_at bs p)
  lset_at i e a = told a
