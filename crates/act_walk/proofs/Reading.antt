-- What is read of the work and of the map. Assumes nothing.
use Prim.Native.Nat.{ℕ, ◌+◌, ◌≤◌}
use mathlib.Core.Path.{◌≡◌, refl, ◌∙◌, ap}
use mathlib.Core.List.{List, [], ◌∷◌, map}
use mathlib.Core.Bool.{not}
use mathlib.Core.Option.{some}
use lib.Dec.{eqb}
use lib.ListN.{length, get_or, get_elem?}
use Rattle.semantics.specs.Model.{Branch, Action, HOLD, PRIO, TRACE, SET, LSET, DO, PUTR, PUTB, PUTS, BECOME, REQ, TRY, WHILE}
use Rattle.semantics.specs.Model.{START, CLOSE}
use Rattle.semantics.specs.Bytes.{u16}
use Rattle.semantics.specs.State.{State}
use Rattle.semantics.specs.Claim.{Offer, enter_block, offers}
use Rattle.promises.specs.Laws.{AllOf, all_at}
use Rattle.file_actions.proofs.ByKind.{kind_of_lem}
use Rattle.row_work.specs.Blocked.{blocked_count}
use Rattle.row_process.specs.Process.{Shown}
use Rattle.row_grant.specs.Grant.{into_block}
use Rattle.act_walk.specs.Walking.{AtAction, entered_by}

-- A WORK that shows a state.
module _ {w : List ℕ} {P : State → Type 0} (v : Shown w P) where
  pub count_is : get_or w 6 0 ≡ length v.is.blocked
  count_is = ap (λ l. get_or l 6 0) v.shows ∙ blocked_count v.is

  pub count_low : get_or w 6 0 ≤ 64
  count_low = rw count_is v.sized.blocked_ok.few

-- AN ACTION of the map, by its kind;
pub entered : {bs row : List ℕ} {a : ℕ} (v : AtAction bs row a) (place kind : ℕ) → place ≡ get_or row (257 + a) 0
    → kind ≡ u16 bs (place + 2) → not (eqb kind 25) ≡ entered_by v.action
entered {bs} v place kind e f = ap (λ n. not (eqb n 25)) (f ∙ ap (λ q. u16 bs (q + 2)) e ∙ kind_of_lem v.there)

-- so each of its branches enters a block, or none does.
branches_enter : (us bs : List Branch)
    → AllOf (λ o. entered_by (TRY us) ≡ into_block o.and_then)
    (map {B = Offer} (λ b. record { claim = b.claim; and_then = enter_block b.block }) bs)
branches_enter us [] = tt
branches_enter us (b ∷ bs) = (refl, branches_enter us bs)

offers_enter : (x : Action) → AllOf (λ o. entered_by x ≡ into_block o.and_then) (offers x)
offers_enter (HOLD e) = tt
offers_enter (PRIO e) = tt
offers_enter (TRACE e) = tt
offers_enter (SET i e) = tt
offers_enter (LSET i e) = tt
offers_enter (DO n b) = tt
offers_enter (PUTR i n) = tt
offers_enter (PUTB i n) = tt
offers_enter (PUTS i n) = tt
offers_enter (BECOME i) = tt
offers_enter (REQ c) = (refl, tt)
offers_enter (TRY bs) = branches_enter bs bs
offers_enter (WHILE b c) = (refl, tt)
offers_enter (START c t h) = tt
offers_enter CLOSE = tt

pub offer_enters : (x : Action) (i : ℕ) (o : Offer) → get_elem? (offers x) i ≡ some o → entered_by x ≡ into_block o.and_then
offer_enters x i o e = all_at (λ o. entered_by x ≡ into_block o.and_then) (offers x) i o (offers_enter x) e
