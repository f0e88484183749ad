-- Where the higher stand first, those behind whom one would join are those of its priority or a higher one. Assumes nothing.
use Rattle.std.specs.Prelude.{ℕ, ◌≡◌, refl, List, [], ◌∷◌, Bool, true, false, leb, take, ℤ}
use Rattle.std.proofs.Common.{arith, sym, ◌∙◌, ap, leb-true, leb-false, le-leb}
use Rattle.std.specs.Int.Signed.{le_z}
use Rattle.std.proofs.lemmas.Bool.{lt-leb}
use Rattle.semantics.specs.Words.{keep}
use Rattle.semantics.specs.State.{State, Waiter, nobody, process}
use Rattle.promises.specs.Fit.{I32}
use Rattle.promises.specs.Laws.{AllOf, all_map, all_get, no_way, Ordered}
use Rattle.promises.specs.Sound.{Below, Ranked}
use Rattle.promises.specs.Says.{says_below}
use Rattle.base_i32.specs.Code.{code}
use Rattle.base_i32.specs.Laws.{code_fits, code_order}
use Rattle.base_ordered.specs.Lines.{place_of, waiter_key}
use Rattle.row_work.specs.Work.{ProcessSized, WaiterSized, Sized}
use Rattle.row_lists.specs.Lists.{waiter_of}
use Rattle.row_lists.specs.Queues.{before}

-- The order of the keys is that of the priorities, turned round.
turned : (x y : Waiter) → I32 x.priority → I32 y.priority
    → leb (waiter_key y) (waiter_key x) ≡ le_z x.priority y.priority
turned x y h k = by (leb c d) refl ∙ code_order x.priority y.priority h k
  where
    c : ℕ
    c = code x.priority

    d : ℕ
    d = code y.priority

    by : (t : Bool) → leb c d ≡ t → leb (waiter_key y) (waiter_key x) ≡ leb c d
    by true e = let l = leb-true c d e in le-leb (waiter_key y) (waiter_key x) (omega arith) ∙ sym e
    by false e =
        let l = leb-false c d e in
        let f = code_fits x.priority h in
        lt-leb (waiter_key y) (waiter_key x) (omega arith) ∙ sym e

-- One that is not below y is not below what is below y.
not_below : (x y z : ℤ) → le_z x y ≡ false → Below z y → le_z x z ≡ false
not_below x y z e b = by (le_z x z) refl
  where
    by : (t : Bool) → le_z x z ≡ t → t ≡ false
    by true g =
        let a = (says_below x z).yes g in
        let c : Below x y = record { ups = omega arith; downs = omega arith } in
        no_way (sym e ∙ (says_below x y).back c)
    by false g = refl

none_kept : {A : Type 0} (q : A → Bool) (xs : List A) → AllOf (λ x. q x ≡ false) xs → keep q xs ≡ []
none_kept q [] h = refl
none_kept q (x ∷ xs) h = rw h.0 (none_kept q xs h.1)

pub front_kept : (x : Waiter) (ws : List Waiter) → I32 x.priority → AllOf WaiterSized ws → Ordered Ranked ws
    → take (before x ws) ws ≡ keep (λ w. le_z x.priority w.priority) ws
unfolding place_of
front_kept x [] h k o = refl
front_kept x (y ∷ ys) h k o =
    by (le_z x.priority y.priority) refl (turned x y h k.0.priority_ok) (front_kept x ys h k.1 o.1)
  where
    lower : le_z x.priority y.priority ≡ false → AllOf (λ w. le_z x.priority w.priority ≡ false) ys
    lower e =
        all_map (Ranked y) (λ w. le_z x.priority w.priority ≡ false)
        (λ z b. not_below x.priority y.priority z.priority e b) ys o.0

    by : (t : Bool) → le_z x.priority y.priority ≡ t → leb (waiter_key y) (waiter_key x) ≡ le_z x.priority y.priority
        → take (before x ys) ys ≡ keep (λ w. le_z x.priority w.priority) ys
        → take (before x (y ∷ ys)) (y ∷ ys) ≡ keep (λ w. le_z x.priority w.priority) (y ∷ ys)
    by true e f i = rw (f, e) (ap (λ l. y ∷ l) i)
    by false e f i =
        rw (f, e) (sym (none_kept (λ w. le_z x.priority w.priority) ys (lower e)))

-- Those in front of the process in place p among the blocked.
pub in_front_taken : (s : State) (p : ℕ) → Sized s → Ordered Ranked s.blocked
    → take (before (waiter_of s p) s.blocked) s.blocked ≡ keep (λ w. le_z (process s p).priority w.priority) s.blocked
in_front_taken s p h o =
    front_kept (waiter_of s p) s.blocked
    (all_get ProcessSized s.processes p nobody h.processes_ok (omega arith)).priority_ok h.blocked_ok.each o
