-- What was first in the event list, by its word: it is one of three kinds, and is asked for accordingly. Assumes nothing.
use Prim.Native.Nat.{ℕ, ◌≤◌, ◌<◌}
use native.Mathlib.Omega.{arith}
use mathlib.Core.Path.{◌≡◌, refl, sym, ◌∙◌, ap, subst}
use mathlib.Core.List.{List}
use lib.IntN.{ℤ}
use Rattle.semantics.specs.Numbers.{of_returns}
use Rattle.semantics.specs.State.{Notice, wakes, returns_r, returns_b, held_by, with_floor}
use Rattle.semantics.specs.Step.{moves, occurs}
use Rattle.promises.specs.Sound.{noticed, gives, ReturnOk, NoticeOk, Held}
use Rattle.base_ordered.specs.Order.{number-packed, amount-packed, giver-packed}
use Rattle.base_ordered.specs.Lines.{packed, kind_of, number_of, amount_of, giver_of, data_of}
use Rattle.row_work.specs.Work.{NoticeSized, FloorSized}
use Rattle.act_return.specs.Returning.{Returning}
use Rattle.act_step.specs.Steps.{Waking, Occurring}

-- A NOTICE is told by its word.
is_wake : (e : Notice) → NoticeSized e → kind_of (data_of e) ≡ 0 → e ≡ wakes (number_of (data_of e))
is_wake (wakes p) h k = ap wakes (sym (number-packed 0 p 0 0 (omega arith) (omega arith) (omega arith)))
is_wake (returns_r i n g) h k = absurd (omega arith)
is_wake (returns_b i n g) h k = absurd (omega arith)

abbrev back : (ℕ → ℕ → ℕ → Notice) → ℕ → Notice
back r d = r (number_of d) (amount_of d) (giver_of d)

unpacked : (r : ℕ → ℕ → ℕ → Notice) (k i n g : ℕ) → k < 4 → i < 32 → n ≤ 1_000_000 → r i n g ≡ back r (packed k i n g)
unpacked r k i n g a b c =
    let d : ℕ = packed k i n g in
    let l : i < 64 = omega arith in
    let m : n < 1_048_576 = omega arith in
    ap (λ x. r x n g) (sym (number-packed k i n g a l m))
    ∙ ap (λ x. r (number_of d) x g) (sym (amount-packed k i n g a l m))
    ∙ ap (r (number_of d) (amount_of d)) (sym (giver-packed k i n g a l m))

is_resource : (e : Notice) → NoticeSized e → kind_of (data_of e) ≡ 1 → e ≡ back returns_r (data_of e)
is_resource (wakes p) h k = absurd (omega arith)
is_resource (returns_r i n g) h k = unpacked returns_r 1 i n g (omega arith) h.0 h.1.0
is_resource (returns_b i n g) h k = absurd (omega arith)

is_bin : (e : Notice) → NoticeSized e → (kind_of (data_of e) ≡ 0 → ⊥) → (kind_of (data_of e) ≡ 1 → ⊥)
    → e ≡ back returns_b (data_of e)
is_bin (wakes p) h a b = absurd (a (omega arith))
is_bin (returns_r i n g) h a b = absurd (b (omega arith))
is_bin (returns_b i n g) h a b = unpacked returns_b 2 i n g (omega arith) h.0 h.1.0

-- Its priority is known.
pub ranked : {known n i a g : ℕ} {x : ℤ} → ReturnOk known n x i a g → ReturnOk known n of_returns i a g
ranked r = record { is_low = refl; is_known = r.is_known; amount_ok = r.amount_ok; giver_ok = r.giver_ok }

module _ {bs map w : List ℕ} {word : ℕ} (v : Occurring bs map w word) where
  -- The floor is nobody's: that fits into its word.
  pub floor_fits : FloorSized v.run.is.floor
  floor_fits = rw v.nobody_has tt

  -- A PROCESS in place p takes the floor.
  module _ {k p : ℕ} (kind_is : k ≡ kind_of word) (place_is : p ≡ number_of word) (zero_is : k ≡ 0) where
    pub it_wakes : v.notice ≡ wakes p
    it_wakes =
        is_wake v.notice v.notice_small (ap kind_of (sym v.word_is) ∙ sym kind_is ∙ zero_is)
        ∙ ap wakes (ap number_of (sym v.word_is) ∙ sym place_is)

    abbrev pub waking : Waking bs map w p
    waking =
        record {
          run = v.run;
          mapped = v.mapped;
          not_closed = v.not_closed;
          nobody_has = v.nobody_has;
          sound = rw it_wakes at v.holds;
        }

    pub wakes_as : occurs v.run.model v.run.is v.notice ≡ moves v.run.model (with_floor v.run.is (held_by p)) p
    unfolding occurs
    wakes_as = ap (occurs v.run.model v.run.is) it_wakes

  -- SOMETHING comes back.
  module _ {k : ℕ} (kind_is : k ≡ kind_of word) where
    same_kind : kind_of (data_of v.notice) ≡ k
    same_kind = ap kind_of (sym v.word_is) ∙ sym kind_is

    module _ {i n g : ℕ} (number_is : i ≡ number_of word) (amount_is : n ≡ amount_of word) (giver_is : g ≡ giver_of word) where
      said_back : (r : ℕ → ℕ → ℕ → Notice) → v.notice ≡ back r (data_of v.notice) → v.notice ≡ r i n g
      said_back r e =
          e ∙ ap (back r) (sym v.word_is) ∙ ap (λ x. r x (amount_of word) (giver_of word)) (sym number_is)
          ∙ ap (λ x. r i x (giver_of word)) (sym amount_is) ∙ ap (r i n) (sym giver_is)

      pub resource_comes : k ≡ 1 → v.notice ≡ returns_r i n g
      resource_comes e = said_back returns_r (is_resource v.notice v.notice_small (same_kind ∙ e))

      pub bin_comes : (k ≡ 0 → ⊥) → (k ≡ 1 → ⊥) → v.notice ≡ returns_b i n g
      bin_comes a b =
          said_back returns_b
          (is_bin v.notice v.notice_small (λ e. a (sym same_kind ∙ e)) (λ e. b (sym same_kind ∙ e)))

  -- e is what comes back; a return tells its priority.
  module _ {e : Notice} (is_e : v.notice ≡ e) where
    pub told_as : NoticeOk v.run.model v.run.is.last v.run.is.processes v.priority e
    told_as = subst (NoticeOk v.run.model v.run.is.last v.run.is.processes v.priority) is_e v.tells

    pub held_as : Held v.run.model v.run.is v.run.is.blocked (λ k. noticed k e) (λ j. gives j e)
    held_as =
        subst (λ x. Held v.run.model v.run.is v.run.is.blocked (λ k. noticed k x) (λ j. gives j x)) is_e v.holds

    abbrev pub returning : NoticeOk v.run.model v.run.is.last v.run.is.processes of_returns e → Returning bs map w e
    returning tells =
        record {
          run = v.run;
          mapped = v.mapped;
          in_hand = λ k. noticed k e;
          holds = held_as;
          floor_ok = floor_fits;
          tells = tells;
        }

  module _ {i n g : ℕ} where
    abbrev pub resource_back : v.notice ≡ returns_r i n g → Returning bs map w (returns_r i n g)
    resource_back e = returning e (ranked (told_as e))

    abbrev pub bin_back : v.notice ≡ returns_b i n g → Returning bs map w (returns_b i n g)
    bin_back e = returning e (ranked (told_as e))
