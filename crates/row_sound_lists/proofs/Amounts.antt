-- The amounts of each resource: free, held and returning. Assumes nothing.
use Rattle.std.specs.Prelude.{if◌then◌else◌}
use Prim.Native.Nat.{ℕ, ◌+◌, ◌<◌}
use native.Mathlib.Omega.{arith}
use mathlib.Core.Path.{◌≡◌, sym, ◌∙◌, ap}
use mathlib.Core.List.{List}
use mathlib.Core.Bool.{◌&&◌}
use lib.Dec.{eqb}
use lib.ListN.{length, get_or}
use Rattle.semantics.specs.Numbers as No
use Rattle.semantics.specs.Model.{Model}
use Rattle.semantics.specs.State.{State, Notice, wakes, returns_r, returns_b, nobody}
use Rattle.semantics.specs.Sound.{returning, held_of, returning_of, adds_up}
use Rattle.base_numbers.specs.Word as Word
use Rattle.base_numbers.specs.Limit as Limit
use Rattle.base_ordered.specs.Lines.{packed, kind_of, number_of, amount_of, data_of}
use Rattle.base_ordered.specs.Order.{kind_packed, number-packed, amount-packed}
use Rattle.row_work.specs.Work.{NoticeSized}
use Rattle.row_process.specs.Process.{Shown}
use Rattle.row_lists.proofs.Events as Ev
use Rattle.row_sound_lists.specs.Tests.{each, held_all, returning_all, amounts_add}
use Rattle.row_sound_lists.specs.Counted.{Things, Shaped}
use Rattle.row_sound_lists.proofs.Indices.{each_same, tally-over}
use Rattle.row_sound_lists.proofs.Reading.{no_event, free_is, held_at, word_at, event_sized}

-- What a word returns of resource i.
abbrev back : (i word : ℕ) → ℕ
back i word = if eqb (kind_of word) 1 && eqb i (number_of word) then amount_of word else 0

notice_is : (i : ℕ) (n : Notice) → NoticeSized n → back i (data_of n) ≡ returning i n
notice_is i (wakes p) h =
    ap (λ k. if eqb k 1 && eqb i (number_of (packed 0 p 0 0)) then amount_of (packed 0 p 0 0) else 0)
    (kind_packed 0 p 0 0 (omega arith) h (omega arith))
notice_is i (returns_r j n g) h =
    let word : ℕ = packed 1 j n g in
    let a : j < Word.NUMBERS = omega (arith, h.0) in
    let b : n < Word.AMOUNTS = omega (arith, h.1.0) in
    ap (λ k. if eqb k 1 && eqb i (number_of word) then amount_of word else 0) (kind_packed 1 j n g (omega arith) a b)
    ∙ ap (λ k. if eqb i k then amount_of word else 0) (number-packed 1 j n g (omega arith) a b)
    ∙ ap (λ k. if eqb i j then k else 0) (amount-packed 1 j n g (omega arith) a b)
notice_is i (returns_b j n g) h =
    let word : ℕ = packed 2 j n g in
    ap (λ k. if eqb k 1 && eqb i (number_of word) then amount_of word else 0)
    (kind_packed 2 j n g (omega arith) (omega (arith, h.0)) (omega (arith, h.1.0)))

module _ {w : List ℕ} {P : State → Type 0} (v : Shown w P) where
  abbrev s : State
  s = v.is

  module _ (i : ℕ) (l : i < Limit.THINGS) where
    held_is : held_all w i ≡ held_of i s
    held_is =
        tally-over nobody (λ q. get_or q.held i 0) _ s.processes No.places (sym v.sized.places_64)
        (λ p h. held_at v p (omega (arith, v.sized.places_64)) i l)

    returning_is : returning_all w i ≡ returning_of i s
    returning_is =
        tally-over no_event (λ e. returning i e.notice) _ s.events _ (Ev.count_is v)
        (λ k h. ap (back i) (word_at v k h) ∙ notice_is i (get_or s.events k no_event).notice (event_sized v k h).notice_ok)

  abbrev summed : ℕ → ℕ
  summed i = get_or s.free i 0 + held_of i s + returning_of i s

  module _ (m : Model) {totals : List ℕ} {resources bins syncs : ℕ}
      (t : Things m totals resources bins syncs) (a : Shaped m s) where
    pub adds_up_is : each resources (amounts_add w totals) ≡ adds_up m s
    unfolding each
    adds_up_is =
        each_same (amounts_add w totals) _ resources one
        ∙ ap (λ n. each n (λ i. eqb (summed i) (get_or m.totals i 0))) t.resources_are
      where
        one : (i : ℕ) → i < resources → amounts_add w totals i ≡ eqb (summed i) (get_or m.totals i 0)
        one i h =
            let l : i < length s.free = omega (arith, t.resources_are, a.frees_many) in
            let k : i < Limit.THINGS = omega (arith, l, v.sized.free_few) in
            ap (λ n. eqb (n + held_all w i + returning_all w i) (get_or totals i 0)) (free_is v i l)
            ∙ ap (λ n. eqb (get_or s.free i 0 + n + returning_all w i) (get_or totals i 0)) (held_is i k)
            ∙ ap (λ n. eqb (get_or s.free i 0 + held_of i s + n) (get_or totals i 0)) (returning_is i k)
            ∙ ap (eqb (summed i)) (t.totals_are i h)
