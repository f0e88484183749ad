-- The test of a list of those that wait: it is in order, and the priority that stands beside each is its own. Assumes nothing.
use Prim.Native.Nat.{ℕ, suc, ◌+◌, ◌-◌, ◌/◌, ◌%◌, ◌<◌}
use native.Mathlib.Omega.{arith}
use native.Mathlib.Numerals.{add-one}
use mathlib.Core.Path.{◌≡◌, sym, ◌∙◌, ap}
use mathlib.Core.List.{List, []}
use mathlib.Core.Bool.{Bool, not, ◌&&◌}
use lib.Dec.{eqb, leb}
use lib.ListN.{length, get_or}
use Rattle.semantics.specs.Words.{all, ordered}
use Rattle.semantics.specs.State.{State, Waiter, higher}
use Rattle.semantics.specs.Sound.{waiter_tied}
use Rattle.base_numbers.specs.Process as Process
use Rattle.base_numbers.specs.Word as Word
use Rattle.base_numbers.specs.Code as Code
use Rattle.base_i32.specs.Code.{code}
use Rattle.base_i32.specs.Laws.{code_fits}
use Rattle.base_ordered.specs.Lines.{waiter_key, waiter_word}
use Rattle.base_ordered.specs.Order.{higher_key, word_place, word_key}
use Rattle.row_work.specs.Work.{WaiterSized}
use Rattle.row_process.specs.Process.{Shown}
use Rattle.row_lists.specs.Queues.{Queue}
use Rattle.row_process.proofs.Standing as Stand
use Rattle.row_lists.proofs.Waiting as Wait
use Rattle.row_sound_lists.specs.Tests.{each, word_of, rises, tied, queue_fits, waiting_fits}
use Rattle.row_sound_lists.proofs.Indices.{each_all, each-ordered, ordered_same}
use Rattle.row_sound_lists.proofs.Tests.{not-ltb, same_code, all-and}
use Rattle.row_sound_lists.proofs.Reading.{no_waiter, waiter_at, waiter_sized}

abbrev pub in_line : List Waiter → Bool
in_line ws = ordered (λ a b. not (higher b a)) ws

module _ {w : List ℕ} {P : State → Type 0} (v : Shown w P) where
  abbrev s : State
  s = v.is

  tied_is : (x : Waiter) → WaiterSized x → tied w (waiter_word x) ≡ waiter_tied s x
  tied_is x h =
      let a : Code.HIGHEST - waiter_word x / Word.KEY % Word.RANKS ≡ code x.priority =
      omega (arith, word_key x h.place_low, code_fits x.priority h.priority_ok) in
      ap (λ n. eqb n (word_of w (waiter_word x % Word.PLACES) Process.PRIORITY)) a
      ∙ ap (λ p. eqb (code x.priority) (word_of w p Process.PRIORITY)) (word_place x h.place_low)
      ∙ ap (eqb (code x.priority)) (Stand.priority_is v x.place h.place_low)
      ∙ same_code x.priority _ h.priority_ok (Stand.is_sized v x.place).priority_ok

  module _ {from count : ℕ} {ws : List Waiter} (q : Queue w from count ws) where
    key_at : (k : ℕ) → k < length ws → get_or w (from + k) 0 / Word.KEY ≡ waiter_key (get_or ws k no_waiter)
    key_at k h = ap (λ n. n / Word.KEY) (waiter_at q k h) ∙ word_key (get_or ws k no_waiter) (waiter_sized q k).place_low

    rises_is : (k : ℕ) → suc k < length ws
        → rises w from Word.KEY k ≡ leb (waiter_key (get_or ws k no_waiter)) (waiter_key (get_or ws (suc k) no_waiter))
    rises_is k h =
        ap (λ n. leb n (get_or w (from + (k + 1)) 0 / Word.KEY)) (key_at k (omega arith))
        ∙ ap (λ j. leb (waiter_key (get_or ws k no_waiter)) (get_or w (from + j) 0 / Word.KEY)) (add-one k)
        ∙ ap (leb (waiter_key (get_or ws k no_waiter))) (key_at (suc k) h)

    in_line_lem : each (get_or w count 0 - 1) (rises w from Word.KEY) ≡ in_line ws
    in_line_lem =
        each-ordered no_waiter waiter_key (rises w from Word.KEY) ws _ q.count_is rises_is
        ∙ sym (ordered_same WaiterSized (λ a b. not (higher b a)) (λ a b. leb (waiter_key a) (waiter_key b))
        (λ a b g h. ap not (higher_key b a h.priority_ok g.priority_ok) ∙ not-ltb (waiter_key a) (waiter_key b))
        ws q.sized.each)

    each-tied : each (get_or w count 0) (λ k. tied w (get_or w (from + k) 0)) ≡ all (waiter_tied s) ws
    each-tied =
        each_all no_waiter (waiter_tied s) _ ws _ q.count_is
        (λ k h. ap (tied w) (waiter_at q k h) ∙ tied_is (get_or ws k no_waiter) (waiter_sized q k))

    pub queue_is : queue_fits w from count ≡ (in_line ws && all (waiter_tied s) ws)
    queue_is =
        ap (λ b. b && each (get_or w count 0) (λ k. tied w (get_or w (from + k) 0))) in_line_lem
        ∙ ap (λ b. in_line ws && b) each-tied

  pub waiting_is : (syncs : ℕ) → syncs ≡ length s.waiting
      → waiting_fits w syncs ≡ (all in_line s.waiting && all (all (waiter_tied s)) s.waiting)
  waiting_is syncs e =
      each_all [] (λ ws. in_line ws && all (waiter_tied s) ws) _ s.waiting syncs e
      (λ i h. queue_is (Wait.waiting_queue v i h))
      ∙ all-and in_line (all (waiter_tied s)) s.waiting
