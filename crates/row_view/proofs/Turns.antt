-- Round the loops that go from row to row: the 64 processes, and the waiting lists. Assumes nothing.
use Prim.Native.Nat.{ℕ, zero, suc, ◌+◌, ◌-◌, ◌*◌, ◌/◌, ◌%◌, ◌≤◌, ◌<◌}
use native.Mathlib.Omega.{arith}
use native.Mathlib.Numerals.{add-one}
use mathlib.Core.Path.{◌≡◌, refl, sym, ◌∙◌, ap}
use mathlib.Core.List.{List}
use mathlib.Core.Bool.{Bool, true, ◌&&◌}
use lib.Dec.{eqb}
use lib.ListN.{length, get_or, take, drop, length-drop, drop_of_length-le}
use lib.Seq.{drop-cons, length-take-le}
use Rattle.semantics.specs.Numbers as No
use Rattle.semantics.specs.Words.{all}
use Rattle.base_numbers.specs.Most as Most
use Rattle.base_numbers.specs.Row as Row
use Rattle.base_numbers.specs.Process as Process
use Rattle.file_check_parts.proofs.Laws.{rest_of}
use Rattle.row_view.specs.Fits.{is_none, fits_below, waiting_fits, place_fits, processes_fit}
use Rattle.row_view.proofs.Walks.{and_assoc}

-- PROCESSES. `left` rows are still to be tested, and their living ones are the binary digits of `digits`.
module _ (resources : ℕ) (rows : List ℕ) (living : ℕ) where
  pub record Placing (ok : Bool) (digits left : ℕ) (rest : List ℕ) : Type 0 where
    pub long : length rest ≡ Process.WORDS * left
    pub same : ok && processes_fit resources left rest digits ≡ processes_fit resources No.places rows living

  pub places_start : length rows ≡ Row.PROCESSES_ALL → Placing true living No.places rows
  places_start h = record { long = h; same = refl }

  module _ {ok : Bool} {digits left : ℕ} {rest : List ℕ} (p : Placing ok digits left rest) where
    one_less : (n : ℕ) → 0 < n → {b : Bool} → b ≡ place_fits resources (take Process.WORDS rest) (digits % 2)
        → (ok && b) && processes_fit resources (n - 1) (drop Process.WORDS rest) (digits / 2) ≡ ok
        && processes_fit resources n rest digits
    unfolding processes_fit
    one_less zero h e = absurd (omega arith)
    one_less (suc n) h {b} e =
        let i : suc n - 1 ≡ n = omega arith in
        ap (λ j. (ok && b) && processes_fit resources j (drop Process.WORDS rest) (digits / 2)) i
        ∙ and_assoc ok b _
        ∙ ap (λ x. ok && (x && processes_fit resources n (drop Process.WORDS rest) (digits / 2))) e

    pub places_turn : 0 < left → {b : Bool} → b ≡ place_fits resources (take Process.WORDS rest) (digits % 2)
        → Placing (ok && b) (digits / 2) (left - 1) (take (length rest - Process.WORDS) (drop Process.WORDS rest))
    places_turn h e =
        rw (rest_of Process.WORDS rest)
        (record { long = omega (arith, length-drop Process.WORDS rest, p.long); same = one_less left h e ∙ p.same })

    pub row_there : 0 < left → length (take Process.WORDS rest) ≡ Process.WORDS
    row_there h = length-take-le Process.WORDS rest (omega (arith, p.long))

    pub places_end : left ≡ 0 → ok && eqb digits 0 ≡ processes_fit resources No.places rows living
    unfolding processes_fit
    places_end h = ap (λ n. ok && processes_fit resources n rest digits) (sym h) ∙ p.same

-- WAITING LISTS. i of them are tested.
module _ (counts lists : List ℕ) where
  pub record Listing (ok : Bool) (i : ℕ) (rest : List ℕ) : Type 0 where
    pub short : i ≤ length counts
    pub room : Row.WAITERS_MOST * length counts ≤ length rest + Row.WAITERS_MOST * i
    pub same : ok && waiting_fits (drop i counts) rest ≡ waiting_fits counts lists

  pub lists_start : Row.WAITERS_MOST * length counts ≤ length lists → Listing true 0 lists
  lists_start h = record { short = omega arith; room = omega arith; same = refl }

  module _ {ok : Bool} {i : ℕ} {rest : List ℕ} (p : Listing ok i rest) where
    pub lists_turn : i < length counts → {b : Bool} → b ≡ fits_below (get_or counts i 0) Most.WAITER (take Row.WAITERS_MOST rest)
        → Listing (ok && b) (i + 1) (take (length rest - Row.WAITERS_MOST) (drop Row.WAITERS_MOST rest))
    unfolding waiting_fits
    lists_turn h {b} e =
        let mine : Bool = fits_below (get_or counts i 0) Most.WAITER (take Row.WAITERS_MOST rest) in
        rw (rest_of Row.WAITERS_MOST rest)
        (record {
          short = omega arith;
          room = omega (arith, length-drop Row.WAITERS_MOST rest, p.room);
          same =
              and_assoc ok b _
              ∙ ap (λ x. ok && (x && waiting_fits (drop (i + 1) counts) (drop Row.WAITERS_MOST rest))) e
              ∙ ap (λ j. ok && (mine && waiting_fits (drop j counts) (drop Row.WAITERS_MOST rest)))
              (add-one i)
              ∙ ap (λ l. ok && waiting_fits l rest) (sym (drop-cons counts i 0 h))
              ∙ p.same;
        })

    pub lists_end : length counts ≤ i → {b : Bool} → b ≡ all is_none rest → ok && b ≡ waiting_fits counts lists
    unfolding waiting_fits
    lists_end h e =
        ap (λ x. ok && x) e ∙ ap (λ l. ok && waiting_fits l rest) (sym (drop_of_length-le counts h)) ∙ p.same
