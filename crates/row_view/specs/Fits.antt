-- Which rows show a state that the work can hold, and how the code tests it, part by part. Assumes nothing.
use Rattle.std.specs.Prelude.{ℕ, zero, suc, ◌*◌, ◌/◌, ◌%◌, ◌≤◌, ◌≡◌, List, [], ◌∷◌, Bool, ◌&&◌, eqb, leb, ltb, length, get_or, take, drop, if◌then◌else◌}
use Rattle.semantics.specs.Words.{all, within}
use Rattle.semantics.specs.Numbers as No
use Rattle.semantics.specs.Model.{Model}
use Rattle.base_numbers.specs.Row as Row
use Rattle.base_numbers.specs.Process as Process
use Rattle.base_numbers.specs.Word as Word
use Rattle.base_numbers.specs.Limit as Limit
use Rattle.base_numbers.specs.Code as Code
use Rattle.base_numbers.specs.Most as Most
use Rattle.base_ordered.specs.Lines.{kind_of, number_of, amount_of, giver_of}
use Rattle.row_work.specs.Work.{work_of, Sized}
use Rattle.row_view.specs.View.{cut, seated, view_in}
use Rattle.row_view.specs.declared.Rule.{Rule}

-- HOW MANY resources, bins, syncs, variables and samplers a model has, said of five numbers; and no more than a file may declare.
pub record Counted (m : Model) (resources bins syncs variables samplers : ℕ) : Type 0 where
  pub resources_are : length m.totals ≡ resources
  pub bins_are : length m.amounts ≡ bins
  pub syncs_are : m.syncs ≡ syncs
  pub variables_are : length m.vars ≡ variables
  pub samplers_are : length m.samplers ≡ samplers

pub record Few (resources bins syncs variables samplers : ℕ) : Type 0 where
  pub few_resources : resources ≤ Limit.THINGS
  pub few_bins : bins ≤ Limit.THINGS
  pub few_syncs : syncs ≤ Limit.THINGS
  pub few_variables : variables ≤ Limit.THINGS
  pub few_samplers : samplers ≤ Limit.SAMPLERS

-- A ROW SHOWS a state of the model: it is the one form of it, and the work can hold it.
pub record Showing (m : Model) (w : List ℕ) : Type 0 where
  pub is_form : w ≡ work_of (view_in m w)
  pub is_sized : Sized (view_in m w)

-- THE TESTS of it, part by part. ONE WORD.
abbrev pub is_none : ℕ → Bool
is_none x = leb x 0

abbrev pub frame_fits : ℕ → Bool
frame_fits x =
    ltb (x % Word.BLOCKS) Limit.BLOCKS
    && (leb (x / Word.ACTION % Word.ACTIONS) Limit.ACTIONS && ltb (x / Word.ROUND) Word.ROUNDS)

abbrev pub return_fits : ℕ → Bool
return_fits x =
    ltb (kind_of x) 3 && (ltb (number_of x) Limit.THINGS && (leb (amount_of x) Limit.AMOUNT && leb (giver_of x) No.last_number))

abbrev pub notice_fits : ℕ → Bool
notice_fits x = if eqb (kind_of x) 0 then ltb x (Word.KINDS * No.places) else return_fits x

abbrev pub seed_fits : ℕ → Bool
seed_fits x = within 1 No.last_seed x

-- What a rule of the code asks of a word.
abbrev pub passes : Rule → ℕ → Bool
passes (Rule.Most n) = λ x. leb x n
passes Rule.Frame = frame_fits
passes Rule.Notice = notice_fits
passes Rule.Seed = seed_fits

-- A ROW whose first n words pass a test, and behind them stands nothing.
unfoldable pub fits : (ℕ → Bool) → ℕ → List ℕ → Bool
fits t n row = leb n (length row) && (all t (take n row) && all is_none (drop n row))

abbrev pub fits_below : ℕ → ℕ → List ℕ → Bool
fits_below n most row = fits (λ x. leb x most) n row

-- WAITING LISTS, a row for each count, and nothing behind them.
unfoldable pub waiting_fits : List ℕ → List ℕ → Bool
unfolding fits
waiting_fits [] lists = all is_none lists
waiting_fits (n ∷ ns) lists = fits_below n Most.WAITER (take Row.WAITERS_MOST lists) && waiting_fits ns (drop Row.WAITERS_MOST lists)

-- A PROCESS, of its row; and n of them, whose living ones are the binary digits of a number.
unfoldable pub process_fits : ℕ → List ℕ → Bool
unfolding fits
process_fits resources row =
    (leb (get_or row Process.NUMBER 0) No.last_number && leb (get_or row Process.PRIORITY 0) Code.HIGHEST)
    && (fits_below (seated (get_or row Process.DEPTH 0) No.locals) Code.HIGHEST (cut Process.LOCALS No.locals row)
    && (fits_below (seated (get_or row Process.DEPTH 0) resources) Limit.AMOUNT (cut Process.HELD Limit.THINGS row)
    && (fits frame_fits (get_or row Process.DEPTH 0) (cut Process.BLOCKS Limit.DEPTH row)
    && (leb (get_or row Process.SLAVES 0) No.places
    && fits_below (get_or row Process.SLAVES 0) Most.SLAVE (cut Process.OWNED Process.OWNED_MOST row)))))

abbrev pub place_fits : ℕ → List ℕ → ℕ → Bool
place_fits resources row digit = process_fits resources row && eqb digit (seated (get_or row Process.DEPTH 0) 1)

unfoldable pub processes_fit : ℕ → ℕ → List ℕ → ℕ → Bool
unfolding process_fits
processes_fit resources zero rows living = eqb living 0
processes_fit resources (suc n) rows living =
    place_fits resources (take Process.WORDS rows) (living % 2) && processes_fit resources n (drop Process.WORDS rows) (living / 2)

-- THE WHOLE.
abbrev pub head_fits : List ℕ → Bool
head_fits w =
    leb (get_or w Row.CLOCK 0) No.latest
    && (leb (get_or w Row.CLOSED 0) 1
    && (leb (get_or w Row.LAST 0) No.last_number && (leb (get_or w Row.FLOOR 0) No.places && eqb (get_or w Row.SPARE 0) 0)))

abbrev pub things_fit : ℕ → ℕ → ℕ → ℕ → List ℕ → Bool
things_fit resources bins syncs variables w =
    fits_below resources Limit.AMOUNT (cut Row.FREE Limit.THINGS w)
    && (fits_below bins No.full_bin (cut Row.BINS Limit.THINGS w)
    && (fits_below variables Code.HIGHEST (cut Row.GLOBALS Limit.THINGS w)
    && fits_below syncs Row.WAITERS_MOST (cut Row.WAITS Limit.THINGS w)))

abbrev pub lists_fit : ℕ → List ℕ → Bool
lists_fit syncs w =
    fits_below (get_or w Row.BLOCKED 0) Most.WAITER (cut Row.QUEUE Row.WAITERS_MOST w)
    && (fits_below (get_or w Row.EVENTS 0) Most.KEY (cut Row.KEYS Row.EVENTS_MOST w)
    && (fits notice_fits (get_or w Row.EVENTS 0) (cut Row.NOTICES Row.EVENTS_MOST w)
    && waiting_fits (cut Row.WAITS syncs w) (cut Row.WAITING Row.WAITERS_ALL w)))

unfoldable pub work_fits : ℕ → ℕ → ℕ → ℕ → ℕ → List ℕ → Bool
unfolding fits waiting_fits processes_fit
work_fits resources bins syncs variables samplers w =
    head_fits w
    && (things_fit resources bins syncs variables w
    && (lists_fit syncs w
    && (processes_fit resources No.places (cut Row.PROCESSES Row.PROCESSES_ALL w) (get_or w Row.LIVING 0)
    && fits seed_fits samplers (cut Row.SEEDS Limit.SAMPLERS w))))
