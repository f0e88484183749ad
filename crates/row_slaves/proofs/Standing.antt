-- The slaves of a process in a work that shows the state: what is read of them, and what is written. Assumes nothing.
use Prim.Native.Nat.{ℕ, ◌+◌, ◌-◌, ◌*◌, ◌≤◌, ◌<◌}
use native.Mathlib.Omega.{arith}
use mathlib.Core.Path.{◌≡◌, sym, ◌∙◌, ap}
use mathlib.Core.List.{List, [], ◌∷◌, map}
use lib.ListN.{length, get_or, set, take, drop, length-append, length-set}
use lib.Seq.{sets}
use Rattle.semantics.specs.Numbers as No
use Rattle.semantics.specs.State.{State, Process, Slave, process}
use Rattle.semantics.specs.Step.{freed, stay}
use Rattle.promises.specs.Laws.{all_split}
use Rattle.base_numbers.specs.Row as Row
use Rattle.base_numbers.specs.Process as Process
use Rattle.base_numbers.specs.Word as Word
use Rattle.base_numbers.specs.Limit as Limit
use Rattle.base_ordered.specs.Lines.{pad}
use Rattle.row_work.specs.Work.{slave_word, work_of, SlaveSized, ProcessSized, Doing}
use Rattle.row_work.specs.Shown.{row_length, work_long}
use Rattle.row_process.specs.Process.{Shown, at_first, Lives, changed}
use Rattle.row_process.specs.Put.{process_sized, sized_put}
use Rattle.row_slaves.specs.Slaves.{Owns, joined, let_go, slaves_from, SortedOut}
use Rattle.row_slaves.proofs.Words.{slaves_in}
use Rattle.row_slaves.proofs.Row.{row_at, count_at, replaced, slaves_part, count_at_lem, slaves_changed, slaves_more}

-- How much of the work is lent from the row on: all of the row.
abbrev pub lent : ℕ → ℕ
lent p = row_at p + Process.OWNED_MOST - row_at p

lent_is : (p : ℕ) → lent p ≡ Process.OWNED_MOST
lent_is p = omega arith

pub is_long : {w : List ℕ} {P : State → Type 0} → Shown w P → length w ≡ Row.WORDS
is_long v = ap length v.shows ∙ work_long v.is v.sized

module _ {w : List ℕ} {P : State → Type 0} (v : Shown w P) (p : ℕ) (l : p < No.places) where
  abbrev q : Process
  q = process v.is p

  is_sized : ProcessSized q
  is_sized = process_sized v.is p v.sized

  pub count_is : get_or w (count_at p) 0 ≡ length q.slaves
  count_is = ap (λ x. get_or x (count_at p) 0) v.shows ∙ count_at_lem v.is v.sized p l

  pub count_few : get_or w (count_at p) 0 ≤ No.places
  count_few = omega (arith, count_is, is_sized.slaves_few)

  -- Their row, cut out.
  row_is : take (lent p) (drop (row_at p) w) ≡ pad Process.OWNED_MOST (map slave_word q.slaves)
  row_is =
      ap (λ k. take k (drop (row_at p) w)) (lent_is p)
      ∙ ap (λ x. take Process.OWNED_MOST (drop (row_at p) x)) v.shows
      ∙ slaves_part v.is v.sized p l

  pub row_long : length (take (lent p) (drop (row_at p) w)) ≡ Process.OWNED_MOST
  row_long = ap length row_is ∙ row_length Process.OWNED_MOST slave_word q.slaves (let n = is_sized.slaves_few in omega arith)

  pub slaves_are : (n : ℕ) → n ≡ get_or w (count_at p) 0 → slaves_from 0 n (take (lent p) (drop (row_at p) w)) ≡ q.slaves
  slaves_are n e = slaves_in q.slaves is_sized.slaves_ok Process.OWNED_MOST n _ row_is (e ∙ count_is)

-- LET GO.
module _ {w : List ℕ} {p i n : ℕ} (d : Doing w (Owns p i n) (changed p (let_go i n))) {len : ℕ}
    (all_of : len ≡ get_or w (count_at p) 0) {places : List ℕ} {r : ℕ} {row places₁ : List ℕ}
    (h : SortedOut i n len (take (lent p) (drop (row_at p) w)) places r row places₁) where
  abbrev l : p < No.places
  l = d.given.lives.in_places

  abbrev slaves : List Slave
  slaves = (process d.is p).slaves

  those : slaves_from 0 len (take (lent p) (drop (row_at p) w)) ≡ slaves
  those = slaves_are (at_first d) p l len all_of

  pub places_noted : places₁ ≡ sets places 0 (freed i n slaves)
  places_noted = h.goes ∙ ap (λ xs. sets places 0 (freed i n xs)) those

  pub let_go_lem : set (replaced (row_at p) (lent p) row w) (count_at p) r ≡ work_of (changed p (let_go i n) d.is)
  let_go_lem =
      let left : List Slave = stay i n slaves in
      let few = (sized_put d.is p (let_go i n (process d.is p)) d.before.places_64 l d.after).slaves_few in
      let stays : row ≡ pad Process.OWNED_MOST (map slave_word left) =
      h.stays
      ∙ ap (λ xs. pad (length (take (lent p) (drop (row_at p) w))) (map slave_word (stay i n xs))) those
      ∙ ap (λ m. pad m (map slave_word left)) (row_long (at_first d) p l) in
      ap (λ m. set (replaced (row_at p) m row w) (count_at p) r) (lent_is p)
      ∙ ap (λ x. set (replaced (row_at p) Process.OWNED_MOST row x) (count_at p) r) d.shows
      ∙ slaves_changed d.is d.before p l left (omega arith) r (h.count ∙ ap (λ xs. length (stay i n xs)) those) row stays

  pub still_long : length (replaced (row_at p) (lent p) row w) ≡ Row.WORDS
  still_long =
      sym (length-set (replaced (row_at p) (lent p) row w) (count_at p) r)
      ∙ ap length let_go_lem
      ∙ work_long (changed p (let_go i n) d.is) d.after

-- ONE MORE.
module _ {w : List ℕ} {p i r : ℕ} (d : Doing w (Lives p) (changed p (joined i r))) where
  abbrev before : List Slave
  before = (process d.is p).slaves

  abbrev word_at : ℕ → ℕ
  word_at n = Row.PROCESSES + Process.WORDS * p + (Process.OWNED + n)

  after : ProcessSized (joined i r (process d.is p))
  after = sized_put d.is p (joined i r (process d.is p)) d.before.places_64 d.given.in_places d.after

  pub slave_sized : (i < Limit.THINGS) × (r < No.places)
  slave_sized =
      let a = (all_split SlaveSized before (record { of = i; place = r } ∷ []) after.slaves_ok).1.0 in
      (a.of_low, a.place_low)

  one_fits : length before < No.places
  one_fits = omega (arith, after.slaves_few, length-append before (record { of = i; place = r } ∷ []))

  -- There are m.
  module _ (m : ℕ) (e : m ≡ get_or w (count_at p) 0) where
    all_before : m ≡ length before
    all_before = e ∙ count_is (at_first d) p d.given.in_places

    pub count_low : m < No.places
    count_low = omega (arith, all_before, one_fits)

    pub one_more : (x y : List ℕ) → x ≡ set w (word_at m) (Word.SYNC * i + r) → y ≡ set x (count_at p) (m + 1)
        → y ≡ work_of (changed p (joined i r) d.is)
    one_more x y f g =
        g
        ∙ ap (λ z. set z (count_at p) (m + 1)) f
        ∙ ap (λ n. set (set w (word_at n) (Word.SYNC * i + r)) (count_at p) (n + 1)) all_before
        ∙ ap (λ x. set (set x (word_at (length before)) (Word.SYNC * i + r)) (count_at p) (length before + 1)) d.shows
        ∙ slaves_more d.is d.before p d.given.in_places (record { of = i; place = r }) one_fits
