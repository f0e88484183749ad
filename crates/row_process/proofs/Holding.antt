-- What a process holds, in a work that shows the state. Assumes nothing.
use Prim.Native.Nat.{ℕ, ◌+◌, ◌-◌, ◌*◌, ◌≤◌, ◌<◌}
use native.Mathlib.Omega.{arith}
use mathlib.Core.Path.{◌≡◌, refl, sym, ◌∙◌, ap}
use mathlib.Core.List.{List}
use mathlib.Core.Bool.{Bool, ◌&&◌}
use lib.Dec.{eqb}
use lib.ListN.{length, get_or, set, take, drop, length-drop}
use lib.Seq.{ext_get_or, length-take-le, get_or-take, get_or-drop, get_or-set_same}
use Rattle.semantics.specs.Numbers as No
use Rattle.semantics.specs.Words.{is_empty, more}
use Rattle.semantics.specs.State.{State, Process, process, with_held}
use Rattle.promises.specs.Laws.{all_get}
use Rattle.base_numbers.specs.Row as Row
use Rattle.base_numbers.specs.Process as Process
use Rattle.base_numbers.specs.Limit as Limit
use Rattle.base_ordered.specs.Lines.{pad}
use Rattle.row_work.specs.Work.{work_of, Doing}
use Rattle.row_work.specs.Shown.{pad-length}
use Rattle.row_process.specs.Process.{Shown, seen, Claims, changed}
use Rattle.row_process.specs.Rows.{held_row_at, held_at, held_set}
use Rattle.row_process.specs.Put.{sized_put}
use Rattle.row_process.proofs.Standing.{is_long, is_sized, word_is, word_set, slaves_are}
use Rattle.row_process.proofs.Zeros.{zeros, zeros-pad, none_there}

-- OF RESOURCE i.
module _ {w : List ℕ} {P : State → Type 0} (v : Shown w P) {p i : ℕ} (l : p < No.places)
    (h : i < length (process v.is p).held) where
  abbrev q : Process
  q = process v.is p

  pub held_there : Process.HELD + i < Process.WORDS
  held_there = omega (arith, (is_sized v p).held_few)

  pub held_is : get_or w (Row.PROCESSES + Process.WORDS * p + (Process.HELD + i)) 0 ≡ get_or q.held i 0
  held_is = word_is v p l (Process.HELD + i) held_there ∙ held_at q (is_sized v p) i h

  pub held_low : get_or w (Row.PROCESSES + Process.WORDS * p + (Process.HELD + i)) 0 ≤ Limit.AMOUNT
  held_low = rw held_is (all_get (λ n. n ≤ Limit.AMOUNT) q.held i 0 (is_sized v p).held_low (omega arith))

  pub held_written : (x n : ℕ) → x ≡ n
      → set w (Row.PROCESSES + Process.WORDS * p + (Process.HELD + i)) x
      ≡ work_of (changed p (λ r. with_held r (set r.held i n)) v.is)
  held_written x n e =
      ap (set w (Row.PROCESSES + Process.WORDS * p + (Process.HELD + i))) e
      ∙ word_set v p l (Process.HELD + i) held_there n (with_held q (set q.held i n)) (held_set q (is_sized v p) i n h) refl

-- One that lives reads and writes it.
module _ {w : List ℕ} {P : State → Type 0} (v : Shown w P) {p i : ℕ} (k : Claims p i v.is) where
  abbrev pub to_read : Shown w (λ s. (p < No.places) × (i < length (process s p).held))
  to_read = seen v (k.lives.in_places, k.there)

  pub to_write : (length w ≡ Row.WORDS) × ((p < No.places) × (Process.HELD + i < Process.WORDS))
  to_write = (is_long v, (k.lives.in_places, held_there v k.lives.in_places k.there))

-- There is room for what is taken up.
pub room_held : (p i n : ℕ) {w : List ℕ} (d : Doing w (Claims p i) (changed p (λ r. with_held r (more r.held i n))))
    → get_or (process d.is p).held i 0 + n ≤ Limit.AMOUNT
room_held p i n d =
    let r : Process = process d.is p in
    let xs : List ℕ = more r.held i n in
    let h = sized_put d.is p (with_held r xs) d.before.places_64 d.given.lives.in_places d.after in
    let a = all_get (λ m. m ≤ Limit.AMOUNT) xs i 0 h.held_low (omega arith) in
    let b = get_or-set_same r.held i (get_or r.held i 0 + n) 0 d.given.there in
    omega (arith, a, b)

-- ALL THAT IT HOLDS, cut out of the work.
module _ {w : List ℕ} {P : State → Type 0} (v : Shown w P) (p : ℕ) (l : p < No.places) where
  abbrev holder : Process
  holder = process v.is p

  abbrev held_part : List ℕ
  held_part = take Limit.THINGS (drop (Row.FIRST_HELD + Process.WORDS * p) w)

  held_long : length held_part ≡ Limit.THINGS
  held_long =
      let n = is_long v in
      let m = length-drop (Row.FIRST_HELD + Process.WORDS * p) w in
      length-take-le Limit.THINGS (drop (Row.FIRST_HELD + Process.WORDS * p) w) (omega arith)

  held_part_lem : held_part ≡ pad Limit.THINGS holder.held
  held_part_lem =
      ext_get_or 0 held_part (pad Limit.THINGS holder.held)
      (held_long ∙ sym (pad-length Limit.THINGS holder.held (is_sized v p).held_few))
      (λ i h.
      let k : i < Limit.THINGS = omega (arith, held_long) in
      let e : Row.FIRST_HELD + Process.WORDS * p + i ≡ Row.PROCESSES + Process.WORDS * p + (Process.HELD + i) = omega arith in
      get_or-take Limit.THINGS (drop (Row.FIRST_HELD + Process.WORDS * p) w) i 0 k
      ∙ get_or-drop (Row.FIRST_HELD + Process.WORDS * p) w i 0
      ∙ ap (λ j. get_or w j 0) e
      ∙ word_is v p l (Process.HELD + i) (omega arith)
      ∙ held_row_at holder (is_sized v p) i k)

  pub nothing_held : (x : ℕ) (t : Bool)
      → t ≡ zeros (take (Row.FIRST_HELD + Process.WORDS * p + Limit.THINGS - (Row.FIRST_HELD + Process.WORDS * p))
      (drop (Row.FIRST_HELD + Process.WORDS * p) w))
      → x ≡ get_or w (Row.PROCESSES + Process.WORDS * p + Process.SLAVES) 0
      → t && eqb x 0 ≡ zeros holder.held && is_empty holder.slaves
  nothing_held x t e f =
      let k : Row.FIRST_HELD + Process.WORDS * p + Limit.THINGS - (Row.FIRST_HELD + Process.WORDS * p) ≡ Limit.THINGS =
      omega arith in
      let a : t ≡ zeros holder.held =
      e ∙ ap (λ n. zeros (take n (drop (Row.FIRST_HELD + Process.WORDS * p) w))) k ∙ ap zeros held_part_lem
      ∙ zeros-pad Limit.THINGS holder.held in
      let b : eqb x 0 ≡ is_empty holder.slaves = ap (λ n. eqb n 0) (f ∙ slaves_are v p l) ∙ none_there holder.slaves in
      ap (λ y. y && eqb x 0) a ∙ ap (λ y. zeros holder.held && y) b
