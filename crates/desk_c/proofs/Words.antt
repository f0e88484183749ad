-- What the numbers for C say, by what check, bound, run and opening answer. Assumes nothing.
use Rattle.std.specs.Prelude.{if◌then◌else◌}
use Prim.Native.Nat.{ℕ, ◌+◌, ◌≤◌}
use mathlib.Core.Path.{◌≡◌, refl, sym, ◌∙◌, ap, subst}
use mathlib.Core.List.{List}
use mathlib.Core.Bool.{Bool, true, false}
use lib.ListN.{length}
use lib.Dec.{eqb}
use native.Mathlib.Omega.{arith}
use borrow.Author.Tests.{eq-eqb, ne_eqb}
use Rattle.semantics.specs.Model.{Model}
use Rattle.semantics.specs.Decode.{Checked, refused, accepted, if_accepted, decode}
use Rattle.semantics.specs.Numbers as No
use Rattle.semantics.specs.Run.{FAULT}
use Rattle.semantics.specs.Journal.{written}
use Rattle.semantics.specs.Desk.{check_file, bound_file, run_file}
use Rattle.promises.specs.Laws.{AllOf}
use Rattle.base_numbers.specs.Row as Row
use Rattle.file_check.proofs.Answer.{refuses}
use Rattle.file_check.proofs.Pass.{Number}
use Rattle.file_check.proofs.Stated.{Stated, decode_stated}
use Rattle.run_limit.specs.declared.Ran.{Ran}
use Rattle.run_limit.specs.Ran.{answer_of}
use Rattle.row_work.specs.Sized.{IsByte}
use Rattle.row_struct.specs.declared.State.{State}
use Rattle.row_struct.specs.State.{row_of}
use Rattle.run_row.specs.Open as handed
use Rattle.run_row.specs.Open.{opens_as, open_row}
use Rattle.run_row.specs.Call.{Called, asked, call_row, away, TellsCall}
use Rattle.run_row.specs.Own.{other_length}
use Rattle.run_row.proofs.Moves.{turned_says}
use Rattle.run_by_value.specs.declared.Moved.{Moved}
use Rattle.run_by_value.specs.Moved.{ran_of, TellsMoved}
use Rattle.run_lent.specs.declared.Opened.{Opened}
use Rattle.run_lent.specs.Opened.{TellsOpened}
use Rattle.desk_c.specs.Word.{refusal, told_word, open_word, move_word}

-- The number and the place of a refusal fit into its word, and so does 20.
abbrev pub Fit : ℕ → ℕ → Type 0
Fit n p = (n ≤ No.STATE) × (p ≤ No.longest_file)

stated_fit : (n p : ℕ) → Number n × (p ≤ No.longest_file) → Fit n p
stated_fit n p h = (omega (arith, h.0.1), h.1)

-- What is refused was refused by the check, whatever is told of an accepted model.
abbrev refused_in : {A : Type 0} → Checked A → Checked Model → Checked Model
refused_in (refused n p) q = refused n p
refused_in (accepted a) q = q

abbrev accepts_in : {A : Type 0} → Checked A → ℕ
accepts_in (refused n p) = 0
accepts_in (accepted a) = 1

refused_by : {A : Type 0} (f : Model → A) {n p : ℕ} (d : Checked Model)
    → refused n p ≡ (if_accepted d λ m. accepted (f m)) → d ≡ refused n p
refused_by f (refused a b) e = sym (ap (λ x. refused_in x (refused 0 0)) e)
refused_by f (accepted m) e = let z : ◌≡◌ {A = ℕ} 0 1 = ap accepts_in e in absurd (omega arith)

-- A REFUSAL is as decode states it.
module _ (bs : List ℕ) (n p : ℕ) where
  fit_by : decode bs ≡ refused n p → Fit n p
  fit_by d = stated_fit n p (subst (Stated No.longest_file) d (decode_stated bs))

  pub check_small : refused n p ≡ check_file bs → Fit n p
  check_small e = fit_by (refuses bs n p e)

  pub bound_small : refused n p ≡ bound_file bs → Fit n p
  unfolding bound_file
  bound_small e = fit_by (refused_by _ (decode bs) e)

  pub run_small : (limit : ℕ) (j : List ℕ) → refused n p ≡ run_file bs limit j → Fit n p
  unfolding run_file
  run_small limit j e = fit_by (refused_by _ (decode bs) e)

-- OPENING: r is what is told of the file, and w the row lent.
module _ (bs : List ℕ) (r : Opened) (t : TellsOpened (decode bs) r) where
  pub open_small : Fit r.number r.place
  open_small = go (decode bs) (decode_stated bs) t
    where
      go : (d : Checked Model) → Stated No.longest_file d → TellsOpened d r → Fit r.number r.place
      go (refused n p) h u = rw (u.number_is, u.place_is) (stated_fit n p h)
      go (accepted m) h u = rw (u.number_is, u.place_is) (omega arith, omega arith)

  module _ (w : List ℕ) where
    abbrev Opens : ℕ → List ℕ → Type 0
    Opens word w' = (word ≡ open_word (open_row bs w)) × (w' ≡ (open_row bs w).row)

    pub open_refused : (r.number ≡ 0 → ⊥) → Opens (refusal r.number r.place) w
    unfolding open_row
    open_refused n = go (decode bs) t
      where
        go : (d : Checked Model) → TellsOpened d r
            → (refusal r.number r.place ≡ open_word (opens_as w d)) × (w ≡ (opens_as w d).row)
        go (refused k p) u = (ap (λ x. refusal x r.place) u.number_is ∙ ap (refusal k) u.place_is, refl)
        go (accepted m) u = absurd (n u.number_is)

    module _ (z : r.number ≡ 0) where
      accepts : (d : Checked Model) → Stated No.longest_file d → TellsOpened d r → (b : Bool) → eqb (length w) Row.WORDS ≡ b
          → opens_as w d ≡ (if b then handed.opened_as 0 0 (row_of r.state) else handed.opened_as No.STATE 0 w)
      accepts (refused k p) h u b e = absurd (omega (arith, h.0.0, u.number_is, z))
      accepts (accepted m) h u b e = rw (e, u.row_is) refl

      pub open_no_room : (length w ≡ Row.WORDS → ⊥) → Opens (refusal No.STATE 0) w
      unfolding open_row
      open_no_room n =
          let e = accepts (decode bs) (decode_stated bs) t false (ne_eqb (length w) Row.WORDS n) in
          (ap open_word (sym e), ap (λ d. d.row) (sym e))

      pub open_fresh : length w ≡ Row.WORDS → (w' : List ℕ) → w' ≡ row_of r.state → Opens 0 w'
      unfolding open_row
      open_fresh l w' x =
          let e = accepts (decode bs) (decode_stated bs) t true (eq-eqb (length w) Row.WORDS l) in
          (ap open_word (sym e), x ∙ ap (λ d. d.row) (sym e))

-- MOVING ON: the word, the row w' and the journal, j before and j' after, tell the call d.
module _ (d : Called) (word : ℕ) (w' j j' : List ℕ) where
  abbrev pub Moves : Type 0
  Moves = (word ≡ move_word d) × ((w' ≡ d.row) × (j' ≡ written d.lines j))

  pub move_says : (r : Ran) → TellsCall d r w' j j' → word ≡ told_word (answer_of r.answer) r.steps → Moves
  move_says r t e = (
    e ∙ ap (λ a. told_word a r.steps) t.answer_is ∙ ap (told_word d.answer) t.steps_are,
    (t.row_is, t.journal_is),
  )

module _ (bs : List ℕ) (limit : ℕ) (j w : List ℕ) where
  abbrev called : List ℕ → Called
  called x = call_row bs (asked limit j) x

  -- A row of another length.
  pub move_away : AllOf IsByte bs → (length w ≡ Row.WORDS → ⊥) → Moves (called w) (told_word (FAULT No.STATE) 0) w j j
  move_away h n = move_says (called w) _ w j j away (turned_says bs w limit j away refl (other_length bs w h n)) refl

  -- A row of its length is that of a struct, s; r is what is told of that.
  pub move_moved : (s : State) → row_of s ≡ w → (r : Moved) (word : ℕ) (w' j' : List ℕ)
      → TellsMoved (called (row_of s)) r j j' → w' ≡ row_of r.state → word ≡ told_word (answer_of r.answer) r.steps
      → Moves (called w) word w' j j'
  move_moved s e r word w' j' t x y =
      subst (λ v. Moves (called v) word w' j j') e
      (subst (λ v. Moves (called (row_of s)) word v j j') (sym x)
      (move_says (called (row_of s)) word _ j j' (ran_of r) t.tells y))
