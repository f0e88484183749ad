-- A run that is kept and lent and has ended stays ended, as the contract of `move_on` tells its calls. Assumes nothing.
use Rattle.std.specs.Prelude.{ℕ, ◌≡◌, refl, List, [], ◌∷◌, false}
use Rattle.std.proofs.Common.{sym, ◌∙◌, ap, subst}
use Rattle.semantics.specs.Run.{Answer, no_end}
use Rattle.semantics.specs.Journal.{journal, written}
use Rattle.promises.specs.Laws.{AllOf}
use Rattle.promises.specs.Ends.{again}
use Rattle.row_work.specs.Sized.{IsByte}
use Rattle.run_limit.specs.Ran.{answer_of}
use Rattle.row_struct.specs.declared.State.{State}
use Rattle.row_struct.specs.State.{row_of, Full}
use Rattle.row_struct.specs.Same.{same_state}
use Rattle.run_row.specs.Call.{Called, call_row, TellsCall}
use Rattle.run_row.specs.Ends.{stopped_row, row_end_stays}
use Rattle.run_lent.specs.Moves.{Move, ask_of, Moves}

-- The call y, on a run s that the answer a has ended, makes no step, writes no line, leaves run and journal, answers a again.
pub record StaysEnded (a : Answer) (s : State) (y : Move) : Type 0 where
  pub answers : answer_of y.told.answer ≡ again a y.limit
  pub no_steps : y.told.steps ≡ 0
  pub no_lines : y.told.lines ≡ 0
  pub row_stays : row_of y.run ≡ row_of s
  pub journal_stays : y.journal' ≡ y.journal

pub run_stays : {a : Answer} (s : State) (y : Move) → Full s → Full y.run → StaysEnded a s y → y.run ≡ s
run_stays s y f g h = same_state y.run s g f h.row_stays

none_written : (j : List ℕ) → written [] j ≡ j
unfolding written journal
none_written j = refl

-- After the call x that ended the run so do all that follow it.
module _ (bs : List ℕ) (b : AllOf IsByte bs) (s : State) (x : Move)
    (t : TellsCall (call_row bs (ask_of x) (row_of s)) x.told (row_of x.run) x.journal x.journal')
    (f : no_end (answer_of x.told.answer) ≡ false) where
  abbrev first : Called
  first = call_row bs (ask_of x) (row_of s)

  one_stays : (u : State) → row_of u ≡ first.row → (y : Move)
      → TellsCall (call_row bs (ask_of y) (row_of u)) y.told (row_of y.run) y.journal y.journal'
      → StaysEnded (answer_of x.told.answer) x.run y
  one_stays u e y h =
      let n = row_end_stays bs b (ask_of x) (row_of s) (subst (λ a. no_end a ≡ false) t.answer_is f) [] (ask_of y) in
      let k : TellsCall (stopped_row (again first.answer y.limit) first.row) y.told (row_of y.run) y.journal
      y.journal' =
      subst (λ d. TellsCall d y.told (row_of y.run) y.journal y.journal') (ap (call_row bs (ask_of y)) e ∙ n) h in
      record {
        answers = k.answer_is ∙ ap (λ a. again a y.limit) (sym t.answer_is);
        no_steps = k.steps_are;
        no_lines = k.lines_are;
        row_stays = k.row_is ∙ sym t.row_is;
        journal_stays = k.journal_is ∙ none_written y.journal;
      }

  all_stay : (u : State) → row_of u ≡ first.row → (ys : List Move) → Moves bs u ys
      → AllOf (StaysEnded (answer_of x.told.answer) x.run) ys
  all_stay u e [] h = tt
  all_stay u e (y ∷ ys) h =
      let z = one_stays u e y h.0 in (z, all_stay y.run (z.row_stays ∙ t.row_is) ys h.1)

pub run_end_stays : (bs : List ℕ) → AllOf IsByte bs → (s : State) (x : Move) (ys : List Move) → Moves bs s (x ∷ ys)
    → no_end (answer_of x.told.answer) ≡ false → AllOf (StaysEnded (answer_of x.told.answer) x.run) ys
run_end_stays bs b s x ys h f = all_stay bs b s x h.0 f x.run h.0.row_is ys h.1
