-- The lines of a turn fit into its journal and its text, and it tells the run that was made. Assumes nothing.
use Prim.Native.Nat.{ℕ, ◌*◌, ◌/◌, ◌≤◌}
use native.Mathlib.Omega.{arith}
use mathlib.Core.Path.{◌≡◌, refl, sym, ◌∙◌, ap}
use mathlib.Core.List.{List, map}
use lib.ListN.{length}
use borrow.Author.Tests.{leb-true}
use Rattle.semantics.specs.Run as definition
use Rattle.semantics.specs.State.{State}
use Rattle.semantics.specs.Walk.{Line}
use Rattle.semantics.specs.Run.{CLOSED, IDLE, LIMIT, FAULT, run}
use Rattle.semantics.specs.Journal.{room_in}
use Rattle.semantics.specs.Plan.{print_line}
use Rattle.promises.specs.Laws.{AllOf}
use Rattle.promises.proofs.Calls.{run_sound}
use Rattle.promises.specs.Answers.{steps_within, lines_fit}
use Rattle.promises.specs.Answers.{Why, was_closed, was_idle, at_limit, at_fault, no_room, run_why}
use Rattle.base_numbers.specs.Line as Line
use Rattle.row_work.specs.Underway.{in_state}
use Rattle.act_floor.specs.Acting.{Open}
use Rattle.run_limit.specs.declared.Ran.{Ran}
use Rattle.run_limit.specs.Ran.{answer_of, number_of, RanAs}
use Rattle.plan_text.specs.Text.{lines_text}
use Rattle.plan_text.specs.Tells.{tells_in, Writable, tells_written}
use Rattle.plan_text.specs.Put.{Front}
use Rattle.plan_turn.specs.declared.Answered.{Answered}
use Rattle.plan_turn.specs.Turn.{AnsweredAs}
use Rattle.plan_turn.specs.Lent as Lent

module _ {bs map w : List ℕ} (v : Open bs map w) (limit : ℕ) (j : List ℕ) {x : Ran} {w' j' : List ℕ}
    (t : RanAs (run v.run.model limit (room_in j) v.run.is) x w' j j') where
  few : x.lines ≤ length j / Line.BYTES
  few =
      let a = leb-true _ (length j / Line.BYTES) (lines_fit v.run.model limit (room_in j) v.run.is) in
      omega (arith, t.lines_are)

  pub fits_journal : length j' ≡ length j → Line.BYTES * x.lines ≤ length j'
  fits_journal e = omega (arith, few)

  pub fits_text : {n : ℕ} → Line.TEXT * (length j / Line.BYTES) ≤ n → Line.TEXT * x.lines ≤ n
  fits_text h = omega (arith, few)

-- IT TELLS the run d, whose lines can be written.
module _ {d : definition.Ran} (h : AllOf Writable d.lines) {x : Ran} {w' j j' : List ℕ} (t : RanAs d x w' j j') where
  told : tells_in j' x.lines ≡ map print_line d.lines
  told =
      ap (tells_in j') t.lines_are ∙ ap (λ l. tells_in l (length d.lines)) t.journal_is ∙ tells_written d.lines j h

  pub answered : {text : List ℕ} → text ≡ lines_text (tells_in j' x.lines)
      → AnsweredAs d (record { answer = x.answer; steps = x.steps }) w' j j' text
  answered f =
      record {
        answer_is = t.answer_is;
        steps_are = t.steps_are;
        state_is = t.state_is;
        journal_is = t.journal_is;
        text_is = f ∙ ap lines_text told;
      }

  -- At the front of a slice.
  pub answered_lent : {n b : ℕ} {out out' : List ℕ} → n ≡ number_of (answer_of x.answer)
      → Front (lines_text (tells_in j' x.lines)) out out' b
      → Lent.AnsweredAs d (record { answer = n; steps = x.steps; bytes = b }) w' j j' out out'
  answered_lent e f =
      record {
        answer_is = e ∙ ap number_of t.answer_is;
        steps_are = t.steps_are;
        state_is = t.state_is;
        journal_is = t.journal_is;
        text_is = rw (sym told) f;
      }

-- THE RUN IS STILL OPEN.
module _ {bs map w : List ℕ} (v : Open bs map w) (limit : ℕ) (j : List ℕ) {r : Answered} {w' j' text : List ℕ}
    (t : AnsweredAs (run v.run.model limit (room_in j) v.run.is) r w' j j' text) where
  abbrev pub still_open : Open bs map w'
  still_open =
      record {
        run = in_state v.run (run v.run.model limit (room_in j) v.run.is).state t.state_is;
        mapped = v.mapped;
        sound = run_sound v.run.model v.run.fits limit (room_in j) v.run.is v.sound;
      }

  pub few_steps : r.steps ≤ limit
  few_steps = rw t.steps_are (steps_within v.run.model limit (room_in j) v.run.is)

  -- LIMIT is answered where all steps were made.
  pub all_steps : answer_of r.answer ≡ LIMIT → r.steps ≡ limit
  all_steps e = t.steps_are ∙ by (run_why v.run.model limit (room_in j) v.run.is) (sym t.answer_is ∙ e)
    where
      limits : definition.Answer → ℕ
      limits CLOSED = 0
      limits IDLE = 0
      limits LIMIT = 1
      limits (FAULT k) = 0

      other : {a : definition.Answer} → a ≡ LIMIT → limits a ≡ 0 → ⊥
      other d z = let o : limits LIMIT ≡ 0 = sym (ap limits d) ∙ z in omega arith

      by : {a : definition.Answer} {k : ℕ} {ls : List Line} {u : State} → Why v.run.model limit (room_in j) a k ls u
          → a ≡ LIMIT → k ≡ limit
      by (was_closed b) d = absurd (other d refl)
      by (was_idle b) d = absurd (other d refl)
      by (at_limit b l) d = l
      by (at_fault b l f) d = absurd (other d refl)
      by (no_room b l f g) d = absurd (other d refl)
