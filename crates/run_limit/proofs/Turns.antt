-- A run after some of its steps: what is left of it is a run from there. Assumes nothing.
use Prim.Native.Nat.{ℕ, suc, ◌+◌, ◌-◌, ◌*◌, ◌/◌, ◌≤◌, ◌<◌}
use native.Mathlib.Omega.{arith}
use native.Mathlib.Nat.{sub-zero, mul-div-le}
use mathlib.Core.Path.{◌≡◌, refl, sym, ◌∙◌, ap, subst}
use mathlib.Core.List.{List, [], ◌++◌, append-nil}
use mathlib.Core.Bool.{Bool, true, false, not, ◌&&◌}
use lib.Dec.{eqb}
use borrow.Author.Tests.{eqb-true, eqb-false, not-true, not-false}
use lib.ListN.{length, length-append}
use Rattle.semantics.specs.Words.{Outcome, ok, fails}
use Rattle.semantics.specs.Model.{Model}
use Rattle.semantics.specs.State.{State}
use Rattle.semantics.specs.Walk.{Line, Next}
use Rattle.semantics.specs.Step.{step}
use Rattle.semantics.specs.Run as definition
use Rattle.semantics.specs.Run.{FAULT, stopped, Before, is_closed, is_idle, goes_on, before, run, room_for}
use Rattle.semantics.specs.Journal.{room_in, written}
use Rattle.promises.specs.Laws.{no_way, and-true}
use Rattle.promises.specs.Sound.{Sound}
use Rattle.promises.proofs.Stays.{step_ok}
use Rattle.promises.specs.Safe.{step_safe}
use Rattle.base_numbers.specs.Line as Line
use Rattle.row_work.specs.Work.{work_of}
use Rattle.row_work.specs.Underway.{in_state}
use Rattle.base_journal.specs.Laws.{written_none, written-length, wrote_written}
use Rattle.base_journal.specs.Wrote.{wrote_at}
use Rattle.act_floor.specs.Acting.{Open, Going, Stepped}
use Rattle.run_limit.specs.declared.Answer.{Answer}
use Rattle.run_limit.specs.declared.Answer.TheVariants.{Fault}
use Rattle.run_limit.specs.declared.Ran.{Ran}
use Rattle.run_limit.specs.Halts.{Showing, may_go, halted_by}
use Rattle.run_limit.specs.Fitted.{fitted}
use Rattle.run_limit.specs.Ran.{answer_of, RanAs}
use Rattle.run_limit.proofs.Runs.{goes_by, run_goes, run_halts, fitted-ok, fitted-fails, added, added_none, added_one}

may : (b : Before) → may_go b ≡ true → b ≡ goes_on
may is_closed e = no_way e
may is_idle e = no_way e
may goes_on e = refl

module _ {bs map w₀ : List ℕ} (v : Open bs map w₀) (limit : ℕ) (j₀ : List ℕ) where
  -- w shows the state after `steps` steps, and `lines` lines stand in the journal j.
  pub record Sofar (w j : List ℕ) (steps lines : ℕ) : Type 0 where
    pub is : State
    pub made : List Line
    pub shows : w ≡ work_of is
    pub sound : Sound v.run.model is
    pub within : steps ≤ limit
    pub many : lines ≡ length made
    pub room : Line.BYTES * lines ≤ length j₀
    pub writes : j ≡ written made j₀
    pub runs_on : run v.run.model limit (room_in j₀) v.run.is
        ≡ added steps made (run v.run.model (limit - steps) (room_for (length j₀ / Line.BYTES - lines)) is)

  pub begun : Sofar w₀ j₀ 0 0
  begun =
      record {
        is = v.run.is;
        made = [];
        shows = v.run.shows;
        sound = v.sound;
        within = omega arith;
        many = refl;
        room = omega arith;
        writes = sym (written_none j₀);
        runs_on = rw (sub-zero limit, sub-zero (length j₀ / Line.BYTES)) (added_none _);
      }

module _ {bs map w₀ : List ℕ} {v : Open bs map w₀} {limit : ℕ} {j₀ w j : List ℕ} {steps lines : ℕ}
    (f : Sofar v limit j₀ w j steps lines) where
  abbrev m : Model
  m = v.run.model

  abbrev whole : definition.Ran
  whole = run m limit (room_in j₀) v.run.is

  abbrev left : ℕ
  left = length j₀ / Line.BYTES - lines

  abbrev opened : Open bs map w
  opened = record { run = in_state v.run f.is f.shows; mapped = v.mapped; sound = f.sound }

  abbrev pub shown : Showing w
  shown = record { is = f.is; shows = f.shows }

  none_left : (r : Bool) → r ≡ may_go (before f.is) → r && not (eqb steps limit) ≡ false
      → before f.is ≡ goes_on → limit - steps ≡ 0
  none_left r e t g =
      let a : r ≡ true = e ∙ ap may_go g in
      let b : not (eqb steps limit) ≡ false = ap (λ r. r && not (eqb steps limit)) (sym a) ∙ t in
      let c = eqb-true steps limit (not-false (eqb steps limit) b) in
      omega arith

  -- WHERE IT STOPS, what was made is all.
  ends : (a : definition.Answer) (r : Ran) → run m (limit - steps) (room_for left) f.is ≡ stopped a f.is
      → answer_of r.answer ≡ a → r.steps ≡ steps → r.lines ≡ lines → {w' j' : List ℕ} → w' ≡ w → j' ≡ j
      → RanAs whole r w' j₀ j'
  ends a r e ea es el {w'} {j'} ew ej =
      subst (λ d. RanAs d r w' j₀ j') (sym (f.runs_on ∙ ap (added steps f.made) e))
      (record {
        answer_is = ea;
        steps_are = omega (arith, es);
        lines_are = el ∙ f.many ∙ ap length (sym (append-nil f.made));
        state_is = ew ∙ f.shows;
        journal_is = ej ∙ f.writes ∙ ap (λ ls. written ls j₀) (sym (append-nil f.made));
      })

  pub halts : {r : Bool} {a : Answer} → ((u : Showing w) → r ≡ may_go (before u.is)) → r && not (eqb steps limit) ≡ false
      → ((u : Showing w) → answer_of a ≡ halted_by (before u.is))
      → RanAs whole (record { answer = a; steps = steps; lines = lines }) w j₀ j
  halts {r} {a} e t h =
      ends (halted_by (before f.is)) (record { answer = a; steps = steps; lines = lines })
      (run_halts m (limit - steps) left f.is (none_left r (e shown) t)) (h shown)
      refl refl refl refl

  -- A STEP of it, where r tells that it may go on.
  module _ {r : Bool} (tells : (u : Showing w) → r ≡ may_go (before u.is)) (test : r && not (eqb steps limit) ≡ true) where
    pub goes : before f.is ≡ goes_on
    goes = may (before f.is) (sym (tells shown) ∙ (and-true r (not (eqb steps limit)) test).0)

    pub more : steps < limit
    more =
        let a = (and-true r (not (eqb steps limit)) test).1 in
        omega (arith, f.within, eqb-false steps limit (not-true (eqb steps limit) a))

    as_long : length j ≡ length j₀
    as_long = ap length f.writes ∙ written-length f.made j₀ (let a = f.many in let b = f.room in omega arith)

    abbrev pub one_going : Going bs map w
    one_going = record { running = opened; goes_on = goes }

    pub have_left : Line.BYTES * lines ≤ length j
    have_left = let a = as_long in let b = f.room in omega arith

    -- What is left of the run, by what the step came to.
    abbrev onward : Next → definition.Ran
    onward x = run m (limit - (steps + 1)) (room_for (left - length x.lines)) x.state

    goes_by_lem : (o : Outcome Next) → fitted left (step m f.is) ≡ o
        → run m (limit - steps) (room_for left) f.is ≡ goes_by o f.is onward
    goes_by_lem o e =
        let k : limit - steps ≡ suc (limit - (steps + 1)) = omega (arith, more) in
        ap (λ n. run m n (room_for left) f.is) k
        ∙ run_goes m (limit - (steps + 1)) left f.is goes
        ∙ ap (λ o. goes_by o f.is onward) e

    not_none : (q : ℕ) → fitted left (step m f.is) ≡ fails q → 0 < q
    not_none q e = fitted-fails left (step m f.is) q (step_safe m f.is f.sound goes) e

    module _ (fault k : ℕ) (w' j' : List ℕ)
        (s : (g : Going bs map w)
        → Stepped (fitted (length j / Line.BYTES - lines)
        (step g.running.run.model g.running.run.is)) fault k w w' lines j j') where
      came : Stepped (fitted left (step m f.is)) fault k w w' lines j j'
      came = subst (λ n. Stepped (fitted (n / Line.BYTES - lines) (step m f.is)) fault k w w' lines j j') as_long (s one_going)

      -- A fault is the answer.
      pub faults : (fault ≡ 0 → ⊥) → RanAs whole
          (record { answer = Fault fault; steps = steps; lines = lines }) w' j₀ j'
      faults h = by (fitted left (step m f.is)) refl came
        where
          by : (o : Outcome Next) → fitted left (step m f.is) ≡ o → Stepped o fault k w w' lines j j'
              → RanAs whole (record { answer = Fault fault; steps = steps; lines = lines }) w' j₀ j'
          by (ok x) e s = absurd (h s.0)
          by (fails q) e s =
              ends (FAULT q) (record { answer = Fault fault; steps = steps; lines = lines }) (goes_by_lem (fails q) e)
              (ap FAULT s.0) refl refl s.1.1.0 s.1.1.1

      -- Else the run goes on from there.
      pub turned : fault ≡ 0 → Sofar v limit j₀ w' j' (steps + 1) (lines + k)
      turned h = by (fitted left (step m f.is)) refl came
        where
          by : (o : Outcome Next) → fitted left (step m f.is) ≡ o → Stepped o fault k w w' lines j j'
              → Sofar v limit j₀ w' j' (steps + 1) (lines + k)
          by (fails q) e s = let a = s.0 in let b = not_none q e in absurd (omega arith)
          by (ok x) e s =
              let o = fitted-ok left (step m f.is) x e in
              let l = s.1.0 in
              let few = o.1 in
              let many = f.many in
              let most = mul-div-le (length j₀) Line.BYTES in
              let fit : Line.BYTES * (length f.made + length x.lines) ≤ length j₀ = omega arith in
              record {
                is = x.state;
                made = f.made ++ x.lines;
                shows = s.1.1.0;
                sound = step_ok m v.run.fits f.is f.sound x o.0;
                within = omega (arith, more);
                many = omega (arith, length-append f.made x.lines);
                room = omega arith;
                writes =
                    s.1.1.1
                    ∙ ap (wrote_at lines x.lines) f.writes
                    ∙ ap (λ n. wrote_at n x.lines (written f.made j₀)) many
                    ∙ wrote_written f.made x.lines j₀ fit;
                runs_on =
                    let n : left - length x.lines ≡ length j₀ / Line.BYTES - (lines + k) = omega arith in
                    f.runs_on
                    ∙ ap (added steps f.made) (goes_by_lem (ok x) e)
                    ∙ added_one steps f.made x (onward x)
                    ∙ ap (λ n. added (steps + 1) (f.made ++ x.lines) (run m (limit - (steps + 1)) (room_for n) x.state)) n;
              }
