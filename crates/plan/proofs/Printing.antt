-- What was printed so far, and what comes next: the text of the whole plan, piece by piece. Assumes nothing.
use Rattle.std.specs.Prelude.{if◌then◌else◌}
use Prim.Native.Nat.{ℕ, ◌+◌, ◌*◌, ◌-◌, ◌≤◌, ◌<◌, min}
use native.Mathlib.Omega.{arith}
use native.Mathlib.Nat.{zero-add, add-zero, add_assoc}
use mathlib.Core.Path.{◌≡◌, refl, sym, ◌∙◌, ap}
use mathlib.Core.List.{List, [], ◌++◌, map, map-append, append-nil, append_assoc}
use mathlib.Core.Bool.{Bool, true, false, ◌&&◌}
use lib.Dec.{ltb}
use lib.ListN.{length, length-append}
use borrow.Author.Tests.{ltb-true}
use Rattle.semantics.specs.Numbers as No
use Rattle.semantics.specs.Model.{Model}
use Rattle.semantics.specs.State.{State, fresh}
use Rattle.semantics.specs.Walk.{Line}
use Rattle.semantics.specs.Decode.{refused, accepted, decode}
use Rattle.semantics.specs.Bound.{Bounded, bound_is}
use Rattle.semantics.specs.Run.{Answer, LIMIT, Ran, stopped, endless, run}
use Rattle.semantics.specs.Journal.{room_in}
use Rattle.semantics.specs.Plan.{print_line, refused_at, ran, plan, plan_for}
use Rattle.promises.specs.Laws.{and-true}
use Rattle.promises.specs.Answers.{behind}
use Rattle.act_floor.specs.Acting.{Open}
use Rattle.run_limit.specs.Ran.{answer_of}
use Rattle.plan_text.specs.Text.{lines_text, end_text, refused_text, printed_text}
use Rattle.plan_text.specs.Laws.{lines_append}
use Rattle.plan_turn.specs.declared.Answered.{Answered}
use Rattle.plan_turn.specs.Turn.{AnsweredAs}
use Rattle.plan_turn.proofs.Turned.{still_open, all_steps}
use Rattle.plan.specs.Given.{is_limit}
use Rattle.plan.specs.Printed.{plan_text, Next}
use Rattle.plan.specs.Room.{JOURNAL, TEXT, TURN}
use Rattle.plan.proofs.Opening.{limit_is}
use Rattle.plan.proofs.Turns.{left_over, turn_at, turned}

-- THE TEXT of lines, and that of a run and its end.
abbrev text_of : List Line → List ℕ
text_of ls = lines_text (map print_line ls)

abbrev ran_text : Model → Ran → List ℕ
ran_text m r = text_of r.lines ++ end_text r.answer r.steps (bound_is m)

abbrev whole_run : Model → Ran
whole_run m = run m No.plan_steps endless (fresh m)

text_append : (ls ks : List Line) → text_of (ls ++ ks) ≡ text_of ls ++ text_of ks
text_append ls ks = ap lines_text (map-append print_line ls ks) ∙ lines_append (map print_line ls) (map print_line ks)

-- THE PLAN of a file that is refused, and of one that is accepted.
module _ (bs : List ℕ) where
  refused-plan : (n p : ℕ) → decode bs ≡ refused n p → plan bs ≡ refused_at n p
  unfolding plan plan_for
  refused-plan n p e = rw (plan_for, e) refl

  accepted-plan : (m : Model) → decode bs ≡ accepted m
      → plan bs ≡ ran (map print_line (whole_run m).lines) (whole_run m).answer (whole_run m).steps (bound_is m)
  unfolding plan plan_for
  accepted-plan m e = rw (plan_for, e) refl

  refused_text_lem : (n p : ℕ) → decode bs ≡ refused n p → plan_text bs ≡ refused_text n p
  unfolding printed_text
  refused_text_lem n p e = ap printed_text (refused-plan n p e)

  accepted_text : (m : Model) → decode bs ≡ accepted m → plan_text bs ≡ ran_text m (whole_run m)
  unfolding printed_text
  accepted_text m e = ap printed_text (accepted-plan m e)

-- SO FAR `steps` were made and their lines printed, which are `at` bytes; what is left makes up the whole. What was printed
-- is at most one full text for each step, and one more in a turn that ended the run.
pub record PrintedSoFar (bs map w : List ℕ) (answer : Answer) (steps at : ℕ) : Type 0 where
  pub running : Open bs map w
  pub passes : decode bs ≡ accepted running.run.model
  pub lines : List Line
  pub place : at ≡ length (text_of lines)
  pub whole : whole_run running.run.model
      ≡ behind (record { answer = LIMIT; steps = steps; state = running.run.is; lines = lines })
      (left_over running.run.model running.run.is answer steps)
  pub few_bytes : at ≤ TEXT * (steps + (if is_limit answer then 0 else 1))

-- Nothing is printed of a fresh run.
pub begin : {bs map w : List ℕ} (o : Open bs map w) → decode bs ≡ accepted o.run.model → o.run.is ≡ fresh o.run.model
    → {at : ℕ} → at ≡ 0 → PrintedSoFar bs map w LIMIT 0 at
unfolding lines_text
begin o e f z =
    record {
      running = o;
      passes = e;
      lines = [];
      place = z;
      whole = rw (f, zero-add) refl;
      few_bytes = omega (arith, z);
    }

-- One run behind two others.
behind_assoc : (x y z : Ran) → behind x (behind y z) ≡ behind (behind x y) z
behind_assoc x y z = rw (add_assoc, append_assoc) refl

module _ {bs map w : List ℕ} {a : Answer} {n at : ℕ} (u : PrintedSoFar bs map w a n at) where
  abbrev m : Model
  m = u.running.run.model

  abbrev s : State
  s = u.running.run.is

  abbrev done : Ran
  done = record { answer = LIMIT; steps = n; state = s; lines = u.lines }

  -- The text, where x is what is left: what was printed, and then the text of x.
  text_is : (x : Ran) → whole_run m ≡ behind done x
      → plan_text bs ≡ text_of u.lines ++ (text_of x.lines ++ end_text x.answer (n + x.steps) (bound_is m))
  text_is x e =
      accepted_text bs m u.passes ∙ ap (ran_text m) e
      ∙ ap (λ l. l ++ end_text x.answer (n + x.steps) (bound_is m)) (text_append u.lines x.lines)
      ∙ append_assoc (text_of u.lines) (text_of x.lines) _

  -- What is printed can be counted in 64 bits.
  few_in_all : (b : Bool) → n ≤ No.plan_steps → at ≤ TEXT * (n + (if b then 0 else 1)) → at ≤ TEXT * (No.plan_steps + 1)
  few_in_all true l h = omega (arith, l, h)
  few_in_all false l h = omega (arith, l, h)

  pub countable : n ≤ No.plan_steps → (piece : List ℕ) → length piece ≤ TEXT → at + length piece < 18_446_744_073_709_551_616
  countable l piece h = omega (arith, few_in_all (is_limit a) l u.few_bytes, h)

  -- A TURN, d, that is made.
  abbrev after : Ran → Ran
  after d = left_over m d.state d.answer (n + d.steps)

  module _ (goes : is_limit a && ltb n No.plan_steps ≡ true) (limit : ℕ) (l : limit ≡ min (No.plan_steps - n) TURN)
      (j : List ℕ) (room : length j ≡ JOURNAL) where
    answer_limit : a ≡ LIMIT
    answer_limit = limit_is a (and-true (is_limit a) _ goes).0

    under : n < No.plan_steps
    under = ltb-true n No.plan_steps (and-true (is_limit a) _ goes).1

    abbrev d : Ran
    d = run m limit (room_in j) s

    same_turn : turn_at m s n ≡ d
    same_turn = rw (l, room) refl

    goes_on : whole_run m ≡ behind done (behind d (after d))
    goes_on =
        u.whole
        ∙ ap (λ b. behind done (if b then run m (No.plan_steps - n) endless s else stopped a s)) goes
        ∙ ap (behind done) (turned u.running.run.fits n under s u.running.sound)
        ∙ ap (λ x. behind done (behind x (after x))) same_turn

    abbrev last : List ℕ
    last = end_text (after d).answer (n + (d.steps + (after d).steps)) (bound_is m)

    next_lines : Next (plan_text bs) at (text_of d.lines)
    next_lines =
        record {
          front = text_of u.lines;
          rest = text_of (after d).lines ++ last;
          place = u.place;
          is =
              text_is (behind d (after d)) goes_on
              ∙ ap (λ x. text_of u.lines ++ (x ++ last)) (text_append d.lines (after d).lines)
              ∙ ap (λ x. text_of u.lines ++ x) (append_assoc (text_of d.lines) (text_of (after d).lines) last);
        }

    module _ {r : Answered} {w' j' text piece : List ℕ} (t : AnsweredAs d r w' j j' text) (e : piece ≡ text) where
      piece_is : piece ≡ text_of d.lines
      piece_is = e ∙ t.text_is

      pub next_turn : Next (plan_text bs) at piece
      next_turn = rw piece_is next_lines

      -- It is underway again, with the lines of the turn printed.
      module _ (fits : length piece ≤ TEXT) {at' : ℕ} (moved : at' ≡ at + length piece) where
        length_is : at' ≡ length (text_of (u.lines ++ d.lines))
        length_is =
            moved ∙ ap (λ k. k + length piece) u.place
            ∙ ap (λ x. length (text_of u.lines) + length x) piece_is
            ∙ sym (length-append (text_of u.lines) (text_of d.lines))
            ∙ ap length (sym (text_append u.lines d.lines))

        left_is : whole_run m
            ≡ behind (record { answer = LIMIT; steps = n + r.steps; state = d.state; lines = u.lines ++ d.lines })
            (left_over m d.state (answer_of r.answer) (n + r.steps))
        left_is =
            goes_on ∙ behind_assoc done d (after d)
            ∙ ap (λ q. behind (behind done d) (left_over m d.state q (n + d.steps))) (sym t.answer_is)
            ∙ ap (λ k. behind
            (record { answer = LIMIT; steps = n + k; state = d.state; lines = u.lines ++ d.lines })
            (left_over m d.state (answer_of r.answer) (n + k))) (sym t.steps_are)

        full : at' ≤ TEXT * n + TEXT
        full = let b = rw answer_limit at u.few_bytes in omega (arith, moved, fits)

        few_again : (b : Bool) → is_limit (answer_of r.answer) ≡ b → at' ≤ TEXT * ((n + r.steps) + (if b then 0 else 1))
        few_again true e =
            let k = all_steps u.running limit j t (limit_is (answer_of r.answer) e) in omega (arith, full, k, l, under)
        few_again false e = omega (arith, full)

        pub turn_on : PrintedSoFar bs map w' (answer_of r.answer) (n + r.steps) at'
        turn_on =
            record {
              running = still_open u.running limit j t;
              passes = u.passes;
              lines = u.lines ++ d.lines;
              place = length_is;
              whole = left_is;
              few_bytes = few_again (is_limit (answer_of r.answer)) refl;
            }

  -- THE LAST LINE, in front of which no turn is left.
  module _ (stops : is_limit a && ltb n No.plan_steps ≡ false) {b : Bounded} (e : b ≡ bound_is m) {piece : List ℕ}
      (f : piece ≡ end_text a n b) where
    end_is : plan_text bs ≡ text_of u.lines ++ piece
    unfolding lines_text
    end_is =
        text_is (stopped a s)
        (u.whole
        ∙ ap (λ b. behind done (if b then run m (No.plan_steps - n) endless s else stopped a s)) stops)
        ∙ ap (λ k. text_of u.lines ++ end_text a k (bound_is m)) (add-zero n)
        ∙ ap (λ x. text_of u.lines ++ end_text a n x) (sym e)
        ∙ ap (λ x. text_of u.lines ++ x) (sym f)

    pub next_end : Next (plan_text bs) at piece
    next_end =
        record {
          front = text_of u.lines;
          rest = [];
          place = u.place;
          is = end_is ∙ ap (λ x. text_of u.lines ++ x) (sym (append-nil piece));
        }

    pub all_printed : at + length piece ≡ length (plan_text bs)
    all_printed =
        ap (λ k. k + length piece) u.place ∙ sym (length-append (text_of u.lines) piece) ∙ ap length (sym end_is)

-- A REFUSAL is printed in one piece.
module _ (bs : List ℕ) {n p : ℕ} (e : decode bs ≡ refused n p) {piece : List ℕ} (f : piece ≡ refused_text n p) where
  pub refusal_is : plan_text bs ≡ piece
  refusal_is = refused_text_lem bs n p e ∙ sym f

  pub next_refusal : {at : ℕ} → at ≡ 0 → Next (plan_text bs) at piece
  next_refusal z = record { front = []; rest = []; place = z; is = refusal_is ∙ sym (append-nil piece) }
