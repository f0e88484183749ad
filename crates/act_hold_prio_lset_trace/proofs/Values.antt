-- The parts of the work that an expression's value is read from, and the value that is read. Assumes nothing.
use Rattle.std.specs.Prelude.{if◌then◌else◌}
use Prim.Native.Nat.{ℕ, ◌+◌, ◌-◌, ◌*◌, ◌≤◌, ◌<◌}
use native.Mathlib.Omega.{arith}
use mathlib.Core.Path.{◌≡◌, refl, sym, ◌∙◌, ap}
use mathlib.Core.List as Lists
use mathlib.Core.List.{List, [], ◌∷◌, ◌++◌}
use mathlib.Core.Bool.{Bool, true, false}
use lib.ListN.{length, get_or, take, drop, replicate, length-drop}
use lib.Seq.{get_or-take, get_or-drop, length-take-le}
use lib.IntN.{ℤ, pos}
use lib.Signed.{non_neg}
use borrow.Author.Tests.{lt-ltb, le-ltb, le-leb, lt-leb}
use Rattle.semantics.specs.Words.{Outcome, ok, fails, ◌>>=◌}
use Rattle.semantics.specs.Numbers as No
use Rattle.semantics.specs.Model.{Expr, Action, Model}
use Rattle.semantics.specs.State.{State, Process, process, with_seeds}
use Rattle.semantics.specs.Record.{expression_in}
use Rattle.semantics.specs.Value as Worth
use Rattle.promises.specs.Fit.{ExprFit, ActFit}
use Rattle.promises.specs.Laws.{AllOf}
use Rattle.promises.specs.Sound.{al, Fine, Seed}
use Rattle.promises.specs.Moves.{proc_at}
use Rattle.base_numbers.specs.Row as Row
use Rattle.base_numbers.specs.Map as Map
use Rattle.base_numbers.specs.Process as Process
use Rattle.base_numbers.specs.Limit as Limit
use Rattle.base_numbers.specs.Code as Code
use Rattle.base_i32.specs.Code.{code, value_of, value_in, outcome_of, Ranged}
use Rattle.base_i32.specs.Laws.{told, code_fits}
use Rattle.base_i32.specs.declared.Value.{Value}
use Rattle.base_ordered.specs.Lines.{pad}
use Rattle.act_value.specs.Parts.{eval_in, draws_of, leaving, the_value, value_left, eval_parts, eval_in_ranged, draws_ok}
use Rattle.act_value.specs.Reading.{Ready}
use Rattle.file_actions.specs.Bodies.{expression_fits}
use Rattle.row_work.specs.Work.{work_of}
use Rattle.row_work.specs.Codes.{globals_part, locals_part}
use Rattle.act_hold_prio_lset_trace.specs.Given.{Valued, worth, seeds_left, left, is_within, Given}
use Rattle.act_floor.specs.Running.{On}
use Rattle.act_floor.specs.Floor.{is_sized}
use Rattle.act_floor.specs.Seeds.{copied, kept, on_with}
use Rattle.act_floor.specs.Onward.{lives, action_fits}

module _ {body map w : List ℕ} {p : ℕ} (v : Valued body map w p) where
  abbrev m : Model
  m = v.running.run.model

  abbrev s : State
  s = v.running.run.is

  abbrev q : Process
  q = process s p

  pub has_fine : Fine m s.last q
  has_fine = let a = ap al v.lives.frames_are in (proc_at v.running.sound p).live (omega arith)

  -- The eight locals, as the code cuts them out.
  abbrev pub cut : List ℕ
  cut = take (Row.FIRST_LOCALS + Process.WORDS * p + No.locals - (Row.FIRST_LOCALS + Process.WORDS * p))
      (drop (Row.FIRST_LOCALS + Process.WORDS * p) w)

  pub shows_cut : cut ≡ pad No.locals (Lists.map code q.locals)
  shows_cut =
      let e : Row.FIRST_LOCALS + Process.WORDS * p + No.locals - (Row.FIRST_LOCALS + Process.WORDS * p) ≡ No.locals =
      omega arith in
      ap (λ k. take k (drop (Row.FIRST_LOCALS + Process.WORDS * p) w)) e
      ∙ ap (λ l. take No.locals (drop (Row.FIRST_LOCALS + Process.WORDS * p) l)) v.running.run.shows
      ∙ locals_part s (is_sized v.running) p v.lives.in_places

  -- A part of the map of a number for each sampler.
  module _ (from : ℕ) (inside : from + Limit.SAMPLERS ≤ Map.WORDS) where
    abbrev pub part_from : List ℕ
    part_from = take Limit.SAMPLERS (drop from map)

    pub part_long : length part_from ≡ Limit.SAMPLERS
    part_long =
        let l = v.drawn.long in
        let d = length-drop from map in
        length-take-le Limit.SAMPLERS (drop from map) (omega arith)

    pub part_at : (i : ℕ) → i < length m.samplers → get_or part_from i 0 ≡ get_or map (from + i) 0
    part_at i h =
        let f = v.running.run.fits.few_samplers in
        get_or-take Limit.SAMPLERS (drop from map) i 0 (omega arith) ∙ get_or-drop from map i 0

  module _ (t : ℕ) (clock : t ≡ s.clock) {seeds : List ℕ} (are : seeds ≡ drop Row.SEEDS w) where
    abbrev pub ready : Ready body (take Limit.THINGS (drop Row.GLOBALS w)) cut (part_from Map.LOWEST (omega arith))
        (part_from Map.VALUES (omega arith)) seeds t
    ready =
        record {
          to_read =
              record {
                model = m;
                gs = s.globals;
                ls = q.locals;
                is_sized = v.reads.0;
                is_valid = v.reads.1.0;
                fits = expression_fits m body v.expression v.reads v.expression_fits;
                samplers_fit = v.running.run.fits.samplers_fit;
                few_vars = v.running.run.fits.few_vars;
                few_samplers = v.running.run.fits.few_samplers;
                vars_many = v.running.sound.vars_many;
                locals_many = has_fine.locals_many;
                lowest_many = part_long Map.LOWEST (omega arith);
                values_many = part_long Map.VALUES (omega arith);
                globals_ok = v.running.sound.globals_ok;
                locals_ok = has_fine.locals_ok;
                clock_ok = rw clock v.running.sound.clock_ok;
                shows_globals = ap (λ l. take Limit.THINGS (drop Row.GLOBALS l)) v.running.run.shows
                    ∙ globals_part s (is_sized v.running);
                shows_locals = shows_cut;
                shows_lowest = λ i h. part_at Map.LOWEST (omega arith) i h ∙ v.drawn.lowest_are i h;
                shows_values = λ i h. part_at Map.VALUES (omega arith) i h ∙ v.drawn.values_are i h;
              };
          ds = s.seeds;
          seeds_ok = v.running.sound.seeds_ok;
          shows_seeds = copied v.running are;
        }

  pub valued : {t : ℕ} → t ≡ s.clock → {r : Value}
      → r ≡ value_in (eval_in m s.globals q.locals t (expression_in body) s.seeds) → r ≡ value_in (the_value (worth v))
  valued clock e =
      e
      ∙ ap (λ k. value_in (eval_in m s.globals q.locals k (expression_in body) s.seeds)) clock
      ∙ ap (λ x. value_in (eval_in m s.globals q.locals s.clock x s.seeds)) v.reads.1.1
      ∙ ap value_in (sym (ap the_value (eval_parts m s q v.expression s.seeds) ∙ value_left _ _))

  pub moved_on : {after : List ℕ} → after ≡ pad Limit.SAMPLERS (draws_of (expression_in body) s.seeds)
      → after ≡ pad Limit.SAMPLERS (seeds_left v)
  moved_on e = e ∙ ap (λ x. pad Limit.SAMPLERS (draws_of x s.seeds)) v.reads.1.1

  -- THE WORK, when the seeds are kept and when they aren't.
  pub work_kept : {w₁ seeds : List ℕ} {t : Bool} → w₁ ≡ take Row.SEEDS w ++ seeds → seeds ≡ pad Limit.SAMPLERS (seeds_left v)
      → t ≡ true → w₁ ≡ work_of (left v t)
  work_kept e f k = rw k (kept v.running (seeds_left v) e f)

  pub work_as_it_was : {t : Bool} → t ≡ false → w ≡ work_of (left v t)
  work_as_it_was k = rw k v.running.run.shows

  -- WHERE THE FIRST SEED IS 0 there is no sampler: none is copied, and none is left, whether kept or not.
  module _ (z : get_or w Row.SEEDS 0 ≡ 0) where
    no_seeds : s.seeds ≡ []
    no_seeds = go s.seeds v.running.sound.seeds_ok.each refl
      where
        stands : get_or (pad Limit.SAMPLERS s.seeds) 0 0 ≡ 0
        stands =
            ap (λ l. get_or l 0 0) (sym (copied v.running refl)) ∙ get_or-drop Row.SEEDS w 0 0 ∙ z

        go : (d : List ℕ) → AllOf Seed d → s.seeds ≡ d → s.seeds ≡ []
        go [] o e = e
        go (n ∷ d) o e =
            let a : n ≡ 0 = ap (λ l. get_or (pad Limit.SAMPLERS l) 0 0) (sym e) ∙ stands in
            let b = o.0 in
            absurd (omega arith)

    pub none_copied : replicate Limit.SAMPLERS 0 ≡ drop Row.SEEDS w
    none_copied = sym (copied v.running refl ∙ ap (pad Limit.SAMPLERS) no_seeds)

    pub none_kept : (t : Bool) → w ≡ work_of (left v t)
    none_kept false = v.running.run.shows
    none_kept true = v.running.run.shows ∙ ap work_of (ap (with_seeds s) (no_seeds ∙ sym still_none))
      where
        many : length (seeds_left v) ≡ 0
        many =
            let o = v.running.sound.seeds_ok in
            let a = (draws_ok m v.expression v.expression_fits s.seeds o).many in
            let b = o.many in
            let e = ap length no_seeds in
            omega arith

        none : (d : List ℕ) → length d ≡ 0 → d ≡ []
        none [] e = refl
        none (n ∷ d) e = absurd (omega arith)

        still_none : seeds_left v ≡ []
        still_none = none (seeds_left v) many

  -- SUCH AN ANSWER tells the outcome that the definitions have, with the seeds that they leave.
  abbrev alone : Outcome ℤ
  alone = eval_in m s.globals q.locals s.clock v.expression s.seeds

  parts : worth v ≡ leaving alone (seeds_left v)
  parts = eval_parts m s q v.expression s.seeds

  has_range : Ranged alone
  has_range =
      eval_in_ranged m v.running.run.fits.samplers_fit s.globals q.locals s.clock v.running.sound.globals_ok
      has_fine.locals_ok v.running.sound.clock_ok v.expression v.expression_fits s.seeds

  pub tells : {r : Value} → r ≡ value_in (the_value (worth v)) → worth v ≡ leaving (outcome_of r) (seeds_left v)
  tells {r} answer =
      let e : outcome_of r ≡ alone =
      ap outcome_of (answer ∙ ap value_in (ap the_value parts ∙ value_left alone _)) ∙ told alone has_range in
      parts ∙ ap (λ o. leaving o (seeds_left v)) (sym e)

  -- Each value has a code of 0..HIGHEST.
  pub all_within : {r : Value} → r ≡ value_in (the_value (worth v)) → is_within 0 Code.HIGHEST r ≡ r.ok
  all_within answer =
      let e = answer ∙ ap value_in (ap the_value parts ∙ value_left alone _) in
      ap (λ r. is_within 0 Code.HIGHEST r) e ∙ go alone has_range ∙ sym (ap (λ r. r.ok) e)
    where
      go : (o : Outcome ℤ) → Ranged o → is_within 0 Code.HIGHEST (value_in o) ≡ (value_in o).ok
      go (ok z) h =
          let l = code_fits z h in
          rw (le-leb 0 (code z) (omega arith), le-leb (code z) Code.HIGHEST (omega arith))
      go (fails n) h = refl

-- THE EXPRESSION OF THE ACTION where the process on the floor stands is such a one, and fits as the action does.
module _ {body map w : List ℕ} {p : ℕ} {x : Expr → Action} (v : Given body map w p x)
    (f : ActFit v.on.running.run.model (x v.expression) → ExprFit v.on.running.run.model v.expression) where
  abbrev pub to_value : Valued body map w p
  to_value =
      record {
        running = v.on.running;
        drawn = v.drawn;
        lives = lives v.on;
        expression = v.expression;
        reads = v.reads;
        expression_fits = f (action_fits v.on);
      }

  -- What is answered of it tells the outcome. When the seeds that it leaves are kept, the process stands there still; and when
  -- they aren't, nothing has changed.
  pub answers : {r : Value} → ((z : Valued body map w p) → r ≡ value_in (the_value (worth z)))
      → worth to_value ≡ leaving (outcome_of r) (seeds_left to_value)
  answers told = tells to_value (told to_value)

  module _ {w₁ : List ℕ} {t : Bool} (told : (z : Valued body map w p) → w₁ ≡ work_of (left z t)) where
    abbrev pub still_on : t ≡ true → On w₁ p (x v.expression)
    still_on k =
        on_with v.on (seeds_left to_value)
        (draws_ok v.on.running.run.model v.expression (f (action_fits v.on)) _ v.on.running.sound.seeds_ok)
        (told to_value ∙ ap (λ b. work_of (left to_value b)) k)

    pub unchanged : t ≡ false → w₁ ≡ w
    unchanged k = told to_value ∙ ap (λ b. work_of (left to_value b)) k ∙ sym v.on.running.run.shows

-- WHICH VALUES are of low..high.
module _ (low high : ℕ) (r : Value) where
  pub none_within : r.ok ≡ false → is_within low high r ≡ false
  none_within e = rw e

  pub is_within_lem : r.ok ≡ true → low ≤ r.code → r.code ≤ high → is_within low high r ≡ true
  is_within_lem e h k = rw (e, le-leb low r.code h, le-leb r.code high k)

  pub is_below : r.ok ≡ true → r.code < low → is_within low high r ≡ false
  is_below e h = rw (e, lt-leb low r.code h)

  pub is_above : r.ok ≡ true → low ≤ r.code → high < r.code → is_within low high r ≡ false
  is_above e h k = rw (e, le-leb low r.code h, lt-leb r.code high k)

-- WHAT AN ANSWER SAYS: there is no value; there is one, below 0 or not.
module _ (r : Value) {o : Outcome Worth.Valued} (d : List ℕ) (t : o ≡ leaving (outcome_of r) d) where
  pub no_value : r.ok ≡ false → o ≡ fails No.SUM
  unfolding ◌>>=◌
  no_value e = t ∙ ap (λ b. leaving (if b then ok (value_of r.code) else fails No.SUM) d) e

  pub a_value : r.ok ≡ true → o ≡ ok (record { value = value_of r.code; seeds = d })
  unfolding ◌>>=◌
  a_value e = t ∙ ap (λ b. leaving (if b then ok (value_of r.code) else fails No.SUM) d) e

pub below_zero : (c : ℕ) → c < Code.ZERO → non_neg (value_of c) ≡ false
unfolding value_of
below_zero c h = rw (lt-ltb c Code.ZERO h)

pub from_zero : (c : ℕ) → Code.ZERO ≤ c → value_of c ≡ pos (c - Code.ZERO)
unfolding value_of
from_zero c h = rw (le-ltb c Code.ZERO h)
