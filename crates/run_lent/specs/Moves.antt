-- The calls that were made on a run that is kept and lent, as the contract of `move_on` tells each: they compose, and from a
-- fresh run on demand 3 holds of what was told. Assumes nothing.
use Rattle.std.specs.Prelude.{ℕ, ◌+◌, ◌/◌, ◌≤◌, ◌≡◌, refl, List, [], ◌∷◌, map, Bool, true, false, ◌&&◌, length, if◌then◌else◌}
use Rattle.std.proofs.Common.{sym, ◌∙◌, ap, subst, leb-true}
use Rattle.semantics.specs.Numbers as No
use Rattle.semantics.specs.Model.{Model}
use Rattle.semantics.specs.Decode.{accepted, decode}
use Rattle.semantics.specs.State.{fresh}
use Rattle.semantics.specs.Run.{FAULT, Ask, is_number, no_end, leaves}
use Rattle.semantics.specs.Bound.{bound, loops}
use Rattle.promises.specs.Laws.{AllOf}
use Rattle.promises.specs.Left.{no_try}
use Rattle.base_numbers.specs.Line as Line
use Rattle.row_work.specs.Work.{work_of}
use Rattle.row_work.specs.Sized.{IsByte}
use Rattle.run_limit.specs.declared.Ran.{Ran}
use Rattle.run_limit.specs.Ran.{answer_of}
use Rattle.row_struct.specs.declared.State.{State}
use Rattle.row_struct.specs.State.{row_of}
use Rattle.run_row.specs.Call.{Called, asked, call_row, leaves_row, TellsCall}
use Rattle.run_row.specs.Own.{own_rows}
use Rattle.run_lent.specs.Calls.{call_within, called_on, steps_in, limits_in, none_ends_in, own_none_20, own_view}
use Rattle.run_lent.specs.Calls.{own_steps_at_most, own_ended_by_the_bound, own_exactly_the_bound}
use Rattle.run_lent.specs.Shown.{events_shown, living_shown}

-- ONE CALL makes steps within its limit, and its lines fit into the journal j.
module _ (bs : List ℕ) (limit : ℕ) (j w : List ℕ) {r : Ran} {w' j' : List ℕ}
    (t : TellsCall (call_row bs (asked limit j) w) r w' j j') where
  pub few_steps : r.steps ≤ limit
  few_steps = subst (λ n. n ≤ limit) (sym t.steps_are) (call_within bs (asked limit j) w).steps_few

  pub few_lines : r.lines ≤ length j / Line.BYTES
  few_lines =
      subst (λ n. n ≤ length j / Line.BYTES) (sym t.lines_are)
      (leb-true _ (length j / Line.BYTES) (call_within bs (asked limit j) w).lines_few)

-- A CALL THAT WAS MADE: its limit and the journal lent to it, what it told, and the run and the journal that it left.
pub record Move : Type 0 where
  pub limit : ℕ
  pub journal : List ℕ
  pub told : Ran
  pub run : State
  pub journal' : List ℕ

abbrev pub ask_of : Move → Ask
ask_of x = asked x.limit x.journal

abbrev pub asks_of : List Move → List Ask
asks_of xs = map ask_of xs

-- The calls xs were made one after the other on the run s, each on what the one before left.
abbrev pub Moves : List ℕ → State → List Move → Type 0
Moves bs s [] = Unit {0}
Moves bs s (x ∷ xs) =
    TellsCall (call_row bs (ask_of x) (row_of s)) x.told (row_of x.run) x.journal x.journal' × Moves bs x.run xs

abbrev pub run_after : State → List Move → State
run_after s [] = s
run_after s (x ∷ xs) = run_after x.run xs

-- What they told: all steps, the limits of those that didn't answer 30, and whether none of them ended the run.
abbrev pub steps_told : List Move → ℕ
steps_told [] = 0
steps_told (x ∷ xs) = x.told.steps + steps_told xs

abbrev pub limits_told : List Move → ℕ
limits_told [] = 0
limits_told (x ∷ xs) = (if is_number No.JOURNAL (answer_of x.told.answer) then 0 else x.limit) + limits_told xs

abbrev pub none_end_told : List Move → Bool
none_end_told [] = true
none_end_told (x ∷ xs) = no_end (answer_of x.told.answer) && none_end_told xs

-- THEY COMPOSE: what was told is what the calls on the rows say, each on the row that the calls before left.
module _ (bs : List ℕ) where
  abbrev calls : List Move → List ℕ → List Called
  calls xs w = called_on bs (asks_of xs) w

  pub row_left : (s : State) (xs : List Move) → Moves bs s xs → row_of (run_after s xs) ≡ leaves_row bs (asks_of xs) (row_of s)
  row_left s [] h = refl
  row_left s (x ∷ xs) h = row_left x.run xs h.1 ∙ ap (leaves_row bs (asks_of xs)) h.0.row_is

  pub steps_told_lem : (s : State) (xs : List Move) → Moves bs s xs → steps_told xs ≡ steps_in (calls xs (row_of s))
  steps_told_lem s [] h = refl
  steps_told_lem s (x ∷ xs) h =
      ap (λ n. n + steps_told xs) h.0.steps_are
      ∙ ap (λ n. (call_row bs (ask_of x) (row_of s)).steps + n)
      (steps_told_lem x.run xs h.1 ∙ ap (λ w. steps_in (calls xs w)) h.0.row_is)

  limits_told_lem : (s : State) (xs : List Move) → Moves bs s xs → limits_told xs ≡ limits_in (asks_of xs) (calls xs (row_of s))
  limits_told_lem s [] h = refl
  limits_told_lem s (x ∷ xs) h =
      let c = call_row bs (ask_of x) (row_of s) in
      ap (λ a. (if is_number No.JOURNAL a then 0 else x.limit) + limits_told xs) h.0.answer_is
      ∙ ap (λ n. (if is_number No.JOURNAL c.answer then 0 else x.limit) + n)
      (limits_told_lem x.run xs h.1 ∙ ap (λ w. limits_in (asks_of xs) (calls xs w)) h.0.row_is)

  none_end_told_lem : (s : State) (xs : List Move) → Moves bs s xs → none_end_told xs ≡ none_ends_in (calls xs (row_of s))
  none_end_told_lem s [] h = refl
  none_end_told_lem s (x ∷ xs) h =
      let c = call_row bs (ask_of x) (row_of s) in
      ap (λ a. no_end a && none_end_told xs) h.0.answer_is
      ∙ ap (λ b. no_end c.answer && b)
      (none_end_told_lem x.run xs h.1 ∙ ap (λ w. none_ends_in (calls xs w)) h.0.row_is)

  abbrev Not20 : Move → Type 0
  Not20 x = answer_of x.told.answer ≡ FAULT No.STATE → ⊥

  none_told_20 : (s : State) (xs : List Move) → Moves bs s xs
      → AllOf (λ c. c.answer ≡ FAULT No.STATE → ⊥) (calls xs (row_of s)) → AllOf Not20 xs
  none_told_20 s [] h n = tt
  none_told_20 s (x ∷ xs) h n = (
    λ z. n.0 (sym h.0.answer_is ∙ z),
    none_told_20 x.run xs h.1
        (subst (λ w. AllOf (λ c. c.answer ≡ FAULT No.STATE → ⊥) (calls xs w)) (sym h.0.row_is) n.1),
  )

-- FROM A FRESH RUN ON: s is what `open_run` gives of an accepted file, and xs are the calls made on it.
module _ (bs : List ℕ) (m : Model) (e : decode bs ≡ accepted m) (b : AllOf IsByte bs) (s : State)
    (o : row_of s ≡ work_of (fresh m)) where
  -- The run left shows the state that the definition's calls leave.
  pub run_shows : (xs : List Move) → Moves bs s xs → row_of (run_after s xs) ≡ work_of (leaves bs (asks_of xs) (fresh m))
  run_shows xs h = row_left bs s xs h ∙ ap (leaves_row bs (asks_of xs)) o ∙ own_rows bs m e b (asks_of xs)

  -- 20 was never answered.
  pub run_never_20 : (xs : List Move) → Moves bs s xs → AllOf (λ x. answer_of x.told.answer ≡ FAULT No.STATE → ⊥) xs
  run_never_20 xs h =
      let none = own_none_20 bs m e b (asks_of xs) in
      none_told_20 bs s xs h
      (subst (λ w. AllOf (λ c. c.answer ≡ FAULT No.STATE → ⊥) (called_on bs (asks_of xs) w)) (sym o) none)

  -- DEMAND 3, where the bound is not NONE. All calls together made no more steps than the bound.
  module _ (n : loops m ≡ false) where
    steps_are : (xs : List Move) → Moves bs s xs → steps_told xs ≡ steps_in (called_on bs (asks_of xs) (work_of (fresh m)))
    steps_are xs h = steps_told_lem bs s xs h ∙ ap (λ w. steps_in (called_on bs (asks_of xs) w)) o

    pub run_steps_at_most : (xs : List Move) → Moves bs s xs → steps_told xs ≤ bound m
    run_steps_at_most xs h =
        subst (λ k. k ≤ bound m) (sym (steps_are xs h)) (own_steps_at_most bs m e b n (asks_of xs))

    -- When the limits of the calls that didn't answer 30 add up to the bound, some call has answered an end.
    pub run_ended_by_the_bound : (x : Move) (xs : List Move) → Moves bs s (x ∷ xs) → bound m ≤ limits_told (x ∷ xs)
        → none_end_told (x ∷ xs) ≡ false
    run_ended_by_the_bound x xs h l =
        let ys : List Move = x ∷ xs in
        let c = limits_told_lem bs s ys h ∙ ap (λ w. limits_in (asks_of ys) (called_on bs (asks_of ys) w)) o in
        none_end_told_lem bs s ys h
        ∙ ap (λ w. none_ends_in (called_on bs (asks_of ys) w)) o
        ∙ own_ended_by_the_bound bs m e b n (ask_of x) (asks_of xs) (subst (λ k. bound m ≤ k) c l)

    -- With no TRY, when the run left has no event and nobody lives in it, the steps are the bound.
    pub run_exactly_the_bound : no_try m ≡ true → (xs : List Move) → Moves bs s xs → (run_after s xs).events ≡ 0
        → (run_after s xs).living ≡ 0 → steps_told xs ≡ bound m
    run_exactly_the_bound q xs h v p =
        let t = leaves bs (asks_of xs) (fresh m) in
        let g = own_view bs m e b (asks_of xs) in
        steps_are xs h
        ∙ own_exactly_the_bound bs m e b n q (asks_of xs)
        (ap (λ z. z.events) g ∙ events_shown (run_after s xs) t (run_shows xs h) v)
        (subst (λ z. AllOf (λ a. a.frames ≡ []) z.processes) (sym g) (living_shown (run_after s xs) t (run_shows xs h) p))
