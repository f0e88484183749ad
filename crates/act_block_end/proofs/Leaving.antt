-- The end of a block: what the definitions make of it, and the states on the way. Assumes nothing.
use Rattle.std.specs.Prelude.{if◌then◌else◌}
use Prim.Native.Nat.{ℕ, ◌+◌, ◌≤◌, ◌<◌}
use native.Mathlib.Omega.{arith}
use mathlib.Core.Path.{◌≡◌, refl, sym, subst, ◌∙◌, ap}
use mathlib.Core.List.{List, [], ◌∷◌}
use mathlib.Core.Bool.{Bool, true, false, ◌&&◌}
use mathlib.Core.Option.{Option, none, some}
use lib.Dec.{eqb}
use borrow.Author.Tests.{lt-ltb, le-ltb, eqb-true}
use lib.ListN.{length, get_or, get_elem?}
use Rattle.semantics.specs.Words.{ok, fails, ◌>>◌, need, all, is_empty}
use Rattle.semantics.specs.Numbers as No
use Rattle.semantics.specs.Model.{Action, Model, block}
use Rattle.semantics.specs.State.{State, Process, Frame, empty, nobody, process, put, onward, past}
use Rattle.semantics.specs.State.{with_floor, with_frames}
use Rattle.semantics.specs.Claim.{stands_in}
use Rattle.semantics.specs.Walk.{line, quiet, after}
use Rattle.semantics.specs.Step.{comes_back, leave, ends, exhausted}
use Rattle.semantics.specs.Sound.{enters_at, chained}
use Rattle.base_numbers.specs.Code as Code
use Rattle.promises.specs.Laws.{no_way, and-true, AllOf, all_map, all_hold, all_get, empty_is}
use Rattle.promises.specs.Sound.{al, slaved, Sound, Held}
use Rattle.promises.specs.Moves.{remove}
use Rattle.promises.specs.Parts.{chain_again, chain_parts}
use Rattle.promises.specs.Takes.{goes_into}
use Rattle.base_i32.specs.Code.{value_of}
use Rattle.base_journal.specs.Wrote.{wrote_at}
use Rattle.file_index.specs.Ties.{kind_at, ActionAt}
use Rattle.file_actions.proofs.ByKind.{kind_of_lem}
use Rattle.row_work.specs.Work.{work_of, FrameSized, Sized, Doing}
use Rattle.row_work.specs.Underway.{in_state, still_sized}
use Rattle.row_process.specs.Process.{Shown, Lives, Inner, changed, restarted, again, outside, out}
use Rattle.row_process.specs.Put.{process_sized, put_there, put_again}
use Rattle.act_floor.specs.Acting.{Stepped}
use Rattle.act_floor.specs.Running.{Runs, runs}
use Rattle.act_floor.specs.Floor.{is_sized, shown, hand_is, in_hand, lives, low, fine}
use Rattle.act_block_end.specs.Leaving.{Exhausted, Ends, Leaves, Back}
use Rattle.row_lists.specs.Lists.{Any}
use Rattle.row_begin_end.specs.Begins.{Ending}

-- WHAT IS MADE OF IT, where the process is in the block f within fs.
module _ (m : Model) (s : State) (p : ℕ) (f : Frame) (fs : List Frame) (e : (process s p).frames ≡ f ∷ fs) where
  abbrev q : Process
  q = process s p

  pub goes_round : 1 < f.rounds → exhausted m s p q.frames ≡ ok (quiet (put p (again q) s))
  unfolding exhausted again restarted
  goes_round h =
      let g : exhausted m s p (f ∷ fs) ≡ ok (quiet (put p (with_frames q (restarted (f ∷ fs))) s)) =
      rw (lt-ltb 1 f.rounds h) in
      ap (exhausted m s p) e ∙ g ∙ ap (λ l. ok (quiet (put p (with_frames q (restarted l)) s))) (sym e)

  module _ (last : f.rounds ≤ 1) where
    pub leaves_body : fs ≡ [] → exhausted m s p q.frames ≡ ends m s p
    unfolding exhausted
    leaves_body h =
        let g : exhausted m s p (f ∷ []) ≡ ends m s p = rw (le-ltb 1 f.rounds last) in
        ap (exhausted m s p) e ∙ ap (λ l. exhausted m s p (f ∷ l)) h ∙ g

    pub leaves_block : is_empty fs ≡ false → exhausted m s p q.frames ≡ ok (quiet (put p (with_frames q (leave m fs)) s))
    unfolding exhausted
    leaves_block h =
        let g : exhausted m s p (f ∷ fs) ≡ ok (quiet (put p (with_frames q (leave m fs)) s)) =
        rw (le-ltb 1 f.rounds last, h) in
        ap (exhausted m s p) e ∙ g

module _ (m : Model) (s : State) (p : ℕ) (t : Bool)
    (e : t ≡ all (λ n. eqb n 0) (process s p).held && is_empty (process s p).slaves) where
  pub owing : t ≡ false → ends m s p ≡ fails No.OWING
  unfolding ends ◌>>◌ need
  owing h = rw (sym e ∙ h)

  pub owing_nothing : t ≡ true
      → ends m s p
      ≡ ok (after (line s (process s p).number No.ended (value_of Code.ZERO)) (quiet (with_floor (put p nobody s) empty)))
  unfolding ends ◌>>◌ need value_of
  owing_nothing h = rw (sym e ∙ h)

module _ (m : Model) (fs : List Frame) (a : Action) (e : stands_in m fs ≡ some a) where
  leave_is : leave m fs ≡ (if comes_back a then fs else onward fs)
  leave_is = ap (λ o. elim o [ none ↦ fs | some a ↦ if comes_back a then fs else onward fs ]) e

  pub left_back : (t : Bool) → t ≡ comes_back a → t ≡ true → leave m fs ≡ fs
  left_back t d h = leave_is ∙ ap (λ b. if b then fs else onward fs) (sym d ∙ h)

  pub left_past : (t : Bool) → t ≡ comes_back a → t ≡ false → leave m fs ≡ onward fs
  left_past t d h = leave_is ∙ ap (λ b. if b then fs else onward fs) (sym d ∙ h)

-- How deep the blocks are tells whether there are any around.
pub none_around : {f : Frame} (fs : List Frame) {gs : List Frame} {n : ℕ} → gs ≡ f ∷ fs → n ≡ length gs → n ≡ 1 → fs ≡ []
none_around [] e d h = refl
none_around (g ∷ fs) e d h = absurd (let b = ap length e in omega (arith, d, b))

pub some_around : {f : Frame} (fs : List Frame) {gs : List Frame} {n : ℕ} → gs ≡ f ∷ fs → n ≡ length gs → (n ≡ 1 → ⊥)
    → is_empty fs ≡ false
some_around [] e d h = absurd (h (d ∙ ap length e))
some_around (g ∷ fs) e d h = refl

-- WHERE THE PROCESS STANDS, by the map.
module _ {bs map w : List ℕ} {p : ℕ} (v : Back bs map w p) where
  abbrev pub its_run : Runs w
  its_run = runs v.acting.running

  pub its_lives : Lives p v.acting.running.run.is
  its_lives = lives its_run p v.acting.on_floor

  pub its_frame : FrameSized its_lives.innermost
  its_frame =
      (subst (AllOf FrameSized) its_lives.frames_are
      (process_sized v.acting.running.run.is p (is_sized its_run)).frames_ok).0

  abbrev pub its_work : Shown w (Lives p)
  its_work = shown its_run its_lives

  -- Its block b was read, and the actions a before that; then the index j.
  module _ {b : ℕ} (Block-read : (u : Shown w (Lives p)) → b ≡ u.given.innermost.block) where
    pub block_few : b < length map
    block_few =
        let e = Block-read its_work in
        let h = its_frame.block_low in
        let l = v.acting.running.mapped.long in
        omega (arith, e, h, l)

    module _ {a j : ℕ} (first_is : a ≡ get_or map b 0) (index_read : (u : Shown w (Lives p)) → j ≡ u.given.innermost.at) where
      pub action_low : a + j ≤ 2_048
      action_low =
          let e = Block-read its_work in
          let d = index_read its_work in
          let h = its_frame.block_low in
          let k = its_frame.at_low in
          let l = v.acting.running.mapped.first_few b (omega (arith, e, h)) in
          omega (arith, first_is, d, k, l)

      pub action_few : 257 + (a + j) < length map
      action_few = let h = action_low in let l = v.acting.running.mapped.long in omega (arith, h, l)

      stands_there : get_elem? (block v.acting.running.run.model b) j ≡ some v.action
      stands_there =
          ap (λ k. get_elem? (block v.acting.running.run.model k) j) (Block-read its_work)
          ∙ ap (get_elem? (block v.acting.running.run.model its_lives.innermost.block)) (index_read its_work)
          ∙ ap (stands_in v.acting.running.run.model) (sym its_lives.frames_are)
          ∙ v.acting.stands

      -- Its record stands at byte k.
      module _ {k : ℕ} (place_is : k ≡ get_or map (257 + (a + j)) 0) where
        pub its_record : ActionAt bs k v.action
        its_record = rw (place_is, first_is) (v.acting.running.mapped.acts_at b j v.action stands_there)

        pub its_kind : {n : ℕ} → n ≡ kind_at bs k → eqb n 27 ≡ comes_back v.action
        its_kind e = ap (λ i. eqb i 27) (e ∙ kind_of_lem its_record)

-- THE CLASS BODY IS LEFT.
abbrev pub looked_at : {w : List ℕ} {p : ℕ} (v : Ends w p) → Shown w (λ s. p < 64)
looked_at {p = p} v = shown v.running (low v.running p v.on_floor)

-- What `holds_nothing` answers.
abbrev pub OwesNothing : List ℕ → ℕ → Bool → Type 0
OwesNothing w p t =
    (u : Shown w (λ s. p < 64)) → t ≡ (all (λ n. eqb n 0) (process u.is p).held && is_empty (process u.is p).slaves)

-- Nothing is owed;
module _ {w : List ℕ} {p : ℕ} (v : Ends w p) {t : Bool} (answer : OwesNothing w p t) (clear : t ≡ true) where
  abbrev pub who : Process
  who = process v.running.run.is p

  abbrev pub gone : State
  gone = put p nobody v.running.run.is

  owes_nothing : (all (λ n. eqb n 0) who.held ≡ true) × (is_empty who.slaves ≡ true)
  owes_nothing = and-true (all (λ n. eqb n 0) who.held) _ (sym (answer (looked_at v)) ∙ clear)

  holds_none : AllOf (λ n. eqb n 0 ≡ true) who.held
  holds_none = all_hold (λ n. eqb n 0) who.held owes_nothing.0

  no_slave : who.slaves ≡ []
  no_slave = empty_is who.slaves owes_nothing.1

  gone_held : Held v.running.run.model gone v.running.run.is.blocked (λ k. 0) (λ j. 0)
  gone_held =
      remove v.running.sound p (in_hand v.running p v.on_floor)
      (λ k. let h = hand_is v.running p v.on_floor k in omega arith)
      (λ k. ap (slaved k) no_slave)
      (λ j. eqb-true _ 0 (all_get (λ n. eqb n 0 ≡ true) who.held j 0 holds_none refl))

  pub gone_sized : Sized gone
  gone_sized = still_sized v.running.run gone gone_held (is_sized v.running).floor_ok

  pub may_end : Ending p v.running.run.is
  may_end =
      record {
        in_places = low v.running p v.on_floor;
        leaves =
            record {
              in_body = v.in_body;
              frames_are = v.frames_are;
              held_none = all_map (λ n. eqb n 0 ≡ true) (λ n. n ≡ 0) (λ n h. eqb-true n 0 h) who.held holds_none;
              slaves_none = no_slave;
            };
      }

  abbrev pub ending : Doing w (Ending p) (λ s. put p nobody s)
  ending =
      record {
        is = v.running.run.is;
        shows = v.running.run.shows;
        before = is_sized v.running;
        after = gone_sized;
        given = may_end;
      }

  pub nobody_sized : Sized (with_floor gone empty)
  nobody_sized = still_sized v.running.run (with_floor gone empty) gone_held tt

  abbrev pub leaving_floor : {w₁ : List ℕ} → w₁ ≡ work_of gone → Doing w₁ Any (λ s. with_floor s empty)
  leaving_floor h = record { is = gone; shows = h; before = gone_sized; after = nobody_sized; given = tt }

  pub ended : {w' : List ℕ} → w' ≡ work_of (with_floor gone empty) → (at : ℕ) (journal : List ℕ) {journal' : List ℕ}
      → journal' ≡ wrote_at at (line v.running.run.is who.number 2 (value_of 2_147_483_648) ∷ []) journal
      → Stepped (ends v.running.run.model v.running.run.is p) 0 1 w w' at journal journal'
  ended f at journal g =
      rw (owing_nothing v.running.run.model v.running.run.is p t (answer (looked_at v)) clear)
      (refl, (refl, (f, g)))

-- or something is.
pub owed : {w : List ℕ} {p : ℕ} (v : Ends w p) {t : Bool} → OwesNothing w p t → t ≡ false → (at : ℕ) (journal : List ℕ)
    → Stepped (ends v.running.run.model v.running.run.is p) 26 0 w w at
    journal journal
owed {p = p} v {t} answer h at journal =
    rw (owing v.running.run.model v.running.run.is p t (answer (looked_at v)) h)
    (refl, (refl, (refl, refl)))

-- A BLOCK WITHIN OTHERS IS LEFT: the process stands then at the action that named it.
module _ {bs map w : List ℕ} {p : ℕ} (v : Leaves bs map w p) where
  abbrev pub model : Model
  model = v.running.run.model

  abbrev pub state : State
  state = v.running.run.is

  abbrev pub leaver : Process
  leaver = process state p

  abbrev pub back : State
  back = put p (with_frames leaver v.around) state

  all_chained : chained model (v.innermost ∷ v.around) ≡ true
  all_chained = ap (chained model) (sym v.frames_are) ∙ (fine (runs v.running) p v.on_floor).frames_ok

  some_al : (fs : List Frame) → is_empty fs ≡ false → al fs ≡ 1
  some_al [] h = no_way (sym h)
  some_al (f ∷ fs) h = refl

  pub back_sound : Sound model back
  back_sound =
      goes_into model state v.running.sound p (in_hand (runs v.running) p v.on_floor) v.around
      (chain_parts model v.innermost v.around all_chained).1 (some_al v.around v.nested)

  out_is : changed p (out true) state ≡ back
  unfolding out outside
  out_is = ap (λ fs. put p (with_frames leaver (outside true fs)) state) v.frames_are

  pub inner : Inner p state
  inner =
      record {
        lives =
            record {
              in_places = low (runs v.running) p v.on_floor;
              innermost = v.innermost;
              around = v.around;
              frames_are = v.frames_are;
            };
        nested = v.nested;
      }

  pub out_sized : Sized (changed p (out true) state)
  out_sized = rw out_is (still_sized v.running.run back back_sound (is_sized (runs v.running)).floor_ok)

  abbrev pub going_out : Doing w (Inner p) (changed p (out true))
  going_out =
      record {
        is = state;
        shows = v.running.run.shows;
        before = is_sized (runs v.running);
        after = out_sized;
        given = inner;
      }

  pub gone_out : work_of (changed p (out true) state) ≡ work_of back
  gone_out = ap work_of out_is

  -- The action that named the block.
  named_by : (f : Frame) (fs : List Frame) → is_empty fs ≡ false → chained model (f ∷ fs) ≡ true
      → (a : Action) × (stands_in model fs ≡ some a)
  named_by f [] h c = no_way (sym h)
  named_by f (g ∷ gs) h c = go (get_elem? (block model g.block) g.at) refl (chain_parts model f (g ∷ gs) c).0
    where
      go : (o : Option Action) → get_elem? (block model g.block) g.at ≡ o → enters_at o f.block f.rounds ≡ true
          → (a : Action) × (get_elem? (block model g.block) g.at ≡ some a)
      go none e n = no_way n
      go (some a) e n = (a, e)

  pub namer : (a : Action) × (stands_in model v.around ≡ some a)
  namer = named_by v.innermost v.around v.nested all_chained

  back_there : process back p ≡ with_frames leaver v.around
  back_there =
      put_there state p (with_frames leaver v.around) v.running.sound.places_64
      (low (runs v.running) p v.on_floor)

  pub stands_back : stands_in model (process back p).frames ≡ some namer.0
  stands_back = ap (λ r. stands_in model r.frames) back_there ∙ namer.1

  abbrev pub backing : {w₁ : List ℕ} → w₁ ≡ work_of back → Back bs map w₁ p
  backing e =
      record {
        action = namer.0;
        acting =
            record {
              running =
                  record { run = in_state v.running.run back e; mapped = v.running.mapped; sound = back_sound };
              on_floor = v.on_floor;
              stands = stands_back;
            };
      }

  -- It stays there, or goes past it.
  module _ {t : Bool} (d : t ≡ comes_back namer.0) where
    pub left_there : t ≡ true → work_of back ≡ work_of (put p (with_frames leaver (leave model v.around)) state)
    left_there h =
        ap (λ fs. work_of (put p (with_frames leaver fs) state)) (sym (left_back model v.around namer.0 namer.1 t d h))

    pub left_behind : t ≡ false
        → work_of (put p (past (process back p)) back) ≡ work_of (put p (with_frames leaver (leave model v.around)) state)
    unfolding past
    left_behind h =
        ap (λ r. work_of (put p (with_frames r (onward r.frames)) back)) back_there
        ∙ ap work_of (put_again state p (with_frames leaver v.around) (with_frames leaver (onward v.around)))
        ∙ ap (λ fs. work_of (put p (with_frames leaver fs) state)) (sym (left_past model v.around namer.0 namer.1 t d h))

-- A BLOCK IS EXHAUSTED.
module _ {bs map w : List ℕ} {p : ℕ} (v : Exhausted bs map w p) where
  abbrev pub run : Runs w
  run = runs v.running

  abbrev pub now_is : State
  now_is = v.running.run.is

  abbrev pub its_process : Process
  its_process = process now_is p

  pub blocks : Lives p now_is
  blocks = lives run p v.on_floor

  abbrev pub its_shown : Shown w (Lives p)
  its_shown = shown run blocks

  abbrev pub its_place : Shown w (λ s. p < 64)
  its_place = shown run blocks.in_places

  -- There are rounds left.
  module _ {n : ℕ} (rounds_read : (u : Shown w (Lives p)) → n ≡ u.given.innermost.rounds) (more : 1 < n) where
    rounds_more : 1 < blocks.innermost.rounds
    rounds_more = rw (rounds_read its_shown) at more

    pub again_sized : Sized (put p (again its_process) now_is)
    unfolding again restarted
    again_sized =
        let f : Frame = blocks.innermost in
        let c : chained v.running.run.model (f ∷ blocks.around) ≡ true =
        ap (chained v.running.run.model) (sym blocks.frames_are) ∙ (fine run p v.on_floor).frames_ok in
        subst (λ l. Sized (put p (with_frames its_process (restarted l)) now_is)) (sym blocks.frames_are)
        (still_sized v.running.run (put p (with_frames its_process (restarted (f ∷ blocks.around))) now_is)
        (goes_into v.running.run.model now_is v.running.sound p (in_hand run p v.on_floor) _
        (chain_again v.running.run.model f blocks.around rounds_more c) refl)
        (is_sized run).floor_ok)

    abbrev pub going_round : Doing w (Lives p) (changed p again)
    going_round =
        record { is = now_is; shows = v.running.run.shows; before = is_sized run; after = again_sized; given = blocks }

    pub went_round : {w' : List ℕ} → w' ≡ work_of (put p (again its_process) now_is) → (at : ℕ) (journal : List ℕ)
        → Stepped (exhausted v.running.run.model now_is p its_process.frames) 0 0 w w' at journal journal
    unfolding wrote_at
    went_round f at journal =
        rw
        (goes_round v.running.run.model now_is p blocks.innermost blocks.around blocks.frames_are
        rounds_more)
        (refl, (refl, (f, refl)))

  -- There are none; it is in n blocks.
  module _ {r n : ℕ} (rounds_read : (u : Shown w (Lives p)) → r ≡ u.given.innermost.rounds) (last : r ≤ 1)
      (depth_read : (u : Shown w (λ s. p < 64)) → n ≡ length (process u.is p).frames) where
    pub alone_in : n ≡ 1 → blocks.around ≡ []
    alone_in h = none_around blocks.around blocks.frames_are (depth_read its_place) h

    pub within_others : (n ≡ 1 → ⊥) → is_empty blocks.around ≡ false
    within_others h = some_around blocks.around blocks.frames_are (depth_read its_place) h

    last_round : blocks.innermost.rounds ≤ 1
    last_round = rw (rounds_read its_shown) at last

    abbrev pub in_body : n ≡ 1 → Ends w p
    in_body h =
        record {
          running = run;
          on_floor = v.on_floor;
          in_body = blocks.innermost;
          frames_are = blocks.frames_are ∙ ap (λ l. blocks.innermost ∷ l) (alone_in h);
        }

    pub body_left : n ≡ 1 → exhausted v.running.run.model now_is p its_process.frames
        ≡ ends v.running.run.model now_is p
    body_left h =
        leaves_body v.running.run.model now_is p blocks.innermost blocks.around blocks.frames_are
        last_round (alone_in h)

    abbrev pub in_block : (n ≡ 1 → ⊥) → Leaves bs map w p
    in_block h =
        record {
          running = v.running;
          on_floor = v.on_floor;
          innermost = blocks.innermost;
          around = blocks.around;
          frames_are = blocks.frames_are;
          nested = within_others h;
        }

    pub block_left : (h : n ≡ 1 → ⊥) {w' : List ℕ}
        → w' ≡ work_of (put p (with_frames its_process (leave v.running.run.model blocks.around)) now_is)
        → (at : ℕ) (journal : List ℕ)
        → Stepped (exhausted v.running.run.model now_is p its_process.frames) 0 0 w w' at journal journal
    unfolding wrote_at
    block_left h f at journal =
        rw
        (leaves_block v.running.run.model now_is p blocks.innermost blocks.around blocks.frames_are
        last_round (within_others h))
        (refl, (refl, (f, refl)))
