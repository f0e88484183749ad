-- START: the states between its changes, each as the next change asks for it, and what the definition makes of it.
-- Assumes nothing.
use Prim.Native.Nat.{ℕ, ◌+◌, ◌≤◌, ◌<◌}
use native.Mathlib.Omega.{arith}
use mathlib.Core.Path.{◌≡◌, refl, sym, subst, ◌∙◌, ap}
use mathlib.Core.List.{List, [], ◌∷◌, map}
use mathlib.Core.Bool.{Bool, true, false, ◌&&◌}
use lib.Dec.{leb, ltb}
use borrow.Author.Tests.{le-leb, lt-leb, leb-true, ltb-true, eqb-false}
use lib.ListN.{length, get_or, drop, length-map, length-set}
use lib.Seq.{get_or-drop, drop-drop}
use lib.IntN.{ℤ, pos}
use Rattle.semantics.specs.Words.{Outcome, ◌>>◌, need, all}
use Rattle.semantics.specs.Numbers as No
use Rattle.semantics.specs.Model.{Share, START, body as body_of}
use Rattle.semantics.specs.Bytes.{u16, u32}
use Rattle.semantics.specs.Record.{shares_in}
use Rattle.semantics.specs.State.{State, Process, Frame, Slave, Event, wakes, with_events, enter}
use Rattle.semantics.specs.State.{nobody, process, put, free_place, living, newcomer, with_last, with_held}
use Rattle.semantics.specs.State.{wake, past, begin}
use Rattle.semantics.specs.Walk.{Next, line}
use Rattle.semantics.specs.Step.{handed, kept, start}
use Rattle.promises.specs.Laws.{and-true, AllOf, Ordered, all_map, all_both, all_hold, over_still, once_apart, set_away}
use Rattle.promises.specs.Fit.{ShareFit, SharesApart}
use Rattle.promises.specs.Sound.{al, Fine, Vacant, Held}
use Rattle.promises.specs.Keep.{al_none, FreeAt, living_are, some_free}
use Rattle.promises.specs.Moves.{proc_at, alter, create}
use Rattle.promises.specs.Parts.{onward-al, fine_held, new_fine, zeros_at, hand_over, Known, kept_length, kept_at}
use Rattle.promises.specs.Takes.{wakes_up}
use Rattle.base_journal.specs.Wrote.{wrote_at}
use Rattle.row_work.specs.Work.{work_of, Sized, Doing, Done}
use Rattle.row_process.specs.Process.{Lives, changed}
use Rattle.row_process.specs.Alive.{hand_lives}
use Rattle.row_process.specs.Put.{put_again, put_there, changed_twice}
use Rattle.row_begin_end.specs.Begins.{Roomy, begins, Answers}
use Rattle.act_floor.specs.Acting.{Stepped}
use Rattle.act_floor.specs.Running.{On, on}
use Rattle.act_floor.specs.Onward.{m, s, q, hand, is_sized, shown, still_sized, in_hand, alive, lives, low, fine, action_fits}
use Rattle.act_floor.specs.Onward.{passes_as}
use Rattle.act_puts_start.specs.Shares.{shares_from, SharesAt, has, Offering, moved, without, Room, without_all}
use Rattle.act_puts_start.specs.Shares.{MovesAll, Moving}
use Rattle.act_puts_start.specs.Hands.{Starting}

-- ALL SHARES can be moved where each can by itself: no two are of one resource.
pub movable : (away : Bool) (h : List Share) (l : List ℕ) → Known l h → Ordered SharesApart h
    → AllOf (λ x. Room away x (get_or l x.of 0)) h → MovesAll away h l
movable away [] l k a r = tt
movable away (x ∷ xs) l k a r =
    let n : ℕ = moved away x.amount (get_or l x.of 0) in (
      k.0,
      (
        r.0,
        movable away xs (without away x l) (rw (length-set l x.of n) k.1) a.1
            (all_map (λ y. SharesApart x y × Room away y (get_or l y.of 0)) _
            (λ y b.
            subst (Room away y)
            (sym (set_away l x.of y.of n 0 (once_apart x.of y.of (eqb-false x.of y.of b.0)))) b.1)
            xs (all_both (SharesApart x) (λ y. Room away y (get_or l y.of 0)) xs a.0 r.1)),
      ),
    )

-- What is held then is what the definition says.
kept_is : (h : List Share) (l : List ℕ) → without_all true h l ≡ kept h l
unfolding without_all kept
kept_is [] l = refl
kept_is (x ∷ xs) l = kept_is xs (without true x l)

handed_is : (h : List Share) (l : List ℕ) → without_all false h l ≡ handed h l
unfolding without_all handed
handed_is [] l = refl
handed_is (x ∷ xs) l = handed_is xs (without false x l)

abbrev zeros : List ℕ → List ℕ
zeros l = map (λ x. 0) l

same_zeros : (xs ys : List ℕ) → length xs ≡ length ys → zeros xs ≡ zeros ys
same_zeros [] [] e = refl
same_zeros [] (y ∷ ys) e = absurd (omega arith)
same_zeros (x ∷ xs) [] e = absurd (omega arith)
same_zeros (x ∷ xs) (y ∷ ys) e = ap (λ l. 0 ∷ l) (same_zeros xs ys (omega arith))

-- Whoever is entered holds something else: that could have come first.
held_later : (u : State) (t f : ℕ) (n : Process) (g : List ℕ → List ℕ) → length u.processes ≡ 64 → f < 64
    → changed f (λ r. with_held r (g r.held)) (wake t f (put f n u)) ≡ wake t f (put f (with_held n (g n.held)) u)
unfolding wake
held_later u t f n g e l =
    let k : Process → Process = λ r. with_held r (g r.held) in
    let then : Process → List Event = λ r.
    enter (record { time = t; priority = r.priority; notice = wakes f }) u.events in
    ap (λ r. put f (k r) (with_events (put f n u) (then r))) (put_there u f n e l)
    ∙ ap (λ z. with_events z (then n)) (put_again u f n (k n))
    ∙ ap (λ r. with_events (put f (k n) u) (then r)) (sym (put_there u f (k n) e l))

-- A vacant place has nobody in it.
whole : ℕ → ℤ → List ℤ → List ℕ → List Slave → List Frame → Process
whole n x l r a b = record { number = n; priority = x; locals = l; held = r; slaves = a; frames = b }

same_parts : (r : Process) → Vacant r → r.frames ≡ []
    → whole r.number r.priority r.locals r.held r.slaves r.frames ≡ whole 0 (pos 0) [] [] [] []
same_parts r v e = cc

nobody_is : (r : Process) → Vacant r → r.frames ≡ [] → r ≡ nobody
unfolding whole
nobody_is r v e = same_parts r v e

module _ {body map w : List ℕ} {p : ℕ} (v : Starting body map w p) where
  abbrev h : List Share
  h = v.shares

  abbrev pub o : On w p (START v.class v.offset h)
  o = on v.acting

  abbrev held : List ℕ
  held = (q o).held

  pub class_low : v.class < 64
  class_low = omega (arith, (action_fits o).0, o.running.run.fits.few_classes)

  -- SHARES. They stand in the body; the giver's resources and its own are those of the model.
  pub shares_at : SharesAt body h
  unfolding shares_in
  shares_at =
      let n : u16 (drop 6 body) 0 ≡ u16 body 6 = omega (arith, get_or-drop 6 body 0 0, get_or-drop 6 body 1 0) in
      record {
        inside = omega (arith, v.says.long);
        shares_are =
            ap (λ k. shares_from k (drop 8 body)) (sym n)
            ∙ ap (shares_from (u16 (drop 6 body) 0)) (sym (drop-drop 2 6 body))
            ∙ v.says.shares_are.1.1;
      }

  pub known : (l : List ℕ) → length l ≡ length (m o).totals → Known l h
  known l e = rw e (all_map (ShareFit (m o)) (λ x. x.of < length (m o).totals) (λ x a. a.0) h (action_fits o).3)

  abbrev pub offering : Offering body w p
  offering =
      record { shares = h; told = shares_at; shown = shown o (low o, known held (fine o).held_many) }

  -- WHAT THE DEFINITION MAKES OF IT, where t is the time at which the new process enters.
  abbrev made : Outcome Next
  made = start (m o) (s o) p v.class v.offset h

  abbrev vacancy : Bool
  vacancy = ltb (living (s o)) No.places && ltb (s o).last No.last_number

  module _ {t : ℕ} (time : t ≡ (s o).clock + u32 body 2) where
    time_is : t ≡ (s o).clock + v.offset
    time_is = time ∙ ap (λ k. (s o).clock + k) v.says.offset_is

    pub is_late : No.latest < t → (at : ℕ) (out : List ℕ) → Stepped made No.LATE 0 w w at out out
    unfolding start ◌>>◌ need
    is_late l at out = rw (lt-leb ((s o).clock + v.offset) No.latest (omega (arith, time_is))) (refl, (refl, (refl, refl)))

    module _ (soon : t ≤ No.latest) where
      in_time : leb ((s o).clock + v.offset) No.latest ≡ true
      in_time = le-leb ((s o).clock + v.offset) No.latest (omega (arith, time_is))

      module _ {a : Bool} (told : a ≡ all (has (q o)) h) where
        pub is_short : a ≡ false → (at : ℕ) (out : List ℕ) → Stepped made No.HELD 0 w w at out out
        unfolding start ◌>>◌ need
        is_short e at out = rw (in_time, sym told ∙ e) (refl, (refl, (refl, refl)))

        pub is_full : a ≡ true → {b : Bool} → b ≡ vacancy → b ≡ false → (at : ℕ) (out : List ℕ)
            → Stepped made No.FULL 0 w w at out out
        unfolding start ◌>>◌ need
        is_full e f g at out = rw (in_time, sym told ∙ e, sym f ∙ g) (refl, (refl, (refl, refl)))

  -- No fault: the time t can be had, the shares are there, and so is a place.
  pub record Ready (t : ℕ) : Type 0 where
    pub time : t ≡ (s o).clock + u32 body 2
    pub soon : t ≤ No.latest
    pub rich : all (has (q o)) h ≡ true
    pub room : vacancy ≡ true

  pub ready : {t : ℕ} {a b : Bool} → t ≡ (s o).clock + u32 body 2 → t ≤ No.latest → a ≡ all (has (q o)) h → a ≡ true
      → b ≡ vacancy → b ≡ true → Ready t
  ready e f g h i j = record { time = e; soon = f; rich = sym g ∙ h; room = sym i ∙ j }

  pub block_is : {b k : ℕ} → b ≡ get_or map (1_281 + k) 0 → k ≡ u16 body 0 → b ≡ body_of (m o) v.class
  block_is e f =
      e
      ∙ ap (λ k. get_or map (1_281 + k) 0) (f ∙ v.says.class_is)
      ∙ v.acting.running.mapped.body_is v.class class_low

  module _ {t : ℕ} (y : Ready t) where
    -- THE GIVER first holds less, and then goes past the action.
    pub enough : AllOf (λ x. has (q o) x ≡ true) h
    enough = all_hold (has (q o)) h y.rich

    abbrev left_over : Process
    left_over = with_held (q o) (kept h held)

    left_is : (j : ℕ) → get_or (kept h held) j 0 + hand_over j h ≡ get_or held j 0
    left_is j = kept_at h held j (known held (fine o).held_many) (action_fits o).4 enough

    left_fine : Fine (m o) (s o).last left_over
    left_fine = fine_held (fine o) (kept h held) (kept_length h held)

    abbrev lighter : State
    lighter = changed p (λ r. with_held r (without_all true h r.held)) (s o)

    lighter_is : lighter ≡ put p left_over (s o)
    lighter_is = ap (λ l. put p (with_held (q o) l) (s o)) (kept_is h held)

    lighter_held : Held (m o) (put p left_over (s o)) (s o).blocked (hand o) (λ j. hand_over j h)
    lighter_held =
        alter o.running.sound p left_over (in_hand o) left_fine (alive o) refl (λ k. refl)
        (λ j. let a = left_is j in omega arith)

    lighter_sized : Sized lighter
    lighter_sized =
        subst Sized (sym lighter_is)
        (still_sized o (put p left_over (s o)) lighter_held (is_sized o).floor_ok)

    lighter_lives : Lives p lighter
    lighter_lives =
        subst (Lives p) (sym lighter_is)
        (hand_lives lighter_held p (in_hand o))

    abbrev pub giving : Moving body w p true
    giving =
        record {
          shares = h;
          told = shares_at;
          goal = lighter;
          left =
              record {
                is = s o;
                shows = o.running.run.shows;
                sized = is_sized o;
                lives = lives o;
                moves_all =
                    movable true h held (known held (fine o).held_many) (action_fits o).4
                    (all_map _ (λ x. x.amount ≤ get_or held x.of 0)
                    (λ x e. leb-true x.amount (get_or held x.of 0) e) h enough);
                leads = refl;
              };
        }

    abbrev giver : State
    giver = put p (past left_over) (s o)

    giver_is : changed p past lighter ≡ giver
    giver_is =
        changed_twice (s o) p (λ r. with_held r (without_all true h r.held)) past (is_sized o).places_64 (low o)
        ∙ ap (λ l. put p (past (with_held (q o) l)) (s o)) (kept_is h held)

    giver_held : Held (m o) giver (s o).blocked (hand o) (λ j. hand_over j h)
    giver_held = passes_as o left_over left_fine refl refl (λ k. refl) left_is

    giver_sized : Sized giver
    giver_sized = still_sized o giver giver_held (is_sized o).floor_ok

    pub passing : {w₁ : List ℕ} → w₁ ≡ work_of lighter → Doing w₁ (Lives p) (changed p past)
    passing e =
        record {
          is = lighter;
          shows = e;
          before = lighter_sized;
          after = subst Sized (sym giver_is) giver_sized;
          given = lighter_lives;
        }

    pub passed : {w₁ w₂ : List ℕ} (e : w₁ ≡ work_of lighter) → Done w₁ (Lives p) (changed p past) w₂ → w₂ ≡ work_of giver
    unfolding passing
    passed e f = f (passing e) ∙ ap work_of giver_is

    -- ONE BEGINS, with nothing; there is a place for it.
    abbrev place : ℕ
    place = free_place giver

    both : (ltb (living (s o)) No.places ≡ true) × (ltb (s o).last No.last_number ≡ true)
    both = and-true (ltb (living (s o)) No.places) _ y.room

    free : FreeAt giver.processes place
    unfolding past
    free =
        let a = over_still (λ r. al r.frames) (s o).processes p (past left_over) nobody (onward-al (q o).frames) in
        let b = living_are (s o) in
        let c = ltb-true (living (s o)) No.places both.0 in
        some_free giver.processes (omega (arith, giver_sized.places_64))

    place_low : place < 64
    place_low = omega (arith, free.0, giver_sized.places_64)

    pub roomy : Roomy giver
    roomy =
        record {
          in_places = place_low;
          vacant = nobody_is (process giver place) ((proc_at giver_held place).dead free.1) (al_none _ free.1);
        }

    abbrev nothing : List ℕ
    nothing = zeros (s o).free

    nothing_long : length nothing ≡ length (m o).totals
    nothing_long = length-map (s o).free (λ x. 0) ∙ o.running.sound.frees_many

    abbrev newly : State
    newly = with_last giver ((s o).last + 1)

    abbrev new : List ℕ → Process
    new l = newcomer (m o) ((s o).last + 1) v.class l

    begun_held : Held (m o) (wake t place (put place (new nothing) newly)) (s o).blocked (hand o) (λ j. hand_over j h)
    begun_held =
        wakes_up (m o) (put place (new nothing) newly)
        (create giver_held place (new nothing) (ltb-true (s o).last No.last_number both.1) free
        (new_fine (m o) (s o).last v.class nothing (action_fits o).0 nothing_long) refl refl refl (λ k. refl)
        (λ j. let a = zeros_at (s o).free j in omega arith))
        t place (omega (arith, y.time)) y.soon (λ k. refl)

    abbrev begun : State
    begun = begins (body_of (m o) v.class) t giver

    begun_sized : Sized begun
    unfolding begins
    begun_sized = still_sized o begun begun_held (is_sized o).floor_ok

    module _ {b : ℕ} (block : b ≡ body_of (m o) v.class) where
      pub beginning : {w₂ : List ℕ} → w₂ ≡ work_of giver → Doing w₂ Roomy (λ u. begins b t u)
      beginning e =
          record {
            is = giver;
            shows = e;
            before = giver_sized;
            after = subst (λ k. Sized (begins k t giver)) (sym block) begun_sized;
            given = roomy;
          }

      pub has_begun : {w₂ w₃ : List ℕ} → w₂ ≡ work_of giver → Done w₂ Roomy (λ u. begins b t u) w₃ → w₃ ≡ work_of begun
      unfolding beginning
      has_begun e f = f (beginning e) ∙ ap (λ k. work_of (begins k t giver)) block

      pub placed : {w₂ : List ℕ} {r : ℕ} → w₂ ≡ work_of giver → Answers w₂ Roomy (λ u. begins b t u) free_place r → r ≡ place
      unfolding beginning
      placed e f = f (beginning e)

    -- IT TAKES UP what was given.
    there : process begun place ≡ new nothing
    unfolding begins wake
    there = put_there newly place (new nothing) giver_sized.places_64 place_low

    abbrev pub final : State
    final = begin (m o) v.class ((s o).clock + v.offset) (handed h (zeros held)) giver

    final_is : changed place (λ r. with_held r (without_all false h r.held)) begun ≡ final
    unfolding begins begin
    final_is =
        held_later newly t place (new nothing) (without_all false h) giver_sized.places_64 place_low
        ∙ ap (λ l. wake t place (put place (new l) newly)) (handed_is h nothing)
        ∙ ap (λ l. wake t place (put place (new (handed h l)) newly))
        (same_zeros (s o).free held (o.running.sound.frees_many ∙ sym (fine o).held_many))
        ∙ ap (λ k. wake k place (put place (new (handed h (zeros held))) newly)) (time_is y.time)

    begun_lives : Lives place begun
    begun_lives =
        record {
          in_places = place_low;
          innermost = record { block = body_of (m o) v.class; at = 0; rounds = 1 };
          around = [];
          frames_are = ap (λ (x : Process). x.frames) there;
        }

    can_take : MovesAll false h nothing
    can_take =
        movable false h nothing (known nothing nothing_long) (action_fits o).4
        (all_map (ShareFit (m o)) (λ x. Room false x (get_or nothing x.of 0))
        (λ x a. let z = zeros_at (s o).free x.of in omega (arith, a.1.high)) h (action_fits o).3)

    pub taking : {w₃ : List ℕ} {r : ℕ} → w₃ ≡ work_of begun → r ≡ place → Moving body w₃ r false
    taking {r = r} e f =
        record {
          shares = h;
          told = shares_at;
          goal = final;
          left =
              record {
                is = begun;
                shows = e;
                sized = begun_sized;
                lives = subst (λ k. Lives k begun) (sym f) begun_lives;
                moves_all =
                    subst (λ k. MovesAll false h (process begun k).held) (sym f)
                    (subst (MovesAll false h) (sym (ap (λ (x : Process). x.held) there)) can_take);
                leads = ap (λ k. changed k (λ x. with_held x (without_all false h x.held)) begun) f ∙ final_is;
              };
        }

    pub has_started : {w₃ w₄ : List ℕ} {r : ℕ} → w₃ ≡ work_of begun → r ≡ place
        → ((d : Moving body w₃ r false) → w₄ ≡ work_of d.goal) → (at : ℕ) (out : List ℕ) {out' : List ℕ} {n : ℕ}
        → out' ≡ wrote_at at (line (s o) ((s o).last + 1) 1 (pos n) ∷ []) out → n ≡ u16 body 0 → Stepped made 0 1 w w₄ at out out'
    unfolding start ◌>>◌ need taking
    has_started e f g at out k c =
        rw (in_time y.time y.soon, y.rich, y.room) (
          refl,
          (
            refl,
            (g (taking e f), k ∙ ap (λ n. wrote_at at (line (s o) ((s o).last + 1) 1 (pos n) ∷ []) out) (c ∙ v.says.class_is)),
          ),
        )
