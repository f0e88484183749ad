-- Shares one after the other: whether a process has them, and that they are given away or taken up. Assumes nothing.
use Prim.Native.Nat.{ℕ, ◌-◌, ◌≤◌, ◌<◌}
use native.Mathlib.Omega.{arith}
use mathlib.Core.Path.{◌≡◌, sym, subst, ◌∙◌, ap}
use mathlib.Core.List.{List, [], ◌∷◌, map}
use mathlib.Core.Bool.{Bool, true, false, ◌&&◌}
use lib.Dec.{leb}
use lib.ListN.{length, get_or, take, drop, length-set}
use lib.Seq.{set-get_or}
use Rattle.semantics.specs.Words.{all, fewer, more}
use Rattle.semantics.specs.Model.{Share}
use Rattle.semantics.specs.Bytes.{u16}
use Rattle.semantics.specs.Record.{share_of}
use Rattle.semantics.specs.State.{State, Process, process, with_processes, with_held}
use Rattle.promises.specs.Laws.{no_way, AllOf, all_set, all_get}
use Rattle.promises.specs.Parts.{Known}
use Rattle.base_numbers.specs.Row as Row
use Rattle.file_check_parts.proofs.Laws.{rest_of, parts-cons, parts_none}
use Rattle.row_work.specs.Work.{work_of, ProcessSized, Sized, Doing, Done}
use Rattle.row_work.specs.Shown.{work_long}
use Rattle.row_process.specs.Process.{Shown, Lives, Claims, Holds, changed}
use Rattle.row_process.specs.Put.{process_sized, put_sized, put_there, changed_twice}
use Rattle.act_puts_start.specs.Shares.{shares_from, has, Offering, moved, without, Room, Moves, moves, without_all}
use Rattle.act_puts_start.specs.Shares.{MovesAll, Left}
use Rattle.act_puts_start.specs.Shares.{Moving}

-- The first of n shares, and the others.
next : {n : ℕ} (rest : List ℕ) → 0 < n → shares_from n rest ≡ share_of (take 6 rest) ∷ shares_from (n - 1) (drop 6 rest)
next {n} rest h = ap (map share_of) (parts-cons 6 n rest h)

none : {n : ℕ} (rest : List ℕ) → n ≡ 0 → shares_from n rest ≡ []
none {n} rest e = ap (map share_of) (parts_none 6 n rest e)

-- ONE, of which j is the resource and n the amount, as its bytes say it: whether it is there.
pub asked : {w : List ℕ} {p j : ℕ} (x : Share) → j ≡ x.of → Shown w (λ s. (p < 64) × (x.of < length (process s p).held))
    → Shown w (λ s. (p < 64) × (j < length (process s p).held))
asked x e v =
    record { is = v.is; shows = v.shows; sized = v.sized; given = (v.given.0, rw e v.given.1) }

has_is : (q : Process) (x : Share) {j n r : ℕ} → j ≡ x.of → n ≡ x.amount → r ≡ get_or q.held j 0 → leb n r ≡ has q x
has_is q x e f g = rw (f, g, e)

pub answers : {w : List ℕ} {p j n r : ℕ} (x : Share) → j ≡ x.of → n ≡ x.amount
    → ((d : Shown w (λ s. (p < 64) × (j < length (process s p).held))) → r ≡ get_or (process d.is p).held j 0)
    → (v : Shown w (λ s. (p < 64) × (x.of < length (process s p).held))) → leb n r ≡ has (process v.is p) x
unfolding asked
answers {p = p} x e f g v = has_is (process v.is p) x e f (g (asked x e v))

-- WHETHER ALL ARE THERE. What is left to be asked of the shares h.
module _ (q : Process) (h : List Share) where
  pub record Asked (n : ℕ) (rest : List ℕ) : Type 0 where
    pub same : all (has q) (shares_from n rest) ≡ all (has q) h
    pub known : Known q.held (shares_from n rest)

module _ {body w : List ℕ} {p : ℕ} (v : Offering body w p) where
  abbrev who : Process
  who = process v.shown.is p

  abbrev pub AskedOf : ℕ → List ℕ → Type 0
  AskedOf n rest = Asked who v.shares n rest

  pub all_asked : {n : ℕ} → n ≡ u16 body 6 → AskedOf n (take (length body - 8) (drop 8 body))
  all_asked {n} e =
      let c : shares_from n (drop 8 body) ≡ v.shares = ap (λ k. shares_from k (drop 8 body)) e ∙ v.told.shares_are in
      rw (rest_of 8 body)
      (record { same = ap (all (has who)) c; known = subst (Known who.held) (sym c) v.shown.given.1 })

  module _ {n : ℕ} {rest : List ℕ} (h : 0 < n) (l : AskedOf n rest) where
    abbrev x : Share
    x = share_of (take 6 rest)

    abbrev xs : List Share
    xs = shares_from (n - 1) (drop 6 rest)

    all_known : Known who.held (x ∷ xs)
    all_known = subst (Known who.held) (next rest h) l.known

    pub next_asked : Shown w (λ s. (p < 64) × (x.of < length (process s p).held))
    next_asked =
        record {
          is = v.shown.is;
          shows = v.shown.shows;
          sized = v.shown.sized;
          given = (v.shown.given.0, all_known.0);
        }

    module _ (r : Bool)
        (told : (d : Shown w (λ s. (p < 64) × (x.of < length (process s p).held))) → r ≡ has (process d.is p) x)
      where
        answered : (r && all (has who) xs) ≡ all (has who) v.shares
        unfolding next_asked
        answered = rw (told next_asked) (sym (ap (all (has who)) (next rest h)) ∙ l.same)

        pub not_there : r ≡ false → false ≡ all (has who) v.shares
        not_there e = rw e at answered

        pub less_asked : r ≡ true → AskedOf (n - 1) (take (length rest - 6) (drop 6 rest))
        less_asked e = rw (rest_of 6 rest) (record { same = rw e at answered; known = all_known.1 })

  pub none_asked : {n : ℕ} {rest : List ℕ} → n ≡ 0 → AskedOf n rest → true ≡ all (has who) v.shares
  none_asked {n} {rest} e l = sym (ap (all (has who)) (none rest e)) ∙ l.same

-- ONE SHARE, as its bytes say it: j of it is a resource, n its amount.
module _ {w : List ℕ} {p j n : ℕ} {x : Share} (e : j ≡ x.of) (f : n ≡ x.amount) where
  pub gives_away : (away : Bool) → away ≡ true → Doing w (Moves p away x) (moves p away x)
      → Doing w (Holds p j n) (changed p (λ q. with_held q (fewer q.held j n)))
  gives_away true t d =
      record {
        is = d.is;
        shows = d.shows;
        before = d.before;
        after = rw (e, f) d.after;
        given =
            record {
              claims = record { lives = d.given.lives; there = rw e d.given.there };
              enough = rw (e, f) d.given.room;
            };
      }
  gives_away false t d = no_way t

  pub given_away : (away : Bool) (t : away ≡ true) {u : List ℕ}
      → Done w (Holds p j n) (changed p (λ q. with_held q (fewer q.held j n))) u → Done w (Moves p away x) (moves p away x) u
  unfolding gives_away
  given_away true t g d =
      g (gives_away true t d)
      ∙ ap (λ k. work_of (changed p (λ q. with_held q (fewer q.held k n)) d.is)) e
      ∙ ap (λ k. work_of (changed p (λ q. with_held q (fewer q.held x.of k)) d.is)) f
  given_away false t g d = no_way t

  pub takes_up : (away : Bool) → away ≡ false → Doing w (Moves p away x) (moves p away x)
      → Doing w (Claims p j) (changed p (λ q. with_held q (more q.held j n)))
  takes_up false t d =
      record {
        is = d.is;
        shows = d.shows;
        before = d.before;
        after = rw (e, f) d.after;
        given = record { lives = d.given.lives; there = rw e d.given.there };
      }
  takes_up true t d = no_way (sym t)

  pub taken_up : (away : Bool) (t : away ≡ false) {u : List ℕ}
      → Done w (Claims p j) (changed p (λ q. with_held q (more q.held j n))) u → Done w (Moves p away x) (moves p away x) u
  unfolding takes_up
  taken_up false t g d =
      g (takes_up false t d)
      ∙ ap (λ k. work_of (changed p (λ q. with_held q (more q.held k n)) d.is)) e
      ∙ ap (λ k. work_of (changed p (λ q. with_held q (more q.held x.of k)) d.is)) f
  taken_up true t g d = no_way (sym t)

-- A process that holds something else.
holding_sized : (q : Process) → ProcessSized q → (l : List ℕ) → length l ≤ 32 → AllOf (λ n. n ≤ 1_000_000) l
    → ProcessSized (with_held q l)
holding_sized q h l few low = search

amount_low : (away : Bool) (x : Share) (v : ℕ) → v ≤ 1_000_000 → Room away x v → moved away x.amount v ≤ 1_000_000
amount_low true x v l r = omega arith
amount_low false x v l r = r

-- ALL OF THEM. What is left to be moved, one further.
module _ {w : List ℕ} {p : ℕ} {away : Bool} {x : Share} {xs : List Share} {goal : State} (l : Left w p away (x ∷ xs) goal) where
  abbrev s : State
  s = l.is

  abbrev then : Process → Process
  then q = with_held q (without away x q.held)

  abbrev t : State
  t = moves p away x s

  there : process t p ≡ then (process s p)
  there = put_there s p (then (process s p)) l.sized.places_64 l.lives.in_places

  t_sized : Sized t
  t_sized =
      let q : Process = process s p in
      let h = process_sized s p l.sized in
      let v : ℕ = get_or q.held x.of 0 in
      let low = all_get (λ n. n ≤ 1_000_000) q.held x.of 0 h.held_low (omega arith) in
      let a : ℕ = moved away x.amount v in
      put_sized s p (then q) l.sized
      (holding_sized q h (without away x q.held) (omega (arith, length-set q.held x.of a, h.held_few))
      (all_set (λ n. n ≤ 1_000_000) q.held x.of a h.held_low (amount_low away x v low l.moves_all.1.0)))

  t_lives : Lives p t
  t_lives =
      record {
        in_places = l.lives.in_places;
        innermost = l.lives.innermost;
        around = l.lives.around;
        frames_are = ap (λ (q : Process). q.frames) there ∙ l.lives.frames_are;
      }

  pub next_moves : Doing w (Moves p away x) (moves p away x)
  next_moves =
      record {
        is = s;
        shows = l.shows;
        before = l.sized;
        after = t_sized;
        given = record { lives = l.lives; there = l.moves_all.0; room = l.moves_all.1.0 };
      }

  pub next_left : {u : List ℕ} → Done w (Moves p away x) (moves p away x) u → Left u p away xs goal
  unfolding next_moves without_all
  next_left f =
      record {
        is = t;
        shows = f next_moves;
        sized = t_sized;
        lives = t_lives;
        moves_all = subst (MovesAll away xs) (sym (ap (λ (q : Process). q.held) there)) l.moves_all.1.1;
        leads =
            changed_twice s p then (λ q. with_held q (without_all away xs q.held)) l.sized.places_64 l.lives.in_places
            ∙ l.leads;
      }

pub left_long : {w : List ℕ} {p : ℕ} {away : Bool} {h : List Share} {goal : State} → Left w p away h goal → length w ≡ Row.WORDS
left_long l = ap length l.shows ∙ work_long l.is l.sized

module _ {body first : List ℕ} {p : ℕ} {away : Bool} (v : Moving body first p away) where
  abbrev pub LeftOf : ℕ → List ℕ → List ℕ → Type 0
  LeftOf n rest w = Left w p away (shares_from n rest) v.goal

  pub all_left : {n : ℕ} → n ≡ u16 body 6 → LeftOf n (take (length body - 8) (drop 8 body)) first
  all_left {n} e =
      let c : shares_from n (drop 8 body) ≡ v.shares = ap (λ k. shares_from k (drop 8 body)) e ∙ v.told.shares_are in
      rw (rest_of 8 body) (subst (λ h. Left first p away h v.goal) (sym c) v.left)

  module _ (n : ℕ) (rest : List ℕ) {w : List ℕ} (h : 0 < n) (l : LeftOf n rest w) where
    split : Left w p away (share_of (take 6 rest) ∷ shares_from (n - 1) (drop 6 rest)) v.goal
    split = subst (λ h. Left w p away h v.goal) (next rest h) l

    pub next_moving : Doing w (Moves p away (share_of (take 6 rest))) (moves p away (share_of (take 6 rest)))
    next_moving = next_moves split

    pub less_left : {u : List ℕ} → Done w (Moves p away (share_of (take 6 rest))) (moves p away (share_of (take 6 rest))) u
        → LeftOf (n - 1) (take (length rest - 6) (drop 6 rest)) u
    less_left f = rw (rest_of 6 rest) (next_left split f)

  pub none_left : (n : ℕ) (rest : List ℕ) {w : List ℕ} → n ≡ 0 → LeftOf n rest w → w ≡ work_of v.goal
  unfolding without_all
  none_left n rest {w} e l =
      let k : Left w p away [] v.goal = subst (λ h. Left w p away h v.goal) (none rest e) l in
      k.shows ∙ ap work_of (sym (ap (with_processes k.is) (set-get_or k.is.processes p _)) ∙ k.leads)
