-- A claim taken in the work: one item, and the items one after the other. Assumes nothing.
use Prim.Native.Nat.{ℕ, zero, suc, ◌+◌, ◌-◌, ◌≤◌, ◌<◌}
use native.Mathlib.Omega.{arith}
use mathlib.Core.Path.{◌≡◌, refl, sym, subst, ◌∙◌, ap}
use mathlib.Core.List.{List, [], ◌∷◌, map}
use mathlib.Core.Bool.{true}
use borrow.Author.Tests.{leb-true}
use lib.ListN.{length, get_or, set, take, drop, length-set}
use Rattle.semantics.specs.Words.{more, fewer}
use Rattle.semantics.specs.Model.{Model, resource, bin, sync, Item, get, condition, Claim}
use Rattle.semantics.specs.Bytes.{u8, u16, i32}
use Rattle.semantics.specs.Record.{relation_of, item_of}
use Rattle.semantics.specs.State.{State, Waiter, with_free, with_bins, with_held}
use Rattle.semantics.specs.Claim.{item_met, take_item, take_all}
use Rattle.promises.specs.Laws.{AllOf, Ordered, all_map, all_both, all_set, all_get}
use Rattle.promises.specs.Fit.{ItemFit, Apart}
use Rattle.promises.specs.Sound.{Held}
use Rattle.promises.specs.Moves.{hand_fine}
use Rattle.promises.specs.Takes.{still_item, still_met, take_item_lem, all_met}
use Rattle.base_numbers.specs.Row as Row
use Rattle.file_check_parts.proofs.Laws.{rest_of, parts-cons, parts_none}
use Rattle.file_claim.specs.Laid.{items_in, claim_items}
use Rattle.row_work.specs.Work.{work_of, FloorSized, Sized, Doing, Done}
use Rattle.row_work.specs.Shown.{work_long, free_at, free_set, bins_at, bins_set}
use Rattle.row_work.specs.Underway.{still_sized}
use Rattle.row_process.specs.Process.{Lives, Claims, changed}
use Rattle.row_slaves.specs.Slaves.{Waiting}
use Rattle.row_grant.specs.Grant.{Known, Takes, InBin, Taking}
use Rattle.row_process.specs.Alive.{hand_lives}
use Rattle.row_grant.specs.declared.Wanted.{Wanted}
use Rattle.row_grant.specs.Wants.{wanted_by}

pub is_long : {w : List ℕ} {P : State → Type 0} {f : State → State} → Doing w P f → length w ≡ Row.WORDS
is_long d = ap length d.shows ∙ work_long d.is d.before

-- A RESOURCE: first there is less of it free, then the process holds more.
free_sized : (s : State) → Sized s → (xs : List ℕ) → length xs ≤ 32 → AllOf (λ n. n ≤ 1_000_000) xs
    → Sized (with_free s xs)
free_sized s h xs few low = search

module _ {w : List ℕ} {p i n : ℕ} (d : Doing w (Takes p (get resource i n)) (take_item p (get resource i n))) where
  pub free_few : i < 32
  free_few = omega (arith, d.given.known.0, d.before.free_few)

  free_is : get_or w (8 + i) 0 ≡ get_or d.is.free i 0
  free_is = ap (λ x. get_or x (8 + i) 0) d.shows ∙ free_at d.is d.before i d.given.known.0

  pub free_enough : n ≤ get_or w (8 + i) 0
  free_enough = omega (arith, free_is, leb-true n (get_or d.is.free i 0) d.given.enough)

  pub less_free : Doing (set w (8 + i) (get_or w (8 + i) 0 - n)) (Claims p i) (changed p (λ q. with_held q (more q.held i n)))
  unfolding take_item
  less_free =
      let s : State = d.is in
      let v : ℕ = get_or s.free i 0 - n in
      let l : Lives p s = d.given.lives in
      let few = d.before.free_few in
      let low = all_get (λ x. x ≤ 1_000_000) s.free i 0 d.before.free_low (omega arith) in
      record {
        is = with_free s (fewer s.free i n);
        shows =
            ap (λ x. set w (8 + i) (x - n)) free_is
            ∙ ap (λ x. set x (8 + i) v) d.shows
            ∙ free_set s d.before i v d.given.known.0;
        before =
            free_sized s d.before (fewer s.free i n) (omega (arith, length-set s.free i v))
            (all_set (λ x. x ≤ 1_000_000) s.free i v d.before.free_low (omega arith));
        after = d.after;
        given =
            record {
              lives =
                  record {
                    in_places = l.in_places;
                    innermost = l.innermost;
                    around = l.around;
                    frames_are = l.frames_are;
                  };
              there = d.given.known.1;
            };
      }

  pub resource_taken : {x : List ℕ}
      → Done (set w (8 + i) (get_or w (8 + i) 0 - n)) (Claims p i) (changed p (λ q. with_held q (more q.held i n))) x
      → x ≡ work_of (take_item p (get resource i n) d.is)
  unfolding take_item less_free
  resource_taken f = f less_free

-- A BIN.
module _ {w : List ℕ} {i n : ℕ} (d : Doing w (InBin i n) (λ s. with_bins s (fewer s.bins i n))) where
  pub bins_few : i < 32
  bins_few = omega (arith, d.given.there, d.before.bins_few)

  bin_is : get_or w (40 + i) 0 ≡ get_or d.is.bins i 0
  bin_is = ap (λ x. get_or x (40 + i) 0) d.shows ∙ bins_at d.is d.before i d.given.there

  pub bin_enough : n ≤ get_or w (40 + i) 0
  bin_enough = omega (arith, bin_is, d.given.enough)

  pub bin_taken : set w (40 + i) (get_or w (40 + i) 0 - n) ≡ work_of (with_bins d.is (fewer d.is.bins i n))
  bin_taken =
      let v : ℕ = get_or d.is.bins i 0 - n in
      ap (λ x. set w (40 + i) (x - n)) bin_is
      ∙ ap (λ x. set x (40 + i) v) d.shows
      ∙ bins_set d.is d.before i v d.given.there

-- ONE ITEM, as its bytes i say it: of kind k, with its number j and amount n.
abbrev item_by : List ℕ → ℕ → ℕ → ℕ → Item
item_by i k j n =
    get_or (get resource j n ∷ get bin j n ∷ get sync j n ∷ []) k (condition (u16 i 2) (relation_of (u8 i 1)) (i32 i 4))

pub item_is : (i : List ℕ) (k : ℕ) {x : Wanted} → x ≡ wanted_by i → x.kind ≡ k
    → item_of i ≡ item_by i k x.number x.amount
item_is i k {x} e h =
    ap (λ y. item_by i y.kind y.number y.amount) (sym e) ∙ ap (λ m. item_by i m x.number x.amount) h

module _ {w : List ℕ} {p : ℕ} {x y : Item} (e : x ≡ y) where
  pub told : Doing w (Takes p x) (take_item p x) → Doing w (Takes p y) (take_item p y)
  told d =
      record {
        is = d.is;
        shows = d.shows;
        before = d.before;
        after = subst (λ t. Sized (take_item p t d.is)) e d.after;
        given = subst (λ t. Takes p t d.is) e d.given;
      }

  pub taken : {u : List ℕ} → Done w (Takes p y) (take_item p y) u → Done w (Takes p x) (take_item p x) u
  unfolding told
  taken f d = f (told d) ∙ ap (λ t. work_of (take_item p t d.is)) (sym e)

module _ {w : List ℕ} {p j n : ℕ} where
  pub bin_told : Doing w (Takes p (get bin j n)) (take_item p (get bin j n))
      → Doing w (InBin j n) (λ s. with_bins s (fewer s.bins j n))
  unfolding take_item
  bin_told d =
      record {
        is = d.is;
        shows = d.shows;
        before = d.before;
        after = d.after;
        given = record { there = d.given.known; enough = leb-true n (get_or d.is.bins j 0) d.given.enough };
      }

  pub bin_done : {u : List ℕ} → Done w (InBin j n) (λ s. with_bins s (fewer s.bins j n)) u
      → Done w (Takes p (get bin j n)) (take_item p (get bin j n)) u
  unfolding take_item bin_told
  bin_done f d = f (bin_told d)

  pub slaves_told : Doing w (Takes p (get sync j n)) (take_item p (get sync j n))
      → Doing w (Waiting p j n) (take_item p (get sync j n))
  slaves_told d =
      record {
        is = d.is;
        shows = d.shows;
        before = d.before;
        after = d.after;
        given =
            record {
              lives = d.given.lives;
              there = d.given.known;
              enough = leb-true n (length (get_or d.is.waiting j [])) d.given.enough;
            };
      }

  pub slaves_done : {u : List ℕ} → Done w (Waiting p j n) (take_item p (get sync j n)) u
      → Done w (Takes p (get sync j n)) (take_item p (get sync j n)) u
  unfolding slaves_told
  slaves_done f d = f (slaves_told d)

-- What is none of these takes nothing.
pub nothing_taken : {w : List ℕ} {p : ℕ} (i : List ℕ) (k j n : ℕ) → (k ≡ 0 → ⊥) → (k ≡ 1 → ⊥) → (k ≡ 2 → ⊥)
    → Done w (Takes p (item_by i k j n)) (take_item p (item_by i k j n)) w
unfolding take_item
nothing_taken i zero j n a b c d = absurd (a refl)
nothing_taken i (suc zero) j n a b c d = absurd (b refl)
nothing_taken i (suc (suc zero)) j n a b c d = absurd (c refl)
nothing_taken i (suc (suc (suc k))) j n a b c d = d.shows

-- THE ITEMS one after the other. What is left: the n items that `rest` begins with, in a state that w shows; taken, they
-- make `end` of it.
pub record Left (m : Model) (z : ℕ → ℕ) (p : ℕ) (end : State) (n : ℕ) (rest w : List ℕ) : Type 0 where
  pub is : State
  pub shows : w ≡ work_of is
  pub holds : Held m is is.blocked z (λ j. 0)
  pub floor_ok : FloorSized is.floor
  pub fit : AllOf (ItemFit m) (items_in n rest)
  pub apart : Ordered Apart (items_in n rest)
  pub enough : AllOf (λ x. item_met is x ≡ true) (items_in n rest)
  pub same : take_all p (items_in n rest) is ≡ end

-- There is what a fitting item names.
known : (m : Model) (s : State) {l : List Waiter} {z y : ℕ → ℕ} → Held m s l z y → (p : ℕ) → 1 ≤ z p → (x : Item)
    → ItemFit m x → Known p x s
known m s h p one (get resource i n) k =
    (omega (arith, k.0, h.frees_many), omega (arith, k.0, (hand_fine h p one).held_many))
known m s h p one (get bin i n) k = omega (arith, k.0, h.bins_many)
known m s h p one (get sync i n) k = omega (arith, k.0, h.syncs_many)
known m s h p one (condition i r v) k = tt

module _ {bs : List ℕ} {at : ℕ} {first : List ℕ} {p : ℕ} (v : Taking bs at first p) where
  abbrev m : Model
  m = v.run.model

  abbrev pub LeftOf : ℕ → List ℕ → List ℕ → Type 0
  LeftOf n rest w = Left m v.in_hand p (take_all p v.claim v.run.is) n rest w

  pub first_long : length first ≡ Row.WORDS
  first_long =
      ap length v.run.shows
      ∙ work_long v.run.is (still_sized v.run v.run.is v.holds v.floor_ok)

  pub left_long : {n : ℕ} {rest w : List ℕ} → LeftOf n rest w → length w ≡ Row.WORDS
  left_long l =
      ap length l.shows
      ∙ work_long l.is (still_sized v.run l.is l.holds l.floor_ok)

  -- All, before the first.
  pub all_left : {n : ℕ} → n ≡ u16 bs at → LeftOf n (take (length bs - (at + 2)) (drop (at + 2) bs)) first
  all_left {n} e =
      let c : items_in n (drop (at + 2) bs) ≡ v.claim =
      ap (λ k. items_in k (drop (at + 2) bs)) e ∙ claim_items bs at ∙ v.claim_at.claim_is in
      rw (rest_of (at + 2) bs)
      (record {
        is = v.run.is;
        shows = v.run.shows;
        holds = v.holds;
        floor_ok = v.floor_ok;
        fit = subst (AllOf (ItemFit m)) (sym c) v.claim_fit.1;
        apart = subst (Ordered Apart) (sym c) v.claim_fit.2;
        enough =
            subst (AllOf (λ x. item_met v.run.is x ≡ true)) (sym c) (all_met v.run.is 1 v.claim v.is_met);
        same = ap (λ x. take_all p x v.run.is) c;
      })

  -- One further.
  module _ {n : ℕ} {rest w : List ℕ} (h : 0 < n) (l : LeftOf n rest w) where
    abbrev x : Item
    x = item_of (take 8 rest)

    abbrev xs : Claim
    xs = items_in (n - 1) (drop 8 rest)

    abbrev s : State
    s = l.is

    next : items_in n rest ≡ x ∷ xs
    next = ap (map item_of) (parts-cons 8 n rest h)

    fits : AllOf (ItemFit m) (x ∷ xs)
    fits = subst (AllOf (ItemFit m)) next l.fit

    apart : Ordered Apart (x ∷ xs)
    apart = subst (Ordered Apart) next l.apart

    enough : AllOf (λ y. item_met s y ≡ true) (x ∷ xs)
    enough = subst (AllOf (λ y. item_met s y ≡ true)) next l.enough

    still_holds : Held m (take_item p x s) (take_item p x s).blocked v.in_hand (λ j. 0)
    still_holds =
        subst (λ b. Held m (take_item p x s) b v.in_hand (λ j. 0)) (sym (still_item p x s).same_blocked)
        (take_item_lem m s l.holds p v.one x fits.0 enough.0)

    still_floor : FloorSized (take_item p x s).floor
    still_floor = subst FloorSized (sym (still_item p x s).same_floor) l.floor_ok

    pub next_taking : Doing w (Takes p x) (take_item p x)
    next_taking =
        record {
          is = s;
          shows = l.shows;
          before = still_sized v.run s l.holds l.floor_ok;
          after = still_sized v.run (take_item p x s) still_holds still_floor;
          given =
              record {
                lives = hand_lives l.holds p v.one;
                known = known m s l.holds p v.one x fits.0;
                enough = enough.0;
              };
        }

    pub less_left : {u : List ℕ} → Done w (Takes p x) (take_item p x) u
        → LeftOf (n - 1) (take (length rest - 8) (drop 8 rest)) u
    unfolding next_taking take_all
    less_left f =
        rw (rest_of 8 rest)
        (record {
          is = take_item p x s;
          shows = f next_taking;
          holds = still_holds;
          floor_ok = still_floor;
          fit = fits.1;
          apart = apart.1;
          enough =
              all_map (λ y. Apart x y × (item_met s y ≡ true)) _ (λ y b. still_met p x y s b.0 b.1) xs
              (all_both (Apart x) (λ y. item_met s y ≡ true) xs apart.0 enough.1);
          same = sym (ap (λ c. take_all p c s) next) ∙ l.same;
        })

  pub none_left : {n : ℕ} {rest w : List ℕ} → n ≡ 0 → LeftOf n rest w → w ≡ work_of (take_all p v.claim v.run.is)
  unfolding take_all
  none_left {n} {rest} e l =
      l.shows ∙ ap work_of (sym (ap (λ c. take_all p (map item_of c) l.is) (parts_none 8 n rest e)) ∙ l.same)
