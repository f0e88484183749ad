-- When a claim is met, what taking it does, who is barred, and which branch is taken or why none is (document 01, "One step", as
-- document 02's requests Two and Three amend it).
-- Assumes nothing.
use Rattle.std.specs.Prelude.{ℕ, suc, List, [], ◌∷◌, ◌++◌, map, Bool, true, false, not, ◌&&◌, ◌||◌, eqb, leb, ltb, length, get_or, set, take, drop, ℤ, pos, if◌then◌else◌}
use Rattle.std.proofs.Math.Option.{Option, none, some}
use Rattle.std.proofs.Math.ListN.{get_elem?}
use Rattle.std.specs.Int.Signed.{lt_z, le_z}
use Rattle.semantics.specs.Words.{all, any, is_empty, more, fewer}
use Rattle.semantics.specs.Numbers as No
use Rattle.semantics.specs.Model.{Kind, resource, bin, sync, Relation, below, at_most, equals, differs, at_least, above}
use Rattle.semantics.specs.Model.{Item, get, condition, Claim, Action, HOLD, PRIO, TRACE, SET, LSET, DO, PUTR, PUTB, PUTS}
use Rattle.semantics.specs.Model.{BECOME, REQ, TRY, WHILE, START, CLOSE, Model, block}
use Rattle.semantics.specs.State.{State, Process, Frame, Waiter, process, put, with_free, with_bins, with_waiting}
use Rattle.semantics.specs.State.{with_held, with_slaves, past, into}

-- MET: each free amount, bin amount or count of waiting slaves is at least the item's amount, and each condition holds.
abbrev pub holds : Relation → ℤ → ℤ → Bool
holds below x y = lt_z x y
holds at_most x y = le_z x y
holds equals x y = le_z x y && le_z y x
holds differs x y = not (le_z x y && le_z y x)
holds at_least x y = le_z y x
holds above x y = lt_z y x

abbrev pub there : State → Kind → ℕ → ℕ
there s resource i = get_or s.free i 0
there s bin i = get_or s.bins i 0
there s sync i = length (get_or s.waiting i [])

abbrev pub item_met : State → Item → Bool
item_met s (get k i n) = leb n (there s k i)
item_met s (condition i r v) = holds r (get_or s.globals i (pos 0)) v

-- The test of a claim: it is met, or it lacks an item, the first one, counted from 1 in the order written, conditions among them.
pub data Test : Type 0 where
  met : Test
  lacks : ℕ → Test

-- The same of the items from the n-th on.
unfoldable pub test_from : ℕ → State → Claim → Test
test_from n s [] = met
test_from n s (i ∷ is) = elim (item_met s i) [ true ↦ test_from (suc n) s is | false ↦ lacks n ]

abbrev pub test : State → Claim → Test
test s c = test_from 1 s c

-- TAKING removes them, for the process in place p; getS takes the first waiting.
unfoldable pub take_item : ℕ → Item → State → State
take_item p (get resource i n) s =
    let q : Process = process s p in
    put p (with_held q (more q.held i n)) (with_free s (fewer s.free i n))
take_item p (get bin i n) s = with_bins s (fewer s.bins i n)
take_item p (get sync i n) s =
    let q : Process = process s p in
    let w : List Waiter = get_or s.waiting i [] in
    put p (with_slaves q (q.slaves ++ map (λ x. record { of = i; place = x.place }) (take n w)))
    (with_waiting s (set s.waiting i (drop n w)))
take_item p (condition i r v) s = s

unfoldable pub take_all : ℕ → Claim → State → State
unfolding take_item
take_all p [] s = s
take_all p (i ∷ is) s = take_all p is (take_item p i s)

-- BRANCHES. What a REQ, TRY or WHILE offers: claims, each with what follows when it is taken.
pub data Then : Type 0 where
  pass : Then
  enter_block : ℕ → Then

pub record Offer : Type 0 where
  pub claim : Claim
  pub and_then : Then

abbrev pub offers : Action → List Offer
offers (HOLD e) = []
offers (PRIO e) = []
offers (TRACE e) = []
offers (SET i e) = []
offers (LSET i e) = []
offers (DO n b) = []
offers (PUTR i n) = []
offers (PUTB i n) = []
offers (PUTS i n) = []
offers (BECOME i) = []
offers (REQ c) = record { claim = c; and_then = pass } ∷ []
offers (TRY bs) = map (λ b. record { claim = b.claim; and_then = enter_block b.block }) bs
offers (WHILE b c) = record { claim = c; and_then = enter_block b } ∷ []
offers (START c t h) = []
offers CLOSE = []

-- The action where a process stands; none where its innermost block is exhausted.
abbrev pub stands_in : Model → List Frame → Option Action
stands_in m [] = none
stands_in m (f ∷ fs) = get_elem? (block m f.block) f.at

-- `none` isn't reached in a sound run, whose blocked processes stand at a REQ or TRY (`blocked_stand`; it stays so by promises'
-- `step_keeps_sound`).
abbrev pub offers_at : Option Action → List Offer
offers_at none = []
offers_at (some a) = offers a

abbrev pub asks : Model → State → ℕ → List Offer
asks m s p = offers_at (stands_in m (process s p).frames)

-- BARRED (000 section 9.4). A name is the item's kind with its number; conditions are dropped.
pub record Name : Type 0 where
  pub kind : Kind
  pub number : ℕ

abbrev pub names_of : Claim → List Name
names_of [] = []
names_of (get k i n ∷ is) = record { kind = k; number = i } ∷ names_of is
names_of (condition i r v ∷ is) = names_of is

abbrev pub same_kind : Kind → Kind → Bool
same_kind resource resource = true
same_kind resource bin = false
same_kind resource sync = false
same_kind bin resource = false
same_kind bin bin = true
same_kind bin sync = false
same_kind sync resource = false
same_kind sync bin = false
same_kind sync sync = true

abbrev pub same_name : Name → Name → Bool
same_name x y = same_kind x.kind y.kind && eqb x.number y.number

-- A non-empty, strict part: every name of xs is in ys, and some name of ys is not in xs.
abbrev pub strict_part : List Name → List Name → Bool
strict_part xs ys = not (is_empty xs) && (all (λ x. any (same_name x) ys) xs && not (all (λ y. any (same_name y) xs) ys))

abbrev pub same_names : List Name → List Name → Bool
same_names xs ys = all (λ x. any (same_name x) ys) xs && all (λ y. any (same_name y) xs) ys

-- How much a claim has of a thing: it names none twice (check 7).
abbrev pub amount_of : Claim → Name → ℕ
amount_of [] x = 0
amount_of (get k i n ∷ is) x = if same_name x (record { kind = k; number = i }) then n else amount_of is x
amount_of (condition i r v ∷ is) x = amount_of is x

-- No amount of c's is larger than d's, and at least one is smaller; so c names something.
abbrev pub smaller_amounts : Claim → Claim → Bool
smaller_amounts c d =
    all (λ x. leb (amount_of c x) (amount_of d x)) (names_of c) && any (λ x. ltb (amount_of c x) (amount_of d x)) (names_of c)

-- The claim d covers c if c names a non-empty, strict part of what d names, whatever the amounts; or if both name the same
-- things, and c has smaller amounts of them (document 02, Three).
abbrev pub covers : Claim → Claim → Bool
covers d c = strict_part (names_of c) (names_of d) || (same_names (names_of c) (names_of d) && smaller_amounts c d)

-- B bars Q if every branch of Q is covered by some branch of B.
abbrev pub covered : List Offer → Offer → Bool
covered b x = any (λ y. covers y.claim x.claim) b

abbrev pub bars : List Offer → List Offer → Bool
bars b q = all (covered b) q

-- Some blocked process of ws bars what is asked.
abbrev pub barred : Model → State → List Waiter → List Offer → Bool
barred m s ws q = any (λ w. bars (asks m s w.place) q) ws

-- WHICH BRANCH: if not barred and some branch can be met, the first that can. Else it waits, and why: it is barred, which is said
-- where something is lacking too; or the first branch lacks its item of that number.
pub data Reason : Type 0 where
  is_barred : Reason
  first_lacks : ℕ → Reason

pub data Choice : Type 0 where
  waits : Reason → Choice
  goes : ℕ → Offer → Choice  -- which, from 0

-- A later branch, if one can be met; else this one lacks item n, and so it is said unless there is one before it.
abbrev pub or_lacks : ℕ → Choice → Choice
or_lacks n (waits r) = waits (first_lacks n)
or_lacks n (goes i o) = goes i o

-- An action that asks has a branch, so the 0 of none is never said.
unfoldable pub first_met : State → ℕ → List Offer → Choice
unfolding test_from
first_met s i [] = waits (first_lacks 0)
first_met s i (o ∷ os) = elim (test s o.claim) [ met ↦ goes i o | lacks n ↦ or_lacks n (first_met s (suc i) os) ]

unfoldable pub choice : Model → State → List Waiter → List Offer → Choice
unfolding first_met
choice m s ws q = elim (barred m s ws q) [ true ↦ waits is_barred | false ↦ first_met s 0 q ]

-- Why it waits, as the value of a journal line of kind 3 (document 02, Two).
abbrev pub reason_said : Reason → ℤ
reason_said is_barred = No.barred
reason_said (first_lacks n) = pos n

-- The process in place p takes the offer: a REQ is passed, the block of a TRY or WHILE is entered for one round.
abbrev pub follow : Then → Process → Process
follow pass q = past q
follow (enter_block b) q = into 1 b q

unfoldable pub grant : ℕ → Offer → State → State
unfolding take_all past into
grant p o s =
    let t : State = take_all p o.claim s in
    put p (follow o.and_then (process t p)) t
