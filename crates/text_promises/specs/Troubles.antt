-- The first trouble with a name: what stands before it is in none, and it is 52 or 53.
-- Assumes nothing.
use Rattle.std.specs.Prelude.{ℕ, ◌+◌, ◌≤◌, ◌≡◌, refl, List, [], ◌∷◌, ◌++◌, Bool, true, false, not, length, if◌then◌else◌}
use Rattle.std.proofs.Common.{arith, ◌∙◌, ap, length-append}
use Rattle.std.proofs.Math.Option.{Option, none, some}
use Rattle.semantics.specs.Words.{any}
use Rattle.text_semantics.specs.Numbers as No
use Rattle.text_semantics.specs.Grammar.{Name}
use Rattle.text_semantics.specs.Names.{Event, asks, declares, announces, embodies, leaves, Known, named, fits, awaited, knows}
use Rattle.text_semantics.specs.Names.{after, wanting, trouble, Troubled, names, trouble_in}
use Rattle.text_promises.specs.Spellings.{name_by, names_by}

-- THE FIRST TROUBLE of events, where ks is known before them: one of them, with a name, is in trouble by what is known there,
-- and none before it. So many names stand before it.
pub record First (ks : List Known) (es : List Event) (x : Troubled) : Type 0 where
  pub before : List Event
  pub event : Event
  pub behind : List Event
  pub parts : es ≡ before ++ event ∷ behind
  pub untroubled : trouble_in ks before ≡ none
  pub troubled : trouble (after ks before) event ≡ some x.number
  pub called : Name
  pub names_it : name_by event ≡ called ∷ []
  pub so_many : length (names_by before) ≡ x.before
  pub told_from : No.UNKNOWN ≤ x.number
  pub told_to : x.number ≤ No.AGAIN

-- What is known of a trouble with one event.
abbrev With : Event → Option ℕ → Type 0
With e none = Unit {0}
With e (some n) = (y : Name) × (name_by e ≡ y ∷ []) × (No.UNKNOWN ≤ n) × (n ≤ No.AGAIN)

wanting_with : (e : Event) (n : ℕ) (b : Bool) → With e (some n) → With e (wanting n b)
wanting_with e n true h = tt
wanting_with e n false h = h

trouble_with : (ks : List Known) (e : Event) → With e (trouble ks e)
unfolding trouble
trouble_with ks (asks ws x) =
    wanting_with (asks ws x) No.UNKNOWN (any (fits ws x) ks) (x, refl, omega arith, omega arith)
trouble_with ks (declares w x) =
    wanting_with (declares w x) No.AGAIN (not (any (named x) ks)) (x, refl, omega arith, omega arith)
trouble_with ks (announces x) =
    wanting_with (announces x) No.AGAIN (not (any (named x) ks)) (x, refl, omega arith, omega arith)
trouble_with ks (embodies x) =
    wanting_with (embodies x) No.AGAIN (if any (awaited x) ks then true else not (any (named x) ks))
    (x, refl, omega arith, omega arith)
trouble_with ks leaves = tt

names_count : (e : Event) → length (name_by e) ≡ names e
names_count (asks ws x) = refl
names_count (declares w x) = refl
names_count (announces x) = refl
names_count (embodies x) = refl
names_count leaves = refl

-- The first of an event's and of those behind it.
abbrev either : ℕ → Option ℕ → Option Troubled → Option Troubled
either k o q =
    elim o [
      | some n ↦ some (record { number = n; before = 0 })
      | none ↦ elim q [ none ↦ none | some t ↦ some (record { number = t.number; before = k + t.before }) ]
    ]

next : (ks : List Known) (e : Event) (es : List Event)
    → trouble_in ks (e ∷ es) ≡ either (names e) (trouble ks e) (trouble_in (knows ks e) es)
unfolding trouble_in
next ks e es = refl

after_next : (ks : List Known) (e : Event) (es : List Event) → after ks (e ∷ es) ≡ after (knows ks e) es
unfolding after
after_next ks e es = refl

nothing_known : (ks : List Known) → (trouble_in ks [] ≡ none) × (after ks [] ≡ ks)
unfolding trouble_in after
nothing_known ks = (refl, refl)

-- Where there is a trouble it is the first.
abbrev FirstOf : List Known → List Event → Option Troubled → Type 0
FirstOf ks es none = Unit {0}
FirstOf ks es (some x) = First ks es x

first : (ks : List Known) (es : List Event) → FirstOf ks es (trouble_in ks es)
first ks [] = rw (nothing_known ks).0 tt
first ks (e ∷ es) =
    rw (next ks e es)
    (go (trouble ks e) refl (trouble_with ks e) (trouble_in (knows ks e) es) (first (knows ks e) es))
  where
    go : (o : Option ℕ) → trouble ks e ≡ o → With e o → (q : Option Troubled) → FirstOf (knows ks e) es q
        → FirstOf ks (e ∷ es) (either (names e) o q)
    go (some n) t h q g =
        record {
          before = [];
          event = e;
          behind = es;
          parts = refl;
          untroubled = (nothing_known ks).0;
          troubled = ap (λ (k : List Known). trouble k e) (nothing_known ks).1 ∙ t;
          called = h.0;
          names_it = h.1;
          so_many = refl;
          told_from = h.2;
          told_to = h.3;
        }
    go none t h none g = tt
    go none t h (some x) g =
        record {
          before = e ∷ g.before;
          event = g.event;
          behind = g.behind;
          parts = ap (λ (l : List Event). e ∷ l) g.parts;
          untroubled =
              next ks e g.before ∙ ap (λ (o : Option ℕ). either (names e) o (trouble_in (knows ks e) g.before)) t
              ∙ ap (λ (q : Option Troubled). either (names e) none q) g.untroubled;
          troubled = ap (λ (k : List Known). trouble k g.event) (after_next ks e g.before) ∙ g.troubled;
          called = g.called;
          names_it = g.names_it;
          so_many =
              let a = length-append (name_by e) (names_by g.before) in
              let b = names_count e in
              let c = g.so_many in
              omega arith;
          told_from = g.told_from;
          told_to = g.told_to;
        }

-- A trouble in events is the first.
pub first_trouble : (ks : List Known) (es : List Event) (x : Troubled) → trouble_in ks es ≡ some x → First ks es x
first_trouble ks es x e = rw e at (first ks es)
