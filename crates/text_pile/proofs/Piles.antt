-- The pile as a list of numbers: what is put onto it, and what a token makes of it. Assumes nothing.
use Rattle.std.specs.Prelude.{if◌then◌else◌, Ok, Err, Some, None, map, take, drop, slice_get, All}
use Rattle.std.proofs.lemmas.Option.{slice_get_within, get_or_from_slice_get, slice_get-get_or}
use Rattle.std.proofs.Common.{drop-cons, get_or-take, length-take-le, length-drop}
use Rattle.std.proofs.lemmas.List.Elements.{All-take, All-drop, All-from_get_or}
use Rattle.std.proofs.Math.ListN.{get_or-append}
use Rattle.std.proofs.Math.Seq.{get_or-append_seam, get_or-append_right}
use Prim.Native.Nat.{ℕ, zero, suc, ◌+◌, ◌*◌, ◌-◌, ◌%◌, ◌≤◌, ◌<◌}
use native.Mathlib.Omega.{arith}
use mathlib.Core.Path.{◌≡◌, refl, sym, ◌∙◌, ap}
use mathlib.Core.List.{List, [], ◌∷◌, ◌++◌, append-nil, append_assoc}
use mathlib.Core.Bool.{Bool, true, false}
use mathlib.Core.Option.{none, some}
use borrow.Author.Tests.{eqb-true, eqb-false, ltb-true, ltb-false, lt-ltb, le-ltb}
use lib.Dec.{eqb, ltb}
use lib.ListN.{length, get_or, length-append}
use Rattle.text_semantics.specs.Reading.{Symbol, step}
use Rattle.text_machine.specs.Codes.{symbol_of, token_of, BAD, PARTS}
use Rattle.text_machine.specs.Machine.{highest_pile}
use Rattle.text_pile.specs.declared.Misfit.{Misfit}
use Rattle.text_pile.specs.Pile.{SYMBOLS, pile_of, stack_of, Known, Piled, next_of, roomed, turned_of, Turns}
use Rattle.text_pile.specs.Table.{DEEP, SHIFTS, NEXTS, MARKS, COLUMNS, column_of, class_of, place_of, entry_of, deeper_by, run_of}
use Rattle.text_pile.proofs.Table.{places, nexts, many_at}
use Rattle.text_pile.proofs.Rows.{and_left, and_right}
use Rattle.text_pile.proofs.Right.{pushed, run, all_known, Found, next_known}
use Rattle.text_pile.proofs.Tokens.{fits_not, fits}

-- HOW HIGH a pile is, and how long what is put onto it.
run_length : (next : List ℕ) (p m by : ℕ) → length (run_of next p m by) ≡ m
unfolding run_of
run_length next p zero by = refl
run_length next p (suc m) by = ap suc (run_length next (suc p) m by)

pile_length : (p : List ℕ) (h : ℕ) → length (pile_of p h) ≡ h
unfolding pile_of
pile_length p zero = refl
pile_length p (suc h) = ap suc (pile_length p h)

pushed-length : (xs : List ℕ) (ss : List Symbol) → length (pushed xs ss) ≡ length xs + length ss
unfolding pushed
pushed-length [] ss = omega arith
pushed-length (x ∷ xs) ss = let e = pushed-length xs (symbol_of x ∷ ss) in omega arith

-- THE SYMBOLS OF NEXT from a place on, as they are put on.
run_map : (next : List ℕ) (p m by : ℕ) → p + m ≤ length next → map (deeper_by by) (take m (drop p next)) ≡ run_of next p m by
unfolding run_of
run_map next p zero by h = refl
run_map next p (suc m) by h =
    rw (drop-cons next p 0 (omega arith))
    (ap (λ l. deeper_by by (get_or next p 0) ∷ l) (run_map next (suc p) m by (omega arith)))

pushed_on : (xs : List ℕ) (ns ss : List Symbol) → pushed xs (ns ++ ss) ≡ pushed xs ns ++ ss
unfolding pushed
pushed_on [] ns ss = refl
pushed_on (x ∷ xs) ns ss = pushed_on xs (symbol_of x ∷ ns) ss

-- ONTO A PILE, one after another.
pile_front : (p xs : List ℕ) (h : ℕ) → h ≤ length p → pile_of (p ++ xs) h ≡ pile_of p h
unfolding pile_of
pile_front p xs zero l = refl
pile_front p xs (suc h) l = rw (get_or-append p xs 0 h (omega arith), pile_front p xs h (omega arith))

pile_take : (n : ℕ) (p : List ℕ) (h : ℕ) → h ≤ n → pile_of (take n p) h ≡ pile_of p h
unfolding pile_of
pile_take n p zero l = refl
pile_take n p (suc h) l = rw (get_or-take n p h 0 (omega arith), pile_take n p h (omega arith))

stack_more : (p : List ℕ) (x : ℕ) → stack_of (p ++ x ∷ []) ≡ symbol_of x ∷ stack_of p
unfolding pile_of
stack_more p x =
    let e : length (p ++ x ∷ []) ≡ suc (length p) = omega (arith, length-append p (x ∷ [])) in
    rw (e, get_or-append_seam p x [] 0, pile_front p (x ∷ []) (length p) (omega arith))

stack_append : (xs p : List ℕ) → stack_of (p ++ xs) ≡ pushed xs (stack_of p)
unfolding pushed
stack_append [] p = ap stack_of (append-nil p)
stack_append (x ∷ xs) p =
    ap stack_of (sym (append_assoc p (x ∷ []) xs)) ∙ stack_append xs (p ++ x ∷ []) ∙ ap (pushed xs) (stack_more p x)

known_all : (xs : List ℕ) → all_known xs ≡ true → Known xs (length xs)
known_all [] e i h = absurd (omega arith)
known_all (x ∷ xs) e zero h = ltb-true x SYMBOLS (and_left (ltb x SYMBOLS) (all_known xs) e)
known_all (x ∷ xs) e (suc i) h = known_all xs (and_right (ltb x SYMBOLS) (all_known xs) e) i (omega arith)

known_append : (p xs : List ℕ) → Known p (length p) → Known xs (length xs) → Known (p ++ xs) (length (p ++ xs))
known_append p xs k l i h = go (ltb i (length p)) refl
  where
    go : (t : Bool) → ltb i (length p) ≡ t → get_or (p ++ xs) i 0 < SYMBOLS
    go true e = let j = ltb-true i (length p) e in rw (get_or-append p xs 0 i j) (k i j)
    go false e =
        let j = ltb-false i (length p) e in
        rw (get_or-append_right p xs i 0 j) (l (i - length p) (omega (arith, length-append p xs)))

-- THE TABLE, where the class is no mark's.
pub place_in : (table : List ℕ) (k j : ℕ) → MARKS ≤ k → place_of table k j ≡ get_or table ((k - MARKS) * COLUMNS + j) 0
unfolding place_of
place_in table k j h = rw (le-ltb k MARKS h)

-- HOW MUCH DEEPER a symbol is than its class.
pub shift_small : (c : ℕ) → c < SYMBOLS → c - class_of c < SHIFTS
unfolding class_of
shift_small c h = go (ltb c DEEP) refl
  where
    go : (t : Bool) → ltb c DEEP ≡ t → c - (if t then c else DEEP + (c - DEEP) % PARTS) < SHIFTS
    go true e = omega arith
    go false e = let l = ltb-false c DEEP e in omega arith

-- ONE TOKEN, by the place that the table has for it at the top.
pub record Asked (p : List ℕ) (rest kind v place : ℕ) : Type 0 where
  pub top : length p ≡ suc rest
  pub piled : Piled p
  pub kinds : kind ≤ BAD
  pub at : place ≡ place_of places (class_of (get_or p rest 0)) (column_of kind v)

-- .. by what the code asks: the top, its class and the token's column, and what the table has for them.
entry_is : (table : List ℕ) (k j place : ℕ) → entry_of table k j ≡ Some place → (place ≡ place_of table k j) × (place ≡ 0 → ⊥)
entry_is table k j place e = go (eqb (place_of table k j) 0) refl e
  where
    go : (t : Bool) → eqb (place_of table k j) 0 ≡ t → (if t then None else Some (place_of table k j)) ≡ Some place
        → (place ≡ place_of table k j) × (place ≡ 0 → ⊥)
    go true f g = absurd (let z : ◌≡◌ {A = ℕ} 0 1 = cc in omega arith)
    go false f g =
        let h : place_of table k j ≡ place = cc in
        let n = eqb-false (place_of table k j) 0 f in
        (sym h, λ i. n (h ∙ i))

entry_none : (table : List ℕ) (k j : ℕ) → entry_of table k j ≡ None → place_of table k j ≡ 0
entry_none table k j e = go (eqb (place_of table k j) 0) refl e
  where
    go : (t : Bool) → eqb (place_of table k j) 0 ≡ t → (if t then None else Some (place_of table k j)) ≡ None
        → place_of table k j ≡ 0
    go true f g = eqb-true (place_of table k j) 0 f
    go false f g = absurd (let z : ◌≡◌ {A = ℕ} 0 1 = cc in omega arith)

pub no_top : (p : List ℕ) → slice_get p (length p - 1) ≡ None → length p ≡ 0
no_top [] e = refl
no_top (x ∷ xs) e =
    let z : Some (get_or (x ∷ xs) (length (x ∷ xs) - 1) 0) ≡ None =
    sym (slice_get-get_or (x ∷ xs) (length (x ∷ xs) - 1) 0 (omega arith)) ∙ e in
    absurd (let y : ◌≡◌ {A = ℕ} 0 1 = cc in omega arith)

module _ (p : List ℕ) (kind v top class col : ℕ) (l : Piled p) (k : kind ≤ BAD)
    (t : slice_get p (length p - 1) ≡ Some top) (c : class ≡ class_of top) (j : col ≡ column_of kind v) where
  pub at_top : get_or p (length p - 1) 0 ≡ top
  at_top = get_or_from_slice_get p (length p - 1) top 0 t

  asked_at : (place : ℕ) → place ≡ place_of places class col → Asked p (length p - 1) kind v place
  asked_at place e =
      let h = slice_get_within p (length p - 1) top t in
      record {
        top = omega arith;
        piled = l;
        kinds = k;
        at = e ∙ rw (c, j, at_top);
      }

  pub asked_none : entry_of places class col ≡ None → Asked p (length p - 1) kind v 0
  asked_none e = asked_at 0 (sym (entry_none places class col e))

  pub asked_some : (place : ℕ) → entry_of places class col ≡ Some place → Asked p (length p - 1) kind v place × (place ≡ 0 → ⊥)
  asked_some place e = let h = entry_is places class col place e in (asked_at place h.0, h.1)

refused : (p : List ℕ) (kind v : ℕ) → Piled p → ((x : List ℕ) → turned_of (stack_of p) (token_of kind v x) ≡ none)
    → (e : Misfit) → Turns p kind v (Err e) p
refused p kind v l a e = record { answer = λ x. sym (a x); kept = refl; piled = l }

pub turn_empty : (p : List ℕ) (kind v : ℕ) → length p ≡ 0 → Piled p → (e : Misfit) → Turns p kind v (Err e) p
unfolding pile_of turned_of
turn_empty p kind v z l = refused p kind v l (λ x. rw z)

module _ {p : List ℕ} {rest kind v place : ℕ} (asked : Asked p rest kind v place) where
  abbrev pub by : ℕ
  by = get_or p rest 0 - class_of (get_or p rest 0)

  top_known : get_or p rest 0 < SYMBOLS
  top_known = asked.piled.known rest (omega (arith, asked.top))

  pub by_small : by < SHIFTS
  by_small = shift_small (get_or p rest 0) top_known

  turned_on : (x : List ℕ) → turned_of (stack_of p) (token_of kind v x)
      ≡ roomed (pile_of p rest) (next_of (step (symbol_of (get_or p rest 0)) (token_of kind v x)))
  unfolding pile_of turned_of
  turned_on x = rw asked.top

  pub turn_none : place ≡ 0 → (e : Misfit) → Turns p kind v (Err e) p
  turn_none z =
      refused p kind v asked.piled (λ x. turned_on x
      ∙ ap (roomed (pile_of p rest)) (fits_not (get_or p rest 0) kind v top_known asked.kinds x (sym asked.at ∙ z)))

  module _ (z : place ≡ 0 → ⊥) where
    there : (x : List ℕ) → Found place by (next_of (step (symbol_of (get_or p rest 0)) (token_of kind v x)))
    there x =
        rw asked.at (fits (get_or p rest 0) kind v top_known asked.kinds x (λ e. z (asked.at ∙ e)))

    pub place_ends : place + 1 + many_at place ≤ NEXTS
    place_ends = (there []).ends

    comes : (x : List ℕ) → turned_of (stack_of p) (token_of kind v x)
        ≡ (if ltb highest_pile (rest + many_at place) then none else some (pushed (run place by) [] ++ pile_of p rest))
    comes x =
        let a = length-append (pushed (run place by) []) (pile_of p rest) in
        let b = pushed-length (run place by) [] in
        let d = run_length nexts (place + 1) (many_at place) by in
        let e = pile_length p rest in
        let l : length (pushed (run place by) [] ++ pile_of p rest) ≡ rest + many_at place = omega arith in
        turned_on x ∙ ap (roomed (pile_of p rest)) (there x).comes
        ∙ ap (λ n. if ltb highest_pile n then none else some (pushed (run place by) [] ++ pile_of p rest)) l

    pub turn_high : highest_pile < rest + many_at place → (e : Misfit) → Turns p kind v (Err e) p
    turn_high o = refused p kind v asked.piled (λ x. comes x ∙ rw (lt-ltb highest_pile (rest + many_at place) o))

    rest_length : length (take rest p) ≡ rest
    rest_length = length-take-le rest p (omega (arith, asked.top))

    left_piled : rest + many_at place ≤ highest_pile → Piled (take rest p ++ run place by)
    left_piled o =
        let d = run_length nexts (place + 1) (many_at place) by in
        record {
          low = omega (arith, length-append (take rest p) (run place by), rest_length);
          known = known_append (take rest p) (run place by)
              (λ i h. rw (get_or-take rest p i 0 (omega (arith, rest_length)))
              (asked.piled.known i (omega (arith, rest_length, asked.top))))
              (known_all (run place by) (there []).known);
        }

    pub turn_fits : {class : ℕ} {q : List ℕ} → class ≡ class_of (get_or p rest 0)
        → q ≡ take rest p ++ map (deeper_by (get_or p rest 0 - class)) (take (many_at place) (drop (place + 1) nexts))
        → rest + many_at place ≤ highest_pile → (x : Unit {0}) → Turns p kind v (Ok x) q
    unfolding nexts
    turn_fits {class} {q} f g o x =
        rw (g, f, run_map nexts (place + 1) (many_at place) by place_ends)
        (record {
          answer = λ x. ap some (stack_append (run place by) (take rest p)
              ∙ ap (pushed (run place by)) (ap (pile_of (take rest p)) rest_length ∙ pile_take rest p rest (omega arith))
              ∙ pushed_on (run place by) [] (pile_of p rest))
              ∙ sym (comes x ∙ rw (le-ltb highest_pile (rest + many_at place) o));
          kept = tt;
          piled = left_piled o;
        })

-- What stands at a place: so many symbols.
pub next_length : (place : ℕ) → place + 1 + many_at place ≤ NEXTS
    → length (take (many_at place) (drop (place + 1) nexts)) ≡ many_at place
unfolding nexts
next_length place h = length-take-le (many_at place) (drop (place + 1) nexts) (omega (arith, length-drop (place + 1) nexts))

pub next_all : (m n : ℕ) → All (λ s. s < SYMBOLS) (take m (drop n nexts))
unfolding nexts
next_all m n =
    All-take (λ s. s < SYMBOLS) m (drop n nexts)
    (All-drop (λ s. s < SYMBOLS) n nexts (All-from_get_or (λ s. s < SYMBOLS) nexts 0 (λ i h. next_known i h)))

-- All of it, by what the code asks.
module _ (p : List ℕ) (kind v top class col : ℕ) (l : Piled p) (k : kind ≤ BAD)
    (t : slice_get p (length p - 1) ≡ Some top) (c : class ≡ class_of top) (j : col ≡ column_of kind v)
    (place : ℕ) (e : entry_of places class col ≡ Some place) where
  pub ends_by : place + 1 + many_at place ≤ NEXTS
  ends_by = let a = asked_some p kind v top class col l k t c j place e in place_ends a.0 a.1

  pub high_by : {n m : ℕ} → n ≡ length p → m ≡ many_at place → highest_pile < n - 1 + m → (f : Misfit) → Turns p kind v (Err f) p
  high_by d g h f =
      let a = asked_some p kind v top class col l k t c j place e in turn_high a.0 a.1 (rw (← d, ← g) h) f

  pub fits_by : {n m : ℕ} {q : List ℕ} → n ≡ length p → m ≡ many_at place → n - 1 + m ≤ highest_pile
      → q ≡ take (n - 1) p ++ map (deeper_by (top - class)) (take (many_at place) (drop (place + 1) nexts))
      → (x : Unit {0}) → Turns p kind v (Ok x) q
  fits_by {q = q} d g h f x =
      let a = asked_some p kind v top class col l k t c j place e in
      let y = at_top p kind v top class col l k t c j in
      turn_fits a.0 a.1 {class = class} {q = q} (rw y c) (rw (y, ← d) f) (rw (← d, ← g) h) x
