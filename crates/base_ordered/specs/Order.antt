-- Keys order the lists as document 01 does, and words have their parts. Assumes nothing.
use Rattle.std.specs.Prelude.{◌≡◌, Bool, ◌&&◌, ◌||◌, eqb}
use Rattle.std.proofs.Math.Path.{refl}
use Rattle.std.proofs.Common.{sym, ◌∙◌, ap, arith, length-append, length-take, length-drop}
use mathlib.Core.List.{List, [], ◌∷◌}
use Rattle.std.proofs.Math.Bool.{true, false}
use Prim.Native.Nat.{ℕ, suc, ◌+◌, ◌-◌, ◌*◌, ◌/◌, ◌%◌, ◌≤◌, ◌<◌}
use Rattle.std.proofs.Math.Dec.{leb, ltb}
use borrow.Author.Tests.{lt-ltb, le-ltb, leb-true, leb-false, ltb-true, ltb-false, eqb-true, eqb-false}
use Rattle.std.proofs.Math.ListN.{length}
use Rattle.semantics.specs.Numbers as No
use Rattle.semantics.specs.Words.{insert}
use Rattle.semantics.specs.State.{Event, Waiter, Notice, wakes, returns_r, returns_b, sooner, higher}
use Rattle.semantics.specs.Step.{is_return}
use Rattle.promises.specs.Fit.{I32}
use Rattle.promises.specs.Laws.{AllOf}
use Rattle.base_numbers.specs.Word as Word
use Rattle.base_numbers.specs.Code as Code
use Rattle.base_numbers.specs.Byte as Byte
use Rattle.base_i32.specs.Code.{code}
use Rattle.base_i32.specs.Laws.{code_fits}
use Rattle.base_ordered.specs.Code.{same_test, code_order}
use Rattle.base_ordered.specs.Lines.{inserted, removed, place_of, key_of, event_key, event_word, waiter_key, waiter_word}
use Rattle.base_ordered.specs.Lines.{packed, kind_of, number_of, amount_of, giver_of, data_of}

-- THE ORDER OF KEYS is document 01's order, for priorities in the i32 range.
pub higher_key : (w v : Waiter) → I32 w.priority → I32 v.priority → higher w v ≡ ltb (waiter_key w) (waiter_key v)
higher_key w v h g =
    let a = code_fits w.priority h in
    let b = code_fits v.priority g in
    sym (code_order v.priority w.priority g h)
    ∙ sym (same_test (code v.priority) (code w.priority) (waiter_key w) (waiter_key v) (λ l. omega arith) (λ l. omega arith))

-- One time after another, whatever the ranks; at one time, the higher rank first.
pub key_order : (t u a b : ℕ) → a < Word.RANKS → b < Word.RANKS
    → (ltb t u || (eqb t u && ltb b a)) ≡ ltb (key_of t a) (key_of u b)
key_order t u a b h g = by (ltb t u) (eqb t u) refl refl
  where
    by : (p q : Bool) → ltb t u ≡ p → eqb t u ≡ q → (p || (q && ltb b a)) ≡ ltb (key_of t a) (key_of u b)
    by true q e f = let l = ltb-true t u e in sym (lt-ltb (key_of t a) (key_of u b) (omega arith))
    by false true e f =
        let l = eqb-true t u f in sym (same_test b a (key_of t a) (key_of u b) (λ k. omega arith) (λ k. omega arith))
    by false false e f =
        let l = ltb-false t u e in let n = eqb-false t u f in sym (le-ltb (key_of t a) (key_of u b) (omega arith))

pub sooner_key : (e f : Event) → I32 e.priority → I32 f.priority → sooner e f ≡ ltb (event_key e) (event_key f)
sooner_key e f h g =
    ap (λ t. ltb e.time f.time || (eqb e.time f.time && t)) (sym (code_order f.priority e.priority g h))
    ∙ key_order e.time f.time (code e.priority) (code f.priority)
    (code_fits e.priority h) (code_fits f.priority g)

-- A LIMIT just above a key: what stands below it has at most that key.
at_most : (a b c d : ℕ) → (a ≤ b → c < d) → (b < a → d ≤ c) → ltb c d ≡ leb a b
at_most a b c d f g = by (leb a b) refl
  where
    by : (t : Bool) → leb a b ≡ t → ltb c d ≡ t
    by true e = lt-ltb c d (f (leb-true a b e))
    by false e = le-ltb c d (g (leb-false a b e))

pub event_below : (e f : Event) → ltb (event_key f) (event_key e + 1) ≡ leb (event_key f) (event_key e)
event_below e f = at_most (event_key f) (event_key e) (event_key f) (event_key e + 1) (λ h. omega arith) (λ h. omega arith)

pub waiter_below : (w v : Waiter) → v.place < Word.PLACES
    → ltb (waiter_word v) (Word.KEY * (waiter_key w + 1)) ≡ leb (waiter_key v) (waiter_key w)
waiter_below w v p =
    at_most (waiter_key v) (waiter_key w) (waiter_word v) (Word.KEY * (waiter_key w + 1)) (λ h. omega arith) (λ h. omega arith)

-- A key and the limit above it are a u64.
pub event_key_low : (e : Event) → e.time ≤ No.latest → event_key e + 1 < Byte.EIGHT
event_key_low e h = omega arith

-- ONE MORE, put in behind those whose key is at most its own, goes where document 01 inserts it. The order is asked of those
-- that stand in the list.
module _ {A : Type 0} (before : A → A → Bool) (key : A → ℕ) (x : A) where
  abbrev pub Keyed : List A → Type 0
  Keyed es = AllOf (λ y. before x y ≡ ltb (key x) (key y)) es

  pub insert_placed : (es : List A) → Keyed es → inserted (place_of (λ y. leb (key y) (key x)) es) x es ≡ insert before x es
  unfolding insert place_of
  insert_placed [] h = refl
  insert_placed (y ∷ ys) h = by (leb (key y) (key x)) refl h.0 (insert_placed ys h.1)
    where
      by : (b : Bool) → leb (key y) (key x) ≡ b → before x y ≡ ltb (key x) (key y)
          → inserted (place_of (λ y. leb (key y) (key x)) ys) x ys ≡ insert before x ys
          → inserted (place_of (λ y. leb (key y) (key x)) (y ∷ ys)) x (y ∷ ys) ≡ insert before x (y ∷ ys)
      by true e g i = rw (e, g ∙ le-ltb (key x) (key y) (leb-true (key y) (key x) e)) (ap (λ l. y ∷ l) i)
      by false e g i = rw (e, g ∙ lt-ltb (key x) (key y) (leb-false (key y) (key x) e))

-- How many there are then.
module _ {A : Type 0} where
  pub inserted-length : (at : ℕ) (x : A) (es : List A) → at ≤ length es → length (inserted at x es) ≡ length es + 1
  inserted-length at x es h = simp (length-append, length-take, length-drop) (omega arith)

  pub removed-length : (at : ℕ) (es : List A) → at < length es → length (removed at es) + 1 ≡ length es
  removed-length at es h = simp (length-append, length-take, length-drop) (omega arith)

  pub insert-length : (before : A → A → Bool) (x : A) (es : List A) → length (insert before x es) ≡ length es + 1
  unfolding insert
  insert-length before x [] = refl
  insert-length before x (y ∷ ys) = by (before x y) refl (insert-length before x ys)
    where
      by : (b : Bool) → before x y ≡ b → length (insert before x ys) ≡ length ys + 1
          → length (insert before x (y ∷ ys)) ≡ suc (length ys) + 1
      by true e i = rw e (omega arith)
      by false e i = rw e (omega arith)

  -- Without the first, those behind it are left.
  pub removed_first : (e : A) (es : List A) → removed 0 (e ∷ es) ≡ es
  removed_first e es = refl

-- A PACKED WORD has its parts.
module _ (kind number amount giver : ℕ) (k : kind < Word.KINDS) (n : number < Word.NUMBERS) (a : amount < Word.AMOUNTS) where
  pub kind_packed : kind_of (packed kind number amount giver) ≡ kind
  kind_packed = omega arith

  pub number-packed : number_of (packed kind number amount giver) ≡ number
  number-packed = omega arith

  pub amount-packed : amount_of (packed kind number amount giver) ≡ amount
  amount-packed = omega arith

  pub giver-packed : giver_of (packed kind number amount giver) ≡ giver
  giver-packed = omega arith

-- A notice is a return by its kind.
pub kind_returns : (e : Event) → ltb 0 (kind_of (event_word e)) ≡ is_return e
kind_returns e = by e.notice
  where
    by : (x : Notice) → ltb 0 (kind_of (data_of x)) ≡ is_return (record { time = e.time; priority = e.priority; notice = x })
    by (wakes p) = le-ltb 0 (kind_of (packed 0 p 0 0)) (omega arith)
    by (returns_r i n g) = lt-ltb 0 (kind_of (packed 1 i n g)) (omega arith)
    by (returns_b i n g) = lt-ltb 0 (kind_of (packed 2 i n g)) (omega arith)

-- A WAITER'S WORD has its parts and is below 2^38, and the key has its code.
module _ (w : Waiter) (p : w.place < Word.PLACES) where
  pub word_place : waiter_word w % Word.PLACES ≡ w.place
  word_place = omega arith

  pub word_key : waiter_word w / Word.KEY ≡ waiter_key w
  word_key = omega arith

  pub word_low : waiter_word w < Word.KEY * Word.RANKS
  word_low = omega arith

pub key_code : (w : Waiter) → I32 w.priority → code w.priority ≡ Code.HIGHEST - waiter_key w
key_code w h = omega (arith, code_fits w.priority h)
