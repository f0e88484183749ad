-- The slaves that the words of a row are: read one at a time, and sorted out one at a time. Assumes nothing.
use Prim.Native.Nat.{ℕ, zero, suc, ◌+◌, ◌-◌, ◌/◌, ◌%◌, ◌≤◌, ◌<◌}
use native.Mathlib.Numerals.{add-one}
use native.Mathlib.Omega.{arith}
use mathlib.Core.Path.{◌≡◌, refl, sym, ◌∙◌, ap}
use mathlib.Core.List.{List, [], ◌∷◌, ◌++◌, map, map-append, append_assoc, append-nil}
use mathlib.Core.Bool.{Bool, true, false, ◌&&◌}
use borrow.Author.Tests.{lt-ltb}
use lib.Dec.{eqb, ltb}
use lib.ListN.{length, get_or, set, take, drop, replicate, replicate-append-replicate, length-set, length-map}
use lib.Seq.{sets, drop-cons, drop-length, length-take-le, get_or-take, take-set-lt, drop-set-lt, take-suc-set, append_snoc}
use lib.Seq.{take-length}
use Rattle.semantics.specs.State.{Slave}
use Rattle.semantics.specs.Step.{freed, stay}
use Rattle.promises.specs.Laws.{AllOf}
use Rattle.base_numbers.specs.Word as Word
use Rattle.base_ordered.specs.Lines.{pad}
use Rattle.base_ordered.specs.Shown.{shown}
use Rattle.row_work.specs.Work.{slave_word, SlaveSized}
use Rattle.row_slaves.specs.Slaves.{owned_of, slave_of, slaves_from, Halfway, Sifted, SortedOut}

-- A SLAVE AND ITS WORD say the same.
pub words_again : (xs : List ℕ) → map slave_word (map slave_of xs) ≡ xs
words_again [] = refl
words_again (x ∷ xs) = let e : slave_word (slave_of x) ≡ x = omega arith in rw (e, words_again xs)

slave_again : (x : Slave) → SlaveSized x → slave_of (slave_word x) ≡ x
slave_again x h =
    let l = h.place_low in
    let a : slave_word x / Word.SYNC ≡ x.of = omega arith in
    let b : slave_word x % Word.PLACES ≡ x.place = omega arith in
    ap (λ i. record { of = i; place = slave_word x % Word.PLACES }) a ∙ ap (λ r. record { of = x.of; place = r }) b

slaves_again : (xs : List Slave) → AllOf SlaveSized xs → map slave_of (map slave_word xs) ≡ xs
slaves_again [] h = refl
slaves_again (x ∷ xs) h = rw (slave_again x h.0, slaves_again xs h.1)

pub slaves_in : (xs : List Slave) → AllOf SlaveSized xs → (k n : ℕ) (row : List ℕ) → row ≡ pad k (map slave_word xs)
    → n ≡ length xs → slaves_from 0 n row ≡ xs
slaves_in xs h k n row e m = ap (map slave_of) (shown slave_word xs k row n e m) ∙ slaves_again xs h

-- ONE AT A TIME.
module _ (row : List ℕ) (len : ℕ) (room : len ≤ length row) where
  next : (k : ℕ) → k < len → slaves_from k len row ≡ slave_of (get_or row k 0) ∷ slaves_from (k + 1) len row
  next k h =
      let e : drop k (take len row) ≡ get_or row k 0 ∷ drop (k + 1) (take len row) =
      drop-cons (take len row) k 0 (omega (arith, length-take-le len row room)) ∙ rw (get_or-take len row k 0 h, add-one k) in
      ap (map slave_of) e

  none : slaves_from len len row ≡ []
  none =
      ap (λ m. map slave_of (drop m (take len row))) (sym (length-take-le len row room))
      ∙ ap (map slave_of) (drop-length (take len row))

  -- Counted.
  module _ (i m : ℕ) where
    pub found_one : (k f : ℕ) → k < len → eqb (get_or row k 0 / Word.SYNC) i ≡ true → f + owned_of i (slaves_from k len row) ≡ m
        → f + 1 + owned_of i (slaves_from (k + 1) len row) ≡ m
    found_one k f h e p =
        let x : owned_of i (slaves_from k len row) ≡ suc (owned_of i (slaves_from (k + 1) len row)) = rw (next k h, e) in
        omega arith

    pub found_none : (k f : ℕ) → k < len → eqb (get_or row k 0 / Word.SYNC) i ≡ false → f + owned_of i (slaves_from k len row) ≡ m
        → f + owned_of i (slaves_from (k + 1) len row) ≡ m
    found_none k f h e p =
        let x : owned_of i (slaves_from k len row) ≡ owned_of i (slaves_from (k + 1) len row) = rw (next k h, e) in
        omega arith

    pub counted_all : (k f : ℕ) → k ≡ len → f + owned_of i (slaves_from k len row) ≡ m → f ≡ m
    counted_all k f h p = let x : owned_of i (slaves_from k len row) ≡ 0 = rw (h, none) in omega arith

-- SORTED OUT. The first of those that are left goes, or stays; none are left.
module _ (i : ℕ) (x : Slave) (xs : List Slave) where
  first_goes : (m : ℕ) → eqb x.of i ≡ true
      → (stay i (suc m) (x ∷ xs) ≡ stay i m xs) × (freed i (suc m) (x ∷ xs) ≡ x.place ∷ freed i m xs)
  unfolding stay freed
  first_goes m e = (rw (stay, e), rw (freed, e))

  first_stays : (m : ℕ) → (0 < m → eqb x.of i ≡ false)
      → (stay i m (x ∷ xs) ≡ x ∷ stay i m xs) × (freed i m (x ∷ xs) ≡ freed i m xs)
  unfolding stay freed
  first_stays zero h = (refl, refl)
  first_stays (suc m) h = let e = h (omega arith) in (rw (stay, e), rw (freed, e))

none_stay : (i m : ℕ) → stay i m [] ≡ []
unfolding stay
none_stay i zero = refl
none_stay i (suc m) = refl

none_go : (i m : ℕ) → freed i m [] ≡ []
unfolding freed
none_go i zero = refl
none_go i (suc m) = refl

not_both : (a b : Bool) → a && b ≡ false → b ≡ true → a ≡ false
not_both true b e f = sym f ∙ e
not_both false b e f = refl

module _ {i n len : ℕ} {kept : List Slave} {noted : List ℕ} {k gone : ℕ} {row places : List ℕ} (l : k < len)
    (h : Halfway i n len kept noted k gone row places) where
  abbrev x : ℕ
  x = get_or row k 0

  abbrev left : List Slave
  left = slaves_from (k + 1) len row

  pub one_goes : eqb (x / Word.SYNC) i ≡ true → gone < n
      → Halfway i n len kept noted (k + 1) (gone + 1) row (set places gone (x % Word.PLACES))
  one_goes e g =
      let few = h.few in
      let a : n - gone ≡ suc (n - (gone + 1)) = omega arith in
      let b : k + 1 - (gone + 1) ≡ k - gone = omega arith in
      let f = first_goes i (slave_of x) left (n - (gone + 1)) e in
      let was : slaves_from k len row ≡ slave_of x ∷ left = next row len h.room k l in
      record {
        few = omega arith;
        inside = omega arith;
        room = h.room;
        space = omega (arith, length-set places gone (x % Word.PLACES), h.space);
        stays =
            ap (λ m. map slave_of (take m row) ++ stay i (n - (gone + 1)) left) b
            ∙ sym (ap (λ ys. map slave_of (take (k - gone) row) ++ ys)
            (ap (stay i (n - gone)) was ∙ ap (λ m. stay i m (slave_of x ∷ left)) a ∙ f.0))
            ∙ h.stays;
        goes =
            ap (λ m. sets (set places gone (x % Word.PLACES)) m (freed i (n - (gone + 1)) left)) (add-one gone)
            ∙ sym (ap (sets places gone) (ap (freed i (n - gone)) was ∙ ap (λ m. freed i m (slave_of x ∷ left)) a ∙ f.1))
            ∙ h.goes;
      }

  pub one_stays : eqb (x / Word.SYNC) i && ltb gone n ≡ false
      → Halfway i n len kept noted (k + 1) gone (set row (k - gone) x) places
  one_stays e =
      let few = h.few in
      let room = h.room in
      let j : ℕ = k - gone in
      let f = first_stays i (slave_of x) left (n - gone) (λ m. not_both _ _ e (lt-ltb gone n (omega arith))) in
      let was : slaves_from k len row ≡ slave_of x ∷ left = next row len room k l in
      let same : slaves_from (k + 1) len (set row j x) ≡ left =
      ap (λ l. map slave_of (drop (k + 1) l)) (take-set-lt len row j x (omega arith))
      ∙ ap (map slave_of) (drop-set-lt (k + 1) (take len row) j x (omega arith)) in
      let up : k + 1 - gone ≡ suc j = omega arith in
      let front : map slave_of (take (k + 1 - gone) (set row j x)) ≡ map slave_of (take j row) ++ slave_of x ∷ [] =
      ap (λ m. map slave_of (take m (set row j x))) up
      ∙ ap (map slave_of) (take-suc-set row j x (omega arith))
      ∙ map-append slave_of (take j row) (x ∷ []) in
      record {
        few = omega arith;
        inside = omega arith;
        room = omega (arith, length-set row j x);
        space = h.space;
        stays =
            ap (λ a. a ++ stay i (n - gone) (slaves_from (k + 1) len (set row j x))) front
            ∙ ap (λ a. (map slave_of (take j row) ++ slave_of x ∷ []) ++ stay i (n - gone) a) same
            ∙ append_snoc (map slave_of (take j row)) (slave_of x) (stay i (n - gone) left)
            ∙ sym (ap (λ a. map slave_of (take j row) ++ a) (ap (stay i (n - gone)) was ∙ f.0))
            ∙ h.stays;
        goes =
            ap (λ a. sets places gone (freed i (n - gone) a)) same
            ∙ sym (ap (sets places gone) (ap (freed i (n - gone)) was ∙ f.1))
            ∙ h.goes;
      }

-- The whole row is sorted out: at first, and at last.
abbrev pub Sifting : (i n len : ℕ) (row₀ places₀ : List ℕ) (k gone : ℕ) (row places : List ℕ) → Type 0
Sifting i n len row₀ places₀ k gone row places =
    Halfway i n len (stay i n (slaves_from 0 len row₀)) (sets places₀ 0 (freed i n (slaves_from 0 len row₀))) k gone row places

pub none_sorted : (i n len : ℕ) (row places : List ℕ) → len ≤ length row → len ≤ length places
    → Sifting i n len row places 0 0 row places
none_sorted i n len row places room space =
    let e : n - 0 ≡ n = omega arith in
    record {
      few = omega arith;
      inside = omega arith;
      room = room;
      space = space;
      stays = ap (λ m. stay i m (slaves_from 0 len row)) e;
      goes = ap (λ m. sets places 0 (freed i m (slaves_from 0 len row))) e;
    }

pub all_sorted : {i n len : ℕ} {row₀ places₀ : List ℕ} {k gone : ℕ} {row places : List ℕ} → k ≡ len
    → Sifting i n len row₀ places₀ k gone row places → Sifted i n len row₀ places₀ (len - gone) row places
all_sorted {i} {n} {len} {k = k} {gone} {row} {places} e h =
    let none_left : slaves_from k len row ≡ [] = ap (λ m. slaves_from m len row) e ∙ none row len h.room in
    record {
      few = omega arith;
      room = h.room;
      stays =
          sym (append-nil (map slave_of (take (len - gone) row)))
          ∙ ap (λ m. map slave_of (take (m - gone) row) ++ []) (sym e)
          ∙ sym (ap (λ ys. map slave_of (take (k - gone) row) ++ ys) (ap (stay i (n - gone)) none_left ∙ none_stay i (n - gone)))
          ∙ h.stays;
      goes = sym (ap (sets places gone) (ap (freed i (n - gone)) none_left ∙ none_go i (n - gone))) ∙ h.goes;
    }

-- Zeros behind those that stay.
pub cleared : {i n len : ℕ} {row places : List ℕ} {r : ℕ} {row₁ row₂ places₁ : List ℕ} → Sifted i n len row places r row₁ places₁
    → length row₁ ≡ length row → row₂ ≡ pad (length row₁) (take r row₁) → SortedOut i n len row places r row₂ places₁
cleared {i} {n} {len} {row} {r = r} {row₁ = row₁} h l e =
    let a : take r row₁ ≡ map slave_word (stay i n (slaves_from 0 len row)) =
    sym (words_again (take r row₁)) ∙ ap (map slave_word) h.stays in
    let m : length (take r row₁) ≡ r = length-take-le r row₁ (omega (arith, h.few, h.room)) in
    record {
      count = sym m ∙ sym (length-map (take r row₁) slave_of) ∙ ap length h.stays;
      stays = e ∙ ap (λ k. pad k (take r row₁)) l ∙ ap (pad (length row)) a;
      goes = h.goes;
    }

-- ZEROS from a place on: before the first, one more, and up to the end.
module _ (row₀ row : List ℕ) (from k : ℕ) where
  pub one_zero : from ≤ k → k < length row → take k row ≡ take from row₀ ++ replicate (k - from) 0
      → take (k + 1) (set row k 0) ≡ take from row₀ ++ replicate (k + 1 - from) 0
  one_zero h l e =
      let m : k - from + 1 ≡ k + 1 - from = omega arith in
      ap (λ j. take j (set row k 0)) (add-one k)
      ∙ take-suc-set row k 0 l
      ∙ ap (λ xs. xs ++ 0 ∷ []) e
      ∙ append_assoc (take from row₀) (replicate (k - from) 0) (0 ∷ [])
      ∙ ap (λ xs. take from row₀ ++ xs) (replicate-append-replicate (k - from) 1 0 ∙ ap (λ j. replicate j 0) m)

  pub all_zero : from ≤ k → k ≡ length row → length row ≡ length row₀ → take k row ≡ take from row₀ ++ replicate (k - from) 0
      → row ≡ pad (length row₀) (take from row₀)
  all_zero h l m e =
      let n : length (take from row₀) ≡ from = length-take-le from row₀ (omega arith) in
      let j : k - from ≡ length row₀ - length (take from row₀) = omega arith in
      sym (take-length row)
      ∙ ap (λ i. take i row) (sym l)
      ∙ e
      ∙ ap (λ i. take from row₀ ++ replicate i 0) j

pub none_zero : (row : List ℕ) (from : ℕ) → take from row ≡ take from row ++ replicate (from - from) 0
none_zero row from =
    let e : 0 ≡ from - from = omega arith in
    sym (append-nil (take from row)) ∙ ap (λ i. take from row ++ replicate i 0) e
