-- Tests on bytes and on lists of them, and parts of a list. Assumes nothing.
use Rattle.std.specs.Prelude.{ℕ, zero, suc, ◌+◌, ◌*◌, ◌-◌, ◌≤◌, ◌<◌, min, ◌≡◌, refl, List, [], ◌∷◌, ◌++◌, Bool, true, false, ◌&&◌, ◌||◌, leb, length, drop, get_or, if◌then◌else◌}
use Rattle.std.proofs.Common.{arith, sym, ◌∙◌, ap, leb-true, ne_eqb, take-append-drop, length-drop, length-take-le, take-suc, drop-cons, get_or-drop, drop-drop}
use Rattle.semantics.specs.Words.{all, within}
use Rattle.text_semantics.specs.Numbers as No
use Rattle.text_semantics.specs.Lexing.{TAB, LF, CR, SPACE, HASH, ZERO, NINE, CAPITAL_A, CAPITAL_Z, SMALL_A, SMALL_Z, BASE}
use Rattle.text_semantics.specs.Lexing.{is_word, value_of}
use Rattle.text_tokens.specs.Next.{part, solid}

pub if_has : {A : Type 0} (P : A → Type 0) (t : Bool) {x y : A} → (t ≡ true → P x) → (t ≡ false → P y) → P (if t then x else y)
if_has P true f g = f refl
if_has P false f g = g refl

-- Two choices by the same test stand in a relation where both sides do.
pub if_two : {A B : Type 0} (R : A → B → Type 0) (t : Bool) {x y : A} {u v : B} → R x u → R y v
    → R (if t then x else y) (if t then u else v)
if_two R true h k = h
if_two R false h k = k

pub and_left : (t u : Bool) → (t && u) ≡ true → t ≡ true
and_left true u e = refl
and_left false u e = e

pub and_right : (t u : Bool) → (t && u) ≡ true → u ≡ true
and_right true u e = e
and_right false u e = absurd (let z : ◌≡◌ {A = ℕ} 0 1 = cc in omega arith)

pub and_both : (t u : Bool) → t ≡ true → u ≡ true → (t && u) ≡ true
and_both t u e f = rw (e, f)

or_has : {P : Type 0} (t u : Bool) → (t || u) ≡ true → (t ≡ true → P) → (u ≡ true → P) → P
or_has true u e f g = f refl
or_has false u e f g = g e

-- A BYTE of a word is none of the others.
between : (lo hi b : ℕ) → within lo hi b ≡ true → (lo ≤ b) × (b ≤ hi)
between lo hi b e = (leb-true lo b (and_left (leb lo b) (leb b hi) e), leb-true b hi (and_right (leb lo b) (leb b hi) e))

pub word_byte : (b : ℕ) → is_word b ≡ true → (ZERO ≤ b) × (b ≤ SMALL_Z)
word_byte b e =
    or_has (within ZERO NINE b) (within CAPITAL_A CAPITAL_Z b || within SMALL_A SMALL_Z b) e
    (λ d. let h = between ZERO NINE b d in (omega arith, omega arith))
    (λ o. or_has (within CAPITAL_A CAPITAL_Z b) (within SMALL_A SMALL_Z b) o
    (λ d. let h = between CAPITAL_A CAPITAL_Z b d in (omega arith, omega arith))
    (λ d. let h = between SMALL_A SMALL_Z b d in (omega arith, omega arith)))

pub word_solid : (b : ℕ) → is_word b ≡ true → solid b ≡ true
word_solid b e =
    let h = word_byte b e in
    rw (
      ne_eqb b SPACE (λ q. omega arith),
      ne_eqb b TAB (λ q. omega arith),
      ne_eqb b LF (λ q. omega arith),
      ne_eqb b CR (λ q. omega arith),
      ne_eqb b HASH (λ q. omega arith),
    )

-- LISTS of bytes.
pub all_map : (f g : ℕ → Bool) → ((b : ℕ) → f b ≡ true → g b ≡ true) → (xs : List ℕ) → all f xs ≡ true → all g xs ≡ true
all_map f g h [] e = refl
all_map f g h (x ∷ xs) e =
    and_both (g x) (all g xs) (h x (and_left (f x) (all f xs) e)) (all_map f g h xs (and_right (f x) (all f xs) e))

pub all_more : (f : ℕ → Bool) (xs : List ℕ) (b : ℕ) → all f (xs ++ (b ∷ [])) ≡ (all f xs && f b)
all_more f [] b = one (f b) where
  one : (t : Bool) → (t && true) ≡ t
  one true = refl
  one false = refl
all_more f (x ∷ xs) b = rw (all_more f xs b) (grouped (f x) (all f xs) (f b)) where
  grouped : (t u v : Bool) → (t && (u && v)) ≡ ((t && u) && v)
  grouped true u v = refl
  grouped false u v = refl

pub value_more : (n : ℕ) (xs : List ℕ) (b : ℕ) → value_of n (xs ++ (b ∷ [])) ≡ min No.beyond (BASE * value_of n xs + (b - ZERO))
value_more n [] b = refl
value_more n (x ∷ xs) b = value_more (min No.beyond (BASE * n + (x - ZERO))) xs b

pub all_at : (f : ℕ → Bool) (xs : List ℕ) (k : ℕ) → k < length xs → all f xs ≡ true → f (get_or xs k 0) ≡ true
all_at f [] k h e = absurd (omega arith)
all_at f (x ∷ xs) zero h e = and_left (f x) (all f xs) e
all_at f (x ∷ xs) (suc k) h e = all_at f xs k (omega arith) (and_right (f x) (all f xs) e)

-- PARTS: one byte more in front or behind, none, and what stands behind.
module _ (bs : List ℕ) (p e : ℕ) where
  pub part_first : p < e → p < length bs → part p e bs ≡ get_or bs p 0 ∷ part (suc p) e bs
  part_first h k =
      let n : e - p ≡ suc (e - suc p) = omega arith in
      rw (n, drop-cons bs p 0 k)

  pub part_more : p ≤ e → e < length bs → part p (e + 1) bs ≡ part p e bs ++ (get_or bs e 0 ∷ [])
  part_more h k =
      let n : e + 1 - p ≡ suc (e - p) = omega arith in
      let m : p + (e - p) ≡ e = omega arith in
      rw (n, take-suc (drop p bs) (e - p) 0 (omega (arith, length-drop p bs)), get_or-drop p bs (e - p) 0, m)

  pub part_length : e ≤ length bs → length (part p e bs) ≡ e - p
  part_length h = length-take-le (e - p) (drop p bs) (omega (arith, length-drop p bs))

  pub part_rest : p ≤ e → part p e bs ++ drop e bs ≡ drop p bs
  part_rest h =
      let m : p + (e - p) ≡ e = omega arith in
      ap (λ k. part p e bs ++ drop k bs) (sym m)
      ∙ ap (λ l. part p e bs ++ l) (sym (drop-drop (e - p) p bs))
      ∙ take-append-drop (e - p) (drop p bs)

pub part_none : (bs : List ℕ) (p : ℕ) → part p p bs ≡ []
part_none bs p = let n : p - p ≡ 0 = omega arith in rw n

pub part_one : (bs : List ℕ) (p : ℕ) → p < length bs → part p (p + 1) bs ≡ get_or bs p 0 ∷ []
part_one bs p h = part_more bs p p (omega arith) h ∙ rw (part_none bs p)

pub part_two : (bs : List ℕ) (p : ℕ) → p + 1 < length bs → part p (p + 2) bs ≡ get_or bs p 0 ∷ get_or bs (p + 1) 0 ∷ []
part_two bs p h =
    let n : p + 2 ≡ p + 1 + 1 = omega arith in
    ap (λ e. part p e bs) n ∙ part_more bs p (p + 1) (omega arith) h ∙ rw (part_one bs p (omega arith))

-- What is not 0 stands inside the list.
pub inside : (bs : List ℕ) (k : ℕ) → 0 < get_or bs k 0 → k < length bs
inside [] k h = absurd (omega arith)
inside (x ∷ xs) zero h = omega arith
inside (x ∷ xs) (suc k) h = omega (arith, inside xs k h)
