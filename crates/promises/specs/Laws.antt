-- Laws on tests, outcomes, lists and sums over lists, which the promises lean on.
-- Assumes nothing.
use Rattle.std.specs.Prelude.{ℕ, zero, suc, ◌+◌, ◌-◌, ◌≤◌, ◌<◌, ◌≡◌, Bool, true, false, not, ◌&&◌, ◌||◌, eqb, length, get_or, set, take, drop, replicate, if◌then◌else◌}
use Rattle.std.proofs.Common.{arith, add-one, sym, ap, ◌∙◌, eqb-true}
use Rattle.std.proofs.Math.Path.{refl}
use mathlib.Core.List.{List, [], ◌∷◌, ◌++◌, map}
use Rattle.std.proofs.Math.Option.{Option, none, some}
use Rattle.std.proofs.lemmas.Bool.{eqb-false}
use Rattle.std.proofs.Math.ListN.{get_elem?}
use Rattle.semantics.specs.Words.{Outcome, ok, fails, Passed, passed, ◌>>=◌, ◌>>◌, need, all, any, keep, is_empty}
use Rattle.semantics.specs.Words.{insert, collect, sum, more, fewer}

-- TESTS.
pub no_way : {A : Type 0} → false ≡ true → A
no_way e = let z : ◌≡◌ {A = ℕ} 0 1 = cc in absurd (omega arith)

pub and-true : (x y : Bool) → x && y ≡ true → (x ≡ true) × (y ≡ true)
and-true true y e = (refl, e)
and-true false y e = no_way e

pub true-and : (x y : Bool) → x ≡ true → y ≡ true → x && y ≡ true
true-and true y e f = f
true-and false y e f = e

pub or-false : (x y : Bool) → x || y ≡ false → (x ≡ false) × (y ≡ false)
or-false true y e = no_way (sym e)
or-false false y e = (refl, e)

pub or-true : (x y : Bool) → x || y ≡ true → (P : Type 0) → (x ≡ true → P) → (y ≡ true → P) → P
or-true true y e P f g = f refl
or-true false y e P f g = g e

pub or_left : (x y : Bool) → x ≡ true → x || y ≡ true
or_left true y e = refl
or_left false y e = no_way e

pub or_right : (x y : Bool) → y ≡ true → x || y ≡ true
or_right true y e = refl
or_right false y e = e

pub not-true : (x : Bool) → not x ≡ true → x ≡ false
not-true true e = no_way e
not-true false e = refl

pub not-false : (x : Bool) → x ≡ false → not x ≡ true
not-false true e = sym e
not-false false e = refl

-- A choice has a property where both sides have it.
pub if_has : {A : Type 0} (P : A → Type 0) (b : Bool) {x y : A} → (b ≡ true → P x) → (b ≡ false → P y)
    → P (if b then x else y)
if_has P true f g = f refl
if_has P false f g = g refl

-- Two choices by the same test stand in a relation where both sides do.
pub if_two : {A B : Type 0} (R : A → B → Type 0) (b : Bool) {x y : A} {u v : B} → R x u → R y v
    → R (if b then x else y) (if b then u else v)
if_two R true h k = h
if_two R false h k = k

-- Nothing is both of two forms.
pub not_some : {A B : Type 0} {a : A} → ◌≡◌ {A = Option A} none (some a) → B
not_some e = let z : ◌≡◌ {A = ℕ} 0 1 = cc in absurd (omega arith)

pub not_ok : {A B : Type 0} {n : ℕ} {a : A} → ◌≡◌ {A = Outcome A} (fails n) (ok a) → B
not_ok e = let z : ◌≡◌ {A = ℕ} 0 1 = cc in absurd (omega arith)

-- OUTCOMES. An outcome is good when its value, if it has one, is.
pub data Good {A : Type 0} (P : A → Type 0) : Outcome A → Type 0 where
  good : {a : A} → P a → Good P (ok a)
  stopped : {n : ℕ} → Good P (fails n)

pub good_bind : {A B : Type 0} {P : B → Type 0} (o : Outcome A) {f : A → Outcome B} → ((a : A) → Good P (f a))
    → Good P (◌>>=◌ o f)
unfolding ◌>>=◌
good_bind (ok a) h = h a
good_bind (fails n) h = stopped

pub good_then : {A B : Type 0} (Q : A → Type 0) (P : B → Type 0) (o : Outcome A) {f : A → Outcome B} → Good Q o
    → ((a : A) → Q a → Good P (f a)) → Good P (◌>>=◌ o f)
unfolding ◌>>=◌
good_then Q P (ok a) (good q) h = h a q
good_then Q P (fails n) q h = stopped

pub good_need : {B : Type 0} {P : B → Type 0} (k : ℕ) (b : Bool) {r : Outcome B} → (b ≡ true → Good P r)
    → Good P (◌>>◌ (need k b) r)
unfolding ◌>>◌ need
good_need k true h = h refl
good_need k false h = stopped

pub good_map : {A : Type 0} (P Q : A → Type 0) → ((a : A) → P a → Q a) → (o : Outcome A) → Good P o → Good Q o
good_map P Q f (ok a) (good h) = good (f a h)
good_map P Q f (fails n) stopped = stopped

-- What is good of an outcome holds of its value.
pub good_out : {A : Type 0} (P : A → Type 0) (o : Outcome A) (a : A) → o ≡ ok a → Good P o → P a
good_out P (ok x) a e (good h) = let z : x ≡ a = cc in rw (← z) h
good_out P (fails n) a e h = not_ok e

-- What passed a need held.
pub needed : (k : ℕ) (b : Bool) → need k b ≡ ok passed → b ≡ true
unfolding need
needed k true e = refl
needed k false e = not_ok e

pub needed_then : (j : ℕ) (b : Bool) (o : Outcome Passed) → ◌>>◌ (need j b) o ≡ ok passed → (b ≡ true) × (o ≡ ok passed)
unfolding ◌>>◌ need
needed_then j true o e = (refl, e)
needed_then j false o e = not_ok e

pub needed_two : (j k : ℕ) (b c : Bool) → ◌>>◌ (need j b) (need k c) ≡ ok passed → (b ≡ true) × (c ≡ true)
needed_two j k b c e = let a = needed_then j b (need k c) e in (a.0, needed k c a.1)

-- LISTS. Two things that hold, written as a chain where all of a list hold.
infixr 4 ◌&◌
abbrev pub ◌&◌ : {A B : Type 0} → A → B → A × B
◌&◌ a b = (a, b)

abbrev pub AllOf : {A : Type 0} → (A → Type 0) → List A → Type 0
AllOf P [] = Unit {0}
AllOf P (x ∷ xs) = P x × AllOf P xs

module _ {A : Type 0} where
  pub all_map : (P Q : A → Type 0) → ((a : A) → P a → Q a) → (xs : List A) → AllOf P xs → AllOf Q xs
  all_map P Q f [] h = tt
  all_map P Q f (x ∷ xs) h = (f x h.0, all_map P Q f xs h.1)

  pub all_both : (P Q : A → Type 0) (xs : List A) → AllOf P xs → AllOf Q xs → AllOf (λ x. P x × Q x) xs
  all_both P Q [] h k = tt
  all_both P Q (x ∷ xs) h k = ((h.0, k.0), all_both P Q xs h.1 k.1)

  pub all_set : (P : A → Type 0) (xs : List A) (i : ℕ) (a : A) → AllOf P xs → P a → AllOf P (set xs i a)
  all_set P [] i a h p = tt
  all_set P (x ∷ xs) zero a h p = (p, h.1)
  all_set P (x ∷ xs) (suc i) a h p = (h.0, all_set P xs i a h.1 p)

  pub all_get : (P : A → Type 0) (xs : List A) (i : ℕ) (d : A) → AllOf P xs → P d → P (get_or xs i d)
  all_get P [] i d h p = p
  all_get P (x ∷ xs) zero d h p = h.0
  all_get P (x ∷ xs) (suc i) d h p = all_get P xs i d h.1 p

  pub all_in : (P : A → Type 0) (xs : List A) (i : ℕ) (d : A) → AllOf P xs → i < length xs → P (get_or xs i d)
  all_in P [] i d h l = absurd (omega arith)
  all_in P (x ∷ xs) zero d h l = h.0
  all_in P (x ∷ xs) (suc i) d h l = all_in P xs i d h.1 (omega arith)

  pub all_at : (P : A → Type 0) (xs : List A) (i : ℕ) (a : A) → AllOf P xs → get_elem? xs i ≡ some a → P a
  all_at P [] i a h e = not_some e
  all_at P (x ∷ xs) zero a h e = let z : x ≡ a = cc in rw (← z) h.0
  all_at P (x ∷ xs) (suc i) a h e = all_at P xs i a h.1 e

  pub all_append : (P : A → Type 0) (xs ys : List A) → AllOf P xs → AllOf P ys → AllOf P (xs ++ ys)
  all_append P [] ys h k = k
  all_append P (x ∷ xs) ys h k = (h.0, all_append P xs ys h.1 k)

  pub all_cut : (P : A → Type 0) (xs : List A) (a : A) (ys : List A) → AllOf P (xs ++ a ∷ ys) → AllOf P (xs ++ ys)
  all_cut P [] a ys h = h.1
  all_cut P (x ∷ xs) a ys h = (h.0, all_cut P xs a ys h.1)

  pub all_drop : (P : A → Type 0) (n : ℕ) (xs : List A) → AllOf P xs → AllOf P (drop n xs)
  all_drop P zero xs h = h
  all_drop P (suc n) [] h = tt
  all_drop P (suc n) (x ∷ xs) h = all_drop P n xs h.1

  pub all_replicate : (P : A → Type 0) (n : ℕ) (a : A) → P a → AllOf P (replicate n a)
  all_replicate P zero a h = tt
  all_replicate P (suc n) a h = (h, all_replicate P n a h)

  pub all_insert : (P : A → Type 0) (b : A → A → Bool) (x : A) (xs : List A) → P x → AllOf P xs → AllOf P (insert b x xs)
  unfolding insert
  all_insert P b x [] p h = (p, tt)
  all_insert P b x (y ∷ ys) p h = if_has (AllOf P) (b x y) (λ g. (p, h)) (λ g. (h.0, all_insert P b x ys p h.1))

  pub all_split : (P : A → Type 0) (xs ys : List A) → AllOf P (xs ++ ys) → AllOf P xs × AllOf P ys
  all_split P [] ys h = (tt, h)
  all_split P (x ∷ xs) ys h = let a = all_split P xs ys h.1 in ((h.0, a.0), a.1)

  pub all_mapped : {B : Type 0} (P : A → Type 0) (Q : B → Type 0) (f : A → B) → ((x : A) → P x → Q (f x)) → (xs : List A)
      → AllOf P xs → AllOf Q (map f xs)
  all_mapped P Q f g [] h = tt
  all_mapped P Q f g (x ∷ xs) h = (g x h.0, all_mapped P Q f g xs h.1)

  pub all_unmap : {B : Type 0} (P : B → Type 0) (f : A → B) (xs : List A) → AllOf P (map f xs) → AllOf (λ x. P (f x)) xs
  all_unmap P f [] h = tt
  all_unmap P f (x ∷ xs) h = (h.0, all_unmap P f xs h.1)

  -- TESTS of all and of any.
  pub all_hold : (f : A → Bool) (xs : List A) → all f xs ≡ true → AllOf (λ x. f x ≡ true) xs
  all_hold f [] e = tt
  all_hold f (x ∷ xs) e = let a = and-true (f x) _ e in (a.0, all_hold f xs a.1)

  pub all_told : (f : A → Bool) (xs : List A) → AllOf (λ x. f x ≡ true) xs → all f xs ≡ true
  all_told f [] h = refl
  all_told f (x ∷ xs) h = true-and (f x) (all f xs) h.0 (all_told f xs h.1)

  pub none_hold : (f : A → Bool) (xs : List A) → any f xs ≡ false → AllOf (λ x. f x ≡ false) xs
  none_hold f [] e = tt
  none_hold f (x ∷ xs) e = let a = or-false (f x) _ e in (a.0, none_hold f xs a.1)

  -- what follows from any that passes a test and has what all have
  pub any_has : (P : A → Type 0) (Q : Type 0) (f : A → Bool) → ((x : A) → f x ≡ true → P x → Q) → (xs : List A)
      → any f xs ≡ true → AllOf P xs → Q
  any_has P Q f g [] e h = no_way e
  any_has P Q f g (x ∷ xs) e h = or-true (f x) (any f xs) e Q (λ k. g x k h.0) (λ k. any_has P Q f g xs k h.1)

  pub any_map : (f g : A → Bool) → ((x : A) → f x ≡ true → g x ≡ true) → (xs : List A) → any f xs ≡ true → any g xs ≡ true
  any_map f g h [] e = e
  any_map f g h (x ∷ xs) e =
      or-true (f x) (any f xs) e _ (λ k. or_left (g x) _ (h x k)) (λ k. or_right (g x) _ (any_map f g h xs k))

  pub empty_is : (xs : List A) → is_empty xs ≡ true → xs ≡ []
  empty_is [] e = refl
  empty_is (x ∷ xs) e = no_way e

  -- ORDER. Whoever stands before another stands in the relation to it.
  abbrev pub Ordered : (A → A → Type 0) → List A → Type 0
  Ordered R [] = Unit {0}
  Ordered R (x ∷ xs) = AllOf (R x) xs × Ordered R xs

  pub ordered_cut : (R : A → A → Type 0) (xs : List A) (a : A) (ys : List A) → Ordered R (xs ++ a ∷ ys) → Ordered R (xs ++ ys)
  ordered_cut R [] a ys h = h.1
  ordered_cut R (x ∷ xs) a ys h = (all_cut (R x) xs a ys h.0, ordered_cut R xs a ys h.1)

  pub ordered_drop : (R : A → A → Type 0) (n : ℕ) (xs : List A) → Ordered R xs → Ordered R (drop n xs)
  ordered_drop R zero xs h = h
  ordered_drop R (suc n) [] h = tt
  ordered_drop R (suc n) (x ∷ xs) h = ordered_drop R n xs h.1

  -- What goes in before the first that it goes before keeps the order, where to go before is to stand in the relation and not to
  -- go before is to stand behind.
  pub ordered_insert : (R : A → A → Type 0) → ((x y z : A) → R x y → R y z → R x z) → (b : A → A → Bool)
      → ((x y : A) → b x y ≡ true → R x y) → ((x y : A) → b x y ≡ false → R y x) → (x : A) (xs : List A) → Ordered R xs
      → Ordered R (insert b x xs)
  unfolding insert
  ordered_insert R t b f g x [] h = (tt, tt)
  ordered_insert R t b f g x (y ∷ ys) h =
      if_has (Ordered R) (b x y)
      (λ e. let a = f x y e in ((a, all_map (R y) (R x) (λ z c. t x y z a c) ys h.0), h))
      (λ e. (all_insert (R y) b x ys (g x y e) h.0, ordered_insert R t b f g x ys h.1))

  -- AN ELEMENT that is there, and what stands from it on.
  pub some_in : (xs : List A) (i : ℕ) (a : A) → get_elem? xs i ≡ some a → i < length xs
  some_in [] i a e = not_some e
  some_in (x ∷ xs) zero a e = omega arith
  some_in (x ∷ xs) (suc i) a e = let ih = some_in xs i a e in omega arith

  pub drop-some : (xs : List A) (i : ℕ) (a : A) → get_elem? xs i ≡ some a → drop i xs ≡ a ∷ drop (i + 1) xs
  drop-some [] i a e = not_some e
  drop-some (x ∷ xs) zero a e = let z : x ≡ a = cc in rw z
  drop-some (x ∷ xs) (suc i) a e = let ih = drop-some xs i a e in rw add-one (rw add-one at ih)

  pub drop-none : (xs : List A) (i : ℕ) → get_elem? xs i ≡ none → drop i xs ≡ []
  drop-none [] zero e = refl
  drop-none [] (suc i) e = refl
  drop-none (x ∷ xs) zero e = not_some (sym e)
  drop-none (x ∷ xs) (suc i) e = drop-none xs i e

  pub drop_next : (xs : List A) (i : ℕ) → get_elem? xs i ≡ none → drop (i + 1) xs ≡ []
  drop_next [] i e = rw add-one
  drop_next (x ∷ xs) zero e = not_some (sym e)
  drop_next (x ∷ xs) (suc i) e = let ih = drop_next xs i e in rw add-one (rw add-one at ih)

  -- SUMS over a list.
  abbrev pub over : (A → ℕ) → List A → ℕ
  over f xs = sum (map f xs)

  pub over-append : (f : A → ℕ) (xs ys : List A) → over f (xs ++ ys) ≡ over f xs + over f ys
  over-append f [] ys = omega arith
  over-append f (x ∷ xs) ys = let ih = over-append f xs ys in omega arith

  pub over-insert : (f : A → ℕ) (b : A → A → Bool) (x : A) (xs : List A) → over f (insert b x xs) ≡ f x + over f xs
  unfolding insert
  over-insert f b x [] = refl
  over-insert f b x (y ∷ ys) =
      if_has (λ (l : List A). over f l ≡ f x + over f (y ∷ ys)) (b x y) (λ g. refl)
      (λ g. let ih = over-insert f b x ys in omega arith)

  pub over-set : (f : A → ℕ) (xs : List A) (i : ℕ) (a d : A) → i < length xs
      → over f (set xs i a) + f (get_or xs i d) ≡ over f xs + f a
  over-set f [] i a d h = absurd (omega arith)
  over-set f (x ∷ xs) zero a d h = omega arith
  over-set f (x ∷ xs) (suc i) a d h = let ih = over-set f xs i a d (omega arith) in omega arith

  pub over_split : (f : A → ℕ) (n : ℕ) (xs : List A) → over f (take n xs) + over f (drop n xs) ≡ over f xs
  over_split f zero xs = omega arith
  over_split f (suc n) [] = omega arith
  over_split f (suc n) (x ∷ xs) = let ih = over_split f n xs in omega arith

  pub over_zero : (f : A → ℕ) (P : A → Type 0) → ((x : A) → P x → f x ≡ 0) → (xs : List A) → AllOf P xs → over f xs ≡ 0
  over_zero f P g [] h = refl
  over_zero f P g (x ∷ xs) h = let a = g x h.0 in let ih = over_zero f P g xs h.1 in omega arith

  pub over_none : (f : A → ℕ) (n : ℕ) (a : A) → f a ≡ 0 → over f (replicate n a) ≡ 0
  over_none f n a e = over_zero f (λ x. f x ≡ 0) (λ x h. h) (replicate n a) (all_replicate (λ x. f x ≡ 0) n a e)

  pub over-keep : (f : A → Bool) (xs : List A) → length (keep f xs) ≡ over (λ x. if f x then 1 else 0) xs
  over-keep f [] = refl
  over-keep f (x ∷ xs) =
      let ih = over-keep f xs in
      if_two (λ (l : List A) n. length l ≡ n + over (λ x. if f x then 1 else 0) xs) (f x) (omega arith) (omega arith)

  pub over_same : (f g : A → ℕ) → ((x : A) → f x ≡ g x) → (xs : List A) → over f xs ≡ over g xs
  over_same f g e [] = refl
  over_same f g e (x ∷ xs) = let ih = over_same f g e xs in let d = e x in omega arith

  pub over_most : (f g : A → ℕ) → ((x : A) → f x ≤ g x) → (xs : List A) → over f xs ≤ over g xs
  over_most f g e [] = omega arith
  over_most f g e (x ∷ xs) = let ih = over_most f g e xs in let d = e x in omega arith

  pub over-length : (xs : List A) → over (λ x. 1) xs ≡ length xs
  over-length [] = refl
  over-length (x ∷ xs) = let ih = over-length xs in omega arith

  pub length-insert : (b : A → A → Bool) (x : A) (xs : List A) → length (insert b x xs) ≡ suc (length xs)
  length-insert b x xs =
      let i = over-insert (λ y. 1) b x xs in let m = over-length (insert b x xs) in let n = over-length xs in omega arith

  -- where a sum is not 0, something isn't
  pub over_found : (f : A → ℕ) (P : A → Type 0) (Q : Type 0) → ((x : A) → P x → 1 ≤ f x → Q) → (xs : List A) → AllOf P xs
      → 1 ≤ over f xs → Q
  over_found f P Q h [] p l = absurd (omega arith)
  over_found f P Q h (x ∷ xs) p l = go (f x) refl (λ n. over_found f P Q h xs p.1 n)
    where
      go : (n : ℕ) → f x ≡ n → (1 ≤ over f xs → Q) → Q
      go zero e k = k (omega arith)
      go (suc n) e k = h x p.0 (omega arith)

  -- an element set that weighs what stood there weighs the same there and changes no sum
  pub over_still : (f : A → ℕ) (xs : List A) (i : ℕ) (a d : A) → f a ≡ f (get_or xs i d) → over f (set xs i a) ≡ over f xs
  over_still f [] i a d e = refl
  over_still f (x ∷ xs) zero a d e = omega arith
  over_still f (x ∷ xs) (suc i) a d e = let ih = over_still f xs i a d e in omega arith

  pub get_still : {B : Type 0} (f : A → B) (xs : List A) (i : ℕ) (a d : A) → f a ≡ f (get_or xs i d)
      → f (get_or (set xs i a) i d) ≡ f (get_or xs i d)
  get_still f [] i a d e = refl
  get_still f (x ∷ xs) zero a d e = e
  get_still f (x ∷ xs) (suc i) a d e = get_still f xs i a d e

module _ {A B : Type 0} (f : B → ℕ) where
  pub over-map : (g : A → B) (xs : List A) → over f (map g xs) ≡ over (λ x. f (g x)) xs
  over-map g [] = refl
  over-map g (x ∷ xs) = let ih = over-map g xs in omega arith

  pub over-collect : (g : A → List B) (xs : List A) → over f (collect g xs) ≡ over (λ x. over f (g x)) xs
  over-collect g [] = refl
  over-collect g (x ∷ xs) = let ih = over-collect g xs in let a = over-append f (g x) (collect g xs) in omega arith

pub all_collect : {A B : Type 0} (P : B → Type 0) (f : A → List B) (xs : List A) → AllOf P (collect f xs)
    → AllOf (λ x. AllOf P (f x)) xs
all_collect P f [] h = tt
all_collect P f (x ∷ xs) h = let a = all_split P (f x) (collect f xs) h in (a.0, all_collect P f xs a.1)

-- A NUMBER AT ONE INDEX: n where i is j, else 0; and 1 there.
abbrev pub only : ℕ → ℕ → ℕ → ℕ
only zero zero n = n
only zero (suc j) n = 0
only (suc i) zero n = 0
only (suc i) (suc j) n = only i j n

abbrev pub once : ℕ → ℕ → ℕ
once i j = only i j 1

pub once_same : (i j : ℕ) → 1 ≤ once i j → i ≡ j
once_same zero zero h = refl
once_same zero (suc j) h = absurd (omega arith)
once_same (suc i) zero h = absurd (omega arith)
once_same (suc i) (suc j) h = ap suc (once_same i j h)

pub only_none : (i j : ℕ) → only i j 0 ≡ 0
only_none zero zero = refl
only_none zero (suc j) = refl
only_none (suc i) zero = refl
only_none (suc i) (suc j) = only_none i j

pub only_apart : (i j n : ℕ) → (i ≡ j → ⊥) → only i j n ≡ 0
only_apart zero zero n h = absurd (h refl)
only_apart zero (suc j) n h = refl
only_apart (suc i) zero n h = refl
only_apart (suc i) (suc j) n h = only_apart i j n (λ e. h (ap suc e))

pub only_here : (i n : ℕ) → only i i n ≡ n
only_here zero n = refl
only_here (suc i) n = only_here i n

pub once_self : (i : ℕ) → once i i ≡ 1
once_self i = only_here i 1

pub once_apart : (i j : ℕ) → (i ≡ j → ⊥) → once i j ≡ 0
once_apart i j h = only_apart i j 1 h

pub only-add : (k i a b : ℕ) → only k i (a + b) ≡ only k i a + only k i b
only-add zero zero a b = refl
only-add zero (suc i) a b = refl
only-add (suc k) zero a b = refl
only-add (suc k) (suc i) a b = only-add k i a b

-- the same as a test
pub only_if : (i j n : ℕ) → only i j n ≡ (if eqb i j then n else 0)
only_if i j n = go (eqb i j) refl
  where
    go : (b : Bool) → eqb i j ≡ b → only i j n ≡ (if b then n else 0)
    go true e = rw (← (eqb-true i j e)) (only_here i n)
    go false e = only_apart i j n (eqb-false i j e)

module _ {A : Type 0} where
  pub set_away : (xs : List A) (p k : ℕ) (a d : A) → once p k ≡ 0 → get_or (set xs p a) k d ≡ get_or xs k d
  set_away [] p k a d h = refl
  set_away (x ∷ xs) zero zero a d h = absurd (omega arith)
  set_away (x ∷ xs) zero (suc k) a d h = refl
  set_away (x ∷ xs) (suc p) zero a d h = refl
  set_away (x ∷ xs) (suc p) (suc k) a d h = set_away xs p k a d h

  -- how many have number k
  pub keep-once : (k : ℕ) (f : A → ℕ) (xs : List A) → length (keep (λ x. eqb k (f x)) xs) ≡ over (λ x. once k (f x)) xs
  keep-once k f xs = over-keep (λ x. eqb k (f x)) xs ∙ over_same _ _ (λ x. sym (only_if k (f x) 1)) xs

  -- a number read at k after a change at i
  pub over_at : (f : A → ℕ) (xs : List A) (i k : ℕ) (a d : A) → i < length xs
      → f (get_or (set xs i a) k d) + only k i (f (get_or xs i d)) ≡ f (get_or xs k d) + only k i (f a)
  over_at f [] i k a d h = absurd (omega arith)
  over_at f (x ∷ xs) zero zero a d h = omega arith
  over_at f (x ∷ xs) zero (suc k) a d h = omega arith
  over_at f (x ∷ xs) (suc i) zero a d h = omega arith
  over_at f (x ∷ xs) (suc i) (suc k) a d h = over_at f xs i k a d (omega arith)

-- a more, or a less, at index i
module _ (xs : List ℕ) (i a k : ℕ) (h : i < length xs) where
  pub more_at : get_or (more xs i a) k 0 ≡ get_or xs k 0 + only k i a
  more_at =
      let b = over_at (λ x. x) xs i k (get_or xs i 0 + a) 0 h in let d = only-add k i (get_or xs i 0) a in omega arith

  pub less_at : a ≤ get_or xs i 0 → get_or (fewer xs i a) k 0 + only k i a ≡ get_or xs k 0
  less_at e =
      let b = over_at (λ x. x) xs i k (get_or xs i 0 - a) 0 h in
      let d : get_or xs i 0 ≡ (get_or xs i 0 - a) + a = omega arith in
      let f = ap (only k i) d ∙ only-add k i (get_or xs i 0 - a) a in
      omega arith
