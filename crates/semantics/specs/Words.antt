-- The plain words that the definitions are written in: an outcome, and a few words on lists; the choice is the library's.
-- Assumes nothing.
use Rattle.std.specs.Prelude.{ℕ, zero, suc, ◌+◌, ◌-◌, max, List, [], ◌∷◌, ◌++◌, Bool, true, false, ◌&&◌, ◌||◌, leb, get_or, set, if◌then◌else◌}

infixr 10 ◌>>=◌
infixr 10 ◌>>◌
-- A value, or the number under which document 01's table refuses a model or stops a step.
pub data Outcome (A : Type 0) : Type 0 where
  ok : A → Outcome A
  fails : ℕ → Outcome A

unfoldable pub ◌>>=◌ : {A B : Type 0} → Outcome A → (A → Outcome B) → Outcome B
◌>>=◌ (ok a) f = f a
◌>>=◌ (fails n) f = fails n

pub data Passed : Type 0 where
  passed : Passed

unfoldable pub ◌>>◌ : {B : Type 0} → Outcome Passed → Outcome B → Outcome B
◌>>◌ (ok passed) b = b
◌>>◌ (fails n) b = fails n

-- Go on where the test holds; else the number. A list of needs in ascending number gives the lowest that applies.
unfoldable pub need : ℕ → Bool → Outcome Passed
need n true = ok passed
need n false = fails n

module _ {A : Type 0} where
  abbrev pub all : (A → Bool) → List A → Bool
  all f [] = true
  all f (x ∷ xs) = f x && all f xs

  abbrev pub any : (A → Bool) → List A → Bool
  any f [] = false
  any f (x ∷ xs) = f x || any f xs

  abbrev pub keep : (A → Bool) → List A → List A
  keep f [] = []
  keep f (x ∷ xs) = if f x then x ∷ keep f xs else keep f xs

  abbrev pub is_empty : List A → Bool
  is_empty [] = true
  is_empty (x ∷ xs) = false

  -- The index of the first for which f holds; the length where there is none.
  abbrev pub first_at : (A → Bool) → List A → ℕ
  first_at f [] = 0
  first_at f (x ∷ xs) = if f x then 0 else suc (first_at f xs)

  -- x put in before the first that it goes before: behind its equals.
  unfoldable pub insert : (A → A → Bool) → A → List A → List A
  insert before x [] = x ∷ []
  insert before x (y ∷ ys) = if before x y then x ∷ y ∷ ys else y ∷ insert before x ys

  -- Whether each stands in the relation to all behind it.
  abbrev pub ordered : (A → A → Bool) → List A → Bool
  ordered f [] = true
  ordered f (x ∷ xs) = all (f x) xs && ordered f xs

abbrev pub collect : {A B : Type 0} → (A → List B) → List A → List B
collect f [] = []
collect f (x ∷ xs) = f x ++ collect f xs

abbrev pub sum : List ℕ → ℕ
sum [] = 0
sum (x ∷ xs) = x + sum xs

abbrev pub largest : List ℕ → ℕ
largest [] = 0
largest (x ∷ xs) = max x (largest xs)

-- 0 to n - 1, the last first.
abbrev pub up_to : ℕ → List ℕ
up_to zero = []
up_to (suc n) = n ∷ up_to n

-- xs with n more, or n fewer, at index i.
abbrev pub more : List ℕ → ℕ → ℕ → List ℕ
more xs i n = set xs i (get_or xs i 0 + n)

abbrev pub fewer : List ℕ → ℕ → ℕ → List ℕ
fewer xs i n = set xs i (get_or xs i 0 - n)

-- lo..hi
abbrev pub within : ℕ → ℕ → ℕ → Bool
within lo hi n = leb lo n && leb n hi
