-- An ordered list as rows of numbers: the row that a list makes, a list with one more or one less, the key by which an entry
-- stands, and its data in one word. Assumes nothing.
use Rattle.std.specs.Prelude.{◌≡◌, List, [], ◌∷◌, ◌++◌, Bool, ℕ, zero, suc, ◌+◌, ◌-◌, ◌*◌, ◌/◌, ◌%◌, ◌≤◌, length, take, drop, replicate, if◌then◌else◌}
use Rattle.semantics.specs.State.{Event, Waiter, Notice, wakes, returns_r, returns_b}
use Rattle.base_numbers.specs.Word as Word
use Rattle.base_numbers.specs.Code as Code
use Rattle.base_i32.specs.Code.{code}

-- LISTS. The row of n numbers that a list makes: zeros past its end.
abbrev pub pad : ℕ → List ℕ → List ℕ
pad n xs = xs ++ replicate (n - length xs) 0

-- A row whose first n numbers are its list: zeros stand past them.
pub record Canon (row : List ℕ) (n : ℕ) : Type 0 where
  pub room : n ≤ length row
  pub zeros : row ≡ pad (length row) (take n row)

-- A list with x put in at a place; without what stands at a place.
abbrev pub inserted : {A : Type 0} → ℕ → A → List A → List A
inserted at x xs = take at xs ++ (x ∷ drop at xs)

abbrev pub removed : {A : Type 0} → ℕ → List A → List A
removed at xs = take at xs ++ drop (at + 1) xs

-- How many at the front pass a test.
unfoldable pub place_of : {A : Type 0} → (A → Bool) → List A → ℕ
place_of q [] = zero
place_of q (x ∷ xs) = if q x then suc (place_of q xs) else zero

-- KEYS. The least key stands first: by time, and then the higher priority.
abbrev pub key_of : ℕ → ℕ → ℕ
key_of time rank = time * Word.TIME + (Code.HIGHEST - rank)

abbrev pub event_key : Event → ℕ
event_key e = key_of e.time (code e.priority)

abbrev pub waiter_key : Waiter → ℕ
waiter_key w = Code.HIGHEST - code w.priority

-- One that waits, in one word: in the order of the keys, whatever the places.
abbrev pub waiter_word : Waiter → ℕ
waiter_word w = Word.KEY * waiter_key w + w.place

-- DATA. A word: its kind, the number of a place, a resource or a bin, an amount, and the giver's number.
abbrev pub packed : ℕ → ℕ → ℕ → ℕ → ℕ
packed kind number amount giver = kind + Word.KINDS * (number + Word.NUMBERS * (amount + Word.AMOUNTS * giver))

abbrev pub kind_of : ℕ → ℕ
kind_of word = word % Word.KINDS

abbrev pub number_of : ℕ → ℕ
number_of word = word / Word.KINDS % Word.NUMBERS

abbrev pub amount_of : ℕ → ℕ
amount_of word = word / Word.AMOUNT % Word.AMOUNTS

abbrev pub giver_of : ℕ → ℕ
giver_of word = word / Word.GIVER

-- What an event does when it is first, in one word.
abbrev pub data_of : Notice → ℕ
data_of (wakes p) = packed 0 p 0 0
data_of (returns_r i n g) = packed 1 i n g
data_of (returns_b i n g) = packed 2 i n g

abbrev pub event_word : Event → ℕ
event_word e = data_of e.notice
