-- A process's slaves in the work: what is needed, what is changed, and how its row of words is sorted out. Assumes nothing.
use Rattle.std.specs.Prelude.{ℕ, ◌+◌, ◌-◌, ◌/◌, ◌%◌, ◌≤◌, ◌<◌, ◌≡◌, List, [], ◌∷◌, ◌++◌, map, eqb, length, get_or, take, drop}
use Rattle.std.proofs.lemmas.List.Edits.{sets}
use Rattle.semantics.specs.Words.{keep}
use Rattle.semantics.specs.State.{State, Process, Slave, process, with_slaves}
use Rattle.semantics.specs.Step.{freed, stay}
use Rattle.base_numbers.specs.Word as Word
use Rattle.base_ordered.specs.Lines.{pad}
use Rattle.row_work.specs.Work.{slave_word}
use Rattle.row_process.specs.Process.{Lives}

-- How many of the slaves are of sync i.
abbrev pub owned_of : ℕ → List Slave → ℕ
owned_of i xs = length (keep (λ x. eqb x.of i) xs)

-- WHAT IS NEEDED. n wait for sync i, as slaves of the process in place p;
pub record Waiting (p i n : ℕ) (s : State) : Type 0 where
  pub lives : Lives p s
  pub there : i < length s.waiting
  pub enough : n ≤ length (get_or s.waiting i [])

-- or it has n slaves of sync i.
pub record Owns (p i n : ℕ) (s : State) : Type 0 where
  pub lives : Lives p s
  pub enough : n ≤ owned_of i (process s p).slaves

-- WHAT IS CHANGED. One more slave, behind the others; without the first n of sync i.
abbrev pub joined : ℕ → ℕ → Process → Process
joined i r q = with_slaves q (q.slaves ++ record { of = i; place = r } ∷ [])

abbrev pub let_go : ℕ → ℕ → Process → Process
let_go i n q = with_slaves q (stay i n q.slaves)

-- A ROW. The slave of a word; those from k to len.
abbrev pub slave_of : ℕ → Slave
slave_of x = record { of = x / Word.SYNC; place = x % Word.PLACES }

abbrev pub slaves_from : (k len : ℕ) → List ℕ → List Slave
slaves_from k len row = map slave_of (drop k (take len row))

-- The first k of the row are sorted out: `gone` of them went, and with what is left the others come to `kept`, and the places of
-- those that go to `noted`.
pub record Halfway (i n len : ℕ) (kept : List Slave) (noted : List ℕ) (k gone : ℕ) (row places : List ℕ) : Type 0 where
  pub few : gone ≤ k
  pub inside : k ≤ len
  pub room : len ≤ length row
  pub space : len ≤ length places
  pub stays : map slave_of (take (k - gone) row) ++ stay i (n - gone) (slaves_from k len row) ≡ kept
  pub goes : sets places gone (freed i (n - gone) (slaves_from k len row)) ≡ noted

abbrev pub OneFurther : (i n k gone : ℕ) (row places : List ℕ) (r : ℕ) (row₁ places₁ : List ℕ) → Type 0
OneFurther i n k gone row places r row₁ places₁ =
    (len : ℕ) (kept : List Slave) (noted : List ℕ) → k < len → Halfway i n len kept noted k gone row places
    → Halfway i n len kept noted (k + 1) r row₁ places₁

-- All are: those that stay are the first r.
pub record Sifted (i n len : ℕ) (row places : List ℕ) (r : ℕ) (row₁ places₁ : List ℕ) : Type 0 where
  pub few : r ≤ len
  pub room : len ≤ length row₁
  pub stays : map slave_of (take r row₁) ≡ stay i n (slaves_from 0 len row)
  pub goes : places₁ ≡ sets places 0 (freed i n (slaves_from 0 len row))

-- And there are zeros behind them.
pub record SortedOut (i n len : ℕ) (row places : List ℕ) (r : ℕ) (row₁ places₁ : List ℕ) : Type 0 where
  pub count : r ≡ length (stay i n (slaves_from 0 len row))
  pub stays : row₁ ≡ pad (length row) (map slave_word (stay i n (slaves_from 0 len row)))
  pub goes : places₁ ≡ sets places 0 (freed i n (slaves_from 0 len row))
