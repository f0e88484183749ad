-- The places of an empty work become free, from the last to the first. Assumes nothing.
use Prim.Native.Nat.{ℕ, suc, ◌+◌, ◌-◌, ◌*◌, ◌≤◌, ◌<◌}
use native.Mathlib.Omega.{arith}
use mathlib.Core.Path.{◌≡◌, refl, sym, ◌∙◌, ap}
use mathlib.Core.List.{List, ◌++◌, append_assoc}
use lib.ListN.{length, set, replicate, length-append, length-replicate, replicate-append-replicate}
use Rattle.semantics.specs.Words.{collect}
use Rattle.semantics.specs.Numbers as No
use Rattle.semantics.specs.State.{nobody}
use Rattle.promises.specs.Laws.{all_replicate}
use Rattle.base_numbers.specs.Row as Row
use Rattle.base_numbers.specs.Process as Process
use Rattle.base_numbers.specs.Code as Code
use Rattle.base_numbers.specs.Limit as Limit
use Rattle.base_i32.specs.Code.{code}
use Rattle.row_work.specs.Laid.{laid, set-append-add, even_length}
use Rattle.row_work.specs.Work.{stacked, process_row}
use Rattle.row_work.specs.Shown.{process_long}
use Rattle.run_fresh.specs.Fresh.{vacant_work}

-- The places from p on are free.
abbrev pub free_from : ℕ → List ℕ
free_from p =
    replicate (Row.PROCESSES + Process.WORDS * p) 0
    ++ (collect process_row (replicate (No.places - p) nobody) ++ replicate Limit.SAMPLERS 0)

pub none_free : replicate Row.WORDS 0 ≡ free_from No.places
none_free = sym (replicate-append-replicate Row.SEEDS Limit.SAMPLERS 0)

pub free_long : (p : ℕ) → p ≤ No.places → length (free_from p) ≡ Row.WORDS
free_long p h =
    let zs : List ℕ = replicate (Row.PROCESSES + Process.WORDS * p) 0 in
    let rs : List ℕ = collect process_row (replicate (No.places - p) nobody) in
    let s : List ℕ = replicate Limit.SAMPLERS 0 in
    let a : length (zs ++ (rs ++ s)) ≡ length zs + length (rs ++ s) = length-append zs (rs ++ s) in
    let e : length (rs ++ s) ≡ length rs + length s = length-append rs s in
    let b : length zs ≡ Row.PROCESSES + Process.WORDS * p = length-replicate (Row.PROCESSES + Process.WORDS * p) 0 in
    let c : length (replicate (No.places - p) nobody) ≡ No.places - p = length-replicate (No.places - p) nobody in
    let d : length rs ≡ Process.WORDS * length (replicate (No.places - p) nobody) =
    even_length process_row Process.WORDS (replicate (No.places - p) nobody)
    (all_replicate (λ q. length (process_row q) ≡ Process.WORDS) (No.places - p) nobody (process_long nobody (omega arith))) in
    omega arith

one_free : (rest : List ℕ) → set (replicate Process.WORDS 0 ++ rest) 1 Code.ZERO ≡ process_row nobody ++ rest
unfolding process_row laid stacked code
one_free rest = refl

-- i further on than zs, whatever comes between.
set_behind : (zs ys rest : List ℕ) (n i v : ℕ) → length zs ≡ n
    → set ((zs ++ ys) ++ rest) (n + i) v ≡ zs ++ set (ys ++ rest) i v
set_behind zs ys rest n i v e =
    ap (λ l. set l (n + i) v) (append_assoc zs ys rest)
    ∙ ap (λ j. set (zs ++ (ys ++ rest)) (j + i) v) (sym e)
    ∙ set-append-add zs (ys ++ rest) i v

pub one_more_free : (p : ℕ) → p < No.places
    → set (free_from (p + 1)) (Row.PROCESSES + Process.WORDS * p + 1) Code.ZERO ≡ free_from p
one_more_free p h =
    let n : ℕ = Row.PROCESSES + Process.WORDS * p in
    let rows : List ℕ = collect process_row (replicate (No.places - (p + 1)) nobody) in
    let rest : List ℕ = rows ++ replicate Limit.SAMPLERS 0 in
    let a : Row.PROCESSES + Process.WORDS * (p + 1) ≡ n + Process.WORDS = omega arith in
    let b : No.places - p ≡ suc (No.places - (p + 1)) = omega arith in
    ap (λ j. set (replicate j 0 ++ rest) (n + 1) Code.ZERO) a
    ∙ ap (λ l. set (l ++ rest) (n + 1) Code.ZERO) (sym (replicate-append-replicate n Process.WORDS 0))
    ∙ set_behind (replicate n 0) (replicate Process.WORDS 0) rest n 1 Code.ZERO (length-replicate n 0)
    ∙ ap (λ l. replicate n 0 ++ l) (one_free rest)
    ∙ ap (λ l. replicate n 0 ++ l) (sym (append_assoc (process_row nobody) rows (replicate Limit.SAMPLERS 0)))
    ∙ ap (λ j. replicate n 0 ++ (collect process_row (replicate j nobody) ++ replicate Limit.SAMPLERS 0)) (sym b)

pub all_free : (p : ℕ) → p ≡ 0 → free_from p ≡ vacant_work
unfolding vacant_work
all_free p e = ap free_from e
