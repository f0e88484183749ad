-- Laws of drafts: bytes put one after the other and put in at a place; and, from WHETHER on, laws that no proof needs any more and
-- that stand as theorems.
-- Assumes nothing.
use Rattle.std.specs.Prelude.{ℕ, ◌+◌, ◌-◌, ◌/◌, ◌%◌, ◌≤◌, ◌<◌, min, ◌≡◌, refl, Bool, true, false, ◌||◌, List, [], ◌∷◌, ◌++◌, ltb, leb, length, take, drop, replicate, if◌then◌else◌}
use Rattle.std.proofs.Common.{le_of_lt, arith, sym, ap, ◌∙◌, append_assoc, length-append, drop_of_length-le, length-take-le, take_all, ltb-true, ltb-false, leb-true, leb-false, lt-ltb}
use Rattle.std.proofs.Math.Nat.{div-div-eq-div-mul}
use Rattle.std.proofs.Math.Seq.{take-length, drop-length}
use Rattle.text_semantics.specs.Written.{BYTE, two, four, node}
use Rattle.text_machine.specs.Entry as M
use Rattle.text_machine.specs.Entry.{KEPT, DEPTH, FULL, with_body, with_count, with_starts, put, first_start, outer}
use Rattle.text_entry.specs.Draft.{TWO, FOUR, low}
use Rattle.std.specs.List.{insert}
use Rattle.std.specs.Prelude.{zero, suc, set, leb, get_or}
use Rattle.std.proofs.Common.{drop-set-lt}
use Rattle.std.proofs.lemmas.List.Edits.{sets}
use Rattle.text_machine.specs.Entry.{with_count}
use Rattle.std.proofs.lemmas.List.Edits.{insert-append_right}

-- TWO RUNS OF BYTES, the second behind the first, are one.
over_kept : (s n m : ℕ) (t : Bool) → ltb KEPT (s + n) ≡ t
    → (t || ltb KEPT (min FULL (s + n) + m)) ≡ ltb KEPT (s + (n + m))
over_kept s n m true e = sym (lt-ltb KEPT (s + (n + m)) (omega (arith, ltb-true KEPT (s + n) e)))
over_kept s n m false e =
    let f : min FULL (s + n) + m ≡ s + (n + m) = omega (arith, ltb-false KEPT (s + n) e) in ap (ltb KEPT) f

over_twice : (b : Bool) (s n m : ℕ)
    → ((b || ltb KEPT (s + n)) || ltb KEPT (min FULL (s + n) + m)) ≡ (b || ltb KEPT (s + (n + m)))
over_twice true s n m = refl
over_twice false s n m = over_kept s n m (ltb KEPT (s + n)) refl

body_twice : (o p : Bool) (xs ys : List ℕ) → (o ≡ true → p ≡ true)
    → (if p then [] else (if o then [] else xs) ++ ys) ≡ (if p then [] else xs ++ ys)
body_twice o true xs ys h = refl
body_twice false false xs ys h = refl
body_twice true false xs ys h = ap (λ t. if t then [] else [] ++ ys) (h refl) ∙ ap (λ t. if t then [] else xs ++ ys)
    (sym (h refl))

pub with_body_lem : (x : M.Draft) {bs cs : List ℕ} {o p : Bool} {n m : ℕ} → bs ≡ cs → o ≡ p → n ≡ m
    → with_body x bs o n ≡ with_body x cs p m
with_body_lem x e f g = cc

pub put-append : (x : M.Draft) (xs ys : List ℕ) → put (put x xs) ys ≡ put x (xs ++ ys)
unfolding put
put-append x xs ys =
    let n : ℕ = length xs in
    let m : ℕ = length ys in
    let l : length (xs ++ ys) ≡ n + m = length-append xs ys in
    let o : (x.over || ltb KEPT (x.size + n)) || ltb KEPT (min FULL (x.size + n) + m) ≡ x.over || ltb KEPT
    (x.size + length (xs ++ ys)) =
    over_twice x.over x.size n m ∙ ap (λ k. x.over || ltb KEPT (x.size + k)) (sym l) in
    with_body_lem x
    (body_twice (x.over || ltb KEPT (x.size + n)) _ (x.body ++ xs) ys
    (λ e. ap (λ t. t || ltb KEPT (min FULL (x.size + n) + m)) e)
    ∙ ap (λ t. if t then [] else (x.body ++ xs) ++ ys) o
    ∙ ap (λ zs. if x.over || ltb KEPT (x.size + length (xs ++ ys)) then [] else zs) (append_assoc x.body xs ys))
    o
    (omega (arith, l))

-- Two bytes are the low ones of a small number, and four are two and two.
pub low-two : (n : ℕ) → n < TWO → low n ≡ two n
low-two n h = let e : n / BYTE % BYTE ≡ n / BYTE = omega arith in ap (λ b. n % BYTE ∷ b ∷ []) e

pub halves : (n : ℕ) → n < FOUR → low n ++ low (n / TWO) ≡ four n
halves n h =
    let c : n / TWO ≡ n / BYTE / BYTE = sym (div-div-eq-div-mul n BYTE BYTE) in
    let e : n / BYTE / BYTE / BYTE % BYTE ≡ n / BYTE / BYTE / BYTE = omega arith in
    ap (λ m. low n ++ low m) c ∙ ap (λ b. low n ++ (n / BYTE / BYTE % BYTE ∷ b ∷ [])) e

-- IN FRONT of what stands at a place.
abbrev pub in_front : ℕ → List ℕ → List ℕ → List ℕ
in_front p xs l = (take p l ++ xs) ++ drop p l

-- Behind the end is at the end.
front_by : (p : ℕ) (xs l : List ℕ) (t : Bool) → leb p (length l) ≡ t → in_front (min p (length l)) xs l ≡ in_front p xs l
front_by p xs l true e = let f : min p (length l) ≡ p = omega (arith, leb-true p (length l) e) in ap (λ j. in_front j xs l) f
front_by p xs l false e =
    let g : length l < p = leb-false p (length l) e in
    let f : min p (length l) ≡ length l = omega arith in
    let a : take (length l) l ≡ take p l = take-length l ∙ sym (take_all p l (omega arith)) in
    let b : drop (length l) l ≡ drop p l = drop-length l ∙ sym (drop_of_length-le l (le_of_lt g)) in
    ap (λ j. in_front j xs l) f ∙ ap (λ us. (us ++ xs) ++ drop (length l) l) a ∙ ap (λ us. (take p l ++ xs) ++ us) b

pub front_least : (p : ℕ) (xs l : List ℕ) → in_front (min p (length l)) xs l ≡ in_front p xs l
front_least p xs l = front_by p xs l (leb p (length l)) refl

-- A number put in at a place.
pub inserted : (p a : ℕ) (xs ys : List ℕ) → p ≤ length xs → insert (take p xs ++ ys) p a ≡ take p xs ++ a ∷ ys
inserted p a xs ys h =
    let e : p - p ≡ 0 = omega arith in
    insert-append_right (take p xs) ys p p a (length-take-le p xs h) (omega arith) ∙ ap (λ n. take p xs ++ insert ys n a) e

-- The bytes of an operation, the first of a list.
pub node_front : (op : ℕ) (l : List ℕ) → op < BYTE → op ∷ (replicate 5 0 ++ l) ≡ node op 0 ++ l
node_front op l h =
    let m : op % BYTE ≡ op = omega arith in
    let q : op / BYTE ≡ 0 = omega arith in
    rw (m, q)

-- WHETHER a body is over, and what stands in it or behind it.
pub not_kept : {n : ℕ} → true ≡ false → n ≤ KEPT
not_kept e = let z : ◌≡◌ {A = ℕ} 0 1 = cc in omega arith

pub or_left : {a : Bool} (b : Bool) → a ≡ true → (a || b) ≡ true
or_left b e = ap (λ t. t || b) e

pub or_right : (a : Bool) {b : Bool} → b ≡ true → (a || b) ≡ true
or_right true e = refl
or_right false e = e

pub take-set : (n : ℕ) (l : List ℕ) (i a : ℕ) → take n (set l i a) ≡ set (take n l) i a
take-set zero l i a = refl
take-set (suc n) [] i a = refl
take-set (suc n) (x ∷ xs) zero a = refl
take-set (suc n) (x ∷ xs) (suc i) a = ap (λ ys. x ∷ ys) (take-set n xs i a)

pub counted_no_more : (x : M.Draft) → (x.over || leb KEPT x.count) ≡ true → M.dropped x ≡ M.one_more x
unfolding M.one_more
counted_no_more x o =
    ap (λ t. if t
    then M.dropped x
    else with_count (with_body x (set x.body x.at (suc x.count)) false x.size) (suc x.count) x.at) (sym o)

branch_none : (x : M.Draft) → x.body ≡ [] → x ≡ M.branching x
branch_none x e = ap (λ l. with_body x l x.over x.size) (e ∙ ap (λ l. set l 0 (suc (get_or l 0 0))) (sym e))

-- A count that is over nothing, and where it stands.
pub count_behind : {x y : M.Draft} (n a : ℕ) → x ≡ y → (if x.over then 0 else n) ≡ a
    → with_count x 0 a ≡ with_count y 0 (if y.over then 0 else n)
count_behind {x} n a p q = ap (with_count x 0) (sym q) ∙ ap (λ z. with_count z 0 (if z.over then 0 else n)) p

-- Behind what is stored all stays.
pub sets_behind : (xs bs : List ℕ) (p n : ℕ) → p + length xs ≤ n → drop n (sets bs p xs) ≡ drop n bs
sets_behind [] bs p n h = refl
sets_behind (x ∷ xs) bs p n h = sets_behind xs (set bs p x) (suc p) n (omega arith) ∙ drop-set-lt n bs p x (omega arith)

-- The bytes of an operation, one after the other.
pub node_stored : (bs : List ℕ) (p op : ℕ) → op < BYTE
    → set (set (set (set (set (set bs p op) (p + 1) 0) (p + 2) 0) (p + 3) 0) (p + 4) 0) (p + 5) 0 ≡ sets bs p (node op 0)
node_stored bs p op h =
    let a : p + 1 ≡ suc p = omega arith in
    let b : p + 2 ≡ suc (suc p) = omega arith in
    let c : p + 3 ≡ suc (suc (suc p)) = omega arith in
    let d : p + 4 ≡ suc (suc (suc (suc p))) = omega arith in
    let e : p + 5 ≡ suc (suc (suc (suc (suc p)))) = omega arith in
    let m : op % BYTE ≡ op = omega arith in
    let q : op / BYTE ≡ 0 = omega arith in
    rw (a, b, c, d, e, m, q)
