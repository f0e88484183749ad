-- Laws of words and bytes in rows: a body of so many bytes, open expressions of two words each, and room for a node. No function
-- needs them any more, as lists of the library hold these now; they stand because they stood. Assumes nothing.
use Rattle.std.specs.Prelude.{ℕ, zero, suc, ◌+◌, ◌-◌, ◌≤◌, ◌<◌, ◌≡◌, refl, Bool, true, false, ◌||◌, List, [], ◌∷◌, ◌++◌, ltb, leb, length, get_or, take, drop, set, if◌then◌else◌}
use Rattle.std.proofs.Common.{add-one, arith, sym, ap, ◌∙◌, append_assoc, append-nil, length-append, length-set, get_or-set_same, get_or-set_other, get_or-drop, take-append-drop, drop-drop, ext_get_or, take-suc, drop-set-lt, drop-cons, lt-length-set, get_or-take, length-take-le, take_at, drop_at, leb-true, leb-false, le-ltb}
use Rattle.std.proofs.lemmas.List.Edits.{sets, sets-eq}
use Rattle.std.proofs.lemmas.List.{take-set-le}
use Rattle.std.proofs.Math.Seq.{take-append-add}
use Rattle.text_machine.specs.Entry as M
use Rattle.text_machine.specs.Entry.{Start, KEPT, with_body, first_start, outer}
use Rattle.text_entry.specs.Draft.{NODE}
use Rattle.text_entry.specs.Laws.{with_body_lem, in_front}

-- What stands round room for a node in front of what stood at i, `size` bytes in all.
abbrev pub roomy : ℕ → ℕ → List ℕ → List ℕ
roomy i size bs = take i bs ++ take (size - i) (drop (i + NODE) bs)

-- The first n open expressions, two words each, the innermost first.
unfoldable pub starts_in : ℕ → List ℕ → List Start
starts_in zero ws = []
starts_in (suc n) ws = record { sum = get_or ws (n + n) 0; term = get_or ws (suc (n + n)) 0 } ∷ starts_in n ws

-- The body, which is nothing where it is more than is kept.
abbrev pub body_in : Bool → ℕ → List ℕ → List ℕ
body_in over n bs = if over then [] else take n bs

-- WHAT IS KEPT, with n bytes more.
longer_kept : (x : M.Draft) (n : ℕ) (xs : List ℕ) → x.over ≡ false → x.size + n ≤ KEPT
    → M.longer x n xs ≡ with_body x xs false (x.size + n)
longer_kept x n xs e h =
    let o : x.over || ltb KEPT (x.size + n) ≡ false =
    ap (λ t. t || ltb KEPT (x.size + n)) e ∙ le-ltb KEPT (x.size + n) h in
    with_body_lem x (ap (λ t. if t then [] else xs) o) o (omega arith)

-- What is stored behind the body isn't in it.
not_taken : (o : Bool) (n : ℕ) (bs : List ℕ) (i v : ℕ) → n ≤ i → body_in o n bs ≡ body_in o n (set bs i v)
not_taken true n bs i v h = refl
not_taken false n bs i v h = sym (take-set-le n bs i v h)

pub first_byte : (o : Bool) (n : ℕ) (bs : List ℕ) → o ≡ false → (n ≡ 0 → ⊥) → get_or (body_in o n bs) 0 0 ≡ get_or bs 0 0
first_byte o n bs e h = ap (λ t. get_or (body_in t n bs) 0 0) e ∙ get_or-take n bs 0 0 (omega arith)

no_bytes : (o : Bool) (bs : List ℕ) → body_in o 0 bs ≡ []
no_bytes true bs = refl
no_bytes false bs = refl

-- OPEN EXPRESSIONS
pub length_starts : (n : ℕ) (ws : List ℕ) → length (starts_in n ws) ≡ n
unfolding starts_in
length_starts zero ws = refl
length_starts (suc n) ws = ap suc (length_starts n ws)

starts_set : (n : ℕ) (ws : List ℕ) (i v : ℕ) → n + n ≤ i → starts_in n (set ws i v) ≡ starts_in n ws
unfolding starts_in
starts_set zero ws i v h = refl
starts_set (suc n) ws i v h =
    let a : get_or (set ws i v) (n + n) 0 ≡ get_or ws (n + n) 0 = get_or-set_other ws i (n + n) v 0 (λ e. omega arith) in
    let b : get_or (set ws i v) (suc (n + n)) 0 ≡ get_or ws (suc (n + n)) 0 = get_or-set_other ws i (suc (n + n)) v 0
    (λ e. omega arith) in
    let r : starts_in n (set ws i v) ≡ starts_in n ws = starts_set n ws i v (omega arith) in
    cc

pub starts_more : (n : ℕ) (ws : List ℕ) (a b : ℕ) → n + n + 1 < length ws
    → starts_in (n + 1) (set (set ws (n + n) a) (n + n + 1) b) ≡ record { sum = a; term = b } ∷ starts_in n ws
unfolding starts_in
starts_more n ws a b h =
    let us : List ℕ = set ws (n + n) a in
    let vs : List ℕ = set us (n + n + 1) b in
    let l : length us ≡ length ws = length-set ws (n + n) a in
    let e : get_or vs (n + n) 0 ≡ a =
    get_or-set_other us (n + n + 1) (n + n) b 0 (λ e. omega arith) ∙ get_or-set_same ws (n + n) a 0 (omega arith) in
    let f : get_or vs (suc (n + n)) 0 ≡ b =
    ap (λ i. get_or vs i 0) (sym (add-one (n + n))) ∙ get_or-set_same us (n + n + 1) b 0 (omega arith) in
    let g : starts_in n vs ≡ starts_in n ws = starts_set n us (n + n + 1) b (omega arith) ∙ starts_set n ws (n + n) a
    (omega arith) in
    ap (λ i. starts_in i vs) (add-one n) ∙ cc

pub starts_fewer : (n : ℕ) (ws : List ℕ) → (n ≡ 0 → ⊥) → starts_in (n - 1) ws ≡ outer (starts_in n ws)
unfolding starts_in
starts_fewer zero ws h = absurd (h refl)
starts_fewer (suc n) ws h = let e : suc n - 1 ≡ n = omega arith in ap (λ i. starts_in i ws) e

pub starts_none : (n : ℕ) (ws : List ℕ) → n ≡ 0 → starts_in n ws ≡ []
unfolding starts_in
starts_none n ws e = ap (λ i. starts_in i ws) e

pub first_start_lem : (n : ℕ) (ws : List ℕ) → (n ≡ 0 → ⊥)
    → first_start (starts_in n ws) ≡ record { sum = get_or ws (n + n - 2) 0; term = get_or ws (n + n - 1) 0 }
unfolding starts_in
first_start_lem zero ws h = absurd (h refl)
first_start_lem (suc n) ws h =
    let e : n + n ≡ suc n + suc n - 2 = omega arith in
    let f : suc (n + n) ≡ suc n + suc n - 1 = omega arith in
    cc

pub starts_term : (n : ℕ) (ws : List ℕ) (v : ℕ) → (n ≡ 0 → ⊥) → n + n ≤ length ws
    → starts_in n (set ws (n + n - 1) v) ≡ record { sum = (first_start (starts_in n ws)).sum; term = v } ∷ outer (starts_in n ws)
unfolding starts_in
starts_term zero ws v h l = absurd (h refl)
starts_term (suc n) ws v h l =
    let f : suc n + suc n - 1 ≡ suc (n + n) = omega arith in
    let a : get_or (set ws (suc (n + n)) v) (n + n) 0 ≡ get_or ws (n + n) 0 = get_or-set_other ws (suc (n + n)) (n + n) v 0
    (λ e. omega arith) in
    let b : get_or (set ws (suc (n + n)) v) (suc (n + n)) 0 ≡ v = get_or-set_same ws (suc (n + n)) v 0 (omega arith) in
    let r : starts_in n (set ws (suc (n + n)) v) ≡ starts_in n ws = starts_set n ws (suc (n + n)) v (omega arith) in
    ap (λ i. starts_in (suc n) (set ws i v)) f ∙ cc

-- Behind a start that is stored all stays.
pub start_above : (n : ℕ) (ws : List ℕ) (a b : ℕ)
    → drop (n + 1 + (n + 1)) (set (set ws (n + n) a) (n + n + 1) b) ≡ drop (n + 1 + (n + 1)) ws
start_above n ws a b =
    drop-set-lt (n + 1 + (n + 1)) (set ws (n + n) a) (n + n + 1) b (omega arith)
    ∙ drop-set-lt (n + 1 + (n + 1)) ws (n + n) a (omega arith)

pub start_wide : (n : ℕ) (ws : List ℕ) (a b : ℕ) → length (set (set ws (n + n) a) (n + n + 1) b) ≡ length ws
start_wide n ws a b = length-set (set ws (n + n) a) (n + n + 1) b ∙ length-set ws (n + n) a

-- ROOM for a node's bytes: what stands behind p is moved up, one byte after the other from the last on.
pub room_turn : (bs : List ℕ) (i size : ℕ) → i < size → size + NODE ≤ length bs
    → roomy i size (set bs (i + NODE) (get_or bs i 0)) ≡ roomy (suc i) size bs
room_turn bs i size h l =
    let k : ℕ = i + NODE in
    let v : ℕ = get_or bs i 0 in
    let cs : List ℕ = set bs k v in
    let a : take i cs ≡ take i bs = take-set-le i bs k v (omega arith) in
    let b : drop k cs ≡ v ∷ drop (suc k) bs =
    drop-cons cs k 0 (lt-length-set bs k v (omega arith))
    ∙ ap (λ u. u ∷ drop (suc k) cs) (get_or-set_same bs k v 0 (omega arith))
    ∙ ap (λ us. v ∷ us) (drop-set-lt (suc k) bs k v (omega arith)) in
    let m : size - i ≡ suc (size - suc i) = omega arith in
    let n : suc k ≡ suc i + NODE = omega arith in
    let e : take (size - i) (drop k cs) ≡ v ∷ take (size - suc i) (drop (suc i + NODE) bs) =
    ap (take (size - i)) b
    ∙ ap (λ j. take j (v ∷ drop (suc k) bs)) m
    ∙ ap (λ j. v ∷ take (size - suc i) (drop j bs)) n in
    ap (λ us. us ++ take (size - i) (drop k cs)) a
    ∙ ap (λ us. take i bs ++ us) e
    ∙ sym (append_assoc (take i bs) (v ∷ []) (take (size - suc i) (drop (suc i + NODE) bs)))
    ∙ ap (λ us. us ++ take (size - suc i) (drop (suc i + NODE) bs)) (sym (take-suc bs i 0 (omega arith)))

pub room_none : (bs : List ℕ) (size : ℕ) → roomy size size bs ≡ take size bs
room_none bs size =
    let e : size - size ≡ 0 = omega arith in
    ap (λ n. take size bs ++ take n (drop (size + NODE) bs)) e ∙ append-nil (take size bs)

-- What is stored there then stands in front of what stood at p.
pub room_put : (bs cs xs : List ℕ) (p size : ℕ) → p ≤ size → size + NODE ≤ length cs → length xs ≡ NODE
    → roomy p size cs ≡ take size bs → take (size + NODE) (sets cs p xs) ≡ in_front p xs (take size bs)
room_put bs cs xs p size h l n e =
    let a : length (take p cs) ≡ p = length-take-le p cs (omega arith) in
    let f : List ℕ = take p cs ++ xs in
    let r : List ℕ = take (size - p) (drop (p + NODE) cs) in
    let k : size + NODE ≡ length f + (size - p) = omega (arith, a, n, length-append (take p cs) xs) in
    let g : sets cs p xs ≡ f ++ drop (p + NODE) cs =
    sets-eq xs cs p (omega (arith, n)) ∙ ap (λ j. f ++ drop (p + j) cs) n in
    let t : take p (take size bs) ≡ take p cs = ap (take p) (sym e) ∙ take_at (take p cs) r p a in
    let d : drop p (take size bs) ≡ r = ap (drop p) (sym e) ∙ drop_at (take p cs) r p a in
    ap (take (size + NODE)) g
    ∙ ap (λ j. take j (f ++ drop (p + NODE) cs)) k
    ∙ take-append-add f (drop (p + NODE) cs) (size - p)
    ∙ ap (λ us. (us ++ xs) ++ r) (sym t)
    ∙ ap (λ us. (take p (take size bs) ++ xs) ++ us) (sym d)

-- THE WORDS of the starts: those of the open expressions, and what stands behind them.
module _ (us vs : List ℕ) where
  word_by : (n i : ℕ) → starts_in (suc n) us ≡ starts_in (suc n) vs → n + n ≤ i → i < suc n + suc n
      → (t : Bool) → leb i (n + n) ≡ t → get_or us i 0 ≡ get_or vs i 0
  unfolding starts_in
  word_by n i e h l true t =
      let k : i ≡ n + n = omega (arith, leb-true i (n + n) t) in
      ap (λ j. get_or us j 0) k ∙ ap (λ xs. (first_start xs).sum) e ∙ ap (λ j. get_or vs j 0) (sym k)
  word_by n i e h l false t =
      let k : i ≡ suc (n + n) = omega (arith, leb-false i (n + n) t) in
      ap (λ j. get_or us j 0) k ∙ ap (λ xs. (first_start xs).term) e ∙ ap (λ j. get_or vs j 0) (sym k)

  word_in : (n i : ℕ) → starts_in (suc n) us ≡ starts_in (suc n) vs → i < suc n + suc n
      → (i < n + n → get_or us i 0 ≡ get_or vs i 0) → (t : Bool) → leb (n + n) i ≡ t → get_or us i 0 ≡ get_or vs i 0
  word_in n i e l f true t = word_by n i e (leb-true (n + n) i t) l (leb i (n + n)) refl
  word_in n i e l f false t = f (leb-false (n + n) i t)

  word_of : (n i : ℕ) → starts_in n us ≡ starts_in n vs → i < n + n → get_or us i 0 ≡ get_or vs i 0
  unfolding starts_in
  word_of zero i e l = omega arith
  word_of (suc n) i e l = word_in n i e l (word_of n i (ap outer e)) (leb (n + n) i) refl

  word_at : (n i : ℕ) → starts_in n us ≡ starts_in n vs → drop (n + n) us ≡ drop (n + n) vs
      → (t : Bool) → leb (n + n) i ≡ t → get_or us i 0 ≡ get_or vs i 0
  word_at n i e d true t =
      let j : ℕ = i - (n + n) in
      let k : i ≡ n + n + j = omega (arith, leb-true (n + n) i t) in
      ap (λ m. get_or us m 0) k
      ∙ sym (get_or-drop (n + n) us j 0)
      ∙ ap (λ l. get_or l j 0) d
      ∙ get_or-drop (n + n) vs j 0
      ∙ ap (λ m. get_or vs m 0) (sym k)
  word_at n i e d false t = word_of n i e (leb-false (n + n) i t)

  same_words : (n : ℕ) → starts_in n us ≡ starts_in n vs → drop (n + n) us ≡ drop (n + n) vs → length us ≡ length vs → us ≡ vs
  same_words n e d l = ext_get_or 0 us vs l (λ i h. word_at n i e d (leb (n + n) i) refl)

-- THE BYTES of the body, and what stands behind it.
same_bytes : (n : ℕ) (bs cs : List ℕ) → take n bs ≡ take n cs → drop n bs ≡ drop n cs → bs ≡ cs
same_bytes n bs cs e d =
    sym (take-append-drop n bs) ∙ ap (λ l. l ++ drop n bs) e ∙ ap (λ l. take n cs ++ l) d ∙ take-append-drop n cs

-- What stays behind n stays behind more.
later : (n m : ℕ) (bs cs : List ℕ) → n ≤ m → drop n cs ≡ drop n bs → drop m cs ≡ drop m bs
later n m bs cs h e =
    let k : m ≡ n + (m - n) = omega arith in
    ap (λ i. drop i cs) k
    ∙ sym (drop-drop (m - n) n cs)
    ∙ ap (drop (m - n)) e
    ∙ drop-drop (m - n) n bs
    ∙ ap (λ i. drop i bs) (sym k)
