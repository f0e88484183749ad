-- Laws of the text: a number by its last digit, and how many digits it has; lines behind lines. Assumes nothing.
use Rattle.std.specs.Prelude.{◌≡◌, refl, Bool, true, false, List, [], ◌∷◌, ◌++◌, ℕ, zero, suc, ◌+◌, ◌/◌, ◌%◌, ◌^◌, ◌≤◌, ◌<◌, ltb, length}
use Rattle.std.proofs.Common.{sym, ◌∙◌, ap, append_assoc, arith, lt-ltb, le-ltb, ltb-true, ltb-false, length-append}
use Rattle.std.proofs.Math.Nat.{pow-succ'}
use Rattle.semantics.specs.Plan.{PrintedLine}
use Rattle.plan_text.specs.Text.{BASE, ZERO, digits_in, decimal, line_text, lines_text}

digits_end : (n x : ℕ) → x < BASE → digits_in (suc n) x ≡ (ZERO + x) ∷ []
unfolding digits_in
digits_end n x h = rw (lt-ltb x BASE h, digits_in)

digits_on : (n x : ℕ) → BASE ≤ x → digits_in (suc n) x ≡ digits_in n (x / BASE) ++ ((ZERO + x % BASE) ∷ [])
unfolding digits_in
digits_on n x h = rw (le-ltb x BASE h, digits_in)

-- Any n above the number gives the same digits.
same_digits : (n m x : ℕ) → x < n → x < m → digits_in n x ≡ digits_in m x
same_digits zero m x h k = absurd (omega arith)
same_digits (suc n) zero x h k = absurd (omega arith)
same_digits (suc n) (suc m) x h k = go (ltb x BASE) refl (λ over. same_digits n m (x / BASE) (omega arith) (omega arith))
  where
    go : (t : Bool) → ltb x BASE ≡ t → (BASE ≤ x → digits_in n (x / BASE) ≡ digits_in m (x / BASE))
        → digits_in (suc n) x ≡ digits_in (suc m) x
    go true e rest = let h = ltb-true x BASE e in digits_end n x h ∙ sym (digits_end m x h)
    go false e rest = let h = ltb-false x BASE e in
        digits_on n x h ∙ ap (λ ds. ds ++ ((ZERO + x % BASE) ∷ [])) (rest h) ∙ sym (digits_on m x h)

pub decimal_digit : (x : ℕ) → x < BASE → decimal x ≡ (ZERO + x) ∷ []
unfolding decimal
decimal_digit x h = digits_end x x h

pub decimal_more : (x : ℕ) → BASE ≤ x → decimal x ≡ decimal (x / BASE) ++ ((ZERO + x % BASE) ∷ [])
unfolding decimal
decimal_more x h =
    digits_on x x h
    ∙ ap (λ ds. ds ++ ((ZERO + x % BASE) ∷ [])) (same_digits x (suc (x / BASE)) (x / BASE) (omega arith) (omega arith))

pub length_digit : (x : ℕ) → x < BASE → length (decimal x) ≡ 1
length_digit x h = ap length (decimal_digit x h)

pub length_more : (x : ℕ) → BASE ≤ x → length (decimal x) ≡ length (decimal (x / BASE)) + 1
length_more x h = ap length (decimal_more x h) ∙ length-append (decimal (x / BASE)) ((ZERO + x % BASE) ∷ [])

-- HOW LONG. A number below 10^(k+1) has at most k + 1 digits.
pub decimal-length : (k x : ℕ) → x < BASE ^ suc k → length (decimal x) ≤ suc k
decimal-length zero x h = omega (arith, length_digit x h)
decimal-length (suc k) x h = go (ltb x BASE) refl (λ below. decimal-length k (x / BASE) below)
  where
    go : (t : Bool) → ltb x BASE ≡ t → (x / BASE < BASE ^ suc k → length (decimal (x / BASE)) ≤ suc k)
        → length (decimal x) ≤ suc (suc k)
    go true e rest = omega (arith, length_digit x (ltb-true x BASE e))
    go false e rest =
        omega (arith, length_more x (ltb-false x BASE e), rest (omega (arith, pow-succ' BASE (suc k))))

-- LINES of two journals, one behind the other: the journal may be emptied between calls.
pub lines_append : (ts us : List PrintedLine) → lines_text (ts ++ us) ≡ lines_text ts ++ lines_text us
unfolding lines_text
lines_append [] us = refl
lines_append (t ∷ ts) us =
    ap (λ bs. line_text t ++ bs) (lines_append ts us) ∙ sym (append_assoc (line_text t) (lines_text ts) (lines_text us))
