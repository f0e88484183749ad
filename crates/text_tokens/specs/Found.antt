-- Marks found by their spelling: the first of a list of keys, and words packed into one number each. Assumes nothing.
use Rattle.std.specs.Prelude.{ℕ, suc, ◌+◌, ◌*◌, ◌≤◌, ◌<◌, ◌≡◌, refl, List, [], ◌∷◌, map, Bool, true, false, ◌&&◌, ◌||◌, eqb, leb, length, if◌then◌else◌}
use Rattle.std.proofs.Common.{arith, sym, ◌∙◌, ap, eqb-true, eq-eqb, ne_eqb, le-leb, leb-true}
use Rattle.std.proofs.lemmas.Bool.{eqb-false, lt-leb}
use Rattle.semantics.specs.Words.{all, any, first_at}
use Rattle.text_semantics.specs.Numbers as No
use Rattle.text_semantics.specs.Token as K
use Rattle.text_semantics.specs.Token.{name, number, mark, bad}
use Rattle.text_semantics.specs.Lexing.{LOWER, HIGHER, keywords, is_word, is_digit, same_bytes, value_of, word_of}
use Rattle.text_tokens.specs.Next.{NUMBER, NAME, BAD, part, token_of}
use Rattle.text_tokens.specs.Parts.{BYTE, pack, found, kind_in, word_kind, single_of, spellings, SPELLED, longest_keyword}
use Rattle.text_tokens.specs.Tests.{and_left, and_right, word_byte}

pub first_in : {A : Type 0} (f : A → Bool) (xs : List A) → any f xs ≡ true → first_at f xs < length xs
first_in f [] e = absurd (let z : ◌≡◌ {A = ℕ} 0 1 = cc in omega arith)
first_in f (x ∷ xs) e = there (f x) e (first_in f xs) where
  there : (t : Bool) → (t || any f xs) ≡ true → (any f xs ≡ true → first_at f xs < length xs)
      → (if t then 0 else suc (first_at f xs)) < suc (length xs)
  there true g h = omega arith
  there false g h = omega (arith, h g)

-- The key at hand is x, or x is looked for behind it.
module _ (from other k x : ℕ) (keys : List ℕ) where
  pub found_here : eqb x k ≡ true → found from other (k ∷ keys) x ≡ from
  found_here e = let n : from + 0 ≡ from = omega arith in rw (e, n)

  pub found_later : eqb x k ≡ false → found from other (k ∷ keys) x ≡ found (from + 1) other keys x
  found_later e =
      let n : from + suc (first_at (eqb x) keys) ≡ from + 1 + first_at (eqb x) keys = omega arith in
      rw (e, n)

-- TOKENS of a kind.
pub token_mark : (k v : ℕ) (w : List ℕ) → k < NUMBER → token_of k v w ≡ mark k
token_mark k v w h = rw (ne_eqb k NUMBER (λ q. omega arith), ne_eqb k NAME (λ q. omega arith), ne_eqb k BAD (λ q. omega arith))

pub token_found : (keys : List ℕ) (b : ℕ) (t : Bool) → any (eqb b) keys ≡ t → K.LP + length keys ≤ NUMBER
    → (if t then mark (K.LP + first_at (eqb b) keys) else bad) ≡ token_of (found K.LP BAD keys b) 0 []
token_found keys b true e h = rw e (sym (token_mark _ 0 [] (omega (arith, first_in (eqb b) keys e))))
token_found keys b false e h = rw e

-- WORDS AND KEYS. No two words are packed to the same key.
pair : (x y p q : ℕ) (t u : Bool) → x < BYTE → y < BYTE → eqb x y ≡ t → eqb p q ≡ u
    → eqb (x + BYTE * p) (y + BYTE * q) ≡ (t && u)
pair x y p q true true hx hy e f =
    let i = eqb-true x y e in
    let j = eqb-true p q f in
    eq-eqb (x + BYTE * p) (y + BYTE * q) (omega arith)
pair x y p q true false hx hy e f =
    let i = eqb-true x y e in
    ne_eqb (x + BYTE * p) (y + BYTE * q) (λ s. eqb-false p q f (omega arith))
pair x y p q false u hx hy e f = ne_eqb (x + BYTE * p) (y + BYTE * q) (λ s. eqb-false x y e (omega arith))

pack_same : (w k : List ℕ) → all is_word w ≡ true → all is_word k ≡ true → eqb (pack w) (pack k) ≡ same_bytes w k
pack_same [] [] e f = refl
pack_same [] (y ∷ ys) e f =
    let h = word_byte y (and_left (is_word y) (all is_word ys) f) in
    ne_eqb 0 (y + BYTE * pack ys) (λ s. omega arith)
pack_same (x ∷ xs) [] e f =
    let h = word_byte x (and_left (is_word x) (all is_word xs) e) in
    ne_eqb (x + BYTE * pack xs) 0 (λ s. omega arith)
pack_same (x ∷ xs) (y ∷ ys) e f =
    let h = word_byte x (and_left (is_word x) (all is_word xs) e) in
    let k = word_byte y (and_left (is_word y) (all is_word ys) f) in
    let i = pack_same xs ys (and_right (is_word x) (all is_word xs) e) (and_right (is_word y) (all is_word ys) f) in
    pair x y (pack xs) (pack ys) (eqb x y) (same_bytes xs ys) (omega arith) (omega arith) refl i

module _ (w : List ℕ) (e : all is_word w ≡ true) where
  any_packed : (ks : List (List ℕ)) → all (all is_word) ks ≡ true → any (eqb (pack w)) (map pack ks) ≡ any (same_bytes w) ks
  any_packed [] f = refl
  any_packed (k ∷ ks) f =
      rw (
        pack_same w k e (and_left (all is_word k) (all (all is_word) ks) f),
        any_packed ks (and_right (all is_word k) (all (all is_word) ks) f),
      )

  first_packed : (ks : List (List ℕ)) → all (all is_word) ks ≡ true
      → first_at (eqb (pack w)) (map pack ks) ≡ first_at (same_bytes w) ks
  first_packed [] f = refl
  first_packed (k ∷ ks) f =
      rw (
        pack_same w k e (and_left (all is_word k) (all (all is_word) ks) f),
        first_packed ks (and_right (all is_word k) (all (all is_word) ks) f),
      )

  found_packed : (other : ℕ) (ks : List (List ℕ)) → all (all is_word) ks ≡ true
      → found 0 other (map pack ks) (pack w) ≡ (if any (same_bytes w) ks then first_at (same_bytes w) ks else other)
  found_packed other ks f =
      let z : 0 + first_at (same_bytes w) ks ≡ first_at (same_bytes w) ks = omega arith in
      rw (any_packed ks f, first_packed ks f, z)

-- A word longer than each of the keywords is none of them.
same_length : (w k : List ℕ) → same_bytes w k ≡ true → length w ≡ length k
same_length [] [] e = refl
same_length [] (y ∷ ys) e = absurd (let z : ◌≡◌ {A = ℕ} 0 1 = cc in omega arith)
same_length (x ∷ xs) [] e = absurd (let z : ◌≡◌ {A = ℕ} 0 1 = cc in omega arith)
same_length (x ∷ xs) (y ∷ ys) e = ap suc (same_length xs ys (and_right (eqb x y) (same_bytes xs ys) e))

none_long : (n : ℕ) (w : List ℕ) (ks : List (List ℕ)) → all (λ k. leb (length k) n) ks ≡ true → n < length w
    → any (same_bytes w) ks ≡ false
none_long n w [] e h = refl
none_long n w (k ∷ ks) e h =
    rw (none_long n w ks (and_right (leb (length k) n) _ e) h) (neither (same_bytes w k) refl) where
      neither : (t : Bool) → same_bytes w k ≡ t → (t || false) ≡ false
      neither true s =
          absurd (omega (arith, same_length w k s, leb-true (length k) n (and_left (leb (length k) n) _ e)))
      neither false s = refl

-- THE KIND OF A WORD: one that is too long for a keyword, and any other.
kind_long : (w : List ℕ) → longest_keyword < length w → word_kind w ≡ (if leb (length w) No.longest_name then NAME else BAD)
unfolding word_kind
kind_long w h =
    ap (λ t. if t then first_at (same_bytes w) keywords else if leb (length w) No.longest_name then NAME else BAD)
    (none_long longest_keyword w keywords refl h)

pub kind_name : (w : List ℕ) → longest_keyword < length w → length w ≤ No.longest_name → word_kind w ≡ NAME
kind_name w h l = kind_long w h ∙ rw (le-leb (length w) No.longest_name l)

pub kind_bad : (w : List ℕ) → No.longest_name < length w → word_kind w ≡ BAD
kind_bad w h = kind_long w (omega arith) ∙ rw (lt-leb (length w) No.longest_name h)

pub kind_short : (w : List ℕ) → all is_word w ≡ true → length w ≤ No.longest_name
    → found 0 NAME (part 0 K.LP spellings) (pack w) ≡ word_kind w
unfolding word_kind spellings
kind_short w e h =
    found_packed w e NAME keywords refl
    ∙ ap (λ t. if any (same_bytes w) keywords then first_at (same_bytes w) keywords else if t then NAME else BAD)
    (sym (le-leb (length w) No.longest_name h))

-- What is known of such a kind, and that it makes the token t.
pub record Worded (t : K.Token) (w : List ℕ) (k : ℕ) : Type 0 where
  pub token : t ≡ token_of k 0 w
  pub no_end : k ≡ K.END → ⊥
  pub known : k ≤ BAD
  pub short : k ≡ NAME → length w ≤ No.longest_name

module _ (ks : List (List ℕ)) (w : List ℕ) (few : length ks ≤ K.LP) where
  abbrev token_in : K.Token
  token_in =
      if any (same_bytes w) ks then mark (first_at (same_bytes w) ks) else if leb (length w) No.longest_name then name w else bad

  kind_in_lem : (t u : Bool) → any (same_bytes w) ks ≡ t → leb (length w) No.longest_name ≡ u → Worded token_in w (kind_in ks w)
  kind_in_lem true u e f =
      let m = first_in (same_bytes w) ks e in
      rw e (record {
        token = sym (token_mark (first_at (same_bytes w) ks) 0 w (omega arith));
        no_end = λ q. omega arith;
        known = omega arith;
        short = λ q. omega arith;
      })
  kind_in_lem false true e f =
      rw (e, f) (record {
        token = refl;
        no_end = λ q. omega arith;
        known = omega arith;
        short = λ q. leb-true (length w) No.longest_name f;
      })
  kind_in_lem false false e f =
      rw (e, f) (record {
        token = refl;
        no_end = λ q. omega arith;
        known = omega arith;
        short = λ q. omega arith;
      })

pub worded : (w : List ℕ) → all is_digit w ≡ false → Worded (word_of w) w (word_kind w)
unfolding word_kind word_of
worded w e =
    let k = kind_in_lem keywords w (omega arith) (any (same_bytes w) keywords) (leb (length w) No.longest_name) refl refl in
    record {
      token = ap (λ t. if t then number (value_of 0 w) else token_in keywords w (omega arith)) e ∙ k.token;
      no_end = k.no_end;
      known = k.known;
      short = k.short;
    }

-- THE KIND OF A BYTE that begins no longer sign.
pub single_found : (b : ℕ) → (b ≡ LOWER → ⊥) → (b ≡ HIGHER → ⊥) → found K.LP BAD (part K.LP SPELLED spellings) b ≡ single_of b
unfolding single_of spellings
single_found b l h = rw (ne_eqb b LOWER l, ne_eqb b HIGHER h)
