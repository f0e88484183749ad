-- The definition of the tokens, token by token: what stands before a token, a word, a sign. Assumes nothing.
use Rattle.std.specs.Prelude.{ℕ, suc, ◌+◌, ◌≡◌, List, [], ◌∷◌, ◌++◌, Bool, true, false, not, ◌||◌, eqb, length, drop, get_or, ◌⊎◌, if◌then◌else◌}
use Rattle.std.proofs.Common.{arith, sym, ◌∙◌, ap, append-nil, append_assoc, eqb-true, inl, inr}
use Rattle.std.proofs.Math.Path.{refl}
use Rattle.semantics.specs.Words.{all, any}
use Rattle.text_semantics.specs.Token as K
use Rattle.text_semantics.specs.Token.{mark, bad}
use Rattle.text_semantics.specs.Lexing.{HASH, COLON, LOWER, EQUALS, HIGHER, signs, is_word, is_break, is_blank, word_of, sign_of}
use Rattle.text_semantics.specs.Lexing.{Placed, put, Begun, clear, comment, word, colon, lower, higher, Fed, fresh, feed, flush}
use Rattle.text_semantics.specs.Lexing.{tokens_from}
use Rattle.text_tokens.specs.Next.{BAD, solid, token_of}
use Rattle.text_tokens.specs.Parts.{passes, comments, double_of, single_of}
use Rattle.text_tokens.specs.Tests.{if_two, and_left, and_right, word_solid}
use Rattle.text_tokens.specs.Found.{token_found}

-- Where the first of some tokens stands.
abbrev pub first_place : List Placed → ℕ
first_place [] = 0
first_place (t ∷ ts) = t.place

-- What follows when the byte at p has been fed.
abbrev on : ℕ → List ℕ → Fed → List Placed
on p bs f = f.done ++ tokens_from (suc p) f.begun bs

fed : (p : ℕ) (m : Begun) (b : ℕ) (bs : List ℕ) → tokens_from p m (b ∷ bs) ≡ on p bs (feed m p b)
unfolding tokens_from
fed p m b bs = refl

on_else : (p : ℕ) (bs : List ℕ) (t : Bool) (x y : Fed) → t ≡ false → on p bs (if t then x else y) ≡ on p bs y
on_else p bs t x y e = ap (λ u. on p bs (if u then x else y)) e

pub at_end : (p : ℕ) (m : Begun) → tokens_from p m [] ≡ flush m ++ put (mark K.END) p
unfolding tokens_from
at_end p m = refl

-- A BYTE THAT BEGINS ANEW behind the tokens ts.
abbrev Behind : List Placed → Fed → Fed → Type 0
Behind ts x y = (x.done ≡ ts ++ y.done) × (x.begun ≡ y.begun)

fresh_behind : (ts : List Placed) (p b : ℕ) → Behind ts (fresh ts p b) (fresh [] p b)
fresh_behind ts p b =
    let none : ts ≡ ts ++ [] = sym (append-nil ts) in
    if_two (Behind ts) (is_blank b) (none, refl)
    (if_two (Behind ts) (eqb b HASH) (none, refl)
    (if_two (Behind ts) (is_word b) (none, refl)
    (if_two (Behind ts) (eqb b COLON) (none, refl)
    (if_two (Behind ts) (eqb b LOWER) (none, refl)
    (if_two (Behind ts) (eqb b HIGHER) (none, refl) (refl, refl))))))

anew : (ts : List Placed) (p b : ℕ) (bs : List ℕ) → on p bs (fresh ts p b) ≡ ts ++ tokens_from p clear (b ∷ bs)
anew ts p b bs =
    let h = fresh_behind ts p b in
    rw (fed p clear b bs, h.0, h.1) (append_assoc ts _ _)

-- BLANKS AND COMMENTS.
abbrev pub begun : Bool → Begun
begun true = comment
begun false = clear

inside : (p : ℕ) (bs : List ℕ) (t : Bool)
    → on p bs (if t then record { done = []; begun = clear } else record { done = []; begun = comment })
    ≡ tokens_from (suc p) (begun (not t)) bs
inside p bs true = refl
inside p bs false = refl

outside : (p b : ℕ) (bs : List ℕ) (t : Bool) → eqb b HASH ≡ t → (is_blank b || t) ≡ true
    → tokens_from p clear (b ∷ bs) ≡ tokens_from (suc p) (begun t) bs
outside p b bs true e h = rw (eqb-true b HASH e) (fed p clear HASH bs)
outside p b bs false e h = fed p clear b bs ∙ rw (blank (is_blank b) h) where
  blank : (t : Bool) → (t || false) ≡ true → t ≡ true
  blank true h = refl
  blank false h = h

pub passes_on : (p : ℕ) (c : Bool) (b : ℕ) (bs : List ℕ) → passes c b ≡ true
    → tokens_from p (begun c) (b ∷ bs) ≡ tokens_from (suc p) (begun (comments c b)) bs
passes_on p true b bs h = fed p comment b bs ∙ inside p bs (is_break b)
passes_on p false b bs h = outside p b bs (eqb b HASH) refl h

pub not_passed : (c : Bool) (b : ℕ) → passes c b ≡ false → (c ≡ false) × (solid b ≡ true)
not_passed true b e = (e, absurd (let z : ◌≡◌ {A = ℕ} 0 1 = cc in omega arith))
not_passed false b e = (refl, rw e)

pub ends_clear : (p : ℕ) (c : Bool) → tokens_from p (begun c) [] ≡ tokens_from p clear []
ends_clear p true = at_end p comment ∙ sym (at_end p clear)
ends_clear p false = refl

-- WORDS. Behind the end get_or gives 0, which is in no word.
solid_blank : (t u : Bool) → not (t || u) ≡ true → (t ≡ false) × (u ≡ false)
solid_blank true u e = (sym e, absurd (let z : ◌≡◌ {A = ℕ} 0 1 = cc in omega arith))
solid_blank false true e = (refl, sym e)
solid_blank false false e = (refl, refl)

pub begins_word : (p b : ℕ) (bs : List ℕ) → is_word b ≡ true
    → tokens_from p clear (b ∷ bs) ≡ tokens_from (suc p) (word p (b ∷ [])) bs
begins_word p b bs e =
    let s = solid_blank (is_blank b) (eqb b HASH) (word_solid b e) in
    fed p clear b bs ∙ rw (s.0, s.1, e)

runs : (w : List ℕ) (p q : ℕ) (v bs : List ℕ) → all is_word w ≡ true
    → tokens_from p (word q v) (w ++ bs) ≡ tokens_from (p + length w) (word q (v ++ w)) bs
runs [] p q v bs e = let n : p + 0 ≡ p = omega arith in rw (append-nil v, n)
runs (b ∷ w) p q v bs e =
    let n : suc p + length w ≡ p + suc (length w) = omega arith in
    fed p (word q v) b (w ++ bs)
    ∙ rw (and_left (is_word b) (all is_word w) e)
    (runs w (suc p) q (v ++ (b ∷ [])) bs (and_right (is_word b) (all is_word w) e)
    ∙ rw (n, append_assoc v (b ∷ []) w))

stops : (p q : ℕ) (w bs : List ℕ) → is_word (get_or bs 0 0) ≡ false
    → tokens_from p (word q w) bs ≡ put (word_of w) q ++ tokens_from p clear bs
stops p q w [] e = rw (at_end p (word q w), at_end p clear)
stops p q w (b ∷ bs) e = fed p (word q w) b bs ∙ on_else p bs (is_word b) _ _ e ∙ anew (put (word_of w) q) p b bs

-- Where it begins.
pub word_first : (bs : List ℕ) (p q : ℕ) (w : List ℕ) → first_place (tokens_from p (word q w) bs) ≡ q
word_first [] p q w = ap first_place (at_end p (word q w))
word_first (b ∷ bs) p q w = goes (is_word b) refl (word_first bs (suc p) q (w ++ (b ∷ []))) where
  goes : (t : Bool) → is_word b ≡ t → first_place (tokens_from (suc p) (word q (w ++ (b ∷ []))) bs) ≡ q
      → first_place (tokens_from p (word q w) (b ∷ bs)) ≡ q
  goes true e h = ap first_place (fed p (word q w) b bs) ∙ rw e h
  goes false e h = ap first_place (stops p q w (b ∷ bs) e)

pub word_is : (b : ℕ) (w : List ℕ) (p : ℕ) (bs : List ℕ) → all is_word (b ∷ w) ≡ true → is_word (get_or bs 0 0) ≡ false
    → tokens_from p clear ((b ∷ w) ++ bs) ≡ put (word_of (b ∷ w)) p ++ tokens_from (p + suc (length w)) clear bs
word_is b w p bs e s =
    let n : suc p + length w ≡ p + suc (length w) = omega arith in
    begins_word p b (w ++ bs) (and_left (is_word b) (all is_word w) e)
    ∙ runs w (suc p) p (b ∷ []) bs (and_right (is_word b) (all is_word w) e)
    ∙ stops (suc p + length w) p (b ∷ w) bs s ∙ rw n

-- SIGNS. The token at p, and what follows it.
abbrev pub Signed : ℕ → ℕ → List ℕ → Type 0
Signed p b bs = tokens_from p clear (b ∷ bs)
    ≡ (if eqb (double_of b (get_or bs 0 0)) BAD
    then put (token_of (single_of b) 0 []) p ++ tokens_from (suc p) clear bs
    else put (mark (double_of b (get_or bs 0 0))) p ++ tokens_from (suc (suc p)) clear (drop 1 bs))

colons : (p c : ℕ) (bs : List ℕ) (t : Bool) → eqb c EQUALS ≡ t → Signed p COLON (c ∷ bs)
unfolding double_of single_of
colons p c bs true e = fed p clear COLON (c ∷ bs) ∙ fed (suc p) (colon p) c bs ∙ rw e
colons p c bs false e = fed p clear COLON (c ∷ bs) ∙ fed (suc p) (colon p) c bs
    ∙ on_else (suc p) bs (eqb c EQUALS) _ _ e ∙ anew (put bad p) (suc p) c bs ∙ rw e

highers : (p c : ℕ) (bs : List ℕ) (t : Bool) → eqb c EQUALS ≡ t → Signed p HIGHER (c ∷ bs)
unfolding double_of single_of
highers p c bs true e = fed p clear HIGHER (c ∷ bs) ∙ fed (suc p) (higher p) c bs ∙ rw e
highers p c bs false e = fed p clear HIGHER (c ∷ bs) ∙ fed (suc p) (higher p) c bs
    ∙ on_else (suc p) bs (eqb c EQUALS) _ _ e ∙ anew (put (mark K.GT) p) (suc p) c bs ∙ rw e

lowers : (p c : ℕ) (bs : List ℕ) (t u : Bool) → eqb c EQUALS ≡ t → eqb c HIGHER ≡ u → Signed p LOWER (c ∷ bs)
unfolding double_of single_of
lowers p c bs true u e f = fed p clear LOWER (c ∷ bs) ∙ fed (suc p) (lower p) c bs ∙ rw e
lowers p c bs false true e f = fed p clear LOWER (c ∷ bs) ∙ fed (suc p) (lower p) c bs ∙ rw (e, f)
lowers p c bs false false e f = fed p clear LOWER (c ∷ bs) ∙ fed (suc p) (lower p) c bs
    ∙ on_else (suc p) bs (eqb c EQUALS) _ _ e ∙ on_else (suc p) bs (eqb c HIGHER) _ _ f
    ∙ anew (put (mark K.LT) p) (suc p) c bs ∙ rw (e, f)

-- A sign that may be longer is the text's last byte, or another byte follows.
longer : (p b : ℕ) (bs : List ℕ) → (b ≡ COLON) ⊎ ((b ≡ LOWER) ⊎ (b ≡ HIGHER)) → Signed p b bs
unfolding double_of single_of
longer p b [] (inl e) = rw (e, fed p clear COLON [], at_end (suc p) (colon p), at_end (suc p) clear)
longer p b [] (inr (inl e)) = rw (e, fed p clear LOWER [], at_end (suc p) (lower p), at_end (suc p) clear)
longer p b [] (inr (inr e)) = rw (e, fed p clear HIGHER [], at_end (suc p) (higher p), at_end (suc p) clear)
longer p b (c ∷ bs) (inl e) = rw e (colons p c bs (eqb c EQUALS) refl)
longer p b (c ∷ bs) (inr (inl e)) = rw e (lowers p c bs (eqb c EQUALS) (eqb c HIGHER) refl refl)
longer p b (c ∷ bs) (inr (inr e)) = rw e (highers p c bs (eqb c EQUALS) refl)

-- Any other byte.
module _ (b : ℕ) (c : eqb b COLON ≡ false) (l : eqb b LOWER ≡ false) (h : eqb b HIGHER ≡ false) where
  no_double : (x : ℕ) → double_of b x ≡ BAD
  unfolding double_of
  no_double x = rw (c, l, h)

  one_byte : sign_of b ≡ token_of (single_of b) 0 []
  unfolding sign_of single_of
  one_byte = rw (l, h) (token_found signs b (any (eqb b) signs) refl (omega arith))

  others : (p : ℕ) (bs : List ℕ) → solid b ≡ true → is_word b ≡ false → Signed p b bs
  others p bs s w =
      let blank = solid_blank (is_blank b) (eqb b HASH) s in
      rw (no_double (get_or bs 0 0))
      (fed p clear b bs ∙ on_else p bs (is_blank b) _ _ blank.0 ∙ on_else p bs (eqb b HASH) _ _ blank.1
      ∙ on_else p bs (is_word b) _ _ w ∙ on_else p bs (eqb b COLON) _ _ c ∙ on_else p bs (eqb b LOWER) _ _ l
      ∙ on_else p bs (eqb b HIGHER) _ _ h ∙ ap (λ t. put t p ++ tokens_from (suc p) clear bs) one_byte)

pub sign_is : (p b : ℕ) (bs : List ℕ) → solid b ≡ true → is_word b ≡ false → Signed p b bs
sign_is p b bs s w = by (eqb b COLON) (eqb b LOWER) (eqb b HIGHER) refl refl refl where
  by : (t u v : Bool) → eqb b COLON ≡ t → eqb b LOWER ≡ u → eqb b HIGHER ≡ v → Signed p b bs
  by true u v c l h = longer p b bs (inl (eqb-true b COLON c))
  by false true v c l h = longer p b bs (inr (inl (eqb-true b LOWER l)))
  by false false true c l h = longer p b bs (inr (inr (eqb-true b HIGHER h)))
  by false false false c l h = others b c l h p bs s w
