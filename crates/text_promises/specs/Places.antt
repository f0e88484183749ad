-- Tokens and their places: the end of a text is its last token, at its length, and the place of each lies in the text.
-- Assumes nothing.
use Rattle.std.specs.Prelude.{ℕ, zero, suc, ◌+◌, ◌≤◌, ◌<◌, ◌≡◌, refl, List, [], ◌∷◌, ◌++◌, map, eqb, length, take, get_or, if◌then◌else◌}
use Rattle.std.proofs.Common.{arith, sym, ◌∙◌, ap, append_assoc, take_at}
use Rattle.std.proofs.lemmas.List.{length-map}
use Rattle.promises.specs.Laws.{if_has, AllOf, all_append, all_map, all_get, all_mapped}
use Rattle.text_semantics.specs.Token as K
use Rattle.text_semantics.specs.Token.{Token, name, number, mark, bad}
use Rattle.text_semantics.specs.Lexing.{Placed, Begun, clear, comment, word, colon, lower, higher, Fed, put, fresh, feed}
use Rattle.text_semantics.specs.Lexing.{flush, word_of, sign_of, is_word, is_break, is_blank, tokens_from, tokens, HASH, COLON}
use Rattle.text_semantics.specs.Lexing.{LOWER, HIGHER, EQUALS}
use Rattle.text_semantics.specs.Grammar.{Name}
use Rattle.text_semantics.specs.Answer.{place_at, is_name, names_of}
use Rattle.text_promises.specs.Spellings.{name_in, names_in}

-- TOKENS without their places.
abbrev pub kinds : List Placed → List Token
kinds ts = map (λ t. t.token) ts

pub kinds-append : (ts us : List Placed) → kinds (ts ++ us) ≡ kinds ts ++ kinds us
kinds-append [] us = refl
kinds-append (t ∷ ts) us = ap (λ x. t.token ∷ x) (kinds-append ts us)

pub kinds-length : (ts : List Placed) → length (kinds ts) ≡ length ts
kinds-length ts = length-map ts (λ t. t.token)

pub kinds_before : (ts us : List Placed) (n : ℕ) → length ts ≡ n → take n (kinds (ts ++ us)) ≡ kinds ts
kinds_before ts us n e = ap (take n) (kinds-append ts us) ∙ take_at (kinds ts) (kinds us) n (kinds-length ts ∙ e)

-- THE NAMES among tokens: how many there are, and where each stands.
name_or_not : (k : Token) (t : Placed) (ts : List Placed) (xs : List Name) → length ts ≡ length xs
    → length (if is_name k then t ∷ ts else ts) ≡ length (name_in k ++ xs)
name_or_not (name x) t ts xs e = ap suc e
name_or_not (number n) t ts xs e = e
name_or_not (mark k) t ts xs e = e
name_or_not bad t ts xs e = e

pub kinds_names : (ts : List Placed) → length (names_of ts) ≡ length (names_in (kinds ts))
kinds_names [] = refl
kinds_names (t ∷ ts) = name_or_not t.token t (names_of ts) (names_in (kinds ts)) (kinds_names ts)

-- The name with so many names before it is a token.
pub record Stands (ts : List Placed) (j : ℕ) : Type 0 where
  pub at : ℕ
  pub there : at < length ts
  pub place : place_at ts at ≡ place_at (names_of ts) j
  pub token : get_or (kinds ts) at bad ≡ name (get_or (names_in (kinds ts)) j [])
  pub so_many : length (names_in (take at (kinds ts))) ≡ j

stands_next : (k : Token) (p : ℕ) (ts : List Placed) (j : ℕ) → ((i : ℕ) → i < length (names_of ts) → Stands ts i)
    → let t : Placed = record { token = k; place = p } in j < length (if is_name k then t ∷ names_of ts else names_of ts)
    → Stands (t ∷ ts) j
stands_next (name x) p ts zero h l = record { at = 0; there = omega arith; place = refl; token = refl; so_many = refl }
stands_next (name x) p ts (suc j) h l =
    let s = h j (omega arith) in
    record {
      at = suc s.at;
      there = omega (arith, s.there);
      place = s.place;
      token = s.token;
      so_many = ap suc s.so_many;
    }
stands_next (number n) p ts j h l =
    let s = h j l in
    record { at = suc s.at; there = omega (arith, s.there); place = s.place; token = s.token; so_many = s.so_many }
stands_next (mark k) p ts j h l =
    let s = h j l in
    record { at = suc s.at; there = omega (arith, s.there); place = s.place; token = s.token; so_many = s.so_many }
stands_next bad p ts j h l =
    let s = h j l in
    record { at = suc s.at; there = omega (arith, s.there); place = s.place; token = s.token; so_many = s.so_many }

pub stands : (ts : List Placed) (j : ℕ) → j < length (names_of ts) → Stands ts j
stands [] j l = absurd (omega arith)
stands (t ∷ ts) j l = stands_next t.token t.place ts j (λ i m. stands ts i m) l

-- FROM BYTES, one step each.
next : (p : ℕ) (m : Begun) (b : ℕ) (bs : List ℕ)
    → tokens_from p m (b ∷ bs) ≡ (feed m p b).done ++ tokens_from (suc p) (feed m p b).begun bs
unfolding tokens_from
next p m b bs = refl

last : (p : ℕ) (m : Begun) → tokens_from p m [] ≡ flush m ++ put (mark K.END) p
unfolding tokens_from
last p m = refl

-- THE END IS LAST.
abbrev Ends : List Placed → ℕ → Type 0
Ends ts p = (us : List Placed) × (ts ≡ us ++ put (mark K.END) p)

from_ends : (p : ℕ) (m : Begun) (bs : List ℕ) (n : ℕ) → p + length bs ≡ n → Ends (tokens_from p m bs) n
from_ends p m [] n e =
    let same : p ≡ n = omega arith in (flush m, last p m ∙ ap (λ x. flush m ++ put (mark K.END) x) same)
from_ends p m (b ∷ bs) n e =
    let f : Fed = feed m p b in
    let ih = from_ends (suc p) f.begun bs n (omega arith) in (
      f.done ++ ih.0,
      next p m b bs ∙ ap (λ (x : List Placed). f.done ++ x) ih.1 ∙ sym (append_assoc f.done ih.0 _),
    )

-- The tokens of a text are some, and then the end at its length.
pub end_there : (bs : List ℕ) → (us : List Placed) × (tokens bs ≡ us ++ put (mark K.END) (length bs))
unfolding tokens
end_there bs = from_ends 0 clear bs (length bs) (omega arith)

-- PLACES.
pub place_there : (ts : List Placed) (k : Placed) (ks : List Placed) → place_at (ts ++ k ∷ ks) (length ts) ≡ k.place
place_there [] k ks = refl
place_there (t ∷ ts) k ks = place_there ts k ks

pub place_before : (ts ks : List Placed) (i : ℕ) → i < length ts → place_at (ts ++ ks) i ≡ place_at ts i
place_before [] ks i l = absurd (omega arith)
place_before (t ∷ ts) ks zero l = refl
place_before (t ∷ ts) ks (suc i) l = place_before ts ks i (omega arith)

abbrev pub UpTo : ℕ → List Placed → Type 0
UpTo n ts = AllOf (λ t. t.place ≤ n) ts

pub place_up_to : (n : ℕ) (ts : List Placed) (i : ℕ) → UpTo n ts → place_at ts i ≤ n
place_up_to n ts i h =
    all_get (λ p. p ≤ n) (map (λ t. t.place) ts) i 0
    (all_mapped (λ t. t.place ≤ n) (λ p. p ≤ n) (λ t. t.place) (λ t x. x) ts h) (omega arith)

pub names_up_to : (n : ℕ) (ts : List Placed) → UpTo n ts → UpTo n (names_of ts)
names_up_to n [] h = tt
names_up_to n (t ∷ ts) h =
    let ih = names_up_to n ts h.1 in if_has (UpTo n) (is_name t.token) (λ e. (h.0, ih)) (λ e. ih)

abbrev BegunUpTo : ℕ → Begun → Type 0
BegunUpTo n clear = Unit {0}
BegunUpTo n comment = Unit {0}
BegunUpTo n (word q w) = q ≤ n
BegunUpTo n (colon q) = q ≤ n
BegunUpTo n (lower q) = q ≤ n
BegunUpTo n (higher q) = q ≤ n

abbrev FedUpTo : ℕ → Fed → Type 0
FedUpTo n f = UpTo n f.done × BegunUpTo n f.begun

up_to : (m n : ℕ) (ts : List Placed) → m ≤ n → UpTo m ts → UpTo n ts
up_to m n ts l h = all_map (λ t. t.place ≤ m) (λ t. t.place ≤ n) (λ t x. omega arith) ts h

begun_up_to : (m n : ℕ) (b : Begun) → m ≤ n → BegunUpTo m b → BegunUpTo n b
begun_up_to m n clear l h = tt
begun_up_to m n comment l h = tt
begun_up_to m n (word q w) l h = omega arith
begun_up_to m n (colon q) l h = omega arith
begun_up_to m n (lower q) l h = omega arith
begun_up_to m n (higher q) l h = omega arith

fresh_up_to : (ts : List Placed) (p b : ℕ) → UpTo p ts → FedUpTo p (fresh ts p b)
fresh_up_to ts p b h =
    let here : p ≤ p = omega arith in
    if_has (FedUpTo p) (is_blank b) (λ e. (h, tt)) λ e.
    if_has (FedUpTo p) (eqb b HASH) (λ e. (h, tt)) λ e.
    if_has (FedUpTo p) (is_word b) (λ e. (h, here)) λ e.
    if_has (FedUpTo p) (eqb b COLON) (λ e. (h, here)) λ e.
    if_has (FedUpTo p) (eqb b LOWER) (λ e. (h, here)) λ e.
    if_has (FedUpTo p) (eqb b HIGHER) (λ e. (h, here)) λ e.
    (all_append (λ t. t.place ≤ p) ts (put (sign_of b) p) h (here, tt), tt)

feed_up_to : (m : Begun) (p b : ℕ) → BegunUpTo p m → FedUpTo p (feed m p b)
feed_up_to clear p b h = fresh_up_to [] p b tt
feed_up_to comment p b h = if_has (FedUpTo p) (is_break b) (λ e. (tt, tt)) (λ e. (tt, tt))
feed_up_to (word q w) p b h = if_has (FedUpTo p) (is_word b) (λ e. (tt, h)) (λ e. fresh_up_to (put (word_of w) q) p b (h, tt))
feed_up_to (colon q) p b h =
    if_has (FedUpTo p) (eqb b EQUALS) (λ e. ((h, tt), tt)) (λ e. fresh_up_to (put bad q) p b (h, tt))
feed_up_to (lower q) p b h =
    if_has (FedUpTo p) (eqb b EQUALS) (λ e. ((h, tt), tt)) λ e.
    if_has (FedUpTo p) (eqb b HIGHER) (λ e. ((h, tt), tt)) (λ e. fresh_up_to (put (mark K.LT) q) p b (h, tt))
feed_up_to (higher q) p b h =
    if_has (FedUpTo p) (eqb b EQUALS) (λ e. ((h, tt), tt)) (λ e. fresh_up_to (put (mark K.GT) q) p b (h, tt))

flush_up_to : (m : Begun) (p : ℕ) → BegunUpTo p m → UpTo p (flush m)
flush_up_to clear p h = tt
flush_up_to comment p h = tt
flush_up_to (word q w) p h = (h, tt)
flush_up_to (colon q) p h = (h, tt)
flush_up_to (lower q) p h = (h, tt)
flush_up_to (higher q) p h = (h, tt)

from_up_to : (p : ℕ) (m : Begun) (bs : List ℕ) (n : ℕ) → p + length bs ≤ n → BegunUpTo p m → UpTo n (tokens_from p m bs)
from_up_to p m [] n l h =
    let k : p ≤ n = omega arith in
    rw (last p m) (all_append (λ t. t.place ≤ n) (flush m) (put (mark K.END) p)
    (up_to p n (flush m) k (flush_up_to m p h)) (k, tt))
from_up_to p m (b ∷ bs) n l h =
    let f : Fed = feed m p b in
    let g : FedUpTo p f = feed_up_to m p b h in
    let ih : UpTo n (tokens_from (suc p) f.begun bs) =
    from_up_to (suc p) f.begun bs n (omega arith) (begun_up_to p (suc p) f.begun (omega arith) g.1) in
    rw (next p m b bs) (all_append (λ t. t.place ≤ n) f.done (tokens_from (suc p) f.begun bs)
    (up_to p n f.done (omega arith) g.0) ih)

-- The place of each token lies in the text.
pub in_the_text : (bs : List ℕ) → UpTo (length bs) (tokens bs)
unfolding tokens
in_the_text bs = from_up_to 0 clear bs (length bs) (omega arith) tt
