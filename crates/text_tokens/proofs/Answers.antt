-- From what the parts of `next` found to the next token. Assumes nothing.
use Prim.Native.Nat.{ℕ, suc, ◌+◌, ◌≤◌, ◌<◌}
use native.Mathlib.Numerals.{add-one, add-two}
use native.Mathlib.Omega.{arith}
use mathlib.Core.Path.{◌≡◌, refl, sym, ◌∙◌, ap}
use mathlib.Core.List.{List, [], ◌∷◌, ◌++◌}
use mathlib.Core.Bool.{Bool, true, false, ◌&&◌}
use mathlib.Core.Logic.{◌⊎◌, inl, inr, ⊎_elim}
use borrow.Author.Tests.{eqb-true, ne_eqb}
use lib.Dec.{eqb}
use lib.ListN.{length, drop, get_or, drop_of_length-le}
use lib.Seq.{drop-cons, drop-drop, get_or-drop}
use Rattle.semantics.specs.Words.{all, any}
use Rattle.text_semantics.specs.Token as K
use Rattle.text_semantics.specs.Token.{mark}
use Rattle.text_semantics.specs.Lexing.{COLON, LOWER, EQUALS, HIGHER, signs, is_word, word_of, clear, put, tokens_from}
use Rattle.text_tokens.specs.declared.Token.{Token}
use Rattle.text_tokens.specs.declared.Word.{Word}
use Rattle.text_tokens.specs.Next.{NUMBER, NAME, BAD, part, solid, token_of, Next}
use Rattle.text_tokens.specs.Parts.{Begins, WordAt, word_kind, double_of, single_of, Sign}
use Rattle.text_tokens.specs.Tests.{if_has, and_right, and_both, all_map, word_solid, inside}
use Rattle.text_tokens.specs.Tests.{part_first, part_length, part_rest, part_none, part_one, part_two}
use Rattle.text_tokens.specs.Found.{first_in, token_mark, worded}
use Rattle.text_tokens.specs.Steps.{at_end, word_is, Signed, sign_is}

-- BEHIND BLANKS AND COMMENTS.
module _ {bs : List ℕ} {at p : ℕ} (b : Begins bs at p) where
  pub further : {r : Token} → Next bs p r → Next bs at r
  further n = record {
    tokens = b.tokens ∙ n.tokens;
    from = omega (arith, b.from, n.from);
    whole = n.whole;
    last = n.last;
    room = n.room;
    known = n.known;
    short = n.short;
    plain = n.plain;
  }

  pub the_end : p ≡ length bs → Next bs at (record { kind = K.END; place = p; end = p; value = 0 })
  the_end e = record {
    tokens = b.tokens ∙ ap (tokens_from p clear) (drop_of_length-le bs {i = p} (omega arith)) ∙ at_end p clear;
    from = b.from;
    whole = rw (part_none bs p);
    last = λ q. (e, e);
    room = λ n. absurd (n refl);
    known = omega arith;
    short = λ q. omega arith;
    plain = λ n. refl;
  }

-- WORDS.
module _ {bs : List ℕ} {p : ℕ} {r : Word} (w : WordAt bs p r) (h : p < length bs) (e : is_word (get_or bs p 0) ≡ true) where
  some : p < r.end
  some =
      let n : p ≡ r.end → ⊥ = λ q.
      (let s : is_word (get_or bs p 0) ≡ false = rw q w.stops in let z : ◌≡◌ {A = ℕ} 0 1 = cc in omega arith) in
      omega (arith, w.from, n)

  whole_word : all solid (part p r.end bs) ≡ true
  whole_word = all_map is_word solid word_solid (part p r.end bs) w.run

  word_tokens : tokens_from p clear (drop p bs)
      ≡ put (word_of (part p r.end bs)) p ++ tokens_from r.end clear (drop r.end bs)
  word_tokens =
      let f = part_first bs p r.end some h in
      let z : r.end + 0 ≡ r.end = omega arith in
      let s : is_word (get_or (drop r.end bs) 0 0) ≡ false = rw (get_or-drop r.end bs 0 0, z) w.stops in
      let run : all is_word (get_or bs p 0 ∷ part (suc p) r.end bs) ≡ true = rw f at w.run in
      let n : p + suc (length (part (suc p) r.end bs)) ≡ r.end =
      omega (arith, some, part_length bs (suc p) r.end w.within) in
      ap (tokens_from p clear) (sym (part_rest bs p r.end w.from))
      ∙ rw f (word_is (get_or bs p 0) (part (suc p) r.end bs) p (drop r.end bs) run s ∙ rw n)

  pub number_next : r.digits ≡ true → Next bs p (record { kind = NUMBER; place = p; end = r.end; value = r.value })
  unfolding word_of
  number_next d = record {
    tokens = word_tokens ∙ rw (sym w.digits ∙ d, w.value);
    from = omega arith;
    whole = whole_word;
    last = λ q. absurd (omega arith);
    room = λ n. (some, w.within);
    known = omega arith;
    short = λ q. absurd (omega arith);
    plain = λ n. absurd (n refl);
  }

  pub word_next : (k : ℕ) → r.digits ≡ false → k ≡ word_kind (part p r.end bs)
      → Next bs p (record { kind = k; place = p; end = r.end; value = 0 })
  word_next k d q =
      let v = worded (part p r.end bs) (sym w.digits ∙ d) in
      rw q (record {
        tokens = word_tokens ∙ rw (v.token, ne_eqb (word_kind (part p r.end bs)) K.END v.no_end);
        from = omega arith;
        whole = whole_word;
        last = λ e. absurd (v.no_end e);
        room = λ n. (some, w.within);
        known = v.known;
        short = λ n. omega (arith, v.short n, part_length bs p r.end w.within, some);
        plain = λ n. refl;
      })

-- SIGNS. A sign's kind is a mark before the end, or it is no token.
abbrev Signs : ℕ → Type 0
Signs k = (k < K.END) ⊎ (k ≡ BAD)

single_known : (b : ℕ) → Signs (single_of b)
unfolding single_of
single_known b =
    if_has Signs (eqb b LOWER) (λ e. inl (omega arith))
    (λ e. if_has Signs (eqb b HIGHER) (λ f. inl (omega arith))
    (λ f. if_has Signs (any (eqb b) signs) (λ g. inl (omega (arith, first_in (eqb b) signs g))) (λ g. inr refl)))

-- A sign of two bytes ends with = or >.
abbrev Double : ℕ → ℕ → Type 0
Double c k = (k ≡ BAD → ⊥) → (k < K.END) × (EQUALS ≤ c) × (solid c ≡ true)

with_equals : (c k : ℕ) (t : Bool) → k < K.END → (t && eqb c EQUALS) ≡ true → Double c k
with_equals c k t l q n = let i = eqb-true c EQUALS (and_right t (eqb c EQUALS) q) in (l, omega arith, ap solid i)

with_higher : (c k : ℕ) (t : Bool) → k < K.END → (t && eqb c HIGHER) ≡ true → Double c k
with_higher c k t l q n = let i = eqb-true c HIGHER (and_right t (eqb c HIGHER) q) in (l, omega arith, ap solid i)

double_known : (b c : ℕ) → Double c (double_of b c)
unfolding double_of
double_known b c =
    if_has (Double c) (eqb b COLON && eqb c EQUALS) (with_equals c K.BECOMES (eqb b COLON) (omega arith))
    (λ e. if_has (Double c) (eqb b LOWER && eqb c EQUALS) (with_equals c K.LE (eqb b LOWER) (omega arith))
    (λ f. if_has (Double c) (eqb b LOWER && eqb c HIGHER) (with_higher c K.NE (eqb b LOWER) (omega arith))
    (λ g. if_has (Double c) (eqb b HIGHER && eqb c EQUALS) (with_equals c K.GE (eqb b HIGHER) (omega arith))
    (λ i n. absurd (n refl)))))

module _ {bs : List ℕ} {p b : ℕ} (s : Sign bs p) (e : b ≡ get_or bs p 0) where
  next_byte : get_or (drop (suc p) bs) 0 0 ≡ get_or bs (p + 1) 0
  next_byte = let n : suc p + 0 ≡ p + 1 = omega arith in get_or-drop (suc p) bs 0 0 ∙ ap (λ k. get_or bs k 0) n

  signed : Signed p b (drop (suc p) bs)
  signed = sign_is p b (drop (suc p) bs) (ap solid e ∙ s.here) (ap is_word e ∙ s.other)

  here : drop p bs ≡ b ∷ drop (suc p) bs
  here = rw e (drop-cons bs p 0 s.within)

  pub double_next : (k c : ℕ) → c ≡ get_or bs (p + 1) 0 → k ≡ double_of b c → (k ≡ BAD → ⊥)
      → Next bs p (record { kind = k; place = p; end = p + 2; value = 0 })
  double_next k c i q n =
      let y : double_of b (get_or (drop (suc p) bs) 0 0) ≡ k = ap (double_of b) (next_byte ∙ sym i) ∙ sym q in
      let d : Double c k = rw q (double_known b c) in
      let m = d n in
      let l : p + 1 < length bs = inside bs (p + 1) (omega arith) in
      let t : tokens_from p clear (b ∷ drop (suc p) bs)
      ≡ put (mark k) p ++ tokens_from (suc (suc p)) clear (drop 1 (drop (suc p) bs)) = rw (y, ne_eqb k BAD n) at signed in
      let it = token_mark k 0 (part p (p + 2) bs) (omega arith) in
      let a : suc p + 1 ≡ p + 2 = omega arith in
      record {
        tokens = ap (tokens_from p clear) here ∙ t
            ∙ rw (it, ne_eqb k K.END (λ z. omega arith), drop-drop 1 (suc p) bs, a, add-two p);
        from = omega arith;
        whole = rw (part_two bs p l) (and_both _ _ s.here (and_both _ _ (ap solid (sym i) ∙ m.2) refl));
        last = λ z. absurd (omega arith);
        room = λ z. (omega arith, omega arith);
        known = omega arith;
        short = λ z. omega arith;
        plain = λ z. refl;
      }

  pub single_next : (k c : ℕ) → c ≡ get_or bs (p + 1) 0 → double_of b c ≡ BAD → k ≡ single_of b
      → Next bs p (record { kind = k; place = p; end = p + 1; value = 0 })
  single_next k c i d q =
      let y : double_of b (get_or (drop (suc p) bs) 0 0) ≡ BAD = ap (double_of b) (next_byte ∙ sym i) ∙ d in
      let m : Signs k = rw q (single_known b) in
      let no_end : k ≡ K.END → ⊥ = λ z. ⊎_elim (λ u. omega arith) (λ u. omega arith) m in
      let no_name : k ≡ NAME → ⊥ = λ z. ⊎_elim (λ u. omega arith) (λ u. omega arith) m in
      let t : tokens_from p clear (b ∷ drop (suc p) bs) ≡ put (token_of k 0 []) p ++ tokens_from (suc p) clear (drop (suc p) bs) =
      rw (y, ← q) at signed in
      record {
        tokens = ap (tokens_from p clear) here ∙ t
            ∙ rw (ne_eqb k NAME no_name, ne_eqb k K.END no_end, add-one p);
        from = omega arith;
        whole = rw (part_one bs p s.within) (and_both _ _ s.here refl);
        last = λ z. absurd (no_end z);
        room = λ z. (omega arith, omega (arith, s.within));
        known = ⊎_elim (λ u. omega arith) (λ u. omega arith) m;
        short = λ z. absurd (no_name z);
        plain = λ z. refl;
      }
