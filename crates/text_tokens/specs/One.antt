-- There is one next token: what `next` may answer is determined wholly. Assumes nothing.
use Rattle.std.specs.Prelude.{ℕ, suc, ◌+◌, ◌-◌, ◌≤◌, ◌<◌, ◌≡◌, refl, List, [], ◌∷◌, ◌++◌, Bool, true, false, eqb, length, drop, get_or}
use Rattle.std.proofs.Common.{arith, sym, ◌∙◌, ap, eqb-true, eq-eqb, ne_eqb, drop-cons, get_or-drop, get_or-take}
use Rattle.std.proofs.lemmas.Bool.{eqb-false}
use Rattle.semantics.specs.Words.{all}
use Rattle.text_semantics.specs.Token as K
use Rattle.text_semantics.specs.Token.{name, number, mark, bad}
use Rattle.text_semantics.specs.Lexing.{is_word, Placed, put, clear, tokens_from}
use Rattle.text_tokens.specs.declared.Token.{Token}
use Rattle.text_tokens.specs.Next.{NUMBER, NAME, BAD, part, solid, token_of, token_at, behind, Next}
use Rattle.text_tokens.specs.Parts.{passes, comments, double_of}
use Rattle.text_tokens.specs.Tests.{if_has, all_at, part_length}
use Rattle.text_tokens.specs.Steps.{first_place, at_end, begun, passes_on, not_passed, ends_clear}
use Rattle.text_tokens.specs.Steps.{begins_word, word_first, sign_is}

-- THE FIRST of some tokens, and the others.
abbrev first_token : List Placed → K.Token
first_token [] = bad
first_token (t ∷ ts) = t.token

abbrev others : List Placed → List Placed
others [] = []
others (t ∷ ts) = ts

-- It stands where it begins, and nothing that is told from p on stands before p.
solid_place : (p b : ℕ) (bs : List ℕ) → solid b ≡ true → first_place (tokens_from p clear (b ∷ bs)) ≡ p
solid_place p b bs s = by (is_word b) refl where
  by : (t : Bool) → is_word b ≡ t → first_place (tokens_from p clear (b ∷ bs)) ≡ p
  by true e = ap first_place (begins_word p b bs e) ∙ word_first bs (suc p) p (b ∷ [])
  by false e =
      ap first_place (sign_is p b bs s e)
      ∙ if_has (λ ts. first_place ts ≡ p) (eqb (double_of b (get_or bs 0 0)) BAD) (λ f. refl) (λ f. refl)

clear_place : (bs : List ℕ) (p : ℕ) (c : Bool) → p ≤ first_place (tokens_from p (begun c) bs)
clear_place [] p c = rw (ends_clear p c, at_end p clear) (omega arith)
clear_place (b ∷ bs) p c = by (passes c b) refl (clear_place bs (suc p)) where
  by : (t : Bool) → passes c b ≡ t → ((d : Bool) → suc p ≤ first_place (tokens_from (suc p) (begun d) bs))
      → p ≤ first_place (tokens_from p (begun c) (b ∷ bs))
  by true e h = rw (passes_on p c b bs e) (omega (arith, h (comments c b)))
  by false e h =
      let n = not_passed c b e in
      rw n.0 (omega (arith, solid_place p b bs n.1))

-- THE END. Had one token two ends, the byte at the first of them would stand in the token and begin the next.
no_further : (bs : List ℕ) (p e f : ℕ) → p < e → e < f → f ≤ length bs → all solid (part p f bs) ≡ true
    → tokens_from e clear (drop e bs) ≡ tokens_from f clear (drop f bs) → ⊥
no_further bs p e f h k l a q =
    let n : p + (e - p) ≡ e = omega arith in
    let byte : get_or (part p f bs) (e - p) 0 ≡ get_or bs e 0 =
    get_or-take (f - p) (drop p bs) (e - p) 0 (omega arith) ∙ get_or-drop p bs (e - p) 0 ∙ ap (λ i. get_or bs i 0) n in
    let s : solid (get_or bs e 0) ≡ true =
    ap solid (sym byte) ∙ all_at solid (part p f bs) (e - p) (omega (arith, part_length bs p f l)) a in
    let here : first_place (tokens_from e clear (drop e bs)) ≡ e =
    ap (λ l. first_place (tokens_from e clear l)) (drop-cons bs e 0 (omega arith)) ∙ solid_place e _ _ s in
    omega (arith, here, ap first_place q, clear_place (drop f bs) f false)

-- KIND AND VALUE can be read off a token.
abbrev kind_back : K.Token → ℕ
kind_back (name w) = NAME
kind_back (number v) = NUMBER
kind_back (mark k) = k
kind_back bad = BAD

abbrev value_back : K.Token → ℕ
value_back (name w) = 0
value_back (number v) = v
value_back (mark k) = 0
value_back bad = 0

kind_back_lem : (k v : ℕ) (w : List ℕ) → kind_back (token_of k v w) ≡ k
kind_back_lem k v w =
    if_has (λ t. kind_back t ≡ k) (eqb k NUMBER) (λ e. sym (eqb-true k NUMBER e))
    (λ e. if_has (λ t. kind_back t ≡ k) (eqb k NAME) (λ f. sym (eqb-true k NAME f))
    (λ f. if_has (λ t. kind_back t ≡ k) (eqb k BAD) (λ g. sym (eqb-true k BAD g)) (λ g. refl)))

abbrev made : ℕ → ℕ → ℕ → ℕ → Token
made k p e v = record { kind = k; place = p; end = e; value = v }

module _ {bs : List ℕ} {at : ℕ} {r s : Token} (n : Next bs at r) (m : Next bs at s) where
  both : put (token_at bs r) r.place ++ behind bs r ≡ put (token_at bs s) s.place ++ behind bs s
  both = sym n.tokens ∙ m.tokens

  one_place : r.place ≡ s.place
  one_place = ap first_place both

  one_token : token_at bs r ≡ token_at bs s
  one_token = ap first_token both

  one_kind : r.kind ≡ s.kind
  one_kind = sym (kind_back_lem r.kind _ _) ∙ ap kind_back one_token ∙ kind_back_lem s.kind _ _

  one_value : r.value ≡ s.value
  one_value = by (eqb r.kind NUMBER) refl where
    by : (t : Bool) → eqb r.kind NUMBER ≡ t → r.value ≡ s.value
    by true e =
        let j = sym one_kind ∙ eqb-true r.kind NUMBER e in
        rw (e, eq-eqb s.kind NUMBER j) at (ap value_back one_token)
    by false e =
        n.plain (eqb-false r.kind NUMBER e)
        ∙ sym (m.plain (λ q. eqb-false r.kind NUMBER e (one_kind ∙ q)))

  one_end : r.end ≡ s.end
  one_end = by (eqb r.kind K.END) refl where
    by : (t : Bool) → eqb r.kind K.END ≡ t → r.end ≡ s.end
    by true e =
        let i = eqb-true r.kind K.END e in
        (n.last i).1 ∙ sym (m.last (sym one_kind ∙ i)).1
    by false e =
        let i = eqb-false r.kind K.END e in
        let j : s.kind ≡ K.END → ⊥ = λ q. i (one_kind ∙ q) in
        let q : tokens_from r.end clear (drop r.end bs) ≡ tokens_from s.end clear (drop s.end bs) =
        rw (e, ne_eqb s.kind K.END j) at (ap others both) in
        let nr = n.room i in
        let mr = m.room j in
        let a : r.end < s.end → ⊥ = λ h.
        no_further bs s.place r.end s.end (omega (arith, nr.0, one_place)) h mr.1 m.whole q in
        let b : s.end < r.end → ⊥ = λ h.
        no_further bs r.place s.end r.end (omega (arith, mr.0, one_place)) h nr.1 n.whole (sym q) in
        omega (arith, a, b)

  pub next_one : r ≡ s
  next_one =
      ap (λ k. made k r.place r.end r.value) one_kind
      ∙ ap (λ p. made s.kind p r.end r.value) one_place
      ∙ ap (λ e. made s.kind s.place e r.value) one_end
      ∙ ap (made s.kind s.place s.end) one_value
