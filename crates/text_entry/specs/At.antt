-- The clauses of the machine by what the tests said: which of them a token takes. Assumes nothing.
use Rattle.std.specs.Prelude.{ℕ, zero, suc, ◌-◌, ◌/◌, ◌%◌, ◌≤◌, ◌<◌, ◌≡◌, Bool, ◌&&◌, List, [], eqb, leb, if◌then◌else◌}
use Rattle.std.proofs.Common.{arith, sym, ◌∙◌}
use Rattle.std.proofs.Math.Path.{refl, ap}
use Rattle.std.proofs.Math.Bool.{true, false}
use borrow.Author.Tests.{leb-true, leb-false, eqb-true, eqb-false, eq-eqb, ne_eqb, le-leb, lt-leb, le-ltb, lt-ltb}
use Rattle.semantics.specs.Kinds as K
use Rattle.text_semantics.specs.Numbers as No
use Rattle.text_semantics.specs.Token as T
use Rattle.text_semantics.specs.Token.{name, number, mark, bad}
use Rattle.text_semantics.specs.Written.{two, four}
use Rattle.text_semantics.specs.Reading.{Closer, round, comma, semi, one, the, more, few_s}
use Rattle.text_machine.specs.Entry as M
use Rattle.text_machine.specs.Entry.{Draft, ASK, asking, put, mark_in, number_in, begin}
use Rattle.text_machine.specs.Codes as C
use Rattle.text_machine.specs.Codes.{NUMBER, NAME, token_of, part_of, symbol_of}
use Rattle.text_entry.specs.Draft.{TWO, is_comma}
use Rattle.text_entry.specs.Tokens.{a_mark, number_none}

pub both : {a b : Bool} → a ≡ true → b ≡ true → (a && b) ≡ true
both {a} {b} e f = ap (λ t. t && b) e ∙ f

pub not_first : {a : Bool} (b : Bool) → a ≡ false → (a && b) ≡ false
not_first b e = ap (λ t. t && b) e

pub not_second : (a : Bool) {b : Bool} → b ≡ false → (a && b) ≡ false
not_second true e = e
not_second false e = refl

-- SIGNS
abbrev is_share : Draft → Bool
is_share x = eqb x.kind K.START && eqb x.role (asking K.RES)

module _ (k : ℕ) (x : Draft) where
  pub bracket_opens : M.is_expression x.kind ≡ true → M.opens x ≡ M.at_sign k T.LP x
  unfolding M.at_sign
  bracket_opens e = ap (λ t. if t then M.opens x else if is_share x then M.one_more x else x) (sym e)

  pub bracket_share : M.is_expression x.kind ≡ false → is_share x ≡ true → M.one_more x ≡ M.at_sign k T.LP x
  unfolding M.at_sign
  bracket_share e f =
      ap (λ t. if t then M.one_more x else x) (sym f)
      ∙ ap (λ t. if t then M.opens x else if is_share x then M.one_more x else x) (sym e)

  pub bracket_none : M.is_expression x.kind ≡ false → is_share x ≡ false → x ≡ M.at_sign k T.LP x
  unfolding M.at_sign
  bracket_none e f =
      ap (λ t. if t then M.one_more x else x) (sym f)
      ∙ ap (λ t. if t then M.opens x else if is_share x then M.one_more x else x) (sym e)

  pub becomes_opens : M.opens x ≡ M.at_sign k T.BECOMES x
  unfolding M.at_sign
  becomes_opens = refl

  pub list_of_start : x.kind ≡ K.START → x ≡ M.at_sign k T.LS x
  unfolding M.at_sign
  list_of_start e = ap (λ t. if t then x else M.put_count x) (sym (eq-eqb x.kind K.START e))

  pub list_counted : (x.kind ≡ K.START → ⊥) → M.put_count x ≡ M.at_sign k T.LS x
  unfolding M.at_sign
  list_counted h = ap (λ t. if t then x else M.put_count x) (sym (ne_eqb x.kind K.START h))

  pub brace_of_do : x.kind ≡ K.DO → put x (two k) ≡ M.at_sign k T.LB x
  unfolding M.at_sign
  brace_of_do e = ap (λ t. if t then put x (two k) else x) (sym (eq-eqb x.kind K.DO e))

  pub brace_plain : (x.kind ≡ K.DO → ⊥) → x ≡ M.at_sign k T.LB x
  unfolding M.at_sign
  brace_plain h = ap (λ t. if t then put x (two k) else x) (sym (ne_eqb x.kind K.DO h))

  pub sign_plain : (s : ℕ) → (s ≡ T.LP → ⊥) → (s ≡ T.BECOMES → ⊥) → (s ≡ T.LS → ⊥) → (s ≡ T.LB → ⊥) → x ≡ M.at_sign k s x
  unfolding M.at_sign
  sign_plain s a b c d = rw (ne_eqb s T.LP a, ne_eqb s T.BECOMES b, ne_eqb s T.LS c, ne_eqb s T.LB d)

-- NAMES AND NUMBERS
module _ (x : Draft) (i : ℕ) where
  pub name_asked : ASK ≤ x.role → put x (two i) ≡ M.at_name i x
  unfolding M.at_name
  name_asked h = ap (λ t. if t then put x (two i) else x) (sym (le-leb ASK x.role h))

  pub name_declared : x.role < ASK → x ≡ M.at_name i x
  unfolding M.at_name
  name_declared h = ap (λ t. if t then put x (two i) else x) (sym (lt-leb ASK x.role h))

abbrev is_offset : Draft → Bool
is_offset x = eqb x.kind K.START && eqb x.role (asking K.CLASS)

module _ (x : Draft) (n : ℕ) where
  pub offset_number : is_offset x ≡ true → M.with_role (M.put_count (put x (four n))) (asking K.RES) ≡ M.at_number No.top_number n x
  unfolding M.at_number
  offset_number e =
      ap (λ t. if t then M.with_role (M.put_count (put x (four n))) (asking K.RES) else put x (four n)) (sym e)

  pub plain_number : is_offset x ≡ false → put x (four n) ≡ M.at_number No.top_number n x
  unfolding M.at_number
  plain_number e =
      ap (λ t. if t then M.with_role (M.put_count (put x (four n))) (asking K.RES) else put x (four n)) (sym e)

-- WHAT IS NO MARK
pub not_mark : (k v : ℕ) (x : List ℕ) → T.END < k
    → token_of k v x ≡ (if eqb k NUMBER then number v else if eqb k NAME then name x else bad)
not_mark k v x h =
    ap (λ t. if t then mark k else if eqb k NUMBER then number v else if eqb k NAME then name x else bad) (lt-leb k T.END h)

pub a_bad : (k v : ℕ) (x : List ℕ) → T.END < k → (k ≡ NUMBER → ⊥) → (k ≡ NAME → ⊥) → token_of k v x ≡ bad
a_bad k v x h a b =
    not_mark k v x h
    ∙ ap (λ t. if t then number v else if eqb k NAME then name x else bad) (ne_eqb k NUMBER a)
    ∙ ap (λ t. if t then name x else bad) (ne_eqb k NAME b)

not_name : (k v : ℕ) (x : List ℕ) → (k ≡ NAME → ⊥)
    → token_of k v x ≡ (if leb k T.END then mark k else if eqb k NUMBER then number v else bad)
not_name k v x h =
    ap (λ t. if leb k T.END then mark k else if eqb k NUMBER then number v else if t then name x else bad) (ne_eqb k NAME h)

-- A minus before a number.
minus_by : (k v : ℕ) (x : List ℕ) (t a b : Bool) → (k ≡ T.MINUS → ⊥)
    → eqb (mark_in (if t then mark k else if a then number v else if b then name x else bad)) T.MINUS ≡ false
minus_by k v x true a b h = ne_eqb k T.MINUS h
minus_by k v x false true b h = refl
minus_by k v x false false true h = refl
minus_by k v x false false false h = refl

pub no_minus : (k v : ℕ) (x : List ℕ) → (k ≡ T.MINUS → ⊥) → eqb (mark_in (token_of k v x)) T.MINUS ≡ false
no_minus k v x h = minus_by k v x (leb k T.END) (eqb k NUMBER) (eqb k NAME) h

-- FACTORS
module _ (s : ℕ) (x : Draft) where
  pub deep_plain : (s ≡ T.CLOCK → ⊥) → (s ≡ T.LESSER → ⊥) → (s ≡ T.GREATER → ⊥) → (s ≡ T.LP → ⊥) → x ≡ M.deep s x
  deep_plain a b c d = rw (ne_eqb s T.CLOCK a, ne_eqb s T.LESSER b, ne_eqb s T.GREATER c, ne_eqb s T.LP d)

-- WHAT CLOSES AN EXPRESSION
pub closing_comma : (q : Closer) (x : Draft) → is_comma q ≡ true → M.again x ≡ M.closing q x
closing_comma round x e = cc
closing_comma comma x e = refl
closing_comma semi x e = cc

pub closing_other : (q : Closer) (x : Draft) → is_comma q ≡ false → M.closes x ≡ M.closing q x
closing_other round x e = refl
closing_other comma x e = cc
closing_other semi x e = refl

-- ITEMS
item_by : (i k v : ℕ) (x : Draft) (t a : Bool) → (k ≡ T.GETR → ⊥) → (k ≡ T.GETB → ⊥) → (k ≡ T.GETS → ⊥)
    → x ≡ M.at_item i (if t then mark k else if a then number v else bad) x
unfolding M.at_item
item_by i k v x true a e f g = rw (ne_eqb k T.GETR e, ne_eqb k T.GETB f, ne_eqb k T.GETS g)
item_by i k v x false true e f g = refl
item_by i k v x false false e f g = refl

pub item_plain : (i k v : ℕ) (n : List ℕ) (x : Draft)
    → (k ≡ T.GETR → ⊥) → (k ≡ T.GETB → ⊥) → (k ≡ T.GETS → ⊥) → (k ≡ NAME → ⊥) → x ≡ M.at_item i (token_of k v n) x
item_plain i k v n x e f g h =
    item_by i k v x (leb k T.END) (eqb k NUMBER) e f g ∙ ap (λ t. M.at_item i t x) (sym (not_name k v n h))

-- DECLARATIONS
text_by : (p v : ℕ) (n : List ℕ) (a b : Bool) → begin p 0 0 ≡ M.at_text p (if a then number v else if b then name n else bad)
unfolding M.at_text
text_by p v n true b = refl
text_by p v n false true = refl
text_by p v n false false = refl

pub text_no_mark : (p k v : ℕ) (n : List ℕ) → T.END < k → begin p 0 0 ≡ M.at_text p (token_of k v n)
text_no_mark p k v n h = text_by p v n (eqb k NUMBER) (eqb k NAME) ∙ ap (M.at_text p) (sym (not_mark k v n h))

pub text_entity : (p k v : ℕ) (n : List ℕ) → k ≤ T.END → (k ≡ T.RES → ⊥) → (k ≡ T.BIN → ⊥) → (k ≡ T.SYNC → ⊥)
    → (k ≡ T.VAR → ⊥) → (k ≡ T.SAMPLER → ⊥) → (k ≡ T.CLASS → ⊥)
    → begin p K.ENTITY (asking K.CLASS) ≡ M.at_text p (token_of k v n)
unfolding M.at_text
text_entity p k v n h a b c d e f =
    rw (
      a_mark k v n h,
      ne_eqb k T.RES a,
      ne_eqb k T.BIN b,
      ne_eqb k T.SYNC c,
      ne_eqb k T.VAR d,
      ne_eqb k T.SAMPLER e,
      ne_eqb k T.CLASS f,
    )

-- ACTIONS
module _ (w i k p j v : ℕ) (x : Draft) where
  action_by : (t a : Bool)
      → (j ≡ T.HOLD → ⊥) → (j ≡ T.PRIORITY → ⊥) → (j ≡ T.TRACE → ⊥) → (j ≡ T.DO → ⊥)
      → (j ≡ T.PUTR → ⊥) → (j ≡ T.PUTB → ⊥) → (j ≡ T.PUTS → ⊥) → (j ≡ T.BECOME → ⊥)
      → (j ≡ T.REQ → ⊥) → (j ≡ T.TRY → ⊥) → (j ≡ T.ETRY → ⊥) → (j ≡ T.WHILE → ⊥)
      → (j ≡ T.START → ⊥) → (j ≡ T.CLOSE → ⊥)
      → begin p 0 0 ≡ M.at_action w i k p x (if t then mark j else if a then number v else bad)
  unfolding M.at_action
  action_by true a e1 e2 e3 e4 e5 e6 e7 e8 e9 e10 e11 e12 e13 e14 =
      rw (
        ne_eqb j T.HOLD e1,
        ne_eqb j T.PRIORITY e2,
        ne_eqb j T.TRACE e3,
        ne_eqb j T.DO e4,
        ne_eqb j T.PUTR e5,
        ne_eqb j T.PUTB e6,
        ne_eqb j T.PUTS e7,
        ne_eqb j T.BECOME e8,
        ne_eqb j T.REQ e9,
        ne_eqb j T.TRY e10,
        ne_eqb j T.ETRY e11,
        ne_eqb j T.WHILE e12,
        ne_eqb j T.START e13,
        ne_eqb j T.CLOSE e14,
      )
  action_by false true e1 e2 e3 e4 e5 e6 e7 e8 e9 e10 e11 e12 e13 e14 = refl
  action_by false false e1 e2 e3 e4 e5 e6 e7 e8 e9 e10 e11 e12 e13 e14 = refl

  pub action_none : (n : List ℕ)
      → (j ≡ T.HOLD → ⊥) → (j ≡ T.PRIORITY → ⊥) → (j ≡ T.TRACE → ⊥) → (j ≡ T.DO → ⊥)
      → (j ≡ T.PUTR → ⊥) → (j ≡ T.PUTB → ⊥) → (j ≡ T.PUTS → ⊥) → (j ≡ T.BECOME → ⊥)
      → (j ≡ T.REQ → ⊥) → (j ≡ T.TRY → ⊥) → (j ≡ T.ETRY → ⊥) → (j ≡ T.WHILE → ⊥)
      → (j ≡ T.START → ⊥) → (j ≡ T.CLOSE → ⊥) → (j ≡ NAME → ⊥)
      → begin p 0 0 ≡ M.at_action w i k p x (token_of j v n)
  action_none n e1 e2 e3 e4 e5 e6 e7 e8 e9 e10 e11 e12 e13 e14 h =
      action_by (leb j T.END) (eqb j NUMBER) e1 e2 e3 e4 e5 e6 e7 e8 e9 e10 e11 e12 e13 e14
      ∙ ap (M.at_action w i k p x) (sym (not_name j v n h))

-- PARTS OF AN EXPRESSION
pub part_other : (n c : ℕ) → (c ≡ 0 → ⊥) → (c ≡ 1 → ⊥) → (c ≡ 3 → ⊥)
    → (q : Closer) × (is_comma q ≡ false) × (part_of n c ≡ more n q)
part_other n zero a b d = absurd (a refl)
part_other n (suc zero) a b d = absurd (b refl)
part_other n (suc (suc zero)) a b d = (round, refl, refl)
part_other n (suc (suc (suc zero))) a b d = absurd (d refl)
part_other n (suc (suc (suc (suc c)))) a b d = (semi, refl, refl)

-- WORDS: a count is small, and the last of them is the text.
count_by : (j v : ℕ) (t : Bool) → eqb j NUMBER ≡ t → (j ≡ NUMBER → v < TWO) → number_in (token_of j v []) < TWO
count_by j v true e h = rw (eqb-true j NUMBER e) (h (eqb-true j NUMBER e))
count_by j v false e h = rw (number_none j v [] (eqb-false j NUMBER e)) (omega arith)

pub count_small : (j v : ℕ) → (j ≡ NUMBER → v < TWO) → number_in (token_of j v []) < TWO
count_small j v h = count_by j v (eqb j NUMBER) refl h

passed_by : (n s : ℕ) → n ≤ s → (s ≡ n → ⊥) → (t : Bool) → leb s n ≡ t → suc n ≤ s
passed_by n s h e true f = absurd (e (omega (arith, leb-true s n f)))
passed_by n s h e false f = omega (arith, leb-false s n f)

up : (n : ℕ) {s : ℕ} → n ≤ s → (s ≡ n → ⊥) → suc n ≤ s
up n {s} h e = passed_by n s h e (leb s n) refl

pub word_text : (s : ℕ) → T.END < s → s < C.FEW
    → (s ≡ C.NUMBER → ⊥) → (s ≡ C.NAME → ⊥) → (s ≡ C.COUNT → ⊥) → (s ≡ C.MAGNITUDE → ⊥) → (s ≡ C.SIGNED → ⊥)
    → (s ≡ C.RELATION → ⊥) → (s ≡ C.ITEM → ⊥) → (s ≡ C.CLAIM → ⊥) → (s ≡ C.ITEMS → ⊥) → (s ≡ C.GIVES → ⊥)
    → (s ≡ C.GIVEN → ⊥) → (s ≡ C.ACTIONS → ⊥) → (s ≡ C.TRY → ⊥) → (s ≡ C.LINES → ⊥) → (s ≡ C.BODY → ⊥)
    → s ≡ C.TEXT
word_text s h l e1 e2 e3 e4 e5 e6 e7 e8 e9 e10 e11 e12 e13 e14 e15 =
    let k : C.TEXT ≤ s =
    up C.BODY (up C.LINES (up C.TRY (up C.ACTIONS
    (up C.GIVEN (up C.GIVES (up C.ITEMS (up C.CLAIM
    (up C.ITEM (up C.RELATION (up C.SIGNED
    (up C.MAGNITUDE (up C.COUNT (up C.NAME (up C.NUMBER h e1) e2) e3) e4) e5) e6) e7) e8) e9) e10) e11) e12) e13) e14) e15 in
    omega arith

-- SYMBOLS
pub symbol_sign : (s : ℕ) → s ≤ T.END → symbol_of s ≡ one (the s)
symbol_sign s h = rw (le-leb s T.END h)

pub symbol_few : (s : ℕ) → C.FEW ≤ s → s < C.EXPRESSION → symbol_of s ≡ few_s (s - C.FEW)
symbol_few s h l = rw (lt-leb s T.END (omega arith), le-ltb s C.FEW h, lt-ltb s C.EXPRESSION l)

pub symbol_part : (s : ℕ) → C.EXPRESSION ≤ s
    → symbol_of s ≡ part_of ((s - C.EXPRESSION) / C.PARTS) ((s - C.EXPRESSION) % C.PARTS)
symbol_part s h = rw (lt-leb s T.END (omega arith), le-ltb s C.FEW (omega arith), le-ltb s C.EXPRESSION h)

-- BEHIND A FACTOR
pub more_closing : (q : Closer) (s : ℕ) (x : Draft) → (s ≡ T.STAR → ⊥) → (s ≡ T.PLUS → ⊥) → (s ≡ T.MINUS → ⊥)
    → M.closing q x ≡ M.at_more q s x
unfolding M.at_more
more_closing q s x a b c = rw (ne_eqb s T.STAR a, ne_eqb s T.PLUS b, ne_eqb s T.MINUS c)
