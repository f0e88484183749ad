-- The tokens up to a cut are those of the line by which the tree grew, behind those that were there before it.
-- Assumes nothing.
use Rattle.std.specs.Prelude.{ℕ, zero, suc, ◌+◌, ◌≡◌, refl, List, [], ◌∷◌, ◌++◌, true}
use Rattle.std.proofs.Common.{arith, sym, ◌∙◌, ap, ap₂, append-nil, append_assoc}
use Rattle.text_semantics.specs.Token as Tk
use Rattle.text_semantics.specs.Token.{Token, name, mark}
use Rattle.text_semantics.specs.Grammar as G
use Rattle.text_semantics.specs.Grammar.{Act, Claim, Declaration, digits, spell, spell_signed, spell_gives}
use Rattle.text_semantics.specs.Answer.{is_cut}
use Rattle.text_promises.specs.Plain.{Plain, two, behind, before, ex_plain, signed_plain, gives_plain, claimed}
use Rattle.text_agrees.specs.Closing.{closers}
use Rattle.text_agrees.specs.Growing as N
use Rattle.text_agrees.specs.Growing.{Fresh, Line, braces, at_depth}
use Rattle.text_answers.specs.Acted.{ender, cut_off, branch_off}
use Rattle.text_answers.specs.Stated.{line_off}

-- THE TOKENS OF A LINE are the same whatever follows.
pub cut_plain : {a : Act G.action} {j : ℕ} (f : Fresh a j) → Plain (cut_off f)
cut_plain (N.hold e) =
    behind (mark Tk.HOLD ∷ mark Tk.LP ∷ []) (λ r. spell e (mark Tk.RP ∷ r)) (before (spell e) (mark Tk.RP ∷ []) (ex_plain e))
cut_plain (N.priority e) =
    behind (mark Tk.PRIORITY ∷ mark Tk.LP ∷ []) (λ r. spell e (mark Tk.RP ∷ r))
    (before (spell e) (mark Tk.RP ∷ []) (ex_plain e))
cut_plain (N.trace e) =
    behind (mark Tk.TRACE ∷ mark Tk.LP ∷ []) (λ r. spell e (mark Tk.RP ∷ r)) (before (spell e) (mark Tk.RP ∷ []) (ex_plain e))
cut_plain (N.set x e) = behind (name x ∷ mark Tk.BECOMES ∷ []) (spell e) (ex_plain e)
cut_plain (N.put_r x n) = λ r. refl
cut_plain (N.put_b x n) = λ r. refl
cut_plain (N.put_s x n) = λ r. refl
cut_plain (N.become x) = λ r. refl
cut_plain (N.req c) = claimed Tk.REQ c []
cut_plain (N.start x n g) =
    behind (mark Tk.START ∷ mark Tk.LP ∷ name x ∷ mark Tk.COMMA ∷ digits n []) (λ r. spell_gives g (mark Tk.RP ∷ r))
    (before (spell_gives g) (mark Tk.RP ∷ []) (gives_plain g))
cut_plain N.close = λ r. refl
cut_plain (N.repeat n) = λ r. refl
cut_plain (N.try c) = claimed Tk.TRY c (mark Tk.THEN ∷ [])
cut_plain (N.while c) = claimed Tk.WHILE c []

pub branch_plain : (c : Claim) → Plain (branch_off c)
branch_plain c = claimed Tk.ETRY c (mark Tk.THEN ∷ [])

pub line_plain : {d : Declaration} {j : ℕ} (l : Line d j) → Plain (line_off l)
line_plain (N.res x n) = λ r. refl
line_plain (N.bin x n) = λ r. refl
line_plain (N.sync x) = λ r. refl
line_plain (N.var x n) =
    behind (mark Tk.VAR ∷ mark Tk.LP ∷ name x ∷ mark Tk.COMMA ∷ []) (λ r. spell_signed n (mark Tk.RP ∷ r))
    (before (spell_signed n) (mark Tk.RP ∷ []) (signed_plain n))
line_plain (N.sampler x a b n) =
    behind (mark Tk.SAMPLER ∷ mark Tk.LP ∷ name x ∷ mark Tk.COMMA ∷ [])
    (λ r. spell_signed a (mark Tk.COMMA ∷ spell_signed b (mark Tk.COMMA ∷ digits n (mark Tk.RP ∷ r))))
    (two (λ r. spell_signed a (mark Tk.COMMA ∷ r)) (λ r. spell_signed b (mark Tk.COMMA ∷ digits n (mark Tk.RP ∷ r)))
    (before (spell_signed a) (mark Tk.COMMA ∷ []) (signed_plain a))
    (before (spell_signed b) (mark Tk.COMMA ∷ digits n (mark Tk.RP ∷ [])) (signed_plain b)))
line_plain (N.announced x) = λ r. refl
line_plain (N.entity x n) = λ r. refl
line_plain (N.class x) = λ r. refl

-- A CUT AND THE BRACES BEHIND IT stand at one place only.
none_left : {A B : Type 0} {x : B} {xs : List B} → [] ≡ x ∷ xs → A
none_left e = let w : ◌≡◌ {A = ℕ} 0 1 = cc in absurd (omega arith)

same_last : (xs ts : List Token) (c t : Token) → xs ++ (c ∷ []) ≡ ts ++ (t ∷ []) → (xs ≡ ts) × (c ≡ t)
same_last [] [] c t e = (refl, cc)
same_last [] (y ∷ []) c t e = let f : [] ≡ t ∷ [] = cc in none_left f
same_last [] (y ∷ z ∷ ts) c t e = let f : [] ≡ z ∷ (ts ++ (t ∷ [])) = cc in none_left f
same_last (x ∷ []) [] c t e = let f : [] ≡ c ∷ [] = cc in none_left f
same_last (x ∷ y ∷ xs) [] c t e = let f : [] ≡ y ∷ (xs ++ (c ∷ [])) = cc in none_left f
same_last (x ∷ xs) (y ∷ ts) c t e =
    let f : xs ++ (c ∷ []) ≡ ts ++ (t ∷ []) = cc in
    let g : x ≡ y = cc in
    let i = same_last xs ts c t f in
    (ap₂ (λ z zs. z ∷ zs) g i.0, i.1)

same_cut : (xs : List Token) (c : Token) (n : ℕ) (ts : List Token) (t : Token) (m : ℕ) → is_cut c ≡ true → is_cut t ≡ true →
    (xs ++ (c ∷ [])) ++ closers n ≡ (ts ++ (t ∷ [])) ++ closers m → (xs ≡ ts) × (c ≡ t)
same_cut xs c n ts t m h g e =
    let a = at_depth ts t g (xs ++ (c ∷ [])) n m e in
    let b = at_depth xs c h (ts ++ (t ∷ [])) m n (sym e) in
    let z : a.0 ≡ 0 = omega (arith, a.1, b.1) in
    same_last xs ts c t (a.2 ∙ ap (λ (i : ℕ). (ts ++ (t ∷ [])) ++ braces i []) z ∙ append-nil (ts ++ (t ∷ [])))

-- Where a line follows what is there, with its cut, and then as many braces.
pub line_tokens : (f : List Token → List Token) → Plain f → (j n : ℕ) (ts : List Token) (t : Token) (m : ℕ) → is_cut t ≡ true →
    f (ender j ∷ closers n) ≡ (ts ++ (t ∷ [])) ++ closers m → (ender j ≡ t) × ((us : List Token) → ts ++ us ≡ f us)
line_tokens f p j n ts t m h e =
    let s = same_cut (f []) (ender j) n ts t m (ender_cut j) h
    (append_assoc (f []) (ender j ∷ []) (closers n) ∙ sym (p (ender j ∷ closers n)) ∙ e) in
    (s.1, λ us. ap (λ xs. xs ++ us) (sym s.0) ∙ sym (p us))
  where
    ender_cut : (j : ℕ) → is_cut (ender j) ≡ true
    ender_cut zero = refl
    ender_cut (suc j) = refl
