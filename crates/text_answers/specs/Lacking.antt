-- The classes that lack a body at the end of a text: those that are known without one are those whose records say so, in order.
-- Assumes nothing.
use Rattle.std.specs.Prelude.{ℕ, ◌+◌, ◌≤◌, ◌≡◌, refl, List, [], ◌∷◌, ◌++◌, map, Bool, true, false, not, ◌&&◌, ◌||◌, eqb, length, if◌then◌else◌}
use Rattle.std.proofs.Common.{arith, sym, ap, ap₂, ◌∙◌, append-nil, append_assoc, eqb-true, ne_eqb}
use Rattle.std.proofs.lemmas.List.{map-append}
use Rattle.std.proofs.Math.Option.{none}
use Rattle.std.proofs.lemmas.Bool.{not-false}
use Rattle.semantics.specs.Words.{any, keep}
use Rattle.semantics.specs.Kinds as K
use Rattle.semantics.specs.Record as R
use Rattle.promises.specs.Laws.{or-false, if_two}
use Rattle.text_semantics.specs.Numbers as No
use Rattle.text_semantics.specs.Lexing.{same_bytes}
use Rattle.text_semantics.specs.Grammar as G
use Rattle.text_semantics.specs.Grammar.{Name, Declaration, Text, Few, Locals, declare}
use Rattle.text_semantics.specs.Names.{Known, embodies, named, stays, one_more, bodied, LOCAL, knows, after}
use Rattle.text_semantics.specs.Names.{trouble_in, events, in_few, in_locals, in_declaration}
use Rattle.text_semantics.specs.Meaning as W
use Rattle.text_semantics.specs.Meaning.{Owned, owned, opened_by, entry_of, declarations}
use Rattle.text_agrees.specs.Events.{after-append}
use Rattle.text_agrees.specs.Lines.{calm_split}
use Rattle.text_agrees.specs.Slots.{same_self, same_turned}
use Rattle.text_agrees.specs.Adding.{is_class}
use Rattle.text_agrees.specs.Grown.{opened_in}
use Rattle.text_answers.specs.Ranges.{lacks_body, new_class, in_body, body-after, body_opens}

-- LISTS.
pub keep_append : {A : Type 0} (f : A → Bool) (xs ys : List A) → keep f (xs ++ ys) ≡ keep f xs ++ keep f ys
keep_append f [] ys = refl
keep_append f (x ∷ xs) ys = go (f x) (keep_append f xs ys)
  where
    go : (b : Bool) → keep f (xs ++ ys) ≡ keep f xs ++ keep f ys
        → (if b then x ∷ keep f (xs ++ ys) else keep f (xs ++ ys)) ≡ (if b then x ∷ keep f xs else keep f xs) ++ keep f ys
    go true e = ap (λ zs. x ∷ zs) e
    go false e = e

-- THE CLASSES that are known, and the class records.
abbrev pub a_class : Known → Bool
a_class k = eqb k.what K.CLASS

abbrev pub unbodied : Owned → Bool
unbodied o = lacks_body o.entry

-- A class lacks its body behind a text if it did before and no line of the text has it.
abbrev left : Text → Known → Bool
left t k = k.lacks && not (any (W.embodied k.name) t)

-- Its record says so, where there are fewer blocks than the number that stands for none.
no_body : (x : Name) (k : ℕ) (t : Text) → k + opened_in t ≤ No.no_body
    → eqb (W.body_block x k t) No.no_body ≡ not (any (W.embodied x) t)
unfolding W.body_block
no_body x k [] l = refl
no_body x k (d ∷ ds) l = go (W.embodied x d) refl (no_body x (k + opened_by d) ds (omega arith))
  where
    go : (w : Bool) → W.embodied x d ≡ w
        → eqb (W.body_block x (k + opened_by d) ds) No.no_body ≡ not (any (W.embodied x) ds)
        → eqb (if w then k else W.body_block x (k + opened_by d) ds) No.no_body ≡ not (w || any (W.embodied x) ds)
    go true e i = ne_eqb k No.no_body (λ f. omega (arith, body_opens x d e))
    go false e i = i

-- WHAT A LINE CHANGES: one more name,
more_left : (t : Text) (ks : List Known) (k : Known)
    → map (left t) (keep a_class (ks ++ (k ∷ []))) ≡ map (left t) (keep a_class ks) ++ map (left t) (keep a_class (k ∷ []))
more_left t ks k =
    ap (map (left t)) (keep_append a_class ks (k ∷ [])) ∙ map-append (left t) (keep a_class ks) (keep a_class (k ∷ []))

-- locals, which are no classes,
local_still : (x : Name) (ks : List Known) → keep a_class (one_more ks LOCAL x false) ≡ keep a_class ks
local_still x ks = keep_append a_class ks _ ∙ append-nil (keep a_class ks)

few_still : {m : ℕ} (xs : Few m) (ks : List Known) → keep a_class (after ks (in_few xs)) ≡ keep a_class ks
unfolding after knows
few_still G.no_names ks = refl
few_still (G.also x xs) ks = few_still xs (one_more ks LOCAL x false) ∙ local_still x ks

locals_still : (l : Locals) (ks : List Known) → keep a_class (after ks (in_locals l)) ≡ keep a_class ks
unfolding after knows
locals_still G.no_locals ks = refl
locals_still (G.locals x xs) ks = few_still xs (one_more ks LOCAL x false) ∙ local_still x ks

stays_still : (ks : List Known) → keep a_class (keep stays ks) ≡ keep a_class ks
stays_still [] = refl
stays_still (k ∷ ks) = go (a_class k) (stays k) refl refl (stays_still ks)
  where
    go : (c s : Bool) → a_class k ≡ c → stays k ≡ s → keep a_class (keep stays ks) ≡ keep a_class ks
        → keep a_class (if s then k ∷ keep stays ks else keep stays ks) ≡ (if c then k ∷ keep a_class ks else keep a_class ks)
    go true true p q e = rw p (ap (λ zs. k ∷ zs) e)
    go true false p q e =
        let a = eqb-true k.what K.CLASS p in
        let b = eqb-true k.what LOCAL (not-false (eqb k.what LOCAL) q) in
        absurd (omega arith)
    go false true p q e = rw p e
    go false false p q e = e

-- and a body, which its class gets.
bodied-left : (x : Name) (l : Locals) (b : G.Act G.actions) (t : Text) (ks : List Known)
    → map (left t) (keep a_class (map (bodied x) ks)) ≡ map (left (G.class x (G.body l b) ∷ t)) (keep a_class ks)
bodied-left x l b t [] = refl
bodied-left x l b t (k ∷ ks) =
    let i = bodied-left x l b t ks in
    if_two (λ us vs. map (left t) us ≡ map (left (G.class x (G.body l b) ∷ t)) vs) (a_class k) (ap₂ (λ u us. u ∷ us) one i) i
  where
    three : (p q r : Bool) → (p && not q) && not r ≡ p && not (q || r)
    three true true r = refl
    three true false r = refl
    three false q r = refl

    one : left t (bodied x k) ≡ left (G.class x (G.body l b) ∷ t) k
    one =
        ap (λ q. (k.lacks && not q) && not (any (W.embodied k.name) t)) (same_turned x k.name)
        ∙ three k.lacks (same_bytes k.name x) (any (W.embodied k.name) t)

other_left : (x : Name) (l : Locals) (b : G.Act G.actions) (t : Text) (ks : List Known) → any (named x) ks ≡ false
    → map (left t) (keep a_class ks) ≡ map (left (G.class x (G.body l b) ∷ t)) (keep a_class ks)
other_left x l b t [] h = refl
other_left x l b t (k ∷ ks) h =
    let o = or-false (named x k) (any (named x) ks) h in
    let e : same_bytes k.name x ≡ false = same_turned k.name x ∙ o.0 in
    let f : left t k ≡ left (G.class x (G.body l b) ∷ t) k =
    ap (λ q. k.lacks && not (q || any (W.embodied k.name) t)) (sym e) in
    let i = other_left x l b t ks o.1 in
    if_two (λ us vs. map (left t) us ≡ map (left (G.class x (G.body l b) ∷ t)) vs) (a_class k) (ap₂ (λ u us. u ∷ us) f i) i

-- THE RECORDS of a line: that of a class says whether its body comes.
abbrev unbodied_in : List Owned → List Bool
unbodied_in os = map unbodied (keep is_class os)

abbrev entries_of : List Known → ℕ → ℕ → Declaration → Text → List Owned
entries_of ks k at d ds = map (λ e. owned e at) (entry_of ks k d ds)

abbrev Left : List Known → ℕ → ℕ → Declaration → Text → Type 0
Left ks k at d ds =
    map (left ds) (keep a_class (after ks (in_declaration d)))
    ≡ map (left (d ∷ ds)) (keep a_class ks) ++ unbodied_in (entries_of ks k at d ds)

class_left : (x : Name) (l : Locals) (b : G.Act G.actions) (ds : Text) (ks : List Known) (k at : ℕ)
    → k + opened_in (G.class x (G.body l b) ∷ ds) ≤ No.no_body → Left ks k at (G.class x (G.body l b)) ds
unfolding after knows
class_left x l b ds ks k at h =
    ap (λ zs. map (left ds) (keep a_class zs)) (body-after ks x l b)
    ∙ ap (map (left ds)) (stays_still (in_body ks x l b) ∙ locals_still l (knows ks (embodies x)))
    ∙ go (any (named x) ks) refl
  where
    own : eqb (W.body_block x k (G.class x (G.body l b) ∷ ds)) No.no_body ≡ false
    own = no_body x k (G.class x (G.body l b) ∷ ds) h ∙ ap (λ w. not (w || any (W.embodied x) ds)) (same_self x)

    go : (w : Bool) → any (named x) ks ≡ w
        → map (left ds) (keep a_class (if w then map (bodied x) ks else one_more ks K.CLASS x false))
        ≡ map (left (G.class x (G.body l b) ∷ ds)) (keep a_class ks)
        ++ unbodied_in (map (λ e. owned e at) (if w then [] else R.CLASS (W.body_block x k (G.class x (G.body l b) ∷ ds)) ∷ []))
    go true e = bodied-left x l b ds ks ∙ sym (append-nil _)
    go false e =
        more_left ds ks _
        ∙ ap₂ (λ us vs. us ++ vs) (other_left x l b ds ks e) (ap (λ w. w ∷ []) (sym own))

line_left : (d : Declaration) (ds : Text) (ks : List Known) (k at : ℕ) → k + opened_in (d ∷ ds) ≤ No.no_body
    → trouble_in ks (in_declaration d) ≡ none → Left ks k at d ds
unfolding after knows
line_left (G.res x v) ds ks k at l h = more_left ds ks _
line_left (G.bin x v) ds ks k at l h = more_left ds ks _
line_left (G.sync x) ds ks k at l h = more_left ds ks _
line_left (G.var x v) ds ks k at l h = more_left ds ks _
line_left (G.sampler x a b v) ds ks k at l h = more_left ds ks _
line_left (G.class x G.announced) ds ks k at l h =
    let c : ℕ = W.body_block x k (G.class x G.announced ∷ ds) in
    more_left ds ks _
    ∙ ap (λ w. map (left ds) (keep a_class ks) ++ (w ∷ [])) (sym (no_body x k (G.class x G.announced ∷ ds) l))
    ∙ ap (λ w. map (left ds) (keep a_class ks) ++ unbodied_in (map (λ e. owned e at) (if w then [] else R.CLASS c ∷ [])))
    (sym (new_class ks x h))
line_left (G.class x (G.body ls b)) ds ks k at l h = class_left x ls b ds ks k at l
line_left (G.entity x v) ds ks k at l h = sym (append-nil _)

-- A WHOLE TEXT.
end_left : (ks : List Known) → map (λ k. k.lacks) ks ≡ map (left []) ks
end_left [] = refl
end_left (k ∷ ks) = ap₂ (λ u us. u ∷ us) (go k.lacks) (end_left ks)
  where
    go : (b : Bool) → b ≡ b && true
    go true = refl
    go false = refl

text_left : (t : Text) (ks : List Known) (k at : ℕ) → k + opened_in t ≤ No.no_body → trouble_in ks (events t) ≡ none
    → map (λ c. c.lacks) (keep a_class (after ks (events t)))
    ≡ map (left t) (keep a_class ks) ++ unbodied_in (declarations ks k at t)
unfolding after declarations
text_left [] ks k at l h = end_left (keep a_class ks) ∙ sym (append-nil _)
text_left (d ∷ ds) ks k at l h =
    let c = calm_split ks (in_declaration d) (events ds) h in
    let q : ℕ = at + length (declare d []) in
    let zs : List Known = after ks (in_declaration d) in
    let es : List Owned = entries_of ks k at d ds in
    let os : List Owned = declarations zs (k + opened_by d) q ds in
    ap (λ ys. map (λ j. j.lacks) (keep a_class ys)) (after-append ks (in_declaration d) (events ds))
    ∙ text_left ds zs (k + opened_by d) q (omega arith) c.1
    ∙ ap (λ us. us ++ unbodied_in os) (line_left d ds ks k at (omega arith) c.0)
    ∙ append_assoc (map (left (d ∷ ds)) (keep a_class ks)) (unbodied_in es) (unbodied_in os)
    ∙ ap (λ us. map (left (d ∷ ds)) (keep a_class ks) ++ us)
    (sym (map-append unbodied (keep is_class es) (keep is_class os)) ∙ ap (map unbodied) (sym (keep_append is_class es os)))

-- At its end: which of the known classes lack a body, and which of the class records.
pub lacks_agree : (t : Text) → opened_in t ≤ No.no_body → trouble_in [] (events t) ≡ none
    → map (λ k. k.lacks) (keep a_class (after [] (events t))) ≡ map unbodied (keep is_class (declarations [] 0 0 t))
lacks_agree t l h = text_left t [] 0 0 (omega arith) h
