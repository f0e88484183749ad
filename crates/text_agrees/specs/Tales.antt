-- What the tokens of a whole text are for names: the events of its tree, in their order. And every token of a spelling fits.
-- Assumes nothing.
use Prim.Native.Nat.{ℕ, zero, suc}
use Rattle.std.proofs.Common.{arith, sym, ◌∙◌, subst}
use Rattle.std.specs.Prelude.{◌≡◌, Bool, ◌&&◌, T, leb, length}
use Rattle.std.proofs.Math.Path.{refl, ap}
use mathlib.Core.List.{List, [], ◌∷◌, ◌++◌, append_assoc, append-nil}
use Rattle.std.proofs.Math.Bool.{true, false}
use Rattle.std.proofs.Math.Option.{Option, none, some}
use Rattle.semantics.specs.Words.{collect}
use Rattle.semantics.specs.Kinds as K
use Rattle.semantics.specs.Model.{Relation, below, at_most, equals, differs, at_least, above}
use Rattle.text_semantics.specs.Numbers as No
use Rattle.text_semantics.specs.Token as Tk
use Rattle.text_semantics.specs.Token.{Token, number, mark, name}
use Rattle.text_semantics.specs.Grammar as G
use Rattle.text_semantics.specs.Grammar.{Name, Upto, Part, Ex, Item, Claim, Give, Gives, Kind, Act, Few, Locals, Body}
use Rattle.text_semantics.specs.Grammar.{Declaration, Signed, Text, spell, spell_signed, spell_item, spell_items, spell_claim}
use Rattle.text_semantics.specs.Grammar.{spell_given, spell_gives, spell_act, spell_few, spell_locals, spell_text, declare, pair}
use Rattle.text_semantics.specs.Grammar.{relation}
use Rattle.text_semantics.specs.Names.{Event, after, in_ex, in_item, in_claim, in_give, in_gives, in_act, in_few, in_locals}
use Rattle.text_semantics.specs.Names.{in_declaration, events, asks, declares, announces, embodies, leaves, store, sync, class}
use Rattle.text_semantics.specs.Names.{variable, LOCAL}
use Rattle.text_semantics.specs.Table.{Values, Rule, says}
use Rattle.text_semantics.specs.Reading.{Symbol, Of, say, step, on, taken, fitted, a_number, factor_s, minus_s, more, signed_s}
use Rattle.text_semantics.specs.Reading.{relation_s, item_s, claim_s, items_s, gives_s, given_s, actions_s, try_s, few_s, lines_s, text_s}
use Rattle.text_semantics.specs.Reading.{Closer, round, comma, semi, sign, name_s, upto, pair_s}
use Rattle.text_machine.specs.Entry.{asking}
use Rattle.text_machine.specs.Machine.{Reader, at_first}
use Rattle.text_agrees.specs.Flow.{next_in, effect, flow}
use Rattle.text_agrees.specs.Events.{Clue, clue_of, asked, told, happens, story, piled_from, story-append, Fewer}
use Rattle.text_agrees.specs.Events.{fewer_split, known_story}
use Rattle.text_agrees.specs.Clues.{led, clue_effect}

-- TALES: the events of tokens, by the clue alone, and whether every token fits.
abbrev pub Account : Type 0
Account = List Event × Bool

abbrev ahead : List Event → Account → Account
ahead es a = (es ++ a.0, a.1)

abbrev pub fits_in : {s : Symbol} {t : Token} → Option (Rule Of say s t) → Bool
fits_in none = false
fits_in (some p) = true

unfoldable pub fits : List Token → List Symbol → Bool
fits [] ss = true
fits (t ∷ ts) [] = false
fits (t ∷ ts) (s ∷ ss) = fits_in (step s t) && fits ts (next_in (step s t) ++ ss)

unfoldable pub tale : List Token → List Symbol → Clue → Account
unfolding told led
tale [] ss c = ([], true)
tale (t ∷ ts) [] c = ([], false)
tale (t ∷ ts) (s ∷ ss) c =
    let a : Account = tale ts (next_in (step s t) ++ ss) (led c s t) in (told c s t ++ a.0, fits_in (step s t) && a.1)

tale-fits : (ts : List Token) (ss : List Symbol) (c : Clue) → (tale ts ss c).1 ≡ fits ts ss
unfolding tale fits
tale-fits [] ss c = refl
tale-fits (t ∷ ts) [] c = refl
tale-fits (t ∷ ts) (s ∷ ss) c =
    ap (λ (b : Bool). fits_in (step s t) && b) (tale-fits ts (next_in (step s t) ++ ss) (led c s t))

pub story-tale : (place : ℕ → ℕ) (at : ℕ) (ts : List Token) (ss : List Symbol) (r : Reader) →
    story place at ts ss r ≡ (tale ts ss (clue_of r)).0
unfolding story tale happens
story-tale place at [] ss r = refl
story-tale place at (t ∷ ts) [] r = refl
story-tale place at (t ∷ ts) (s ∷ ss) r =
    ap (λ (es : List Event). happens r s t ++ es)
    (story-tale place (suc at) ts (next_in (step s t) ++ ss) (effect r s t (place at))
    ∙ ap (λ (c : Clue). (tale ts (next_in (step s t) ++ ss) c).0) (clue_effect r t (place at) s))

-- From one account to another, events happen.
record Tale (a : Account) (es : List Event) (b : Account) : Type 0 where
  law : a ≡ ahead es b

infixl 60 ◌&◌
◌&◌ : {a b c : Account} {es fs : List Event} → Tale a es b → Tale b fs c → Tale a (es ++ fs) c
◌&◌ {c = c} {es = es} {fs = fs} x y =
    record {
      law = x.law ∙ ap (λ (b : Account). ahead es b) y.law
          ∙ ap (λ (gs : List Event). (gs, c.1)) (sym (append_assoc es fs c.0));
    }

by : {a b : Account} → a ≡ b → Tale a [] b
by e = record { law = e }

now : (e : Event) {a b : Account} {es : List Event} → Tale a es b → Tale (ahead (e ∷ []) a) (e ∷ es) b
now e x = record { law = ap (λ (a : Account). ahead (e ∷ []) a) x.law }

from : {a b c : Account} {es : List Event} → a ≡ b → Tale b es c → Tale a es c
from e x = record { law = e ∙ x.law }

into : {a b c : Account} {es : List Event} → Tale a es b → b ≡ c → Tale a es c
into {es = es} x e = record { law = x.law ∙ ap (λ (b : Account). ahead es b) e }

-- NUMBERS that fit.
number_next : {s : Symbol} (b n : ℕ) (ns : List Symbol) (make : Upto b → Values Of ns → Of s)
    (law : (v : Upto b) (vs : Values Of ns) (r : List Token) → say s (make v vs) r ≡ number v.value ∷ says Of say ns vs r)
    (o : Option (Rule Of say s (number n))) (x : Bool) (e : leb n b ≡ x) → T x →
    ◌≡◌ {A = List Symbol × Bool} (
      next_in (taken (on (a_number b) ns make law) (number n) (fitted b n x e) o),
      fits_in (taken (on (a_number b) ns make law) (number n) (fitted b n x e) o),
    )
    (ns, true)
number_next b n ns make law o true e f = refl
number_next b n ns make law o false e f = absurd f

module _ (ts : List Token) (us : List Symbol) (c : Clue) where
  one_number : {b : ℕ} (v : Upto b) →
      tale (number v.value ∷ ts) (upto b ∷ us) c ≡ tale ts us (led c (upto b) (number v.value))
  unfolding tale
  one_number {b = b} v =
      let z : Clue = led c (upto b) (number v.value) in
      ap (λ (q : List Symbol × Bool). let a : Account = tale ts (q.0 ++ us) z in (a.0, q.1 && a.1))
      (number_next {s = upto b} b v.value [] (λ v vs. v) (λ v vs r. refl) none (leb v.value b) refl v.fits)

  factor_number : (n : ℕ) (v : Upto No.top_number) → tale (number v.value ∷ ts) (factor_s n ∷ us) c ≡ tale ts us c
  unfolding tale
  factor_number n v =
      ap (λ (q : List Symbol × Bool). let a : Account = tale ts (q.0 ++ us) c in (a.0, q.1 && a.1))
      (number_next {s = factor_s n} No.top_number v.value [] (λ v vs. G.literal v) (λ v vs r. refl) _
      (leb v.value No.top_number) refl v.fits)

  minus_number : (n : ℕ) (v : Upto No.top_magnitude) → tale (number v.value ∷ ts) (minus_s n ∷ us) c ≡ tale ts us c
  unfolding tale
  minus_number n v =
      ap (λ (q : List Symbol × Bool). let a : Account = tale ts (q.0 ++ us) c in (a.0, q.1 && a.1))
      (number_next {s = minus_s n} No.top_magnitude v.value [] (λ v vs. G.magnitude v) (λ v vs r. refl) _
      (leb v.value No.top_magnitude) refl v.fits)

  signed_tale : (x : Signed) → tale (spell_signed x ts) (signed_s ∷ us) c ≡ tale ts us c
  unfolding tale
  signed_tale (G.upward v) =
      ap (λ (q : List Symbol × Bool). let a : Account = tale ts (q.0 ++ us) c in (a.0, q.1 && a.1))
      (number_next {s = signed_s} No.top_number v.value [] (λ v vs. G.upward v) (λ v vs r. refl) _
      (leb v.value No.top_number) refl v.fits)
  signed_tale (G.downward v) = one_number v

  relation-tale : (k : Relation) → tale (mark (relation k) ∷ ts) (relation_s ∷ us) c ≡ tale ts us c
  unfolding tale
  relation-tale below = refl
  relation-tale at_most = refl
  relation-tale equals = refl
  relation-tale differs = refl
  relation-tale at_least = refl
  relation-tale above = refl

-- A name and a number in brackets.
pair-tale : {b : ℕ} (x : Name) (v : Upto b) (c : Clue) (ts : List Token) (us : List Symbol) →
    Tale (tale (pair x v ts) (pair_s b [] ++ us) c) (asked c.role x)
    (tale ts us (led (led c name_s (name x)) (upto b) (number v.value)))
unfolding tale
pair-tale x v c ts us =
    record {
      law = ap (λ (a : Account). ahead (asked c.role x) a)
          (one_number (mark Tk.RP ∷ ts) (sign Tk.RP ∷ us) (led c name_s (name x)) v);
    }

-- EXPRESSIONS.
abbrev Tells : (p : Part) → Ex p → Type 0
Tells (G.expression n) e = (k : Closer) (c : Clue) (ts : List Token) (us : List Symbol) →
    Tale (tale (spell e ts) (factor_s n ∷ more n k ∷ us) c) (in_ex e) (tale ts (more n k ∷ us) c)
Tells (G.term n) t = (k : Closer) (c : Clue) (ts : List Token) (us : List Symbol) →
    Tale (tale (spell t ts) (factor_s n ∷ more n k ∷ us) c) (in_ex t) (tale ts (more n k ∷ us) c)
Tells (G.terms n) xs = (k : Closer) (c : Clue) (ts : List Token) (us : List Symbol) →
    Tale (tale (spell xs ts) (more n k ∷ us) c) (in_ex xs) (tale ts (more n k ∷ us) c)
Tells (G.factor n) f = (c : Clue) (ts : List Token) (us : List Symbol) →
    Tale (tale (spell f ts) (factor_s n ∷ us) c) (in_ex f) (tale ts us c)
Tells (G.factors n) fs = (k : Closer) (c : Clue) (ts : List Token) (us : List Symbol) →
    Tale (tale (spell fs ts) (more n k ∷ us) c) (in_ex fs) (tale ts (more n k ∷ us) c)
Tells (G.minus n) m = (c : Clue) (ts : List Token) (us : List Symbol) →
    Tale (tale (spell m ts) (minus_s n ∷ us) c) (in_ex m) (tale ts us c)
Tells (G.atom n) a = (c : Clue) (ts : List Token) (us : List Symbol) →
    Tale (tale (spell a ts) (factor_s n ∷ us) c) (in_ex a) (tale ts us c)
    × Tale (tale (spell a ts) (minus_s n ∷ us) c) (in_ex a) (tale ts us c)

tells : {p : Part} (x : Ex p) → Tells p x
unfolding tale
tells (G.sum t xs) = λ k c ts us. tells t k c (spell xs ts) us & tells xs k c ts us
tells G.no_terms = λ k c ts us. by refl
tells (G.plus t xs) = λ k c ts us. tells t k c (spell xs ts) us & tells xs k c ts us
tells (G.less t xs) = λ k c ts us. tells t k c (spell xs ts) us & tells xs k c ts us
tells (G.product {d = n} f fs) = λ k c ts us. tells f c (spell fs ts) (more n k ∷ us) & tells fs k c ts us
tells G.no_factors = λ k c ts us. by refl
tells (G.times {d = n} f fs) = λ k c ts us. tells f c (spell fs ts) (more n k ∷ us) & tells fs k c ts us
tells (G.literal {d = n} v) = λ c ts us. by (factor_number ts us c n v)
tells (G.plain a) = λ c ts us. (tells a c ts us).0
tells (G.negative m) = λ c ts us. tells m c ts us
tells (G.magnitude {d = n} v) = λ c ts us. by (minus_number ts us c n v)
tells (G.negated a) = λ c ts us. (tells a c ts us).1
tells (G.again m) = λ c ts us. tells m c ts us
tells (G.value x) = λ c ts us. (record { law = refl }, record { law = refl })
tells G.clock = λ c ts us. (by refl, by refl)
tells (G.bracket e) = λ c ts us.
    let x = tells e round c (mark Tk.RP ∷ ts) us in (record { law = x.law }, record { law = x.law })
tells (G.lesser {d = n} a b) = λ c ts us.
    let x = tells a comma c (mark Tk.COMMA ∷ spell b (mark Tk.RP ∷ ts)) (factor_s n ∷ more n round ∷ us)
    & tells b round c (mark Tk.RP ∷ ts) us in
    (record { law = x.law }, record { law = x.law })
tells (G.greater {d = n} a b) = λ c ts us.
    let x = tells a comma c (mark Tk.COMMA ∷ spell b (mark Tk.RP ∷ ts)) (factor_s n ∷ more n round ∷ us)
    & tells b round c (mark Tk.RP ∷ ts) us in
    (record { law = x.law }, record { law = x.law })

-- CLAIMS: what the last item asked for is still there behind them.
abbrev clue : ℕ → Bool → Name → ℕ → Clue
clue r b x n = record { role = r; starting = b; called = x; depth = n }

module _ (x : Name) (n : ℕ) where
  abbrev Reads : (List Token → List Token) → List Event → Symbol → Type 0
  Reads spelled es s =
      (r : ℕ) (ts : List Token) (us : List Symbol) → (q : ℕ)
      × Tale (tale (spelled ts) (s ∷ us) (clue r false x n)) es (tale ts us (clue q false x n))

  item_tale : (i : Item) → Reads (spell_item i) (in_item i) item_s
  unfolding tale
  item_tale (G.get_r y v) r ts us = (asking K.RES, pair-tale y v (clue (asking K.RES) false x n) ts us)
  item_tale (G.get_b y v) r ts us = (asking K.BIN, pair-tale y v (clue (asking K.BIN) false x n) ts us)
  item_tale (G.get_s y v) r ts us = (asking K.SYNC, pair-tale y v (clue (asking K.SYNC) false x n) ts us)
  item_tale (G.condition y k v) r ts us = (
    r,
    now (asks variable y)
        (by (relation-tale (spell_signed v ts) (signed_s ∷ us) (clue r false x n) k ∙ signed_tale ts us (clue r false x n) v)),
  )

  items_tale : (is : List Item) → Reads (λ ts. spell_items is (mark Tk.RS ∷ ts)) (collect in_item is) items_s
  unfolding tale
  items_tale [] r ts us = (r, by refl)
  items_tale (i ∷ is) r ts us =
      let a = item_tale i r (spell_items is (mark Tk.RS ∷ ts)) (items_s ∷ us) in
      let b = items_tale is a.0 ts us in
      (b.0, a.1 & b.1)

  -- The first item.
  first_item : (i : Item) (ts : List Token) (us : List Symbol) (c : Clue) →
      tale (spell_item i ts) (claim_s ∷ us) c ≡ tale (spell_item i ts) (item_s ∷ items_s ∷ us) c
  unfolding tale
  first_item (G.get_r y v) ts us c = refl
  first_item (G.get_b y v) ts us c = refl
  first_item (G.get_s y v) ts us c = refl
  first_item (G.condition y k v) ts us c = refl

  claim_tale : (l : Claim) → Reads (spell_claim l) (in_claim l) claim_s
  unfolding tale
  claim_tale G.nothing r ts us = (r, by refl)
  claim_tale (G.claim i is) r ts us =
      let a = item_tale i r (spell_items is (mark Tk.RS ∷ ts)) (items_s ∷ us) in
      let b = items_tale is a.0 ts us in
      (b.0, from (first_item i (spell_items is (mark Tk.RS ∷ ts)) us (clue r false x n)) (a.1 & b.1))

  -- WHAT A START HANDS OVER.
  abbrev sharing : Clue
  sharing = clue (asking K.RES) true x n

  given_tale : (gs : List Give) (ts : List Token) (us : List Symbol) →
      Tale (tale (spell_given gs (mark Tk.RS ∷ ts)) (given_s ∷ us) sharing) (collect in_give gs) (tale ts us sharing)
  unfolding tale
  given_tale [] ts us = by refl
  given_tale (G.give y v ∷ gs) ts us =
      pair-tale y v sharing (spell_given gs (mark Tk.RS ∷ ts)) (given_s ∷ us) & given_tale gs ts us

  gives_tale : (g : Gives) (ts : List Token) (us : List Symbol) →
      Tale (tale (spell_gives g (mark Tk.RP ∷ ts)) (gives_s ∷ us) sharing) (in_gives g) (tale ts us sharing)
  unfolding tale
  gives_tale G.no_gives ts us = by refl
  gives_tale (G.gives y v gs) ts us =
      pair-tale y v sharing (spell_given gs (mark Tk.RS ∷ mark Tk.RP ∷ ts)) (given_s ∷ sign Tk.RP ∷ us)
      & given_tale gs (mark Tk.RP ∷ ts) (sign Tk.RP ∷ us)

-- ACTIONS. Where one begins, or a declaration, nothing is left of what the last name was for.
module _ (r : ℕ) (b : Bool) (x : Name) (n : ℕ) where
  idle : (ts : List Token) (us : List Symbol) →
      tale ts (actions_s ∷ us) (clue r b x n) ≡ tale ts (actions_s ∷ us) (clue 0 false x n)
  unfolding tale
  idle [] us = refl
  idle (t ∷ ts) us = refl

  idle_try : (ts : List Token) (us : List Symbol) →
      tale ts (try_s ∷ us) (clue r b x n) ≡ tale ts (try_s ∷ us) (clue 0 false x n)
  unfolding tale
  idle_try [] us = refl
  idle_try (t ∷ ts) us = refl

  idle_text : (ts : List Token) (us : List Symbol) →
      tale ts (text_s ∷ us) (clue r b x n) ≡ tale ts (text_s ∷ us) (clue 0 false x n)
  unfolding tale
  idle_text [] us = refl
  idle_text (t ∷ ts) us = refl

-- An action goes the same way behind a try, and at the head of a body.
alike : (a : Act G.action) (ts : List Token) (us : List Symbol) (c : Clue) →
    (tale (spell_act a ts) (try_s ∷ us) c ≡ tale (spell_act a ts) (actions_s ∷ us) c)
    × (tale (spell_act a ts) (lines_s ∷ us) c ≡ tale (spell_act a ts) (actions_s ∷ us) c)
unfolding tale
alike (G.hold e) ts us c = (refl, refl)
alike (G.priority e) ts us c = (refl, refl)
alike (G.trace e) ts us c = (refl, refl)
alike (G.set y e) ts us c = (refl, refl)
alike (G.repeat v b) ts us c = (refl, refl)
alike (G.put_r y v) ts us c = (refl, refl)
alike (G.put_b y v) ts us c = (refl, refl)
alike (G.put_s y v) ts us c = (refl, refl)
alike (G.become y) ts us c = (refl, refl)
alike (G.req l) ts us c = (refl, refl)
alike (G.try l b bs) ts us c = (refl, refl)
alike (G.while l b) ts us c = (refl, refl)
alike (G.start y v g) ts us c = (refl, refl)
alike G.close ts us c = (refl, refl)

alike_block : (b : Act G.actions) (ts : List Token) (us : List Symbol) (c : Clue) →
    (tale (spell_act b (mark Tk.RB ∷ ts)) (try_s ∷ us) c ≡ tale (spell_act b (mark Tk.RB ∷ ts)) (actions_s ∷ us) c)
    × (tale (spell_act b (mark Tk.RB ∷ ts)) (lines_s ∷ us) c ≡ tale (spell_act b (mark Tk.RB ∷ ts)) (actions_s ∷ us) c)
unfolding tale
alike_block G.no_actions ts us c = (refl, refl)
alike_block (G.follow a b) ts us c = alike a (spell_act b (mark Tk.RB ∷ ts)) us c

-- What stands behind an action: whether it is a try.
abbrev behind_s : Bool → Symbol
behind_s true = try_s
behind_s false = actions_s

behind_block : (y : Bool) (b : Act G.actions) (ts : List Token) (us : List Symbol) (c : Clue) →
    tale (spell_act b (mark Tk.RB ∷ ts)) (behind_s y ∷ us) c ≡ tale (spell_act b (mark Tk.RB ∷ ts)) (actions_s ∷ us) c
behind_block true b ts us c = (alike_block b ts us c).0
behind_block false b ts us c = refl

module _ (x : Name) where
  abbrev Acts : (k : Kind) → Act k → Type 0
  Acts G.action a =
      (n r : ℕ) (w : Bool) (ts : List Token) (us : List Symbol) → (y : Bool)
      × Tale (tale (spell_act a ts) (actions_s ∷ us) (clue r w x (suc n))) (in_act a)
      (tale ts (behind_s y ∷ us) (clue 0 false x (suc n)))
  Acts G.actions b =
      (n r : ℕ) (w : Bool) (ts : List Token) (us : List Symbol) →
      Tale (tale (spell_act b (mark Tk.RB ∷ ts)) (actions_s ∷ us) (clue r w x (suc n))) (in_act b)
      (tale (mark Tk.RB ∷ ts) (actions_s ∷ us) (clue 0 false x (suc n)))
  Acts G.branches bs =
      (n r : ℕ) (w : Bool) (ts : List Token) (us : List Symbol) →
      Tale (tale (spell_act bs ts) (try_s ∷ us) (clue r w x (suc n))) (in_act bs) (tale ts (try_s ∷ us) (clue 0 false x (suc n)))

  -- An expression in brackets, and the semicolon.
  round-tale : (n : ℕ) (e : G.Expression) (ts : List Token) (us : List Symbol) →
      Tale (tale (spell e (mark Tk.RP ∷ mark Tk.SEMI ∷ ts)) (factor_s No.brackets ∷ more No.brackets round ∷ sign Tk.SEMI ∷ us)
      (clue 0 false x n)) (in_ex e) (tale ts us (clue 0 false x n))
  unfolding tale
  round-tale n e ts us = tells e round (clue 0 false x n) (mark Tk.RP ∷ mark Tk.SEMI ∷ ts) (sign Tk.SEMI ∷ us)

  -- A name and a number in brackets, and the semicolon.
  put_tale : {b : ℕ} (n w : ℕ) (y : Name) (v : Upto b) (ts : List Token) (us : List Symbol) →
      Tale (tale (pair y v (mark Tk.SEMI ∷ ts)) (pair_s b (sign Tk.SEMI ∷ us)) (clue w false x n)) (asked w y)
      (tale (mark Tk.SEMI ∷ ts) (sign Tk.SEMI ∷ us) (led (led (clue w false x n) name_s (name y)) (upto b) (number v.value)))
  put_tale n w y v ts us = pair-tale y v (clue w false x n) (mark Tk.SEMI ∷ ts) (sign Tk.SEMI ∷ us)

  acts : {k : Kind} (a : Act k) → Acts k a
  unfolding tale
  acts (G.hold e) = λ n r w ts us. (false, round-tale (suc n) e ts (actions_s ∷ us))
  acts (G.priority e) = λ n r w ts us. (false, round-tale (suc n) e ts (actions_s ∷ us))
  acts (G.trace e) = λ n r w ts us. (false, round-tale (suc n) e ts (actions_s ∷ us))
  acts (G.set y e) = λ n r w ts us.
      (false, now (asks store y) (tells e semi (clue 0 false x (suc n)) (mark Tk.SEMI ∷ ts) (actions_s ∷ us)))
  acts (G.repeat v b) = λ n r w ts us.
      let zs : List Symbol = sign Tk.LB ∷ actions_s ∷ actions_s ∷ us in
      let m = one_number (mark Tk.LB ∷ spell_act b (mark Tk.RB ∷ ts)) zs (clue 0 false x (suc n)) v in
      (false, from m (acts b (suc n) 0 false ts (actions_s ∷ us)))
  acts (G.put_r y v) = λ n r w ts us.
      (false, into (put_tale (suc n) (asking K.RES) y v ts (actions_s ∷ us)) (idle (asking K.RES) false x (suc n) ts us))
  acts (G.put_b y v) = λ n r w ts us.
      (false, into (put_tale (suc n) (asking K.BIN) y v ts (actions_s ∷ us)) (idle (asking K.BIN) false x (suc n) ts us))
  acts (G.put_s y v) = λ n r w ts us.
      (false, into (put_tale (suc n) (asking K.SYNC) y v ts (actions_s ∷ us)) (idle (asking K.SYNC) false x (suc n) ts us))
  acts (G.become y) = λ n r w ts us.
      (false, now (asks sync y) (by (idle (asking K.SYNC) false x (suc n) ts us)))
  acts (G.req l) = λ n r w ts us.
      let m = claim_tale x (suc n) l 0 (mark Tk.SEMI ∷ ts) (sign Tk.SEMI ∷ actions_s ∷ us) in
      (false, into m.1 (idle m.0 false x (suc n) ts us))
  acts (G.try l b bs) = λ n r w ts us.
      let rest : List Token = spell_act bs ts in
      let m = claim_tale x (suc n) l 0 (mark Tk.THEN ∷ mark Tk.LB ∷ spell_act b (mark Tk.RB ∷ rest))
      (sign Tk.THEN ∷ sign Tk.LB ∷ actions_s ∷ try_s ∷ us) in
      (true, m.1 & acts b (suc n) m.0 false rest (try_s ∷ us) & acts bs n 0 false ts us)
  acts (G.while l b) = λ n r w ts us.
      let m = claim_tale x (suc n) l 0 (mark Tk.LB ∷ spell_act b (mark Tk.RB ∷ ts)) (sign Tk.LB ∷ actions_s ∷ actions_s ∷ us) in
      (false, m.1 & acts b (suc n) m.0 false ts (actions_s ∷ us))
  acts (G.start y v g) = λ n r w ts us. (
    false,
    now (asks class y)
        (from
        (one_number (spell_gives g (mark Tk.RP ∷ mark Tk.SEMI ∷ ts)) (gives_s ∷ sign Tk.SEMI ∷ actions_s ∷ us)
        (clue (asking K.CLASS) true x (suc n)) v)
        (into (gives_tale x (suc n) g (mark Tk.SEMI ∷ ts) (sign Tk.SEMI ∷ actions_s ∷ us))
        (idle (asking K.RES) true x (suc n) ts us))),
  )
  acts G.close = λ n r w ts us. (false, by refl)
  acts G.no_branches = λ n r w ts us. by (idle_try r w x (suc n) ts us)
  acts (G.etry l b bs) = λ n r w ts us.
      let rest : List Token = spell_act bs ts in
      let m = claim_tale x (suc n) l 0 (mark Tk.THEN ∷ mark Tk.LB ∷ spell_act b (mark Tk.RB ∷ rest))
      (sign Tk.THEN ∷ sign Tk.LB ∷ actions_s ∷ try_s ∷ us) in
      m.1 & acts b (suc n) m.0 false rest (try_s ∷ us) & acts bs n 0 false ts us
  acts G.no_actions = λ n r w ts us. by (idle r w x (suc n) (mark Tk.RB ∷ ts) us)
  acts (G.follow a b) = λ n r w ts us.
      let m = acts a n r w (spell_act b (mark Tk.RB ∷ ts)) us in
      into m.1 (behind_block m.0 b ts us (clue 0 false x (suc n))) & acts b n 0 false ts us

-- DECLARATIONS.
module _ (x : Name) where
  abbrev inside : Clue
  inside = clue 0 false x 1

  few_end : (k : ℕ) (ts : List Token) (us : List Symbol) → tale (mark Tk.SEMI ∷ ts) (few_s k ∷ us) inside ≡ tale ts us inside
  unfolding tale
  few_end zero ts us = refl
  few_end (suc k) ts us = refl

  few_tale : {k : ℕ} (f : Few k) (ts : List Token) (us : List Symbol) →
      Tale (tale (spell_few f (mark Tk.SEMI ∷ ts)) (few_s k ∷ us) inside) (in_few f) (tale ts us inside)
  unfolding tale
  few_tale (G.no_names {k = k}) ts us = by (few_end k ts us)
  few_tale (G.also y f) ts us = now (declares LOCAL y) (few_tale f ts us)

  -- The lines of a body, up to its brace.
  lines_tale : (l : Locals) (b : Act G.actions) (w : ℕ) (ts : List Token) (us : List Symbol) →
      Tale (tale (spell_locals l (spell_act b (mark Tk.RB ∷ ts))) (lines_s ∷ us) (clue w false x 1))
      (in_locals l ++ in_act b ++ (leaves ∷ [])) (tale ts us (clue 0 false x 0))
  unfolding tale
  lines_tale l b w ts us = start l & acts x b 0 (left l) false ts us & record { law = refl }
    where
      left : Locals → ℕ
      left G.no_locals = w
      left (G.locals y f) = 0

      start : (l : Locals) →
          Tale (tale (spell_locals l (spell_act b (mark Tk.RB ∷ ts))) (lines_s ∷ us) (clue w false x 1)) (in_locals l)
          (tale (spell_act b (mark Tk.RB ∷ ts)) (actions_s ∷ us) (clue (left l) false x 1))
      start G.no_locals = by (alike_block b ts us (clue w false x 1)).1
      start (G.locals y f) = now (declares LOCAL y) (few_tale f (spell_act b (mark Tk.RB ∷ ts)) (actions_s ∷ us))

-- One declaration: the name of the last class line is still there behind it.
module _ (r : ℕ) (w : Bool) (x : Name) (ts : List Token) (us : List Symbol) where
  abbrev Declares : Declaration → Type 0
  Declares d =
      (z : Name)
      × Tale (tale (declare d ts) (text_s ∷ us) (clue r w x 0)) (in_declaration d) (tale ts (text_s ∷ us) (clue 0 false z 0))

  class_tale : (y : Name) (b : Body) → Declares (G.class y b)
  unfolding tale
  class_tale y G.announced = (y, now (announces y) (by (idle_text K.CLASS false y 0 ts us)))
  class_tale y (G.body l b) = (y, now (embodies y) (lines_tale y l b K.CLASS ts (text_s ∷ us)))

  declare_tale : (d : Declaration) → Declares d
  unfolding tale
  declare_tale (G.res y v) = (x, into (put_tale x 0 K.RES y v ts (text_s ∷ us)) (idle_text K.RES false x 0 ts us))
  declare_tale (G.bin y v) = (x, into (put_tale x 0 K.BIN y v ts (text_s ∷ us)) (idle_text K.BIN false x 0 ts us))
  declare_tale (G.sync y) = (x, now (declares K.SYNC y) (by (idle_text K.SYNC false x 0 ts us)))
  declare_tale (G.var y v) = (
    x,
    now (declares K.VAR y)
        (by (signed_tale (mark Tk.RP ∷ mark Tk.SEMI ∷ ts) (sign Tk.RP ∷ sign Tk.SEMI ∷ text_s ∷ us) (clue K.VAR false x 0) v
        ∙ idle_text K.VAR false x 0 ts us)),
  )
  declare_tale (G.sampler y v u m) =
      let c : Clue = clue K.SAMPLER false x 0 in
      let ps : List Token = mark Tk.RP ∷ mark Tk.SEMI ∷ ts in
      let ss : List Symbol = sign Tk.RP ∷ sign Tk.SEMI ∷ text_s ∷ us in (
        x,
        now (declares K.SAMPLER y)
            (by (signed_tale (mark Tk.COMMA ∷ spell_signed u (mark Tk.COMMA ∷ number m.value ∷ ps))
            (sign Tk.COMMA ∷ signed_s ∷ sign Tk.COMMA ∷ upto No.top_number ∷ ss) c v
            ∙ signed_tale (mark Tk.COMMA ∷ number m.value ∷ ps) (sign Tk.COMMA ∷ upto No.top_number ∷ ss) c u
            ∙ one_number ps ss c m
            ∙ idle_text K.SAMPLER false x 0 ts us)),
      )
  declare_tale (G.class y b) = class_tale y b
  declare_tale (G.entity y v) =
      (x, into (put_tale x 0 (asking K.CLASS) y v ts (text_s ∷ us)) (idle_text (asking K.CLASS) false x 0 ts us))

text_tale : (t : Text) (r : ℕ) (w : Bool) (x : Name) →
    Tale (tale (spell_text t []) (text_s ∷ []) (clue r w x 0)) (events t) ([], true)
unfolding tale
text_tale [] r w x = by refl
text_tale (d ∷ ds) r w x =
    let m = declare_tale r w x (spell_text ds []) [] d in m.1 & text_tale ds 0 false m.0

-- ALL OF A TEXT.
pub story_text : (place : ℕ → ℕ) (t : Text) → story place 0 (spell_text t []) (text_s ∷ []) at_first ≡ events t
story_text place t =
    story-tale place 0 (spell_text t []) (text_s ∷ []) at_first
    ∙ ap (λ (a : Account). a.0) (text_tale t 0 false []).law
    ∙ append-nil (events t)

pub fits_text : (t : Text) → fits (spell_text t []) (text_s ∷ []) ≡ true
fits_text t =
    sym (tale-fits (spell_text t []) (text_s ∷ []) (clue_of at_first)) ∙ ap (λ (a : Account). a.1) (text_tale t 0 false []).law

-- THE BEGINNING of a text: its events and those that follow, that it fits, and what is known behind it.
pub never : {A : Type 0} → ◌≡◌ {A = Bool} false true → A
never e = let z : ◌≡◌ {A = ℕ} 0 1 = cc in absurd (omega arith)

pub both_true : (a b : Bool) → a && b ≡ true → (a ≡ true) × (b ≡ true)
both_true true b e = (refl, e)
both_true false b e = never e

fits_front : (ts us : List Token) (ss : List Symbol) → fits (ts ++ us) ss ≡ true → fits ts ss ≡ true
unfolding fits
fits_front [] us ss h = refl
fits_front (t ∷ ts) us [] h = h
fits_front (t ∷ ts) us (s ∷ ss) h =
    let zs : List Symbol = next_in (step s t) ++ ss in
    let g = both_true (fits_in (step s t)) (fits (ts ++ us) zs) h in
    ap (λ (b : Bool). b && fits ts zs) g.0 ∙ fits_front ts us zs g.1

module _ (place : ℕ → ℕ) (t : Text) (ts us : List Token) (e : spell_text t [] ≡ ts ++ us) where
  abbrev begun : List Event
  begun = story place 0 ts (text_s ∷ []) at_first

  abbrev later : List Event
  later = story place (length ts) us (piled_from ts (text_s ∷ [])) (flow place 0 ts (text_s ∷ []) at_first)

  pub events_split : events t ≡ begun ++ later
  events_split =
      sym (story_text place t)
      ∙ ap (λ (xs : List Token). story place 0 xs (text_s ∷ []) at_first) e
      ∙ story-append place 0 ts us (text_s ∷ []) at_first
      ∙ ap (λ (n : ℕ). begun ++ story place n us (piled_from ts (text_s ∷ [])) (flow place 0 ts (text_s ∷ []) at_first))
      (omega arith)

  pub fits_begun : fits ts (text_s ∷ []) ≡ true
  fits_begun = fits_front ts us (text_s ∷ []) (ap (λ (xs : List Token). fits xs (text_s ∷ [])) (sym e) ∙ fits_text t)

  pub known_begun : Fewer [] (events t) → (flow place 0 ts (text_s ∷ []) at_first).known ≡ after [] begun
  known_begun h =
      known_story place 0 ts (text_s ∷ []) at_first
      (fewer_split [] begun later (subst (λ (es : List Event). Fewer [] es) events_split h)).0
