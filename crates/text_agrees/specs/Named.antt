-- What one token does with names, and where the first trouble is where events follow others.
-- Assumes nothing.
use Prim.Native.Nat.{ℕ, zero, suc, ◌+◌, ◌-◌, ◌≤◌, ◌<◌}
use Rattle.std.proofs.Common.{arith, sym, ◌∙◌, ap}
use Rattle.std.specs.Prelude.{◌≡◌, List, [], ◌∷◌, ◌++◌, Bool, leb, if◌then◌else◌}
use Rattle.std.proofs.Math.Path.{refl}
use Rattle.std.proofs.Math.Bool.{true, false}
use Rattle.std.proofs.Math.Option.{Option, none, some}
use Rattle.std.proofs.Math.Dec.{eqb}
use Rattle.semantics.specs.Kinds as K
use Rattle.text_semantics.specs.Token as Tk
use Rattle.text_semantics.specs.Token.{Token, name, number, mark, bad}
use Rattle.text_semantics.specs.Grammar.{Name}
use Rattle.text_semantics.specs.Names.{Known, Event, asks, declares, announces, embodies, leaves, knows, trouble, Troubled}
use Rattle.text_semantics.specs.Names.{names, trouble_in, after, store, value, variable}
use Rattle.text_semantics.specs.Reading.{Symbol, step, one, the, a_name, a_number, factor_s, minus_s, more, signed_s, relation_s}
use Rattle.text_semantics.specs.Reading.{item_s, claim_s, items_s, gives_s, given_s, actions_s, try_s, few_s, lines_s, body_s, text_s}
use Rattle.text_machine.specs.Entry.{ASK, mark_in, name_in}
use Rattle.text_machine.specs.Machine.{Reader, event_at, trouble_at, calls, of_name}
use Rattle.text_agrees.specs.Events.{happens}
use Rattle.text_agrees.specs.Tales.{fits_in, never}
use Rattle.text_agrees.specs.Counts.{name_of, total, is_body}

-- THE FIRST TROUBLE, where events follow others.
abbrev raised : ℕ → Option Troubled → Option Troubled
raised k q = elim q [ none ↦ none | some x ↦ some (record { number = x.number; before = k + x.before }) ]

abbrev either : ℕ → Option ℕ → Option Troubled → Option Troubled
either k o q = elim o [ some n ↦ some (record { number = n; before = 0 }) | none ↦ raised k q ]

next : (ks : List Known) (e : Event) (es : List Event) →
    trouble_in ks (e ∷ es) ≡ either (names e) (trouble ks e) (trouble_in (knows ks e) es)
unfolding trouble_in
next ks e es = refl

not_none : {A P : Type 0} {a : A} → ◌≡◌ {A = Option A} (some a) none → P
not_none e = let z : ◌≡◌ {A = ℕ} 0 1 = cc in absurd (omega arith)

raised_none : (q : Option Troubled) → raised 0 q ≡ q
raised_none none = refl
raised_none (some x) =
    let f : ℕ → Option Troubled = λ n. some (record { number = x.number; before = n }) in
    let h : 0 + x.before ≡ x.before = omega arith in ap f h

raised_twice : (a b : ℕ) (q : Option Troubled) → raised a (raised b q) ≡ raised (a + b) q
raised_twice a b none = refl
raised_twice a b (some x) =
    let f : ℕ → Option Troubled = λ n. some (record { number = x.number; before = n }) in
    let h : a + (b + x.before) ≡ a + b + x.before = omega arith in ap f h

trouble-names : (ks : List Known) (e : Event) (n : ℕ) → trouble ks e ≡ some n → names e ≡ 1
unfolding trouble
trouble-names ks (asks ws x) n h = refl
trouble-names ks (declares w x) n h = refl
trouble-names ks (announces x) n h = refl
trouble-names ks (embodies x) n h = refl
trouble-names ks leaves n h = not_none (sym h)

abbrev before_in : Option Troubled → ℕ
before_in none = 0
before_in (some x) = x.before

-- Where the first are in none,
trouble_behind : (ks : List Known) (es fs : List Event) → trouble_in ks es ≡ none →
    trouble_in ks (es ++ fs) ≡ raised (total es) (trouble_in (after ks es) fs)
unfolding after
trouble_behind ks [] fs h = sym (raised_none (trouble_in ks fs))
trouble_behind ks (e ∷ es) fs h =
    next ks e (es ++ fs)
    ∙ go (trouble ks e) (trouble_in (knows ks e) es) (sym (next ks e es) ∙ h) (trouble_behind (knows ks e) es fs)
  where
    ahead : Option Troubled
    ahead = trouble_in (knows ks e) (es ++ fs)

    go : (o : Option ℕ) (q : Option Troubled) → either (names e) o q ≡ none →
        (q ≡ none → ahead ≡ raised (total es) (trouble_in (after (knows ks e) es) fs)) →
        either (names e) o ahead ≡ raised (names e + total es) (trouble_in (after (knows ks e) es) fs)
    go (some n) q z f = not_none z
    go none (some x) z f = not_none z
    go none none z f =
        ap (λ (p : Option Troubled). raised (names e) p) (f refl)
        ∙ raised_twice (names e) (total es) (trouble_in (after (knows ks e) es) fs)

-- and where one of them is.
nothing : (ks : List Known) → trouble_in ks [] ≡ none
unfolding trouble_in
nothing ks = refl

trouble_front : (ks : List Known) (es fs : List Event) (x : Troubled) → trouble_in ks es ≡ some x →
    (trouble_in ks (es ++ fs) ≡ some x) × (x.before < total es)
trouble_front ks [] fs x h = not_none (sym h ∙ nothing ks)
trouble_front ks (e ∷ es) fs x h =
    let m = go (trouble ks e) refl (trouble_in (knows ks e) es) (sym (next ks e es) ∙ h) (trouble_front (knows ks e) es fs) in
    (next ks e (es ++ fs) ∙ m.0, m.1)
  where
    go : (o : Option ℕ) → trouble ks e ≡ o → (q : Option Troubled) → either (names e) o q ≡ some x →
        ((y : Troubled) → q ≡ some y → (trouble_in (knows ks e) (es ++ fs) ≡ some y) × (y.before < total es)) →
        (either (names e) o (trouble_in (knows ks e) (es ++ fs)) ≡ some x) × (x.before < names e + total es)
    go (some n) t q z f =
        let b : x.before ≡ 0 = ap before_in (sym z) in
        let c = trouble-names ks e n t in
        (z, omega arith)
    go none t none z f = not_none (sym z)
    go none t (some y) z f =
        let b : x.before ≡ names e + y.before = ap before_in (sym z) in
        let m = f y refl in
        let c = m.1 in
        (ap (λ (p : Option Troubled). raised (names e) p) m.0 ∙ z, omega arith)

-- So where the first are in none, trouble comes behind their names; and an event behind them is in trouble or not.
module _ (es : List Event) (h : trouble_in [] es ≡ none) where
  pub trouble_late : (fs : List Event) (x : Troubled) → trouble_in [] (es ++ fs) ≡ some x → total es ≤ x.before
  trouble_late fs x z = go (trouble_in (after [] es) fs) (sym (trouble_behind [] es fs h) ∙ z)
    where
      go : (q : Option Troubled) → raised (total es) q ≡ some x → total es ≤ x.before
      go none z = not_none (sym z)
      go (some y) z = let b : x.before ≡ total es + y.before = ap before_in (sym z) in omega arith

  pub trouble_here : (e : Event) (fs : List Event) (n : ℕ) → trouble (after [] es) e ≡ some n →
      trouble_in [] (es ++ e ∷ fs) ≡ some (record { number = n; before = total es })
  trouble_here e fs n t =
      let ks : List Known = after [] es in
      let f : ℕ → Option Troubled = λ b. some (record { number = n; before = b }) in
      let b : total es + 0 ≡ total es = omega arith in
      trouble_behind [] es (e ∷ fs) h
      ∙ ap (λ (q : Option Troubled). raised (total es) q)
      (next ks e fs ∙ ap (λ (o : Option ℕ). either (names e) o (trouble_in (knows ks e) fs)) t)
      ∙ ap f b

  pub trouble_past : (e : Event) (fs : List Event) → trouble (after [] es) e ≡ none → (x : Troubled) →
      trouble_in [] (es ++ e ∷ fs) ≡ some x → total es + names e ≤ x.before
  trouble_past e fs t x z =
      go (trouble_in (knows (after [] es) e) fs)
      (ap (λ (q : Option Troubled). raised (total es) q)
      (sym (ap (λ (o : Option ℕ). either (names e) o (trouble_in (knows (after [] es) e) fs)) t) ∙ sym (next (after [] es) e fs))
      ∙ sym (trouble_behind [] es (e ∷ fs) h) ∙ z)
    where
      go : (q : Option Troubled) → raised (total es) (raised (names e) q) ≡ some x → total es + names e ≤ x.before
      go none z = not_none (sym z)
      go (some y) z = let b : x.before ≡ total es + (names e + y.before) = ap before_in (sym z) in omega arith

-- Where no trouble is among the first n names, there is none in events with so many.
module _ (n : ℕ) (es : List Event) where
  pub untroubled : (fs : List Event) → ((x : Troubled) → trouble_in [] (es ++ fs) ≡ some x → n ≤ x.before) → total es ≤ n →
      trouble_in [] es ≡ none
  untroubled fs f l = go (trouble_in [] es) refl
    where
      go : (q : Option Troubled) → trouble_in [] es ≡ q → q ≡ none
      go none e = refl
      go (some x) e =
          let m = trouble_front [] es fs x e in
          let a = f x m.0 in
          let b = m.1 in
          absurd (omega arith)

  pub untroubled_next : (e : Event) (fs : List Event) →
      ((x : Troubled) → trouble_in [] (es ++ e ∷ fs) ≡ some x → n ≤ x.before) → total es < n → trouble (after [] es) e ≡ none
  untroubled_next e fs f l = go (trouble (after [] es) e) refl
    where
      go : (q : Option ℕ) → trouble (after [] es) e ≡ q → q ≡ none
      go none t = refl
      go (some m) t =
          let c = untroubled (e ∷ fs) f (omega arith) in
          let a = f (record { number = m; before = total es }) (trouble_here es c e fs m t) in
          absurd (omega arith)

-- WHAT A TOKEN DOES with names: nothing; it is a name that is asked for or declared; it is that of a class line; that line goes
-- on, and announces the class or opens its body.
pub data Doing (r : Reader) (s : Symbol) (t : Token) : Type 0 where
  quiet : event_at r s t ≡ leaves → name_of t ≡ 0 → is_body s ≡ false → Doing r s t
  told : (e : Event) → happens r s t ≡ e ∷ [] → event_at r s t ≡ e → names e ≡ 1 → name_of t ≡ 1 → is_body s ≡ false →
      ((p : ℕ) → trouble_at r s p ≡ p) → Doing r s t
  naming : happens r s t ≡ [] → event_at r s t ≡ embodies (name_in t) → calls r s ≡ true → name_of t ≡ 1 → is_body s ≡ false →
      ((p : ℕ) → trouble_at r s p ≡ p) → Doing r s t
  announcing : happens r s t ≡ announces r.called ∷ [] → event_at r s t ≡ announces r.called → name_of t ≡ 0 →
      is_body s ≡ true → ((p : ℕ) → trouble_at r s p ≡ r.called_at) → Doing r s t
  opening : happens r s t ≡ embodies r.called ∷ [] → event_at r s t ≡ leaves → name_of t ≡ 0 → is_body s ≡ true → Doing r s t

if_true : {A : Type 0} (b : Bool) (x y : A) → b ≡ true → (if b then x else y) ≡ x
if_true b x y e = ap (λ (z : Bool). if z then x else y) e

if_false : {A : Type 0} (b : Bool) (x y : A) → b ≡ false → (if b then x else y) ≡ y
if_false b x y e = ap (λ (z : Bool). if z then x else y) e

module _ (r : Reader) where
  -- A name, where one is asked for or declared,
  doing_asked : (x : Name) → Doing r (one a_name) (name x)
  unfolding happens event_at
  doing_asked x = go (leb ASK w) (eqb w K.CLASS) refl refl
    where
      w : ℕ
      w = r.draft.role

      go : (a b : Bool) → leb ASK w ≡ a → eqb w K.CLASS ≡ b → Doing r (one a_name) (name x)
      go true b p q = told (asks ((w - ASK) ∷ []) x) (if_true _ _ _ p) (if_true _ _ _ p) refl refl refl (λ p. refl)
      go false true p q =
          naming (if_false _ _ _ p ∙ if_true _ _ _ q) (if_false _ _ _ p ∙ if_true _ _ _ q) q refl refl (λ p. refl)
      go false false p q =
          told (declares w x) (if_false _ _ _ p ∙ if_false _ _ _ q) (if_false _ _ _ p ∙ if_false _ _ _ q) refl refl refl
          (λ p. refl)

  -- and anywhere.
  doing_name : (x : Name) (s : Symbol) → fits_in (step s (name x)) ≡ true → Doing r s (name x)
  unfolding happens event_at
  doing_name x (one (the k)) h = never h
  doing_name x (one a_name) h = doing_asked x
  doing_name x (one (a_number b)) h = never h
  doing_name x (factor_s n) h = told (asks value x) refl refl refl refl refl (λ p. refl)
  doing_name x (minus_s n) h = told (asks value x) refl refl refl refl refl (λ p. refl)
  doing_name x (more n k) h = never h
  doing_name x signed_s h = never h
  doing_name x relation_s h = never h
  doing_name x item_s h = told (asks variable x) refl refl refl refl refl (λ p. refl)
  doing_name x claim_s h = told (asks variable x) refl refl refl refl refl (λ p. refl)
  doing_name x items_s h = never h
  doing_name x gives_s h = never h
  doing_name x given_s h = never h
  doing_name x actions_s h = told (asks store x) refl refl refl refl refl (λ p. refl)
  doing_name x try_s h = told (asks store x) refl refl refl refl refl (λ p. refl)
  doing_name x (few_s zero) h = never h
  doing_name x (few_s (suc n)) h = never h
  doing_name x lines_s h = told (asks store x) refl refl refl refl refl (λ p. refl)
  doing_name x body_s h = never h
  doing_name x text_s h = never h

  -- What is no name.
  doing_body : (t : Token) → name_of t ≡ 0 → Doing r body_s t
  unfolding happens event_at
  doing_body t n = go (eqb (mark_in t) Tk.SEMI) refl
    where
      go : (b : Bool) → eqb (mark_in t) Tk.SEMI ≡ b → Doing r body_s t
      go true e = announcing (if_true _ _ _ e) (if_true _ _ _ e) n refl (λ p. refl)
      go false e = opening (if_false _ _ _ e) (if_false _ _ _ e) n refl

  doing_other : (t : Token) → ((f : Name → Event) → of_name t f ≡ leaves) → name_of t ≡ 0 → (s : Symbol) → Doing r s t
  unfolding event_at
  doing_other t f n (one (the k)) = quiet refl n refl
  doing_other t f n (one a_name) = quiet (f _) n refl
  doing_other t f n (one (a_number b)) = quiet refl n refl
  doing_other t f n (factor_s d) = quiet (f _) n refl
  doing_other t f n (minus_s d) = quiet (f _) n refl
  doing_other t f n (more d k) = quiet refl n refl
  doing_other t f n signed_s = quiet refl n refl
  doing_other t f n relation_s = quiet refl n refl
  doing_other t f n item_s = quiet (f _) n refl
  doing_other t f n claim_s = quiet (f _) n refl
  doing_other t f n items_s = quiet refl n refl
  doing_other t f n gives_s = quiet refl n refl
  doing_other t f n given_s = quiet refl n refl
  doing_other t f n actions_s = quiet (f _) n refl
  doing_other t f n try_s = quiet (f _) n refl
  doing_other t f n (few_s d) = quiet refl n refl
  doing_other t f n lines_s = quiet (f _) n refl
  doing_other t f n body_s = doing_body t n
  doing_other t f n text_s = quiet refl n refl

  pub doing : (s : Symbol) (t : Token) → fits_in (step s t) ≡ true → Doing r s t
  doing s (name x) h = doing_name x s h
  doing s (number n) h = doing_other (number n) (λ f. refl) refl s
  doing s (mark k) h = doing_other (mark k) (λ f. refl) refl s
  doing s bad h = doing_other bad (λ f. refl) refl s
