-- What a text says, and what is wrong with it: the words that the promises are said in, and how each comes about.
-- Assumes nothing.
use Rattle.std.specs.Prelude.{ℕ, suc, ◌+◌, ◌≤◌, ◌<◌, ◌≡◌, refl, List, [], ◌∷◌, ◌++◌, true, length, take, get_or}
use Rattle.std.proofs.Common.{arith, sym, ◌∙◌, ap, subst, append_assoc, length-append, take_at}
use Rattle.std.proofs.Math.Option.{Option, none, some}
use Rattle.std.proofs.Math.ListN.{get_or-append}
use Rattle.std.proofs.lemmas.List.{get_or_at, take-append-le}
use Rattle.semantics.specs.Model.{Model}
use Rattle.semantics.specs.Decode as D
use Rattle.semantics.specs.Decode.{decode}
use Rattle.text_semantics.specs.Token as K
use Rattle.text_semantics.specs.Token.{Token, name, mark, bad}
use Rattle.text_semantics.specs.Lexing.{Placed, tokens, put}
use Rattle.text_semantics.specs.Grammar.{Name, Text, spell_text}
use Rattle.text_semantics.specs.Names.{Event, Troubled, events, after, trouble, trouble_in}
use Rattle.text_semantics.specs.Meaning.{records}
use Rattle.text_semantics.specs.Written.{file_of, owner_at}
use Rattle.text_semantics.specs.Reading.{reading}
use Rattle.text_semantics.specs.Answer.{fitting, tree_in, place_at, names_of, is_cut, so_far}
use Rattle.text_promises.specs.Spellings.{name_by, names_in, names_by, names_append, names_parts, names_spelled}
use Rattle.text_promises.specs.Piled.{all_fit, one_misfits, ended_fit}
use Rattle.text_promises.specs.Places.{kinds, kinds-append, kinds-length, kinds_before, kinds_names, end_there}
use Rattle.text_promises.specs.Places.{place_there, stands, place_before}
use Rattle.text_promises.specs.Troubles.{First, first_trouble}
use Rattle.text_promises.specs.Met.{in_hand, file_behind, Calm}

-- A TEXT SAYS a tree that its tokens spell, with no trouble in its names, whose file passes checks 1 to 10.
pub record Said (bs : List ℕ) : Type 0 where
  pub tree : Text
  pub spelled : spell_text tree [] ≡ kinds (tokens bs)
  pub untroubled : trouble_in [] (events tree) ≡ none
  pub model : Model
  pub passes : decode (file_of (records tree)) ≡ D.accepted model

abbrev pub file : {bs : List ℕ} → Said bs → List ℕ
file s = file_of (records s.tree)

-- A BEGINNING of a text: a tree whose spelling begins with its first n tokens.
pub record Begun (bs : List ℕ) (n : ℕ) : Type 0 where
  pub tree : Text
  pub rest : List Token
  pub spelled : spell_text tree [] ≡ take n (kinds (tokens bs)) ++ rest

-- THE FIRST TOKEN THAT DOESN'T FIT is the one with i before it: some tree begins with those i, and none with that one too.
pub record Misfit (bs : List ℕ) (i : ℕ) : Type 0 where
  pub there : i < length (tokens bs)
  pub one_without : Begun bs i
  pub none_with : Begun bs (suc i) → ⊥

-- THE FIRST NAME IN TROUBLE n is the token with i before it. A tree begins with that and maybe more; of its events the one that
-- has this name is in trouble n by what is known there, and none before it is in trouble.
pub record InTrouble (bs : List ℕ) (n i : ℕ) : Type 0 where
  pub called : Name
  pub token : get_or (kinds (tokens bs)) i bad ≡ name called
  pub so_many : ℕ
  pub there : i < so_many
  pub begun : Begun bs so_many
  pub before : List Event
  pub event : Event
  pub behind : List Event
  pub parts : events begun.tree ≡ before ++ event ∷ behind
  pub its_name : name_by event ≡ called ∷ []
  pub names_before : length (names_in (take i (kinds (tokens bs)))) ≡ length (names_by before)
  pub untroubled : trouble_in [] before ≡ none
  pub troubled : trouble (after [] before) event ≡ some n

-- RECORDS ARE REFUSED at place p: at a cut those so far, which are those of the tree in hand, which begins with the tokens up to
-- the cut; or at the end all of them. p is the place of the token that the refused record belongs to.
pub data Refused (bs : List ℕ) : ℕ → Type 0 where
  at_a_cut : (i : ℕ) → is_cut (get_or (kinds (tokens bs)) i bad) ≡ true → (b : Begun bs (suc i))
      → b.tree ≡ tree_in (reading (take (suc i) (kinds (tokens bs)))) → (n q : ℕ)
      → so_far (file_of (records b.tree)) ≡ D.refused n q
      → Refused bs (place_at (take (suc i) (tokens bs)) (owner_at q (records b.tree)))
  at_the_end : (t : Text) → spell_text t [] ≡ kinds (tokens bs) → trouble_in [] (events t) ≡ none → (n q : ℕ)
      → decode (file_of (records t)) ≡ D.refused n q → Refused bs (place_at (tokens bs) (owner_at q (records t)))

-- WHERE SOME TOKENS FIT, the tree in hand begins with them.
fit_kinds : (ts : List Placed) → length ts ≤ fitting (length ts) (reading (kinds ts))
    → length (kinds ts) ≤ fitting (length (kinds ts)) (reading (kinds ts))
fit_kinds ts l = rw (kinds-length ts) l

module _ (bs : List ℕ) (ts ks : List Placed) (n : ℕ) (e : tokens bs ≡ ts ++ ks) (h : length ts ≡ n) where
  first_kinds : take n (kinds (tokens bs)) ≡ kinds ts
  first_kinds = ap (λ (us : List Placed). take n (kinds us)) e ∙ kinds_before ts ks n h

  abbrev fit_begun : length ts ≤ fitting (length ts) (reading (kinds ts)) → Begun bs n
  fit_begun l =
      let a = all_fit (kinds ts) (fit_kinds ts l) in
      record { tree = in_hand ts; rest = a.0; spelled = a.1 ∙ ap (λ (us : List Token). us ++ a.0) (sym first_kinds) }

  misfit_none : fitting (length ts) (reading (kinds ts)) < length ts → Begun bs n → ⊥
  misfit_none l b =
      one_misfits (kinds ts) (rw (kinds-length ts) l) b.tree b.rest
      (b.spelled ∙ ap (λ (us : List Token). us ++ b.rest) first_kinds)

one_more : (ts : List Placed) (k : Placed) → length (ts ++ (k ∷ [])) ≡ suc (length ts)
one_more ts k = omega (arith, length-append ts (k ∷ []))

-- WHERE ALL FIT and no trouble is with a name of theirs, the text says the tree in hand.
pub calm_spelled : (bs : List ℕ) → Calm (tokens bs) → spell_text (in_hand (tokens bs)) [] ≡ kinds (tokens bs)
calm_spelled bs c =
    let e = end_there bs in
    ended_fit (kinds (tokens bs)) (kinds e.0)
    (ap kinds e.1 ∙ kinds-append e.0 (put (mark K.END) (length bs))) (fit_kinds (tokens bs) c.fit)

-- the names that a tree spells, around the first that is in trouble
names_first : (t : Text) (x : Troubled) (f : First [] (events t) x)
    → names_in (spell_text t []) ≡ names_by f.before ++ f.called ∷ names_by f.behind
names_first t x f =
    names_spelled t ∙ ap (λ (es : List Event). names_by es) f.parts
    ∙ names_parts f.before f.event f.behind f.called f.names_it

pub calm_untroubled : (bs : List ℕ) → Calm (tokens bs) → trouble_in [] (events (in_hand (tokens bs))) ≡ none
calm_untroubled bs c = go (trouble_in [] (events (in_hand (tokens bs)))) refl
  where
    go : (o : Option Troubled) → trouble_in [] (events (in_hand (tokens bs))) ≡ o → o ≡ none
    go none e = refl
    go (some x) e =
        let f = first_trouble [] (events (in_hand (tokens bs))) x e in
        let a = c.named x e in
        let b = kinds_names (tokens bs) in
        let d = ap (λ (ts : List Token). length (names_in ts)) (calm_spelled bs c) in
        let g = ap length (names_first (in_hand (tokens bs)) x f) in
        let h = length-append (names_by f.before) (f.called ∷ names_by f.behind) in
        let i = f.so_many in
        absurd (omega arith)

abbrev pub calm_said : (bs : List ℕ) → Calm (tokens bs) → (m : Model) → decode (file_behind (tokens bs)) ≡ D.accepted m
    → Said bs
calm_said bs c m e =
    record {
      tree = in_hand (tokens bs);
      spelled = calm_spelled bs c;
      untroubled = calm_untroubled bs c;
      model = m;
      passes = e;
    }

-- WHAT IS WRONG, in the tokens ts or at k behind them.
pub first_misfit : (bs : List ℕ) (ts : List Placed) (k : Placed) (ks : List Placed) → tokens bs ≡ ts ++ k ∷ ks → Calm ts
    → fitting (length (ts ++ (k ∷ []))) (reading (kinds (ts ++ (k ∷ [])))) < length (ts ++ (k ∷ []))
    → Misfit bs (length ts) × (k.place ≡ place_at (tokens bs) (length ts))
first_misfit bs ts k ks e c l =
    let us : List Placed = ts ++ (k ∷ []) in
    let f : tokens bs ≡ us ++ ks = e ∙ sym (append_assoc ts (k ∷ []) ks) in
    let m : length (tokens bs) ≡ length ts + suc (length ks) = ap length e ∙ length-append ts (k ∷ ks) in (
      record {
        there = omega arith;
        one_without = fit_begun bs ts (k ∷ ks) (length ts) e refl c.fit;
        none_with = misfit_none bs us ks (suc (length ts)) f (one_more ts k) l;
      },
      sym (place_there ts k ks) ∙ ap (λ (x : List Placed). place_at x (length ts)) (sym e),
    )

pub name_in_trouble : (bs : List ℕ) (ts ks : List Placed) (x : Troubled) → tokens bs ≡ ts ++ ks
    → length ts ≤ fitting (length ts) (reading (kinds ts)) → trouble_in [] (events (in_hand ts)) ≡ some x
    → x.before < length (names_of ts)
    → (i : ℕ) × InTrouble bs x.number i × (place_at (names_of ts) x.before ≡ place_at (tokens bs) i)
name_in_trouble bs ts ks x e l t m =
    let f = first_trouble [] (events (in_hand ts)) x t in
    let a = all_fit (kinds ts) (fit_kinds ts l) in
    let s = stands ts x.before m in
    let k = kinds_names ts in
    let n = kinds-length ts in
    let i = s.there in
    let both : names_in (kinds ts) ++ names_in a.0 ≡ names_by f.before ++ f.called ∷ names_by f.behind =
    sym (names_append (kinds ts) a.0) ∙ ap names_in (sym a.1) ∙ names_first (in_hand ts) x f in
    let its : get_or (names_in (kinds ts)) x.before [] ≡ f.called =
    sym (get_or-append (names_in (kinds ts)) (names_in a.0) [] x.before (omega arith))
    ∙ ap (λ (xs : List Name). get_or xs x.before []) both
    ∙ get_or_at (names_by f.before) f.called (names_by f.behind) [] x.before f.so_many in
    let parts : kinds (tokens bs) ≡ kinds ts ++ kinds ks = ap kinds e ∙ kinds-append ts ks in (
      s.at,
      record {
        called = f.called;
        token =
            ap (λ (us : List Token). get_or us s.at bad) parts
            ∙ get_or-append (kinds ts) (kinds ks) bad s.at (omega arith) ∙ s.token ∙ ap name its;
        so_many = length ts;
        there = s.there;
        begun = fit_begun bs ts ks (length ts) e refl l;
        before = f.before;
        event = f.event;
        behind = f.behind;
        parts = f.parts;
        its_name = f.names_it;
        names_before =
            ap (λ (us : List Token). length (names_in (take s.at us))) parts
            ∙ ap (λ (us : List Token). length (names_in us)) (take-append-le s.at (kinds ts) (kinds ks) (omega arith))
            ∙ s.so_many ∙ sym f.so_many;
        untroubled = f.untroubled;
        troubled = f.troubled;
      },
      sym s.place ∙ sym (place_before ts ks s.at i) ∙ ap (λ (us : List Placed). place_at us s.at) (sym e),
    )

pub cut_refused : (bs : List ℕ) (ts : List Placed) (k : Placed) (ks : List Placed) → tokens bs ≡ (ts ++ (k ∷ [])) ++ ks
    → Calm (ts ++ (k ∷ [])) → is_cut k.token ≡ true → (n q : ℕ) → so_far (file_behind (ts ++ (k ∷ []))) ≡ D.refused n q
    → Refused bs (place_at (ts ++ (k ∷ [])) (owner_at q (records (in_hand (ts ++ (k ∷ []))))))
cut_refused bs ts k ks e c h n q f =
    let us : List Placed = ts ++ (k ∷ []) in
    let i : ℕ = length ts in
    let here : get_or (kinds (tokens bs)) i bad ≡ k.token =
    ap (λ (x : List Placed). get_or (kinds x) i bad) (e ∙ append_assoc ts (k ∷ []) ks)
    ∙ ap (λ (x : List Token). get_or x i bad) (kinds-append ts (k ∷ ks))
    ∙ get_or_at (kinds ts) k.token (kinds ks) bad i (kinds-length ts) in
    let upto : take (suc i) (tokens bs) ≡ us = ap (take (suc i)) e ∙ take_at us ks (suc i) (one_more ts k) in
    let o : ℕ = owner_at q (records (in_hand us)) in
    subst (λ (p : ℕ). Refused bs p) (ap (λ (x : List Placed). place_at x o) upto)
    (at_a_cut i (ap is_cut here ∙ h) (fit_begun bs us ks (suc i) e (one_more ts k) c.fit)
    (ap (λ (x : List Token). tree_in (reading x)) (sym (first_kinds bs us ks (suc i) e (one_more ts k)))) n q f)

pub all_refused : (bs : List ℕ) → Calm (tokens bs) → (n q : ℕ) → decode (file_behind (tokens bs)) ≡ D.refused n q
    → Refused bs (place_at (tokens bs) (owner_at q (records (in_hand (tokens bs)))))
all_refused bs c n q f = at_the_end (in_hand (tokens bs)) (calm_spelled bs c) (calm_untroubled bs c) n q f
