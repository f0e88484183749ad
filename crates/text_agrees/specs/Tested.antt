-- At every token the machine's test of names says what the definition says: no trouble, or which, and at which place.
-- Assumes nothing.
use Rattle.std.specs.Prelude.{ℕ, ◌+◌, ◌≤◌, ◌<◌, ◌≡◌, Bool, true, false, ◌&&◌, ltb, length, if◌then◌else◌}
use Rattle.std.proofs.Common.{arith, sym, ◌∙◌, subst, length-append, lt-ltb, le-ltb, ltb-true, ltb-false}
use Rattle.std.proofs.Math.Path.{refl, ap}
use mathlib.Core.List.{List, [], ◌∷◌, ◌++◌, append_assoc, append-nil}
use Rattle.std.proofs.Math.Option.{Option, none, some}
use Rattle.text_semantics.specs.Token.{Token, name, number, mark, bad}
use Rattle.text_semantics.specs.Lexing.{Placed}
use Rattle.text_semantics.specs.Grammar.{Name, Text, spell_text}
use Rattle.text_semantics.specs.Names.{Known, Event, embodies, announces, leaves, trouble, Troubled, names, trouble_in}
use Rattle.text_semantics.specs.Names.{after, events}
use Rattle.text_semantics.specs.Table.{Result, right, wrong, Values, Rule, says, some_values}
use Rattle.text_semantics.specs.Reading.{Symbol, Of, say, step, some_of, reading, body_s, text_s, one, factor_s, minus_s, more}
use Rattle.text_semantics.specs.Reading.{signed_s, relation_s, item_s, claim_s, items_s, gives_s, given_s, actions_s, try_s, few_s, lines_s}
use Rattle.text_semantics.specs.Answer.{Answer, refused, written, fitting, tree_in, read, place_at, is_name, names_of, at_name}
use Rattle.text_machine.specs.Entry.{name_in}
use Rattle.text_machine.specs.Machine.{Reader, at_first, event_at, trouble_at, calls}
use Rattle.text_machine.specs.Machine as M
use Rattle.text_promises.specs.Tables.{completed, and_then, moved, piled, piled_completes}
use Rattle.text_promises.specs.Piled.{all_fit}
use Rattle.text_promises.specs.Places.{kinds, kinds-append, kinds-length, place_there}
use Rattle.text_promises.specs.Met.{in_hand, Calm}
use Rattle.text_agrees.specs.Flow.{next_in, effect, flow}
use Rattle.text_agrees.specs.Events.{happens, story, piled_from, story-append, flow-append, known_story, Fewer}
use Rattle.text_agrees.specs.Tales.{fits_in, fits, never, both_true, events_split, fits_begun}
use Rattle.text_agrees.specs.Counts.{name_of, names_in, total, total-append, is_body, waiting, names_begun}
use Rattle.text_agrees.specs.Named.{trouble_late, trouble_here, trouble_past, untroubled, untroubled_next, Doing, doing}
use Rattle.text_agrees.specs.Named.{quiet, told, naming, announcing, opening}

-- TOKENS BEHIND TOKENS, over the pile.
piled_none : (ts : List Token) → piled_from ts [] ≡ []
unfolding piled_from
piled_none [] = refl
piled_none (t ∷ ts) = refl

pub piled_append : (ts us : List Token) (ss : List Symbol) → piled_from (ts ++ us) ss ≡ piled_from us (piled_from ts ss)
unfolding piled_from
piled_append [] us ss = refl
piled_append (t ∷ ts) us [] = sym (piled_none us)
piled_append (t ∷ ts) us (s ∷ ss) = piled_append ts us (next_in (step s t) ++ ss)

pub fits_behind : (ts us : List Token) (ss : List Symbol) → fits (ts ++ us) ss ≡ true → fits us (piled_from ts ss) ≡ true
unfolding fits piled_from
fits_behind [] us ss h = h
fits_behind (t ∷ ts) us [] h = never h
fits_behind (t ∷ ts) us (s ∷ ss) h =
    let zs : List Symbol = next_in (step s t) ++ ss in
    fits_behind ts us zs (both_true (fits_in (step s t)) (fits (ts ++ us) zs) h).1

pile_there : (t : Token) (zs : List Symbol) → fits (t ∷ []) zs ≡ true → (s : Symbol) × (ss : List Symbol) × (zs ≡ s ∷ ss)
unfolding fits
pile_there t [] h = never h
pile_there t (s ∷ ss) h = (s, ss, refl)

fits_first : (t : Token) (s : Symbol) (ss : List Symbol) → fits (t ∷ []) (s ∷ ss) ≡ true → fits_in (step s t) ≡ true
unfolding fits
fits_first t s ss h = (both_true (fits_in (step s t)) true h).0

-- It is the pile of the promises, where all fit.
pub fits_piled : (ts : List Token) (ss : List Symbol) → fits ts ss ≡ true → piled Of say step ts ss ≡ some (piled_from ts ss)
unfolding fits piled_from piled
fits_piled [] ss h = refl
fits_piled (t ∷ ts) [] h = never h
fits_piled (t ∷ ts) (s ∷ ss) h = go (step s t) h (λ zs. fits_piled ts zs)
  where
    go : (o : Option (Rule Of say s t)) → (fits_in o && fits ts (next_in o ++ ss)) ≡ true →
        ((zs : List Symbol) → fits ts zs ≡ true → piled Of say step ts zs ≡ some (piled_from ts zs)) →
        and_then (moved Of say s t ss o) (λ zs. piled Of say step ts zs) ≡ some (piled_from ts (next_in o ++ ss))
    go none h f = never h
    go (some x) h f = f (x.next ++ ss) h

-- COMPLETED: a tree that is spelled by tokens and what completes their pile.
abbrev pile_of : List Token → List Symbol
pile_of ts = piled_from ts (text_s ∷ [])

abbrev rest : List Symbol → List Token
rest zs = says Of say zs (some_values Of some_of zs) []

pub behind : (ts : List Placed) → length ts ≤ fitting (length ts) (read ts) →
    spell_text (in_hand ts) [] ≡ kinds ts ++ rest (pile_of (kinds ts))
unfolding reading
behind ts h =
    let n : length (kinds ts) ≡ length ts = kinds-length ts in
    let f : length (kinds ts) ≤ fitting (length (kinds ts)) (reading (kinds ts)) = rw n h in
    let a = all_fit (kinds ts) f in
    let g : fits (kinds ts) (text_s ∷ []) ≡ true = fits_begun (λ i. i) (in_hand ts) (kinds ts) a.0 a.1 in
    let p : piled Of say step (kinds ts) (text_s ∷ []) ≡ some (pile_of (kinds ts)) = fits_piled (kinds ts) (text_s ∷ []) g in
    go (reading (kinds ts)) (piled_completes Of say step some_of (kinds ts) (text_s ∷ []) (pile_of (kinds ts)) p).spelled
  where
    go : (o : Result (Values Of (text_s ∷ []))) →
        says Of say (text_s ∷ []) (completed o) [] ≡ kinds ts ++ rest (pile_of (kinds ts)) →
        spell_text (tree_in o) [] ≡ kinds ts ++ rest (pile_of (kinds ts))
    go (right v) e = e
    go (wrong n v) e = e

-- Where the pile of tokens is a class line's body, the next event of that tree is the body's.
pub is_body_lem : (s : Symbol) → is_body s ≡ true → s ≡ body_s
is_body_lem (one x) h = never h
is_body_lem (factor_s n) h = never h
is_body_lem (minus_s n) h = never h
is_body_lem (more n k) h = never h
is_body_lem signed_s h = never h
is_body_lem relation_s h = never h
is_body_lem item_s h = never h
is_body_lem claim_s h = never h
is_body_lem items_s h = never h
is_body_lem gives_s h = never h
is_body_lem given_s h = never h
is_body_lem actions_s h = never h
is_body_lem try_s h = never h
is_body_lem (few_s n) h = never h
is_body_lem lines_s h = never h
is_body_lem body_s h = refl
is_body_lem text_s h = never h

waiting_body : (zs : List Symbol) → waiting zs ≡ 1 → (ss : List Symbol) × (zs ≡ body_s ∷ ss)
waiting_body [] h = absurd (omega arith)
waiting_body (s ∷ ss) h = go (is_body s) refl h
  where
    go : (b : Bool) → is_body s ≡ b → ◌≡◌ {A = ℕ} (if b then 1 else 0) 1 → (zs : List Symbol) × (s ∷ ss ≡ body_s ∷ zs)
    go true e h = (ss, ap (λ (z : Symbol). z ∷ ss) (is_body_lem s e))
    go false e h = absurd (omega arith)

waiting_is : (s : Symbol) (ss : List Symbol) (b : Bool) → is_body s ≡ b → waiting (s ∷ ss) ≡ (if b then 1 else 0)
waiting_is s ss b h = let f : Bool → ℕ = λ z. if z then 1 else 0 in ap f h

names_one_more : (ts : List Token) (t : Token) → names_in (ts ++ (t ∷ [])) ≡ names_in ts + name_of t
names_one_more [] t = omega arith
names_one_more (x ∷ ts) t = let h = names_one_more ts t in omega arith

module _ (place : ℕ → ℕ) where
  abbrev reader_of : List Token → Reader
  reader_of ts = flow place 0 ts (text_s ∷ []) at_first

  abbrev story_of : List Token → List Event
  story_of ts = story place 0 ts (text_s ∷ []) at_first

  body_story : (n : ℕ) (ss : List Symbol) (r : Reader) →
      (fs : List Event) × (story place n (rest (body_s ∷ ss)) (body_s ∷ ss) r ≡ embodies r.called ∷ fs)
  unfolding story happens
  body_story n ss r = (_, refl)

  pub waits : (t : Text) (ts : List Token) → spell_text t [] ≡ ts ++ rest (pile_of ts) → waiting (pile_of ts) ≡ 1 →
      (fs : List Event) × (events t ≡ story_of ts ++ embodies (reader_of ts).called ∷ fs)
  waits t ts e w =
      let b = waiting_body (pile_of ts) w in
      let m = body_story (length ts) b.0 (reader_of ts) in (
        m.0,
        events_split place t ts (rest (pile_of ts)) e
            ∙ ap (λ (zs : List Symbol). story_of ts ++ story place (length ts) (rest zs) zs (reader_of ts)) b.1
            ∙ ap (λ (fs : List Event). story_of ts ++ fs) m.1,
      )

  -- ONE TOKEN MORE, t, at the top s of the pile.
  module _ (x : Text) (ts : List Token) (t : Token) (us : List Token) (e : spell_text x [] ≡ (ts ++ (t ∷ [])) ++ us)
      (s : Symbol) (ss : List Symbol) (p : pile_of ts ≡ s ∷ ss) where
    abbrev r : Reader
    r = reader_of ts

    ahead : spell_text x [] ≡ ts ++ t ∷ us
    ahead = e ∙ append_assoc ts (t ∷ []) us

    pub fits_here : fits_in (step s t) ≡ true
    fits_here =
        fits_first t s ss
        (subst (λ (zs : List Symbol). fits (t ∷ []) zs ≡ true) p
        (fits_behind ts (t ∷ []) (text_s ∷ []) (fits_begun place x (ts ++ (t ∷ [])) us e)))

    story_one : story place (length ts) (t ∷ []) (s ∷ ss) r ≡ happens r s t
    unfolding story
    story_one = append-nil (happens r s t)

    flow_one : (n : ℕ) → flow place n (t ∷ []) (s ∷ ss) r ≡ effect r s t (place n)
    unfolding flow
    flow_one n = refl

    story_on : (n : ℕ) → (fs : List Event) × (story place n (t ∷ us) (s ∷ ss) r ≡ happens r s t ++ fs)
    unfolding story
    story_on n = (_, refl)

    -- Its events come next in the tree,
    pub events_here : (fs : List Event) × (events x ≡ story_of ts ++ (happens r s t ++ fs))
    events_here =
        let m = story_on (length ts) in (
          m.0,
          events_split place x ts (t ∷ us) ahead
              ∙ ap (λ (zs : List Symbol). story_of ts ++ story place (length ts) (t ∷ us) zs r) p
              ∙ ap (λ (fs : List Event). story_of ts ++ fs) m.1,
        )

    -- and this is the story with it, and the reader behind it.
    story_here : story_of (ts ++ (t ∷ [])) ≡ story_of ts ++ happens r s t
    story_here =
        story-append place 0 ts (t ∷ []) (text_s ∷ []) at_first
        ∙ ap (λ (n : ℕ). story_of ts ++ story place n (t ∷ []) (pile_of ts) r) (omega arith)
        ∙ ap (λ (zs : List Symbol). story_of ts ++ story place (length ts) (t ∷ []) zs r) p
        ∙ ap (λ (fs : List Event). story_of ts ++ fs) story_one

    reader_here : reader_of (ts ++ (t ∷ [])) ≡ effect r s t (place (length ts))
    reader_here =
        flow-append place 0 ts (t ∷ []) (text_s ∷ []) at_first
        ∙ ap (λ (n : ℕ). flow place n (t ∷ []) (pile_of ts) r) (omega arith)
        ∙ ap (λ (zs : List Symbol). flow place (length ts) (t ∷ []) zs r) p
        ∙ flow_one (length ts)

    -- How many names there are.
    names_before : names_in ts ≡ total (story_of ts) + waiting (s ∷ ss)
    names_before =
        names_begun place x ts (t ∷ us) ahead ∙ ap (λ (zs : List Symbol). total (story_of ts) + waiting zs) p

    names_here : names_in ts + name_of t ≡ total (story_of ts) + total (happens r s t) + waiting (pile_of (ts ++ (t ∷ [])))
    names_here =
        let a = names_begun place x (ts ++ (t ∷ [])) us e in
        let b = ap total story_here in
        let c = total-append (story_of ts) (happens r s t) in
        let d = names_one_more ts t in
        omega arith

    -- A class line's body is to come only behind its name, which is called at its place.
    calls_here : (q : ℕ) → calls r s ≡ true → ((effect r s t q).called ≡ name_in t) × ((effect r s t q).called_at ≡ q)
    unfolding effect M.after
    calls_here q h = (
      ap (λ (b : Bool). if b then name_in t else r.called) h,
      ap (λ (b : Bool). if b then q else r.called_at) h,
    )

    called_here : waiting (pile_of (ts ++ (t ∷ []))) ≡ 1 →
        (name_of t ≡ 1) × ((reader_of (ts ++ (t ∷ []))).called_at ≡ place (length ts))
    called_here w = go (doing r s t fits_here) names_before names_here
      where
        go : Doing r s t → names_in ts ≡ total (story_of ts) + waiting (s ∷ ss) →
            names_in ts + name_of t ≡ total (story_of ts) + total (happens r s t) + waiting (pile_of (ts ++ (t ∷ []))) →
            (name_of t ≡ 1) × ((reader_of (ts ++ (t ∷ []))).called_at ≡ place (length ts))
        go (quiet v n b) f g = let c = waiting_is s ss false b in absurd (omega arith)
        go (told ev v u o n b q) f g =
            let c = waiting_is s ss false b in
            let d = ap total v in
            absurd (omega arith)
        go (naming v u m n b q) f g =
            (n, ap (λ (z : Reader). z.called_at) reader_here ∙ (calls_here (place (length ts)) m).1)
        go (announcing v u n b q) f g =
            let c = waiting_is s ss true b in
            let d = ap total v in
            absurd (omega arith)
        go (opening v u n b) f g =
            let c = waiting_is s ss true b in
            let d = ap total v in
            absurd (omega arith)

-- TOKENS AT THEIR PLACES: how many names there are, and where the last one stands.
pub names_length : (ts : List Placed) → length (names_of ts) ≡ names_in (kinds ts)
names_length [] = refl
names_length (k ∷ ts) = go k.token (names_length ts)
  where
    go : (t : Token) → length (names_of ts) ≡ names_in (kinds ts) →
        length (if is_name t then k ∷ names_of ts else names_of ts) ≡ name_of t + names_in (kinds ts)
    go (name x) h = omega arith
    go (number n) h = omega arith
    go (mark s) h = omega arith
    go bad h = omega arith

names_append : (ts us : List Placed) → names_of (ts ++ us) ≡ names_of ts ++ names_of us
names_append [] us = refl
names_append (k ∷ ts) us = go (is_name k.token) (names_append ts us)
  where
    go : (b : Bool) → names_of (ts ++ us) ≡ names_of ts ++ names_of us →
        (if b then k ∷ names_of (ts ++ us) else names_of (ts ++ us)) ≡ (if b then k ∷ names_of ts else names_of ts) ++ names_of us
    go true h = ap (λ (xs : List Placed). k ∷ xs) h
    go false h = h

name_alone : (k : Placed) → name_of k.token ≡ 1 → names_of (k ∷ []) ≡ k ∷ []
name_alone k = go k.token
  where
    go : (t : Token) → name_of t ≡ 1 → (if is_name t then k ∷ [] else []) ≡ k ∷ []
    go (name x) h = refl
    go (number n) h = absurd (omega arith)
    go (mark s) h = absurd (omega arith)
    go bad h = absurd (omega arith)

-- Behind the last name no other stands.
last_name : (ts : List Placed) (k : Placed) (us : List Placed) (n : ℕ) → name_of k.token ≡ 1 → names_in (kinds ts) ≡ n →
    place_at (names_of ((ts ++ (k ∷ [])) ++ us)) n ≡ k.place
last_name ts k us n h e =
    let f : names_of ((ts ++ (k ∷ [])) ++ us) ≡ names_of ts ++ k ∷ names_of us =
    names_append (ts ++ (k ∷ [])) us
    ∙ ap (λ (xs : List Placed). xs ++ names_of us)
    (names_append ts (k ∷ []) ∙ ap (λ (xs : List Placed). names_of ts ++ xs) (name_alone k h))
    ∙ append_assoc (names_of ts) (k ∷ []) (names_of us) in
    let g : n ≡ length (names_of ts) = sym e ∙ sym (names_length ts) in
    ap (λ (xs : List Placed). place_at xs n) f
    ∙ ap (λ (i : ℕ). place_at (names_of ts ++ k ∷ names_of us) i) g
    ∙ place_there (names_of ts) k (names_of us)

-- THE DEFINITION'S TEST, told by events. What comes of a test: the trouble, at its place, or what follows.
abbrev pub answered : Option ℕ → ℕ → Answer → Answer
answered none p a = a
answered (some n) p a = refused n p

module _ (ts : List Placed) (a : Answer) where
  name_past : (o : Option Troubled) → ((x : Troubled) → o ≡ some x → length (names_of ts) ≤ x.before) → at_name ts o a ≡ a
  unfolding at_name
  name_past none f = refl
  name_past (some x) f =
      ap (λ (b : Bool). if b then refused x.number (place_at (names_of ts) x.before) else a)
      (le-ltb x.before (length (names_of ts)) (f x refl))

  name_met : (n b : ℕ) → b < length (names_of ts) →
      at_name ts (some (record { number = n; before = b })) a ≡ refused n (place_at (names_of ts) b)
  unfolding at_name
  name_met n b l =
      ap (λ (c : Bool). if c then refused n (place_at (names_of ts) b) else a) (lt-ltb b (length (names_of ts)) l)

  -- An event with the last name.
  name_told : (es : List Event) (e : Event) (fs : List Event) → trouble_in [] es ≡ none → names e ≡ 1 →
      length (names_of ts) ≡ total es + 1 →
      at_name ts (trouble_in [] (es ++ e ∷ fs)) a ≡ answered (trouble (after [] es) e) (place_at (names_of ts) (total es)) a
  name_told es e fs h o n = go (trouble (after [] es) e) refl
    where
      go : (q : Option ℕ) → trouble (after [] es) e ≡ q →
          at_name ts (trouble_in [] (es ++ e ∷ fs)) a ≡ answered q (place_at (names_of ts) (total es)) a
      go none t =
          name_past (trouble_in [] (es ++ e ∷ fs)) (λ x z. let m = trouble_past es h e fs t x z in omega arith)
      go (some m) t =
          ap (λ (z : Option Troubled). at_name ts z a) (trouble_here es h e fs m t) ∙ name_met m (total es) (omega arith)

  same_answer : {ks ls : List Known} {e f : Event} {p q : ℕ} → ks ≡ ls → e ≡ f → p ≡ q →
      answered (trouble ks e) p a ≡ answered (trouble ls f) q a
  same_answer {ls = ls} {e = e} {f = f} {p = p} g h i =
      ap (λ (ks : List Known). answered (trouble ks e) p a) g
      ∙ ap (λ (d : Event). answered (trouble ls d) p a) h
      ∙ ap (λ (n : ℕ). answered (trouble ls f) n a) i

leaves_none : (ks : List Known) → trouble ks leaves ≡ none
unfolding trouble
leaves_none ks = refl

-- Where no name of the tokens is in trouble, neither are their events, nor is the body of a class line that waits for it.
record Clear (place : ℕ → ℕ) (ts : List Token) : Type 0 where
  told_clear : trouble_in [] (story_of place ts) ≡ none
  body_clear : waiting (pile_of ts) ≡ 1 → trouble (after [] (story_of place ts)) (embodies (reader_of place ts).called) ≡ none

clear : (place : ℕ → ℕ) (ts : List Placed) → Calm ts → Clear place (kinds ts)
clear place ts c =
    let us : List Token = kinds ts in
    let e = behind ts c.fit in
    let q = events_split place (in_hand ts) us (rest (pile_of us)) e in
    let n = names_begun place (in_hand ts) us (rest (pile_of us)) e in
    let m = names_length ts in
    record {
      told_clear =
          untroubled (length (names_of ts)) (story_of place us) _ (λ x z. c.named x (ap (λ es. trouble_in [] es) q ∙ z))
          (omega arith);
      body_clear = λ w.
          let b = waits place (in_hand ts) us e w in
          untroubled_next (length (names_of ts)) (story_of place us) _ b.0
          (λ x z. c.named x (ap (λ es. trouble_in [] es) b.1 ∙ z)) (omega arith);
    }

-- Where a class line waits for its body, its name is the last, and is called at its place.
data Ends : List Placed → Type 0 where
  nothing : Ends []
  last : (ts : List Placed) (k : Placed) → Ends (ts ++ (k ∷ []))

ends : (ts : List Placed) → Ends ts
ends [] = nothing
ends (k ∷ ts) = go ts (ends ts)
  where
    go : (us : List Placed) → Ends us → Ends (k ∷ us)
    go _ nothing = last [] k
    go _ (last us j) = last (k ∷ us) j

starts_plain : waiting (pile_of []) ≡ 0
unfolding piled_from
starts_plain = refl

module _ (place : ℕ → ℕ) where
  called_last : (ts : List Placed) → Ends ts → (x : Text) (us : List Token) → spell_text x [] ≡ kinds ts ++ us →
      waiting (pile_of (kinds ts)) ≡ 1 → ((i : ℕ) → i < length ts → place i ≡ place_at ts i) → (ks : List Placed) →
      place_at (names_of (ts ++ ks)) (total (story_of place (kinds ts))) ≡ (reader_of place (kinds ts)).called_at
  called_last _ nothing x us e w f ks = let z = starts_plain in absurd (omega arith)
  called_last _ (last ts k) x us e w f ks =
      let cs : List Token = kinds ts ++ (k.token ∷ []) in
      let a : kinds (ts ++ (k ∷ [])) ≡ cs = kinds-append ts (k ∷ []) in
      let g : spell_text x [] ≡ cs ++ us = e ∙ ap (λ (zs : List Token). zs ++ us) a in
      let v : waiting (pile_of cs) ≡ 1 = ap (λ (zs : List Token). waiting (pile_of zs)) (sym a) ∙ w in
      let p = pile_there k.token (pile_of (kinds ts))
      (fits_behind (kinds ts) (k.token ∷ []) (text_s ∷ []) (fits_begun place x cs us g)) in
      let m = called_here place x (kinds ts) k.token us g p.0 p.1 p.2 v in
      let n : names_in (kinds ts) ≡ total (story_of place cs) =
      let b = names_begun place x cs us g in
      let c = names_one_more (kinds ts) k.token in
      let d = m.0 in
      omega arith in
      let l : length ts < length (ts ++ (k ∷ [])) = omega (arith, length-append ts (k ∷ [])) in
      ap (λ (zs : List Token). place_at (names_of ((ts ++ (k ∷ [])) ++ ks)) (total (story_of place zs))) a
      ∙ last_name ts k ks (total (story_of place cs)) m.0 n
      ∙ sym (ap place (kinds-length ts) ∙ f (length ts) l ∙ place_there ts k [])
      ∙ sym m.1
      ∙ ap (λ (zs : List Token). (reader_of place zs).called_at) (sym a)

-- WHERE A READER IS: behind tokens that all fit, none with a name in trouble; k fits too, at the top s of the pile. Every place
-- is that of its token, and there was room for the names.
pub record Arrived (place : ℕ → ℕ) (ts : List Placed) (k : Placed) (s : Symbol) (ss : List Symbol) : Type 0 where
  pub calm : Calm ts
  pub fit : length (ts ++ (k ∷ [])) ≤ fitting (length (ts ++ (k ∷ []))) (read (ts ++ (k ∷ [])))
  pub pile : piled_from (kinds ts) (text_s ∷ []) ≡ s ∷ ss
  pub places : (i : ℕ) → i < length ts → place i ≡ place_at ts i
  pub room : Fewer [] (story place 0 (kinds ts) (text_s ∷ []) at_first)

module _ (place : ℕ → ℕ) (ts : List Placed) (k : Placed) (s : Symbol) (ss : List Symbol) (h : Arrived place ts k s ss) where
  -- The tokens with k, the tree in hand behind it, and the reader before it.
  abbrev us : List Placed
  us = ts ++ (k ∷ [])

  abbrev tree : Text
  tree = in_hand us

  abbrev before : Reader
  before = flow place 0 (kinds ts) (text_s ∷ []) at_first

  abbrev es : List Event
  es = story_of place (kinds ts)

  abbrev cs : List Token
  cs = kinds ts ++ (k.token ∷ [])

  spelled : spell_text tree [] ≡ cs ++ rest (pile_of cs)
  spelled = behind us h.fit ∙ ap (λ (zs : List Token). zs ++ rest (pile_of zs)) (kinds-append ts (k ∷ []))

  so_many : length (names_of us) ≡ names_in (kinds ts) + name_of k.token
  so_many = names_length us ∙ ap names_in (kinds-append ts (k ∷ [])) ∙ names_one_more (kinds ts) k.token

  knows_it : after [] es ≡ before.known
  knows_it = sym (known_story place 0 (kinds ts) (text_s ∷ []) at_first h.room)

  more_events : (fs : List Event) × (events tree ≡ es ++ (happens before s k.token ++ fs))
  more_events = events_here place tree (kinds ts) k.token (rest (pile_of cs)) spelled s ss h.pile

  count_before : names_in (kinds ts) ≡ total es + waiting (s ∷ ss)
  count_before = names_before place tree (kinds ts) k.token (rest (pile_of cs)) spelled s ss h.pile

  count_here : names_in (kinds ts) + name_of k.token ≡ total es + total (happens before s k.token) + waiting (pile_of cs)
  count_here = names_here place tree (kinds ts) k.token (rest (pile_of cs)) spelled s ss h.pile

  -- At the name of a class line the next event is that of a body.
  named_body : happens before s k.token ≡ [] → calls before s ≡ true → waiting (pile_of cs) ≡ 1 →
      (fs : List Event) × (events tree ≡ es ++ embodies (name_in k.token) ∷ fs)
  named_body v m w =
      let b = waits place tree cs spelled w in
      let f : story_of place cs ≡ es =
      story_here place tree (kinds ts) k.token (rest (pile_of cs)) spelled s ss h.pile
      ∙ ap (λ (gs : List Event). es ++ gs) v ∙ append-nil es in
      let g : (reader_of place cs).called ≡ name_in k.token =
      ap (λ (z : Reader). z.called) (reader_here place tree (kinds ts) k.token (rest (pile_of cs)) spelled s ss h.pile)
      ∙ (calls_here place tree (kinds ts) k.token (rest (pile_of cs)) spelled s ss h.pile _ m).0 in (
        b.0,
        b.1 ∙ ap (λ (gs : List Event). gs ++ embodies (reader_of place cs).called ∷ b.0) f
            ∙ ap (λ (x : Name). es ++ embodies x ∷ b.0) g,
      )

  module _ (a : Answer) (c : Clear place (kinds ts)) where
    abbrev Agrees : Type 0
    Agrees =
        at_name us (trouble_in [] (events tree)) a
        ≡ answered (trouble before.known (event_at before s k.token)) (trouble_at before s k.place) a

    by_event : (e : Event) (fs : List Event) → events tree ≡ es ++ e ∷ fs → names e ≡ 1 → length (names_of us) ≡ total es + 1 →
        at_name us (trouble_in [] (events tree)) a ≡ answered (trouble (after [] es) e) (place_at (names_of us) (total es)) a
    by_event e fs q o n =
        ap (λ (gs : List Event). at_name us (trouble_in [] gs) a) q ∙ name_told us a es e fs c.told_clear o n

    -- The last token is the name,
    by_name : (e : Event) (fs : List Event) → events tree ≡ es ++ e ∷ fs → event_at before s k.token ≡ e → names e ≡ 1 →
        name_of k.token ≡ 1 → is_body s ≡ false → ((p : ℕ) → trouble_at before s p ≡ p) → Agrees
    by_name e fs q u o n b t =
        let m = so_many in
        let l = count_before in
        let w = waiting_is s ss false b in
        let at : place_at (names_of us) (total es) ≡ k.place =
        ap (λ (xs : List Placed). place_at (names_of xs) (total es)) (sym (append-nil us))
        ∙ last_name ts k [] (total es) n (omega arith) in
        by_event e fs q o (omega arith) ∙ same_answer us a knows_it (sym u) (at ∙ sym (t k.place))

    -- or nothing is tested.
    untested : event_at before s k.token ≡ leaves → at_name us (trouble_in [] (events tree)) a ≡ a → Agrees
    untested v f =
        f ∙ ap (λ (y : Option ℕ). answered y (trouble_at before s k.place) a) (sym (leaves_none before.known))
        ∙ same_answer us a refl (sym v) refl

    by_doing : Doing before s k.token → Agrees
    by_doing (quiet v n b) =
        let q = more_events in
        let m = so_many in
        let l = count_before in
        let w = waiting_is s ss false b in
        untested v
        (name_past us a (trouble_in [] (events tree))
        (λ x z. let i = trouble_late es c.told_clear _ x (ap (λ fs. trouble_in [] fs) (sym q.1) ∙ z) in omega arith))
    by_doing (told e v u o n b t) =
        let q = more_events in
        by_name e q.0 (q.1 ∙ ap (λ (gs : List Event). es ++ (gs ++ q.0)) v) u o n b t
    by_doing (naming v u m n b t) =
        let d = ap total v in
        let l = count_before in
        let i = count_here in
        let w = waiting_is s ss false b in
        let q = named_body v m (omega arith) in
        by_name (embodies (name_in k.token)) q.0 q.1 u refl n b t
    by_doing (announcing v u n b t) =
        let q = more_events in
        let m = so_many in
        let l = count_before in
        let w = waiting_is s ss true b in
        let at = called_last place ts (ends ts) (in_hand ts) (rest (pile_of (kinds ts))) (behind ts h.calm.fit)
        (ap waiting h.pile ∙ w) h.places (k ∷ []) in
        by_event (announces before.called) q.0 (q.1 ∙ ap (λ (gs : List Event). es ++ (gs ++ q.0)) v) refl (omega arith)
        ∙ same_answer us a knows_it (sym u) (at ∙ sym (t k.place))
    by_doing (opening v u n b) =
        let q = more_events in
        let m = so_many in
        let l = count_before in
        let w = waiting_is s ss true b in
        untested u
        (by_event (embodies before.called) q.0 (q.1 ∙ ap (λ (gs : List Event). es ++ (gs ++ q.0)) v) refl (omega arith)
        ∙ ap (λ (y : Option ℕ). answered y (place_at (names_of us) (total es)) a) (c.body_clear (ap waiting h.pile ∙ w)))

-- THE TEST OF NAMES at a token: the definition's answer is the machine's trouble at its place, and what follows where there is
-- none.
pub names_agree : (place : ℕ → ℕ) (ts : List Placed) (k : Placed) (s : Symbol) (ss : List Symbol) → Arrived place ts k s ss →
    (a : Answer) →
    let r : Reader = flow place 0 (kinds ts) (text_s ∷ []) at_first in
    at_name (ts ++ (k ∷ [])) (trouble_in [] (events (in_hand (ts ++ (k ∷ []))))) a
    ≡ answered (trouble r.known (event_at r s k.token)) (trouble_at r s k.place) a
names_agree place ts k s ss h a =
    by_doing place ts k s ss h a (clear place ts h.calm)
    (doing (before place ts k s ss h) s k.token
    (fits_here place (in_hand (ts ++ (k ∷ []))) (kinds ts) k.token _ (spelled place ts k s ss h) s ss h.pile))

-- Where there is no trouble, no name of the tokens with this one is in trouble: so a reader goes on.
pub calm_on : (place : ℕ → ℕ) (ts : List Placed) (k : Placed) (s : Symbol) (ss : List Symbol) → Arrived place ts k s ss →
    let r : Reader = flow place 0 (kinds ts) (text_s ∷ []) at_first in
    trouble r.known (event_at r s k.token) ≡ none → Calm (ts ++ (k ∷ []))
calm_on place ts k s ss h n = record { fit = h.fit; named = go }
  where
    us : List Placed
    us = ts ++ (k ∷ [])

    r : Reader
    r = flow place 0 (kinds ts) (text_s ∷ []) at_first

    go : (x : Troubled) → trouble_in [] (events (in_hand us)) ≡ some x → length (names_of us) ≤ x.before
    go x e = past (ltb x.before (length (names_of us))) refl
      where
        passed : at_name us (some x) (written []) ≡ written []
        passed =
            ap (λ (o : Option Troubled). at_name us o (written [])) (sym e)
            ∙ names_agree place ts k s ss h (written [])
            ∙ ap (λ (o : Option ℕ). answered o (trouble_at r s k.place) (written [])) n

        past : (b : Bool) → ltb x.before (length (names_of us)) ≡ b → length (names_of us) ≤ x.before
        past true l =
            let m : refused x.number (place_at (names_of us) x.before) ≡ written [] =
            sym (name_met us (written []) x.number x.before (ltb-true _ _ l)) ∙ passed in
            let z : ◌≡◌ {A = ℕ} 0 1 = cc in
            absurd (omega arith)
        past false l = ltb-false _ _ l
