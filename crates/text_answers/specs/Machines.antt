-- From token to token to the whole: where every cut agrees and the end does, the machine answers what the definitions answer.
-- Assumes nothing.
use Rattle.std.specs.Prelude.{ℕ, ◌+◌, ◌≤◌, ◌<◌, ◌≡◌, Bool, true, false, ◌||◌, ◌⊎◌, eqb, length}
use native.Mathlib.Omega.{arith}
use Rattle.std.proofs.Math.Path.{refl, ap}
use Rattle.std.proofs.Common.{sym, ◌∙◌, subst, inl, inr, length-append, lt-ltb, le-ltb}
use mathlib.Core.List.{List, [], ◌∷◌, ◌++◌, append_assoc, append-nil}
use Rattle.std.proofs.Math.Option.{Option, none, some}
use Rattle.semantics.specs.Words.{Passed, passed}
use Rattle.semantics.specs.Decode as D
use Rattle.semantics.specs.Decode.{Checked}
use Rattle.promises.specs.Laws.{no_way, or-false}
use Rattle.text_semantics.specs.Numbers as No
use Rattle.text_semantics.specs.Token as T
use Rattle.text_semantics.specs.Token.{Token, name, number, mark, bad}
use Rattle.text_semantics.specs.Lexing.{Placed, tokens}
use Rattle.text_semantics.specs.Names.{Event, events, trouble, trouble_in}
use Rattle.text_semantics.specs.Meaning.{Owned, records}
use Rattle.text_semantics.specs.Written.{file_of}
use Rattle.text_semantics.specs.Table.{Rule}
use Rattle.text_semantics.specs.Reading.{Symbol, Of, say, step, reading, one, the, a_name, a_number, factor_s, minus_s, more}
use Rattle.text_semantics.specs.Reading.{signed_s, relation_s, item_s, claim_s, items_s, gives_s, given_s, actions_s, try_s, few_s}
use Rattle.text_semantics.specs.Reading.{lines_s, body_s, text_s}
use Rattle.text_semantics.specs.Answer.{Answer, refused, written, fitting, tree_in, read, place_at, is_cut, so_far, told, at_cut}
use Rattle.text_semantics.specs.Answer.{at_name, at_token, at_end, onward, answer}
use Rattle.text_machine.specs.Entry.{Draft, mark_in}
use Rattle.text_machine.specs.Sheet.{Sheet}
use Rattle.text_machine.specs.Machine.{Reader, at_first, event_at, trouble_at, draft_after, sheet_after, cut_at, after, Turned, stops}
use Rattle.text_machine.specs.Machine.{goes, turned, on_pile, ruled, named, gone_on, ended, going, machine}
use Rattle.text_promises.specs.Met.{in_hand, file_behind, Calm, token_is, cut_is, onward_end, onward_next}
use Rattle.text_promises.specs.Tables.{and_then, pushed, moved, piled, piled_next}
use Rattle.text_promises.specs.Piled.{all_fit, piled_fits, unpiled_misfits}
use Rattle.text_promises.specs.Places.{kinds, kinds-append, kinds-length, place_there, place_before}
use Rattle.text_agrees.specs.Flow.{flow}
use Rattle.text_agrees.specs.Height.{found_rule}
use Rattle.text_agrees.specs.Events.{piled_from, story, Fewer}
use Rattle.text_agrees.specs.Tales.{fits_begun}
use Rattle.text_agrees.specs.Stages.{starts}
use Rattle.text_agrees.specs.Roomy.{pile_free}
use Rattle.text_agrees.specs.Going.{Goes, rests, passes, Sits, tokens_of, bare, goes_flow, goes_pile, goes_fewer, goes_comes}
use Rattle.text_agrees.specs.Tested.{Arrived, names_agree, calm_on, fits_piled, answered}
use Rattle.text_answers.specs.Cutting.{Accepted, checked, CutAgrees}
use Rattle.text_answers.specs.Ending.{NeverFull, EndAgrees, kinds_are, sits_from, end_agrees}

-- LISTS that end with one more.
none_left : {A : Type 0} (ys zs : List A) → ys ++ zs ≡ [] → ys ≡ []
none_left [] zs e = refl
none_left (y ∷ ys) zs e = let z : ◌≡◌ {A = ℕ} 0 1 = cc in absurd (omega arith)

last_split : {A : Type 0} (xs : List A) (x : A) (ys zs : List A) → xs ++ (x ∷ []) ≡ ys ++ zs →
    (ys ≡ xs ++ (x ∷ [])) ⊎ ((ws : List A) × (xs ≡ ys ++ ws))
last_split xs x [] zs e = inr (xs, refl)
last_split [] x (y ∷ ys) zs e =
    let f : ys ++ zs ≡ [] = cc in
    let g : y ≡ x = cc in
    let h = none_left ys zs f in
    inl cc
last_split {A = A} (w ∷ xs) x (y ∷ ys) zs e = go (last_split xs x ys zs cc)
  where
    go : (ys ≡ xs ++ (x ∷ [])) ⊎ ((ws : List A) × (xs ≡ ys ++ ws)) →
        (y ∷ ys ≡ w ∷ xs ++ (x ∷ [])) ⊎ ((ws : List A) × (w ∷ xs ≡ y ∷ ys ++ ws))
    go (inl f) = inl cc
    go (inr f) = inr (f.0, cc)

last_same : {A : Type 0} (xs : List A) (x : A) (ys : List A) (y : A) → xs ++ (x ∷ []) ≡ ys ++ (y ∷ []) → x ≡ y
last_same [] x [] y e = cc
last_same [] x (w ∷ ys) y e = absurd (omega (arith, ap length e, length-append ys (y ∷ [])))
last_same (v ∷ xs) x [] y e = absurd (omega (arith, ap length e, length-append xs (x ∷ [])))
last_same (v ∷ xs) x (w ∷ ys) y e = last_same xs x ys y cc

-- TOKENS one behind the other, and where they go on.
tokens_append : (ts us : List Placed) → tokens_of (ts ++ us) ≡ tokens_of ts ++ tokens_of us
tokens_append [] us = refl
tokens_append (k ∷ ts) us = ap (λ (vs : List Token). k.token ∷ vs) (tokens_append ts us)

goes_on : {r y z : Reader} {ts : List Placed} (k : Placed) → Goes r ts y → turned y k ≡ goes z → Goes r (ts ++ (k ∷ [])) z
goes_on k rests e = passes e rests
goes_on k (passes f x) e = passes f (goes_on k x e)

-- A CUT is seen by the token: where it is none, the machine checks nothing.
body_cut : {t : Token} (x : Rule Of say body_s t) → step body_s t ≡ some x → is_cut t ≡ true
body_cut x e = found_rule (λ u ns. is_cut u ≡ true) x ((λ v. refl), ((λ v. refl), tt)) e

no_semicolon : (t : Token) → is_cut t ≡ false → eqb (mark_in t) T.SEMI ≡ false
no_semicolon (name x) h = refl
no_semicolon (number n) h = refl
no_semicolon (mark k) h = (or-false (eqb k T.SEMI) (eqb k T.LB) h).0
no_semicolon bad h = refl

no_cut : (r : Reader) (d : Draft) (s : Symbol) (t : Token) (z : Sheet) (x : Rule Of say s t) → step s t ≡ some x →
    is_cut t ≡ false → cut_at r d s t z ≡ none
unfolding cut_at
no_cut r d (one (the k)) t z x e h =
    let f : (eqb k T.SEMI || eqb k T.LB) ≡ is_cut t =
    found_rule (λ u ns. (eqb k T.SEMI || eqb k T.LB) ≡ is_cut u) x ((λ v. refl), tt) e in
    rw (f ∙ h)
no_cut r d (one a_name) t z x e h = refl
no_cut r d (one (a_number b)) t z x e h = refl
no_cut r d (factor_s n) t z x e h = refl
no_cut r d (minus_s n) t z x e h = refl
no_cut r d (more n c) t z x e h = rw (no_semicolon t h)
no_cut r d signed_s t z x e h = refl
no_cut r d relation_s t z x e h = refl
no_cut r d item_s t z x e h = refl
no_cut r d claim_s t z x e h = refl
no_cut r d items_s t z x e h = refl
no_cut r d gives_s t z x e h = refl
no_cut r d given_s t z x e h = refl
no_cut r d actions_s t z x e h = refl
no_cut r d try_s t z x e h = refl
no_cut r d (few_s n) t z x e h = refl
no_cut r d lines_s t z x e h = refl
no_cut r d body_s t z x e h = no_way (sym h ∙ body_cut x e)
no_cut r d text_s t z x e h = refl

-- A READER but for its pile tests the same names.
bare_tests : (us : List Symbol) (r : Reader) (s : Symbol) (t : Token) (p : ℕ) →
    (event_at (bare us r) s t ≡ event_at r s t) × (trouble_at (bare us r) s p ≡ trouble_at r s p)
unfolding event_at
bare_tests us r (one (the k)) t p = (refl, refl)
bare_tests us r (one a_name) t p = (refl, refl)
bare_tests us r (one (a_number b)) t p = (refl, refl)
bare_tests us r (factor_s n) t p = (refl, refl)
bare_tests us r (minus_s n) t p = (refl, refl)
bare_tests us r (more n c) t p = (refl, refl)
bare_tests us r signed_s t p = (refl, refl)
bare_tests us r relation_s t p = (refl, refl)
bare_tests us r item_s t p = (refl, refl)
bare_tests us r claim_s t p = (refl, refl)
bare_tests us r items_s t p = (refl, refl)
bare_tests us r gives_s t p = (refl, refl)
bare_tests us r given_s t p = (refl, refl)
bare_tests us r actions_s t p = (refl, refl)
bare_tests us r try_s t p = (refl, refl)
bare_tests us r (few_s n) t p = (refl, refl)
bare_tests us r lines_s t p = (refl, refl)
bare_tests us r body_s t p = (refl, refl)
bare_tests us r text_s t p = (refl, refl)

-- BEHIND TOKENS that the machine went over, where they fit and no name of theirs is in trouble.
module _ (place : ℕ → ℕ) (ts : List Placed) (r : Reader) (g : Goes at_first ts r) (calm : Calm ts)
    (places : (i : ℕ) → i < length ts → place i ≡ place_at ts i) where
  sits : Sits place 0 ts
  sits = sits_from place 0 ts (λ i l. ap place (omega arith) ∙ places i l)

  flowed : Reader
  flowed = flow place 0 (kinds ts) (text_s ∷ []) at_first

  is_bare : bare [] flowed ≡ bare [] r
  unfolding flowed
  is_bare =
      ap (λ (us : List Token). bare [] (flow place 0 us (text_s ∷ []) at_first)) (kinds_are ts) ∙ goes_flow place g sits

  is_pile : piled_from (kinds ts) (text_s ∷ []) ≡ r.pile
  is_pile = ap (λ (us : List Token). piled_from us (text_s ∷ [])) (kinds_are ts) ∙ goes_pile place g sits

  is_piled : piled Of say step (kinds ts) (text_s ∷ []) ≡ some r.pile
  is_piled =
      let f : length (kinds ts) ≤ fitting (length (kinds ts)) (reading (kinds ts)) = rw (kinds-length ts) calm.fit in
      let a = all_fit (kinds ts) f in
      fits_piled (kinds ts) (text_s ∷ []) (fits_begun place (in_hand ts) (kinds ts) a.0 a.1)
      ∙ ap (λ (zs : List Symbol). some zs) is_pile

  has_room : Fewer [] (story place 0 (kinds ts) (text_s ∷ []) at_first)
  has_room =
      subst (λ (us : List Token). Fewer [] (story place 0 us (text_s ∷ []) at_first)) (sym (kinds_are ts))
      (goes_fewer place g sits)

  -- The test of names, by what the machine has in hand.
  same_trouble : (s : Symbol) (t : Token) → trouble flowed.known (event_at flowed s t) ≡ trouble r.known (event_at r s t)
  same_trouble s t =
      ap (λ (e : Event). trouble flowed.known e) (sym (bare_tests [] flowed s t 0).0)
      ∙ ap (λ (x : Reader). trouble x.known (event_at x s t)) is_bare
      ∙ ap (λ (e : Event). trouble r.known e) (bare_tests [] r s t 0).0

  same_place : (s : Symbol) (p : ℕ) → trouble_at flowed s p ≡ trouble_at r s p
  same_place s p =
      sym (bare_tests [] flowed s bad p).1 ∙ ap (λ (x : Reader). trouble_at x s p) is_bare ∙ (bare_tests [] r s bad p).1

-- WHAT COMES OF A TOKEN.
abbrev continued : Turned → (Reader → Answer) → Answer
continued (stops n p) f = refused n p
continued (goes r) f = f r

going_next : (r : Reader) (k : Placed) (ks : List Placed) (len room : ℕ) →
    going r (k ∷ ks) len room ≡ continued (turned r k) (λ z. going z ks len room)
unfolding going
going_next r k ks len room = go (turned r k)
  where
    go : (o : Turned) →
        ◌≡◌ {A = Answer} (elim o [ stops n p ↦ refused n p | goes s ↦ going s ks len room ])
        (continued o (λ z. going z ks len room))
    go (stops n p) = refl
    go (goes z) = refl

going_end : (r : Reader) (len room : ℕ) → going r [] len room ≡ ended r len room
unfolding going
going_end r len room = refl

-- ONE TOKEN MORE, k, behind ts.
module _ (cuts : CutAgrees) (place : ℕ → ℕ) (ts : List Placed) (r : Reader) (g : Goes at_first ts r) (calm : Calm ts)
    (places : (i : ℕ) → i < length ts → place i ≡ place_at ts i) (accepted : Accepted (tokens_of ts))
    (k : Placed) (here : place (length ts) ≡ k.place) where
  abbrev us : List Placed
  us = ts ++ (k ∷ [])

  abbrev t : Token
  t = k.token

  abbrev p : ℕ
  p = k.place

  piled_on : piled Of say step (kinds us) (text_s ∷ []) ≡ pushed Of say step t r.pile
  piled_on =
      ap (λ (zs : List Token). piled Of say step zs (text_s ∷ [])) (kinds-append ts (k ∷ []))
      ∙ piled_next Of say step (kinds ts) t (text_s ∷ [])
      ∙ ap (λ (o : Option (List Symbol)). and_then o (λ zs. pushed Of say step t zs)) (is_piled place ts r g calm places)

  misfits : pushed Of say step t r.pile ≡ none → (a : Answer) → at_token us k a ≡ refused No.GRAMMAR p
  misfits e a =
      let f = unpiled_misfits (kinds us) (piled_on ∙ e) in
      let h : fitting (length us) (read us) < length us = rw (kinds-length us) at f in
      token_is us k a ∙ rw (lt-ltb (fitting (length us) (read us)) (length us) h)

  fits_on : {zs : List Symbol} → pushed Of say step t r.pile ≡ some zs → length us ≤ fitting (length us) (read us)
  fits_on {zs = zs} e = rw (kinds-length us) at (piled_fits (kinds us) zs (piled_on ∙ e))

  on_name : length us ≤ fitting (length us) (read us) → (a : Answer) →
      at_token us k a ≡ at_name us (trouble_in [] (events (in_hand us))) (at_cut us t (in_hand us) a)
  on_name h a = token_is us k a ∙ rw (le-ltb (fitting (length us) (read us)) (length us) h)

  -- Every cut up to it was accepted.
  not_refused : (os : List Owned) (o : Checked Passed) → told us os o (λ x. written []) ≡ written [] → o ≡ D.accepted passed
  not_refused os (D.refused n q) e = let z : ◌≡◌ {A = ℕ} 0 1 = cc in absurd (omega arith)
  not_refused os (D.accepted passed) e = refl

  still_accepted : (is_cut t ≡ true → so_far (file_behind us) ≡ D.accepted passed) → Accepted (tokens_of us)
  still_accepted h ws c vs i e =
      go (last_split (tokens_of ts) t (ws ++ (c ∷ [])) vs (sym (tokens_append ts (k ∷ [])) ∙ e))
    where
      go : (ws ++ (c ∷ []) ≡ tokens_of ts ++ (t ∷ [])) ⊎ ((xs : List Token) × (tokens_of ts ≡ (ws ++ (c ∷ [])) ++ xs)) →
          so_far (file_of (records (tree_in (reading (ws ++ (c ∷ [])))))) ≡ D.accepted passed
      go (inl f) =
          let d : c ≡ t = last_same ws c (tokens_of ts) t f in
          ap (λ (zs : List Token). so_far (file_of (records (tree_in (reading zs)))))
          (f ∙ sym (tokens_append ts (k ∷ [])) ∙ sym (kinds_are us))
          ∙ h (ap is_cut (sym d) ∙ i)
      go (inr f) = accepted ws c f.0 i f.1

  at_cut_lem : is_cut t ≡ true → (a : Answer) →
      at_cut us t (in_hand us) a ≡ told us (records (in_hand us)) (so_far (file_behind us)) (λ x. a)
  at_cut_lem h a = cut_is us t (in_hand us) a ∙ rw h

  at_none : is_cut t ≡ false → (a : Answer) → at_cut us t (in_hand us) a ≡ a
  at_none h a = cut_is us t (in_hand us) a ∙ rw h

  -- The machine goes on as f does, the definitions as b does.
  module _ (f : Reader → Answer) (b : Answer)
      (on : (y : Reader) → Goes at_first us y → Calm us → Accepted (tokens_of us) → f y ≡ b) where
    -- It fits, at the top s of the pile.
    module _ (s : Symbol) (ss : List Symbol) (e : r.pile ≡ s ∷ ss) (x : Rule Of say s t) (h : step s t ≡ some x) where
      abbrev ns : List Symbol
      ns = x.next ++ ss

      abbrev d : Draft
      d = draft_after r s t p

      abbrev z : Sheet
      z = sheet_after r d s t p

      arrived : Arrived place ts k s ss
      arrived =
          record {
            calm = calm;
            fit = fits_on {zs = ns} (ap (pushed Of say step t) e ∙ ap (moved Of say s t ss) h);
            pile = is_pile place ts r g calm places ∙ e;
            places = places;
            room = has_room place ts r g calm places;
          }

      turns : turned r k ≡ named r ns s t p (trouble r.known (event_at r s t))
      unfolding turned
      turns =
          ap (λ (zs : List Symbol). on_pile r zs t p) e ∙ ap (λ o. ruled r ss s t p o) h
          ∙ pile_free (goes_comes starts g) e x h p

      named_so : (a : Answer) →
          at_name us (trouble_in [] (events (in_hand us))) a
          ≡ answered (trouble r.known (event_at r s t)) (trouble_at r s p) a
      unfolding flowed
      named_so a =
          names_agree place ts k s ss arrived a
          ∙ ap (λ o. answered o (trouble_at (flowed place ts r g calm places) s p) a) (same_trouble place ts r g calm places s t)
          ∙ ap (λ q. answered (trouble r.known (event_at r s t)) q a) (same_place place ts r g calm places s p)

      -- No name is in trouble there.
      module _ (q : trouble r.known (event_at r s t) ≡ none) where
        calm_there : Calm us
        unfolding flowed
        calm_there = calm_on place ts k s ss arrived (same_trouble place ts r g calm places s t ∙ q)

        turns_on : turned r k ≡ gone_on r d z ns s t p (cut_at r d s t z)
        turns_on = turns ∙ ap (λ o. named r ns s t p o) q

        goes_there : cut_at r d s t z ≡ none → (is_cut t ≡ true → so_far (file_behind us) ≡ D.accepted passed) →
            continued (gone_on r d z ns s t p (cut_at r d s t z)) f ≡ b
        goes_there o h =
            ap (λ c. continued (gone_on r d z ns s t p c) f) o
            ∙ on (after r d z ns s t p) (goes_on k g (turns_on ∙ ap (λ c. gone_on r d z ns s t p c) o)) calm_there
            (still_accepted h)

        cut_agrees : is_cut t ≡ true → (a : Answer) → at_cut us t (in_hand us) a ≡ checked (cut_at r d s t z) a
        cut_agrees i a = cuts place ts k r s ss arrived g e here q i accepted a

        by_check : is_cut t ≡ true → (o : Option ℕ) → cut_at r d s t z ≡ o →
            continued (gone_on r d z ns s t p (cut_at r d s t z)) f ≡ checked o b
        by_check i none c =
            goes_there c λ j.
            not_refused (records (in_hand us)) (so_far (file_behind us))
            (sym (at_cut_lem i (written [])) ∙ cut_agrees i (written []) ∙ ap (λ o. checked o (written [])) c)
        by_check i (some n) c = ap (λ o. continued (gone_on r d z ns s t p o) f) c

        by_cut : (i : Bool) → is_cut t ≡ i → continued (gone_on r d z ns s t p (cut_at r d s t z)) f ≡ at_cut us t (in_hand us) b
        by_cut true i = by_check i (cut_at r d s t z) refl ∙ sym (cut_agrees i b)
        by_cut false i = goes_there (no_cut r d s t z x h i) (λ j. no_way (sym i ∙ j)) ∙ sym (at_none i b)

      by_name : (o : Option ℕ) → trouble r.known (event_at r s t) ≡ o → continued (turned r k) f
          ≡ answered o (trouble_at r s p) (at_cut us t (in_hand us) b)
      by_name none q = ap (λ c. continued c f) (turns_on q) ∙ by_cut q (is_cut t) refl
      by_name (some n) q = ap (λ c. continued c f) (turns ∙ ap (λ o. named r ns s t p o) q)

      fits_agree : continued (turned r k) f ≡ at_token us k b
      fits_agree =
          by_name (trouble r.known (event_at r s t)) refl
          ∙ sym (named_so (at_cut us t (in_hand us) b)) ∙ sym (on_name arrived.fit b)

    misfits_agree : turned r k ≡ stops No.GRAMMAR p → pushed Of say step t r.pile ≡ none →
        continued (turned r k) f ≡ at_token us k b
    misfits_agree e o = ap (λ c. continued c f) e ∙ sym (misfits o b)

    by_rule : (s : Symbol) (ss : List Symbol) → r.pile ≡ s ∷ ss → (o : Option (Rule Of say s t)) → step s t ≡ o →
        continued (turned r k) f ≡ at_token us k b
    unfolding turned
    by_rule s ss e none h =
        misfits_agree (ap (λ (zs : List Symbol). on_pile r zs t p) e ∙ ap (λ o. ruled r ss s t p o) h)
        (ap (pushed Of say step t) e ∙ ap (moved Of say s t ss) h)
    by_rule s ss e (some x) h = fits_agree s ss e x h

    by_pile : (zs : List Symbol) → r.pile ≡ zs → continued (turned r k) f ≡ at_token us k b
    unfolding turned
    by_pile [] e = misfits_agree (ap (λ (zs : List Symbol). on_pile r zs t p) e) (ap (pushed Of say step t) e)
    by_pile (s ∷ ss) e = by_rule s ss e (step s t) refl

    token_agrees : continued (turned r k) f ≡ at_token us k b
    token_agrees = by_pile r.pile refl

-- ALL TOKENS of a text.
module _ (cuts : CutAgrees) (ends : EndAgrees) (bs : List ℕ) (room : ℕ) where
  abbrev place : ℕ → ℕ
  place i = place_at (tokens bs) i

  behind : (ts ks : List Placed) → tokens bs ≡ ts ++ ks → (i : ℕ) → i < length ts → place i ≡ place_at ts i
  behind ts ks e i l = ap (λ (us : List Placed). place_at us i) e ∙ place_before ts ks i l

  agree : (ts ks : List Placed) (r : Reader) → tokens bs ≡ ts ++ ks → Goes at_first ts r → Calm ts → Accepted (tokens_of ts) →
      going r ks (length bs) room ≡ onward ts ks (length bs) room
  agree ts [] r e g c a =
      let same : ts ≡ tokens bs = sym (append-nil ts) ∙ sym e in
      going_end r (length bs) room
      ∙ ends bs room r (subst (λ (us : List Placed). Goes at_first us r) same g) (subst Calm same c)
      (subst (λ (us : List Placed). Accepted (tokens_of us)) same a)
      ∙ ap (λ (us : List Placed). at_end us (length bs) room) (sym same) ∙ sym (onward_end ts (length bs) room)
  agree ts (k ∷ ks) r e g c a =
      let f : tokens bs ≡ (ts ++ (k ∷ [])) ++ ks = e ∙ sym (append_assoc ts (k ∷ []) ks) in
      let here : place (length ts) ≡ k.place =
      ap (λ (us : List Placed). place_at us (length ts)) e ∙ place_there ts k ks in
      going_next r k ks (length bs) room
      ∙ token_agrees cuts place ts r g c (behind ts (k ∷ ks) e) a k here (λ z. going z ks (length bs) room)
      (onward (ts ++ (k ∷ [])) ks (length bs) room) (λ y x d b. agree (ts ++ (k ∷ [])) ks y f x d b)
      ∙ sym (onward_next ts k ks (length bs) room)

  nothing_cut : Accepted []
  nothing_cut us c vs i e =
      absurd (omega (arith, ap length e, length-append (us ++ (c ∷ [])) vs, length-append us (c ∷ [])))

  machine_agrees : machine bs room ≡ answer bs room
  unfolding machine answer
  machine_agrees =
      agree [] (tokens bs) at_first refl rests (record { fit = omega arith; named = λ x e. omega arith }) nothing_cut

-- THE MACHINE ANSWERS what the definitions answer, to every text.
pub machine_answers : NeverFull → CutAgrees → (bs : List ℕ) (room : ℕ) → machine bs room ≡ answer bs room
machine_answers full cuts bs room = machine_agrees cuts (end_agrees full) bs room
