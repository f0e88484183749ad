-- The reader takes every text that is right: what a text says is written, wherever there is room for it.
-- Assumes nothing.
use Rattle.std.specs.Prelude.{ℕ, zero, suc, ◌+◌, ◌≤◌, ◌<◌, ◌≡◌, refl, List, [], ◌∷◌, ◌++◌, map, Bool, true, false, ◌⊎◌, leb, ltb, length, if◌then◌else◌}
use Rattle.std.proofs.Common.{arith, sym, ap, ap₂, ◌∙◌, subst, append-nil, append_assoc, inl, inr, le-leb, ltb-true, ltb-false, length-append}
use Rattle.std.proofs.Math.Option.{none, some}
use Rattle.std.proofs.lemmas.Bool.{lt-leb}
use Rattle.semantics.specs.Words.{Passed, passed, any}
use Rattle.semantics.specs.Numbers as F
use Rattle.semantics.specs.Model.{Model}
use Rattle.semantics.specs.Bytes.{Raw}
use Rattle.semantics.specs.Decode as D
use Rattle.semantics.specs.Decode.{Checked, if_accepted, none_seen, first_pass, second_pass, gather, third_pass, decode}
use Rattle.promises.specs.Laws.{no_way, not_some, not-true, if_has, all_split}
use Rattle.promises.specs.Passes.{not_accepted}
use Rattle.text_semantics.specs.Numbers as No
use Rattle.text_semantics.specs.Token.{Token}
use Rattle.text_semantics.specs.Lexing.{Placed, tokens}
use Rattle.text_semantics.specs.Grammar.{Name, Text, spell_text}
use Rattle.text_semantics.specs.Names.{Known, Event, announces, embodies, named, awaited, after, events, trouble, Troubled}
use Rattle.text_semantics.specs.Names.{trouble_in, wanting}
use Rattle.text_semantics.specs.Meaning.{Owned, records}
use Rattle.text_semantics.specs.Written.{file_of}
use Rattle.text_semantics.specs.Reading.{Symbol, Of, say, step, reading, text_s}
use Rattle.text_semantics.specs.Answer.{Answer, refused, written, fitting, tree_in, read, names_of, is_cut, so_far, answer}
use Rattle.text_machine.specs.Machine.{Reader, at_first}
use Rattle.text_promises.specs.Tables.{piled}
use Rattle.text_promises.specs.Piled.{piled_fits}
use Rattle.text_promises.specs.Readings.{reads_written}
use Rattle.text_promises.specs.Places.{kinds, kinds-append, kinds-length}
use Rattle.text_promises.specs.Met.{in_hand, file_behind, Calm, Met, misfit, trouble as in_trouble, cut, over, short, done}
use Rattle.text_promises.specs.Met.{answer_met}
use Rattle.text_promises.specs.Said.{Said, file}
use Rattle.text_promises.specs.Cuts.{raws_from, so_far_lem, decoded, decoded_long}
use Rattle.text_agrees.specs.Flow.{flow}
use Rattle.text_agrees.specs.Events.{happens, story, piled_from}
use Rattle.text_agrees.specs.Tales.{story_text, events_split, fits_begun}
use Rattle.text_agrees.specs.Counts.{names_in, total, is_body, waiting, names_begun}
use Rattle.text_agrees.specs.Named.{trouble_late, trouble_past, untroubled, Doing, doing, quiet, told, naming, announcing}
use Rattle.text_agrees.specs.Named.{opening}
use Rattle.text_agrees.specs.Lines.{calm_first, calm_split, wants_nothing}
use Rattle.text_agrees.specs.Tested.{fits_piled, behind, waits, events_here, fits_here, names_length}
use Rattle.text_agrees.specs.Closing.{closers, open_braces, cut_spelled}
use Rattle.text_agrees.specs.Growing.{LastCut, last_cut, tree_at_cut, Uncut, Stepped, from_nothing, from_cut, cut_grows}
use Rattle.text_answers.specs.Cutting.{Accepted}
use Rattle.text_answers.specs.Shrinking.{less_passes}

-- A NAME THAT MAY BE ANNOUNCED may have its body.
may_embody : (ks : List Known) (y : Name) → trouble ks (announces y) ≡ none → trouble ks (embodies y) ≡ none
unfolding trouble
may_embody ks y h =
    rw (not-true (any (named y) ks) (wants_nothing No.AGAIN _ h))
    (if_has (λ b. wanting No.AGAIN b ≡ none) (any (awaited y) ks) (λ e. refl) (λ e. refl))

-- WHAT SOME TOKENS ARE for names: their events, the reader behind them, and what is still to come. Places don't matter.
abbrev place : ℕ → ℕ
place n = n

abbrev story_of : List Token → List Event
story_of ts = story place 0 ts (text_s ∷ []) at_first

abbrev reader_of : List Token → Reader
reader_of ts = flow place 0 ts (text_s ∷ []) at_first

abbrev pile_of : List Token → List Symbol
pile_of ts = piled_from ts (text_s ∷ [])

-- THE BEGINNING OF A TEXT, ts, and the tokens us behind it: it fits, and where it is all of it its tree is read.
module _ (x : Text) where
  front_piled : (ts us : List Token) → spell_text x [] ≡ ts ++ us → piled Of say step ts (text_s ∷ []) ≡ some (pile_of ts)
  front_piled ts us e = fits_piled ts (text_s ∷ []) (fits_begun place x ts us e)

  front_fits : (ts : List Placed) (us : List Token) → spell_text x [] ≡ kinds ts ++ us →
      length ts ≤ fitting (length ts) (read ts)
  front_fits ts us e = rw (kinds-length ts) at (piled_fits (kinds ts) (pile_of (kinds ts)) (front_piled (kinds ts) us e))

  whole_tree : (ts : List Token) → spell_text x [] ≡ ts → tree_in (reading ts) ≡ x
  whole_tree ts e = ap (λ us. tree_in (reading us)) (sym e) ∙ ap tree_in (reads_written x)

-- Where no name of the text is in trouble, no event so far is,
module _ (x : Text) (calm : trouble_in [] (events x) ≡ none) where
  story_calm : (ts us : List Token) → spell_text x [] ≡ ts ++ us → trouble_in [] (story_of ts) ≡ none
  story_calm ts us e =
      (calm_split [] (story_of ts) _ (subst (λ es. trouble_in [] es ≡ none) (events_split place x ts us e) calm)).0

  -- nor is the body of a class line that waits for it, whether the text announces the class or has its body.
  body_calm : (ts us : List Token) → spell_text x [] ≡ ts ++ us → (s : Symbol) (ss : List Symbol) → pile_of ts ≡ s ∷ ss →
      is_body s ≡ true → (us ≡ []) ⊎ (trouble (after [] (story_of ts)) (embodies (reader_of ts).called) ≡ none)
  body_calm ts [] e s ss p b = inl refl
  body_calm ts (t ∷ us) e s ss p b = inr (go (doing (reader_of ts) s t (fits_here place x ts t us f s ss p)))
    where
      f : spell_text x [] ≡ (ts ++ (t ∷ [])) ++ us
      f = e ∙ sym (append_assoc ts (t ∷ []) us)

      next : (ev : Event) → happens (reader_of ts) s t ≡ ev ∷ [] → trouble (after [] (story_of ts)) ev ≡ none
      next ev h =
          let g = events_here place x ts t us f s ss p in
          let i = g.1 ∙ ap (λ es. story_of ts ++ (es ++ g.0)) h in
          (calm_first _ ev g.0 (calm_split [] (story_of ts) (ev ∷ g.0) (subst (λ es. trouble_in [] es ≡ none) i calm)).1).0

      go : Doing (reader_of ts) s t → trouble (after [] (story_of ts)) (embodies (reader_of ts).called) ≡ none
      go (quiet v n c) = no_way (sym c ∙ b)
      go (told ev v u o n c q) = no_way (sym c ∙ b)
      go (naming v u m n c q) = no_way (sym c ∙ b)
      go (announcing v u n c q) = may_embody _ (reader_of ts).called (next (announces (reader_of ts).called) v)
      go (opening v u n c) = next (embodies (reader_of ts).called) v

  -- So no name so far is in trouble in the tree in hand:
  module _ (ts : List Placed) (us : List Token) (e : spell_text x [] ≡ kinds ts ++ us) where
    abbrev Late : Type 0
    Late = (y : Troubled) → trouble_in [] (events (in_hand ts)) ≡ some y → length (names_of ts) ≤ y.before

    count : length (names_of ts) ≡ total (story_of (kinds ts)) + waiting (pile_of (kinds ts))
    count = names_length ts ∙ names_begun place x (kinds ts) us e

    -- where no class line waits for its body,
    none_waits : waiting (pile_of (kinds ts)) ≡ 0 → Late
    none_waits w y z =
        let b = behind ts (front_fits x ts us e) in
        let f = events_split place (in_hand ts) (kinds ts) _ b in
        omega (
          arith,
          count,
          trouble_late (story_of (kinds ts)) (story_calm (kinds ts) us e) _ y (ap (trouble_in []) (sym f) ∙ z),
        )

    -- behind all of the text,
    all_there : us ≡ [] → Late
    all_there n y z =
        let f : spell_text x [] ≡ kinds ts = e ∙ ap (λ vs. kinds ts ++ vs) n ∙ append-nil (kinds ts) in
        not_some (sym (ap (λ t. trouble_in [] (events t)) (whole_tree x (kinds ts) f) ∙ calm) ∙ z)

    -- and behind the name of a class line.
    one_waits : waiting (pile_of (kinds ts)) ≡ 1 →
        trouble (after [] (story_of (kinds ts))) (embodies (reader_of (kinds ts)).called) ≡ none → Late
    one_waits w h y z =
        let f = waits place (in_hand ts) (kinds ts) (behind ts (front_fits x ts us e)) w in
        omega (
          arith,
          count,
          trouble_past (story_of (kinds ts)) (story_calm (kinds ts) us e) _ f.0 h y (ap (trouble_in []) (sym f.1) ∙ z),
        )

    by_pile : (ss : List Symbol) → pile_of (kinds ts) ≡ ss → Late
    by_pile [] p = none_waits (ap waiting p)
    by_pile (s ∷ ss) p = go (is_body s) refl
      where
        waits_so : (b : Bool) → is_body s ≡ b → waiting (pile_of (kinds ts)) ≡ (if b then 1 else 0)
        waits_so b h = ap waiting p ∙ ap (λ c. if c then 1 else 0) h

        on : is_body s ≡ true →
            (us ≡ []) ⊎ (trouble (after [] (story_of (kinds ts))) (embodies (reader_of (kinds ts)).called) ≡ none) → Late
        on b (inl n) = all_there n
        on b (inr h) = one_waits (waits_so true b) h

        go : (b : Bool) → is_body s ≡ b → Late
        go true b = on b (body_calm (kinds ts) us e s ss p b)
        go false b = none_waits (waits_so false b)

    pub front_calm : Calm ts
    front_calm = record { fit = front_fits x ts us e; named = by_pile (pile_of (kinds ts)) refl }

-- THE TREE AT A CUT has no other names than the tokens up to there, so it is in no trouble.
abbrev tree_at : List Token → Token → Text
tree_at us c = tree_in (reading (us ++ (c ∷ [])))

abbrev placed : List Token → List Placed
placed ts = map (λ t. record { token = t; place = 0 }) ts

kinds-placed : (ts : List Token) → kinds (placed ts) ≡ ts
kinds-placed [] = refl
kinds-placed (t ∷ ts) = ap (λ us. t ∷ us) (kinds-placed ts)

names_both : (ts us : List Token) → names_in (ts ++ us) ≡ names_in ts + names_in us
names_both [] us = omega arith
names_both (t ∷ ts) us = omega (arith, names_both ts us)

closers_names : (n : ℕ) → names_in (closers n) ≡ 0
unfolding closers
closers_names zero = refl
closers_names (suc n) = omega (arith, closers_names n)

total_spelled : (t : Text) → total (events t) ≤ names_in (spell_text t [])
total_spelled t =
    omega (
      arith,
      names_begun place t (spell_text t []) [] (sym (append-nil (spell_text t []))),
      ap total (story_text place t),
    )

module _ (x : Text) (calm : trouble_in [] (events x) ≡ none) where
  cut_calm : (us : List Token) (c : Token) (vs : List Token) → is_cut c ≡ true → spell_text x [] ≡ (us ++ (c ∷ [])) ++ vs →
      trouble_in [] (events (tree_at us c)) ≡ none
  cut_calm us c vs h e = untroubled (names_in ts) (events (tree_at us c)) [] late few
    where
      ts : List Token
      ts = us ++ (c ∷ [])

      late : (y : Troubled) → trouble_in [] (events (tree_at us c) ++ []) ≡ some y → names_in ts ≤ y.before
      late y z =
          let k = kinds-placed ts in
          let f = ap (λ us. trouble_in [] (events (tree_in (reading us)))) k
          ∙ ap (trouble_in []) (sym (append-nil (events (tree_at us c)))) ∙ z in
          omega (
            arith,
            (front_calm x calm (placed ts) vs (e ∙ ap (λ us. us ++ vs) (sym k))).named y f,
            names_length (placed ts),
            ap names_in k,
          )

      few : total (events (tree_at us c)) ≤ names_in ts
      few =
          let p = front_piled x ts vs e in
          let n : ℕ = open_braces place us c _ h p in
          omega (
            arith,
            total_spelled (tree_at us c),
            ap names_in (cut_spelled place us c _ h p),
            names_both ts (closers n),
            closers_names n,
          )

-- CUTS IN THE SAME TOKENS, where no cut is behind the second: they are the same, or the first is before it.
no_cut : (us : List Token) (c : Token) (vs : List Token) → is_cut c ≡ true → Uncut ((us ++ (c ∷ [])) ++ vs) → ⊥
no_cut us c vs h u =
    let a = all_split (λ t. is_cut t ≡ false) (us ++ (c ∷ [])) vs u in
    let b = all_split (λ t. is_cut t ≡ false) us (c ∷ []) a.0 in
    no_way (sym b.1.0 ∙ h)

last_or_before : (us : List Token) (c : Token) (vs ws : List Token) (d : Token) (ys : List Token) → is_cut c ≡ true →
    Uncut ys → (us ++ (c ∷ [])) ++ vs ≡ (ws ++ (d ∷ [])) ++ ys →
    (us ++ (c ∷ []) ≡ ws ++ (d ∷ [])) ⊎ ((rs : List Token) × (ws ≡ (us ++ (c ∷ [])) ++ rs))
last_or_before [] c vs [] d ys h u e = let f : c ≡ d = cc in inl (ap (λ t. t ∷ []) f)
last_or_before [] c vs (w ∷ ws) d ys h u e = let f : w ≡ c = cc in inr (ws, ap (λ t. t ∷ ws) f)
last_or_before (a ∷ us) c vs [] d ys h u e =
    let f : ys ≡ (us ++ (c ∷ [])) ++ vs = cc in absurd (no_cut us c vs h (subst Uncut f u))
last_or_before (a ∷ us) c vs (w ∷ ws) d ys h u e =
    let f : (us ++ (c ∷ [])) ++ vs ≡ (ws ++ (d ∷ [])) ++ ys = cc in
    let g : a ≡ w = cc in
    go g (last_or_before us c vs ws d ys h u f)
  where
    go : a ≡ w → (us ++ (c ∷ []) ≡ ws ++ (d ∷ [])) ⊎ ((rs : List Token) × (ws ≡ (us ++ (c ∷ [])) ++ rs)) →
        (a ∷ us ++ (c ∷ []) ≡ w ∷ ws ++ (d ∷ [])) ⊎ ((rs : List Token) × (w ∷ ws ≡ (a ∷ us ++ (c ∷ [])) ++ rs))
    go g (inl i) = inl (ap₂ (λ t ts. t ∷ ts) g i)
    go g (inr i) = inr (i.0, ap₂ (λ t ts. t ∷ ts) (sym g) i.1)

-- THE LAST CUT of a text: only braces and its end are behind it.
closers_uncut : (n : ℕ) → Uncut (closers n)
unfolding closers
closers_uncut zero = (refl, tt)
closers_uncut (suc n) = (refl, closers_uncut n)

-- EVERY CUT in some tokens passes.
abbrev Passes : Text → Type 0
Passes t = so_far (file_of (records t)) ≡ D.accepted passed

none_there : (ts : List Token) → Uncut ts → Accepted ts
none_there ts u us c vs h e = absurd (no_cut us c vs h (subst Uncut e u))

one_more : (ts : List Token) (t : Token) (zs : List Token) → Uncut zs → Passes (tree_at ts t) → Accepted ts →
    Accepted ((ts ++ (t ∷ [])) ++ zs)
one_more ts t zs u p a us c vs h e = go (last_or_before us c vs ts t zs h u (sym e))
  where
    go : (us ++ (c ∷ []) ≡ ts ++ (t ∷ [])) ⊎ ((rs : List Token) × (ts ≡ (us ++ (c ∷ [])) ++ rs)) → Passes (tree_at us c)
    go (inl f) = subst (λ us. Passes (tree_in (reading us))) (sym f) p
    go (inr f) = a us c f.0 h f.1

-- From the tree at one cut to those before it,
module _ (x : Text) (calm : trouble_in [] (events x) ≡ none) where
  passed_before : (n : ℕ) (ts : List Token) (t : Token) (zs : List Token) → is_cut t ≡ true →
      spell_text x [] ≡ (ts ++ (t ∷ [])) ++ zs → length ts ≤ n → Passes (tree_at ts t) → Accepted ts
  passed_before zero [] t zs h e l p = none_there [] tt
  passed_before zero (s ∷ ts) t zs h e l p = absurd (omega arith)
  passed_before (suc n) ts t zs h e l p =
      go (λ us c vs i f m q. passed_before n us c vs i f m q) (cut_grows ts t _ h (front_piled x (ts ++ (t ∷ [])) zs e))
    where
      go : ((us : List Token) (c : Token) (vs : List Token) → is_cut c ≡ true → spell_text x [] ≡ (us ++ (c ∷ [])) ++ vs →
          length us ≤ n → Passes (tree_at us c) → Accepted us) → Stepped ts (tree_at ts t) → Accepted ts
      go i (from_nothing u g) = none_there ts u
      go i (from_cut us c vs j f u g) =
          let w : spell_text x [] ≡ (us ++ (c ∷ [])) ++ (vs ++ (t ∷ zs)) =
          e ∙ append_assoc ts (t ∷ []) zs ∙ ap (λ us. us ++ (t ∷ zs)) f ∙ append_assoc (us ++ (c ∷ [])) vs (t ∷ zs) in
          let m : length us ≤ n =
          omega (arith, ap length f, length-append (us ++ (c ∷ [])) vs, length-append us (c ∷ [])) in
          let q = less_passes g (cut_calm x calm us c (vs ++ (t ∷ zs)) j w) (cut_calm x calm ts t zs h e) p in
          subst Accepted (sym f) (one_more us c vs u q (i us c (vs ++ (t ∷ zs)) j w m q))

  -- beginning with the last, at which the tree is all of it.
  from_last : (ts : List Token) (t : Token) (n : ℕ) → is_cut t ≡ true → spell_text x [] ≡ (ts ++ (t ∷ [])) ++ closers n →
      Passes x → Accepted (spell_text x [])
  from_last ts t n h e p =
      let q = subst Passes (tree_at_cut ts t h (front_piled x (ts ++ (t ∷ [])) (closers n) e) x n e) p in
      subst Accepted (sym e)
      (one_more ts t (closers n) (closers_uncut n) q (passed_before (length ts) ts t (closers n) h e (omega arith) q))

  pub every_cut : Passes x → Accepted (spell_text x [])
  every_cut p = go (last_cut x)
    where
      go : (x ≡ []) ⊎ LastCut x → Accepted (spell_text x [])
      go (inl n) = none_there (spell_text x []) (subst (λ t. Uncut (spell_text t [])) (sym n) (refl, tt))
      go (inr l) = from_last l.before l.at l.many l.cut l.parts p

-- WHAT PASSES checks 1 to 10 passes those at a cut.
accepted-so_far : (os : List Owned) (m : Model) → decode (file_of os) ≡ D.accepted m → so_far (file_of os) ≡ D.accepted passed
accepted-so_far os m e = go (ltb F.longest_file (length (file_of os))) refl
  where
    rs : List Raw
    rs = raws_from 0 os

    third : (c : Checked Passed) → if_accepted c (λ y. D.accepted (gather rs).model) ≡ D.accepted m → c ≡ D.accepted passed
    third (D.refused n p) f = not_accepted f
    third (D.accepted passed) f = refl

    second : (c d : Checked Passed) → if_accepted c (λ y. if_accepted d (λ z. D.accepted (gather rs).model)) ≡ D.accepted m →
        d ≡ D.accepted passed
    second (D.refused n p) d f = not_accepted f
    second (D.accepted passed) d f = third d f

    first : (c : Checked (List ℕ)) → if_accepted c
        (λ n. if_accepted (second_pass n 0 rs)
        (λ y. if_accepted (third_pass (gather rs).model rs) (λ z. D.accepted (gather rs).model))) ≡ D.accepted m →
        if_accepted c (λ n. third_pass (gather rs).model rs) ≡ D.accepted passed
    first (D.refused n p) f = not_accepted f
    first (D.accepted n) f = second (second_pass n 0 rs) (third_pass (gather rs).model rs) f

    go : (b : Bool) → ltb F.longest_file (length (file_of os)) ≡ b → so_far (file_of os) ≡ D.accepted passed
    go true l = not_accepted (sym (decoded_long os (ltb-true F.longest_file (length (file_of os)) l)) ∙ e)
    go false l =
        let n = ltb-false F.longest_file (length (file_of os)) l in
        so_far_lem os n ∙ first (first_pass none_seen rs) (sym (decoded os n) ∙ e)

-- THE ANSWER to a text that says something.
module _ (bs : List ℕ) (x : Said bs) where
  abbrev ends_so : ℕ → Answer
  ends_so room = if leb (length (file x)) room then written (file x) else refused No.BUFFER (length bs)

  begins : (ts ks : List Placed) → tokens bs ≡ ts ++ ks → spell_text x.tree [] ≡ kinds ts ++ kinds ks
  begins ts ks e = x.spelled ∙ ap kinds e ∙ kinds-append ts ks

  all_calm : (ts ks : List Placed) → tokens bs ≡ ts ++ ks → Calm ts
  all_calm ts ks e = front_calm x.tree x.untroubled ts (kinds ks) (begins ts ks e)

  all_of_it : file_behind (tokens bs) ≡ file x
  all_of_it =
      ap (λ t. file_of (records t)) (whole_tree x.tree (kinds (tokens bs)) x.spelled)

  cut_passes : (ts : List Placed) (k : Placed) (ks : List Placed) → tokens bs ≡ (ts ++ (k ∷ [])) ++ ks →
      is_cut k.token ≡ true → so_far (file_behind (ts ++ (k ∷ []))) ≡ D.accepted passed
  cut_passes ts k ks e h =
      let f = kinds-append ts (k ∷ []) in
      ap (λ us. so_far (file_of (records (tree_in (reading us))))) f
      ∙ every_cut x.tree x.untroubled (accepted-so_far (records x.tree) x.model x.passes)
      (kinds ts) k.token (kinds ks) h (begins (ts ++ (k ∷ [])) ks e ∙ ap (λ us. us ++ kinds ks) f)

  said_met : (room : ℕ) (a : Answer) → Met (tokens bs) (length bs) room a → a ≡ ends_so room
  said_met room a (misfit ts k ks e c l) =
      absurd (omega (arith, (all_calm (ts ++ (k ∷ [])) ks (e ∙ sym (append_assoc ts (k ∷ []) ks))).fit))
  said_met room a (in_trouble ts ks y e f t l) = absurd (omega (arith, (all_calm ts ks e).named y t))
  said_met room a (cut ts k ks e c h n q f) = not_accepted (sym f ∙ cut_passes ts k ks e h)
  said_met room a (over c n q f) = not_accepted (sym f ∙ ap decode all_of_it ∙ x.passes)
  said_met room a (short c m f l) = rw (lt-leb (length (file x)) room (rw all_of_it at l))
  said_met room a (done c m f l) = rw (le-leb (length (file x)) room (rw all_of_it at l)) (ap written all_of_it)

-- What a text says is written where there is room for it,
pub said_is_written : (bs : List ℕ) (x : Said bs) (room : ℕ) → length (file x) ≤ room → answer bs room ≡ written (file x)
said_is_written bs x room l =
    said_met bs x room (answer bs room) (answer_met bs room) ∙ rw (le-leb (length (file x)) room l)

-- and where there is less the answer is 55.
pub said_in_little_room : (bs : List ℕ) (x : Said bs) (room : ℕ) → room < length (file x) →
    answer bs room ≡ refused No.BUFFER (length bs)
said_in_little_room bs x room l =
    said_met bs x room (answer bs room) (answer_met bs room) ∙ rw (lt-leb (length (file x)) room l)
