-- What is known where the machine comes to a cut, in the words of tokens and trees.
-- Assumes nothing.
use Rattle.std.specs.Prelude.{ℕ, zero, suc, ◌+◌, ◌≤◌, ◌<◌, ◌≡◌, Bool, false, not, ◌&&◌, ◌||◌, ◌⊎◌, eqb, ltb, length, get_or}
use Rattle.std.proofs.Common.{arith, zero-add, sym, ◌∙◌, ap, subst, inl, inr, length-append, eqb-true, ltb-true, ltb-false}
use Rattle.std.proofs.Math.Path.{refl}
use mathlib.Core.List.{List, [], ◌∷◌, ◌++◌, append-nil, append_assoc}
use Rattle.std.proofs.Math.Bool.{true}
use Rattle.std.proofs.Math.Option.{Option, none, some}
use Rattle.std.proofs.lemmas.List.{length-map}
use Rattle.semantics.specs.Words.{any, keep, passed}
use Rattle.semantics.specs.Kinds as KR
use Rattle.semantics.specs.Model as A
use Rattle.semantics.specs.Model.{Action}
use Rattle.semantics.specs.Record as R
use Rattle.semantics.specs.Record.{Entry}
use Rattle.semantics.specs.Decode as D
use Rattle.promises.specs.Laws.{or-true, if_has, AllOf, all_map, all_both}
use Rattle.text_semantics.specs.Token as K
use Rattle.text_semantics.specs.Token.{Token, name, number, mark, bad}
use Rattle.text_semantics.specs.Lexing.{Placed}
use Rattle.text_semantics.specs.Grammar.{Name, Text, spell_text}
use Rattle.text_semantics.specs.Names.{Event, asks, declares, announces, embodies, leaves, Known, named, bodied, stays, knows}
use Rattle.text_semantics.specs.Names.{names, after, one_more, LOCAL, trouble, trouble_in, events}
use Rattle.text_semantics.specs.Table.{Rule}
use Rattle.text_semantics.specs.Reading.{Symbol, Of, say, step, rows, one, the, a_name, a_number, factor_s, minus_s, more, signed_s}
use Rattle.text_semantics.specs.Reading.{relation_s, item_s, claim_s, items_s, gives_s, given_s, actions_s, try_s, few_s, lines_s, body_s}
use Rattle.text_semantics.specs.Reading.{text_s, Closer, sign, Terminal, reading}
use Rattle.text_semantics.specs.Meaning.{Owned, records}
use Rattle.text_semantics.specs.Written.{file_of}
use Rattle.text_semantics.specs.Answer.{Answer, fitting, tree_in, place_at, names_of, is_cut, so_far, told, at_cut}
use Rattle.text_machine.specs.Entry.{Draft}
use Rattle.text_machine.specs.Sheet.{Sheet}
use Rattle.text_machine.specs.Machine as M
use Rattle.text_machine.specs.Machine.{Reader, at_first, most_names, turned, goes, event_at, draft_after, sheet_after, cut_at}
use Rattle.text_promises.specs.Places.{kinds, kinds-append, kinds-length, kinds_names, place_before, place_there}
use Rattle.text_promises.specs.Spellings as Sp
use Rattle.text_promises.specs.Tables.{piled}
use Rattle.text_promises.specs.Piled.{unpiled_misfits}
use Rattle.text_promises.specs.Met.{in_hand, Calm, cut_is}
use Rattle.text_promises.specs.Says.{Fits}
use Rattle.text_promises.specs.Judged.{good, InPlace}
use Rattle.text_promises.specs.Fitting.{records_fit, records_placed}
use Rattle.text_promises.specs.Truncated.{good_short}
use Rattle.text_promises.specs.Begins.{begins, begins_action, Begins, owners_begin}
use Rattle.text_agrees.specs.Flow.{next_in, effect, flow}
use Rattle.text_agrees.specs.Tales.{fits_in, fits, fits_begun, never, both_true, story_text, events_split}
use Rattle.text_agrees.specs.Counts.{name_of, names_in, total, total-append, waiting, names_begun}
use Rattle.text_agrees.specs.Named.{untroubled}
use Rattle.text_agrees.specs.Events.{Fewer, happens, story, piled_from, flow-append}
use Rattle.text_agrees.specs.Height.{Found, found}
use Rattle.text_agrees.specs.Tallies.{Counted, counted_room, counted_local}
use Rattle.text_agrees.specs.Stages.{Comes, starts, Blocks, outside, acting, trying, Part, block, rest, Rest, last, before}
use Rattle.text_agrees.specs.Stages.{Idle, Stage, declared, entity, titled, acts, Held, roomy}
use Rattle.text_agrees.specs.Roomy.{Free, names_free}
use Rattle.text_agrees.specs.Closing.{closers, cut_tree, cut_reader, open_braces, cut_spelled}
use Rattle.text_agrees.specs.Going.{Goes, rests, passes, tokens_of, Sits}
use Rattle.text_agrees.specs.Going.{bare, goes_comes, goes_pile, goes_flow, goes_fewer, fewer_append}
use Rattle.text_agrees.specs.Going.{goes_known}
use Rattle.text_agrees.specs.Growing.{Grows, Stepped, from_nothing, from_cut, cut_grows}
use Rattle.text_agrees.specs.Laying.{Short}
use Rattle.text_agrees.specs.Tested.{Arrived, fits_behind, calm_on}
use Rattle.text_answers.specs.Cutting.{Accepted}
use Rattle.text_answers.specs.Grading.{accepted-old}

-- TOKENS at their places.
tokens_are : (ts : List Placed) → kinds ts ≡ tokens_of ts
tokens_are [] = refl
tokens_are (k ∷ ts) = ap (λ us. k.token ∷ us) (tokens_are ts)

kinds_one_more : (ts : List Placed) (k : Placed) → kinds (ts ++ (k ∷ [])) ≡ tokens_of ts ++ (k.token ∷ [])
kinds_one_more ts k = kinds-append ts (k ∷ []) ∙ ap (λ us. us ++ (k.token ∷ [])) (tokens_are ts)

sits_from : (place : ℕ → ℕ) (at : ℕ) (ks : List Placed) → ((i : ℕ) → i < length ks → place (at + i) ≡ place_at ks i) →
    Sits place at ks
sits_from place at [] h = tt
sits_from place at (k ∷ ks) h =
    let e : at ≡ at + 0 = omega arith in (
      ap place e ∙ h 0 (omega arith),
      sits_from place (suc at) ks
          (λ i l. let f : suc at + i ≡ at + suc i = omega arith in ap place f ∙ h (suc i) (omega arith)),
    )

goes_then : {r z d : Reader} {ks : List Placed} (k : Placed) → Goes r ks z → turned z k ≡ goes d → Goes r (ks ++ (k ∷ [])) d
goes_then k rests e = passes e rests
goes_then k (passes f x) e = passes f (goes_then k x e)

-- WHAT IS NEXT AT A CUT: a sign that is one, what ends an expression or the names of locals, or the body of a class.
pub data Cuts : Symbol → Type 0 where
  at_sign : {k : ℕ} → is_cut (mark k) ≡ true → Cuts (one (the k))
  at_more : {n : ℕ} {c : Closer} → Cuts (more n c)
  at_few : {n : ℕ} → Cuts (few_s n)
  at_body : Cuts body_s

abbrev Fit : Symbol → ℕ → Type 0
Fit s k = fits_in (step s (mark k)) ≡ true → Cuts s

sign_fits : (k : ℕ) {t : Token} (o : Option (Rule Of say (one (the k)) t)) → Found (λ u ns. is_cut u ≡ is_cut (mark k)) o →
    is_cut t ≡ true → fits_in o ≡ true → Cuts (one (the k))
sign_fits k none f c h = never h
sign_fits k (some x) f c h = at_sign (sym f ∙ c)

at_sign_lem : (k : ℕ) (t : Token) → is_cut t ≡ true → fits_in (step (one (the k)) t) ≡ true → Cuts (one (the k))
at_sign_lem k t =
    sign_fits k (step (one (the k)) t) (found (λ u ns. is_cut u ≡ is_cut (mark k)) (rows (one (the k))) t (λ v. refl, tt))

cuts_at : (s : Symbol) → Fit s K.SEMI × Fit s K.LB
cuts_at (one (the k)) = (at_sign_lem k (mark K.SEMI) refl, at_sign_lem k (mark K.LB) refl)
cuts_at (one a_name) = (never, never)
cuts_at (one (a_number b)) = (never, never)
cuts_at (factor_s zero) = (never, never)
cuts_at (factor_s (suc n)) = (never, never)
cuts_at (minus_s zero) = (never, never)
cuts_at (minus_s (suc n)) = (never, never)
cuts_at (more n c) = (λ h. at_more, λ h. at_more)
cuts_at signed_s = (never, never)
cuts_at relation_s = (never, never)
cuts_at item_s = (never, never)
cuts_at claim_s = (never, never)
cuts_at items_s = (never, never)
cuts_at gives_s = (never, never)
cuts_at given_s = (never, never)
cuts_at actions_s = (never, never)
cuts_at try_s = (never, never)
cuts_at (few_s n) = (λ h. at_few, λ h. at_few)
cuts_at lines_s = (never, never)
cuts_at body_s = (λ h. at_body, λ h. at_body)
cuts_at text_s = (never, never)

pub cut_symbol : (s : Symbol) (t : Token) → is_cut t ≡ true → fits_in (step s t) ≡ true → Cuts s
cut_symbol s (name x) c h = never c
cut_symbol s (number n) c h = never c
cut_symbol s (mark k) c h =
    or-true (eqb k K.SEMI) (eqb k K.LB) c (Cuts s)
    (λ e. (cuts_at s).0 (subst (λ (j : ℕ). fits_in (step s (mark j)) ≡ true) (eqb-true k K.SEMI e) h))
    (λ e. (cuts_at s).1 (subst (λ (j : ℕ). fits_in (step s (mark j)) ≡ true) (eqb-true k K.LB e) h))
cut_symbol s bad c h = never c

-- THERE THE PILE in a reader is not looked at.
abbrev Looks : Type 0
Looks = Draft × Sheet × Option ℕ × Event

abbrev looks : Reader → Draft → Sheet → Symbol → Token → ℕ → Looks
looks r d z s t p = (draft_after r s t p, sheet_after r d s t p, cut_at r d s t z, event_at r s t)

looks-bare : (us : List Symbol) (r : Reader) (d : Draft) (z : Sheet) {s : Symbol} (t : Token) (p : ℕ) → Cuts s →
    looks (bare us r) d z s t p ≡ looks r d z s t p
unfolding draft_after sheet_after cut_at event_at
looks-bare us r d z t p (at_sign e) = refl
looks-bare us r d z t p at_more = refl
looks-bare us r d z t p at_few = refl
looks-bare us r d z t p at_body = refl

looks_same : (q r : Reader) → bare [] q ≡ bare [] r → (d : Draft) (z : Sheet) {s : Symbol} (t : Token) (p : ℕ) → Cuts s →
    looks q d z s t p ≡ looks r d z s t p
looks_same q r e d z {s = s} t p c =
    sym (looks-bare [] q d z t p c) ∙ ap (λ (x : Reader). looks x d z s t p) e ∙ looks-bare [] r d z t p c

-- NAMES: closing braces and the end have none, and neither has a cut.
cut_name : (t : Token) → is_cut t ≡ true → name_of t ≡ 0
cut_name (name x) c = never c
cut_name (number n) c = refl
cut_name (mark k) c = refl
cut_name bad c = refl

closers_name : (n : ℕ) → names_in (closers n) ≡ 0
unfolding closers
closers_name zero = refl
closers_name (suc n) = omega (arith, closers_name n)

names_append : (ts us : List Token) → names_in (ts ++ us) ≡ names_in ts + names_in us
names_append [] us = omega arith
names_append (t ∷ ts) us = let h = names_append ts us in omega arith

names_are : (ts : List Token) → length (Sp.names_in ts) ≡ names_in ts
names_are [] = refl
names_are (name x ∷ ts) = omega (arith, names_are ts)
names_are (number n ∷ ts) = omega (arith, names_are ts)
names_are (mark k ∷ ts) = omega (arith, names_are ts)
names_are (bad ∷ ts) = omega (arith, names_are ts)

names_length : (ts : List Placed) → length (names_of ts) ≡ names_in (kinds ts)
names_length ts = kinds_names ts ∙ names_are (kinds ts)

-- THE ROOM FOR NAMES. An event makes known at most as many as it names.
one_longer : (ks : List Known) (w : ℕ) (x : Name) (b : Bool) → length (one_more ks w x b) ≡ length ks + 1
one_longer ks w x b = length-append ks _

knows_few : (ks : List Known) (e : Event) → length (knows ks e) ≤ length ks + names e
unfolding knows
knows_few ks (asks ws x) = omega arith
knows_few ks (declares w x) = omega (arith, one_longer ks w x false)
knows_few ks (announces x) = omega (arith, one_longer ks KR.CLASS x true)
knows_few ks (embodies x) =
    if_has (λ (js : List Known). length js ≤ length ks + 1) (any (named x) ks) (λ e. omega (arith, length-map ks (bodied x)))
    (λ e. omega (arith, one_longer ks KR.CLASS x false))
knows_few ks leaves = omega (arith, keep_few stays ks)
  where
    keep_few : (p : Known → Bool) (js : List Known) → length (keep p js) ≤ length js
    keep_few p [] = omega arith
    keep_few p (j ∷ js) =
        let h = keep_few p js in
        if_has (λ (is : List Known). length is ≤ suc (length js)) (p j) (λ e. omega arith) (λ e. omega arith)

fewer_room : (ks : List Known) (es : List Event) → length ks + total es < most_names → Fewer ks es
fewer_room ks [] h = tt
fewer_room ks (e ∷ es) h = (omega arith, fewer_room (knows ks e) es (omega (arith, knows_few ks e)))

-- A class line stands alone: no local is known, so there is room for two names more.
rest_body : {a : Bool} {ss : List Symbol} → Rest a (body_s ∷ ss) → ⊥
rest_body (before e x) = never e

blocks_wait : {n : ℕ} {ss : List Symbol} → Blocks n ss → waiting ss ≡ 0
blocks_wait outside = refl
blocks_wait (acting x) = refl
blocks_wait (trying x) = refl

part_body : {a b : Bool} {n : ℕ} {ss : List Symbol} → Part a b n (body_s ∷ ss) → ⊥
part_body (block x) = omega (arith, blocks_wait x)
part_body (rest e f x) = never f

titled_idle : {role kind deep q l : ℕ} {ss : List Symbol} → Stage role kind deep q l (body_s ∷ ss) → Idle deep q l
titled_idle (declared e f g t x) = absurd (rest_body x)
titled_idle (entity i g e x) = i
titled_idle (titled i) = i
titled_idle (acts e f g x) = absurd (part_body x)

body_room : {ks : List Known} {d : Draft} {z : Sheet} {ss : List Symbol} → Held d z ks (body_s ∷ ss) →
    length ks + 1 < most_names
body_room {ks = ks} {z = z} h =
    let i = titled_idle h.stage in
    let a : Counted h.q 0 ks z.seen = subst (λ (n : ℕ). Counted h.q n ks z.seen) i.alone h.counted in
    let c : Counted 0 0 ks z.seen = subst (λ (n : ℕ). Counted n 0 ks z.seen) i.none a in
    omega (arith, counted_room (counted_local c [] false) (omega arith), one_longer ks LOCAL [] false)

-- Where a declaration is being read behind its name, only its semicolon is a cut.
rest_last : {s : Symbol} {ss : List Symbol} → Cuts s → Rest false (s ∷ ss) → s ∷ ss ≡ sign K.SEMI ∷ text_s ∷ []
rest_last (at_sign e) last = refl
rest_last (at_sign {k = k} e) (before f x) = go (eqb k K.SEMI) (eqb k K.LB) e f
  where
    go : {A : Type 0} (a b : Bool) → a || b ≡ true → (not a && not b) ≡ true → A
    go true b g h = never h
    go false true g h = never h
    go false false g h = never g
rest_last at_more (before f x) = never f
rest_last at_few (before f x) = never f
rest_last at_body (before f x) = never f

-- There nothing is told any more.
sign_next : (x : Terminal) (t : Token) → next_in (step (one x) t) ≡ []
sign_next x t = go (step (one x) t) (found (λ u ns. ns ≡ []) (rows (one x)) t (λ v. refl, tt))
  where
    go : (o : Option (Rule Of say (one x) t)) → Found (λ u ns. ns ≡ []) o → next_in o ≡ []
    go none f = refl
    go (some p) f = f

closers_untold : (place : ℕ → ℕ) (at n : ℕ) (r : Reader) → story place at (closers n) (text_s ∷ []) r ≡ []
unfolding story closers happens
closers_untold place at zero r = refl
closers_untold place at (suc zero) r = refl
closers_untold place at (suc (suc n)) r = refl

semicolon_untold : (place : ℕ → ℕ) (at n : ℕ) (t : Token) (r : Reader) →
    story place at (t ∷ closers n) (sign K.SEMI ∷ text_s ∷ []) r ≡ []
unfolding story happens
semicolon_untold place at n t r =
    let z : Reader = effect r (sign K.SEMI) t (place at) in
    ap (λ (ns : List Symbol). story place (suc at) (closers n) (ns ++ (text_s ∷ [])) z) (sign_next (the K.SEMI) t)
    ∙ closers_untold place (suc at) n z

-- So there is room for the names behind, or there are none.
free_cut : {r : Reader} {s : Symbol} {ss : List Symbol} → Comes r → r.pile ≡ s ∷ ss → Cuts s →
    (length r.known + waiting (s ∷ ss) < most_names) ⊎ Rest false (s ∷ ss)
free_cut {r = r} {s = s} {ss = ss} c e k = go k (subst (λ (us : List Symbol). Free r.known us) e (names_free c))
    (subst (λ (us : List Symbol). Held r.draft r.sheet r.known us) e (roomy c).held)
  where
    alone : {y : Symbol} → waiting (y ∷ ss) ≡ 0 → Free r.known (y ∷ ss) →
        (length r.known + waiting (y ∷ ss) < most_names) ⊎ Rest false (y ∷ ss)
    alone w (inl l) = inl (omega arith)
    alone w (inr x) = inr x

    go : {y : Symbol} → Cuts y → Free r.known (y ∷ ss) → Held r.draft r.sheet r.known (y ∷ ss) →
        (length r.known + waiting (y ∷ ss) < most_names) ⊎ Rest false (y ∷ ss)
    go (at_sign f) x h = alone refl x
    go at_more x h = alone refl x
    go at_few x h = alone refl x
    go at_body x h = inl (body_room h)

-- OWNERS: nothing begins with a closing brace or the end, nor behind it.
abbrev Closes : (Token → Bool) → Type 0
Closes f = (f (mark K.RB) ≡ false) × (f (mark K.END) ≡ false) × (f bad ≡ false)

action_begins : (a : Action) → Closes (begins_action a)
action_begins (A.HOLD e) = (refl, refl, refl)
action_begins (A.PRIO e) = (refl, refl, refl)
action_begins (A.SET i e) = (refl, refl, refl)
action_begins (A.LSET i e) = (refl, refl, refl)
action_begins (A.DO n b) = (refl, refl, refl)
action_begins (A.PUTR i n) = (refl, refl, refl)
action_begins (A.PUTB i n) = (refl, refl, refl)
action_begins (A.PUTS i n) = (refl, refl, refl)
action_begins (A.BECOME i) = (refl, refl, refl)
action_begins (A.REQ c) = (refl, refl, refl)
action_begins (A.TRY bs) = (refl, refl, refl)
action_begins (A.WHILE b c) = (refl, refl, refl)
action_begins (A.START c n h) = (refl, refl, refl)
action_begins (A.TRACE e) = (refl, refl, refl)
action_begins A.CLOSE = (refl, refl, refl)

entry_begins : (e : Entry) → Closes (begins e)
entry_begins (R.RES n) = (refl, refl, refl)
entry_begins (R.BIN n) = (refl, refl, refl)
entry_begins R.SYNC = (refl, refl, refl)
entry_begins (R.VAR v) = (refl, refl, refl)
entry_begins (R.CLASS b) = (refl, refl, refl)
entry_begins R.BLOCK = (refl, refl, refl)
entry_begins (R.ENTITY e) = (refl, refl, refl)
entry_begins (R.SAMPLER x) = (refl, refl, refl)
entry_begins (R.ACTION a) = action_begins a

closers_begin : (e : Entry) (n i : ℕ) → begins e (get_or (closers n) i bad) ≡ false
unfolding closers
closers_begin e zero zero = (entry_begins e).1
closers_begin e zero (suc i) = (entry_begins e).2
closers_begin e (suc n) zero = (entry_begins e).0
closers_begin e (suc n) (suc i) = closers_begin e n i

owner_before : (e : Entry) (ts : List Token) (n i : ℕ) → begins e (get_or (ts ++ closers n) i bad) ≡ true → i < length ts
owner_before e [] n i h = never (sym (closers_begin e n i) ∙ h)
owner_before e (t ∷ ts) n zero h = omega arith
owner_before e (t ∷ ts) n (suc i) h = omega (arith, owner_before e ts n i h)

-- RECORDS THAT WERE ACCEPTED are good, and so short that they are kept whole.
abbrev Fitting : Owned → Type 0
Fitting o = Fits o.entry

abbrev Good : Owned → Type 0
Good o = good o.entry ≡ true

module _ (old : Text) (e : so_far (file_of (records old)) ≡ D.accepted passed) where
  pub good_old : AllOf Good (records old)
  good_old = (accepted-old (records old) e).0.all_good

  pub short_old : AllOf Short (records old)
  short_old =
      all_map (λ (o : Owned). Fitting o × Good o) Short (λ o h. omega (arith, good_short o.entry h.0 h.1))
      (records old) (all_both Fitting Good (records old) (records_fit old) good_old)

nothing_accepted : so_far (file_of (records [])) ≡ D.accepted passed
unfolding so_far records
nothing_accepted = refl

-- AT A CUT.
module _ (place : ℕ → ℕ) (ts : List Placed) (k : Placed) (r : Reader) (s : Symbol) (ss : List Symbol)
    (h : Arrived place ts k s ss) (g : Goes at_first ts r) (f : r.pile ≡ s ∷ ss) (m : place (length ts) ≡ k.place)
    (n : trouble r.known (event_at r s k.token) ≡ none) (c : is_cut k.token ≡ true) (acc : Accepted (tokens_of ts)) where
  -- The tokens with the cut, those before it, and it.
  abbrev us : List Placed
  us = ts ++ (k ∷ [])

  abbrev tk : List Token
  tk = tokens_of ts

  abbrev t : Token
  t = k.token

  abbrev p : ℕ
  p = k.place

  -- They all fit, so there is a pile.
  pub piled_here : (zs : List Symbol) × (piled Of say step (tk ++ (t ∷ [])) (text_s ∷ []) ≡ some zs)
  piled_here = go (piled Of say step (tk ++ (t ∷ [])) (text_s ∷ [])) refl
    where
      fit : length (tk ++ (t ∷ [])) ≤ fitting (length (tk ++ (t ∷ []))) (reading (tk ++ (t ∷ [])))
      fit =
          subst (λ (xs : List Token). length xs ≤ fitting (length xs) (reading xs)) (kinds_one_more ts k)
          (rw (kinds-length us) h.fit)

      go : (o : Option (List Symbol)) → piled Of say step (tk ++ (t ∷ [])) (text_s ∷ []) ≡ o →
          (zs : List Symbol) × (piled Of say step (tk ++ (t ∷ [])) (text_s ∷ []) ≡ some zs)
      go none e = absurd (omega (arith, fit, unpiled_misfits (tk ++ (t ∷ [])) e))
      go (some zs) e = (zs, e)

  -- The tree of the tokens, and the readers behind them and before the cut.
  abbrev pub tree : Text
  tree = cut_tree place tk t piled_here.0 c piled_here.1

  abbrev pub behind_it : Reader
  behind_it = cut_reader place tk t piled_here.0 c piled_here.1

  abbrev pub before_it : Reader
  before_it = flow place 0 tk (text_s ∷ []) at_first

  abbrev braces : ℕ
  braces = open_braces place tk t piled_here.0 c piled_here.1

  pub in_hand_lem : in_hand us ≡ tree
  in_hand_lem = ap (λ (xs : List Token). tree_in (reading xs)) (kinds_one_more ts k)

  -- THE READER.
  pub comes : Comes r
  comes = goes_comes starts g

  pub sits : Sits place 0 ts
  sits = sits_from place 0 ts (λ i l. ap place (zero-add i) ∙ h.places i l)

  pub goes_on : (d : Reader) → turned r k ≡ goes d → Goes at_first us d
  goes_on d e = goes_then k g e

  pub pile_is : piled_from tk (text_s ∷ []) ≡ s ∷ ss
  pile_is = goes_pile place g sits ∙ f

  same : bare [] before_it ≡ bare [] r
  same = goes_flow place g sits

  spelled : spell_text tree [] ≡ (tk ++ (t ∷ [])) ++ closers braces
  spelled = cut_spelled place tk t piled_here.0 c piled_here.1

  -- The cut fits, so it is one of a few symbols that come next.
  pub cuts : Cuts s
  unfolding fits
  cuts =
      cut_symbol s t c
      (both_true (fits_in (step s t)) true
      (subst (λ (zs : List Symbol). fits (t ∷ []) zs ≡ true) pile_is
      (fits_behind tk (t ∷ []) (text_s ∷ []) (fits_begun place tree (tk ++ (t ∷ [])) (closers braces) spelled)))).0

  looks_there : (d : Draft) (z : Sheet) → looks before_it d z s t p ≡ looks r d z s t p
  looks_there d z = looks_same before_it r same d z t p cuts

  -- What the cut makes of the reader before it.
  flow_one : (at : ℕ) → flow place at (t ∷ []) (s ∷ ss) before_it ≡ effect before_it s t (place at)
  unfolding flow
  flow_one at = refl

  at_place : place (0 + length tk) ≡ p
  at_place =
      let l = kinds-length ts in
      let a = ap length (tokens_are ts) in
      let e : 0 + length tk ≡ length ts = omega arith in
      ap place e ∙ m

  reader_is : behind_it ≡ effect before_it s t p
  reader_is =
      flow-append place 0 tk (t ∷ []) (text_s ∷ []) at_first
      ∙ ap (λ (zs : List Symbol). flow place (0 + length tk) (t ∷ []) zs before_it) pile_is
      ∙ flow_one (0 + length tk)
      ∙ ap (λ (q : ℕ). effect before_it s t q) at_place

  effect_draft : (effect before_it s t p).draft ≡ draft_after before_it s t p
  unfolding effect M.after
  effect_draft = refl

  effect_sheet : (effect before_it s t p).sheet ≡ sheet_after before_it (draft_after before_it s t p) s t p
  unfolding effect M.after
  effect_sheet = refl

  abbrev d : Draft
  d = draft_after r s t p

  abbrev z : Sheet
  z = sheet_after r d s t p

  pub draft_is : d ≡ behind_it.draft
  draft_is =
      sym (ap (λ (x : Looks). x.0) (looks_there d z)) ∙ sym effect_draft ∙ sym (ap (λ (x : Reader). x.draft) reader_is)

  pub sheet_is : z ≡ behind_it.sheet
  sheet_is =
      sym (ap (λ (x : Looks). x.1) (looks_there d z))
      ∙ sym (ap (λ (x : Draft). sheet_after before_it x s t p) (ap (λ (x : Looks). x.0) (looks_there d z)))
      ∙ sym effect_sheet ∙ sym (ap (λ (x : Reader). x.sheet) reader_is)

  pub cut_same : cut_at r d s t z ≡ cut_at before_it behind_it.draft s t behind_it.sheet
  cut_same =
      sym (ap (λ (x : Looks). x.2) (looks_there d z))
      ∙ ap (λ (x : Draft). cut_at before_it x s t z) draft_is
      ∙ ap (λ (x : Sheet). cut_at before_it behind_it.draft s t x) sheet_is

  -- NAMES. All that the tree has stand before the cut; so none is in trouble,
  calm : Calm us
  calm =
      calm_on place ts k s ss h
      (subst (λ (xs : List Token).
      trouble (flow place 0 xs (text_s ∷ []) at_first).known (event_at (flow place 0 xs (text_s ∷ []) at_first) s t) ≡ none)
      (sym (tokens_are ts))
      (ap (λ (x : Reader). trouble x.known (event_at before_it s t)) same
      ∙ ap (λ (x : Looks). trouble r.known x.3) (looks_there d z) ∙ n))

  names_here : total (events tree) ≤ names_in tk
  names_here =
      let xs : List Token = tk ++ (t ∷ []) in
      let a = names_begun place tree (spell_text tree []) [] (sym (append-nil (spell_text tree []))) in
      let b = ap total (story_text place tree) in
      let e = ap names_in spelled in
      omega (arith, names_append xs (closers braces), names_append tk (t ∷ []), closers_name braces, cut_name t c)

  pub calm_cut : trouble_in [] (events tree) ≡ none
  calm_cut =
      let a = names_length us in
      let b = ap names_in (kinds_one_more ts k) in
      untroubled (length (names_of us)) (events tree) []
      (λ x e. calm.named x
      (ap (λ (u : Text). trouble_in [] (events u)) in_hand_lem ∙ ap (λ (es : List Event). trouble_in [] es)
      (sym (append-nil (events tree))) ∙ e))
      (omega (arith, names_here, names_append tk (t ∷ [])))

  -- and there was room for each.
  abbrev later : List Symbol → List Event
  later zs = story place (length tk) (t ∷ closers braces) zs before_it

  abbrev told_before : List Event
  told_before = story place 0 tk (text_s ∷ []) at_first

  ahead : spell_text tree [] ≡ tk ++ t ∷ closers braces
  ahead = spelled ∙ append_assoc tk (t ∷ []) (closers braces)

  events_are : events tree ≡ told_before ++ later (s ∷ ss)
  events_are =
      events_split place tree tk (t ∷ closers braces) ahead ∙ ap (λ (zs : List Symbol). told_before ++ later zs) pile_is

  later_names : total (later (s ∷ ss)) ≤ waiting (s ∷ ss)
  later_names =
      let a = names_begun place tree tk (t ∷ closers braces) ahead in
      let b = ap waiting pile_is in
      let e = ap total events_are in
      omega (arith, names_here, total-append told_before (later (s ∷ ss)))

  later_fewer : (length r.known + waiting (s ∷ ss) < most_names) ⊎ Rest false (s ∷ ss) → Fewer r.known (later (s ∷ ss))
  later_fewer (inl l) = fewer_room r.known (later (s ∷ ss)) (omega (arith, later_names))
  later_fewer (inr x) =
      subst (λ (es : List Event). Fewer r.known es)
      (sym (ap later (rest_last cuts x) ∙ semicolon_untold place (length tk) braces t before_it)) tt

  pub room_cut : Fewer [] (events tree)
  room_cut =
      subst (λ (es : List Event). Fewer [] es) (sym events_are)
      (fewer_append [] told_before (later (s ∷ ss)) (goes_fewer place g sits)
      (subst (λ (ks : List Known). Fewer ks (later (s ∷ ss))) (goes_known place g sits) (later_fewer (free_cut comes f cuts))))

  -- THE TREE AT THE CUT BEFORE was accepted.
  pub stepped : Stepped tk tree
  stepped = cut_grows tk t piled_here.0 c piled_here.1

  pub before_it_lem : (old : Text) × Grows old tree × (so_far (file_of (records old)) ≡ D.accepted passed)
  before_it_lem = go stepped
    where
      go : Stepped tk tree → (old : Text) × Grows old tree × (so_far (file_of (records old)) ≡ D.accepted passed)
      go (from_nothing u x) = ([], x, nothing_accepted)
      go (from_cut vs v ws b e u x) = (tree_in (reading (vs ++ (v ∷ []))), x, acc vs v ws b e)

  -- THE RECORDS.
  pub placed_cut : InPlace 0 (records tree)
  placed_cut = records_placed tree

  pub fits_cut : AllOf Fitting (records tree)
  fits_cut = records_fit tree

  token_placed : (i : ℕ) → i < length us → place_at us i ≡ place i
  token_placed i l = go (ltb i (length ts)) refl
    where
      go : (b : Bool) → ltb i (length ts) ≡ b → place_at us i ≡ place i
      go true e =
          let j = ltb-true i (length ts) e in place_before ts (k ∷ []) i j ∙ sym (h.places i j)
      go false e =
          let j : i ≡ length ts = omega (arith, ltb-false i (length ts) e, length-append ts (k ∷ [])) in
          ap (λ (x : ℕ). place_at us x) j ∙ place_there ts k [] ∙ sym m ∙ ap place (sym j)

  pub owners_placed : AllOf (λ (o : Owned). place_at us o.owner ≡ place o.owner) (records tree)
  owners_placed =
      all_map (Begins (spell_text tree [])) (λ (o : Owned). place_at us o.owner ≡ place o.owner)
      (λ o b.
      let i = owner_before o.entry (tk ++ (t ∷ [])) braces o.owner
      (ap (λ (xs : List Token). begins o.entry (get_or xs o.owner bad)) (sym spelled) ∙ b) in
      let a = ap length (kinds_one_more ts k) in
      token_placed o.owner (omega (arith, kinds-length us)))
      (records tree) (owners_begin tree)

  pub told_cut : (a : Answer) → at_cut us t (in_hand us) a ≡ told us (records tree) (so_far (file_of (records tree))) (λ x. a)
  told_cut a = ap (λ (u : Text). at_cut us t u a) in_hand_lem ∙ cut_is us t tree a ∙ rw c refl
