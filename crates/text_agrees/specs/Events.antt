-- What a reader's tokens are for names: the events of each, those of many, and that the machine knows what they make known.
-- Assumes nothing.
use Prim.Native.Nat.{ℕ, zero, suc, ◌+◌, ◌-◌, ◌<◌}
use Rattle.std.proofs.Common.{arith, ◌∙◌, subst}
use Rattle.std.specs.Prelude.{◌≡◌, Bool, ◌&&◌, ◌||◌, eqb, if◌then◌else◌}
use Rattle.std.proofs.Math.Path.{refl, sym, ap}
use mathlib.Core.List.{List, [], ◌∷◌, ◌++◌, append_assoc}
use Rattle.std.proofs.Math.Bool.{true, false}
use Rattle.std.proofs.Math.Dec.{leb, eqb-suc-suc, eqb-suc-zero}
use Rattle.std.proofs.Math.ListN.{length}
use Rattle.std.proofs.lemmas.Bool.{lt-leb}
use Rattle.semantics.specs.Kinds as K
use Rattle.text_semantics.specs.Token as T
use Rattle.text_semantics.specs.Token.{Token, name, number, mark, bad}
use Rattle.text_semantics.specs.Grammar.{Name}
use Rattle.text_semantics.specs.Names as N
use Rattle.text_semantics.specs.Names.{Known, Event, asks, declares, announces, embodies, leaves, knows, store, value, variable}
use Rattle.text_semantics.specs.Reading.{Symbol, step, one, the, a_name, a_number, factor_s, minus_s, more, signed_s, relation_s}
use Rattle.text_semantics.specs.Reading.{item_s, claim_s, items_s, gives_s, given_s, actions_s, try_s, few_s, lines_s, body_s, text_s}
use Rattle.text_machine.specs.Entry.{ASK, mark_in, name_in}
use Rattle.text_machine.specs.Machine.{Reader, most_names, known_after, after}
use Rattle.text_agrees.specs.Flow.{next_in, effect, flow}

-- What names depend on: what the next name is for, whether a start is being written, the name of the class line, and how many
-- blocks are open.
pub record Clue : Type 0 where
  pub role : ℕ
  pub starting : Bool
  pub called : Name
  pub depth : ℕ

abbrev pub clue_of : Reader → Clue
clue_of r =
    record {
      role = r.draft.role;
      starting = eqb r.draft.kind K.START;
      called = r.called;
      depth = length r.sheet.levels;
    }

-- THE EVENTS OF A TOKEN, by what was still to come: none or one. The name of a class line is told where the line goes on.
-- Of a token that doesn't fit it says what the machine would make known.
abbrev pub asked : ℕ → Name → List Event
asked r x = if leb ASK r then asks ((r - ASK) ∷ []) x ∷ [] else if eqb r K.CLASS then [] else declares r x ∷ []

abbrev pub of_name : Token → (Name → Event) → List Event
of_name (name x) f = f x ∷ []
of_name (number n) f = []
of_name (mark s) f = []
of_name bad f = []

abbrev pub lone : ℕ → Bool
lone zero = false
lone (suc zero) = true
lone (suc (suc n)) = false

-- Where an action or a brace comes, with n blocks open.
abbrev pub in_block : ℕ → Token → List Event
in_block n (name x) = asks store x ∷ []
in_block n (number m) = []
in_block n (mark s) = if eqb s T.RB && lone n then leaves ∷ [] else []
in_block n bad = []

unfoldable pub told : Clue → Symbol → Token → List Event
told c (one (the s)) t = []
told c (one a_name) t = asked c.role (name_in t)
told c (one (a_number b)) t = []
told c (factor_s n) t = of_name t (asks value)
told c (minus_s n) t = of_name t (asks value)
told c (more n k) t = []
told c signed_s t = []
told c relation_s t = []
told c item_s t = of_name t (asks variable)
told c claim_s t = of_name t (asks variable)
told c items_s t = []
told c gives_s t = []
told c given_s t = []
told c actions_s t = in_block c.depth t
told c try_s t = in_block c.depth t
told c (few_s n) t = []
told c lines_s t = in_block c.depth t
told c body_s t = if eqb (mark_in t) T.SEMI then announces c.called ∷ [] else embodies c.called ∷ []
told c text_s t = []

unfoldable pub happens : Reader → Symbol → Token → List Event
unfolding told
happens r s t = told (clue_of r) s t

-- What is still to come behind tokens.
unfoldable pub piled_from : List Token → List Symbol → List Symbol
piled_from [] ss = ss
piled_from (t ∷ ts) [] = []
piled_from (t ∷ ts) (s ∷ ss) = piled_from ts (next_in (step s t) ++ ss)

-- There is room: every list of names that is met has fewer than are kept.
abbrev pub Fewer : List Known → List Event → Type 0
Fewer ks [] = Unit
Fewer ks (e ∷ es) = (length ks < most_names) × Fewer (knows ks e) es

pub fewer_split : (ks : List Known) (es fs : List Event) → Fewer ks (es ++ fs) → Fewer ks es × Fewer (N.after ks es) fs
unfolding N.after
fewer_split ks [] fs h = (tt, h)
fewer_split ks (e ∷ es) fs h = let m = fewer_split (knows ks e) es fs h.1 in ((h.0, m.0), m.1)

pub after-append : (ks : List Known) (es fs : List Event) → N.after ks (es ++ fs) ≡ N.after (N.after ks es) fs
unfolding N.after
after-append ks [] fs = refl
after-append ks (e ∷ es) fs = after-append (knows ks e) es fs

-- ONE TOKEN: with room, the machine knows what the events make known.
lone_one : (n : ℕ) → eqb n 1 ≡ lone n
lone_one zero = refl
lone_one (suc zero) = refl
lone_one (suc (suc n)) = eqb-suc-suc (suc n) 0 ∙ eqb-suc-zero n

kept : (ks : List Known) (e : Event) → length ks < most_names →
    (if leb most_names (length ks) then ks else knows ks e) ≡ knows ks e
kept ks e h = rw (lt-leb most_names (length ks) h)

module _ (r : Reader) where
  known_block : (t : Token) →
      (if eqb (mark_in t) T.RB && eqb (length r.sheet.levels) 1 then knows r.known leaves else r.known)
      ≡ N.after r.known (in_block (length r.sheet.levels) t)
  unfolding N.after
  known_block (name x) = refl
  known_block (number n) = refl
  known_block (mark s) =
      rw (lone_one (length r.sheet.levels)) (go (eqb s T.RB && lone (length r.sheet.levels)))
    where
      go : (x : Bool) → (if x then knows r.known leaves else r.known) ≡ N.after r.known (if x then leaves ∷ [] else [])
      go true = refl
      go false = refl
  known_block bad = refl

  known_of_name : (t : Token) (w : List ℕ) → r.known ≡ N.after r.known (of_name t (asks w))
  unfolding N.after
  known_of_name (name x) w = refl
  known_of_name (number n) w = refl
  known_of_name (mark s) w = refl
  known_of_name bad w = refl

  pub known_step : (s : Symbol) (t : Token) → Fewer r.known (happens r s t) →
      known_after r s t ≡ N.after r.known (happens r s t)
  unfolding known_after N.after happens
  known_step (one (the s)) t h = refl
  known_step (one a_name) t h = go (leb ASK r.draft.role) (eqb r.draft.role K.CLASS) h
    where
      go : (a b : Bool) →
          Fewer r.known (if a then asks ((r.draft.role - ASK) ∷ []) (name_in t) ∷ [] else if b then []
          else declares r.draft.role (name_in t) ∷ []) →
          (if a || b then r.known else (if leb most_names (length r.known) then r.known
          else knows r.known (declares r.draft.role (name_in t))))
          ≡ N.after r.known (if a then asks ((r.draft.role - ASK) ∷ []) (name_in t) ∷ [] else if b then []
          else declares r.draft.role (name_in t) ∷ [])
      go true b f = refl
      go false true f = refl
      go false false f = kept r.known (declares r.draft.role (name_in t)) f.0
  known_step (one (a_number b)) t h = refl
  known_step (factor_s n) t h = known_of_name t value
  known_step (minus_s n) t h = known_of_name t value
  known_step (more n k) t h = refl
  known_step signed_s t h = refl
  known_step relation_s t h = refl
  known_step item_s t h = known_of_name t variable
  known_step claim_s t h = known_of_name t variable
  known_step items_s t h = refl
  known_step gives_s t h = refl
  known_step given_s t h = refl
  known_step actions_s t h = known_block t
  known_step try_s t h = known_block t
  known_step (few_s n) t h = refl
  known_step lines_s t h = known_block t
  known_step body_s t h = go (eqb (mark_in t) T.SEMI) h
    where
      go : (a : Bool) → Fewer r.known (if a then announces r.called ∷ [] else embodies r.called ∷ []) →
          (if a then (if leb most_names (length r.known) then r.known else knows r.known (announces r.called))
          else (if leb most_names (length r.known) then r.known else knows r.known (embodies r.called)))
          ≡ N.after r.known (if a then announces r.called ∷ [] else embodies r.called ∷ [])
      go true f = kept r.known (announces r.called) f.0
      go false f = kept r.known (embodies r.called) f.0
  known_step text_s t h = refl

-- MANY TOKENS.
module _ (place : ℕ → ℕ) where
  unfoldable pub story : ℕ → List Token → List Symbol → Reader → List Event
  unfolding effect happens
  story at [] ss r = []
  story at (t ∷ ts) [] r = []
  story at (t ∷ ts) (s ∷ ss) r =
      happens r s t ++ story (suc at) ts (next_in (step s t) ++ ss) (effect r s t (place at))

  -- What is known then.
  pub known_story : (at : ℕ) (ts : List Token) (ss : List Symbol) (r : Reader) → Fewer r.known (story at ts ss r) →
      (flow place at ts ss r).known ≡ N.after r.known (story at ts ss r)
  unfolding flow story N.after
  known_story at [] ss r h = refl
  known_story at (t ∷ ts) [] r h = refl
  known_story at (t ∷ ts) (s ∷ ss) r h =
      let z : Reader = effect r s t (place at) in
      let es : List Event = happens r s t in
      let fs : List Event = story (suc at) ts (next_in (step s t) ++ ss) z in
      let m : Fewer r.known es × Fewer (N.after r.known es) fs = fewer_split r.known es fs h in
      let e : z.known ≡ N.after r.known es = known_step r s t m.0 in
      known_story (suc at) ts (next_in (step s t) ++ ss) z (subst (λ (ks : List Known). Fewer ks fs) (sym e) m.1)
      ∙ ap (λ (ks : List Known). N.after ks fs) e
      ∙ sym (after-append r.known es fs)

  -- Tokens behind tokens.
  further : (at : ℕ) (t : Token) (ts : List Token) → suc at + length ts ≡ at + length (t ∷ ts)
  further at t ts = omega arith

  flow_none : (at : ℕ) (ts : List Token) (r : Reader) → flow place at ts [] r ≡ r
  unfolding flow
  flow_none at [] r = refl
  flow_none at (t ∷ ts) r = refl

  story_none : (at : ℕ) (ts : List Token) (r : Reader) → story at ts [] r ≡ []
  unfolding story
  story_none at [] r = refl
  story_none at (t ∷ ts) r = refl

  pub flow-append : (at : ℕ) (ts us : List Token) (ss : List Symbol) (r : Reader) →
      flow place at (ts ++ us) ss r ≡ flow place (at + length ts) us (piled_from ts ss) (flow place at ts ss r)
  unfolding flow piled_from
  flow-append at [] us ss r = ap (λ (n : ℕ). flow place n us ss r) (omega arith)
  flow-append at (t ∷ ts) us [] r = sym (flow_none (at + length (t ∷ ts)) us r)
  flow-append at (t ∷ ts) us (s ∷ ss) r =
      let zs : List Symbol = next_in (step s t) ++ ss in
      let z : Reader = effect r s t (place at) in
      flow-append (suc at) ts us zs z
      ∙ ap (λ (n : ℕ). flow place n us (piled_from ts zs) (flow place (suc at) ts zs z)) (further at t ts)

  pub story-append : (at : ℕ) (ts us : List Token) (ss : List Symbol) (r : Reader) →
      story at (ts ++ us) ss r ≡ story at ts ss r ++ story (at + length ts) us (piled_from ts ss) (flow place at ts ss r)
  unfolding flow story piled_from
  story-append at [] us ss r = ap (λ (n : ℕ). story n us ss r) (omega arith)
  story-append at (t ∷ ts) us [] r = sym (story_none (at + length (t ∷ ts)) us r)
  story-append at (t ∷ ts) us (s ∷ ss) r =
      let zs : List Symbol = next_in (step s t) ++ ss in
      let z : Reader = effect r s t (place at) in
      let fs : List Event = story (suc at) ts zs z in
      let later : ℕ → List Event = λ n. story n us (piled_from ts zs) (flow place (suc at) ts zs z) in
      ap (λ (es : List Event). happens r s t ++ es) (story-append (suc at) ts us zs z)
      ∙ ap (λ (n : ℕ). happens r s t ++ (fs ++ later n)) (further at t ts)
      ∙ sym (append_assoc (happens r s t) fs (later (at + length (t ∷ ts))))
