-- How many names the beginning of a text has: as many as its events, and one more where a class line's name waits for its body.
-- Assumes nothing.
use Rattle.std.specs.Prelude.{ℕ, zero, suc, ◌+◌, ◌-◌, ◌≡◌, List, [], ◌∷◌, ◌++◌, Bool, true, false, ◌&&◌, eqb, leb, if◌then◌else◌}
use Rattle.std.proofs.Common.{arith, sym, ap, subst}
use Rattle.std.proofs.Math.Path.{refl}
use Rattle.std.proofs.Math.Option.{Option, none, some}
use Rattle.semantics.specs.Kinds as K
use Rattle.text_semantics.specs.Numbers as No
use Rattle.text_semantics.specs.Token.{Token, number, mark, name, bad}
use Rattle.text_semantics.specs.Grammar.{Name, Text, spell_text}
use Rattle.text_semantics.specs.Names.{Event, names, asks, declares, leaves}
use Rattle.text_semantics.specs.Reading.{Symbol, Row, Val, Hit, token, accepts, taken, choose, rows, step, one, the, a_name}
use Rattle.text_semantics.specs.Reading.{a_number, factor_s, minus_s, more, signed_s, relation_s, item_s, claim_s, items_s, gives_s}
use Rattle.text_semantics.specs.Reading.{given_s, actions_s, try_s, few_s, lines_s, body_s, text_s, name_s}
use Rattle.text_machine.specs.Entry.{ASK, asking}
use Rattle.text_machine.specs.Machine.{at_first}
use Rattle.text_agrees.specs.Flow.{next_in}
use Rattle.text_agrees.specs.Events.{Clue, clue_of, asked, lone, told, piled_from, story}
use Rattle.text_agrees.specs.Clues.{led, Cue, cue_in, number_cue}
use Rattle.text_agrees.specs.Tales.{fits_in, fits, tale, story-tale, never, both_true, fits_begun}

-- NAMES among tokens, and those of events.
abbrev pub name_of : Token → ℕ
name_of (name x) = 1
name_of (number n) = 0
name_of (mark s) = 0
name_of bad = 0

abbrev pub names_in : List Token → ℕ
names_in [] = 0
names_in (t ∷ ts) = name_of t + names_in ts

abbrev pub total : List Event → ℕ
total [] = 0
total (e ∷ es) = names e + total es

-- A class line whose name has been read goes on.
abbrev pub is_body : Symbol → Bool
is_body (one x) = false
is_body (factor_s n) = false
is_body (minus_s n) = false
is_body (more n k) = false
is_body signed_s = false
is_body relation_s = false
is_body item_s = false
is_body claim_s = false
is_body items_s = false
is_body gives_s = false
is_body given_s = false
is_body actions_s = false
is_body try_s = false
is_body (few_s n) = false
is_body lines_s = false
is_body body_s = true
is_body text_s = false

abbrev pub waiting : List Symbol → ℕ
waiting [] = 0
waiting (s ∷ ss) = if is_body s then 1 else 0

abbrev plain : List Symbol → Bool
plain [] = true
plain (s ∷ ss) = if is_body s then false else plain ss

plain-waiting : (ss : List Symbol) → plain ss ≡ true → waiting ss ≡ 0
plain-waiting [] h = refl
plain-waiting (s ∷ ss) h = go (is_body s) h
  where
    go : (b : Bool) → (if b then false else plain ss) ≡ true → ◌≡◌ {A = ℕ} (if b then 1 else 0) 0
    go true e = never e
    go false e = refl

plain_rest : (s : Symbol) (ss : List Symbol) → plain (s ∷ ss) ≡ true → plain ss ≡ true
plain_rest s ss h = go (is_body s) h
  where
    go : (b : Bool) → (if b then false else plain ss) ≡ true → plain ss ≡ true
    go true e = never e
    go false e = e

plain-append : (ss zs : List Symbol) → plain ss ≡ true → plain zs ≡ true → plain (ss ++ zs) ≡ true
plain-append [] zs h g = g
plain-append (s ∷ ss) zs h g = go (is_body s) (λ e. plain-append ss zs e g) h
  where
    go : (b : Bool) → (plain ss ≡ true → plain (ss ++ zs) ≡ true) → (if b then false else plain ss) ≡ true →
        (if b then false else plain (ss ++ zs)) ≡ true
    go true f e = never e
    go false f e = f e

pub total-append : (es fs : List Event) → total (es ++ fs) ≡ total es + total fs
total-append [] fs = omega arith
total-append (e ∷ es) fs = let h = total-append es fs in omega arith

-- RULES: what holds of each row's token and of what comes then holds of a token that fits.
module _ {s : Symbol} (P : Token → List Symbol → Type 0) where
  data Each : List (Row s) → Type 0 where
    end : Each []
    row : {w : Row s} {ws : List (Row s)} → ((v : Val w.first) → P (token w.first v) w.next) → Each ws → Each (w ∷ ws)

  chosen : (w : Row s) (t : Token) (o : Option (Hit w.first t)) (z : Option _) →
      ((v : Val w.first) → P (token w.first v) w.next) → (fits_in z ≡ true → P t (next_in z)) →
      fits_in (taken w t o z) ≡ true → P t (next_in (taken w t o z))
  chosen w t none z f g h = g h
  chosen w t (some x) z f g h = subst (λ (u : Token). P u w.next) x.1 (f x.0)

  each : (ws : List (Row s)) → Each ws → (t : Token) → fits_in (choose ws t) ≡ true → P t (next_in (choose ws t))
  each _ end t h = never h
  each _ (row {w = w} {ws = ws} f x) t h = chosen w t (accepts w.first t) (choose ws t) f (each ws x t) h

-- WHERE A TOKEN COMES: a class line's name is read, or its body comes, or a declaration, or the lines of a body; or no class
-- line is near.
data Stand (c : Clue) : List Symbol → Type 0 where
  naming : {us : List Symbol} → c.role ≡ K.CLASS → plain us ≡ true → Stand c (name_s ∷ body_s ∷ text_s ∷ us)
  going : {us : List Symbol} → plain us ≡ true → Stand c (body_s ∷ text_s ∷ us)
  fresh : {us : List Symbol} → plain us ≡ true → Stand c (text_s ∷ us)
  lines : {us : List Symbol} → plain us ≡ true → Stand c (lines_s ∷ us)
  calm : {ss : List Symbol} → eqb c.role K.CLASS ≡ false → plain ss ≡ true → Stand c ss

-- What one token does.
abbrev Next : Clue → Symbol → List Symbol → Token → List Symbol → Type 0
Next c s ss t ns =
    (name_of t + waiting (s ∷ ss) ≡ total (told c s t) + waiting (ns ++ ss)) × Stand (led c s t) (ns ++ ss)

-- .. where no class line is near.
abbrev Calm : Clue → Symbol → Token → List Symbol → Type 0
Calm c s t ns =
    (name_of t ≡ total (told c s t)) × (eqb (led c s t).role K.CLASS ≡ false) × (plain ns ≡ true)

asked_one : (r : ℕ) (x : Name) → eqb r K.CLASS ≡ false → 1 ≡ total (asked r x)
asked_one r x h = go (leb ASK r) (eqb r K.CLASS) h
  where
    go : (a b : Bool) → b ≡ false →
        1 ≡ total (if a then asks ((r - ASK) ∷ []) x ∷ [] else if b then [] else declares r x ∷ [])
    go true b e = refl
    go false true e = never (sym e)
    go false false e = refl

brace_none : (n : ℕ) → 0 ≡ total (if lone n then leaves ∷ [] else [])
brace_none n = go (lone n)
  where
    go : (b : Bool) → 0 ≡ total (if b then leaves ∷ [] else [])
    go true = refl
    go false = refl

number_role : (c : Clue) (b : ℕ) → eqb c.role K.CLASS ≡ false → eqb (number_cue c b).0 K.CLASS ≡ false
number_role c b h = go (eqb b No.top_count) (eqb b No.top_magnitude) (c.starting && eqb c.role (asking K.CLASS))
  where
    go : (x y z : Bool) →
        let q : Cue = if x then cue_in c else if y then cue_in c else if z then (asking K.RES, c.starting) else cue_in c in
        eqb q.0 K.CLASS ≡ false
    go true y z = h
    go false true z = h
    go false false true = refl
    go false false false = h

module _ (c : Clue) (s : Symbol) (ss : List Symbol) (p : plain (s ∷ ss) ≡ true) where
  quiet : (t : Token) → Each {s = s} (Calm c s) (rows s) → fits_in (step s t) ≡ true → Next c s ss t (next_in (step s t))
  quiet t rs h =
      let ns : List Symbol = next_in (step s t) in
      let x : Calm c s t ns = each (Calm c s) (rows s) rs t h in
      let q : plain (ns ++ ss) ≡ true = plain-append ns ss x.2 (plain_rest s ss p) in
      let a = plain-waiting (s ∷ ss) p in
      let b = plain-waiting (ns ++ ss) q in
      let e = x.0 in
      (omega arith, calm x.1 q)

-- The rows of actions.
module _ (c : Clue) where
  abbrev AtBlock : Symbol → Type 0
  AtBlock s = Each {s = s} (Calm c s) (rows s)

  at_actions : AtBlock actions_s
  unfolding told led
  at_actions =
      row (λ v. (brace_none c.depth, refl, refl)) (row (λ v. (refl, refl, refl)) (row (λ v. (refl, refl, refl))
      (row (λ v. (refl, refl, refl)) (row (λ v. (refl, refl, refl)) (row (λ v. (refl, refl, refl)) (row (λ v. (refl, refl, refl))
      (row (λ v. (refl, refl, refl)) (row (λ v. (refl, refl, refl)) (row (λ v. (refl, refl, refl)) (row (λ v. (refl, refl, refl))
      (row (λ v. (refl, refl, refl)) (row (λ v. (refl, refl, refl)) (row (λ v. (refl, refl, refl)) (row (λ v. (refl, refl, refl))
      end))))))))))))))

  at_try : AtBlock try_s
  unfolding told led
  at_try =
      row (λ v. (brace_none c.depth, refl, refl)) (row (λ v. (refl, refl, refl)) (row (λ v. (refl, refl, refl))
      (row (λ v. (refl, refl, refl)) (row (λ v. (refl, refl, refl)) (row (λ v. (refl, refl, refl)) (row (λ v. (refl, refl, refl))
      (row (λ v. (refl, refl, refl)) (row (λ v. (refl, refl, refl)) (row (λ v. (refl, refl, refl)) (row (λ v. (refl, refl, refl))
      (row (λ v. (refl, refl, refl)) (row (λ v. (refl, refl, refl)) (row (λ v. (refl, refl, refl)) (row (λ v. (refl, refl, refl))
      (row (λ v. (refl, refl, refl)) end)))))))))))))))

  at_lines : AtBlock lines_s
  unfolding told led
  at_lines =
      row (λ v. (brace_none c.depth, refl, refl)) (row (λ v. (refl, refl, refl)) (row (λ v. (refl, refl, refl))
      (row (λ v. (refl, refl, refl)) (row (λ v. (refl, refl, refl)) (row (λ v. (refl, refl, refl)) (row (λ v. (refl, refl, refl))
      (row (λ v. (refl, refl, refl)) (row (λ v. (refl, refl, refl)) (row (λ v. (refl, refl, refl)) (row (λ v. (refl, refl, refl))
      (row (λ v. (refl, refl, refl)) (row (λ v. (refl, refl, refl)) (row (λ v. (refl, refl, refl)) (row (λ v. (refl, refl, refl))
      (row (λ v. (refl, refl, refl)) end)))))))))))))))

  -- A declaration begins.
  fresh_step : (ss : List Symbol) → plain ss ≡ true → (t : Token) → fits_in (step text_s t) ≡ true →
      Next c text_s ss t (next_in (step text_s t))
  unfolding told led
  fresh_step ss p =
      each (Next c text_s ss) (rows text_s)
      (row (λ v. (ap (λ (n : ℕ). 0 + n) (sym (plain-waiting ss p)), calm refl p)) (row (λ v. (refl, calm refl p))
      (row (λ v. (refl, calm refl p)) (row (λ v. (refl, calm refl p)) (row (λ v. (refl, calm refl p))
      (row (λ v. (refl, calm refl p)) (row (λ v. (refl, naming refl p)) (row (λ v. (refl, calm refl p)) end))))))))

  -- A class line goes on.
  going_step : (us : List Symbol) → plain us ≡ true → (t : Token) → fits_in (step body_s t) ≡ true →
      Next c body_s (text_s ∷ us) t (next_in (step body_s t))
  unfolding told led
  going_step us p = each (Next c body_s (text_s ∷ us)) (rows body_s) (row (λ v. (refl, fresh p)) (row (λ v. (refl, lines p)) end))

  naming_step : (us : List Symbol) → c.role ≡ K.CLASS → plain us ≡ true → (t : Token) → fits_in (step name_s t) ≡ true →
      Next c name_s (body_s ∷ text_s ∷ us) t (next_in (step name_s t))
  unfolding told led
  naming_step us h p =
      each (Next c name_s (body_s ∷ text_s ∷ us)) (rows name_s)
      (row (λ v. (ap (λ (r : ℕ). total (asked r v) + 1) (sym h), going p)) end)

  module _ (h : eqb c.role K.CLASS ≡ false) where
    calm_step : (s : Symbol) (ss : List Symbol) → plain (s ∷ ss) ≡ true → (t : Token) → fits_in (step s t) ≡ true →
        Next c s ss t (next_in (step s t))
    unfolding told led
    calm_step (one (the k)) ss p t = quiet c (one (the k)) ss p t (row (λ v. (refl, h, refl)) end)
    calm_step (one a_name) ss p t = quiet c (one a_name) ss p t (row (λ v. (asked_one c.role v h, h, refl)) end)
    calm_step (one (a_number b)) ss p t = quiet c (one (a_number b)) ss p t (row (λ v. (refl, number_role c b h, refl)) end)
    calm_step (factor_s zero) ss p t =
        quiet c (factor_s zero) ss p t
        (row (λ v. (refl, h, refl)) (row (λ v. (refl, h, refl)) (row (λ v. (refl, h, refl)) (row (λ v. (refl, h, refl)) end))))
    calm_step (factor_s (suc n)) ss p t =
        quiet c (factor_s (suc n)) ss p t
        (row (λ v. (refl, h, refl)) (row (λ v. (refl, h, refl)) (row (λ v. (refl, h, refl)) (row (λ v. (refl, h, refl))
        (row (λ v. (refl, h, refl)) (row (λ v. (refl, h, refl)) (row (λ v. (refl, h, refl)) end)))))))
    calm_step (minus_s zero) ss p t =
        quiet c (minus_s zero) ss p t
        (row (λ v. (refl, h, refl)) (row (λ v. (refl, h, refl)) (row (λ v. (refl, h, refl)) (row (λ v. (refl, h, refl)) end))))
    calm_step (minus_s (suc n)) ss p t =
        quiet c (minus_s (suc n)) ss p t
        (row (λ v. (refl, h, refl)) (row (λ v. (refl, h, refl)) (row (λ v. (refl, h, refl)) (row (λ v. (refl, h, refl))
        (row (λ v. (refl, h, refl)) (row (λ v. (refl, h, refl)) (row (λ v. (refl, h, refl)) end)))))))
    calm_step (more n k) ss p t =
        quiet c (more n k) ss p t
        (row (λ v. (refl, h, refl)) (row (λ v. (refl, h, refl)) (row (λ v. (refl, h, refl)) (row (λ v. (refl, h, refl)) end))))
    calm_step signed_s ss p t =
        quiet c signed_s ss p t (row (λ v. (refl, h, refl)) (row (λ v. (refl, h, refl)) end))
    calm_step relation_s ss p t =
        quiet c relation_s ss p t
        (row (λ v. (refl, h, refl)) (row (λ v. (refl, h, refl)) (row (λ v. (refl, h, refl)) (row (λ v. (refl, h, refl))
        (row (λ v. (refl, h, refl)) (row (λ v. (refl, h, refl)) end))))))
    calm_step item_s ss p t =
        quiet c item_s ss p t
        (row (λ v. (refl, refl, refl)) (row (λ v. (refl, refl, refl)) (row (λ v. (refl, refl, refl))
        (row (λ v. (refl, h, refl)) end))))
    calm_step claim_s ss p t =
        quiet c claim_s ss p t
        (row (λ v. (refl, h, refl)) (row (λ v. (refl, refl, refl)) (row (λ v. (refl, refl, refl)) (row (λ v. (refl, refl, refl))
        (row (λ v. (refl, h, refl)) end)))))
    calm_step items_s ss p t =
        quiet c items_s ss p t (row (λ v. (refl, h, refl)) (row (λ v. (refl, h, refl)) end))
    calm_step gives_s ss p t =
        quiet c gives_s ss p t (row (λ v. (refl, h, refl)) (row (λ v. (refl, h, refl)) end))
    calm_step given_s ss p t =
        quiet c given_s ss p t (row (λ v. (refl, h, refl)) (row (λ v. (refl, h, refl)) end))
    calm_step actions_s ss p t = quiet c actions_s ss p t at_actions
    calm_step try_s ss p t = quiet c try_s ss p t at_try
    calm_step (few_s zero) ss p t = quiet c (few_s zero) ss p t (row (λ v. (refl, h, refl)) end)
    calm_step (few_s (suc n)) ss p t =
        quiet c (few_s (suc n)) ss p t (row (λ v. (refl, h, refl)) (row (λ v. (refl, h, refl)) end))
    calm_step lines_s ss p t = quiet c lines_s ss p t at_lines
    calm_step body_s ss p t = never p
    calm_step text_s ss p t = fresh_step ss p t

  stand_step : {s : Symbol} {ss : List Symbol} → Stand c (s ∷ ss) → (t : Token) → fits_in (step s t) ≡ true →
      Next c s ss t (next_in (step s t))
  stand_step (naming {us = us} e p) = naming_step us e p
  stand_step (going {us = us} p) = going_step us p
  stand_step (fresh {us = us} p) = fresh_step us p
  stand_step (lines {us = us} p) = λ t. quiet c lines_s us p t at_lines
  stand_step {s = s} {ss = ss} (calm h p) = calm_step h s ss p

-- MANY TOKENS that fit.
counted : (ts : List Token) (ss : List Symbol) (c : Clue) → Stand c ss → fits ts ss ≡ true →
    names_in ts + waiting ss ≡ total (tale ts ss c).0 + waiting (piled_from ts ss)
unfolding tale fits piled_from
counted [] ss c x h = refl
counted (t ∷ ts) [] c x h = never h
counted (t ∷ ts) (s ∷ ss) c x h =
    let zs : List Symbol = next_in (step s t) ++ ss in
    let z : Clue = led c s t in
    let g = both_true (fits_in (step s t)) (fits ts zs) h in
    let m = stand_step c x t g.0 in
    let i = counted ts zs z m.1 g.1 in
    let j = total-append (told c s t) (tale ts zs z).0 in
    let e = m.0 in
    omega arith

-- THE BEGINNING of a text.
pub names_begun : (place : ℕ → ℕ) (t : Text) (ts us : List Token) → spell_text t [] ≡ ts ++ us →
    names_in ts ≡ total (story place 0 ts (text_s ∷ []) at_first) + waiting (piled_from ts (text_s ∷ []))
names_begun place t ts us e =
    let m = counted ts (text_s ∷ []) (clue_of at_first) (fresh refl) (fits_begun place t ts us e) in
    rw (story-tale place 0 ts (text_s ∷ []) at_first) (omega arith)
