-- How high the pile gets that a text is read over: it has at most 53 symbols more than blocks.
-- Assumes nothing.
use Rattle.std.specs.Prelude.{ℕ, zero, suc, ◌+◌, ◌*◌, ◌≤◌, ◌<◌, ◌≡◌, refl, List, [], ◌∷◌, ◌++◌, Bool, true, false, ◌&&◌, ◌⊎◌, T, leb, eqb, length, if◌then◌else◌}
use Rattle.std.proofs.Common.{arith, sym, ◌∙◌, ap, subst, append-nil, inl, inr, leb→le}
use Rattle.std.proofs.Math.Option.{Option, none, some}
use Rattle.text_semantics.specs.Numbers as No
use Rattle.text_semantics.specs.Token as K
use Rattle.text_semantics.specs.Token.{Token, mark}
use Rattle.text_semantics.specs.Table.{Rule}
use Rattle.text_semantics.specs.Reading.{the, a_name, a_number, token, Val, Hit, same, accepts, Symbol, Of, say, Row, on, taken}
use Rattle.text_semantics.specs.Reading.{choose, rows, step, sign, name_s, upto, pair_s, whole_s, two_s, deep_f, deep_m, one, factor_s}
use Rattle.text_semantics.specs.Reading.{minus_s, more, signed_s, relation_s, item_s, claim_s, items_s, gives_s, given_s, actions_s, try_s}
use Rattle.text_semantics.specs.Reading.{few_s, lines_s, body_s, text_s, Closer, round, comma, semi}
use Rattle.text_machine.specs.Machine.{highest_pile}
use Rattle.text_agrees.specs.Flow.{next_in}

-- THE PILES that tokens which fit make of a pile.
abbrev pub onto : {s : Symbol} {t : Token} → List Symbol → Option (Rule Of say s t) → (List Symbol → Option (List Symbol))
    → Option (List Symbol)
onto ss none k = none
onto ss (some p) k = k (p.next ++ ss)

unfoldable pub piled_from : List Token → List Symbol → Option (List Symbol)
piled_from [] ss = some ss
piled_from (t ∷ ts) [] = none
piled_from (t ∷ ts) (s ∷ ss) = onto ss (step s t) (λ zs. piled_from ts zs)

-- Where there is a pile behind a token, it fits.
fits : {s : Symbol} {t : Token} {zs ss : List Symbol} (k : List Symbol → Option (List Symbol)) → onto zs (step s t) k ≡ some ss →
    (p : Rule Of say s t) × ((step s t ≡ some p) × (k (p.next ++ zs) ≡ some ss))
fits {s = s} {t = t} {zs = zs} {ss = ss} k e = go (step s t) refl e
  where
    go : (o : Option (Rule Of say s t)) → step s t ≡ o → onto zs o k ≡ some ss →
        (p : Rule Of say s t) × ((step s t ≡ some p) × (k (p.next ++ zs) ≡ some ss))
    go none f g = let z : ◌≡◌ {A = ℕ} 0 1 = cc in absurd (omega arith)
    go (some p) f g = (p, (f, g))

-- BLOCKS, and how many of them are in a pile.
abbrev pub is_block : Symbol → Bool
is_block (one x) = false
is_block (factor_s d) = false
is_block (minus_s d) = false
is_block (more d c) = false
is_block signed_s = false
is_block relation_s = false
is_block item_s = false
is_block claim_s = false
is_block items_s = false
is_block gives_s = false
is_block given_s = false
is_block actions_s = true
is_block try_s = true
is_block (few_s k) = false
is_block lines_s = true
is_block body_s = false
is_block text_s = false

abbrev pub blocks : List Symbol → ℕ
blocks [] = 0
blocks (s ∷ ss) = (if is_block s then 1 else 0) + blocks ss

-- The others.
abbrev pub own : Symbol → ℕ
own s = if is_block s then 0 else 1

abbrev pub others : List Symbol → ℕ
others [] = 0
others (s ∷ ss) = own s + others ss

pub length_parts : (ss : List Symbol) → length ss ≡ others ss + blocks ss
length_parts [] = refl
length_parts (s ∷ ss) = go (is_block s) (length_parts ss)
  where
    go : (x : Bool) → length ss ≡ others ss + blocks ss →
        suc (length ss) ≡ ((if x then 0 else 1) + others ss) + ((if x then 1 else 0) + blocks ss)
    go true h = omega arith
    go false h = omega arith

pub others-append : (ss zs : List Symbol) → others (ss ++ zs) ≡ others ss + others zs
others-append [] zs = omega arith
others-append (s ∷ ss) zs = omega (arith, others-append ss zs)

-- THE ROOM. While a symbol is read, at most so many more than itself stand in its place, blocks not counted. `text_s` and the
-- end's mark ask for more than there is: they never stand above another.
abbrev pub most : ℕ
most = 53

abbrev pub extra : Symbol → ℕ
extra (one (the k)) = if eqb k K.END then most else 0
extra (one a_name) = 0
extra (one (a_number b)) = 0
extra (factor_s d) = 1 + 3 * d
extra (minus_s d) = 1 + 3 * d
extra (more d c) = 2 + 3 * d
extra signed_s = 0
extra relation_s = 0
extra item_s = 4
extra claim_s = 5
extra items_s = 5
extra gives_s = 7
extra given_s = 5
extra actions_s = 52
extra try_s = 52
extra (few_s k) = 1
extra lines_s = 52
extra body_s = 51
extra text_s = most

abbrev pub room : Symbol → ℕ
room s = own s + extra s

-- Symbols for each of which, above those behind it, r is enough.
abbrev pub Within : ℕ → List Symbol → Type 0
Within r [] = Unit
Within r (n ∷ ns) = (room n + others ns ≤ r) × Within r ns

abbrev within : ℕ → List Symbol → Bool
within r [] = true
within r (n ∷ ns) = leb (room n + others ns) r && within r ns

both : (x y : Bool) → T (x && y) → T x × T y
both true y h = (tt, h)
both false y h = absurd h

is_within : (r : ℕ) (ns : List Symbol) → T (within r ns) → Within r ns
is_within r [] h = tt
is_within r (n ∷ ns) h =
    let b = both (leb (room n + others ns) r) (within r ns) h in (leb→le (room n + others ns) r b.0, is_within r ns b.1)

-- THE INVARIANT: `text_s` at the bottom, and there is room for each symbol above it.
pub data Low : List Symbol → Type 0 where
  bottom : Low (text_s ∷ [])
  above : {s : Symbol} {ss : List Symbol} → room s + others ss ≤ most → Low ss → Low (s ∷ ss)

low_others : {ss : List Symbol} → Low ss → others ss ≤ most
low_others bottom = omega arith
low_others (above h l) = omega arith

pub low_append : (r : ℕ) (ns ss : List Symbol) → Within r ns → r + others ss ≤ most → Low ss → Low (ns ++ ss)
low_append r [] ss w h l = l
low_append r (n ∷ ns) ss w h l =
    let a = w.0 in
    above {s = n} {ss = ns ++ ss} (omega (arith, others-append ns ss)) (low_append r ns ss w.1 h l)

-- Two things that hold, written as a chain.
infixr 4 ◌and◌
◌and◌ : {A B : Type 0} → A → B → A × B
◌and◌ a b = (a, b)

-- EVERY ROW. What is so of every row is so of what is chosen.
module _ (P : Token → List Symbol → Type 0) where
  abbrev pub Each : {s : Symbol} → List (Row s) → Type 0
  Each [] = Unit
  Each (w ∷ ws) = ((v : Val w.first) → P (token w.first v) w.next) × Each ws

  abbrev pub Found : {s : Symbol} {t : Token} → Option (Rule Of say s t) → Type 0
  Found none = Unit
  Found {t = t} (some p) = P t p.next

  found_taken : {s : Symbol} (w : Row s) (t : Token) (h : Option (Hit w.first t)) (o : Option (Rule Of say s t)) →
      ((v : Val w.first) → P (token w.first v) w.next) → Found o → Found (taken w t h o)
  found_taken w t none o f g = g
  found_taken w t (some h) o f g = subst (λ (x : Token). P x w.next) h.1 (f h.0)

  pub found : {s : Symbol} (ws : List (Row s)) (t : Token) → Each ws → Found (choose ws t)
  found [] t a = tt
  found (w ∷ ws) t a = found_taken w t (accepts w.first t) (choose ws t) a.0 (found ws t a.1)

-- What comes instead of a symbol has its room.
abbrev all_within : {s : Symbol} → ℕ → List (Row s) → Bool
all_within r [] = true
all_within r (w ∷ ws) = within r w.next && all_within r ws

abbrev Rows : {s : Symbol} → ℕ → List (Row s) → Type 0
Rows r ws = Each (λ t ns. Within r ns) ws

tested : {s : Symbol} (r : ℕ) (ws : List (Row s)) → T (all_within r ws) → Rows r ws
tested r [] h = tt
tested r (w ∷ ws) h =
    let b = both (within r w.next) (all_within r ws) h in (λ v. is_within r w.next b.0, tested r ws b.1)

whole_room : (d r : ℕ) (c : Closer) → 3 + 3 * d ≤ r → Within r (whole_s d c [])
whole_room d r c h = (omega arith, (omega arith, tt))

two_room : (d r : ℕ) → 5 + 3 * d ≤ r → Within r (two_s d)
two_room d r h = omega arith and omega arith and omega arith and whole_room d r round (omega arith)

same_room : (s : Symbol) → Within (room s) (s ∷ [])
same_room s = (omega arith, tt)

deep_room : (d r : ℕ) → 5 + 3 * d ≤ r → Rows r (deep_f (suc d)) × Rows r (deep_m (suc d))
deep_room d r h =
    let w : Within r (whole_s d round []) = whole_room d r round (omega arith) in
    let z = two_room d r h in
    ((λ v. w) and (λ v. z) and (λ v. z) and tt) and ((λ v. w) and (λ v. z) and (λ v. z) and tt)

more_room : (d : ℕ) (c : Closer) → Within (room (more d c)) (whole_s d c [])
more_room d c = whole_room d (room (more d c)) c (omega arith)

row_room : (s : Symbol) → Rows (room s) (rows s)
row_room (one x) = (λ v. tt, tt)
row_room (factor_s zero) = tested (room (factor_s zero)) (rows (factor_s zero)) tt
row_room (factor_s (suc d)) =
    let h = deep_room d (room (factor_s (suc d))) (omega arith) in
    (λ v. tt) and (λ v. same_room (minus_s (suc d))) and (λ v. tt) and (λ v. tt) and h.0
row_room (minus_s zero) = tested (room (minus_s zero)) (rows (minus_s zero)) tt
row_room (minus_s (suc d)) =
    let h = deep_room d (room (minus_s (suc d))) (omega arith) in
    (λ v. tt) and (λ v. same_room (minus_s (suc d))) and (λ v. tt) and (λ v. tt) and h.1
row_room (more d c) = (λ v. more_room d c) and (λ v. more_room d c) and (λ v. more_room d c) and (λ v. tt) and tt
row_room signed_s = tested 1 (rows signed_s) tt
row_room relation_s = tested 1 (rows relation_s) tt
row_room item_s = tested 5 (rows item_s) tt
row_room claim_s = tested 6 (rows claim_s) tt
row_room items_s = tested 6 (rows items_s) tt
row_room gives_s = tested 8 (rows gives_s) tt
row_room given_s = tested 6 (rows given_s) tt
row_room actions_s = tested 52 (rows actions_s) tt
row_room try_s = tested 52 (rows try_s) tt
row_room (few_s zero) = tested 2 (rows (few_s zero)) tt
row_room (few_s (suc k)) = tested 2 (rows (few_s (suc k))) tt
row_room lines_s = tested 52 (rows lines_s) tt
row_room body_s = tested 52 (rows body_s) tt
row_room text_s = tested 54 (rows text_s) tt

-- ONE TOKEN: a low pile stays low, or the token is the end and nothing is to come.
pub data Left : Token → List Symbol → Type 0 where
  over : Left (mark K.END) []
  stands : {t : Token} {ss : List Symbol} → Low ss → Left t ss

behind_text : {t : Token} (ns : List Symbol) → T (within 52 ns) → Left t (ns ++ (text_s ∷ []))
behind_text ns h = stands (low_append 52 ns (text_s ∷ []) (is_within 52 ns h) (omega arith) bottom)

pair : {t : Token} → Left t (pair_s No.top_number (sign K.SEMI ∷ text_s ∷ []))
pair = behind_text (pair_s No.top_number (sign K.SEMI ∷ [])) tt

text_rows : Each Left (rows text_s)
text_rows =
    (λ v. over)
    and (λ v. pair)
    and (λ v. pair)
    and (λ v. behind_text (sign K.LP ∷ name_s ∷ sign K.RP ∷ sign K.SEMI ∷ []) tt)
    and (λ v. behind_text (sign K.LP ∷ name_s ∷ sign K.COMMA ∷ signed_s ∷ sign K.RP ∷ sign K.SEMI ∷ []) tt)
    and (λ v. behind_text (sign K.LP ∷ name_s ∷ sign K.COMMA ∷ signed_s ∷ sign K.COMMA ∷ signed_s ∷ numbered) tt)
    and (λ v. behind_text (name_s ∷ body_s ∷ []) tt)
    and (λ v. pair)
    and tt
  where
    numbered : List Symbol
    numbered = sign K.COMMA ∷ upto No.top_number ∷ sign K.RP ∷ sign K.SEMI ∷ []

pub found_rule : (P : Token → List Symbol → Type 0) {s : Symbol} {t : Token} (p : Rule Of say s t) → Each P (rows s) →
    step s t ≡ some p → P t p.next
found_rule P {s = s} {t = t} p a e = subst (λ (o : Option (Rule Of say s t)). Found P o) e (found P (rows s) t a)

pub low_step : {s : Symbol} {ss : List Symbol} {t : Token} (p : Rule Of say s t) → Low (s ∷ ss) → step s t ≡ some p →
    Left t (p.next ++ ss)
low_step p bottom e = rw append-nil (found_rule Left p text_rows e)
low_step {s = s} {ss = ss} p (above h l) e =
    stands (low_append (room s) p.next ss (found_rule (λ t ns. Within (room s) ns) p (row_room s) e) h l)

-- EVERY REACHED PILE. It is low; or it is empty, and the last token was the end.
abbrev pub Ended : List Token → Type 0
Ended ts = (us : List Token) × (ts ≡ us ++ (mark K.END ∷ []))

abbrev pub Reached : List Token → List Symbol → Type 0
Reached ts ss = Low ss ⊎ ((ss ≡ []) × Ended ts)

longer : (t : Token) {ts : List Token} {ss : List Symbol} → Reached ts ss → Reached (t ∷ ts) ss
longer t (inl l) = inl l
longer t (inr (e, (us, g))) = inr (e, (t ∷ us, ap (λ (vs : List Token). t ∷ vs) g))

emptied : (ts : List Token) {ss : List Symbol} → piled_from ts [] ≡ some ss → Reached (mark K.END ∷ ts) ss
unfolding piled_from
emptied [] e = inr (cc, ([], refl))
emptied (t ∷ ts) e = let z : ◌≡◌ {A = ℕ} 0 1 = cc in absurd (omega arith)

left_over : {t : Token} (ts : List Token) {us ss : List Symbol} → Left t us → piled_from ts us ≡ some ss →
    (Low us → Reached ts ss) → Reached (t ∷ ts) ss
left_over ts over e k = emptied ts e
left_over {t = t} ts (stands l) e k = longer t (k l)

pub reached : (ts : List Token) {zs ss : List Symbol} → Low zs → piled_from ts zs ≡ some ss → Reached ts ss
unfolding piled_from
reached [] {zs = zs} {ss = ss} l e = let g : zs ≡ ss = cc in inl (subst (λ (us : List Symbol). Low us) g l)
reached (t ∷ ts) {zs = []} l e = let z : ◌≡◌ {A = ℕ} 0 1 = cc in absurd (omega arith)
reached (t ∷ ts) {zs = s ∷ zs} l e =
    let f = fits (λ us. piled_from ts us) e in
    left_over ts (low_step f.0 l f.1.0) f.1.1 (λ m. reached ts m f.1.1)

-- WHAT STANDS WHERE in a low pile: `text_s` only at the bottom, and no more brackets to be opened than the grammar allows.
low_top : {s : Symbol} {ss : List Symbol} → Low (s ∷ ss) →
    ((s ≡ text_s) × (ss ≡ [])) ⊎ ((room s + others ss ≤ most) × Low ss)
low_top bottom = inl (refl, refl)
low_top (above h l) = inr (h, l)

low_some : {ss : List Symbol} → Low ss → 1 ≤ others ss
low_some bottom = omega arith
low_some (above h l) = omega (arith, low_some l)

low_nothing : {ss : List Symbol} → Low ss → ss ≡ [] → ⊥
low_nothing l e = omega (arith, low_some l, ap others e)

length_behind : (us : List Symbol) (s : Symbol) (zs : List Symbol) → 1 ≤ length (us ++ (s ∷ zs))
length_behind [] s zs = omega arith
length_behind (u ∷ us) s zs = omega arith

not_nothing : (us : List Symbol) (s : Symbol) (zs : List Symbol) → us ++ (s ∷ zs) ≡ [] → ⊥
not_nothing us s zs e = omega (arith, length_behind us s zs, ap length e)

pub low_from : (us : List Symbol) (s : Symbol) (zs : List Symbol) → Low (us ++ (s ∷ zs)) → Low (s ∷ zs)
low_from [] s zs l = l
low_from (u ∷ us) s zs l = go (low_top l) (λ m. low_from us s zs m)
  where
    go : ((u ≡ text_s) × (us ++ (s ∷ zs) ≡ [])) ⊎ ((room u + others (us ++ (s ∷ zs)) ≤ most) × Low (us ++ (s ∷ zs))) →
        (Low (us ++ (s ∷ zs)) → Low (s ∷ zs)) → Low (s ∷ zs)
    go (inl e) k = absurd (not_nothing us s zs e.1)
    go (inr h) k = k h.1

pub low_bottom : {ss : List Symbol} → Low ss → (us : List Symbol) × (ss ≡ us ++ (text_s ∷ []))
low_bottom bottom = ([], refl)
low_bottom (above {s = s} h l) = let b = low_bottom l in (s ∷ b.0, ap (λ (zs : List Symbol). s ∷ zs) b.1)

pub low_text : (us zs : List Symbol) → Low (us ++ (text_s ∷ zs)) → zs ≡ []
low_text us zs l = go (low_top (low_from us text_s zs l))
  where
    go : ((text_s ≡ text_s) × (zs ≡ [])) ⊎ ((room text_s + others zs ≤ most) × Low zs) → zs ≡ []
    go (inl e) = e.1
    go (inr h) = let a = h.0 in absurd (omega arith)

pub low_room : (us : List Symbol) (s : Symbol) (zs : List Symbol) → Low (us ++ (s ∷ zs)) → (s ≡ text_s) ⊎ (room s < most)
low_room us s zs l = go (low_top (low_from us s zs l))
  where
    go : ((s ≡ text_s) × (zs ≡ [])) ⊎ ((room s + others zs ≤ most) × Low zs) → (s ≡ text_s) ⊎ (room s < most)
    go (inl e) = inl e.0
    go (inr h) = let a = h.0 in inr (omega (arith, low_some h.1))

-- An expression's symbol, and how many brackets may still be opened in it.
pub data Deep : ℕ → Symbol → Type 0 where
  factor : {d : ℕ} → Deep d (factor_s d)
  minus : {d : ℕ} → Deep d (minus_s d)
  rest : {d : ℕ} {c : Closer} → Deep d (more d c)

small_room : {d : ℕ} {s : Symbol} → Deep d s → (s ≡ text_s) ⊎ (room s < most) → d ≤ No.brackets
small_room factor (inl e) = let z : ◌≡◌ {A = ℕ} 0 1 = cc in absurd (omega arith)
small_room factor (inr h) = omega arith
small_room minus (inl e) = let z : ◌≡◌ {A = ℕ} 0 1 = cc in absurd (omega arith)
small_room minus (inr h) = omega arith
small_room rest (inl e) = let z : ◌≡◌ {A = ℕ} 0 1 = cc in absurd (omega arith)
small_room rest (inr h) = omega arith

pub low_deep : {d : ℕ} (us : List Symbol) (s : Symbol) (zs : List Symbol) → Deep d s → Low (us ++ (s ∷ zs)) → d ≤ No.brackets
low_deep us s zs x l = small_room x (low_room us s zs l)

-- THE END fits only where `text_s` alone is to come, and only the end leaves nothing to come.
sign_end : (k : ℕ) (x : Bool) (e : eqb k K.END ≡ x) → 1 + (if x then most else 0) ≤ most →
    taken {s = one (the k)} (on (the k) [] (λ v vs. v) (λ v vs r. refl)) (mark K.END) (same k K.END x e) none ≡ none
sign_end k true e h = absurd (omega arith)
sign_end k false e h = refl

no_end : (s : Symbol) → room s ≤ most → step s (mark K.END) ≡ none
no_end (one (the k)) h = sign_end k (eqb k K.END) refl h
no_end (one a_name) h = refl
no_end (one (a_number b)) h = refl
no_end (factor_s zero) h = refl
no_end (factor_s (suc d)) h = refl
no_end (minus_s zero) h = refl
no_end (minus_s (suc d)) h = refl
no_end (more d round) h = refl
no_end (more d comma) h = refl
no_end (more d semi) h = refl
no_end signed_s h = refl
no_end relation_s h = refl
no_end item_s h = refl
no_end claim_s h = refl
no_end items_s h = refl
no_end gives_s h = refl
no_end given_s h = refl
no_end actions_s h = refl
no_end try_s h = refl
no_end (few_s zero) h = refl
no_end (few_s (suc k)) h = refl
no_end lines_s h = refl
no_end body_s h = refl
no_end text_s h = absurd (omega arith)

pub low_end : {s : Symbol} {ss : List Symbol} (p : Rule Of say s (mark K.END)) → Low (s ∷ ss) → step s (mark K.END) ≡ some p →
    p.next ++ ss ≡ []
low_end p bottom e = append-nil p.next ∙ sym (ap next_in e)
low_end {s = s} p (above h l) e =
    let n = no_end s (omega (arith, h)) in let z : ◌≡◌ {A = ℕ} 0 1 = cc in absurd (omega arith)

ends : {t : Token} {ss : List Symbol} → Left t ss → ss ≡ [] → t ≡ mark K.END
ends over e = refl
ends (stands l) e = absurd (low_nothing l e)

pub low_last : {s : Symbol} {ss : List Symbol} {t : Token} (p : Rule Of say s t) → Low (s ∷ ss) → step s t ≡ some p →
    p.next ++ ss ≡ [] → t ≡ mark K.END
low_last p l e f = ends (low_step p l e) f

after_all : (us : List Token) {ss : List Symbol} → piled_from (us ++ (mark K.END ∷ [])) [] ≡ some ss → ss ≡ []
unfolding piled_from
after_all [] e = let z : ◌≡◌ {A = ℕ} 0 1 = cc in absurd (omega arith)
after_all (u ∷ us) e = let z : ◌≡◌ {A = ℕ} 0 1 = cc in absurd (omega arith)

left_end : {t : Token} (us : List Token) {zs ss : List Symbol} → Left t zs → piled_from (us ++ (mark K.END ∷ [])) zs ≡ some ss →
    (Low zs → ss ≡ []) → ss ≡ []
left_end us over e k = after_all us e
left_end us (stands l) e k = k l

empties : (us : List Token) {zs ss : List Symbol} → Low zs → piled_from (us ++ (mark K.END ∷ [])) zs ≡ some ss → ss ≡ []
unfolding piled_from
empties [] {zs = []} l e = after_all [] e
empties [] {zs = s ∷ zs} l e =
    let f = fits (λ ns. some ns) e in
    let n = low_end f.0 l f.1.0 in cc
empties (u ∷ us) {zs = []} l e = after_all (u ∷ us) e
empties (u ∷ us) {zs = s ∷ zs} l e =
    let f = fits (λ ns. piled_from (us ++ (mark K.END ∷ [])) ns) e in
    left_end us (low_step f.0 l f.1.0) f.1.1 (λ m. empties us m f.1.1)

-- HOW HIGH a pile is.
pub low_height : {ss : List Symbol} → Low ss → length ss ≤ most + blocks ss
low_height {ss = ss} l = omega (arith, length_parts ss, low_others l)

pub left_height : {t : Token} {ss : List Symbol} → Left t ss → length ss ≤ most + blocks ss
left_height over = omega arith
left_height (stands l) = low_height l

-- IN ALL, of every pile that tokens which fit make of `text_s`.
module _ (ts : List Token) {ss : List Symbol} (e : piled_from ts (text_s ∷ []) ≡ some ss) where
  pub height : length ss ≤ most + blocks ss
  height = go (reached ts bottom e)
    where
      go : Reached ts ss → length ss ≤ most + blocks ss
      go (inl l) = low_height l
      go (inr (g, h)) = rw g (omega arith)

  -- So the reader has room for a pile with at most eleven blocks.
  pub height_kept : blocks ss ≤ 11 → length ss ≤ highest_pile
  height_kept h = omega (arith, height)

  -- `text_s` stands at the bottom and nowhere else.
  pub text_bottom : (ss ≡ []) ⊎ ((us : List Symbol) × (ss ≡ us ++ (text_s ∷ [])))
  text_bottom = go (reached ts bottom e)
    where
      go : Reached ts ss → (ss ≡ []) ⊎ ((us : List Symbol) × (ss ≡ us ++ (text_s ∷ [])))
      go (inl l) = inr (low_bottom l)
      go (inr h) = inl h.0

  pub low_reached : (us : List Symbol) (s : Symbol) (zs : List Symbol) → ss ≡ us ++ (s ∷ zs) → Low (us ++ (s ∷ zs))
  low_reached us s zs f = go (reached ts bottom e)
    where
      go : Reached ts ss → Low (us ++ (s ∷ zs))
      go (inl l) = subst (λ (ns : List Symbol). Low ns) f l
      go (inr h) = absurd (not_nothing us s zs (sym f ∙ h.0))

  pub text_only : (us zs : List Symbol) → ss ≡ us ++ (text_s ∷ zs) → zs ≡ []
  text_only us zs f = low_text us zs (low_reached us text_s zs f)

  pub deep : {d : ℕ} (us : List Symbol) (s : Symbol) (zs : List Symbol) → Deep d s → ss ≡ us ++ (s ∷ zs) → d ≤ No.brackets
  deep us s zs x f = low_deep us s zs x (low_reached us s zs f)

  -- Nothing is to come exactly behind the end.
  pub empty_ended : ss ≡ [] → Ended ts
  empty_ended f = go (reached ts bottom e)
    where
      go : Reached ts ss → Ended ts
      go (inl l) = absurd (low_nothing l f)
      go (inr h) = h.1

  pub ended_empty : Ended ts → ss ≡ []
  ended_empty (us, f) = empties us bottom (rw f at e)
