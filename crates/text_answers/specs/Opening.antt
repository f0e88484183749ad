-- At a cut as many blocks are open on the machine's sheet as there are braces to be closed.
-- Assumes nothing.
use Rattle.std.specs.Prelude.{ℕ, zero, suc, ◌+◌, ◌≤◌, ◌≡◌, Bool, true, false, ◌&&◌, ◌⊎◌, T, eqb, if◌then◌else◌}
use Rattle.std.proofs.Common.{arith, sym, ◌∙◌, inl, inr, eqb-true}
use Rattle.std.proofs.Math.Path.{refl, ap, subst}
use mathlib.Core.List.{List, [], ◌∷◌, ◌++◌}
use Rattle.std.proofs.Math.Option.{Option, none, some}
use Rattle.std.proofs.Math.ListN.{length}
use Rattle.promises.specs.Laws.{no_way, not_some}
use Rattle.text_semantics.specs.Token as K
use Rattle.text_semantics.specs.Token.{Token}
use Rattle.text_semantics.specs.Table.{Rule}
use Rattle.text_semantics.specs.Reading.{Terminal, the, a_name, a_number, token, Val, Symbol, Of, say, Row, rows, step, one}
use Rattle.text_semantics.specs.Reading.{factor_s, minus_s, more, signed_s, relation_s, item_s, claim_s, items_s, gives_s, given_s}
use Rattle.text_semantics.specs.Reading.{actions_s, try_s, few_s, lines_s, body_s, text_s}
use Rattle.text_semantics.specs.Answer.{is_cut}
use Rattle.text_promises.specs.Tables.{piled, moved, and_then}
use Rattle.text_machine.specs.Entry.{mark_in}
use Rattle.text_machine.specs.Machine.{Reader, at_first}
use Rattle.text_agrees.specs.Flow.{next_in, effect, flow}
use Rattle.text_agrees.specs.Events.{Clue, clue_of}
use Rattle.text_agrees.specs.Clues.{fewer, led, clue_effect}
use Rattle.text_agrees.specs.Height.{Each, blocks, is_block, found_rule}
use Rattle.text_agrees.specs.Roomy.{is_brace, braces, blocks_append}
use Rattle.text_agrees.specs.Tallies.{one_if}
use Rattle.text_agrees.specs.Sheets.{deepness}
use Rattle.text_agrees.specs.Closing.{Part, inside, ending, block, whole, part, Closing, bottom, in_actions, in_try, in_lines}
use Rattle.text_agrees.specs.Closing.{many_blocks, Nested, closing, at_end, within, nested_step, still_nested, cut_closing}
use Rattle.text_agrees.specs.Closing.{cut_reader, open_braces}

-- ONE TOKEN. Of the blocks that symbols stand for, all are open but those whose braces are still to come.
abbrev Balanced : Clue → Symbol → Token → List Symbol → Type 0
Balanced c s t ns = blocks ns + one_if (is_brace s) + c.depth ≡ one_if (is_block s) + braces ns + (led c s t).depth

both : (x y : Bool) → T (x && y) → T x × T y
both true y h = (tt, h)
both false y h = absurd h

is_true : (b : Bool) → T b → b ≡ true
is_true true h = refl
is_true false h = absurd h

-- Rows of symbols that open and close nothing.
abbrev even : {s : Symbol} → List (Row s) → Bool
even [] = true
even (w ∷ ws) = eqb (blocks w.next) (braces w.next) && even ws

-- .. and of blocks.
abbrev is_closing : Terminal → Bool
is_closing (the k) = eqb k K.RB
is_closing a_name = false
is_closing (a_number b) = false

abbrev odd : {s : Symbol} → List (Row s) → Bool
odd [] = true
odd (w ∷ ws) = eqb (blocks w.next) ((if is_closing w.first then 0 else 1) + braces w.next) && odd ws

closing_mark : (x : Terminal) (v : Val x) → eqb (mark_in (token x v)) K.RB ≡ is_closing x
closing_mark (the k) v = refl
closing_mark a_name v = refl
closing_mark (a_number b) v = refl

module _ (c : Clue) (s : Symbol) where
  quiet : is_brace s ≡ false → is_block s ≡ false → ((t : Token) → (led c s t).depth ≡ c.depth) → (ws : List (Row s)) →
      T (even ws) → Each (Balanced c s) ws
  quiet f g d [] h = tt
  quiet f g d (w ∷ ws) h =
      let b = both (eqb (blocks w.next) (braces w.next)) (even ws) h in
      let e = eqb-true (blocks w.next) (braces w.next) (is_true _ b.0) in
      (λ v. omega (arith, e, ap one_if f, ap one_if g, d (token w.first v)), quiet f g d ws b.1)

  abbrev left : Bool → ℕ
  left b = if b then fewer c.depth else c.depth

  left_over : (b : Bool) → 1 ≤ c.depth → (if b then 0 else 1) + c.depth ≡ 1 + left b
  left_over true l = let m = some_left c.depth l in omega arith
    where
      some_left : (n : ℕ) → 1 ≤ n → n ≡ suc (fewer n)
      some_left zero l = absurd (omega arith)
      some_left (suc n) l = refl
  left_over false l = refl

  in_block : is_brace s ≡ false → is_block s ≡ true → 1 ≤ c.depth →
      ((t : Token) → (led c s t).depth ≡ left (eqb (mark_in t) K.RB)) → (ws : List (Row s)) → T (odd ws) → Each (Balanced c s) ws
  in_block f g l d [] h = tt
  in_block f g l d (w ∷ ws) h =
      let n : ℕ = (if is_closing w.first then 0 else 1) + braces w.next in
      let b = both (eqb (blocks w.next) n) (odd ws) h in
      let e = eqb-true (blocks w.next) n (is_true _ b.0) in (
        λ v.
            let m = d (token w.first v) ∙ ap left (closing_mark w.first v) in
            omega (arith, e, ap one_if f, ap one_if g, m, left_over (is_closing w.first) l),
        in_block f g l d ws b.1,
      )

balanced : (c : Clue) (s : Symbol) → (is_block s ≡ true → 1 ≤ c.depth) → Each (Balanced c s) (rows s)
unfolding led
balanced c (one (the k)) h = (λ v. go (eqb k K.SEMI) (eqb k K.LB) refl refl, tt)
  where
    go : (x y : Bool) → eqb k K.SEMI ≡ x → eqb k K.LB ≡ y →
        0 + one_if y + c.depth ≡ 0 + 0 + (if x then c.depth else if y then suc c.depth else c.depth)
    go true true e f = absurd (omega (arith, eqb-true k K.SEMI e, eqb-true k K.LB f))
    go true false e f = refl
    go false true e f = omega arith
    go false false e f = refl
balanced c (one a_name) h = quiet c (one a_name) refl refl (λ t. refl) (rows (one a_name)) tt
balanced c (one (a_number b)) h = quiet c (one (a_number b)) refl refl (λ t. refl) (rows (one (a_number b))) tt
balanced c (factor_s zero) h = quiet c (factor_s zero) refl refl (λ t. refl) (rows (factor_s zero)) tt
balanced c (factor_s (suc d)) h = quiet c (factor_s (suc d)) refl refl (λ t. refl) (rows (factor_s (suc d))) tt
balanced c (minus_s zero) h = quiet c (minus_s zero) refl refl (λ t. refl) (rows (minus_s zero)) tt
balanced c (minus_s (suc d)) h = quiet c (minus_s (suc d)) refl refl (λ t. refl) (rows (minus_s (suc d))) tt
balanced c (more d k) h = quiet c (more d k) refl refl (λ t. refl) (rows (more d k)) tt
balanced c signed_s h = quiet c signed_s refl refl (λ t. refl) (rows signed_s) tt
balanced c relation_s h = quiet c relation_s refl refl (λ t. refl) (rows relation_s) tt
balanced c item_s h = quiet c item_s refl refl (λ t. refl) (rows item_s) tt
balanced c claim_s h = quiet c claim_s refl refl (λ t. refl) (rows claim_s) tt
balanced c items_s h = quiet c items_s refl refl (λ t. refl) (rows items_s) tt
balanced c gives_s h = quiet c gives_s refl refl (λ t. refl) (rows gives_s) tt
balanced c given_s h = quiet c given_s refl refl (λ t. refl) (rows given_s) tt
balanced c actions_s h = in_block c actions_s refl refl (h refl) (λ t. refl) (rows actions_s) tt
balanced c try_s h = in_block c try_s refl refl (h refl) (λ t. refl) (rows try_s) tt
balanced c (few_s zero) h = quiet c (few_s zero) refl refl (λ t. refl) (rows (few_s zero)) tt
balanced c (few_s (suc k)) h = quiet c (few_s (suc k)) refl refl (λ t. refl) (rows (few_s (suc k))) tt
balanced c lines_s h = in_block c lines_s refl refl (h refl) (λ t. refl) (rows lines_s) tt
balanced c body_s h = (λ v. refl, (λ v. omega arith, tt))
balanced c text_s h = quiet c text_s refl refl (λ t. refl) (rows text_s) tt

-- Above blocks no brace is still to come.
closing_braces : {ss : List Symbol} → Closing ss → braces ss ≡ 0
closing_braces bottom = refl
closing_braces (in_actions c) = omega (arith, closing_braces c)
closing_braces (in_try c) = omega (arith, closing_braces c)
closing_braces (in_lines c) = omega (arith, closing_braces c)

abbrev a_block : Part → Bool
a_block inside = false
a_block ending = false
a_block block = true
a_block whole = false

block_part : (s : Symbol) → is_block s ≡ true → a_block (part s) ≡ true
block_part (one x) h = no_way h
block_part (factor_s d) h = no_way h
block_part (minus_s d) h = no_way h
block_part (more d c) h = no_way h
block_part signed_s h = no_way h
block_part relation_s h = no_way h
block_part item_s h = no_way h
block_part claim_s h = no_way h
block_part items_s h = no_way h
block_part gives_s h = no_way h
block_part given_s h = no_way h
block_part actions_s h = refl
block_part try_s h = refl
block_part (few_s k) h = no_way h
block_part lines_s h = refl
block_part body_s h = no_way h
block_part text_s h = no_way h

nested_block : {s : Symbol} {ss : List Symbol} → Nested (s ∷ ss) → is_block s ≡ true → braces (s ∷ ss) ≡ 0
nested_block (closing c) h = closing_braces c
nested_block {s = s} (at_end e c) h = no_way (sym (ap a_block e) ∙ block_part s h)
nested_block {s = s} (within e n) h = no_way (sym (ap a_block e) ∙ block_part s h)

braces-append : (ss zs : List Symbol) → braces (ss ++ zs) ≡ braces ss + braces zs
braces-append [] zs = omega arith
braces-append (s ∷ ss) zs = omega (arith, braces-append ss zs)

abbrev Open : ℕ → List Symbol → Type 0
Open n ss = blocks ss ≡ n + braces ss

open_step : (c : Clue) {s : Symbol} {ss : List Symbol} {t : Token} (x : Rule Of say s t) → Nested (s ∷ ss) →
    Open c.depth (s ∷ ss) → step s t ≡ some x → Open (led c s t).depth (x.next ++ ss)
open_step c {s = s} {ss = ss} x n o e =
    let deep : is_block s ≡ true → 1 ≤ c.depth = λ h. omega (arith, nested_block n h, ap one_if h, o) in
    omega (
      arith,
      o,
      found_rule (Balanced c s) x (balanced c s deep) e,
      blocks_append x.next ss,
      braces-append x.next ss,
    )

-- MANY TOKENS.
module _ (place : ℕ → ℕ) where
  flow_open : (at : ℕ) (ts : List Token) (zs : List Symbol) {ss : List Symbol} (r : Reader) → Nested zs ⊎ (zs ≡ []) →
      Open (deepness r.sheet) zs → piled Of say step ts zs ≡ some ss → Open (deepness (flow place at ts zs r).sheet) ss
  unfolding flow piled
  flow_open at [] zs {ss} r n o e =
      let z : zs ≡ ss = cc in subst (λ (ns : List Symbol). Open (deepness r.sheet) ns) z o
  flow_open at (t ∷ ts) [] r n o e = not_some e
  flow_open at (t ∷ ts) (s ∷ zs) r (inr n) o e = let m = ap length n in absurd (omega arith)
  flow_open at (t ∷ ts) (s ∷ zs) {ss} r (inl n) o e = go (step s t) refl e (λ xs m b f. flow_open (suc at) ts xs _ m b f)
    where
      go : (x : Option (Rule Of say s t)) → step s t ≡ x →
          and_then (moved Of say s t zs x) (λ xs. piled Of say step ts xs) ≡ some ss →
          ((xs : List Symbol) → Nested xs ⊎ (xs ≡ []) → Open (deepness (effect r s t (place at)).sheet) xs →
          piled Of say step ts xs ≡ some ss → Open (deepness (flow place (suc at) ts xs (effect r s t (place at))).sheet) ss) →
          Open (deepness (flow place (suc at) ts (next_in x ++ zs) (effect r s t (place at))).sheet) ss
      go none f g k = not_some g
      go (some x) f g k =
          let d = ap (λ (c : Clue). c.depth) (clue_effect r t (place at) s) in
          k (x.next ++ zs) (still_nested (nested_step x n f))
          (subst (λ (m : ℕ). Open m (x.next ++ zs)) (sym d) (open_step (clue_of r) x n o f)) g

-- AT A CUT.
module _ (place : ℕ → ℕ) (ts : List Token) (t : Token) (ss : List Symbol) (h : is_cut t ≡ true)
    (e : piled Of say step (ts ++ (t ∷ [])) (text_s ∷ []) ≡ some ss) where
  pub levels_open : length (cut_reader place ts t ss h e).sheet.levels ≡ open_braces place ts t ss h e
  levels_open =
      let c = cut_closing ts t h e in
      omega (
        arith,
        flow_open place 0 (ts ++ (t ∷ [])) (text_s ∷ []) at_first (inl (closing bottom)) refl e,
        closing_braces c,
        many_blocks c,
      )
