-- What the tokens that the machine goes on at make of names: all of them together.
-- Assumes nothing.
use Rattle.std.specs.Prelude.{ℕ, suc}
use Rattle.std.proofs.Common.{arith, ◌∙◌, subst}
use Rattle.std.proofs.Math.Path.{◌≡◌, refl, sym, ap}
use mathlib.Core.List.{List, [], ◌∷◌, ◌++◌}
use Rattle.std.proofs.Math.Option.{Option}
use Rattle.text_semantics.specs.Token.{Token}
use Rattle.text_semantics.specs.Lexing.{Placed}
use Rattle.text_semantics.specs.Names as N
use Rattle.text_semantics.specs.Names.{Known, Event, knows}
use Rattle.text_semantics.specs.Table.{Rule}
use Rattle.text_semantics.specs.Reading.{Symbol, Of, say, step, one, the, a_name, a_number, factor_s, minus_s, more, signed_s}
use Rattle.text_semantics.specs.Reading.{relation_s, item_s, claim_s, items_s, gives_s, given_s, actions_s, try_s, few_s, lines_s, body_s}
use Rattle.text_semantics.specs.Reading.{text_s}
use Rattle.text_machine.specs.Machine.{Reader, goes, turned, on_pile, at_first, draft_after, sheet_after, known_after, after}
use Rattle.text_agrees.specs.Flow.{next_in, effect, flow}
use Rattle.text_agrees.specs.Events.{happens, Fewer, piled_from, story, known_story, after-append}
use Rattle.text_agrees.specs.Stages.{Comes, starts, moves, Went, went}
use Rattle.text_agrees.specs.Roomy.{names_fewer, known_on}

-- Tokens at all of which the machine goes on.
pub data Goes : Reader → List Placed → Reader → Type 0 where
  rests : {r : Reader} → Goes r [] r
  passes : {r s z : Reader} {k : Placed} {ks : List Placed} → turned r k ≡ goes s → Goes s ks z → Goes r (k ∷ ks) z

pub goes_comes : {r z : Reader} {ks : List Placed} → Comes r → Goes r ks z → Comes z
goes_comes c rests = c
goes_comes c (passes {k = k} e x) = goes_comes (moves k c e) x

-- A reader but for its pile.
abbrev pub bare : List Symbol → Reader → Reader
bare ss r =
    record {
      pile = ss;
      known = r.known;
      called = r.called;
      called_at = r.called_at;
      draft = r.draft;
      sheet = r.sheet;
    }

bare-effect : (us ns : List Symbol) (r : Reader) (s : Symbol) (t : Token) (p : ℕ) →
    effect (bare us r) s t p ≡ bare [] (after r (draft_after r s t p) (sheet_after r (draft_after r s t p) s t p) ns s t p)
unfolding effect after draft_after sheet_after known_after
bare-effect us ns r (one (the k)) t p = refl
bare-effect us ns r (one a_name) t p = refl
bare-effect us ns r (one (a_number b)) t p = refl
bare-effect us ns r (factor_s n) t p = refl
bare-effect us ns r (minus_s n) t p = refl
bare-effect us ns r (more n c) t p = refl
bare-effect us ns r signed_s t p = refl
bare-effect us ns r relation_s t p = refl
bare-effect us ns r item_s t p = refl
bare-effect us ns r claim_s t p = refl
bare-effect us ns r items_s t p = refl
bare-effect us ns r gives_s t p = refl
bare-effect us ns r given_s t p = refl
bare-effect us ns r actions_s t p = refl
bare-effect us ns r try_s t p = refl
bare-effect us ns r (few_s n) t p = refl
bare-effect us ns r lines_s t p = refl
bare-effect us ns r body_s t p = refl
bare-effect us ns r text_s t p = refl

bare-happens : (us : List Symbol) (r : Reader) (s : Symbol) (t : Token) → happens (bare us r) s t ≡ happens r s t
unfolding happens
bare-happens us r s t = refl

pub fewer_append : (ks : List Known) (es fs : List Event) → Fewer ks es → Fewer (N.after ks es) fs → Fewer ks (es ++ fs)
unfolding N.after
fewer_append ks [] fs g h = h
fewer_append ks (e ∷ es) fs g h = (g.0, fewer_append (knows ks e) es fs g.1 h)

-- THE STORY of such tokens, each at its place, has room for every name; and the machine comes to what they make of the reader.
abbrev pub tokens_of : List Placed → List Token
tokens_of [] = []
tokens_of (k ∷ ks) = k.token ∷ tokens_of ks

module _ (place : ℕ → ℕ) where
  abbrev pub Sits : ℕ → List Placed → Type 0
  Sits at [] = Unit
  Sits at (k ∷ ks) = (place at ≡ k.place) × Sits (suc at) ks

  pub record Told (at : ℕ) (ks : List Placed) (vs us : List Symbol) (r z : Reader) : Type 0 where
    pub fewer : Fewer r.known (story place at (tokens_of ks) vs (bare us r))
    pub flows : bare [] (flow place at (tokens_of ks) vs (bare us r)) ≡ bare [] z
    pub piles : piled_from (tokens_of ks) vs ≡ z.pile

  -- One token, and then the others.
  module _ (at : ℕ) (k : Placed) (ks : List Placed) (m : place at ≡ k.place) {r y z : Reader} (c : Comes r)
      {s : Symbol} {ss : List Symbol} (e : r.pile ≡ s ∷ ss) (w : Went r ss s k.token k.place y)
      (x : Told (suc at) ks y.pile [] y z) where
    piled : next_in (step s k.token) ++ ss ≡ y.pile
    unfolding after
    piled =
        ap (λ (o : Option (Rule Of say s k.token)). next_in o ++ ss) w.fits ∙ sym (ap (λ (f : Reader). f.pile) w.is)

    knows_then : N.after r.known (happens r s k.token) ≡ y.known
    unfolding after
    knows_then = sym (ap (λ (f : Reader). f.known) w.is ∙ known_on c e k.token)

    bared : (us : List Symbol) → effect (bare us r) s k.token (place at) ≡ bare [] y
    bared us =
        ap (λ (n : ℕ). effect (bare us r) s k.token n) m
        ∙ bare-effect us (w.rule.next ++ ss) r s k.token k.place
        ∙ ap (λ (f : Reader). bare [] f) (sym w.is)

    one_more : (us : List Symbol) → Told at (k ∷ ks) (s ∷ ss) us r z
    unfolding story flow piled_from
    one_more us =
        let ts : List Token = tokens_of ks in
        record {
          fewer =
              fewer_append r.known (happens (bare us r) s k.token) _
              (rw (bare-happens us r s k.token) (names_fewer c e k.token))
              (rw (bare-happens us r s k.token, knows_then, piled, bared us) x.fewer);
          flows =
              ap (λ (vs : List Symbol). bare [] (flow place (suc at) ts vs (effect (bare us r) s k.token (place at)))) piled
              ∙ ap (λ (f : Reader). bare [] (flow place (suc at) ts y.pile f)) (bared us)
              ∙ x.flows;
          piles = ap (λ (vs : List Symbol). piled_from ts vs) piled ∙ x.piles;
        }

  pub tells : (at : ℕ) {ks : List Placed} {r z : Reader} → Comes r → Goes r ks z → Sits at ks → (us : List Symbol) →
      Told at ks r.pile us r z
  unfolding story flow piled_from turned
  tells at c rests n us = record { fewer = tt; flows = refl; piles = refl }
  tells at c (passes {r = r} {s = y} {z = z} {k = k} {ks = ks} e x) n us =
      go r.pile refl e (tells (suc at) (moves k c e) x n.1 [])
    where
      go : (vs : List Symbol) → r.pile ≡ vs → on_pile r vs k.token k.place ≡ goes y → Told (suc at) ks y.pile [] y z →
          Told at (k ∷ ks) vs us r z
      go [] f h t = let w : ◌≡◌ {A = ℕ} 0 1 = cc in absurd (omega arith)
      go (s ∷ ss) f h t = one_more at k ks n.0 c f (went r ss s k.token k.place h) t us

-- FROM THE FIRST TOKEN ON.
module _ (place : ℕ → ℕ) {ks : List Placed} {z : Reader} (x : Goes at_first ks z) (n : Sits place 0 ks) where
  pub goes_fewer : Fewer [] (story place 0 (tokens_of ks) (text_s ∷ []) at_first)
  goes_fewer = (tells place 0 starts x n (text_s ∷ [])).fewer

  pub goes_flow : bare [] (flow place 0 (tokens_of ks) (text_s ∷ []) at_first) ≡ bare [] z
  goes_flow = (tells place 0 starts x n (text_s ∷ [])).flows

  pub goes_pile : piled_from (tokens_of ks) (text_s ∷ []) ≡ z.pile
  goes_pile = (tells place 0 starts x n (text_s ∷ [])).piles

  pub goes_known : z.known ≡ N.after [] (story place 0 (tokens_of ks) (text_s ∷ []) at_first)
  goes_known =
      sym (ap (λ (r : Reader). r.known) goes_flow) ∙ known_story place 0 (tokens_of ks) (text_s ∷ []) at_first goes_fewer

-- The same of every reader that the machine comes to.
abbrev pub top_told : Reader → List Symbol → Token → List Event
top_told r [] t = []
top_told r (s ∷ ss) t = happens r s t

unfoldable pub told_to : {r : Reader} → Comes r → List Event
told_to starts = []
told_to (moves {r = r} k c e) = told_to c ++ top_told r r.pile k.token

top_known : {r z : Reader} (c : Comes r) (k : Placed) (ss : List Symbol) → r.pile ≡ ss →
    on_pile r ss k.token k.place ≡ goes z →
    (z.known ≡ N.after r.known (top_told r ss k.token)) × Fewer r.known (top_told r ss k.token)
unfolding after
top_known c k [] f e = let w : ◌≡◌ {A = ℕ} 0 1 = cc in absurd (omega arith)
top_known {r = r} c k (s ∷ ss) f e =
    let w = went r ss s k.token k.place e in
    (ap (λ (y : Reader). y.known) w.is ∙ known_on c f k.token, names_fewer c f k.token)

pub known_comes : {r : Reader} (c : Comes r) → (r.known ≡ N.after [] (told_to c)) × Fewer [] (told_to c)
unfolding told_to turned N.after
known_comes starts = (refl, tt)
known_comes (moves {r = r} k c e) =
    let h = known_comes c in
    let es : List Event = top_told r r.pile k.token in
    let m = top_known c k r.pile refl e in
    let i : N.after [] (told_to c ++ es) ≡ N.after (N.after [] (told_to c)) es = after-append [] (told_to c) es in (
      m.0 ∙ ap (λ (js : List Known). N.after js es) h.0 ∙ sym i,
      fewer_append [] (told_to c) es h.1 (subst (λ (js : List Known). Fewer js es) h.0 m.1),
    )
