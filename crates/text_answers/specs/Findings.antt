-- At every cut the machine finds of the line that the tree grew by what the definitions say.
-- Assumes nothing.
use Rattle.std.specs.Prelude.{ℕ, ◌+◌, ◌≤◌, ◌≡◌, refl, List, [], ◌∷◌, ◌++◌, Bool, true, false, not, get_or, if◌then◌else◌}
use Rattle.std.proofs.Common.{arith, sym, ◌∙◌, ap, subst}
use Rattle.std.proofs.Math.Option.{Option, none, some}
use Rattle.semantics.specs.Words.{any}
use Rattle.semantics.specs.Decode.{none_seen}
use Rattle.semantics.specs.Record.{Entry}
use Rattle.promises.specs.Laws.{AllOf, all_split, not_some, not-true}
use Rattle.promises.specs.Counted.{limits}
use Rattle.text_semantics.specs.Numbers as No
use Rattle.text_semantics.specs.Token.{Token}
use Rattle.text_semantics.specs.Grammar as G
use Rattle.text_semantics.specs.Grammar.{Name, Act, Declaration, Locals, Text, spell_text}
use Rattle.text_semantics.specs.Names.{Known, events, named, awaited, announces, embodies, in_declaration, trouble, trouble_in}
use Rattle.text_semantics.specs.Meaning.{Owned, declarations, blocks, records}
use Rattle.text_semantics.specs.Table.{Rule}
use Rattle.text_semantics.specs.Reading.{Symbol, Of, say, step, text_s}
use Rattle.text_semantics.specs.Answer.{is_cut}
use Rattle.text_promises.specs.Tables.{piled, pushed, moved, and_then, piled_next}
use Rattle.text_promises.specs.Judged.{good, of_group, Passing}
use Rattle.text_promises.specs.Says.{Fits}
use Rattle.text_promises.specs.Fitting.{records_fit}
use Rattle.text_promises.specs.Truncated.{good_short}
use Rattle.text_agrees.specs.Events.{piled_from, Fewer, fewer_split}
use Rattle.text_agrees.specs.Laying.{Short}
use Rattle.text_agrees.specs.Lines.{calm_first, calm_split, wants_nothing}
use Rattle.text_agrees.specs.Closing.{closers, piled_from_lem, cut_tree, open_braces, cut_spelled}
use Rattle.text_agrees.specs.Growing as N
use Rattle.text_agrees.specs.Growing.{New, Put, Line, Grows, ending}
use Rattle.text_agrees.specs.Grown.{known_in, blocks_last}
use Rattle.text_answers.specs.Stated as St
use Rattle.text_answers.specs.Begun.{events-append}
use Rattle.text_answers.specs.Decided.{Decided, plain_decided}
use Rattle.text_answers.specs.Classed.{announced_decided, new_decided, known_decided}
use Rattle.text_answers.specs.Within.{local_decided, act_decided, branch_decided}

-- WHAT PASSED is short, and not too many.
all_short : (os : List Owned) → AllOf (λ o. Fits o.entry) os → AllOf (λ o. good o.entry ≡ true) os → AllOf Short os
all_short [] f g = tt
all_short (o ∷ os) f g = let a = good_short o.entry f.0 g.0 in (omega arith, all_short os f.1 g.1)

pub passed_short : (t : Text) → Passing none_seen (records t) → AllOf Short (records t)
passed_short t h = all_short (records t) (records_fit t) h.all_good

passed_few : (t : Text) → Passing none_seen (records t) → (i : ℕ) → of_group i (records t) ≤ get_or limits i 0
passed_few t h i = let a = h.roomy i in omega arith

-- .. in the blocks of its first declarations too.
first_blocks : (ds : Text) → AllOf Short (records ds) → AllOf Short (blocks [] 0 0 ds)
unfolding records
first_blocks ds h = (all_split Short (declarations [] 0 0 ds) (blocks [] 0 0 ds) h).1

inner_blocks : (ds : Text) (g : Declaration) → AllOf Short (records (ds ++ (g ∷ []))) → AllOf Short (blocks [] 0 0 ds)
inner_blocks ds g h =
    (all_split Short (blocks [] 0 0 ds) _
    (subst (λ os. AllOf Short os) (blocks_last [] 0 0 ds g) (first_blocks (ds ++ (g ∷ [])) h))).0

-- NAMES of the first declarations and of the last.
module _ (ds : Text) (g : Declaration) (calm : trouble_in [] (events (ds ++ (g ∷ []))) ≡ none)
    (room : Fewer [] (events (ds ++ (g ∷ [])))) where
  calm_parts : (trouble_in [] (events ds) ≡ none) × (trouble_in (known_in ds) (events (g ∷ [])) ≡ none)
  calm_parts = calm_split [] (events ds) (events (g ∷ []))
      (subst (λ es. trouble_in [] es ≡ none) (events-append ds (g ∷ [])) calm)

  room_parts : Fewer [] (events ds) × Fewer (known_in ds) (in_declaration g)
  room_parts =
      let a = fewer_split [] (events ds) (events (g ∷ []))
      (subst (λ es. Fewer [] es) (events-append ds (g ∷ [])) room) in
      (a.0, (fewer_split (known_in ds) (in_declaration g) [] a.1).0)

-- A class is new where it is announced, and new or awaited where it has its body.
new_class : (c : Name) (ks : List Known) → trouble_in ks (events (G.class c G.announced ∷ [])) ≡ none → any (named c) ks ≡ false
unfolding trouble
new_class c ks h = not-true (any (named c) ks) (wants_nothing No.AGAIN _ (calm_first ks (announces c) [] h).0)

body-class : (c : Name) (ks : List Known) (l : Locals) (b : Act G.actions) →
    trouble_in ks (events (G.class c (G.body l b) ∷ [])) ≡ none → any (awaited c) ks ≡ false → any (named c) ks ≡ false
unfolding trouble
body-class c ks l b h e =
    let a = wants_nothing No.AGAIN _ (calm_first ks (embodies c) _ h).0 in
    not-true (any (named c) ks) (ap (λ v. if v then true else not (any (named c) ks)) (sym e) ∙ a)

module _ (place : ℕ → ℕ) (ts : List Token) (t : Token) (h : is_cut t ≡ true) (s : Symbol) (ss : List Symbol)
    (p : piled_from ts (text_s ∷ []) ≡ s ∷ ss) (x : Rule Of say s t) (e : step s t ≡ some x) (m : ℕ) where
  abbrev Spelled : Text → Type 0
  Spelled u = spell_text u [] ≡ (ts ++ (t ∷ [])) ++ closers m

  abbrev Finds : Text → Text → Type 0
  Finds old u = Decided place ts t h s ss p x e (records old) (records u)

  module _ (ds : Text) (passing : Passing none_seen (records ds)) where
    abbrev short : AllOf Short (blocks [] 0 0 ds)
    short = first_blocks ds (passed_short ds passing)

    class_found : (c : Name) → Spelled (ending ds c G.no_locals G.no_actions) →
        trouble_in [] (events (ending ds c G.no_locals G.no_actions)) ≡ none →
        Fewer [] (events (ending ds c G.no_locals G.no_actions)) → Finds ds (ending ds c G.no_locals G.no_actions)
    class_found c sp calm room = go (any (awaited c) (known_in ds)) refl
      where
        g : Declaration
        g = G.class c (G.body G.no_locals G.no_actions)

        ca : (trouble_in [] (events ds) ≡ none) × (trouble_in (known_in ds) (events (g ∷ [])) ≡ none)
        ca = calm_parts ds g calm room

        ro : Fewer [] (events ds)
        ro = (room_parts ds g calm room).0

        go : (b : Bool) → any (awaited c) (known_in ds) ≡ b → Finds ds (ending ds c G.no_locals G.no_actions)
        go true f = known_decided place ts t h s ss p x e ds ca.0 ro short c m (passed_few ds passing) sp f
        go false f =
            new_decided place ts t h s ss p x e ds ca.0 ro short c m (passed_few ds passing) sp
            (body-class c (known_in ds) G.no_locals G.no_actions ca.1 f)

    plain_found : {g : Declaration} {l : Line g 0} {w : Entry} → St.Plain (known_in ds) g l w → Spelled (ds ++ (g ∷ [])) →
        trouble_in [] (events (ds ++ (g ∷ []))) ≡ none → Fewer [] (events (ds ++ (g ∷ []))) → Finds ds (ds ++ (g ∷ []))
    plain_found {g = g} {l = l} pl sp calm room =
        plain_decided place ts t h s ss p x e ds (calm_parts ds g calm room).0 (room_parts ds g calm room).0 short l m sp pl
        (passed_few ds passing)

    line_found : {g : Declaration} {j : ℕ} → Line g j → Spelled (ds ++ (g ∷ [])) →
        trouble_in [] (events (ds ++ (g ∷ []))) ≡ none → Fewer [] (events (ds ++ (g ∷ []))) → Finds ds (ds ++ (g ∷ []))
    line_found (N.res z n) sp calm room = plain_found (St.res z n) sp calm room
    line_found (N.bin z n) sp calm room = plain_found (St.bin z n) sp calm room
    line_found (N.sync z) sp calm room = plain_found (St.sync z) sp calm room
    line_found (N.var z n) sp calm room = plain_found (St.var z n) sp calm room
    line_found (N.sampler z a b n) sp calm room = plain_found (St.sampler z a b n) sp calm room
    line_found (N.announced c) sp calm room =
        let g : Declaration = G.class c G.announced in
        let k = calm_parts ds g calm room in
        announced_decided place ts t h s ss p x e ds k.0 (room_parts ds g calm room).0 short c m (passed_few ds passing) sp
        (new_class c (known_in ds) k.1)
    line_found (N.entity z n) sp calm room = plain_found (St.entity z n) sp calm room
    line_found (N.class c) sp calm room = class_found c sp calm room

  -- IN THE BODY of the last class.
  module _ (ds : Text) (c : Name) (l : Locals) (a b : Act G.actions) (passing : Passing none_seen (records (ending ds c l a)))
      (sp : Spelled (ending ds c l b)) (calm : trouble_in [] (events (ending ds c l b)) ≡ none)
      (room : Fewer [] (events (ending ds c l b))) where
    abbrev its : Declaration
    its = G.class c (G.body l b)

    abbrev long : AllOf Short (records (ending ds c l a))
    long = passed_short (ending ds c l a) passing

    abbrev before : AllOf Short (blocks [] 0 0 ds)
    before = inner_blocks ds (G.class c (G.body l a)) long

    within_found : {w : New} {n : ℕ} → Put G.actions w n a b → Finds (ending ds c l a) (ending ds c l b)
    within_found {w = N.act f} q =
        let k = room_parts ds its calm room in
        act_decided place ts t h s ss p x e ds (calm_parts ds its calm room).0 k.0 before c l f q k.1 long m sp
        (passed_few (ending ds c l a) passing)
    within_found {w = N.branch d} q =
        let k = room_parts ds its calm room in
        branch_decided place ts t h s ss p x e ds (calm_parts ds its calm room).0 k.0 before c l d q k.1 long m sp
        (passed_few (ending ds c l a) passing)

  -- EVERY LINE.
  pub found_at : (old u : Text) → Grows old u → Spelled u → trouble_in [] (events u) ≡ none → Fewer [] (events u) →
      Passing none_seen (records old) → Finds old u
  found_at _ _ (N.declared ds l) sp calm room passing = line_found ds passing l sp calm room
  found_at _ _ (N.local ds c z zs) sp calm room passing =
      let g : Declaration = G.class c (G.body (G.locals z zs) G.no_actions) in
      let was : Declaration = G.class c (G.body G.no_locals G.no_actions) in
      local_decided place ts t h s ss p x e ds (calm_parts ds g calm room).0 (room_parts ds g calm room).0
      (inner_blocks ds was (passed_short (ending ds c G.no_locals G.no_actions) passing)) c z zs m sp
  found_at _ _ (N.within ds c l {a = a} {b = b} q) sp calm room passing = within_found ds c l a b passing sp calm room q

-- AT A CUT: the symbol that was to come takes the token, and the tree grew from that of the cut before.
module _ (place : ℕ → ℕ) (ts : List Token) (t : Token) (zs : List Symbol) (h : is_cut t ≡ true)
    (e : piled Of say step (ts ++ (t ∷ [])) (text_s ∷ []) ≡ some zs) (s : Symbol) (ss : List Symbol)
    (p : piled_from ts (text_s ∷ []) ≡ s ∷ ss) where
  pub rule_at : (x : Rule Of say s t) × (step s t ≡ some x)
  rule_at = go (piled Of say step ts (text_s ∷ [])) refl (sym (piled_next Of say step ts t (text_s ∷ [])) ∙ e)
    where
      taken : (o : Option (Rule Of say s t)) → step s t ≡ o → moved Of say s t ss o ≡ some zs →
          (x : Rule Of say s t) × (step s t ≡ some x)
      taken none f g = not_some g
      taken (some x) f g = (x, f)

      go : (o : Option (List Symbol)) → piled Of say step ts (text_s ∷ []) ≡ o →
          and_then o (λ ys. pushed Of say step t ys) ≡ some zs → (x : Rule Of say s t) × (step s t ≡ some x)
      go none f g = not_some g
      go (some ys) f g =
          taken (step s t) refl
          (ap (λ us. pushed Of say step t us) (sym p ∙ piled_from_lem ts (text_s ∷ []) f) ∙ g)

  pub cut_found : (old : Text) → Grows old (cut_tree place ts t zs h e) →
      trouble_in [] (events (cut_tree place ts t zs h e)) ≡ none → Fewer [] (events (cut_tree place ts t zs h e)) →
      Passing none_seen (records old) →
      Decided place ts t h s ss p rule_at.0 rule_at.1 (records old) (records (cut_tree place ts t zs h e))
  cut_found old g calm room passing =
      found_at place ts t h s ss p rule_at.0 rule_at.1 (open_braces place ts t zs h e) old (cut_tree place ts t zs h e) g
      (cut_spelled place ts t zs h e) calm room passing
