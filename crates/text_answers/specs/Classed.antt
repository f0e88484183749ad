-- At the cut of a class line the machine finds what the definitions say, of a class announced, new or known with its body.
-- Assumes nothing.
use Rattle.std.specs.Prelude.{ℕ, ◌+◌, ◌≤◌, true, false, get_or}
use native.Mathlib.Omega.{arith}
use Rattle.std.proofs.Math.Path.{◌≡◌, refl, ap, ap₂}
use Rattle.std.proofs.Common.{sym, ◌∙◌}
use mathlib.Core.List.{List, [], ◌∷◌, ◌++◌, map, append-nil, append_assoc}
use Rattle.std.proofs.Math.Option.{none, some}
use Rattle.std.proofs.Math.Logic.{inl, inr}
use Rattle.semantics.specs.Words.{any}
use Rattle.semantics.specs.Kinds as K
use Rattle.semantics.specs.Record as R
use Rattle.promises.specs.Laws.{AllOf}
use Rattle.promises.specs.Counted.{limits}
use Rattle.text_semantics.specs.Numbers as No
use Rattle.text_semantics.specs.Token.{Token}
use Rattle.text_semantics.specs.Grammar as G
use Rattle.text_semantics.specs.Grammar.{Name, Text, spell_text}
use Rattle.text_semantics.specs.Names.{events, named, awaited, trouble_in}
use Rattle.text_semantics.specs.Meaning.{Owned, owned, blocks, records}
use Rattle.text_semantics.specs.Written.{body_of}
use Rattle.text_semantics.specs.Table.{Rule}
use Rattle.text_semantics.specs.Reading.{Symbol, Of, say, step, body_s, text_s}
use Rattle.text_semantics.specs.Answer.{is_cut}
use Rattle.text_promises.specs.Judged.{passes, good, of_group}
use Rattle.text_promises.specs.Fitting.{records_block}
use Rattle.text_agrees.specs.Events.{piled_from, Fewer}
use Rattle.text_agrees.specs.Laying.{Short}
use Rattle.text_agrees.specs.Closing.{closers}
use Rattle.text_agrees.specs.Goodness.{class_judged}
use Rattle.text_agrees.specs.Whole.{in_blocks}
use Rattle.text_agrees.specs.Growing as N
use Rattle.text_agrees.specs.Growing.{ending}
use Rattle.text_agrees.specs.Grown.{known_in, opened_in, declared, built, grown_line, announced_entry, grown_class, Filled}
use Rattle.text_agrees.specs.Grown.{grown_body}
use Rattle.text_answers.specs.Cutting.{Joined}
use Rattle.text_answers.specs.Founds.{none_declared, count, grown, no_more, found_class}
use Rattle.text_answers.specs.Decided.{Decided, d, at, class_lined, class_decided}

good_class : (n : ℕ) → good (R.CLASS n) ≡ true
unfolding body_of
good_class n = ap passes (class_judged _ _)

-- There are no classes in blocks, and a block is none.
no_classes : (ds : Text) → of_group K.CLASS (built ds) ≡ 0
no_classes ds = none_declared (built ds) (R.CLASS 0) (in_blocks (built ds) (records_block ds)) refl

module _ (place : ℕ → ℕ) (ts : List Token) (t : Token) (h : is_cut t ≡ true) (s : Symbol) (ss : List Symbol)
    (p : piled_from ts (text_s ∷ []) ≡ s ∷ ss) (x : Rule Of say s t) (e : step s t ≡ some x) (ds : Text)
    (calm : trouble_in [] (events ds) ≡ none) (room : Fewer [] (events ds)) (short : AllOf Short (blocks [] 0 0 ds)) (c : Name)
    (m : ℕ) (roomy : (i : ℕ) → of_group i (records ds) ≤ get_or limits i 0) where
  abbrev here : ℕ
  here = at place ts t h s ss p x e ds calm room short

  abbrev Spelled : Text → Type 0
  Spelled u = spell_text u [] ≡ (ts ++ (t ∷ [])) ++ closers m

  abbrev Verdict : Text → Type 0
  Verdict u = Decided place ts t h s ss p x e (records ds) (records u)

  -- ANNOUNCED.
  module _ (sp : Spelled (ds ++ (G.class c G.announced ∷ []))) (new : any (named c) (known_in ds) ≡ false) where
    abbrev announcement : Owned
    announcement = owned (R.CLASS No.no_body) here

    announced_joined : Joined (records ds) (records (ds ++ (G.class c G.announced ∷ [])))
    unfolding records
    announced_joined =
        let a = grown_line ds (N.announced c) in
        record {
          first = declared ds;
          ps = [];
          o = announcement;
          rest = built ds;
          more = [];
          was = refl;
          is = ap₂ (λ xs ys. xs ++ ys)
              (a.0 ∙ ap (λ xs. declared ds ++ map (λ v. owned v here) xs) (announced_entry c (known_in ds) (opened_in ds) new))
              a.1
              ∙ append_assoc (declared ds) (announcement ∷ []) (built ds)
              ∙ ap (λ xs. declared ds ++ (announcement ∷ xs)) (sym (append-nil (built ds)));
          before = inl refl;
          opened = inl refl;
        }

    pub announced_decided : Verdict (ds ++ (G.class c G.announced ∷ []))
    unfolding announced_joined closers
    announced_decided =
        let y = class_lined place ts t h s ss p x e ds calm room short c (N.announced c) (λ us. refl) m sp refl in
        class_decided place ts t h s ss p x e ds calm room short c (N.announced c) (λ us. refl) m sp refl announced_joined
        (found_class announced_joined place (d place ts t h s ss p x e) roomy (λ b q. absurd (no_blocks q)) refl
        (good_class No.no_body) (λ q. (y.1, ap (of_group K.CLASS) (append-nil (built ds)) ∙ no_classes ds)))
      where
        no_blocks : {b : Owned} → [] ≡ b ∷ [] → ⊥
        no_blocks q = let v : ◌≡◌ {A = ℕ} 0 1 = cc in omega arith

  -- WITH ITS BODY.
  abbrev its : Text
  its = ending ds c G.no_locals G.no_actions

  abbrev block : Owned
  block = owned R.BLOCK here

  block_line : {y : ℕ} → y ≡ place here → (b : Owned) → ◌≡◌ {A = List Owned} (block ∷ []) (b ∷ []) → y ≡ place b.owner
  block_line f b q = f ∙ ap place (let v : block ≡ b = cc in ap (λ (o : Owned). o.owner) v)

  module _ (sp : Spelled its) where
    lined : (s ≡ body_s) × ((d place ts t h s ss p x e).line ≡ place here)
    unfolding closers
    lined = class_lined place ts t h s ss p x e ds calm room short c (N.class c) (λ us. refl) m sp refl

    -- .. which is new,
    module _ (new : any (named c) (known_in ds) ≡ false) where
      abbrev mine : Owned
      mine = owned (R.CLASS (opened_in ds)) here

      new_joined : Joined (records ds) (records its)
      unfolding records
      new_joined =
          let a = grown_class ds c new in
          record {
            first = declared ds;
            ps = [];
            o = mine;
            rest = built ds;
            more = block ∷ [];
            was = refl;
            is = ap₂ (λ xs ys. xs ++ ys) a.0 a.1 ∙ append_assoc (declared ds) (mine ∷ []) (built ds ++ (block ∷ []));
            before = inl refl;
            opened = inr (block, refl, refl);
          }

      pub new_decided : Verdict its
      unfolding new_joined closers
      new_decided =
          class_decided place ts t h s ss p x e ds calm room short c (N.class c) (λ us. refl) m sp refl new_joined
          (found_class new_joined place (d place ts t h s ss p x e) roomy (block_line lined.1)
          refl (good_class (opened_in ds))
          (λ q. (lined.1, count new_joined K.CLASS (built ds) (block ∷ []) ∙ omega (arith, no_classes ds))))

    -- and which is known.
    module _ (known : any (awaited c) (known_in ds) ≡ true) where
      abbrev filled : Filled (opened_in ds) (declared ds) (declared its)
      filled = (grown_body c ds calm known).0

      known_joined : Joined (records ds) (records its)
      unfolding records
      known_joined =
          let f = filled in
          let was : Owned = owned (R.CLASS No.no_body) f.owner in
          let now : Owned = owned (R.CLASS (opened_in ds)) f.owner in
          record {
            first = f.first;
            ps = was ∷ [];
            o = now;
            rest = f.rest ++ built ds;
            more = block ∷ [];
            was = ap (λ xs. xs ++ built ds) f.was ∙ append_assoc f.first (was ∷ f.rest) (built ds);
            is = ap₂ (λ xs ys. xs ++ ys) f.is (grown_body c ds calm known).1
                ∙ append_assoc f.first (now ∷ f.rest) (built ds ++ (block ∷ []))
                ∙ ap (λ xs. f.first ++ (now ∷ xs)) (sym (append_assoc f.rest (built ds) (block ∷ [])));
            before = inr (was, refl, refl);
            opened = inr (block, refl, refl);
          }

      pub known_decided : Verdict its
      unfolding known_joined closers
      known_decided =
          class_decided place ts t h s ss p x e ds calm room short c (N.class c) (λ us. refl) m sp refl known_joined
          (found_class known_joined place (d place ts t h s ss p x e) roomy (block_line lined.1)
          refl (good_class (opened_in ds))
          (λ q. absurd (omega (
            arith,
            grown known_joined K.CLASS,
            no_more known_joined K.CLASS (λ i. omega arith),
            roomy K.CLASS,
          ))))
