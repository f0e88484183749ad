-- What checks 1 to 10 say of a whole text whose cuts were accepted: all is well, or its first class without a body is refused.
-- Assumes nothing.
use Rattle.std.specs.Prelude.{ℕ, ◌+◌, ◌≤◌, ◌≡◌, Bool, true, false, ◌⊎◌, eqb, leb, length, if◌then◌else◌}
use native.Mathlib.Omega.{arith}
use Rattle.std.proofs.Math.Path.{refl, ap}
use Rattle.std.proofs.Common.{sym, ◌∙◌, subst, inl, inr, leb-true, leb-false, eqb-true, ne_eqb}
use mathlib.Core.List.{List, [], ◌∷◌, ◌++◌, append_assoc}
use Rattle.std.proofs.Math.Option.{none}
use Rattle.std.proofs.Math.ListN.{get_or}
use Rattle.std.proofs.lemmas.Bool.{eqb-false}
use Rattle.semantics.specs.Words.{passed}
use Rattle.semantics.specs.Numbers as F
use Rattle.semantics.specs.Kinds as K
use Rattle.semantics.specs.Bytes.{Raw}
use Rattle.semantics.specs.Record as R
use Rattle.semantics.specs.Record.{Entry}
use Rattle.semantics.specs.Decode as D
use Rattle.semantics.specs.Decode.{if_accepted, none_seen, second_pass, gather, decode}
use Rattle.promises.specs.Laws.{no_way, or-false, not-true, AllOf, all_split, all_get, all_replicate, over-append, over_zero}
use Rattle.promises.specs.Laws.{once, once_apart}
use Rattle.promises.specs.Passes.{not_accepted}
use Rattle.promises.specs.Counted.{group_of}
use Rattle.text_semantics.specs.Numbers as No
use Rattle.text_semantics.specs.Token.{Token}
use Rattle.text_semantics.specs.Grammar.{Text, spell_text}
use Rattle.text_semantics.specs.Names.{LOCAL, events, trouble_in}
use Rattle.text_semantics.specs.Meaning.{Owned, owned, declarations, blocks, records}
use Rattle.text_semantics.specs.Written.{file_of, owner_at}
use Rattle.text_semantics.specs.Reading.{Of, say, step, text_s}
use Rattle.text_semantics.specs.Answer.{refused, so_far}
use Rattle.text_promises.specs.Tables.{piled}
use Rattle.text_promises.specs.Cuts.{raws_from, so_far_long, decoded}
use Rattle.text_promises.specs.Owners.{owner_behind}
use Rattle.text_promises.specs.Judged.{of_group, saw_all, saw_all_at, Passing, first_pass_lem, so_far-accepted, declares}
use Rattle.text_promises.specs.Judged.{Declarations}
use Rattle.text_promises.specs.Says.{Fits}
use Rattle.text_promises.specs.Fitting.{records_fit, records_declare}
use Rattle.text_agrees.specs.Tales.{fits_text}
use Rattle.text_agrees.specs.Tested.{fits_piled}
use Rattle.text_agrees.specs.Closing.{closers}
use Rattle.text_agrees.specs.Grown.{opened_in}
use Rattle.text_agrees.specs.Growing.{LastCut, last_cut, tree_at_cut, some_before}
use Rattle.text_answers.specs.Cutting.{Accepted}
use Rattle.text_answers.specs.Naming.{EntryKnown}
use Rattle.text_answers.specs.Seconds.{Runs, runs_append, second_passes, second_stops}
use Rattle.text_answers.specs.Asked.{bound}
use Rattle.text_answers.specs.Ranges.{Ready, lacks_body, blocks_run, declared_known}
use Rattle.text_answers.specs.Lacking.{unbodied}

-- The tree of a whole text is that of its last cut, and what was accepted there is all of it.
none_accepted : so_far (file_of (records [])) ≡ D.accepted passed
unfolding so_far records
none_accepted = refl

module _ (t : Text) (accepted : Accepted (spell_text t [])) where
  by_cut : LastCut t → so_far (file_of (records t)) ≡ D.accepted passed
  by_cut l =
      let us : List Token = l.before ++ (l.at ∷ []) in
      let zs : List Token = closers l.many in
      let p = some_before us zs
      (ap (λ xs. piled Of say step xs (text_s ∷ [])) (sym l.parts) ∙ fits_piled (spell_text t []) (text_s ∷ []) (fits_text t)) in
      ap (λ u. so_far (file_of (records u))) (tree_at_cut l.before l.at l.cut p.1 t l.many l.parts)
      ∙ accepted l.before l.at zs l.cut l.parts

  pub all_accepted : so_far (file_of (records t)) ≡ D.accepted passed
  all_accepted = go (last_cut t)
    where
      go : (t ≡ []) ⊎ LastCut t → so_far (file_of (records t)) ≡ D.accepted passed
      go (inl e) = ap (λ u. so_far (file_of (records u))) e ∙ none_accepted
      go (inr l) = by_cut l

-- THE FIRST of a list for which a test holds.
pub record First {A : Type 0} (f : A → Bool) (xs : List A) : Type 0 where
  pub before : List A
  pub at : A
  pub behind : List A
  pub parts : xs ≡ before ++ at ∷ behind
  pub others : AllOf (λ x. f x ≡ false) before
  pub here : f at ≡ true

pub first_of : {A : Type 0} (f : A → Bool) (xs : List A) → AllOf (λ x. f x ≡ false) xs ⊎ First f xs
first_of f [] = inl tt
first_of f (x ∷ xs) = go (f x) refl (first_of f xs)
  where
    go : (b : Bool) → f x ≡ b → AllOf (λ y. f y ≡ false) xs ⊎ First f xs → AllOf (λ y. f y ≡ false) (x ∷ xs) ⊎ First f (x ∷ xs)
    go true e o = inr (record { before = []; at = x; behind = xs; parts = refl; others = tt; here = e })
    go false e (inl h) = inl (e, h)
    go false e (inr o) =
        inr (record {
          before = x ∷ o.before;
          at = o.at;
          behind = o.behind;
          parts = ap (λ ys. x ∷ ys) o.parts;
          others = (e, o.others);
          here = o.here;
        })

-- DECLARATIONS that name what is there.
no_block : (e : Entry) → declares e ≡ true → once K.BLOCK (group_of e) ≡ 0
no_block e h =
    let a = or-false (eqb (group_of e) K.BLOCK) (eqb (group_of e) K.ACTION) (not-true _ h) in
    once_apart K.BLOCK (group_of e) (λ f. eqb-false (group_of e) K.BLOCK a.0 (sym f))

runs_declared : (n : List ℕ) (ps : List Owned) → AllOf (λ o. unbodied o ≡ false → EntryKnown n 0 o.entry) ps
    → AllOf (λ o. unbodied o ≡ false) ps → Declarations ps → Runs n 0 ps
runs_declared n [] k h d = tt
runs_declared n (p ∷ ps) k h d =
    let e : 0 ≡ 0 + once K.BLOCK (group_of p.entry) = omega (arith, no_block p.entry d.0) in
    (k.0 h.0, subst (λ m. Runs n m ps) e (runs_declared n ps k.1 h.1 d.1))

-- A class without a body.
pub its_entry : (e : Entry) → lacks_body e ≡ true → e ≡ R.CLASS No.no_body
its_entry (R.RES v) h = no_way h
its_entry (R.BIN v) h = no_way h
its_entry R.SYNC h = no_way h
its_entry (R.VAR v) h = no_way h
its_entry (R.CLASS b) h = ap (λ c. R.CLASS c) (eqb-true b No.no_body h)
its_entry R.BLOCK h = no_way h
its_entry (R.ENTITY e) h = no_way h
its_entry (R.SAMPLER x) h = no_way h
its_entry (R.ACTION a) h = no_way h

-- A WHOLE TEXT whose names are in no trouble and whose records have passed all but checks 8 and 9.
module _ (t : Text) (calm : trouble_in [] (events t) ≡ none) (h : so_far (file_of (records t)) ≡ D.accepted passed) where
  abbrev os : List Owned
  os = records t

  abbrev ds : List Owned
  ds = declarations [] 0 0 t

  abbrev bs : List Owned
  bs = blocks [] 0 0 t

  abbrev n : List ℕ
  n = saw_all none_seen (records t)

  pub in_length : length (file_of os) ≤ F.longest_file
  in_length = go (leb (length (file_of os)) F.longest_file) refl
    where
      go : (b : Bool) → leb (length (file_of os)) F.longest_file ≡ b → length (file_of os) ≤ F.longest_file
      go true e = leb-true _ _ e
      go false e = not_accepted (sym (so_far_long os (leb-false _ _ e)) ∙ h)

  pub passing : Passing none_seen os
  passing = (so_far-accepted os in_length h).0

  counts : (g : ℕ) → get_or n g 0 ≡ of_group g ds + of_group g bs
  unfolding records
  counts g =
      let z = none_seen_at g in
      omega (arith, saw_all_at none_seen os g refl, over-append (λ o. once g (group_of o.entry)) ds bs)
    where
      none_seen_at : (g : ℕ) → get_or none_seen g 0 ≡ 0
      none_seen_at g = all_get (λ m. m ≡ 0) none_seen g 0 (all_replicate (λ m. m ≡ 0) K.groups 0 refl) refl

  ready : Ready n [] ds
  ready =
      record {
        tidy = (tt, tt);
        numbers = tt;
        no_locals = refl;
        room = λ v f.
            let e : bound n v ≡ get_or n v 0 = ap (λ b. if b then F.locals else get_or n v 0) (ne_eqb v LOCAL f) in
            omega (arith, counts v);
      }

  abbrev opens : ℕ
  opens = opened_in t

  blocks_there : 0 + opens ≤ get_or n K.BLOCK 0
  blocks_there = omega (arith, counts K.BLOCK, (blocks_run n t [] 0 0 calm ready).1)

  less_blocks : get_or n K.BLOCK 0 ≤ No.no_body
  less_blocks = let a = passing.roomy K.BLOCK in omega (arith, saw_all_at none_seen os K.BLOCK refl)

  pub few_blocks : opens ≤ No.no_body
  few_blocks = omega (arith, blocks_there, less_blocks)

  runs_blocks : Runs n 0 bs
  runs_blocks = (blocks_run n t [] 0 0 calm ready).0 blocks_there

  known : AllOf (λ o. unbodied o ≡ false → EntryKnown n 0 o.entry) ds
  known = declared_known n t [] 0 0 blocks_there calm ready

  abbrev rs : List Raw
  rs = raws_from 0 (records t)

  -- What is left of the checks is the second pass.
  is_decoded : decode (file_of os) ≡ if_accepted (second_pass n 0 rs) (λ x. D.accepted (gather rs).model)
  is_decoded =
      decoded os in_length
      ∙ rw (first_pass_lem none_seen 0 os refl passing, (so_far-accepted os in_length h).1)

  pub all_bodied : AllOf (λ o. unbodied o ≡ false) ds → decode (file_of os) ≡ D.accepted (gather rs).model
  unfolding records
  all_bodied a =
      let z = over_zero (λ o. once K.BLOCK (group_of o.entry)) (λ o. declares o.entry ≡ true)
      (λ o e. no_block o.entry e) ds (records_declare t) in
      let e : 0 ≡ 0 + of_group K.BLOCK ds = omega arith in
      is_decoded
      ∙ rw (second_passes n 0 0 os (records_fit t)
      (runs_append n 0 ds bs (runs_declared n ds known a (records_declare t)) (subst (λ m. Runs n m bs) e runs_blocks)))

  -- The first class without a body is refused.
  module _ (o : First unbodied ds) where
    abbrev pub past : List Owned
    past = o.behind ++ bs

    pub all_parts : os ≡ o.before ++ o.at ∷ past
    unfolding records
    all_parts = ap (λ xs. xs ++ bs) o.parts ∙ append_assoc o.before (o.at ∷ o.behind) bs

    its_record : o.at ≡ owned (R.CLASS No.no_body) o.at.owner
    its_record = ap (λ e. owned e o.at.owner) (its_entry o.at.entry o.here)

    runs_before : Runs n 0 o.before
    runs_before =
        let k = all_split _ o.before (o.at ∷ o.behind)
        (subst (λ xs. AllOf (λ p. unbodied p ≡ false → EntryKnown n 0 p.entry) xs) o.parts known) in
        let d = all_split _ o.before (o.at ∷ o.behind)
        (subst (λ xs. AllOf (λ p. declares p.entry ≡ true) xs) o.parts (records_declare t)) in
        runs_declared n o.before k.0 o.others d.0

    fits_before : AllOf (λ p. Fits p.entry) o.before
    fits_before =
        (all_split _ o.before (o.at ∷ past) (subst (λ xs. AllOf (λ p. Fits p.entry) xs) all_parts (records_fit t))).0

    pub one_unbodied : decode (file_of os) ≡ D.refused F.NAME (0 + length (file_of o.before))
    one_unbodied =
        is_decoded
        ∙ rw (ap (λ xs. second_pass n 0 (raws_from 0 xs)) (all_parts ∙ ap (λ p. o.before ++ p ∷ past) its_record)
        ∙ second_stops n 0 0 o.before No.no_body o.at.owner past fits_before runs_before less_blocks)

    pub its_owner : owner_at (0 + length (file_of o.before)) os ≡ o.at.owner
    its_owner =
        let z : 0 + length (file_of o.before) ≡ length (file_of o.before) = omega arith in
        ap (λ i. owner_at i os) z ∙ ap (owner_at (length (file_of o.before))) all_parts ∙ owner_behind o.before o.at past
