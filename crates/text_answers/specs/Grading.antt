-- The checks at a cut say what the machine's limits say: on the records of a text that has grown by one line.
-- Assumes nothing.
use Rattle.std.specs.Prelude.{ℕ, zero, suc, ◌+◌, ◌≤◌, ◌<◌, ◌≡◌, refl, List, [], ◌∷◌, ◌++◌, Bool, true, false, ◌||◌, eqb, length, get_or, if◌then◌else◌}
use Rattle.std.proofs.Common.{arith, zero-add, sym, ap, ◌∙◌, subst, append_assoc, append-nil, ⊎_elim, ltb-true, ltb-false, eq-eqb, ne_eqb, eqb-true}
use Rattle.std.proofs.Math.Option.{Option, none, some}
use Rattle.std.proofs.Math.Dec.{ltb}
use Rattle.std.proofs.lemmas.Bool.{eqb-false}
use Rattle.semantics.specs.Words.{Passed, passed, ◌>>◌, need}
use Rattle.semantics.specs.Numbers as F
use Rattle.semantics.specs.Kinds as K
use Rattle.semantics.specs.Model.{Model}
use Rattle.semantics.specs.Record as R
use Rattle.semantics.specs.Record.{row_of, body_judged}
use Rattle.semantics.specs.Decode as D
use Rattle.semantics.specs.Decode.{Checked, none_seen, gather, third_pass}
use Rattle.promises.specs.Laws.{no_way, if_has, or-true, or-false, AllOf, all_get, all_append, all_split, all_replicate}
use Rattle.promises.specs.Laws.{over-append, once, once_same, once_self, once_apart}
use Rattle.promises.specs.Passes.{not_accepted}
use Rattle.promises.specs.Counted.{group_of, limits}
use Rattle.text_semantics.specs.Numbers as No
use Rattle.text_semantics.specs.Lexing.{Placed}
use Rattle.text_semantics.specs.Meaning.{Owned}
use Rattle.text_semantics.specs.Written.{body_of, file_of, owner_at}
use Rattle.text_semantics.specs.Answer.{Answer, refused, written, place_at, so_far, told}
use Rattle.text_machine.specs.Entry.{Draft}
use Rattle.text_machine.specs.Sheet.{Sheet}
use Rattle.text_machine.specs.Machine.{over_limit}
use Rattle.text_promises.specs.Cuts.{raws_from, so_far_long}
use Rattle.text_promises.specs.Owners.{owner_behind}
use Rattle.text_promises.specs.Judged.{good, most, stands, saw_all, of_group, saw_all_at, InPlace, Passing, spoilt, crowded}
use Rattle.text_promises.specs.Judged.{passing_front, RefusedAt, so_far_refused, so_far_passing, so_far-accepted}
use Rattle.text_promises.specs.Says.{too_deep, third_passes, third_stops}
use Rattle.text_agrees.specs.Layout.{last_line, last_append}
use Rattle.text_answers.specs.Cutting.{Joined, Tallied, Found, checked}

-- NOT TOO DEEP: no body of a class of os nests too deep in m.
abbrev pub Shallow : Model → List Owned → Type 0
Shallow m os = AllOf (λ o. too_deep m o.entry ≡ false) os

-- What the third pass accepts isn't.
third_accepted : (m : Model) (at : ℕ) (ps qs : List Owned) → Shallow m ps
    → third_pass m (raws_from at (ps ++ qs)) ≡ D.accepted passed → Shallow m qs
third_accepted m at ps [] h e = tt
third_accepted m at ps (o ∷ qs) h e = go (too_deep m o.entry) refl (third_accepted m at (ps ++ (o ∷ [])) qs)
  where
    go : (b : Bool) → too_deep m o.entry ≡ b
        → (Shallow m (ps ++ (o ∷ [])) → third_pass m (raws_from at ((ps ++ (o ∷ [])) ++ qs)) ≡ D.accepted passed → Shallow m qs)
        → Shallow m (o ∷ qs)
    go true d ih = not_accepted (sym (third_stops m at ps o qs h d) ∙ e)
    go false d ih =
        (d, ih (all_append (λ x. too_deep m x.entry ≡ false) ps (o ∷ []) h (d, tt)) (rw (append_assoc ps (o ∷ []) qs) e))

-- WHAT WAS ACCEPTED passes, and isn't too deep.
pub accepted-old : (old : List Owned) → so_far (file_of old) ≡ D.accepted passed
    → Passing none_seen old × Shallow (gather (raws_from 0 old)).model old
accepted-old old e = go (ltb F.longest_file (length (file_of old))) refl
  where
    go : (b : Bool) → ltb F.longest_file (length (file_of old)) ≡ b
        → Passing none_seen old × Shallow (gather (raws_from 0 old)).model old
    go true l = not_accepted (sym (so_far_long old (ltb-true F.longest_file (length (file_of old)) l)) ∙ e)
    go false l =
        let a = so_far-accepted old (ltb-false F.longest_file (length (file_of old)) l) e in
        (a.0, third_accepted (gather (raws_from 0 old)).model 0 [] old tt a.1)

-- WHAT PASSES, said of a whole file: nothing was seen before it.
none_seen_lem : (g : ℕ) → get_or none_seen g 0 ≡ 0
none_seen_lem g = all_get (λ n. n ≡ 0) none_seen g 0 (all_replicate (λ n. n ≡ 0) K.groups 0 refl) refl

placed_front : (n : ℕ) (ps qs : List Owned) → InPlace n (ps ++ qs) → InPlace n ps
placed_front n [] qs h = tt
placed_front n (p ∷ ps) qs h = (h.0, placed_front (n + once K.BLOCK (group_of p.entry)) ps qs h.1)

one_too_many : (ps : List Owned) (o : Owned) → most o.entry ≤ of_group (group_of o.entry) ps
    → stands (saw_all none_seen ps) o.entry ≡ false
one_too_many ps o h =
    let g : ℕ = group_of o.entry in
    let s = saw_all_at none_seen ps g refl in
    let z = none_seen_lem g in
    crowded (saw_all none_seen ps) o.entry (omega arith)

-- THE LAST OF A GROUP.
record LastOf (g : ℕ) (os : List Owned) : Type 0 where
  ahead : List Owned
  it : Owned
  behind : List Owned
  is : os ≡ ahead ++ (it ∷ behind)
  group : group_of it.entry ≡ g
  none_behind : of_group g behind ≡ 0

last_of : (g : ℕ) (os : List Owned) → 0 < of_group g os → LastOf g os
last_of g [] h = absurd (omega arith)
last_of g (o ∷ os) h = go (of_group g os) refl (last_of g os)
  where
    go : (n : ℕ) → of_group g os ≡ n → (0 < of_group g os → LastOf g os) → LastOf g (o ∷ os)
    go zero e ih =
        record {
          ahead = [];
          it = o;
          behind = os;
          is = refl;
          group = sym (once_same g (group_of o.entry) (omega arith));
          none_behind = e;
        }
    go (suc n) e ih =
        let l = ih (omega arith) in
        record {
          ahead = o ∷ l.ahead;
          it = l.it;
          behind = l.behind;
          is = ap (λ xs. o ∷ xs) l.is;
          group = l.group;
          none_behind = l.none_behind;
        }

last_count : (g : ℕ) (os : List Owned) (l : LastOf g os) → of_group g os ≡ suc (of_group g l.ahead)
last_count g os l =
    let a = ap (of_group g) l.is in
    let b = over-append (λ (o : Owned). once g (group_of o.entry)) l.ahead (l.it ∷ l.behind) in
    let c = ap (once g) l.group in
    let s = once_self g in
    let n = l.none_behind in
    omega arith

module _ (place : ℕ → ℕ) where
  no_later : (p : ℕ) (os : List Owned) → of_group K.ACTION os ≡ 0 → last_line place p os ≡ p
  no_later p [] h = refl
  no_later p (o ∷ os) h =
      let a : eqb (group_of o.entry) K.ACTION ≡ false =
      ne_eqb (group_of o.entry) K.ACTION (λ e. (let s = ap (once K.ACTION) e in let t = once_self K.ACTION in omega arith)) in
      rw a (no_later p os (omega arith))

  its_line : (os : List Owned) (l : LastOf K.ACTION os) → last_line place 0 os ≡ place l.it.owner
  its_line os l =
      ap (last_line place 0) l.is ∙ last_append place 0 l.ahead (l.it ∷ l.behind) ∙ rw (eq-eqb _ _ l.group)
      (no_later (place l.it.owner) l.behind l.none_behind)

-- HOW THE RECORDS GROW.
once_most : (i k : ℕ) → once i k ≤ 1
once_most zero zero = omega arith
once_most zero (suc k) = omega arith
once_most (suc i) zero = omega arith
once_most (suc i) (suc k) = once_most i k

abbrev Good : Owned → Type 0
Good o = good o.entry ≡ true

block_good : good R.BLOCK ≡ true
unfolding body_judged row_of body_of ◌>>◌ need
block_good = refl

module _ {old new : List Owned} (j : Joined old new) where
  -- All but the block that was opened.
  abbrev front : List Owned
  front = j.first ++ (j.o ∷ j.rest)

  new_is : new ≡ front ++ j.more
  new_is = j.is ∙ sym (append_assoc j.first (j.o ∷ j.rest) j.more)

  new_count : (g : ℕ) → of_group g new ≡ of_group g front + of_group g j.more
  new_count g = ap (of_group g) new_is ∙ over-append (λ o. once g (group_of o.entry)) front j.more

  front_count : (g : ℕ) → of_group g front + of_group g j.ps ≡ of_group g old + once g (group_of j.o.entry)
  front_count g =
      let f : Owned → ℕ = λ o. once g (group_of o.entry) in
      let a = over-append f j.first (j.o ∷ j.rest) in
      let b = over-append f j.first (j.ps ++ j.rest) in
      let c = over-append f j.ps j.rest in
      let w = ap (of_group g) j.was in
      omega arith

  -- The block is no action, and good.
  what_opens : (of_group K.ACTION j.more ≡ 0) × AllOf Good j.more
  what_opens = ⊎_elim (λ e. rw e (refl, tt)) (λ b. rw (b.1, b.2) (refl, (block_good, tt))) j.opened

  all_good : AllOf Good old → good j.o.entry ≡ true → AllOf Good new
  all_good h g =
      let a = all_split Good j.first (j.ps ++ j.rest) (rw j.was at h) in
      let b = all_split Good j.ps j.rest a.1 in
      let c = all_append Good j.rest j.more b.1 what_opens.1 in
      rw j.is (all_append Good j.first (j.o ∷ (j.rest ++ j.more)) a.0 (g, c))

  -- No more blocks than before, without the one that was opened; and of no group more than one more.
  same_blocks : (group_of j.o.entry ≡ K.BLOCK → ⊥) → of_group K.BLOCK front ≤ of_group K.BLOCK old
  same_blocks h =
      ⊎_elim
      (λ e.
      let n = once_apart K.BLOCK (group_of j.o.entry) (λ b. h (sym b)) in omega (arith, front_count K.BLOCK))
      (λ p.
      let c = ap (of_group K.BLOCK) p.1 in let o = ap (once K.BLOCK) p.2 in omega (arith, front_count K.BLOCK))
      j.before

  one_more : (g : ℕ) → of_group g front ≤ suc (of_group g old)
  one_more g = omega (arith, front_count g, once_most g (group_of j.o.entry))

-- WHERE IT IS TOLD: at the place of what is refused.
abbrev Tells : List Placed → List Owned → Option ℕ → Type 0
Tells ts os q = (a : Answer) → told ts os (so_far (file_of os)) (λ x. a) ≡ checked q a

module _ (place : ℕ → ℕ) (ts : List Placed) (new : List Owned)
    (places : AllOf (λ (o : Owned). place_at ts o.owner ≡ place o.owner) new) where
  module _ (q : ℕ) (ps : List Owned) (o : Owned) (qs : List Owned) (is : new ≡ ps ++ (o ∷ qs))
      (its : q ≡ place o.owner) where
    told_at : RefusedAt (so_far (file_of new)) new o → Tells ts new (some q)
    told_at r a =
        let p = all_split (λ (o : Owned). place_at ts o.owner ≡ place o.owner) ps (o ∷ qs) (rw is at places) in
        rw (r.is_refused, r.its_owner) (ap (refused No.CHECKS) (p.1.0 ∙ sym its))

    told_first : length (file_of new) ≤ F.longest_file → Passing none_seen ps → stands (saw_all none_seen ps) o.entry ≡ false
        → Tells ts new (some q)
    told_first l h s =
        told_at
        (subst (λ os. RefusedAt (so_far (file_of os)) os o) (sym is) (so_far_refused ps o qs h s (rw is at l)))

    told_deep : (m : Model) → so_far (file_of new) ≡ third_pass m (raws_from 0 new) → Shallow m ps → too_deep m o.entry ≡ true
        → Tells ts new (some q)
    told_deep m e h s =
        told_at
        (record {
          number = F.DEEP;
          place = length (file_of ps);
          is_refused =
              e ∙ ap (λ os. third_pass m (raws_from 0 os)) is ∙ third_stops m 0 ps o qs h s
              ∙ ap (D.refused F.DEEP) (zero-add (length (file_of ps)));
          its_owner = ap (owner_at (length (file_of ps))) is ∙ owner_behind ps o qs;
        })

  told_long : (q : ℕ) → ((o : Owned) (os : List Owned) → new ≡ o ∷ os → q ≡ place o.owner)
      → F.longest_file < length (file_of new) → Tells ts new (some q)
  told_long q its l = go new refl
    where
      go : (os : List Owned) → new ≡ os → Tells ts new (some q)
      go [] e = let n = ap (λ os. length (file_of os)) e in absurd (omega arith)
      go (o ∷ os) e =
          told_at q [] o os e (its o os e)
          (record {
            number = F.MANY;
            place = 0;
            is_refused = so_far_long new l;
            its_owner = ap (owner_at 0) e ∙ owner_behind [] o os;
          })

-- THE CHECKS AND THE LIMITS, one after the other.
module _ (place : ℕ → ℕ) (ts : List Placed) (old new : List Owned) (j : Joined old new) (d : Draft) (f : Bool) (z : Sheet)
    (t : Tallied place new z) (w : Found place old new j d f) (passing : Passing none_seen old) (in_place : InPlace 0 new)
    (places : AllOf (λ (o : Owned). place_at ts o.owner ≡ place o.owner) new) where
  abbrev m : Model
  m = (gather (raws_from 0 new)).model

  abbrev Says : Option ℕ → Type 0
  Says q = Tells ts new q

  abbrev Short : Type 0
  Short = length (file_of new) ≤ F.longest_file

  old_few : (g : ℕ) → of_group g old ≤ get_or limits g 0
  old_few g = omega (arith, passing.roomy g, none_seen_lem g)

  front_blocks : of_group K.BLOCK (front j) ≤ F.most_blocks
  front_blocks = omega (arith, same_blocks j w.apart, old_few K.BLOCK)

  front_actions : of_group K.ACTION (front j) ≡ of_group K.ACTION new
  front_actions = let b = (what_opens j).0 in omega (arith, new_count j K.ACTION)

  is_over : (g n : ℕ) → ltb n (get_or z.seen g 0) ≡ true → n < of_group g new
  is_over g n h = let a = ltb-true n (get_or z.seen g 0) h in omega (arith, t.counts g)

  is_within : (g n : ℕ) → ltb n (get_or z.seen g 0) ≡ false → of_group g new ≤ n
  is_within g n h = let a = ltb-false n (get_or z.seen g 0) h in omega (arith, t.counts g)

  -- The length.
  too_long : F.longest_file < z.total → Says (some z.first)
  too_long l = told_long place ts new places z.first t.first (let n = t.total in omega arith)

  is_short : z.total ≤ F.longest_file → Short
  is_short l = let n = t.total in omega arith

  -- The record of the line.
  at_record : Short → d.line ≡ place j.o.owner → stands (saw_all none_seen j.first) j.o.entry ≡ false
      → Says (some d.line)
  at_record l e s =
      told_first place ts new places d.line j.first j.o (j.rest ++ j.more) j.is e l
      (passing_front none_seen j.first (j.ps ++ j.rest) (rw j.was at passing)) s

  -- It is one too many where it is the last of its group and there are too many.
  crowds : most j.o.entry < of_group (group_of j.o.entry) new
      → of_group (group_of j.o.entry) (j.rest ++ j.more) ≡ 0
      → stands (saw_all none_seen j.first) j.o.entry ≡ false
  crowds l n =
      let g : ℕ = group_of j.o.entry in
      let a = ap (of_group g) j.is in
      let b = over-append (λ (o : Owned). once g (group_of o.entry)) j.first (j.o ∷ (j.rest ++ j.more)) in
      let s = once_self g in
      one_too_many j.first j.o (omega arith)

  is_faulty : Short → f ≡ true → Says (some d.line)
  is_faulty l e =
      let a = w.at_fault e in
      at_record l a.0
      (⊎_elim (λ b. spoilt (saw_all none_seen j.first) j.o.entry b) (λ b. crowds b.0 b.1) a.1)

  many_classes : Short → F.most_classes < of_group K.CLASS new → Says (some d.line)
  many_classes l c =
      let a = w.classes c in at_record l a.0 (crowds (rw a.1 c) (rw a.1 a.2))

  -- WHERE THE RECORD IS RIGHT, and there are few enough classes, what stands in front passes if it has few enough actions and
  -- blocks.
  module _ (short : Short) (right : f ≡ false) (few_classes : of_group K.CLASS new ≤ F.most_classes) where
    module _ (xs ys : List Owned) (is : new ≡ xs ++ ys) (few_actions : of_group K.ACTION xs ≤ F.most_actions)
        (few_blocks : of_group K.BLOCK xs ≤ F.most_blocks) where
      fewer : (g : ℕ) → of_group g xs ≤ of_group g new
      fewer g =
          let a = over-append (λ (o : Owned). once g (group_of o.entry)) xs ys in
          let b = ap (of_group g) is in
          omega arith

      few_each : (g : ℕ) → of_group g xs ≤ get_or limits g 0
      few_each g = go (eqb g K.CLASS) (eqb g K.ACTION) (eqb g K.BLOCK) refl refl refl
        where
          go : (a b c : Bool) → eqb g K.CLASS ≡ a → eqb g K.ACTION ≡ b → eqb g K.BLOCK ≡ c → of_group g xs ≤ get_or limits g 0
          go true b c e h k = rw (eqb-true g K.CLASS e) (omega (arith, fewer K.CLASS))
          go false true c e h k = rw (eqb-true g K.ACTION h) few_actions
          go false false true e h k = rw (eqb-true g K.BLOCK k) few_blocks
          go false false false e h k =
              let l = w.few right g (eqb-false g K.CLASS e) (eqb-false g K.ACTION h) (eqb-false g K.BLOCK k) in
              omega (arith, fewer g)

      front_passes : Passing none_seen xs
      front_passes =
          record {
            all_good = (all_split Good xs ys (rw is at (all_good j passing.all_good (w.sound right)))).0;
            in_place = placed_front 0 xs ys (rw is at in_place);
            roomy = λ g. omega (arith, none_seen_lem g, few_each g);
          }

    -- Actions: the last one is one too many, and the block that was opened stands behind it.
    module _ (l : LastOf K.ACTION (front j)) where
      last_is : new ≡ l.ahead ++ (l.it ∷ (l.behind ++ j.more))
      last_is =
          new_is j ∙ ap (λ xs. xs ++ j.more) l.is ∙ append_assoc l.ahead (l.it ∷ l.behind) j.more

      last_line_lem : z.last_line ≡ place l.it.owner
      last_line_lem =
          t.last ∙ ap (last_line place 0) (new_is j) ∙ last_append place 0 (front j) j.more
          ∙ no_later place _ j.more (what_opens j).0 ∙ its_line place (front j) l

      ahead_blocks : of_group K.BLOCK l.ahead ≤ F.most_blocks
      ahead_blocks =
          let a = ap (of_group K.BLOCK) l.is in
          let b = over-append (λ (o : Owned). once K.BLOCK (group_of o.entry)) l.ahead (l.it ∷ l.behind) in
          omega (arith, front_blocks)

      ahead_actions : F.most_actions < of_group K.ACTION new → of_group K.ACTION l.ahead ≡ F.most_actions
      ahead_actions h =
          let c = last_count K.ACTION (front j) l in
          omega (arith, front_actions, one_more j K.ACTION, old_few K.ACTION)

      last_many : F.most_actions < of_group K.ACTION new → Says (some z.last_line)
      last_many h =
          let n = ahead_actions h in
          told_first place ts new places z.last_line l.ahead l.it (l.behind ++ j.more) last_is last_line_lem short
          (front_passes l.ahead (l.it ∷ (l.behind ++ j.more)) last_is (omega arith) ahead_blocks)
          (one_too_many l.ahead l.it (rw l.group (omega arith)))

    many_actions : F.most_actions < of_group K.ACTION new → Says (some z.last_line)
    many_actions h = last_many (last_of K.ACTION (front j) (omega (arith, front_actions))) h

    module _ (few_actions : of_group K.ACTION new ≤ F.most_actions) where
      -- Blocks: the one that was opened is one too many.
      block_many : (b : Owned) → j.more ≡ b ∷ [] → b.entry ≡ R.BLOCK → F.most_blocks < of_group K.BLOCK new
          → Says (some d.line)
      block_many b e g h =
          let n = ap (of_group K.BLOCK) e in
          let o = ap (λ x. once K.BLOCK (group_of x)) g in
          told_first place ts new places d.line (front j) b [] (new_is j ∙ ap (λ xs. front j ++ xs) e) (w.line b e) short
          (front_passes (front j) j.more (new_is j) (omega (arith, front_actions)) front_blocks)
          (one_too_many (front j) b (rw g (omega (arith, new_count j K.BLOCK))))

      many_blocks : F.most_blocks < of_group K.BLOCK new → Says (some d.line)
      many_blocks h =
          ⊎_elim (λ e. let n = ap (of_group K.BLOCK) e in absurd (omega (arith, new_count j K.BLOCK, front_blocks)))
          (λ b. block_many b.0 b.1 b.2 h) j.opened

      module _ (few_blocks : of_group K.BLOCK new ≤ F.most_blocks) where
        new_passes : Passing none_seen new
        new_passes = front_passes new [] (sym (append-nil new)) few_actions few_blocks

        third_is : so_far (file_of new) ≡ third_pass m (raws_from 0 new)
        third_is = so_far_passing new short new_passes

  -- THE ANSWER, where the model is as deep as the blocks that are open, and there is room for what passes.
  module _ (shallow : Passing none_seen new → length z.levels ≤ F.deepest → Shallow m new)
      (deep : Passing none_seen new → F.deepest < length z.levels
      → (xs : List Owned) × (c : Owned) × (ys : List Owned) × (new ≡ xs ++ (c ∷ ys)) × Shallow m xs
      × (too_deep m c.entry ≡ true) × (get_or z.class_line z.current 0 ≡ place c.owner))
      (free : f ≡ false → length (file_of new) ≤ F.longest_file → Passing none_seen new → z.full ≡ false) where
    -- What the machine looks at last: the depth and the room; and before these, actions and blocks.
    abbrev by_depth : Option ℕ
    by_depth =
        if ltb F.deepest (length z.levels)
        then some (get_or z.class_line z.current 0)
        else if z.full
        then some 0
        else none

    abbrev by_counts : Option ℕ
    by_counts =
        if ltb F.most_actions (get_or z.seen K.ACTION 0)
        then some z.last_line
        else if ltb F.most_blocks (get_or z.seen K.BLOCK 0)
        then some d.line
        else by_depth

    module _ (short : Short) (right : f ≡ false) (few_classes : of_group K.CLASS new ≤ F.most_classes) where
      then_depth : of_group K.ACTION new ≤ F.most_actions → of_group K.BLOCK new ≤ F.most_blocks → Says by_depth
      then_depth a b =
          let e = third_is short right few_classes a b in
          let p = new_passes short right few_classes a b in
          if_has Says (ltb F.deepest (length z.levels))
          (λ h.
          let x = deep p (ltb-true F.deepest (length z.levels) h) in
          told_deep place ts new places _ x.0 x.1 x.2 x.3 x.6 m e x.4 x.5)
          (λ h.
          if_has Says z.full (λ k. no_way (sym (free right short p) ∙ k))
          (λ k y. rw (e, third_passes m 0 new (shallow p (ltb-false F.deepest (length z.levels) h)))))

      then_counts : Says by_counts
      then_counts =
          if_has Says (ltb F.most_actions (get_or z.seen K.ACTION 0))
          (λ h. many_actions short right few_classes (is_over K.ACTION F.most_actions h))
          (λ h.
          let a = is_within K.ACTION F.most_actions h in
          if_has Says (ltb F.most_blocks (get_or z.seen K.BLOCK 0))
          (λ k. many_blocks short right few_classes a (is_over K.BLOCK F.most_blocks k))
          (λ k. then_depth a (is_within K.BLOCK F.most_blocks k)))

    pub graded : (a : Answer) → told ts new (so_far (file_of new)) (λ x. a) ≡ checked (over_limit z d f) a
    unfolding over_limit
    graded =
        if_has Says (ltb F.longest_file z.total) (λ h. too_long (ltb-true F.longest_file z.total h))
        (λ h.
        let s = is_short (ltb-false F.longest_file z.total h) in
        if_has Says (f || ltb F.most_classes (get_or z.seen K.CLASS 0))
        (λ k.
        or-true f (ltb F.most_classes (get_or z.seen K.CLASS 0)) k (Says (some d.line)) (is_faulty s)
        (λ c. many_classes s (is_over K.CLASS F.most_classes c)))
        (λ k.
        let r = or-false f (ltb F.most_classes (get_or z.seen K.CLASS 0)) k in
        then_counts s r.0 (is_within K.CLASS F.most_classes r.1)))

    -- What the limits don't stop is accepted.
    pub took : over_limit z d f ≡ none → so_far (file_of new) ≡ D.accepted passed
    took e = go (so_far (file_of new)) (graded (written []) ∙ ap (λ q. checked q (written [])) e)
      where
        go : (c : Checked Passed) → told ts new c (λ x. written []) ≡ written [] → c ≡ D.accepted passed
        go (D.refused n p) h = let z : ◌≡◌ {A = ℕ} 0 1 = cc in absurd (omega arith)
        go (D.accepted passed) h = refl
