-- The first pass over what is written: it accepts records that are good, in their places and not too many, and refuses the first
-- that isn't; whether it does depends on how many of each group there are, and not on their order.
-- Assumes nothing.
use Rattle.std.specs.Prelude.{ℕ, zero, suc, ◌+◌, ◌≤◌, ◌<◌, ◌≡◌, refl, List, [], ◌∷◌, ◌++◌, Bool, true, false, not, ◌&&◌, ◌||◌, eqb, ltb, length, get_or}
use Rattle.std.proofs.Common.{arith, sym, ap, ◌∙◌, ltb-true, lt-ltb, le-ltb, length-set, ext_get_or}
use Rattle.semantics.specs.Words.{Outcome, ok, fails, Passed, passed, ◌>>◌, need, more}
use Rattle.semantics.specs.Numbers as No
use Rattle.semantics.specs.Kinds as K
use Rattle.semantics.specs.Model as M
use Rattle.semantics.specs.Model.{Action}
use Rattle.semantics.specs.Bytes.{Raw, raw, torn}
use Rattle.semantics.specs.Record as R
use Rattle.semantics.specs.Record.{Entry, Row, row_of, body_judged}
use Rattle.semantics.specs.Decode.{Checked, refused, accepted, if_accepted, placed, judged, saw, none_seen, first_pass, gather}
use Rattle.semantics.specs.Decode.{third_pass, decode}
use Rattle.promises.specs.Laws.{no_way, and-true, true-and, AllOf, all_split, all_get, all_replicate, over, over-append, once}
use Rattle.promises.specs.Laws.{once_same, once_self, more_at}
use Rattle.promises.specs.Passes.{not_accepted}
use Rattle.promises.specs.Counted.{group_of, limits}
use Rattle.text_semantics.specs.Meaning.{Owned}
use Rattle.text_semantics.specs.Written.{kind_of, body_of, bytes_of, file_of, owner_at}
use Rattle.text_semantics.specs.Answer.{so_far}
use Rattle.text_promises.specs.Cuts.{raws_from, so_far_lem, decoded}
use Rattle.text_promises.specs.Owners.{raws_append, owner_behind}

-- ENTRIES. Whether what is written for one passes 5, 6 and 7; and how many there may be of its group.
abbrev pub passes : Outcome Passed → Bool
passes (ok passed) = true
passes (fails n) = false

abbrev pub good : Entry → Bool
good e = passes (body_judged (row_of (kind_of e)) (body_of e))

abbrev pub most : Entry → ℕ
most e = get_or limits (group_of e) 0

-- The row of its kind says so.
abbrev Grouped : ℕ → Entry → Type 0
Grouped k e = ((row_of k).group ≡ group_of e) × ((row_of k).most ≡ most e)

action_row : (a : Action) → Grouped (M.kind_of a) (R.ACTION a)
unfolding row_of
action_row (M.HOLD e) = (refl, refl)
action_row (M.PRIO e) = (refl, refl)
action_row (M.SET i e) = (refl, refl)
action_row (M.LSET i e) = (refl, refl)
action_row (M.DO n b) = (refl, refl)
action_row (M.PUTR i n) = (refl, refl)
action_row (M.PUTB i n) = (refl, refl)
action_row (M.PUTS i n) = (refl, refl)
action_row (M.BECOME i) = (refl, refl)
action_row (M.REQ c) = (refl, refl)
action_row (M.TRY bs) = (refl, refl)
action_row (M.WHILE b c) = (refl, refl)
action_row (M.START c t h) = (refl, refl)
action_row (M.TRACE e) = (refl, refl)
action_row M.CLOSE = (refl, refl)

pub its_group : (e : Entry) → ((row_of (kind_of e)).group ≡ group_of e) × ((row_of (kind_of e)).most ≡ most e)
unfolding row_of
its_group (R.RES n) = (refl, refl)
its_group (R.BIN n) = (refl, refl)
its_group R.SYNC = (refl, refl)
its_group (R.VAR v) = (refl, refl)
its_group (R.CLASS b) = (refl, refl)
its_group R.BLOCK = (refl, refl)
its_group (R.ENTITY e) = (refl, refl)
its_group (R.SAMPLER x) = (refl, refl)
its_group (R.ACTION a) = action_row a

pub group_in : (e : Entry) → (0 < group_of e) × (group_of e < K.groups)
group_in (R.RES n) = omega arith
group_in (R.BIN n) = omega arith
group_in R.SYNC = omega arith
group_in (R.VAR v) = omega arith
group_in (R.CLASS b) = omega arith
group_in R.BLOCK = omega arith
group_in (R.ENTITY e) = omega arith
group_in (R.SAMPLER x) = omega arith
group_in (R.ACTION a) = omega arith

-- ONE RECORD, where `seen` stand before it: in its place, not one too many, and good.
abbrev pub stands : List ℕ → Entry → Bool
stands seen e = placed (group_of e) (get_or seen K.BLOCK 0) && (ltb (get_or seen (group_of e) 0) (most e) && good e)

passes-need : (n : ℕ) (b : Bool) (o : Outcome Passed) → passes (◌>>◌ (need n b) o) ≡ b && passes o
unfolding ◌>>◌ need
passes-need n true o = refl
passes-need n false o = refl

passes_all : (seen : List ℕ) (r : Row) (bs : List ℕ)
    → passes (do
      need No.KIND (ltb 0 r.group)
      need No.PLACE (placed r.group (get_or seen K.BLOCK 0))
      need No.MANY (ltb (get_or seen r.group 0) r.most)
      body_judged r bs)
    ≡ ltb 0 r.group
    && (placed r.group (get_or seen K.BLOCK 0) && (ltb (get_or seen r.group 0) r.most && passes (body_judged r bs)))
passes_all seen r bs = simp passes-need

pub judged_is : (seen : List ℕ) (e : Entry) → passes (judged seen (kind_of e) (body_of e)) ≡ stands seen e
unfolding judged
judged_is seen e =
    let g = its_group e in
    passes_all seen (row_of (kind_of e)) (body_of e)
    ∙ rw (g.0, g.1, lt-ltb 0 (group_of e) (group_in e).0)

passed_on : {A : Type 0} (o : Outcome Passed) (at : ℕ) (c : Checked A) → passes o ≡ true
    → ◌≡◌ {A = Checked A} (elim o [ fails n ↦ refused n at | ok p ↦ c ]) c
passed_on (ok passed) at c e = refl
passed_on (fails n) at c e = no_way e

stopped_at : {A : Type 0} (o : Outcome Passed) (at : ℕ) (c : Checked A) → passes o ≡ false
    → (n : ℕ) × (◌≡◌ {A = Checked A} (elim o [ fails n ↦ refused n at | ok p ↦ c ]) (refused n at))
stopped_at (ok passed) at c e = no_way (sym e)
stopped_at (fails n) at c e = (n, refl)

module _ (seen : List ℕ) (at : ℕ) (e : Entry) (rs : List Raw) where
  pub first_on : stands seen e ≡ true
      → first_pass seen (raw at (kind_of e) (body_of e) ∷ rs) ≡ first_pass (saw seen (kind_of e)) rs
  unfolding first_pass
  first_on h =
      passed_on (judged seen (kind_of e) (body_of e)) at (first_pass (saw seen (kind_of e)) rs) (judged_is seen e ∙ h)

  pub first_stops : stands seen e ≡ false
      → (n : ℕ) × (first_pass seen (raw at (kind_of e) (body_of e) ∷ rs) ≡ refused n at)
  unfolding first_pass
  first_stops h =
      stopped_at (judged seen (kind_of e) (body_of e)) at (first_pass (saw seen (kind_of e)) rs) (judged_is seen e ∙ h)

-- ONE AFTER ANOTHER. What is accepted is gone on from.
pub first_append : (seen : List ℕ) (rs qs : List Raw) (n : List ℕ) → first_pass seen rs ≡ accepted n
    → first_pass seen (rs ++ qs) ≡ first_pass n qs
unfolding first_pass
first_append seen [] qs n e = let z : seen ≡ n = cc in rw z
first_append seen (torn at ∷ rs) qs n e = not_accepted e
first_append seen (raw at k bs ∷ rs) qs n e = go (judged seen k bs) (first_append (saw seen k) rs qs n) e
  where
    go : (o : Outcome Passed) → (first_pass (saw seen k) rs ≡ accepted n → first_pass (saw seen k) (rs ++ qs) ≡ first_pass n qs)
        → ◌≡◌ {A = Checked (List ℕ)} (elim o [ fails n ↦ refused n at | ok p ↦ first_pass (saw seen k) rs ]) (accepted n)
        → ◌≡◌ {A = Checked (List ℕ)} (elim o [ fails n ↦ refused n at | ok p ↦ first_pass (saw seen k) (rs ++ qs) ])
        (first_pass n qs)
    go (ok p) ih f = ih f
    go (fails x) ih f = not_accepted f

pub first_refused : (seen : List ℕ) (rs qs : List Raw) (n p : ℕ) → first_pass seen rs ≡ refused n p
    → first_pass seen (rs ++ qs) ≡ refused n p
unfolding first_pass
first_refused seen [] qs n p e = not_accepted (sym e)
first_refused seen (torn at ∷ rs) qs n p e = e
first_refused seen (raw at k bs ∷ rs) qs n p e = go (judged seen k bs) (first_refused (saw seen k) rs qs n p) e
  where
    go : (o : Outcome Passed)
        → (first_pass (saw seen k) rs ≡ refused n p → first_pass (saw seen k) (rs ++ qs) ≡ refused n p)
        → ◌≡◌ {A = Checked (List ℕ)} (elim o [ fails n ↦ refused n at | ok x ↦ first_pass (saw seen k) rs ]) (refused n p)
        → ◌≡◌ {A = Checked (List ℕ)} (elim o [ fails n ↦ refused n at | ok x ↦ first_pass (saw seen k) (rs ++ qs) ])
        (refused n p)
    go (ok x) ih f = ih f
    go (fails x) ih f = f

-- COUNTS. What has been seen behind os; and how many of os are of group g.
abbrev pub saw_all : List ℕ → List Owned → List ℕ
saw_all seen [] = seen
saw_all seen (o ∷ os) = saw_all (saw seen (kind_of o.entry)) os

abbrev pub of_group : ℕ → List Owned → ℕ
of_group g os = over (λ o. once g (group_of o.entry)) os

saw_is : (seen : List ℕ) (e : Entry) → saw seen (kind_of e) ≡ more seen (group_of e) 1
saw_is seen e = rw (its_group e).0

saw_at : (seen : List ℕ) (e : Entry) (g : ℕ) → length seen ≡ K.groups
    → get_or (saw seen (kind_of e)) g 0 ≡ get_or seen g 0 + once g (group_of e)
saw_at seen e g l =
    let i = (group_in e).1 in rw (saw_is seen e) (more_at seen (group_of e) 1 g (omega arith))

saw_long : (seen : List ℕ) (e : Entry) → length seen ≡ K.groups → length (saw seen (kind_of e)) ≡ K.groups
saw_long seen e l = length-set seen _ _ ∙ l

pub saw_all_long : (seen : List ℕ) (os : List Owned) → length seen ≡ K.groups → length (saw_all seen os) ≡ K.groups
saw_all_long seen [] l = l
saw_all_long seen (o ∷ os) l = saw_all_long (saw seen (kind_of o.entry)) os (saw_long seen o.entry l)

pub saw_all_at : (seen : List ℕ) (os : List Owned) (g : ℕ) → length seen ≡ K.groups
    → get_or (saw_all seen os) g 0 ≡ get_or seen g 0 + of_group g os
saw_all_at seen [] g l = omega arith
saw_all_at seen (o ∷ os) g l =
    let ih = saw_all_at (saw seen (kind_of o.entry)) os g (saw_long seen o.entry l) in
    let a = saw_at seen o.entry g l in
    omega arith

-- The counts of two lists with as many of each group are the same.
pub saw_all_same : (seen : List ℕ) (os ps : List Owned) → length seen ≡ K.groups
    → ((g : ℕ) → of_group g os ≡ of_group g ps) → saw_all seen os ≡ saw_all seen ps
saw_all_same seen os ps l h =
    ext_get_or 0 (saw_all seen os) (saw_all seen ps) (saw_all_long seen os l ∙ sym (saw_all_long seen ps l)) λ g k.
    let a = saw_all_at seen os g l in let b = saw_all_at seen ps g l in let c = h g in omega arith

-- PLACES. Where n BLOCKs stand before os, a declaration stands before the first BLOCK and an action behind one.
abbrev pub InPlace : ℕ → List Owned → Type 0
InPlace n [] = Unit {0}
InPlace n (o ∷ os) = (placed (group_of o.entry) n ≡ true) × InPlace (n + once K.BLOCK (group_of o.entry)) os

-- WHAT PASSES, where `seen` stand before: order matters to places only.
pub record Passing (seen : List ℕ) (os : List Owned) : Type 0 where
  pub all_good : AllOf (λ o. good o.entry ≡ true) os
  pub in_place : InPlace (get_or seen K.BLOCK 0) os
  pub roomy : (g : ℕ) → get_or seen g 0 + of_group g os ≤ get_or limits g 0

pub first_passing : (seen : List ℕ) (o : Owned) (os : List Owned) → length seen ≡ K.groups → Passing seen (o ∷ os)
    → (stands seen o.entry ≡ true) × Passing (saw seen (kind_of o.entry)) os
first_passing seen o os l h =
    let g : ℕ = group_of o.entry in
    let r = h.roomy g in
    let s = once_self g in
    let t : get_or seen g 0 < most o.entry = omega arith in
    let b = saw_at seen o.entry K.BLOCK l in (
      true-and _ _ h.in_place.0 (true-and _ _ (lt-ltb _ _ t) h.all_good.0),
      record {
        all_good = h.all_good.1;
        in_place = rw b h.in_place.1;
        roomy = λ j. (let x = h.roomy j in let a = saw_at seen o.entry j l in omega arith);
      },
    )

pub first_pass_lem : (seen : List ℕ) (at : ℕ) (os : List Owned) → length seen ≡ K.groups → Passing seen os
    → first_pass seen (raws_from at os) ≡ accepted (saw_all seen os)
unfolding first_pass
first_pass_lem seen at [] l h = refl
first_pass_lem seen at (o ∷ os) l h =
    let a = first_passing seen o os l h in
    first_on seen at o.entry (raws_from (at + length (bytes_of o.entry)) os) a.0
    ∙ first_pass_lem (saw seen (kind_of o.entry)) (at + length (bytes_of o.entry)) os (saw_long seen o.entry l) a.1

-- THE FIRST THAT ISN'T RIGHT is where the first pass stops: at the place of o, whose owner `owner_behind` names.
false_left : (x y : Bool) → x ≡ false → x && y ≡ false
false_left true y e = no_way (sym e)
false_left false y e = refl

false_right : (x y : Bool) → y ≡ false → x && y ≡ false
false_right true y e = e
false_right false y e = refl

module _ (seen : List ℕ) (e : Entry) where
  abbrev here : Bool
  here = placed (group_of e) (get_or seen K.BLOCK 0)

  abbrev room : Bool
  room = ltb (get_or seen (group_of e) 0) (most e)

  pub misplaced : here ≡ false → stands seen e ≡ false
  misplaced f = false_left here (room && good e) f

  pub crowded : most e ≤ get_or seen (group_of e) 0 → stands seen e ≡ false
  crowded f = false_right here (room && good e) (false_left room (good e) (le-ltb (get_or seen (group_of e) 0) (most e) f))

  pub spoilt : good e ≡ false → stands seen e ≡ false
  spoilt f = false_right here (room && good e) (false_right room (good e) f)

module _ (seen : List ℕ) (at : ℕ) (ps : List Owned) (o : Owned) (qs : List Owned) (l : length seen ≡ K.groups)
    (h : Passing seen ps) where
  abbrev Stops : Type 0
  Stops = (n : ℕ) × (first_pass seen (raws_from at (ps ++ o ∷ qs)) ≡ refused n (at + length (file_of ps)))

  pub stops : stands (saw_all seen ps) o.entry ≡ false → Stops
  stops f =
      let p : ℕ = at + length (file_of ps) in
      let a = first_stops (saw_all seen ps) p o.entry (raws_from (p + length (bytes_of o.entry)) qs) f in (
        a.0,
        ap (first_pass seen) (raws_append at ps (o ∷ qs))
            ∙ first_append seen (raws_from at ps) (raws_from p (o ∷ qs)) (saw_all seen ps) (first_pass_lem seen at ps l h)
            ∙ a.1,
      )

  pub stops_bad : good o.entry ≡ false → Stops
  stops_bad f = stops (spoilt (saw_all seen ps) o.entry f)

  pub stops_many : most o.entry ≤ get_or seen (group_of o.entry) 0 + of_group (group_of o.entry) ps → Stops
  stops_many f =
      let a = saw_all_at seen ps (group_of o.entry) l in
      stops (crowded (saw_all seen ps) o.entry (omega arith))

  pub stops_misplaced : placed (group_of o.entry) (get_or seen K.BLOCK 0 + of_group K.BLOCK ps) ≡ false → Stops
  stops_misplaced f = stops (misplaced (saw_all seen ps) o.entry (rw (saw_all_at seen ps K.BLOCK l) f))

-- WHAT IS ACCEPTED is passing, where what stands before is within the limits.
abbrev pub Inside : List ℕ → Type 0
Inside seen = (g : ℕ) → get_or seen g 0 ≤ get_or limits g 0

pub stands_parts : (seen : List ℕ) (e : Entry) → stands seen e ≡ true
    → (placed (group_of e) (get_or seen K.BLOCK 0) ≡ true) × (get_or seen (group_of e) 0 < most e) × (good e ≡ true)
stands_parts seen e h =
    let a = and-true (placed (group_of e) (get_or seen K.BLOCK 0)) _ h in
    let b = and-true (ltb (get_or seen (group_of e) 0) (most e)) _ a.1 in
    (a.0, ltb-true _ _ b.0, b.1)

still_inside : (seen : List ℕ) (e : Entry) → length seen ≡ K.groups → Inside seen → get_or seen (group_of e) 0 < most e
    → Inside (saw seen (kind_of e))
still_inside seen e l s r g = go (once g (group_of e)) refl
  where
    at : get_or (saw seen (kind_of e)) g 0 ≡ get_or seen g 0 + once g (group_of e)
    at = saw_at seen e g l

    go : (o : ℕ) → once g (group_of e) ≡ o → get_or (saw seen (kind_of e)) g 0 ≤ get_or limits g 0
    go zero d = omega (arith, at, s g)
    go (suc o) d =
        let z = once_same g (group_of e) (omega arith) in
        let o = ap (λ x. once x (group_of e)) z in
        let a = ap (λ x. get_or seen x 0) z in
        let b = ap (λ x. get_or limits x 0) z in
        omega (arith, at, once_self (group_of e))

one_passing : (seen : List ℕ) (o : Owned) (os : List Owned) → length seen ≡ K.groups → stands seen o.entry ≡ true
    → Passing (saw seen (kind_of o.entry)) os → Passing seen (o ∷ os)
one_passing seen o os l s h =
    let a = stands_parts seen o.entry s in
    record {
      all_good = (a.2, h.all_good);
      in_place = (a.0, rw (saw_at seen o.entry K.BLOCK l) at h.in_place);
      roomy = λ g. (let x = h.roomy g in let y = saw_at seen o.entry g l in omega arith);
    }

-- All pass, or there is a first that doesn't stand.
pub data Verdict (seen : List ℕ) : List Owned → Type 0 where
  passing : {os : List Owned} → Passing seen os → Verdict seen os
  faulty : (ps : List Owned) (o : Owned) (qs : List Owned) → Passing seen ps → stands (saw_all seen ps) o.entry ≡ false
      → Verdict seen (ps ++ o ∷ qs)

verdict_on : (seen : List ℕ) (o : Owned) (os : List Owned) → length seen ≡ K.groups → stands seen o.entry ≡ true
    → Verdict (saw seen (kind_of o.entry)) os → Verdict seen (o ∷ os)
verdict_on seen o os l s (passing h) = passing (one_passing seen o os l s h)
verdict_on seen o os l s (faulty ps x qs h n) = faulty (o ∷ ps) x qs (one_passing seen o ps l s h) n

none_passing : (seen : List ℕ) → Inside seen → Passing seen []
none_passing seen s = record { all_good = tt; in_place = tt; roomy = λ g. (let a = s g in omega arith) }

pub verdict : (seen : List ℕ) (os : List Owned) → length seen ≡ K.groups → Inside seen → Verdict seen os
verdict seen [] l s = passing (none_passing seen s)
verdict seen (o ∷ os) l s =
    go (stands seen o.entry) refl (verdict (saw seen (kind_of o.entry)) os (saw_long seen o.entry l))
  where
    go : (b : Bool) → stands seen o.entry ≡ b
        → (Inside (saw seen (kind_of o.entry)) → Verdict (saw seen (kind_of o.entry)) os) → Verdict seen (o ∷ os)
    go false e ih = faulty [] o os (none_passing seen s) e
    go true e ih =
        let a = stands_parts seen o.entry e in verdict_on seen o os l e (ih (still_inside seen o.entry l s a.1))

accepted_one : (seen : List ℕ) (at : ℕ) (os : List Owned) (n : List ℕ) → length seen ≡ K.groups
    → first_pass seen (raws_from at os) ≡ accepted n → Verdict seen os → Passing seen os
accepted_one seen at os n l e (passing h) = h
accepted_one seen at os n l e (faulty ps o qs h f) = not_accepted (sym (stops seen at ps o qs l h f).1 ∙ e)

pub accepted_passing : (seen : List ℕ) (at : ℕ) (os : List Owned) (n : List ℕ) → length seen ≡ K.groups → Inside seen
    → first_pass seen (raws_from at os) ≡ accepted n → Passing seen os
accepted_passing seen at os n l s e = accepted_one seen at os n l e (verdict seen os l s)

-- FEWER. What passes still does if there are as many or fewer of each group.
pub passing_less : (seen : List ℕ) (os ps : List Owned) → Passing seen os → AllOf (λ o. good o.entry ≡ true) ps
    → InPlace (get_or seen K.BLOCK 0) ps → ((g : ℕ) → of_group g ps ≤ of_group g os) → Passing seen ps
passing_less seen os ps h a i c =
    record { all_good = a; in_place = i; roomy = λ g. (let x = h.roomy g in let y = c g in omega arith) }

-- ps is os with some left out.
pub data Among : List Owned → List Owned → Type 0 where
  ends : Among [] []
  kept : {o : Owned} {ps os : List Owned} → Among ps os → Among (o ∷ ps) (o ∷ os)
  left : {o : Owned} {ps os : List Owned} → Among ps os → Among ps (o ∷ os)

pub all_among : (P : Owned → Type 0) {ps os : List Owned} → Among ps os → AllOf P os → AllOf P ps
all_among P ends h = tt
all_among P (kept a) h = (h.0, all_among P a h.1)
all_among P (left a) h = all_among P a h.1

pub fewer_among : (g : ℕ) {ps os : List Owned} → Among ps os → of_group g ps ≤ of_group g os
fewer_among g ends = omega arith
fewer_among g (kept a) = let ih = fewer_among g a in omega arith
fewer_among g (left a) = let ih = fewer_among g a in omega arith

pub passing_among : (seen : List ℕ) {ps os : List Owned} → Among ps os → Passing seen os
    → InPlace (get_or seen K.BLOCK 0) ps → Passing seen ps
passing_among seen {ps} {os} a h i =
    passing_less seen os ps h (all_among (λ o. good o.entry ≡ true) a h.all_good) i (λ g. fewer_among g a)

-- What stands in front passes by itself.
placed_front : (n : ℕ) (ps qs : List Owned) → InPlace n (ps ++ qs) → InPlace n ps
placed_front n [] qs h = tt
placed_front n (p ∷ ps) qs h = (h.0, placed_front (n + once K.BLOCK (group_of p.entry)) ps qs h.1)

pub passing_front : (seen : List ℕ) (ps qs : List Owned) → Passing seen (ps ++ qs) → Passing seen ps
passing_front seen ps qs h =
    passing_less seen (ps ++ qs) ps h (all_split (λ o. good o.entry ≡ true) ps qs h.all_good).0
    (placed_front (get_or seen K.BLOCK 0) ps qs h.in_place)
    (λ g. (let a = over-append (λ o. once g (group_of o.entry)) ps qs in omega arith))

-- DECLARATIONS, and then blocks, are in their places.
abbrev pub declares : Entry → Bool
declares e = not (eqb (group_of e) K.BLOCK || eqb (group_of e) K.ACTION)

abbrev pub Declarations : List Owned → Type 0
Declarations os = AllOf (λ o. declares o.entry ≡ true) os

abbrev pub Blocks : List Owned → Type 0
Blocks [] = Unit {0}
Blocks (o ∷ os) = (group_of o.entry ≡ K.BLOCK) × AllOf (λ o. declares o.entry ≡ false) os

placed_first : (e : Entry) → declares e ≡ true → (placed (group_of e) 0 ≡ true) × (once K.BLOCK (group_of e) ≡ 0)
placed_first (R.RES n) h = (refl, refl)
placed_first (R.BIN n) h = (refl, refl)
placed_first R.SYNC h = (refl, refl)
placed_first (R.VAR v) h = (refl, refl)
placed_first (R.CLASS b) h = (refl, refl)
placed_first R.BLOCK h = no_way h
placed_first (R.ENTITY e) h = (refl, refl)
placed_first (R.SAMPLER x) h = (refl, refl)
placed_first (R.ACTION a) h = no_way h

placed_behind : (e : Entry) (n : ℕ) → declares e ≡ false → placed (group_of e) (suc n) ≡ true
placed_behind (R.RES n) m h = no_way (sym h)
placed_behind (R.BIN n) m h = no_way (sym h)
placed_behind R.SYNC m h = no_way (sym h)
placed_behind (R.VAR v) m h = no_way (sym h)
placed_behind (R.CLASS b) m h = no_way (sym h)
placed_behind R.BLOCK m h = refl
placed_behind (R.ENTITY e) m h = no_way (sym h)
placed_behind (R.SAMPLER x) m h = no_way (sym h)
placed_behind (R.ACTION a) m h = lt-ltb 0 (suc m) (omega arith)

behind_placed : (n : ℕ) (os : List Owned) → 0 < n → AllOf (λ o. declares o.entry ≡ false) os → InPlace n os
behind_placed n [] p h = tt
behind_placed zero (o ∷ os) p h = absurd (omega arith)
behind_placed (suc n) (o ∷ os) p h =
    (placed_behind o.entry n h.0, behind_placed (suc n + once K.BLOCK (group_of o.entry)) os (omega arith) h.1)

pub blocks_placed : (os : List Owned) → Blocks os → InPlace 0 os
blocks_placed [] h = tt
blocks_placed (o ∷ os) h = let e = h.0 in (rw e, rw e (behind_placed 1 os (omega arith) h.1))

pub in_order : (ds bs : List Owned) → Declarations ds → Blocks bs → InPlace 0 (ds ++ bs)
in_order [] bs d b = blocks_placed bs b
in_order (o ∷ ds) bs d b =
    let a = placed_first o.entry d.0 in (a.0, rw a.1 (in_order ds bs d.1 b))

-- A WHOLE FILE. Nothing stands before its first record.
pub none_inside : Inside none_seen
none_inside g = rw (all_get (λ n. n ≡ 0) none_seen g 0 (all_replicate (λ n. n ≡ 0) K.groups 0 refl) refl) (omega arith)

-- It is refused, at the place of the record that o wrote.
pub record RefusedAt {A : Type 0} (c : Checked A) (os : List Owned) (o : Owned) : Type 0 where
  pub number : ℕ
  pub place : ℕ
  pub is_refused : c ≡ refused number place
  pub its_owner : owner_at place os ≡ o.owner

module _ (ps : List Owned) (o : Owned) (qs : List Owned) (h : Passing none_seen ps)
    (f : stands (saw_all none_seen ps) o.entry ≡ false) (l : length (file_of (ps ++ o ∷ qs)) ≤ No.longest_file) where
  abbrev os : List Owned
  os = ps ++ o ∷ qs

  refused_so : {A : Type 0} (c : Checked A) (k : List ℕ → Checked A) → c ≡ if_accepted (first_pass none_seen (raws_from 0 os)) k
      → RefusedAt c os o
  refused_so c k e =
      let a = stops none_seen 0 ps o qs refl h f in
      record {
        number = a.0;
        place = 0 + length (file_of ps);
        is_refused = e ∙ ap (λ x. if_accepted x k) a.1;
        its_owner = let z : 0 + length (file_of ps) ≡ length (file_of ps) = omega arith in rw z (owner_behind ps o qs);
      }

  pub so_far_refused : RefusedAt (so_far (file_of os)) os o
  so_far_refused = refused_so (so_far (file_of os)) _ (so_far_lem os l)

  pub decode_refused : RefusedAt (decode (file_of os)) os o
  decode_refused = refused_so (decode (file_of os)) _ (decoded os l)

module _ (os : List Owned) (l : length (file_of os) ≤ No.longest_file) where
  abbrev rs : List Raw
  rs = raws_from 0 os

  -- What is passing is left to the passes that follow.
  pub so_far_passing : Passing none_seen os → so_far (file_of os) ≡ third_pass (gather rs).model rs
  so_far_passing h = so_far_lem os l ∙ rw (first_pass_lem none_seen 0 os refl h)

  pub so_far-accepted : so_far (file_of os) ≡ accepted passed
      → Passing none_seen os × (third_pass (gather rs).model rs ≡ accepted passed)
  so_far-accepted e = go (first_pass none_seen rs) refl (sym (so_far_lem os l) ∙ e)
    where
      go : (c : Checked (List ℕ)) → first_pass none_seen rs ≡ c
          → if_accepted c (λ n. third_pass (gather rs).model rs) ≡ accepted passed
          → Passing none_seen os × (third_pass (gather rs).model rs ≡ accepted passed)
      go (refused n p) d f = not_accepted f
      go (accepted n) d f = (accepted_passing none_seen 0 os n refl none_inside d, f)
