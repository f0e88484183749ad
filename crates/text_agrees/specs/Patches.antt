-- The bytes of the declarations: the machine writes a class without its body at first, and its block when the body comes.
-- Assumes nothing.
use Rattle.std.specs.Prelude.{ℕ, ◌+◌, ◌≡◌, ◌&&◌, ◌||◌, eqb, leb, ltb, length, get_or, take, drop, if◌then◌else◌}
use Rattle.std.proofs.Common.{arith, ◌∙◌, eq-eqb, eqb-true}
use Rattle.std.proofs.Math.Path.{refl, sym, ap, ap₂, subst}
use mathlib.Core.List.{List, [], ◌∷◌, ◌++◌, map, append-nil, append_assoc}
use Rattle.std.proofs.Math.Bool.{Bool, true, false, not}
use Rattle.std.proofs.Math.Option.{none}
use Rattle.std.proofs.lemmas.Bool.{not-false}
use Rattle.semantics.specs.Words.{any, keep, more}
use Rattle.semantics.specs.Numbers as F
use Rattle.semantics.specs.Kinds as K
use Rattle.semantics.specs.Record as R
use Rattle.semantics.specs.Record.{Entry}
use Rattle.promises.specs.Laws.{no_way, and-true, or-false, not-true, if_has, AllOf, all_append, all_mapped, all_split}
use Rattle.text_semantics.specs.Numbers as No
use Rattle.text_semantics.specs.Grammar as G
use Rattle.text_semantics.specs.Grammar.{Name, Declaration, Text, Few, Locals, declare}
use Rattle.text_semantics.specs.Names as N
use Rattle.text_semantics.specs.Names.{Known, Event, asks, declares, announces, embodies, leaves, named, awaited, stays, LOCAL}
use Rattle.text_semantics.specs.Names.{knows, after, trouble, trouble_in, events, in_few, in_locals, in_act, in_declaration}
use Rattle.text_semantics.specs.Meaning as W
use Rattle.text_semantics.specs.Meaning.{Owned, owned, number_of, embodied, body_block, opened_by, signed_of, declarations}
use Rattle.text_semantics.specs.Meaning.{blocks}
use Rattle.text_semantics.specs.Written.{two, bytes_of, file_of}
use Rattle.text_machine.specs.Entry.{Draft, put}
use Rattle.text_machine.specs.Sheet as S
use Rattle.text_machine.specs.Sheet.{Sheet, blocks_of, headed, class_bytes, DECLARED, with_total, with_first, declaring, classed}
use Rattle.text_agrees.specs.Notes.{file_append}
use Rattle.text_agrees.specs.Accounts.{Counting, heading}
use Rattle.text_agrees.specs.Laying.{Short, shorts_fair}
use Rattle.text_agrees.specs.Events.{Fewer, fewer_split, after-append}
use Rattle.text_agrees.specs.Declared.{remembered, first_at, declared, declared_all}
use Rattle.text_agrees.specs.Lasting.{quiet_act}
use Rattle.text_agrees.specs.Lines.{in_body, calm_first, calm_split, wants_nothing}
use Rattle.text_agrees.specs.Adding.{entries, one_adds, by_body, one_on, all_adds}
use Rattle.text_agrees.specs.Slots.{Slot, plain, has, lacks, now_of, nows, thens, places, class_known, known_in, fill}
use Rattle.text_agrees.specs.Slots.{same_self, same_turned, nows-append, thens-append, places_append, known_append}
use Rattle.text_agrees.specs.Slots.{thens_end, thens_on, thens-fill, known_fill, places-fill, Apart, untouched, patched}
use Rattle.text_agrees.specs.Slots.{named_once, awaited-named}

-- LISTS.
module _ {A : Type 0} (f : A → Bool) where
  keep_append : (xs ys : List A) → keep f (xs ++ ys) ≡ keep f xs ++ keep f ys
  keep_append [] ys = refl
  keep_append (x ∷ xs) ys = go (f x) (keep_append xs ys)
    where
      go : (b : Bool) → keep f (xs ++ ys) ≡ keep f xs ++ keep f ys
          → (if b then x ∷ keep f (xs ++ ys) else keep f (xs ++ ys)) ≡ (if b then x ∷ keep f xs else keep f xs) ++ keep f ys
      go true e = ap (λ zs. x ∷ zs) e
      go false e = e

  any_append : (xs ys : List A) → any f xs ≡ false → any f ys ≡ false → any f (xs ++ ys) ≡ false
  any_append [] ys a b = b
  any_append (x ∷ xs) ys a b = let o = or-false (f x) (any f xs) a in rw o.0 (any_append xs ys o.1 b)

  any-keep : (g : A → Bool) (xs : List A) → any f xs ≡ false → any f (keep g xs) ≡ false
  any-keep g [] h = refl
  any-keep g (x ∷ xs) h =
      let o = or-false (f x) (any f xs) h in
      let i = any-keep g xs o.1 in
      if_has (λ zs. any f zs ≡ false) (g x) (λ e. rw o.0 i) (λ e. i)

-- NAMES IN ORDER: each is known once, and only a class lacks its body.
abbrev Lacking : Known → Type 0
Lacking k = k.lacks ≡ true → k.what ≡ K.CLASS

abbrev pub Tidy : List Known → Type 0
Tidy ks = Apart ks × AllOf Lacking ks

apart_more : (ks : List Known) (r : Known) → any (named r.name) ks ≡ false → Apart ks → Apart (ks ++ (r ∷ []))
apart_more [] r h a = (refl, tt)
apart_more (k ∷ ks) r h a =
    let o = or-false (named r.name k) (any (named r.name) ks) h in
    let e : named k.name r ≡ false = same_turned k.name r.name ∙ o.0 in
    (any_append (named k.name) ks (r ∷ []) a.0 (rw e), apart_more ks r o.1 a.1)

tidy_more : (ks : List Known) (r : Known) → not (any (named r.name) ks) ≡ true → Lacking r → Tidy ks → Tidy (ks ++ (r ∷ []))
tidy_more ks r h l t =
    (apart_more ks r (not-true (any (named r.name) ks) h) t.0, all_append Lacking ks (r ∷ []) t.1 (l, tt))

pub tidy_keep : (f : Known → Bool) (ks : List Known) → Tidy ks → Tidy (keep f ks)
tidy_keep f [] t = (tt, tt)
tidy_keep f (k ∷ ks) t =
    let i = tidy_keep f ks (t.0.1, t.1.1) in
    if_has Tidy (f k) (λ e. ((any-keep (named k.name) f ks t.0.0, i.0), (t.1.0, i.1))) (λ e. i)

any-bodied : (x y : Name) (ks : List Known) → any (named y) (map (N.bodied x) ks) ≡ any (named y) ks
any-bodied x y [] = refl
any-bodied x y (k ∷ ks) = ap (λ b. named y k || b) (any-bodied x y ks)

apart_bodied : (x : Name) (ks : List Known) → Apart ks → Apart (map (N.bodied x) ks)
apart_bodied x [] a = tt
apart_bodied x (k ∷ ks) a = (any-bodied x k.name ks ∙ a.0, apart_bodied x ks a.1)

tidy_bodied : (x : Name) (ks : List Known) → Tidy ks → Tidy (map (N.bodied x) ks)
tidy_bodied x ks t = (
  apart_bodied x ks t.0,
  all_mapped Lacking Lacking (N.bodied x) (λ k i e. i (and-true k.lacks (not (named x k)) e).0) ks t.1,
)

tidy_one : (ks : List Known) (e : Event) → trouble ks e ≡ none → Tidy ks → Tidy (knows ks e)
unfolding trouble knows
tidy_one ks (asks ws x) h t = t
tidy_one ks (declares w x) h t = tidy_more ks _ (wants_nothing No.AGAIN _ h) (λ e. no_way e) t
tidy_one ks (announces x) h t = tidy_more ks _ (wants_nothing No.AGAIN _ h) (λ e. refl) t
tidy_one ks (embodies x) h t =
    if_has Tidy (any (named x) ks) (λ e. tidy_bodied x ks t) (λ e. tidy_more ks _ (rw e) (λ e. no_way e) t)
tidy_one ks leaves h t = tidy_keep stays ks t

pub tidy_all : (ks : List Known) (es : List Event) → trouble_in ks es ≡ none → Tidy ks → Tidy (after ks es)
unfolding after
tidy_all ks [] h t = t
tidy_all ks (e ∷ es) h t =
    let a = calm_first ks e es h in tidy_all (knows ks e) es a.1 (tidy_one ks e a.0 t)

-- THE CLASSES among what is known.
abbrev pub a_class : Known → Bool
a_class k = eqb K.CLASS k.what

class_found : (x : Name) (ks : List Known) → Tidy ks → any (awaited x) ks ≡ true
    → (any (awaited x) (keep a_class ks) ≡ true) × (number_of (keep a_class ks) x ≡ number_of ks x)
class_found x [] t h = no_way h
class_found x (k ∷ ks) t h =
    go (named x k) k.lacks (a_class k) refl refl refl h (class_found x ks (t.0.1, t.1.1))
  where
    go : (w l c : Bool) → named x k ≡ w → k.lacks ≡ l → a_class k ≡ c → ((w && l) || any (awaited x) ks) ≡ true
        → (any (awaited x) ks ≡ true → (any (awaited x) (keep a_class ks) ≡ true) × (number_of (keep a_class ks) x ≡ number_of ks x))
        → (any (awaited x) (if c then k ∷ keep a_class ks else keep a_class ks) ≡ true)
        × (number_of (if c then k ∷ keep a_class ks else keep a_class ks) x ≡ (if w then k.number else number_of ks x))
    go true true true p q r i f = rw (p, q) (refl, refl)
    go true true false p q r i f = no_way (sym r ∙ eq-eqb K.CLASS k.what (sym (t.1.0 q)))
    go true false c p q r i f = no_way (sym (named_once x k.name ks p t.0.0) ∙ awaited-named x ks i)
    go false l true p q r i f = let m = f i in (rw p m.0, rw p m.1)
    go false l false p q r i f = f i

-- A body changes them where its class line does, and nowhere else.
local_still : (x : Name) (ks : List Known) → keep a_class (knows ks (declares LOCAL x)) ≡ keep a_class ks
unfolding knows
local_still x ks = keep_append a_class ks _ ∙ append-nil (keep a_class ks)

few_still : {k : ℕ} (xs : Few k) (ks : List Known) → keep a_class (after ks (in_few xs)) ≡ keep a_class ks
unfolding after
few_still G.no_names ks = refl
few_still (G.also x xs) ks = few_still xs (knows ks (declares LOCAL x)) ∙ local_still x ks

locals_still : (l : Locals) (ks : List Known) → keep a_class (after ks (in_locals l)) ≡ keep a_class ks
unfolding after
locals_still G.no_locals ks = refl
locals_still (G.locals x xs) ks = few_still xs (knows ks (declares LOCAL x)) ∙ local_still x ks

leaves_still : (ks : List Known) → keep a_class (keep stays ks) ≡ keep a_class ks
leaves_still [] = refl
leaves_still (k ∷ ks) = go (a_class k) (stays k) refl refl (leaves_still ks)
  where
    go : (c s : Bool) → a_class k ≡ c → stays k ≡ s → keep a_class (keep stays ks) ≡ keep a_class ks
        → keep a_class (if s then k ∷ keep stays ks else keep stays ks) ≡ (if c then k ∷ keep a_class ks else keep a_class ks)
    go true true p q e = rw p (ap (λ zs. k ∷ zs) e)
    go true false p q e =
        let a = eqb-true K.CLASS k.what p in
        let b = eqb-true k.what LOCAL (not-false (eqb k.what LOCAL) q) in
        absurd (omega arith)
    go false true p q e = rw p e
    go false false p q e = e

pub body_still : (x : Name) (l : Locals) (b : G.Act G.actions) (ks : List Known)
    → keep a_class (after ks (in_declaration (G.class x (G.body l b)))) ≡ keep a_class (knows ks (embodies x))
unfolding after knows
body_still x l b ks =
    let zs : List Known = knows ks (embodies x) in
    ap (keep a_class) (after-append zs (in_locals l ++ in_act b) (leaves ∷ []))
    ∙ leaves_still (after zs (in_locals l ++ in_act b))
    ∙ ap (keep a_class) (after-append zs (in_locals l) (in_act b) ∙ quiet_act b (after zs (in_locals l)))
    ∙ locals_still l zs

keep-bodied : (x : Name) (ks : List Known) → keep a_class (map (N.bodied x) ks) ≡ map (N.bodied x) (keep a_class ks)
keep-bodied x [] = refl
keep-bodied x (k ∷ ks) = go (a_class k) (keep-bodied x ks)
  where
    go : (c : Bool) → keep a_class (map (N.bodied x) ks) ≡ map (N.bodied x) (keep a_class ks)
        → (if c then N.bodied x k ∷ keep a_class (map (N.bodied x) ks) else keep a_class (map (N.bodied x) ks))
        ≡ map (N.bodied x) (if c then k ∷ keep a_class ks else keep a_class ks)
    go true e = ap (λ zs. N.bodied x k ∷ zs) e
    go false e = e

-- WHAT THE SHEET HOLDS of the declarations, where ks are known.
pub record Held (ks : List Known) (ss : List Slot) (s : Sheet) : Type 0 where
  pub names : keep a_class ks ≡ known_in 0 ss
  pub bytes : s.declared ≡ nows ss
  pub spots : s.class_at ≡ places 0 ss

held_as : (ks : List Known) (ss : List Slot) (s t : Sheet) → t.declared ≡ s.declared → t.class_at ≡ s.class_at
    → Held ks ss s → Held ks ss t
held_as ks ss s t d a h = record { names = h.names; bytes = d ∙ h.bytes; spots = a ∙ h.spots }

held_first : (p : ℕ) (ks : List Known) (ss : List Slot) (s : Sheet) → Held ks ss s → Held ks ss (first_at p s)
held_first p ks ss s h =
    if_has (Held ks ss) (eqb s.total 0) (λ e. held_as ks ss s (with_first s p) refl refl h) (λ e. h)

declaring_bytes : (bs : List ℕ) (s : Sheet) → (declaring bs s).full ≡ false
    → (s.full ≡ false) × ((declaring bs s).declared ≡ s.declared ++ bs) × ((declaring bs s).class_at ≡ s.class_at)
unfolding declaring
declaring_bytes bs s =
    if_has (λ (t : Sheet). t.full ≡ false → (s.full ≡ false) × (t.declared ≡ s.declared ++ bs) × (t.class_at ≡ s.class_at))
    (ltb DECLARED (length s.declared + length bs)) (λ e f. no_way (sym f)) (λ e f. (f, refl, refl))

declares_bytes : (d : Draft) (s : Sheet) → (S.declares d s).full ≡ false
    → ((S.declares d s).declared ≡ s.declared ++ headed d.kind d.body) × ((S.declares d s).class_at ≡ s.class_at)
unfolding S.declares
declares_bytes d s f =
    let a = declaring_bytes (headed d.kind d.body) (with_total s (more s.seen d.kind 1) (S.long d)) f in (a.1, a.2)

classed_bytes : (p : ℕ) (s : Sheet) → (classed p s).full ≡ false
    → ((classed p s).declared ≡ s.declared) × ((classed p s).class_at ≡ s.class_at ++ ((length s.declared + 4) ∷ []))
unfolding classed
classed_bytes p s =
    if_has (λ (t : Sheet). t.full ≡ false
    → (t.declared ≡ s.declared) × (t.class_at ≡ s.class_at ++ ((length s.declared + 4) ∷ [])))
    (leb F.most_classes (length s.class_at)) (λ e f. no_way (sym f)) (λ e f. (refl, refl))

classes_bytes : (p b : ℕ) (s : Sheet) → (S.classes p b s).full ≡ false
    → ((S.classes p b s).declared ≡ s.declared ++ headed K.CLASS (two b))
    × ((S.classes p b s).class_at ≡ s.class_at ++ ((length s.declared + 4) ∷ []))
unfolding S.classes
classes_bytes p b s f =
    let u : Sheet = with_total s (more s.seen K.CLASS 1) class_bytes in
    let a = declaring_bytes (headed K.CLASS (two b)) (classed p u) f in
    let c = classed_bytes p u a.0 in
    (a.1 ∙ ap (λ ds. ds ++ headed K.CLASS (two b)) c.0, a.2 ∙ c.1)

-- A record more, that is no class; and a class more.
held_plain : (ks zs : List Known) (ss : List Slot) (d : Draft) (e : Entry) (s : Sheet) → Held ks ss s
    → keep a_class zs ≡ keep a_class ks → headed d.kind d.body ≡ bytes_of e → (S.declares d s).full ≡ false
    → Held zs (ss ++ (plain e ∷ [])) (S.declares d s)
held_plain ks zs ss d e s h k b f =
    let a = declares_bytes d s f in
    record {
      names = k ∙ h.names ∙ sym (known_append 0 ss (plain e ∷ []) ∙ append-nil (known_in 0 ss));
      bytes =
          a.0 ∙ ap₂ (λ xs ys. xs ++ ys) h.bytes (b ∙ sym (append-nil (bytes_of e))) ∙ sym (nows-append ss (plain e ∷ []));
      spots = a.1 ∙ h.spots ∙ sym (places_append 0 ss (plain e ∷ []) ∙ append-nil (places 0 ss));
    }

abbrev Classy : Slot → Name → ℕ → Bool → Type 0
Classy q x b l =
    ((n : ℕ) → known_in n (q ∷ []) ≡ class_known x n l ∷ []) × ((p : ℕ) → places p (q ∷ []) ≡ (p + 4) ∷ [])
    × (bytes_of (now_of q) ≡ headed K.CLASS (two b))

held_class : (ks zs : List Known) (ss : List Slot) (q : Slot) (x : Name) (b : ℕ) (l : Bool) (p : ℕ) (s : Sheet) → Held ks ss s
    → Classy q x b l → keep a_class zs ≡ keep a_class ks ++ (class_known x (length (keep a_class ks)) l ∷ [])
    → (S.classes p b s).full ≡ false → Held zs (ss ++ (q ∷ [])) (S.classes p b s)
held_class ks zs ss q x b l p s h c k f =
    let a = classes_bytes p b s f in
    record {
      names =
          k ∙ ap (λ ys. ys ++ (class_known x (length ys) l ∷ [])) h.names
          ∙ ap (λ ys. known_in 0 ss ++ ys) (sym (c.0 (length (known_in 0 ss))))
          ∙ ap (λ n. known_in 0 ss ++ known_in n (q ∷ [])) (omega arith)
          ∙ sym (known_append 0 ss (q ∷ []));
      bytes =
          a.0 ∙ ap₂ (λ xs ys. xs ++ ys) h.bytes (sym c.2 ∙ sym (append-nil (bytes_of (now_of q))))
          ∙ sym (nows-append ss (q ∷ []));
      spots =
          a.1 ∙ ap₂ (λ xs n. xs ++ ((n + 4) ∷ [])) h.spots (ap length h.bytes)
          ∙ ap (λ ys. places 0 ss ++ ys) (sym (c.1 (length (nows ss))))
          ∙ ap (λ n. places 0 ss ++ places n (q ∷ [])) (omega arith)
          ∙ sym (places_append 0 ss (q ∷ []));
    }

-- An announced class gets its body.
held_body : (ks zs : List Known) (ss : List Slot) (x : Name) (b : ℕ) (s : Sheet) → Held ks ss s → Tidy ks
    → any (awaited x) ks ≡ true → keep a_class zs ≡ map (N.bodied x) (keep a_class ks)
    → Held zs (fill x b ss) (S.bodied (number_of ks x) b s)
unfolding S.bodied
held_body ks zs ss x b s h t w k =
    let c = class_found x ks t w in
    let n : number_of ks x ≡ number_of (known_in 0 ss) x = sym c.1 ∙ ap (λ ys. number_of ys x) h.names in
    let a : Apart (known_in 0 ss) = subst Apart h.names (tidy_keep a_class ks t).0 in
    let e : any (awaited x) (known_in 0 ss) ≡ true = subst (λ ys. any (awaited x) ys ≡ true) h.names c.0 in
    let p : get_or s.class_at (number_of ks x) 0 ≡ get_or (places 0 ss) (number_of (known_in 0 ss) x) 0 =
    ap₂ (λ ys i. get_or ys i 0) h.spots n in
    record {
      names = k ∙ ap (map (N.bodied x)) h.names ∙ known_fill x b 0 ss;
      bytes = ap₂ (λ i ds. take i ds ++ two b ++ drop (i + 2) ds) p h.bytes ∙ patched x b ss a e;
      spots = h.spots ∙ sym (places-fill x b 0 ss);
    }

-- ONE DECLARATION: the sheet holds its record too, and what will be written in the end is the same.
module _ (place : ℕ → ℕ) (ks : List Known) (k at : ℕ) (s : Sheet) (ts : Text) (ss : List Slot) (c : Counting s)
    (e : blocks_of s ≡ k) (tidy : Tidy ks) (held : Held ks ss s) where
  abbrev u : Sheet
  u = first_at (place at) s

  abbrev Step : Declaration → Sheet → List Owned → Type 0
  Step d z os =
      (qs : List Slot) × Held (after ks (in_declaration d)) qs z
      × (thens (k + opened_by d) ts qs ≡ thens k (d ∷ ts) ss ++ file_of os)

  plain_on : (d : Declaration) (f : Draft) (x : Entry) → keep a_class (after ks (in_declaration d)) ≡ keep a_class ks
      → ((y : Name) → embodied y d ≡ false) → headed f.kind f.body ≡ bytes_of x → (S.declares f u).full ≡ false
      → Step d (S.declares f u) (owned x at ∷ [])
  plain_on d f x n i b r = (
    ss ++ (plain x ∷ []),
    held_plain ks (after ks (in_declaration d)) ss f x u (held_first (place at) ks ss s held) n b r,
    thens-append (k + opened_by d) ts ss (plain x ∷ []) ∙ ap (λ bs. bs ++ (bytes_of x ++ [])) (sym (thens_on k d ts ss i)),
  )

  -- A class that isn't known is known then, with its body or without it.
  new_class : (x : Name) (l : Bool)
      → keep a_class (N.one_more ks K.CLASS x l) ≡ keep a_class ks ++ (class_known x (length (keep a_class ks)) l ∷ [])
  new_class x l = keep_append a_class ks _

  announced_on : (x : Name) → any (named x) ks ≡ false → (S.classes (place at) No.no_body u).full ≡ false
      → Step (G.class x G.announced) (S.classes (place at) No.no_body u) (entries place ks k at (G.class x G.announced) ts)
  unfolding after knows bytes_of body_block
  announced_on x n r = (
    ss ++ (lacks x ∷ []),
    held_class ks _ ss (lacks x) x No.no_body true (place at) u (held_first (place at) ks ss s held)
        ((λ n. refl), (λ p. refl), refl) (new_class x true) r,
    rw n (thens-append (k + 0) ts ss (lacks x ∷ [])
        ∙ ap (λ bs. bs ++ (bytes_of (R.CLASS (body_block x (k + 0) ts)) ++ []))
        (sym (thens_on k (G.class x G.announced) ts ss (λ y. refl)))),
  )

  -- A class line with a body.
  blocks_first : blocks_of u ≡ k
  blocks_first = if_has (λ (y : Sheet). blocks_of y ≡ k) (eqb s.total 0) (λ i. e) (λ i. e)

  abbrev bodied_by : Name → Bool → Sheet
  bodied_by x w = if w then S.bodied (number_of ks x) (blocks_of u) u else S.classes (place at) (blocks_of u) u

  body_on : (x : Name) (l : Locals) (b : G.Act G.actions) (w : Bool) → any (named x) ks ≡ w → trouble ks (embodies x) ≡ none
      → Fewer ks (in_declaration (G.class x (G.body l b))) → (bodied_by x w).full ≡ false
      → Step (G.class x (G.body l b)) (bodied_by x w)
      (map (λ y. owned y at) (if w then [] else R.CLASS (body_block x k (G.class x (G.body l b) ∷ ts)) ∷ []))
  unfolding trouble knows bytes_of body_block
  body_on x l b true n m r f =
      let d : Declaration = G.class x (G.body l b) in
      let aw : any (awaited x) ks ≡ true = asked (any (awaited x) ks) (any (named x) ks) n (wants_nothing No.AGAIN _ m) in
      let i = body_still x l b ks
      ∙ ap (λ w. keep a_class (if w then map (N.bodied x) ks else N.one_more ks K.CLASS x false)) n in (
        fill x (blocks_of u) ss,
        held_body ks (after ks (in_declaration d)) ss x (blocks_of u) u (held_first (place at) ks ss s held) tidy aw
            (i ∙ keep-bodied x ks),
        ap (λ j. thens (k + opened_by d) ts (fill x j ss)) blocks_first ∙ sym (thens-fill k x l b ts ss)
            ∙ sym (append-nil (thens k (d ∷ ts) ss)),
      )
    where
      asked : (p q : Bool) → q ≡ true → (if p then true else not q) ≡ true → p ≡ true
      asked true q i j = refl
      asked false q i j = sym (not-true q j) ∙ i
  body_on x l b false n m r f =
      let d : Declaration = G.class x (G.body l b) in
      let i = body_still x l b ks
      ∙ ap (λ w. keep a_class (if w then map (N.bodied x) ks else N.one_more ks K.CLASS x false)) n in
      let j : any (named x) (known_in 0 ss) ≡ false =
      subst (λ ys. any (named x) ys ≡ false) held.names (any-keep (named x) a_class ks n) in
      let g : thens (k + opened_by d) ts ss ≡ thens k (d ∷ ts) ss =
      ap (thens (k + opened_by d) ts) (sym (untouched x k 0 ss j)) ∙ sym (thens-fill k x l b ts ss) in
      let a : blocks_of u ≡ body_block x k (d ∷ ts) =
      blocks_first ∙ ap (λ w. if w then k else body_block x (k + opened_by d) ts) (sym (same_self x)) in (
        ss ++ (has x (blocks_of u) ∷ []),
        held_class ks (after ks (in_declaration d)) ss (has x (blocks_of u)) x (blocks_of u) false (place at) u
            (held_first (place at) ks ss s held) ((λ n. refl), (λ p. refl), refl) (i ∙ new_class x false) f,
        thens-append (k + opened_by d) ts ss (has x (blocks_of u) ∷ [])
            ∙ ap₂ (λ bs q. bs ++ (bytes_of (R.CLASS q) ++ [])) g a,
      )

  step_as : (d : Declaration) (v z : Sheet) (os : List Owned) → heading z ≡ heading v → Step d v os → Step d z os
  step_as d v z os i y =
      (y.0, held_as _ y.0 v z (ap (λ x. x.declared) i) (ap (λ x. x.class_at) i) y.1, y.2)

  pub held_on : (d : Declaration) → trouble_in ks (in_declaration d) ≡ none → Fewer ks (in_declaration d)
      → AllOf Short (W.blocks_of ks k at d) → (declared place ks d at s).full ≡ false
      → Step d (declared place ks d at s) (entries place ks k at d ts)
  unfolding declared put bytes_of after knows trouble
  held_on (G.res x n) m r h f =
      plain_on (G.res x n) _ (R.RES n.value) (keep_append a_class ks _ ∙ append-nil (keep a_class ks)) (λ y. refl) refl f
  held_on (G.bin x n) m r h f =
      plain_on (G.bin x n) _ (R.BIN n.value) (keep_append a_class ks _ ∙ append-nil (keep a_class ks)) (λ y. refl) refl f
  held_on (G.sync x) m r h f =
      plain_on (G.sync x) _ R.SYNC (keep_append a_class ks _ ∙ append-nil (keep a_class ks)) (λ y. refl) refl f
  held_on (G.var x n) m r h f =
      plain_on (G.var x n) _ (R.VAR (signed_of n)) (keep_append a_class ks _ ∙ append-nil (keep a_class ks)) (λ y. refl) refl f
  held_on (G.sampler x a b n) m r h f =
      plain_on (G.sampler x a b n) _ (R.SAMPLER (record { lowest = signed_of a; highest = signed_of b; seed = n.value }))
      (keep_append a_class ks _ ∙ append-nil (keep a_class ks)) (λ y. refl) refl f
  held_on (G.class x G.announced) m r h f =
      announced_on x (not-true (any (named x) ks) (wants_nothing No.AGAIN _ (calm_first ks (announces x) [] m).0)) f
  held_on (G.class x (G.body l b)) m r h f =
      let w : Bool = any (named x) ks in
      let y = (by_body place ks k at s ts c e x l b 0 w (after ks (embodies x ∷ in_locals l))
      (remembered ks (embodies x ∷ in_locals l)) (in_body ks x l b r)
      (shorts_fair (W.blocks_of ks k at (G.class x (G.body l b))) h)).1 in
      step_as (G.class x (G.body l b)) (bodied_by x w) _ (entries place ks k at (G.class x (G.body l b)) ts) y.0
      (body_on x l b w refl (calm_first ks (embodies x) (in_locals l ++ in_act b ++ (leaves ∷ [])) m).0 r (y.1 h f))
  held_on (G.entity x n) m r h f =
      plain_on (G.entity x n) _ (R.ENTITY (record { class = number_of ks x; offset = n.value })) refl (λ y. refl) refl f

-- ALL OF THEM. Where nothing lacked room, the declarations stand there.
pub all_held : (place : ℕ → ℕ) (t : Text) (ks : List Known) (k at : ℕ) (s : Sheet) (ss : List Slot) → Counting s
    → blocks_of s ≡ k → Tidy ks → Held ks ss s → trouble_in ks (events t) ≡ none → Fewer ks (events t)
    → AllOf Short (blocks ks k at t) → (declared_all place ks t at s).full ≡ false
    → (declared_all place ks t at s).declared ≡ thens k t ss ++ file_of (declarations ks k at t)
unfolding declared_all declarations blocks
all_held place [] ks k at s ss c e t h m r x f = h.bytes ∙ sym (thens_end k ss) ∙ sym (append-nil (thens k [] ss))
all_held place (d ∷ ts) ks k at s ss c e t h m r x f =
    let es : List Event = in_declaration d in
    let q : ℕ = at + length (declare d []) in
    let zs : List Known = after ks es in
    let v = calm_split ks es (events ts) m in
    let y = fewer_split ks es (events ts) r in
    let i = all_split Short (W.blocks_of ks k at d) (blocks zs (k + opened_by d) q ts) x in
    let a = one_adds place ks k at s ts c e d v.0 y.0 (shorts_fair (W.blocks_of ks k at d) i.0) in
    let u : Sheet = declared place ks d at s in
    let o = one_on place d ts ks at s y.0 in
    let b = all_adds place ts zs (k + opened_by d) q u a.0.counting a.2 v.1 y.1
    (shorts_fair (blocks zs (k + opened_by d) q ts) i.1) in
    let g : (declared_all place zs ts q u).full ≡ false = sym (ap (λ w. w.full) o) ∙ f in
    let n = held_on place ks k at s ts ss c e t h d v.0 y.0 i.0 (b.0.room i.1 g).0 in
    let l = all_held place ts zs (k + opened_by d) q u n.0 a.0.counting a.2 (tidy_all ks es v.0 t) n.1
    v.1 y.1 i.1 g in
    let os : List Owned = entries place ks k at d ts in
    let rest : List Owned = declarations zs (k + opened_by d) q ts in
    ap (λ w. w.declared) o ∙ l ∙ ap (λ bs. bs ++ file_of rest) n.2
    ∙ append_assoc (thens k (d ∷ ts) ss) (file_of os) (file_of rest)
    ∙ ap (λ bs. thens k (d ∷ ts) ss ++ bs) (sym (file_append os rest))
