-- Names that stay known: what a class line that comes later finds of those before it, and when a body is awaited.
-- Assumes nothing.
use Rattle.std.specs.Prelude.{ℕ, ◌≡◌, refl, List, [], ◌∷◌, ◌++◌, map, Bool, true, false, not, ◌&&◌, ◌||◌, if◌then◌else◌}
use Rattle.std.proofs.Common.{sym, ◌∙◌, ap, subst}
use Rattle.std.proofs.Math.Option.{none}
use Rattle.semantics.specs.Words.{any, keep}
use Rattle.promises.specs.Laws.{no_way, or-false, not-true, if_has}
use Rattle.text_semantics.specs.Numbers as No
use Rattle.text_semantics.specs.Lexing.{same_bytes}
use Rattle.text_semantics.specs.Grammar as G
use Rattle.text_semantics.specs.Grammar.{Name, Declaration, Text, Few, Locals}
use Rattle.text_semantics.specs.Names.{Known, Event, asks, declares, announces, embodies, leaves, named, awaited, stays, bodied}
use Rattle.text_semantics.specs.Names.{knows, after, trouble, trouble_in, events, in_act}
use Rattle.text_semantics.specs.Names.{in_few, in_locals, in_class, in_declaration}
use Rattle.text_agrees.specs.Asking.{asked_act}
use Rattle.text_agrees.specs.Events.{after-append}
use Rattle.text_agrees.specs.Lines.{calm_first, calm_split, wants_nothing}
use Rattle.text_agrees.specs.Slots.{same_is, same_self}

-- LISTS.
module _ {A : Type 0} (f : A → Bool) where
  any_front : (xs ys : List A) → any f xs ≡ true → any f (xs ++ ys) ≡ true
  any_front [] ys h = no_way h
  any_front (x ∷ xs) ys h = go (f x) h (λ e. any_front xs ys e)
    where
      go : (b : Bool) → b || any f xs ≡ true → (any f xs ≡ true → any f (xs ++ ys) ≡ true) → b || any f (xs ++ ys) ≡ true
      go true e i = refl
      go false e i = i e

  any_end : (xs : List A) (x : A) → f x ≡ true → any f (xs ++ (x ∷ [])) ≡ true
  any_end [] x h = rw h
  any_end (y ∷ xs) x h = go (f y) (any_end xs x h)
    where
      go : (b : Bool) → any f (xs ++ (x ∷ [])) ≡ true → b || any f (xs ++ (x ∷ [])) ≡ true
      go true e = refl
      go false e = e

  any_none : (xs ys : List A) → any f xs ≡ false → any f ys ≡ false → any f (xs ++ ys) ≡ false
  any_none [] ys a b = b
  any_none (x ∷ xs) ys a b = let o = or-false (f x) (any f xs) a in rw o.0 (any_none xs ys o.1 b)

  any_kept : (g : A → Bool) (xs : List A) → any f xs ≡ false → any f (keep g xs) ≡ false
  any_kept g [] h = refl
  any_kept g (x ∷ xs) h =
      let o = or-false (f x) (any f xs) h in
      let i = any_kept g xs o.1 in
      if_has (λ zs. any f zs ≡ false) (g x) (λ e. rw o.0 i) (λ e. i)

  any_same : (g : A → A) → ((x : A) → f (g x) ≡ f x) → (xs : List A) → any f (map g xs) ≡ any f xs
  any_same g h [] = refl
  any_same g h (x ∷ xs) = rw (h x, any_same g h xs)

  any_mapped : (g : A → A) → ((x : A) → f x ≡ false → f (g x) ≡ false) → (xs : List A) → any f xs ≡ false →
      any f (map g xs) ≡ false
  any_mapped g h [] e = refl
  any_mapped g h (x ∷ xs) e = let o = or-false (f x) (any f xs) e in rw (h x o.0) (any_mapped g h xs o.1)

  any_never : (g : A → A) → ((x : A) → f (g x) ≡ false) → (xs : List A) → any f (map g xs) ≡ false
  any_never g h [] = refl
  any_never g h (x ∷ xs) = rw (h x) (any_never g h xs)

and_no : (b : Bool) → b && false ≡ false
and_no true = refl
and_no false = refl

-- Names that are only asked for change nothing that is known.
abbrev Quiet : List Event → Type 0
Quiet es = (ks : List Known) → after ks es ≡ ks

quiet_append : (es fs : List Event) → Quiet es → Quiet fs → Quiet (es ++ fs)
quiet_append es fs p q ks = after-append ks es fs ∙ ap (λ (zs : List Known). after zs fs) (p ks) ∙ q ks

quiet_asks : (ws : List ℕ) (x : Name) → Quiet (asks ws x ∷ [])
unfolding after
quiet_asks ws x ks = refl

quiet_none : Quiet []
unfolding after
quiet_none ks = refl

pub quiet_act : {k : G.Kind} (a : G.Act k) → (ks : List Known) → after ks (in_act a) ≡ ks
quiet_act a = asked_act Quiet quiet_none quiet_asks quiet_append a

-- LASTING: a name that is known, and no local.
abbrev lasts : Name → Known → Bool
lasts x k = named x k && stays k

abbrev pub lasting : Name → List Known → Bool
lasting x ks = any (lasts x) ks

lasting_kept : (x : Name) (ks : List Known) → lasting x ks ≡ true → lasting x (keep stays ks) ≡ true
lasting_kept x [] h = no_way h
lasting_kept x (k ∷ ks) h = go (named x k) (stays k) refl refl h (λ e. lasting_kept x ks e)
  where
    go : (w s : Bool) → named x k ≡ w → stays k ≡ s → (w && s) || lasting x ks ≡ true →
        (lasting x ks ≡ true → lasting x (keep stays ks) ≡ true) →
        lasting x (if s then k ∷ keep stays ks else keep stays ks) ≡ true
    go true true e f g i = rw (e, f)
    go true false e f g i = i g
    go false true e f g i = rw e (i g)
    go false false e f g i = i g

lasting_one : (x : Name) (ks : List Known) (e : Event) → lasting x ks ≡ true → lasting x (knows ks e) ≡ true
unfolding knows
lasting_one x ks (asks ws y) h = h
lasting_one x ks (declares w y) h = any_front (lasts x) ks _ h
lasting_one x ks (announces y) h = any_front (lasts x) ks _ h
lasting_one x ks (embodies y) h =
    if_has (λ zs. lasting x zs ≡ true) (any (named y) ks) (λ e. any_same (lasts x) (bodied y) (λ k. refl) ks ∙ h)
    (λ e. any_front (lasts x) ks _ h)
lasting_one x ks leaves h = lasting_kept x ks h

pub lasting_all : (x : Name) (ks : List Known) (es : List Event) → lasting x ks ≡ true → lasting x (after ks es) ≡ true
unfolding after
lasting_all x ks [] h = h
lasting_all x ks (e ∷ es) h = lasting_all x (knows ks e) es (lasting_one x ks e h)

pub lasting-named : (x : Name) (ks : List Known) → lasting x ks ≡ true → any (named x) ks ≡ true
lasting-named x [] h = no_way h
lasting-named x (k ∷ ks) h = go (named x k) h (λ e. lasting-named x ks e)
  where
    go : (w : Bool) → (w && stays k) || lasting x ks ≡ true → (lasting x ks ≡ true → any (named x) ks ≡ true) →
        w || any (named x) ks ≡ true
    go true e i = refl
    go false e i = i e

-- A class that is new is known from then on.
pub class_lasts : (x : Name) (b : G.Body) (ks : List Known) → any (named x) ks ≡ false →
    lasting x (after ks (in_class x b)) ≡ true
unfolding after knows
class_lasts x G.announced ks h = any_end (lasts x) ks _ (rw (same_self x))
class_lasts x (G.body l b) ks h =
    lasting_all x _ (in_locals l ++ in_act b ++ (leaves ∷ [])) (rw h (any_end (lasts x) ks _ (rw (same_self x))))

-- AWAITED: it isn't, and only its announcement changes that.
abbrev announcing : Name → Event → Bool
announcing x (asks ws y) = false
announcing x (declares w y) = false
announcing x (announces y) = same_bytes x y
announcing x (embodies y) = false
announcing x leaves = false

bodied-awaited : (x y : Name) (k : Known) → awaited x k ≡ false → awaited x (bodied y k) ≡ false
bodied-awaited x y k h = go (named x k) k.lacks (not (named y k)) h
  where
    go : (w l n : Bool) → w && l ≡ false → w && (l && n) ≡ false
    go true true n e = no_way (sym e)
    go true false n e = refl
    go false l n e = refl

one_unawaited : (x : Name) (ks : List Known) (e : Event) → announcing x e ≡ false → any (awaited x) ks ≡ false →
    any (awaited x) (knows ks e) ≡ false
unfolding knows
one_unawaited x ks (asks ws y) n h = h
one_unawaited x ks (declares w y) n h = any_none (awaited x) ks _ h (rw (and_no (same_bytes x y)))
one_unawaited x ks (announces y) n h = any_none (awaited x) ks _ h (rw n)
one_unawaited x ks (embodies y) n h =
    if_has (λ zs. any (awaited x) zs ≡ false) (any (named y) ks)
    (λ e. any_mapped (awaited x) (bodied y) (bodied-awaited x y) ks h)
    (λ e. any_none (awaited x) ks _ h (rw (and_no (same_bytes x y))))
one_unawaited x ks leaves n h = any_kept (awaited x) stays ks h

-- .. in a declaration.
abbrev pub announced_by : Name → Declaration → Bool
announced_by x (G.res y n) = false
announced_by x (G.bin y n) = false
announced_by x (G.sync y) = false
announced_by x (G.var y n) = false
announced_by x (G.sampler y a b n) = false
announced_by x (G.class y G.announced) = same_bytes x y
announced_by x (G.class y (G.body l b)) = false
announced_by x (G.entity y n) = false

few_unawaited : (x : Name) {n : ℕ} (xs : Few n) (ks : List Known) → any (awaited x) ks ≡ false →
    any (awaited x) (after ks (in_few xs)) ≡ false
unfolding after
few_unawaited x G.no_names ks h = h
few_unawaited x (G.also y xs) ks h = few_unawaited x xs _ (one_unawaited x ks (declares _ y) refl h)

locals_unawaited : (x : Name) (l : Locals) (ks : List Known) → any (awaited x) ks ≡ false →
    any (awaited x) (after ks (in_locals l)) ≡ false
unfolding after
locals_unawaited x G.no_locals ks h = h
locals_unawaited x (G.locals y xs) ks h = few_unawaited x xs _ (one_unawaited x ks (declares _ y) refl h)

body_unawaited : (x : Name) (l : Locals) (b : G.Act G.actions) (ks : List Known) → any (awaited x) ks ≡ false →
    any (awaited x) (after ks (in_locals l ++ in_act b ++ (leaves ∷ []))) ≡ false
unfolding after
body_unawaited x l b ks h =
    let zs : List Known = after ks (in_locals l) in
    let e : after ks (in_locals l ++ in_act b) ≡ zs = after-append ks (in_locals l) (in_act b) ∙ quiet_act b zs in
    rw (after-append ks (in_locals l ++ in_act b) (leaves ∷ []), e)
    (one_unawaited x zs leaves refl (locals_unawaited x l ks h))

pub stays_unawaited : (x : Name) (d : Declaration) (ks : List Known) → announced_by x d ≡ false → any (awaited x) ks ≡ false →
    any (awaited x) (after ks (in_declaration d)) ≡ false
unfolding after
stays_unawaited x (G.res y n) ks g h = one_unawaited x ks (declares _ y) refl h
stays_unawaited x (G.bin y n) ks g h = one_unawaited x ks (declares _ y) refl h
stays_unawaited x (G.sync y) ks g h = one_unawaited x ks (declares _ y) refl h
stays_unawaited x (G.var y n) ks g h = one_unawaited x ks (declares _ y) refl h
stays_unawaited x (G.sampler y a b n) ks g h = one_unawaited x ks (declares _ y) refl h
stays_unawaited x (G.class y G.announced) ks g h = one_unawaited x ks (announces y) g h
stays_unawaited x (G.class y (G.body l b)) ks g h =
    body_unawaited x l b (knows ks (embodies y)) (one_unawaited x ks (embodies y) refl h)
stays_unawaited x (G.entity y n) ks g h = h

-- What lasts isn't announced again.
not_again : (x : Name) (d : Declaration) (ks : List Known) → lasting x ks ≡ true → trouble_in ks (in_declaration d) ≡ none →
    announced_by x d ≡ false
unfolding trouble
not_again x (G.res y n) ks h c = refl
not_again x (G.bin y n) ks h c = refl
not_again x (G.sync y) ks h c = refl
not_again x (G.var y n) ks h c = refl
not_again x (G.sampler y a b n) ks h c = refl
not_again x (G.class y G.announced) ks h c =
    go (same_bytes x y) refl
    (not-true (any (named y) ks) (wants_nothing No.AGAIN _ (calm_first ks (announces y) [] c).0))
  where
    go : (b : Bool) → same_bytes x y ≡ b → any (named y) ks ≡ false → b ≡ false
    go true e f =
        no_way (sym f ∙ subst (λ z. any (named z) ks ≡ true) (same_is x y e) (lasting-named x ks h))
    go false e f = refl
not_again x (G.class y (G.body l b)) ks h c = refl
not_again x (G.entity y n) ks h c = refl

-- SETTLED: a class that has its body isn't awaited any more.
pub settled : (x : Name) (ds : Text) (ks : List Known) → lasting x ks ≡ true → trouble_in ks (events ds) ≡ none →
    any (awaited x) ks ≡ false → any (awaited x) (after ks (events ds)) ≡ false
unfolding after
settled x [] ks l c h = h
settled x (d ∷ ds) ks l c h =
    let s = calm_split ks (in_declaration d) (events ds) c in
    rw (after-append ks (in_declaration d) (events ds))
    (settled x ds (after ks (in_declaration d)) (lasting_all x ks (in_declaration d) l) s.1
    (stays_unawaited x d ks (not_again x d ks l s.0) h))

settles : (x : Name) (ks : List Known) → any (awaited x) (knows ks (embodies x)) ≡ false
unfolding knows
settles x ks =
    if_has (λ zs. any (awaited x) zs ≡ false) (any (named x) ks)
    (λ e. any_never (awaited x) (bodied x) (λ k. never (named x k) k.lacks) ks)
    (λ e. any_none (awaited x) ks _ (unnamed ks e) (rw (and_no (same_bytes x x))))
  where
    never : (w l : Bool) → w && (l && not w) ≡ false
    never true l = and_no l
    never false l = refl

    unnamed : (zs : List Known) → any (named x) zs ≡ false → any (awaited x) zs ≡ false
    unnamed [] e = refl
    unnamed (k ∷ zs) e = let o = or-false (named x k) (any (named x) zs) e in rw o.0 (unnamed zs o.1)

pub body_settles : (x : Name) (l : Locals) (b : G.Act G.actions) (ks : List Known) →
    any (awaited x) (after ks (in_declaration (G.class x (G.body l b)))) ≡ false
unfolding after
body_settles x l b ks = body_unawaited x l b (knows ks (embodies x)) (settles x ks)
