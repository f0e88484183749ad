-- Trouble with a name, by the sort of what was still to come. Assumes nothing.
use Rattle.std.specs.Prelude.{if◌then◌else◌, Result}
use Rattle.std.specs.Prelude as Code
use mathlib.Core.Option.{none}
use Prim.Native.Nat.{ℕ, ◌-◌, ◌≤◌, ◌<◌}
use native.Mathlib.Omega.{arith}
use mathlib.Core.Path.{◌≡◌, refl, sym, ◌∙◌, ap}
use mathlib.Core.List.{List, [], ◌∷◌}
use mathlib.Core.Bool.{Bool, true, false}
use lib.Dec.{eqb, leb}
use borrow.Author.Tests.{ne_eqb, le-leb, lt-leb, leb-false, eqb-true, eqb-false}
use Rattle.semantics.specs.Kinds as K
use Rattle.text_semantics.specs.Token as T
use Rattle.text_semantics.specs.Token.{name, number, mark, bad}
use Rattle.text_semantics.specs.Grammar.{Name}
use Rattle.text_semantics.specs.Names.{Known, Event, asks, declares, announces, embodies, leaves, trouble}
use Rattle.text_machine.specs.Entry.{ASK, mark_in, name_in}
use Rattle.text_machine.specs.Codes.{NUMBER, NAME, token_of}
use Rattle.text_machine.specs.Machine.{asked, of_name}
use Rattle.text_names.specs.declared.Found.{Found}
use Rattle.text_names.specs.declared.Trouble.{Trouble}
use Rattle.text_names.specs.Table.{Distinct, found_of}
use Rattle.text_names.specs.Trouble.{trouble_in, asked_of, declared_of, embodied_of, asked_trouble, embodied_trouble}
use Rattle.text_names.specs.Trouble.{declared_trouble, announced_trouble}
use Rattle.text_reader.specs.Sorts as Sort
use Rattle.text_reader.specs.Sorts.{name_event, event_by}

-- TOKENS. No mark of this number, and no name.
mark_by : (k v : ℕ) (x : List ℕ) (m : ℕ) (a b c : Bool) → (k ≡ m → ⊥) → (T.END ≡ m → ⊥)
    → eqb (mark_in (if a then mark k else if b then number v else if c then name x else bad)) m ≡ false
mark_by k v x m true b c h e = ne_eqb k m h
mark_by k v x m false true c h e = ne_eqb T.END m e
mark_by k v x m false false true h e = ne_eqb T.END m e
mark_by k v x m false false false h e = ne_eqb T.END m e

pub no_mark : (k v : ℕ) (x : List ℕ) (m : ℕ) → (k ≡ m → ⊥) → (T.END ≡ m → ⊥) → eqb (mark_in (token_of k v x)) m ≡ false
no_mark k v x m h e = mark_by k v x m (leb k T.END) (eqb k NUMBER) (eqb k NAME) h e

-- A mark below the end is the token's own number.
is_by : (k v : ℕ) (x : List ℕ) (m : ℕ) → m < T.END → (a b c : Bool) → leb k T.END ≡ a
    → eqb (mark_in (if a then mark k else if b then number v else if c then name x else bad)) m ≡ eqb k m
is_by k v x m h true b c e = refl
is_by k v x m h false b c e =
    let f : eqb k m ≡ false = ne_eqb k m (λ q. let l = leb-false k T.END e in omega (arith, q, l)) in
    let g : eqb T.END m ≡ false = ne_eqb T.END m (λ q. omega (arith, q)) in
    go b c ∙ g ∙ sym f
  where
    go : (b c : Bool) → eqb (mark_in (if b then number v else if c then name x else bad)) m ≡ eqb T.END m
    go true c = refl
    go false true = refl
    go false false = refl

pub mark_is : (k v : ℕ) (x : List ℕ) (m : ℕ) → m < T.END → eqb (mark_in (token_of k v x)) m ≡ eqb k m
mark_is k v x m h = is_by k v x m h (leb k T.END) (eqb k NUMBER) (eqb k NAME) refl

name_by : (k v : ℕ) (x : List ℕ) (f : Name → Event) (a b : Bool)
    → of_name (if a then mark k else if b then number v else bad) f ≡ leaves
name_by k v x f true b = refl
name_by k v x f false true = refl
name_by k v x f false false = refl

pub no_name : (k v : ℕ) (x : List ℕ) (f : Name → Event) → (k ≡ NAME → ⊥) → of_name (token_of k v x) f ≡ leaves
no_name k v x f h =
    ap (λ c. of_name (if leb k T.END then mark k else if eqb k NUMBER then number v else if c then name x else bad) f)
    (ne_eqb k NAME h)
    ∙ name_by k v x f (leb k T.END) (eqb k NUMBER)

-- AT A NAME that has to come.
module _ (ks : List Known) (x : Name) (d : Distinct ks) (role : ℕ) {f : Code.Option Found} (e : f ≡ found_of ks x) where
  pub role_asks : ASK ≤ role → {r : Result (Unit {0}) Trouble} → r ≡ asked_of f ((role - ASK) ∷ [])
      → trouble_in r ≡ trouble ks (asked role x)
  role_asks h q =
      let w : ℕ = role - ASK in
      ap trouble_in q ∙ ap (λ g. trouble_in (asked_of g (w ∷ []))) e ∙ asked_trouble ks x d (w ∷ [])
      ∙ ap (λ b. trouble ks (if b then asks (w ∷ []) x else if eqb role K.CLASS then embodies x else declares role x))
      (sym (le-leb ASK role h))

  pub role_embodies : role ≡ K.CLASS → {r : Result (Unit {0}) Trouble} → r ≡ embodied_of f → trouble_in r ≡ trouble ks (asked role x)
  role_embodies h q =
      ap trouble_in q ∙ ap (λ g. trouble_in (embodied_of g)) e ∙ embodied_trouble ks x d ∙ ap (λ w. trouble ks (asked w x)) (sym h)

  pub role_declares : role < ASK → (role ≡ K.CLASS → ⊥) → {r : Result (Unit {0}) Trouble} → r ≡ declared_of f
      → trouble_in r ≡ trouble ks (asked role x)
  role_declares h k q =
      ap trouble_in q ∙ ap (λ g. trouble_in (declared_of g)) e ∙ declared_trouble ks x role
      ∙ ap (λ b. trouble ks (if b then embodies x else declares role x)) (sym (ne_eqb role K.CLASS k))
      ∙ ap (λ b. trouble ks (if b then asks ((role - ASK) ∷ []) x else if eqb role K.CLASS then embodies x
      else declares role x)) (sym (lt-leb ASK role h))

-- AT ANY TOKEN.
module _ (ks : List Known) (role v : ℕ) (x y : Name) where
  pub body_semi : {g : Code.Option Found} → g ≡ found_of ks y → {r : Result (Unit {0}) Trouble} → r ≡ declared_of g
      → trouble_in r ≡ trouble ks (event_by Sort.BODY role y (token_of T.SEMI v x))
  body_semi e q = ap trouble_in q ∙ ap (λ g. trouble_in (declared_of g)) e ∙ announced_trouble ks y

  pub body_other : (k : ℕ) → (k ≡ T.SEMI → ⊥) → none ≡ trouble ks (event_by Sort.BODY role y (token_of k v x))
  unfolding trouble
  body_other k h =
      ap (λ b. trouble ks (if b then announces y else leaves)) (sym (no_mark k v x T.SEMI h (λ e. omega (arith, e))))

  pub plain_token : (sort k : ℕ) → (sort ≡ Sort.BODY → ⊥) → (k ≡ NAME → ⊥)
      → none ≡ trouble ks (event_by sort role y (token_of k v x))
  unfolding trouble
  plain_token sort k h n =
      ap (λ e. trouble ks e) (sym (no_name k v x (name_event sort role) n))
      ∙ ap (λ b. trouble ks (if b then (if eqb (mark_in (token_of k v x)) T.SEMI then announces y else leaves)
      else of_name (token_of k v x) (name_event sort role))) (sym (ne_eqb sort Sort.BODY h))

  pub other_sort : (sort : ℕ) → (sort ≡ Sort.BODY → ⊥) → (sort ≡ Sort.NAMED → ⊥) → (sort ≡ Sort.VALUE → ⊥)
      → (sort ≡ Sort.VARIABLE → ⊥) → (sort ≡ Sort.BLOCK → ⊥) → none ≡ trouble ks (event_by sort role y (token_of NAME v x))
  unfolding trouble
  other_sort sort a b c d e =
      rw (
        ne_eqb sort Sort.BODY a,
        ne_eqb sort Sort.NAMED b,
        ne_eqb sort Sort.VALUE c,
        ne_eqb sort Sort.VARIABLE d,
        ne_eqb sort Sort.BLOCK e,
      )

  -- Neither a semicolon nor a name; and a name where none is looked at.
  pub no_sign : (sort k : ℕ) → (k ≡ T.SEMI → ⊥) → (k ≡ NAME → ⊥) → none ≡ trouble ks (event_by sort role y (token_of k v x))
  no_sign sort k h n = go (eqb sort Sort.BODY) refl
    where
      go : (b : Bool) → eqb sort Sort.BODY ≡ b → none ≡ trouble ks (event_by sort role y (token_of k v x))
      go true e = rw (eqb-true sort Sort.BODY e) (body_other k h)
      go false e = plain_token sort k (eqb-false sort Sort.BODY e) n

  pub no_name_there : (sort : ℕ) → (sort ≡ Sort.NAMED → ⊥) → (sort ≡ Sort.VALUE → ⊥) → (sort ≡ Sort.VARIABLE → ⊥)
      → (sort ≡ Sort.BLOCK → ⊥) → none ≡ trouble ks (event_by sort role y (token_of NAME v x))
  no_name_there sort b c d f = go (eqb sort Sort.BODY) refl
    where
      go : (t : Bool) → eqb sort Sort.BODY ≡ t → none ≡ trouble ks (event_by sort role y (token_of NAME v x))
      go true e = rw (eqb-true sort Sort.BODY e) (body_other NAME (λ q. omega (arith, q)))
      go false e = other_sort sort (eqb-false sort Sort.BODY e) b c d f

  module _ (d : Distinct ks) {f : Code.Option Found} (e : f ≡ found_of ks x) (ws : List ℕ) {r : Result (Unit {0}) Trouble}
      (q : r ≡ asked_of f ws) where
    pub kinds_ask : trouble_in r ≡ trouble ks (asks ws x)
    kinds_ask = ap trouble_in q ∙ ap (λ g. trouble_in (asked_of g ws)) e ∙ asked_trouble ks x d ws

-- THE NAME that a token is: none where it is no name.
nothing_by : (k v : ℕ) (a b : Bool) → name_in (if a then mark k else if b then number v else bad) ≡ []
nothing_by k v true b = refl
nothing_by k v false true = refl
nothing_by k v false false = refl

pub name_none : (k v : ℕ) (x : List ℕ) → (k ≡ NAME → ⊥) → name_in (token_of k v x) ≡ []
name_none k v x h =
    ap (λ c. name_in (if leb k T.END then mark k else if eqb k NUMBER then number v else if c then name x else bad))
    (ne_eqb k NAME h)
    ∙ nothing_by k v (leb k T.END) (eqb k NUMBER)

pub name_is : (k v : ℕ) (x : List ℕ) → k ≡ NAME → name_in (token_of k v x) ≡ x
name_is k v x h = ap (λ n. name_in (token_of n v x)) h
