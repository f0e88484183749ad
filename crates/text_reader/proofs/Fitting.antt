-- What a token is that fits, by the symbol that was still to come. Assumes nothing.
use Rattle.std.specs.Prelude.{if◌then◌else◌}
use Prim.Native.Nat.{ℕ, zero, suc, ◌<◌}
use native.Mathlib.Omega.{arith}
use mathlib.Core.Path.{◌≡◌, refl, sym, ◌∙◌, ap}
use mathlib.Core.List.{List, [], ◌∷◌}
use mathlib.Core.Bool.{Bool, true, false, not, ◌&&◌, ◌||◌}
use mathlib.Core.Option.{Option, none, some}
use lib.Dec.{eqb, leb}
use borrow.Author.Tests.{eqb-true, eqb-false, leb-true, ne_eqb}
use Rattle.promises.specs.Laws.{no_way, not_some, and-true}
use Rattle.text_semantics.specs.Numbers as No
use Rattle.text_semantics.specs.Token as T
use Rattle.text_semantics.specs.Token.{Token, name, number, mark, bad}
use Rattle.text_semantics.specs.Reading.{Symbol, rows, step, one, a_name, a_number}
use Rattle.text_machine.specs.Codes as C
use Rattle.text_machine.specs.Codes.{symbol_of, token_of}
use Rattle.text_pile.specs.Pile.{SYMBOLS, next_of, roomed, turned_of}
use Rattle.text_pile.specs.Laws.{top_of}
use Rattle.text_pile.proofs.Rows.{next_in, chosen}
use Rattle.text_entry.specs.Draft.{TWO}

abbrev pub is_some : {A : Type 0} → Option A → Bool
is_some none = false
is_some (some a) = true

abbrev pub Takes : Symbol → Token → Type 0
Takes s t = is_some (next_in (rows s) t) ≡ true

pub takes : (us : List Symbol) (t : Token) {zs : List Symbol} → turned_of us t ≡ some zs → Takes (top_of us) t
unfolding turned_of
takes [] t e = not_some e
takes (s ∷ ss) t {zs} e = go (next_of (step s t)) (chosen (rows s) t) e
  where
    go : (o : Option (List Symbol)) → o ≡ next_in (rows s) t → roomed ss o ≡ some zs → Takes s t
    go none f g = not_some g
    go (some ns) f g = ap is_some (sym f)

-- A NAME that has to come is one.
plain_by : (k v : ℕ) (a b : Bool) → is_some (next_in (rows (one a_name)) (if a then mark k else if b then number v else bad))
    ≡ false
unfolding next_in
plain_by k v true b = refl
plain_by k v false true = refl
plain_by k v false false = refl

pub takes_name : (k v : ℕ) (x : List ℕ) → Takes (one a_name) (token_of k v x) → k ≡ C.NAME
takes_name k v x e = go (eqb k C.NAME) refl
  where
    go : (t : Bool) → eqb k C.NAME ≡ t → k ≡ C.NAME
    go true f = eqb-true k C.NAME f
    go false f =
        no_way (sym (ap (λ c. is_some (next_in (rows (one a_name)) (if leb k T.END then mark k else if eqb k C.NUMBER then number v
        else if c then name x else bad))) f ∙ plain_by k v (leb k T.END) (eqb k C.NUMBER)) ∙ e)

-- A COUNT has two bytes.
pub takes_count : (v : ℕ) → Takes (one (a_number No.top_count)) (number v) → v < TWO
unfolding next_in
takes_count v e = go (leb v No.top_count) refl e
  where
    nothing : Option (List Symbol)
    nothing = some []

    go : (t : Bool) → leb v No.top_count ≡ t → is_some (if t then nothing else none) ≡ true → v < TWO
    go true f g = omega (arith, leb-true v No.top_count f)
    go false f g = no_way g

-- AN ETRY goes on with a try, or had to come itself.
unfoldable etries : ℕ → Bool
unfolding next_in
etries zero = true
etries (suc n) = (not (is_some (next_in (rows (symbol_of n)) (mark T.ETRY))) || (eqb n C.TRY || eqb n T.ETRY)) && etries n

etry_at : (n s : ℕ) → etries n ≡ true → s < n → (not (is_some (next_in (rows (symbol_of s)) (mark T.ETRY))) || (eqb s C.TRY || eqb
    s T.ETRY)) ≡ true
unfolding etries
etry_at zero s e h = absurd (omega arith)
etry_at (suc n) s e h =
    let b = and-true (not (is_some (next_in (rows (symbol_of n)) (mark T.ETRY))) || (eqb n C.TRY || eqb n T.ETRY)) (etries n) e in
    go (eqb s n) refl b.0 (λ l. etry_at n s b.1 l)
  where
    go : (t : Bool) → eqb s n ≡ t → (not (is_some (next_in (rows (symbol_of n)) (mark T.ETRY))) || (eqb n C.TRY || eqb n T.ETRY))
        ≡ true
        → (s < n → (not (is_some (next_in (rows (symbol_of s)) (mark T.ETRY))) || (eqb s C.TRY || eqb s T.ETRY)) ≡ true)
        → (not (is_some (next_in (rows (symbol_of s)) (mark T.ETRY))) || (eqb s C.TRY || eqb s T.ETRY)) ≡ true
    go true f b r = rw (eqb-true s n f) b
    go false f b r = r (omega (arith, eqb-false s n f))

all_etries : etries SYMBOLS ≡ true
unfolding etries
all_etries = refl

pub takes_etry : (s : ℕ) → s < SYMBOLS → Takes (symbol_of s) (mark T.ETRY) → (s ≡ C.TRY → ⊥) → s ≡ T.ETRY
takes_etry s h e n =
    eqb-true s T.ETRY (go (is_some (next_in (rows (symbol_of s)) (mark T.ETRY))) (eqb s C.TRY) e (ne_eqb s C.TRY n)
    (etry_at SYMBOLS s all_etries h))
  where
    go : (t b : Bool) → t ≡ true → b ≡ false → (not t || (b || eqb s T.ETRY)) ≡ true → eqb s T.ETRY ≡ true
    go true true f i g = no_way (sym i)
    go true false f i g = g
    go false b f i g = no_way f
