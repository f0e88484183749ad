-- What is known of the memory between two tokens, from the reader that it shows. Assumes nothing.
use Rattle.std.specs.Prelude.{if◌then◌else◌}
use Prim.Native.Nat.{ℕ, suc, ◌≤◌, ◌<◌}
use native.Mathlib.Omega.{arith}
use mathlib.Core.Path.{◌≡◌, refl, sym, subst}
use mathlib.Core.List.{List, [], ◌∷◌, ◌++◌, map}
use mathlib.Core.Bool.{Bool, true, false, ◌||◌}
use mathlib.Core.Option.{Option, none, some}
use lib.Dec.{eqb}
use lib.ListN.{length, get_or}
use borrow.Author.Tests.{eqb-true}
use Rattle.semantics.specs.Words.{any, keep}
use Rattle.semantics.specs.Kinds as K
use Rattle.promises.specs.Laws.{no_way, and-true, AllOf, Ordered}
use Rattle.text_semantics.specs.Lexing.{same_bytes}
use Rattle.text_semantics.specs.Grammar.{Name}
use Rattle.text_semantics.specs.Names as N
use Rattle.text_semantics.specs.Names.{Known, Event, asks, declares, announces, embodies, leaves, named, knows}
use Rattle.text_semantics.specs.Names.{one_more, bodied, stays}
use Rattle.text_semantics.specs.Meaning.{number_of}
use Rattle.text_machine.specs.Machine.{Reader, most_names}
use Rattle.text_machine.specs.Sheet as M
use Rattle.text_agrees.specs.Events.{Fewer}
use Rattle.text_agrees.specs.Stages.{Comes}
use Rattle.text_agrees.specs.Going.{told_to, known_comes}
use Rattle.text_agrees.specs.Goodness.{LevelJudged, KeptJudged}
use Rattle.text_entry.specs.Draft.{TWO, MOST}
use Rattle.text_names.specs.Table.{Distinct}
use Rattle.text_reader.proofs.Judges.{try_branches}

-- NAMES: each once, and each with a small number.
pub same_bytes_lem : (x y : List ℕ) → same_bytes x y ≡ true → x ≡ y
same_bytes_lem [] [] e = refl
same_bytes_lem [] (y ∷ ys) e = no_way e
same_bytes_lem (x ∷ xs) [] e = no_way e
same_bytes_lem (x ∷ xs) (y ∷ ys) e =
    let a = and-true (eqb x y) (same_bytes xs ys) e in
    let b = eqb-true x y a.0 in let c = same_bytes_lem xs ys a.1 in cc

apart : (k : Known) (ks : List Known) → AllOf (λ j. k.name ≡ j.name → ⊥) ks → any (named k.name) ks ≡ false
apart k [] h = refl
apart k (j ∷ ks) h = go (named k.name j) refl (apart k ks h.1)
  where
    go : (b : Bool) → named k.name j ≡ b → any (named k.name) ks ≡ false → (b || any (named k.name) ks) ≡ false
    go true e f = absurd (h.0 (same_bytes_lem k.name j.name e))
    go false e f = f

pub distinct : (ks : List Known) → Ordered (λ j k. j.name ≡ k.name → ⊥) ks → Distinct ks
distinct [] h = tt
distinct (k ∷ ks) h = (apart k ks h.0, distinct ks h.1)

abbrev Few : List Known → Type 0
Few ks = AllOf (λ (k : Known). k.number < most_names) ks

kept_length : (f : Known → Bool) (ks : List Known) → length (keep f ks) ≤ length ks
kept_length f [] = omega arith
kept_length f (k ∷ ks) = go (f k) (kept_length f ks)
  where
    go : (b : Bool) → length (keep f ks) ≤ length ks → length (if b then k ∷ keep f ks else keep f ks) ≤ suc (length ks)
    go true h = omega arith
    go false h = omega arith

few_more : (ks : List Known) (k : Known) → Few ks → k.number < most_names → Few (ks ++ (k ∷ []))
few_more [] k h l = (l, tt)
few_more (j ∷ ks) k h l = (h.0, few_more ks k h.1 l)

few_bodied : (x : Name) (ks : List Known) → Few ks → Few (map (bodied x) ks)
few_bodied x [] h = tt
few_bodied x (k ∷ ks) h = (h.0, few_bodied x ks h.1)

few_stays : (ks : List Known) → Few ks → Few (keep stays ks)
few_stays [] h = tt
few_stays (k ∷ ks) h = go (stays k) (few_stays ks h.1)
  where
    go : (b : Bool) → Few (keep stays ks) → Few (if b then k ∷ keep stays ks else keep stays ks)
    go true f = (h.0, f)
    go false f = f

few_one : (ks : List Known) (w : ℕ) (x : Name) (l : Bool) → length ks < most_names → Few ks → Few (one_more ks w x l)
few_one ks w x l h f = few_more ks _ f (omega (arith, kept_length (λ k. eqb w k.what) ks))

few_knows : (ks : List Known) (e : Event) → length ks < most_names → Few ks → Few (knows ks e)
unfolding knows
few_knows ks (asks ws x) h f = f
few_knows ks (declares w x) h f = few_one ks w x false h f
few_knows ks (announces x) h f = few_one ks K.CLASS x true h f
few_knows ks (embodies x) h f = go (any (named x) ks)
  where
    go : (b : Bool) → Few (if b then map (bodied x) ks else one_more ks K.CLASS x false)
    go true = few_bodied x ks f
    go false = few_one ks K.CLASS x false h f
few_knows ks leaves h f = few_stays ks f

few_after : (es : List Event) (ks : List Known) → Fewer ks es → Few ks → Few (N.after ks es)
unfolding N.after
few_after [] ks h f = f
few_after (e ∷ es) ks h f = few_after es (knows ks e) h.1 (few_knows ks e h.0 f)

number_small : (ks : List Known) (x : Name) → Few ks → number_of ks x < TWO
number_small [] x h = omega arith
number_small (k ∷ ks) x h = go (named x k) (number_small ks x h.1)
  where
    go : (b : Bool) → number_of ks x < TWO → (if b then k.number else number_of ks x) < TWO
    go true l = omega (arith, h.0)
    go false l = l

pub numbers_small : {r : Reader} → Comes r → (x : Name) → number_of r.known x < TWO
numbers_small {r} c x =
    let h = known_comes c in
    number_small r.known x (subst (λ (ks : List Known). Few ks) (sym h.0) (few_after (told_to c) [] h.1 tt))

-- BRANCHES of the try that is kept.
pub branches_few : (ls : List M.Level) → AllOf LevelJudged ls → get_or (M.resumed (M.kept_in ls)).body 0 0 < MOST
branches_few [] h = omega arith
branches_few (l ∷ ls) h = go l.kept h.0
  where
    go : (o : Option M.Kept) → KeptJudged o → get_or (M.resumed o).body 0 0 < MOST
    go none j = omega arith
    go (some x) j = try_branches x.body j
