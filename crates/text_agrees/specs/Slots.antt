-- The records of declarations so far: what is written of each class now, and what will stand there in the end.
-- Assumes nothing.
use Rattle.std.specs.Prelude.{ℕ, suc, ◌+◌, ◌≡◌, refl, List, [], ◌∷◌, ◌++◌, map, Bool, true, false, not, ◌&&◌, ◌||◌, eqb, length, get_or, take, drop, if◌then◌else◌}
use Rattle.std.proofs.Common.{arith, sym, ◌∙◌, ap, ap₂, subst, append_assoc, length-append, eqb-true, eq-eqb}
use Rattle.std.proofs.Math.Seq.{take-append_seam, drop-append-add}
use Rattle.semantics.specs.Words.{any, collect}
use Rattle.semantics.specs.Kinds as K
use Rattle.semantics.specs.Record as R
use Rattle.semantics.specs.Record.{Entry}
use Rattle.promises.specs.Laws.{no_way, and-true, or-false, any_map}
use Rattle.text_semantics.specs.Numbers as No
use Rattle.text_semantics.specs.Lexing.{same_bytes}
use Rattle.text_semantics.specs.Grammar as G
use Rattle.text_semantics.specs.Grammar.{Name, Declaration, Text}
use Rattle.text_semantics.specs.Names.{Known, named, awaited, bodied}
use Rattle.text_semantics.specs.Meaning.{number_of, body_block, embodied, opened_by}
use Rattle.text_semantics.specs.Written.{two, bytes_of}

-- NAMES that have the same bytes are the same.
pub same_is : (x y : Name) → same_bytes x y ≡ true → x ≡ y
same_is [] [] h = refl
same_is [] (b ∷ y) h = no_way h
same_is (a ∷ x) [] h = no_way h
same_is (a ∷ x) (b ∷ y) h =
    let p = and-true (eqb a b) (same_bytes x y) h in ap₂ (λ c z. c ∷ z) (eqb-true a b p.0) (same_is x y p.1)

pub same_self : (x : Name) → same_bytes x x ≡ true
same_self [] = refl
same_self (a ∷ x) = rw (eq-eqb a a refl) (same_self x)

pub same_turned : (x y : Name) → same_bytes x y ≡ same_bytes y x
same_turned x y = go (same_bytes x y) (same_bytes y x) refl refl
  where
    go : (a b : Bool) → same_bytes x y ≡ a → same_bytes y x ≡ b → a ≡ b
    go true true p q = refl
    go true false p q = sym (same_self x) ∙ subst (λ z. same_bytes z x ≡ false) (sym (same_is x y p)) q
    go false true p q = sym p ∙ subst (λ z. same_bytes z y ≡ true) (same_is y x q) (same_self y)
    go false false p q = refl

-- A RECORD of declarations: a class has the block of its body, or lacks it.
pub data Slot : Type 0 where
  plain : Entry → Slot
  has : Name → ℕ → Slot
  lacks : Name → Slot

abbrev pub now_of : Slot → Entry
now_of (plain e) = e
now_of (has x b) = R.CLASS b
now_of (lacks x) = R.CLASS No.no_body

-- .. where t follows and its first brace opens block k.
abbrev pub then_of : ℕ → Text → Slot → Entry
then_of k t (plain e) = e
then_of k t (has x b) = R.CLASS b
then_of k t (lacks x) = R.CLASS (body_block x k t)

abbrev pub nows : List Slot → List ℕ
nows ss = collect (λ s. bytes_of (now_of s)) ss

abbrev pub thens : ℕ → Text → List Slot → List ℕ
thens k t ss = collect (λ s. bytes_of (then_of k t s)) ss

-- Where the body's block stands of each class, from byte p on; and the classes that are known, from number n on.
abbrev pub places : ℕ → List Slot → List ℕ
places p [] = []
places p (plain e ∷ ss) = places (p + length (bytes_of e)) ss
places p (has x b ∷ ss) = (p + 4) ∷ places (p + 6) ss
places p (lacks x ∷ ss) = (p + 4) ∷ places (p + 6) ss

abbrev pub class_known : Name → ℕ → Bool → Known
class_known x n l = record { name = x; what = K.CLASS; number = n; lacks = l }

abbrev pub known_in : ℕ → List Slot → List Known
known_in n [] = []
known_in n (plain e ∷ ss) = known_in n ss
known_in n (has x b ∷ ss) = class_known x n false ∷ known_in (suc n) ss
known_in n (lacks x ∷ ss) = class_known x n true ∷ known_in (suc n) ss

-- The body of x comes, block b.
abbrev pub fill_one : Name → ℕ → Slot → Slot
fill_one x b (plain e) = plain e
fill_one x b (has y c) = has y c
fill_one x b (lacks y) = if same_bytes x y then has y b else lacks y

abbrev pub fill : Name → ℕ → List Slot → List Slot
fill x b ss = map (fill_one x b) ss

-- ONE MORE.
pub nows-append : (ss qs : List Slot) → nows (ss ++ qs) ≡ nows ss ++ nows qs
nows-append [] qs = refl
nows-append (s ∷ ss) qs =
    ap (λ bs. bytes_of (now_of s) ++ bs) (nows-append ss qs) ∙ sym (append_assoc (bytes_of (now_of s)) (nows ss) (nows qs))

pub thens-append : (k : ℕ) (t : Text) (ss qs : List Slot) → thens k t (ss ++ qs) ≡ thens k t ss ++ thens k t qs
thens-append k t [] qs = refl
thens-append k t (s ∷ ss) qs =
    ap (λ bs. bytes_of (then_of k t s) ++ bs) (thens-append k t ss qs)
    ∙ sym (append_assoc (bytes_of (then_of k t s)) (thens k t ss) (thens k t qs))

class_long : (b : ℕ) (bs : List ℕ) → length (bytes_of (R.CLASS b) ++ bs) ≡ 6 + length bs
unfolding bytes_of
class_long b bs = omega arith

pub places_append : (p : ℕ) (ss qs : List Slot) → places p (ss ++ qs) ≡ places p ss ++ places (p + length (nows ss)) qs
places_append p [] qs = let e : p ≡ p + 0 = omega arith in ap (λ n. places n qs) e
places_append p (plain e ∷ ss) qs =
    let l = length-append (bytes_of e) (nows ss) in
    let m : p + length (bytes_of e) + length (nows ss) ≡ p + length (nows (plain e ∷ ss)) = omega arith in
    places_append (p + length (bytes_of e)) ss qs ∙ ap (λ n. places (p + length (bytes_of e)) ss ++ places n qs) m
places_append p (has x b ∷ ss) qs =
    let l = class_long b (nows ss) in
    let m : p + 6 + length (nows ss) ≡ p + length (nows (has x b ∷ ss)) = omega arith in
    ap (λ ns. (p + 4) ∷ ns) (places_append (p + 6) ss qs ∙ ap (λ n. places (p + 6) ss ++ places n qs) m)
places_append p (lacks x ∷ ss) qs =
    let l = class_long No.no_body (nows ss) in
    let m : p + 6 + length (nows ss) ≡ p + length (nows (lacks x ∷ ss)) = omega arith in
    ap (λ ns. (p + 4) ∷ ns) (places_append (p + 6) ss qs ∙ ap (λ n. places (p + 6) ss ++ places n qs) m)

pub known_append : (n : ℕ) (ss qs : List Slot) → known_in n (ss ++ qs) ≡ known_in n ss ++ known_in (n + length (known_in n ss)) qs
known_append n [] qs = let e : n ≡ n + 0 = omega arith in ap (λ m. known_in m qs) e
known_append n (plain e ∷ ss) qs = known_append n ss qs
known_append n (has x b ∷ ss) qs =
    let m : suc n + length (known_in (suc n) ss) ≡ n + suc (length (known_in (suc n) ss)) = omega arith in
    ap (λ zs. class_known x n false ∷ zs)
    (known_append (suc n) ss qs ∙ ap (λ i. known_in (suc n) ss ++ known_in i qs) m)
known_append n (lacks x ∷ ss) qs =
    let m : suc n + length (known_in (suc n) ss) ≡ n + suc (length (known_in (suc n) ss)) = omega arith in
    ap (λ zs. class_known x n true ∷ zs)
    (known_append (suc n) ss qs ∙ ap (λ i. known_in (suc n) ss ++ known_in i qs) m)

-- IN THE END what is written now is what will be.
pub thens_end : (k : ℕ) (ss : List Slot) → thens k [] ss ≡ nows ss
unfolding body_block
thens_end k [] = refl
thens_end k (plain e ∷ ss) = ap (λ bs. bytes_of e ++ bs) (thens_end k ss)
thens_end k (has x b ∷ ss) = ap (λ bs. bytes_of (R.CLASS b) ++ bs) (thens_end k ss)
thens_end k (lacks x ∷ ss) = ap (λ bs. bytes_of (R.CLASS No.no_body) ++ bs) (thens_end k ss)

-- A declaration with no body changes nothing of it.
pub thens_on : (k : ℕ) (d : Declaration) (t : Text) (ss : List Slot) → ((x : Name) → embodied x d ≡ false)
    → thens k (d ∷ t) ss ≡ thens (k + opened_by d) t ss
unfolding body_block
thens_on k d t [] h = refl
thens_on k d t (plain e ∷ ss) h = ap (λ bs. bytes_of e ++ bs) (thens_on k d t ss h)
thens_on k d t (has x b ∷ ss) h = ap (λ bs. bytes_of (R.CLASS b) ++ bs) (thens_on k d t ss h)
thens_on k d t (lacks x ∷ ss) h =
    ap₂ (λ i bs. bytes_of (R.CLASS i) ++ bs) (ap (λ w. if w then k else body_block x (k + opened_by d) t) (h x))
    (thens_on k d t ss h)

-- A body fills its class.
pub thens-fill : (k : ℕ) (x : Name) (l : G.Locals) (b : G.Act G.actions) (t : Text) (ss : List Slot)
    → thens k (G.class x (G.body l b) ∷ t) ss ≡ thens (k + opened_by (G.class x (G.body l b))) t (fill x k ss)
unfolding body_block
thens-fill k x l b t [] = refl
thens-fill k x l b t (plain e ∷ ss) = ap (λ bs. bytes_of e ++ bs) (thens-fill k x l b t ss)
thens-fill k x l b t (has y c ∷ ss) = ap (λ bs. bytes_of (R.CLASS c) ++ bs) (thens-fill k x l b t ss)
thens-fill k x l b t (lacks y ∷ ss) =
    ap₂ (λ e bs. bytes_of e ++ bs)
    (ap (λ w. R.CLASS (if w then k else body_block y m t)) (same_turned y x) ∙ go (same_bytes x y)) (thens-fill k x l b t ss)
  where
    m : ℕ
    m = k + opened_by (G.class x (G.body l b))

    go : (w : Bool) → R.CLASS (if w then k else body_block y m t) ≡ then_of m t (if w then has y k else lacks y)
    go true = refl
    go false = refl

pub known_fill : (x : Name) (b n : ℕ) (ss : List Slot) → map (bodied x) (known_in n ss) ≡ known_in n (fill x b ss)
known_fill x b n [] = refl
known_fill x b n (plain e ∷ ss) = known_fill x b n ss
known_fill x b n (has y c ∷ ss) = ap (λ zs. class_known y n false ∷ zs) (known_fill x b (suc n) ss)
known_fill x b n (lacks y ∷ ss) = go (same_bytes x y) (known_fill x b (suc n) ss)
  where
    go : (w : Bool) → map (bodied x) (known_in (suc n) ss) ≡ known_in (suc n) (fill x b ss)
        → class_known y n (true && not w) ∷ map (bodied x) (known_in (suc n) ss)
        ≡ known_in n ((if w then has y b else lacks y) ∷ fill x b ss)
    go true e = ap (λ zs. class_known y n false ∷ zs) e
    go false e = ap (λ zs. class_known y n true ∷ zs) e

pub places-fill : (x : Name) (b p : ℕ) (ss : List Slot) → places p (fill x b ss) ≡ places p ss
places-fill x b p [] = refl
places-fill x b p (plain e ∷ ss) = places-fill x b (p + length (bytes_of e)) ss
places-fill x b p (has y c ∷ ss) = ap (λ ns. (p + 4) ∷ ns) (places-fill x b (p + 6) ss)
places-fill x b p (lacks y ∷ ss) = go (same_bytes x y) (places-fill x b (p + 6) ss)
  where
    go : (w : Bool) → places (p + 6) (fill x b ss) ≡ places (p + 6) ss
        → places p ((if w then has y b else lacks y) ∷ fill x b ss) ≡ (p + 4) ∷ places (p + 6) ss
    go true e = ap (λ ns. (p + 4) ∷ ns) e
    go false e = ap (λ ns. (p + 4) ∷ ns) e

-- NAMES APART: each is known once.
abbrev pub Apart : List Known → Type 0
Apart [] = Unit {0}
Apart (k ∷ ks) = (any (named k.name) ks ≡ false) × Apart ks

pub untouched : (x : Name) (b n : ℕ) (ss : List Slot) → any (named x) (known_in n ss) ≡ false → fill x b ss ≡ ss
untouched x b n [] h = refl
untouched x b n (plain e ∷ ss) h = ap (λ qs. plain e ∷ qs) (untouched x b n ss h)
untouched x b n (has y c ∷ ss) h =
    let o = or-false (same_bytes x y) (any (named x) (known_in (suc n) ss)) h in
    ap (λ qs. has y c ∷ qs) (untouched x b (suc n) ss o.1)
untouched x b n (lacks y ∷ ss) h =
    let o = or-false (same_bytes x y) (any (named x) (known_in (suc n) ss)) h in
    rw o.0 (ap (λ qs. lacks y ∷ qs) (untouched x b (suc n) ss o.1))

-- Where the block of x stands: what is before it and behind it, and the number of x.
record Patch (x : Name) (b n p : ℕ) (ss : List Slot) : Type 0 where
  pre : List ℕ
  post : List ℕ
  index : ℕ
  before : nows ss ≡ pre ++ (two No.no_body ++ post)
  behind : nows (fill x b ss) ≡ pre ++ (two b ++ post)
  number : number_of (known_in n ss) x ≡ n + index
  place : get_or (places p ss) index 0 ≡ p + length pre

pub named_once : (x y : Name) (ks : List Known) → same_bytes x y ≡ true → any (named y) ks ≡ false → any (named x) ks ≡ false
named_once x y ks e h = subst (λ z. any (named z) ks ≡ false) (sym (same_is x y e)) h

pub awaited-named : (x : Name) (ks : List Known) → any (awaited x) ks ≡ true → any (named x) ks ≡ true
awaited-named x ks h = any_map (awaited x) (named x) (λ k e. (and-true (named x k) k.lacks e).0) ks h

-- Behind other bytes.
later : {x : Name} {b n m p q : ℕ} {s : Slot} {ss : List Slot} (bs : List ℕ) (i : ℕ) (r : Patch x b m q ss)
    → nows (s ∷ ss) ≡ bs ++ nows ss → nows (fill x b (s ∷ ss)) ≡ bs ++ nows (fill x b ss)
    → number_of (known_in n (s ∷ ss)) x ≡ number_of (known_in m ss) x → m + r.index ≡ n + i
    → get_or (places p (s ∷ ss)) i 0 ≡ get_or (places q ss) r.index 0 → q ≡ p + length bs → Patch x b n p (s ∷ ss)
later bs i r e f g h j l =
    record {
      pre = bs ++ r.pre;
      post = r.post;
      index = i;
      before = e ∙ ap (λ zs. bs ++ zs) r.before ∙ sym (append_assoc bs r.pre _);
      behind = f ∙ ap (λ zs. bs ++ zs) r.behind ∙ sym (append_assoc bs r.pre _);
      number = g ∙ r.number ∙ h;
      place = let a = r.place in let c = length-append bs r.pre in omega arith;
    }

class_size : (b : ℕ) → length (bytes_of (R.CLASS b)) ≡ 6
unfolding bytes_of
class_size b = refl

patch : (x : Name) (b n p : ℕ) (ss : List Slot) → Apart (known_in n ss) → any (awaited x) (known_in n ss) ≡ true
    → Patch x b n p ss
unfolding bytes_of
patch x b n p [] a h = no_way h
patch x b n p (plain e ∷ ss) a h =
    let r = patch x b n (p + length (bytes_of e)) ss a h in
    later (bytes_of e) r.index r refl refl refl refl refl refl
patch x b n p (has y c ∷ ss) a h = go (same_bytes x y) refl h (patch x b (suc n) (p + 6) ss a.1)
  where
    go : (w : Bool) → same_bytes x y ≡ w → ((w && false) || any (awaited x) (known_in (suc n) ss)) ≡ true
        → (any (awaited x) (known_in (suc n) ss) ≡ true → Patch x b (suc n) (p + 6) ss) → Patch x b n p (has y c ∷ ss)
    go true e i ih =
        no_way (sym (named_once x y (known_in (suc n) ss) e a.0) ∙ awaited-named x (known_in (suc n) ss) i)
    go false e i ih =
        let r = ih i in
        let l = class_size c in
        later (bytes_of (R.CLASS c)) (suc r.index) r refl refl
        (ap (λ w. if w then n else number_of (known_in (suc n) ss) x) e) (omega arith) refl (omega arith)
patch x b n p (lacks y ∷ ss) a h = go (same_bytes x y) refl h (patch x b (suc n) (p + 6) ss a.1)
  where
    go : (w : Bool) → same_bytes x y ≡ w → ((w && true) || any (awaited x) (known_in (suc n) ss)) ≡ true
        → (any (awaited x) (known_in (suc n) ss) ≡ true → Patch x b (suc n) (p + 6) ss) → Patch x b n p (lacks y ∷ ss)
    go true e i ih =
        record {
          pre = two 4 ++ two K.CLASS;
          post = nows ss;
          index = 0;
          before = refl;
          behind =
              ap (λ w. nows ((if w then has y b else lacks y) ∷ fill x b ss)) e
              ∙ ap (λ qs. bytes_of (R.CLASS b) ++ nows qs)
              (untouched x b (suc n) ss (named_once x y (known_in (suc n) ss) e a.0));
          number = ap (λ w. if w then n else number_of (known_in (suc n) ss) x) e ∙ omega arith;
          place = refl;
        }
    go false e i ih =
        let r = ih i in
        let l = class_size No.no_body in
        later (bytes_of (R.CLASS No.no_body)) (suc r.index) r refl
        (ap (λ w. nows ((if w then has y b else lacks y) ∷ fill x b ss)) e)
        (ap (λ w. if w then n else number_of (known_in (suc n) ss) x) e) (omega arith) refl (omega arith)

pub patched : (x : Name) (b : ℕ) (ss : List Slot) → Apart (known_in 0 ss) → any (awaited x) (known_in 0 ss) ≡ true
    → (let p : ℕ = get_or (places 0 ss) (number_of (known_in 0 ss) x) 0 in
    take p (nows ss) ++ two b ++ drop (p + 2) (nows ss)) ≡ nows (fill x b ss)
patched x b ss a h =
    let r = patch x b 0 0 ss a h in
    let n : number_of (known_in 0 ss) x ≡ r.index = let m = r.number in omega arith in
    let l : get_or (places 0 ss) (number_of (known_in 0 ss) x) 0 ≡ length r.pre =
    ap (λ i. get_or (places 0 ss) i 0) n ∙ (let m = r.place in omega arith) in
    ap₂ (λ q zs. take q zs ++ two b ++ drop (q + 2) zs) l r.before
    ∙ ap₂ (λ u v. u ++ two b ++ v) (take-append_seam r.pre _) (drop-append-add r.pre _ 2)
    ∙ append_assoc r.pre (two b) r.post
    ∙ sym r.behind
