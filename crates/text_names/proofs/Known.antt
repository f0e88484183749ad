-- What becomes of rows is what becomes of the names that are known by them.
-- Assumes nothing.
use Rattle.std.specs.Prelude.{ℕ, zero, suc, ◌≤◌, ◌<◌, ◌≡◌, List, [], ◌∷◌, ◌++◌, map, Bool, true, false, ◌||◌, leb, ltb, length, get_or, if◌then◌else◌}
use Rattle.std.specs.Prelude.{Some, None, All, filter, slice_set, slice_index_or}
use Rattle.std.proofs.Common.{arith, ◌∙◌, ap, lt-ltb, le-ltb}
use Rattle.std.proofs.Math.Path.{refl}
use borrow.Author.Tests.{lt-leb}
use mathlib.Core.Bool.{and-true, and-false}
use Rattle.std.proofs.lemmas.List.Elements.{All-cons, All-head, All-tail}
use Rattle.std.specs.List.{refill}
use Rattle.arrayvec.proofs.ArrayVecLemmas.{items-with_items}
use Rattle.semantics.specs.Words.{any, keep, first_at}
use Rattle.semantics.specs.Kinds as K
use Rattle.text_semantics.specs.Grammar.{Name}
use Rattle.text_semantics.specs.Names.{Known, named, stays, bodied, one_more, knows, embodies, leaves}
use Rattle.text_semantics.specs.Meaning.{kind_of, number_of}
use Rattle.text_machine.specs.Machine.{most_names, keeps}
use Rattle.text_names.specs.declared.Row.{Row}
use Rattle.text_names.specs.declared.Found.{Found}
use Rattle.text_names.specs.Table.{Table, known_by, known_of, known_in, part_of, Right, Fine, Distinct, the_one, place_in, found_of, one_kept}
use Rattle.text_names.specs.Rows.{with_row, row_of, with_rows, bodied_at, with_body, embodied, left, row_stays, place_of, how_many_known, place_known}
use Rattle.text_names.specs.Once.{kind_of_one, number_of_one}
use Rattle.text_names.specs.Part.{same_of}

known_length : (bs : List ℕ) (rows : List Row) → length (known_of bs rows) ≡ length rows
known_length bs [] = refl
known_length bs (r ∷ rows) = ap suc (known_length bs rows)

-- A SEARCH that finds one: it is there, and what is told of it is told of its row.
module _ (x : Name) where
  pub first_in : (ks : List Known) → any (named x) ks ≡ true → first_at (named x) ks < length ks
  first_in [] e = let z : ◌≡◌ {A = ℕ} 0 1 = cc in absurd (omega arith)
  first_in (k ∷ ks) e = by (named x k) (first_in ks) e
    where
      by : (t : Bool) → (any (named x) ks ≡ true → first_at (named x) ks < length ks) → t || any (named x) ks ≡ true
          → (if t then 0 else suc (first_at (named x) ks)) < suc (length ks)
      by true r g = omega arith
      by false r g = let h : first_at (named x) ks < length ks = r g in omega arith

  none_at_end : (ks : List Known) → any (named x) ks ≡ false → first_at (named x) ks ≡ length ks
  none_at_end [] e = refl
  none_at_end (k ∷ ks) e = by (named x k) (none_at_end ks) e
    where
      by : (t : Bool) → (any (named x) ks ≡ false → first_at (named x) ks ≡ length ks) → t || any (named x) ks ≡ false
          → (if t then 0 else suc (first_at (named x) ks)) ≡ suc (length ks)
      by true r g = let z : ◌≡◌ {A = ℕ} 0 1 = cc in absurd (omega arith)
      by false r g = ap suc (r g)

  module _ (bs : List ℕ) (d : Row) where
    one_at : (rows : List Row) → any (named x) (known_of bs rows) ≡ true
        → the_one (known_of bs rows) x ≡ known_by bs (get_or rows (first_at (named x) (known_of bs rows)) d)
    unfolding the_one
    one_at [] e = let z : ◌≡◌ {A = ℕ} 0 1 = cc in absurd (omega arith)
    one_at (r ∷ rows) e = by (named x (known_by bs r)) (one_at rows) e
      where
        at : ℕ
        at = first_at (named x) (known_of bs rows)

        by : (t : Bool)
            → (any (named x) (known_of bs rows) ≡ true → the_one (known_of bs rows) x ≡ known_by bs (get_or rows at d))
            → t || any (named x) (known_of bs rows) ≡ true
            → (if t then known_by bs r else the_one (known_of bs rows) x)
            ≡ known_by bs (get_or (r ∷ rows) (if t then 0 else suc at) d)
        by true s g = refl
        by false s g = s g

    abbrev pub told_of : ℕ → Row → Found
    told_of i r = record { place = i; kind = r.kind; number = r.number; lacks = r.lacks }

    pub found_some : (rows : List Row) (i : ℕ) → place_in (known_of bs rows) x ≡ Some i
        → found_of (known_of bs rows) x ≡ Some (told_of i (get_or rows i d))
    found_some rows i e = by (any (named x) ks) refl e
      where
        ks : List Known
        ks = known_of bs rows

        by : (t : Bool) → any (named x) ks ≡ t → (if t then Some (first_at (named x) ks) else None) ≡ Some i
            → (if t then Some (record {
              place = first_at (named x) ks;
              kind = kind_of ks x;
              number = number_of ks x;
              lacks = (the_one ks x).lacks;
            }) else None) ≡ Some (told_of i (get_or rows i d))
        by true a g =
            let j : first_at (named x) ks ≡ i = cc in
            let o : the_one ks x ≡ known_by bs (get_or rows (first_at (named x) ks) d) = one_at rows a in
            rw (kind_of_one ks x, number_of_one ks x, o, j)
        by false a g = absurd (let z : ◌≡◌ {A = ℕ} 0 1 = cc in omega arith)

  pub found_none : (ks : List Known) → place_in ks x ≡ None → found_of ks x ≡ None
  found_none ks e = by (any (named x) ks) _ e
    where
      by : (t : Bool) (f : Found) → (if t then Some (first_at (named x) ks) else None) ≡ None → (if t then Some f else None) ≡ None
      by true f g = absurd (let z : ◌≡◌ {A = ℕ} 0 1 = cc in omega arith)
      by false f g = refl

-- ONE MORE.
map_more : {A B : Type 0} (f : A → B) (xs : List A) (y : A) → map f (xs ++ y ∷ []) ≡ map f xs ++ f y ∷ []
map_more f [] y = refl
map_more f (x ∷ xs) y = ap (λ l. f x ∷ l) (map_more f xs y)

pub known_more : (t : Table) (w p e : ℕ) (b : Bool)
    → known_in (with_row t w p e b) ≡ one_kept (known_in t) w (part_of t.text p e) b
known_more t w p e b = rw (known_length t.text t.rows) (by (leb most_names (length t.rows)))
  where
    r : Row
    r = row_of t w p e b

    by : (c : Bool) → known_in (if c then t else with_rows t (t.rows ++ r ∷ []))
        ≡ (if c then known_in t else one_more (known_in t) w (part_of t.text p e) b)
    by true = refl
    by false =
        map_more (known_by t.text) t.rows r
        ∙ ap (λ n. known_in t ++ (record { name = part_of t.text p e; what = w; number = n; lacks = b } ∷ []))
        (how_many_known t.text t.rows w)

-- THE LOCALS GO.
known_kept : (bs : List ℕ) (rows : List Row) → known_of bs (keep row_stays rows) ≡ keep stays (known_of bs rows)
known_kept bs [] = refl
known_kept bs (r ∷ rows) = by (row_stays r) (known_kept bs rows)
  where
    by : (t : Bool) → known_of bs (keep row_stays rows) ≡ keep stays (known_of bs rows)
        → known_of bs (if t then r ∷ keep row_stays rows else keep row_stays rows)
        ≡ (if t then known_by bs r ∷ keep stays (known_of bs rows) else keep stays (known_of bs rows))
    by true e = ap (λ ks. known_by bs r ∷ ks) e
    by false e = e

pub known_left : (t : Table) → known_in (left t) ≡ knows (known_in t) leaves
unfolding knows
known_left t = known_kept t.text t.rows

pub filter_keep : {A : Type 0} (f : A → Bool) (xs : List A) → filter f xs ≡ keep f xs
filter_keep f [] = refl
filter_keep f (x ∷ xs) = by (f x) (filter_keep f xs)
  where
    by : (t : Bool) → filter f xs ≡ keep f xs
        → (if t then x ∷ filter f xs else filter f xs) ≡ (if t then x ∷ keep f xs else keep f xs)
    by true e = ap (λ l. x ∷ l) e
    by false e = e

module _ (bs : List ℕ) (q : Row → Bool) where
  fine_kept : (rows : List Row) → All (Right bs) rows → All (Right bs) (keep q rows)
  fine_kept [] h = h
  fine_kept (r ∷ rows) h = by (q r) (fine_kept rows (All-tail (Right bs) r rows h))
    where
      by : (t : Bool) → All (Right bs) (keep q rows) → All (Right bs) (if t then r ∷ keep q rows else keep q rows)
      by true k = All-cons (Right bs) r (keep q rows) (All-head (Right bs) r rows h) k
      by false k = k

  few_kept : (rows : List Row) → length (keep q rows) ≤ length rows
  few_kept [] = omega arith
  few_kept (r ∷ rows) = by (q r) (few_kept rows)
    where
      by : (t : Bool) → length (keep q rows) ≤ length rows → length (if t then r ∷ keep q rows else keep q rows) ≤ suc (length rows)
      by true k = omega arith
      by false k = omega arith

  pub fine_left : (rows new : List Row) → new ≡ keep q rows → Fine bs rows → Fine bs new
  fine_left rows new e f =
      rw e (record { few = omega (arith, few_kept rows, f.few); right = fine_kept rows f.right })

-- A BODY.
bodied_length : (i : ℕ) (rows : List Row) → length (bodied_at i rows) ≡ length rows
bodied_length i [] = refl
bodied_length zero (r ∷ rows) = refl
bodied_length (suc i) (r ∷ rows) = ap suc (bodied_length i rows)

pub bodied_set : (i : ℕ) (rows : List Row) (d : Row) → i < length rows
    → slice_set rows i (with_body (slice_index_or rows i d)) ≡ bodied_at i rows
bodied_set i [] d h = absurd (omega arith)
bodied_set zero (r ∷ rows) d h = refl
bodied_set (suc i) (r ∷ rows) d h = ap (λ l. r ∷ l) (bodied_set i rows d (omega arith))

pub gives_body : (bs : List ℕ) (rows : List Row) (i : ℕ) (d : Row) → i < length rows
    → ◌≡◌ {A = Table} (record {
      text = bs;
      rows = refill (length rows) rows (slice_set rows i (with_body (slice_index_or rows i d)));
    }) (record { text = bs; rows = bodied_at i rows })
gives_body bs rows i d h =
    rw (bodied_set i rows d h)
    (ap (λ l. record { text = bs; rows = l })
    (items-with_items (record { items = rows }) (bodied_at i rows) (bodied_length i rows)))

module _ (bs : List ℕ) where
  right_bodied : (i : ℕ) (rows : List Row) → All (Right bs) rows → All (Right bs) (bodied_at i rows)
  right_bodied i [] h = h
  right_bodied zero (r ∷ rows) h =
      let a : Right bs r = All-head (Right bs) r rows h in
      All-cons (Right bs) (with_body r) rows (record { inside = a.inside; keyed = a.keyed }) (All-tail (Right bs) r rows h)
  right_bodied (suc i) (r ∷ rows) h =
      All-cons (Right bs) r (bodied_at i rows) (All-head (Right bs) r rows h)
      (right_bodied i rows (All-tail (Right bs) r rows h))

  pub fine_bodied : (i : ℕ) (rows : List Row) → Fine bs rows → Fine bs (bodied_at i rows)
  fine_bodied i rows f =
      record { few = omega (arith, bodied_length i rows, f.few); right = right_bodied i rows f.right }

  module _ (x : Name) where
    -- Nobody changes where nobody has the name; where each is known once, only the first changes.
    unbodied : (ks : List Known) → any (named x) ks ≡ false → map (bodied x) ks ≡ ks
    unbodied [] e = refl
    unbodied (k ∷ ks) e = by (named x k) refl (unbodied ks) e
      where
        by : (t : Bool) → named x k ≡ t → (any (named x) ks ≡ false → map (bodied x) ks ≡ ks) → t || any (named x) ks ≡ false
            → bodied x k ∷ map (bodied x) ks ≡ k ∷ ks
        by true f r g = let z : ◌≡◌ {A = ℕ} 0 1 = cc in absurd (omega arith)
        by false f r g = rw (f, r g, and-true k.lacks)

    one_bodied : (rows : List Row) → Distinct (known_of bs rows) → any (named x) (known_of bs rows) ≡ true
        → known_of bs (bodied_at (first_at (named x) (known_of bs rows)) rows) ≡ map (bodied x) (known_of bs rows)
    one_bodied [] d e = refl
    one_bodied (r ∷ rows) d e = by (named x (known_by bs r)) refl (one_bodied rows d.1) e
      where
        ks : List Known
        ks = known_of bs rows

        by : (t : Bool) → named x (known_by bs r) ≡ t
            → (any (named x) ks ≡ true → known_of bs (bodied_at (first_at (named x) ks) rows) ≡ map (bodied x) ks)
            → t || any (named x) ks ≡ true
            → known_of bs (bodied_at (if t then 0 else suc (first_at (named x) ks)) (r ∷ rows))
            ≡ bodied x (known_by bs r) ∷ map (bodied x) ks
        by true f s g =
            let n : any (named x) ks ≡ false = ap (λ y. any (named y) ks) (same_of x (known_by bs r).name f) ∙ d.0 in
            rw (f, unbodied ks n, and-false r.lacks)
        by false f s g = rw (f, s g, and-true r.lacks)

pub known_bodied : (t : Table) (p e : ℕ) → Distinct (known_in t)
    → known_in (embodied t p e) ≡ keeps (known_in t) (embodies (part_of t.text p e))
unfolding knows
known_bodied t p e d =
    rw (known_length t.text t.rows)
    (by (leb most_names (length t.rows)) refl (any (named x) ks) refl)
  where
    x : Name
    x = part_of t.text p e

    ks : List Known
    ks = known_in t

    by : (c : Bool) → leb most_names (length t.rows) ≡ c → (u : Bool) → any (named x) ks ≡ u
        → known_in (if c then t else if ltb (place_of t.text t.rows x) (length t.rows) then with_rows t (bodied_at (place_of t.text t.rows x) t.rows) else with_row t K.CLASS p e false)
        ≡ (if c then ks else if u then map (bodied x) ks else one_more ks K.CLASS x false)
    by true f u g = refl
    by false f true g =
        let n : length ks ≡ length t.rows = known_length t.text t.rows in
        let l : place_of t.text t.rows x < length t.rows = omega (arith, place_known t.text t.rows x, first_in x ks g) in
        rw (lt-ltb (place_of t.text t.rows x) (length t.rows) l)
        (rw (place_known t.text t.rows x) (one_bodied t.text x t.rows d g))
    by false f false g =
        let n : length ks ≡ length t.rows = known_length t.text t.rows in
        let l : length t.rows ≤ place_of t.text t.rows x = omega (arith, place_known t.text t.rows x, none_at_end x ks g) in
        rw (le-ltb (place_of t.text t.rows x) (length t.rows) l)
        (known_more t K.CLASS p e false ∙ rw (n, f))

-- By what a search found.
module _ (t : Table) (p e : ℕ) (h : length t.rows < most_names) where
  pub embodied_some : (i : ℕ) → place_in (known_in t) (part_of t.text p e) ≡ Some i
      → with_rows t (bodied_at i t.rows) ≡ embodied t p e
  embodied_some i f = by (any (named x) ks) refl f
    where
      x : Name
      x = part_of t.text p e

      ks : List Known
      ks = known_in t

      by : (u : Bool) → any (named x) ks ≡ u → (if u then Some (first_at (named x) ks) else None) ≡ Some i
          → with_rows t (bodied_at i t.rows) ≡ embodied t p e
      by true g f =
          let j : first_at (named x) ks ≡ i = cc in
          let k : place_of t.text t.rows x ≡ i = place_known t.text t.rows x ∙ j in
          let l : i < length t.rows = omega (arith, first_in x ks g, known_length t.text t.rows) in
          rw (lt-leb most_names (length t.rows) h, k, lt-ltb i (length t.rows) l) refl
      by false g f = absurd (let z : ◌≡◌ {A = ℕ} 0 1 = cc in omega arith)

  pub embodied_none : place_in (known_in t) (part_of t.text p e) ≡ None → with_row t K.CLASS p e false ≡ embodied t p e
  embodied_none f = by (any (named x) ks) refl f
    where
      x : Name
      x = part_of t.text p e

      ks : List Known
      ks = known_in t

      by : (u : Bool) → any (named x) ks ≡ u → (if u then Some (first_at (named x) ks) else None) ≡ None
          → with_row t K.CLASS p e false ≡ embodied t p e
      by true g f = absurd (let z : ◌≡◌ {A = ℕ} 0 1 = cc in omega arith)
      by false g f =
          let l : length t.rows ≤ place_of t.text t.rows x =
          omega (arith, place_known t.text t.rows x, none_at_end x ks g, known_length t.text t.rows) in
          rw (lt-leb most_names (length t.rows) h, le-ltb (place_of t.text t.rows x) (length t.rows) l) refl
