-- What the functions ask for is met between two tokens. Assumes nothing.
use Rattle.std.specs.Prelude.{if◌then◌else◌, ◌+◌, ◌-◌, slice_get, Some, None, IfSome, unwrap_or}
use Rattle.std.specs.Prelude as Code
use Rattle.std.proofs.Common.{length-append}
use Rattle.std.proofs.lemmas.Option.{get_or_from_slice_get, slice_get-get_or}
use Prim.Native.Nat.{ℕ, zero, suc, ◌≤◌, ◌<◌}
use native.Mathlib.Omega.{arith}
use mathlib.Core.Path.{◌≡◌, refl, sym, ◌∙◌, ap, subst}
use mathlib.Core.List.{List, [], ◌∷◌}
use mathlib.Core.Bool.{Bool, true, false, not, ◌&&◌, ◌||◌}
use mathlib.Core.Option.{Option, none, some}
use lib.Dec.{eqb}
use lib.ListN.{length, get_or}
use Rattle.semantics.specs.Words.{any}
use Rattle.semantics.specs.Kinds as K
use Rattle.promises.specs.Laws.{no_way, not_some, not-true, AllOf, Ordered}
use Rattle.text_semantics.specs.Numbers as No
use Rattle.text_semantics.specs.Token as T
use Rattle.text_semantics.specs.Token.{number}
use Rattle.text_semantics.specs.Grammar.{Name}
use Rattle.text_semantics.specs.Names.{Known, named, awaited, wanting, trouble}
use Rattle.text_semantics.specs.Meaning.{number_of}
use Rattle.text_semantics.specs.Reading.{Symbol, one, the, a_name, a_number, factor_s, minus_s, more, signed_s, relation_s, item_s}
use Rattle.text_semantics.specs.Reading.{claim_s, items_s, gives_s, given_s, actions_s, try_s, few_s, lines_s, body_s, text_s}
use Rattle.text_machine.specs.Entry.{KEPT}
use Rattle.text_machine.specs.Sheet as M
use Rattle.text_machine.specs.Codes as C
use Rattle.text_machine.specs.Codes.{symbol_of, token_of}
use Rattle.text_machine.specs.Machine.{is_known}
use Rattle.text_machine.specs.Machine as Machine
use Rattle.text_machine.specs.Sheet.{headed}
use Rattle.text_agrees.specs.Sheets.{deepness}
use Rattle.text_agrees.specs.Stages.{Blocks, outside, acting, trying, Stage, declared, entity, titled, acts, Part, block, rest}
use Rattle.text_agrees.specs.Stages.{roomy}
use Rattle.text_agrees.specs.Goodness.{Sorted, Calling, silent, called, fine, all_written, Written, Item, a_class, another, item_bytes, joined, places_from}
use Rattle.text_entry.specs.Draft.{TWO}
use Rattle.text_names.specs.Table.{Distinct, known_in}
use Rattle.text_pile.specs.Pile.{SYMBOLS, pile_of, stack_of, turned_of}
use Rattle.text_pile.specs.Laws.{top_of}
use Rattle.text_reader.specs.declared.Reader.{Reader}
use Rattle.text_reader.specs.Drafted.{Fits}
use Rattle.text_reader.specs.Shown.{reader_of, Ready}
use Rattle.text_reader.specs.Sheets.{Titled, Short, ShortKept}
use Rattle.text_reader.specs.Sorts as Sort
use Rattle.text_reader.specs.Sorts.{sort_of}
use Rattle.text_reader.proofs.Ready.{same_bytes_lem, distinct, numbers_small, branches_few}
use Rattle.text_reader.proofs.Fitting.{Takes, takes, takes_name, takes_count, takes_etry}

-- The sorts that one symbol alone has.
sign_not : (a b : Bool) (n : ℕ) → (Sort.SEMI ≡ n → ⊥) → (Sort.BRACE ≡ n → ⊥) → (Sort.OTHER ≡ n → ⊥)
    → (if a then Sort.SEMI else if b then Sort.BRACE else Sort.OTHER) ≡ n → ⊥
sign_not true b n f g h e = f e
sign_not false true n f g h e = g e
sign_not false false n f g h e = h e

-- A name, and the body of a class, are the only symbols of their sorts.
alone : (s : Symbol) → (sort_of s ≡ Sort.NAMED → s ≡ one a_name) × (sort_of s ≡ Sort.BODY → s ≡ body_s)
alone (one (the k)) =
    let no : (n : ℕ) → (Sort.SEMI ≡ n → ⊥) → (Sort.BRACE ≡ n → ⊥) → (Sort.OTHER ≡ n → ⊥) →
    (if eqb k T.SEMI then Sort.SEMI else if eqb k T.LB then Sort.BRACE else Sort.OTHER) ≡ n → ⊥ =
    λ n. sign_not (eqb k T.SEMI) (eqb k T.LB) n in (
      λ e. absurd (no Sort.NAMED (λ q. omega (arith, q)) (λ q. omega (arith, q)) (λ q. omega (arith, q)) e),
      λ e. absurd (no Sort.BODY (λ q. omega (arith, q)) (λ q. omega (arith, q)) (λ q. omega (arith, q)) e),
    )
alone (one a_name) = (λ e. refl, λ e. absurd (omega (arith, e)))
alone (one (a_number b)) = (λ e. absurd (omega (arith, e)), λ e. absurd (omega (arith, e)))
alone (factor_s n) = (λ e. absurd (omega (arith, e)), λ e. absurd (omega (arith, e)))
alone (minus_s n) = (λ e. absurd (omega (arith, e)), λ e. absurd (omega (arith, e)))
alone (more n c) = (λ e. absurd (omega (arith, e)), λ e. absurd (omega (arith, e)))
alone signed_s = (λ e. absurd (omega (arith, e)), λ e. absurd (omega (arith, e)))
alone relation_s = (λ e. absurd (omega (arith, e)), λ e. absurd (omega (arith, e)))
alone item_s = (λ e. absurd (omega (arith, e)), λ e. absurd (omega (arith, e)))
alone claim_s = (λ e. absurd (omega (arith, e)), λ e. absurd (omega (arith, e)))
alone items_s = (λ e. absurd (omega (arith, e)), λ e. absurd (omega (arith, e)))
alone gives_s = (λ e. absurd (omega (arith, e)), λ e. absurd (omega (arith, e)))
alone given_s = (λ e. absurd (omega (arith, e)), λ e. absurd (omega (arith, e)))
alone actions_s = (λ e. absurd (omega (arith, e)), λ e. absurd (omega (arith, e)))
alone try_s = (λ e. absurd (omega (arith, e)), λ e. absurd (omega (arith, e)))
alone (few_s n) = (λ e. absurd (omega (arith, e)), λ e. absurd (omega (arith, e)))
alone lines_s = (λ e. absurd (omega (arith, e)), λ e. absurd (omega (arith, e)))
alone body_s = (λ e. absurd (omega (arith, e)), λ e. refl)
alone text_s = (λ e. absurd (omega (arith, e)), λ e. absurd (omega (arith, e)))

pub is_named : (s : Symbol) → sort_of s ≡ Sort.NAMED → s ≡ one a_name
is_named s = (alone s).0

pub is_body : (s : Symbol) → sort_of s ≡ Sort.BODY → s ≡ body_s
is_body s = (alone s).1

-- Whether the body of a class comes next: not where blocks are open.
abbrev bodied : List Symbol → Bool
bodied [] = false
bodied (s ∷ ss) = eqb (sort_of s) Sort.BODY

blocks_body : {n : ℕ} {ss : List Symbol} → Blocks n ss → bodied ss ≡ false
blocks_body outside = refl
blocks_body (acting x) = refl
blocks_body (trying x) = refl

part_body : {a b : Bool} {n : ℕ} {ss : List Symbol} → Part a b n (body_s ∷ ss) → ⊥
part_body (block x) = no_way (sym (blocks_body x))
part_body (rest e f x) = no_way f

stage_body : {role kind deep q l : ℕ} {ss : List Symbol} → Stage role kind deep q l (body_s ∷ ss) → deep ≡ 0
stage_body (declared e f g t x) = e
stage_body (entity i g e x) = i.closed
stage_body (titled i) = i.closed
stage_body (acts e f g x) = absurd (part_body x)

kept_short : (ls : List M.Level) → AllOf Short ls → length (M.resumed (M.kept_in ls)).body ≤ KEPT
kept_short [] h = omega arith
kept_short (l ∷ ls) h = go l.kept h.0
  where
    go : (o : Option M.Kept) → ShortKept o → length (M.resumed o).body ≤ KEPT
    go none j = omega arith
    go (some x) j = j

-- The top of the pile, or a text where nothing is to come.
pub top_shown : (p : List ℕ) (o : Code.Option ℕ) → o ≡ slice_get p (length p - 1) → IfSome o (λ s. s < SYMBOLS)
    → (unwrap_or o C.TEXT < SYMBOLS) × (symbol_of (unwrap_or o C.TEXT) ≡ top_of (stack_of p))
unfolding pile_of
top_shown [] None e h = (omega arith, refl)
top_shown [] (Some x) e h = absurd (let z : ◌≡◌ {A = ℕ} 0 1 = cc in omega arith)
top_shown (x ∷ xs) None e h =
    let z : None ≡ Some (get_or (x ∷ xs) (length (x ∷ xs) - 1) 0) =
    e ∙ slice_get-get_or (x ∷ xs) (length (x ∷ xs) - 1) 0 (omega arith) in
    absurd (let y : ◌≡◌ {A = ℕ} 0 1 = cc in omega arith)
top_shown (x ∷ xs) (Some y) e h =
    let z : get_or (x ∷ xs) (length (x ∷ xs) - 1) 0 ≡ y = get_or_from_slice_get (x ∷ xs) (length (x ∷ xs) - 1) y 0 (sym e) in
    let k : length (x ∷ xs) - 1 ≡ length xs = omega arith in
    (h, ap symbol_of (sym z ∙ ap (λ i. get_or (x ∷ xs) i 0) k))

module _ (m : Reader) (h : Ready m) where
  pub ready_distinct : Distinct (known_in m.names)
  ready_distinct = distinct (known_in m.names) (fine h.comes).sorted.apart

  pub ready_kept : length (M.resumed (M.kept_in m.sheet.levels)).body ≤ KEPT
  ready_kept = kept_short m.sheet.levels h.sheet.short

  pub ready_number : (x : Name) → number_of (known_in m.names) x < TWO
  ready_number x = numbers_small h.comes x

  pub ready_fits : (s kind value : ℕ) (x : List ℕ) {zs : List Symbol} → s < SYMBOLS → symbol_of s ≡ top_of (stack_of m.pile)
      → turned_of (stack_of m.pile) (token_of kind value x) ≡ some zs
      → Fits s kind value (M.resumed (M.kept_in m.sheet.levels))
  ready_fits s kind value x l e f =
      let t : Takes (symbol_of s) (token_of kind value x) =
      subst (λ (y : Symbol). Takes y (token_of kind value x)) (sym e)
      (takes (stack_of m.pile) (token_of kind value x) f) in
      record {
        count = λ a b. takes_count value
            (subst (λ (n : ℕ). Takes (symbol_of C.COUNT) (token_of n value x)) b
            (subst (λ (n : ℕ). Takes (symbol_of n) (token_of kind value x)) a t));
        etry = λ a n. takes_etry s l (subst (λ (j : ℕ). Takes (symbol_of s) (token_of j value x)) a t) n;
        branches = branches_few m.sheet.levels (all_written h.comes).levels;
      }

  pub ready_name : (s kind value : ℕ) (x : List ℕ) {zs : List Symbol} → symbol_of s ≡ top_of (stack_of m.pile)
      → turned_of (stack_of m.pile) (token_of kind value x) ≡ some zs → sort_of (symbol_of s) ≡ Sort.NAMED → kind ≡ C.NAME
  ready_name s kind value x e f n =
      takes_name kind value x
      (subst (λ (y : Symbol). Takes y (token_of kind value x)) (sym e ∙ is_named (symbol_of s) n)
      (takes (stack_of m.pile) (token_of kind value x) f))

-- THE BODY OF A CLASS. A class that is to get its body has a number of a class.
other_name : (x : Name) (k : Known) (ks : List Known) → x ≡ k.name → AllOf (λ (j : Known). k.name ≡ j.name → ⊥) ks
    → any (awaited x) ks ≡ false
other_name x k [] e h = refl
other_name x k (j ∷ ks) e h = go (named x j) refl (other_name x k ks e h.1)
  where
    go : (b : Bool) → named x j ≡ b → any (awaited x) ks ≡ false → ((b && j.lacks) || any (awaited x) ks) ≡ false
    go true f i = absurd (h.0 (sym e ∙ same_bytes_lem x j.name f))
    go false f i = i

number_in : (x : Name) (n : ℕ) (ks : List Known) → Ordered (λ (j k : Known). j.name ≡ k.name → ⊥) ks
    → AllOf (λ (k : Known). (k.lacks ≡ true → eqb K.CLASS k.what ≡ true) × (eqb K.CLASS k.what ≡ true → k.number < n)) ks
    → any (awaited x) ks ≡ true → number_of ks x < n
number_in x n [] a h e = no_way e
number_in x n (k ∷ ks) a h e = go (named x k) refl k.lacks refl e (λ f. number_in x n ks a.1 h.1 f)
  where
    go : (b : Bool) → named x k ≡ b → (c : Bool) → k.lacks ≡ c → ((b && c) || any (awaited x) ks) ≡ true
        → (any (awaited x) ks ≡ true → number_of ks x < n) → (if b then k.number else number_of ks x) < n
    go true f true g i r = h.0.1 (h.0.0 g)
    go true f false g i r = no_way (sym (other_name x k ks (same_bytes_lem x k.name f) a.0) ∙ i)
    go false f c g i r = r i

wanting-true : (n : ℕ) (b : Bool) → wanting n b ≡ none → b ≡ true
wanting-true n true e = refl
wanting-true n false e = not_some (sym e)

awaits : (a b : Bool) → b ≡ true → (if a then true else not b) ≡ true → a ≡ true
awaits true b i j = refl
awaits false b i j = no_way (sym (not-true b j) ∙ i)

called_number : {role : ℕ} {ks : List Known} {x : Name} {ss : List Symbol} (n : ℕ) → Sorted ks n → Calling role ks x (body_s ∷ ss)
    → any (named x) ks ≡ true → number_of ks x < n
unfolding trouble
called_number n h (silent f) e = no_way f
called_number {ks = ks} {x = x} n h (called f g) e =
    number_in x n ks h.apart h.each
    (awaits (any (awaited x) ks) (any (named x) ks) e (wanting-true No.AGAIN _ f))

top_body : (us : List Symbol) → top_of us ≡ body_s → (ss : List Symbol) × (us ≡ body_s ∷ ss)
top_body [] e = let z : Sort.TEXT ≡ Sort.BODY = ap sort_of e in absurd (omega (arith, z))
top_body (s ∷ ss) e = (ss, ap (λ x. x ∷ ss) e)

-- The body blocks of classes stand among the declarations.
places_within : (n c : ℕ) (xs : List Item) → c < length (places_from n xs)
    → get_or (places_from n xs) c 0 + 2 ≤ n + length (joined xs)
places_within n c [] l = absurd (omega arith)
places_within n zero (a_class a b ∷ xs) l = omega (arith, length-append (item_bytes (a_class a b)) (joined xs))
places_within n (suc c) (a_class a b ∷ xs) l =
    omega (arith, places_within (n + 6) c xs (omega arith), length-append (item_bytes (a_class a b)) (joined xs))
places_within n c (another k bs ∷ xs) l =
    omega (arith, places_within (n + length (headed k bs)) c xs l, length-append (headed k bs) (joined xs))

places_stand : {z : M.Sheet} → Written z → (c : ℕ) → c < length z.class_at → get_or z.class_at c 0 + 2 ≤ length z.declared
places_stand w c l =
    omega (
      arith,
      ap length w.declared,
      ap (λ (xs : List ℕ). get_or xs c 0) w.places,
      places_within 0 c w.items (omega (arith, ap length w.places)),
    )

module _ (m : Reader) (h : Ready m) (s : ℕ) (e : symbol_of s ≡ top_of (stack_of m.pile))
    (b : sort_of (symbol_of s) ≡ Sort.BODY) where
  abbrev r : Machine.Reader
  r = reader_of m

  flat : length m.sheet.levels ≡ 0
  flat =
      let p = top_body (stack_of m.pile) (sym e ∙ is_body (symbol_of s) b) in
      let st = (roomy h.comes).held.stage in
      stage_body (subst (λ (us : List Symbol). Stage r.draft.role r.draft.kind (deepness r.sheet) (roomy h.comes).held.q
      (roomy h.comes).held.l us) p.1 st)

  numbered : is_known r ≡ true → number_of r.known r.called < length m.sheet.class_at
  numbered k =
      let p = top_body (stack_of m.pile) (sym e ∙ is_body (symbol_of s) b) in
      let c = subst (λ (us : List Symbol). Calling r.draft.role r.known r.called us) p.1 (fine h.comes).calling in
      called_number (length m.sheet.class_at) (fine h.comes).sorted c k

  standing : (c : ℕ) → c < length m.sheet.class_at → get_or m.sheet.class_at c 0 + 2 ≤ length m.sheet.declared
  standing = places_stand (all_written h.comes)

  pub ready_titled : (o : Code.Option ℕ) → o ≡ (if is_known r then Some (number_of r.known r.called) else None)
      → Titled m.sheet o
  ready_titled o f = rw f (go (is_known r) refl)
    where
      go : (t : Bool) → is_known r ≡ t → Titled m.sheet (if t then Some (number_of r.known r.called) else None)
      go true k = record { flat = flat; has = numbered k; placed = standing _ (numbered k) }
      go false k = record { flat = flat; has = tt; placed = tt }
