-- How the tree of a text grows from cut to cut: a line is put at its open end, and what that does to its spelling.
-- Assumes nothing.
use Rattle.std.specs.Prelude.{ℕ, zero, suc, ◌+◌, ◌≡◌, refl, List, [], ◌∷◌, ◌++◌, Bool, true, false, ◌⊎◌, length, if◌then◌else◌}
use Rattle.std.proofs.Common.{arith, sym, ◌∙◌, ap, ap₂, subst, append_assoc, inl, inr, length-append}
use Rattle.std.proofs.Math.Option.{Option, none, some}
use Rattle.promises.specs.Laws.{not_some, if_has, AllOf}
use Rattle.semantics.specs.Model as M
use Rattle.text_semantics.specs.Token as Tk
use Rattle.text_semantics.specs.Token.{Token, mark}
use Rattle.text_semantics.specs.Numbers as No
use Rattle.text_semantics.specs.Grammar as G
use Rattle.text_semantics.specs.Grammar.{Name, Claim, Kind, Act, Locals, Few, Declaration, Text, spell_claim, to_brace, spell_act}
use Rattle.text_semantics.specs.Grammar.{spell, spell_signed, spell_item, spell_items, spell_given, spell_gives, spell_few, relation}
use Rattle.text_semantics.specs.Grammar.{spell_locals, declare, spell_text, digits}
use Rattle.text_semantics.specs.Answer.{is_cut, tree_in}
use Rattle.text_semantics.specs.Table.{right, Values}
use Rattle.text_semantics.specs.Reading.{Symbol, Of, say, step, some_of, reading, text_s}
use Rattle.text_promises.specs.Tables.{piled, pushed, and_then, fits_piled, piled_completes}
use Rattle.text_promises.specs.Readings.{reads_written, one_reading}
use Rattle.text_promises.specs.Plain.{Plain, act_plain, declare_plain, locals_plain, claimed, behind}
use Rattle.text_agrees.specs.Closing.{closers, Closing, bottom, in_actions, in_try as in_try_s, in_lines, many, cut_closing}
use Rattle.text_agrees.specs.Closing.{cut_spelled}

-- WHAT A LINE BRINGS: an action, of which only the first brace is open, or none; so many braces.
pub data Fresh : Act G.action → ℕ → Type 0 where
  hold : (e : G.Expression) → Fresh (G.hold e) 0
  priority : (e : G.Expression) → Fresh (G.priority e) 0
  trace : (e : G.Expression) → Fresh (G.trace e) 0
  set : (x : Name) (e : G.Expression) → Fresh (G.set x e) 0
  put_r : (x : Name) (n : G.Number) → Fresh (G.put_r x n) 0
  put_b : (x : Name) (n : G.Number) → Fresh (G.put_b x n) 0
  put_s : (x : Name) (n : G.Count) → Fresh (G.put_s x n) 0
  become : (x : Name) → Fresh (G.become x) 0
  req : (c : Claim) → Fresh (G.req c) 0
  start : (x : Name) (n : G.Number) (g : G.Gives) → Fresh (G.start x n g) 0
  close : Fresh G.close 0
  repeat : (n : G.Count) → Fresh (G.repeat n G.no_actions) 1
  try : (c : Claim) → Fresh (G.try c G.no_actions G.no_branches) 1
  while : (c : Claim) → Fresh (G.while c G.no_actions) 1

-- An action, or one more branch of a try.
pub data New : Type 0 where
  act : {a : Act G.action} {j : ℕ} → Fresh a j → New
  branch : Claim → New

abbrev pub spell_new : New → List Token → List Token
spell_new (act {a = a} f) r = spell_act a r
spell_new (branch c) r = spell_act (G.etry c G.no_actions G.no_branches) r

-- WHERE IT IS PUT: at the end of what is n braces deep at the end of a tree.
pub data Put : (k : Kind) → New → ℕ → Act k → Act k → Type 0 where
  in_do : {x : New} {n : ℕ} {a b : Act G.actions} (m : G.Count) → Put G.actions x n a b →
      Put G.action x (suc n) (G.repeat m a) (G.repeat m b)
  in_while : {x : New} {n : ℕ} {a b : Act G.actions} (c : Claim) → Put G.actions x n a b →
      Put G.action x (suc n) (G.while c a) (G.while c b)
  in_try : {x : New} {n : ℕ} {a b : Act G.actions} (c : Claim) → Put G.actions x n a b →
      Put G.action x (suc n) (G.try c a G.no_branches) (G.try c b G.no_branches)
  in_branches : {x : New} {n : ℕ} {a b : Act G.branches} (c : Claim) (d : Act G.actions) → Put G.branches x n a b →
      Put G.action x n (G.try c d a) (G.try c d b)
  new_branch : (c : Claim) → Put G.branches (branch c) 0 G.no_branches (G.etry c G.no_actions G.no_branches)
  in_branch : {x : New} {n : ℕ} {a b : Act G.actions} (c : Claim) → Put G.actions x n a b →
      Put G.branches x (suc n) (G.etry c a G.no_branches) (G.etry c b G.no_branches)
  more_branches : {x : New} {n : ℕ} {a b : Act G.branches} (c : Claim) (d : Act G.actions) → Put G.branches x n a b →
      Put G.branches x n (G.etry c d a) (G.etry c d b)
  new_action : {a : Act G.action} {j : ℕ} (f : Fresh a j) → Put G.actions (act f) 0 G.no_actions (G.follow a G.no_actions)
  in_last : {x : New} {n : ℕ} {a b : Act G.action} → Put G.action x n a b →
      Put G.actions x n (G.follow a G.no_actions) (G.follow b G.no_actions)
  further : {x : New} {n : ℕ} {a b : Act G.actions} (c : Act G.action) → Put G.actions x n a b →
      Put G.actions x n (G.follow c a) (G.follow c b)

-- One spelling behind the other.
two : (f g : List Token → List Token) → Plain f → Plain g → Plain (λ r. f (g r))
two f g p q r =
    p (g r) ∙ ap (λ l. f [] ++ l) (q r) ∙ sym (append_assoc (f []) (g []) r) ∙ ap (λ l. l ++ r) (sym (p (g [])))

-- What is spelled before it.
unfoldable pub before : {x : New} {k : Kind} {n : ℕ} {a b : Act k} → Put k x n a b → List Token → List Token
before (in_do m p) r = mark Tk.DO ∷ digits m (mark Tk.LB ∷ before p r)
before (in_while c p) r = mark Tk.WHILE ∷ mark Tk.LS ∷ spell_claim c (mark Tk.LB ∷ before p r)
before (in_try c p) r = to_brace Tk.TRY c (before p r)
before (in_branches c d p) r = to_brace Tk.TRY c (spell_act d (mark Tk.RB ∷ before p r))
before (new_branch c) r = r
before (in_branch c p) r = to_brace Tk.ETRY c (before p r)
before (more_branches c d p) r = to_brace Tk.ETRY c (spell_act d (mark Tk.RB ∷ before p r))
before (new_action f) r = r
before (in_last p) r = before p r
before (further c p) r = spell_act c (before p r)

pub before_plain : {x : New} {k : Kind} {n : ℕ} {a b : Act k} (p : Put k x n a b) → Plain (before p)
unfolding before
before_plain (in_do m p) = behind (mark Tk.DO ∷ digits m (mark Tk.LB ∷ [])) (before p) (before_plain p)
before_plain (in_while c p) =
    two (λ r. mark Tk.WHILE ∷ mark Tk.LS ∷ spell_claim c (mark Tk.LB ∷ r)) (before p) (claimed Tk.WHILE c (mark Tk.LB ∷ []))
    (before_plain p)
before_plain (in_try c p) =
    two (to_brace Tk.TRY c) (before p) (claimed Tk.TRY c (mark Tk.THEN ∷ mark Tk.LB ∷ [])) (before_plain p)
before_plain (in_branches c d p) =
    two (to_brace Tk.TRY c) (λ r. spell_act d (mark Tk.RB ∷ before p r)) (claimed Tk.TRY c (mark Tk.THEN ∷ mark Tk.LB ∷ []))
    (two (spell_act d) (λ r. mark Tk.RB ∷ before p r) (act_plain d) (behind (mark Tk.RB ∷ []) (before p) (before_plain p)))
before_plain (new_branch c) = λ r. refl
before_plain (in_branch c p) =
    two (to_brace Tk.ETRY c) (before p) (claimed Tk.ETRY c (mark Tk.THEN ∷ mark Tk.LB ∷ [])) (before_plain p)
before_plain (more_branches c d p) =
    two (to_brace Tk.ETRY c) (λ r. spell_act d (mark Tk.RB ∷ before p r)) (claimed Tk.ETRY c (mark Tk.THEN ∷ mark Tk.LB ∷ []))
    (two (spell_act d) (λ r. mark Tk.RB ∷ before p r) (act_plain d) (behind (mark Tk.RB ∷ []) (before p) (before_plain p)))
before_plain (new_action f) = λ r. refl
before_plain (in_last p) = before_plain p
before_plain (further c p) = two (spell_act c) (before p) (act_plain c) (before_plain p)

-- .. and behind: braces.
abbrev pub braces : ℕ → List Token → List Token
braces zero r = r
braces (suc n) r = braces n (mark Tk.RB ∷ r)

pub put_on : {x : New} {k : Kind} {n : ℕ} {a b : Act k} (p : Put k x n a b) (r : List Token) →
    (spell_act a r ≡ before p (braces n r)) × (spell_act b r ≡ before p (spell_new x (braces n r)))
unfolding before
put_on (in_do m p) r =
    let e = put_on p (mark Tk.RB ∷ r) in
    (ap (λ t. mark Tk.DO ∷ digits m (mark Tk.LB ∷ t)) e.0, ap (λ t. mark Tk.DO ∷ digits m (mark Tk.LB ∷ t)) e.1)
put_on (in_while c p) r =
    let e = put_on p (mark Tk.RB ∷ r) in (
      ap (λ t. mark Tk.WHILE ∷ mark Tk.LS ∷ spell_claim c (mark Tk.LB ∷ t)) e.0,
      ap (λ t. mark Tk.WHILE ∷ mark Tk.LS ∷ spell_claim c (mark Tk.LB ∷ t)) e.1,
    )
put_on (in_try c p) r =
    let e = put_on p (mark Tk.RB ∷ r) in (ap (λ t. to_brace Tk.TRY c t) e.0, ap (λ t. to_brace Tk.TRY c t) e.1)
put_on (in_branches c d p) r =
    let e = put_on p r in (
      ap (λ t. to_brace Tk.TRY c (spell_act d (mark Tk.RB ∷ t))) e.0,
      ap (λ t. to_brace Tk.TRY c (spell_act d (mark Tk.RB ∷ t))) e.1,
    )
put_on (new_branch c) r = (refl, refl)
put_on (in_branch c p) r =
    let e = put_on p (mark Tk.RB ∷ r) in (ap (λ t. to_brace Tk.ETRY c t) e.0, ap (λ t. to_brace Tk.ETRY c t) e.1)
put_on (more_branches c d p) r =
    let e = put_on p r in (
      ap (λ t. to_brace Tk.ETRY c (spell_act d (mark Tk.RB ∷ t))) e.0,
      ap (λ t. to_brace Tk.ETRY c (spell_act d (mark Tk.RB ∷ t))) e.1,
    )
put_on (new_action f) r = (refl, refl)
put_on (in_last p) r = put_on p r
put_on (further c p) r = let e = put_on p r in (ap (λ t. spell_act c t) e.0, ap (λ t. spell_act c t) e.1)

-- A TEXT: a declaration that ends its line, of which only the first brace is open, or none.
pub data Line : Declaration → ℕ → Type 0 where
  res : (x : Name) (n : G.Number) → Line (G.res x n) 0
  bin : (x : Name) (n : G.Number) → Line (G.bin x n) 0
  sync : (x : Name) → Line (G.sync x) 0
  var : (x : Name) (n : G.Signed) → Line (G.var x n) 0
  sampler : (x : Name) (a b : G.Signed) (n : G.Number) → Line (G.sampler x a b n) 0
  announced : (x : Name) → Line (G.class x G.announced) 0
  entity : (x : Name) (n : G.Number) → Line (G.entity x n) 0
  class : (x : Name) → Line (G.class x (G.body G.no_locals G.no_actions)) 1

abbrev pub ending : Text → Name → Locals → Act G.actions → Text
ending ds y l b = ds ++ (G.class y (G.body l b) ∷ [])

-- How a text grows by a line: a declaration, the locals of its last class, or something in the body of that.
pub data Grows : Text → Text → Type 0 where
  declared : (ds : Text) {d : Declaration} {j : ℕ} → Line d j → Grows ds (ds ++ (d ∷ []))
  local : (ds : Text) (y x : Name) (xs : Few No.more_locals) →
      Grows (ending ds y G.no_locals G.no_actions) (ending ds y (G.locals x xs) G.no_actions)
  within : (ds : Text) (y : Name) (l : Locals) {x : New} {n : ℕ} {a b : Act G.actions} → Put G.actions x n a b →
      Grows (ending ds y l a) (ending ds y l b)

-- The spelling of declarations.
abbrev pub lines : Text → List Token → List Token
lines [] r = r
lines (d ∷ ds) r = declare d (lines ds r)

pub lines_append : (ds es : Text) (r : List Token) → lines (ds ++ es) r ≡ lines ds (lines es r)
lines_append [] es r = refl
lines_append (d ∷ ds) es r = ap (λ t. declare d t) (lines_append ds es r)

pub lines_last : (ds : Text) (d : Declaration) → spell_text (ds ++ (d ∷ [])) [] ≡ lines ds (declare d (mark Tk.END ∷ []))
lines_last [] d = refl
lines_last (c ∷ ds) d = ap (λ t. declare c t) (lines_last ds d)

lines_end : (ds : Text) → spell_text ds [] ≡ lines ds (mark Tk.END ∷ [])
lines_end [] = refl
lines_end (d ∷ ds) = ap (λ t. declare d t) (lines_end ds)

pub lines_plain : (ds : Text) → Plain (lines ds)
lines_plain [] = λ r. refl
lines_plain (d ∷ ds) = two (declare d) (lines ds) (declare_plain d) (lines_plain ds)

-- What is spelled before something in the body of the last class, and behind it.
abbrev pub ahead : (ds : Text) (y : Name) (l : Locals) {x : New} {n : ℕ} {a b : Act G.actions} → Put G.actions x n a b →
    List Token → List Token
ahead ds y l p r = lines ds (mark Tk.CLASS ∷ Tk.name y ∷ mark Tk.LB ∷ spell_locals l (before p r))

pub ahead_plain : (ds : Text) (y : Name) (l : Locals) {x : New} {n : ℕ} {a b : Act G.actions} (p : Put G.actions x n a b) →
    Plain (ahead ds y l p)
ahead_plain ds y l p =
    two (lines ds) (λ r. mark Tk.CLASS ∷ Tk.name y ∷ mark Tk.LB ∷ spell_locals l (before p r)) (lines_plain ds)
    (behind (mark Tk.CLASS ∷ Tk.name y ∷ mark Tk.LB ∷ []) (λ r. spell_locals l (before p r))
    (two (spell_locals l) (before p) (locals_plain l) (before_plain p)))

braces_later : (n : ℕ) (r : List Token) → braces n (mark Tk.RB ∷ r) ≡ mark Tk.RB ∷ braces n r
braces_later zero r = refl
braces_later (suc n) r = braces_later n (mark Tk.RB ∷ r)

braces-closers : (n : ℕ) → braces n (mark Tk.RB ∷ mark Tk.END ∷ []) ≡ closers (suc n)
unfolding closers
braces-closers zero = refl
braces-closers (suc n) = braces_later n (mark Tk.RB ∷ mark Tk.END ∷ []) ∙ ap (λ t. mark Tk.RB ∷ t) (braces-closers n)

pub within_spelled : (ds : Text) (y : Name) (l : Locals) {x : New} {n : ℕ} {a b : Act G.actions} (p : Put G.actions x n a b) →
    (spell_text (ending ds y l a) [] ≡ ahead ds y l p (closers (suc n)))
    × (spell_text (ending ds y l b) [] ≡ ahead ds y l p (spell_new x (closers (suc n))))
within_spelled ds y l {x = x} {n = n} p =
    let e = put_on p (mark Tk.RB ∷ mark Tk.END ∷ []) in
    let c = braces-closers n in
    let f : List Token → List Token = λ t. lines ds (mark Tk.CLASS ∷ Tk.name y ∷ mark Tk.LB ∷ spell_locals l t) in (
      lines_last ds _ ∙ ap f e.0 ∙ ap (λ t. ahead ds y l p t) c,
      lines_last ds _ ∙ ap f e.1 ∙ ap (λ t. ahead ds y l p (spell_new x t)) c,
    )

-- EVERY TREE ENDS with a line: nothing is in it, it is a fresh action, or something was put into it.
data Ends : (k : Kind) → Act k → Type 0 where
  no_action : Ends G.actions G.no_actions
  no_branch : Ends G.branches G.no_branches
  fresh : {a : Act G.action} {j : ℕ} → Fresh a j → Ends G.action a
  last : {k : Kind} {x : New} {n : ℕ} {a b : Act k} → Put k x n a b → Ends k b

end_do : (n : G.Count) {b : Act G.actions} → Ends G.actions b → Ends G.action (G.repeat n b)
end_do n no_action = fresh (repeat n)
end_do n (last p) = last (in_do n p)

end_while : (c : Claim) {b : Act G.actions} → Ends G.actions b → Ends G.action (G.while c b)
end_while c no_action = fresh (while c)
end_while c (last p) = last (in_while c p)

end_first : (c : Claim) {b : Act G.actions} → Ends G.actions b → Ends G.action (G.try c b G.no_branches)
end_first c no_action = fresh (try c)
end_first c (last p) = last (in_try c p)

end_try : (c : Claim) {b : Act G.actions} {bs : Act G.branches} → Ends G.actions b → Ends G.branches bs →
    Ends G.action (G.try c b bs)
end_try c e no_branch = end_first c e
end_try c {b} e (last p) = last (in_branches c b p)

end_branch : (c : Claim) {b : Act G.actions} → Ends G.actions b → Ends G.branches (G.etry c b G.no_branches)
end_branch c no_action = last (new_branch c)
end_branch c (last p) = last (in_branch c p)

end_etry : (c : Claim) {b : Act G.actions} {bs : Act G.branches} → Ends G.actions b → Ends G.branches bs →
    Ends G.branches (G.etry c b bs)
end_etry c e no_branch = end_branch c e
end_etry c {b} e (last p) = last (more_branches c b p)

end_one : {a : Act G.action} → Ends G.action a → Ends G.actions (G.follow a G.no_actions)
end_one (fresh f) = last (new_action f)
end_one (last p) = last (in_last p)

end_follow : {a : Act G.action} {b : Act G.actions} → Ends G.action a → Ends G.actions b → Ends G.actions (G.follow a b)
end_follow e no_action = end_one e
end_follow {a} e (last p) = last (further a p)

ends : {k : Kind} (a : Act k) → Ends k a
ends (G.hold e) = fresh (hold e)
ends (G.priority e) = fresh (priority e)
ends (G.trace e) = fresh (trace e)
ends (G.set x e) = fresh (set x e)
ends (G.repeat n b) = end_do n (ends b)
ends (G.put_r x n) = fresh (put_r x n)
ends (G.put_b x n) = fresh (put_b x n)
ends (G.put_s x n) = fresh (put_s x n)
ends (G.become x) = fresh (become x)
ends (G.req c) = fresh (req c)
ends (G.try c b bs) = end_try c (ends b) (ends bs)
ends (G.while c b) = end_while c (ends b)
ends (G.start x n g) = fresh (start x n g)
ends G.close = fresh close
ends G.no_branches = no_branch
ends (G.etry c b bs) = end_etry c (ends b) (ends bs)
ends G.no_actions = no_action
ends (G.follow a b) = end_follow (ends a) (ends b)

-- CUTS: what is behind each.
abbrev heard : List Token → List (List Token)
heard [] = []
heard (t ∷ ts) = if is_cut t then ts ∷ heard ts else heard ts

abbrev Clean : (List Token → List Token) → Type 0
Clean f = (r : List Token) → heard (f r) ≡ heard r

clean_ex : {p : G.Part} (v : G.Ex p) → Clean (spell v)
clean_ex (G.sum t ts) r = clean_ex t (spell ts r) ∙ clean_ex ts r
clean_ex G.no_terms r = refl
clean_ex (G.plus t ts) r = clean_ex t (spell ts r) ∙ clean_ex ts r
clean_ex (G.less t ts) r = clean_ex t (spell ts r) ∙ clean_ex ts r
clean_ex (G.product f fs) r = clean_ex f (spell fs r) ∙ clean_ex fs r
clean_ex G.no_factors r = refl
clean_ex (G.times f fs) r = clean_ex f (spell fs r) ∙ clean_ex fs r
clean_ex (G.literal n) r = refl
clean_ex (G.plain a) r = clean_ex a r
clean_ex (G.negative m) r = clean_ex m r
clean_ex (G.magnitude n) r = refl
clean_ex (G.negated a) r = clean_ex a r
clean_ex (G.again m) r = clean_ex m r
clean_ex (G.value x) r = refl
clean_ex G.clock r = refl
clean_ex (G.bracket e) r = clean_ex e (mark Tk.RP ∷ r)
clean_ex (G.lesser a b) r = clean_ex a (mark Tk.COMMA ∷ spell b (mark Tk.RP ∷ r)) ∙ clean_ex b (mark Tk.RP ∷ r)
clean_ex (G.greater a b) r = clean_ex a (mark Tk.COMMA ∷ spell b (mark Tk.RP ∷ r)) ∙ clean_ex b (mark Tk.RP ∷ r)

clean_signed : (n : G.Signed) → Clean (spell_signed n)
clean_signed (G.upward n) r = refl
clean_signed (G.downward n) r = refl

clean_relation : (k : M.Relation) (r : List Token) → heard (mark (relation k) ∷ r) ≡ heard r
clean_relation M.below r = refl
clean_relation M.at_most r = refl
clean_relation M.equals r = refl
clean_relation M.differs r = refl
clean_relation M.at_least r = refl
clean_relation M.above r = refl

clean_item : (i : G.Item) → Clean (spell_item i)
clean_item (G.get_r x n) r = refl
clean_item (G.get_b x n) r = refl
clean_item (G.get_s x n) r = refl
clean_item (G.condition x k n) r = clean_relation k (spell_signed n r) ∙ clean_signed n r

clean_items : (is : List G.Item) → Clean (spell_items is)
clean_items [] r = refl
clean_items (i ∷ is) r = clean_item i (spell_items is r) ∙ clean_items is r

clean_claim : (c : Claim) → Clean (spell_claim c)
clean_claim G.nothing r = refl
clean_claim (G.claim i is) r = clean_item i (spell_items is (mark Tk.RS ∷ r)) ∙ clean_items is (mark Tk.RS ∷ r)

clean_given : (gs : List G.Give) → Clean (spell_given gs)
clean_given [] r = refl
clean_given (G.give x n ∷ gs) r = clean_given gs r

clean_gives : (g : G.Gives) → Clean (spell_gives g)
clean_gives G.no_gives r = refl
clean_gives (G.gives x n gs) r = clean_given gs (mark Tk.RS ∷ r)

clean_few : {k : ℕ} (xs : Few k) → Clean (spell_few xs)
clean_few G.no_names r = refl
clean_few (G.also x xs) r = clean_few xs r

-- A line has one.
fresh_heard : {a : Act G.action} {j : ℕ} → Fresh a j → (r : List Token) → heard (spell_act a r) ≡ braces j r ∷ heard r
fresh_heard (hold e) r = clean_ex e (mark Tk.RP ∷ mark Tk.SEMI ∷ r)
fresh_heard (priority e) r = clean_ex e (mark Tk.RP ∷ mark Tk.SEMI ∷ r)
fresh_heard (trace e) r = clean_ex e (mark Tk.RP ∷ mark Tk.SEMI ∷ r)
fresh_heard (set x e) r = clean_ex e (mark Tk.SEMI ∷ r)
fresh_heard (put_r x n) r = refl
fresh_heard (put_b x n) r = refl
fresh_heard (put_s x n) r = refl
fresh_heard (become x) r = refl
fresh_heard (req c) r = clean_claim c (mark Tk.SEMI ∷ r)
fresh_heard (start x n g) r = clean_gives g (mark Tk.RP ∷ mark Tk.SEMI ∷ r)
fresh_heard close r = refl
fresh_heard (repeat n) r = refl
fresh_heard (try c) r = clean_claim c (mark Tk.THEN ∷ mark Tk.LB ∷ mark Tk.RB ∷ r)
fresh_heard (while c) r = clean_claim c (mark Tk.LB ∷ mark Tk.RB ∷ r)

abbrev pub opens : New → ℕ
opens (act {j = j} f) = j
opens (branch c) = 1

new_heard : (x : New) (r : List Token) → heard (spell_new x r) ≡ braces (opens x) r ∷ heard r
new_heard (act f) r = fresh_heard f r
new_heard (branch c) r = clean_claim c (mark Tk.THEN ∷ mark Tk.LB ∷ mark Tk.RB ∷ r)

line_heard : {d : Declaration} {j : ℕ} → Line d j → (r : List Token) → heard (declare d r) ≡ braces j r ∷ heard r
line_heard (res x n) r = refl
line_heard (bin x n) r = refl
line_heard (sync x) r = refl
line_heard (var x n) r = clean_signed n (mark Tk.RP ∷ mark Tk.SEMI ∷ r)
line_heard (sampler x a b n) r =
    clean_signed a (mark Tk.COMMA ∷ spell_signed b (mark Tk.COMMA ∷ digits n (mark Tk.RP ∷ mark Tk.SEMI ∷ r)))
    ∙ clean_signed b (mark Tk.COMMA ∷ digits n (mark Tk.RP ∷ mark Tk.SEMI ∷ r))
line_heard (announced x) r = refl
line_heard (entity x n) r = refl
line_heard (class x) r = refl

closers-heard : (n : ℕ) → heard (closers n) ≡ []
unfolding closers
closers-heard zero = refl
closers-heard (suc n) = closers-heard n

braces_more : (j n : ℕ) → braces j (closers n) ≡ closers (j + n)
unfolding closers
braces_more zero n = let e : n ≡ 0 + n = omega arith in ap closers e
braces_more (suc j) n = let e : j + suc n ≡ suc j + n = omega arith in braces_more j (suc n) ∙ ap closers e

-- A TEXT HAS A LAST LINE: what is spelled before it, and what it was without.
pub record LastLine (t : Text) : Type 0 where
  pub old : Text
  pub grows : Grows old t
  pub head : List Token
  pub line : List Token
  pub was : ℕ
  pub now : ℕ
  pub spelled : spell_text t [] ≡ head ++ line
  pub without : spell_text old [] ≡ head ++ closers was
  pub cut : heard line ≡ closers now ∷ []

one_heard : {l : List (List Token)} (j n : ℕ) → l ≡ braces j (closers n) ∷ heard (closers n) → l ≡ closers (j + n) ∷ []
one_heard j n e = e ∙ ap₂ (λ xs ys. xs ∷ ys) (braces_more j n) (closers-heard n)

unfoldable by_line : (ds : Text) {d : Declaration} {j : ℕ} → Line d j → LastLine (ds ++ (d ∷ []))
unfolding closers
by_line ds {d} {j} i =
    record {
      old = ds;
      grows = declared ds i;
      head = lines ds [];
      line = declare d (closers 0);
      was = 0;
      now = j + 0;
      spelled = lines_last ds d ∙ lines_plain ds (declare d (closers 0));
      without = lines_end ds ∙ lines_plain ds (closers 0);
      cut = one_heard j 0 (line_heard i (closers 0));
    }

unfoldable by_locals : (ds : Text) (y x : Name) (xs : Few No.more_locals) → LastLine (ending ds y (G.locals x xs) G.no_actions)
unfolding closers
by_locals ds y x xs =
    let f : List Token → List Token = λ r. lines ds (mark Tk.CLASS ∷ Tk.name y ∷ mark Tk.LB ∷ r) in
    let p : Plain f = two (lines ds) (λ r. mark Tk.CLASS ∷ Tk.name y ∷ mark Tk.LB ∷ r) (lines_plain ds) (λ r. refl) in
    record {
      old = ending ds y G.no_locals G.no_actions;
      grows = local ds y x xs;
      head = f [];
      line = spell_locals (G.locals x xs) (closers 1);
      was = 1;
      now = 1;
      spelled = lines_last ds _ ∙ p (spell_locals (G.locals x xs) (closers 1));
      without = lines_last ds _ ∙ p (closers 1);
      cut = clean_few xs (mark Tk.SEMI ∷ closers 1) ∙ refl;
    }

abbrev by_put : (ds : Text) (y : Name) (l : Locals) {x : New} {n : ℕ} {a b : Act G.actions} → Put G.actions x n a b →
    LastLine (ending ds y l b)
by_put ds y l {x = x} {n = n} {a = a} p =
    let e = within_spelled ds y l p in
    record {
      old = ending ds y l a;
      grows = within ds y l p;
      head = ahead ds y l p [];
      line = spell_new x (closers (suc n));
      was = suc n;
      now = opens x + suc n;
      spelled = e.1 ∙ ahead_plain ds y l p (spell_new x (closers (suc n)));
      without = e.0 ∙ ahead_plain ds y l p (closers (suc n));
      cut = one_heard (opens x) (suc n) (new_heard x (closers (suc n)));
    }

by_class : (ds : Text) (y : Name) (l : Locals) {b : Act G.actions} → Ends G.actions b → LastLine (ending ds y l b)
by_class ds y G.no_locals no_action = by_line ds (class y)
by_class ds y (G.locals x xs) no_action = by_locals ds y x xs
by_class ds y l (last p) = by_put ds y l p

by_last : (ds : Text) (d : Declaration) → LastLine (ds ++ (d ∷ []))
by_last ds (G.res x n) = by_line ds (res x n)
by_last ds (G.bin x n) = by_line ds (bin x n)
by_last ds (G.sync x) = by_line ds (sync x)
by_last ds (G.var x n) = by_line ds (var x n)
by_last ds (G.sampler x a b n) = by_line ds (sampler x a b n)
by_last ds (G.class x G.announced) = by_line ds (announced x)
by_last ds (G.class x (G.body l b)) = by_class ds x l (ends b)
by_last ds (G.entity x n) = by_line ds (entity x n)

pub data Snoc : Text → Type 0 where
  none_there : Snoc []
  one_last : (ds : Text) (d : Declaration) → Snoc (ds ++ (d ∷ []))

pub snoc : (t : Text) → Snoc t
snoc [] = none_there
snoc (d ∷ ds) = go (snoc ds)
  where
    go : {es : Text} → Snoc es → Snoc (d ∷ es)
    go none_there = one_last [] d
    go (one_last es c) = one_last (d ∷ es) c

pub last_line : (t : Text) → (t ≡ []) ⊎ LastLine t
last_line t = go (snoc t)
  where
    go : {u : Text} → Snoc u → (u ≡ []) ⊎ LastLine u
    go none_there = inl refl
    go (one_last ds d) = inr (by_last ds d)

-- So it has a last cut: behind that braces and the end come.
pub record LastCut (t : Text) : Type 0 where
  pub before : List Token
  pub at : Token
  pub cut : is_cut at ≡ true
  pub many : ℕ
  pub parts : spell_text t [] ≡ (before ++ (at ∷ [])) ++ closers many

heard_at : (ts zs : List Token) → heard ts ≡ zs ∷ [] →
    (us : List Token) × (c : Token) × (is_cut c ≡ true) × (ts ≡ us ++ (c ∷ zs))
heard_at [] zs e = let z : ◌≡◌ {A = ℕ} 0 1 = ap length e in absurd (omega arith)
heard_at (t ∷ ts) zs e = go (is_cut t) refl e (λ f. heard_at ts zs f)
  where
    go : (b : Bool) → is_cut t ≡ b → (if b then ts ∷ heard ts else heard ts) ≡ zs ∷ [] →
        (heard ts ≡ zs ∷ [] → (us : List Token) × (c : Token) × (is_cut c ≡ true) × (ts ≡ us ++ (c ∷ zs))) →
        (us : List Token) × (c : Token) × (is_cut c ≡ true) × (t ∷ ts ≡ us ++ (c ∷ zs))
    go true h f i = let g : ts ≡ zs = cc in ([], t, h, ap (λ us. t ∷ us) g)
    go false h f i = let a = i f in (t ∷ a.0, a.1, a.2, ap (λ us. t ∷ us) a.3)

pub last_cut : (t : Text) → (t ≡ []) ⊎ LastCut t
last_cut t = go (last_line t)
  where
    go : (t ≡ []) ⊎ LastLine t → (t ≡ []) ⊎ LastCut t
    go (inl e) = inl e
    go (inr l) =
        let a = heard_at l.line (closers l.now) l.cut in
        let us : List Token = l.head ++ a.0 in
        inr (record {
          before = us;
          at = a.1;
          cut = a.2;
          many = l.now;
          parts =
              l.spelled ∙ ap (λ ts. l.head ++ ts) a.3 ∙ sym (append_assoc l.head a.0 (a.1 ∷ closers l.now))
              ∙ sym (append_assoc us (a.1 ∷ []) (closers l.now));
        })

-- HOW MANY CUTS there are, and the last.
abbrev cuts : List Token → ℕ
cuts ts = length (heard ts)

cuts-append : (xs ys : List Token) → cuts (xs ++ ys) ≡ cuts xs + cuts ys
cuts-append [] ys = omega arith
cuts-append (x ∷ xs) ys = go (is_cut x) (cuts-append xs ys)
  where
    go : (b : Bool) → cuts (xs ++ ys) ≡ cuts xs + cuts ys →
        length (if b then (xs ++ ys) ∷ heard (xs ++ ys) else heard (xs ++ ys))
        ≡ length (if b then xs ∷ heard xs else heard xs) + cuts ys
    go true e = omega arith
    go false e = e

abbrev pub Uncut : List Token → Type 0
Uncut ts = AllOf (λ t. is_cut t ≡ false) ts

uncut : (ts : List Token) → cuts ts ≡ 0 → Uncut ts
uncut [] e = tt
uncut (t ∷ ts) e = go (is_cut t) refl e (λ f. uncut ts f)
  where
    go : (b : Bool) → is_cut t ≡ b → length (if b then ts ∷ heard ts else heard ts) ≡ 0 → (cuts ts ≡ 0 → Uncut ts) →
        (is_cut t ≡ false) × Uncut ts
    go true f g i = absurd (omega arith)
    go false f g i = (f, i g)

one_cut : (t : Token) → is_cut t ≡ true → (ts : List Token) → cuts (t ∷ ts) ≡ suc (cuts ts)
one_cut t h ts = rw h

-- A spelling with one cut in its last line.
head_of : (head ts : List Token) (t : Token) (line zs : List Token) → is_cut t ≡ true → cuts line ≡ 1 → cuts zs ≡ 0 →
    head ++ line ≡ (ts ++ (t ∷ [])) ++ zs → (hs : List Token) × (ts ≡ head ++ hs) × (cuts hs ≡ 0)
head_of [] ts t line zs h l z e =
    let a = ap cuts e in
    let b = cuts-append (ts ++ (t ∷ [])) zs in
    let c = cuts-append ts (t ∷ []) in
    let d = one_cut t h [] in
    (ts, refl, omega arith)
head_of (p ∷ head) [] t line zs h l z e =
    let f : head ++ line ≡ zs = cc in
    let a = ap cuts f in
    let b = cuts-append head line in
    absurd (omega arith)
head_of (p ∷ head) (q ∷ ts) t line zs h l z e =
    let f : head ++ line ≡ (ts ++ (t ∷ [])) ++ zs = cc in
    let g : p ≡ q = cc in
    let i = head_of head ts t line zs h l z f in
    (i.0, ap₂ (λ x xs. x ∷ xs) (sym g) i.1, i.2)

abbrev last_of : List Token → List (List Token) → List Token
last_of d [] = d
last_of d (z ∷ zs) = last_of z zs

last_heard : (xs ys : List Token) {z : List Token} (d : List Token) → heard ys ≡ z ∷ [] → last_of d (heard (xs ++ ys)) ≡ z
last_heard [] ys d e = rw e
last_heard (x ∷ xs) ys {z} d e =
    if_has (λ zs. last_of d zs ≡ z) (is_cut x) (λ f. last_heard xs ys (xs ++ ys) e) (λ f. last_heard xs ys d e)

none_heard : (ts : List Token) → cuts ts ≡ 0 → heard ts ≡ []
none_heard ts e = go (heard ts) e
  where
    go : (l : List (List Token)) → length l ≡ 0 → l ≡ []
    go [] f = refl
    go (x ∷ l) f = absurd (omega arith)

record Split (ts : List Token) : Type 0 where
  before : List Token
  at : Token
  behind : List Token
  parts : ts ≡ (before ++ (at ∷ [])) ++ behind
  cut : is_cut at ≡ true
  clean : cuts behind ≡ 0

split : (ts : List Token) → (cuts ts ≡ 0) ⊎ Split ts
split [] = inl refl
split (t ∷ ts) = go (split ts)
  where
    by : (b : Bool) → is_cut t ≡ b → cuts ts ≡ 0 → (cuts (t ∷ ts) ≡ 0) ⊎ Split (t ∷ ts)
    by true e n = inr (record { before = []; at = t; behind = ts; parts = refl; cut = e; clean = n })
    by false e n = inl (rw e n)

    go : (cuts ts ≡ 0) ⊎ Split ts → (cuts (t ∷ ts) ≡ 0) ⊎ Split (t ∷ ts)
    go (inl n) = by (is_cut t) refl n
    go (inr s) =
        inr (record {
          before = t ∷ s.before;
          at = s.at;
          behind = s.behind;
          parts = ap (λ xs. t ∷ xs) s.parts;
          cut = s.cut;
          clean = s.clean;
        })

-- HOW DEEP: behind a cut with m braces open, what comes before n of them is the tokens up to there, and braces.
closers_long : (n : ℕ) → length (closers n) ≡ suc n
unfolding closers
closers_long zero = omega arith
closers_long (suc n) = omega (arith, closers_long n)

-- So many braces are open behind a line.
abbrev pub opens_by : {old new : Text} → Grows old new → ℕ
opens_by (declared ds {j = j} i) = j
opens_by (local ds y x xs) = 1
opens_by (within ds y l {x = x} {n = n} p) = suc n + opens x

its_line : {old new : Text} (g : Grows old new) → (l : LastLine new) × (l.now ≡ opens_by g)
unfolding by_line by_locals
its_line (declared ds {j = j} i) = let e : j + 0 ≡ j = omega arith in (by_line ds i, e)
its_line (local ds y x xs) = (by_locals ds y x xs, refl)
its_line (within ds y l {x = x} {n = n} p) = let e : opens x + suc n ≡ suc n + opens x = omega arith in (by_put ds y l p, e)

pub grows_open : {old new : Text} (g : Grows old new) (us : List Token) (c : Token) → is_cut c ≡ true → (m : ℕ) →
    spell_text new [] ≡ (us ++ (c ∷ [])) ++ closers m → m ≡ opens_by g
grows_open g us c h m e =
    let l = its_line g in
    let o : heard (c ∷ closers m) ≡ closers m ∷ [] = rw h (ap (λ ys. closers m ∷ ys) (closers-heard m)) in
    let f : us ++ (c ∷ closers m) ≡ l.0.head ++ l.0.line =
    sym (append_assoc us (c ∷ []) (closers m)) ∙ sym e ∙ l.0.spelled in
    let n : closers m ≡ closers l.0.now =
    sym (last_heard us (c ∷ closers m) [] o) ∙ ap (λ ys. last_of [] (heard ys)) f
    ∙ last_heard l.0.head l.0.line [] l.0.cut in
    omega (arith, ap length n, closers_long m, closers_long l.0.now, l.1)

only_braces : (xs : List Token) (n m : ℕ) → xs ++ closers n ≡ closers m → (i : ℕ) × (m ≡ i + n) × (xs ≡ braces i [])
unfolding closers
only_braces [] n m e = (0, omega (arith, ap length e, closers_long n, closers_long m), refl)
only_braces (x ∷ xs) n zero e =
    let f : xs ++ closers n ≡ [] = cc in
    absurd (omega (arith, ap length f, length-append xs (closers n), closers_long n))
only_braces (x ∷ xs) n (suc m) e =
    let f : xs ++ closers n ≡ closers m = cc in
    let g : x ≡ mark Tk.RB = cc in
    let i = only_braces xs n m f in
    (suc i.0, omega (arith, i.1), ap₂ (λ y ys. y ∷ ys) g i.2 ∙ sym (braces_later i.0 []))

pub at_depth : (us : List Token) (c : Token) → is_cut c ≡ true → (xs : List Token) (n m : ℕ) →
    xs ++ closers n ≡ (us ++ (c ∷ [])) ++ closers m → (i : ℕ) × (m ≡ i + n) × (xs ≡ (us ++ (c ∷ [])) ++ braces i [])
at_depth us c h [] n m e =
    let a = ap cuts e in
    let b = cuts-append (us ++ (c ∷ [])) (closers m) in
    let d = cuts-append us (c ∷ []) in
    let f = one_cut c h [] in
    let g = ap length (closers-heard n) in
    absurd (omega arith)
at_depth [] c h (x ∷ xs) n m e =
    let f : xs ++ closers n ≡ closers m = cc in
    let g : x ≡ c = cc in
    let i = only_braces xs n m f in
    (i.0, i.1, ap₂ (λ y ys. y ∷ ys) g i.2)
at_depth (u ∷ us) c h (x ∷ xs) n m e =
    let f : xs ++ closers n ≡ (us ++ (c ∷ [])) ++ closers m = cc in
    let g : x ≡ u = cc in
    let i = at_depth us c h xs n m f in
    (i.0, i.1, ap₂ (λ y ys. y ∷ ys) g i.2)

braces_plain : (i : ℕ) → Plain (braces i)
braces_plain zero r = refl
braces_plain (suc i) r =
    braces_later i r ∙ ap (λ ys. mark Tk.RB ∷ ys) (braces_plain i r) ∙ ap (λ ys. ys ++ r) (sym (braces_later i []))

-- So a line is put behind i braces, of m that are open, into a block that is n deep in the body of the last class,
pub record PutAt (us : List Token) (m n : ℕ) (new : List Token) (t : Text) : Type 0 where
  pub closed : ℕ
  pub deep : m ≡ closed + n
  pub spelled : spell_text t [] ≡ us ++ braces closed new

pub within_at : (us : List Token) (c : Token) → is_cut c ≡ true → (m : ℕ) (ds : Text) (y : Name) (l : Locals) {x : New} {n : ℕ}
    {a b : Act G.actions} (p : Put G.actions x n a b) → spell_text (ending ds y l a) [] ≡ (us ++ (c ∷ [])) ++ closers m →
    PutAt (us ++ (c ∷ [])) m (suc n) (spell_new x (closers (suc n))) (ending ds y l b)
within_at us c h m ds y l {x = x} {n = n} p e =
    let new : List Token = spell_new x (closers (suc n)) in
    let w = within_spelled ds y l p in
    let i = at_depth us c h (ahead ds y l p []) (suc n) m (sym (ahead_plain ds y l p (closers (suc n))) ∙ sym w.0 ∙ e) in
    record {
      closed = i.0;
      deep = i.1;
      spelled =
          w.1 ∙ ahead_plain ds y l p new ∙ ap (λ ys. ys ++ new) i.2 ∙ append_assoc (us ++ (c ∷ [])) (braces i.0 []) new
          ∙ ap (λ ys. (us ++ (c ∷ [])) ++ ys) (sym (braces_plain i.0 new));
    }

-- and a declaration behind all of them.
pub declared_at : (us : List Token) (c : Token) → is_cut c ≡ true → (m : ℕ) (ds : Text) (d : Declaration) →
    spell_text ds [] ≡ (us ++ (c ∷ [])) ++ closers m → PutAt (us ++ (c ∷ [])) m 0 (declare d (closers 0)) (ds ++ (d ∷ []))
unfolding closers
declared_at us c h m ds d e =
    let new : List Token = declare d (closers 0) in
    let i = at_depth us c h (lines ds []) 0 m (sym (lines_plain ds (closers 0)) ∙ sym (lines_end ds) ∙ e) in
    record {
      closed = i.0;
      deep = i.1;
      spelled =
          lines_last ds d ∙ lines_plain ds new ∙ ap (λ ys. ys ++ new) i.2
          ∙ append_assoc (us ++ (c ∷ [])) (braces i.0 []) new
          ∙ ap (λ ys. (us ++ (c ∷ [])) ++ ys) (sym (braces_plain i.0 new));
    }

-- THE TREE AT A CUT is the only one that is spelled so, with braces and the end behind.
piled_then : (ts us : List Token) (zs : List Symbol) →
    piled Of say step (ts ++ us) zs ≡ and_then (piled Of say step ts zs) (λ ss. piled Of say step us ss)
unfolding piled
piled_then [] us zs = refl
piled_then (t ∷ ts) us zs = go (pushed Of say step t zs) (λ ss. piled_then ts us ss)
  where
    go : (o : Option (List Symbol)) →
        ((ss : List Symbol) → piled Of say step (ts ++ us) ss
        ≡ and_then (piled Of say step ts ss) (λ ys. piled Of say step us ys)) →
        and_then o (λ ss. piled Of say step (ts ++ us) ss)
        ≡ and_then (and_then o (λ ss. piled Of say step ts ss)) (λ ys. piled Of say step us ys)
    go none i = refl
    go (some ss) i = i ss

closers_fit : {ss : List Symbol} (c : Closing ss) (m : ℕ) → piled Of say step (closers m) ss ≡ some [] → m ≡ many c
unfolding closers piled
closers_fit bottom zero e = refl
closers_fit bottom (suc m) e = not_some e
closers_fit (in_actions c) zero e = not_some e
closers_fit (in_actions c) (suc m) e = ap suc (closers_fit c m e)
closers_fit (in_try_s c) zero e = not_some e
closers_fit (in_try_s c) (suc m) e = ap suc (closers_fit c m e)
closers_fit (in_lines c) zero e = not_some e
closers_fit (in_lines c) (suc m) e = ap suc (closers_fit c m e)

all_read : (ts : List Token) (v : Values Of (text_s ∷ [])) → reading ts ≡ right v → piled Of say step ts (text_s ∷ []) ≡ some []
unfolding reading
all_read ts v r = let f = fits_piled Of say step some_of ts (text_s ∷ []) (rw r tt) in closes f.0 f.1
  where
    closes : (zs : List Symbol) → piled Of say step ts (text_s ∷ []) ≡ some zs → piled Of say step ts (text_s ∷ []) ≡ some []
    closes zs g =
        let n : zs ≡ [] = rw r at (piled_completes Of say step some_of ts (text_s ∷ []) zs g).closed in
        g ∙ ap (λ (ys : List Symbol). some ys) n

pub tree_at_cut : (ts : List Token) (t : Token) {ss : List Symbol} → is_cut t ≡ true →
    piled Of say step (ts ++ (t ∷ [])) (text_s ∷ []) ≡ some ss → (u : Text) (m : ℕ) →
    spell_text u [] ≡ (ts ++ (t ∷ [])) ++ closers m → u ≡ tree_in (reading (ts ++ (t ∷ [])))
tree_at_cut ts t {ss = ss} h e u m s =
    let us : List Token = ts ++ (t ∷ []) in
    let c = cut_closing ts t h e in
    let p : piled Of say step (closers m) ss ≡ some [] =
    ap (λ o. and_then o (λ (zs : List Symbol). piled Of say step (closers m) zs)) (sym e)
    ∙ sym (piled_then us (closers m) (text_s ∷ [])) ∙ all_read (us ++ closers m) (u, tt) (ap reading (sym s) ∙ reads_written u) in
    let q : m ≡ many c = closers_fit c m p in
    one_reading u (tree_in (reading us)) (s ∙ ap (λ (j : ℕ). us ++ closers j) q ∙ sym (cut_spelled (λ n. n) ts t ss h e))

-- FROM CUT TO CUT the tree grows by a line: from nothing, or from the tree at the cut before.
pub data Stepped (ts : List Token) (u : Text) : Type 0 where
  from_nothing : Uncut ts → Grows [] u → Stepped ts u
  from_cut : (us : List Token) (c : Token) (vs : List Token) → is_cut c ≡ true → ts ≡ (us ++ (c ∷ [])) ++ vs → Uncut vs →
      Grows (tree_in (reading (us ++ (c ∷ [])))) u → Stepped ts u

pub some_before : (ts us : List Token) {ss : List Symbol} → piled Of say step (ts ++ us) (text_s ∷ []) ≡ some ss →
    (zs : List Symbol) × (piled Of say step ts (text_s ∷ []) ≡ some zs)
some_before ts us {ss = ss} e =
    go (piled Of say step ts (text_s ∷ [])) refl (sym (piled_then ts us (text_s ∷ [])) ∙ e)
  where
    go : (o : Option (List Symbol)) → piled Of say step ts (text_s ∷ []) ≡ o →
        and_then o (λ (zs : List Symbol). piled Of say step us zs) ≡ some ss →
        (zs : List Symbol) × (piled Of say step ts (text_s ∷ []) ≡ some zs)
    go none f g = not_some g
    go (some zs) f g = (zs, f)

module _ (ts : List Token) (t : Token) (ss : List Symbol) (h : is_cut t ≡ true)
    (e : piled Of say step (ts ++ (t ∷ [])) (text_s ∷ []) ≡ some ss) where
  abbrev here_tree : Text
  here_tree = tree_in (reading (ts ++ (t ∷ [])))

  here_spelled : spell_text here_tree [] ≡ (ts ++ (t ∷ [])) ++ closers (many (cut_closing ts t h e))
  here_spelled = cut_spelled (λ n. n) ts t ss h e

  -- Without a line it has no cut,
  some_line : here_tree ≡ [] → ⊥
  some_line n =
      let a = ap cuts (sym here_spelled ∙ ap (λ u. spell_text u []) n) in
      let b = cuts-append (ts ++ (t ∷ [])) (closers (many (cut_closing ts t h e))) in
      let c = cuts-append ts (t ∷ []) in
      let d = one_cut t h [] in
      omega arith

  module _ (l : LastLine here_tree) (hs : List Token) (p : ts ≡ l.head ++ hs) (z : cuts hs ≡ 0) where
    from_none : l.old ≡ [] → Stepped ts here_tree
    from_none n =
        let a = ap cuts (sym l.without ∙ ap (λ u. spell_text u []) n) in
        let b = cuts-append l.head (closers l.was) in
        let c = ap cuts p in
        let d = cuts-append l.head hs in
        from_nothing (uncut ts (omega arith)) (subst (λ u. Grows u here_tree) n l.grows)

    -- and where that was put to a line, that has one.
    no_cut : LastLine l.old → cuts l.head ≡ 0 → ⊥
    no_cut o n =
        let a = ap cuts (sym l.without ∙ o.spelled) in
        let b = cuts-append l.head (closers l.was) in
        let c = cuts-append o.head o.line in
        let d = ap length (closers-heard l.was) in
        let f = ap length o.cut in
        omega arith

    module _ (o : LastLine l.old) (s : Split l.head) where
      rest_closes : s.behind ++ closers l.was ≡ closers o.now
      rest_closes =
          let xs : List Token = s.behind ++ closers l.was in
          let n : cuts xs ≡ 0 =
          omega (arith, cuts-append s.behind (closers l.was), ap length (closers-heard l.was), s.clean) in
          let g : heard (s.at ∷ xs) ≡ xs ∷ [] = rw s.cut (ap (λ ys. xs ∷ ys) (none_heard xs n)) in
          let f : s.before ++ (s.at ∷ xs) ≡ o.head ++ o.line =
          sym (append_assoc s.before (s.at ∷ []) xs)
          ∙ sym (append_assoc (s.before ++ (s.at ∷ [])) s.behind (closers l.was))
          ∙ ap (λ ys. ys ++ closers l.was) (sym s.parts) ∙ sym l.without ∙ o.spelled in
          sym (last_heard s.before (s.at ∷ xs) [] g) ∙ ap (λ ys. last_of [] (heard ys)) f
          ∙ last_heard o.head o.line [] o.cut

      from_last : Stepped ts here_tree
      from_last =
          let us : List Token = s.before ++ (s.at ∷ []) in
          let q : ts ≡ us ++ (s.behind ++ hs) =
          p ∙ ap (λ ys. ys ++ hs) s.parts ∙ append_assoc us s.behind hs in
          let r = some_before us ((s.behind ++ hs) ++ (t ∷ []))
          (ap (λ ys. piled Of say step ys (text_s ∷ []))
          (sym (append_assoc us (s.behind ++ hs) (t ∷ [])) ∙ ap (λ ys. ys ++ (t ∷ [])) (sym q))
          ∙ e) in
          let w : spell_text l.old [] ≡ us ++ closers o.now =
          l.without ∙ ap (λ ys. ys ++ closers l.was) s.parts ∙ append_assoc us s.behind (closers l.was)
          ∙ ap (λ ys. us ++ ys) rest_closes in
          from_cut s.before s.at (s.behind ++ hs) s.cut q
          (uncut (s.behind ++ hs) (omega (arith, cuts-append s.behind hs, s.clean)))
          (subst (λ u. Grows u here_tree) (tree_at_cut s.before s.at s.cut r.1 l.old o.now w) l.grows)

    from_old : (l.old ≡ []) ⊎ LastLine l.old → (cuts l.head ≡ 0) ⊎ Split l.head → Stepped ts here_tree
    from_old (inl n) s = from_none n
    from_old (inr o) (inl n) = absurd (no_cut o n)
    from_old (inr o) (inr s) = from_last o s

  stepped : (here_tree ≡ []) ⊎ LastLine here_tree → Stepped ts here_tree
  stepped (inl n) = absurd (some_line n)
  stepped (inr l) =
      let k : ℕ = many (cut_closing ts t h e) in
      let q = head_of l.head ts t l.line (closers k) h (ap length l.cut) (ap length (closers-heard k))
      (sym l.spelled ∙ here_spelled) in
      from_old l q.0 q.1 q.2 (last_line l.old) (split l.head)

  pub cut_grows : Stepped ts (tree_in (reading (ts ++ (t ∷ []))))
  cut_grows = stepped (last_line here_tree)
