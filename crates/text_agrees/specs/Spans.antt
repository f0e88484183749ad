-- How many tokens stand before what follows: as the machine counts them, and as the definitions do.
-- Assumes nothing.
use Rattle.std.specs.Prelude.{ℕ, suc, ◌+◌, ◌≡◌, List, [], ◌∷◌, length}
use Rattle.std.proofs.Common.{arith}
use Rattle.text_semantics.specs.Token.{Token, mark}
use Rattle.text_semantics.specs.Token as Tk
use Rattle.text_semantics.specs.Grammar as G
use Rattle.text_semantics.specs.Grammar.{Part, Ex, Kind, Act, spell, spell_signed, spell_item, spell_items, spell_claim, spell_given}
use Rattle.text_semantics.specs.Grammar.{spell_gives, spell_act}
use Rattle.text_semantics.specs.Meaning.{to_do, to_while, to_try, in_tokens, in_braces}
use Rattle.text_agrees.specs.Expressions.{past}
use Rattle.text_agrees.specs.Claims.{past_signed, past_item, past_items, past_claim}
use Rattle.text_agrees.specs.Starts.{past_given, past_gives}
use Rattle.text_agrees.specs.Actions.{past_act}

past_span : {p : Part} (e : Ex p) (n : ℕ) (ts : List Token) → past e n + length ts ≡ n + length (spell e ts)
past_span (G.sum t ts) n r = let a = past_span t n (spell ts r) in let b = past_span ts (past t n) r in omega arith
past_span G.no_terms n r = omega arith
past_span (G.plus t ts) n r = let a = past_span t (suc n) (spell ts r) in let b = past_span ts (past t (suc n)) r in omega arith
past_span (G.less t ts) n r = let a = past_span t (suc n) (spell ts r) in let b = past_span ts (past t (suc n)) r in omega arith
past_span (G.product f fs) n r = let a = past_span f n (spell fs r) in let b = past_span fs (past f n) r in omega arith
past_span G.no_factors n r = omega arith
past_span (G.times f fs) n r = let a = past_span f (suc n) (spell fs r) in let b = past_span fs (past f (suc n)) r in omega arith
past_span (G.literal x) n r = omega arith
past_span (G.plain a) n r = past_span a n r
past_span (G.negative m) n r = let a = past_span m (suc n) r in omega arith
past_span (G.magnitude x) n r = omega arith
past_span (G.negated a) n r = past_span a n r
past_span (G.again m) n r = let a = past_span m (suc n) r in omega arith
past_span (G.value x) n r = omega arith
past_span G.clock n r = omega arith
past_span (G.bracket e) n r = let a = past_span e (suc n) (mark Tk.RP ∷ r) in omega arith
past_span (G.lesser a b) n r =
    let x = past_span a (suc (suc n)) (mark Tk.COMMA ∷ spell b (mark Tk.RP ∷ r)) in
    let y = past_span b (suc (past a (suc (suc n)))) (mark Tk.RP ∷ r) in omega arith
past_span (G.greater a b) n r =
    let x = past_span a (suc (suc n)) (mark Tk.COMMA ∷ spell b (mark Tk.RP ∷ r)) in
    let y = past_span b (suc (past a (suc (suc n)))) (mark Tk.RP ∷ r) in omega arith

pub signed_span : (z : G.Signed) (n : ℕ) (ts : List Token) → past_signed z n + length ts ≡ n + length (spell_signed z ts)
signed_span (G.upward x) n r = omega arith
signed_span (G.downward x) n r = omega arith

item_span : (i : G.Item) (n : ℕ) (ts : List Token) → past_item i n + length ts ≡ n + length (spell_item i ts)
item_span (G.get_r x v) n r = omega arith
item_span (G.get_b x v) n r = omega arith
item_span (G.get_s x v) n r = omega arith
item_span (G.condition x k z) n r = let a = signed_span z (suc (suc n)) r in omega arith

items_span : (is : List G.Item) (n : ℕ) (ts : List Token) → past_items is n + length ts ≡ n + length (spell_items is ts)
items_span [] n r = omega arith
items_span (i ∷ is) n r =
    let a = item_span i (suc n) (spell_items is r) in let b = items_span is (past_item i (suc n)) r in omega arith

claim_span : (c : G.Claim) (n : ℕ) (ts : List Token) → past_claim c n + length ts ≡ n + length (spell_claim c ts)
claim_span G.nothing n r = omega arith
claim_span (G.claim i is) n r =
    let a = item_span i n (spell_items is (mark Tk.RS ∷ r)) in
    let b = items_span is (past_item i n) (mark Tk.RS ∷ r) in omega arith

given_span : (gs : List G.Give) (n : ℕ) (ts : List Token) → past_given gs n + length ts ≡ n + length (spell_given gs ts)
given_span [] n r = omega arith
given_span (G.give x v ∷ gs) n r = let a = given_span gs (suc (suc (suc (suc (suc (suc n)))))) r in omega arith

gives_span : (g : G.Gives) (n : ℕ) (ts : List Token) → past_gives g n + length ts ≡ n + length (spell_gives g ts)
gives_span G.no_gives n r = omega arith
gives_span (G.gives x v gs) n r =
    let a = given_span gs (suc (suc (suc (suc (suc (suc (suc n))))))) (mark Tk.RS ∷ r) in omega arith

pub act_span : {k : Kind} (a : Act k) (n : ℕ) (ts : List Token) → past_act a n + length ts ≡ n + length (spell_act a ts)
act_span (G.hold e) n r = let a = past_span e (suc (suc n)) (mark Tk.RP ∷ mark Tk.SEMI ∷ r) in omega arith
act_span (G.priority e) n r = let a = past_span e (suc (suc n)) (mark Tk.RP ∷ mark Tk.SEMI ∷ r) in omega arith
act_span (G.trace e) n r = let a = past_span e (suc (suc n)) (mark Tk.RP ∷ mark Tk.SEMI ∷ r) in omega arith
act_span (G.set x e) n r = let a = past_span e (suc (suc n)) (mark Tk.SEMI ∷ r) in omega arith
act_span (G.repeat c b) n r = let a = act_span b (suc (suc (suc n))) (mark Tk.RB ∷ r) in omega arith
act_span (G.put_r x v) n r = omega arith
act_span (G.put_b x v) n r = omega arith
act_span (G.put_s x v) n r = omega arith
act_span (G.become x) n r = omega arith
act_span (G.req c) n r = let a = claim_span c (suc (suc n)) (mark Tk.SEMI ∷ r) in omega arith
act_span (G.try c b bs) n r =
    let m : ℕ = suc (suc (past_claim c (suc (suc n)))) in
    let x = claim_span c (suc (suc n)) (mark Tk.THEN ∷ mark Tk.LB ∷ spell_act b (mark Tk.RB ∷ spell_act bs r)) in
    let y = act_span b m (mark Tk.RB ∷ spell_act bs r) in
    let z = act_span bs (suc (past_act b m)) r in omega arith
act_span (G.while c b) n r =
    let m : ℕ = suc (past_claim c (suc (suc n))) in
    let x = claim_span c (suc (suc n)) (mark Tk.LB ∷ spell_act b (mark Tk.RB ∷ r)) in
    let y = act_span b m (mark Tk.RB ∷ r) in omega arith
act_span (G.start x v g) n r =
    let a = gives_span g (suc (suc (suc (suc (suc n))))) (mark Tk.RP ∷ mark Tk.SEMI ∷ r) in omega arith
act_span G.close n r = omega arith
act_span G.no_branches n r = omega arith
act_span (G.etry c b bs) n r =
    let m : ℕ = suc (suc (past_claim c (suc (suc n)))) in
    let x = claim_span c (suc (suc n)) (mark Tk.THEN ∷ mark Tk.LB ∷ spell_act b (mark Tk.RB ∷ spell_act bs r)) in
    let y = act_span b m (mark Tk.RB ∷ spell_act bs r) in
    let z = act_span bs (suc (past_act b m)) r in omega arith
act_span G.no_actions n r = omega arith
act_span (G.follow a b) n r = let x = act_span a n (spell_act b r) in let y = act_span b (past_act a n) r in omega arith

-- WHERE the first action in braces begins, and what comes behind an action or behind the brace that closes a block.
pub do_span : (n : G.Count) (at : ℕ) → suc (suc (suc at)) ≡ at + to_do n
do_span n at = omega arith

pub while_span : (c : G.Claim) (at : ℕ) → suc (past_claim c (suc (suc at))) ≡ at + to_while c
while_span c at = let a = claim_span c (suc (suc at)) (mark Tk.LB ∷ []) in omega arith

pub try_span : (c : G.Claim) (at : ℕ) → suc (suc (past_claim c (suc (suc at)))) ≡ at + to_try c
try_span c at = let a = claim_span c (suc (suc at)) (mark Tk.THEN ∷ mark Tk.LB ∷ []) in omega arith

pub tokens_span : {k : Kind} (a : Act k) (at : ℕ) → past_act a at ≡ at + in_tokens a
tokens_span a at = let x = act_span a at [] in omega arith

pub braces_span : (b : Act G.actions) (at : ℕ) → suc (past_act b at) ≡ at + in_braces b
braces_span b at = let x = act_span b at (mark Tk.RB ∷ []) in omega arith
