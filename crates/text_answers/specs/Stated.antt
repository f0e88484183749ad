-- A declaration up to its `;` or its brace: what its tokens make of the machine's reader, whose draft is then its record.
-- Assumes nothing.
use Prim.Native.Nat.{ℕ, suc}
use Rattle.std.proofs.Common.{arith, ◌∙◌}
use Rattle.std.specs.Prelude.{◌≡◌, true}
use Rattle.std.proofs.Math.Path.{refl, ap}
use mathlib.Core.List.{List, [], ◌∷◌, ◌++◌}
use Rattle.semantics.specs.Kinds as K
use Rattle.semantics.specs.Record as R
use Rattle.semantics.specs.Record.{Entry}
use Rattle.promises.specs.Counted.{group_of}
use Rattle.text_semantics.specs.Numbers as No
use Rattle.text_semantics.specs.Token as Tk
use Rattle.text_semantics.specs.Token.{Token, name, number, mark}
use Rattle.text_semantics.specs.Grammar as G
use Rattle.text_semantics.specs.Grammar.{Name, Declaration, digits, pair, spell_signed, declare}
use Rattle.text_semantics.specs.Names.{Known, declares}
use Rattle.text_semantics.specs.Meaning.{owned, number_of, signed_of, entry_of}
use Rattle.text_semantics.specs.Written.{two, four, code, body_of}
use Rattle.text_semantics.specs.Reading.{Symbol, signed_s, body_s, text_s, sign, upto}
use Rattle.text_machine.specs.Entry.{Draft, begin, put, asking, at_sign}
use Rattle.text_machine.specs.Sheet.{Sheet}
use Rattle.text_machine.specs.Machine.{Reader, keeps, draft_after}
use Rattle.text_promises.specs.Judged as J
use Rattle.text_agrees.specs.Flow.{flow}
use Rattle.text_agrees.specs.Drafts.{put-put}
use Rattle.text_agrees.specs.Claims as C
use Rattle.text_agrees.specs.Claims.{Claiming, shaped, past_signed}
use Rattle.text_agrees.specs.Declared.{reader, first_at}
use Rattle.text_agrees.specs.Growing as N
use Rattle.text_agrees.specs.Growing.{Line, braces}
use Rattle.text_answers.specs.Drawn.{Drawn, drawn_put}
use Rattle.text_answers.specs.Acted.{ender, semicolon, Leads, drawn_shaped}

-- A DECLARATION without its cut.
abbrev pub line_off : {d : Declaration} {j : ℕ} → Line d j → List Token → List Token
line_off (N.res x n) ts = mark Tk.RES ∷ pair x n ts
line_off (N.bin x n) ts = mark Tk.BIN ∷ pair x n ts
line_off (N.sync x) ts = mark Tk.SYNC ∷ mark Tk.LP ∷ name x ∷ mark Tk.RP ∷ ts
line_off (N.var x n) ts = mark Tk.VAR ∷ mark Tk.LP ∷ name x ∷ mark Tk.COMMA ∷ spell_signed n (mark Tk.RP ∷ ts)
line_off (N.sampler x a b n) ts =
    mark Tk.SAMPLER ∷ mark Tk.LP ∷ name x ∷ mark Tk.COMMA
    ∷ spell_signed a (mark Tk.COMMA ∷ spell_signed b (mark Tk.COMMA ∷ digits n (mark Tk.RP ∷ ts)))
line_off (N.announced x) ts = mark Tk.CLASS ∷ name x ∷ ts
line_off (N.entity x n) ts = mark Tk.ENTITY ∷ pair x n ts
line_off (N.class x) ts = mark Tk.CLASS ∷ name x ∷ ts

pub line_on : {d : Declaration} {j : ℕ} (l : Line d j) (r : List Token) → declare d r ≡ line_off l (ender j ∷ braces j r)
line_on (N.res x n) r = refl
line_on (N.bin x n) r = refl
line_on (N.sync x) r = refl
line_on (N.var x n) r = refl
line_on (N.sampler x a b n) r = refl
line_on (N.announced x) r = refl
line_on (N.entity x n) r = refl
line_on (N.class x) r = refl

-- THE RECORDS of all but classes.
pub data Plain (ks : List Known) : (d : Declaration) → Line d 0 → Entry → Type 0 where
  res : (x : Name) (n : G.Number) → Plain ks (G.res x n) (N.res x n) (R.RES n.value)
  bin : (x : Name) (n : G.Number) → Plain ks (G.bin x n) (N.bin x n) (R.BIN n.value)
  sync : (x : Name) → Plain ks (G.sync x) (N.sync x) R.SYNC
  var : (x : Name) (n : G.Signed) → Plain ks (G.var x n) (N.var x n) (R.VAR (signed_of n))
  sampler : (x : Name) (a b : G.Signed) (n : G.Number) →
      Plain ks (G.sampler x a b n) (N.sampler x a b n)
      (R.SAMPLER (record { lowest = signed_of a; highest = signed_of b; seed = n.value }))
  entity : (x : Name) (n : G.Number) →
      Plain ks (G.entity x n) (N.entity x n) (R.ENTITY (record { class = number_of ks x; offset = n.value }))

pub plain_entry : {ks : List Known} {d : Declaration} {l : Line d 0} {e : Entry} → Plain ks d l e → (k : ℕ) →
    entry_of ks k d [] ≡ e ∷ []
plain_entry (res x n) k = refl
plain_entry (bin x n) k = refl
plain_entry (sync x) k = refl
plain_entry (var x n) k = refl
plain_entry (sampler x a b n) k = refl
plain_entry (entity x n) k = refl

pub plain_declares : {ks : List Known} {d : Declaration} {l : Line d 0} {e : Entry} → Plain ks d l e →
    (J.declares e ≡ true) × (K.CLASS ≡ group_of e → ⊥) × (K.BLOCK ≡ group_of e → ⊥)
plain_declares (res x n) = (refl, λ z. omega arith, λ z. omega arith)
plain_declares (bin x n) = (refl, λ z. omega arith, λ z. omega arith)
plain_declares (sync x) = (refl, λ z. omega arith, λ z. omega arith)
plain_declares (var x n) = (refl, λ z. omega arith, λ z. omega arith)
plain_declares (sampler x a b n) = (refl, λ z. omega arith, λ z. omega arith)
plain_declares (entity x n) = (refl, λ z. omega arith, λ z. omega arith)

module _ (place : ℕ → ℕ) (ks : List Known) (s : Sheet) (at : ℕ) where
  abbrev then : List Known → Name → ℕ → Draft → Reader
  then zs y q e = reader zs y q e (first_at (place at) s)

  abbrev bare : List Known → Name → ℕ → Reader
  bare zs y q = then zs y q (begin 0 0 0)

  abbrev rest : List Symbol
  rest = sign Tk.SEMI ∷ text_s ∷ []

  abbrev Lines : (List Token → List Token) → Entry → Type 0
  Lines spelled e = Leads place spelled at (text_s ∷ []) ks s 0 (first_at (place at) s) (owned e at)

  ended : {spelled : List Token → List Token} (to : ℕ) (zs : List Known) (f : Draft) (e : Entry) →
      ((y : Name) (q : ℕ) (d : Draft) (ts : List Token) →
      flow place at (spelled ts) (text_s ∷ []) (reader ks y q d s) ≡ flow place to ts rest (then zs y q f)) →
      Drawn place f (owned e at) → Lines spelled e
  unfolding draft_after at_sign
  ended to zs f e g h =
      record {
        to = to;
        top = sign Tk.SEMI;
        under = text_s ∷ [];
        known = zs;
        draft = λ y q. f;
        ends = semicolon;
        goes = g;
        drawn = λ y q n. h;
      }

  abbrev later : ℕ
  later = suc (suc (suc (suc at)))

  res_leads : (x : Name) (n : G.Number) → Lines (line_off (N.res x n)) (R.RES n.value)
  unfolding flow body_of
  res_leads x n =
      let f : Draft = begin (place at) K.RES K.RES in
      let zs : List Known = keeps ks (declares K.RES x) in
      ended (suc (suc later)) zs (put f (four n.value)) (R.RES n.value)
      (λ y q d ts. C.number_goes place (bare zs y q) No.top_number n f later (mark Tk.RP ∷ ts) (sign Tk.RP ∷ rest))
      (drawn_put place (R.RES n.value) at K.RES (four n.value) refl)

  bin_leads : (x : Name) (n : G.Number) → Lines (line_off (N.bin x n)) (R.BIN n.value)
  unfolding flow body_of
  bin_leads x n =
      let f : Draft = begin (place at) K.BIN K.BIN in
      let zs : List Known = keeps ks (declares K.BIN x) in
      ended (suc (suc later)) zs (put f (four n.value)) (R.BIN n.value)
      (λ y q d ts. C.number_goes place (bare zs y q) No.top_number n f later (mark Tk.RP ∷ ts) (sign Tk.RP ∷ rest))
      (drawn_put place (R.BIN n.value) at K.BIN (four n.value) refl)

  sync_leads : (x : Name) → Lines (line_off (N.sync x)) R.SYNC
  unfolding flow body_of put
  sync_leads x =
      ended later (keeps ks (declares K.SYNC x)) (begin (place at) K.SYNC K.SYNC) R.SYNC (λ y q d ts. refl)
      (drawn_put place R.SYNC at K.SYNC [] refl)

  var_leads : (x : Name) (n : G.Signed) → Lines (line_off (N.var x n)) (R.VAR (signed_of n))
  unfolding flow body_of
  var_leads x n =
      let f : Draft = begin (place at) K.VAR K.VAR in
      let zs : List Known = keeps ks (declares K.VAR x) in
      let bs : List ℕ = four (code (signed_of n)) in
      ended (suc (past_signed n later)) zs (put f bs) (R.VAR (signed_of n))
      (λ y q d ts. C.signed_goes place (bare zs y q) f n (record { no_expression = refl; no_start = refl }) later
      (mark Tk.RP ∷ ts) (sign Tk.RP ∷ rest)) (drawn_put place (R.VAR (signed_of n)) at K.VAR bs refl)

  sampler_leads : (x : Name) (a b : G.Signed) (n : G.Number) →
      Lines (line_off (N.sampler x a b n)) (R.SAMPLER (record { lowest = signed_of a; highest = signed_of b; seed = n.value }))
  unfolding flow body_of
  sampler_leads x a b n =
      let f : Draft = begin (place at) K.SAMPLER K.SAMPLER in
      let zs : List Known = keeps ks (declares K.SAMPLER x) in
      let plain : Claiming K.SAMPLER = record { no_expression = refl; no_start = refl } in
      let low : List ℕ = four (code (signed_of a)) in
      let high : List ℕ = four (code (signed_of b)) in
      let j : ℕ = suc (past_signed a later) in
      let k : ℕ = suc (past_signed b j) in
      let last : List Symbol = sign Tk.COMMA ∷ upto No.top_number ∷ sign Tk.RP ∷ rest in
      ended (suc (suc k)) zs (put f (low ++ high ++ four n.value)) _ (λ y q d ts.
      C.signed_goes place (bare zs y q) f a plain later
      (mark Tk.COMMA ∷ spell_signed b (mark Tk.COMMA ∷ number n.value ∷ mark Tk.RP ∷ ts)) (sign Tk.COMMA ∷ signed_s ∷ last)
      ∙ C.signed_goes place (bare zs y q) (put f low) b plain j (mark Tk.COMMA ∷ number n.value ∷ mark Tk.RP ∷ ts) last
      ∙ C.number_goes place (bare zs y q) No.top_number n (put (put f low) high) k (mark Tk.RP ∷ ts) (sign Tk.RP ∷ rest)
      ∙ ap (λ (z : Draft). flow place (suc (suc k)) ts rest (then zs y q z))
      (ap (λ (z : Draft). put z (four n.value)) (put-put f low high) ∙ put-put f (low ++ high) (four n.value)))
      (drawn_put place (R.SAMPLER (record { lowest = signed_of a; highest = signed_of b; seed = n.value })) at K.SAMPLER
      (low ++ high ++ four n.value) refl)

  entity_leads : (x : Name) (n : G.Number) →
      Lines (line_off (N.entity x n)) (R.ENTITY (record { class = number_of ks x; offset = n.value }))
  unfolding flow body_of
  entity_leads x n =
      let f : Draft = begin (place at) K.ENTITY 0 in
      let bs : List ℕ = two (number_of ks x) ++ four n.value in
      ended (suc (suc later)) ks (shaped (put f bs) (asking K.CLASS) 0 0 0) _
      (λ y q d ts. C.pair_goes place (bare ks y q) f K.CLASS 0 0 0 x n (record { no_expression = refl; no_start = refl }) (suc at)
      ts rest)
      (drawn_shaped (drawn_put place (R.ENTITY (record { class = number_of ks x; offset = n.value })) at 0 bs refl)
      (asking K.CLASS) 0 0 0)

  -- ALL OF THEM,
  pub line_leads : {e : Declaration} {l : Line e 0} {x : Entry} → Plain ks e l x → Lines (line_off l) x
  line_leads (res x n) = res_leads x n
  line_leads (bin x n) = bin_leads x n
  line_leads (sync x) = sync_leads x
  line_leads (var x n) = var_leads x n
  line_leads (sampler x a b n) = sampler_leads x a b n
  line_leads (entity x n) = entity_leads x n

  -- and a class.
  pub class_leads : (x y : Name) (q : ℕ) (d : Draft) (ts : List Token) →
      flow place at (mark Tk.CLASS ∷ name x ∷ ts) (text_s ∷ []) (reader ks y q d s)
      ≡ flow place (suc (suc at)) ts (body_s ∷ text_s ∷ [])
      (reader ks x (place (suc at)) (begin (place at) K.CLASS K.CLASS) (first_at (place at) s))
  unfolding flow
  class_leads x y q d ts = refl
