-- What the declarations of a text make of the machine's reader: names known, records written, blocks opened and closed.
-- Assumes nothing.
use Prim.Native.Nat.{ℕ, zero, suc, ◌+◌}
use Rattle.std.proofs.Common.{arith, sym, ◌∙◌, eq-eqb}
use Rattle.std.specs.Prelude.{◌≡◌, Bool, eqb, if◌then◌else◌}
use Rattle.std.proofs.Math.Path.{refl, ap}
use mathlib.Core.List.{List, [], ◌∷◌, ◌++◌}
use Rattle.std.proofs.Math.ListN.{length}
use Rattle.semantics.specs.Words.{any}
use Rattle.semantics.specs.Kinds as K
use Rattle.text_semantics.specs.Numbers as No
use Rattle.text_semantics.specs.Token as Tk
use Rattle.text_semantics.specs.Token.{Token, number, mark, name}
use Rattle.text_semantics.specs.Grammar as G
use Rattle.text_semantics.specs.Grammar.{Name, Text, Declaration, Locals, Few, spell_signed, spell_few, spell_locals, spell_act}
use Rattle.text_semantics.specs.Grammar.{declare, spell_text}
use Rattle.text_semantics.specs.Names.{Known, Event, declares, announces, embodies, leaves, asks, knows, named, LOCAL}
use Rattle.text_semantics.specs.Names.{in_declaration}
use Rattle.text_semantics.specs.Names.{in_locals, in_few, in_act, events}
use Rattle.text_semantics.specs.Meaning.{number_of, signed_of}
use Rattle.text_semantics.specs.Written.{two, four, code}
use Rattle.text_semantics.specs.Reading.{Symbol, signed_s, text_s, lines_s, few_s, actions_s, name_s, sign, upto}
use Rattle.text_machine.specs.Entry.{Draft, begin, put, asking}
use Rattle.text_machine.specs.Sheet as S
use Rattle.text_machine.specs.Sheet.{Sheet, blocks_of, with_first, classes, bodied, braces, closed}
use Rattle.text_machine.specs.Machine.{Reader, keeps}
use Rattle.text_agrees.specs.Flow.{flow}
use Rattle.text_agrees.specs.Drafts.{put-put}
use Rattle.text_agrees.specs.Sheets.{deepness, either, braces_deep, classes_deep, bodied_deep, declares_deep, closed_deep}
use Rattle.text_agrees.specs.Claims as C
use Rattle.text_agrees.specs.Claims.{shaped, past_signed, Claiming}
use Rattle.text_agrees.specs.Actions.{past_act, sheeted, acts_go, made_deep, Block, symbol, by_block, some_actions}
use Rattle.text_agrees.specs.Actions.{first_lines}
use Rattle.text_agrees.specs.Asking.{asked_act}

-- What the machine remembers of an event.
unfoldable pub remembers : List Known → Event → List Known
remembers ks (asks ws x) = ks
remembers ks (declares w x) = keeps ks (declares w x)
remembers ks (announces x) = keeps ks (announces x)
remembers ks (embodies x) = keeps ks (embodies x)
remembers ks leaves = knows ks leaves

unfoldable pub remembered : List Known → List Event → List Known
unfolding remembers
remembered ks [] = ks
remembered ks (e ∷ es) = remembered (remembers ks e) es

-- The first declaration of all is told where the length is too much.
abbrev pub first_at : ℕ → Sheet → Sheet
first_at p s = if eqb s.total 0 then with_first s p else s

-- A class gets its body, or is declared with it.
abbrev pub bodied_in : List Known → Name → ℕ → Sheet → Sheet
bodied_in ks x p s =
    if any (named x) ks then bodied (number_of ks x) (blocks_of s) s else classes p (blocks_of s) s

abbrev pub past_few : {k : ℕ} → Few k → ℕ → ℕ
past_few G.no_names at = at
past_few (G.also x xs) at = past_few xs (suc (suc at))

abbrev pub past_locals : Locals → ℕ → ℕ
past_locals G.no_locals at = at
past_locals (G.locals x xs) at = suc (past_few xs (suc (suc at)))

abbrev pub past_declaration : Declaration → ℕ → ℕ
past_declaration (G.res x n) at = suc (suc (suc (suc (suc (suc (suc at))))))
past_declaration (G.bin x n) at = suc (suc (suc (suc (suc (suc (suc at))))))
past_declaration (G.sync x) at = suc (suc (suc (suc (suc at))))
past_declaration (G.var x n) at = suc (suc (past_signed n (suc (suc (suc (suc at))))))
past_declaration (G.sampler x a b n) at =
    suc (suc (suc (suc (past_signed b (suc (past_signed a (suc (suc (suc (suc at))))))))))
past_declaration (G.class x G.announced) at = suc (suc (suc at))
past_declaration (G.class x (G.body l b)) at = suc (past_act b (past_locals l (suc (suc (suc at)))))
past_declaration (G.entity x n) at = suc (suc (suc (suc (suc (suc (suc at))))))

-- What is to come behind the locals of a class body.
abbrev pub behind_locals : Locals → Block
behind_locals G.no_locals = first_lines
behind_locals (G.locals x xs) = some_actions

-- THE SHEET after a declaration that begins with the token `at`, where ks are known.
module _ (place : ℕ → ℕ) where
  unfoldable pub declared : List Known → Declaration → ℕ → Sheet → Sheet
  declared ks (G.res x n) at s = S.declares (put (begin (place at) K.RES 0) (four n.value)) (first_at (place at) s)
  declared ks (G.bin x n) at s = S.declares (put (begin (place at) K.BIN 0) (four n.value)) (first_at (place at) s)
  declared ks (G.sync x) at s = S.declares (begin (place at) K.SYNC 0) (first_at (place at) s)
  declared ks (G.var x n) at s = S.declares (put (begin (place at) K.VAR 0) (four (code (signed_of n)))) (first_at (place at) s)
  declared ks (G.sampler x a b n) at s =
      S.declares (put (begin (place at) K.SAMPLER 0) (four (code (signed_of a)) ++ four (code (signed_of b)) ++ four n.value))
      (first_at (place at) s)
  declared ks (G.class x G.announced) at s = classes (place at) No.no_body (first_at (place at) s)
  declared ks (G.class x (G.body l b)) at s =
      let in_body : List Known = remembered ks (embodies x ∷ in_locals l) in
      closed (sheeted place in_body b (past_locals l (suc (suc (suc at))))
      (braces (bodied_in ks x (place at) (first_at (place at) s))))
  declared ks (G.entity x n) at s =
      S.declares (put (begin (place at) K.ENTITY 0) (two (number_of ks x) ++ four n.value)) (first_at (place at) s)

  unfoldable pub declared_all : List Known → Text → ℕ → Sheet → Sheet
  unfolding declared remembered
  declared_all ks [] at s = s
  declared_all ks (d ∷ ds) at s =
      declared_all (remembered ks (in_declaration d)) ds (past_declaration d at) (declared ks d at s)

pub remembered-append : (ks : List Known) (es fs : List Event) → remembered ks (es ++ fs) ≡ remembered (remembered ks es) fs
unfolding remembered
remembered-append ks [] fs = refl
remembered-append ks (e ∷ es) fs = remembered-append (remembers ks e) es fs

-- Names that are only asked for change nothing that is known.
abbrev Quiet : List Event → Type 0
Quiet es = (ks : List Known) → remembered ks es ≡ ks

quiet_append : (es fs : List Event) → Quiet es → Quiet fs → Quiet (es ++ fs)
quiet_append es fs p q ks = remembered-append ks es fs ∙ ap (λ (zs : List Known). remembered zs fs) (p ks) ∙ q ks

quiet_asks : (ws : List ℕ) (x : Name) → Quiet (asks ws x ∷ [])
unfolding remembered remembers
quiet_asks ws x ks = refl

quiet_none : Quiet []
unfolding remembered
quiet_none ks = refl

pub quiet_act : {k : G.Kind} (a : G.Act k) → Quiet (in_act a)
quiet_act a = asked_act Quiet quiet_none quiet_asks quiet_append a

-- A reader with these parts.
abbrev pub reader : List Known → Name → ℕ → Draft → Sheet → Reader
reader ks x p d s = record { pile = []; known = ks; called = x; called_at = p; draft = d; sheet = s }

module _ (place : ℕ → ℕ) where
  -- What is read of a declaration: the name of a class line, its place and something in the draft are left besides.
  abbrev Reads : Declaration → Type 0
  Reads e =
      (ks : List Known) (x : Name) (p : ℕ) (d : Draft) (s : Sheet) (at : ℕ) (ts : List Token) → s.levels ≡ [] →
      (y : Name) × (q : ℕ) × (f : Draft)
      × (flow place at (declare e ts) (text_s ∷ []) (reader ks x p d s)
      ≡ flow place (past_declaration e at) ts (text_s ∷ [])
      (reader (remembered ks (in_declaration e)) y q f (declared place ks e at s)))

  res_reads : (z : Name) (n : G.Number) → Reads (G.res z n)
  unfolding flow declared remembered
  res_reads z n ks x p d s at ts l =
      let f : Draft = begin (place at) K.RES K.RES in
      let q : Reader = reader (keeps ks (declares K.RES z)) x p f (first_at (place at) s) in (
        x,
        p,
        put f (four n.value),
        C.number_goes place q No.top_number n f (suc (suc (suc (suc at)))) (mark Tk.RP ∷ mark Tk.SEMI ∷ ts)
            (sign Tk.RP ∷ sign Tk.SEMI ∷ text_s ∷ []),
      )

  bin_reads : (z : Name) (n : G.Number) → Reads (G.bin z n)
  unfolding flow declared remembered
  bin_reads z n ks x p d s at ts l =
      let f : Draft = begin (place at) K.BIN K.BIN in
      let q : Reader = reader (keeps ks (declares K.BIN z)) x p f (first_at (place at) s) in (
        x,
        p,
        put f (four n.value),
        C.number_goes place q No.top_number n f (suc (suc (suc (suc at)))) (mark Tk.RP ∷ mark Tk.SEMI ∷ ts)
            (sign Tk.RP ∷ sign Tk.SEMI ∷ text_s ∷ []),
      )

  sync_reads : (z : Name) → Reads (G.sync z)
  unfolding flow declared remembered
  sync_reads z ks x p d s at ts l = (x, p, begin (place at) K.SYNC K.SYNC, refl)

  entity_reads : (z : Name) (n : G.Number) → Reads (G.entity z n)
  unfolding flow declared remembered
  entity_reads z n ks x p d s at ts l =
      let f : Draft = begin (place at) K.ENTITY 0 in
      let q : Reader = reader ks x p f (first_at (place at) s) in (
        x,
        p,
        shaped (put f (two (number_of ks z) ++ four n.value)) (asking K.CLASS) 0 0 0,
        C.pair_goes place q f K.CLASS 0 0 0 z n (record { no_expression = refl; no_start = refl }) (suc at) (mark Tk.SEMI ∷ ts)
            (sign Tk.SEMI ∷ text_s ∷ []),
      )

  var_reads : (z : Name) (n : G.Signed) → Reads (G.var z n)
  unfolding flow declared remembered
  var_reads z n ks x p d s at ts l =
      let f : Draft = begin (place at) K.VAR K.VAR in
      let q : Reader = reader (keeps ks (declares K.VAR z)) x p f (first_at (place at) s) in (
        x,
        p,
        put f (four (code (signed_of n))),
        C.signed_goes place q f n (record { no_expression = refl; no_start = refl }) (suc (suc (suc (suc at))))
            (mark Tk.RP ∷ mark Tk.SEMI ∷ ts)
            (sign Tk.RP ∷ sign Tk.SEMI ∷ text_s ∷ []),
      )

  sampler_reads : (z : Name) (a b : G.Signed) (n : G.Number) → Reads (G.sampler z a b n)
  unfolding flow declared remembered
  sampler_reads z a b n ks x p d s at ts l =
      let f : Draft = begin (place at) K.SAMPLER K.SAMPLER in
      let q : Reader = reader (keeps ks (declares K.SAMPLER z)) x p f (first_at (place at) s) in
      let plain : Claiming K.SAMPLER = record { no_expression = refl; no_start = refl } in
      let low : List ℕ = four (code (signed_of a)) in
      let high : List ℕ = four (code (signed_of b)) in
      let k : ℕ = past_signed a (suc (suc (suc (suc at)))) in
      let j : ℕ = past_signed b (suc k) in (
        x,
        p,
        put f (low ++ high ++ four n.value),
        C.signed_goes place q f a plain (suc (suc (suc (suc at))))
            (mark Tk.COMMA ∷ spell_signed b (mark Tk.COMMA ∷ number n.value ∷ mark Tk.RP ∷ mark Tk.SEMI ∷ ts))
            (sign Tk.COMMA ∷ signed_s ∷ sign Tk.COMMA ∷ upto No.top_number ∷ sign Tk.RP ∷ sign Tk.SEMI ∷ text_s ∷ [])
            ∙ C.signed_goes place q (put f low) b plain (suc k)
            (mark Tk.COMMA ∷ number n.value ∷ mark Tk.RP ∷ mark Tk.SEMI ∷ ts)
            (sign Tk.COMMA ∷ upto No.top_number ∷ sign Tk.RP ∷ sign Tk.SEMI ∷ text_s ∷ [])
            ∙ C.number_goes place q No.top_number n (put (put f low) high) (suc j) (mark Tk.RP ∷ mark Tk.SEMI ∷ ts)
            (sign Tk.RP ∷ sign Tk.SEMI ∷ text_s ∷ [])
            ∙ ap (λ (y : Draft). flow place (suc (suc (suc (suc j)))) ts (text_s ∷ [])
            (reader (keeps ks (declares K.SAMPLER z)) x p y (S.declares y (first_at (place at) s))))
            (ap (λ (y : Draft). put y (four n.value)) (put-put f low high) ∙ put-put f (low ++ high) (four n.value)),
      )

  announced_reads : (z : Name) → Reads (G.class z G.announced)
  unfolding flow declared remembered
  announced_reads z ks x p d s at ts l = (z, place (suc at), begin (place at) K.CLASS K.CLASS, refl)

  pub local_name : (y : Name) (ks : List Known) (x : Name) (p : ℕ) (d : Draft) (s : Sheet) (at : ℕ) (ts : List Token)
      (us : List Symbol) →
      d.role ≡ LOCAL →
      flow place at (name y ∷ ts) (name_s ∷ us) (reader ks x p d s)
      ≡ flow place (suc at) ts us (reader (keeps ks (declares LOCAL y)) x p d s)
  unfolding flow
  local_name y ks x p d s at ts us e = rw e

  -- The locals of a class body.
  few_read : {k : ℕ} (xs : Few k) (ks : List Known) (x : Name) (p : ℕ) (d : Draft) (s : Sheet) (at : ℕ) (ts : List Token)
      (us : List Symbol) →
      d.role ≡ LOCAL →
      flow place at (spell_few xs (mark Tk.SEMI ∷ ts)) (few_s k ∷ us) (reader ks x p d s)
      ≡ flow place (suc (past_few xs at)) ts us (reader (remembered ks (in_few xs)) x p d s)
  unfolding flow remembered
  few_read {k = zero} G.no_names ks x p d s at ts us e = refl
  few_read {k = suc k} G.no_names ks x p d s at ts us e = refl
  few_read {k = suc k} (G.also y ys) ks x p d s at ts us e =
      local_name y ks x p d s (suc at) (spell_few ys (mark Tk.SEMI ∷ ts)) (few_s k ∷ us) e
      ∙ few_read ys (keeps ks (declares LOCAL y)) x p d s (suc (suc at)) ts us e

  -- From behind the brace of a class body to its first action, in a block that has nothing in it yet.
  abbrev fresh : Sheet → Sheet
  fresh t = braces t

  pub locals_read : (ls : Locals) (ks : List Known) (x : Name) (p : ℕ) (d : Draft) (t : Sheet) (at : ℕ) (ts : List Token)
      (us : List Symbol) →
      (f : Draft)
      × (flow place at (spell_locals ls ts) (lines_s ∷ us) (reader ks x p d (fresh t))
      ≡ flow place (past_locals ls at) ts (symbol (behind_locals ls) ∷ us) (reader (remembered ks (in_locals ls)) x p f (fresh t)))
  unfolding flow remembered S.settled braces
  locals_read G.no_locals ks x p d t at ts us = (d, refl)
  locals_read (G.locals y ys) ks x p d t at ts us =
      let f : Draft = begin (place at) 0 LOCAL in (
        f,
        local_name y ks x p f (fresh t) (suc at) (spell_few ys (mark Tk.SEMI ∷ ts)) (few_s No.more_locals ∷ actions_s ∷ us) refl
            ∙ few_read ys (keeps ks (declares LOCAL y)) x p f (fresh t) (suc (suc at)) ts (actions_s ∷ us) refl,
      )

  -- The brace that closes a class body: its locals go.
  last_brace : (ks : List Known) (x : Name) (p : ℕ) (d : Draft) (s : Sheet) (b : Block) (at : ℕ) (ts : List Token)
      (us : List Symbol) →
      deepness s ≡ 1 → (f : Draft)
      × (flow place at (mark Tk.RB ∷ ts) (symbol b ∷ us) (reader ks x p d s)
      ≡ flow place (suc at) ts us (reader (knows ks leaves) x p f (closed s)))
  unfolding flow
  last_brace ks x p d s b at ts us h =
      let f : Draft = begin (place at) 0 0 in
      let go = ap (λ (v : Bool). flow place (suc at) ts us (reader (if v then knows ks leaves else ks) x p f (closed s)))
      (eq-eqb (length s.levels) 1 h) in (
        f,
        by_block (λ (z : Symbol). flow place at (mark Tk.RB ∷ ts) (z ∷ us) (reader ks x p d s)
            ≡ flow place (suc at) ts us (reader (knows ks leaves) x p f (closed s))) b go go go,
      )

  body_reads : (z : Name) (ls : Locals) (b : G.Act G.actions) → Reads (G.class z (G.body ls b))
  unfolding flow declared remembered
  body_reads z ls b ks x p d s at ts l =
      let f : Draft = begin (place at) K.CLASS K.CLASS in
      let t : Sheet = bodied_in ks z (place at) (first_at (place at) s) in
      let in_body : List Known = remembered ks (embodies z ∷ in_locals ls) in
      let k : ℕ = suc (suc (suc at)) in
      let one = locals_read ls (keeps ks (embodies z)) z (place (suc at)) f t k (spell_act b (mark Tk.RB ∷ ts)) (text_s ∷ []) in
      let q : Reader = reader in_body z (place (suc at)) one.0 (fresh t) in
      let deep : deepness (fresh t) ≡ 1 = braces_deep t ∙ ap suc (no_deep ks z (place at) s l) in
      let two' = acts_go place q b one.0 (fresh t) (behind_locals ls) (past_locals ls k) (mark Tk.RB ∷ ts) (text_s ∷ [])
      (omega arith) in
      let y : Sheet = sheeted place in_body b (past_locals ls k) (fresh t) in
      let three = last_brace in_body z (place (suc at)) two'.0 y two'.1 (past_act b (past_locals ls k)) ts (text_s ∷ [])
      (made_deep place q b (past_locals ls k) (fresh t) ∙ deep) in (
        z,
        place (suc at),
        three.0,
        one.1 ∙ two'.2 ∙ three.1
            ∙ ap (λ (zs : List Known). flow place (suc (past_act b (past_locals ls k))) ts (text_s ∷ [])
            (reader zs z (place (suc at)) three.0 (closed y)))
            (sym (remembered-append (keeps ks (embodies z)) (in_locals ls ++ in_act b) (leaves ∷ [])
            ∙ ap (λ (zs : List Known). knows zs leaves)
            (remembered-append (keeps ks (embodies z)) (in_locals ls) (in_act b)
            ∙ quiet_act b (remembered (keeps ks (embodies z)) (in_locals ls))))),
      )
    where
      no_deep : (ks : List Known) (z : Name) (p : ℕ) (s : Sheet) → s.levels ≡ [] → deepness (bodied_in ks z p (first_at p s)) ≡ 0
      no_deep ks z p s l =
          let zero_deep : deepness s ≡ 0 = ap length l in
          let t : Sheet = first_at p s in
          let first : deepness t ≡ 0 = either (eqb s.total 0) (with_first s p) s 0 zero_deep zero_deep in
          either (any (named z) ks) (bodied (number_of ks z) (blocks_of t) t) (classes p (blocks_of t) t) 0
          (bodied_deep (number_of ks z) (blocks_of t) t ∙ first) (classes_deep p (blocks_of t) t ∙ first)

  pub declaration_reads : (e : Declaration) → Reads e
  declaration_reads (G.res z n) = res_reads z n
  declaration_reads (G.bin z n) = bin_reads z n
  declaration_reads (G.sync z) = sync_reads z
  declaration_reads (G.var z n) = var_reads z n
  declaration_reads (G.sampler z a b n) = sampler_reads z a b n
  declaration_reads (G.class z G.announced) = announced_reads z
  declaration_reads (G.class z (G.body ls b)) = body_reads z ls b
  declaration_reads (G.entity z n) = entity_reads z n

  -- Behind a declaration no block is open.
  pub nothing_open : {A : Type 0} (xs : List A) → length xs ≡ 0 → xs ≡ []
  nothing_open [] e = refl
  nothing_open (x ∷ xs) e = absurd (omega arith)

  first_open : (p : ℕ) (s : Sheet) → deepness s ≡ 0 → deepness (first_at p s) ≡ 0
  first_open p s e = either (eqb s.total 0) (with_first s p) s 0 e e

  pub declared_open : (e : Declaration) (ks : List Known) (at : ℕ) (s : Sheet) → deepness s ≡ 0 →
      deepness (declared place ks e at s) ≡ 0
  unfolding declared
  declared_open (G.res z n) ks at s h = declares_deep _ (first_at (place at) s) ∙ first_open (place at) s h
  declared_open (G.bin z n) ks at s h = declares_deep _ (first_at (place at) s) ∙ first_open (place at) s h
  declared_open (G.sync z) ks at s h = declares_deep _ (first_at (place at) s) ∙ first_open (place at) s h
  declared_open (G.var z n) ks at s h = declares_deep _ (first_at (place at) s) ∙ first_open (place at) s h
  declared_open (G.sampler z a b n) ks at s h = declares_deep _ (first_at (place at) s) ∙ first_open (place at) s h
  declared_open (G.class z G.announced) ks at s h = classes_deep (place at) No.no_body (first_at (place at) s)
      ∙ first_open (place at) s h
  declared_open (G.class z (G.body ls b)) ks at s h =
      let k : ℕ = past_locals ls (suc (suc (suc at))) in
      let in_body : List Known = remembered ks (embodies z ∷ in_locals ls) in
      let u : Sheet = first_at (place at) s in
      let t : Sheet = bodied_in ks z (place at) u in
      let q : Reader = reader in_body z 0 (begin 0 0 0) (braces t) in
      let none_open : deepness t ≡ 0 =
      either (any (named z) ks) (bodied (number_of ks z) (blocks_of u) u) (classes (place at) (blocks_of u) u) 0
      (bodied_deep (number_of ks z) (blocks_of u) u ∙ first_open (place at) s h)
      (classes_deep (place at) (blocks_of u) u ∙ first_open (place at) s h) in
      closed_deep (sheeted place in_body b k (braces t)) 0 (made_deep place q b k (braces t) ∙ braces_deep t ∙ ap suc none_open)
  declared_open (G.entity z n) ks at s h = declares_deep _ (first_at (place at) s) ∙ first_open (place at) s h

  abbrev pub past_text : Text → ℕ → ℕ
  past_text [] at = at
  past_text (d ∷ ds) at = past_text ds (past_declaration d at)

  declarations_read : (t : Text) (ks : List Known) (x : Name) (p : ℕ) (d : Draft) (s : Sheet) (at : ℕ) → deepness s ≡ 0 →
      (y : Name) × (q : ℕ) × (f : Draft)
      × (flow place at (spell_text t []) (text_s ∷ []) (reader ks x p d s)
      ≡ reader (remembered ks (events t)) y q f (first_at (place (past_text t at)) (declared_all place ks t at s)))
  unfolding flow declared_all remembered
  declarations_read [] ks x p d s at h = (x, p, _, refl)
  declarations_read (e ∷ es) ks x p d s at h =
      let one = declaration_reads e ks x p d s at (spell_text es []) (nothing_open s.levels h) in
      let rest = declarations_read es (remembered ks (in_declaration e)) one.0 one.1 one.2 (declared place ks e at s)
      (past_declaration e at) (declared_open e ks at s h) in (
        rest.0,
        rest.1,
        rest.2,
        one.3 ∙ rest.3
            ∙ ap (λ (zs : List Known). reader zs rest.0 rest.1 rest.2
            (first_at (place (past_text es (past_declaration e at)))
            (declared_all place (remembered ks (in_declaration e)) es (past_declaration e at) (declared place ks e at s))))
            (sym (remembered-append ks (in_declaration e) (events es))),
      )

  -- A WHOLE TEXT makes of the machine's reader what its declarations make, one behind the other.
  pub text_reads : (t : Text) → (y : Name) × (q : ℕ) × (f : Draft)
      × (flow place 0 (spell_text t []) (text_s ∷ []) (reader [] [] 0 (begin 0 0 0) S.blank)
      ≡ reader (remembered [] (events t)) y q f (first_at (place (past_text t 0)) (declared_all place [] t 0 S.blank)))
  text_reads t = declarations_read t [] [] 0 (begin 0 0 0) S.blank 0 refl
