-- The machine writes what a start hands over as its bytes.
-- Assumes nothing.
use Prim.Native.Nat.{ℕ, suc, ◌+◌, ◌≤◌}
use native.Mathlib.Omega.{arith}
use Rattle.std.specs.Prelude.{◌≡◌, false, ◌||◌, length, if◌then◌else◌}
use Rattle.std.proofs.Math.Path.{refl, sym, ap, subst}
use Rattle.std.proofs.Common.{◌∙◌, length-append}
use mathlib.Core.List.{List, [], ◌∷◌, ◌++◌, map, append_assoc, append-nil}
use Rattle.std.proofs.Math.Dec.{ltb}
use Rattle.semantics.specs.Words.{collect}
use Rattle.semantics.specs.Kinds as K
use Rattle.semantics.specs.Model as M
use Rattle.text_semantics.specs.Numbers as No
use Rattle.text_semantics.specs.Token as Tk
use Rattle.text_semantics.specs.Token.{number, mark, name}
use Rattle.text_semantics.specs.Grammar as G
use Rattle.text_semantics.specs.Grammar.{Name, pair, spell_given, spell_gives}
use Rattle.text_semantics.specs.Meaning.{share_of, shares_of}
use Rattle.text_semantics.specs.Written.{two, four, share_bytes}
use Rattle.text_semantics.specs.Reading.{gives_s, given_s, sign, upto, name_s, pair_s}
use Rattle.text_machine.specs.Entry.{Draft, KEPT, asking, put, one_more, put_count, with_role, at_sign, at_number}
use Rattle.text_machine.specs.Sheet.{blocks_of}
use Rattle.text_machine.specs.Machine.{Reader}
use Rattle.text_agrees.specs.Flow.{flow}
use Rattle.text_agrees.specs.Drafts.{Whole, put-put}
use Rattle.text_agrees.specs.Expressions.{redrafted}
use Rattle.text_agrees.specs.Claims.{shaped, shaped-put, too_long, counts_more, still_short, length-map, collect-map}
use Rattle.text_agrees.specs.Claims.{Goes, known}
use Rattle.text_agrees.specs.Claims.{name_goes, number_goes}

abbrev pub past_given : List G.Give → ℕ → ℕ
past_given [] at = at
past_given (G.give x n ∷ gs) at = past_given gs (suc (suc (suc (suc (suc (suc at))))))

abbrev pub past_gives : G.Gives → ℕ → ℕ
past_gives G.no_gives at = at
past_gives (G.gives x n gs) at = suc (past_given gs (suc (suc (suc (suc (suc (suc (suc at))))))))

-- In a start whose offset has been read a bracket counts a share, and a number is its amount.
count_at_bracket : (k j a q : ℕ) (d : Draft) → d.kind ≡ K.START →
    at_sign k Tk.LP (shaped d (asking K.RES) j a q) ≡ one_more (shaped d (asking K.RES) j a q)
unfolding at_sign
count_at_bracket k j a q d e = rw e

nothing_at_list : (k : ℕ) (d : Draft) → d.kind ≡ K.START → at_sign k Tk.LS d ≡ d
unfolding at_sign
nothing_at_list k d e = rw e

kind_count : (d : Draft) → (put_count d).kind ≡ d.kind
unfolding put_count put
kind_count d = refl

amount : (n j a q : ℕ) (d : Draft) → d.kind ≡ K.START →
    at_number No.top_number n (shaped d (asking K.RES) j a q) ≡ put (shaped d (asking K.RES) j a q) (four n)
unfolding at_number
amount n j a q d e = rw e

kind_put : (d : Draft) (bs : List ℕ) → (put d bs).kind ≡ d.kind
unfolding put
kind_put d bs = refl

module _ (place : ℕ → ℕ) (r : Reader) (d : Draft) (w : Whole d) (k : d.kind ≡ K.START) where
  -- How far the shares have been read: n of them, which are these bytes.
  pub record Shared (n : ℕ) (xs : List ℕ) (e : Draft) : Type 0 where
    pub count : ℕ
    pub at : ℕ
    pub aside : ℕ
    pub is : e ≡ shaped (put d (two n ++ xs)) (asking K.RES) count at aside
    pub counting : too_long d n xs ≡ false → (count ≡ n) × (at ≡ d.size)
    pub few : n ≤ length xs

  abbrev bytes_of : Name → G.Number → List ℕ
  bytes_of x v = two (known place r x) ++ four v.value

  give_goes : (x : Name) (v : G.Number) (n : ℕ) (xs : List ℕ) (e : Draft) → Shared n xs e → (f : Draft)
      × Goes place r (pair x v) (λ at. suc (suc (suc (suc (suc at))))) (pair_s No.top_number []) [] e f
      × Shared (suc n) (xs ++ bytes_of x v) f
  unfolding flow
  give_goes x v n xs e h =
      let o = counts_more d w n xs h.few (asking K.RES) h.count h.at h.aside h.counting in
      let i : ℕ = o.0 in
      let y : Draft = put d (two (suc n) ++ xs) in
      let z : Draft = put y (two (known place r x)) in (
        shaped (put d (two (suc n) ++ (xs ++ bytes_of x v))) (asking K.RES) i h.at h.aside,
        λ at ts us.
            ap (λ (u : Draft). flow place (suc at) (name x ∷ mark Tk.COMMA ∷ number v.value ∷ mark Tk.RP ∷ ts)
            (name_s ∷ sign Tk.COMMA ∷ upto No.top_number ∷ sign Tk.RP ∷ us) (redrafted r u))
            (ap (λ (u : Draft). at_sign (blocks_of r.sheet) Tk.LP u) h.is
            ∙ count_at_bracket (blocks_of r.sheet) h.count h.at h.aside (put d (two n ++ xs))
            (kind_put d (two n ++ xs) ∙ k)
            ∙ o.1)
            ∙ name_goes place r y K.RES i h.at h.aside x (suc at) (mark Tk.COMMA ∷ number v.value ∷ mark Tk.RP ∷ ts)
            (sign Tk.COMMA ∷ upto No.top_number ∷ sign Tk.RP ∷ us)
            ∙ number_goes place r No.top_number v (shaped z (asking K.RES) i h.at h.aside) (suc (suc (suc at)))
            (mark Tk.RP ∷ ts) (sign Tk.RP ∷ us)
            ∙ ap (λ (u : Draft). flow place (suc (suc (suc (suc (suc at))))) ts us (redrafted r u))
            (amount v.value i h.at h.aside z (kind_put y (two (known place r x)) ∙ kind_put d (two (suc n) ++ xs) ∙ k)
            ∙ shaped-put z (asking K.RES) i h.at h.aside (four v.value)
            ∙ ap (λ (u : Draft). shaped u (asking K.RES) i h.at h.aside)
            (put-put y (two (known place r x)) (four v.value)
            ∙ put-put d (two (suc n) ++ xs) (bytes_of x v))),
        record {
          count = i;
          at = h.at;
          aside = h.aside;
          is = refl;
          counting = λ s. o.2 (still_short d (suc n) xs (bytes_of x v) s);
          few = let f = h.few in rw (length-append xs (bytes_of x v)) (omega arith);
        },
      )

  abbrev each : List G.Give → List ℕ
  each gs = collect (λ g. share_bytes (share_of r.known g)) gs

  given_go : (gs : List G.Give) (n m : ℕ) (xs ys : List ℕ) (e : Draft) → Shared n xs e → m ≡ length gs + n → ys ≡ xs ++ each gs →
      (f : Draft) × Goes place r (spell_given gs) (past_given gs) (given_s ∷ []) (given_s ∷ []) e f × Shared m ys f
  unfolding flow
  given_go [] n m xs ys e h p q =
      let a : n ≡ m = omega arith in
      let b : xs ≡ ys = sym (q ∙ append-nil xs) in
      (e, λ at ts us. refl, subst (λ (j : ℕ). Shared j ys e) a (subst (λ (zs : List ℕ). Shared n zs e) b h))
  given_go (G.give x v ∷ gs) n m xs ys e h p q =
      let g = give_goes x v n xs e h in
      let j = given_go gs (suc n) m (xs ++ bytes_of x v) ys g.0 g.2 (omega arith)
      (q ∙ sym (append_assoc xs (bytes_of x v) (each gs))) in
      (j.0, λ at ts us. g.1 (suc at) (spell_given gs ts) (given_s ∷ us) ∙ j.1 (suc (suc (suc (suc (suc (suc at)))))) ts us, j.2)

  begun : Shared 0 [] (with_role (put_count d) (asking K.RES))
  unfolding put_count put
  begun =
      record {
        count = 0;
        at = if d.over || ltb KEPT (d.size + 2) then 0 else d.size;
        aside = d.aside;
        is = refl;
        counting = λ z. (refl, rw z);
        few = omega arith;
      }

  abbrev handed : G.Gives → List M.Share
  handed g = shares_of r.known g

  -- WHAT IS HANDED OVER, up to the bracket that closes the start.
  pub gives_go : (g : G.Gives) → (f : Draft)
      × Goes place r (λ ts. spell_gives g (mark Tk.RP ∷ ts)) (λ at. suc (past_gives g at)) (gives_s ∷ []) []
      (with_role (put_count d) (asking K.RES)) f
      × Shared (length (handed g)) (collect share_bytes (handed g)) f
  unfolding flow
  gives_go G.no_gives = (with_role (put_count d) (asking K.RES), λ at ts us. refl, begun)
  gives_go (G.gives x v gs) =
      let e : Draft = with_role (put_count d) (asking K.RES) in
      let g = give_goes x v 0 [] e begun in
      let l = length-map (share_of r.known) gs in
      let j = given_go gs 1 (suc (length (map (share_of r.known) gs))) (bytes_of x v)
      (collect share_bytes (handed (G.gives x v gs)))
      g.0 g.2 (omega arith) (ap (λ (l : List ℕ). bytes_of x v ++ l) (collect-map share_bytes (share_of r.known) gs)) in (
        j.0,
        λ at ts us.
            ap (λ (u : Draft). flow place (suc (suc at)) (pair x v (spell_given gs (mark Tk.RS ∷ mark Tk.RP ∷ ts)))
            (pair_s No.top_number (given_s ∷ sign Tk.RP ∷ us)) (redrafted r u)) (nothing_at_list (blocks_of r.sheet) e (kind_of e))
            ∙ g.1 (suc (suc at)) (spell_given gs (mark Tk.RS ∷ mark Tk.RP ∷ ts)) (given_s ∷ sign Tk.RP ∷ us)
            ∙ j.1 (suc (suc (suc (suc (suc (suc (suc at))))))) (mark Tk.RS ∷ mark Tk.RP ∷ ts) (sign Tk.RP ∷ us),
        j.2,
      )
    where
      kind_of : (e : Draft) → (with_role (put_count d) (asking K.RES)).kind ≡ K.START
      kind_of e = kind_count d ∙ k
