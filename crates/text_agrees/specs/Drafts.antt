-- What bytes make of a draft: put one behind the other they are put together, and what goes before the last of them.
-- Assumes nothing.
use Prim.Native.Nat.{ℕ, ◌+◌, min}
use Rattle.std.proofs.Common.{arith, sym, ◌∙◌, append_assoc, length-append, take_at, drop_at, lt-ltb, ltb-true, ltb-false}
use Rattle.std.specs.Prelude.{◌≡◌, refl, List, [], ◌++◌, Bool, true, false, ◌||◌, ltb, length, take, drop, if◌then◌else◌}
use Rattle.std.proofs.Math.Path.{ap}
use Rattle.text_machine.specs.Entry.{Draft, KEPT, FULL, with_body, put, put_at}

-- The length of a body is its size, as long as it is kept.
pub record Whole (d : Draft) : Type 0 where
  pub sized : d.over ≡ false → length d.body ≡ d.size

same_body : (d : Draft) {a b : List ℕ} {o q : Bool} {m n : ℕ} → a ≡ b → o ≡ q → m ≡ n → with_body d a o m ≡ with_body d b q n
same_body d e f g = rw (e, f, g)

-- The three parts of what is put twice.
module _ (over : Bool) (size a b : ℕ) where
  abbrev once : Bool
  once = over || ltb KEPT (size + a)

  twice_over : once || ltb KEPT (min FULL (size + a) + b) ≡ over || ltb KEPT (size + (a + b))
  twice_over = go over (ltb KEPT (size + a)) refl
    where
      go : (o x : Bool) → ltb KEPT (size + a) ≡ x →
          (o || x) || ltb KEPT (min FULL (size + a) + b) ≡ o || ltb KEPT (size + (a + b))
      go true x e = refl
      go false true e =
          let h = ltb-true KEPT (size + a) e in sym (lt-ltb KEPT (size + (a + b)) (omega arith))
      go false false e =
          let h = ltb-false KEPT (size + a) e in
          let m : min FULL (size + a) + b ≡ size + (a + b) = omega arith in ap (λ (n : ℕ). ltb KEPT n) m

  twice_size : min FULL (min FULL (size + a) + b) ≡ min FULL (size + (a + b))
  twice_size = omega arith

twice_body : (o x z : Bool) (bs xs ys : List ℕ) → (x ≡ true → z ≡ true) →
    (if (o || x) || z then [] else (if o || x then [] else bs ++ xs) ++ ys) ≡ (if o || z then [] else bs ++ (xs ++ ys))
twice_body true x z bs xs ys e = refl
twice_body false true true bs xs ys e = refl
twice_body false true false bs xs ys e = let k : ◌≡◌ {A = Bool} false true = e refl in let w : ◌≡◌ {A = ℕ} 0 1 = cc in absurd
    (omega arith)
twice_body false false true bs xs ys e = refl
twice_body false false false bs xs ys e = append_assoc bs xs ys

module _ (d : Draft) (xs ys : List ℕ) where
  abbrev far : Bool
  far = ltb KEPT (d.size + length xs)

  abbrev further : Bool
  further = ltb KEPT (min FULL (d.size + length xs) + length ys)

  far-further : far ≡ true → further ≡ true
  far-further e = let h = ltb-true KEPT (d.size + length xs) e in lt-ltb KEPT (min FULL (d.size + length xs) + length ys)
      (omega arith)

  both : ltb KEPT (d.size + length (xs ++ ys)) ≡ ltb KEPT (d.size + (length xs + length ys))
  both = rw (length-append xs ys)

  put_put_body : (if (d.over || far) || further then [] else (if d.over || far then [] else d.body ++ xs) ++ ys)
      ≡ (if d.over || ltb KEPT (d.size + length (xs ++ ys)) then [] else d.body ++ (xs ++ ys))
  put_put_body =
      twice_body d.over far further d.body xs ys far-further
      ∙ ap (λ (o : Bool). if o then [] else d.body ++ (xs ++ ys)) over_same
    where
      over_same : d.over || further ≡ d.over || ltb KEPT (d.size + length (xs ++ ys))
      over_same = go d.over far refl
        where
          go : (o x : Bool) → far ≡ x → o || further ≡ o || ltb KEPT (d.size + length (xs ++ ys))
          go true x e = refl
          go false true e = far-further e ∙ sym (let h = ltb-true KEPT (d.size + length xs) e in rw (length-append xs ys)
              (lt-ltb KEPT (d.size + (length xs + length ys)) (omega arith)))
          go false false e =
              let h = ltb-false KEPT (d.size + length xs) e in
              rw (length-append xs ys)
              (let m : min FULL (d.size + length xs) + length ys ≡ d.size + (length xs + length ys) = omega arith in ap
              (λ (n : ℕ). ltb KEPT n) m)

  pub put-put : put (put d xs) ys ≡ put d (xs ++ ys)
  unfolding put
  put-put =
      same_body d put_put_body (twice_over d.over d.size (length xs) (length ys)
      ∙ ap (λ (b : Bool). d.over || b) (sym both))
      (twice_size d.over d.size (length xs) (length ys)
      ∙ ap (λ (n : ℕ). min FULL (d.size + n)) (sym (length-append xs ys)))

-- Whole stays whole.
pub whole_put : (d : Draft) (bs : List ℕ) → Whole d → Whole (put d bs)
unfolding put
whole_put d bs w = record { sized = λ e. go d.over (ltb KEPT (d.size + length bs)) refl refl e }
  where
    go : (o x : Bool) → d.over ≡ o → ltb KEPT (d.size + length bs) ≡ x → o || x ≡ false →
        length (if o || x then [] else d.body ++ bs) ≡ min FULL (d.size + length bs)
    go true x f g e = let z : ◌≡◌ {A = ℕ} 0 1 = cc in absurd (omega arith)
    go false true f g e = let z : ◌≡◌ {A = ℕ} 0 1 = cc in absurd (omega arith)
    go false false f g e =
        let h = ltb-false KEPT (d.size + length bs) g in
        let l = w.sized f in
        rw (length-append d.body bs) (omega arith)

-- What is put in where the last bytes begin stands before them.
pub put_before : (d : Draft) (xs ys : List ℕ) → Whole d → put_at (put d ys) d.size xs ≡ put d (xs ++ ys)
unfolding put put_at
put_before d xs ys w =
    same_body d (bodies d.over (ltb KEPT (d.size + length ys)) refl refl)
    (twice_over d.over d.size (length ys) (length xs) ∙ ap (λ (n : ℕ). d.over || ltb KEPT (d.size + n)) turned)
    (twice_size d.over d.size (length ys) (length xs) ∙ ap (λ (n : ℕ). min FULL (d.size + n)) turned)
  where
    turned : length ys + length xs ≡ length (xs ++ ys)
    turned = rw (length-append xs ys) (omega arith)

    split : d.over ≡ false → take d.size (d.body ++ ys) ++ xs ++ drop d.size (d.body ++ ys) ≡ d.body ++ (xs ++ ys)
    split f =
        let l = w.sized f in
        rw (take_at d.body ys d.size l, drop_at d.body ys d.size l) (append_assoc d.body xs ys)

    bodies : (o x : Bool) → d.over ≡ o → ltb KEPT (d.size + length ys) ≡ x →
        (if (o || x) || ltb KEPT (min FULL (d.size + length ys) + length xs) then []
        else take d.size (if o || x then [] else d.body ++ ys) ++ xs ++ drop d.size (if o || x then [] else d.body ++ ys))
        ≡ (if d.over || ltb KEPT (d.size + length (xs ++ ys)) then [] else d.body ++ (xs ++ ys))
    bodies true x f g = rw f
    bodies false true f g =
        let h = ltb-true KEPT (d.size + length ys) g in
        let k : ltb KEPT (d.size + length (xs ++ ys)) ≡ true = lt-ltb KEPT (d.size + length (xs ++ ys))
        (omega (arith, turned)) in
        rw (f, k)
    bodies false false f g =
        let h = ltb-false KEPT (d.size + length ys) g in
        let m : min FULL (d.size + length ys) + length xs ≡ d.size + length (xs ++ ys) = omega (arith, turned) in
        rw (f, m, split f)
