-- The shape of a traceparent: what is taken from a text is what stands there. Assumes nothing.
use Rattle.std.proofs.Common.{◌≡◌, ℕ, ◌≤◌, Bool, true, false, cond, ◌&&◌, eqb, leb, List, [], ◌∷◌, ◌++◌, length, take, drop, Some, None, codes, Option, sym, refl, ap, ◌∙◌, subst, arith, length-append}
use Rattle.std.proofs.lemmas.List.{take_at, drop_at, take-append-drop, length-take-le, nil_from_length}
use Rattle.std.proofs.lemmas.Bool.{and_from, and_parts, cond-true, cond-false, le-leb, leb-true, eqb-true, ne_eqb}
use Rattle.std.specs.Option.{option_map}
use Rattle.byte_classes.specs.Sets.{hex}
use Rattle.text.specs.Takes.{taken_char, taken_hex}
use Rattle.std.specs.List.{list_all}
use Rattle.traceparent.specs.Laws.{tail_text, Digits, Shaped, ShapeIs, ShapeOnly}
use Rattle.traceparent.specs.Reads.{Fields, bind, components, taken_tail}

-- digits in front of more text are taken whole
pub taken_hex_lem : (n : ℕ) (xs rest : List ℕ) → length xs ≡ n → list_all hex xs ≡ true → taken_hex n (xs ++ rest) ≡ Some (xs, rest)
unfolding taken_hex
taken_hex_lem n xs rest e h =
    let front = take_at xs rest n e in
    let room : n ≤ length (xs ++ rest) = omega (arith, length-append xs rest) in
    cond-true _ _ None (and_from (leb n (length (xs ++ rest))) (list_all hex (take n (xs ++ rest))) (le-leb _ _ room) (ap (list_all hex) front ∙ h))
    ∙ (λ i. Some (front i, drop_at xs rest n e i))

digits-taken : (n : ℕ) (xs rest : List ℕ) → Digits n xs → taken_hex n (xs ++ rest) ≡ Some (xs, rest)
digits-taken n xs rest d = taken_hex_lem n xs rest d.long d.hexes

tail-taken : (t : Option (List ℕ)) → taken_tail (tail_text t) ≡ Some t
tail-taken None = refl
tail-taken (Some t) = cond-false (eqb (length (0x2D ∷ t)) 0) (Some None) (Some (Some t)) (ne_eqb (length (0x2D ∷ t)) 0 (λ e. omega arith))

pub shape_is : ShapeIs
shape_is s f h =
    let after-flags = tail_text f.tail in
    let after-span = codes "-" ++ (f.flags ++ after-flags) in
    let after-low = codes "-" ++ (f.span ++ after-span) in
    let after-high = f.low ++ after-low in
    let after-version = codes "-" ++ (f.high ++ after-high) in
    ap components h.whole
    ∙ rw (digits-taken 2 f.version after-version h.version, digits-taken 16 f.high after-high h.high, digits-taken 16 f.low after-low h.low, digits-taken 16 f.span after-span h.span, digits-taken 2 f.flags after-flags h.flags, tail-taken f.tail) refl

-- what was taken, if something was
bind-some : {X Y : Type 0} (o : Option X) (k : X → Option Y) (y : Y) → bind o k ≡ Some y → (x : X) × (o ≡ Some x) × (k x ≡ Some y)
bind-some None k y e = let z : ◌≡◌ {A = ℕ} 0 1 = cc in absurd (omega arith)
bind-some (Some x) k y e = (x, refl, e)

passed : {A : Type 0} (t : Bool) (x y : A) → cond t (Some x) None ≡ Some y → (t ≡ true) × (x ≡ y)
passed true x y e = (refl, cc)
passed false x y e = let z : ◌≡◌ {A = ℕ} 0 1 = cc in absurd (omega arith)

hex-parts : (n : ℕ) (s : List ℕ) (p : List ℕ × List ℕ) → taken_hex n s ≡ Some p → (s ≡ p.0 ++ p.1) × Digits n p.0
unfolding taken_hex
hex-parts n s p e =
    let found = passed (leb n (length s) && list_all hex (take n s)) (take n s, drop n s) p e in
    let parts = and_parts _ _ found.0 in
    let long : length (take n s) ≡ n = length-take-le n s (leb-true n (length s) parts.0) in
    let P : List ℕ × List ℕ → Type 0 = λ q. (s ≡ q.0 ++ q.1) × Digits n q.0 in
    subst P found.1 (sym (take-append-drop n s), record { long = long; hexes = parts.1 })

char_parts : (c : ℕ) (s r : List ℕ) → taken_char c s ≡ Some r → s ≡ c ∷ r
char_parts c [] r e = let z : ◌≡◌ {A = ℕ} 0 1 = cc in absurd (omega arith)
char_parts c (b ∷ bs) r e = let found = passed (eqb b c) bs r e in (λ i. eqb-true b c found.0 i ∷ found.1 i)

mapped_some : (o : Option (List ℕ)) (t : Option (List ℕ)) → option_map Some o ≡ Some t → (x : List ℕ) × (o ≡ Some x) × (Some x ≡ t)
mapped_some None t e = let z : ◌≡◌ {A = ℕ} 0 1 = cc in absurd (omega arith)
mapped_some (Some x) t e = (x, refl, cc)

tail-by : (b : Bool) (s : List ℕ) (t : Option (List ℕ)) → eqb (length s) 0 ≡ b → cond b (Some None) (option_map Some (taken_char 0x2D s)) ≡ Some t → s ≡ tail_text t
tail-by true s t e h = let none : None ≡ t = cc in nil_from_length s (eqb-true (length s) 0 e) ∙ ap tail_text none
tail-by false s t e h = let m = mapped_some (taken_char 0x2D s) t h in char_parts 0x2D s m.0 m.1 ∙ ap tail_text m.2

some_same : (f g : Fields) → Some f ≡ Some g → f ≡ g
some_same f g e = cc

pub shape_only : ShapeOnly
shape_only s f e =
    let v = bind-some (taken_hex 2 s) _ f e in
    let d₁ = bind-some (taken_char 0x2D v.0.1) _ f v.2 in
    let h = bind-some (taken_hex 16 d₁.0) _ f d₁.2 in
    let l = bind-some (taken_hex 16 h.0.1) _ f h.2 in
    let d₂ = bind-some (taken_char 0x2D l.0.1) _ f l.2 in
    let p = bind-some (taken_hex 16 d₂.0) _ f d₂.2 in
    let d₃ = bind-some (taken_char 0x2D p.0.1) _ f p.2 in
    let g = bind-some (taken_hex 2 d₃.0) _ f d₃.2 in
    let t = bind-some (taken_tail g.0.1) _ f g.2 in
    let vp = hex-parts 2 s v.0 v.1 in
    let hp = hex-parts 16 d₁.0 h.0 h.1 in
    let lp = hex-parts 16 h.0.1 l.0 l.1 in
    let pp = hex-parts 16 d₂.0 p.0 p.1 in
    let gp = hex-parts 2 d₃.0 g.0 g.1 in
    let end : g.0.1 ≡ tail_text t.0 = tail-by (eqb (length g.0.1) 0) g.0.1 t.0 refl t.1 in
    let from-flags : d₃.0 ≡ g.0.0 ++ tail_text t.0 = gp.0 ∙ ap (λ x. g.0.0 ++ x) end in
    let from-span : d₂.0 ≡ p.0.0 ++ (0x2D ∷ (g.0.0 ++ tail_text t.0)) = pp.0 ∙ ap (λ x. p.0.0 ++ x) (char_parts 0x2D p.0.1 d₃.0 d₃.1 ∙ ap (λ x. 0x2D ∷ x) from-flags) in
    let from_low : h.0.1 ≡ l.0.0 ++ (0x2D ∷ (p.0.0 ++ (0x2D ∷ (g.0.0 ++ tail_text t.0)))) = lp.0 ∙ ap (λ x. l.0.0 ++ x) (char_parts 0x2D l.0.1 d₂.0 d₂.1 ∙ ap (λ x. 0x2D ∷ x) from-span) in
    let whole = vp.0 ∙ ap (λ x. v.0.0 ++ x) (char_parts 0x2D v.0.1 d₁.0 d₁.1 ∙ ap (λ x. 0x2D ∷ x) (hp.0 ∙ ap (λ x. h.0.0 ++ x) from_low)) in
    subst (Shaped s) (some_same _ f t.2) (record { whole = whole; version = vp.1; high = hp.1; low = lp.1; span = pp.1; flags = gp.1 })
