-- Items folded one after the other, where v reads each item and w each total. Assumes nothing.
use Rattle.std.proofs.Common.{◌≡◌, List, [], ◌∷◌, map, Some, None, Option, sym, refl, ap, ◌∙◌, subst}
use Rattle.std.proofs.lemmas.Bool.{false≢true}
use Rattle.std.proofs.lemmas.Iterator.{YieldsList, items_from_drains}
use Rattle.std.specs.ControlFlow.{continue_value}
use Rattle.std.specs.Fn.{Called, Mut}
use Rattle.std.specs.Iterator.{AlwaysYields, YieldsThen, FoldTurn, FoldsItems, TryFoldTurn, TryFoldsItems}
use Rattle.std.specs.Iterator.Adapters.{filter_map_source, filter_map_callee, filter_map_steps}
use Rattle.std.specs.List.{FoldsTo, cons_option, filter_map, fold}
use Rattle.std.specs.Option.{IsSome, MatchOption, option_map}
use Rattle.std.specs.declared.iter.FilterMap.{FilterMap}
use Rattle.std.specs.declared.ops.ControlFlow.{ControlFlow}

module _ {A B C D F : Type 0} (v : A → B) (w : C → D) (g : Mut F (C × (A × Unit {0})) C) (h : D → B → D) (f : F) (k : (a : C) (x : A) (b : C) (q : F) → Called g f (a, (x, tt)) b q → (q ≡ f) × (w b ≡ h (w a) (v x))) where
  folds : (xs : List A) (p q : F × C) → p.0 ≡ f → FoldsTo {P = F × C} (FoldTurn g) p xs q → w q.1 ≡ fold h (w p.1) (map v xs)
  folds [] p q a c = ap (λ z. w z.1) (sym c)
  folds (x ∷ xs) p q a c = let m = k p.1 x c.0.1 c.0.0 (subst (λ z. Called g z (p.1, (x, tt)) c.0.1 c.0.0) a c.1) in folds xs c.0 q m.0 c.2 ∙ ap (λ b. fold h b (map v xs)) m.1

pub fold-viewed : {S A B C D F : Type 0} {steps : S → Option A → S → Type 0} {v : A → B} {s : S} {all : List B} (w : C → D) (g : Mut F (C × (A × Unit {0})) C) (h : D → B → D) {f : F} {init r : C}
    → FoldsItems steps g s f init r → YieldsList steps v s all
    → ((a : C) (x : A) (b : C) (q : F) → Called g f (a, (x, tt)) b q → (q ≡ f) × (w b ≡ h (w a) (v x)))
    → w r ≡ fold h (w init) all
fold-viewed {v = v} {all = all} w g h {f} {init} {r} ran e k =
    let d = ran.2 in
    folds v w g h f k ran.0 (f, init) (ran.1, r) refl ran.3 ∙ ap (fold h (w init)) (items_from_drains ran.0 (d.1.0, d.1.1, λ _. (d.0, d.1.2)) e)

-- `YieldsList-from_filter_map`, where z reads each answer
module _ {S A B C Z F : Type 0} (steps : S → Option A → S → Type 0) (v : A → B) (z : C → Z) (g : Mut F (A × Unit {0}) (Option C)) (h : B → Option Z) (f : F) (k : (x : A) (r : Option C) (q : F) → Called g f (x, tt) r q → (q ≡ f) × (option_map z r ≡ h (v x))) where
  -- what is left where nothing came for some items, and then the answer for o
  abbrev Left : S → Option A → List Z → Type 0
  Left u o l = MatchOption o (l ≡ []) (λ x. (more : List B) × (l ≡ cons_option (h (v x)) (filter_map h more)) × AlwaysYields steps v u more)

  passes : (ys : List B) (s u : S) (p q : F) (xs : List A) (o : Option A) → p ≡ f → AlwaysYields steps v s ys → YieldsThen steps s xs o u → FoldsTo (λ p x q. Called g p (x, tt) None q) p xs q → (q ≡ f) × Left u o (filter_map h ys)
  passes [] s u p q [] None a y t c = (sym c ∙ a, refl)
  passes [] s u p q [] (Some x) a y t c = absurd (y x u (subst (λ j. steps j (Some x) u) (sym t.1) t.2))
  passes [] s u p q (x ∷ xs) o a y t c = absurd (y x t.1.0 t.1.1)
  passes (b ∷ bs) s u p q [] None a y t c = absurd (y.0 u (subst (λ j. steps j None u) (sym t.1) t.2))
  passes (b ∷ bs) s u p q [] (Some x) a y t c =
      let here = y.1 x u (subst (λ j. steps j (Some x) u) (sym t.1) t.2) in
      (sym c ∙ a, (bs, ap (λ d. cons_option (h d) (filter_map h bs)) (sym here.0), here.1))
  passes (b ∷ bs) s u p q (x ∷ xs) o a y t c =
      let here = y.1 x t.1.0 t.1.1 in
      let m = k x None c.0 (subst (λ j. Called g j (x, tt) None c.0) a c.1) in
      let none : h b ≡ None = ap h (sym here.0) ∙ sym m.1 in
      let rest = passes bs t.1.0 u c.0 q xs o m.0 here.1 (t.0, t.1.2, t.2) c.2 in
      (rest.0, subst (Left u o) (sym (ap (λ d. cons_option d (filter_map h bs)) none)) rest.1)

  -- the next answer, of a list that is l
  abbrev Next : FilterMap S F → Option C → List Z → Type 0
  Next t r l = MatchOption r (l ≡ []) (λ y. (more : List B) × (filter_map_callee t ≡ f) × (l ≡ z y ∷ filter_map h more) × AlwaysYields steps v (filter_map_source t) more)

  ends : (t : FilterMap S F) (o : Option A) (r : Option C) (q : F) (l : List Z) → q ≡ f → Left (filter_map_source t) o l → MatchOption o ((r ≡ None) × (filter_map_callee t ≡ q)) (λ x. Called g q (x, tt) r (filter_map_callee t) × IsSome r) → Next t r l
  ends t None r q l a m e = subst (λ r. Next t r l) (sym e.0) m
  ends t (Some x) None q l a m e = absurd (false≢true e.1)
  ends t (Some x) (Some y) q l a m e =
      let n = k x (Some y) (filter_map_callee t) (subst (λ j. Called g j (x, tt) (Some y) (filter_map_callee t)) a e.0) in
      (m.0, n.0, m.1 ∙ ap (λ d. cons_option d (filter_map h m.0)) (sym n.1), m.2)

  answers : (ys : List B) (s t : FilterMap S F) (r : Option C) → filter_map_callee s ≡ f → AlwaysYields steps v (filter_map_source s) ys → filter_map_steps steps g s r t → Next t r (filter_map h ys)
  answers ys s t r a y p =
      let m = passes ys (filter_map_source s) (filter_map_source t) (filter_map_callee s) p.2 p.0 p.1 a y p.3 p.4 in
      ends t p.1 r p.2 (filter_map h ys) m.0 m.1 p.5

  picks : (zs : List Z) (ys : List B) (s : FilterMap S F) → filter_map_callee s ≡ f → filter_map h ys ≡ zs → AlwaysYields steps v (filter_map_source s) ys → AlwaysYields (filter_map_steps steps g) z s zs
  picks [] ys s a d y = λ x t p. let m = answers ys s t (Some x) a y p in absurd (cc)
  picks (w ∷ zs) ys s a d y = (
    λ t p. let m = answers ys s t None a y p in absurd (cc),
    λ x t p.
        let m = answers ys s t (Some x) a y p in
        let same : w ∷ zs ≡ z x ∷ filter_map h m.0 = sym d ∙ m.2 in
        (cc, picks zs m.0 t m.1 (cc) m.3),
  )

  pub YieldsList-from_filter_map_by : {ys : List B} {s : FilterMap S F} → YieldsList steps v (filter_map_source s) ys → filter_map_callee s ≡ f → YieldsList (filter_map_steps steps g) z s (filter_map h ys)
  YieldsList-from_filter_map_by {ys} {s} e a = record { runs = picks (filter_map h ys) ys s a refl e.runs }

-- a fold that stops where there is no total
abbrev pub bind : {D : Type 0} → Option D → (D → Option D) → Option D
bind None f = None
bind (Some x) f = f x

abbrev pub fold_while : {B D : Type 0} → (D → B → Option D) → D → List B → Option D
fold_while h d [] = Some d
fold_while h d (y ∷ ys) = bind (h d y) (λ e. fold_while h e ys)

-- the same, where `try_fold` runs it
module _ {S A B C D F : Type 0} (E : Type 0) (steps : S → Option A → S → Type 0) (v : A → B) (w : C → D) (g : Mut F (C × (A × Unit {0})) (Option C)) (h : D → B → Option D) (f : F) (k : (a : C) (x : A) (b : Option C) (q : F) → Called g f (a, (x, tt)) b q → (q ≡ f) × (option_map w b ≡ h (w a) (v x))) where
  -- how it ended, at the total a
  abbrev Ended : Option A → F → C → Option C → Type 0
  Ended o f' a r = MatchOption o (r ≡ Some a) (λ x. (b : Option C) × (j : F) × (e : E) × Called g f' (a, (x, tt)) b j × (b ≡ None) × (r ≡ None))

  abbrev Turn : F × C → A → F × C → Type 0
  Turn = TryFoldTurn {E = E} g (λ b c. b ≡ continue_value c)

  tries : (all : List B) (s u : S) (p q : F × C) (xs : List A) (o : Option A) (r : Option C) → p.0 ≡ f → AlwaysYields steps v s all → YieldsThen steps s xs o u
      → FoldsTo {P = F × C} Turn p xs q → Ended o q.0 q.1 r → option_map w r ≡ fold_while h (w p.1) all
  tries [] s u p q [] None r a y t c e = ap (option_map w) e ∙ ap (λ z. Some (w z.1)) (sym c)
  tries [] s u p q [] (Some x) r a y t c e = absurd (y x u (subst (λ z. steps z (Some x) u) (sym t.1) t.2))
  tries [] s u p q (x ∷ xs) o r a y t c e = absurd (y x t.1.0 t.1.1)
  tries (b ∷ bs) s u p q [] None r a y t c e = absurd (y.0 u (subst (λ z. steps z None u) (sym t.1) t.2))
  tries (b ∷ bs) s u p q [] (Some x) r a y t c e =
      let here = (y.1 x u (subst (λ z. steps z (Some x) u) (sym t.1) t.2)).0 in
      let called : Called g f (p.1, (x, tt)) e.0 e.1 = subst (λ z. Called g z.0 (z.1, (x, tt)) e.0 e.1) (sym c ∙ ap (λ z. (z, p.1)) a) e.3 in
      let none : h (w p.1) b ≡ None = ap (h (w p.1)) (sym here) ∙ sym (k p.1 x e.0 e.1 called).1 ∙ ap (option_map w) e.4 in
      ap (option_map w) e.5 ∙ sym (ap (λ o. bind o (λ d. fold_while h d bs)) none)
  tries (b ∷ bs) s u p q (x ∷ xs) o r a y t c e =
      let here = y.1 x t.1.0 t.1.1 in
      let turn = c.1 in
      let called : Called g f (p.1, (x, tt)) turn.0 c.0.0 = subst (λ z. Called g z (p.1, (x, tt)) turn.0 c.0.0) a turn.1 in
      let m = k p.1 x turn.0 c.0.0 called in
      let some : h (w p.1) b ≡ Some (w c.0.1) = ap (h (w p.1)) (sym here.0) ∙ sym m.1 ∙ ap (option_map w) turn.2 in
      tries bs t.1.0 u c.0 q xs o r m.0 here.1 (t.0, t.1.2, t.2) c.2 e ∙ sym (ap (λ o. bind o (λ d. fold_while h d bs)) some)

  pub try_fold-viewed : {s u : S} {all : List B} {init : C} {r : Option C} → TryFoldsItems steps g (λ (b : Option C) (c : ControlFlow E C). b ≡ continue_value c) (λ _ b. b ≡ None) s f init r u → YieldsList steps v s all → option_map w r ≡ fold_while h (w init) all
  try_fold-viewed {s} {u} {all} {init} {r} ran e = tries all s u (f, init) (ran.2, ran.3) ran.0 ran.1 r refl e.runs ran.4 ran.5 ran.6
