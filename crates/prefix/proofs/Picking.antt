-- What a `filter_map` yields. `tracestate` has the same lemma; neither crate stands on the other. Assumes nothing.
use Rattle.std.proofs.Common.{◌≡◌, List, [], ◌∷◌, Some, None, Option, sym, refl, ap, ◌∙◌, subst}
use Rattle.std.proofs.lemmas.Bool.{false≢true}
use Rattle.std.proofs.lemmas.Iterator.{YieldsList}
use Rattle.std.specs.Fn.{Called, Mut}
use Rattle.std.specs.Iterator.{AlwaysYields, YieldsThen}
use Rattle.std.specs.Iterator.Adapters.{filter_map_source, filter_map_callee, filter_map_steps}
use Rattle.std.specs.List.{FoldsTo, cons_option, filter_map}
use Rattle.std.specs.Option.{IsSome, MatchOption, option_map}
use Rattle.std.specs.declared.iter.FilterMap.{FilterMap}

-- `YieldsList-from_filter_map`, where z reads each answer
module _ {S A B C Z F : Type 0} (steps : S → Option A → S → Type 0) (v : A → B) (z : C → Z) (g : Mut F (A × Unit {0}) (Option C)) (h : B → Option Z) (f : F) (k : (x : A) (r : Option C) (q : F) → Called g f (x, tt) r q → (q ≡ f) × (option_map z r ≡ h (v x))) where
  -- what is left where nothing came for some items, and then the answer for o
  abbrev Left : S → Option A → List Z → Type 0
  Left u o l = MatchOption o (l ≡ []) (λ x. (more : List B) × (l ≡ cons_option (h (v x)) (filter_map h more)) × AlwaysYields steps v u more)

  passes : (ys : List B) (s u : S) (p q : F) (xs : List A) (o : Option A) → p ≡ f → AlwaysYields steps v s ys → YieldsThen steps s xs o u → FoldsTo (λ p x q. Called g p (x, tt) None q) p xs q → (q ≡ f) × Left u o (filter_map h ys)
  passes [] s u p q [] None a y t c = (sym c ∙ a, refl)
  passes [] s u p q [] (Some x) a y t c = absurd (y x u (subst (λ j. steps j (Some x) u) (sym t.1) t.2))
  passes [] s u p q (x ∷ xs) o a y t c = absurd (y x t.1.0 t.1.1)
  passes (b ∷ bs) s u p q [] None a y t c = absurd (y.0 u (subst (λ j. steps j None u) (sym t.1) t.2))
  passes (b ∷ bs) s u p q [] (Some x) a y t c =
      let here = y.1 x u (subst (λ j. steps j (Some x) u) (sym t.1) t.2) in
      (sym c ∙ a, (bs, ap (λ d. cons_option (h d) (filter_map h bs)) (sym here.0), here.1))
  passes (b ∷ bs) s u p q (x ∷ xs) o a y t c =
      let here = y.1 x t.1.0 t.1.1 in
      let m = k x None c.0 (subst (λ j. Called g j (x, tt) None c.0) a c.1) in
      let none : h b ≡ None = ap h (sym here.0) ∙ sym m.1 in
      let rest = passes bs t.1.0 u c.0 q xs o m.0 here.1 (t.0, t.1.2, t.2) c.2 in
      (rest.0, subst (Left u o) (sym (ap (λ d. cons_option d (filter_map h bs)) none)) rest.1)

  -- the next answer, of a list that is l
  abbrev Next : FilterMap S F → Option C → List Z → Type 0
  Next t r l = MatchOption r (l ≡ []) (λ y. (more : List B) × (filter_map_callee t ≡ f) × (l ≡ z y ∷ filter_map h more) × AlwaysYields steps v (filter_map_source t) more)

  ends : (t : FilterMap S F) (o : Option A) (r : Option C) (q : F) (l : List Z) → q ≡ f → Left (filter_map_source t) o l → MatchOption o ((r ≡ None) × (filter_map_callee t ≡ q)) (λ x. Called g q (x, tt) r (filter_map_callee t) × IsSome r) → Next t r l
  ends t None r q l a m e = subst (λ r. Next t r l) (sym e.0) m
  ends t (Some x) None q l a m e = absurd (false≢true e.1)
  ends t (Some x) (Some y) q l a m e =
      let n = k x (Some y) (filter_map_callee t) (subst (λ j. Called g j (x, tt) (Some y) (filter_map_callee t)) a e.0) in
      (m.0, n.0, m.1 ∙ ap (λ d. cons_option d (filter_map h m.0)) (sym n.1), m.2)

  answers : (ys : List B) (s t : FilterMap S F) (r : Option C) → filter_map_callee s ≡ f → AlwaysYields steps v (filter_map_source s) ys → filter_map_steps steps g s r t → Next t r (filter_map h ys)
  answers ys s t r a y p =
      let m = passes ys (filter_map_source s) (filter_map_source t) (filter_map_callee s) p.2 p.0 p.1 a y p.3 p.4 in
      ends t p.1 r p.2 (filter_map h ys) m.0 m.1 p.5

  picks : (zs : List Z) (ys : List B) (s : FilterMap S F) → filter_map_callee s ≡ f → filter_map h ys ≡ zs → AlwaysYields steps v (filter_map_source s) ys → AlwaysYields (filter_map_steps steps g) z s zs
  picks [] ys s a d y = λ x t p. let m = answers ys s t (Some x) a y p in absurd (cc)
  picks (w ∷ zs) ys s a d y = (
    λ t p. let m = answers ys s t None a y p in absurd (cc),
    λ x t p.
        let m = answers ys s t (Some x) a y p in
        let same : w ∷ zs ≡ z x ∷ filter_map h m.0 = sym d ∙ m.2 in
        (cc, picks zs m.0 t m.1 (cc) m.3),
  )

  pub YieldsList-from_filter_map_by : {ys : List B} {s : FilterMap S F} → YieldsList steps v (filter_map_source s) ys → filter_map_callee s ≡ f → YieldsList (filter_map_steps steps g) z s (filter_map h ys)
  YieldsList-from_filter_map_by {ys} {s} e a = record { runs = picks (filter_map h ys) ys s a refl e.runs }
