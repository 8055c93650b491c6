-- What `try_fold` gives, where its closure computes a step that may fail. Assumes nothing.
use denote.Param.Members.{Mut}
use Rattle.std.proofs.Common.{◌≡◌, List, [], ◌∷◌, Some, None, Option, refl, sym, ap, ◌∙◌, subst}
use Rattle.std.proofs.lemmas.Iterator.{YieldsList}
use Rattle.std.specs.Fn.{Called}
use Rattle.std.specs.Iterator.{AlwaysYields, Yields, YieldsThen}
use Rattle.std.specs.List.{FoldsTo}
use Rattle.std.specs.Option.{MatchOption}
use Rattle.block.specs.Lines.{bind}

-- a step at each item until one fails
abbrev pub steps_over : {B C : Type 0} → (B → C → Option B) → B → List C → Option B
steps_over h a [] = Some a
steps_over h a (y ∷ ys) = bind (h a y) (λ b. steps_over h b ys)

module _ {S A B C F : Type 0} (steps : S → Option A → S → Type 0) (v : A → C) (g : Mut F (B × (A × Unit {0})) (Option B)) (h : B → C → Option B) (f : F)
    (acts : (b : B) (x : A) (o : Option B) (q : F) → Called g f (b, (x, tt)) o q → (q ≡ f) × (o ≡ h b (v x)))
  where
    -- a call that goes on, and how the calls end
    abbrev Turn : F × B → A → F × B → Type 0
    Turn p x q = (w : Option B) × Called g p.0 (p.1, (x, tt)) w q.0 × (w ≡ Some q.1)

    abbrev Ends : Type 0 → Option A → F → B → Option B → Type 0
    Ends E o k a r = MatchOption o (r ≡ Some a) (λ x. (w : Option B) × (q : F) × (e : E) × Called g k (a, (x, tt)) w q × (w ≡ None) × (r ≡ None))

    tried : (E : Type 0) (xs : List A) (o : Option A) (s t u : S) (k q : F) (init a : B) (r : Option B) (all : List C) → k ≡ f → Yields steps s xs t → steps t o u
        → FoldsTo {P = F × B} Turn (k, init) xs (q, a) → Ends E o q a r → AlwaysYields steps v s all → r ≡ steps_over h init all
    tried E [] None s t u k q init a r [] same led last folds ends road = ends ∙ ap (λ p. Some p.1) (sym folds)
    tried E [] None s t u k q init a r (y ∷ ys) same led last folds ends road = absurd (road.0 u (subst (λ (p : S). steps p None u) (sym led) last))
    tried E [] (Some x) s t u k q init a r [] same led last folds ends road = absurd (road x u (subst (λ (p : S). steps p (Some x) u) (sym led) last))
    tried E [] (Some x) s t u k q init a r (y ∷ ys) same led last folds ends road =
        let here = road.1 x u (subst (λ (p : S). steps p (Some x) u) (sym led) last) in
        let closure : q ≡ f = ap (λ p. p.0) (sym folds) ∙ same in
        let total : init ≡ a = ap (λ p. p.1) folds in
        let act = acts a x ends.0 ends.1 (subst (λ (l : F). Called g l (a, (x, tt)) ends.0 ends.1) closure ends.3) in
        let none : h init y ≡ None = ap (λ b. h b y) total ∙ ap (h a) (sym here.0) ∙ sym act.1 ∙ ends.4 in
        ends.5 ∙ sym (ap (λ p. bind p (λ b. steps_over h b ys)) none)
    tried E (x ∷ xs) o s t u k q init a r [] same led last folds ends road = absurd (road x led.0 led.1)
    tried E (x ∷ xs) o s t u k q init a r (y ∷ ys) same led last folds ends road =
        let here = road.1 x led.0 led.1 in
        let next = folds.0 in
        let act = acts init x folds.1.0 next.0 (subst (λ (l : F). Called g l (init, (x, tt)) folds.1.0 next.0) same folds.1.1) in
        let some : h init y ≡ Some next.1 = ap (h init) (sym here.0) ∙ sym act.1 ∙ folds.1.2 in
        tried E xs o led.0 t u next.0 q next.1 a r ys act.0 led.2 last folds.2 ends here.1 ∙ sym (ap (λ p. bind p (λ b. steps_over h b ys)) some)

    pub try_folded : {E : Type 0} (s u : S) (init : B) (r : Option B) (all : List C)
        → (xs : List A) × (o : Option A) × (q : F) × (a : B) × YieldsThen steps s xs o u × FoldsTo {P = F × B} Turn (f, init) xs (q, a) × Ends E o q a r
        → YieldsList steps v s all → r ≡ steps_over h init all
    try_folded {E} s u init r all ran road = tried E ran.0 ran.1 s ran.4.0 u f ran.2 init ran.3 r all refl ran.4.1 ran.4.2 ran.5 ran.6 road.runs
