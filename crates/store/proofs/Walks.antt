-- The walk along the tags. Assumes nothing.
use Rattle.std.proofs.Common.{◌≡◌, ℕ, zero, suc, ◌<◌, Bool, true, false, cond, ◌&&◌, ◌⊎◌, List, [], ◌∷◌, Some, sym, refl, ap, ◌∙◌, subst, inl, inr, arith}
use Rattle.std.proofs.lemmas.Slice.Eq.{bytes_eq-Decides}
use Rattle.std.proofs.lemmas.Bool.{and_parts, cases_order}
use Rattle.std.specs.List.{AllByRecursion, slice_get}
use Rattle.std.specs.Str.{bytes_eq}
use Rattle.text.specs.Texts.{lawful}
use Rattle.store.specs.Tags.{Tag, before, looked, ascends, all_lawful}
use Rattle.store.proofs.Parting.{every-all, ascends-parts, apart-before, looked_here, looked_past}

all_nth : (P : Tag → Type 0) (ts : List Tag) (i : ℕ) (t : Tag) → AllByRecursion P ts → slice_get ts i ≡ Some t → P t
all_nth P [] i t a e = let z : ◌≡◌ {A = ℕ} 0 1 = cc in absurd (omega arith)
all_nth P (u ∷ us) zero t a e = let f : u ≡ t = cc in subst P f a.0
all_nth P (u ∷ us) (suc i) t a e = all_nth P us i t a.1 e

pub walk_ascends : (ts : List Tag) (i j : ℕ) (t u : Tag) → ascends ts ≡ true → i < j → slice_get ts i ≡ Some t → slice_get ts j ≡ Some u → before t.0 u.0 ≡ true
walk_ascends [] i j t u h l e f = let z : ◌≡◌ {A = ℕ} 0 1 = cc in absurd (omega arith)
walk_ascends (s ∷ ss) i zero t u h l e f = absurd (omega arith)
walk_ascends (s ∷ ss) zero (suc j) t u h l e f =
    let g : s ≡ t = cc in
    subst (λ (q : Tag). before q.0 u.0 ≡ true) g (all_nth (λ v. before s.0 v.0 ≡ true) ss j u (ascends-parts s ss h).0 f)
walk_ascends (s ∷ ss) (suc i) (suc j) t u h l e f = walk_ascends ss i j t u (ascends-parts s ss h).1 (omega arith) e f

once_by : (ts : List Tag) (i j : ℕ) (t u : Tag) → ascends ts ≡ true → slice_get ts i ≡ Some t → slice_get ts j ≡ Some u → t.0 ≡ u.0 → (i ≡ j) ⊎ ((i < j) ⊎ (j < i)) → i ≡ j
once_by ts i j t u h e f s (inl g) = g
once_by ts i j t u h e f s (inr (inl l)) = absurd (apart-before t.0 u.0 (walk_ascends ts i j t u h l e f) s)
once_by ts i j t u h e f s (inr (inr l)) = absurd (apart-before u.0 t.0 (walk_ascends ts j i u t h l f e) (sym s))

pub walk_once : (ts : List Tag) (i j : ℕ) (t u : Tag) → ascends ts ≡ true → slice_get ts i ≡ Some t → slice_get ts j ≡ Some u → t.0 ≡ u.0 → i ≡ j
walk_once ts i j t u h e f s = once_by ts i j t u h e f s (cases_order i j)

pub walk_shown : (ts : List Tag) (i : ℕ) (t : Tag) → ascends ts ≡ true → slice_get ts i ≡ Some t → looked t.0 ts ≡ Some t.1
walk_shown [] i t h e = let z : ◌≡◌ {A = ℕ} 0 1 = cc in absurd (omega arith)
walk_shown (s ∷ ss) zero t h e =
    let g : s ≡ t = cc in
    looked_here t.0 s ss (ap (λ (q : Tag). q.0) g) ∙ ap (λ (q : Tag). Some q.1) g
walk_shown (s ∷ ss) (suc i) t h e =
    looked_past t.0 s ss (apart-before s.0 t.0 (walk_ascends (s ∷ ss) 0 (suc i) s t h (omega arith) refl e)) ∙ walk_shown ss i t (ascends-parts s ss h).1 e

-- a look-up that gives a value comes from a place
abbrev Stands : List ℕ → List ℕ → List Tag → Type 0
Stands k v ts = (i : ℕ) × (slice_get ts i ≡ Some (k, v))

stands_by : (k v : List ℕ) (t : Tag) (ts : List Tag) (x : Bool) → bytes_eq t.0 k ≡ x → (looked k ts ≡ Some v → Stands k v ts) → cond x (Some t.1) (looked k ts) ≡ Some v → Stands k v (t ∷ ts)
stands_by k v t ts true e ih h =
    let key : t.0 ≡ k = (bytes_eq-Decides t.0 k).0 e in
    let value : t.1 ≡ v = cc in
    (zero, λ i. Some (key i, value i))
stands_by k v t ts false e ih h = let more = ih h in (suc more.0, more.1)

pub walk_stands : (k v : List ℕ) (ts : List Tag) → looked k ts ≡ Some v → Stands k v ts
unfolding looked
walk_stands k v [] h = let z : ◌≡◌ {A = ℕ} 0 1 = cc in absurd (omega arith)
walk_stands k v (t ∷ ts) h = stands_by k v t ts (bytes_eq t.0 k) refl (walk_stands k v ts) h

pub looked-lawful : (k v : List ℕ) (ts : List Tag) → all_lawful ts ≡ true → looked k ts ≡ Some v → (lawful k ≡ true) × (lawful v ≡ true)
unfolding all_lawful
looked-lawful k v ts h e =
    let at = walk_stands k v ts e in
    and_parts (lawful k) (lawful v) (all_nth (λ t. (lawful t.0 && lawful t.1) ≡ true) ts at.0 (k, v) (every-all _ ts h) at.1)
