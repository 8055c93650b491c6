-- Look-ups after puts and removes, and tags by their look-ups. Assumes nothing.
use Rattle.std.proofs.Common.{◌≡◌, ℕ, Bool, true, false, cond, List, [], ◌∷◌, ◌++◌, Some, None, filter, Option, sym, refl, ap, ◌∙◌, arith}
use Rattle.std.proofs.lemmas.Slice.Eq.{bytes_eq-Decides}
use Rattle.std.proofs.lemmas.Bool.{cond-true, cond-false}
use Rattle.std.specs.Option.{option_or}
use Rattle.std.specs.Str.{bytes_eq}
use Rattle.store.specs.Tags.{Tag, before, below, above, placed, without, looked, ascends}
use Rattle.store.proofs.Ascending.{ascends-placed, ascends-without}
use Rattle.store.proofs.Orders.{Trichotomy, first, same, last, trichotomy, before_itself, before-once}
use Rattle.store.proofs.Parting.{ascends-parts, not-before, apart-before, apart-after, looked_here, looked_past, looked-after, after_same, after_last}

-- a filter by key keeps a key's look-up or loses it
kept_step : (p : List ℕ → Bool) (j : List ℕ) (t : Tag) (ts : List Tag) (x y : Bool) → p t.0 ≡ x → bytes_eq t.0 j ≡ y
    → looked j (filter (λ u. p u.0) ts) ≡ cond (p j) (looked j ts) None
    → looked j (cond x (t ∷ filter (λ u. p u.0) ts) (filter (λ u. p u.0) ts)) ≡ cond (p j) (cond y (Some t.1) (looked j ts)) None
unfolding looked
kept_step p j t ts true true e f ih =
    cond-true (bytes_eq t.0 j) _ _ f ∙ sym (cond-true (p j) _ _ (ap p (sym ((bytes_eq-Decides t.0 j).0 f)) ∙ e))
kept_step p j t ts true false e f ih = cond-false (bytes_eq t.0 j) _ _ f ∙ ih
kept_step p j t ts false true e f ih =
    let gone : p j ≡ false = ap p (sym ((bytes_eq-Decides t.0 j).0 f)) ∙ e in
    ih ∙ cond-false (p j) _ _ gone ∙ sym (cond-false (p j) _ _ gone)
kept_step p j t ts false false e f ih = ih

no_choice : (b : Bool) → ◌≡◌ {A = Option (List ℕ)} (cond b None None) None
no_choice true = refl
no_choice false = refl

looked-kept : (p : List ℕ → Bool) (j : List ℕ) (ts : List Tag) → looked j (filter (λ u. p u.0) ts) ≡ cond (p j) (looked j ts) None
unfolding looked
looked-kept p j [] = sym (no_choice (p j))
looked-kept p j (t ∷ ts) = kept_step p j t ts (p t.0) (bytes_eq t.0 j) refl refl (looked-kept p j ts)

either_step : (v : List ℕ) (x : Bool) (a b c : Option (List ℕ)) → c ≡ option_or a b → cond x (Some v) c ≡ option_or (cond x (Some v) a) b
either_step v true a b c e = refl
either_step v false a b c e = e

-- the first of two lists that has the key
looked_append : (j : List ℕ) (ts us : List Tag) → looked j (ts ++ us) ≡ option_or (looked j ts) (looked j us)
unfolding looked
looked_append j [] us = refl
looked_append j (t ∷ ts) us = either_step t.1 (bytes_eq t.0 j) (looked j ts) (looked j us) (looked j (ts ++ us)) (looked_append j ts us)

module _ (j k : List ℕ) (ts : List Tag) where
  below-looked : looked j (below k ts) ≡ cond (before j k) (looked j ts) None
  below-looked = looked-kept (λ q. before q k) j ts

  above-looked : looked j (above k ts) ≡ cond (before k j) (looked j ts) None
  above-looked = looked-kept (λ q. before k q) j ts

or_none : (o : Option (List ℕ)) → option_or o None ≡ o
or_none None = refl
or_none (Some v) = refl

-- the key itself
pub looked-placed : (k v : List ℕ) (ts : List Tag) → looked k (placed k v ts) ≡ Some v
unfolding placed
looked-placed k v ts =
    looked_append k (below k ts) ((k, v) ∷ above k ts)
    ∙ ap (λ o. option_or o (looked k ((k, v) ∷ above k ts))) (below-looked k k ts ∙ cond-false (before k k) _ _ (not-before k k (before_itself k)))
    ∙ looked_here k (k, v) (above k ts) refl

pub looked-without : (k : List ℕ) (ts : List Tag) → looked k (without k ts) ≡ None
unfolding without
looked-without k ts =
    let none : before k k ≡ false = not-before k k (before_itself k) in
    looked_append k (below k ts) (above k ts)
    ∙ (λ i. option_or ((below-looked k k ts ∙ cond-false (before k k) _ _ none) i) ((above-looked k k ts ∙ cond-false (before k k) _ _ none) i))

-- every other key
sides : (j k : List ℕ) (ts : List Tag) → (j ≡ k → ⊥) → Trichotomy j k → option_or (looked j (below k ts)) (looked j (above k ts)) ≡ looked j ts
sides j k ts n (first b) =
    (λ i. option_or ((below-looked j k ts ∙ cond-true (before j k) _ _ b) i) ((above-looked j k ts ∙ cond-false (before k j) _ _ (not-before k j (λ c. before-once j k b c))) i))
    ∙ or_none (looked j ts)
sides j k ts n (same e) = absurd (n e)
sides j k ts n (last b) =
    λ i. option_or ((below-looked j k ts ∙ cond-false (before j k) _ _ (not-before j k (λ c. before-once k j b c))) i) ((above-looked j k ts ∙ cond-true (before k j) _ _ b) i)

pub others-without : (j k : List ℕ) (ts : List Tag) → (j ≡ k → ⊥) → looked j (without k ts) ≡ looked j ts
unfolding without
others-without j k ts n = looked_append j (below k ts) (above k ts) ∙ sides j k ts n (trichotomy j k)

pub others-placed : (j k v : List ℕ) (ts : List Tag) → (j ≡ k → ⊥) → looked j (placed k v ts) ≡ looked j ts
unfolding placed
others-placed j k v ts n =
    looked_append j (below k ts) ((k, v) ∷ above k ts)
    ∙ ap (option_or (looked j (below k ts))) (looked_past j (k, v) (above k ts) (λ e. n (sym e)))
    ∙ sides j k ts n (trichotomy j k)

-- tags with the same look-ups are the same
clash : (k v : List ℕ) (ts us : List Tag) → looked k ts ≡ Some v → looked k us ≡ None → looked k ts ≡ looked k us → ⊥
clash k v ts us a b e = let z : ◌≡◌ {A = ℕ} 0 1 = cc in omega arith

rest-same : (t u : Tag) (ts us : List Tag) (k : List ℕ) → ascends (t ∷ ts) ≡ true → ascends (u ∷ us) ≡ true → t.0 ≡ u.0 → looked k (t ∷ ts) ≡ looked k (u ∷ us) → Trichotomy t.0 k → looked k ts ≡ looked k us
rest-same t u ts us k a b e h (first c) = sym (looked_past k t ts (apart-before t.0 k c)) ∙ h ∙ looked_past k u us (λ q. apart-before t.0 k c (e ∙ q))
rest-same t u ts us k a b e h (same q) = looked-after k ts (after_same k t ts q a) ∙ sym (looked-after k us (after_same k u us (sym e ∙ q) b))
rest-same t u ts us k a b e h (last c) = sym (looked_past k t ts (apart-after t.0 k c)) ∙ h ∙ looked_past k u us (λ q. apart-after t.0 k c (e ∙ q))

first-same : (t u : Tag) (ts us : List Tag) → ascends (t ∷ ts) ≡ true → ascends (u ∷ us) ≡ true → ((k : List ℕ) → looked k (t ∷ ts) ≡ looked k (u ∷ us))
    → (((k : List ℕ) → looked k ts ≡ looked k us) → ts ≡ us) → Trichotomy t.0 u.0 → (t ∷ ts) ≡ (u ∷ us)
first-same t u ts us a b h ih (first c) =
    absurd (clash t.0 t.1 (t ∷ ts) (u ∷ us) (looked_here t.0 t ts refl) (looked-after t.0 (u ∷ us) (after_last t.0 u us c b)) (h t.0))
first-same t u ts us a b h ih (same e) =
    let one : Some t.1 ≡ Some u.1 = sym (looked_here t.0 t ts refl) ∙ h t.0 ∙ looked_here t.0 u us (sym e) in
    let value : t.1 ≡ u.1 = cc in
    λ i. (e i, value i) ∷ ih (λ k. rest-same t u ts us k a b e (h k) (trichotomy t.0 k)) i
first-same t u ts us a b h ih (last c) =
    absurd (clash u.0 u.1 (u ∷ us) (t ∷ ts) (looked_here u.0 u us refl) (looked-after u.0 (t ∷ ts) (after_last u.0 t ts c a)) (sym (h u.0)))

pub same_looks : (ts us : List Tag) → ascends ts ≡ true → ascends us ≡ true → ((k : List ℕ) → looked k ts ≡ looked k us) → ts ≡ us
unfolding looked
same_looks [] [] a b h = refl
same_looks [] (u ∷ us) a b h = absurd (clash u.0 u.1 (u ∷ us) [] (looked_here u.0 u us refl) refl (sym (h u.0)))
same_looks (t ∷ ts) [] a b h = absurd (clash t.0 t.1 (t ∷ ts) [] (looked_here t.0 t ts refl) refl (h t.0))
same_looks (t ∷ ts) (u ∷ us) a b h = first-same t u ts us a b h (same_looks ts us (ascends-parts t ts a).1 (ascends-parts u us b).1) (trichotomy t.0 u.0)

-- what was taken out and is placed again
back_by : (j k v : List ℕ) (ts : List Tag) → looked k ts ≡ Some v → Trichotomy j k → looked j (placed k v (without k ts)) ≡ looked j ts
back_by j k v ts e (first c) = let n = apart-before j k c in others-placed j k v (without k ts) n ∙ others-without j k ts n
back_by j k v ts e (same q) = ap (λ i. looked i (placed k v (without k ts))) q ∙ looked-placed k v (without k ts) ∙ sym e ∙ ap (λ i. looked i ts) (sym q)
back_by j k v ts e (last c) = let n = apart-after j k c in others-placed j k v (without k ts) n ∙ others-without j k ts n

pub placed-back : (k v : List ℕ) (ts : List Tag) → ascends ts ≡ true → looked k ts ≡ Some v → placed k v (without k ts) ≡ ts
placed-back k v ts h e =
    same_looks (placed k v (without k ts)) ts (ascends-placed k (without k ts) (ascends-without k ts h) v) h (λ j. back_by j k v ts e (trichotomy j k))
