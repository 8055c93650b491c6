-- A key parts ascending tags: those before it, its own, those after it. Assumes nothing.
use Rattle.std.proofs.Common.{◌≡◌, ℕ, Bool, true, false, List, [], ◌∷◌, ◌++◌, Some, None, sym, refl, ap, ◌∙◌, subst}
use Rattle.std.proofs.ByRecursion.{All-weaker}
use Rattle.std.proofs.lemmas.Slice.Eq.{bytes_eq-Decides}
use Rattle.std.proofs.lemmas.Bool.{and_parts, and_from, cond-true, cond-false}
use Rattle.std.specs.List.{list_all, AllByRecursion}
use Rattle.std.specs.Str.{bytes_eq}
use Rattle.store.specs.Spots.{tag_of}
use Rattle.store.specs.Tags.{Tag, before, below, above, looked, ascends}
use Rattle.store.proofs.Orders.{Trichotomy, first, same, last, trichotomy, before_trans, before-once, before_itself}

pub every-all : {A : Type 0} (p : A → Bool) (xs : List A) → list_all p xs ≡ true → AllByRecursion (λ x. p x ≡ true) xs
every-all p [] h = tt
every-all p (x ∷ xs) h = let parts = and_parts (p x) (list_all p xs) h in (parts.0, every-all p xs parts.1)

pub all-every : {A : Type 0} (p : A → Bool) (xs : List A) → AllByRecursion (λ x. p x ≡ true) xs → list_all p xs ≡ true
all-every p [] h = refl
all-every p (x ∷ xs) h = and_from (p x) (list_all p xs) h.0 (all-every p xs h.1)

pub ascends-parts : (t : Tag) (ts : List Tag) → ascends (t ∷ ts) ≡ true → AllByRecursion (λ u. before t.0 u.0 ≡ true) ts × (ascends ts ≡ true)
unfolding ascends
ascends-parts t ts h = let parts = and_parts (list_all (λ u. before t.0 u.0) ts) (ascends ts) h in (every-all _ ts parts.0, parts.1)

pub ascends_from : (t : Tag) (ts : List Tag) → AllByRecursion (λ u. before t.0 u.0 ≡ true) ts → ascends ts ≡ true → ascends (t ∷ ts) ≡ true
unfolding ascends
ascends_from t ts a b = and_from (list_all (λ u. before t.0 u.0) ts) (ascends ts) (all-every _ ts a) b

not-true : (b : Bool) → (b ≡ true → ⊥) → b ≡ false
not-true true n = absurd (n refl)
not-true false n = refl

pub not-before : (j k : List ℕ) → (before j k ≡ true → ⊥) → before j k ≡ false
not-before j k n = not-true (before j k) n

pub not_same : (j k : List ℕ) → (j ≡ k → ⊥) → bytes_eq j k ≡ false
not_same j k n = not-true (bytes_eq j k) (λ e. n ((bytes_eq-Decides j k).0 e))

pub is_same : (j k : List ℕ) → j ≡ k → bytes_eq j k ≡ true
is_same j k e = (bytes_eq-Decides j k).1 e

pub apart-before : (j k : List ℕ) → before j k ≡ true → j ≡ k → ⊥
apart-before j k h e = before_itself k (subst (λ (q : List ℕ). before q k ≡ true) e h)

pub apart-after : (j k : List ℕ) → before k j ≡ true → j ≡ k → ⊥
apart-after j k h e = before_itself k (subst (λ (q : List ℕ). before k q ≡ true) e h)

-- one tag in front: its key comes before k, is k, or comes after k
module _ (k : List ℕ) (t : Tag) (ts : List Tag) where
  pub below-first : before t.0 k ≡ true → below k (t ∷ ts) ≡ t ∷ below k ts
  below-first h = cond-true (before t.0 k) _ _ h

  pub below-not : (before t.0 k ≡ true → ⊥) → below k (t ∷ ts) ≡ below k ts
  below-not n = cond-false (before t.0 k) _ _ (not-before t.0 k n)

  pub above_last : before k t.0 ≡ true → above k (t ∷ ts) ≡ t ∷ above k ts
  above_last h = cond-true (before k t.0) _ _ h

  pub above-not : (before k t.0 ≡ true → ⊥) → above k (t ∷ ts) ≡ above k ts
  above-not n = cond-false (before k t.0) _ _ (not-before k t.0 n)

  pub looked_here : t.0 ≡ k → looked k (t ∷ ts) ≡ Some t.1
  unfolding looked
  looked_here e = cond-true (bytes_eq t.0 k) _ _ (is_same t.0 k e)

  pub looked_past : (t.0 ≡ k → ⊥) → looked k (t ∷ ts) ≡ looked k ts
  unfolding looked
  looked_past n = cond-false (bytes_eq t.0 k) _ _ (not_same t.0 k n)

-- all come after k
abbrev pub After : List ℕ → List Tag → Type 0
After k ts = AllByRecursion (λ t. before k t.0 ≡ true) ts

pub below-after : (k : List ℕ) (ts : List Tag) → After k ts → below k ts ≡ []
below-after k [] h = refl
below-after k (t ∷ ts) h = below-not k t ts (λ b. before-once t.0 k b h.0) ∙ below-after k ts h.1

pub above-after : (k : List ℕ) (ts : List Tag) → After k ts → above k ts ≡ ts
above-after k [] h = refl
above-after k (t ∷ ts) h = above_last k t ts h.0 ∙ ap (λ us. t ∷ us) (above-after k ts h.1)

pub looked-after : (k : List ℕ) (ts : List Tag) → After k ts → looked k ts ≡ None
unfolding looked
looked-after k [] h = refl
looked-after k (t ∷ ts) h = looked_past k t ts (apart-after t.0 k h.0) ∙ looked-after k ts h.1

-- what follows a key that is k, or that comes after k
pub after_same : (k : List ℕ) (t : Tag) (ts : List Tag) → t.0 ≡ k → ascends (t ∷ ts) ≡ true → After k ts
after_same k t ts e h = subst (λ (q : List ℕ). After q ts) e (ascends-parts t ts h).0

pub after_last : (k : List ℕ) (t : Tag) (ts : List Tag) → before k t.0 ≡ true → ascends (t ∷ ts) ≡ true → After k (t ∷ ts)
after_last k t ts b h = (b, All-weaker (λ u. before t.0 u.0 ≡ true) (λ u. before k u.0 ≡ true) (λ u a. before_trans k t.0 u.0 b a) ts (ascends-parts t ts h).0)

-- the three parts are all there is
parted-by : (k : List ℕ) (t : Tag) (ts : List Tag) → ascends (t ∷ ts) ≡ true → ts ≡ below k ts ++ (tag_of k (looked k ts) ++ above k ts) → Trichotomy t.0 k
    → t ∷ ts ≡ below k (t ∷ ts) ++ (tag_of k (looked k (t ∷ ts)) ++ above k (t ∷ ts))
parted-by k t ts h ih (first b) =
    ap (λ us. t ∷ us) ih
    ∙ (λ i. sym (below-first k t ts b) i ++ (tag_of k (sym (looked_past k t ts (apart-before t.0 k b)) i) ++ sym (above-not k t ts (λ c. before-once t.0 k b c)) i))
parted-by k t ts h ih (same e) =
    let a : After k ts = after_same k t ts e h in
    let none : below k (t ∷ ts) ≡ [] = below-not k t ts (λ b. apart-before t.0 k b e) ∙ below-after k ts a in
    let rest : above k (t ∷ ts) ≡ ts = above-not k t ts (λ b. apart-after t.0 k b e) ∙ above-after k ts a in
    (λ i. (e i, t.1) ∷ ts) ∙ (λ i. sym none i ++ (tag_of k (sym (looked_here k t ts e) i) ++ sym rest i))
parted-by k t ts h ih (last b) =
    let a : After k (t ∷ ts) = after_last k t ts b h in
    λ i. sym (below-after k (t ∷ ts) a) i ++ (tag_of k (sym (looked-after k (t ∷ ts) a) i) ++ sym (above-after k (t ∷ ts) a) i)

pub parted : (k : List ℕ) (ts : List Tag) → ascends ts ≡ true → ts ≡ below k ts ++ (tag_of k (looked k ts) ++ above k ts)
unfolding looked
parted k [] h = refl
parted k (t ∷ ts) h = parted-by k t ts h (parted k ts (ascends-parts t ts h).1) (trichotomy t.0 k)
