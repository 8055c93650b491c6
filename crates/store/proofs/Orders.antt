-- Byte order is strict and total, and is what `cmp` answers. Assumes nothing.
use Rattle.std.proofs.Common.{◌≡◌, ℕ, ◌<◌, Bool, true, false, ◌&&◌, eqb, ltb, ◌⊎◌, List, [], ◌∷◌, ◌++◌, Ordering, Less, Equal, Greater, sym, refl, ◌∙◌, subst, inl, inr, arith}
use Rattle.std.proofs.lemmas.Bool.{false≢true, ltb-true, lt-ltb, eqb-true, eq-eqb, and_parts, and_from, or_cases, or_left, or_right, cases_order}
use Rattle.std.specs.Cmp.Lexicographic.{slice_cmp}
use Rattle.std.specs.Ordering.{MatchOrdering, nat_cmp, ordering_then}
use Rattle.std.proofs.lemmas.Cmp.{ranked}
use Rattle.store.specs.Laws.{ByteOrder}
use Rattle.store.specs.Tags.{before}

-- what decides at two first bytes
abbrev Decided : ℕ → ℕ → List ℕ → List ℕ → Type 0
Decided x y xs ys = (x < y) ⊎ ((x ≡ y) × (before xs ys ≡ true))

before_cases : (x y : ℕ) (xs ys : List ℕ) → before (x ∷ xs) (y ∷ ys) ≡ true → Decided x y xs ys
unfolding before
before_cases x y xs ys h =
    elim (or_cases (ltb x y) (eqb x y && before xs ys) h) [
      | inl less ↦ inl (ltb-true x y less)
      | inr same ↦ let parts = and_parts (eqb x y) (before xs ys) same in inr (eqb-true x y parts.0, parts.1)
    ]

before_from : (x y : ℕ) (xs ys : List ℕ) → Decided x y xs ys → before (x ∷ xs) (y ∷ ys) ≡ true
unfolding before
before_from x y xs ys (inl less) = or_left (ltb x y) _ (lt-ltb x y less)
before_from x y xs ys (inr same) = or_right (ltb x y) _ (and_from (eqb x y) _ (eq-eqb x y same.0) same.1)

-- nothing comes before itself
pub before_itself : (xs : List ℕ) → before xs xs ≡ true → ⊥
unfolding before
before_itself [] h = false≢true h
before_itself (x ∷ xs) h =
    elim (before_cases x x xs xs h) [
      | inl less ↦ omega arith
      | inr same ↦ before_itself xs same.1
    ]

decided_trans : (x y z : ℕ) (xs ys zs : List ℕ) → (before xs ys ≡ true → before ys zs ≡ true → before xs zs ≡ true) → Decided x y xs ys → Decided y z ys zs → Decided x z xs zs
decided_trans x y z xs ys zs more (inl a) (inl b) = inl (omega arith)
decided_trans x y z xs ys zs more (inl a) (inr b) = inl (omega arith)
decided_trans x y z xs ys zs more (inr a) (inl b) = inl (omega arith)
decided_trans x y z xs ys zs more (inr a) (inr b) = inr (a.0 ∙ b.0, more a.1 b.1)

pub before_trans : (xs ys zs : List ℕ) → before xs ys ≡ true → before ys zs ≡ true → before xs zs ≡ true
unfolding before
before_trans [] [] zs a b = b
before_trans [] (y ∷ ys) [] a b = absurd (false≢true b)
before_trans [] (y ∷ ys) (z ∷ zs) a b = refl
before_trans (x ∷ xs) [] zs a b = absurd (false≢true a)
before_trans (x ∷ xs) (y ∷ ys) [] a b = absurd (false≢true b)
before_trans (x ∷ xs) (y ∷ ys) (z ∷ zs) a b =
    before_from x z xs zs (decided_trans x y z xs ys zs (before_trans xs ys zs) (before_cases x y xs ys a) (before_cases y z ys zs b))

-- no two come before each other
pub before-once : (xs ys : List ℕ) → before xs ys ≡ true → before ys xs ≡ true → ⊥
before-once xs ys a b = before_itself xs (before_trans xs ys xs a b)

-- one of three holds
pub data Trichotomy (xs ys : List ℕ) : Type 0 where
  first : before xs ys ≡ true → Trichotomy xs ys
  same : xs ≡ ys → Trichotomy xs ys
  last : before ys xs ≡ true → Trichotomy xs ys

more : (x y : ℕ) (xs ys : List ℕ) → Trichotomy xs ys → (x ≡ y) ⊎ ((x < y) ⊎ (y < x)) → Trichotomy (x ∷ xs) (y ∷ ys)
more x y xs ys (first b) (inl e) = first (before_from x y xs ys (inr (e, b)))
more x y xs ys (same s) (inl e) = same (λ i. e i ∷ s i)
more x y xs ys (last b) (inl e) = last (before_from y x ys xs (inr (sym e, b)))
more x y xs ys t (inr (inl l)) = first (before_from x y xs ys (inl l))
more x y xs ys t (inr (inr l)) = last (before_from y x ys xs (inl l))

pub trichotomy : (xs ys : List ℕ) → Trichotomy xs ys
unfolding before
trichotomy [] [] = same refl
trichotomy [] (y ∷ ys) = first refl
trichotomy (x ∷ xs) [] = last refl
trichotomy (x ∷ xs) (y ∷ ys) = more x y xs ys (trichotomy xs ys) (cases_order x y)

-- the same by what `cmp` answers
abbrev pub Compared : List ℕ → List ℕ → Ordering → Type 0
Compared xs ys r = MatchOrdering r (before xs ys ≡ true) (xs ≡ ys) (before ys xs ≡ true)

same_first : (x y : ℕ) (xs ys : List ℕ) (r : Ordering) → x ≡ y → Compared xs ys r → Compared (x ∷ xs) (y ∷ ys) r
same_first x y xs ys Less e h = before_from x y xs ys (inr (e, h))
same_first x y xs ys Equal e h = λ i. e i ∷ h i
same_first x y xs ys Greater e h = before_from y x ys xs (inr (sym e, h))

pub compared : (xs ys : List ℕ) (r : Ordering) → r ≡ slice_cmp nat_cmp xs ys → Compared xs ys r
unfolding before
compared [] [] r h = subst (Compared [] []) (sym h) refl
compared [] (y ∷ ys) r h = subst (Compared [] (y ∷ ys)) (sym h) refl
compared (x ∷ xs) [] r h = subst (Compared (x ∷ xs) []) (sym h) refl
compared (x ∷ xs) (y ∷ ys) r h = subst (Compared (x ∷ xs) (y ∷ ys)) (sym h) (by (nat_cmp x y) (ranked x y (nat_cmp x y) refl) (compared xs ys (slice_cmp nat_cmp xs ys) refl)) where
  by : (o : Ordering) → MatchOrdering o (x < y) (x ≡ y) (y < x) → Compared xs ys (slice_cmp nat_cmp xs ys) → Compared (x ∷ xs) (y ∷ ys) (ordering_then o (slice_cmp nat_cmp xs ys))
  by Less p q = before_from x y xs ys (inl p)
  by Equal p q = same_first x y xs ys (slice_cmp nat_cmp xs ys) p q
  by Greater p q = before_from y x ys xs (inl p)

-- the order in the words of bytes
pub first_byte : (p xs ys : List ℕ) (x y : ℕ) → x < y → before (p ++ x ∷ xs) (p ++ y ∷ ys) ≡ true
first_byte [] xs ys x y h = before_from x y xs ys (inl h)
first_byte (b ∷ p) xs ys x y h = before_from b b (p ++ x ∷ xs) (p ++ y ∷ ys) (inr (refl, first_byte p xs ys x y h))

pub front_first : (xs ys : List ℕ) (y : ℕ) → before xs (xs ++ y ∷ ys) ≡ true
unfolding before
front_first [] ys y = refl
front_first (x ∷ xs) ys y = before_from x x xs (xs ++ y ∷ ys) (inr (refl, front_first xs ys y))

neither : (xs ys : List ℕ) → before xs ys ≡ false → before ys xs ≡ false → Trichotomy xs ys → xs ≡ ys
neither xs ys a b (first c) = absurd (false≢true (sym a ∙ c))
neither xs ys a b (same e) = e
neither xs ys a b (last c) = absurd (false≢true (sym b ∙ c))

not_itself : (xs : List ℕ) (t : Bool) → before xs xs ≡ t → t ≡ false
not_itself xs true e = absurd (before_itself xs e)
not_itself xs false e = refl

pub byte_order : ByteOrder
byte_order = record {
  first_byte = first_byte;
  front_first = front_first;
  strict = λ xs. not_itself xs (before xs xs) refl;
  chained = before_trans;
  total = λ xs ys a b. neither xs ys a b (trichotomy xs ys);
}
