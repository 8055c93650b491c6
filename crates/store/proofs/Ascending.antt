-- Tags stay in order, and lawful, when one is placed or taken out. Assumes nothing.
use Rattle.std.proofs.Common.{◌≡◌, ℕ, Bool, true, false, cond, ◌&&◌, List, [], ◌∷◌, ◌++◌, filter, refl}
use Rattle.std.proofs.ByRecursion.{All-append, All-weaker, all_kept_by, kept_by_passes}
use Rattle.std.proofs.lemmas.Bool.{and_from}
use Rattle.std.specs.List.{AllByRecursion}
use Rattle.text.specs.Texts.{lawful}
use Rattle.store.specs.Tags.{Tag, before, below, above, placed, without, ascends, all_lawful}
use Rattle.store.proofs.Orders.{before_trans}
use Rattle.store.proofs.Parting.{every-all, all-every, ascends-parts, ascends_from, After}

-- every key of the first comes before every key of the second
abbrev Ahead : List Tag → List Tag → Type 0
Ahead ts us = AllByRecursion (λ t. After t.0 us) ts

ascends_append : (ts us : List Tag) → ascends ts ≡ true → ascends us ≡ true → Ahead ts us → ascends (ts ++ us) ≡ true
ascends_append [] us a b h = b
ascends_append (t ∷ ts) us a b h =
    let parts = ascends-parts t ts a in
    ascends_from t (ts ++ us) (All-append _ ts us parts.0 h.0) (ascends_append ts us parts.1 b h.1)

kept_more : (p : Tag → Bool) (t : Tag) (ts : List Tag) (x : Bool) → AllByRecursion (λ u. before t.0 u.0 ≡ true) ts → ascends (filter p ts) ≡ true → ascends (cond x (t ∷ filter p ts) (filter p ts)) ≡ true
kept_more p t ts true a h = ascends_from t (filter p ts) (all_kept_by p _ ts a) h
kept_more p t ts false a h = h

ascends-kept : (p : Tag → Bool) (ts : List Tag) → ascends ts ≡ true → ascends (filter p ts) ≡ true
unfolding ascends
ascends-kept p [] h = refl
ascends-kept p (t ∷ ts) h = let parts = ascends-parts t ts h in kept_more p t ts (p t) parts.0 (ascends-kept p ts parts.1)

module _ (k : List ℕ) (ts : List Tag) (h : ascends ts ≡ true) where
  above-after : After k (above k ts)
  above-after = kept_by_passes (λ t. before k t.0) ts

  -- what comes before k comes before all that comes after k
  below_ahead : Ahead (below k ts) (above k ts)
  below_ahead =
      All-weaker (λ t. before t.0 k ≡ true) (λ t. After t.0 (above k ts))
      (λ t b. All-weaker (λ u. before k u.0 ≡ true) (λ u. before t.0 u.0 ≡ true) (λ u a. before_trans t.0 k u.0 b a) (above k ts) above-after)
      (below k ts) (kept_by_passes (λ t. before t.0 k) ts)

  pub ascends-without : ascends (without k ts) ≡ true
  unfolding without
  ascends-without = ascends_append (below k ts) (above k ts) (ascends-kept _ ts h) (ascends-kept _ ts h) below_ahead

  both_ahead : (us : List Tag) → AllByRecursion (λ t. before t.0 k ≡ true) us → Ahead us (above k ts) → (v : List ℕ) → Ahead us ((k, v) ∷ above k ts)
  both_ahead [] a b v = tt
  both_ahead (u ∷ us) a b v = ((a.0, b.0), both_ahead us a.1 b.1 v)

  pub ascends-placed : (v : List ℕ) → ascends (placed k v ts) ≡ true
  unfolding placed
  ascends-placed v =
      ascends_append (below k ts) ((k, v) ∷ above k ts) (ascends-kept _ ts h) (ascends_from (k, v) (above k ts) above-after (ascends-kept _ ts h))
      (both_ahead (below k ts) (kept_by_passes (λ t. before t.0 k) ts) below_ahead v)

-- what holds of every tag holds of every tag that is left
abbrev Lawful : Tag → Type 0
Lawful t = (lawful t.0 && lawful t.1) ≡ true

pub lawful-without : (k : List ℕ) (ts : List Tag) → all_lawful ts ≡ true → all_lawful (without k ts) ≡ true
unfolding all_lawful without
lawful-without k ts h =
    let each : AllByRecursion Lawful ts = every-all _ ts h in
    all-every _ (below k ts ++ above k ts) (All-append Lawful (below k ts) (above k ts) (all_kept_by _ Lawful ts each) (all_kept_by _ Lawful ts each))

pub lawful-placed : (k v : List ℕ) (ts : List Tag) → lawful k ≡ true → lawful v ≡ true → all_lawful ts ≡ true → all_lawful (placed k v ts) ≡ true
unfolding all_lawful placed
lawful-placed k v ts a b h =
    let each : AllByRecursion Lawful ts = every-all _ ts h in
    all-every _ (below k ts ++ (k, v) ∷ above k ts)
    (All-append Lawful (below k ts) ((k, v) ∷ above k ts) (all_kept_by _ Lawful ts each) (and_from (lawful k) (lawful v) a b, all_kept_by _ Lawful ts each))
