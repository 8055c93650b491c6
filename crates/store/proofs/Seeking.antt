-- A search for a key, one tag after the other. Assumes nothing.
use Rattle.std.proofs.Common.{◌≡◌, ℕ, ◌+◌, true, List, [], ◌∷◌, ◌++◌, length, Some, None, sym, ap, ◌∙◌, subst, arith}
use Rattle.std.proofs.lemmas.List.{length-append}
use Rattle.std.specs.Option.{option_map}
use Rattle.store.specs.declared.memory.seek.Place.{Place}
use Rattle.store.specs.Layout.{span}
use Rattle.store.specs.Spots.{Spot}
use Rattle.store.specs.Tags.{Tag, before, below, looked, ascends, flat}
use Rattle.store.proofs.Parting.{below-first, below-not, looked_here, looked_past, apart-before, After, below-after, looked-after, after_same, after_last, ascends-parts}

-- i tags were passed, up to a place, and the rest is still to be searched
pub record Sought (k : List ℕ) (ts rest : List Tag) (from i at : ℕ) : Type 0 where
  pub index : length (below k ts) ≡ i + length (below k rest)
  pub bytes : from + length (flat (below k ts)) ≡ at + length (flat (below k rest))
  pub value : looked k ts ≡ looked k rest
  pub order : ascends rest ≡ true

module _ (k : List ℕ) (ts : List Tag) (t : Tag) (rest : List Tag) (from i at : ℕ) (s : Sought k ts (t ∷ rest) from i at) where
  pub sought_more : before t.0 k ≡ true → Sought k ts rest from (i + 1) (at + (length t.0 + length t.1))
  sought_more b =
      let e : below k (t ∷ rest) ≡ t ∷ below k rest = below-first k t rest b in
      let l : length (flat (below k (t ∷ rest))) ≡ length t.0 + (length t.1 + length (flat (below k rest))) =
      ap (λ us. length (flat us)) e ∙ length-append t.0 (t.1 ++ flat (below k rest)) ∙ ap (λ m. length t.0 + m) (length-append t.1 (flat (below k rest))) in
      record {
        index = omega (arith, s.index, ap length e);
        bytes = omega (arith, s.bytes);
        value = s.value ∙ looked_past k t rest (apart-before t.0 k b);
        order = (ascends-parts t rest s.order).1;
      }

  pub sought_found : t.0 ≡ k → Spot k ts from (record { index = i; at = at; own = Some (span t) })
  sought_found e =
      let none : below k (t ∷ rest) ≡ [] = below-not k t rest (λ b. apart-before t.0 k b e) ∙ below-after k rest (after_same k t rest e s.order) in
      let here : looked k ts ≡ Some t.1 = s.value ∙ looked_here k t rest e in
      record {
        index = omega (arith, s.index, ap length none);
        at = omega (arith, s.bytes, ap (λ us. length (flat us)) none);
        own = sym (ap (option_map (λ v. span (k, v))) here ∙ ap (λ j. Some (span (j, t.1))) (sym e));
      }

-- nothing before k is left, and no k
pub sought_past : (k : List ℕ) (ts rest : List Tag) (from i at : ℕ) → Sought k ts rest from i at → After k rest → Spot k ts from (record { index = i; at = at; own = None })
sought_past k ts rest from i at s a =
    let none : below k rest ≡ [] = below-after k rest a in
    let gone : looked k ts ≡ None = s.value ∙ looked-after k rest a in
    record {
      index = omega (arith, s.index, ap length none);
      at = omega (arith, s.bytes, ap (λ us. length (flat us)) none);
      own = sym (ap (option_map (λ v. span (k, v))) gone);
    }

-- the same by what is left and how many were passed
pub sought_along : (k : List ℕ) (ts us vs : List Tag) (from i j at : ℕ) → us ≡ vs → i ≡ j → Sought k ts us from i at → Sought k ts vs from j at
sought_along k ts us vs from i j at e f s = subst (λ (n : ℕ). Sought k ts vs from n at) f (subst (λ (ws : List Tag). Sought k ts ws from i at) e s)

-- the first tag that is left comes after k
pub sought_before : (k : List ℕ) (ts : List Tag) (t : Tag) (rest : List Tag) (from i at : ℕ) → Sought k ts (t ∷ rest) from i at → before k t.0 ≡ true → Spot k ts from (record { index = i; at = at; own = None })
sought_before k ts t rest from i at s b = sought_past k ts (t ∷ rest) from i at s (after_last k t rest b s.order)

-- none is left
pub sought_end : (k : List ℕ) (ts : List Tag) (from i at : ℕ) → Sought k ts [] from i at → Spot k ts from (record { index = i; at = at; own = None })
sought_end k ts from i at s = sought_past k ts [] from i at s tt

-- the bytes of a first tag
pub flat_first : (t : Tag) (ts : List Tag) → length (flat (t ∷ ts)) ≡ (length t.0 + length t.1) + length (flat ts)
flat_first t ts = length-append t.0 (t.1 ++ flat ts) ∙ ap (λ m. length t.0 + m) (length-append t.1 (flat ts)) ∙ omega arith

-- the place among the same tags, from the same place on
pub spot_along : (k : List ℕ) (ts us : List Tag) (from begin : ℕ) (p : Place) → ts ≡ us → from ≡ begin → Spot k ts from p → Spot k us begin p
spot_along k ts us from begin p e f s = subst (λ (n : ℕ). Spot k us n p) f (subst (λ (ws : List Tag). Spot k ws from p) e s)
