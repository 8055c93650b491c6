-- What a table keeps through a set and an unset: lawful places, and each name once. Assumes nothing.
use Rattle.std.proofs.Common.{◌≡◌, ℕ, zero, suc, ◌+◌, Bool, true, false, cond, not, ◌||◌, List, [], ◌∷◌, set, Some, None, sym, refl, ap, ◌∙◌, arith}
use Rattle.std.proofs.lemmas.Slice.Eq.{bytes_eq-Decides}
use Rattle.std.proofs.lemmas.Bool.{and_parts, and_from, or_parts, or_from, both_ways, not-true, not_from_false}
use Rattle.std.specs.List.{list_all, list_any, position_or_len}
use Rattle.std.specs.Str.{bytes_eq}
use Rattle.carrier.specs.Names.{member, distinct}
use Rattle.carrier.specs.Steps.{may}
use Rattle.slots.specs.Places.{Entry, entry, lawful_place, Place, Places, named, free, names, place_for, put, cut}

-- what is lawful, after a write
pub lawful-set : (ps : Places) (i : ℕ) (x : Place) → list_all lawful_place ps ≡ true → lawful_place x ≡ true → list_all lawful_place (set ps i x) ≡ true
lawful-set [] i x e f = refl
lawful-set (p ∷ ps) zero x e f = and_from (lawful_place x) _ f (and_parts (lawful_place p) _ e).1
lawful-set (p ∷ ps) (suc i) x e f = let parts = and_parts (lawful_place p) _ e in and_from (lawful_place p) _ parts.0 (lawful-set ps i x parts.1 f)

-- a write that is not at the first place
set_later : (p : Place) (ps : Places) (k : ℕ) (x : Place) → set (p ∷ ps) (1 + k) x ≡ p ∷ set ps k x
set_later p ps k x = let e : 1 + k ≡ suc k = omega arith in rw e refl

member-names : (ps : Places) (n : List ℕ) → member n (names ps) ≡ list_any (named n) ps
member-names [] n = refl
member-names (None ∷ ps) n = member-names ps n
member-names (Some e ∷ ps) n = ap (λ (t : Bool). bytes_eq e.name n || t) (member-names ps n)

other_way : (a b : List ℕ) → bytes_eq a b ≡ false → bytes_eq b a ≡ false
other_way a b e = by (bytes_eq b a) refl where
  by : (t : Bool) → bytes_eq b a ≡ t → bytes_eq b a ≡ false
  by true f = absurd (both_ways (bytes_eq a b) e ((bytes_eq-Decides a b).1 (sym ((bytes_eq-Decides b a).0 f))))
  by false f = f

-- a name that is nowhere, after a write
missing_set : (ps : Places) (i : ℕ) (x : Place) (m : List ℕ) → list_any (named m) ps ≡ false → named m x ≡ false → list_any (named m) (set ps i x) ≡ false
missing_set [] i x m e f = refl
missing_set (p ∷ ps) zero x m e f = or_from (named m x) _ f (or_parts (named m p) _ e).1
missing_set (p ∷ ps) (suc i) x m e f = let parts = or_parts (named m p) _ e in or_from (named m p) _ parts.0 (missing_set ps i x m parts.1 f)

-- the names stand once in a row with one more in front, if the name is nowhere else
once_cons : (e : Entry) (ps : Places) → list_any (named e.name) ps ≡ false → distinct (names ps) ≡ true → distinct (names (Some e ∷ ps)) ≡ true
once_cons e ps none rest = and_from (not (member e.name (names ps))) _ (not_from_false _ (member-names ps e.name ∙ none)) rest

once-parts : (e : Entry) (ps : Places) → distinct (names (Some e ∷ ps)) ≡ true → (list_any (named e.name) ps ≡ false) × (distinct (names ps) ≡ true)
once-parts e ps h =
    let parts = and_parts (not (member e.name (names ps))) (distinct (names ps)) h in
    (sym (member-names ps e.name) ∙ not-true _ parts.0, parts.1)

-- a new name at the first free place
once-new : (ps : Places) (n v : List ℕ) → distinct (names ps) ≡ true → list_any (named n) ps ≡ false → distinct (names (set ps (position_or_len free ps) (Some (entry n v)))) ≡ true
once-new [] n v h none = refl
once-new (None ∷ ps) n v h none = once_cons (entry n v) ps none h
once-new (Some e ∷ ps) n v h none =
    let parts = once-parts e ps h in
    let apart = or_parts (bytes_eq e.name n) (list_any (named n) ps) none in
    ap (λ (qs : Places). distinct (names qs)) (set_later (Some e) ps (position_or_len free ps) (Some (entry n v)))
    ∙ once_cons e (set ps (position_or_len free ps) (Some (entry n v))) (missing_set ps (position_or_len free ps) (Some (entry n v)) e.name parts.0 (other_way e.name n apart.0)) (once-new ps n v parts.1 apart.1)

-- a new value for a name that is there leaves the names
names-own : (ps : Places) (n v : List ℕ) → list_any (named n) ps ≡ true → names (set ps (position_or_len (named n) ps) (Some (entry n v))) ≡ names ps
names-own [] n v h = refl
names-own (None ∷ ps) n v h = ap names (set_later None ps (position_or_len (named n) ps) (Some (entry n v))) ∙ names-own ps n v h
names-own (Some e ∷ ps) n v h = by (bytes_eq e.name n) refl h (names-own ps n v) where
  by : (t : Bool) → bytes_eq e.name n ≡ t → (t || list_any (named n) ps) ≡ true → (list_any (named n) ps ≡ true → names (set ps (position_or_len (named n) ps) (Some (entry n v))) ≡ names ps)
      → names (set (Some e ∷ ps) (cond (not t) (1 + position_or_len (named n) ps) 0) (Some (entry n v))) ≡ e.name ∷ names ps
  by true same l ih = ap (λ (m : List ℕ). m ∷ names ps) (sym ((bytes_eq-Decides e.name n).0 same))
  by false same l ih = ap names (set_later (Some e) ps (position_or_len (named n) ps) (Some (entry n v))) ∙ ap (λ (ns : List (List ℕ)). e.name ∷ ns) (ih l)

pub lawful-put : (ps : Places) (n v : List ℕ) → list_all lawful_place ps ≡ true → may n v ≡ true → list_all lawful_place (put ps n v) ≡ true
lawful-put ps n v h good = lawful-set ps (place_for ps n) (Some (entry n v)) h good

pub once-put : (ps : Places) (n v : List ℕ) → distinct (names ps) ≡ true → distinct (names (put ps n v)) ≡ true
once-put ps n v h = by (list_any (named n) ps) refl where
  by : (t : Bool) → list_any (named n) ps ≡ t → distinct (names (set ps (cond t (position_or_len (named n) ps) (position_or_len free ps)) (Some (entry n v)))) ≡ true
  by true e = ap distinct (names-own ps n v e) ∙ h
  by false e = once-new ps n v h e

pub once_freed : (ps : Places) (i : ℕ) → distinct (names ps) ≡ true → distinct (names (set ps i None)) ≡ true
once_freed [] i h = refl
once_freed (None ∷ ps) zero h = h
once_freed (Some e ∷ ps) zero h = (once-parts e ps h).1
once_freed (None ∷ ps) (suc i) h = once_freed ps i h
once_freed (Some e ∷ ps) (suc i) h = let parts = once-parts e ps h in once_cons e (set ps i None) (missing_set ps i None e.name parts.0 refl) (once_freed ps i parts.1)

-- a name that is nowhere is cut from nowhere
pub cut_none : (ps : Places) (n : List ℕ) → list_any (named n) ps ≡ false → cut ps n ≡ ps
cut_none [] n h = refl
cut_none (p ∷ ps) n h = let parts = or_parts (named n p) (list_any (named n) ps) h in rw parts.0 (ap (λ (qs : Places). p ∷ qs) (cut_none ps n parts.1))

-- a name that stands once is cut by freeing its place
pub cut_one : (ps : Places) (n : List ℕ) → distinct (names ps) ≡ true → list_any (named n) ps ≡ true → set ps (position_or_len (named n) ps) None ≡ cut ps n
cut_one [] n h there = refl
cut_one (None ∷ ps) n h there = set_later None ps (position_or_len (named n) ps) None ∙ ap (λ (qs : Places). None ∷ qs) (cut_one ps n h there)
cut_one (Some e ∷ ps) n h there = by (bytes_eq e.name n) refl there (once-parts e ps h) (cut_one ps n) where
  by : (t : Bool) → bytes_eq e.name n ≡ t → (t || list_any (named n) ps) ≡ true → (list_any (named e.name) ps ≡ false) × (distinct (names ps) ≡ true)
      → (distinct (names ps) ≡ true → list_any (named n) ps ≡ true → set ps (position_or_len (named n) ps) None ≡ cut ps n)
      → set (Some e ∷ ps) (cond (not t) (1 + position_or_len (named n) ps) 0) None ≡ cond t None (Some e) ∷ cut ps n
  by true same l parts ih = ap (λ (qs : Places). None ∷ qs) (sym (cut_none ps n (ap (λ (m : List ℕ). list_any (named m) ps) (sym ((bytes_eq-Decides e.name n).0 same)) ∙ parts.0)))
  by false same l parts ih = set_later (Some e) ps (position_or_len (named n) ps) None ∙ ap (λ (qs : Places). Some e ∷ qs) (ih parts.1 l)
