-- The laws of a row of places. Assumes nothing.
use Rattle.std.specs.Prelude.{◌≡◌, ℕ, zero, suc, ◌+◌, ◌<◌, ◌≤◌, Bool, true, false, cond, not, ◌||◌, List, [], ◌∷◌, map, length, Some, None, ◌≢◌, nat_le, slice_index_or, slice_set, refl}
use Rattle.std.proofs.Common.{sym, ap, ◌∙◌, le_of_suc-le-suc, arith}
use Rattle.std.proofs.lemmas.Slice.Eq.{bytes_eq-Decides}
use Rattle.std.proofs.lemmas.Bool.{and_parts, and_from, leb-true, both_ways, cond-true}
use Rattle.std.proofs.lemmas.List.Sums.{passes_at_first}
use Rattle.std.specs.List.{list_any, position_or_len}
use Rattle.std.specs.Str.{bytes_eq}
use Rattle.text.specs.Texts.{lawful}
use Rattle.carrier.specs.Kinds.{Lawful}
use Rattle.carrier.specs.Names.{is_name}
use Rattle.carrier.specs.Steps.{may}
use Rattle.slots.specs.Places.{Entry, entry, Place, Places, named, free, first, shown_by, shown, room, place_for, put, without, cut}

pub same_self : (n : List ℕ) → bytes_eq n n ≡ true
same_self n = (bytes_eq-Decides n n).1 refl

-- a place has one name at most
pub named_apart : (p : Place) (m n : List ℕ) → (m ≢ n) → named n p ≡ true → named m p ≡ false
named_apart None m n ne e = refl
named_apart (Some x) m n ne e = by (bytes_eq x.name m) refl where
  by : (t : Bool) → bytes_eq x.name m ≡ t → bytes_eq x.name m ≡ false
  by true f = absurd (ne (sym ((bytes_eq-Decides x.name m).0 f) ∙ (bytes_eq-Decides x.name n).0 e))
  by false f = f

pub free_unnamed : (p : Place) (m : List ℕ) → free p ≡ true → named m p ≡ false
free_unnamed None m e = refl
free_unnamed (Some x) m e = absurd (both_ways false refl e)

-- what is shown is lawful
passed : (n v : List ℕ) (e : Entry) (t : Bool) → may n e.value ≡ t → cond t (Some e.value) None ≡ Some v → Lawful n v
passed n v e true good is =
    let same : e.value ≡ v = cc in
    let parts = and_parts (is_name n) (lawful e.value) good in
    record { name = parts.0; value = ap lawful (sym same) ∙ parts.1 }
passed n v e false good is = let z : ◌≡◌ {A = ℕ} 0 1 = cc in absurd (omega arith)

by_place : (n v : List ℕ) (p : Place) → shown_by n p ≡ Some v → Lawful n v
by_place n v None is = let z : ◌≡◌ {A = ℕ} 0 1 = cc in absurd (omega arith)
by_place n v (Some e) is = passed n v e (may n e.value) refl is

pub shown_lawful : (ps : Places) (n v : List ℕ) → shown ps n ≡ Some v → Lawful n v
shown_lawful ps n v is = by_place n v (first (named n) ps) is

-- a list with one more in front, at a place that is not the first
pub later : (p : Place) (ps : Places) (k : ℕ) → slice_index_or (p ∷ ps) (1 + k) None ≡ slice_index_or ps k None
later p ps k = let e : 1 + k ≡ suc k = omega arith in rw e refl

-- the first place that passes, by its index
module _ (P : Place → Bool) where
  pub first_at : (ps : Places) → first P ps ≡ slice_index_or ps (position_or_len P ps) None
  first_at [] = refl
  first_at (p ∷ ps) = by (P p) (first_at ps) where
    by : (t : Bool) → first P ps ≡ slice_index_or ps (position_or_len P ps) None → cond t p (first P ps) ≡ slice_index_or (p ∷ ps) (cond (not t) (1 + position_or_len P ps) 0) None
    by true ih = refl
    by false ih = ih ∙ sym (later p ps (position_or_len P ps))

  pub within : (ps : Places) → list_any P ps ≡ true → position_or_len P ps < length ps
  within [] h = absurd (both_ways false refl h)
  within (p ∷ ps) h = by (P p) h (within ps) where
    by : (t : Bool) → (t || list_any P ps) ≡ true → (list_any P ps ≡ true → position_or_len P ps < length ps) → cond (not t) (1 + position_or_len P ps) 0 < suc (length ps)
    by true l ih = omega arith
    by false l ih = let k = ih l in omega arith

  pub past : (ps : Places) → list_any P ps ≡ false → position_or_len P ps ≡ length ps
  past [] h = refl
  past (p ∷ ps) h = by (P p) h (past ps) where
    by : (t : Bool) → (t || list_any P ps) ≡ false → (list_any P ps ≡ false → position_or_len P ps ≡ length ps) → cond (not t) (1 + position_or_len P ps) 0 ≡ suc (length ps)
    by true l ih = absurd (both_ways true l refl)
    by false l ih = let k = ih l in omega arith

  pub passes : (ps : Places) → list_any P ps ≡ true → P (slice_index_or ps (position_or_len P ps) None) ≡ true
  passes ps h = passes_at_first P ps None (within ps h)

  -- a write at the first place that passes, or before it
  first_set : (ps : Places) (i : ℕ) (x : Place) → i < length ps → i ≤ position_or_len P ps → P x ≡ true → first P (slice_set ps i x) ≡ x
  first_set [] i x h le e = absurd (omega arith)
  first_set (p ∷ ps) zero x h le e = rw e
  first_set (p ∷ ps) (suc i) x h le e = by (P p) le (λ l. first_set ps i x (le_of_suc-le-suc h) l e) where
    by : (t : Bool) → suc i ≤ cond (not t) (1 + position_or_len P ps) 0 → (i ≤ position_or_len P ps → first P (slice_set ps i x) ≡ x) → cond t p (first P (slice_set ps i x)) ≡ x
    by true l ih = absurd (omega arith)
    by false l ih = ih (omega arith)

  -- a write of what does not pass over what does not
  first_other : (ps : Places) (i : ℕ) (x : Place) → P x ≡ false → P (slice_index_or ps i None) ≡ false → first P (slice_set ps i x) ≡ first P ps
  first_other [] i x e f = refl
  first_other (p ∷ ps) zero x e f = rw (e, f)
  first_other (p ∷ ps) (suc i) x e f = ap (λ (o : Place). cond (P p) p o) (first_other ps i x e f)

-- where a value goes, by whether some place has the name already
module _ (ps : Places) (n : List ℕ) where
  pub place_within : (list_any (named n) ps || list_any free ps) ≡ true → place_for ps n < length ps
  place_within h = by (list_any (named n) ps) refl h where
    by : (t : Bool) → list_any (named n) ps ≡ t → (t || list_any free ps) ≡ true → cond t (position_or_len (named n) ps) (position_or_len free ps) < length ps
    by true e l = within (named n) ps e
    by false e l = within free ps l

  place_before : place_for ps n < length ps → place_for ps n ≤ position_or_len (named n) ps
  place_before h = by (list_any (named n) ps) refl h where
    by : (t : Bool) → list_any (named n) ps ≡ t → cond t (position_or_len (named n) ps) (position_or_len free ps) < length ps → cond t (position_or_len (named n) ps) (position_or_len free ps) ≤ position_or_len (named n) ps
    by true e l = omega arith
    by false e l = let all = past (named n) ps e in omega arith

  -- what is written over has no other name
  pub place_apart : (m : List ℕ) → (m ≢ n) → (list_any (named n) ps || list_any free ps) ≡ true → named m (slice_index_or ps (place_for ps n) None) ≡ false
  place_apart m ne h = by (list_any (named n) ps) refl h where
    by : (t : Bool) → list_any (named n) ps ≡ t → (t || list_any free ps) ≡ true → named m (slice_index_or ps (cond t (position_or_len (named n) ps) (position_or_len free ps)) None) ≡ false
    by true e l = named_apart (slice_index_or ps (position_or_len (named n) ps) None) m n ne (passes (named n) ps e)
    by false e l = free_unnamed (slice_index_or ps (position_or_len free ps) None) m (passes free ps l)

pub record Roomy (ps : Places) (n : List ℕ) (len : ℕ) : Type 0 where
  pub name : is_name n ≡ true
  pub length : len ≤ 1024
  pub place : (list_any (named n) ps || list_any free ps) ≡ true

pub roomy : (ps : Places) (n : List ℕ) (len : ℕ) → room ps n len ≡ true → Roomy ps n len
roomy ps n len e =
    let outer = and_parts (is_name n) _ e in
    let inner = and_parts (nat_le len 1024) _ outer.1 in
    record { name = outer.0; length = leb-true len 1024 inner.0; place = inner.1 }

pub room_name : (ps : Places) (n : List ℕ) (len : ℕ) → room ps n len ≡ true → is_name n ≡ true
room_name ps n len e = (roomy ps n len e).name

pub room_length : (ps : Places) (n : List ℕ) (len : ℕ) → room ps n len ≡ true → len ≤ 16384
room_length ps n len e = let h = (roomy ps n len e).length in omega arith

pub put_shows : (ps : Places) (n v : List ℕ) → lawful v ≡ true → room ps n (length v) ≡ true → shown (put ps n v) n ≡ Some v
put_shows ps n v good e =
    let r = roomy ps n (length v) e in
    let h = place_within ps n r.place in
    ap (shown_by n) (first_set (named n) ps (place_for ps n) (Some (entry n v)) h (place_before ps n h) (same_self n))
    ∙ cond-true (may n v) (Some v) None (and_from (is_name n) (lawful v) r.name good)

pub put_keeps : (ps : Places) (n v m : List ℕ) → lawful v ≡ true → room ps n (length v) ≡ true → (m ≢ n) → shown (put ps n v) m ≡ shown ps m
put_keeps ps n v m good e ne =
    let r = roomy ps n (length v) e in
    ap (shown_by m) (first_other (named m) ps (place_for ps n) (Some (entry n v)) (named_apart (Some (entry n v)) m n ne (same_self n)) (place_apart ps n m ne r.place))

pub cut_shows : (ps : Places) (n : List ℕ) → shown (cut ps n) n ≡ None
cut_shows ps n = ap (shown_by n) (gone ps) where
  gone : (qs : Places) → first (named n) (map (without n) qs) ≡ None
  gone [] = refl
  gone (p ∷ qs) = by (named n p) refl (gone qs) where
    by : (t : Bool) → named n p ≡ t → first (named n) (map (without n) qs) ≡ None → cond (named n (cond t None p)) (cond t None p) (first (named n) (map (without n) qs)) ≡ None
    by true e ih = ih
    by false e ih = rw e ih

pub cut_keeps : (ps : Places) (n m : List ℕ) → (m ≢ n) → shown (cut ps n) m ≡ shown ps m
cut_keeps ps n m ne = ap (shown_by m) (kept ps) where
  kept : (qs : Places) → first (named m) (map (without n) qs) ≡ first (named m) qs
  kept [] = refl
  kept (p ∷ qs) = by (named n p) refl (kept qs) where
    by : (t : Bool) → named n p ≡ t → first (named m) (map (without n) qs) ≡ first (named m) qs → cond (named m (cond t None p)) (cond t None p) (first (named m) (map (without n) qs)) ≡ cond (named m p) p (first (named m) qs)
    by true e ih = rw (named_apart p m n ne e) ih
    by false e ih = ap (λ (o : Place). cond (named m p) p o) ih
