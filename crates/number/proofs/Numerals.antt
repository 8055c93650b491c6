-- What a numeral says of its text, and a text of its numeral; in any base and of any set. Assumes nothing.
use Rattle.std.proofs.Common.{◌≡◌, ℕ, ◌+◌, ◌*◌, ◌^◌, ◌<◌, Bool, true, false, cond, ◌&&◌, eqb, ltb, List, [], ◌∷◌, ◌++◌, length, get_or, Some, None, Option, sym, refl, ap, ◌∙◌, arith}
use mathlib.Core.Bool.{and-true, and_assoc}
use Rattle.std.proofs.lemmas.Bool.{cond-true, and_parts, and_from, lt-ltb, ltb-true, ne_eqb, both_ways}
use Rattle.std.specs.List.{list_all}
use Rattle.number.specs.Numbers.{digit_value, value_after, numeral}

pub cond-some-parts : (b : Bool) (o : Option ℕ) (n : ℕ) → cond b o None ≡ Some n → (b ≡ true) × (o ≡ Some n)
cond-some-parts true o n e = (refl, e)
cond-some-parts false o n e = let z : ◌≡◌ {A = ℕ} 0 1 = cc in absurd (omega arith)

-- s is digits of the set that write n in the base
pub record Reads (set : ℕ → Bool) (base : ℕ) (s : List ℕ) (n : ℕ) : Type 0 where
  pub some : 0 < length s
  pub members : list_all set s ≡ true
  pub value : value_after base 0 s ≡ n
  pub fits : n < 2 ^ 64

module _ (set : ℕ → Bool) (base : ℕ) where
  pub numeral_from_reads : (s : List ℕ) (n : ℕ) → Reads set base s n → numeral set base s ≡ Some n
  unfolding numeral
  numeral_from_reads s n r =
      let v = r.value in
      let f = r.fits in
      let test = and_from _ _ (and_from _ _ (lt-ltb 0 (length s) r.some) r.members) (lt-ltb (value_after base 0 s) (2 ^ 64) (omega arith)) in
      cond-true _ (Some (value_after base 0 s)) None test ∙ ap Some v

  pub reads_from_numeral : (s : List ℕ) (n : ℕ) → numeral set base s ≡ Some n → Reads set base s n
  unfolding numeral
  reads_from_numeral s n e =
      let passed = cond-some-parts (ltb 0 (length s) && list_all set s && ltb (value_after base 0 s) (2 ^ 64)) (Some (value_after base 0 s)) n e in
      let v : value_after base 0 s ≡ n = let same = passed.1 in cc in
      let p = and_parts (ltb 0 (length s) && list_all set s) (ltb (value_after base 0 s) (2 ^ 64)) passed.0 in
      let q = and_parts (ltb 0 (length s)) (list_all set s) p.0 in
      let f = ltb-true (value_after base 0 s) (2 ^ 64) p.1 in
      record { some = ltb-true 0 (length s) q.0; members = q.1; value = v; fits = omega arith }

pub value_push : (base n b : ℕ) (s : List ℕ) → value_after base n (s ++ (b ∷ [])) ≡ value_after base n s * base + digit_value b
value_push base n b [] = refl
value_push base n b (x ∷ xs) = value_push base (n * base + digit_value x) b xs

pub all_push : (set : ℕ → Bool) (b : ℕ) (s : List ℕ) → list_all set (s ++ (b ∷ [])) ≡ (list_all set s && set b)
all_push set b [] = and-true (set b)
all_push set b (x ∷ xs) = ap (λ t. set x && t) (all_push set b xs) ∙ sym (and_assoc (set x) (list_all set xs) (set b))

-- a byte outside the set does not stand in front
pub first_in_set : (set : ℕ → Bool) (sign : ℕ) → set sign ≡ false → (s : List ℕ) → 0 < length s → list_all set s ≡ true → eqb (get_or s 0 0) sign ≡ false
first_in_set set sign out [] h in-set = absurd (omega arith)
first_in_set set sign out (b ∷ bs) h in-set = ne_eqb b sign (λ e. both_ways (set b) (ap set e ∙ out) (and_parts (set b) (list_all set bs) in-set).0)
