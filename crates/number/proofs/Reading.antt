-- Digits that are read from the first to the last, in any base and of any set. Assumes nothing.
use Rattle.std.proofs.Common.{◌≡◌, ℕ, zero, suc, ◌+◌, ◌*◌, ◌^◌, ◌<◌, ◌≤◌, Bool, true, false, cond, ◌&&◌, eqb, ltb, List, [], ◌∷◌, length, get_or, drop, Some, None, Option, sym, refl, ap, ◌∙◌, mul-zero, le-mul_of_pos_right, arith}
use Rattle.std.proofs.lemmas.List.{at_drop_more, at_drop_all}
use Rattle.std.proofs.lemmas.Bool.{cond-true, cond-false, and_right, le-ltb, lt-ltb, eqb-true, eqb-false}
use Rattle.std.specs.List.{list_all}
use Rattle.number.specs.Numbers.{digit_value, value_after, numeral}
use Rattle.number.proofs.Digits.{value-small}

-- what the digits read as, after those of n
abbrev pub read_from : (ℕ → Bool) → ℕ → ℕ → List ℕ → Option ℕ
read_from set base n s = cond (list_all set s && ltb (value_after base n s) (2 ^ 64)) (Some (value_after base n s)) None

pub numeral_none : (set : ℕ → Bool) (base : ℕ) (s : List ℕ) → eqb (length s) 0 ≡ true → None ≡ numeral set base s
unfolding numeral
numeral_none set base [] e = refl
numeral_none set base (b ∷ bs) e = absurd (omega (arith, eqb-true (length (b ∷ bs)) 0 e))

value_grows : (base n : ℕ) (s : List ℕ) → 0 < base → n ≤ value_after base n s
value_grows base n [] some = omega arith
value_grows base n (b ∷ bs) some = omega (arith, value_grows base (n * base + digit_value b) bs some, le-mul_of_pos_right {m = base} n some)

-- a number that passes 2^64 by one digit more has a base that is not 0
base_some : (base n b : ℕ) → 2 ^ 64 ≤ n * base + digit_value b → 0 < base
base_some zero n b large = absurd (omega (arith, mul-zero n, value-small b))
base_some (suc base) n b large = omega arith

too_large : (set : ℕ → Bool) (base n : ℕ) (s : List ℕ) → 0 < base → 2 ^ 64 ≤ n → read_from set base n s ≡ None
too_large set base n s some large = cond-false _ _ _ (and_right (list_all set s) _ (le-ltb (value_after base n s) (2 ^ 64) (omega (arith, value_grows base n s some))))

-- the reader's loop: n is read so far, and what is left at i gives the result
module _ (set : ℕ → Bool) (base n i : ℕ) (s : List ℕ) (inv : read_from set base n (drop i s) ≡ read_from set base 0 s) where
  abbrev next : ℕ
  next = n * base + digit_value (get_or s i 0)

  abbrev rest : List ℕ
  rest = drop (i + 1) s

  left_is : i < length s → (t : Bool) → set (get_or s i 0) ≡ t → read_from set base n (drop i s) ≡ cond ((t && list_all set rest) && ltb (value_after base next rest) (2 ^ 64)) (Some (value_after base next rest)) None
  left_is h t e = at_drop_more (read_from set base n) s i 0 h ∙ ap (λ u. cond ((u && list_all set rest) && ltb (value_after base next rest) (2 ^ 64)) (Some (value_after base next rest)) None) e

  pub digit_more : (m : ℕ) → i < length s → set (get_or s i 0) ≡ true → m ≡ next → read_from set base m rest ≡ read_from set base 0 s
  digit_more m h e is = ap (λ k. read_from set base k rest) is ∙ sym (left_is h true e) ∙ inv

  module _ (some : eqb (length s) 0 ≡ false) where
    numeral_is : (x : Option ℕ) → read_from set base n (drop i s) ≡ x → x ≡ numeral set base s
    unfolding numeral
    numeral_is x e =
        let ne = eqb-false (length s) 0 some in
        sym e ∙ inv ∙ ap (λ t. cond ((t && list_all set s) && ltb (value_after base 0 s) (2 ^ 64)) (Some (value_after base 0 s)) None) (sym (lt-ltb 0 (length s) (omega arith)))

    pub numeral-all : length s ≤ i → n < 2 ^ 64 → Some n ≡ numeral set base s
    numeral-all h fits = numeral_is (Some n) (at_drop_all (read_from set base n) s i h ∙ cond-true (ltb n (2 ^ 64)) (Some n) None (lt-ltb n (2 ^ 64) fits))

    pub numeral-refused : i < length s → set (get_or s i 0) ≡ false → None ≡ numeral set base s
    numeral-refused h e = numeral_is None (left_is h false e)

    pub numeral_over : i < length s → set (get_or s i 0) ≡ true → 2 ^ 64 ≤ next → None ≡ numeral set base s
    numeral_over h e large = numeral_is None (left_is h true e ∙ too_large set base next rest (base_some base n (get_or s i 0) large) large)
