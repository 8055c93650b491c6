-- Two layers as one. Assumes nothing.
use Rattle.std.proofs.Common.{◌≡◌, ℕ, ◌+◌, ◌<◌, ◌≤◌, Bool, true, false, cond, ◌&&◌, ltb, leb, ◌⊎◌, List, ◌++◌, length, None, Option, sym, refl, ap, ◌∙◌, inl, inr, append_assoc, arith, length-append}
use Rattle.std.proofs.lemmas.Bool.{and_parts, and_from, and_right, ltb-true, lt-ltb, le-leb, lt-leb, cases_lt}
use Rattle.std.proofs.Math.Bool.{and_assoc}
use Rattle.byte_classes.specs.Sets.{name}
use Rattle.text.proofs.Alls.{all_append}
use Rattle.std.specs.List.{list_all}
use Rattle.carrier.specs.Kinds.{Kind}
use Rattle.carrier.specs.Names.{is_name}
use Rattle.prefix.specs.Laws.{PilesJoin}
use Rattle.prefix.specs.Prefixes.{is_prefix, joins}

prefix-bytes : (p : List ℕ) → is_prefix p ≡ true → list_all name p ≡ true
unfolding is_prefix
prefix-bytes p e = (and_parts (leb (length p) 16) (list_all name p) (and_parts (ltb 0 (length p)) _ e).1).1

-- a joined name that is short enough is a name
joined-name : (p n : List ℕ) → is_prefix p ≡ true → is_name n ≡ true → length p + length n ≤ 64 → is_name (p ++ n) ≡ true
unfolding is_name
joined-name p n good e fits =
    let outer = and_parts (ltb 0 (length n)) _ e in
    let inner = and_parts (leb (length n) 64) (list_all name n) outer.1 in
    let some : 0 < length (p ++ n) = omega (arith, ltb-true 0 (length n) outer.0, length-append p n) in
    let short : length (p ++ n) ≤ 64 = omega (arith, length-append p n) in
    and_from _ _ (lt-ltb 0 (length (p ++ n)) some) (and_from _ _ (le-leb (length (p ++ n)) 64 short) (all_append name p n (prefix-bytes p good) inner.1))

-- a name joins both prefixes, one after the other, exactly where it joins the two joined
pub joins-both : (p q n : List ℕ) → is_prefix p ≡ true → joins (q ++ p) n ≡ (joins p n && joins q (p ++ n))
unfolding joins
joins-both p q n good = by (is_name n) refl (cases_lt 64 (length q + (length p + length n))) where
  by : (t : Bool) → is_name n ≡ t → (64 < length q + (length p + length n)) ⊎ (length q + (length p + length n) ≤ 64)
      → (t && leb (length (q ++ p) + length n) 64) ≡ ((t && leb (length p + length n) 64) && (is_name (p ++ n) && leb (length q + length (p ++ n)) 64))
  by false e s = refl
  by true e (inl long) =
      lt-leb _ 64 (omega (arith, length-append q p))
      ∙ sym (and_right (leb (length p + length n) 64) _ (and_right (is_name (p ++ n)) _ (lt-leb _ 64 (omega (arith, length-append p n)))))
  by true e (inr short) =
      le-leb _ 64 (omega (arith, length-append q p))
      ∙ sym (and_from (leb (length p + length n) 64) _ (le-leb _ 64 (omega arith)) (and_from (is_name (p ++ n)) _ (joined-name p n good e (omega arith)) (le-leb _ 64 (omega (arith, length-append p n)))))

cond_both : (a b : Bool) (o : Option (List ℕ)) → cond a (cond b o None) None ≡ cond (a && b) o None
cond_both true b o = refl
cond_both false b o = refl

pub piles_join : (K : Kind) → PilesJoin K
piles_join K = record {
  shown = λ p q h n good.
      cond_both (joins p n) (joins q (p ++ n)) (K.shown h (q ++ (p ++ n)))
      ∙ ap (λ (t : Bool). cond t (K.shown h (q ++ (p ++ n))) None) (sym (joins-both p q n good))
      ∙ ap (λ (m : List ℕ). cond (joins (q ++ p) n) (K.shown h m) None) (sym (append_assoc q p n));
  room = λ p q h n len good.
      sym (and_assoc (joins p n) (joins q (p ++ n)) (K.room h (q ++ (p ++ n)) len))
      ∙ ap (λ (t : Bool). t && K.room h (q ++ (p ++ n)) len) (sym (joins-both p q n good))
      ∙ ap (λ (m : List ℕ). joins (q ++ p) n && K.room h m len) (sym (append_assoc q p n));
}
