-- The text of one lawful member: its parts, its bytes, its ends. Assumes nothing.
use Rattle.std.proofs.Common.{◌≡◌, ℕ, ◌+◌, ◌-◌, ◌<◌, ◌≤◌, Bool, true, false, cond, ◌&&◌, ◌||◌, eqb, List, [], ◌∷◌, ◌++◌, reverse, length, get_or, Some, None, codes, Option, sym, refl, ap, ◌∙◌, subst, inl, inr, append_assoc, append-nil, arith, length-append}
use mathlib.Core.List.{reverse-append}
use Rattle.std.proofs.lemmas.List.Elements.{All-weaker}
use Rattle.std.proofs.lemmas.List.Sums.{AllPass-from_list_all, list_all-from_AllPass}
use Rattle.std.proofs.lemmas.List.{get_or-reverse, length-reverse}
use Rattle.std.proofs.lemmas.Bool.{cases_Bool, both_ways, and_parts, and_from, cond-true, eqb-true, leb-true, ltb-true, not-true, not_from_false, or_left, or_right}
use Rattle.std.proofs.lemmas.Bool.Decides.{nat_tests}
use Rattle.byte_classes.specs.Sets.{blank, letter_or_digit, space, text, tracestate_key, tracestate_value}
use Rattle.text.specs.Laws.{bare, Lacks}
use Rattle.text.specs.Splits.{other, split_once}
use Rattle.std.specs.List.{list_all}
use Rattle.text.specs.Trims.{trimmed}
use Rattle.text.proofs.Alls.{all_append}
use Rattle.text.proofs.Splitting.{split_found, split_parts}
use Rattle.text.proofs.Trimming.{trim_only}
use Rattle.tracestate.specs.Members.{Pair, pair, is_part, key_by, is_key, is_value, lawful_member, member_of}

-- a key, `=` and a value
abbrev pub text_of : Pair → List ℕ
text_of m = m.key ++ 0x3D ∷ m.value

pub record Parts (t : List ℕ) (m : Pair) : Type 0 where
  pub whole : t ≡ text_of m
  pub key-lawful : is_key m.key ≡ true
  pub value-lawful : is_value m.value ≡ true

some_if : {A : Type 0} (t : Bool) (x y : A) → cond t (Some x) None ≡ Some y → (t ≡ true) × (x ≡ y)
some_if true x y e = (refl, cc)
some_if false x y e = absurd (cc)

parts-by : (t : List ℕ) (m : Pair) (o : Option (List ℕ × List ℕ)) → split_once 0x3D t ≡ o → lawful_member o ≡ Some m → Parts t m
parts-by t m None e h = absurd (cc)
parts-by t m (Some parts) e h =
    let got = some_if (is_key parts.0 && is_value parts.1) (pair parts) m h in
    let both = and_parts (is_key parts.0) (is_value parts.1) got.0 in
    subst (Parts t) got.1 (record { whole = (split_parts 0x3D t parts.0 parts.1 e).0; key-lawful = both.0; value-lawful = both.1 })

pub member-parts : (t : List ℕ) (m : Pair) → member_of t ≡ Some m → Parts t m
unfolding member_of
member-parts t m e = parts-by t m (split_once 0x3D t) refl e

-- a test that more bytes pass
all_weaker : (p q : ℕ → Bool) → ((b : ℕ) → p b ≡ true → q b ≡ true) → (s : List ℕ) → list_all p s ≡ true → list_all q s ≡ true
all_weaker p q f s h = list_all-from_AllPass q s (All-weaker (λ b. p b ≡ true) (λ b. q b ≡ true) f s (AllPass-from_list_all p s h))

-- a part of a key
record Part (most : ℕ) (s : List ℕ) : Type 0 where
  some : 0 < length s
  short : length s ≤ most
  bytes : list_all tracestate_key s ≡ true

part_is : (most : ℕ) (s : List ℕ) → is_part most s ≡ true → Part most s
unfolding is_part
part_is most s h =
    let parts = and_parts _ _ h in
    let sizes = and_parts _ _ parts.0 in
    record { some = ltb-true 0 (length s) sizes.0; short = leb-true (length s) most sizes.1; bytes = (and_parts _ _ parts.1).1 }

-- a byte of a key: `@` between its parts is one
abbrev pub key_byte : ℕ → Bool
key_byte b = tracestate_key b || eqb b 0x40

-- a key's bytes, and their number
pub record Key (s : List ℕ) : Type 0 where
  pub some : 0 < length s
  pub short : length s ≤ 256
  pub bytes : list_all key_byte s ≡ true

part_byte : (b : ℕ) → tracestate_key b ≡ true → key_byte b ≡ true
part_byte b e = or_left (tracestate_key b) (eqb b 0x40) e

key_by_lem : (s : List ℕ) (o : Option (List ℕ × List ℕ)) → split_once 0x40 s ≡ o → key_by s o ≡ true → Key s
key_by_lem s None e h =
    let p = part_is 256 s h in
    record { some = p.some; short = p.short; bytes = all_weaker tracestate_key key_byte part_byte s p.bytes }
key_by_lem s (Some parts) e h =
    let both = and_parts (is_part 241 parts.0) (is_part 14 parts.1) h in
    let p = part_is 241 parts.0 both.0 in
    let q = part_is 14 parts.1 both.1 in
    let whole : s ≡ parts.0 ++ 0x40 ∷ parts.1 = (split_parts 0x40 s parts.0 parts.1 e).0 in
    let long : length s ≡ length parts.0 + (1 + length parts.1) = ap length whole ∙ length-append parts.0 (0x40 ∷ parts.1) ∙ omega arith in
    let front = all_weaker tracestate_key key_byte part_byte parts.0 p.bytes in
    let back = and_from (key_byte 0x40) (list_all key_byte parts.1) (or_right (tracestate_key 0x40) true refl) (all_weaker tracestate_key key_byte part_byte parts.1 q.bytes) in
    record {
      some = omega (arith, p.some);
      short = omega (arith, p.short, q.short);
      bytes = ap (list_all key_byte) whole ∙ all_append key_byte parts.0 (0x40 ∷ parts.1) front back;
    }

pub key_is : (s : List ℕ) → is_key s ≡ true → Key s
unfolding is_key
key_is s h = key_by_lem s (split_once 0x40 s) refl h

pub record Value (s : List ℕ) : Type 0 where
  pub some : 0 < length s
  pub short : length s ≤ 256
  pub end : space (get_or s (length s - 1) 0) ≡ false
  pub bytes : list_all tracestate_value s ≡ true

pub value_is : (s : List ℕ) → is_value s ≡ true → Value s
unfolding is_value
value_is s h =
    let parts = and_parts _ _ h in
    let sizes = and_parts _ _ parts.0 in
    let rest = and_parts _ _ parts.1 in
    record { some = ltb-true 0 (length s) sizes.0; short = leb-true (length s) 256 sizes.1; end = not-true _ rest.0; bytes = rest.1 }

pub member_sizes : (t : List ℕ) (m : Pair) → member_of t ≡ Some m → (0 < length t) × (length t ≤ 513)
member_sizes t m e =
    let p = member-parts t m e in
    let k = key_is m.key p.key-lawful in
    let v = value_is m.value p.value-lawful in
    let long : length t ≡ length m.key + (1 + length m.value) = ap length p.whole ∙ length-append m.key (0x3D ∷ m.value) ∙ omega arith in
    (omega arith, omega (arith, k.short, v.short))

-- a test that all bytes of a member pass
module _ (q : ℕ → Bool) (at_key : (b : ℕ) → key_byte b ≡ true → q b ≡ true) (at-equals : q 0x3D ≡ true) (at_value : (b : ℕ) → tracestate_value b ≡ true → q b ≡ true) where
  member-all : (t : List ℕ) (m : Pair) → member_of t ≡ Some m → list_all q t ≡ true
  member-all t m e =
      let p = member-parts t m e in
      let front = all_weaker key_byte q at_key m.key (key_is m.key p.key-lawful).bytes in
      let back = all_weaker tracestate_value q at_value m.value (value_is m.value p.value-lawful).bytes in
      ap (list_all q) p.whole ∙ all_append q m.key (0x3D ∷ m.value) front (and_from (q 0x3D) (list_all q m.value) at-equals back)

other_byte : (p : ℕ → Bool) (c : ℕ) → p c ≡ false → (b : ℕ) → p b ≡ true → other c b ≡ true
other_byte p c no-c b e =
    elim (cases_Bool (eqb b c)) [
      | inl same ↦ absurd (both_ways (p b) (ap p (eqb-true b c same) ∙ no-c) e)
      | inr apart ↦ not_from_false (eqb b c) apart
    ]

pub member_no_comma : (t : List ℕ) (m : Pair) → member_of t ≡ Some m → Lacks 0x2C t
unfolding tracestate_key tracestate_value
member_no_comma = member-all (other 0x2C) (other_byte key_byte 0x2C refl) refl (other_byte tracestate_value 0x2C refl)

key-text : (b : ℕ) → key_byte b ≡ true → text b ≡ true
unfolding text tracestate_key
key-text b e = grind (arith, nat_tests)

value-text : (b : ℕ) → tracestate_value b ≡ true → text b ≡ true
unfolding text tracestate_value
value-text b e = grind (arith, nat_tests)

pub member-text : (t : List ℕ) (m : Pair) → member_of t ≡ Some m → list_all text t ≡ true
unfolding text
member-text = member-all text key-text refl value-text

-- no blanks at the ends of a member
bare-front : (p : ℕ → Bool) (xs ys : List ℕ) → 0 < length xs → bare p xs ≡ true → bare p (xs ++ ys) ≡ true
bare-front p [] ys h k = absurd (omega arith)
bare-front p (x ∷ xs) ys h k = k

bare-all : (p q : ℕ → Bool) → ((b : ℕ) → p b ≡ true → q b ≡ false) → (xs : List ℕ) → list_all p xs ≡ true → bare q xs ≡ true
bare-all p q f [] h = refl
bare-all p q f (x ∷ xs) h = not_from_false (q x) (f x (and_parts (p x) (list_all p xs) h).0)

bare-at : (p : ℕ → Bool) (xs : List ℕ) → 0 < length xs → p (get_or xs 0 0) ≡ false → bare p xs ≡ true
bare-at p [] h e = refl
bare-at p (x ∷ xs) h e = not_from_false (p x) e

key-bare : (b : ℕ) → key_byte b ≡ true → blank b ≡ false
unfolding blank tracestate_key
key-bare b e = grind (arith, nat_tests)

end_bare : (b : ℕ) → tracestate_value b ≡ true → space b ≡ false → blank b ≡ false
unfolding blank space tracestate_value
end_bare b e k = grind (arith, nat_tests)

value-bare : (v : List ℕ) → Value v → bare blank (reverse v) ≡ true
value-bare v h =
    let last = length v - 1 in
    let mirror : get_or (reverse v) 0 0 ≡ get_or v last 0 = get_or-reverse v 0 0 h.some ∙ ap (λ k. get_or v k 0) (omega arith) in
    let at-end : blank (get_or v last 0) ≡ false = end_bare (get_or v last 0) (AllPass-from_list_all tracestate_value v h.bytes last 0 (omega (arith, h.some))) h.end in
    bare-at blank (reverse v) (omega (arith, length-reverse v, h.some)) (ap blank mirror ∙ at-end)

pub member-trimmed : (t : List ℕ) (m : Pair) → member_of t ≡ Some m → trimmed t ≡ t
member-trimmed t m e =
    let p = member-parts t m e in
    let k = key_is m.key p.key-lawful in
    let v = value_is m.value p.value-lawful in
    let turned : reverse t ≡ reverse m.value ++ (reverse (0x3D ∷ []) ++ reverse m.key) =
    ap reverse p.whole ∙ reverse-append m.key (0x3D ∷ m.value) ∙ ap (λ l. l ++ reverse m.key) (reverse-append (0x3D ∷ []) m.value) ∙ append_assoc (reverse m.value) (reverse (0x3D ∷ [])) (reverse m.key) in
    sym (trim_only t t (record {
      front = [];
      back = [];
      whole = sym (append-nil t);
      front_blank = refl;
      back_blank = refl;
      starts_bare = ap (bare blank) p.whole ∙ bare-front blank m.key (0x3D ∷ m.value) k.some (bare-all key_byte blank key-bare m.key k.bytes);
      ends_bare = ap (bare blank) turned ∙ bare-front blank (reverse m.value) _ (omega (arith, length-reverse m.value, v.some)) (value-bare m.value v);
    }))

-- a key and a value make a member
pub made-member : (k v : List ℕ) → Lacks 0x3D k → is_key k ≡ true → is_value v ≡ true → member_of (k ++ 0x3D ∷ v) ≡ Some (pair (k, v))
unfolding member_of
made-member k v l hk hv = ap lawful_member (split_found 0x3D k v l) ∙ cond-true (is_key k && is_value v) (Some (pair (k, v))) None (and_from (is_key k) (is_value v) hk hv)

pub dd-member : (v : List ℕ) → is_value v ≡ true → member_of (codes "dd=" ++ v) ≡ Some (pair (codes "dd", v))
unfolding is_key is_part split_once letter_or_digit tracestate_key
dd-member v h = made-member (codes "dd") v refl refl h

pub ot-member : (v : List ℕ) → is_value v ≡ true → member_of (codes "ot=" ++ v) ≡ Some (pair (codes "ot", v))
unfolding is_key is_part split_once letter_or_digit tracestate_key
ot-member v h = made-member (codes "ot") v refl refl h
