-- Hexadecimal text: its form, and what it reads as. Assumes nothing.
use Rattle.std.proofs.Common.{◌≡◌, ℕ, zero, suc, ◌+◌, ◌*◌, ◌/◌, ◌%◌, ◌^◌, ◌<◌, Bool, true, List, [], ◌∷◌, ◌++◌, length, get_or, take, sym, refl, ap, ◌∙◌, mod-lt, div-lt_iff_lt-mul, pow-suc, div-add-mod', arith, length-append}
use lib.Arith.{digits_div, digits_mod}
use Rattle.std.proofs.lemmas.List.{take_all, take_more, length-take-le}
use Rattle.std.proofs.lemmas.Bool.{and_from, and_parts}
use Rattle.byte_classes.specs.Sets.{hex}
use Rattle.std.specs.List.{list_all}
use Rattle.number.specs.Numbers.{digit_value, value_after, glyph, hex_text}
use Rattle.number.specs.Laws.{HexForm}
use Rattle.number.proofs.Digits.{value-small, value-glyph, glyph-value, glyph-hex}
use Rattle.number.proofs.Numerals.{Reads, value_push, all_push}

pub length-hex_text : (k n : ℕ) → length (hex_text k n) ≡ k
unfolding hex_text
length-hex_text zero n = refl
length-hex_text (suc k) n = length-append (hex_text k (n / 16)) (glyph (n % 16) ∷ []) ∙ let e = length-hex_text k (n / 16) in omega arith

-- a set with the lower-case digits has every byte of the text
all-hex_text : (members : ℕ → Bool) → ((b : ℕ) → hex b ≡ true → members b ≡ true) → (k n : ℕ) → list_all members (hex_text k n) ≡ true
unfolding hex_text
all-hex_text members has zero n = refl
all-hex_text members has (suc k) n =
    all_push members (glyph (n % 16)) (hex_text k (n / 16)) ∙ and_from _ _ (all-hex_text members has k (n / 16)) (has (glyph (n % 16)) (glyph-hex (n % 16) (mod-lt n (omega arith))))

pub hex_form : HexForm
hex_form k n = (length-hex_text k n, all-hex_text hex (λ b h. h) k n)

value-hex_text : (k n : ℕ) → n < 16 ^ k → value_after 16 0 (hex_text k n) ≡ n
unfolding hex_text
value-hex_text zero n h = omega arith
value-hex_text (suc k) n h =
    let p = pow-suc 16 k in
    let lower : n / 16 < 16 ^ k = (div-lt_iff_lt-mul {k = 16} {x = n} {y = 16 ^ k} (omega arith)).1 (omega arith) in
    let front = value-hex_text k (n / 16) lower in
    let last = value-glyph (n % 16) (mod-lt n (omega arith)) in
    value_push 16 0 (glyph (n % 16)) (hex_text k (n / 16)) ∙ omega (arith, div-add-mod' n 16)

pub hex-reads : (members : ℕ → Bool) → ((b : ℕ) → hex b ≡ true → members b ≡ true) → (k n : ℕ) → 0 < k → n < 16 ^ k → n < 2 ^ 64 → Reads members 16 (hex_text k n) n
hex-reads members has k n some small fits =
    record { some = omega (arith, length-hex_text k n); members = all-hex_text members has k n; value = value-hex_text k n small; fits = fits }

-- a text is its front and its last byte
front_and_last : (k : ℕ) (s : List ℕ) → length s ≡ suc k → s ≡ take k s ++ (get_or s k 0 ∷ [])
front_and_last k s e = sym (take_all (k + 1) s (omega arith)) ∙ take_more s k 0 (omega arith)

value-below : (k : ℕ) (s : List ℕ) → length s ≡ k → value_after 16 0 s < 16 ^ k
value-below zero [] e = omega arith
value-below zero (b ∷ bs) e = absurd (omega arith)
value-below (suc k) s e =
    let p = pow-suc 16 k in
    let front = value-below k (take k s) (length-take-le k s (omega arith)) in
    let last = value-small (get_or s k 0) in
    omega (arith, ap (value_after 16 0) (front_and_last k s e) ∙ value_push 16 0 (get_or s k 0) (take k s))

hex_text-value : (k : ℕ) (s : List ℕ) → length s ≡ k → list_all hex s ≡ true → hex_text k (value_after 16 0 s) ≡ s
unfolding hex_text
hex_text-value zero [] e in-set = refl
hex_text-value zero (b ∷ bs) e in-set = absurd (omega arith)
hex_text-value (suc k) s e in-set =
    let v = value_after 16 0 (take k s) in
    let b = get_or s k 0 in
    let is : value_after 16 0 s ≡ v * 16 + digit_value b = ap (value_after 16 0) (front_and_last k s e) ∙ value_push 16 0 b (take k s) in
    let parts = and_parts (list_all hex (take k s)) (hex b) (sym (all_push hex b (take k s)) ∙ ap (list_all hex) (sym (front_and_last k s e)) ∙ in-set) in
    let small = value-small b in
    ap (λ n. hex_text k (n / 16) ++ (glyph (n % 16) ∷ [])) is
    ∙ ap (λ q. hex_text k q ++ (glyph ((v * 16 + digit_value b) % 16) ∷ [])) (digits_div v small)
    ∙ ap (λ r. hex_text k v ++ (glyph r ∷ [])) (digits_mod v small)
    ∙ ap (λ t. t ++ (glyph (digit_value b) ∷ [])) (hex_text-value k (take k s) (length-take-le k s (omega arith)) parts.0)
    ∙ ap (λ x. take k s ++ (x ∷ [])) (glyph-value b parts.1)
    ∙ sym (front_and_last k s e)

pub text_from_reads : (k n : ℕ) (s : List ℕ) → length s ≡ k → Reads hex 16 s n → (s ≡ hex_text k n) × (n < 16 ^ k)
text_from_reads k n s e r =
    (sym (hex_text-value k s e r.members) ∙ ap (hex_text k) r.value, let l = value-below k s e in omega (arith, r.value))
