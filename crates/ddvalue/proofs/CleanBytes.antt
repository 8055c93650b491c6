-- The bytes of what is written: clean ones, which writing and reading once more keep. Assumes nothing.
use Rattle.std.proofs.Common.{◌≡◌, ℕ, Bool, true, not, ◌&&◌, List, [], ◌∷◌, map, reverse, take, drop, sym, refl, ap, ◌∙◌, append-nil, arith}
use mathlib.Core.List.{reverse-reverse}
use Rattle.std.proofs.lemmas.Bool.{and_parts}
use Rattle.std.proofs.lemmas.List.{take-append-drop}
use Rattle.std.proofs.lemmas.List.Elements.{All-weaker}
use Rattle.std.proofs.lemmas.List.Folds.{list_all-append, list_all-map}
use Rattle.std.proofs.lemmas.List.Sums.{AllPass-from_list_all, list_all-from_AllPass}
use Rattle.std.proofs.lemmas.Simd.{map-map}
use Rattle.std.proofs.lemmas.Bool.Decides.{nat_tests}
use Rattle.byte_classes.specs.Sets.{blank, space, digit, hex, tracestate_value, tag_key_replaced, tag_value_replaced, equals, tilde}
use Rattle.text.proofs.Trimming.{back_mirrored, front-passes, back_off}
use Rattle.text.specs.Laws.{bare}
use Rattle.text.specs.Splits.{other}
use Rattle.std.specs.List.{list_all}
use Rattle.text.specs.Texts.{replaced}
use Rattle.text.specs.Trims.{without_front, without_back}
use Rattle.w3c_extract.specs.Reads.{decoded}
use Rattle.ddvalue.specs.Values.{written_key, written_value}

-- what stands in a key, and in a value
abbrev pub clean_key : ℕ → Bool
clean_key b = not (tag_key_replaced b)

abbrev pub clean_value : ℕ → Bool
clean_value b = tracestate_value b && other 0x3B b

-- tests of every byte
pub all_weaker : (p q : ℕ → Bool) → ((b : ℕ) → p b ≡ true → q b ≡ true) → (s : List ℕ) → list_all p s ≡ true → list_all q s ≡ true
all_weaker p q h s e = list_all-from_AllPass q s (All-weaker (λ b. p b ≡ true) (λ b. q b ≡ true) h s (AllPass-from_list_all p s e))

all_map : (q : ℕ → Bool) (f : ℕ → ℕ) → ((b : ℕ) → q (f b) ≡ true) → (s : List ℕ) → list_all q (map f s) ≡ true
all_map q f h s = list_all-map q f s ∙ list_all-from_AllPass (λ b. q (f b)) s (λ k d l. h _)

all_take : (p : ℕ → Bool) (n : ℕ) (s : List ℕ) → list_all p s ≡ true → list_all p (take n s) ≡ true
all_take p n s e = (and_parts _ _ (sym (list_all-append p (take n s) (drop n s)) ∙ ap (list_all p) (take-append-drop n s) ∙ e)).0

map-kept : (f : ℕ → ℕ) (p : ℕ → Bool) → ((b : ℕ) → p b ≡ true → f b ≡ b) → (s : List ℕ) → list_all p s ≡ true → map f s ≡ s
map-kept f p h [] e = refl
map-kept f p h (b ∷ bs) e = let parts = and_parts (p b) (list_all p bs) e in (λ i. h b parts.0 i ∷ map-kept f p h bs parts.1 i)

-- a byte of a key
key_byte : (b : ℕ) → clean_key (replaced tag_key_replaced 0x5F b) ≡ true
unfolding tag_key_replaced
key_byte b = grind (arith, nat_tests)

key-kept : (b : ℕ) → clean_key b ≡ true → replaced tag_key_replaced 0x5F b ≡ b
unfolding tag_key_replaced
key-kept b h = grind (arith, nat_tests)

-- a byte of a value: as it is written, and as it is read
abbrev wrote : ℕ → ℕ
wrote b = replaced equals 0x7E (replaced tag_value_replaced 0x5F b)

value_byte : (b : ℕ) → clean_value (wrote b) ≡ true
unfolding tracestate_value tag_value_replaced equals
value_byte b = grind (arith, nat_tests)

value-kept : (b : ℕ) → clean_value b ≡ true → wrote (replaced tilde 0x3D b) ≡ b
unfolding tracestate_value tag_value_replaced equals tilde
value-kept b h = grind (arith, nat_tests)

-- a key as it is written
pub clean_key_lem : (k : List ℕ) → list_all clean_key (written_key k) ≡ true
unfolding written_key
clean_key_lem k = all_map clean_key (replaced tag_key_replaced 0x5F) key_byte k

pub kept-key : (k : List ℕ) → list_all clean_key k ≡ true → written_key k ≡ k
unfolding written_key
kept-key k h = map-kept (replaced tag_key_replaced 0x5F) clean_key key-kept k h

-- what is left without an end that passes does not end so
bare-back : (p : ℕ → Bool) (s : List ℕ) → bare p (reverse (without_back p s)) ≡ true
unfolding without_front
bare-back p s = ap (λ l. bare p (reverse l)) (back_mirrored p s) ∙ ap (bare p) (reverse-reverse (without_front p (reverse s))) ∙ (front-passes p (reverse s)).1

-- values: clean bytes, the last not a space
pub record Clean (v : List ℕ) : Type 0 where
  pub bytes : list_all clean_value v ≡ true
  pub end : bare space (reverse v) ≡ true

pub clean_value_lem : (v : List ℕ) → Clean (written_value v)
unfolding written_value without_back
clean_value_lem v =
    let mapped : List ℕ = map (replaced equals 0x7E) (map (replaced tag_value_replaced 0x5F) v) in
    let clean : list_all clean_value mapped ≡ true = ap (list_all clean_value) (map-map (replaced equals 0x7E) (replaced tag_value_replaced 0x5F) v) ∙ all_map clean_value wrote value_byte v in
    record { bytes = all_take clean_value _ mapped clean; end = bare-back space mapped }

pub kept-value : (w : List ℕ) → Clean w → written_value (decoded w) ≡ w
unfolding written_value decoded
kept-value w c =
    let read = map (replaced tilde 0x3D) w in
    let same : map (replaced equals 0x7E) (map (replaced tag_value_replaced 0x5F) read) ≡ w =
    map-map (replaced equals 0x7E) (replaced tag_value_replaced 0x5F) read ∙ map-map wrote (replaced tilde 0x3D) w ∙ map-kept (λ b. wrote (replaced tilde 0x3D b)) clean_value value-kept w c.bytes in
    ap (without_back space) (same ∙ sym (append-nil w)) ∙ back_off space w [] c.end refl

pub read_plain : (p : ℕ → Bool) → ((b : ℕ) → p b ≡ true → replaced tilde 0x3D b ≡ b) → (s : List ℕ) → list_all p s ≡ true → decoded s ≡ s
unfolding decoded
read_plain p h s e = map-kept (replaced tilde 0x3D) p h s e

digit-plain : (b : ℕ) → hex b ≡ true → replaced tilde 0x3D b ≡ b
unfolding hex tilde
digit-plain b h = grind (arith, nat_tests)

pub read-digits : (d : List ℕ) → list_all hex d ≡ true → decoded d ≡ d
read-digits d h = read_plain hex digit-plain d h

-- clean bytes are no separators, no blanks but spaces, and lawful
pub key_semicolon : (b : ℕ) → clean_key b ≡ true → other 0x3B b ≡ true
unfolding tag_key_replaced
key_semicolon b h = grind (arith, nat_tests)

pub key_colon : (b : ℕ) → clean_key b ≡ true → other 0x3A b ≡ true
unfolding tag_key_replaced
key_colon b h = grind (arith, nat_tests)

pub key-lawful : (b : ℕ) → clean_key b ≡ true → tracestate_value b ≡ true
unfolding tag_key_replaced tracestate_value
key-lawful b h = grind (arith, nat_tests)

pub key_solid : (b : ℕ) → clean_key b ≡ true → not (blank b) ≡ true
unfolding tag_key_replaced blank
key_solid b h = grind (arith, nat_tests)

pub value_solid : (b : ℕ) → clean_value b ≡ true → not (space b) ≡ true → not (blank b) ≡ true
unfolding tracestate_value space blank
value_solid b h k = grind (arith, nat_tests)

pub hex-value : (b : ℕ) → hex b ≡ true → clean_value b ≡ true
unfolding hex tracestate_value
hex-value b h = grind (arith, nat_tests)

pub hex_solid : (b : ℕ) → hex b ≡ true → not (space b) ≡ true
unfolding hex space
hex_solid b h = grind (arith, nat_tests)

pub digit-hex : (b : ℕ) → digit b ≡ true → hex b ≡ true
unfolding hex digit
digit-hex b h = grind (arith, nat_tests)
