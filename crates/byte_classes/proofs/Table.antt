-- The rule of the class table: a computed test at each of its 256 entries and each class, turned into the rule. Assumes nothing.
use Rattle.std.proofs.Common.{◌≡◌, ℕ, zero, suc, ◌<◌, Bool, true, false, not, ◌&&◌, T, eqb, List, get_or, sym, refl, ap, ◌∙◌, subst, inl, inr, arith}
use lib.Bits.{bit_and}
use Rattle.std.proofs.lemmas.Bool.{cases_eq}
use Rattle.byte_classes.specs.Classes.{member, bit}
use Rattle.byte_classes.specs.declared.class.Class.{Class}
use Rattle.byte_classes.specs.declared.class.Class.TheVariants.{Text, Blank, Space, Digit, Hex, AnyHex, Name, LetterOrDigit, TracestateKey, TracestateValue, TagKeyReplaced, TagValueReplaced, DatadogKey, DatadogValue, Equals, Tilde}

left : (a b : Bool) → T (a && b) → T a
left true b t = tt
left false b t = t

right : (a b : Bool) → T (a && b) → T b
right true b t = t
right false b t = absurd t

-- the test passes at each number below n
unfoldable pub below : (ℕ → Bool) → ℕ → Bool
below p zero = true
below p (suc n) = p n && below p n

at : (p : ℕ → Bool) (n k : ℕ) → T (below p n) → k < n → T (p k)
unfolding below
at p zero k t h = absurd (omega arith)
at p (suc n) k t h =
    elim (cases_eq k n) [
      | inl e ↦ subst (λ (m : ℕ). T (p m)) (sym e) (left (p n) (below p n) t)
      | inr ne ↦ at p n k (right (p n) (below p n) t) (omega arith)
    ]

unfoldable pub agree : Bool → Bool → Bool
agree true b = b
agree false b = not b

agree_same : (a b : Bool) → T (agree a b) → b ≡ a
unfolding agree
agree_same true true t = refl
agree_same true false t = absurd t
agree_same false true t = absurd t
agree_same false false t = refl

-- what the table says of a byte and a class
abbrev pub says : List ℕ → Class → ℕ → Bool
says table c b = not (eqb (bit_and (get_or table b 0) (bit c)) 0)

-- the computed test of a class: the table and the set agree at every byte
abbrev pub Agrees : List ℕ → Class → Type 0
Agrees table c = T (below (λ b. agree (member c b) (says table c b)) 256)

pub record Tested (table : List ℕ) : Type 0 where
  pub text : Agrees table Text
  pub blank : Agrees table Blank
  pub space : Agrees table Space
  pub digit : Agrees table Digit
  pub hex : Agrees table Hex
  pub any_hex_lem : Agrees table AnyHex
  pub name : Agrees table Name
  pub letter_or_digit_lem : Agrees table LetterOrDigit
  pub tracestate_key_lem : Agrees table TracestateKey
  pub tracestate_value_lem : Agrees table TracestateValue
  pub tag_key_replaced_lem : Agrees table TagKeyReplaced
  pub tag_value_replaced_lem : Agrees table TagValueReplaced
  pub datadog_key_lem : Agrees table DatadogKey
  pub datadog_value_lem : Agrees table DatadogValue
  pub equals : Agrees table Equals
  pub tilde : Agrees table Tilde

tested : (table : List ℕ) → Tested table → (c : Class) → Agrees table c
tested table t Text = t.text
tested table t Blank = t.blank
tested table t Space = t.space
tested table t Digit = t.digit
tested table t Hex = t.hex
tested table t AnyHex = t.any_hex_lem
tested table t Name = t.name
tested table t LetterOrDigit = t.letter_or_digit_lem
tested table t TracestateKey = t.tracestate_key_lem
tested table t TracestateValue = t.tracestate_value_lem
tested table t TagKeyReplaced = t.tag_key_replaced_lem
tested table t TagValueReplaced = t.tag_value_replaced_lem
tested table t DatadogKey = t.datadog_key_lem
tested table t DatadogValue = t.datadog_value_lem
tested table t Equals = t.equals
tested table t Tilde = t.tilde

pub table_rule : {table : List ℕ} (c : Class) (b mask : ℕ) → mask ≡ bit c → b < 256 → Tested table → not (eqb (bit_and (get_or table b 0) mask) 0) ≡ member c b
table_rule {table} c b mask e h t =
    ap (λ m. not (eqb (bit_and (get_or table b 0) m) 0)) e
    ∙ agree_same (member c b) (says table c b) (at (λ k. agree (member c k) (says table c k)) 256 b (tested table t c) h)
