-- Hexadecimal text that is written from the last digit to the first. Assumes nothing.
use Rattle.std.proofs.Common.{◌≡◌, ℕ, zero, suc, ◌+◌, ◌-◌, ◌/◌, ◌%◌, ◌<◌, ◌≤◌, List, [], ◌∷◌, ◌++◌, length, drop, set, sym, ap, ◌∙◌, append_assoc, arith, length-set}
use Rattle.std.proofs.lemmas.List.{drop-set}
use Rattle.number.specs.Numbers.{glyph, hex_text}

hex_text-step : (k n : ℕ) → 0 < k → hex_text k n ≡ hex_text (k - 1) (n / 16) ++ (glyph (n % 16) ∷ [])
unfolding hex_text
hex_text-step zero n h = absurd (omega arith)
hex_text-step (suc k) n h = let e : k ≡ suc k - 1 = omega arith in ap (λ j. hex_text j (n / 16) ++ (glyph (n % 16) ∷ [])) e

-- the writer's loop: the digits of rest are still to be written before those at `at`
module _ (n rest at : ℕ) (out : List ℕ) (within : at ≤ length out) (inv : hex_text (length out) n ≡ hex_text at rest ++ drop at out) where
  pub hex_more : (d : ℕ) → 0 < at → d ≡ glyph (rest % 16) → hex_text (length (set out (at - 1) d)) n ≡ hex_text (at - 1) (rest / 16) ++ drop (at - 1) (set out (at - 1) d)
  hex_more d some e =
      let back : at - 1 + 1 ≡ at = omega arith in
      let here : drop (at - 1) (set out (at - 1) d) ≡ glyph (rest % 16) ∷ drop at out = drop-set out (at - 1) d (omega arith) ∙ ap (λ i. d ∷ drop i out) back ∙ ap (λ x. x ∷ drop at out) e in
      ap (λ k. hex_text k n) (length-set out (at - 1) d)
      ∙ inv
      ∙ ap (λ l. l ++ drop at out) (hex_text-step at rest some)
      ∙ append_assoc (hex_text (at - 1) (rest / 16)) (glyph (rest % 16) ∷ []) (drop at out)
      ∙ ap (λ l. hex_text (at - 1) (rest / 16) ++ l) (sym here)

  pub hex_end : at ≤ 0 → out ≡ hex_text (length out) n
  unfolding hex_text
  hex_end h = let z : at ≡ 0 = omega arith in sym (inv ∙ ap (λ k. hex_text k rest ++ drop k out) z)
