use Rattle.std.proofs.Common.{◌≡◌, ℕ, List, [], ◌∷◌, ◌++◌, ap, ◌∙◌, append_assoc, arith}
use Rattle.block.specs.Lines.{line, line_text}
use Rattle.block.proofs.Taking.{line-length}
use Rattle.block.proofs.writer.LineBlock.push_line.Goals as goal

-- the four parts one after the other
parts : (front n v : List ℕ) → (((front ++ n) ++ (0x3A ∷ 0x20 ∷ [])) ++ v) ++ (0x0D ∷ 0x0A ∷ []) ≡ front ++ line_text (line n v)
unfolding line_text
parts front n v = simp append_assoc

pub returns : goal.returns
returns c = record {
  memory = c.push-4.ensures.memory ∙ c.push-3.ensures.memory ∙ c.push-2.ensures.memory ∙ c.push.ensures.memory;
  long = omega arith;
  text = c.push-4.ensures.text ∙ ap (λ s. s ++ (0x0D ∷ 0x0A ∷ [])) (c.push-3.ensures.text ∙ ap (λ s. s ++ c.args.value.now) (c.push-2.ensures.text ∙ ap (λ s. s ++ (0x3A ∷ 0x20 ∷ [])) c.push.ensures.text))
      ∙ parts _ c.args.name.now c.args.value.now;
  end = omega (arith, line-length (line c.args.name.now c.args.value.now));
}
