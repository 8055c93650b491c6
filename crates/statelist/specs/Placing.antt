-- A text in front of the work bytes. Assumes nothing.
use Rattle.std.specs.Prelude.{◌≡◌, ℕ, cond, List, [], ◌∷◌, ◌++◌, length, take, IfSome, Some, None, Option, nat_le}

-- members after others, each with a comma before it
abbrev pub followed : List (List ℕ) → List ℕ
followed [] = []
followed (m ∷ ms) = 0x2C ∷ (m ++ followed ms)

-- a text is written into work bytes: the answer is its length exactly where it fits, and then it stands in front; what the rest
-- holds, and what all of them hold where it does not fit, is free
pub record Answered (text before after : List ℕ) (r : Option ℕ) : Type 0 where
  pub answer : r ≡ cond (nat_le (length text) (length before)) (Some (length text)) None
  pub bytes : IfSome r (λ n. take n after ≡ text)
