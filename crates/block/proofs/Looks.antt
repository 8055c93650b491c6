-- Look-ups over the lines of a block. Assumes nothing.
use Rattle.std.proofs.Common.{◌≡◌, ℕ, Bool, true, false, cond, List, [], ◌∷◌, Some, Option, refl}
use Rattle.std.proofs.lemmas.Bool.{and_parts}
use Rattle.std.specs.List.{find}
use Rattle.std.specs.Option.{option_map}
use Rattle.std.specs.Str.{bytes_eq}
use Rattle.block.specs.Blocks.{shown_in}
use Rattle.block.specs.Lines.{Line, lawful_line, all_lawful, lines_of}
use Rattle.block.proofs.Walks.{lines-lawful}

-- of lawful lines a name shows the value of its first line
found-shown : (n : List ℕ) (ls : List Line) → all_lawful ls ≡ true → option_map (λ l. l.value) (find (λ l. bytes_eq l.name n) ls) ≡ shown_in ls n
found-shown n [] h = refl
found-shown n (l ∷ ls) h =
    let good = and_parts (lawful_line l) (all_lawful ls) h in
    rw good.0 (by (bytes_eq l.name n) (found-shown n ls good.1)) where
      by : (t : Bool) → option_map (λ k. k.value) (find (λ k. bytes_eq k.name n) ls) ≡ shown_in ls n → option_map (λ k. k.value) (cond t (Some l) (find (λ k. bytes_eq k.name n) ls)) ≡ cond t (Some l.value) (shown_in ls n)
      by true ih = refl
      by false ih = ih

pub found_is : (s n : List ℕ) (o : Option Line) → o ≡ find (λ l. bytes_eq l.name n) (lines_of s) → option_map (λ l. l.value) o ≡ shown_in (lines_of s) n
found_is s n o e = rw e (found-shown n (lines_of s) (lines-lawful s))
