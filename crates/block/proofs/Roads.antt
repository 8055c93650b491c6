-- The lines of a text as an iterator gives them. Assumes nothing.
use Rattle.std.proofs.Common.{◌≡◌, ℕ, ◌≤◌, List, [], ◌∷◌, length, take, sum_by, refl, sym, ap, ◌∙◌, arith, length-append, Bor}
use Rattle.std.proofs.lemmas.List.{take_at}
use Rattle.std.proofs.lemmas.List.Concat.{length-flat_map}
use Rattle.std.proofs.lemmas.Iterator.{YieldsList}
use Rattle.std.proofs.lemmas.Iterator.Consumers.{YieldsList-from_first}
use Rattle.std.specs.Iterator.{YieldsFirstBy}
use Rattle.block.specs.Lines.{Line, line, line_text, block_text, lines_of}
use Rattle.block.specs.declared.line.Lines.{Lines}
use Rattle.block.specs.declared.line.TakenLine.{TakenLine}
use Rattle.block.proofs.Taking.{line-length}
use Rattle.block.proofs.Walks.{lines_are}

abbrev pub line_by : TakenLine → Line
line_by t = line t.name.now t.value.now

abbrev pub lines_left : Lines → List Line
lines_left s = lines_of s.0.now

pub lines_road : (text : Bor (List ℕ)) → YieldsList (YieldsFirstBy line_by lines_left) line_by (record { 0 = text }) (lines_of text.now)
lines_road text = YieldsList-from_first line_by lines_left (lines_of text.now) refl

-- no more lines than bytes
few : (ls : List Line) → length ls ≤ length (block_text ls)
few [] = omega arith
few (l ∷ ls) = omega (arith, few ls, line-length l, length-append (line_text l) (block_text ls))

pub lines-few : (s : List ℕ) → length (lines_of s) ≤ length s
lines-few s = let f = lines_are s in omega (arith, few (lines_of s), ap length f.whole, length-append (block_text (lines_of s)) f.rest)

-- how many bytes lines have
abbrev pub text_len : Line → ℕ
text_len l = length (line_text l)

pub text-sum : (ls : List Line) → sum_by text_len ls ≡ length (block_text ls)
text-sum ls = sym (length-flat_map line_text ls)

pub text-within : (s : List ℕ) → length (block_text (lines_of s)) ≤ length s
text-within s = let f = lines_are s in omega (arith, ap length f.whole, length-append (block_text (lines_of s)) f.rest)

pub text-front : (s : List ℕ) (n : ℕ) → n ≡ length (block_text (lines_of s)) → take n s ≡ block_text (lines_of s)
text-front s n e = let f = lines_are s in ap (take n) f.whole ∙ take_at (block_text (lines_of s)) f.rest n (sym e)
