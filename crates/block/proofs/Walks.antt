-- Lines are taken one after the other until there is none; the text of lines reads as those lines. Assumes nothing.
use Rattle.std.proofs.Common.{◌≡◌, ℕ, zero, suc, ◌+◌, ◌<◌, ◌≤◌, true, leb, List, [], ◌∷◌, ◌++◌, length, Some, None, Option, sym, refl, ap, ◌∙◌, append_assoc, append-nil, arith, length-append}
use Rattle.std.proofs.lemmas.Slice.Eq.{bytes_eq-Decides}
use Rattle.std.proofs.lemmas.Bool.{and_parts, and_from, le-leb, leb-true}
use Rattle.std.specs.Str.{bytes_eq}
use Rattle.text.specs.Splits.{split_once}
use Rattle.block.specs.Laws.{Front, LinesAre, LinesOnly, WellFormedIs, WellFormedOnly}
use Rattle.block.specs.Lines.{Line, lawful_line, all_lawful, line_text, block_text, taken_line, first_then, lines_up_to, lines_of, well_formed}
use Rattle.block.proofs.Taking.{line_is, line-found, line-length}

abbrev Taken : Type 0
Taken = Option (Line × List ℕ)

pub none_taken : taken_line [] ≡ None
unfolding split_once
none_taken = refl

none_in_nothing : (s : List ℕ) → length s ≤ 0 → taken_line s ≡ None
none_in_nothing [] h = none_taken
none_in_nothing (b ∷ bs) h = absurd (omega arith)

pub taken-length : (s : List ℕ) (l : Line) (rest : List ℕ) → taken_line s ≡ Some (l, rest) → length s ≡ length (line_text l) + length rest
taken-length s l rest e = ap length (line_is s l rest e).whole ∙ length-append (line_text l) rest

pub taken_shorter : (s : List ℕ) (l : Line) (rest : List ℕ) → taken_line s ≡ Some (l, rest) → length rest < length s
taken_shorter s l rest e = omega (arith, taken-length s l rest e, line-length l)

-- a bound on the number of lines that is not too small does not matter
enough : (n m : ℕ) (s : List ℕ) → length s ≤ n → length s ≤ m → lines_up_to n s ≡ lines_up_to m s
enough zero zero s a b = refl
enough zero (suc m) s a b = sym (ap (λ o. first_then o (lines_up_to m)) (none_in_nothing s a))
enough (suc n) zero s a b = ap (λ o. first_then o (lines_up_to n)) (none_in_nothing s b)
enough (suc n) (suc m) s a b = by (taken_line s) refl (enough n m) where
  by : (o : Taken) → taken_line s ≡ o → ((r : List ℕ) → length r ≤ n → length r ≤ m → lines_up_to n r ≡ lines_up_to m r) → first_then o (lines_up_to n) ≡ first_then o (lines_up_to m)
  by None e ih = refl
  by (Some p) e ih = let less = taken_shorter s p.0 p.1 e in ap (λ ls. p.0 ∷ ls) (ih p.1 (omega arith) (omega arith))

pub lines_none : (s : List ℕ) → taken_line s ≡ None → lines_of s ≡ []
unfolding lines_of
lines_none [] e = refl
lines_none (b ∷ bs) e = ap (λ o. first_then o (lines_up_to (length bs))) e

pub lines_more : (s : List ℕ) (l : Line) (rest : List ℕ) → taken_line s ≡ Some (l, rest) → lines_of s ≡ l ∷ lines_of rest
unfolding lines_of
lines_more [] l rest e = absurd (let less = taken_shorter [] l rest e in omega arith)
lines_more (b ∷ bs) l rest e =
    let less = taken_shorter (b ∷ bs) l rest e in
    ap (λ o. first_then o (lines_up_to (length bs))) e ∙ ap (λ ls. l ∷ ls) (enough (length bs) (length rest) rest (omega arith) (omega arith))

-- lawful lines in front of a text are its first lines
pub lines-front : (ls : List Line) (t : List ℕ) → all_lawful ls ≡ true → lines_of (block_text ls ++ t) ≡ ls ++ lines_of t
lines-front [] t h = refl
lines-front (l ∷ ls) t h =
    let good = and_parts (lawful_line l) (all_lawful ls) h in
    ap lines_of (append_assoc (line_text l) (block_text ls) t)
    ∙ lines_more _ l (block_text ls ++ t) (line-found l (block_text ls ++ t) good.0) ∙ ap (λ k. l ∷ k) (lines-front ls t good.1)

pub lines_of-text : (ls : List Line) → all_lawful ls ≡ true → lines_of (block_text ls) ≡ ls
lines_of-text ls h = ap lines_of (sym (append-nil (block_text ls))) ∙ lines-front ls [] h ∙ ap (λ k. ls ++ k) (lines_none [] none_taken) ∙ append-nil ls

fronts : (n : ℕ) (s : List ℕ) → length s ≤ n → Front s (lines_of s)
fronts zero s h = let e = none_in_nothing s h in record { rest = s; whole = ap (λ ls. block_text ls ++ s) (sym (lines_none s e)); are_lawful = ap all_lawful (lines_none s e); no_more = e }
fronts (suc n) s h = by (taken_line s) refl (fronts n) where
  by : (o : Taken) → taken_line s ≡ o → ((r : List ℕ) → length r ≤ n → Front r (lines_of r)) → Front s (lines_of s)
  by None e ih = record { rest = s; whole = ap (λ ls. block_text ls ++ s) (sym (lines_none s e)); are_lawful = ap all_lawful (lines_none s e); no_more = e }
  by (Some p) e ih =
      let less = taken_shorter s p.0 p.1 e in
      let here = line_is s p.0 p.1 e in
      let more = lines_more s p.0 p.1 e in
      let back = ih p.1 (omega arith) in
      record {
        rest = back.rest;
        whole = here.whole ∙ ap (λ r. line_text p.0 ++ r) back.whole ∙ sym (append_assoc (line_text p.0) (block_text (lines_of p.1)) back.rest) ∙ ap (λ ls. block_text ls ++ back.rest) (sym more);
        are_lawful = ap all_lawful more ∙ and_from (lawful_line p.0) (all_lawful (lines_of p.1)) here.is_lawful back.are_lawful;
        no_more = back.no_more;
      }

pub lines_are : LinesAre
lines_are s = fronts (length s) s (omega arith)

pub lines_only : LinesOnly
lines_only s ls h = ap lines_of h.whole ∙ lines-front ls h.rest h.are_lawful ∙ ap (λ k. ls ++ k) (lines_none h.rest h.no_more) ∙ append-nil ls

pub lines-lawful : (s : List ℕ) → all_lawful (lines_of s) ≡ true
lines-lawful s = (lines_are s).are_lawful

pub well_formed_is : WellFormedIs
unfolding well_formed
well_formed_is s e =
    let parts = and_parts (bytes_eq (block_text (lines_of s)) s) (leb (length s) 65536) e in
    record { whole = sym ((bytes_eq-Decides (block_text (lines_of s)) s).0 parts.0); are_lawful = lines-lawful s; small = leb-true (length s) 65536 parts.1 }

pub well_formed_only : WellFormedOnly
unfolding well_formed
well_formed_only s ls h =
    let lines : lines_of s ≡ ls = ap lines_of h.whole ∙ lines_of-text ls h.are_lawful in
    (and_from (bytes_eq (block_text (lines_of s)) s) (leb (length s) 65536) ((bytes_eq-Decides (block_text (lines_of s)) s).1 (ap block_text lines ∙ sym h.whole)) (le-leb (length s) 65536 h.small), lines)
