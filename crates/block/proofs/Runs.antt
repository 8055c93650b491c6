-- The machine's run over a text, against the lines that the text begins with: it accepts exactly the blocks. Assumes nothing.
use Rattle.std.proofs.Common.{◌≡◌, ℕ, zero, suc, ◌+◌, ◌-◌, ◌<◌, ◌≤◌, Bool, true, false, cond, ◌&&◌, eqb, ltb, leb, List, [], ◌∷◌, ◌++◌, length, Some, None, Option, sym, refl, ap, ◌∙◌, arith}
use Rattle.std.proofs.lemmas.Bool.{both_ways, and_right, le-leb}
use Rattle.std.proofs.lemmas.Bool.Decides.{nat_tests}
use Rattle.std.specs.Option.{option_map}
use Rattle.std.specs.Str.{bytes_eq}
use Rattle.byte_classes.specs.Sets.{text, name}
use Rattle.text.specs.Splits.{after, split_once}
use Rattle.text.specs.Takes.{taken_char}
use Rattle.std.specs.List.{list_all}
use Rattle.text.specs.Texts.{lawful}
use Rattle.carrier.specs.Names.{is_name}
use Rattle.block.specs.Laws.{MachineAccepts}
use Rattle.block.specs.Lines.{Line, line, line_text, block_text, bind, taken_line, lines_of, well_formed}
use Rattle.block.specs.Machine.{step, run, start, accepts}
use Rattle.block.specs.declared.machine.State.{State}
use Rattle.block.specs.declared.machine.State.TheVariants.{Name, Blank, Value, LineEnd}
use Rattle.block.proofs.Folding.{steps_over}
use Rattle.block.proofs.Taking.{line_is, no_colon, no_return}
use Rattle.block.proofs.Walks.{none_taken, lines_none, lines_more, taken_shorter}

-- whether the machine accepts the text from the state on
abbrev acc : State → List ℕ → Bool
acc q s = accepts (run q s)

-- the run is a step at each byte until one fails
pub run_is : (q : State) (s : List ℕ) → steps_over step q s ≡ run q s
run_is q [] = refl
run_is q (b ∷ bs) = by (step q b) (λ next. run_is next bs) where
  by : (o : Option State) → ((next : State) → steps_over step next bs ≡ run next bs) → bind o (λ next. steps_over step next bs) ≡ bind o (λ next. run next bs)
  by None same = refl
  by (Some next) same = same next

abbrev Parts : Type 0
Parts = Option (List ℕ × List ℕ)

-- at most m bytes that pass the test p, in front of what G accepts
abbrev counts : (ℕ → Bool) → ℕ → (List ℕ → Bool) → Parts → Bool
counts p m G None = false
counts p m G (Some q) = (list_all p q.0 && leb (length q.0) m) && G q.1

-- A state that counts bytes that pass the test p, at most m of them, until the byte c comes. From n counted bytes on the machine accepts
-- what F says, and after c what G says.
module _ (p : ℕ → Bool) (c m : ℕ) (F : ℕ → List ℕ → Bool) (G : List ℕ → Bool)
    (ends : (n : ℕ) → F n [] ≡ false)
    (steps : (n b : ℕ) (bs : List ℕ) → F n (b ∷ bs) ≡ cond (p b && ltb n m) (F (n + 1) bs) (cond (eqb b c) (G bs) false))
    (apart : (b : ℕ) → p b ≡ true → eqb b c ≡ false)
  where
    abbrev left : ℕ → Parts → Bool
    left n o = counts p (m - n) G o

    fits_more : (n k : ℕ) → n < m → leb k (m - (n + 1)) ≡ leb (suc k) (m - n)
    fits_more n k h = grind (arith, nat_tests)

    fits_none : (n k : ℕ) → m ≤ n → leb (suc k) (m - n) ≡ false
    fits_none n k h = grind (arith, nat_tests)

    refused : (n b : ℕ) (o : Parts) → p b ≡ false → false ≡ left n (option_map (after b) o)
    refused n b None e = refl
    refused n b (Some q) e = rw e

    full : (n b : ℕ) (o : Parts) → m ≤ n → false ≡ left n (option_map (after b) o)
    full n b None h = refl
    full n b (Some q) h = rw (fits_none n (length q.0) h, and_right (p b && list_all p q.0) false refl)

    more : (n b : ℕ) (o : Parts) → p b ≡ true → n < m → left (n + 1) o ≡ left n (option_map (after b) o)
    more n b None e h = refl
    more n b (Some q) e h = rw (e, fits_more n (length q.0) h)

    -- one byte; t is whether it passes, r whether it is c
    one : (t r : Bool) (n b : ℕ) (bs : List ℕ) (o : Parts) → p b ≡ t → eqb b c ≡ r → F (n + 1) bs ≡ left (n + 1) o
        → cond (t && ltb n m) (F (n + 1) bs) (cond r (G bs) false) ≡ left n (cond r (Some ([], bs)) (option_map (after b) o))
    one true true n b bs o e f ih = absurd (both_ways (eqb b c) (apart b e) f)
    one true false n b bs o e f ih = by (ltb n m) refl where
      by : (k : Bool) → ltb n m ≡ k → cond k (F (n + 1) bs) false ≡ left n (option_map (after b) o)
      by true g = ih ∙ more n b o e (grind (arith, nat_tests))
      by false g = full n b o (grind (arith, nat_tests))
    one false true n b bs o e f ih = let none : leb 0 (m - n) ≡ true = grind (arith, nat_tests) in rw none
    one false false n b bs o e f ih = refused n b o e

    counted : (n : ℕ) (s : List ℕ) → F n s ≡ counts p (m - n) G (split_once c s)
    unfolding split_once
    counted n [] = ends n
    counted n (b ∷ bs) = steps n b bs ∙ one (p b) (eqb b c) n b bs (split_once c bs) refl refl (counted (n + 1) bs)

-- a step to one of two states, or to none
two_ways : (t r : Bool) (q p : State) (bs : List ℕ) → accepts (bind (cond t (Some q) (cond r (Some p) None)) (λ next. run next bs)) ≡ cond t (acc q bs) (cond r (acc p bs) false)
two_ways true r q p bs = refl
two_ways false true q p bs = refl
two_ways false false q p bs = refl

value-counts : (s : List ℕ) → acc (Value 0) s ≡ counts text 16384 (acc LineEnd) (split_once 0x0D s)
value-counts s = counted text 0x0D 16384 (λ n s. acc (Value n) s) (acc LineEnd) (λ n. refl) (λ n b bs. two_ways (text b && ltb n 16384) (eqb b 0x0D) (Value (n + 1)) LineEnd bs) no_return 0 s

-- a name that has begun
name-step : (n b : ℕ) (bs : List ℕ) → acc (Name (n + 1)) (b ∷ bs) ≡ cond (name b && ltb n 63) (acc (Name (n + 1 + 1)) bs) (cond (eqb b 0x3A) (acc Blank bs) false)
name-step n b bs =
    let limit : ltb (n + 1) 64 ≡ ltb n 63 = grind (arith, nat_tests) in
    let begun : ltb 0 (n + 1) ≡ true = grind (arith, nat_tests) in
    two_ways (name b && ltb (n + 1) 64) (eqb b 0x3A && ltb 0 (n + 1)) (Name (n + 1 + 1)) Blank bs ∙ rw (limit, begun) (by (eqb b 0x3A)) where
      by : (t : Bool) → cond (name b && ltb n 63) (acc (Name (n + 1 + 1)) bs) (cond (t && true) (acc Blank bs) false) ≡ cond (name b && ltb n 63) (acc (Name (n + 1 + 1)) bs) (cond t (acc Blank bs) false)
      by true = refl
      by false = refl

name-counts : (s : List ℕ) → acc (Name 1) s ≡ counts name 63 (acc Blank) (split_once 0x3A s)
name-counts s = counted name 0x3A 63 (λ n s. acc (Name (n + 1)) s) (acc Blank) (λ n. grind (arith, nat_tests)) name-step no_colon 0 s

-- whether the machine accepts what a chain of takers leaves
abbrev goes : Option (Line × List ℕ) → Bool
goes None = false
goes (Some p) = acc start p.1

-- the parts of that chain: the line's end, its value, the space
abbrev ended : Line → List ℕ → Option (Line × List ℕ)
ended l t = bind (taken_char 0x0A t) (λ rest. Some (l, rest))

abbrev valued : List ℕ → List ℕ → Option (Line × List ℕ)
valued n t = bind (split_once 0x0D t) (λ b. cond (lawful b.0) (ended (line n b.0) b.1) None)

abbrev spaced : List ℕ → List ℕ → Option (Line × List ℕ)
spaced n t = bind (taken_char 0x20 t) (valued n)

end_goes : (l : Line) (t : List ℕ) → acc LineEnd t ≡ goes (ended l t)
end_goes l [] = refl
end_goes l (b ∷ bs) = by (eqb b 0x0A) where
  by : (t : Bool) → accepts (bind (cond t (Some start) None) (λ next. run next bs)) ≡ goes (bind (cond t (Some bs) None) (λ rest. Some (l, rest)))
  by true = refl
  by false = refl

gated : (a b x : Bool) (o : Option (Line × List ℕ)) → x ≡ goes o → ((a && b) && x) ≡ goes (cond (b && a) o None)
gated true true x o e = e
gated true false x o e = refl
gated false true x o e = refl
gated false false x o e = refl

value-goes : (n t : List ℕ) → acc (Value 0) t ≡ goes (valued n t)
unfolding lawful
value-goes n t = value-counts t ∙ by (split_once 0x0D t) where
  by : (o : Parts) → counts text 16384 (acc LineEnd) o ≡ goes (bind o (λ b. cond (lawful b.0) (ended (line n b.0) b.1) None))
  by None = refl
  by (Some q) = gated (list_all text q.0) (leb (length q.0) 16384) (acc LineEnd q.1) (ended (line n q.0) q.1) (end_goes (line n q.0) q.1)

blank-goes : (n t : List ℕ) → acc Blank t ≡ goes (spaced n t)
blank-goes n [] = refl
blank-goes n (b ∷ bs) = by (eqb b 0x20) where
  by : (t : Bool) → accepts (bind (cond t (Some (Value 0)) None) (λ next. run next bs)) ≡ goes (bind (cond t (Some bs) None) (valued n))
  by true = value-goes n bs
  by false = refl

begun_name : (b : ℕ) (k : List ℕ) → name b ≡ true → is_name (b ∷ k) ≡ (leb (length k) 63 && list_all name k)
unfolding is_name
begun_name b k e =
    let some : ltb 0 (suc (length k)) ≡ true = grind (arith, nat_tests) in
    let limit : leb (suc (length k)) 64 ≡ leb (length k) 63 = grind (arith, nat_tests) in
    rw (some, limit, e)

no_name : (b : ℕ) (k : List ℕ) → name b ≡ false → is_name (b ∷ k) ≡ false
unfolding is_name
no_name b k e = rw e (and_right (ltb 0 (suc (length k))) _ (and_right (leb (suc (length k)) 64) false refl))

abbrev named : Parts → Option (Line × List ℕ)
named o = bind o (λ a. cond (is_name a.0) (spaced a.0 a.1) None)

name-goes : (b : ℕ) (o : Parts) → name b ≡ true → counts name 63 (acc Blank) o ≡ goes (named (option_map (after b) o))
name-goes b None e = refl
name-goes b (Some q) e =
    gated (list_all name q.0) (leb (length q.0) 63) (acc Blank q.1) (spaced (b ∷ q.0) q.1) (blank-goes (b ∷ q.0) q.1)
    ∙ ap (λ t. goes (cond t (spaced (b ∷ q.0) q.1) None)) (sym (begun_name b q.0 e))

name_stops : (b : ℕ) (o : Parts) → name b ≡ false → false ≡ goes (named (option_map (after b) o))
name_stops b None e = refl
name_stops b (Some q) e = ap (λ t. goes (cond t (spaced (b ∷ q.0) q.1) None)) (sym (no_name b q.0 e))

-- at a line's begin the machine accepts what it accepts after that line, and nothing where there is no line
begin_goes : (b : ℕ) (bs : List ℕ) → acc start (b ∷ bs) ≡ goes (taken_line (b ∷ bs))
unfolding split_once is_name
begin_goes b bs = two_ways (name b && true) (eqb b 0x3A && false) (Name 1) Blank bs ∙ by (name b) (eqb b 0x3A) refl refl where
  by : (t r : Bool) → name b ≡ t → eqb b 0x3A ≡ r
      → cond (t && true) (acc (Name 1) bs) (cond (r && false) (acc Blank bs) false) ≡ goes (named (cond r (Some ([], bs)) (option_map (after b) (split_once 0x3A bs))))
  by true true e f = absurd (both_ways (eqb b 0x3A) (no_colon b e) f)
  by true false e f = name-counts bs ∙ name-goes b (split_once 0x3A bs) e
  by false true e f = refl
  by false false e f = name_stops b (split_once 0x3A bs) e

same-front : (a x y : List ℕ) → bytes_eq (a ++ x) (a ++ y) ≡ bytes_eq x y
same-front [] x y = refl
same-front (b ∷ bs) x y = let e : eqb b b ≡ true = grind (arith, nat_tests) in rw e (same-front bs x y)

nothing_left : (s : List ℕ) → taken_line s ≡ None → acc start s ≡ bytes_eq (block_text (lines_of s)) s
nothing_left [] e = sym (ap (λ ls. bytes_eq (block_text ls) []) (lines_none [] e))
nothing_left (b ∷ bs) e = begin_goes b bs ∙ ap goes e ∙ sym (ap (λ ls. bytes_eq (block_text ls) (b ∷ bs)) (lines_none (b ∷ bs) e))

line-goes : (s : List ℕ) (l : Line) (rest : List ℕ) → taken_line s ≡ Some (l, rest) → acc start s ≡ acc start rest
line-goes [] l rest e = absurd (let less = taken_shorter [] l rest e in omega arith)
line-goes (b ∷ bs) l rest e = begin_goes b bs ∙ ap goes e

accepted-within : (n : ℕ) (s : List ℕ) → length s ≤ n → acc start s ≡ bytes_eq (block_text (lines_of s)) s
accepted-within zero [] h = nothing_left [] none_taken
accepted-within zero (b ∷ bs) h = absurd (omega arith)
accepted-within (suc n) s h = by (taken_line s) refl (accepted-within n) where
  by : (o : Option (Line × List ℕ)) → taken_line s ≡ o → ((r : List ℕ) → length r ≤ n → acc start r ≡ bytes_eq (block_text (lines_of r)) r) → acc start s ≡ bytes_eq (block_text (lines_of s)) s
  by None e ih = nothing_left s e
  by (Some p) e ih =
      let less = taken_shorter s p.0 p.1 e in
      line-goes s p.0 p.1 e ∙ ih p.1 (omega arith) ∙ sym (same-front (line_text p.0) (block_text (lines_of p.1)) p.1)
      ∙ sym (λ i. bytes_eq (block_text (lines_more s p.0 p.1 e i)) ((line_is s p.0 p.1 e).whole i))

-- the machine accepts exactly the texts that their lines make up
pub accepted_is : (s : List ℕ) → accepts (run start s) ≡ bytes_eq (block_text (lines_of s)) s
accepted_is s = accepted-within (length s) s (omega arith)

pub machine_accepts : MachineAccepts
unfolding well_formed
machine_accepts s h = accepted_is s ∙ sym (ap (λ t. bytes_eq (block_text (lines_of s)) s && t) (le-leb (length s) 65536 h) ∙ and_true (bytes_eq (block_text (lines_of s)) s)) where
  and_true : (t : Bool) → (t && true) ≡ t
  and_true true = refl
  and_true false = refl
