-- The names of lawful lines are those that show a value, each once. Assumes nothing.
use Rattle.std.proofs.Common.{◌≡◌, ℕ, ◌+◌, Bool, true, false, cond, not, ◌&&◌, ◌||◌, List, [], ◌∷◌, ◌++◌, length, take, map, filter, is_some, Some, sym, refl, ap, ◌∙◌, append_assoc, arith, length-append}
use Rattle.std.proofs.lemmas.List.{take_at}
use Rattle.std.proofs.lemmas.List.Folds.{list_any-append}
use Rattle.std.specs.List.{enumerate_from}
use Rattle.std.proofs.lemmas.Slice.Eq.{bytes_eq-Decides}
use Rattle.std.proofs.lemmas.Bool.{and_parts, or_right}
use Rattle.std.specs.Str.{bytes_eq}
use Rattle.carrier.specs.Names.{member, distinct, Lists}
use Rattle.block.specs.Blocks.{shown_in, named, new_names, names}
use Rattle.block.specs.Lines.{Line, lawful_line, all_lawful}

-- what is shown has a line
pub shown-named : (ls : List Line) (n : List ℕ) → all_lawful ls ≡ true → is_some (shown_in ls n) ≡ named n ls
shown-named [] n h = refl
shown-named (l ∷ ls) n h =
    let good = and_parts (lawful_line l) (all_lawful ls) h in
    rw good.0 (by (bytes_eq l.name n) (shown-named ls n good.1)) where
      by : (t : Bool) → is_some (shown_in ls n) ≡ named n ls → is_some (cond t (Some l.value) (shown_in ls n)) ≡ (t || named n ls)
      by true ih = refl
      by false ih = ih

-- One line more. same: whether it has the name; old: whether its own name stood before; had: whether the name did; later: whether a later line
-- has it; rest: whether it is new among the later ones.
one_more : (same old had later rest : Bool) → (same ≡ true → had ≡ old) → rest ≡ (not (had || (same || false)) && later) → cond old rest (same || rest) ≡ (not had && (same || later))
one_more true true had later rest e h = let t = e refl in rw t (h ∙ rw t)
one_more true false had later rest e h = let t = e refl in rw t
one_more false true true later rest e h = h
one_more false true false later rest e h = h
one_more false false true later rest e h = h
one_more false false false later rest e h = h

member_more : (old : Bool) (n k : List ℕ) (ks : List (List ℕ)) → member n (cond old ks (k ∷ ks)) ≡ cond old (member n ks) (bytes_eq k n || member n ks)
member_more true n k ks = refl
member_more false n k ks = refl

-- a new name is one that lines have and no line before has
new-member : (n : List ℕ) (before ls : List Line) → member n (new_names before ls) ≡ (not (named n before) && named n ls)
new-member n before [] = by (named n before) where
  by : (t : Bool) → false ≡ (not t && false)
  by true = refl
  by false = refl
new-member n before (l ∷ ls) =
    let now = before ++ l ∷ [] in
    member_more (named l.name before) n l.name (new_names now ls)
    ∙ one_more (bytes_eq l.name n) (named l.name before) (named n before) (named n ls) (member n (new_names now ls))
    (λ e. ap (λ m. named m before) (sym ((bytes_eq-Decides l.name n).0 e)))
    (new-member n now ls ∙ ap (λ b. not b && named n ls) (list_any-append (λ k. bytes_eq k.name n) before (l ∷ [])))

same_itself : (n : List ℕ) → bytes_eq n n ≡ true
same_itself n = (bytes_eq-Decides n n).1 refl

-- the name of a line passed by is new no more
passed-by : (l : Line) (before ls : List Line) → member l.name (new_names (before ++ l ∷ []) ls) ≡ false
passed-by l before ls =
    new-member l.name (before ++ l ∷ []) ls
    ∙ ap (λ b. not b && named l.name ls) (list_any-append (λ k. bytes_eq k.name l.name) before (l ∷ []) ∙ ap (λ b. named l.name before || (b || false)) (same_itself l.name) ∙ or_right (named l.name before) true refl)

new-once : (before ls : List Line) → distinct (new_names before ls) ≡ true
new-once before [] = refl
new-once before (l ∷ ls) = by (named l.name before) (new-once (before ++ l ∷ []) ls) where
  by : (old : Bool) → distinct (new_names (before ++ l ∷ []) ls) ≡ true → distinct (cond old (new_names (before ++ l ∷ []) ls) (l.name ∷ new_names (before ++ l ∷ []) ls)) ≡ true
  by true ih = ih
  by false ih = rw (passed-by l before ls) ih

pub names-list : (ls : List Line) → all_lawful ls ≡ true → Lists (names ls) (shown_in ls)
names-list ls h = record { shown = λ n. new-member n [] ls ∙ sym (shown-named ls n h); once = new-once [] ls }

-- whether no line before the place of this one has its name
abbrev pub is_first : List Line → ℕ × Line → Bool
is_first ls p = not (named p.1.name (take p.0 ls))

abbrev pub name_of : ℕ × Line → List ℕ
name_of p = p.1.name

-- the names in the order of their first lines are those of the lines that are first
new-by_place : (before ls : List Line) → map name_of (filter (is_first (before ++ ls)) (enumerate_from (length before) ls)) ≡ new_names before ls
new-by_place before [] = refl
new-by_place before (l ∷ ls) =
    let here : take (length before) (before ++ l ∷ ls) ≡ before = take_at before (l ∷ ls) (length before) refl in
    let ih = new-by_place (before ++ l ∷ []) ls in
    let len : length (before ++ l ∷ []) ≡ length before + 1 = omega (arith, length-append before (l ∷ [])) in
    let rest = rw (append_assoc, len) at ih in
    rw here (by (named l.name before) rest) where
      by : (old : Bool) → map name_of (filter (is_first (before ++ l ∷ ls)) (enumerate_from (length before + 1) ls)) ≡ new_names (before ++ l ∷ []) ls
          → map name_of (cond (not old) ((length before, l) ∷ filter (is_first (before ++ l ∷ ls)) (enumerate_from (length before + 1) ls)) (filter (is_first (before ++ l ∷ ls)) (enumerate_from (length before + 1) ls)))
          ≡ cond old (new_names (before ++ l ∷ []) ls) (l.name ∷ new_names (before ++ l ∷ []) ls)
      by true e = e
      by false e = ap (λ ns. l.name ∷ ns) e

pub names_by_place : (ls : List Line) → map name_of (filter (is_first ls) (enumerate_from 0 ls)) ≡ names ls
names_by_place ls = new-by_place [] ls
