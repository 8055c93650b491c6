-- A line and its text: a text begins with a line exactly where the line is taken from it. Assumes nothing.
use Rattle.std.proofs.Common.{◌≡◌, ℕ, ◌+◌, ◌≤◌, Bool, true, false, cond, not, eqb, ltb, leb, List, [], ◌∷◌, ◌++◌, length, Some, None, Option, sym, refl, ap, ◌∙◌, append_assoc, arith, length-append}
use Rattle.std.proofs.lemmas.Bool.{and_parts, and_from, eqb-true, leb-true}
use Rattle.std.proofs.lemmas.Bool.Decides.{nat_tests}
use Rattle.byte_classes.specs.Sets.{text, name}
use Rattle.text.specs.Laws.{Lacks}
use Rattle.text.specs.Splits.{other, split_once}
use Rattle.text.specs.Takes.{taken_char}
use Rattle.std.specs.List.{list_all}
use Rattle.text.specs.Texts.{lawful}
use Rattle.text.proofs.Splitting.{split_found, split_parts}
use Rattle.carrier.specs.Names.{is_name}
use Rattle.block.specs.Laws.{LineIs, LineOnly}
use Rattle.block.specs.Lines.{Line, line, lawful_line, line_text, bind, taken_line}

-- what a chain of takers went through
pub bind-some : {X Y : Type 0} (o : Option X) (f : X → Option Y) (y : Y) → bind o f ≡ Some y → (x : X) × (o ≡ Some x) × (f x ≡ Some y)
bind-some None f y e = absurd (cc)
bind-some (Some x) f y e = (x, refl, e)

pub cond-some : {Y : Type 0} (t : Bool) (o : Option Y) (y : Y) → cond t o None ≡ Some y → (t ≡ true) × (o ≡ Some y)
cond-some true o y e = (refl, e)
cond-some false o y e = absurd (cc)

pub some_same : {X : Type 0} (x y : X) → Some x ≡ Some y → x ≡ y
some_same x y e = cc

char_taken : (c : ℕ) (s rest : List ℕ) → taken_char c s ≡ Some rest → s ≡ c ∷ rest
char_taken c [] rest e = absurd (cc)
char_taken c (b ∷ bs) rest e = let h = cond-some (eqb b c) (Some bs) rest e in let same = eqb-true b c h.0 in cc

-- the text of a line with its ends apart
spread : (n v rest : List ℕ) → line_text (line n v) ++ rest ≡ n ++ 0x3A ∷ 0x20 ∷ (v ++ 0x0D ∷ 0x0A ∷ rest)
unfolding line_text
spread n v rest = append_assoc n (0x3A ∷ 0x20 ∷ (v ++ (0x0D ∷ 0x0A ∷ []))) rest ∙ ap (λ t. n ++ 0x3A ∷ 0x20 ∷ t) (append_assoc v (0x0D ∷ 0x0A ∷ []) rest)

pub line_is : LineIs
unfolding lawful_line
line_is s l rest e =
    let a = bind-some (split_once 0x3A s) _ (l, rest) e in
    let b = cond-some (is_name a.0.0) _ (l, rest) a.2 in
    let c = bind-some (taken_char 0x20 a.0.1) _ (l, rest) b.1 in
    let d = bind-some (split_once 0x0D c.0) _ (l, rest) c.2 in
    let g = cond-some (lawful d.0.0) _ (l, rest) d.2 in
    let h = bind-some (taken_char 0x0A d.0.1) _ (l, rest) g.1 in
    let n = a.0.0 in
    let v = d.0.0 in
    let same = some_same (line n v, h.0) (l, rest) h.2 in
    let is-line : line n v ≡ l = ap (λ p. p.0) same in
    let is-rest : h.0 ≡ rest = ap (λ p. p.1) same in
    let whole : s ≡ n ++ 0x3A ∷ 0x20 ∷ (v ++ 0x0D ∷ 0x0A ∷ rest) =
    (split_parts 0x3A s n a.0.1 a.1).0
    ∙ ap (λ t. n ++ 0x3A ∷ t) (char_taken 0x20 a.0.1 c.0 c.1)
    ∙ ap (λ t. n ++ 0x3A ∷ 0x20 ∷ t) ((split_parts 0x0D c.0 v d.0.1 d.1).0 ∙ ap (λ t. v ++ 0x0D ∷ t) (char_taken 0x0A d.0.1 h.0 h.1 ∙ ap (λ t. 0x0A ∷ t) is-rest)) in
    record {
      whole = whole ∙ sym (spread n v rest) ∙ ap (λ k. line_text k ++ rest) is-line;
      is_lawful = ap lawful_line (sym is-line) ∙ and_from (is_name n) (lawful v) b.0 g.0;
    }

-- a test that follows from another at each byte
all_weaker : (p q : ℕ → Bool) → ((b : ℕ) → p b ≡ true → q b ≡ true) → (s : List ℕ) → list_all p s ≡ true → list_all q s ≡ true
all_weaker p q h [] e = refl
all_weaker p q h (b ∷ bs) e = let parts = and_parts (p b) (list_all p bs) e in and_from (q b) (list_all q bs) (h b parts.0) (all_weaker p q h bs parts.1)

-- no name byte is a colon, and no byte of lawful text a CR
pub no_colon : (b : ℕ) → name b ≡ true → eqb b 0x3A ≡ false
unfolding name
no_colon b e = grind (arith, nat_tests)

pub no_return : (b : ℕ) → text b ≡ true → eqb b 0x0D ≡ false
unfolding text
no_return b e = grind (arith, nat_tests)

pub name-bytes : (n : List ℕ) → is_name n ≡ true → list_all name n ≡ true
unfolding is_name
name-bytes n e = (and_parts (leb (length n) 64) (list_all name n) (and_parts (ltb 0 (length n)) _ e).1).1

pub text-bytes : (v : List ℕ) → lawful v ≡ true → list_all text v ≡ true
unfolding lawful
text-bytes v e = (and_parts (leb (length v) 16384) (list_all text v) e).1

pub line-found : (l : Line) (rest : List ℕ) → lawful_line l ≡ true → taken_line (line_text l ++ rest) ≡ Some (l, rest)
unfolding lawful_line
line-found l rest h =
    let n = l.name in
    let v = l.value in
    let good = and_parts (is_name n) (lawful v) h in
    let lacks-colon : Lacks 0x3A n = all_weaker name (other 0x3A) (λ b e. ap not (no_colon b e)) n (name-bytes n good.0) in
    let lacks-return : Lacks 0x0D v = all_weaker text (other 0x0D) (λ b e. ap not (no_return b e)) v (text-bytes v good.1) in
    ap taken_line (spread n v rest)
    ∙ rw (split_found 0x3A n (0x20 ∷ (v ++ 0x0D ∷ 0x0A ∷ rest)) lacks-colon, good.0) (rw (split_found 0x0D v (0x0A ∷ rest) lacks-return, good.1))

pub line_only : LineOnly
line_only s l rest h = ap taken_line h.whole ∙ line-found l rest h.is_lawful

pub line-length : (l : Line) → length (line_text l) ≡ length l.name + length l.value + 4
unfolding line_text
line-length l = simp length-append (omega arith)

-- a lawful line is short
pub line-short : (n v : List ℕ) → lawful_line (line n v) ≡ true → (length n ≤ 64) × (length v ≤ 16384)
unfolding lawful_line is_name lawful
line-short n v e =
    let parts = and_parts (is_name n) (lawful v) e in
    (leb-true (length n) 64 (and_parts (leb (length n) 64) _ (and_parts (ltb 0 (length n)) _ parts.0).1).0, leb-true (length v) 16384 (and_parts (leb (length v) 16384) _ parts.1).0)
