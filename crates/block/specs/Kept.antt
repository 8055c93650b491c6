-- The laws of a block of lines: what is shown of it after a line is put or lines are cut. Assumes nothing.
use Rattle.std.specs.Prelude.{◌≡◌, ℕ, ◌≤◌, Bool, true, false, cond, not, ◌&&◌, List, [], ◌∷◌, ◌++◌, length, Some, None, ◌≢◌, nat_le, refl}
use Rattle.std.proofs.Common.{sym, ap, ◌∙◌, append-nil}
use Rattle.std.proofs.lemmas.Slice.Eq.{bytes_eq-Decides}
use Rattle.std.proofs.lemmas.Bool.{and_parts, and_from, and_right, leb-true, cond-true}
use Rattle.std.specs.Str.{bytes_eq}
use Rattle.text.specs.Texts.{lawful}
use Rattle.carrier.specs.Kinds.{Lawful}
use Rattle.carrier.specs.Names.{is_name}
use Rattle.block.specs.Blocks.{Block, shown_in, without, room_in, put_in, cut_in}
use Rattle.block.specs.Lines.{Line, line, lawful_line}

pub same_apart : (a m n : List ℕ) → (m ≢ n) → bytes_eq a n ≡ true → bytes_eq a m ≡ false
same_apart a m n ne e = by (bytes_eq a m) refl where
  by : (t : Bool) → bytes_eq a m ≡ t → t ≡ false
  by true f = absurd (ne (sym ((bytes_eq-Decides a m).0 f) ∙ (bytes_eq-Decides a n).0 e))
  by false f = refl

-- lines of another name are passed over
unnamed : (l : Line) (ls : List Line) (n : List ℕ) → bytes_eq l.name n ≡ false → shown_in (l ∷ ls) n ≡ shown_in ls n
unnamed l ls n e = rw (and_right (lawful_line l) (bytes_eq l.name n) e)

-- of the lines without the name and what follows them, the name shows what follows
pub without_shows : (n : List ℕ) (ls more : List Line) → shown_in (without n ls ++ more) n ≡ shown_in more n
without_shows n [] more = refl
without_shows n (l ∷ ls) more = by (bytes_eq l.name n) refl (without_shows n ls more) where
  by : (t : Bool) → bytes_eq l.name n ≡ t → shown_in (without n ls ++ more) n ≡ shown_in more n → shown_in (cond (not t) (l ∷ without n ls) (without n ls) ++ more) n ≡ shown_in more n
  by true e ih = ih
  by false e ih = unnamed l (without n ls ++ more) n e ∙ ih

-- another name shows what it showed, if nothing that follows has it
pub without_keeps : (n m : List ℕ) (ls more : List Line) → (m ≢ n) → shown_in more m ≡ None → shown_in (without n ls ++ more) m ≡ shown_in ls m
without_keeps n m [] more ne none = none
without_keeps n m (l ∷ ls) more ne none = by (bytes_eq l.name n) refl (without_keeps n m ls more ne none) where
  by : (t : Bool) → bytes_eq l.name n ≡ t → shown_in (without n ls ++ more) m ≡ shown_in ls m → shown_in (cond (not t) (l ∷ without n ls) (without n ls) ++ more) m ≡ shown_in (l ∷ ls) m
  by true e ih = ih ∙ sym (unnamed l ls m (same_apart l.name m n ne e))
  by false e ih = ap (λ o. cond (lawful_line l && bytes_eq l.name m) (Some l.value) o) ih

pub room_name : (h : Block) (n : List ℕ) (len : ℕ) → room_in h n len ≡ true → is_name n ≡ true
room_name h n len e = (and_parts (is_name n) _ e).0

pub room_length : (h : Block) (n : List ℕ) (len : ℕ) → room_in h n len ≡ true → len ≤ 16384
room_length h n len e = leb-true len 16384 (and_parts (nat_le len 16384) _ (and_parts (is_name n) _ e).1).0

pub put_shows : (h : Block) (n v : List ℕ) → lawful v ≡ true → room_in h n (length v) ≡ true → shown_in (put_in h n v).lines n ≡ Some v
unfolding lawful_line
put_shows h n v good e =
    without_shows n h.lines (line n v ∷ [])
    ∙ cond-true (lawful_line (line n v) && bytes_eq n n) (Some v) None (and_from (lawful_line (line n v)) (bytes_eq n n) (and_from (is_name n) (lawful v) (room_name h n (length v) e) good) ((bytes_eq-Decides n n).1 refl))

pub put_keeps : (h : Block) (n v m : List ℕ) → lawful v ≡ true → room_in h n (length v) ≡ true → (m ≢ n) → shown_in (put_in h n v).lines m ≡ shown_in h.lines m
put_keeps h n v m good e ne = without_keeps n m h.lines (line n v ∷ []) ne (unnamed (line n v) [] m (same_apart n m n ne ((bytes_eq-Decides n n).1 refl)))

pub cut_shows : (h : Block) (n : List ℕ) → shown_in (cut_in h n).lines n ≡ None
cut_shows h n = ap (λ ls. shown_in ls n) (sym (append-nil (without n h.lines))) ∙ without_shows n h.lines []

pub cut_keeps : (h : Block) (n m : List ℕ) → (m ≢ n) → shown_in (cut_in h n).lines m ≡ shown_in h.lines m
cut_keeps h n m ne = ap (λ ls. shown_in ls m) (sym (append-nil (without n h.lines))) ∙ without_keeps n m h.lines [] ne refl

shown_in_lawful : (ls : List Line) (n v : List ℕ) → shown_in ls n ≡ Some v → Lawful n v
unfolding lawful_line
shown_in_lawful [] n v e = absurd (cc)
shown_in_lawful (l ∷ ls) n v e = by (lawful_line l && bytes_eq l.name n) refl e (shown_in_lawful ls n v) where
  by : (t : Bool) → (lawful_line l && bytes_eq l.name n) ≡ t → cond t (Some l.value) (shown_in ls n) ≡ Some v → (shown_in ls n ≡ Some v → Lawful n v) → Lawful n v
  by true f g ih =
      let parts = and_parts (lawful_line l) (bytes_eq l.name n) f in
      let good = and_parts (is_name l.name) (lawful l.value) parts.0 in
      let same : l.value ≡ v = cc in
      record { name = ap is_name (sym ((bytes_eq-Decides l.name n).0 parts.1)) ∙ good.0; value = ap lawful (sym same) ∙ good.1 }
  by false f g ih = ih g

pub shown_lawful : (h : Block) (n v : List ℕ) → shown_in h.lines n ≡ Some v → Lawful n v
shown_lawful h n v e = shown_in_lawful h.lines n v e
