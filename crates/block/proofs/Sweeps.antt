-- The lines of other names are moved together, line by line. Assumes nothing.
use Rattle.std.proofs.Common.{◌≡◌, ℕ, ◌+◌, ◌-◌, ◌<◌, ◌≤◌, Bool, true, false, cond, not, List, [], ◌∷◌, ◌++◌, length, take, drop, Some, None, sym, refl, ap, ◌∙◌, append_assoc, append-nil, arith, length-append, length-take}
use lib.Seq.{paste}
use Rattle.std.proofs.lemmas.List.Edits.{length-paste, take-paste, drop-paste}
use Rattle.std.proofs.lemmas.List.{take_min, take_at, drop_at, drop-drop, drop-take, length-take-le, length-drop, take-take}
use mathlib.Core.Bool.{not-not}
use Rattle.std.specs.Str.{bytes_eq}
use Rattle.block.specs.Blocks.{without}
use Rattle.block.specs.Lines.{Line, line, line_text, block_text, taken_line, lines_of}
use Rattle.block.proofs.Taking.{line_is, line-length}
use Rattle.block.proofs.Walks.{lines_none, lines_more}

-- the text of the lines of other names
abbrev pub kept_text : List ℕ → List ℕ → List ℕ
kept_text n s = block_text (without n (lines_of s))

-- s begins with a line of len bytes, of which the first k are kept
record Step (n s : List ℕ) (len k : ℕ) : Type 0 where
  pub some : 0 < len
  pub within : len ≤ length s
  pub less : k ≤ len
  pub splits : kept_text n s ≡ take k s ++ kept_text n (drop len s)

module _ (n s : List ℕ) (l : Line) (rest : List ℕ) (e : taken_line s ≡ Some (l, rest)) where
  text_more : (t : Bool) → bytes_eq l.name n ≡ t → kept_text n s ≡ block_text (cond (not t) (l ∷ without n (lines_of rest)) (without n (lines_of rest)))
  text_more t f = ap (λ ls. block_text (without n ls)) (lines_more s l rest e) ∙ ap (λ b. block_text (cond (not b) (l ∷ without n (lines_of rest)) (without n (lines_of rest)))) f

  left : drop (length (line_text l)) s ≡ rest
  left = ap (drop (length (line_text l))) (line_is s l rest e).whole ∙ drop_at (line_text l) rest (length (line_text l)) refl

  whole-line : take (length (line_text l)) s ≡ line_text l
  whole-line = ap (take (length (line_text l))) (line_is s l rest e).whole ∙ take_at (line_text l) rest (length (line_text l)) refl

  line_step : (t : Bool) → bytes_eq l.name n ≡ t → Step n s (length (line_text l)) (cond t 0 (length (line_text l)))
  line_step t f = record {
    some = omega (arith, line-length l);
    within = omega (arith, ap length (line_is s l rest e).whole, length-append (line_text l) rest);
    less = less t;
    splits = text_more t f ∙ splits t;
  } where
    less : (b : Bool) → cond b 0 (length (line_text l)) ≤ length (line_text l)
    less true = omega arith
    less false = omega arith

    splits : (b : Bool) → block_text (cond (not b) (l ∷ without n (lines_of rest)) (without n (lines_of rest))) ≡ take (cond b 0 (length (line_text l))) s ++ kept_text n (drop (length (line_text l)) s)
    splits true = ap (kept_text n) (sym left)
    splits false = sym (λ i. whole-line i ++ kept_text n (left i))

pub none_left : (n s : List ℕ) → None ≡ taken_line s → kept_text n s ≡ []
none_left n s e = ap (λ ls. block_text (without n ls)) (lines_none s (sym e))

-- The lines before place `at` were moved together, those kept into the first `kept` bytes; the memory was `old` at first, and from `at` on it
-- still is.
pub record Swept (n old new : List ℕ) (end at kept : ℕ) : Type 0 where
  pub room : end ≤ length old
  pub within : at ≤ end
  pub less : kept ≤ at
  pub long : length new ≡ length old
  pub rest : drop at new ≡ drop at old
  pub sweeps : take kept new ++ kept_text n (take (end - at) (drop at old)) ≡ kept_text n (take end old)

pub swept_none : (n old s : List ℕ) (len : ℕ) → s ≡ take len old → Swept n old old (length s) 0 0
swept_none n old s len e =
    let end = length s in
    let whole : end - 0 ≡ end = omega arith in
    record { room = omega (arith, ap length e, length-take len old); within = omega arith; less = omega arith; long = refl; rest = refl; sweeps = ap (λ k. kept_text n (take k old)) whole }

-- the next line is that of the name k and the value v
module _ {n old new : List ℕ} {end at kept : ℕ} {k v rest : List ℕ} (h : Swept n old new end at kept) (e : Some (line k v, rest) ≡ taken_line (take (end - at) (drop at new))) where
  abbrev len : ℕ
  len = length (line_text (line k v))

  -- how much of the line is kept, by whether it has the name
  abbrev kept_of : Bool → ℕ
  kept_of t = cond t 0 len

  step : (t : Bool) → bytes_eq k n ≡ t → Step n (take (end - at) (drop at new)) len (kept_of t)
  step t f = line_step n (take (end - at) (drop at new)) (line k v) rest (sym e) t f

  -- it lies before the end
  pub swept_places : (0 < len) × (at + len ≤ end)
  swept_places =
      let st = step (bytes_eq k n) refl in
      let part = length-take-le (end - at) (drop at new) (omega (arith, length-drop at new, h.room, h.long)) in
      (st.some, omega (arith, st.within, part, h.within))

  swept_on : (t : Bool) → bytes_eq k n ≡ t → (after : List ℕ) → length after ≡ length new → take (kept + kept_of t) after ≡ take kept new ++ take (kept_of t) (drop at new)
      → drop (at + len) after ≡ drop (at + len) new → Swept n old after end (at + len) (kept + kept_of t)
  swept_on t f after long front untouched =
      let st = step t f in
      let in-it : at + len ≤ end = swept_places.1 in
      let as-old : drop (at + len) new ≡ drop (at + len) old = sym (drop-drop len at new) ∙ ap (drop len) h.rest ∙ drop-drop len at old in
      let sum : len + (end - (at + len)) ≡ end - at = omega arith in
      let next : drop len (take (end - at) (drop at old)) ≡ take (end - (at + len)) (drop (at + len) old) =
      ap (λ j. drop len (take j (drop at old))) (sym sum) ∙ drop-take len (end - (at + len)) (drop at old) ∙ ap (take (end - (at + len))) (drop-drop len at old) in
      let split : kept_text n (take (end - at) (drop at old)) ≡ take (kept_of t) (drop at new) ++ kept_text n (take (end - (at + len)) (drop (at + len) old)) =
      ap (λ s. kept_text n (take (end - at) s)) (sym h.rest) ∙ st.splits
      ∙ (λ i. take-take (kept_of t) (end - at) (drop at new) (omega (arith, st.less)) i ++ kept_text n (drop len (take (end - at) (h.rest i))))
      ∙ ap (λ s. take (kept_of t) (drop at new) ++ kept_text n s) next in
      record {
        room = h.room;
        within = in-it;
        less = omega (arith, h.less, st.less);
        long = long ∙ h.long;
        rest = untouched ∙ as-old;
        sweeps = ap (λ s. s ++ kept_text n (take (end - (at + len)) (drop (at + len) old))) front
            ∙ append_assoc (take kept new) (take (kept_of t) (drop at new)) _ ∙ ap (λ s. take kept new ++ s) (sym split) ∙ h.sweeps;
      }

  turned : (t : Bool) → t ≡ not (bytes_eq k n) → bytes_eq k n ≡ not t
  turned t e = sym (not-not (bytes_eq k n)) ∙ ap not (sym e)

  pub swept_dropped : false ≡ not (bytes_eq k n) → Swept n old new end (at + len) kept
  swept_dropped e = let f = turned false e in let same : kept + 0 ≡ kept = omega arith in rw same at (swept_on true f new refl (ap (λ j. take j new) same ∙ sym (append-nil (take kept new))) refl)

  -- it is copied from `at`
  pub swept_kept : true ≡ not (bytes_eq k n) → (after : List ℕ) → after ≡ paste new kept (drop at new) (at + len - at) → Swept n old after end (at + len) (kept + len)
  swept_kept e after copied =
      let f = turned true e in
      let all-of-it : at + len - at ≡ len = omega arith in
      let p : after ≡ paste new kept (drop at new) len = copied ∙ ap (paste new kept (drop at new)) all-of-it in
      let in-it : at + len ≤ end = swept_places.1 in
      let small : len ≤ length (drop at new) = omega (arith, length-drop at new, h.room, h.long) in
      let here : kept ≤ length new = omega (arith, h.less, h.room, h.long) in
      let front : take (kept + len) after ≡ take kept new ++ take len (drop at new) = ap (take (kept + len)) p ∙ take-paste new kept (drop at new) len here small in
      let back : drop (kept + len) after ≡ drop (kept + len) new = ap (drop (kept + len)) p ∙ drop-paste new kept (drop at new) len here small in
      let far : kept + len + (at + len - (kept + len)) ≡ at + len = omega (arith, h.less) in
      let on : (s : List ℕ) → drop (at + len - (kept + len)) (drop (kept + len) s) ≡ drop (at + len) s = λ s. drop-drop (at + len - (kept + len)) (kept + len) s ∙ ap (λ j. drop j s) far in
      let long : length after ≡ length new = ap length p ∙ length-paste new kept (drop at new) len (omega (arith, h.less, h.room, h.long)) small in
      swept_on false f after long front (sym (on after) ∙ ap (drop (at + len - (kept + len))) back ∙ on new)

pub swept_within : {n old new : List ℕ} {end at kept : ℕ} → Swept n old new end at kept → kept ≤ length new
swept_within h = omega (arith, h.less, h.within, h.room, h.long)

-- Where no line is left, the lines of other names stand at the front, as those of the bytes that were looked at, the first m at most.
module _ {n old new s : List ℕ} {at kept : ℕ} (m : ℕ) (h : Swept n old new (length s) at kept) (front : s ≡ take m old) (e : None ≡ taken_line (take (length s - at) (drop at new))) where
  looked_at : take (length s) old ≡ take m old
  looked_at = ap (λ t. take (length t) old) front ∙ ap (λ k. take k old) (length-take m old) ∙ take_min m old

  pub swept_text : take kept new ≡ kept_text n (take m old)
  swept_text =
      let none : kept_text n (take (length s - at) (drop at old)) ≡ [] = ap (λ t. kept_text n (take (length s - at) t)) (sym h.rest) ∙ none_left n (take (length s - at) (drop at new)) e in
      sym (append-nil (take kept new)) ∙ ap (λ t. take kept new ++ t) (sym none) ∙ h.sweeps ∙ ap (kept_text n) looked_at

  pub swept_size : kept ≡ length (kept_text n (take m old))
  swept_size = sym (length-take-le kept new (swept_within h)) ∙ ap length swept_text
