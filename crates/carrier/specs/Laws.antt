-- The rules of carriers in the words of headers. Assumes nothing.
use Rattle.std.specs.Prelude.{◌≡◌, ℕ, ◌≤◌, true, false, List, length, Some, None, Ok, Err, ◌≢◌}
use Rattle.text.specs.Texts.{lawful}
use Rattle.carrier.specs.declared.faults.SetFault.TheVariants.{Unlawful, Full}
use Rattle.carrier.specs.Kinds.{Kind, Lawful}
use Rattle.carrier.specs.Names.{is_name}
use Rattle.carrier.specs.Steps.{set_answer, after_set}

-- what a set, an unset and a look-up have to do with one another
pub record KeepsTheRules (K : Kind) : Type 0 where
  -- what was set is shown, and every other name shows what it showed
  pub set_shows : (h : K.Held) (n v : List ℕ) → set_answer K h n v ≡ Ok tt → K.shown (after_set K h n v) n ≡ Some v
  pub set_keeps : (h : K.Held) (n v m : List ℕ) → (m ≢ n) → K.shown (after_set K h n v) m ≡ K.shown h m
  -- a refusal alters nothing
  pub unlawful_same : (h : K.Held) (n v : List ℕ) → set_answer K h n v ≡ Err Unlawful → after_set K h n v ≡ h
  pub full_same : (h : K.Held) (n v : List ℕ) → set_answer K h n v ≡ Err Full → after_set K h n v ≡ h
  -- a lawful set is refused exactly where there is no room; an unlawful one always
  pub taken : (h : K.Held) (n v : List ℕ) → is_name n ≡ true → lawful v ≡ true → K.room h n (length v) ≡ true → set_answer K h n v ≡ Ok tt
  pub full : (h : K.Held) (n v : List ℕ) → is_name n ≡ true → lawful v ≡ true → K.room h n (length v) ≡ false → set_answer K h n v ≡ Err Full
  pub no_name : (h : K.Held) (n v : List ℕ) → is_name n ≡ false → set_answer K h n v ≡ Err Unlawful
  pub no_value : (h : K.Held) (n v : List ℕ) → lawful v ≡ false → set_answer K h n v ≡ Err Unlawful
  -- room is for names and lengths that can be lawful
  pub room_name : (h : K.Held) (n : List ℕ) (len : ℕ) → K.room h n len ≡ true → is_name n ≡ true
  pub room_length : (h : K.Held) (n : List ℕ) (len : ℕ) → K.room h n len ≡ true → len ≤ 16384
  -- what was unset shows nothing, and every other name shows what it showed
  pub unset_shows : (h : K.Held) (n : List ℕ) → K.shown (K.cut h n) n ≡ None
  pub unset_keeps : (h : K.Held) (n m : List ℕ) → (m ≢ n) → K.shown (K.cut h n) m ≡ K.shown h m
  -- what is shown is lawful
  pub shown_lawful : (h : K.Held) (n v : List ℕ) → K.shown h n ≡ Some v → Lawful n v
