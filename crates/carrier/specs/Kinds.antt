-- What a kind of carrier is: what one holds, what that shows and takes, what setting and unsetting leave, and the laws of these.
-- Assumes nothing.
use Rattle.std.specs.Prelude.{◌≡◌, ℕ, ◌≤◌, Bool, true, List, length, Some, None, ◌≢◌}
use Rattle.text.specs.Texts.{lawful}
use Rattle.carrier.specs.Names.{Table, is_name}

-- a name and a value that a carrier can show
pub record Lawful (n v : List ℕ) : Type 0 where
  pub name : is_name n ≡ true
  pub value : lawful v ≡ true

pub record Kind : Type 1 where
  pub Held : Type 0
  -- what is shown at each name
  pub shown : Held → Table
  -- whether a value of that length would be taken under the name
  pub room : Held → List ℕ → ℕ → Bool
  -- what is held after a set that is taken, and after an unset
  pub put : Held → List ℕ → List ℕ → Held
  pub cut : Held → List ℕ → Held
  -- the laws
  pub shown_lawful : (h : Held) (n v : List ℕ) → shown h n ≡ Some v → Lawful n v
  pub room_name : (h : Held) (n : List ℕ) (len : ℕ) → room h n len ≡ true → is_name n ≡ true
  pub room_length : (h : Held) (n : List ℕ) (len : ℕ) → room h n len ≡ true → len ≤ 16384
  pub put_shows : (h : Held) (n v : List ℕ) → lawful v ≡ true → room h n (length v) ≡ true → shown (put h n v) n ≡ Some v
  pub put_keeps : (h : Held) (n v m : List ℕ) → lawful v ≡ true → room h n (length v) ≡ true → (m ≢ n) → shown (put h n v) m ≡ shown h m
  pub cut_shows : (h : Held) (n : List ℕ) → shown (cut h n) n ≡ None
  pub cut_keeps : (h : Held) (n m : List ℕ) → (m ≢ n) → shown (cut h n) m ≡ shown h m
