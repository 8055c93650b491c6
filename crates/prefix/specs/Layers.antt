-- A kind under a prefix: a name shows and takes there what the joined name shows and takes below. Assumes nothing.
use Rattle.std.specs.Prelude.{◌≡◌, ℕ, ◌+◌, ◌≤◌, Bool, true, false, cond, ◌&&◌, List, ◌++◌, length, Some, None, Option, ◌≢◌, nat_le, refl}
use Rattle.std.proofs.Common.{ap, arith}
use Rattle.std.proofs.lemmas.List.{append_cancel_left}
use Rattle.std.proofs.lemmas.Bool.{and_parts}
use Rattle.text.specs.Texts.{lawful}
use Rattle.carrier.specs.Kinds.{Kind, Lawful}
use Rattle.carrier.specs.Names.{Table, is_name}
use Rattle.prefix.specs.Prefixes.{joins}

-- the prefix, and what is held below
pub record Under (H : Type 0) : Type 0 where
  pub front : List ℕ
  pub below : H

abbrev pub under : {H : Type 0} → List ℕ → H → Under H
under p h = record { front = p; below = h }

-- a name that can be joined is a name
pub joins_name : (p n : List ℕ) → joins p n ≡ true → is_name n ≡ true
unfolding joins
joins_name p n e = (and_parts (is_name n) (nat_le (length p + length n) 64) e).0

module _ (K : Kind) where
  abbrev pub shown_under : Under K.Held → Table
  shown_under h n = cond (joins h.front n) (K.shown h.below (h.front ++ n)) None

  abbrev pub room_under : Under K.Held → List ℕ → ℕ → Bool
  room_under h n len = joins h.front n && K.room h.below (h.front ++ n) len

  abbrev pub put_under : Under K.Held → List ℕ → List ℕ → Under K.Held
  put_under h n v = under h.front (K.put h.below (h.front ++ n) v)

  abbrev pub cut_under : Under K.Held → List ℕ → Under K.Held
  cut_under h n = under h.front (cond (joins h.front n) (K.cut h.below (h.front ++ n)) h.below)

  -- the laws
  shown_by : (h : Under K.Held) (n v : List ℕ) (t : Bool) → joins h.front n ≡ t → cond t (K.shown h.below (h.front ++ n)) None ≡ Some v → Lawful n v
  shown_by h n v true e is = record { name = joins_name h.front n e; value = (K.shown_lawful h.below (h.front ++ n) v is).value }
  shown_by h n v false e is = let z : ◌≡◌ {A = ℕ} 0 1 = cc in absurd (omega arith)

  pub shown_lawful : (h : Under K.Held) (n v : List ℕ) → shown_under h n ≡ Some v → Lawful n v
  shown_lawful h n v is = shown_by h n v (joins h.front n) refl is

  pub room_name : (h : Under K.Held) (n : List ℕ) (len : ℕ) → room_under h n len ≡ true → is_name n ≡ true
  room_name h n len e = joins_name h.front n (and_parts (joins h.front n) _ e).0

  pub room_length : (h : Under K.Held) (n : List ℕ) (len : ℕ) → room_under h n len ≡ true → len ≤ 16384
  room_length h n len e = K.room_length h.below (h.front ++ n) len (and_parts (joins h.front n) _ e).1

  pub put_shows : (h : Under K.Held) (n v : List ℕ) → lawful v ≡ true → room_under h n (length v) ≡ true → shown_under (put_under h n v) n ≡ Some v
  put_shows h n v good e =
      let t = and_parts (joins h.front n) _ e in
      rw t.0 (K.put_shows h.below (h.front ++ n) v good t.1)

  -- two names that differ differ under the prefix
  apart : (p m n : List ℕ) → (m ≢ n) → p ++ m ≢ p ++ n
  apart p m n ne e = ne (append_cancel_left p m n e)

  pub put_keeps : (h : Under K.Held) (n v m : List ℕ) → lawful v ≡ true → room_under h n (length v) ≡ true → (m ≢ n) → shown_under (put_under h n v) m ≡ shown_under h m
  put_keeps h n v m good e ne =
      let t = and_parts (joins h.front n) _ e in
      ap (λ (o : Option (List ℕ)). cond (joins h.front m) o None) (K.put_keeps h.below (h.front ++ n) v (h.front ++ m) good t.1 (apart h.front m n ne))

  pub cut_shows : (h : Under K.Held) (n : List ℕ) → shown_under (cut_under h n) n ≡ None
  cut_shows h n = by (joins h.front n) where
    by : (t : Bool) → cond t (K.shown (cond t (K.cut h.below (h.front ++ n)) h.below) (h.front ++ n)) None ≡ None
    by true = K.cut_shows h.below (h.front ++ n)
    by false = refl

  pub cut_keeps : (h : Under K.Held) (n m : List ℕ) → (m ≢ n) → shown_under (cut_under h n) m ≡ shown_under h m
  cut_keeps h n m ne = ap (λ (o : Option (List ℕ)). cond (joins h.front m) o None) (by (joins h.front n)) where
    by : (t : Bool) → K.shown (cond t (K.cut h.below (h.front ++ n)) h.below) (h.front ++ m) ≡ K.shown h.below (h.front ++ m)
    by true = K.cut_keeps h.below (h.front ++ n) (h.front ++ m) (apart h.front m n ne)
    by false = refl

abbrev pub layered : Kind → Kind
layered K = record {
  Held = Under K.Held;
  shown = shown_under K;
  room = room_under K;
  put = put_under K;
  cut = cut_under K;
  shown_lawful = shown_lawful K;
  room_name = room_name K;
  room_length = room_length K;
  put_shows = put_shows K;
  put_keeps = put_keeps K;
  cut_shows = cut_shows K;
  cut_keeps = cut_keeps K;
}
