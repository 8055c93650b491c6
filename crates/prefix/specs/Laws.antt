-- The laws of layers. Assumes nothing.
use Rattle.std.specs.Prelude.{◌≡◌, ℕ, true, List, ◌++◌, None}
use Rattle.text.specs.Takes.{stripped}
use Rattle.carrier.specs.Kinds.{Kind}
use Rattle.carrier.specs.Steps.{after_set}
use Rattle.prefix.specs.Layers.{Under, under, layered}
use Rattle.prefix.specs.Prefixes.{is_prefix}

-- a layer on a layer shows and takes what one layer with the two prefixes joined does, the lower one first
pub record PilesJoin (K : Kind) : Type 0 where
  pub shown : (p q : List ℕ) (h : K.Held) (n : List ℕ) → is_prefix p ≡ true → (layered (layered K)).shown (under p (under q h)) n ≡ (layered K).shown (under (q ++ p) h) n
  pub room : (p q : List ℕ) (h : K.Held) (n : List ℕ) (len : ℕ) → is_prefix p ≡ true → (layered (layered K)).room (under p (under q h)) n len ≡ (layered K).room (under (q ++ p) h) n len

-- a name below that does not begin with the prefix shows what it showed
pub record LeavesOthers (K : Kind) : Type 0 where
  pub set : (h : Under K.Held) (n v m : List ℕ) → stripped h.front m ≡ None → K.shown (after_set (layered K) h n v).below m ≡ K.shown h.below m
  pub unset : (h : Under K.Held) (n m : List ℕ) → stripped h.front m ≡ None → K.shown ((layered K).cut h n).below m ≡ K.shown h.below m
