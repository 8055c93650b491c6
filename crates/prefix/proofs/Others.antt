-- What a layer leaves as it is below. Assumes nothing.
use Rattle.std.proofs.Common.{◌≡◌, ℕ, Bool, true, false, cond, ◌&&◌, List, ◌++◌, length, Some, None, refl, ap, ◌∙◌, arith}
use Rattle.std.proofs.lemmas.Bool.{and_parts}
use Rattle.text.proofs.Prefixes.{strip_is}
use Rattle.text.specs.Takes.{stripped}
use Rattle.text.specs.Texts.{lawful}
use Rattle.carrier.specs.Kinds.{Kind}
use Rattle.carrier.specs.Names.{is_name}
use Rattle.carrier.specs.Steps.{may}
use Rattle.prefix.specs.Laws.{LeavesOthers}
use Rattle.prefix.specs.Layers.{Under, put_under, room_under}
use Rattle.prefix.specs.Prefixes.{joins}

not-joined : (p n m : List ℕ) → stripped p m ≡ None → m ≡ p ++ n → ⊥
not-joined p n m none is =
    let found : stripped p m ≡ Some n = ap (stripped p) is ∙ strip_is p n in
    let z : ◌≡◌ {A = ℕ} 0 1 = cc in omega arith

module _ (K : Kind) (h : Under K.Held) (n m : List ℕ) (none : stripped h.front m ≡ None) where
  set_leaves : (v : List ℕ) (t : Bool) → (may n v && room_under K h n (length v)) ≡ t → K.shown (cond t (put_under K h n v) h).below m ≡ K.shown h.below m
  set_leaves v true e =
      let parts = and_parts (may n v) _ e in
      let inner = and_parts (joins h.front n) _ parts.1 in
      K.put_keeps h.below (h.front ++ n) v m (and_parts (is_name n) (lawful v) parts.0).1 inner.1 (not-joined h.front n m none)
  set_leaves v false e = refl

  unset_leaves : (t : Bool) → K.shown (cond t (K.cut h.below (h.front ++ n)) h.below) m ≡ K.shown h.below m
  unset_leaves true = K.cut_keeps h.below (h.front ++ n) m (not-joined h.front n m none)
  unset_leaves false = refl

pub leaves_others : (K : Kind) → LeavesOthers K
leaves_others K = record {
  set = λ h n v m none. set_leaves K h n m none v (may n v && room_under K h n (length v)) refl;
  unset = λ h n m none. unset_leaves K h n m none (joins h.front n);
}
