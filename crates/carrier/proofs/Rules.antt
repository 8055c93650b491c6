-- Every kind keeps the rules. Assumes nothing.
use Rattle.std.proofs.Common.{◌≡◌, ℕ, Bool, true, false, cond, ◌&&◌, List, length, Ok, Err, refl}
use Rattle.std.proofs.lemmas.Bool.{and_from, and_left, and_right, and_parts}
use Rattle.text.specs.Texts.{lawful}
use Rattle.carrier.specs.declared.faults.SetFault.{SetFault}
use Rattle.carrier.specs.declared.faults.SetFault.TheVariants.{Unlawful, Full}
use Rattle.carrier.specs.Kinds.{Kind}
use Rattle.carrier.specs.Laws.{KeepsTheRules}
use Rattle.carrier.specs.Names.{is_name}
use Rattle.carrier.specs.Steps.{may, verdict}

-- an accepted set was lawful and had room
accepted : (a b : Bool) → verdict a b ≡ Ok tt → (a ≡ true) × (b ≡ true)
accepted false b e = absurd (cc)
accepted true false e = absurd (cc)
accepted true true e = (refl, refl)

refused : {A : Type 0} (a b : Bool) (f : SetFault) (x y : A) → verdict a b ≡ Err f → cond (a && b) x y ≡ y
refused false b f x y e = refl
refused true false f x y e = refl
refused true true f x y e = absurd (cc)

pub keeps_the_rules : (K : Kind) → KeepsTheRules K
keeps_the_rules K = record {
  set_shows = λ h n v e.
      let t = accepted (may n v) (K.room h n (length v)) e in
      let good = and_parts (is_name n) (lawful v) t.0 in
      rw (and_from (may n v) (K.room h n (length v)) t.0 t.1) (K.put_shows h n v good.1 t.1);
  set_keeps = λ h n v m ne. kept h n v m ne (may n v && K.room h n (length v)) refl;
  unlawful_same = λ h n v e. refused (may n v) (K.room h n (length v)) Unlawful (K.put h n v) h e;
  full_same = λ h n v e. refused (may n v) (K.room h n (length v)) Full (K.put h n v) h e;
  taken = λ h n v a b r. rw (and_from (is_name n) (lawful v) a b, r);
  full = λ h n v a b r. rw (and_from (is_name n) (lawful v) a b, r);
  no_name = λ h n v e. rw (and_left (is_name n) (lawful v) e);
  no_value = λ h n v e. rw (and_right (is_name n) (lawful v) e);
  room_name = K.room_name;
  room_length = K.room_length;
  unset_shows = K.cut_shows;
  unset_keeps = K.cut_keeps;
  shown_lawful = K.shown_lawful;
} where
  kept : (h : K.Held) (n v m : List ℕ) → (m ≡ n → ⊥) → (t : Bool) → (may n v && K.room h n (length v)) ≡ t → K.shown (cond t (K.put h n v) h) m ≡ K.shown h m
  kept h n v m ne true e = let parts = and_parts (may n v) _ e in K.put_keeps h n v m (and_parts (is_name n) (lawful v) parts.0).1 parts.1 ne
  kept h n v m ne false e = refl
