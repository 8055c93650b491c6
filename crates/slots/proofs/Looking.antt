-- What is shown under a name, by the place that has it. Assumes nothing.
use Rattle.std.proofs.Common.{◌≡◌, ℕ, true, false, List, get_or, None, Some, sym, refl, ap, ◌∙◌, arith}
use Rattle.std.proofs.lemmas.Slice.Eq.{bytes_eq-Decides}
use Rattle.std.proofs.lemmas.List.{get_or_past}
use Rattle.std.proofs.lemmas.List.Sums.{AllPass-from_list_all}
use Rattle.std.proofs.lemmas.Bool.{cond-true}
use Rattle.std.specs.List.{list_all, list_any, position_or_len}
use Rattle.std.specs.Option.{option_map}
use Rattle.carrier.specs.Steps.{may}
use Rattle.slots.specs.Places.{Entry, lawful_place, Place, Places, named, shown_by, shown}
use Rattle.slots.specs.Rules.{first_at, within, past, passes}

shows : (p : Place) (n : List ℕ) → lawful_place p ≡ true → named n p ≡ true → option_map (λ (e : Entry). e.value) p ≡ shown_by n p
shows None n good is = refl
shows (Some e) n good is = sym (cond-true (may n e.value) (Some e.value) None (ap (λ (m : List ℕ). may m e.value) (sym ((bytes_eq-Decides e.name n).0 is)) ∙ good))

module _ (ps : Places) (n : List ℕ) where
  pub found-shown : (i : ℕ) → list_all lawful_place ps ≡ true → list_any (named n) ps ≡ true → i ≡ position_or_len (named n) ps → option_map (λ (e : Entry). e.value) (get_or ps i None) ≡ shown ps n
  found-shown i good any at =
      let p = get_or ps (position_or_len (named n) ps) None in
      ap (λ (k : ℕ). option_map (λ (e : Entry). e.value) (get_or ps k None)) at
      ∙ shows p n (AllPass-from_list_all lawful_place ps good _ None (within (named n) ps any)) (passes (named n) ps any)
      ∙ ap (shown_by n) (sym (first_at (named n) ps))

  pub none-shown : list_any (named n) ps ≡ false → None ≡ shown ps n
  none-shown e = sym (ap (shown_by n) (first_at (named n) ps ∙ get_or_past ps _ None (let all = past (named n) ps e in omega arith)))
