-- The names of the slots that are not free, in their order. Assumes nothing.
use Rattle.std.proofs.Common.{◌≡◌, ℕ, zero, suc, Bool, true, false, cond, not, ◌||◌, List, [], ◌∷◌, length, filter, is_some, Some, None, Option, sym, refl, ap, ◌∙◌}
use Rattle.std.proofs.lemmas.Slice.Eq.{bytes_eq-Decides}
use Rattle.std.proofs.lemmas.Bool.{and_parts, cond-true}
use Rattle.std.specs.List.{slice_get, list_all}
use Rattle.std.specs.Option.{option_map, option_and_then}
use Rattle.std.specs.Str.{bytes_eq}
use Rattle.text.specs.declared.inline.Inline.{Inline}
use Rattle.carrier.specs.Names.{member, distinct, Lists}
use Rattle.carrier.specs.Steps.{may}
use Rattle.slots.specs.Places.{Entry, lawful_place, Places, named, free, first, shown_by, shown, names}
use Rattle.slots.specs.Slots.{place_of, places_of}
use Rattle.slots.specs.declared.slot.Slot.{Slot}

listed : (ps : Places) (n : List ℕ) → list_all lawful_place ps ≡ true → member n (names ps) ≡ is_some (shown ps n)
listed [] n h = refl
listed (None ∷ ps) n h = listed ps n h
listed (Some e ∷ ps) n h = by (bytes_eq e.name n) refl (listed ps n (and_parts (may e.name e.value) (list_all lawful_place ps) h).1) where
  by : (t : Bool) → bytes_eq e.name n ≡ t → member n (names ps) ≡ is_some (shown ps n) → (t || member n (names ps)) ≡ is_some (shown_by n (cond t (Some e) (first (named n) ps)))
  by true same ih =
      let good : may n e.value ≡ true = ap (λ (m : List ℕ). may m e.value) (sym ((bytes_eq-Decides e.name n).0 same)) ∙ (and_parts (may e.name e.value) (list_all lawful_place ps) h).0 in
      sym (ap is_some (cond-true (may n e.value) (Some e.value) None good))
  by false same ih = ih

pub lists : (ps : Places) → list_all lawful_place ps ≡ true → distinct (names ps) ≡ true → Lists (names ps) (shown ps)
lists ps good once = record { shown = λ n. listed ps n good; once = once }

abbrev pub used : Slot → Bool
used s = not (free (place_of s))

abbrev pub name_in : Slot → Option (List ℕ)
name_in s = option_map (λ (e : Entry). e.name) (place_of s)

-- one slot more, free or not
module _ (s : Slot) (ss : List Slot) where
  names_more : (o : Option (Inline 64)) → s.name ≡ o → length (filter used ss) ≡ length (names (places_of ss)) → length (filter used (s ∷ ss)) ≡ length (names (places_of (s ∷ ss)))
  names_more None e ih = rw e ih
  names_more (Some n) e ih = rw e (ap suc ih)

pub name_count : (ss : List Slot) → length (filter used ss) ≡ length (names (places_of ss))
name_count [] = refl
name_count (s ∷ ss) = names_more s ss s.name refl (name_count ss)

pub name_at : (ss : List Slot) (at : ℕ) → option_and_then name_in (slice_get (filter used ss) at) ≡ slice_get (names (places_of ss)) at
name_at [] at = refl
name_at (s ∷ ss) at = by s.name refl at (name_at ss) where
  by : (o : Option (Inline 64)) → s.name ≡ o → (k : ℕ) → ((j : ℕ) → option_and_then name_in (slice_get (filter used ss) j) ≡ slice_get (names (places_of ss)) j) → option_and_then name_in (slice_get (filter used (s ∷ ss)) k) ≡ slice_get (names (places_of (s ∷ ss))) k
  by None e k ih = rw e (ih k)
  by (Some n) e zero ih = rw e refl
  by (Some n) e (suc k) ih = rw e (ih k)
