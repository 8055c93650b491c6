-- Chains of changes and of settings. Assumes nothing.
use Rattle.std.proofs.Common.{◌≡◌, ℕ, List, [], ◌∷◌, ◌++◌, Some, Ok, Err, Result, refl, ap, ◌∙◌, arith}
use Rattle.carrier.specs.Kinds.{Kind}
use Rattle.carrier.specs.Steps.{set_answer, after_set}
use Rattle.carrier.specs.declared.faults.SetFault.{SetFault}
use Rattle.store.specs.declared.faults.StoreFault.{StoreFault}
use Rattle.store.specs.Contents.{Contents, after_remove}
use Rattle.store.proofs.Rules.{keeps_tags}
use Rattle.fault.specs.Faults.{header_text}
use Rattle.propagation.specs.Changes.{Change, put, remove, origin, Outcome, change, changes, made, all_made, unless_refused}
use Rattle.propagation.specs.Settings.{Setting, set_all, unless_full, continued}

abbrev Next : Type 0
Next = Contents → Outcome

-- what follows follows whatever came before
pub unless_twice : (r : Result (Unit {0}) StoreFault) (c : Contents) (f g : Next)
    → unless_refused (unless_refused r c f).answer (unless_refused r c f).store g ≡ unless_refused r c (λ d. unless_refused (f d).answer (f d).store g)
unless_twice (Ok _) c f g = refl
unless_twice (Err e) c f g = refl

pub changes_append : (xs ys : List Change) (c : Contents) → changes (xs ++ ys) c ≡ unless_refused (changes xs c).answer (changes xs c).store (changes ys)
changes_append [] ys c = refl
changes_append (x ∷ xs) ys c = by (change x c).answer (changes_append xs ys (change x c).store) where
  by : (r : Result (Unit {0}) StoreFault) → changes (xs ++ ys) (change x c).store ≡ unless_refused (changes xs (change x c).store).answer (changes xs (change x c).store).store (changes ys)
      → unless_refused r (change x c).store (changes (xs ++ ys)) ≡ unless_refused (unless_refused r (change x c).store (changes xs)).answer (unless_refused r (change x c).store (changes xs)).store (changes ys)
  by (Ok _) later = later
  by (Err e) later = refl

-- an accepted change is made
pub change-made : (x : Change) (c : Contents) → (change x c).answer ≡ Ok tt → (change x c).store ≡ made x c
unfolding after_remove
change-made (put k v) c e = keeps_tags.put_made c k v e
change-made (remove k) c e = refl
change-made (origin o) c e = keeps_tags.origin_made c (Some o) e

-- so are all of them, where all are accepted
pub accepted_are_made : (xs : List Change) (c : Contents) → (changes xs c).answer ≡ Ok tt → (changes xs c).store ≡ all_made xs c
accepted_are_made [] c e = refl
accepted_are_made (x ∷ xs) c e = by (change x c).answer refl e (accepted_are_made xs (change x c).store) where
  by : (r : Result (Unit {0}) StoreFault) → (change x c).answer ≡ r → (unless_refused r (change x c).store (changes xs)).answer ≡ Ok tt
      → ((changes xs (change x c).store).answer ≡ Ok tt → (changes xs (change x c).store).store ≡ all_made xs (change x c).store)
      → (unless_refused r (change x c).store (changes xs)).store ≡ all_made xs (made x c)
  by (Ok _) is ok later = later ok ∙ ap (all_made xs) (change-made x c is)
  by (Err f) is ok later = let z : ◌≡◌ {A = ℕ} 0 1 = cc in absurd (omega arith)

-- some settings and then others
pub set_all_append : (K : Kind) (xs ys : List Setting) (h : K.Held)
    → set_all K (xs ++ ys) h ≡ continued K (set_all K xs h) (set_all K ys)
set_all_append K [] ys h = refl
set_all_append K (x ∷ xs) ys h = by (set_answer K h (header_text x.header) x.value) (set_all_append K xs ys (after_set K h (header_text x.header) x.value)) where
  by : (r : Result (Unit {0}) SetFault) → set_all K (xs ++ ys) (after_set K h (header_text x.header) x.value) ≡ continued K (set_all K xs (after_set K h (header_text x.header) x.value)) (set_all K ys)
      → unless_full K x.header r (after_set K h (header_text x.header) x.value) (set_all K (xs ++ ys)) ≡ continued K (unless_full K x.header r (after_set K h (header_text x.header) x.value) (set_all K xs)) (set_all K ys)
  by (Ok _) later = later
  by (Err e) later = refl
