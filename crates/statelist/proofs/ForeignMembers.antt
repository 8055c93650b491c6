-- The foreign members that were carried, and those that are written. Assumes nothing.
use Rattle.std.proofs.Common.{◌≡◌, ℕ, Bool, true, false, cond, not, ltb, ◌⊎◌, List, [], ◌∷◌, ◌++◌, length, take, drop, Some, None, codes, filter, Option, sym, refl, ap, ◌∙◌, inl, inr, arith}
use Rattle.std.proofs.lemmas.List.Elements.{filter-append}
use Rattle.std.proofs.lemmas.List.{take-append-drop, drop_all, length-take}
use Rattle.std.proofs.lemmas.Bool.{cases_Bool, cases_lt, cond-true, cond-false, cond_both, and_from, and_parts, or_left, both_ways, lt-ltb}
use Rattle.std.specs.Str.{bytes_eq}
use Rattle.text.specs.Trims.{trimmed}
use Rattle.tracestate.specs.Members.{Pair, is_value, member_of}
use Rattle.statelist.specs.Laws.{LawfulOt, member_texts, foreign_by, is_foreign, foreign_of}
use Rattle.statelist.specs.Written.{carried_pieces, is_ot, passes, passed_if, passed, carries_ot, new_ot, written_members}
use Rattle.statelist.proofs.LawfulMember.{member_sizes, dd-member, ot-member}

-- a foreign member passes, whatever the ot value is
foreign_passes : (ot : Option (List ℕ)) (m : Pair) → foreign_by (Some m) ≡ true → passes ot m ≡ true
foreign_passes ot m h =
    let parts = and_parts (not (bytes_eq m.key (codes "dd"))) (not (bytes_eq m.key (codes "ot"))) h in
    and_from _ _ parts.0 (or_left (not (bytes_eq m.key (codes "ot"))) (is_ot ot m.value) parts.1)

abbrev kept : List (List ℕ) → List (List ℕ)
kept ts = filter is_foreign ts

-- one piece more: t is its text with blanks off, and o the member that it is
foreign_step : (t : List ℕ) (o : Option Pair) (b : Bool) (rest : List (List ℕ)) → member_of t ≡ o → ltb 0 (length t) ≡ b → kept (cond b (t ∷ rest) rest) ≡ cond (foreign_by o) (t ∷ kept rest) (kept rest)
foreign_step t o true rest e k = ap (λ p. cond (foreign_by p) (t ∷ kept rest) (kept rest)) e
foreign_step t None false rest e k = refl
foreign_step t (Some m) false rest e k = absurd (both_ways (ltb 0 (length t)) k (lt-ltb 0 (length t) (member_sizes t m e).0))

passed-step : (ot : Option (List ℕ)) (t : List ℕ) (o : Option Pair) (rest : List (List ℕ)) → member_of t ≡ o → kept (passed_if ot t o rest) ≡ cond (foreign_by o) (t ∷ kept rest) (kept rest)
passed-step ot t None rest e = refl
passed-step ot t (Some m) rest e =
    elim (cases_Bool (passes ot m)) [
      | inl go ↦ ap kept (cond-true (passes ot m) (t ∷ rest) rest go) ∙ ap (λ p. cond (foreign_by p) (t ∷ kept rest) (kept rest)) e
      | inr stay ↦ ap kept (cond-false (passes ot m) (t ∷ rest) rest stay) ∙ sym (stays (foreign_by (Some m)) refl stay)
    ]
  where
    stays : (f : Bool) → foreign_by (Some m) ≡ f → passes ot m ≡ false → cond f (t ∷ kept rest) (kept rest) ≡ kept rest
    stays true is stay = absurd (both_ways (passes ot m) stay (foreign_passes ot m is))
    stays false is stay = refl

-- what is passed on has the foreign members of what was carried
pub passed_foreign : (ot : Option (List ℕ)) (ps : List (List ℕ)) → kept (passed ot ps) ≡ foreign_of ps
unfolding passed member_texts foreign_of
passed_foreign ot [] = refl
passed_foreign ot (p ∷ ps) =
    let t = trimmed p in
    passed-step ot t (member_of t) (passed ot ps) refl
    ∙ ap (λ l. cond (foreign_by (member_of t)) (t ∷ l) l) (passed_foreign ot ps)
    ∙ sym (foreign_step t (member_of t) (ltb 0 (length t)) (member_texts ps) refl refl)

new_foreign : (ot : Option (List ℕ)) (ps : List (List ℕ)) → LawfulOt ot → kept (new_ot ot ps) ≡ []
new_foreign None ps h = refl
new_foreign (Some v) ps h = cond_both (carries_ot v ps) [] ((codes "ot=" ++ v) ∷ []) (λ ts. kept ts ≡ []) (λ _. refl) (λ _. ap (λ o. cond (foreign_by o) ((codes "ot=" ++ v) ∷ []) []) (ot-member v h))

module _ (dd : List ℕ) (ot list : Option (List ℕ)) (hd : is_value dd ≡ true) (ho : LawfulOt ot) where
  -- the list before it is cut to 32 members
  abbrev uncut : List (List ℕ)
  uncut = (codes "dd=" ++ dd) ∷ (new_ot ot (carried_pieces list) ++ passed ot (carried_pieces list))

  uncut_foreign : kept uncut ≡ foreign_of (carried_pieces list)
  uncut_foreign =
      let ps = carried_pieces list in
      let rest = new_ot ot ps ++ passed ot ps in
      ap (λ o. cond (foreign_by o) ((codes "dd=" ++ dd) ∷ kept rest) (kept rest)) (dd-member dd hd)
      ∙ filter-append is_foreign (new_ot ot ps) (passed ot ps)
      ∙ (λ i. new_foreign ot ps ho i ++ passed_foreign ot ps i)

  -- what the cut left out
  pub cut_off : List (List ℕ)
  cut_off = kept (drop 32 uncut)

  pub foreign_front : foreign_of (carried_pieces list) ≡ kept (written_members dd ot list) ++ cut_off
  unfolding written_members cut_off
  foreign_front = sym uncut_foreign ∙ ap kept (sym (take-append-drop 32 uncut)) ∙ filter-append is_foreign (take 32 uncut) (drop 32 uncut)

  pub cut-full : (cut_off ≡ []) ⊎ (length (written_members dd ot list) ≡ 32)
  unfolding written_members cut_off
  cut-full =
      elim (cases_lt (length uncut) 32) [
        | inl short ↦ inl (ap kept (drop_all 32 uncut (omega arith)))
        | inr long ↦ inr (length-take 32 uncut ∙ omega arith)
      ]
