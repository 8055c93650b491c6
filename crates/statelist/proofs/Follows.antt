-- Carried pieces passed on one after the other, and the whole list. Assumes nothing.
use Rattle.std.proofs.Common.{◌≡◌, ℕ, Bool, true, false, cond, List, [], ◌∷◌, ◌++◌, map, take, Some, None, codes, filter, Option, sym, refl, ap, ◌∙◌, append-nil, append_assoc}
use Rattle.std.proofs.Math.Seq.{take-nil}
use Rattle.statelist.specs.Choosing.{passes_on, ot_to_add}
use Rattle.statelist.specs.Placing.{followed}
use Rattle.statelist.specs.Written.{carried_pieces, carries_ot, new_ot, passed, passed_if, written_members, written_list}
use Rattle.text.specs.Laws.{joined_by}
use Rattle.text.specs.Trims.{trimmed}
use Rattle.tracestate.specs.Members.{Pair, member_of}

module _ (ot : Option (List ℕ)) where
  by-member : (text : List ℕ) (m : Option Pair) (rest : List (List ℕ)) → cond (passes_on ot m) (text ∷ rest) rest ≡ passed_if ot text m rest
  by-member text None rest = refl
  by-member text (Some m) rest = refl

  -- what is passed on, by a filter
  pub passing : (ps : List (List ℕ)) → filter (λ t. passes_on ot (member_of t)) (map trimmed ps) ≡ passed ot ps
  unfolding passed
  passing [] = refl
  passing (p ∷ ps) =
      let t = trimmed p in
      ap (λ rest. cond (passes_on ot (member_of t)) (t ∷ rest) rest) (passing ps) ∙ by-member t (member_of t) (passed ot ps)

-- without a list there is none
pub no_list : (ot : Option (List ℕ)) (most : ℕ) → take most (passed ot []) ≡ []
unfolding passed
no_list ot most = take-nil most

-- one member more behind a text
pub one_more : (text : List ℕ) {whole m : List ℕ} {left more : List (List ℕ)} → left ≡ m ∷ more → text ++ followed left ≡ whole → (text ++ 0x2C ∷ m) ++ followed more ≡ whole
one_more text {whole} {m} {left} {more} e h = append_assoc text (0x2C ∷ m) (followed more) ∙ ap (λ ms. text ++ followed ms) (sym e) ∙ h

pub no_more : (text : List ℕ) {whole : List ℕ} {left : List (List ℕ)} → left ≡ [] → text ++ followed left ≡ whole → text ≡ whole
no_more text e h = sym (append-nil text) ∙ ap (λ ms. text ++ followed ms) (sym e) ∙ h

joined : (m : List ℕ) (ms : List (List ℕ)) → joined_by 0x2C (m ∷ ms) ≡ m ++ followed ms
joined m [] = sym (append-nil m)
joined m (n ∷ ms) = ap (λ t. m ++ 0x2C ∷ t) (joined n ms)

-- the member of an ot value that is added
abbrev added : Option (List ℕ) → List (List ℕ)
added None = []
added (Some v) = (codes "ot=" ++ v) ∷ []

adds_by : (b : Bool) (v : List ℕ) → cond b [] ((codes "ot=" ++ v) ∷ []) ≡ added (cond b None (Some v))
adds_by true v = refl
adds_by false v = refl

adds : (ot : Option (List ℕ)) (ps : List (List ℕ)) → new_ot ot ps ≡ added (ot_to_add ot ps)
adds None ps = refl
adds (Some v) ps = adds_by (carries_ot v ps) v

module _ (ot list : Option (List ℕ)) where
  abbrev pub others : List (List ℕ)
  others = passed ot (carried_pieces list)

  -- what follows the first member
  abbrev pub tail : List ℕ
  tail = followed (take 31 (new_ot ot (carried_pieces list) ++ others))

  -- dd's member behind a text, and what is still owed
  pub dd_first : (text dd : List ℕ) → (text ++ (codes "dd=" ++ dd)) ++ tail ≡ text ++ written_list dd ot list
  unfolding written_list written_members
  dd_first text dd = append_assoc text (codes "dd=" ++ dd) tail ∙ ap (λ t. text ++ t) (sym (joined (codes "dd=" ++ dd) (take 31 (new_ot ot (carried_pieces list) ++ others))))

  -- the member of an ot value that is added, or none
  pub ot_second : (text : List ℕ) {v whole : List ℕ} → Some v ≡ ot_to_add ot (carried_pieces list) → text ++ tail ≡ whole → (text ++ (codes ",ot=" ++ v)) ++ followed (take 30 others) ≡ whole
  ot_second text {v} e h = append_assoc text (codes ",ot=" ++ v) (followed (take 30 others)) ∙ ap (λ ms. text ++ followed (take 31 (ms ++ others))) (ap added e ∙ sym (adds ot (carried_pieces list))) ∙ h

  pub no_ot : (text : List ℕ) {whole : List ℕ} → None ≡ ot_to_add ot (carried_pieces list) → text ++ tail ≡ whole → text ++ followed (take 31 others) ≡ whole
  no_ot text e h = ap (λ ms. text ++ followed (take 31 (ms ++ others))) (ap added e ∙ sym (adds ot (carried_pieces list))) ∙ h
