-- A written list that is read and written again. Assumes nothing.
use Rattle.std.proofs.Common.{◌≡◌, ℕ, Bool, true, false, cond, not, ◌||◌, List, [], ◌∷◌, ◌++◌, take, Some, None, codes, Option, refl, ap, ◌∙◌, inl, inr, arith}
use Rattle.std.proofs.lemmas.Slice.Eq.{bytes_eq-Decides}
use Rattle.std.proofs.lemmas.List.{take_all}
use Rattle.std.proofs.lemmas.Bool.{false≢true, cond-true, and_from, and_parts, or_cases, or_parts, or_left, or_right}
use Rattle.std.specs.List.{AllByRecursion}
use Rattle.std.specs.Str.{bytes_eq}
use Rattle.text.specs.Laws.{joined_by}
use Rattle.text.specs.Trims.{trimmed}
use Rattle.tracestate.specs.Items.{has_key}
use Rattle.tracestate.specs.Lists.{read_tracestate}
use Rattle.tracestate.specs.Members.{Pair, pair, is_value, member_of}
use Rattle.statelist.specs.Laws.{LawfulOt}
use Rattle.statelist.specs.Written.{passes, passed_if, passed, has_value, carries_ot, new_ot, written_members}
use Rattle.statelist.proofs.JoinedMembers.{Reads, none, more}
use Rattle.statelist.proofs.LawfulMember.{member-trimmed, dd-member}
use Rattle.statelist.proofs.OwnMembers.{list-pieces, list-says}
use Rattle.statelist.proofs.PassedMembers.{Members, pass_ot}

-- blanks are off already
read_off : (t : List ℕ) (m : Pair) → member_of t ≡ Some m → member_of (trimmed t) ≡ Some m
read_off t m e = ap member_of (member-trimmed t m e) ∙ e

-- members that pass are passed on unchanged
pub passed-same : (ot : Option (List ℕ)) {ts : List (List ℕ)} {ms : List Pair} → Reads ts ms → AllByRecursion (λ m. passes ot m ≡ true) ms → passed ot ts ≡ ts
unfolding passed
passed-same ot none h = refl
passed-same ot (more {t} {m} {ts} {ms} e r) h = (λ i. passed_if ot (member-trimmed t m e i) (read_off t m e i) (passed-same ot r h.1 i)) ∙ cond-true (passes ot m) (t ∷ ts) ts h.0

pub dd-not-passed : (ot : Option (List ℕ)) (dd : List ℕ) (ts : List (List ℕ)) → is_value dd ≡ true → passed ot ((codes "dd=" ++ dd) ∷ ts) ≡ passed ot ts
unfolding passed
dd-not-passed ot dd ts h = let t = codes "dd=" ++ dd in ap (λ o. passed_if ot (trimmed t) o (passed ot ts)) (read_off t (pair (codes "dd", dd)) (dd-member dd h))

-- a list with a member of ot's key carries the ot value
carried-back : (v : List ℕ) {ts : List (List ℕ)} {ms : List Pair} → Reads ts ms → AllByRecursion (λ m. passes (Some v) m ≡ true) ms → has_key (codes "ot") ms ≡ true → carries_ot v ts ≡ true
unfolding carries_ot
carried-back v none h k = absurd (false≢true k)
carried-back v (more {t} {m} {ts} {ms} e r) h k =
    let here = has_value v (member_of (trimmed t)) in
    elim (or_cases (bytes_eq m.key (codes "ot")) (has_key (codes "ot") ms) k) [
      | inl is ↦
          let value : m.value ≡ v = cc (pass_ot (Some v) m h.0 is) in
          or_left here (carries_ot v ts) (ap (has_value v) (read_off t m e) ∙ and_from _ _ is ((bytes_eq-Decides m.value v).1 value))
      | inr later ↦ or_right here (carries_ot v ts) (carried-back v r h.1 later)
    ]

-- the ot value that is found: t is whether there is a member of that key
abbrev pub found_ot : Bool → Option (List ℕ) → Option (List ℕ)
found_ot t ot = cond t ot None

none_passes : (ot : Option (List ℕ)) (ms : List Pair) → has_key (codes "ot") ms ≡ false → AllByRecursion (λ m. passes ot m ≡ true) ms → AllByRecursion (λ m. passes None m ≡ true) ms
none_passes ot [] k h = tt
none_passes ot (m ∷ ms) k h =
    let apart = or_parts (bytes_eq m.key (codes "ot")) (has_key (codes "ot") ms) k in
    (and_from _ _ (and_parts _ _ h.0).0 (ap (λ t. not t || false) apart.0), none_passes ot ms apart.1 h.1)

-- under what is found all of them pass again
pub pass_again : (t : Bool) (ot : Option (List ℕ)) (ms : List Pair) → has_key (codes "ot") ms ≡ t → AllByRecursion (λ m. passes ot m ≡ true) ms → AllByRecursion (λ m. passes (found_ot t ot) m ≡ true) ms
pass_again true ot ms k h = h
pass_again false ot ms k h = none_passes ot ms k h

-- and there is no new ot
pub nothing-new : (t : Bool) (ot : Option (List ℕ)) (p : List ℕ) {ts : List (List ℕ)} {ms : List Pair} → Reads ts ms → has_key (codes "ot") ms ≡ t → AllByRecursion (λ m. passes ot m ≡ true) ms → new_ot (found_ot t ot) (p ∷ ts) ≡ []
unfolding carries_ot
nothing-new true None p r k h = refl
nothing-new true (Some v) p {ts} r k h = cond-true (carries_ot v (p ∷ ts)) [] ((codes "ot=" ++ v) ∷ []) (or_right (has_value v (member_of (trimmed p))) (carries_ot v ts) (carried-back v r h k))
nothing-new false ot p r k h = refl

pub found-lawful : (t : Bool) (ot : Option (List ℕ)) → LawfulOt ot → LawfulOt (found_ot t ot)
found-lawful true ot h = h
found-lawful false ot h = tt

pub found_again : (t : Bool) (ot : Option (List ℕ)) → found_ot t (found_ot t ot) ≡ found_ot t ot
found_again true ot = refl
found_again false ot = refl

module _ (dd : List ℕ) (ot : Option (List ℕ)) (ts : List (List ℕ)) (w : Members dd ot ts) (hd : is_value dd ≡ true) where
  -- the ot value that is read of the list
  abbrev pub read-ot : Option (List ℕ)
  read-ot = found_ot (has_key (codes "ot") w.members) ot

  pub others_stay : (next : List ℕ) → written_members next read-ot (Some (joined_by 0x2C ts)) ≡ (codes "dd=" ++ next) ∷ w.others
  unfolding written_members
  others_stay next =
      let first = codes "dd=" ++ dd in
      let has = has_key (codes "ot") w.members in
      let no-new = nothing-new has ot first w.reads refl w.pass in
      let same = dd-not-passed read-ot dd w.others hd ∙ passed-same read-ot w.reads (pass_again has ot w.members refl w.pass) in
      ap (λ ps. take 32 ((codes "dd=" ++ next) ∷ (new_ot read-ot ps ++ passed read-ot ps))) (list-pieces dd ot ts w hd ∙ w.are)
      ∙ (λ i. take 32 ((codes "dd=" ++ next) ∷ (no-new i ++ same i)))
      ∙ take_all 32 ((codes "dd=" ++ next) ∷ w.others) (omega (arith, w.few))

  -- the list that is then written, as members
  pub members_again : (next : List ℕ) → Members next read-ot ((codes "dd=" ++ next) ∷ w.others)
  members_again next =
      record {
        others = w.others;
        members = w.members;
        are = refl;
        few = w.few;
        reads = w.reads;
        pass = pass_again (has_key (codes "ot") w.members) ot w.members refl w.pass;
      }

  -- and it says the same ot
  pub says_again : (next : List ℕ) → is_value next ≡ true → read_tracestate (joined_by 0x2C (written_members next read-ot (Some (joined_by 0x2C ts)))) ≡ Some (record { dd = Some next; ot = read-ot })
  unfolding members_again
  says_again next hn =
      ap (λ l. read_tracestate (joined_by 0x2C l)) (others_stay next)
      ∙ list-says next read-ot ((codes "dd=" ++ next) ∷ w.others) (members_again next) hn
      ∙ ap (λ o. Some (record { dd = Some next; ot = o })) (found_again (has_key (codes "ot") w.members) ot)
