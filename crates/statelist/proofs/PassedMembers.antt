-- The members of a written list: dd's first, then up to 31 that pass as they stand. Assumes nothing.
use Rattle.std.proofs.Common.{◌≡◌, ℕ, ◌≤◌, true, false, not, ◌||◌, List, [], ◌∷◌, ◌++◌, length, take, drop, Some, None, codes, Option, sym, refl, ap, ◌∙◌, arith}
use Rattle.std.proofs.ByRecursion.{All-append, All-take}
use Rattle.std.proofs.lemmas.Slice.Eq.{bytes_eq-Decides}
use Rattle.std.proofs.lemmas.List.{length-take}
use Rattle.std.proofs.lemmas.Bool.{cond_both, cond-false, and_parts, not-true, false≢true}
use Rattle.std.specs.List.{AllByRecursion}
use Rattle.std.specs.Str.{bytes_eq}
use Rattle.text.specs.Trims.{trimmed}
use Rattle.tracestate.specs.Members.{Pair, pair, member_of}
use Rattle.statelist.specs.Laws.{LawfulOt}
use Rattle.statelist.specs.Written.{carried_pieces, is_ot, passes, passed_if, passed, carries_ot, new_ot, written_members}
use Rattle.statelist.proofs.JoinedMembers.{Reads, none, more}
use Rattle.statelist.proofs.LawfulMember.{ot-member}

-- a text that is a lawful member and is passed on
pub record Passes (ot : Option (List ℕ)) (t : List ℕ) : Type 0 where
  pub member : Pair
  pub is : member_of t ≡ Some member
  pub goes : passes ot member ≡ true

pass_if : (ot : Option (List ℕ)) (t : List ℕ) (o : Option Pair) (rest : List (List ℕ)) → member_of t ≡ o → AllByRecursion (Passes ot) rest → AllByRecursion (Passes ot) (passed_if ot t o rest)
pass_if ot t None rest e h = h
pass_if ot t (Some m) rest e h = cond_both (passes ot m) (t ∷ rest) rest (AllByRecursion (Passes ot)) (λ go. (record { member = m; is = e; goes = go }, h)) (λ _. h)

pub all_pass : (ot : Option (List ℕ)) (ps : List (List ℕ)) → AllByRecursion (Passes ot) (passed ot ps)
unfolding passed
all_pass ot [] = tt
all_pass ot (p ∷ ps) = pass_if ot (trimmed p) (member_of (trimmed p)) (passed ot ps) refl (all_pass ot ps)

pub new-passes : (ot : Option (List ℕ)) (ps : List (List ℕ)) → LawfulOt ot → AllByRecursion (Passes ot) (new_ot ot ps)
new-passes None ps h = tt
new-passes (Some v) ps h = cond_both (carries_ot v ps) [] ((codes "ot=" ++ v) ∷ []) (AllByRecursion (Passes (Some v))) (λ _. tt) (λ _. (record { member = pair (codes "ot", v); is = ot-member v h; goes = (bytes_eq-Decides v v).1 refl }, tt))

-- what is known of the members of a written list, before they are joined
pub record Members (dd : List ℕ) (ot : Option (List ℕ)) (ts : List (List ℕ)) : Type 0 where
  pub others : List (List ℕ)
  pub members : List Pair
  pub are : ts ≡ (codes "dd=" ++ dd) ∷ others
  pub few : length others ≤ 31
  pub reads : Reads others members
  pub pass : AllByRecursion (λ m. passes ot m ≡ true) members

members-by : (dd : List ℕ) (ot : Option (List ℕ)) (ts : List (List ℕ)) → length ts ≤ 31 → AllByRecursion (Passes ot) ts → Members dd ot ((codes "dd=" ++ dd) ∷ ts)
members-by dd ot [] few h = record { others = []; members = []; are = refl; few = few; reads = none; pass = tt }
members-by dd ot (t ∷ ts) few h =
    let rest = members-by dd ot ts (omega arith) h.1 in
    let same : ts ≡ rest.others = ap (drop 1) rest.are in
    record {
      others = t ∷ rest.others;
      members = h.0.member ∷ rest.members;
      are = ap (λ l. (codes "dd=" ++ dd) ∷ (t ∷ l)) same;
      few = omega (arith, ap length same);
      reads = more h.0.is rest.reads;
      pass = (h.0.goes, rest.pass);
    }

pub written_are : (dd : List ℕ) (ot list : Option (List ℕ)) → LawfulOt ot → Members dd ot (written_members dd ot list)
unfolding written_members
written_are dd ot list h =
    let ps = carried_pieces list in
    let ts = new_ot ot ps ++ passed ot ps in
    members-by dd ot (take 31 ts) (omega (arith, length-take 31 ts)) (All-take (Passes ot) 31 ts (All-append (Passes ot) (new_ot ot ps) (passed ot ps) (new-passes ot ps h) (all_pass ot ps)))

-- an ot value that is not carried is the second member
pub new_second : (dd v : List ℕ) (list : Option (List ℕ)) → carries_ot v (carried_pieces list) ≡ false → written_members dd (Some v) list ≡ (codes "dd=" ++ dd) ∷ ((codes "ot=" ++ v) ∷ take 30 (passed (Some v) (carried_pieces list)))
unfolding written_members
new_second dd v list e =
    let ps = carried_pieces list in
    ap (λ l. take 32 ((codes "dd=" ++ dd) ∷ (l ++ passed (Some v) ps))) (cond-false (carries_ot v ps) [] ((codes "ot=" ++ v) ∷ []) e)

-- what a member that passes is not, and what it has
pub pass_not-dd : (ot : Option (List ℕ)) (m : Pair) → passes ot m ≡ true → bytes_eq m.key (codes "dd") ≡ false
pass_not-dd ot m h = not-true (bytes_eq m.key (codes "dd")) (and_parts _ _ h).0

is_value_lem : (ot : Option (List ℕ)) (v : List ℕ) → is_ot ot v ≡ true → Some v ≡ ot
is_value_lem None v e = absurd (false≢true e)
is_value_lem (Some o) v e = ap Some (sym ((bytes_eq-Decides o v).0 e))

pub pass_ot : (ot : Option (List ℕ)) (m : Pair) → passes ot m ≡ true → bytes_eq m.key (codes "ot") ≡ true → Some m.value ≡ ot
pass_ot ot m h e =
    let or-value : (not (bytes_eq m.key (codes "ot")) || is_ot ot m.value) ≡ true = (and_parts _ _ h).1 in
    is_value_lem ot m.value (sym (ap (λ t. not t || is_ot ot m.value) e) ∙ or-value)
