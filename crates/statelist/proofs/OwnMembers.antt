-- What the reader finds of our own in a written list. Assumes nothing.
use Rattle.std.proofs.Common.{◌≡◌, ℕ, Bool, true, false, cond, ◌||◌, List, [], ◌∷◌, ◌++◌, Some, None, codes, Option, sym, refl, ap, ◌∙◌, arith}
use Rattle.std.proofs.ByRecursion.{All-weaker}
use Rattle.std.proofs.lemmas.Slice.Eq.{bytes_eq-Decides}
use Rattle.std.proofs.lemmas.Bool.{both_ways, or_left}
use Rattle.std.specs.Option.{option_map}
use Rattle.std.specs.List.{AllByRecursion}
use Rattle.std.specs.Str.{bytes_eq}
use Rattle.text.specs.Laws.{joined_by}
use Rattle.text.specs.Splits.{pieces}
use Rattle.tracestate.specs.Items.{has_key}
use Rattle.tracestate.specs.Lists.{Found, counting, found, tracestate, read_tracestate}
use Rattle.tracestate.specs.Members.{Pair, pair, is_value, member_of, newer, value_at}
use Rattle.statelist.specs.Written.{passes}
use Rattle.statelist.proofs.JoinedMembers.{Reads, more, joined-pieces, joined-read}
use Rattle.statelist.proofs.LawfulMember.{dd-member}
use Rattle.statelist.proofs.PassedMembers.{Members, pass_not-dd, pass_ot}

agreed_step : (t u : Bool) (v : List ℕ) (o : Option (List ℕ)) → (t ≡ true → Some v ≡ o) → newer (cond u o None) (cond t (Some v) None) ≡ cond (t || u) o None
agreed_step true u v None h = absurd (cc (h refl))
agreed_step true true v (Some w) h = refl
agreed_step true false v (Some w) h = h refl
agreed_step false true v None h = refl
agreed_step false true v (Some w) h = refl
agreed_step false false v None h = refl
agreed_step false false v (Some w) h = refl

-- where all members of a key have one value, that value counts
pub counting_agreed : (key : List ℕ) (o : Option (List ℕ)) (ms : List Pair) → AllByRecursion (λ m. bytes_eq m.key key ≡ true → Some m.value ≡ o) ms → counting key ms ≡ cond (has_key key ms) o None
unfolding counting
counting_agreed key o [] h = refl
counting_agreed key o (m ∷ ms) h = ap (λ x. newer x (value_at key m)) (counting_agreed key o ms h.1) ∙ agreed_step (bytes_eq m.key key) (has_key key ms) m.value o h.0

abbrev says : Option (List ℕ) → Option (List ℕ) → Found
says d o = record { dd = d; ot = o }

module _ (dd : List ℕ) (ot : Option (List ℕ)) (ms : List Pair) (pass : AllByRecursion (λ m. passes ot m ≡ true) ms) where
  -- no other member has dd's key
  pub dd_agrees : AllByRecursion (λ m. bytes_eq m.key (codes "dd") ≡ true → Some m.value ≡ Some dd) (pair (codes "dd", dd) ∷ ms)
  dd_agrees = ((λ _. refl), All-weaker (λ m. passes ot m ≡ true) (λ m. bytes_eq m.key (codes "dd") ≡ true → Some m.value ≡ Some dd) (λ m h e. absurd (both_ways (bytes_eq m.key (codes "dd")) (pass_not-dd ot m h) e)) ms pass)

  -- all members of ot's key have the ot value
  pub ot_agrees : AllByRecursion (λ m. bytes_eq m.key (codes "ot") ≡ true → Some m.value ≡ ot) (pair (codes "dd", dd) ∷ ms)
  ot_agrees = ((λ e. absurd (both_ways false refl e)), All-weaker (λ m. passes ot m ≡ true) (λ m. bytes_eq m.key (codes "ot") ≡ true → Some m.value ≡ ot) (pass_ot ot) ms pass)

  pub own-found : found (pair (codes "dd", dd) ∷ ms) ≡ says (Some dd) (cond (has_key (codes "ot") ms) ot None)
  own-found = λ i. says (counting_agreed (codes "dd") (Some dd) (pair (codes "dd", dd) ∷ ms) dd_agrees i) (counting_agreed (codes "ot") ot (pair (codes "dd", dd) ∷ ms) ot_agrees i)

module _ (dd : List ℕ) (ot : Option (List ℕ)) (ts : List (List ℕ)) (w : Members dd ot ts) (h : is_value dd ≡ true) where
  pub list-reads : Reads ((codes "dd=" ++ dd) ∷ w.others) (pair (codes "dd", dd) ∷ w.members)
  list-reads = more (dd-member dd h) w.reads

  pub list-pieces : pieces 0x2C (joined_by 0x2C ts) ≡ ts
  list-pieces = ap (λ l. pieces 0x2C (joined_by 0x2C l)) w.are ∙ joined-pieces list-reads ∙ sym w.are

  pub list_read : tracestate (joined_by 0x2C ts) ≡ Some (pair (codes "dd", dd) ∷ w.members)
  list_read = ap (λ l. tracestate (joined_by 0x2C l)) w.are ∙ joined-read list-reads w.few

  pub list-says : read_tracestate (joined_by 0x2C ts) ≡ Some (says (Some dd) (cond (has_key (codes "ot") w.members) ot None))
  list-says = ap (option_map found) list_read ∙ ap Some (own-found dd ot w.members w.pass)

-- a first text of that key is a member of that key
pub first_has : {t : List ℕ} {ts : List (List ℕ)} {ms : List Pair} (key v : List ℕ) → Reads (t ∷ ts) ms → member_of t ≡ Some (pair (key, v)) → has_key key ms ≡ true
first_has key v (more {t} {m} {ts} {ms} e r) k =
    let same : m ≡ pair (key, v) = cc in
    or_left (bytes_eq m.key key) (has_key key ms) (ap (λ p. bytes_eq p.key key) same ∙ (bytes_eq-Decides key key).1 refl)
