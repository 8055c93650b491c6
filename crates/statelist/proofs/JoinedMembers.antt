-- Texts of lawful members, joined by commas: what is read of them, and how long they are. Assumes nothing.
use Rattle.std.proofs.Common.{◌≡◌, ℕ, suc, ◌+◌, ◌*◌, ◌<◌, ◌≤◌, Bool, true, eqb, ltb, List, [], ◌∷◌, map, length, take, Some, refl, ap, ◌∙◌, suc-mul, arith, length-append}
use Rattle.std.proofs.lemmas.List.{take_all}
use Rattle.std.proofs.lemmas.Bool.{and_from, cond-true, cond-false, ne_eqb, lt-ltb}
use Rattle.std.specs.List.{AllByRecursion, list_all}
use Rattle.byte_classes.specs.Sets.{text}
use Rattle.text.specs.Laws.{Lacks, joined_by}
use Rattle.text.specs.Splits.{pieces}
use Rattle.text.specs.Trims.{trimmed}
use Rattle.text.proofs.Alls.{all_append}
use Rattle.text.proofs.Joins.{pieces_only}
use Rattle.tracestate.specs.Lists.{with_member, members_of, tracestate}
use Rattle.tracestate.specs.Members.{Pair, member_of}
use Rattle.statelist.specs.Laws.{member_texts}
use Rattle.statelist.proofs.LawfulMember.{member_sizes, member_no_comma, member-text, member-trimmed}

-- texts, and the members that they are
pub data Reads : List (List ℕ) → List Pair → Type 0 where
  none : Reads [] []
  more : {t : List ℕ} {m : Pair} {ts : List (List ℕ)} {ms : List Pair} → member_of t ≡ Some m → Reads ts ms → Reads (t ∷ ts) (m ∷ ms)

pub reads-map : {ts : List (List ℕ)} {ms : List Pair} → Reads ts ms → map member_of ts ≡ map Some ms
reads-map none = refl
reads-map (more e r) = λ i. e i ∷ reads-map r i

pub reads-length : {ts : List (List ℕ)} {ms : List Pair} → Reads ts ms → length ms ≡ length ts
reads-length none = refl
reads-length (more e r) = ap suc (reads-length r)

-- what holds of each text of a lawful member holds of all of them
pub reads_all : (P : List ℕ → Type 0) → ((t : List ℕ) (m : Pair) → member_of t ≡ Some m → P t) → {ts : List (List ℕ)} {ms : List Pair} → Reads ts ms → AllByRecursion P ts
reads_all P f none = tt
reads_all P f (more {t} {m} e r) = (f t m e, reads_all P f r)

-- the members, as the reader has them
pub members-read : {ts : List (List ℕ)} {ms : List Pair} → Reads ts ms → members_of ts ≡ Some ms
members-read none = refl
members-read (more {t} {m} {ts} {ms} e r) =
    let off = member-trimmed t m e in
    let long : 0 < length (trimmed t) = omega (arith, (member_sizes t m e).0, ap length off) in
    cond-false (eqb (length (trimmed t)) 0) (members_of ts) (with_member (member_of (trimmed t)) (members_of ts)) (ne_eqb (length (trimmed t)) 0 (λ z. omega arith))
    ∙ (λ i. with_member ((ap member_of off ∙ e) i) (members-read r i))

-- no blanks to take off, and none empty
pub members_stand : {ts : List (List ℕ)} {ms : List Pair} → Reads ts ms → member_texts ts ≡ ts
unfolding member_texts
members_stand none = refl
members_stand (more {t} {m} {ts} {ms} e r) =
    let off = member-trimmed t m e in
    let long : 0 < length (trimmed t) = omega (arith, (member_sizes t m e).0, ap length off) in
    cond-true (ltb 0 (length (trimmed t))) (trimmed t ∷ member_texts ts) (member_texts ts) (lt-ltb 0 (length (trimmed t)) long)
    ∙ (λ i. off i ∷ members_stand r i)

-- the texts between the commas are these texts
pub joined-pieces : {t : List ℕ} {m : Pair} {ts : List (List ℕ)} {ms : List Pair} → Reads (t ∷ ts) (m ∷ ms) → pieces 0x2C (joined_by 0x2C (t ∷ ts)) ≡ t ∷ ts
joined-pieces {t} {m} {ts} {ms} r = pieces_only 0x2C t ts (reads_all (Lacks 0x2C) member_no_comma r)

pub joined-read : {t : List ℕ} {m : Pair} {ts : List (List ℕ)} {ms : List Pair} → Reads (t ∷ ts) (m ∷ ms) → length ts ≤ 31 → tracestate (joined_by 0x2C (t ∷ ts)) ≡ Some (m ∷ ms)
unfolding tracestate
joined-read {t} {m} {ts} {ms} r few = ap (λ ps. members_of (take 32 ps)) (joined-pieces r) ∙ ap members_of (take_all 32 (t ∷ ts) (omega arith)) ∙ members-read r

-- a test that all bytes pass, the separator too
pub joined-all : (q : ℕ → Bool) (c : ℕ) → q c ≡ true → (ts : List (List ℕ)) → AllByRecursion (λ t. list_all q t ≡ true) ts → list_all q (joined_by c ts) ≡ true
joined-all q c e [] h = refl
joined-all q c e (t ∷ []) h = h.0
joined-all q c e (t ∷ (u ∷ us)) h = all_append q t (c ∷ joined_by c (u ∷ us)) h.0 (and_from (q c) (list_all q (joined_by c (u ∷ us))) e (joined-all q c e (u ∷ us) h.1))

pub joined-text : {ts : List (List ℕ)} {ms : List Pair} → Reads ts ms → list_all text (joined_by 0x2C ts) ≡ true
unfolding text
joined-text {ts} r = joined-all text 0x2C refl ts (reads_all (λ t. list_all text t ≡ true) member-text r)

-- a first text, and some of up to n bytes, each after a separator
pub joined_length : (c n : ℕ) (t : List ℕ) (ts : List (List ℕ)) → AllByRecursion (λ u. length u ≤ n) ts → length (joined_by c (t ∷ ts)) ≤ length t + length ts * (n + 1)
joined_length c n t [] h = omega arith
joined_length c n t (u ∷ us) h =
    let rest = joined_length c n u us h.1 in
    omega (arith, length-append t (c ∷ joined_by c (u ∷ us)), suc-mul (length us) (n + 1), h.0)
