-- The laws of every written list. Assumes nothing.
use Rattle.std.proofs.Common.{◌≡◌, ℕ, ◌+◌, ◌≤◌, true, false, cond, List, ◌∷◌, ◌++◌, map, length, take, drop, Some, None, codes, filter, Option, sym, ap, ◌∙◌, subst, arith}
use Rattle.std.proofs.ByRecursion.{All-weaker}
use Rattle.std.proofs.lemmas.Slice.Eq.{bytes_eq-Decides}
use Rattle.std.proofs.lemmas.Bool.{both_ways, and_from, le-leb}
use Rattle.std.specs.Str.{bytes_eq}
use Rattle.byte_classes.specs.Sets.{text}
use Rattle.text.specs.Laws.{joined_by}
use Rattle.text.specs.Splits.{pieces}
use Rattle.std.specs.List.{list_all}
use Rattle.text.specs.Texts.{lawful}
use Rattle.tracestate.specs.Items.{has_key}
use Rattle.tracestate.specs.Members.{pair, is_value, member_of}
use Rattle.statelist.specs.Laws.{LawfulOt, member_texts, is_foreign, foreign_of, WrittenLawful, WrittenFits, ForeignKept, OwnReadBack, Settles}
use Rattle.statelist.specs.Written.{carried_pieces, passes, passed, carries_ot, written_members, written_list}
use Rattle.statelist.proofs.ForeignMembers.{cut_off, foreign_front, cut-full}
use Rattle.statelist.proofs.JoinedMembers.{Reads, reads_all, reads-map, reads-length, members_stand, joined-text, joined_length}
use Rattle.statelist.proofs.LawfulMember.{value_is, member_sizes, ot-member}
use Rattle.statelist.proofs.OwnMembers.{list-reads, list-pieces, list_read, list-says, ot_agrees, first_has}
use Rattle.statelist.proofs.PassedMembers.{Members, written_are, new_second, pass_not-dd}
use Rattle.statelist.proofs.SettledMembers.{found-lawful, read-ot, others_stay, says_again}

pub written-pieces : (dd : List ℕ) (ot list : Option (List ℕ)) → is_value dd ≡ true → LawfulOt ot → pieces 0x2C (written_list dd ot list) ≡ written_members dd ot list
unfolding written_list
written-pieces dd ot list hd ho = list-pieces dd ot (written_members dd ot list) (written_are dd ot list ho) hd

pub written_stand : (dd : List ℕ) (ot list : Option (List ℕ)) → is_value dd ≡ true → LawfulOt ot → member_texts (written_members dd ot list) ≡ written_members dd ot list
written_stand dd ot list hd ho =
    let ts = written_members dd ot list in
    let w = written_are dd ot list ho in
    ap member_texts w.are ∙ members_stand (list-reads dd ot ts w hd) ∙ sym w.are

pub written_lawful : WrittenLawful
unfolding written_list
written_lawful dd ot list hd ho =
    let ts = written_members dd ot list in
    let w = written_are dd ot list ho in
    let r = list-reads dd ot ts w hd in
    record {
      others = w.members;
      read = list_read dd ot ts w hd;
      few = omega (arith, reads-length w.reads, w.few);
      one_dd = All-weaker (λ m. passes ot m ≡ true) (λ m. m.key ≡ codes "dd" → ⊥) (λ m h e. both_ways (bytes_eq m.key (codes "dd")) (pass_not-dd ot m h) ((bytes_eq-Decides m.key (codes "dd")).1 e)) w.members w.pass;
      between_commas = list-pieces dd ot ts w hd;
      no_blanks = written_stand dd ot list hd ho;
      each_read = ap (map member_of) w.are ∙ reads-map r;
    }

-- dd's member, and the others, each after a comma
written_length : (dd : List ℕ) (ot list : Option (List ℕ)) → LawfulOt ot → length (written_list dd ot list) ≤ length dd + 15937
unfolding written_list
written_length dd ot list ho =
    let w = written_are dd ot list ho in
    let long = joined_length 0x2C 513 (codes "dd=" ++ dd) w.others (reads_all (λ t. length t ≤ 513) (λ t m e. (member_sizes t m e).1) w.reads) in
    omega (arith, long, w.few, ap (λ l. length (joined_by 0x2C l)) w.are)

pub written_fits : WrittenFits
unfolding written_list lawful
written_fits dd ot list hd ho =
    let ts = written_members dd ot list in
    let w = written_are dd ot list ho in
    let long = written_length dd ot list ho in
    let bytes = ap (λ l. list_all text (joined_by 0x2C l)) w.are ∙ joined-text (list-reads dd ot ts w hd) in
    record {
      short = λ h. omega arith;
      text = and_from _ _ (le-leb (length (joined_by 0x2C ts)) 16384 (omega (arith, long, (value_is dd hd).short))) bytes;
    }

pub foreign_kept : ForeignKept
unfolding foreign_of
foreign_kept dd ot list hd ho =
    let stand = ap member_texts (written-pieces dd ot list hd ho) ∙ written_stand dd ot list hd ho in
    record {
      left_out = cut_off dd ot list hd ho;
      front = foreign_front dd ot list hd ho ∙ ap (λ l. filter is_foreign l ++ cut_off dd ot list hd ho) (sym stand);
      or_full = rw stand (cut-full dd ot list hd ho);
    }

-- a new ot is read back
new_ot-read : (dd v : List ℕ) (ot list : Option (List ℕ)) → (w : Members dd ot (written_members dd ot list)) → LawfulOt ot → ot ≡ Some v → carries_ot v (carried_pieces list) ≡ false → has_key (codes "ot") w.members ≡ true
new_ot-read dd v ot list w ho e new =
    let second : w.others ≡ (codes "ot=" ++ v) ∷ take 30 (passed (Some v) (carried_pieces list)) =
    ap (drop 1) (sym w.are) ∙ ap (λ o. drop 1 (written_members dd o list)) e ∙ ap (drop 1) (new_second dd v list new) in
    first_has (codes "ot") v (subst (λ l. Reads l w.members) second w.reads) (ot-member v (subst LawfulOt e ho))

pub own_read_back : OwnReadBack
unfolding written_list
own_read_back dd ot list hd ho =
    let ts = written_members dd ot list in
    let w = written_are dd ot list ho in
    let members = pair (codes "dd", dd) ∷ w.members in
    let says = list-says dd ot ts w hd in
    record {
      members = members;
      read = list_read dd ot ts w hd;
      says = says;
      one_ot = All-weaker (λ m. bytes_eq m.key (codes "ot") ≡ true → Some m.value ≡ ot) (λ m. m.key ≡ codes "ot" → Some m.value ≡ ot) (λ m h e. h ((bytes_eq-Decides m.key (codes "ot")).1 e)) members (ot_agrees dd ot w.members w.pass);
      new_ot_stands = λ v e new. says ∙ (λ i. Some (record { dd = Some dd; ot = cond (new_ot-read dd v ot list w ho e new i) (e i) None }));
    }

pub settles : Settles
unfolding written_list
settles dd ot list hd ho =
    let ts = written_members dd ot list in
    let w = written_are dd ot list ho in
    let has = has_key (codes "ot") w.members in
    let again = others_stay dd ot ts w hd in
    record {
      found = record { dd = Some dd; ot = read-ot dd ot ts w hd };
      read = list-says dd ot ts w hd;
      ot_lawful = found-lawful has ot ho;
      others_stay = λ next. again next ∙ ap (λ l. (codes "dd=" ++ next) ∷ drop 1 l) (sym w.are);
      reads_again = says_again dd ot ts w hd;
      same_again = ap (joined_by 0x2C) (again dd ∙ sym w.are);
    }
