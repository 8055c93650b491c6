use Rattle.std.proofs.Common.{◌++◌, List, map, take, filter, refl, sym, ap, ◌∙◌, rules, tests, Bor}
use Rattle.std.proofs.lemmas.Iterator.{YieldsList-from_take, YieldsList-from_map_by}
use Rattle.std.proofs.lemmas.Iterator.Consumers.{YieldsList-at, YieldsList-from_filter, YieldsList-from_first}
use Rattle.std.specs.Option.{option_map}
use Rattle.text.specs.Cursors.{left}
use Rattle.text.specs.Splits.{pieces}
use Rattle.text.specs.Trims.{trimmed}
use Rattle.statelist.specs.Choosing.{given, passes_on}
use Rattle.statelist.specs.Placing.{followed}
use Rattle.statelist.specs.Writing.{so_far}
use Rattle.statelist.specs.Written.{carried_pieces, passed}
use Rattle.statelist.proofs.Follows.{passing, no_list, one_more, no_more}
use Rattle.statelist.proofs.Places.{stops}
use Rattle.statelist.proofs.Turns.{came, ended}
use Rattle.tracestate.specs.Members.{member_of}
use Rattle.statelist.proofs.writer.ListWriter.put_carried.Goals as goal

pub returns-in_default-clause-added : goal.returns-in_default-clause-added
returns-in_default-clause-added c =
    let ot = given c.args.passing in
    let none = ap (λ o. take c.args.most (passed ot (carried_pieces (option_map (λ x. x.now) o)))) c.in_default.is ∙ no_list ot c.args.most in
    no_more (so_far c.args.self.now) none refl

pub loop-member-init : goal.loop-member-init
loop-member-init c =
    let ot = given c.args.passing in
    let ps = pieces 0x2C c.in-Some.list.now in
    let from = ap (λ o. carried_pieces (option_map (λ x. x.now) o)) c.in-Some.is in
    record {
      same = refl;
      left = take c.args.most (filter (λ t. passes_on ot (member_of t)) (map trimmed ps));
      gives = YieldsList-at c.into_iter-member-iterator.ensures.into_iter_gives (YieldsList-from_take c.args.most
          (YieldsList-at c.take-members.ensures.source (YieldsList-from_filter _ (λ t. passes_on ot (member_of t))
          (YieldsList-at c.filter.ensures.source (YieldsList-from_map_by _ (λ (x : Bor (List _)). x.now) trimmed (YieldsList-at c.map.ensures.source (YieldsList-from_first (λ x. x.now) left ps c.new.ensures)) c.map.ensures.closure (λ x r q k. search (rules, tests))))
          c.filter.ensures.closure (λ x b q k. search (rules, tests))))
          c.take-members.ensures.count);
      added = ap (λ ms. so_far c.args.self.now ++ followed (take c.args.most ms)) (passing ot ps ∙ ap (passed ot) (sym from));
    }

pub loop-member-preserved : goal.loop-member-preserved
loop-member-preserved c =
    let held = c.loop-member.invariant in
    let turn = came held.gives c.next.new.self c.in-Some-member.member c.in-Some-member.ensures.steps in
    record {
      same = c.put_member.ensures.same ∙ held.same;
      left = turn.0;
      gives = turn.2;
      added = ap (λ t. t ++ followed turn.0) c.in_ok-put_member.ensures.added ∙ one_more _ turn.1 held.added;
    }

pub returns-in_err-put_member-clause-added : goal.returns-in_err-put_member-clause-added
returns-in_err-put_member-clause-added c =
    let held = c.loop-member.invariant in
    let turn = came held.gives c.next.new.self c.in-Some-member.member c.in-Some-member.ensures.steps in
    rw c.from_residual.ensures (stops _ _ _ (one_more _ turn.1 held.added) c.in_err-put_member.ensures.added)

pub returns-clause-added : goal.returns-clause-added
returns-clause-added c =
    let held = c.loop-member.invariant in
    no_more _ (ended held.gives c.next.new.self c.in-None.ensures.steps) held.added
