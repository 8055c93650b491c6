use Rattle.std.proofs.Common.{◌++◌, take, ap, ◌∙◌, subst}
use Rattle.statelist.specs.Choosing.{given, listed}
use Rattle.statelist.specs.Placing.{followed}
use Rattle.statelist.specs.Writing.{Added, so_far}
use Rattle.statelist.proofs.Follows.{tail, dd_first, ot_second, no_ot, others}
use Rattle.statelist.proofs.Places.{stops}
use Rattle.statelist.proofs.writer.ListWriter.put_list.Goals as goal

pub returns-in_err-put_member-clause-added : goal.returns-in_err-put_member-clause-added
returns-in_err-put_member-clause-added c =
    let first = dd_first (given c.args.passing) (listed c.args.passing) (so_far c.args.self.now) c.args.dd.now in
    rw c.from_residual.ensures (stops _ _ _ first c.in_err-put_member.ensures.added)

pub returns-in_err-put_member-in-Some-clause-added : goal.returns-in_err-put_member-in-Some-clause-added
returns-in_err-put_member-in-Some-clause-added c =
    let ot = given c.args.passing in
    let list = listed c.args.passing in
    let first = ap (λ t. t ++ tail ot list) c.in_ok-put_member.ensures.added ∙ dd_first ot list (so_far c.args.self.now) c.args.dd.now in
    rw c.from_residual-in_err-put_member-in-Some.ensures (stops _ _ _ (ot_second ot list _ c.in-Some.ensures first) c.in_err-put_member-in-Some.ensures.added)

pub returns-in_ok-put_member-in-Some-clause-added : goal.returns-in_ok-put_member-in-Some-clause-added
returns-in_ok-put_member-in-Some-clause-added c =
    let ot = given c.args.passing in
    let list = listed c.args.passing in
    let first = ap (λ t. t ++ tail ot list) c.in_ok-put_member.ensures.added ∙ dd_first ot list (so_far c.args.self.now) c.args.dd.now in
    let second = ap (λ t. t ++ followed (take 30 (others ot list))) c.in_ok-put_member-in-Some.ensures.added ∙ ot_second ot list _ c.in-Some.ensures first in
    subst (λ t. Added t c.put_carried.new.self c.put_carried.result) second c.put_carried.ensures.added

pub returns-in-None-clause-added : goal.returns-in-None-clause-added
returns-in-None-clause-added c =
    let ot = given c.args.passing in
    let list = listed c.args.passing in
    let first = ap (λ t. t ++ tail ot list) c.in_ok-put_member.ensures.added ∙ dd_first ot list (so_far c.args.self.now) c.args.dd.now in
    subst (λ t. Added t c.put_carried-in-None.new.self c.put_carried-in-None.result) (no_ot ot list _ c.in-None.ensures first) c.put_carried-in-None.ensures.added
