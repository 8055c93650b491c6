use Rattle.std.proofs.Common.{refl}
use Rattle.byte_classes.specs.Sets.{blank, letter_or_digit, space, tracestate_key, tracestate_value}
use Rattle.text.specs.Splits.{pieces, split_once}
use Rattle.text.specs.Takes.{stripped}
use Rattle.text.specs.Trims.{trimmed, without_back, without_front}
use Rattle.tracestate.specs.Items.{heard, items, tags}
use Rattle.tracestate.specs.Lists.{counting, tracestate}
use Rattle.tracestate.specs.Members.{is_key, is_part, is_value, member_of}
use Rattle.tracestate.proofs.laws.cases_hold.Goals as goal

pub returns : goal.returns
unfolding blank letter_or_digit space tracestate_key tracestate_value pieces split_once stripped trimmed without_back without_front heard items tags counting tracestate is_key is_part is_value member_of
returns c =
    record {
      two_members = refl;
      no_members = refl;
      empty_key = refl;
      no_equals = refl;
      no_value = refl;
      second_equals = refl;
      fourteen = refl;
      fifteen = refl;
      last_counts = refl;
      later_item = refl;
      later_tag = refl;
    }
