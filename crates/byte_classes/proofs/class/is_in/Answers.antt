use Rattle.std.proofs.Common.{arith}
use Rattle.byte_classes.specs.Sets.{text, blank, space, digit, hex, any_hex, name, letter_or_digit, tracestate_key, tracestate_value, tag_key_replaced, tag_value_replaced, datadog_key, datadog_value, equals, tilde}
use Rattle.byte_classes.proofs.Rows.{rows}
use Rattle.byte_classes.proofs.Table.{table_rule, below, agree}
use Rattle.byte_classes.proofs.class.is_in.Goals as goal

pub returns : goal.returns
unfolding rows below agree text blank space digit hex any_hex name letter_or_digit tracestate_key tracestate_value tag_key_replaced tag_value_replaced datadog_key datadog_value equals tilde
returns c = table_rule {table = rows} c.args.class c.args.b c.bit.result c.bit.ensures (omega arith) (record { text = tt; blank = tt; space = tt; digit = tt; hex = tt; any_hex_lem = tt; name = tt; letter_or_digit_lem = tt; tracestate_key_lem = tt; tracestate_value_lem = tt; tag_key_replaced_lem = tt; tag_value_replaced_lem = tt; datadog_key_lem = tt; datadog_value_lem = tt; equals = tt; tilde = tt })
