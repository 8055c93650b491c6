-- How a traceparent is written. Assumes nothing.
use Rattle.std.specs.Prelude.{ℕ, Bool, cond, List, ◌++◌, codes}
use Rattle.number.specs.Numbers.{hex_text}
use Rattle.trace.specs.declared.ids.TraceId.{TraceId}

abbrev pub flags_text : Bool → List ℕ
flags_text keep = cond keep (codes "01") (codes "00")

-- version 00, the halves of the trace id, the span id and the flags
unfoldable pub traceparent_text : TraceId → ℕ → Bool → List ℕ
traceparent_text id span keep = codes "00-" ++ (hex_text 16 id.high ++ (hex_text 16 id.low ++ (codes "-" ++ (hex_text 16 span ++ (codes "-" ++ flags_text keep)))))
