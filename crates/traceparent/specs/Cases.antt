-- The examples of docs/HEADERS.md on traceparent, of the definitions. Assumes nothing.
use Rattle.std.specs.Prelude.{◌≡◌, true, ℤ, pos, Ok, Err, codes, Result}
use Rattle.traceparent.specs.Reads.{read_traceparent}
use Rattle.traceparent.specs.Writes.{traceparent_text}
use Rattle.traceparent.specs.declared.read.Traceparent.{Traceparent}
use Rattle.traceparent.specs.declared.read.TraceparentFault.{TraceparentFault}
use Rattle.traceparent.specs.declared.read.TraceparentFault.TheVariants.{Shape, ZeroTraceId, ZeroSpanId, VersionFf, TailAfterVersion00}

-- halves 1 and 10, span id 183, and a priority
abbrev pub told : ℤ → Result Traceparent TraceparentFault
told priority = Ok (record { trace_id = record { high = 1; low = 10 }; span_id = 183; sampling_priority = record { value = priority } })

pub record Cases : Type 0 where
  pub plain : read_traceparent (codes "00-0000000000000001000000000000000a-00000000000000b7-01") ≡ told (pos 1)
  pub dash_added : read_traceparent (codes "00-0000000000000001000000000000000a-00000000000000b7-01-") ≡ Err TailAfterVersion00
  pub later_version : read_traceparent (codes "01-0000000000000001000000000000000a-00000000000000b7-01-") ≡ told (pos 1)
  pub all_flags : read_traceparent (codes "00-0000000000000001000000000000000a-00000000000000b7-ff") ≡ told (pos 1)
  pub flags_02 : read_traceparent (codes "00-0000000000000001000000000000000a-00000000000000b7-02") ≡ told (pos 0)
  pub no_dash : read_traceparent (codes "01-0000000000000001000000000000000a-00000000000000b7-01x") ≡ Err Shape
  pub capital : read_traceparent (codes "00-0000000000000001000000000000000A-00000000000000b7-01") ≡ Err Shape
  pub zero_first : read_traceparent (codes "ff-00000000000000000000000000000000-0000000000000000-01") ≡ Err ZeroTraceId
  pub span_next : read_traceparent (codes "ff-0000000000000001000000000000000a-0000000000000000-01") ≡ Err ZeroSpanId
  pub version_ff : read_traceparent (codes "ff-0000000000000001000000000000000a-00000000000000b7-01-x") ≡ Err VersionFf
  pub written : traceparent_text (record { high = 1; low = 10 }) 183 true ≡ codes "00-0000000000000001000000000000000a-00000000000000b7-01"
