-- What the W3C headers say to an extract. Assumes nothing.
use Rattle.std.specs.Prelude.{ℕ, Bool, cond, not, ◌&&◌, ◌||◌, List, [], ◌∷◌, ◌++◌, map, ℤ, Some, None, Ok, Err, codes, Option, Result}
use Rattle.std.specs.Option.{option_and_then, option_map_or, option_to_list, unwrap_or}
use Rattle.byte_classes.specs.Sets.{tilde}
use Rattle.text.specs.Texts.{replaced}
use Rattle.text.specs.Trims.{trimmed}
use Rattle.number.specs.Numbers.{small}
use Rattle.trace.specs.Traces.{keeps, level}
use Rattle.traceparent.specs.Reads.{header_traceparent}
use Rattle.traceparent.specs.declared.read.Traceparent.{Traceparent}
use Rattle.traceparent.specs.declared.read.TraceparentFault.{TraceparentFault}
use Rattle.tracestate.specs.Items.{heard, items, tags}
use Rattle.tracestate.specs.Lists.{Found, read_tracestate}
use Rattle.tracestate.specs.Members.{Pair}
use Rattle.fault.specs.Faults.{parent_cause}
use Rattle.fault.specs.declared.Cause.{Cause}
use Rattle.fault.specs.declared.Cause.TheVariants as cause
use Rattle.propagation.specs.Changes.{Change, put, remove, origin}
use Rattle.propagation.specs.Extracts.{Told}

-- in the value of an item, `~` reads as `=`
unfoldable pub decoded : List ℕ → List ℕ
decoded v = map (replaced tilde 0x3D) v

-- the items of the dd value that counts
abbrev pub items_in : Option (List ℕ) → List Pair
items_in value = option_map_or items value []

-- a tag item `t.` becomes a tag `_dd.p.`
abbrev pub tag_change : Pair → Change
tag_change t = put (codes "_dd.p." ++ t.key) (decoded t.value)

-- the change that an item makes, if it is there
abbrev pub if_told : (List ℕ → Change) → Option (List ℕ) → List Change
if_told f value = map (λ v. f (decoded v)) (option_to_list value)

-- a readable priority that keeps exactly as the flags do
abbrev pub same : Bool → Bool → Bool
same a b = (a && b) || (not a && not b)

abbrev pub if_agrees : ℤ → Option ℤ → Option ℤ
if_agrees flags number = option_and_then (λ z. cond (same (keeps z) (keeps flags)) (Some z) None) number

abbrev pub agreeing : ℤ → Option (List ℕ) → Option ℤ
agreeing flags value = option_and_then (λ s. if_agrees flags (small (decoded s))) value

-- where none agrees, the flags decide, and say so as the default mechanism or by none
abbrev pub decision : ℤ → Option ℤ → List Change
decision flags (Some z) = []
decision flags None = cond (keeps flags) (put (codes "_dd.p.dm") (codes "-0") ∷ []) (remove (codes "_dd.p.dm") ∷ [])

abbrev pub decided : ℤ → Option ℤ → ℤ
decided flags agreed = unwrap_or agreed flags

-- the priority that the s item gives, if it counts
abbrev pub s_priority : ℤ → Found → Option ℤ
s_priority flags f = agreeing flags (heard (items_in f.dd)).priority

-- the changes that a lawful tracestate makes, in their order
abbrev pub state_fill : ℤ → List ℕ → Found → List Change
state_fill flags raw f =
    put (codes "tracestate") raw
    ∷ (map tag_change (tags (items_in f.dd))
    ++ (if_told (put (codes "_dd.parent_id")) (heard (items_in f.dd)).parent
    ++ (if_told origin (heard (items_in f.dd)).origin
    ++ decision flags (s_priority flags f))))

abbrev pub told : Traceparent → List ℕ → ℤ → List Change → Told
told t value priority fill =
    record { trace = t.trace_id; span = t.span_id; priority = Some priority; fill = put (codes "traceparent") value ∷ fill }

-- a tracestate that is not shown or unlawful says nothing
abbrev pub told_if : Traceparent → List ℕ → List ℕ → Option Found → Told
told_if t value raw None = told t value (level t.sampling_priority) []
told_if t value raw (Some f) =
    told t value (decided (level t.sampling_priority) (s_priority (level t.sampling_priority) f)) (state_fill (level t.sampling_priority) raw f)

abbrev pub told_with : Traceparent → List ℕ → Option (List ℕ) → Told
told_with t value None = told t value (level t.sampling_priority) []
told_with t value (Some raw) = told_if t value raw (read_tracestate raw)

abbrev pub told_by : Result Traceparent TraceparentFault → List ℕ → Option (List ℕ) → Result Told Cause
told_by (Err f) value state = Err (parent_cause f)
told_by (Ok t) value state = Ok (told_with t value state)

-- what the two headers say, each shown or not
unfoldable pub w3c_told : Option (List ℕ) → Option (List ℕ) → Result Told Cause
w3c_told None state = Err cause.NotShown
w3c_told (Some parent) state = told_by (header_traceparent parent) (trimmed parent) state
