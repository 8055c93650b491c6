-- What the five Datadog headers say to an extract. Assumes nothing.
use Rattle.std.specs.Prelude.{ℕ, Bool, false, cond, List, [], ◌∷◌, ◌++◌, map, length, ℤ, pos, is_some, Some, None, Ok, Err, codes, Option, Result, ◌==◌, int_le, nat_lt}
use Rattle.std.specs.Option.{option_and_then, option_map_or, option_to_list, unwrap_or}
use Rattle.text.specs.Splits.{pieces, split_once}
use Rattle.text.specs.Takes.{stripped}
use Rattle.number.specs.Numbers.{number64, small, tid}
use Rattle.tracestate.specs.Members.{Pair, pair, last_value}
use Rattle.carrier.specs.Names.{Table}
use Rattle.fault.specs.declared.Cause.{Cause}
use Rattle.fault.specs.declared.Cause.TheVariants as cause
use Rattle.propagation.specs.Changes.{Change, put, remove, origin}
use Rattle.propagation.specs.Extracts.{Told}

-- the values that the five names show
pub record Shown : Type 0 where
  pub trace : Option (List ℕ)
  pub parent : Option (List ℕ)
  pub origin : Option (List ℕ)
  pub priority : Option (List ℕ)
  pub tags : Option (List ℕ)

-- what a carrier shows under the five names
abbrev pub shown_headers : Table → Shown
shown_headers t = record {
  trace = t (codes "x-datadog-trace-id");
  parent = t (codes "x-datadog-parent-id");
  origin = t (codes "x-datadog-origin");
  priority = t (codes "x-datadog-sampling-priority");
  tags = t (codes "x-datadog-tags");
}

-- a tag's key and value: a piece splits at its first `=`, and its key begins with `_dd.p.`
abbrev pub if_propagated : Option (List ℕ × List ℕ) → List Pair
if_propagated None = []
if_propagated (Some parts) = cond (is_some (stripped (codes "_dd.p.") parts.0)) (pair parts ∷ []) []

abbrev pub pairs_of : List (List ℕ) → List Pair
pairs_of [] = []
pairs_of (p ∷ ps) = if_propagated (split_once 0x3D p) ++ pairs_of ps

unfoldable pub tag_pairs : List ℕ → List Pair
tag_pairs text = pairs_of (pieces 0x2C text)

abbrev pub pair_change : Pair → Change
pair_change p = put p.key p.value

abbrev pub error : List ℕ → Change
error word = put (codes "_dd.propagation_error") word

-- a tid is well formed, or the tag becomes an error
abbrev pub well_formed : List ℕ → Bool
well_formed v = is_some (tid v)

abbrev pub tid_check : Option (List ℕ) → List Change
tid_check None = []
tid_check (Some v) = cond (well_formed v) [] (error (codes "malformed_tid " ++ v) ∷ remove (codes "_dd.p.tid") ∷ [])

-- a decision maker is a small number of at most 0, or the tag becomes an error
abbrev pub is_decision : Option ℤ → Bool
is_decision number = option_map_or (λ z. int_le z (pos 0)) number false

abbrev pub decision_check : Option (List ℕ) → List Change
decision_check None = []
decision_check (Some v) = cond (is_decision (small v)) [] (remove (codes "_dd.p.dm") ∷ error (codes "decoding_error") ∷ [])

-- the changes that the tags header makes: none is put where it is longer than the limit
abbrev pub pairs_fill : List Pair → List Change
pairs_fill ps = map pair_change ps ++ (tid_check (last_value (codes "_dd.p.tid") ps) ++ decision_check (last_value (codes "_dd.p.dm") ps))

abbrev pub too_long : ℕ → List ℕ
too_long limit = cond (limit == 0) (codes "disabled") (codes "extract_max_size")

unfoldable pub tags_fill : ℕ → List ℕ → List Change
tags_fill limit text = cond (nat_lt limit (length text)) (error (too_long limit) ∷ []) (pairs_fill (tag_pairs text))

abbrev pub origin_fill : Option (List ℕ) → List Change
origin_fill value = map origin (option_to_list value)

abbrev pub fill : ℕ → Shown → List Change
fill limit s = origin_fill s.origin ++ tags_fill limit (unwrap_or s.tags [])

-- the high half is the tid of the tags header, 0 if it has none or one that is malformed
abbrev pub tid_in : Option (List ℕ) → ℕ
tid_in value = unwrap_or (option_and_then tid value) 0

unfoldable pub high_half : ℕ → List ℕ → ℕ
high_half limit text = cond (nat_lt limit (length text)) 0 (tid_in (last_value (codes "_dd.p.tid") (tag_pairs text)))

abbrev pub told_at : ℕ → ℕ → Shown → Told
told_at limit low s = record {
  trace = record { high = high_half limit (unwrap_or s.tags []); low = low };
  span = unwrap_or (option_and_then number64 s.parent) 0;
  priority = option_and_then small s.priority;
  fill = fill limit s;
}

abbrev pub told_by : Option ℕ → ℕ → Shown → Result Told Cause
told_by None limit s = Err cause.UnreadableTraceId
told_by (Some low) limit s = cond (low == 0) (Err cause.ZeroDatadogTraceId) (Ok (told_at limit low s))

abbrev pub told_if : Option (List ℕ) → ℕ → Shown → Result Told Cause
told_if None limit s = Err cause.NotShown
told_if (Some v) limit s = told_by (number64 v) limit s

-- what the headers say: a limit above 1,024 is refused first
unfoldable pub datadog_told : ℕ → Shown → Result Told Cause
datadog_told limit s = cond (nat_lt 1024 limit) (Err cause.Unlawful) (told_if s.trace limit s)
