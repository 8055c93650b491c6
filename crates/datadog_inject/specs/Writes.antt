-- What a Datadog inject of a context puts and sets, and what it answers. Assumes nothing.
use Rattle.std.specs.Prelude.{ℕ, Bool, cond, not, ◌&&◌, List, [], ◌∷◌, ◌++◌, map, length, ℤ, is_some, Some, None, Ok, Err, codes, filter, Option, Result, ◌==◌, nat_lt}
use Rattle.std.specs.List.{list_all}
use Rattle.byte_classes.specs.Sets.{datadog_key, datadog_value}
use Rattle.text.specs.Laws.{joined_by}
use Rattle.text.specs.Takes.{stripped}
use Rattle.number.specs.Numbers.{decimal_text, hex_text, mechanism_text, small_text}
use Rattle.trace.specs.declared.ids.TraceId.{TraceId}
use Rattle.carrier.specs.Kinds.{Kind}
use Rattle.fault.specs.Faults.{store_cause}
use Rattle.fault.specs.declared.Cause.{Cause}
use Rattle.fault.specs.declared.Cause.TheVariants as cause
use Rattle.fault.specs.declared.Header.TheVariants as header
use Rattle.store.specs.declared.faults.StoreFault.{StoreFault}
use Rattle.store.specs.Contents.{Contents}
use Rattle.store.specs.Tags.{Tag}
use Rattle.context.specs.Contexts.{Context, with_store}
use Rattle.propagation.specs.Changes.{Change, put, remove, changes}
use Rattle.propagation.specs.Settings.{Setting, setting, datadog_names, unset_all, set_all}
use Rattle.datadog_inject.specs.Answers.{word}
use Rattle.datadog_inject.specs.declared.answer.TagsAnswer.{TagsAnswer}
use Rattle.datadog_inject.specs.declared.answer.TagsAnswer.TheVariants as tags

-- the high half travels as a tag; an id up to 64 bits has none
abbrev pub tid_changes : TraceId → List Change
tid_changes id = cond (id.high == 0) (remove (codes "_dd.p.tid") ∷ []) (put (codes "_dd.p.tid") (hex_text 16 id.high) ∷ [])

abbrev pub mechanism_changes : Option ℕ → List Change
mechanism_changes None = []
mechanism_changes (Some m) = put (codes "_dd.p.dm") (mechanism_text m) ∷ []

-- the changes before the first set
abbrev pub first_changes : Context → List Change
first_changes c = tid_changes c.trace ++ mechanism_changes c.mechanism

-- the tags that are sent on, and their text
abbrev pub is_sent : Tag → Bool
is_sent t = is_some (stripped (codes "_dd.p.") t.0)

unfoldable pub sent_tags : List Tag → List Tag
sent_tags ts = filter is_sent ts

abbrev pub tag_text : Tag → List ℕ
tag_text t = t.0 ++ (codes "=" ++ t.1)

unfoldable pub tags_text : List Tag → List ℕ
tags_text ts = joined_by 0x2C (map tag_text (sent_tags ts))

-- what the header can hold
abbrev pub encodable : Tag → Bool
encodable t = list_all datadog_key t.0 && list_all datadog_value t.1

-- what is answered, by the limit and the tags
unfoldable pub tags_answer : ℕ → List Tag → TagsAnswer
tags_answer limit ts =
    cond (limit == 0) tags.Disabled
    (cond (nat_lt limit (length (tags_text ts))) tags.InjectMaxSize
    (cond (not (list_all encodable (sent_tags ts))) tags.EncodingError
    (cond (length (sent_tags ts) == 0) tags.NothingToSend tags.Sent)))

-- the headers in their order
abbrev pub origin_setting : Option (List ℕ) → List Setting
origin_setting None = []
origin_setting (Some o) = setting header.Origin o ∷ []

abbrev pub priority_setting : Option ℤ → List Setting
priority_setting None = []
priority_setting (Some z) = setting header.SamplingPriority (small_text z) ∷ []

abbrev pub tags_setting : TagsAnswer → List ℕ → List Setting
tags_setting tags.Sent text = setting header.Tags text ∷ []
tags_setting tags.NothingToSend text = []
tags_setting tags.Disabled text = []
tags_setting tags.InjectMaxSize text = []
tags_setting tags.EncodingError text = []

abbrev pub datadog_settings : Context → TagsAnswer → List Tag → List Setting
datadog_settings c a ts =
    setting header.TraceId (decimal_text c.trace.low)
    ∷ setting header.ParentId (decimal_text c.span)
    ∷ (origin_setting c.store.origin ++ (priority_setting c.priority ++ tags_setting a (tags_text ts)))

-- the change after the last set
abbrev pub error_changes : Option (List ℕ) → List Change
error_changes None = []
error_changes (Some w) = put (codes "_dd.propagation_error") w ∷ []

-- a limit above 1,024, or too few work bytes
abbrev pub datadog_refusal : ℕ → ℕ → Option Cause
datadog_refusal limit work = cond (nat_lt 1024 limit) (Some cause.Unlawful) (cond (nat_lt work 16384) (Some cause.MemoryTooSmall) None)

-- what the call answers and leaves: the context, and what the carrier holds
pub record Injected (H : Type 0) : Type 0 where
  pub answer : Result TagsAnswer Cause
  pub context : Context
  pub held : H

abbrev pub injected : {H : Type 0} → Result TagsAnswer Cause → Context → H → Injected H
injected r c h = record { answer = r; context = c; held = h }

module _ (K : Kind) where
  -- a refusal leaves none of the five names; changes that were made stay
  abbrev pub refused : Cause → Context → K.Held → Injected K.Held
  refused why c h = injected (Err why) c (unset_all K datadog_names h)

  abbrev pub last_step : TagsAnswer → Context → K.Held → Result (Unit {0}) StoreFault → Contents → Injected K.Held
  last_step a c h (Ok _) s = injected (Ok a) (with_store c s) h
  last_step a c h (Err f) s = refused (store_cause f) (with_store c s) h

  abbrev pub after_sets : TagsAnswer → Context → Result (Unit {0}) Cause → K.Held → Injected K.Held
  after_sets a c (Ok _) h = last_step a c h (changes (error_changes (word a)) c.store).answer (changes (error_changes (word a)) c.store).store
  after_sets a c (Err why) h = refused why c h

  abbrev pub set_step : TagsAnswer → Context → K.Held → Injected K.Held
  set_step a c h =
      after_sets a c (set_all K (datadog_settings c a c.store.tags) h).answer (set_all K (datadog_settings c a c.store.tags) h).held

  abbrev pub after_changes : ℕ → Context → K.Held → Result (Unit {0}) StoreFault → Contents → Injected K.Held
  after_changes limit c h (Ok _) s = set_step (tags_answer limit s.tags) (with_store c s) h
  after_changes limit c h (Err f) s = refused (store_cause f) (with_store c s) h

  abbrev pub inject_by : Option Cause → ℕ → Context → K.Held → Injected K.Held
  inject_by (Some why) limit c h = refused why c h
  inject_by None limit c h =
      after_changes limit c (unset_all K datadog_names h) (changes (first_changes c) c.store).answer (changes (first_changes c) c.store).store

  abbrev pub datadog_inject : ℕ → ℕ → Context → K.Held → Injected K.Held
  datadog_inject limit work c h = inject_by (datadog_refusal limit work) limit c h

-- the answer that was tried, defined also where the call is then refused
abbrev pub tried : ℕ → Context → TagsAnswer
tried limit c = tags_answer limit (changes (first_changes c) c.store).store.tags
