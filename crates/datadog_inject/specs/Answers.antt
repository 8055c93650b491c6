-- What a Datadog inject answers about its tags: a number for each case, and the word that is put for an error. Assumes nothing.
use Rattle.std.specs.Prelude.{ℕ, List, Some, None, codes, Option}
use Rattle.datadog_inject.specs.declared.answer.TagsAnswer.{TagsAnswer}
use Rattle.datadog_inject.specs.declared.answer.TagsAnswer.TheVariants as tags

abbrev pub number : TagsAnswer → ℕ
number tags.Sent = 0
number tags.NothingToSend = 1
number tags.Disabled = 2
number tags.InjectMaxSize = 3
number tags.EncodingError = 4

abbrev pub word : TagsAnswer → Option (List ℕ)
word tags.Sent = None
word tags.NothingToSend = None
word tags.Disabled = Some (codes "disabled")
word tags.InjectMaxSize = Some (codes "inject_max_size")
word tags.EncodingError = Some (codes "encoding_error")
