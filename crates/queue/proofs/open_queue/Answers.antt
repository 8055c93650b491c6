use Rattle.std.proofs.Common.{◌≡◌, Ok, Err, Result, refl}
use Rattle.std.specs.Result.{IsOk}
use Rattle.byte_classes.specs.Sets.{name}
use Rattle.prefix.specs.Prefixes.{is_prefix, made, prefix_answer}
use Rattle.prefix.specs.declared.prefixes.Prefix.{Prefix}
use Rattle.prefix.specs.declared.prefixes.UnlawfulPrefix.{UnlawfulPrefix}
use Rattle.queue.specs.declared.TheConstants.{QUEUE_PREFIX}
use Rattle.queue.proofs.open_queue.Goals as goal

-- the prefix of a queue's headers is lawful
lawful : (r : Result Prefix UnlawfulPrefix) → made r ≡ prefix_answer QUEUE_PREFIX.now → IsOk r
unfolding name is_prefix
lawful (Ok prefix) e = refl
lawful (Err fault) e = absurd (cc)

pub unwrap-prefix-requires : goal.unwrap-prefix-requires
unwrap-prefix-requires c = lawful c.new.result c.new.ensures
