-- What is known of every store. Assumes nothing.
use Rattle.std.proofs.Common.{◌≡◌, ℕ, ◌≤◌, true, [], length, None, Option, sym, refl, ap, ◌∙◌}
use Rattle.store.specs.declared.in_use.InUse.{InUse}
use Rattle.store.specs.declared.memory.Span.{Span}
use Rattle.store.specs.declared.memory.Store.{Store}
use Rattle.store.specs.Contents.{Contents, empty, sound, text_of}
use Rattle.store.specs.Layout.{Small, Laid, contents}
use Rattle.store.specs.Stores.{held}
use Rattle.store.specs.Uses.{in_use, room}
use Rattle.store.proofs.InUses.{in_room}
use Rattle.store.proofs.Laying.{Lies, lies_from, lies_back, lies_laid, tags_size}
use Rattle.store.proofs.Sounds.{Sound, sound-parts, sound_from}

module _ (s : Store) where
  pub held_lies : Lies (in_use s.spans) (in_use s.text) (room s.spans) (room s.text) s.origin s.ot (held s)
  unfolding held
  held_lies = lies_from (in_use s.spans) (in_use s.text) (room s.spans) (room s.text) s.origin s.ot s.laid

  pub held-sound : Sound (held s)
  unfolding held
  held-sound = sound-parts _ s.good

  pub held_count : length (held s).tags ≡ length (in_use s.spans)
  held_count = tags_size held_lies

  pub held_used : length (text_of (held s)) ≡ length (in_use s.text)
  held_used = ap length (sym (held_lies).text-is)

  -- what is in use is within the memory, which is small
  pub record Bounds : Type 0 where
    pub used : length (in_use s.text) ≤ room s.text
    pub count : length (in_use s.spans) ≤ room s.spans
    pub small : room s.text ≤ 65536
    pub few : room s.spans ≤ 256

  pub bounds : Bounds
  bounds = record { used = in_room s.text; count = in_room s.spans; small = s.small.1; few = s.small.0 }

-- the memory of a store again, from what lies in it
abbrev pub Kept : InUse Span → InUse ℕ → Option ℕ → Option ℕ → Type 0
Kept spans text origin ot =
    record { small : Small (room spans) (room text); laid : Laid (in_use spans) (in_use text) origin ot; good : sound (contents (in_use spans) (in_use text) (room spans) (room text) origin ot) ≡ true }

pub kept : (spans : InUse Span) (text : InUse ℕ) {origin ot : Option ℕ} {c : Contents} → Lies (in_use spans) (in_use text) (room spans) (room text) origin ot c → Sound c
    → Small (room spans) (room text) → Kept spans text origin ot
kept spans text {c = c} lies good small = record { small = small; laid = lies_laid lies; good = ap sound (lies_back lies) ∙ sound_from c good }

-- nothing in use
pub empty_lies : (spans : InUse Span) (text : InUse ℕ) → in_use spans ≡ [] → in_use text ≡ [] → Lies (in_use spans) (in_use text) (room spans) (room text) None None (empty (room spans) (room text))
empty_lies spans text a b = record { records = a; text-is = b; origin-length = refl; ot-length = refl; tags-limit = refl; bytes-limit = refl }
