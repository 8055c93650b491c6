-- What a store is to its caller, and what each call answers and leaves. Assumes nothing.
use Rattle.std.specs.Prelude.{ℕ, Bool, true, false, cond, ◌&&◌, List, [], ◌++◌, length, None, codes, Ok, Err, Option, Result, nat_le}
use Rattle.std.specs.Option.{unwrap_or}
use Rattle.text.specs.Texts.{lawful}
use Rattle.store.specs.declared.faults.StoreFault.{StoreFault}
use Rattle.store.specs.declared.faults.StoreFault.TheVariants.{Unlawful, Full}
use Rattle.store.specs.Tags.{Tag, flat, placed, without, ascends, all_lawful}

-- a refusal's number
abbrev pub number : StoreFault → ℕ
number Unlawful = 10
number Full = 11

-- what it says
abbrev pub fault_text : StoreFault → List ℕ
fault_text Unlawful = codes "unlawful text or number"
fault_text Full = codes "memory too small"

-- the limits of a store, and what it holds: an origin, an ot value that was given, and tags
pub record Contents : Type 0 where
  pub max_tags : ℕ
  pub max_bytes : ℕ
  pub origin : Option (List ℕ)
  pub ot : Option (List ℕ)
  pub tags : List Tag

-- nothing held
abbrev pub empty : ℕ → ℕ → Contents
empty tags bytes = record { max_tags = tags; max_bytes = bytes; origin = None; ot = None; tags = [] }

-- the same with another origin, ot value or tags
abbrev pub with_origin : Contents → Option (List ℕ) → Contents
with_origin c origin = record { max_tags = c.max_tags; max_bytes = c.max_bytes; origin = origin; ot = c.ot; tags = c.tags }

abbrev pub with_ot : Contents → Option (List ℕ) → Contents
with_ot c ot = record { max_tags = c.max_tags; max_bytes = c.max_bytes; origin = c.origin; ot = ot; tags = c.tags }

abbrev pub with_tags : Contents → List Tag → Contents
with_tags c tags = record { max_tags = c.max_tags; max_bytes = c.max_bytes; origin = c.origin; ot = c.ot; tags = tags }

-- the text in use, which is all that counts against the text bytes: origin, ot value, keys and values
abbrev pub text_of : Contents → List ℕ
text_of c = unwrap_or c.origin [] ++ (unwrap_or c.ot [] ++ flat c.tags)

-- the tags do not outnumber the records, and the text in use does not pass the text bytes
unfoldable pub fits : Contents → Bool
fits c = nat_le (length c.tags) c.max_tags && nat_le (length (text_of c)) c.max_bytes

-- what a store may hold: keys in order, each once, and lawful text only
unfoldable pub sound : Contents → Bool
sound c = (ascends c.tags && all_lawful c.tags) && (lawful (unwrap_or c.origin []) && lawful (unwrap_or c.ot []))

-- the answer to a change, by whether its text is lawful and whether its outcome fits
abbrev pub verdict : Bool → Bool → Result (Unit {0}) StoreFault
verdict false room = Err Unlawful
verdict true false = Err Full
verdict true true = Ok tt

-- the answer to a change into next, whose text is lawful or not
abbrev pub answer : Bool → Contents → Result (Unit {0}) StoreFault
answer good next = verdict good (fits next)

-- what such a change of c leaves
abbrev pub after : Bool → Contents → Contents → Contents
after good next c = cond (good && fits next) next c

-- putting a tag
unfoldable pub put_answer : Contents → List ℕ → List ℕ → Result (Unit {0}) StoreFault
put_answer c k v = answer (lawful k && lawful v) (with_tags c (placed k v c.tags))

unfoldable pub after_put : Contents → List ℕ → List ℕ → Contents
after_put c k v = after (lawful k && lawful v) (with_tags c (placed k v c.tags)) c

-- removing a tag
unfoldable pub after_remove : Contents → List ℕ → Contents
after_remove c k = with_tags c (without k c.tags)

-- setting or dropping the origin
unfoldable pub origin_answer : Contents → Option (List ℕ) → Result (Unit {0}) StoreFault
origin_answer c origin = answer (lawful (unwrap_or origin [])) (with_origin c origin)

unfoldable pub after_origin : Contents → Option (List ℕ) → Contents
after_origin c origin = after (lawful (unwrap_or origin [])) (with_origin c origin) c

-- giving or dropping the ot value
unfoldable pub ot_answer : Contents → Option (List ℕ) → Result (Unit {0}) StoreFault
ot_answer c ot = answer (lawful (unwrap_or ot [])) (with_ot c ot)

unfoldable pub after_ot : Contents → Option (List ℕ) → Contents
after_ot c ot = after (lawful (unwrap_or ot [])) (with_ot c ot) c

-- clearing all
abbrev pub cleared : Contents → Contents
cleared c = empty c.max_tags c.max_bytes
