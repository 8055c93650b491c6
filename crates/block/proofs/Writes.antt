-- What a memory holds once lines were dropped from it and written to it. Assumes nothing.
use Rattle.std.proofs.Common.{◌≡◌, ℕ, ◌+◌, ◌≤◌, min, Bool, true, false, cond, not, ◌&&◌, leb, List, [], ◌∷◌, ◌++◌, length, take, sym, refl, ap, ◌∙◌, append-nil, arith, length-append, length-take}
use Rattle.std.proofs.lemmas.Bool.{and_parts, and_from, leb-true, cond-true}
use Rattle.std.specs.Str.{bytes_eq}
use Rattle.text.specs.Texts.{lawful}
use Rattle.carrier.specs.Names.{is_name}
use Rattle.carrier.specs.Lents.{in_memory, lent}
use Rattle.carrier.specs.Steps.{may, after_set}
use Rattle.block.specs.Edits.{Whole, Pushed}
use Rattle.block.specs.Parts.{owned_by}
use Rattle.block.specs.declared.writer.LineBlock.{LineBlock}
use Rattle.block.proofs.Taking.{line-length}
use Rattle.std.proofs.lemmas.Grind.{flat_map-append}
use Rattle.std.proofs.lemmas.List.{length-take-le}
use Rattle.std.proofs.lemmas.List.Folds.{list_all-append}
use Rattle.block.specs.Blocks.{block, shown_in, without, room_in, put_in, cut_in, own_block, opens}
use Rattle.block.specs.Kind.{blocks}
use Rattle.block.specs.Lines.{Line, line, lawful_line, all_lawful, line_text, block_text, lines_of, well_formed}
use Rattle.block.specs.Openings.{LeftBy}
use Rattle.block.proofs.Roads.{text-within}
use Rattle.block.proofs.Walks.{lines-lawful, lines_of-text, well_formed_is, well_formed_only}

-- lawful lines in front of a memory are what it holds
holds-lines : (new : List ℕ) (r m : ℕ) (ls : List Line) → length new ≡ m → r ≤ 65536 → all_lawful ls ≡ true → take r new ≡ block_text ls → own_block new r ≡ block m ls
holds-lines new r m ls long small good text =
    let whole : min r 65536 ≡ r = omega arith in
    (λ i. block (long i) (lines_of (take (whole i) new))) ∙ ap (λ s. block m (lines_of s)) text ∙ ap (block m) (lines_of-text ls good)

without-lawful : (n : List ℕ) (ls : List Line) → all_lawful ls ≡ true → all_lawful (without n ls) ≡ true
without-lawful n [] h = refl
without-lawful n (l ∷ ls) h = let good = and_parts (lawful_line l) (all_lawful ls) h in by (bytes_eq l.name n) good.0 (without-lawful n ls good.1) where
  by : (t : Bool) → lawful_line l ≡ true → all_lawful (without n ls) ≡ true → all_lawful (cond (not t) (l ∷ without n ls) (without n ls)) ≡ true
  by true a b = b
  by false a b = and_from (lawful_line l) (all_lawful (without n ls)) a b

pub without_shorter : (n : List ℕ) (ls : List Line) → length (block_text (without n ls)) ≤ length (block_text ls)
without_shorter n [] = omega arith
without_shorter n (l ∷ ls) = by (bytes_eq l.name n) (without_shorter n ls) where
  by : (t : Bool) → length (block_text (without n ls)) ≤ length (block_text ls) → length (block_text (cond (not t) (l ∷ without n ls) (without n ls))) ≤ length (line_text l ++ block_text ls)
  by true h = omega (arith, length-append (line_text l) (block_text ls))
  by false h = omega (arith, length-append (line_text l) (block_text ls), length-append (line_text l) (block_text (without n ls)))

module _ (old : List ℕ) (len : ℕ) (n : List ℕ) where
  abbrev others : List Line
  others = without n (lines_of (take (min len 65536) old))

  others-short : length (block_text others) ≤ 65536
  others-short =
      let s = take (min len 65536) old in
      omega (arith, without_shorter n (lines_of s), text-within s, length-take (min len 65536) old)

  others-lawful : all_lawful others ≡ true
  others-lawful = without-lawful n _ (lines-lawful (take (min len 65536) old))

  pub removed : (new : List ℕ) (r : ℕ) → length new ≡ length old → take r new ≡ block_text others → r ≡ length (block_text others) → own_block new r ≡ cut_in (own_block old len) n
  removed new r long text size = let small = others-short in holds-lines new r (length old) others long (omega arith) others-lawful text

  module _ (v mid new : List ℕ) (end r : ℕ) (good : true ≡ is_name n) (fine : true ≡ lawful v) (room : true ≡ room_in (own_block old len) n (length v)) where
    room-left : length (block_text others) + (length n + length v + 4) ≤ 65536
    room-left =
        let fits = leb-true _ _ (and_parts (leb (length v) 16384) _ (and_parts (is_name n) _ (sym room)).1).1 in
        omega (arith, fits)

    put-lawful : all_lawful (others ++ line n v ∷ []) ≡ true
    unfolding lawful_line
    put-lawful = list_all-append lawful_line others (line n v ∷ []) ∙ and_from (all_lawful others) _ others-lawful (and_from (lawful_line (line n v)) true (and_from (is_name n) (lawful v) (sym good) (sym fine)) refl)

    pub written : length new ≡ length old → take end mid ≡ block_text others → end ≡ length (block_text others) → take r new ≡ take end mid ++ line_text (line n v) → r ≡ end + (length n + length v + 4) → own_block new r ≡ put_in (own_block old len) n v
    written long text size more last =
        let fits = room-left in
        let whole : take r new ≡ block_text (others ++ line n v ∷ []) =
        more ∙ ap (λ s. s ++ line_text (line n v)) text ∙ ap (λ s. block_text others ++ s) (sym (append-nil (line_text (line n v)))) ∙ sym (flat_map-append line_text others (line n v ∷ [])) in
        holds-lines new r (length old) (others ++ line n v ∷ []) long (omega arith) put-lawful whole

-- a set that is taken: the lines of the name go, and one is added
pub set_is : (old mid new : LineBlock) (n v : List ℕ) → true ≡ is_name n → true ≡ lawful v → true ≡ room_in (owned_by old).own n (length v)
    → owned_by mid ≡ (lent blocks).cut (owned_by old) n → Whole mid → Pushed mid new (line_text (line n v)) → owned_by new ≡ after_set (lent blocks) (owned_by old) n v
set_is old mid new n v good fine room cut whole pushed =
    let text = whole.text ∙ ap (λ h. block_text h.own.lines) cut in
    let size = sym (length-take-le mid.len mid.memory.now whole.within) ∙ ap length text in
    let long = pushed.long ∙ ap (λ h. h.own.memory) cut in
    let memory = pushed.memory ∙ ap (λ h. h.memory) cut in
    let put = written old.memory.now old.len n v mid.memory.now new.memory.now mid.len new.len good fine room long text size pushed.text (pushed.end ∙ ap (λ k. mid.len + k) (line-length (line n v))) in
    (λ i. in_memory (memory i) (put i))
    ∙ sym (cond-true (may n v && room_in (owned_by old).own n (length v)) ((lent blocks).put (owned_by old) n v) (owned_by old) (and_from (may n v) (room_in (owned_by old).own n (length v)) (and_from (is_name n) (lawful v) (sym good) (sym fine)) (sym room)))

-- the lines of a memory as a text
pub left_by : (m s : List ℕ) (len : ℕ) (front : List ℕ) → front ≡ take (min len 65536) m → s ≡ block_text (lines_of front) → LeftBy (own_block m len) s
left_by m s len front e f =
    let lines = ap lines_of e in
    let short : length s ≤ 65536 = omega (arith, ap length f, text-within front, ap length e, length-take (min len 65536) m) in
    let room : length s ≤ length m = omega (arith, ap length f, text-within front, ap length e, length-take (min len 65536) m) in
    let read = well_formed_only s (lines_of front) (record { whole = f; are_lawful = lines-lawful front; small = short }) in
    record { text = f ∙ ap block_text lines; fits = room; opens = read.0; reads = read.1 ∙ lines; shows = λ n. ap (λ ls. shown_in ls n) (read.1 ∙ lines) }

-- the lines of what was opened are all of its bytes
pub opened_whole : (m : List ℕ) (len : ℕ) → true ≡ opens m len → block_text (lines_of (take (min len 65536) m)) ≡ take len m
opened_whole m len e =
    let parts = and_parts (leb len (length m)) (well_formed (take len m)) (sym e) in
    let found = well_formed_is (take len m) parts.1 in
    let within = leb-true len (length m) parts.0 in
    let small : min len 65536 ≡ len = omega (arith, found.small, length-take len m) in
    ap (λ n. block_text (lines_of (take n m))) small ∙ sym found.whole
