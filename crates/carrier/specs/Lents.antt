-- A kind in lent memory: what is held, and which memory it is. Nothing that is shown, taken or left depends on the memory, and every
-- step stays in it, so that its lender knows what it holds in the end. Assumes nothing.
use Rattle.std.specs.Borrow.{GName}
use Rattle.carrier.specs.Kinds.{Kind}

pub record Lent (H : Type 0) : Type 0 where
  pub memory : GName
  pub own : H

abbrev pub in_memory : {H : Type 0} → GName → H → Lent H
in_memory m h = record { memory = m; own = h }

abbrev pub lent : Kind → Kind
lent K = record {
  Held = Lent K.Held;
  shown = λ h. K.shown h.own;
  room = λ h. K.room h.own;
  put = λ h n v. in_memory h.memory (K.put h.own n v);
  cut = λ h n. in_memory h.memory (K.cut h.own n);
  shown_lawful = λ h. K.shown_lawful h.own;
  room_name = λ h. K.room_name h.own;
  room_length = λ h. K.room_length h.own;
  put_shows = λ h. K.put_shows h.own;
  put_keeps = λ h. K.put_keeps h.own;
  cut_shows = λ h. K.cut_shows h.own;
  cut_keeps = λ h. K.cut_keeps h.own;
}
