-- The kind of a slot table: a row of places. Assumes nothing.
use Rattle.carrier.specs.Kinds.{Kind}
use Rattle.slots.specs.Places.{Places, shown, room, put, cut}
use Rattle.slots.specs.Rules.{shown_lawful, room_name, room_length, put_shows, put_keeps, cut_shows, cut_keeps}

abbrev pub slot_table : Kind
slot_table = record {
  Held = Places;
  shown = shown;
  room = room;
  put = put;
  cut = cut;
  shown_lawful = shown_lawful;
  room_name = room_name;
  room_length = room_length;
  put_shows = put_shows;
  put_keeps = put_keeps;
  cut_shows = cut_shows;
  cut_keeps = cut_keeps;
}
