-- The kind of line blocks. Assumes nothing.
use Rattle.carrier.specs.Kinds.{Kind}
use Rattle.block.specs.Blocks.{Block, shown_in, room_in, put_in, cut_in}
use Rattle.block.specs.Kept.{shown_lawful, room_name, room_length, put_shows, put_keeps, cut_shows, cut_keeps}

abbrev pub blocks : Kind
blocks = record {
  Held = Block;
  shown = λ h. shown_in h.lines;
  room = room_in;
  put = put_in;
  cut = cut_in;
  shown_lawful = shown_lawful;
  room_name = room_name;
  room_length = room_length;
  put_shows = put_shows;
  put_keeps = put_keeps;
  cut_shows = cut_shows;
  cut_keeps = cut_keeps;
}
