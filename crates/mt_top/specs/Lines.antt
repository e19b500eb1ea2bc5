-- Lines answered one by one up to the last one.
use Rattle.std.specs.Prelude.{◌||◌, Bool}
use Rattle.mt_lines.specs.Given.{is_farewell}
use Rattle.mt_write.specs.declared.reply.Reply.{Reply}
use Rattle.mt_world.specs.Begun.{is_begin}

-- the reply that ends or begins a picture. After it no line is answered where the lines set a picture up.
abbrev pub ends_opening : Reply → Bool
ends_opening reply = is_farewell reply || is_begin reply
