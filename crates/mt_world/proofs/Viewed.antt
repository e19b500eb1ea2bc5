-- What is told of a flight.
use Rattle.std.proofs.Common.{◌≡◌, ap, refl, sym, Option, Some, None, List, ℕ, length}
use Rattle.std.specs.Option.{option_map}
use Rattle.mt_base.specs.declared.command.Refusal.TheVariants.{UnknownCall}
use Rattle.mt_base.specs.declared.flight.FlightView.{FlightView}
use Rattle.mt_base.specs.declared.flight.Record.{Record}
use Rattle.mt_base.specs.View.{view_of}
use Rattle.mt_write.specs.declared.reply.Reply.{Reply}
use Rattle.mt_write.specs.declared.reply.Reply.TheVariants as replies
use Rattle.mt_world.specs.World.{IsFlightTold, World, picture_of, setup_of}

-- a flight is there
pub there : (w : World) (call : List ℕ) (sec : Option ℕ) (found : Option Record) (view : FlightView)
    → option_map (view_of (setup_of w) (picture_of w) sec) found ≡ Some view → IsFlightTold w call sec found (replies.Flight view) w
there w call sec (Some flight) view is = let same : view_of (setup_of w) (picture_of w) sec flight ≡ view = cc in record { reply_is = ap replies.Flight (sym same); next_is = refl }
there w call sec None view is = cc

-- none is
pub not_there : (w : World) (call : List ℕ) (sec : Option ℕ) (found : Option Record) (reply : Reply)
    → option_map (view_of (setup_of w) (picture_of w) sec) found ≡ None → reply ≡ replies.Refused (UnknownCall call) (length w.history)
    → IsFlightTold w call sec found reply w
not_there w call sec (Some flight) reply is told = cc
not_there w call sec None reply is told = record { reply_is = told; same = refl }
