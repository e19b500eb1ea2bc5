use Rattle.std.proofs.Common.{ℕ, List, sym, ap}
use Rattle.json.proofs.OnLiterals.{json_on_literals}
use Rattle.mt_base.specs.declared.command.Refusal.{Refusal}
use Rattle.mt_write.specs.declared.reply.Reply.TheVariants as reply
use Rattle.mt_write.specs.Reply.{reply_text}
use Rattle.mt_write.proofs.Putting.{puts_is}
use Rattle.mt_write.proofs.refused.put_refused.Goals as goal

abbrev text_of : ℕ → Refusal → List ℕ
text_of version refusal = reply_text (reply.Refused refusal version)

pub returns-in-HeldCall : goal.returns-in-HeldCall
unfolding json_on_literals
returns-in-HeldCall c = puts_is c.put_versioned.result c.args.out.now c.put_versioned.new.out _ _ (ap (text_of c.args.version) (sym c.in-HeldCall.is)) c.put_versioned.ensures

pub returns-in-UnknownCall : goal.returns-in-UnknownCall
unfolding json_on_literals
returns-in-UnknownCall c = puts_is c.put_unknown.result c.args.out.now c.put_unknown.new.out _ _ (ap (text_of c.args.version) (sym c.in-UnknownCall.is)) c.put_unknown.ensures

pub returns-in-UnknownType : goal.returns-in-UnknownType
unfolding json_on_literals
returns-in-UnknownType c = puts_is c.put_unknown-in-UnknownType.result c.args.out.now c.put_unknown-in-UnknownType.new.out _ _ (ap (text_of c.args.version) (sym c.in-UnknownType.is)) c.put_unknown-in-UnknownType.ensures

pub returns-in-UnknownFix : goal.returns-in-UnknownFix
unfolding json_on_literals
returns-in-UnknownFix c = puts_is c.put_unknown-in-UnknownFix.result c.args.out.now c.put_unknown-in-UnknownFix.new.out _ _ (ap (text_of c.args.version) (sym c.in-UnknownFix.is)) c.put_unknown-in-UnknownFix.ensures

pub returns-in-RouteShort : goal.returns-in-RouteShort
unfolding json_on_literals
returns-in-RouteShort c = puts_is c.put_bad_route.result c.args.out.now c.put_bad_route.new.out _ _ (ap (text_of c.args.version) (sym c.in-RouteShort.is)) c.put_bad_route.ensures

pub returns-in-RouteLong : goal.returns-in-RouteLong
unfolding json_on_literals
returns-in-RouteLong c = puts_is c.put_bad_route-in-RouteLong.result c.args.out.now c.put_bad_route-in-RouteLong.new.out _ _ (ap (text_of c.args.version) (sym c.in-RouteLong.is)) c.put_bad_route-in-RouteLong.ensures

pub returns-in-RouteTwice : goal.returns-in-RouteTwice
unfolding json_on_literals
returns-in-RouteTwice c = puts_is c.put_bad_route-in-RouteTwice.result c.args.out.now c.put_bad_route-in-RouteTwice.new.out _ _ (ap (text_of c.args.version) (sym c.in-RouteTwice.is)) c.put_bad_route-in-RouteTwice.ensures

pub returns-in-Full : goal.returns-in-Full
unfolding json_on_literals
returns-in-Full c = puts_is c.put_versioned-in-Full.result c.args.out.now c.put_versioned-in-Full.new.out _ _ (ap (text_of c.args.version) (sym c.in-Full.is)) c.put_versioned-in-Full.ensures

pub returns-in-HistoryFull : goal.returns-in-HistoryFull
unfolding json_on_literals
returns-in-HistoryFull c = puts_is c.put_versioned-in-HistoryFull.result c.args.out.now c.put_versioned-in-HistoryFull.new.out _ _ (ap (text_of c.args.version) (sym c.in-HistoryFull.is)) c.put_versioned-in-HistoryFull.ensures

pub returns-in-Backward : goal.returns-in-Backward
unfolding json_on_literals
returns-in-Backward c = puts_is c.put_versioned-in-Backward.result c.args.out.now c.put_versioned-in-Backward.new.out _ _ (ap (text_of c.args.version) (sym c.in-Backward.is)) c.put_versioned-in-Backward.ensures

pub returns-in-Old : goal.returns-in-Old
unfolding json_on_literals
returns-in-Old c = puts_is c.put_versioned-in-Old.result c.args.out.now c.put_versioned-in-Old.new.out _ _ (ap (text_of c.args.version) (sym c.in-Old.is)) c.put_versioned-in-Old.ensures

pub returns-in-Future : goal.returns-in-Future
unfolding json_on_literals
returns-in-Future c = puts_is c.put_versioned-in-Future.result c.args.out.now c.put_versioned-in-Future.new.out _ _ (ap (text_of c.args.version) (sym c.in-Future.is)) c.put_versioned-in-Future.ensures

pub returns-in-Ended : goal.returns-in-Ended
unfolding json_on_literals
returns-in-Ended c = puts_is c.put_versioned-in-Ended.result c.args.out.now c.put_versioned-in-Ended.new.out _ _ (ap (text_of c.args.version) (sym c.in-Ended.is)) c.put_versioned-in-Ended.ensures

pub returns-in-NotAhead : goal.returns-in-NotAhead
unfolding json_on_literals
returns-in-NotAhead c = puts_is c.put_versioned-in-NotAhead.result c.args.out.now c.put_versioned-in-NotAhead.new.out _ _ (ap (text_of c.args.version) (sym c.in-NotAhead.is)) c.put_versioned-in-NotAhead.ensures

pub returns-in-Ceiling : goal.returns-in-Ceiling
unfolding json_on_literals
returns-in-Ceiling c = puts_is c.put_versioned-in-Ceiling.result c.args.out.now c.put_versioned-in-Ceiling.new.out _ _ (ap (text_of c.args.version) (sym c.in-Ceiling.is)) c.put_versioned-in-Ceiling.ensures

pub returns-in-TentativeHeld : goal.returns-in-TentativeHeld
unfolding json_on_literals
returns-in-TentativeHeld c = puts_is c.put_held.result c.args.out.now c.put_held.new.out _ _ (ap (text_of c.args.version) (sym c.in-TentativeHeld.is)) c.put_held.ensures

pub returns-in-NoTentative : goal.returns-in-NoTentative
unfolding json_on_literals
returns-in-NoTentative c = puts_is c.put_versioned-in-NoTentative.result c.args.out.now c.put_versioned-in-NoTentative.new.out _ _ (ap (text_of c.args.version) (sym c.in-NoTentative.is)) c.put_versioned-in-NoTentative.ensures

pub returns-in-NotOwner : goal.returns-in-NotOwner
unfolding json_on_literals
returns-in-NotOwner c = puts_is c.put_versioned-in-NotOwner.result c.args.out.now c.put_versioned-in-NotOwner.new.out _ _ (ap (text_of c.args.version) (sym c.in-NotOwner.is)) c.put_versioned-in-NotOwner.ensures

pub returns-in-NoProbe : goal.returns-in-NoProbe
unfolding json_on_literals
returns-in-NoProbe c = puts_is c.put_versioned-in-NoProbe.result c.args.out.now c.put_versioned-in-NoProbe.new.out _ _ (ap (text_of c.args.version) (sym c.in-NoProbe.is)) c.put_versioned-in-NoProbe.ensures

pub returns-in-NotFree : goal.returns-in-NotFree
unfolding json_on_literals
returns-in-NotFree c = puts_is c.put_versioned-in-NotFree.result c.args.out.now c.put_versioned-in-NotFree.new.out _ _ (ap (text_of c.args.version) (sym c.in-NotFree.is)) c.put_versioned-in-NotFree.ensures

pub returns-in-Stale : goal.returns-in-Stale
unfolding json_on_literals
returns-in-Stale c = puts_is c.put_line.result c.args.out.now c.put_line.new.out _ _ (ap (text_of c.args.version) (sym c.in-Stale.is)) c.put_line.ensures

pub returns-in-NotDue : goal.returns-in-NotDue
unfolding json_on_literals
returns-in-NotDue c = puts_is c.put_versioned-in-NotDue.result c.args.out.now c.put_versioned-in-NotDue.new.out _ _ (ap (text_of c.args.version) (sym c.in-NotDue.is)) c.put_versioned-in-NotDue.ensures

pub returns-in-Fixed : goal.returns-in-Fixed
unfolding json_on_literals
returns-in-Fixed c = puts_is c.put_versioned-in-Fixed.result c.args.out.now c.put_versioned-in-Fixed.new.out _ _ (ap (text_of c.args.version) (sym c.in-Fixed.is)) c.put_versioned-in-Fixed.ensures
