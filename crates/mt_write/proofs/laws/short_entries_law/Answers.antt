use Rattle.mt_write.proofs.EntryLengths.{each_short, short_entry}
use Rattle.mt_write.proofs.laws.short_entries_law.Goals as goal

pub returns : goal.returns
returns c = record { one = short_entry; each = each_short }
