-- No public contract names these: they are of private steps and of proofs.
use Rattle.std.specs.Prelude.{refl}
use Rattle.std.proofs.Common.{◌∙◌}
use Rattle.mt_io.specs.Private.Calls.{went_none, went_on, unlisted_first, unlisted_others}
use Rattle.mt_io.specs.declared.mem_source.MemSource.{MemSource}
use Rattle.mt_io.specs.MemSource.{HasGiven}

-- `given_none`, `given_on`: no read, and two runs of reads, keep what reads keep
pub given_none : (source : MemSource) → HasGiven source source
given_none source = record { same_bytes = refl; same_most = refl; calls = went_none source.calls; quiet = λ _. refl }

pub given_on : (a b c : MemSource) → HasGiven a b → HasGiven b c → HasGiven a c
given_on a b c ab bc = record {
  same_bytes = bc.same_bytes ∙ ab.same_bytes;
  same_most = bc.same_most ∙ ab.same_most;
  calls = went_on a.calls b.calls c.calls ab.calls bc.calls;
  quiet = λ none. bc.quiet (unlisted_others a.calls b.calls c.calls ab.calls none) ∙ ab.quiet (unlisted_first a.calls b.calls c.calls bc.calls none);
}
