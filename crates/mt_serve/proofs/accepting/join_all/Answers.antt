use Rattle.std.proofs.Common.{◌++◌, ◌∷◌, [], ◌∙◌, ap, arith}
use Rattle.std.proofs.lemmas.List.{append_assoc, map-append}
use Rattle.mt_serve.specs.Sitting.{starts_of}
use Rattle.mt_serve.proofs.accepting.join_all.Goals as goal

pub loop-sitting-preserved : goal.loop-sitting-preserved
loop-sitting-preserved g c =
    let dones = c.loop-sitting.dones.items in (
      rw (c.push_back_reserved.ensures.items, map-append (λ d. d.from) dones (c.finish-done.result ∷ []), c.finish-done.ensures, append_assoc)
          (c.loop-sitting.invariant.0 ∙ ap (λ rest. starts_of dones ++ rest) c.in-Some.ensures.items),
      omega (arith, c.loop-sitting.invariant.1, c.in-Some.ensures.len, c.push_back_reserved.ensures.len, c.push_back_reserved.ensures.capacity),
    )
