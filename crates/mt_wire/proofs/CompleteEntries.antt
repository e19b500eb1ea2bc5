-- The value of a complete entry: its texts are ASCII, and its numbers are held by 64 bits.
use Rattle.std.proofs.Common.{◌≡◌, ℕ, ℤ, pos, negsuc, neg_ℤ, ◌<◌, ◌^◌, true, List, [], ◌∷◌, Some, None, refl, arith}
use Rattle.std.specs.Prelude.{All}
use Rattle.std.proofs.lemmas.Int.{ints}
use Rattle.std.proofs.lemmas.List.Elements.{All-head, All-tail}
use Rattle.serde_json.specs.Data.{string, object}
use Rattle.mt_base.specs.declared.clearance.Clearance.TheVariants.{Level, Direct}
use Rattle.mt_base.specs.declared.command.Command.{Command}
use Rattle.mt_base.specs.declared.command.Command.TheVariants as command
use Rattle.mt_base.specs.Bounds.{IsBoundedCommand, IsWithin}
use Rattle.mt_base.specs.Complete.{HasNames, IsTimed}
use Rattle.mt_base.specs.Name.{IsFixName}
use Rattle.mt_write.specs.Entry.{entry_members, values, whole}
use Rattle.mt_wire.specs.Held.{HoldsWhole, ItemsHoldWhole}
use Rattle.mt_wire.proofs.PlainText.{are_plain, ascii_name, is_plain}

plain_names : (names : List (List ℕ)) → All IsFixName names → are_plain (values string names) ≡ true
plain_names [] each = refl
plain_names (name ∷ names) each =
    rw (ascii_name 2 5 name (All-head IsFixName name names each), plain_names names (All-tail IsFixName name names each)) refl

pub plain_entry : (who : ℕ) (c : Command) → HasNames c → is_plain (object (entry_members who c)) ≡ true
plain_entry who (command.Plan call kind route at from level rvsm) h = rw (ascii_name 1 7 call h.0, ascii_name 2 4 kind h.1, plain_names route h.2) refl
plain_entry who (command.External call straight) h = rw (ascii_name 1 7 call h) refl
plain_entry who (command.Drop call) h = rw (ascii_name 1 7 call h) refl
plain_entry who (command.Report call report) h = rw (ascii_name 1 7 call h) refl
plain_entry who (command.Tick now) h = refl
plain_entry who (command.Renew call) h = rw (ascii_name 1 7 call h) refl
plain_entry who (command.Clear call (Level level) eff) h = rw (ascii_name 1 7 call h.0) refl
plain_entry who (command.Clear call (Direct fix) eff) h = rw (ascii_name 1 7 call h.0, ascii_name 2 5 fix h.1) refl
plain_entry who (command.Accept call (Level level) eff probed) h = rw (ascii_name 1 7 call h.0) refl
plain_entry who (command.Accept call (Direct fix) eff probed) h = rw (ascii_name 1 7 call h.0, ascii_name 2 5 fix h.1) refl
plain_entry who (command.Tentative call (Level level) eff) h = rw (ascii_name 1 7 call h.0) refl
plain_entry who (command.Tentative call (Direct fix) eff) h = rw (ascii_name 1 7 call h.0, ascii_name 2 5 fix h.1) refl
plain_entry who (command.Withdraw call force) h = rw (ascii_name 1 7 call h) refl
plain_entry who (command.Commit call) h = rw (ascii_name 1 7 call h) refl

-- a number of at most so many bits is held
held : (low high : ℕ) (z : ℤ) → low < 2 ^ 63 → high < 2 ^ 64 → IsWithin (neg_ℤ (pos low)) (pos high) z → HoldsWhole (whole z)
held low high (pos n) l h w = grind (arith, ints, w.most)
held low high (negsuc n) l h w = grind (arith, ints, w.least)

held_names : (names : List (List ℕ)) → ItemsHoldWhole (values string names)
held_names [] = tt
held_names (name ∷ names) = (tt, held_names names)

pub held_entry : (who : ℕ) (c : Command) → IsTimed c → IsBoundedCommand c → who < 2 ^ 32 → HoldsWhole (object (entry_members who c))
held_entry who (command.Plan call kind route at from level rvsm) t b w =
    (omega (arith, b.0), (tt, (tt, (omega (arith, b.1), (omega (arith, b.2), (held_names route, (tt, (tt, (omega (arith, w), tt)))))))))
held_entry who (command.External call s) t b w =
    let k = b.kept in (
      tt,
      (
        tt,
        (
          omega (arith, b.begins),
          (
            held 0 1000 s.first.gr (omega arith) (omega arith) k.r.growth,
            (
              held 0 10000 s.first.gw (omega arith) (omega arith) k.w.growth,
              (
                held 0 72000 s.first.r (omega arith) (omega arith) k.r.value,
                (
                  tt,
                  (
                    omega (arith, b.begins, b.short),
                    (
                      held 1000 1000 s.first.vx (omega arith) (omega arith) k.x.growth,
                      (
                        held 1000 1000 s.first.vy (omega arith) (omega arith) k.y.growth,
                        (
                          held 10000 10000 s.first.vz (omega arith) (omega arith) k.z.growth,
                          (
                            held 0 600000 s.first.w (omega arith) (omega arith) k.w.value,
                            (
                              omega (arith, w),
                              (
                                held 3686400 3686400 s.first.x (omega arith) (omega arith) k.x.value,
                                (
                                  held 3686400 3686400 s.first.y (omega arith) (omega arith) k.y.value,
                                  (
                                    held 0 3600000 s.first.z (omega arith) (omega arith) k.z.value,
                                    tt,
                                  ),
                                ),
                              ),
                            ),
                          ),
                        ),
                      ),
                    ),
                  ),
                ),
              ),
            ),
          ),
        ),
      ),
    )
held_entry who (command.Drop call) t b w = (tt, (tt, (omega (arith, w), tt)))
held_entry who (command.Report call report) t b w = (
  omega (arith, b.early),
  (
    tt,
    (
      tt,
      (
        omega (arith, w),
        (
          held 3686400 3686400 report.x (omega arith) (omega arith) b.plane.0,
          (
            held 3686400 3686400 report.y (omega arith) (omega arith) b.plane.1,
            (
              held 0 3600000 report.z (omega arith) (omega arith) b.height,
              tt,
            ),
          ),
        ),
      ),
    ),
  ),
)
held_entry who (command.Tick now) t b w = (tt, (omega (arith, b), (omega (arith, w), tt)))
held_entry who (command.Renew call) t b w = (tt, (tt, (omega (arith, w), tt)))
held_entry who (command.Clear call clearance None) t b w = cc
held_entry who (command.Clear call (Level level) (Some eff)) t b w = (tt, (tt, (omega (arith, b.1), (omega (arith, b.0), (omega (arith, w), tt)))))
held_entry who (command.Clear call (Direct fix) (Some eff)) t b w = (tt, (tt, (tt, (omega (arith, b.1), (omega (arith, w), tt)))))
held_entry who (command.Accept call (Level level) eff probed) t b w =
    (tt, (tt, (omega (arith, b.1), (omega (arith, b.0), (omega (arith, b.2), (omega (arith, w), tt))))))
held_entry who (command.Accept call (Direct fix) eff probed) t b w = (tt, (tt, (tt, (omega (arith, b.1), (omega (arith, b.2), (omega (arith, w), tt))))))
held_entry who (command.Tentative call clearance None) t b w = cc
held_entry who (command.Tentative call (Level level) (Some eff)) t b w = (tt, (tt, (omega (arith, b.1), (omega (arith, b.0), (omega (arith, w), tt)))))
held_entry who (command.Tentative call (Direct fix) (Some eff)) t b w = (tt, (tt, (tt, (omega (arith, b.1), (omega (arith, w), tt)))))
held_entry who (command.Withdraw call force) t b w = (tt, (tt, (tt, (omega (arith, w), tt))))
held_entry who (command.Commit call) t b w = (tt, (tt, (omega (arith, w), tt)))
