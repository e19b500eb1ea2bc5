-- The members of an entry are read as that entry.
use Rattle.std.proofs.Common.{◌≡◌, ℕ, ℤ, pos, negsuc, ◌+◌, ◌-◌, ◌<◌, ◌^◌, ◌+ℤ◌, ◌*ℤ◌, Bool, true, List, [], ◌∷◌, Some, None, Ok, refl, sym, ap, ap₂, subst, arith}
use Rattle.std.specs.Prelude.{◌&&◌, int_le, is_some, unwrap_or, All}
use Rattle.std.proofs.lemmas.List.Elements.{All-head, All-tail}
use Rattle.serde_json.specs.Data.{string}
use Rattle.serde_json.specs.Find.{as_integer, of_integer}
use Rattle.mt_base.specs.declared.clearance.Clearance.TheVariants.{Level, Direct}
use Rattle.mt_base.specs.declared.command.Command.{Command}
use Rattle.mt_base.specs.declared.command.Command.TheVariants as command
use Rattle.mt_base.specs.declared.flight.Report.{Report}
use Rattle.mt_base.specs.declared.flight.Straight.{Straight}
use Rattle.mt_base.specs.declared.row.Row.{Row}
use Rattle.mt_base.specs.Bounds.{IsBoundedCommand, IsBoundedReport, IsBoundedStretch, IsWithin}
use Rattle.mt_base.specs.Complete.{HasNames, IsTimed}
use Rattle.mt_base.specs.Name.{IsFixName, is_name, name_of}
use Rattle.mt_read.specs.Entry.{held_in}
use Rattle.mt_read.specs.Field.{as_fix, each_of}
use Rattle.mt_read.specs.Words.{change_word_of, entry_word_of}
use Rattle.mt_read.proofs.EntryReading.{HoldCommand, counted, is_held, tested}
use Rattle.mt_write.specs.Entry.{entry_members, values}

-- ---- a number that was written is read as that number

whole_stands : (z : ℤ) → is_some (as_integer (of_integer z)) ≡ true
whole_stands (pos n) = refl
whole_stands (negsuc n) = refl

-- what is read of it
abbrev again : ℤ → ℤ
again z = unwrap_or (as_integer (of_integer z)) (pos 0)

again_is : (z : ℤ) → again z ≡ z
again_is (pos n) = refl
again_is (negsuc n) = refl

again_tested : (low high z : ℤ) → IsWithin low high z → (int_le low (again z) && int_le (again z) high) ≡ true
again_tested low high z w = subst (λ y. (int_le low y && int_le y high) ≡ true) (sym (again_is z)) (tested low high z w)

end_tested : (low high z gain : ℤ) (seconds : ℕ) → IsWithin low high (z +ℤ gain *ℤ pos seconds)
    → (int_le low (again z +ℤ again gain *ℤ pos seconds) && int_le (again z +ℤ again gain *ℤ pos seconds) high) ≡ true
end_tested low high z gain seconds w = rw (again_is z, again_is gain) (tested low high (z +ℤ gain *ℤ pos seconds) w)

-- ---- and a name as that name

named_stands : (low high : ℕ) (text : List ℕ) → is_name low high text ≡ true → is_some (name_of low high text) ≡ true
named_stands low high text h = rw h refl

name_is : (low high : ℕ) (text : List ℕ) → is_name low high text ≡ true → unwrap_or (name_of low high text) [] ≡ text
name_is low high text h = rw h refl

route_is : (route : List (List ℕ)) → All IsFixName route → each_of as_fix (values string route) ≡ Some route
route_is [] each = refl
route_is (name ∷ names) each = rw (All-head IsFixName name names each, route_is names (All-tail IsFixName name names each)) refl

-- ---- each command

call_alone : (command : List ℕ → Command) (call : List ℕ) → is_name 1 7 call ≡ true → command (unwrap_or (name_of 1 7 call) []) ≡ command call
call_alone command call h = ap command (name_is 1 7 call h)

plan_held : (who : ℕ) (call kind : List ℕ) (route : List (List ℕ)) (at from level : ℕ) (rvsm : Bool) → HasNames (command.Plan call kind route at from level rvsm)
    → IsBoundedCommand (command.Plan call kind route at from level rvsm)
    → HoldCommand (entry_members who (command.Plan call kind route at from level rvsm)) who (command.Plan call kind route at from level rvsm)
unfolding entry_word_of change_word_of
plan_held who call kind route at from level rvsm h b = record {
  word = refl;
  keys = refl;
  fields = (named_stands 1 7 call h.0, (named_stands 2 4 kind h.1, (rw (route_is route h.2) refl, (refl, (refl, (refl, (refl, tt)))))));
  bounds = (counted 0 10000000 at (omega arith) b.0, (counted 0 600 from (omega arith) b.1, (counted 0 600 level (omega arith) b.2, tt)));
  asks = rw (h.0, h.1, route_is route h.2) refl;
  actor = refl;
}

row_is : (row : Row) → row.leg ≡ 0
    → record { x = again row.x; y = again row.y; z = again row.z; r = again row.r; w = again row.w; vx = again row.vx; vy = again row.vy; vz = again row.vz; gr = again row.gr; gw = again row.gw; leg = 0 } ≡ row
row_is row leg =
    rw (again_is row.x, again_is row.y, again_is row.z, again_is row.r, again_is row.w, again_is row.vx, again_is row.vy, again_is row.vz, again_is row.gr, again_is row.gw)
    (ap (λ (l : ℕ). record { x = row.x; y = row.y; z = row.z; r = row.r; w = row.w; vx = row.vx; vy = row.vy; vz = row.vz; gr = row.gr; gw = row.gw; leg = l }) (sym leg))

external_held : (who : ℕ) (call : List ℕ) (s : Straight) → is_name 1 7 call ≡ true → IsBoundedStretch s
    → HoldCommand (entry_members who (command.External call s)) who (command.External call s)
unfolding entry_word_of change_word_of
external_held who call s h b =
    let f = s.first in
    let k = b.kept in
    let over = s.to - s.from in
    record {
      word = refl;
      keys = refl;
      fields = (
        named_stands 1 7 call h,
        (
          refl,
          (
            refl,
            (
              whole_stands f.x,
              (
                whole_stands f.y,
                (
                  whole_stands f.z,
                  (
                    whole_stands f.vx,
                    (
                      whole_stands f.vy,
                      (
                        whole_stands f.vz,
                        (
                          whole_stands f.r,
                          (
                            whole_stands f.gr,
                            (
                              whole_stands f.w,
                              (
                                whole_stands f.gw,
                                (
                                  refl,
                                  tt,
                                ),
                              ),
                            ),
                          ),
                        ),
                      ),
                    ),
                  ),
                ),
              ),
            ),
          ),
        ),
      );
      bounds = (
        counted 0 10000000 s.from (omega arith) b.begins,
        (
          counted (s.from + 1) (s.from + 14400) s.to (omega (arith, b.some)) b.short,
          (
            again_tested _ _ f.x k.x.value,
            (
              again_tested _ _ f.y k.y.value,
              (
                again_tested _ _ f.z k.z.value,
                (
                  again_tested _ _ f.vx k.x.growth,
                  (
                    again_tested _ _ f.vy k.y.growth,
                    (
                      again_tested _ _ f.vz k.z.growth,
                      (
                        again_tested _ _ f.r k.r.value,
                        (
                          again_tested _ _ f.gr k.r.growth,
                          (
                            again_tested _ _ f.w k.w.value,
                            (
                              again_tested _ _ f.gw k.w.growth,
                              (
                                end_tested _ _ f.x f.vx over k.x.end,
                                (
                                  end_tested _ _ f.y f.vy over k.y.end,
                                  (
                                    end_tested _ _ f.z f.vz over k.z.end,
                                    (
                                      end_tested _ _ f.r f.gr over k.r.end,
                                      (
                                        end_tested _ _ f.w f.gw over k.w.end,
                                        tt,
                                      ),
                                    ),
                                  ),
                                ),
                              ),
                            ),
                          ),
                        ),
                      ),
                    ),
                  ),
                ),
              ),
            ),
          ),
        ),
      );
      asks = ap₂ (λ (c : List ℕ) (row : Row). command.External c (record { from = s.from; to = s.to; first = row; rvsm = s.rvsm })) (name_is 1 7 call h) (row_is f b.no_leg);
      actor = refl;
    }

report_is : (report : Report) → record { at = report.at; x = again report.x; y = again report.y; z = again report.z } ≡ report
report_is report = rw (again_is report.x, again_is report.y, again_is report.z) refl

report_held : (who : ℕ) (call : List ℕ) (report : Report) → is_name 1 7 call ≡ true → IsBoundedReport report
    → HoldCommand (entry_members who (command.Report call report)) who (command.Report call report)
unfolding entry_word_of change_word_of
report_held who call report h b = record {
  word = refl;
  keys = refl;
  fields = (named_stands 1 7 call h, (refl, (whole_stands report.x, (whole_stands report.y, (whole_stands report.z, tt)))));
  bounds = (
    counted 0 10000000 report.at (omega arith) b.early,
    (again_tested _ _ report.x b.plane.0, (again_tested _ _ report.y b.plane.1, (again_tested _ _ report.z b.height, tt))),
  );
  asks = ap₂ (λ (c : List ℕ) (r : Report). command.Report c r) (name_is 1 7 call h) (report_is report);
  actor = refl;
}

-- each command, complete and within its bounds
held : (who : ℕ) (c : Command) → HasNames c → IsTimed c → IsBoundedCommand c → HoldCommand (entry_members who c) who c
unfolding entry_word_of change_word_of
held who (command.Plan call kind route at from level rvsm) h t b = plan_held who call kind route at from level rvsm h b
held who (command.External call s) h t b = external_held who call s h b
held who (command.Drop call) h t b =
    record { word = refl; keys = refl; fields = (named_stands 1 7 call h, tt); bounds = tt; asks = call_alone command.Drop call h; actor = refl }
held who (command.Report call report) h t b = report_held who call report h b
held who (command.Tick now) h t b =
    record { word = refl; keys = refl; fields = (refl, tt); bounds = (counted 0 10000000 now (omega arith) b, tt); asks = refl; actor = refl }
held who (command.Renew call) h t b =
    record { word = refl; keys = refl; fields = (named_stands 1 7 call h, tt); bounds = tt; asks = call_alone command.Renew call h; actor = refl }
held who (command.Clear call clearance None) h t b = cc
held who (command.Clear call (Level level) (Some eff)) h t b = record {
  word = refl;
  keys = refl;
  fields = (named_stands 1 7 call h.0, (refl, (refl, (refl, tt))));
  bounds = (counted 0 600 level (omega arith) b.0, (counted 0 10000000 eff (omega arith) b.1, tt));
  asks = ap (λ name. command.Clear name (Level level) (Some eff)) (name_is 1 7 call h.0);
  actor = refl;
}
held who (command.Clear call (Direct fix) (Some eff)) h t b = record {
  word = refl;
  keys = refl;
  fields = (named_stands 1 7 call h.0, (refl, (named_stands 2 5 fix h.1, (refl, tt))));
  bounds = (refl, (counted 0 10000000 eff (omega arith) b.1, tt));
  asks = rw (h.0, h.1) refl;
  actor = refl;
}
held who (command.Accept call (Level level) eff probed) h t b = record {
  word = refl;
  keys = refl;
  fields = (named_stands 1 7 call h.0, (refl, (refl, (refl, (refl, tt)))));
  bounds = (counted 0 600 level (omega arith) b.0, (counted 0 10000000 eff (omega arith) b.1, (counted 0 4194304 probed (omega arith) b.2, tt)));
  asks = ap (λ name. command.Accept name (Level level) eff probed) (name_is 1 7 call h.0);
  actor = refl;
}
held who (command.Accept call (Direct fix) eff probed) h t b = record {
  word = refl;
  keys = refl;
  fields = (named_stands 1 7 call h.0, (refl, (named_stands 2 5 fix h.1, (refl, (refl, tt)))));
  bounds = (refl, (counted 0 10000000 eff (omega arith) b.1, (counted 0 4194304 probed (omega arith) b.2, tt)));
  asks = rw (h.0, h.1) refl;
  actor = refl;
}
held who (command.Tentative call clearance None) h t b = cc
held who (command.Tentative call (Level level) (Some eff)) h t b = record {
  word = refl;
  keys = refl;
  fields = (named_stands 1 7 call h.0, (refl, (refl, (refl, tt))));
  bounds = (counted 0 600 level (omega arith) b.0, (counted 0 10000000 eff (omega arith) b.1, tt));
  asks = ap (λ name. command.Tentative name (Level level) (Some eff)) (name_is 1 7 call h.0);
  actor = refl;
}
held who (command.Tentative call (Direct fix) (Some eff)) h t b = record {
  word = refl;
  keys = refl;
  fields = (named_stands 1 7 call h.0, (refl, (named_stands 2 5 fix h.1, (refl, tt))));
  bounds = (refl, (counted 0 10000000 eff (omega arith) b.1, tt));
  asks = rw (h.0, h.1) refl;
  actor = refl;
}
held who (command.Withdraw call force) h t b =
    record { word = refl; keys = refl; fields = (named_stands 1 7 call h, (refl, tt)); bounds = tt; asks = ap (λ name. command.Withdraw name force) (name_is 1 7 call h); actor = refl }
held who (command.Commit call) h t b =
    record { word = refl; keys = refl; fields = (named_stands 1 7 call h, tt); bounds = tt; asks = call_alone command.Commit call h; actor = refl }

pub members_read : (who : ℕ) (c : Command) → HasNames c → IsTimed c → IsBoundedCommand c → who < 2 ^ 32 → held_in (entry_members who c) ≡ Ok (who, c)
members_read who c names timed bounded small = is_held (entry_members who c) who c (held who c names timed bounded) small
