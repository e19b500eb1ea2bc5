use Rattle.std.proofs.Common.{◌≡◌, ℤ, true, IsOk, arith}
use Rattle.std.proofs.lemmas.Int.{ints}
use Rattle.mt_base.specs.declared.rules.Rules.{Rules}
use Rattle.mt_base.specs.Bounds.{AreWithinBounds, IsWithin}
use Rattle.mt_base.specs.Checks.{judged}
use Rattle.mt_base.specs.Rules.{is_within, rule_checks}
use Rattle.mt_base.proofs.CheckLemmas.{all_passed, all_pass}

pub inside : (low high z : ℤ) → is_within low high z ≡ true → IsWithin low high z
inside low high z test = record { least = grind (arith, ints); most = grind (arith, ints) }

tested : (low high z : ℤ) → IsWithin low high z → is_within low high z ≡ true
tested low high z w = grind (arith, ints, w.least, w.most)

pub bounded : (rules : Rules) → IsOk (judged (rule_checks rules) (tt {0})) → AreWithinBounds rules
bounded rules ok =
    let (sh, (sv, (r0, (gh, (rmax, (w0, (gv, (wmax, (tc, (ta, (tv, (flights, (history, (sv2, _)))))))))))))) = all_passed (rule_checks rules) (tt {0}) ok in
    record {
      sh = inside _ _ _ sh;
      sv = inside _ _ _ sv;
      r0 = inside _ _ _ r0;
      gh = inside _ _ _ gh;
      rmax = inside _ _ _ rmax;
      w0 = inside _ _ _ w0;
      gv = inside _ _ _ gv;
      wmax = inside _ _ _ wmax;
      tc = inside _ _ _ tc;
      ta = inside _ _ _ ta;
      tv = inside _ _ _ tv;
      flights = inside _ _ _ flights;
      history = inside _ _ _ history;
      sv2 = inside _ _ _ sv2;
    }

pub every : (rules : Rules) → AreWithinBounds rules → IsOk (judged (rule_checks rules) (tt {0}))
every rules w = all_pass (rule_checks rules) (tt {0}) (
  tested _ _ _ w.sh,
  (
    tested _ _ _ w.sv,
    (
      tested _ _ _ w.r0,
      (
        tested _ _ _ w.gh,
        (
          tested _ _ _ w.rmax,
          (
            tested _ _ _ w.w0,
            (
              tested _ _ _ w.gv,
              (
                tested _ _ _ w.wmax,
                (
                  tested _ _ _ w.tc,
                  (
                    tested _ _ _ w.ta,
                    (
                      tested _ _ _ w.tv,
                      (tested _ _ _ w.flights, (tested _ _ _ w.history, (tested _ _ _ w.sv2, tt))),
                    ),
                  ),
                ),
              ),
            ),
          ),
        ),
      ),
    ),
  ),
)
