use Rattle.mt_read.specs.declared.request.Request.TheVariants as request
use Rattle.mt_read.proofs.ReadingLemmas.{asked, ◌▹◌}
use Rattle.mt_read.proofs.setup.rule_line.Goals as goal

pub returns : goal.returns
returns c =
    asked (c.rule-sh.ensures ▹ c.rule-sv.ensures ▹ c.rule-r0.ensures ▹ c.rule-gh.ensures ▹ c.rule-rmax.ensures ▹ c.rule-w0.ensures ▹ c.rule-gv.ensures ▹ c.rule-wmax.ensures ▹ c.rule-tc.ensures ▹ c.rule-ta.ensures ▹ c.rule-tv.ensures ▹ c.rule-flights.ensures ▹ c.rule-history.ensures ▹ c.rule-sv2.ensures) (λ ms e i. request.Rule (record {
      sh = (e i).0;
      sv = (e i).1.0;
      r0 = (e i).1.1.0;
      gh = (e i).1.1.1.0;
      rmax = (e i).1.1.1.1.0;
      w0 = (e i).1.1.1.1.1.0;
      gv = (e i).1.1.1.1.1.1.0;
      wmax = (e i).1.1.1.1.1.1.1.0;
      tc = (e i).1.1.1.1.1.1.1.1.0;
      ta = (e i).1.1.1.1.1.1.1.1.1.0;
      tv = (e i).1.1.1.1.1.1.1.1.1.1.0;
      flights = (e i).1.1.1.1.1.1.1.1.1.1.1.0;
      history = (e i).1.1.1.1.1.1.1.1.1.1.1.1.0;
      sv2 = (e i).1.1.1.1.1.1.1.1.1.1.1.1.1;
    }))
