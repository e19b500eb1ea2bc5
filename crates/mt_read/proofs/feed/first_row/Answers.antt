use Rattle.mt_read.proofs.ReadingLemmas.{asked, kept_in, ◌▹◌}
use Rattle.mt_read.proofs.feed.first_row.Goals as goal

pub returns : goal.returns
returns c =
    asked (c.whole-x.ensures ▹ c.whole-y.ensures ▹ c.whole-z.ensures ▹ c.whole_or_zero-vx.ensures ▹ c.whole_or_zero-vy.ensures ▹ c.whole_or_zero-vz.ensures ▹ c.whole_or_zero-r.ensures ▹ c.whole_or_zero-gr.ensures ▹ c.whole_or_zero-w.ensures ▹ c.whole_or_zero-gw.ensures) (λ ms e i. record {
      x = kept_in _ _ (record { sfits = c.whole-x.type_inv }) (λ j. (e j).0) i;
      y = kept_in _ _ (record { sfits = c.whole-y.type_inv }) (λ j. (e j).1.0) i;
      z = kept_in _ _ (record { sfits = c.whole-z.type_inv }) (λ j. (e j).1.1.0) i;
      vx = kept_in _ _ (record { sfits = c.whole_or_zero-vx.type_inv }) (λ j. (e j).1.1.1.0) i;
      vy = kept_in _ _ (record { sfits = c.whole_or_zero-vy.type_inv }) (λ j. (e j).1.1.1.1.0) i;
      vz = kept_in _ _ (record { sfits = c.whole_or_zero-vz.type_inv }) (λ j. (e j).1.1.1.1.1.0) i;
      r = kept_in _ _ (record { sfits = c.whole_or_zero-r.type_inv }) (λ j. (e j).1.1.1.1.1.1.0) i;
      gr = kept_in _ _ (record { sfits = c.whole_or_zero-gr.type_inv }) (λ j. (e j).1.1.1.1.1.1.1.0) i;
      w = kept_in _ _ (record { sfits = c.whole_or_zero-w.type_inv }) (λ j. (e j).1.1.1.1.1.1.1.1.0) i;
      gw = kept_in _ _ (record { sfits = c.whole_or_zero-gw.type_inv }) (λ j. (e j).1.1.1.1.1.1.1.1.1) i;
      leg = 0;
    })
