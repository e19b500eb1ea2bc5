-- Drawing a ticket, and looking at the ticket being served.
use Rattle.std.proofs.Common.{◌≡◌, ◌≢◌, ℕ, ◌+◌, ◌%◌, ◌^◌, ◌<◌, ◌≤◌, ◌⊎◌, inl, inr, List, [], ◌∷◌, length, get_or, set, sym, refl, ap, ◌∙◌, subst, arith, Option, Some}
use Rattle.std.proofs.Math.Nat.{mod-add-mod}
use mathlib.Core.Option.{some, none}
use native.Mathlib.Decide.{ℕ_discrete}
use lib.ListN.{get_elem?}
use Rattle.atomic_table.specs.Table.{State, Act, keeps, takes, Allows, Valid, stepped, carried_after}
use Rattle.atomic_table.proofs.Lists.{set_here, one_turn}
use Rattle.mt_turn.specs.declared.view.Phase.TheVariants.{Idle, Waits, Holds}
use Rattle.mt_turn.specs.declared.view.View.{View}
use Rattle.mt_turn.specs.Views.{entries_of, with_phase}
use Rattle.mt_turn.specs.Private.Turning.{IsUnspent, HasTicket, HasSlot, tickets, numbers_drawn, Knows, AtHome, IsOut, Turning}
use Rattle.mt_turn.specs.Private.Steps.{Seated, DrawsTicket, Looks}
use Rattle.mt_turn.proofs.Facts.{goes_self, none_later}
use Rattle.mt_turn.proofs.Lists.{inside, same_at, out_set, out_le}
use Rattle.mt_turn.proofs.Phases.{ticket_unspent, served_unspent, ticket_within, served_ticket, after_draw}
use Rattle.mt_turn.proofs.Moves.{moved, slot_stays}

module _ {E F S : Type 0} (history : S → List E) (number : E → ℕ) (fixed : S → F) (plain : F) where
  abbrev Rule : State (Option S) (View E F) → Type 0
  Rule = Turning history number fixed plain

  pub draws : (slots id : ℕ) (m : Seated E F S) → m.0.phase ≡ Idle → Allows Rule slots id m 0 (λ n. (n + 1) % 2 ^ 64) (DrawsTicket m)
  draws slots id m idle s r _ at _ =
      let v = m.0 in
      let un : IsUnspent m.0.phase = subst IsUnspent (sym idle) tt in
      let k = r.each id m.0 at un in
      let none_out : tickets m.0.phase ≡ 0 = ap tickets idle in
      let counted = out_set s.views id m.0 (with_phase m.0 (Waits r.next)) at in
      let total = r.tickets_out in
      let unserved : HasSlot m.0.phase → ⊥ = λ h. subst HasSlot idle h in (
        with_phase m.0 (Waits r.next),
        keeps,
        tt,
        moved history number fixed plain s r id m.0 (with_phase m.0 (Waits r.next)) r.log r.served (r.next + 1) r.numbers (set s.words 0 ((get_or s.words 0 0 + 1) % 2 ^ 64)) s.homes record {
          at = at;
          unspent = un;
          stays = tt;
          mine = record {
            own = k.own;
            begins = k.begins;
            mine = k.mine;
            mine_seen = k.mine_seen;
            same = k.same;
            at = (omega arith, omega arith);
            later = λ l. let o = k.later l in (o.0, o.1, refl);
          };
          goes = goes_self r.log;
          others_entries = λ _ _. refl;
          others_at = λ j u ne e un'. after_draw r.log r.served r.next (length s.views) u.seen u.phase (r.each j u e un').at;
          alone = λ j t u ne e mine theirs. let h = ticket_within r.log r.served r.next (length s.views) u.seen u.phase t theirs (r.each j u e (ticket_unspent u.phase t theirs)).at in let below = h.1 in absurd (omega arith);
          tickets_out = omega arith;
          short = r.short;
          entries = r.entries;
          gave_same = refl;
          joined_same = refl;
          drawn_same = ap (λ p. r.numbers + numbers_drawn p) idle;
          words = subst (λ ws. set ws 0 ((get_or ws 0 0 + 1) % 2 ^ 64) ≡ (r.next + 1) % 2 ^ 64 ∷ r.served % 2 ^ 64 ∷ length r.log ∷ r.numbers ∷ []) (sym r.words)
              (ap (λ n. n ∷ r.served % 2 ^ 64 ∷ length r.log ∷ r.numbers ∷ []) (mod-add-mod r.next (2 ^ 64) 1));
          slot = slot_stays history number fixed plain s r.log id m.0 (with_phase m.0 (Waits r.next)) (set s.words 0 ((get_or s.words 0 0 + 1) % 2 ^ 64)) at unserved (λ h. h) r.slot;
        },
        (r.next, sym (ap (λ ws. get_or ws 0 0) r.words), refl),
      )

  module _ (slots id t : ℕ) (m : Seated E F S) (waits : m.0.phase ≡ Waits t) (s : State (Option S) (View E F)) (r : Rule s) (at : get_elem? s.views id ≡ some m.0) where
    -- what is to be shown of a look
    abbrev Goes : Type 0
    Goes = (w : View E F) × (a : Act (Option S)) × Valid s.homes m.1 a × Rule (stepped s 1 (get_or s.words 1 0) id m.1 w a) × Looks history number fixed m (get_or s.words 1 0) (w, carried_after m.1 a)

    un : IsUnspent m.0.phase
    un = subst IsUnspent (sym waits) tt

    mine : HasTicket m.0.phase t
    mine = subst (λ p. HasTicket p t) (sym waits) refl

    knows : Knows number plain r.log r.served r.next (length s.views) id m.0
    knows = r.each id m.0 at un

    within : (r.served ≤ t) × (t < r.next)
    within = ticket_within r.log r.served r.next (length s.views) m.0.seen m.0.phase t mine knows.at

    unserved : HasSlot m.0.phase → ⊥
    unserved h = subst HasSlot waits h

    one_ticket : (t' : ℕ) → m.0.phase ≡ Waits t' → t ≡ t'
    one_ticket t' e = subst (λ p. HasTicket p t') waits (subst (λ p. HasTicket p t') (sym e) refl)

    the_word : get_or s.words 1 0 ≡ r.served % 2 ^ 64
    the_word = ap (λ ws. get_or ws 1 0) r.words

    same_words : set s.words 1 (get_or s.words 1 0) ≡ r.next % 2 ^ 64 ∷ r.served % 2 ^ 64 ∷ length r.log ∷ r.numbers ∷ []
    same_words = subst (λ ws. set ws 1 (get_or ws 1 0) ≡ r.next % 2 ^ 64 ∷ r.served % 2 ^ 64 ∷ length r.log ∷ r.numbers ∷ []) (sym r.words) refl

    misses : t % 2 ^ 64 ≢ get_or s.words 1 0 → Goes
    misses ne = let counted = out_set s.views id m.0 m.0 at in let total = r.tickets_out in (
      m.0,
      keeps,
      tt,
      moved history number fixed plain s r id m.0 m.0 r.log r.served r.next r.numbers (set s.words 1 (get_or s.words 1 0)) s.homes record {
        at = at;
        unspent = un;
        stays = un;
        mine = knows;
        goes = goes_self r.log;
        others_entries = λ _ _. refl;
        others_at = λ j u _ e un'. (r.each j u e un').at;
        alone = λ j k u other e a b. other (r.apart j id k u m.0 e at b a);
        tickets_out = omega arith;
        short = r.short;
        entries = r.entries;
        gave_same = refl;
        joined_same = refl;
        drawn_same = refl;
        words = same_words;
        slot = slot_stays history number fixed plain s r.log id m.0 m.0 (set s.words 1 (get_or s.words 1 0)) at unserved unserved r.slot;
      },
      λ t' e. ((λ hit. absurd (ne (ap (λ k. k % 2 ^ 64) (one_ticket t' e) ∙ hit))), λ _. refl),
    )

    hits : r.served ≡ t → t % 2 ^ 64 ≡ get_or s.words 1 0 → AtHome history fixed plain r.log s ⊎ IsOut s → Goes
    hits here eq (inr o) = let b = o.by_whom in let kb = r.each b.0 b.1 b.2 (served_unspent b.1.phase b.3) in
        let theirs : HasTicket b.1.phase t = subst (HasTicket b.1.phase) here (served_ticket r.log r.served r.next (length s.views) b.1.seen b.1.phase b.3 kb.at) in
        let one : b.0 ≡ id = r.apart b.0 id t b.1 m.0 b.2 at theirs mine in
        let same : b.1 ≡ m.0 = same_at s.views id b.1 m.0 (subst (λ i. get_elem? s.views i ≡ some b.1) one b.2) at in
        absurd (unserved (subst (λ (z : View E F). HasSlot z.phase) same b.3))
    hits here eq (inl h) =
        let x = h.value in
        let w : View E F = with_phase m.0 (Holds t (history h.value)) in
        let k = knows in
        let counted = out_set s.views id m.0 w at in
        let total = r.tickets_out in
        let one : tickets m.0.phase ≡ 1 = ap tickets waits in
        let inw = within in let inw1 = inw.1 in (
          w,
          takes 0 (Some h.value),
          ap (λ hs. get_elem? hs 0) h.there,
          moved history number fixed plain s r id m.0 w r.log r.served r.next r.numbers (set s.words 1 (get_or s.words 1 0)) (set s.homes 0 none) record {
            at = at;
            unspent = un;
            stays = tt;
            mine = record {
              own = k.own;
              begins = k.begins;
              mine = k.mine;
              mine_seen = k.mine_seen;
              same = k.same;
              at = (sym here, inw1, h.is);
              later = λ l. let o = k.later l in (o.0, o.1, refl);
            };
            goes = goes_self r.log;
            others_entries = λ _ _. refl;
            others_at = λ j u _ e un'. (r.each j u e un').at;
            alone = λ j n u other e a b. other (r.apart j id t u m.0 e at (subst (HasTicket u.phase) (sym a) b) mine);
            tickets_out = omega arith;
            short = r.short;
            entries = r.entries;
            gave_same = refl;
            joined_same = refl;
            drawn_same = ap (λ p. r.numbers + numbers_drawn p) waits;
            words = same_words;
            slot = inr record { empty = ap (λ hs. set hs 0 none) h.there; by_whom = (id, w, set_here s.views id w (inside s.views id m.0 at), tt) };
          },
          λ t' e. (
            (λ _. (
              h.value,
              ap (λ n. (with_phase m.0 (Holds n (history h.value)), (0, Some h.value) ∷ m.1)) (one_ticket t' e),
              record {
                begins = (k.begins.0, h.is ∙ k.begins.1, none_later number m.0.number m.0.seen k.begins.0 (ap (entries_of number m.0.number) (sym k.begins.1) ∙ (k.mine ∙ sym k.mine_seen)));
                mine = ap (entries_of number m.0.number) h.is ∙ k.mine;
                mine_seen = k.mine_seen;
                same = ap Some h.same ∙ sym k.same;
                short = subst (λ l. length l ≤ 2 ^ 32) (sym h.is) r.short;
              },
            )),
            λ other. absurd (other (ap (λ n. n % 2 ^ 64) (sym (one_ticket t' e)) ∙ eq)),
          ),
        )

    hit_or_miss : Dec (t % 2 ^ 64 ≡ get_or s.words 1 0) → Goes
    hit_or_miss (no ne) = misses ne
    hit_or_miss (yes eq) = let inw = within in let low = inw.0 in let high = inw.1 in let total = r.tickets_out in let few = r.few in let all = out_le s.views in
        hits (one_turn r.served t (2 ^ 64) low (omega arith) (sym (eq ∙ the_word))) eq r.slot

  pub looks : (slots id t : ℕ) (m : Seated E F S) → m.0.phase ≡ Waits t → Allows Rule slots id m 1 (λ n. n) (Looks history number fixed m)
  looks slots id t m waits s r _ at _ = hit_or_miss slots id t m waits s r at (ℕ_discrete (t % 2 ^ 64) (get_or s.words 1 0))
