-- Each tentative clearance that stands was entered, and nothing of its callsign has ended it since.
use Rattle.std.proofs.Common.{◌≡◌, ◌≢◌, Bool, true, false, true≢false, not, ℕ, ◌⊎◌, inl, inr, ⊎_elim, List, [], ◌∷◌, ◌++◌, length, map, filter, Option, Some, None, is_some, refl, sym, ◌∙◌, ap, subst, if◌then◌else◌, arith}
use Rattle.std.proofs.lemmas.List.{append-nil, append_assoc, length-append}
use Rattle.std.proofs.lemmas.List.Elements.{All-from_recursion}
use Rattle.std.proofs.lemmas.Slice.Eq.{bytes_eq-Decides}
use Rattle.std.specs.List.{AllByRecursion}
use Rattle.std.specs.Str.{bytes_eq}
use Rattle.mt_base.specs.declared.clearance.Clearance.{Clearance}
use Rattle.mt_base.specs.declared.command.Command.{Command}
use Rattle.mt_base.specs.declared.command.Command.TheVariants.{Drop, Tentative, Withdraw, Commit}
use Rattle.mt_base.specs.declared.command.Entry.{Entry}
use Rattle.mt_base.specs.declared.flight.Mark.{Mark}
use Rattle.mt_base.specs.declared.flight.Path.{Path}
use Rattle.mt_base.specs.declared.flight.Path.TheVariants.{Planned, Outer}
use Rattle.mt_base.specs.declared.flight.Record.{Record}
use Rattle.mt_base.specs.Effect.{bare_path, changed, committed, committed_path, effect, records_after, state_of}
use Rattle.mt_base.specs.History.{IsReplayable}
use Rattle.mt_base.specs.Picture.{flight_of}
use Rattle.mt_base.specs.StrikeOut.{Withdrawn, ended_at, ended_by, handled_by, history_of, marking, withdrawal}
use Rattle.mt_base.specs.Tables.{Setup}
use Rattle.mt_base.specs.WhatIf.{mark_in, mark_on}
use Rattle.mt_base.proofs.HistoryLemmas.{state_of-push}
use Rattle.mt_law.proofs.Flights.{HasMark}
use Rattle.mt_law.proofs.Marks.{mark_kept}
use Rattle.mt_law.proofs.Passing.{passed_by}
use Rattle.mt_law.proofs.Seam.{decided_at}

-- a flight that is taken out is gone
gone : (call : List ℕ) (rs : List Record) → flight_of (filter (λ flight. not (bytes_eq flight.call call)) rs) call ≡ None
gone call [] = refl
gone call (r ∷ rs) = at (bytes_eq r.call call) refl (gone call rs) where
  at : (b : Bool) → bytes_eq r.call call ≡ b → flight_of (filter (λ flight. not (bytes_eq flight.call call)) rs) call ≡ None
      → flight_of (if not b then r ∷ filter (λ flight. not (bytes_eq flight.call call)) rs else filter (λ flight. not (bytes_eq flight.call call)) rs) call ≡ None
  at true e rest = rest
  at false e rest = rw e rest

-- and one whose tentative clearance ended has none
none_left : (call : List ℕ) (f : Path → Path) (rs : List Record) → ((p : Path) → mark_on (f p) ≡ None)
    → mark_in (flight_of (map (changed call f) rs) call) ≡ None
none_left call f [] ends = refl
none_left call f (r ∷ rs) ends = at (bytes_eq r.call call) (none_left call f rs ends) where
  at : (b : Bool) → mark_in (flight_of (map (changed call f) rs) call) ≡ None
      → mark_in (if b then Some (record r { path = if b then f r.path else r.path }) else flight_of (map (changed call f) rs) call) ≡ None
  at true rest = ends r.path
  at false rest = rest

bare_ends : (p : Path) → mark_on (bare_path p) ≡ None
bare_ends (Planned course) = refl
bare_ends (Outer stretch) = refl

committed_ends : (p : Path) → mark_on (committed_path p) ≡ None
committed_ends (Planned course) = by_mark course.mark refl where
  by_mark : (mark : Option Mark) → course.mark ≡ mark → (committed course mark).mark ≡ None
  by_mark None e = e
  by_mark (Some mark) e = refl
committed_ends (Outer stretch) = refl

-- a command that ends the tentative clearance of a flight leaves none
none_after : (setup : Setup) (call : List ℕ) (who : ℕ) (c : Command) (rs : List Record) → ended_by c ≡ Some call
    → mark_in (flight_of (records_after setup who c rs) call) ≡ None
none_after setup call who (Drop own) rs is = let same : own ≡ call = cc in
    subst (λ (name : List ℕ). mark_in (flight_of (filter (λ flight. not (bytes_eq flight.call name)) rs) call) ≡ None) (sym same) (ap mark_in (gone call rs))
none_after setup call who (Withdraw own force) rs is = let same : own ≡ call = cc in
    subst (λ (name : List ℕ). mark_in (flight_of (map (changed name bare_path) rs) call) ≡ None) (sym same) (none_left call bare_path rs bare_ends)
none_after setup call who (Commit own) rs is = let same : own ≡ call = cc in
    subst (λ (name : List ℕ). mark_in (flight_of (map (changed name committed_path) rs) call) ≡ None) (sym same) (none_left call committed_path rs committed_ends)
none_after setup call who c rs is = cc

-- A command that marks that flight.
record Marks (call : List ℕ) (c : Command) : Type 0 where
  pub clearance : Clearance
  pub eff : Option ℕ
  pub is : c ≡ Tentative call clearance eff

abbrev MarksOrKeeps : List ℕ → Command → List Record → Type 0
MarksOrKeeps call c rs = Marks call c ⊎ (HasMark call rs × (ended_by c ≢ Some call))

by_call : (own call : List ℕ) (A : Type 0) → (own ≡ call → A) → (own ≢ call → A) → A
by_call own call A same other = at (bytes_eq own call) refl where
  at : (b : Bool) → bytes_eq own call ≡ b → A
  at true e = same ((bytes_eq-Decides own call).0 e)
  at false e = other (λ is. true≢false (sym ((bytes_eq-Decides own call).1 is) ∙ e))

some_other : (own call : List ℕ) → own ≢ call → (Some own ≢ Some call)
some_other own call apart = λ e. let same : own ≡ call = cc in apart same

none_other : (call : List ℕ) → (None ≢ Some call)
none_other call = λ e. (cc)

module _ (setup : Setup) (call : List ℕ) (who : ℕ) where
  not_ended : (c : Command) (rs : List Record) (A : Type 0) → HasMark call (records_after setup who c rs) → ended_by c ≡ Some call → A
  not_ended c rs A marked is =
      let none : is_some (mark_in (flight_of (records_after setup who c rs) call)) ≡ false = ap is_some (none_after setup call who c rs is) in
      absurd (true≢false (sym marked ∙ none))

  kept : (c : Command) (rs : List Record) → HasMark call (records_after setup who c rs) → ended_by c ≢ Some call → handled_by c ≢ Some call
      → MarksOrKeeps call c rs
  kept c rs marked going_on apart = inr (sym (ap is_some (mark_kept setup call who c rs going_on apart)) ∙ marked, going_on)

  -- where there is a tentative clearance after an entry, that entry made it, or it was there and the entry didn't end it
  made_or_kept : (c : Command) (rs : List Record) → HasMark call (records_after setup who c rs) → MarksOrKeeps call c rs
  made_or_kept (Drop own) rs marked = by_call own call (MarksOrKeeps call (Drop own) rs)
      (λ same. not_ended (Drop own) rs (MarksOrKeeps call (Drop own) rs) marked (ap Some same))
      (λ apart. kept (Drop own) rs marked (some_other own call apart) (none_other call))
  made_or_kept (Tentative own clearance eff) rs marked = by_call own call (MarksOrKeeps call (Tentative own clearance eff) rs)
      (λ same. inl (record { clearance = clearance; eff = eff; is = ap (λ (name : List ℕ). Tentative name clearance eff) same }))
      (λ apart. kept (Tentative own clearance eff) rs marked (none_other call) (some_other own call apart))
  made_or_kept (Withdraw own force) rs marked = by_call own call (MarksOrKeeps call (Withdraw own force) rs)
      (λ same. not_ended (Withdraw own force) rs (MarksOrKeeps call (Withdraw own force) rs) marked (ap Some same))
      (λ apart. kept (Withdraw own force) rs marked (some_other own call apart) (some_other own call apart))
  made_or_kept (Commit own) rs marked = by_call own call (MarksOrKeeps call (Commit own) rs)
      (λ same. not_ended (Commit own) rs (MarksOrKeeps call (Commit own) rs) marked (ap Some same))
      (λ apart. kept (Commit own) rs marked (some_other own call apart) (some_other own call apart))
  made_or_kept c rs marked = kept c rs marked (none_other call) (none_other call)

-- The entry that marked a flight, and what came since.
record IsSince (call : List ℕ) (h : List Entry) : Type 0 where
  pub before : List Entry
  pub owner : ℕ
  pub clearance : Clearance
  pub eff : Option ℕ
  pub between : List Entry
  pub lasts : AllByRecursion (λ e. ended_by e.command ≢ Some call) between
  pub is : h ≡ before ++ marking owner call clearance eff ∷ between

all_push : (P : Entry → Type 0) (es : List Entry) (e : Entry) → AllByRecursion P es → P e → AllByRecursion P (es ++ e ∷ [])
all_push P [] e all p = (p, tt)
all_push P (x ∷ xs) e all p = (all.0, all_push P xs e all.1 p)

module _ (setup : Setup) (call : List ℕ) where
  since_one : (h : List Entry) (e : Entry) → (HasMark call (state_of setup h).records → IsSince call h)
      → HasMark call (effect setup (state_of setup h) e).records → IsSince call (h ++ e ∷ [])
  since_one h e so_far marked = ⊎_elim
      (λ marks. record {
        before = h;
        owner = e.who;
        clearance = marks.clearance;
        eff = marks.eff;
        between = [];
        lasts = tt;
        is = ap (λ (c : Command). h ++ (record { who = e.who; command = c }) ∷ []) marks.is;
      })
      (λ kept. let since = so_far kept.0 in record {
        before = since.before;
        owner = since.owner;
        clearance = since.clearance;
        eff = since.eff;
        between = since.between ++ e ∷ [];
        lasts = all_push (λ f. ended_by f.command ≢ Some call) since.between e since.lasts kept.1;
        is = ap (λ (es : List Entry). es ++ e ∷ []) since.is
            ∙ append_assoc since.before (marking since.owner call since.clearance since.eff ∷ since.between) (e ∷ []);
      })
      (made_or_kept setup call e.who e.command (state_of setup h).records marked)

  since_all : (h rest : List Entry) → (HasMark call (state_of setup h).records → IsSince call h)
      → HasMark call (state_of setup (h ++ rest)).records → IsSince call (h ++ rest)
  since_all h [] so_far marked =
      let here : HasMark call (state_of setup h).records = rw append-nil at marked in
      rw (append-nil h) (so_far here)
  since_all h (e ∷ es) so_far marked =
      let whole : HasMark call (state_of setup ((h ++ e ∷ []) ++ es)).records = rw (append_assoc h (e ∷ []) es) marked in
      let rest = since_all (h ++ e ∷ []) es
      (λ now. let one : HasMark call (effect setup (state_of setup h) e).records = rw (state_of-push setup h e) at now in since_one h e so_far one) whole in
      rw (append_assoc h (e ∷ []) es) at rest

  -- each withdrawal that was entered has its tentative clearance
  pub withdrawn : (h t : List Entry) (who : ℕ) (force : Bool) → IsReplayable setup (h ++ withdrawal who call force ∷ t)
      → (w : Withdrawn) × (history_of w ≡ h ++ withdrawal who call force ∷ t) × (ended_at w ≡ length h)
  withdrawn h t who force replayable = (
    record {
      before = since.before;
      owner = since.owner;
      call = call;
      clearance = since.clearance;
      eff = since.eff;
      between = since.between;
      who = who;
      force = force;
      after = t;
      lasts = All-from_recursion (λ e. ended_by e.command ≢ Some call) since.between since.lasts;
    },
    sym (ap (λ (es : List Entry). es ++ last ∷ t) since.is
        ∙ append_assoc since.before (marking since.owner call since.clearance since.eff ∷ since.between) (last ∷ t)),
    sym (ap length since.is ∙ length-append since.before (marking since.owner call since.clearance since.eff ∷ since.between)
        ∙ omega arith),
  ) where
    last : Entry
    last = withdrawal who call force

    since : IsSince call h
    since = since_all [] h (λ marked. (cc)) (passed_by setup (state_of setup h) who (Withdraw call force) last
        (decided_at setup h last t replayable).0).1.0
