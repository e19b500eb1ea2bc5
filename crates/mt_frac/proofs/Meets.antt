-- Where the first so many of several lines are below 0 together, one line more at a time.
use Rattle.std.proofs.Common.{◌≡◌, ℕ, ◌+◌, ◌<◌, ◌≤◌, ℤ, pos, ◌+ℤ◌, ◌*ℤ◌, ◌≤ℤ◌, ◌<ℤ◌, ◌↔◌, List, length, take, All, get_or, arith}
use Rattle.std.proofs.lemmas.List.{get_or-take, length-take, take_all}
use Rattle.std.proofs.lemmas.List.Elements.{All-more, All-take}
use Rattle.mt_ring.proofs.Ring.{lin}
use Rattle.std.specs.Prelude.{slice_index_or}
use Rattle.mt_ring.proofs.Signs.{contrary}
use Rattle.mt_frac.specs.declared.linear.Linear.{Linear}
use Rattle.mt_frac.specs.Meeting.{AreBelow, MeetBelow}
use Rattle.mt_frac.specs.Private.Meeting.{IsCut, Lies}
use Rattle.mt_frac.specs.Polynomials.{line_value}
use Rattle.mt_frac.proofs.Cuts.{between}

-- a fraction lies between m/e and x/y, and the first i lines are below 0 there
abbrev pub FirstAreBelow : List Linear → ℕ → ℤ → ℤ → ℤ → ℤ → ℤ → ℤ → Type 0
FirstAreBelow lines i m e x y n d = Lies m e x y n d × AreBelow (take i lines) n d

all_fewer : {X : Type 0} (P : X → Type 0) (xs : List X) (i : ℕ) → i < length xs → All P (take (i + 1) xs) → All P (take i xs)
all_fewer P xs i below all = λ k d less.
    let short = length-take i xs in
    let long = length-take (i + 1) xs in
    let one : k < i = omega arith in
    let two : k < i + 1 = omega arith in
    rw (get_or-take i xs k d one) (rw (get_or-take (i + 1) xs k d two) at (all k d (omega arith)))

all_last : {X : Type 0} (P : X → Type 0) (xs : List X) (i : ℕ) (d : X) → i < length xs → All P (take (i + 1) xs) → P (get_or xs i d)
all_last P xs i d below all =
    let long = length-take (i + 1) xs in
    let one : i < i + 1 = omega arith in
    rw (get_or-take (i + 1) xs i d one) at (all i d (omega arith))

-- before the first of them
pub none_yet : (lines : List Linear) (m e x y : ℤ) (n d : ℤ) → pos 0 <ℤ d → Lies m e x y n d ↔ FirstAreBelow lines 0 m e x y n d
none_yet lines m e x y n d d+ = ((λ part. (part, λ k d below. absurd (omega arith))), (λ all. all.0))

pub one_more : (lines : List Linear) (i : ℕ) (dflt : Linear) (m e x y l f h g s t u v : ℤ) → i < length lines
    → ((n d : ℤ) → pos 0 <ℤ d → Lies l f h g n d ↔ FirstAreBelow lines i m e x y n d)
    → IsCut (slice_index_or lines i dflt).b (slice_index_or lines i dflt).c l f h g s t u v
    → (n d : ℤ) → pos 0 <ℤ d → Lies s t u v n d ↔ FirstAreBelow lines (i + 1) m e x y n d
one_more lines i dflt m e x y l f h g s t u v below before cut n d d+ = (
  (λ part.
      let at = (cut.exact n d d+).0 part in
      let first = (before n d d+).0 at.0 in
      (first.0, All-more (λ (line : Linear). line_value line.b line.c n d <ℤ pos 0) lines i dflt below first.1 at.1)),
  (λ all. (cut.exact n d d+).1 (
    (before n d d+).1 (all.0, all_fewer (λ (line : Linear). line_value line.b line.c n d <ℤ pos 0) lines i below all.1),
    all_last (λ (line : Linear). line_value line.b line.c n d <ℤ pos 0) lines i dflt below all.1,
  )),
)

-- nothing is left
pub none_meet : (lines : List Linear) (i : ℕ) (dflt : Linear) (lo hi m e x y l f h g : ℤ) → m ≡ lo → e ≡ pos 1 → x ≡ hi → y ≡ pos 1 → i < length lines
    → ((n d : ℤ) → pos 0 <ℤ d → Lies l f h g n d ↔ FirstAreBelow lines i m e x y n d)
    → ((n d : ℤ) → pos 0 <ℤ d → Lies l f h g n d → pos 0 ≤ℤ line_value (slice_index_or lines i dflt).b (slice_index_or lines i dflt).c n d)
    → ¬ MeetBelow lines lo hi
none_meet lines i dflt lo hi m e x y l f h g lo_is e_is hi_is y_is below before none some =
    let P = λ (line : Linear). line_value line.b line.c some.n some.d <ℤ pos 0 in
    let inside : Lies m e x y some.n some.d = lies_whole lo hi m e x y some.n some.d lo_is e_is hi_is y_is some.after some.until in
    let first : AreBelow (take i lines) some.n some.d = first_of lines i some.n some.d below some.below in
    contrary _ (none some.n some.d some.positive ((before some.n some.d some.positive).1 (inside, first))) (some.below i dflt below) where
      lies_whole : (lo hi m e x y n d : ℤ) → m ≡ lo → e ≡ pos 1 → x ≡ hi → y ≡ pos 1 → (lo *ℤ d) <ℤ n → n <ℤ (hi *ℤ d) → Lies m e x y n d
      lies_whole lo hi m e x y n d lo_is e_is hi_is y_is after until = record { after = rw (lo_is, e_is) (omega (arith, lin)); until = rw (hi_is, y_is) (omega (arith, lin)) }

      first_of : (lines : List Linear) (i : ℕ) (n d : ℤ) → i < length lines → AreBelow lines n d → AreBelow (take i lines) n d
      first_of lines i n d below all = All-take (λ (line : Linear). line_value line.b line.c n d <ℤ pos 0) i lines all

-- something is left when all lines were looked at
pub all_meet : (lines : List Linear) (i : ℕ) (lo hi m e x y l f h g : ℤ) → m ≡ lo → e ≡ pos 1 → x ≡ hi → y ≡ pos 1 → pos 0 <ℤ f → pos 0 <ℤ g → length lines ≤ i
    → (l *ℤ g) <ℤ (h *ℤ f) → ((n d : ℤ) → pos 0 <ℤ d → Lies l f h g n d ↔ FirstAreBelow lines i m e x y n d) → MeetBelow lines lo hi
all_meet lines i lo hi m e x y l f h g lo_is e_is hi_is y_is f+ g+ done ordered before =
    let d+ : pos 0 <ℤ (f +ℤ g) = omega (arith, lin) in
    let at = (before (l +ℤ h) (f +ℤ g) d+).0 (between l f h g ordered) in
    record {
      n = l +ℤ h;
      d = f +ℤ g;
      positive = d+;
      after = let a = rw (lo_is, e_is) at at.0.after in omega (arith, lin);
      until = let u = rw (hi_is, y_is) at at.0.until in omega (arith, lin);
      below = rw (take_all i lines done) at at.1;
    }
