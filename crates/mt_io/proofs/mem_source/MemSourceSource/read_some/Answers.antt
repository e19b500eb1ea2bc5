use Rattle.std.proofs.Common.{rules, ◌≡◌, ◌<◌, ◌≤◌, ℕ, ◌+◌, ◌-◌, min, List, [], ◌++◌, length, take, drop, slice_range, sym, ◌∙◌, ap, arith, length-take, length-drop, length-append, take-append-drop, refl}
use Rattle.std.proofs.lemmas.List.{take_at, drop-drop, drop_all, length-take-le}
use Rattle.mt_io.proofs.Planned.{failed_cause, passed_cause}
use Rattle.mt_io.proofs.mem_source.MemSourceSource.read_some.Goals as goal

-- the bytes from a place on are n of them and the others
split : (xs : List ℕ) (at n : ℕ) → drop at xs ≡ slice_range xs at (at + n) ++ drop (at + n) xs
split xs at n =
    let e : at + n - at ≡ n = omega arith in
    rw (e, ← drop-drop n at xs) (sym (take-append-drop n (drop at xs)))

size : (xs : List ℕ) (at n : ℕ) → at + n ≤ length xs → length (slice_range xs at (at + n)) ≡ n
size xs at n le = simp (length-take, length-drop) (omega arith)

gives : (xs buf got : List ℕ) (at n most : ℕ) → at ≤ length xs → n ≡ min (min (length buf) (length xs - at)) most → 0 < most → got ≡ slice_range xs at (at + n)
    → (drop at xs ≡ take n (got ++ drop n buf) ++ drop (at + n) xs) × (n ≡ 0 → 0 < length (got ++ drop n buf) → drop (at + n) xs ≡ [])
gives xs buf got at n most within count some is =
    let long : length got ≡ n = ap length is ∙ size xs at n (omega arith) in
    let front : take n (got ++ drop n buf) ≡ got = take_at got (drop n buf) n long in
    (rw (front, is) (split xs at n), λ none room. drop_all (at + n) xs (omega (arith, length-drop n buf, length-append got (drop n buf))))

pub returns-clause-bytes : goal.returns-clause-bytes
returns-clause-bytes c =
    let got = rw c.deref.ensures.value at c.copy_from_slice.ensures.after in
    let within : c.args.self.now.at ≤ length c.args.self.now.bytes.items = search rules in
    let count : c.min-count.result ≡ min (min (length c.args.buf.now) (length c.args.self.now.bytes.items - c.args.self.now.at)) c.args.self.now.most = search rules in
    gives c.args.self.now.bytes.items c.args.buf.now _ c.args.self.now.at c.min-count.result c.args.self.now.most within count c.args.self.now.some got

pub returns-then-next_fails-clause-fails : goal.returns-then-next_fails-clause-fails
returns-then-next_fails-clause-fails c = (λ is. c.next_fails.ensures.listed.0 c.if-next_fails.true, λ listed. refl)

pub returns-then-next_fails-clause-counts : goal.returns-then-next_fails-clause-counts
returns-then-next_fails-clause-counts c = rw c.if-next_fails.true at c.next_fails.ensures.counts

pub returns-then-next_fails-clause-cause : goal.returns-then-next_fails-clause-cause
returns-then-next_fails-clause-cause c =
    failed_cause c.args.self.now.calls c.next_fails.new.self _ c.next_fails.ensures.on.later (rw c.if-next_fails.true at c.next_fails.ensures.counts)

pub returns-then-next_fails-clause-kept : goal.returns-then-next_fails-clause-kept
returns-then-next_fails-clause-kept c = record { same_bytes = refl; same_most = refl; calls = c.next_fails.ensures.on; quiet = c.next_fails.ensures.quiet }

pub returns-clause-fails : goal.returns-clause-fails
returns-clause-fails c = (λ is. cc, λ listed. cc (c.next_fails.ensures.listed.1 listed))

pub returns-clause-counts : goal.returns-clause-counts
returns-clause-counts c = rw c.if-next_fails.false at c.next_fails.ensures.counts

pub returns-clause-cause : goal.returns-clause-cause
returns-clause-cause c = passed_cause c.args.self.now.calls c.next_fails.new.self c.min-count.result c.next_fails.ensures.on

pub returns-clause-kept : goal.returns-clause-kept
returns-clause-kept c = record { same_bytes = refl; same_most = refl; calls = c.next_fails.ensures.on; quiet = c.next_fails.ensures.quiet }

pub returns-clause-gives : goal.returns-clause-gives
returns-clause-gives c =
    omega (arith, c.min-count.ensures, c.min.ensures, c.len.ensures, length-drop c.args.self.now.at c.args.self.now.bytes.items, c.args.self.now.bytes.ok.0)

pub returns-clause-bound : goal.returns-clause-bound
returns-clause-bound c =
    let buf = c.args.buf.now in
    let got = c.copy_from_slice.new.self in
    let n = c.min-count.result in
    let few : n ≤ length buf = omega (arith, c.min-count.ensures, c.min.ensures) in
    let long : length got ≡ n = c.copy_from_slice.ensures.len ∙ length-take-le n buf few in
    let room : n ≤ length (got ++ drop n buf) = omega (arith, long, length-append got (drop n buf)) in
    (room, sym (length-take-le n (got ++ drop n buf) room))

pub invariant_of-self-2 : goal.invariant_of-self-2
invariant_of-self-2 c = record {
  within = omega (arith, c.args.self.now.within, c.min-count.ensures, c.min.ensures, c.len.ensures);
  some = c.args.self.now.some;
}

pub slice_bounds-copy_from_slice-count : goal.slice_bounds-copy_from_slice-count
slice_bounds-copy_from_slice-count c = omega arith

pub copy_from_slice-requires : goal.copy_from_slice-requires
copy_from_slice-requires c =
    let few : c.min-count.result ≤ length c.args.buf.now = omega (arith, c.min-count.ensures, c.min.ensures) in
    let within : c.args.self.now.at + c.min-count.result ≤ length c.deref.result.now =
    omega (arith, c.args.self.now.within, c.min-count.ensures, c.min.ensures, c.len.ensures, c.deref.ensures.len) in
    length-take-le c.min-count.result c.args.buf.now few ∙ sym (size c.deref.result.now c.args.self.now.at c.min-count.result within)
